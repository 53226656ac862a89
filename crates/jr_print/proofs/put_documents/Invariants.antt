use Rattle.std.proofs.Common.{◌≡◌, ◌++◌}
use Rattle.std.specs.List.{flat_map}
use Rattle.jr_print.specs.Documents.{documents_text, line_of_document}
use Rattle.jr_print.proofs.put_documents.Given as goal

-- the lines so far, and behind them those of what is left, come to the lines of all
abbrev pub invariant-loop-document : goal.invariant-loop-document
invariant-loop-document l =
    l.out.items ++ flat_map (λ e. line_of_document e.1) l.document-iterator
    ≡ l.initial.out.items ++ documents_text l.table
