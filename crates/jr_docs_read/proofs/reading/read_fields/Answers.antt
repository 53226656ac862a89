use Rattle.std.proofs.Common.{sym, ap, ◌∙◌}
use Rattle.jr_docs_read.specs.Reading.{document_kind}
use Rattle.jr_docs_read.proofs.Built.{node_of, prev_of, settings_of}
use Rattle.oak_doc.specs.declared.document.Document.{Document}
use Rattle.jr_docs_read.proofs.reading.read_fields.Goals as goal

pub returns-in-Node-clause-complete : goal.returns-in-Node-clause-complete
returns-in-Node-clause-complete c d h json begun =
    let x = node_of d.id (sym (ap (λ (x : Document). document_kind x.id) begun) ∙ (sym c.document_kind.ensures ∙ c.in-Node.is)) in
    c.read_node.ensures.complete d x.0 h x.1 json begun

pub returns-in-Prev-clause-complete : goal.returns-in-Prev-clause-complete
returns-in-Prev-clause-complete c d h json begun =
    let x = prev_of d.id (sym (ap (λ (x : Document). document_kind x.id) begun) ∙ (sym c.document_kind.ensures ∙ c.in-Prev.is)) in
    c.read_prev.ensures.complete d x.0 x.1 h x.2 json begun

pub returns-in-Settings-clause-complete : goal.returns-in-Settings-clause-complete
returns-in-Settings-clause-complete c d h json begun = c.read_settings.ensures.complete d h (settings_of d.id (sym (ap (λ (x : Document). document_kind x.id) begun) ∙ (sym c.document_kind.ensures ∙ c.in-Settings.is))) json begun
