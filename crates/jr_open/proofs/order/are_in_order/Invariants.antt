use Rattle.std.proofs.Common.{◌≡◌, None, drop, map}
use Rattle.std.specs.Option.{option_copied}
use Rattle.jr_open.specs.Ordered.{rises_behind}
use Rattle.jr_open.proofs.order.are_in_order.Given as goal

-- what is left decides
abbrev pub invariant-loop-document : goal.invariant-loop-document
invariant-loop-document l =
    rises_behind (option_copied l.last) (map (λ d. d.id) (drop l.document-index l.documents)) ≡ rises_behind None (map (λ d. d.id) l.documents)
