use Rattle.std.proofs.Common.{◌≡◌}
use Rattle.std.specs.List.{list_all}
use Rattle.oak_doc.specs.Updates.{values_of_property}
use Rattle.oak_sound.specs.Sound.{are_behind}
use Rattle.oak_sound.proofs.roots.has_later_values.Given as goal

-- what is left decides
abbrev pub invariant-loop-name : goal.invariant-loop-name
invariant-loop-name l =
    list_all (λ p. are_behind l.documents l.sweep l.document (values_of_property l.document.props p.0) p.1) l.name-iterator
    ≡ list_all (λ p. are_behind l.documents l.sweep l.document (values_of_property l.document.props p.0) p.1) l.props
