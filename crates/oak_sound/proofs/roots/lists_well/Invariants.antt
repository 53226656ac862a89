use Rattle.std.proofs.Common.{◌≡◌}
use Rattle.std.proofs.Common.{drop}
use Rattle.std.specs.List.{list_all}
use Rattle.oak_sound.specs.Sound.{is_well_listed}
use Rattle.oak_sound.proofs.roots.lists_well.Given as goal

-- what is left decides
abbrev pub invariant-loop-entry : goal.invariant-loop-entry
invariant-loop-entry l =
    list_all (is_well_listed l.documents l.sweep l.path l.document) (drop l.entry-index l.document.prev)
    ≡ list_all (is_well_listed l.documents l.sweep l.path l.document) l.document.prev
