use Rattle.std.proofs.Common.{◌≡◌}
use Rattle.std.proofs.Common.{fold}
use Rattle.std.specs.Map.{keys_of}
use Rattle.oak_sound.specs.Meant.{shown_tree, with_shown}
use Rattle.oak_sound.proofs.whole.shown_tree.Given as goal

-- what those that are left show stays
abbrev pub invariant-loop-id : goal.invariant-loop-id
invariant-loop-id l =
    fold (with_shown l.documents l.pin.sweep l.pin.base) l.tree (keys_of l.id-iterator)
    ≡ shown_tree l.documents l.pin.sweep l.pin.base
