use Rattle.std.proofs.Common.{◌≡◌, take}
use Rattle.std.specs.List.{fold}
use Rattle.jcr_ref.specs.Histories.{with_version}
use Rattle.jcr_ref.proofs.histories.note_versions.Given as goal

-- the versions so far are in their places
abbrev pub invariant-loop-name : goal.invariant-loop-name
invariant-loop-name l = l.places ≡ fold with_version l.initial.places (take l.name-index l.names)
