use Rattle.std.proofs.Common.{◌≡◌, take}
use Rattle.jcr_view.specs.Needs.{needs_to_rebase}
use Rattle.jcr_view.proofs.needs.needs_to_rebase.Given as goal

-- so far what the writes so far ask for
abbrev pub invariant-loop-write : goal.invariant-loop-write
invariant-loop-write l = l.needs.items ≡ needs_to_rebase (take l.write-index l.writes)
