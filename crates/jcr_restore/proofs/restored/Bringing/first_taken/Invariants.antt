use Rattle.std.proofs.Common.{◌≡◌}
use Rattle.std.specs.List.{find}
use Rattle.std.specs.Map.{keys_of}
use Rattle.jcr_restore.specs.Edits.{first_taken, is_taken}
use Rattle.jcr_restore.proofs.restored.Bringing.first_taken.Given as goal

-- what is left decides
abbrev pub invariant-loop-at : goal.invariant-loop-at
invariant-loop-at l = find (is_taken l.ids l.self.tree.now l.self.path.now) (keys_of l.at-iterator) ≡ first_taken l.ids l.self.tree.now l.self.path.now
