use Rattle.std.proofs.Common.{◌≡◌, drop, map}
use Rattle.std.specs.List.{fold}
use Rattle.std.specs.Map.Iter.{deref_pair}
use Rattle.jcr_restore.specs.Edits.{made_id, made_ids, with_id}
use Rattle.jcr_restore.proofs.restored.Bringing.made_ids.Given as goal

-- what is left leads there
abbrev pub invariant-loop-from : goal.invariant-loop-from
invariant-loop-from l =
    fold (λ ids e. with_id ids (made_id l.self.types.now l.self.tree.now l.self.path.now l.self.frozen.now e)) l.ids (map deref_pair (drop l.from-index l.from-items))
    ≡ made_ids l.self.types.now l.self.tree.now l.self.path.now l.self.frozen.now
