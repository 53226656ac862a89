use Rattle.std.proofs.Common.{ℕ, List, ap, subst, ◌∙◌, ◌↔◌}
use Rattle.std.specs.Prelude.{Contains}
use Rattle.std.proofs.lemmas.List.{take_all}
use Rattle.std.proofs.lemmas.List.Filters.{dedup_is}
use Rattle.oak_node.specs.Seen.{seen_paths}
use Rattle.oak_node.proofs.Paths.{paths_ordered, paths_same}
use Rattle.oak_node.proofs.pending.due_paths.Goals as goal

pub returns-clause-ordered : goal.returns-clause-ordered
returns-clause-ordered c = paths_ordered _ _ c.sort_unstable.ensures.sorted (dedup_is _ _ _ c.dedup.ensures.filtered)

pub returns-clause-noted : goal.returns-clause-noted
returns-clause-noted c = λ path.
    let all = c.loop-note.invariant ∙ ap (λ ns. seen_paths c.args.head.now ns) (take_all c.loop-note.note-index c.args.notes.now c.loop-note-test.false) in
    subst (λ (raw : List (List (List ℕ))). Contains c.dedup.new.self.items path ↔ Contains raw path) all
    (paths_same _ _ _ c.sort_unstable.ensures.permutation (dedup_is _ _ _ c.dedup.ensures.filtered) path)
