use Rattle.std.proofs.Common.{ℕ, not, List, sym, ap, subst, ◌∙◌, ◌↔◌, rules}
use Rattle.std.specs.Prelude.{Contains}
use Rattle.std.specs.List.Sorted.{IsStrictlySortedBy}
use Rattle.std.proofs.lemmas.Fn.{filter_same}
use Rattle.jr_path.specs.Names.{path_cmp}
use Rattle.jr_rev.specs.Vectors.{sees}
use Rattle.oak_node.specs.declared.pending.Note.{Note}
use Rattle.jr_rev.specs.Revisions.{is_before}
use Rattle.oak_node.specs.Changes.{oldest_own}
use Rattle.oak_node.specs.Fields.{memory_state}
use Rattle.oak_node.specs.Memory.{NodeState}
use Rattle.oak_node.specs.Notes.{IsPending, without_seen}
use Rattle.oak_node.specs.Seen.{seen_paths}
use Rattle.oak_node.proofs.Changes.{dropped_is}
use Rattle.oak_node.proofs.Kept.{drop_memory}
use Rattle.oak_node.proofs.memory.NodeMem.take_pending.Goals as goal

pub returns-clause-pending : goal.returns-clause-pending
returns-clause-pending c =
    let notes : List Note = c.self.inside.notes.items in
    subst (λ (s : NodeState). IsPending s (record { paths = c.of.result; upto = c.own.result })) c.self.view_is (record {
      ordered = subst (λ (ps : List (List (List ℕ))). IsStrictlySortedBy path_cmp ps) (sym c.of.ensures) c.in_ok-paths.ensures.ordered;
      noted = λ path.
          subst (λ (ps : List (List (List ℕ))). Contains ps path ↔ Contains (seen_paths c.self.inside.head notes) path) (sym c.of.ensures)
          (subst (λ (ns : List Note). Contains c.in_ok-paths.paths.items path ↔ Contains (seen_paths c.self.inside.head ns) path) c.deref.ensures.value (c.in_ok-paths.ensures.noted path));
      upto = c.own.ensures;
    })

pub returns-clause-ok : goal.returns-clause-ok
returns-clause-ok c =
    let noted = filter_same _ (λ (note : Note). not (sees c.self.inside.head note.revision)) _ (λ x b f' k. search rules) _ _ c.retain.ensures.filtered in
    let now = filter_same _ (λ (note : Note). is_before c.oldest_own-oldest.result note.revision) _ (λ x b f' k. search rules) _ _ c.retain-2.ensures.filtered in
    dropped_is (memory_state c.self.inside) _ _ c.oldest_own-oldest.result noted (c.oldest_own-oldest.ensures ∙ ap oldest_own (sym c.self.view_is)) now ∙ ap without_seen c.self.view_is

pub invariant_of-self : goal.invariant_of-self
invariant_of-self c =
    let now = filter_same _ (λ (note : Note). is_before c.oldest_own-oldest.result note.revision) _ (λ x b f' k. search rules) _ _ c.retain-2.ensures.filtered in
    drop_memory (memory_state c.self.inside) _ _ c.oldest_own-oldest.result c.self.invariant (c.oldest_own-oldest.ensures ∙ ap oldest_own (sym c.self.view_is)) now
