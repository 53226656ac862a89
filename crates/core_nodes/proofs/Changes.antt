-- What a memory keeps of what changed, from step to step, and what it tells.
use Rattle.std.proofs.Common.{◌≡◌, inl, inr, ℕ, Bool, true, false, cond, not, Option, Some, None, List, [], ◌∷◌, ◌++◌, filter, fold, refl, sym, ap, subst, ◌∙◌, arith}
use Rattle.std.specs.Prelude.{◌==◌, Contains, reverse}
use Rattle.std.specs.Option.{option_map_or}
use Rattle.std.proofs.lemmas.Bool.{both_ways, cases_eq}
use Rattle.std.proofs.lemmas.List.{get_or-map, length-map}
use Rattle.std.proofs.lemmas.List.Elements.{Contains-append_left, Contains-append_right}
use Rattle.jr_rev.specs.declared.revision.Revision.{Revision}
use Rattle.jr_rev.specs.declared.vector.RevVec.{RevVec}
use Rattle.jr_rev.specs.Revisions.{is_at_most, is_before, is_same}
use Rattle.jr_rev.specs.Vectors.{entry, is_below, sees}
use Rattle.jr_rev.proofs.Bounds.{below_seen}
use Rattle.jr_rev.proofs.Order.{same_revision}
use Rattle.oak_clash.specs.Clashes.{marked_paths}
use Rattle.oak_machine.specs.declared.event.Draw.{Draw}
use Rattle.oak_machine.specs.declared.event.Event.{Event}
use Rattle.oak_machine.specs.declared.event.Event.TheVariants as event
use Rattle.oak_machine.specs.Commits.{draw_of, marks_of}
use Rattle.oak_machine.specs.Heads.{flying}
use Rattle.oak_machine.specs.History.{Past}
use Rattle.oak_node.specs.declared.pending.Note.{Note}
use Rattle.oak_node.specs.Changes.{changed_since, known_from, oldest_own}
use Rattle.oak_node.specs.Heads.{finished, flying_in, with_draw}
use Rattle.oak_node.specs.Memory.{NodeState, IsMemory}
use Rattle.oak_node.specs.Notes.{notes_of, with_notes, without_seen}
use Rattle.oak_node.specs.Stops.{with_recovery}
use Rattle.oak_node.proofs.Changes.{since_entry, since_oldest}
use Rattle.oak_node.proofs.Members.{Contains-filter}
use Rattle.oak_node.proofs.Noting.{noted_is}
use Rattle.oak_node.proofs.Rising.{not_before_at_most}
use Rattle.oak_node.proofs.Rules.{entry-with_other}
use Rattle.core_heads.proofs.Orders.{same_itself}
use Rattle.core_nodes.specs.Nodes.{KeepsChanges, TellsSince, after_ends, after_recovery, draws_nothing}
use Rattle.core_nodes.proofs.Pasts.{at_most_before, not_false, not_true}

-- ---- the steps

nothing_marked : (path : List (List ℕ)) → Contains (marked_paths []) path → ⊥
nothing_marked path there = omega (arith, there.1)

pub begun_changes : (k : ℕ) (s : NodeState) → KeepsChanges [] k s
begun_changes k s r path node after there = absurd (nothing_marked path there)

-- a note is among those of the paths
noted_with : (r : Revision) (paths : List (List (List ℕ))) (path : List (List ℕ)) → Contains paths path → Contains (notes_of r paths) (record { path = path; revision = r })
noted_with r paths path there =
    let f : List (List ℕ) → Note = λ p. record { path = p; revision = r } in
    (there.0, omega (arith, there.1, length-map paths f), get_or-map f paths there.0 path (f path) there.1 ∙ ap f there.2)

pub drawn_changes : (past : Past) (d : Draw) (s : NodeState) → KeepsChanges past d.revision.cluster s → KeepsChanges (event.Draw d ∷ past) d.revision.cluster (with_notes d.revision (with_draw s d.revision) (marked_paths d.marks))
drawn_changes past d s keeps r path node after there = subst (λ (ns : List Note). Contains ns note) (sym (ap (λ (x : NodeState). x.changed) noted)) (by (is_same r d.revision) refl there)
  where
    note : Note
    note = record { path = path; revision = r }

    paths : List (List (List ℕ))
    paths = marked_paths d.marks

    noted : with_notes d.revision (with_draw s d.revision) paths ≡ record (with_draw s d.revision) { notes = s.notes ++ notes_of d.revision paths; changed = s.changed ++ notes_of d.revision paths }
    noted = noted_is d.revision (with_draw s d.revision) paths

    later : is_before s.since r ≡ true
    later = ap (λ (x : NodeState). is_before x.since r) (sym noted) ∙ after

    by : (b : Bool) → is_same r d.revision ≡ b → Contains (marked_paths (option_map_or (λ e. e.marks) (cond b (Some d) (draw_of past r)) [])) path → Contains (s.changed ++ notes_of d.revision paths) note
    by true same marked =
        let is : r ≡ d.revision = same_revision r d.revision same in
        Contains-append_right s.changed (notes_of d.revision paths) note (subst (λ (q : Revision). Contains (notes_of d.revision paths) (record { path = path; revision = q })) (sym is) (noted_with d.revision paths path marked))
    by false other marked = Contains-append_left s.changed (notes_of d.revision paths) note (keeps r path node later marked)

pub apart_changes : (past : Past) (e : Event) (k : ℕ) (s : NodeState) → draws_nothing k e ≡ true → KeepsChanges past k s → KeepsChanges (e ∷ past) k s
apart_changes past (event.Draw d) k s other keeps r path node after there = by (is_same r d.revision) refl there
  where
    by : (b : Bool) → is_same r d.revision ≡ b → Contains (marked_paths (option_map_or (λ e. e.marks) (cond b (Some d) (draw_of past r)) [])) path → Contains s.changed (record { path = path; revision = r })
    by true same marked = absurd (both_ways (k == k) (not_true (k == k) (ap (λ j. not (j == k)) (sym node ∙ ap (λ (q : Revision). q.cluster) (same_revision r d.revision same)) ∙ other)) (same_itself k))
    by false is marked = keeps r path node after marked
apart_changes past e k s other keeps r path node after there = keeps r path node after there

pub dropped_changes : (past : Past) (k : ℕ) (s : NodeState) → IsMemory s → KeepsChanges past k s → KeepsChanges past k (without_seen s)
dropped_changes past k s is keeps r path node after there =
    Contains-filter (λ (note : Note). is_before (oldest_own s) note.revision) s.changed (record { path = path; revision = r })
    (keeps r path node (at_most_before s.since (oldest_own s) r (since_oldest s is) after) there) after

draws_after : (rs : List Revision) (past : Past) (q : Revision) → draw_of (after_ends rs past) q ≡ draw_of past q
draws_after [] past q = refl
draws_after (r ∷ rs) past q = draws_after rs (event.End r ∷ past) q

ends_keep : (s : NodeState) (rs : List Revision) → ((fold finished s rs).since ≡ s.since) × ((fold finished s rs).changed ≡ s.changed)
ends_keep s [] = (refl, refl)
ends_keep s (r ∷ rs) = ends_keep (finished s r) rs

pub recovered_past : (past : Past) (m k : ℕ) (s : NodeState) → KeepsChanges past k s → KeepsChanges (after_recovery past m) k s
recovered_past past m k s keeps r path node after there =
    keeps r path node after (subst (λ (o : Option Draw). Contains (marked_paths (option_map_or (λ e. e.marks) o [])) path) (draws_after (reverse (flying past m)) past r) there)

pub recovered_changes : (past : Past) (k : ℕ) (s : NodeState) → KeepsChanges past k s → KeepsChanges (after_recovery past k) k (with_recovery s)
recovered_changes past k s keeps r path node after there =
    let ends = ends_keep s (flying_in s.above) in
    subst (λ (ns : List Note). Contains ns (record { path = path; revision = r })) (sym ends.1)
    (recovered_past past k k s keeps r path node (ap (λ (q : Revision). is_before q r) (sym ends.0) ∙ after) there)

-- ---- what is told

answer_is : (b : Bool) (kept notes : List Note) → cond b (Some kept) None ≡ Some notes → (b ≡ true) × (kept ≡ notes)
answer_is true kept notes h = (refl, same h)
  where
    same : Some kept ≡ Some notes → kept ≡ notes
    same n = cc
answer_is false kept notes h = absurd (none h)
  where
    none : None ≡ Some notes → ⊥
    none n = cc

-- what the memory may tell nothing of is what the vector sees
known_others : (s : NodeState) (r : Revision) → IsMemory s → (r.cluster ≡ s.cluster → ⊥) → sees (known_from s) r ≡ sees s.head r
known_others s r is other =
    let node = is.kept.node in
    let low = is.low in
    ap (λ (o : Option Revision). option_map_or (is_at_most r) o false) (entry-with_other s.head s.since r.cluster (omega (arith, node, low)) (λ same. other (same ∙ node)))

known_own : (s : NodeState) (r : Revision) → IsMemory s → r.cluster ≡ s.cluster → is_before s.since r ≡ false → sees (known_from s) r ≡ true
known_own s r is node early =
    ap (λ (o : Option Revision). option_map_or (is_at_most r) o false) (ap (entry (known_from s)) node ∙ since_entry s is) ∙ not_before_at_most s.since r early

pub tells : (past : Past) (k : ℕ) (s : NodeState) (old new : RevVec) (notes : List Note) → s.cluster ≡ k → IsMemory s → KeepsChanges past k s → changed_since s old ≡ Some notes → is_below new s.head ≡ true → TellsSince past k old new notes
tells past k s old new notes cluster is keeps told below r seen unseen = (own ∙ cluster, λ path there. subst (λ (ns : List Note). Contains ns (record { path = path; revision = r })) answer.1 (among path there))
  where
    answer : (is_below (known_from s) old ≡ true) × (filter (λ (note : Note). not (sees old note.revision)) s.changed ≡ notes)
    answer = answer_is (is_below (known_from s) old) (filter (λ (note : Note). not (sees old note.revision)) s.changed) notes told

    unknown : sees (known_from s) r ≡ true → ⊥
    unknown h = both_ways (sees old r) unseen (below_seen (known_from s) old r answer.0 h)

    own : r.cluster ≡ s.cluster
    own = elim (cases_eq r.cluster s.cluster) [ inl same ↦ same | inr other ↦ absurd (unknown (known_others s r is other ∙ below_seen new s.head r below seen)) ]

    after : is_before s.since r ≡ true
    after = by (is_before s.since r) refl
      where
        by : (b : Bool) → is_before s.since r ≡ b → b ≡ true
        by true h = refl
        by false h = absurd (unknown (known_own s r is own h))

    among : (path : List (List ℕ)) → Contains (marked_paths (marks_of past r)) path → Contains (filter (λ (note : Note). not (sees old note.revision)) s.changed) (record { path = path; revision = r })
    among path there =
        Contains-filter (λ (note : Note). not (sees old note.revision)) s.changed (record { path = path; revision = r }) (keeps r path (own ∙ cluster) after there) (not_false (sees old r) unseen)
