-- Paths noted one behind another.
use Rattle.std.proofs.Common.{◌≡◌, ℕ, ◌+◌, ◌<◌, false, List, [], ◌∷◌, ◌++◌, get_or, length, take, sym, ap, subst, ◌∙◌}
use Rattle.std.proofs.lemmas.List.{append_assoc, append-nil, map_push, take_more}
use Rattle.jr_rev.specs.declared.revision.Revision.{Revision}
use Rattle.oak_node.specs.declared.drawn.Drawn.{Drawn}
use Rattle.oak_node.specs.declared.pending.Note.{Note}
use Rattle.std.proofs.lemmas.List.Elements.{Contains-append_left, Contains-push}
use Rattle.oak_node.specs.Heads.{IsInFlight, next_draw, with_draw}
use Rattle.oak_node.specs.Memory.{NodeState, IsMemory, last_draw, own_entry}
use Rattle.oak_node.specs.Notes.{notes_of, with_note, with_notes}
use Rattle.oak_node.proofs.Changes.{kept_noted}

-- the notes stand behind those before, in both lists, and nothing else changes
pub noted_is : (r : Revision) (s : NodeState) (paths : List (List (List ℕ))) → with_notes r s paths ≡ record s { notes = s.notes ++ notes_of r paths; changed = s.changed ++ notes_of r paths }
noted_is r s [] = (λ i. record s { notes = sym (append-nil s.notes) i; changed = sym (append-nil s.changed) i })
noted_is r s (p ∷ ps) =
    noted_is r (with_note s p r) ps
    ∙ (λ i. record s {
      notes = append_assoc s.notes (record { path = p; revision = r } ∷ []) (notes_of r ps) i;
      changed = append_assoc s.changed (record { path = p; revision = r } ∷ []) (notes_of r ps) i;
    })

-- a draw whose revision the paths are noted with
pub drawn_noting : (s : NodeState) (q : Revision) (paths : List (List (List ℕ))) (notes changed : List Note) (above : List Drawn) → q ≡ next_draw s → notes ≡ s.notes ++ notes_of q paths → changed ≡ s.changed ++ notes_of q paths → above ≡ s.above ++ record { revision = q; ended = false } ∷ []
    → record s { last_time = q.time; above = above; notes = notes; changed = changed } ≡ with_notes (next_draw s) (with_draw s (next_draw s)) paths
drawn_noting s q paths notes changed above next noted more drawn =
    (λ i. record s { last_time = q.time; above = drawn i; notes = noted i; changed = more i })
    ∙ (ap (λ (r : Revision). record s { last_time = r.time; above = s.above ++ record { revision = r; ended = false } ∷ []; notes = s.notes ++ notes_of r paths; changed = s.changed ++ notes_of r paths }) next
    ∙ sym (noted_is (next_draw s) (with_draw s (next_draw s)) paths))

-- what a node drew is in flight, whatever it noted
pub drawn_flies : (s : NodeState) (r : Revision) (paths : List (List (List ℕ))) → IsInFlight (with_notes r (with_draw s r) paths) r
drawn_flies s r paths = subst (λ (x : NodeState). IsInFlight x r) (sym (noted_is r (with_draw s r) paths)) (Contains-push s.above (record { revision = r; ended = false }))

-- and so is what was in flight
pub still_flies : (s : NodeState) (r q : Revision) (paths : List (List (List ℕ))) → IsInFlight s q → IsInFlight (with_notes r (with_draw s r) paths) q
still_flies s r q paths there = subst (λ (x : NodeState). IsInFlight x q) (sym (noted_is r (with_draw s r) paths)) (Contains-append_left s.above (record { revision = r; ended = false } ∷ []) (record { revision = q; ended = false }) there)

-- what a node draws next is what it drew last from then on
pub drawn_last : (s : NodeState) (q : Revision) → q ≡ next_draw s → q ≡ record { time = q.time; counter = 0; cluster = s.cluster }
drawn_last s q next = next ∙ ap {B = Revision} (λ (t : ℕ). record { time = t; counter = 0; cluster = s.cluster }) (sym (ap (λ (r : Revision). r.time) next))

-- what is true of each memory is true whatever paths are noted with its last draw
pub noting_memory : (s : NodeState) (r : Revision) (paths : List (List (List ℕ))) (notes changed : List Note) → IsMemory s → r ≡ last_draw s → changed ≡ s.changed ++ notes_of r paths → IsMemory (record s { notes = notes; changed = changed })
noting_memory s r paths notes changed m last noted = record {
  low = m.low;
  high = m.high;
  own = m.own;
  own_node = m.own_node;
  rising = m.rising;
  flying = m.flying;
  of_node = m.of_node;
  times = m.times;
  owners = m.owners;
  kept = kept_noted (own_entry s) (last_draw s) s.since r s.changed changed paths m.kept last noted;
  stop = m.stop;
}

-- one more path is noted
pub noted_more : (r : Revision) (paths : List (List (List ℕ))) (i : ℕ) (p : List (List ℕ)) (front notes more : List Note) → i < length paths → p ≡ get_or paths i p → notes ≡ front ++ notes_of r (take i paths) → more ≡ notes ++ notes_of r (p ∷ []) → more ≡ front ++ notes_of r (take (i + 1) paths)
noted_more r paths i p front notes more within is before put =
    let taken : take (i + 1) paths ≡ take i paths ++ p ∷ [] = take_more paths i p within ∙ ap (λ (x : List (List ℕ)). take i paths ++ x ∷ []) (sym is) in
    put ∙ (ap (λ (ns : List Note). ns ++ notes_of r (p ∷ [])) before
    ∙ (append_assoc front (notes_of r (take i paths)) (notes_of r (p ∷ []))
    ∙ ap (λ (ns : List Note). front ++ ns) (sym (ap (notes_of r) taken ∙ map_push (λ (path : List (List ℕ)). record { path = path; revision = r }) (take i paths) p))))
