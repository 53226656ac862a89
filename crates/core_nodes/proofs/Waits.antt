-- What a memory keeps above its own entry, and what a revision that has ended awaits.
use Rattle.std.proofs.Common.{◌≡◌, ◌↔◌, ℕ, Bool, true, false, ◌⊎◌, inl, inr, List, map, refl, sym, ap, subst, ◌∙◌}
use Rattle.std.specs.Prelude.{Contains}
use Rattle.jr_rev.specs.declared.revision.Revision.{Revision}
use Rattle.jr_rev.specs.declared.vector.RevVec.{RevVec}
use Rattle.jr_rev.specs.Revisions.{is_at_most, is_before}
use Rattle.jr_rev.specs.Vectors.{sees}
use Rattle.oak_machine.specs.History.{Begin, Past}
use Rattle.oak_machine.specs.Commits.{is_drawn, is_ended, is_in_flight}
use Rattle.oak_machine.specs.Heads.{local}
use Rattle.oak_machine.specs.Runs.{AreNodes, IsNode}
use Rattle.oak_node.specs.declared.drawn.Drawn.{Drawn}
use Rattle.oak_node.specs.declared.memory.Awaits.{Awaits}
use Rattle.oak_node.specs.declared.memory.Awaits.TheVariants.{Ready, Pending}
use Rattle.oak_node.specs.Heads.{HasEnded, IsAwaited, IsInFlight}
use Rattle.oak_node.specs.Memory.{NodeState, own_entry}
use Rattle.core_read.proofs.Latest.{not_before}
use Rattle.core_heads.specs.Sound.{IsSound}
use Rattle.core_heads.proofs.Orders.{and_both, and_true}
use Rattle.core_nodes.specs.Nodes.{IsAboveOf, IsAwaitedAt, IsMemoryOf, as_drawn, revisions_above}
use Rattle.core_nodes.proofs.Lists.{drawn_has, has_drawn}
use Rattle.core_nodes.proofs.Memories.{own_is}
use Rattle.core_nodes.proofs.Pasts.{above_in, in_above, local_before, not_false, not_true}

module _ (begin : Begin) where
  module _ (clusters : ℕ) (sessions : List ℕ) (nodes : AreNodes clusters sessions) (past : Past) (sound : IsSound clusters sessions begin past) (k : ℕ) (node : IsNode clusters k) (s : NodeState) (is : IsMemoryOf begin clusters past k s) where
    kept_above : (r : Revision) (e : Bool) → IsAboveOf begin past k r e → Contains s.above (record { revision = r; ended = e })
    kept_above r e h =
        subst (λ (ds : List Drawn). Contains ds (record { revision = r; ended = e })) (sym is.above)
        (subst (λ (b : Bool). Contains (map (as_drawn past) (revisions_above begin past k)) (record { revision = r; ended = b })) h.ended
        (drawn_has past (revisions_above begin past k) r (in_above begin past k r h.drawn h.node h.above)))

    above_kept : (r : Revision) (e : Bool) → Contains s.above (record { revision = r; ended = e }) → IsAboveOf begin past k r e
    above_kept r e there =
        let p = has_drawn past (revisions_above begin past k) (record { revision = r; ended = e }) (subst (λ (ds : List Drawn). Contains ds (record { revision = r; ended = e })) is.above there) in
        let d = above_in begin past k r p.0 in
        record { node = d.1; drawn = d.0; above = d.2; ended = p.1 }

    -- what a memory keeps above its own entry
    pub above_is : (r : Revision) (e : Bool) → Contains s.above (record { revision = r; ended = e }) ↔ IsAboveOf begin past k r e
    above_is r e = (above_kept r e, kept_above r e)

    flying_kept : (r : Revision) → (r.cluster ≡ k) × (is_in_flight past r ≡ true) → IsInFlight s r
    flying_kept r h =
        let f = and_both (is_drawn past r) _ h.1 in
        kept_above r false (record { node = h.0; drawn = f.0; above = local_before begin clusters sessions nodes past sound k r h.1 h.0; ended = not_true (is_ended past r) f.1 })

    kept_flying : (r : Revision) → IsInFlight s r → (r.cluster ≡ k) × (is_in_flight past r ≡ true)
    kept_flying r there =
        let p = above_kept r false there in
        (p.node, and_true (is_drawn past r) _ p.drawn (not_false (is_ended past r) p.ended))

    -- what is in flight
    pub flying_is : (r : Revision) → IsInFlight s r ↔ ((r.cluster ≡ k) × (is_in_flight past r ≡ true))
    flying_is r = (kept_flying r, flying_kept r)

    -- what has ended by the past has by the memory
    pub has_ended : (r : Revision) → r.cluster ≡ k → is_drawn past r ≡ true → is_ended past r ≡ true → HasEnded s r
    has_ended r same drawn ended = (same ∙ sym is.cluster, by (is_before (local begin past k) r) refl)
      where
        by : (b : Bool) → is_before (local begin past k) r ≡ b → (is_at_most r (own_entry s) ≡ true) ⊎ Contains s.above (record { revision = r; ended = true })
        by true above = inr (kept_above r true (record { node = same; drawn = drawn; above = above; ended = ended }))
        by false low = inl (subst (λ (e : Revision). is_at_most r e ≡ true) (sym (own_is begin clusters sessions nodes past sound k node s is)) (not_before (local begin past k) r low))

    -- what is awaited by the memory is awaited by the past
    awaited : (r : Revision) (answer : Awaits) → IsAwaited s r answer → IsAwaitedAt begin clusters past k r answer
    awaited r Ready h = ap (λ (v : RevVec). sees v r) (sym is.head) ∙ h
    awaited r (Pending q) h =
        let f = kept_flying q h.flying in
        record {
          unseen = ap (λ (v : RevVec). sees v r) (sym is.head) ∙ h.unseen;
          flying = f.1;
          node = f.0;
          earlier = h.earlier;
          earliest = λ o same flies. h.earliest o (flying_kept o (same, flies));
        }

    back : (r : Revision) (answer : Awaits) → IsAwaitedAt begin clusters past k r answer → IsAwaited s r answer
    back r Ready h = ap (λ (v : RevVec). sees v r) is.head ∙ h
    back r (Pending q) h = record {
      unseen = ap (λ (v : RevVec). sees v r) is.head ∙ h.unseen;
      flying = flying_kept q (h.node, h.flying);
      earlier = h.earlier;
      earliest = λ o there. let f = kept_flying o there in h.earliest o f.0 f.1;
    }

    pub awaited_is : (r : Revision) (answer : Awaits) → IsAwaited s r answer ↔ IsAwaitedAt begin clusters past k r answer
    awaited_is r answer = (awaited r answer, back r answer)
