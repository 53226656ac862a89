-- The places of the journal that are kept for the sessions.
use Rattle.std.proofs.Common.{◌≡◌, ℕ, ◌+◌, ◌<◌, ◌≤◌, Bool, true, false, List, length, Some, refl, sym, ap, subst, ◌∙◌, arith}
use Rattle.std.proofs.Math.ListN.{get_or}
use Rattle.std.proofs.lemmas.List.{get_or-set_same, get_or-set_other, length-set}
use Rattle.std.proofs.lemmas.List.Sums.{sum_by-set}
use Rattle.std.proofs.lemmas.Option.{get_or_from_slice_get, slice_get-get_or, slice_get_within}
use Rattle.std.specs.Prelude.{◌==◌, slice_get, slice_set}
use Rattle.core_world.proofs.Flights.{other_number, same_number}
use Rattle.oak_world.specs.declared.actor.Actor.{Actor}
use Rattle.oak_world.specs.Kept.{ArePlaced, IsPlaced}
use Rattle.oak_world.proofs.Starting.{idle_actor}

-- a session's places are among those that are kept
pub own_places : (actors : List Actor) (places s : ℕ) (d : Actor) → s < length actors → ArePlaced actors places → (get_or actors s d).places ≤ places
own_places actors places s d within are = let e = sum_by-set (λ a. a.places) actors s idle_actor d within in let all = are.all in omega (arith, e, all)

pub seat_placed : (actors : List Actor) (places s : ℕ) (d : Actor) → s < length actors → ArePlaced actors places → IsPlaced (get_or actors s d)
seat_placed actors places s d within are = are.each s (get_or actors s d) (slice_get-get_or actors s d within)

-- a session keeps more places, or fewer, and the journal with it
pub placed_set : (actors : List Actor) (places more s : ℕ) (a d : Actor) → s < length actors → ArePlaced actors places → IsPlaced a → more + (get_or actors s d).places ≡ places + a.places → ArePlaced (slice_set actors s a) more
placed_set actors places more s a d within are placed same = record {
  all = let e = sum_by-set (λ b. b.places) actors s a d within in let all = are.all in omega (arith, e, all, same);
  each = λ q b h. by q b (q == s) refl h;
}
  where
    set_here : (b : Actor) → slice_get (slice_set actors s a) s ≡ Some b → b ≡ a
    set_here b h = sym (get_or_from_slice_get (slice_set actors s a) s b d h) ∙ get_or-set_same actors s a d within

    set_other : (q : ℕ) (b : Actor) → (q ≡ s → ⊥) → slice_get (slice_set actors s a) q ≡ Some b → slice_get actors q ≡ Some b
    set_other q b apart h =
        let k : q < length (slice_set actors s a) = slice_get_within (slice_set actors s a) q b h in
        let l = length-set actors s a in
        let m : q < length actors = subst (λ n. q < n) l k in
        slice_get-get_or actors q b m ∙ ap Some (sym (get_or-set_other actors s q a b apart) ∙ get_or_from_slice_get (slice_set actors s a) q b b h)

    by : (q : ℕ) (b : Actor) (t : Bool) → (q == s) ≡ t → slice_get (slice_set actors s a) q ≡ Some b → IsPlaced b
    by q b true e h = subst IsPlaced (sym (set_here b (subst (λ n. slice_get (slice_set actors s a) n ≡ Some b) (same_number q s e) h))) placed
    by q b false e h = are.each q b (set_other q b (other_number q s e) h)
