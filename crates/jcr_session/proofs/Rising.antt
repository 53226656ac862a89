-- What was local to a cluster node when a command began, and what was published then, stays at most what is so later.
use Rattle.std.proofs.Common.{◌≡◌, ℕ, Bool, true, false, inl, inr, List, [], ◌∷◌, ◌++◌, refl, sym, ap, ◌∙◌, subst, arith}
use Rattle.std.specs.Prelude.{◌==◌, ◌||◌, ◌&&◌}
use Rattle.std.specs.List.{list_all, range_with_len}
use Rattle.std.specs.Option.{option_map_or}
use Rattle.jr_rev.specs.declared.revision.Revision.{Revision}
use Rattle.jr_rev.specs.declared.vector.RevVec.{RevVec}
use Rattle.jr_rev.specs.Revisions.{is_at_most}
use Rattle.jr_rev.specs.Vectors.{entry, sees}
use Rattle.jr_rev.proofs.Order.{at_most_itself, at_most_trans}
use Rattle.oak_machine.specs.History.{Begin, Past}
use Rattle.oak_machine.specs.Heads.{local, published}
use Rattle.oak_machine.specs.Laws.{Says, Starts}
use Rattle.oak_machine.specs.Runs.{AreNodes, IsNode, IsRunOf}
use Rattle.oak_machine.specs.Sessions.{since}
use Rattle.core_heads.specs.Sound.{Public}
use Rattle.core_heads.proofs.Later.{published_is}
use Rattle.core_heads.proofs.Learned.{IsAmong, among_range}
use Rattle.core_heads.proofs.Orders.{and_both}
use Rattle.core_heads.proofs.Runs.{earlier_run, later_run, sound_run}
use Rattle.jcr_law.specs.Since.{before_turn}
use Rattle.jcr_law.specs.Tasks.{knows_published}
use Rattle.core_calls.proofs.Unmoved.{parted}

both_true : (a b : Bool) → a ≡ true → b ≡ true → (a && b) ≡ true
both_true a b h k = ap (λ (x : Bool). x && b) h ∙ k

right_true : (a b : Bool) → b ≡ true → (a || b) ≡ true
right_true true b h = refl
right_true false b h = h

module _ (clusters : ℕ) (sessions : List ℕ) (nodes : AreNodes clusters sessions) (begin : Begin) (starts : Starts) (says : Says) where
  local_rises : (added past : Past) → IsRunOf starts says clusters sessions begin (added ++ past) → (k : ℕ) → is_at_most
      (local begin past k) (local begin (added ++ past) k) ≡ true
  local_rises [] past run k = at_most_itself (local begin past k)
  local_rises (e ∷ added) past run k =
      at_most_trans (local begin past k) (local begin (added ++ past) k) (local begin (e ∷ added ++ past) k)
      (local_rises added past run.1 k)
      ((later_run clusters sessions nodes begin starts says e (added ++ past) run).locals k)

  public_rises : (added past : Past) → IsRunOf starts says clusters sessions begin (added ++ past) → (x : Revision) → Public clusters begin
      past x → Public clusters begin (added ++ past) x
  public_rises [] past run x h = h
  public_rises (e ∷ added) past run x h = (later_run clusters sessions nodes begin starts says e (added ++ past) run).public x
      (public_rises added past run.1 x h)

  module _ (past : Past) (run : IsRunOf starts says clusters sessions begin past) (s : ℕ) where
    abbrev before : Past
    before = before_turn past s

    whole : IsRunOf starts says clusters sessions begin (since past s ++ before_turn past s)
    whole = subst (λ (p : Past). IsRunOf starts says clusters sessions begin p) (sym (parted past s)) run

    -- what is local now is at least what was so then
    pub local_before : (k : ℕ) → is_at_most (local begin (before_turn past s) k) (local begin past k) ≡ true
    local_before k = subst (λ (p : Past). is_at_most (local begin (before_turn past s) k) (local begin p k) ≡ true) (parted past s)
        (local_rises (since past s) (before_turn past s) whole k)

    published_of : (m : ℕ) → (published begin before m).cluster ≡ m
    published_of m =
        (published_is clusters sessions nodes begin before
        (sound_run clusters sessions nodes begin starts says before
        (earlier_run clusters sessions nodes begin starts says (since past s) before whole)) m).0

    public_now : (m : ℕ) → IsNode clusters m → Public clusters begin past (published begin before m)
    public_now m node = subst (λ (p : Past). Public clusters begin p (published begin before m)) (parted past s)
        (public_rises (since past s) before whole (published begin before m) (
          subst (λ (j : ℕ). IsNode clusters j) (sym (published_of m)) node,
          subst (λ (j : ℕ). is_at_most (published begin before m) (published begin before j) ≡ true) (sym (published_of m))
              (at_most_itself (published begin before m)),
        ))

    -- what is published now is at least what was so then
    pub published_before : (m : ℕ) → IsNode clusters m → is_at_most (published begin (before_turn past s) m) (published begin past m) ≡ true
    published_before m node = subst (λ (j : ℕ). is_at_most (published begin before m) (published begin past j) ≡ true) (published_of m)
        (public_now m node).1

    -- a vector that sees what was published has an entry for it
    abbrev has : RevVec → ℕ → Bool
    has v m = option_map_or (is_at_most (published begin before m)) (entry v m) false

    sees_has : (v : RevVec) (m : ℕ) → sees v (published begin before m) ≡ true → has v m ≡ true
    sees_has v m seen = subst (λ (j : ℕ). option_map_or (is_at_most (published begin before m)) (entry v j) false ≡ true) (published_of m)
        seen

    has_sees : (v : RevVec) (m : ℕ) → has v m ≡ true → sees v (published begin before m) ≡ true
    has_sees v m there = subst (λ (j : ℕ). option_map_or (is_at_most (published begin before m)) (entry v j) false ≡ true)
        (sym (published_of m)) there

    -- a vector that sees all that is public now has all that was published then
    pub knows_public : (k : ℕ) (v : RevVec) → ((r : Revision) → Public clusters begin past r → sees v r ≡ true) → knows_published clusters
        begin (before_turn past s) k v ≡ true
    knows_public k v all = each (range_with_len 1 clusters)
        (λ m among. let r = among_range 1 clusters m among in let low = r.0 in let high = r.1 in (omega arith, omega arith))
      where
        each : (ms : List ℕ) → ((m : ℕ) → IsAmong m ms → IsNode clusters m) → list_all (λ m. (m == k) || has v m) ms ≡ true
        each [] are = refl
        each (m ∷ ms) are =
            both_true ((m == k) || has v m) (list_all (λ m. (m == k) || has v m) ms)
            (right_true (m == k) (has v m) (sees_has v m (all (published begin before m) (public_now m (are m (inl refl))))))
            (each ms (λ n i. are n (inr i)))

    -- a vector that sees all that another one sees has it, where that one has
    pub knows_more : (k : ℕ) (u v : RevVec) → ((r : Revision) → sees u r ≡ true → sees v r ≡ true) → knows_published clusters begin
        (before_turn past s) k u ≡ true → knows_published clusters begin (before_turn past s) k v ≡ true
    knows_more k u v more knows = each (range_with_len 1 clusters) knows
      where
        one : (m : ℕ) (b : Bool) → (b || has u m) ≡ true → (b || has v m) ≡ true
        one m true h = refl
        one m false h = sees_has v m (more (published begin before m) (has_sees u m h))

        each : (ms : List ℕ) → list_all (λ m. (m == k) || has u m) ms ≡ true → list_all (λ m. (m == k) || has v m) ms ≡ true
        each [] h = refl
        each (m ∷ ms) h =
            let p = and_both ((m == k) || has u m) (list_all (λ m. (m == k) || has u m) ms) h in
            both_true ((m == k) || has v m) (list_all (λ m. (m == k) || has v m) ms) (one m (m == k) p.0) (each ms p.1)
