-- What is so of a pass's seat between two calls, and the steps of a pass as its seat stands.
use Rattle.std.proofs.Common.{◌+◌, ◌-◌, ◌%◌, ◌^◌, ◌≡◌, ℕ, ◌<◌, List, [], ◌∷◌, length, length-append, slice_index_or, map, Contains, sym, ap, ◌∙◌, subst, arith}
use Rattle.std.specs.declared.option.Option as std
use Rattle.std.specs.declared.option.Option.TheVariants.{Some, None}
use mathlib.Core.Option.{none}
use mathlib.Core.List.{IsPrefix}
use Rattle.atomic_table.specs.Table.{Step, step, rest, Allows}
use Rattle.seat_lock.specs.declared.counted.Counted.{Ghosts}
use Rattle.seat_lock.specs.declared.rule.Round.TheVariants.{Out}
use Rattle.seat_lock.specs.declared.rule.View.{View}
use Rattle.seat_lock.specs.Views.{OwnsPart, OwnsAuthor, InOrder, slots_of}
use Rattle.seat_lock.specs.Rule.{LockMe, Kept, Gets, Returns, Adds, GivesTurn}
use Rattle.seat_lock.proofs.Lists.{prefix_length, contains_retold_too}
use Rattle.seat_lock.proofs.Places.{in_order_raised}
use Rattle.seat_lock.proofs.Steps.{adds}

module _ {T E P F S : Type 0} (law : Ghosts T E P F S) where
  abbrev V : Type 0
  V = View T E P F S

  abbrev M : Type 0
  M = LockMe T E P F S

  -- what a pass keeps of its seat
  pub record Stands (m : M) : Type 0 where
    pub has_weight : 0 < m.0.weight
    pub in_order : InOrder 0 m.0.places (length m.0.seen)
    pub slots_fit : m.1 ≡ slots_of m.0.round

  HasWeight : V → Type 0
  HasWeight v = 0 < v.weight

  -- the slot that was taken last
  pub slot_first : (x : T) (l c : List (ℕ × std.Option T)) → l ≡ (0, Some x) ∷ c → l ≡ (0, Some x) ∷ rest l
  slot_first x l c is = is ∙ ap (λ (k : List (ℕ × std.Option T)). (0, Some x) ∷ rest k) (sym is)

  -- once the value is got, and nothing is left in its slot
  pub stands_loaded : (m m1 m2 : M) (found : ℕ) (x : T) → Stands m → Gets law m found m1 x → m2 ≡ (m1.0, (0, None) ∷ rest m1.1) → Stands m2
  unfolding HasWeight
  stands_loaded m m1 m2 found x old got took =
      let view : m2.0 ≡ m1.0 = ap (λ (y : M). y.0) took in
      let v : V = m.0 in
      let order : InOrder 0 v.places (length (law.journal x)) = in_order_raised 0 v.places (length v.seen) (length (law.journal x)) old.in_order (prefix_length v.seen (law.journal x) got.longer) in
      let whole = view ∙ got.view in
      let slots : m1.1 ≡ (0, Some x) ∷ [] = got.slots ∙ ap (λ (l : List (ℕ × std.Option T)). (0, Some x) ∷ l) (old.slots_fit ∙ ap slots_of got.had_turn) in
      record {
        has_weight = subst HasWeight (sym whole) old.has_weight;
        in_order = subst (λ (w : V). InOrder 0 w.places (length w.seen)) (sym whole) order;
        slots_fit = ap (λ (y : M). y.1) took ∙ ap (λ (l : List (ℕ × std.Option T)). (0, None) ∷ rest l) slots ∙ sym (ap (λ (w : V). slots_of w.round) whole);
      }

  -- once the value is back, counted, and the turn given up
  pub stands_released : (m m1 m2 m3 : M) (st : Step (std.Option T)) (c : List (ℕ × std.Option T)) (found : ℕ) (x : T) → Stands m → m1 ≡ (m.0, c) → Returns law m1 m2 x → GivesTurn st m2 found m3 → Stands m3
  unfolding HasWeight
  stands_released m m1 m2 m3 st c found x old put counted gave =
      let before : m1.0 ≡ m.0 = ap (λ (y : M). y.0) put in
      record {
        has_weight = subst HasWeight (sym gave.view) (subst HasWeight (sym counted.view) (subst HasWeight (sym before) old.has_weight));
        in_order = subst (λ (w : V). InOrder 0 w.places (length w.seen)) (sym gave.view) counted.in_order;
        slots_fit = gave.slots ∙ counted.slots ∙ sym (ap (λ (w : V). slots_of w.round) gave.view);
      }

  -- the pass's authors have the parts that the value has
  pub parts_released : (m m1 m2 m3 : M) (st : Step (std.Option T)) (c : List (ℕ × std.Option T)) (found : ℕ) (x y : T) → m1 ≡ (m.0, (0, Some x) ∷ c) → m1.1 ≡ (0, Some y) ∷ [] → Returns law m1 m2 y → GivesTurn st m2 found m3
      → (a : ℕ) → OwnsAuthor m.0 a → OwnsPart m3.0 a (law.part x a)
  parts_released m m1 m2 m3 st c found x y put slot counted gave a has =
      let slots : (0, Some x) ∷ c ≡ (0, Some y) ∷ [] = sym (ap (λ (z : M). z.1) put) ∙ slot in
      let value : Some x ≡ Some y = ap (λ (l : List (ℕ × std.Option T)). (slice_index_or l 0 (0, Some x)).1) slots in
      let same : x ≡ y = cc in
      let before : m1.0 ≡ m.0 = ap (λ (z : M). z.0) put in
      let parts : m3.0.parts ≡ map (λ z. (z.0, law.part y z.0)) m.0.parts = ap (λ (v : V). v.parts) gave.view ∙ ap (λ (v : V). v.parts) counted.view ∙ ap (λ (v : V). map (λ z. (z.0, law.part y z.0)) v.parts) before in
      subst (λ l. Contains l (a, law.part x a)) (sym parts) (contains_retold_too (law.part y) m.0.parts a has.0 (law.part x a) has.1 (ap (λ z. law.part z a) same))

  -- the new events are counted from the seat as it stands once the value is back in its slot
  pub adds_back : (slots id n before : ℕ) (m m1 : M) (v x : T) → Stands m → m.0.round ≡ Out v → m1 ≡ (m.0, (0, Some x) ∷ rest m.1)
      → IsPrefix (law.journal v) (law.journal x) → law.frame x ≡ law.frame v → ((a : ℕ) → (((q : P) × OwnsPart m.0 a q) → ⊥) → law.part x a ≡ law.part v a)
      → (law.journal x ≡ law.journal v → law.steady x ≡ law.steady v)
      → before ≡ length (law.journal v) → n ≡ length (law.journal x) → n < 2 ^ 64
      → Allows (Kept law) slots id m1 1 (λ k. (k + (n - before)) % 2 ^ 64) (Adds law (step slots 1 (n - before) 0 none) m1)
  adds_back slots id n before m m1 v x old out put longer frame others steady was is fits =
      let none_left : rest m.1 ≡ [] = ap rest (old.slots_fit ∙ ap slots_of out) in
      let there : m1 ≡ (m.0, (0, Some x) ∷ []) = put ∙ ap (λ (l : List (ℕ × std.Option T)). (m.0, (0, Some x) ∷ l)) none_left in
      let grown : length (law.journal v) + length longer.0 ≡ length (law.journal x) = sym (length-append (law.journal v) longer.0) ∙ ap length longer.1 in
      let more : length (law.journal x) ≡ length (law.journal v) + (n - before) = omega arith in
      let few : length (law.journal x) < 2 ^ 64 = omega arith in
      subst (λ (y : M). Allows (Kept law) slots id y 1 (λ k. (k + (n - before)) % 2 ^ 64) (Adds law (step slots 1 (n - before) 0 none) y)) (sym there)
      (adds law slots id (n - before) m.0 v x out longer frame others steady more few)
