-- What the memory learns of a sweep raises one entry of its sweep vector.
use Rattle.std.proofs.Common.{◌≡◌, ℕ, zero, suc, ◌-◌, Bool, true, false, cond, [], ◌∷◌, Option, Some, None, length, refl, sym, ap, ◌∙◌, arith}
use Rattle.std.specs.Prelude.{◌||◌, ◌==◌, nat_le, not, slice_get, slice_set}
use Rattle.std.specs.Option.{option_flatten, option_map_or}
use Rattle.std.specs.List.{AllByRecursion}
use Rattle.std.specs.Ordering.{is_le, ordering_reverse}
use Rattle.std.proofs.lemmas.Bool.{false≢true}
use Rattle.std.specs.declared.cmp.Ordering.{Ordering}
use Rattle.std.specs.declared.cmp.Ordering.TheVariants.{Less, Equal, Greater}
use Rattle.jr_rev.specs.declared.revision.Revision.{Revision}
use Rattle.jr_rev.specs.Revisions.{is_at_most, revision_cmp}
use Rattle.jr_rev.specs.Vectors.{Entries, greater_entry, greatest, no_entries, sees, with_entry}
use Rattle.jr_rev.proofs.Order.{not_at_most, revision_exact, revision_total}
use Rattle.oak_sweep.specs.Ending.{TeachesOne}

abbrev IsNone : Option Revision → Type 0
IsNone e = e ≡ None

greater_none : (e : Option Revision) → greater_entry e None ≡ e
greater_none None = refl
greater_none (Some r) = refl

greatest_none : (v w : Entries) → length v ≡ length w → AllByRecursion IsNone w → greatest v w ≡ v
greatest_none [] [] same none = refl
greatest_none [] (f ∷ w) same none = absurd (omega (arith, same))
greatest_none (e ∷ v) [] same none = refl
greatest_none (e ∷ v) (f ∷ w) same none =
    ap (λ (g : Option Revision). greater_entry e g ∷ greatest v w) none.0
    ∙ (ap (λ (g : Option Revision). g ∷ greatest v w) (greater_none e) ∙ ap (λ (u : Entries). e ∷ u) (greatest_none v w (omega (arith, same)) none.1))

-- an entry that sees r stays, else it becomes r
abbrev raised_entry : Revision → Option Revision → Option Revision
raised_entry r e = cond (option_map_or (is_at_most r) e false) e (Some r)

same_revision : (a b : Revision) → is_at_most a b ≡ true → is_at_most b a ≡ true → a ≡ b
same_revision a b h k = by (revision_cmp a b) refl h (sym (ap is_le (revision_total.antisymm b a)) ∙ k)
  where
    by : (o : Ordering) → revision_cmp a b ≡ o → is_le o ≡ true → is_le (ordering_reverse (revision_cmp a b)) ≡ true → a ≡ b
    by Less is h k = absurd (false≢true (sym (ap (λ o. is_le (ordering_reverse o)) is) ∙ k))
    by Equal is h k = revision_exact a b is
    by Greater is h k = absurd (false≢true h)

greater_is_raised : (e : Option Revision) (r : Revision) → greater_entry e (Some r) ≡ raised_entry r e
greater_is_raised None r = refl
greater_is_raised (Some e) r = by (is_at_most e r) (is_at_most r e) refl refl
  where
    by : (a b : Bool) → is_at_most e r ≡ a → is_at_most r e ≡ b → ◌≡◌ {A = Option Revision} (Some (cond a r e)) (cond b (Some e) (Some r))
    by true true is_a is_b = ap Some (sym (same_revision e r is_a is_b))
    by true false is_a is_b = refl
    by false true is_a is_b = refl
    by false false is_a is_b = absurd (false≢true (sym is_b ∙ not_at_most e r is_a))

abbrev is_seen : Revision → Option Revision → Bool
is_seen r e = option_map_or (is_at_most r) e false

set_raised : (v w : Entries) (i : ℕ) (r : Revision) → length v ≡ length w → AllByRecursion IsNone w
    → greatest v (slice_set w i (Some r)) ≡ cond (is_seen r (option_flatten (slice_get v i))) v (slice_set v i (Some r))
set_raised [] [] i r same none = refl
set_raised [] (f ∷ w) i r same none = absurd (omega (arith, same))
set_raised (e ∷ v) [] i r same none = absurd (omega (arith, same))
set_raised (e ∷ v) (f ∷ w) zero r same none =
    ap (λ (g : Option Revision). g ∷ greatest v w) (greater_is_raised e r)
    ∙ (ap (λ (u : Entries). raised_entry r e ∷ u) (greatest_none v w (omega (arith, same)) none.1) ∙ by (is_seen r e))
  where
    by : (b : Bool) → cond b e (Some r) ∷ v ≡ cond b (e ∷ v) (Some r ∷ v)
    by true = refl
    by false = refl
set_raised (e ∷ v) (f ∷ w) (suc i) r same none =
    ap (λ (g : Option Revision). greater_entry e g ∷ greatest v (slice_set w i (Some r))) none.0
    ∙ (ap (λ (g : Option Revision). g ∷ greatest v (slice_set w i (Some r))) (greater_none e)
    ∙ (ap (λ (u : Entries). e ∷ u) (set_raised v w i r (omega (arith, same)) none.1) ∙ by (is_seen r (option_flatten (slice_get v i)))))
  where
    by : (b : Bool) → e ∷ cond b v (slice_set v i (Some r)) ≡ cond b (e ∷ v) (e ∷ slice_set v i (Some r))
    by true = refl
    by false = refl

none_seen : (w : Entries) (i : ℕ) → AllByRecursion IsNone w → option_flatten (slice_get w i) ≡ None
none_seen [] i none = refl
none_seen (f ∷ w) zero none = none.0
none_seen (f ∷ w) (suc i) none = none_seen w i none.1

all_none : AllByRecursion IsNone no_entries
all_none = (refl, (refl, (refl, (refl, (refl, (refl, (refl, (refl, tt))))))))

-- an entry that is missing in v, or below r, becomes r
abbrev raised_by : Bool → Bool → Bool → Entries → Revision → Entries
raised_by a b c v r = cond (a || b || c) v (with_entry v r)

pub teaches_one : TeachesOne
teaches_one v r is = by (r.cluster == 0) (not (nat_le r.cluster 8)) refl
  where
    stays : greatest v no_entries ≡ v
    stays = greatest_none v no_entries is.eight all_none

    in_range : (r.cluster == 0) ≡ false → greatest v (raised_by false false (sees no_entries r) no_entries r) ≡ raised_by false false (sees v r) v r
    in_range low =
        ap (λ o. greatest v (cond (is_seen r o) no_entries (with_entry no_entries r))) (ap (λ b. cond b None (option_flatten (slice_get no_entries (r.cluster - 1)))) low ∙ none_seen no_entries (r.cluster - 1) all_none)
        ∙ (set_raised v no_entries (r.cluster - 1) r is.eight all_none
        ∙ sym (ap (λ b. cond (is_seen r (cond b None (option_flatten (slice_get v (r.cluster - 1))))) v (with_entry v r)) low))

    by : (a b : Bool) → (r.cluster == 0) ≡ a → greatest v (raised_by a b (sees no_entries r) no_entries r) ≡ raised_by a b (sees v r) v r
    by true b low = stays
    by false true low = stays
    by false false low = in_range low
