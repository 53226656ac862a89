-- Opened documents have numbers of their own, that rise and are at most the last one.
use Rattle.std.proofs.Common.{◌≡◌, ◌≤◌, ◌<◌, ◌⊎◌, inl, inr, ℕ, ◌+◌, Bool, true, false, cond, not, ◌&&◌, List, [], ◌∷◌, ◌++◌, Option, None, Some, All, refl, sym, ap, ◌∙◌, subst, is_some, arith}
use Rattle.std.specs.Prelude.{◌==◌, ◌^◌, ◌||◌, ⊤, nat_le, nat_lt}
use Rattle.std.specs.List.{list_any}
use Rattle.std.specs.Map.{values_of}
use Rattle.std.proofs.lemmas.Bool.{eq-eqb, false≢true}
use Rattle.std.proofs.lemmas.List.Elements.{All-head, All-tail}
use Rattle.jr_path.specs.declared.path.DocId.{DocId}
use Rattle.jr_rev.specs.declared.vector.Pin.{Pin}
use Rattle.oak_doc.specs.declared.document.Document.{Document}
use Rattle.oak_read.specs.Meaning.{documents_in}
use Rattle.oak_store.specs.Tables.{by_id}
use Rattle.oak_sound.specs.Meant.{ById, greatest_number, opened_pin}
use Rattle.oak_sound.specs.Sound.{first_breaking, keeps_numbers}
use Rattle.oak_open.specs.Opened.{changes_at_opening, number_after, opened_document, opened_from}
use Rattle.oak_open.proofs.Numbered.{all_below, kept_first, sound_rules, values_by_id}
use Rattle.core_read.specs.Told.{IsIn}
use Rattle.core_read.proofs.Entries.{first, second}
use Rattle.core_open.specs.Starting.{AreOpenable, begun_documents}
use Rattle.core_open.proofs.Lookups.{found_among, found_named}

-- no two of some documents have one number
abbrev pub AreApart : List Document → Type 0
AreApart [] = ⊤
AreApart (d ∷ ds) = ((x : Document) → IsIn x ds → x.mod_count ≡ d.mod_count → ⊥) × AreApart ds

none_taken : (before : ById) (n : ℕ) → list_any (λ e. e.1.mod_count == n) before ≡ false
    → (e : DocId × Document) → IsIn e before → n ≡ e.1.mod_count → ⊥
none_taken [] n none e i same = i
none_taken (b ∷ before) n none e i same = by (b.1.mod_count == n) refl none i (λ rest j. none_taken before n rest e j same)
  where
    by : (c : Bool) → (b.1.mod_count == n) ≡ c → (c || list_any (λ e. e.1.mod_count == n) before) ≡ false → (b ≡ e) ⊎ IsIn e before
        → (list_any (λ e. e.1.mod_count == n) before ≡ false → IsIn e before → ⊥) → ⊥
    by true is none j rest = false≢true (sym none)
    by false is none (inl one) rest = false≢true (sym is ∙ eq-eqb b.1.mod_count n (ap (λ (x : DocId × Document). x.1.mod_count) one ∙ sym same))
    by false is none (inr j) rest = rest none j

not_true : (b : Bool) → not b ≡ true → b ≡ false
not_true true h = sym h
not_true false h = refl

behind_all : (before : ById) (e : DocId × Document) (x : DocId × Document) → IsIn x before → IsIn x (before ++ e ∷ [])
behind_all [] e x i = absurd i
behind_all (b ∷ before) e x (inl one) = inl one
behind_all (b ∷ before) e x (inr i) = inr (behind_all before e x i)

last_of : (before : ById) (e : DocId × Document) → IsIn e (before ++ e ∷ [])
last_of [] e = inl refl
last_of (b ∷ before) e = inr (last_of before e)

-- documents that keep the rule of numbers
record IsApartFrom (before ds : ById) : Type 0 where
  others : (x : Document) → IsIn x (values_of ds) → (e : DocId × Document) → IsIn e before → x.mod_count ≡ e.1.mod_count → ⊥
  own : AreApart (values_of ds)

apart_from : (before ds : ById) → first_breaking (λ b e. keeps_numbers b e.1) before ds ≡ None → IsApartFrom before ds
apart_from before [] none = record { others = λ x i. absurd i; own = tt }
apart_from before (d ∷ ds) none =
    let kept = kept_first (λ b e. keeps_numbers b e.1) before d ds (keeps_numbers before d.1) refl none in
    let rest = apart_from (before ++ d ∷ []) ds kept.1 in
    let free : list_any (λ e. e.1.mod_count == d.1.mod_count) before ≡ false =
    not_true _ (second (nat_lt d.1.mod_count (2 ^ 63)) _ (first _ (nat_le d.1.sessions 16777152) kept.0)) in
    record {
      others = λ x i. at x i free rest;
      own = (λ x i same. rest.others x i d (last_of before d) same, rest.own);
    }
  where
    at : (x : Document) → IsIn x (values_of (d ∷ ds)) → list_any (λ e. e.1.mod_count == d.1.mod_count) before ≡ false → IsApartFrom (before ++ d ∷ []) ds
        → (e : DocId × Document) → IsIn e before → x.mod_count ≡ e.1.mod_count → ⊥
    at x (inl one) free rest e j same = none_taken before d.1.mod_count free e j (ap (λ (y : Document). y.mod_count) one ∙ same)
    at x (inr i) free rest e j same = rest.others x i e (behind_all before d e j) same

module _ (ds : ById) (pin : Pin) (sessions : ℕ) where
  step : (n : ℕ) (b : Bool) → n ≤ cond b (n + 1) n
  step n true = omega arith
  step n false = omega arith

  below : (k m n : ℕ) → k ≤ m → m < n → k < n
  below k m n a b = omega arith

  lower : (k m n : ℕ) → k ≤ m → m ≤ n → k ≤ n
  lower k m n a b = omega arith

  -- the number of an opened document is drawn since, or its own
  origin : (n : ℕ) (all : List Document) (x : Document) → IsIn x (opened_from ds pin sessions n all).0
      → (n < x.mod_count) ⊎ ((d : Document) × IsIn d all × (x.mod_count ≡ d.mod_count))
  origin n [] x i = absurd i
  origin n (d ∷ rest) x (inl one) = by (changes_at_opening ds pin d) (ap (λ (y : Document). y.mod_count) (sym one))
    where
      by : (b : Bool) → x.mod_count ≡ cond b (n + 1) d.mod_count → (n < x.mod_count) ⊎ ((e : Document) × IsIn e (d ∷ rest) × (x.mod_count ≡ e.mod_count))
      by true is = inl (omega arith)
      by false is = inr (d, inl refl, is)
  origin n (d ∷ rest) x (inr i) = elim (origin (number_after ds pin n d) rest x i) [
    | inl h ↦ inl (below n (number_after ds pin n d) x.mod_count (step n (changes_at_opening ds pin d)) h)
    | inr h ↦ inr (h.0, inr h.1, h.2)
  ]

  opened_apart : (n : ℕ) (all : List Document) → ((d : Document) → IsIn d all → d.mod_count ≤ n) → AreApart all
      → AreApart (opened_from ds pin sessions n all).0
  opened_apart n [] low apart = tt
  opened_apart n (d ∷ rest) low apart = (
    λ x i same. by (changes_at_opening ds pin d) x same (origin (number_after ds pin n d) rest x i),
    opened_apart (number_after ds pin n d) rest
        (λ e i. lower e.mod_count n (number_after ds pin n d) (low e (inr i)) (step n (changes_at_opening ds pin d))) apart.1,
  )
    where
      by : (b : Bool) (x : Document) → x.mod_count ≡ cond b (n + 1) d.mod_count
          → (cond b (n + 1) n < x.mod_count) ⊎ ((e : Document) × IsIn e rest × (x.mod_count ≡ e.mod_count)) → ⊥
      by true x same (inl h) = omega (arith, same, h)
      by true x same (inr h) = let up : h.0.mod_count ≤ n = low h.0 (inr h.1) in let e : x.mod_count ≡ h.0.mod_count = h.2 in omega arith
      by false x same (inl h) = let up : d.mod_count ≤ n = low d (inl refl) in omega (arith, same, h)
      by false x same (inr h) = apart.0 h.0 h.1 (sym h.2 ∙ same)

-- what all have, one of them has
pub one_of : {X : Type 0} (P : X → Type 0) (xs : List X) (x : X) → All P xs → IsIn x xs → P x
one_of P [] x all i = absurd i
one_of P (y ∷ xs) x all (inl one) = subst P one (All-head P y xs all)
one_of P (y ∷ xs) x all (inr i) = one_of P xs x (All-tail P y xs all) i

one_number : (all : List Document) → AreApart all → (d e : Document) → IsIn d all → IsIn e all → d.mod_count ≡ e.mod_count → d ≡ e
one_number [] apart d e i j same = absurd i
one_number (x ∷ all) apart d e (inl a) (inl b) same = sym a ∙ b
one_number (x ∷ all) apart d e (inl a) (inr j) same = absurd (apart.0 e j (sym same ∙ ap (λ (y : Document). y.mod_count) (sym a)))
one_number (x ∷ all) apart d e (inr i) (inl b) same = absurd (apart.0 d i (same ∙ ap (λ (y : Document). y.mod_count) (sym b)))
one_number (x ∷ all) apart d e (inr i) (inr j) same = one_number all apart.1 d e i j same

-- of one number there is one document
pub one_id : (clusters sessions : ℕ) (items : List Document) → AreOpenable clusters items → (i j : DocId) (d e : Document)
    → begun_documents clusters sessions items i ≡ Some d → begun_documents clusters sessions items j ≡ Some e → d.mod_count ≡ e.mod_count → i ≡ j
one_id clusters sessions items openable i j d e h k same =
    sym (found_named made i d h) ∙ ap (λ (x : Document). x.id) (one_number made apart d e (found_among made i d h) (found_among made j e k) same) ∙ found_named made j e k
  where
    pin : Pin
    pin = opened_pin clusters (by_id items)

    made : List Document
    made = (opened_from (by_id items) pin sessions (greatest_number (by_id items)) (values_of (by_id items))).0

    apart : AreApart made
    apart = opened_apart (by_id items) pin sessions (greatest_number (by_id items)) (values_of (by_id items))
        (λ x within. one_of (λ y. y.mod_count ≤ greatest_number (by_id items)) (values_of (by_id items)) x (all_below 0 (by_id items)) within)
        (apart_from [] (by_id items) (sound_rules clusters (by_id items) openable.sound).numbers).own
