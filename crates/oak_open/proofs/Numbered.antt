-- The numbers of opened documents, and their ids.
use Rattle.std.proofs.Common.{◌≡◌, ℕ, ◌+◌, ◌≤◌, ◌<◌, ◌^◌, Bool, true, false, cond, List, [], ◌∷◌}
use Rattle.std.proofs.Common.{◌++◌, Option, None, Some, All, length, map, fold, refl, sym, ap}
use Rattle.std.proofs.Common.{subst, ◌∙◌, arith}
use Rattle.std.specs.Prelude.{◌&&◌, ◌==◌, not, max, nat_le, nat_lt, is_some}
use Rattle.std.specs.List.{list_all, list_any}
use Rattle.std.specs.List.Sorted.{IsStrictlySortedBy}
use Rattle.std.specs.Map.{keys_of, values_of}
use Rattle.std.specs.Option.{option_map, option_or}
use Rattle.std.proofs.lemmas.Bool.{true≢false}
use Rattle.std.proofs.lemmas.Bool.Decides.{nat_tests}
use Rattle.std.proofs.lemmas.List.Elements.{All-cons, All-head, All-nil, All-tail, All-weaker}
use Rattle.jr_path.specs.Ids.{id_cmp}
use Rattle.jr_path.specs.declared.path.DocId.{DocId}
use Rattle.jr_rev.specs.declared.vector.Pin.{Pin}
use Rattle.oak_doc.specs.declared.document.Document.{Document}
use Rattle.oak_store.specs.Tables.{AreStored, by_id}
use Rattle.oak_sound.specs.Meant.{ById, greatest_number, opened_tree, swept}
use Rattle.oak_sound.specs.Sound.{AreSoundDocuments, DocumentRule, first_breaking, keeps_numbers, keeps_revisions, keeps_roots, keeps_tree}
use Rattle.oak_open.specs.Opened.{changes_at_opening, number_after, opened_document, opened_from}

none_some : {X : Type 0} (x : X) → Some x ≡ None → ⊥
none_some x is = true≢false (ap is_some is)

-- where the first of two choices is none, so is neither
neither : {X : Type 0} (o p : Option X) → option_or o p ≡ None → (o ≡ None) × (p ≡ None)
neither None p is = (refl, is)
neither (Some x) p is = absurd (none_some x is)

unmapped : {X Y : Type 0} (f : X → Y) (o : Option X) → option_map f o ≡ None → o ≡ None
unmapped f None is = refl
unmapped f (Some x) is = absurd (none_some (f x) is)

-- sound documents keep each rule: the second, that of numbers, that of commit roots and that of the tree
pub record KeepRules (clusters : ℕ) (ds : ById) : Type 0 where
  pub revisions : first_breaking (λ before e. keeps_revisions clusters e.1) [] ds ≡ None
  pub numbers : first_breaking (λ before e. keeps_numbers before e.1) [] ds ≡ None
  pub roots : first_breaking (λ before e. keeps_roots ds (swept ds) e.0 e.1) [] ds ≡ None
  pub tree : first_breaking (λ before e. keeps_tree ds (swept ds) (opened_tree clusters ds) e.0 e.1) [] ds ≡ None

pub sound_rules : (clusters : ℕ) (ds : ById) → AreSoundDocuments clusters ds → KeepRules clusters ds
sound_rules clusters ds sound =
    let first = neither _ _ sound in
    let second = neither _ _ first.1 in
    let third = neither _ _ second.1 in
    let fourth = neither _ _ third.1 in
    let fifth = neither _ _ fourth.1 in
    record {
      revisions = unmapped (λ i. (2, i)) _ second.0;
      numbers = unmapped (λ i. (3, i)) _ third.0;
      roots = unmapped (λ i. (4, i)) _ fourth.0;
      tree = unmapped (λ i. (5, i)) _ fifth.0;
    }

-- sound documents keep the rule of numbers
pub sound_numbers : (clusters : ℕ) (ds : ById) → AreSoundDocuments clusters ds
    → first_breaking (λ before e. keeps_numbers before e.1) [] ds ≡ None
sound_numbers clusters ds sound = (sound_rules clusters ds sound).numbers

both : (a b : Bool) → (a && b) ≡ true → (a ≡ true) × (b ≡ true)
both true b is = (refl, is)
both false b is = absurd (true≢false (sym is))

-- each document keeps a rule that none breaks
pub kept_first : (rule : DocumentRule) (before : ById) (e : DocId × Document) (es : ById) (b : Bool) → rule before e ≡ b
    → first_breaking rule before (e ∷ es) ≡ None → (rule before e ≡ true) × (first_breaking rule (before ++ e ∷ []) es ≡ None)
kept_first rule before e es true is none = (is, rw is at none)
kept_first rule before e es false is none = absurd (none_some (length before) (rw is at none))

-- a rule that asks nothing of the documents before is kept by each
pub all_keep : (P : DocId × Document → Bool) (before ds : ById) → first_breaking (λ b e. P e) before ds ≡ None → list_all P ds ≡ true
all_keep P before [] none = refl
all_keep P before (e ∷ es) none =
    let kept = kept_first (λ b x. P x) before e es (P e) refl none in
    rw kept.0 (all_keep P (before ++ e ∷ []) es kept.1)

abbrev numbers : DocumentRule
numbers = λ before e. keeps_numbers before e.1

parts : (before : ById) (d : Document) → keeps_numbers before d ≡ true
    → (nat_lt d.mod_count (2 ^ 63) ≡ true) × (nat_le d.sessions 16777152 ≡ true)
parts before d is =
    let own = not (list_any (λ e. e.1.mod_count == d.mod_count) before) in
    let outer = both (nat_lt d.mod_count (2 ^ 63) && own) (nat_le d.sessions 16777152) is in
    ((both (nat_lt d.mod_count (2 ^ 63)) own outer.0).0, outer.1)

pub few_sessions : (before ds : ById) → first_breaking numbers before ds ≡ None
    → list_all (λ e. nat_le e.1.sessions 16777152) ds ≡ true
few_sessions before [] none = refl
few_sessions before (e ∷ es) none =
    let kept = kept_first numbers before e es (numbers before e) refl none in
    rw (parts before e.1 kept.0).1 (few_sessions (before ++ e ∷ []) es kept.1)

low_numbers : (before ds : ById) → first_breaking numbers before ds ≡ None
    → list_all (λ e. nat_lt e.1.mod_count (2 ^ 63)) ds ≡ true
low_numbers before [] none = refl
low_numbers before (e ∷ es) none =
    let kept = kept_first numbers before e es (numbers before e) refl none in
    rw (parts before e.1 kept.0).0 (low_numbers (before ++ e ∷ []) es kept.1)

abbrev later : ℕ → DocId × Document → ℕ
later n e = max n e.1.mod_count

is_low : (m top : ℕ) → nat_lt m top ≡ true → m < top
is_low m top b = grind (arith, nat_tests)

lower : (n m top : ℕ) → n < top → nat_lt m top ≡ true → max n m < top
lower n m top a b = let low : m < top = is_low m top b in omega arith

low_from : (top n : ℕ) (ds : ById) → n < top → list_all (λ e. nat_lt e.1.mod_count top) ds ≡ true → fold later n ds < top
low_from top n [] low all = low
low_from top n (e ∷ es) low all =
    let each = both _ _ all in
    low_from top (later n e) es (lower n e.1.mod_count top low each.0) each.1

pub low_number : (ds : ById) → first_breaking numbers [] ds ≡ None → greatest_number ds < 2 ^ 63
low_number ds none = low_from (2 ^ 63) 0 ds (omega arith) (low_numbers [] ds none)

rises : (n : ℕ) (ds : ById) → n ≤ fold later n ds
rises n [] = omega arith
rises n (e ∷ es) = let up : max n e.1.mod_count ≤ fold later (max n e.1.mod_count) es = rises (max n e.1.mod_count) es in omega arith

pub all_below : (n : ℕ) (ds : ById) → All (λ d. d.mod_count ≤ fold later n ds) (values_of ds)
all_below n [] = All-nil _
all_below n (e ∷ es) =
    let up : max n e.1.mod_count ≤ fold later (max n e.1.mod_count) es = rises (max n e.1.mod_count) es in
    All-cons (λ d. d.mod_count ≤ fold later (max n e.1.mod_count) es) e.1 (values_of es) (omega arith)
    (all_below (max n e.1.mod_count) es)

module _ (ds : ById) (pin : Pin) (sessions : ℕ) where
  pub ids_stay : (n : ℕ) (all : List Document) → map (λ d. d.id) (opened_from ds pin sessions n all).0 ≡ map (λ d. d.id) all
  ids_stay n [] = refl
  ids_stay n (d ∷ rest) = ap (λ ids. d.id ∷ ids) (ids_stay (number_after ds pin n d) rest)

  after_is : (n : ℕ) (b : Bool) → n ≤ cond b (n + 1) n
  after_is n true = omega arith
  after_is n false = omega arith

  last_rises : (n : ℕ) (all : List Document) → n ≤ (opened_from ds pin sessions n all).1
  last_rises n [] = omega arith
  last_rises n (d ∷ rest) =
      let up : number_after ds pin n d ≤ (opened_from ds pin sessions (number_after ds pin n d) rest).1 = last_rises
      (number_after ds pin n d) rest in
      let here : n ≤ number_after ds pin n d = after_is n (changes_at_opening ds pin d) in
      omega arith

  own_number : (n m : ℕ) (b : Bool) → m ≤ n → cond b (n + 1) m ≤ cond b (n + 1) n
  own_number n m true low = omega arith
  own_number n m false low = low

  below : (k m n : ℕ) → k ≤ m → m ≤ n → k ≤ n
  below k m n a b = omega arith

  pub drawn_from : (n : ℕ) (all : List Document) → All (λ d. d.mod_count ≤ n) all
      → All (λ d. d.mod_count ≤ (opened_from ds pin sessions n all).1) (opened_from ds pin sessions n all).0
  drawn_from n [] low = All-nil _
  drawn_from n (d ∷ rest) low =
      let next = number_after ds pin n d in
      let up : next ≤ (opened_from ds pin sessions next rest).1 = last_rises next rest in
      let own : (opened_document ds pin sessions n d).mod_count ≤ next = own_number n d.mod_count (changes_at_opening ds pin d)
      (All-head (λ d. d.mod_count ≤ n) d rest low) in
      let here : (opened_document ds pin sessions n d).mod_count ≤ (opened_from ds pin sessions next rest).1
      = below _ next _ own up in
      let step : n ≤ next = after_is n (changes_at_opening ds pin d) in
      let behind = All-weaker (λ d. d.mod_count ≤ n) (λ d. d.mod_count ≤ next)
      (λ x h. below x.mod_count n next h step) rest (All-tail (λ d. d.mod_count ≤ n) d rest low) in
      All-cons (λ d. d.mod_count ≤ (opened_from ds pin sessions next rest).1) (opened_document ds pin sessions n d)
      (opened_from ds pin sessions next rest).0 here (drawn_from next rest behind)

  -- the opened documents can be stored
  pub are_stored : IsStrictlySortedBy id_cmp (map (λ d. d.id) (values_of ds))
      → AreStored (opened_from ds pin sessions (greatest_number ds) (values_of ds)).0
      (opened_from ds pin sessions (greatest_number ds) (values_of ds)).1
  are_stored ordered = record {
    ordered = subst (IsStrictlySortedBy id_cmp) (sym (ids_stay (greatest_number ds) (values_of ds))) ordered;
    drawn = drawn_from (greatest_number ds) (values_of ds) (all_below 0 ds);
  }

pub keys_by_id : (ds : List Document) → map (λ d. d.id) ds ≡ keys_of (by_id ds)
keys_by_id [] = refl
keys_by_id (d ∷ ds) = ap (λ ids. d.id ∷ ids) (keys_by_id ds)

-- documents in order stand in order by their ids
pub sorted_by_id : (ds : List Document) → IsStrictlySortedBy id_cmp (map (λ d. d.id) ds)
    → IsStrictlySortedBy id_cmp (keys_of (by_id ds))
sorted_by_id ds ordered = subst (IsStrictlySortedBy id_cmp) (keys_by_id ds) ordered

-- the documents are those that were put by their ids
pub values_by_id : (ds : List Document) → values_of (by_id ds) ≡ ds
values_by_id [] = refl
values_by_id (d ∷ ds) = ap (λ rest. d ∷ rest) (values_by_id ds)

pub still_ordered : (table : ById) (ds : List Document) → table ≡ by_id ds → IsStrictlySortedBy id_cmp (map (λ d. d.id) ds)
    → IsStrictlySortedBy id_cmp (map (λ d. d.id) (values_of table))
still_ordered table ds is ordered = rw (is, values_by_id ds) ordered

-- the opened documents, made from the greatest number on, can be stored
pub stored_by : (ds : ById) (pin : Pin) (sessions number last : ℕ) (items : List Document)
    → (items, last) ≡ opened_from ds pin sessions number (values_of ds) → number ≡ greatest_number ds
    → IsStrictlySortedBy id_cmp (map (λ d. d.id) (values_of ds)) → AreStored items last
stored_by ds pin sessions number last items made from_greatest ordered =
    let is = made ∙ ap (λ n. opened_from ds pin sessions n (values_of ds)) from_greatest in
    let kept = are_stored ds pin sessions ordered in
    record {
      ordered = subst (λ (o : List Document × ℕ). IsStrictlySortedBy id_cmp (map (λ d. d.id) o.0)) (sym is) kept.ordered;
      drawn = subst (λ (o : List Document × ℕ). All (λ d. d.mod_count ≤ o.1) o.0) (sym is) kept.drawn;
    }
