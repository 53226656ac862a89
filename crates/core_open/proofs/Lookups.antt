-- The opened documents by their ids: each is one that was opened, with what stays of it.
use Rattle.std.proofs.Common.{◌≡◌, ℕ, ◌+◌, ◌≤◌, Bool, true, false, cond, inl, inr, List, [], ◌∷◌, Option, None, Some, All, refl, sym, ap, ◌∙◌, subst, arith, is_some}
use Rattle.std.specs.Ordering.{eq_by_cmp}
use Rattle.std.specs.List.{list_all}
use Rattle.std.specs.Option.{unwrap_or}
use Rattle.std.specs.Map.{lookup}
use Rattle.std.specs.BTreeMap.{is_at}
use Rattle.std.proofs.lemmas.Bool.{false≢true}
use Rattle.std.proofs.lemmas.List.Elements.{All-head, All-tail, All-weaker}
use Rattle.jr_path.specs.Ids.{id_cmp}
use Rattle.jr_path.specs.declared.path.DocId.{DocId}
use Rattle.jr_rev.specs.declared.vector.Pin.{Pin}
use Rattle.oak_doc.specs.declared.document.Document.{Document}
use Rattle.oak_read.specs.Meaning.{Documents, documents_in}
use Rattle.oak_read.proofs.Walking.{same_id}
use Rattle.oak_store.specs.Tables.{by_id}
use Rattle.oak_sound.specs.Meant.{ById}
use Rattle.oak_open.specs.Opened.{begun_anew, changes_at_opening, cleaned, number_after, opened_document, opened_from}
use Rattle.core_read.specs.Told.{IsIn}
use Rattle.core_read.proofs.Entries.{first, second}

module _ (ds : ById) (pin : Pin) (sessions : ℕ) where
  -- a document as it is opened, with some number that is no lower
  pub record IsOpenedAs (d made : Document) : Type 0 where
    pub number : ℕ
    pub made_is : made ≡ record (begun_anew pin.base sessions (cleaned ds pin d)) { mod_count = number }
    pub higher : d.mod_count ≤ made.mod_count

  -- what is there of an id once documents are opened
  abbrev pub Opens : Option Document → Option Document → Type 0
  Opens None o = o ≡ None
  Opens (Some d) o = (made : Document) × (o ≡ Some made) × IsOpenedAs d made

  own : (n m : ℕ) (b : Bool) → m ≤ n → m ≤ cond b (n + 1) m
  own n m true low = omega arith
  own n m false low = omega arith

  step : (n : ℕ) (b : Bool) → n ≤ cond b (n + 1) n
  step n true = omega arith
  step n false = omega arith

  later : (k m n : ℕ) → k ≤ m → m ≤ n → k ≤ n
  later k m n a b = omega arith

  pub found_opened : (n : ℕ) (all : List Document) (i : DocId) → All (λ d. d.mod_count ≤ n) all
      → Opens (lookup (is_at (id_cmp i)) (by_id all)) (lookup (is_at (id_cmp i)) (by_id (opened_from ds pin sessions n all).0))
  found_opened n [] i low = refl
  found_opened n (d ∷ rest) i low =
      by (eq_by_cmp id_cmp i d.id)
      (found_opened (number_after ds pin n d) rest i
      (All-weaker (λ x. x.mod_count ≤ n) (λ x. x.mod_count ≤ number_after ds pin n d)
      (λ x h. later x.mod_count n (number_after ds pin n d) h (step n (changes_at_opening ds pin d))) rest
      (All-tail (λ x. x.mod_count ≤ n) d rest low)))
    where
      by : (b : Bool)
          → Opens (lookup (is_at (id_cmp i)) (by_id rest)) (lookup (is_at (id_cmp i)) (by_id (opened_from ds pin sessions (number_after ds pin n d) rest).0))
          → Opens (cond b (Some d) (lookup (is_at (id_cmp i)) (by_id rest)))
          (cond b (Some (opened_document ds pin sessions n d)) (lookup (is_at (id_cmp i)) (by_id (opened_from ds pin sessions (number_after ds pin n d) rest).0)))
      by true more = (
        opened_document ds pin sessions n d,
        refl,
        record {
          number = cond (changes_at_opening ds pin d) (n + 1) d.mod_count;
          made_is = refl;
          higher = own n d.mod_count (changes_at_opening ds pin d) (All-head (λ x. x.mod_count ≤ n) d rest low);
        },
      )
      by false more = more

-- the document of an id is one of them
pub found_in : (ds : ById) (i : DocId) (d : Document) → documents_in ds i ≡ Some d → IsIn (i, d) ds
found_in [] i d h = absurd (false≢true (ap is_some h))
found_in (e ∷ ds) i d h = by (eq_by_cmp id_cmp i e.0) refl h (λ is. found_in ds i d is)
  where
    by : (b : Bool) → eq_by_cmp id_cmp i e.0 ≡ b → cond b (Some e.1) (documents_in ds i) ≡ Some d
        → (documents_in ds i ≡ Some d → IsIn (i, d) ds) → IsIn (i, d) (e ∷ ds)
    by true one is rest = inl (pair e.0 e.1 i d (sym (same_id i e.0 one)) (ap (λ o. unwrap_or o d) is))
      where
        pair : (a : DocId) (x : Document) (b : DocId) (y : Document) → a ≡ b → x ≡ y → ◌≡◌ {A = DocId × Document} (a, x) (b, y)
        pair a x b y p q = λ k. (p k, q k)
    by false one is rest = inr (rest is)

-- what all have, one of them has
pub holds_in : {X : Type 0} (P : X → Bool) (xs : List X) (x : X) → list_all P xs ≡ true → IsIn x xs → P x ≡ true
holds_in P [] x all i = absurd i
holds_in P (y ∷ xs) x all (inl same) = subst (λ z. P z ≡ true) same (first _ _ all)
holds_in P (y ∷ xs) x all (inr i) = holds_in P xs x (second _ _ all) i

pub found_keeps : (P : DocId × Document → Bool) (ds : ById) → list_all P ds ≡ true → (i : DocId) (d : Document)
    → documents_in ds i ≡ Some d → P (i, d) ≡ true
found_keeps P ds all i d h = holds_in P ds (i, d) all (found_in ds i d h)

-- documents by their ids are found by their own
pub found_named : (all : List Document) (i : DocId) (d : Document) → documents_in (by_id all) i ≡ Some d → d.id ≡ i
found_named [] i d h = absurd (false≢true (ap is_some h))
found_named (e ∷ all) i d h = by (eq_by_cmp id_cmp i e.id) refl h (λ is. found_named all i d is)
  where
    by : (b : Bool) → eq_by_cmp id_cmp i e.id ≡ b → cond b (Some e) (documents_in (by_id all) i) ≡ Some d
        → (documents_in (by_id all) i ≡ Some d → d.id ≡ i) → d.id ≡ i
    by true one is rest = sym (ap (λ (x : Document). x.id) (ap (λ o. unwrap_or o d) is)) ∙ sym (same_id i e.id one)
    by false one is rest = rest is

-- and they are among them
pub found_among : (all : List Document) (i : DocId) (d : Document) → documents_in (by_id all) i ≡ Some d → IsIn d all
found_among [] i d h = absurd (false≢true (ap is_some h))
found_among (e ∷ all) i d h = by (eq_by_cmp id_cmp i e.id) h (λ is. found_among all i d is)
  where
    by : (b : Bool) → cond b (Some e) (documents_in (by_id all) i) ≡ Some d → (documents_in (by_id all) i ≡ Some d → IsIn d all) → IsIn d (e ∷ all)
    by true is rest = inl (ap (λ o. unwrap_or o d) is)
    by false is rest = inr (rest is)
