-- The first entry of a table in order.
use Rattle.std.proofs.Common.{◌≡◌, Bool, true, false, cond, Some, [], ◌∷◌, sym, ◌∙◌, subst, is_some, refl}
use Rattle.std.specs.declared.cmp.Ordering.TheVariants.{Less}
use Rattle.std.specs.Ordering.{eq_by_cmp, is_lt}
use Rattle.std.specs.List.{AllByRecursion}
use Rattle.std.specs.List.Sorted.{IsStrictlySortedBy}
use Rattle.std.specs.Map.{keys_of, lookup}
use Rattle.std.specs.BTreeMap.{is_at}
use mathlib.Core.Bool.{false≢true}
use Rattle.jr_path.specs.Ids.{id_cmp}
use Rattle.jr_path.specs.declared.path.DocId.{DocId}
use Rattle.oak_doc.specs.declared.document.Document.{Document}
use Rattle.oak_read.proofs.Walking.{same_id}
use Rattle.core_watch.proofs.Behind.{Entries, greater_not_below, has, not_below_itself}

keys_found : (P : DocId → Type 0) (es : Entries) → AllByRecursion P (keys_of es) → (y : DocId) → has y es ≡ true → P y
keys_found P [] all y h = absurd (false≢true h)
keys_found P (e ∷ es) all y h = by (eq_by_cmp id_cmp y e.0) refl h (λ k. keys_found P es all.1 y k)
  where
    by : (b : Bool) → eq_by_cmp id_cmp y e.0 ≡ b → is_some (cond b (Some e.1) (lookup (is_at (id_cmp y)) es)) ≡ true → (has y es ≡ true → P y) → P y
    by true is k rest = subst P (sym (same_id y e.0 is)) all.0
    by false is k rest = rest k

-- nothing stands before the first
pub none_below : (e : DocId × Document) (more : Entries) → IsStrictlySortedBy id_cmp (keys_of (e ∷ more)) → (y : DocId) → has y (e ∷ more) ≡ true → is_lt (id_cmp y e.0) ≡ true → ⊥
unfolding IsStrictlySortedBy
none_below e more sorted y there below = by (eq_by_cmp id_cmp y e.0) refl there
  where
    by : (b : Bool) → eq_by_cmp id_cmp y e.0 ≡ b → is_some (cond b (Some e.1) (lookup (is_at (id_cmp y)) more)) ≡ true → ⊥
    by true is h = false≢true (sym (not_below_itself e.0) ∙ subst (λ (z : DocId). is_lt (id_cmp z e.0) ≡ true) (same_id y e.0 is) below)
    by false is h = false≢true (sym (greater_not_below e.0 y (keys_found (λ k. id_cmp e.0 k ≡ Less) more sorted.0 y h)) ∙ below)
