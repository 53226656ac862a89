-- The first document behind an id, in a table in store order.
use Rattle.std.proofs.Common.{◌≡◌, Bool, true, false, cond, not, ◌&&◌, Some, List, [], ◌∷◌, refl, sym, ap, ◌∙◌, subst, is_some}
use Rattle.std.specs.declared.cmp.Ordering.{Ordering}
use Rattle.std.specs.declared.cmp.Ordering.TheVariants.{Less, Equal, Greater}
use Rattle.std.specs.declared.ops.Bound.TheVariants.{Excluded, Unbounded}
use Rattle.std.specs.Ordering.{is_eq, is_lt, ordering_reverse, eq_by_cmp}
use Rattle.std.specs.List.{AllByRecursion}
use Rattle.std.specs.List.Sorted.{IsStrictlySortedBy}
use Rattle.std.specs.Map.{keys_of, lookup}
use Rattle.std.specs.BTreeMap.{is_at}
use Rattle.std.specs.BTreeMap.Range.{entries_between, range_contains}
use Rattle.std.proofs.lemmas.Cmp.{tied_itself}
use mathlib.Core.Bool.{false≢true}
use Rattle.jr_path.specs.Ids.{id_cmp}
use Rattle.jr_path.specs.declared.path.DocId.{DocId}
use Rattle.jr_path.proofs.Orders.{id_total}
use Rattle.oak_doc.specs.declared.document.Document.{Document}
use Rattle.oak_read.proofs.Walking.{same_id, own_id}

abbrev pub Entries : Type 0
Entries = List (DocId × Document)

-- the entries behind an id
abbrev pub behind : DocId → Entries → Entries
behind x es = entries_between id_cmp (Excluded x) Unbounded es

abbrev passes : DocId → DocId → Bool
passes x y = range_contains id_cmp (Excluded x) Unbounded y

passes_less : (x y : DocId) → passes x y ≡ true → id_cmp x y ≡ Less
passes_less x y h = by (id_cmp x y) h
  where
    by : (o : Ordering) → (is_lt o && not false) ≡ true → o ≡ Less
    by Less e = refl
    by Equal e = absurd (false≢true e)
    by Greater e = absurd (false≢true e)

not_passes : (x y : DocId) → passes x y ≡ false → is_lt (id_cmp x y) ≡ false
not_passes x y h = by (id_cmp x y) h
  where
    by : (o : Ordering) → (is_lt o && not false) ≡ false → is_lt o ≡ false
    by Less e = e
    by Equal e = refl
    by Greater e = refl

abbrev pub has : DocId → Entries → Bool
has y es = is_some (lookup (is_at (id_cmp y)) es)

-- what is so of each entry is so of one that is found
pub each_found : (P : DocId → Document → Type 0) (es : Entries) → AllByRecursion (λ e. P e.0 e.1) es → (y : DocId) (d : Document) → lookup (is_at (id_cmp y)) es ≡ Some d → P y d
each_found P [] all y d h = absurd (false≢true (ap is_some h))
each_found P (e ∷ es) all y d h = by (eq_by_cmp id_cmp y e.0) refl h (λ k. each_found P es all.1 y d k)
  where
    value : (c : Document) → Some c ≡ Some d → c ≡ d
    value c k = cc

    by : (b : Bool) → eq_by_cmp id_cmp y e.0 ≡ b → cond b (Some e.1) (lookup (is_at (id_cmp y)) es) ≡ Some d → (lookup (is_at (id_cmp y)) es ≡ Some d → P y d) → P y d
    by true is k rest = subst (λ (c : Document). P y c) (value e.1 k) (subst (λ (x : DocId). P x e.1) (sym (same_id y e.0 is)) all.0)
    by false is k rest = rest k

keys_found : (P : DocId → Type 0) (es : Entries) → AllByRecursion P (keys_of es) → (y : DocId) → has y es ≡ true → P y
keys_found P [] all y h = absurd (false≢true h)
keys_found P (e ∷ es) all y h = by (eq_by_cmp id_cmp y e.0) refl h (λ k. keys_found P es all.1 y k)
  where
    by : (b : Bool) → eq_by_cmp id_cmp y e.0 ≡ b → is_some (cond b (Some e.1) (lookup (is_at (id_cmp y)) es)) ≡ true → (has y es ≡ true → P y) → P y
    by true is k rest = subst P (sym (same_id y e.0 is)) all.0
    by false is k rest = rest k

-- the first entry behind x: it stands in the table, and no other stands between
pub record IsNext (x : DocId) (es : Entries) (e : DocId × Document) : Type 0 where
  pub above : id_cmp x e.0 ≡ Less
  pub found : lookup (is_at (id_cmp e.0)) es ≡ Some e.1
  pub least : (y : DocId) → has y es ≡ true → id_cmp x y ≡ Less → is_lt (id_cmp y e.0) ≡ false

lesser_apart : (x y : DocId) → id_cmp x y ≡ Less → eq_by_cmp id_cmp y x ≡ false
lesser_apart x y h = ap is_eq (id_total.antisymm y x ∙ ap ordering_reverse h)

pub not_below_itself : (x : DocId) → is_lt (id_cmp x x) ≡ false
not_below_itself x = ap is_lt (tied_itself id_total x)

pub greater_not_below : (x y : DocId) → id_cmp x y ≡ Less → is_lt (id_cmp y x) ≡ false
greater_not_below x y h = ap is_lt (id_total.antisymm y x ∙ ap ordering_reverse h)

pub next_is : (x : DocId) (es : Entries) (e : DocId × Document) (more : Entries) → IsStrictlySortedBy id_cmp (keys_of es) → behind x es ≡ e ∷ more → IsNext x es e
unfolding IsStrictlySortedBy
next_is x [] e more sorted h = cc
next_is x (f ∷ fs) e more sorted h = by (passes x f.0) refl h (λ k. next_is x fs e more sorted.1 k)
  where
    behind_first : (y : DocId) → has y fs ≡ true → id_cmp f.0 y ≡ Less
    behind_first y some = keys_found (λ k. id_cmp f.0 k ≡ Less) fs sorted.0 y some

    here : passes x f.0 ≡ true → IsNext x (f ∷ fs) f
    here pass = record {
      above = passes_less x f.0 pass;
      found = ap (λ b. cond b (Some f.1) (lookup (is_at (id_cmp f.0)) fs)) (own_id f.0);
      least = λ y some less. at y (eq_by_cmp id_cmp y f.0) refl some;
    }
      where
        at : (y : DocId) (b : Bool) → eq_by_cmp id_cmp y f.0 ≡ b → is_some (cond b (Some f.1) (lookup (is_at (id_cmp y)) fs)) ≡ true → is_lt (id_cmp y f.0) ≡ false
        at y true is some = subst (λ (z : DocId). is_lt (id_cmp z f.0) ≡ false) (sym (same_id y f.0 is)) (not_below_itself f.0)
        at y false is some = greater_not_below f.0 y (behind_first y some)

    later : passes x f.0 ≡ false → IsNext x fs e → IsNext x (f ∷ fs) e
    later pass rest = record {
      above = rest.above;
      found = ap (λ b. cond b (Some f.1) (lookup (is_at (id_cmp e.0)) fs)) (lesser_apart f.0 e.0 (behind_first e.0 (ap is_some rest.found))) ∙ rest.found;
      least = λ y some less. at y less (eq_by_cmp id_cmp y f.0) refl some;
    }
      where
        at : (y : DocId) → id_cmp x y ≡ Less → (b : Bool) → eq_by_cmp id_cmp y f.0 ≡ b → is_some (cond b (Some f.1) (lookup (is_at (id_cmp y)) fs)) ≡ true → is_lt (id_cmp y e.0) ≡ false
        at y less true is some = absurd (false≢true (sym (not_passes x f.0 pass) ∙ ap is_lt (ap (id_cmp x) (sym (same_id y f.0 is)) ∙ less)))
        at y less false is some = rest.least y some less

    by : (b : Bool) → passes x f.0 ≡ b → cond b (f ∷ behind x fs) (behind x fs) ≡ e ∷ more → (behind x fs ≡ e ∷ more → IsNext x fs e) → IsNext x (f ∷ fs) e
    by true pass k rest = let first : f ≡ e = cc in subst (λ (g : DocId × Document). IsNext x (f ∷ fs) g) first (here pass)
    by false pass k rest = later pass (rest k)

-- where nothing is behind x, none of the table's is
pub nothing_behind : (x : DocId) (es : Entries) → behind x es ≡ [] → (y : DocId) → has y es ≡ true → is_lt (id_cmp x y) ≡ false
nothing_behind x [] h y some = absurd (false≢true some)
nothing_behind x (f ∷ fs) h y some = by (passes x f.0) refl h (eq_by_cmp id_cmp y f.0) refl some (λ k s. nothing_behind x fs k y s)
  where
    by : (b : Bool) → passes x f.0 ≡ b → cond b (f ∷ behind x fs) (behind x fs) ≡ [] → (c : Bool) → eq_by_cmp id_cmp y f.0 ≡ c → is_some (cond c (Some f.1) (lookup (is_at (id_cmp y)) fs)) ≡ true
        → (behind x fs ≡ [] → has y fs ≡ true → is_lt (id_cmp x y) ≡ false) → is_lt (id_cmp x y) ≡ false
    by true pass k c is s rest = cc
    by false pass k true is s rest = subst (λ (z : DocId). is_lt (id_cmp x z) ≡ false) (sym (same_id y f.0 is)) (not_passes x f.0 pass)
    by false pass k false is s rest = rest k s
