-- What is in doubt in a document, once each commit root was asked, is what is dead there.
use Rattle.std.proofs.Common.{◌≡◌, ℕ, Bool, true, false, cond, not, ◌&&◌, ◌||◌, ◌⊎◌, inl, inr, List, [], ◌∷◌, ◌++◌, fold, map, Option, None, Some, is_some, refl, sym, ap, subst, ◌∙◌, append_assoc}
use Rattle.std.specs.BTreeMap.{insert_entry}
use Rattle.std.specs.List.{AllByRecursion, filter, list_any}
use Rattle.std.proofs.lemmas.List.Kept.{IsStrictlySortedBy-filter}
use Rattle.jr_rev.proofs.Order.{revision_total}
use Rattle.std.specs.List.Sorted.{IsStrictlySortedBy}
use Rattle.std.specs.Map.{keys_of, values_of}
use Rattle.std.specs.Option.{option_map_or}
use Rattle.std.specs.Ordering.{eq_by_cmp, match_ordering, ordering_reverse}
use Rattle.std.specs.declared.cmp.Ordering.{Ordering}
use Rattle.std.specs.declared.cmp.Ordering.TheVariants.{Less, Equal, Greater}
use Rattle.std.specs.Cmp.{IsTotalOrder}
use mathlib.Core.Bool.{false≢true}
use Rattle.jr_path.specs.Ids.{id_cmp}
use Rattle.jr_path.specs.declared.path.DocId.{DocId}
use Rattle.jr_path.proofs.Orders.{id_exact, id_total, tested}
use Rattle.jr_rev.specs.declared.revision.Revision.{Revision}
use Rattle.jr_rev.specs.declared.vector.RevVec.{RevVec}
use Rattle.jr_rev.specs.Revisions.{revision_cmp}
use Rattle.jr_rev.specs.Vectors.{sees}
use Rattle.oak_doc.specs.declared.document.Document.{Document}
use Rattle.oak_doc.specs.Updates.{of_revision}
use Rattle.oak_read.specs.Meaning.{Documents, commit_root_of, is_committed}
use Rattle.oak_read.specs.Wanted.{Ids}
use Rattle.oak_recover.specs.Dead.{Revisions, dead_in, field_revisions, is_after, revisions_after, with_after, with_each}
use Rattle.oak_recover.specs.Reading.{Doubts, root_answered, doubts_in, is_confirmed, read_of, roots_of, with_other}
use Rattle.oak_recover.specs.declared.reading.Reading.{Reading}

pub never : {A : Type 0} → false ≡ true → A
never h = absurd (false≢true h)

-- ---- filters

filter_same : {X : Type 0} (p q : X → Bool) (xs : List X) → ((x : X) → p x ≡ q x) → filter p xs ≡ filter q xs
filter_same p q [] h = refl
filter_same p q (x ∷ xs) h = ap (λ b. cond b (x ∷ filter p xs) (filter p xs)) (h x) ∙ ap (λ rest. cond (q x) (x ∷ rest) rest) (filter_same p q xs h)

filter_two : {X : Type 0} (p q : X → Bool) (xs : List X) → filter q (filter p xs) ≡ filter (λ x. p x && q x) xs
filter_two p q [] = refl
filter_two p q (x ∷ xs) = by (p x) ∙ ap (λ rest. cond (p x && q x) (x ∷ rest) rest) (filter_two p q xs)
  where
    by : (b : Bool) → filter q (cond b (x ∷ filter p xs) (filter p xs)) ≡ cond (b && q x) (x ∷ filter q (filter p xs)) (filter q (filter p xs))
    by true = refl
    by false = refl

-- of pairs made of keys
filter_pairs : {X Y : Type 0} (f : X → Y) (p : X × Y → Bool) (xs : List X) → filter p (map (λ x. (x, f x)) xs) ≡ map (λ x. (x, f x)) (filter (λ x. p (x, f x)) xs)
filter_pairs f p [] = refl
filter_pairs f p (x ∷ xs) = by (p (x, f x)) (filter_pairs f p xs)
  where
    by : (b : Bool) → filter p (map (λ x. (x, f x)) xs) ≡ map (λ x. (x, f x)) (filter (λ x. p (x, f x)) xs) → cond b ((x, f x) ∷ filter p (map (λ x. (x, f x)) xs)) (filter p (map (λ x. (x, f x)) xs)) ≡ map (λ x. (x, f x)) (cond b (x ∷ filter (λ x. p (x, f x)) xs) (filter (λ x. p (x, f x)) xs))
    by true more = ap (λ rest. (x, f x) ∷ rest) more
    by false more = more

keys_of_pairs : {X Y : Type 0} (f : X → Y) (xs : List X) → keys_of (map (λ x. (x, f x)) xs) ≡ xs
keys_of_pairs f [] = refl
keys_of_pairs f (x ∷ xs) = ap (λ rest. x ∷ rest) (keys_of_pairs f xs)

-- ---- entries that are put in ascending order

above_too : {K : Type 0} (cmp : K → K → Ordering) → IsTotalOrder cmp → (x y : K) → cmp x y ≡ Less → (ks : List K) → AllByRecursion (λ k. cmp y k ≡ Less) ks → AllByRecursion (λ k. cmp x k ≡ Less) ks
above_too cmp total x y less [] h = tt
above_too cmp total x y less (k ∷ ks) h = (total.trans x y k less h.0, above_too cmp total x y less ks h.1)

module _ {K V : Type 0} (cmp : K → K → Ordering) (total : IsTotalOrder cmp) where
  -- what is above all others goes to the end
  put_last : (es : List (K × V)) (k : K) (v : V) → AllByRecursion (λ x. cmp x k ≡ Less) (keys_of es) → insert_entry cmp es k v ≡ es ++ (k, v) ∷ []
  put_last [] k v all = refl
  put_last (e ∷ es) k v all =
      ap (λ o. match_ordering o ((k, v) ∷ e ∷ es) ((e.0, v) ∷ es) (e ∷ insert_entry cmp es k v)) (total.antisymm k e.0 ∙ ap ordering_reverse all.0)
      ∙ ap (λ rest. e ∷ rest) (put_last es k v all.1)

  -- each of these is below what is above them
  all_below : (es : List (K × V)) (k : K) (v : V) (x : K) → AllByRecursion (λ y. cmp y x ≡ Less) (keys_of es) → cmp k x ≡ Less → AllByRecursion (λ y. cmp y x ≡ Less) (keys_of (es ++ (k, v) ∷ []))
  all_below [] k v x all less = (less, tt)
  all_below (e ∷ es) k v x all less = (all.0, all_below es k v x all.1 less)

  abbrev AreBelow : List (K × V) → List K → Type 0
  AreBelow es [] = Unit {0}
  AreBelow es (k ∷ ks) = AllByRecursion (λ y. cmp y k ≡ Less) (keys_of es) × AreBelow es ks

  more_below : (es : List (K × V)) (k : K) (v : V) (ks : List K) → AllByRecursion (λ x. cmp k x ≡ Less) ks → AreBelow es ks → AreBelow (es ++ (k, v) ∷ []) ks
  more_below es k v [] above below = tt
  more_below es k v (x ∷ ks) above below = (all_below es k v x below.0 above.0, more_below es k v ks above.1 below.1)

  put_all : (f : K → V) (es : List (K × V)) (ks : List K) → IsStrictlySortedBy cmp ks → AreBelow es ks → fold (λ es k. insert_entry cmp es k (f k)) es ks ≡ es ++ map (λ k. (k, f k)) ks
  unfolding IsStrictlySortedBy
  put_all f es [] sorted below = sym (end es)
    where
      end : (es : List (K × V)) → es ++ [] ≡ es
      end [] = refl
      end (e ∷ es) = ap (λ rest. e ∷ rest) (end es)
  put_all f es (k ∷ ks) sorted below =
      ap (λ (es : List (K × V)). fold (λ es k. insert_entry cmp es k (f k)) es ks) (put_last es k (f k) below.0)
      ∙ (put_all f (es ++ (k, f k) ∷ []) ks sorted.1 (more_below es k (f k) ks sorted.0 below.1)
      ∙ append_assoc es ((k, f k) ∷ []) (map (λ k. (k, f k)) ks))

  -- entries stay in order
  keys_put : (P : K → Type 0) (k : K) → P k → (v : V) (es : List (K × V)) → AllByRecursion P (keys_of es) → AllByRecursion P (keys_of (insert_entry cmp es k v))
  keys_put P k here v [] h = (here, tt)
  keys_put P k here v (e ∷ es) h = by (cmp k e.0) (keys_put P k here v es h.1)
    where
      by : (c : Ordering) → AllByRecursion P (keys_of (insert_entry cmp es k v)) → AllByRecursion P (keys_of (match_ordering c ((k, v) ∷ e ∷ es) ((e.0, v) ∷ es) (e ∷ insert_entry cmp es k v)))
      by Less rest = (here, h)
      by Equal rest = h
      by Greater rest = (h.0, rest)

  sorted_put : (k : K) (v : V) (es : List (K × V)) → IsStrictlySortedBy cmp (keys_of es) → IsStrictlySortedBy cmp (keys_of (insert_entry cmp es k v))
  unfolding IsStrictlySortedBy
  sorted_put k v [] h = (tt, tt)
  sorted_put k v (e ∷ es) h = by (cmp k e.0) refl (sorted_put k v es h.1)
    where
      by : (c : Ordering) → cmp k e.0 ≡ c → IsStrictlySortedBy cmp (keys_of (insert_entry cmp es k v)) → IsStrictlySortedBy cmp (keys_of (match_ordering c ((k, v) ∷ e ∷ es) ((e.0, v) ∷ es) (e ∷ insert_entry cmp es k v)))
      by Less is rest = ((is, above_too cmp total k e.0 is (keys_of es) h.0), h)
      by Equal is rest = h
      by Greater is rest = (keys_put (λ y. cmp e.0 y ≡ Less) k (total.antisymm e.0 k ∙ ap ordering_reverse is) v es h.0, rest)

abbrev no_doubts : Doubts
no_doubts = []

none_below : (ks : List Revision) → AreBelow revision_cmp revision_total no_doubts ks
none_below [] = tt
none_below (k ∷ ks) = (tt, none_below ks)

-- the revisions of a node in a document ascend
module _ (k : ℕ) (l : Revision) where
  one_ascends : (set : Revisions) (r : Revision) → IsStrictlySortedBy revision_cmp (keys_of set) → IsStrictlySortedBy revision_cmp (keys_of (with_after k l set r))
  one_ascends set r h = by (is_after k l r)
    where
      by : (b : Bool) → IsStrictlySortedBy revision_cmp (keys_of (cond b (insert_entry revision_cmp set r tt) set))
      by true = sorted_put revision_cmp revision_total r tt set h
      by false = h

  each_ascends : (rs : List Revision) (set : Revisions) → IsStrictlySortedBy revision_cmp (keys_of set) → IsStrictlySortedBy revision_cmp (keys_of (with_each k l set rs))
  each_ascends [] set h = h
  each_ascends (r ∷ rs) set h = each_ascends rs (with_after k l set r) (one_ascends set r h)

  all_ascend : (rss : List (List Revision)) (set : Revisions) → IsStrictlySortedBy revision_cmp (keys_of set) → IsStrictlySortedBy revision_cmp (keys_of (fold (with_each k l) set rss))
  all_ascend [] set h = h
  all_ascend (rs ∷ rss) set h = all_ascend rss (with_each k l set rs) (each_ascends rs set h)

  pub revisions_ascend : (d : Document) → IsStrictlySortedBy revision_cmp (keys_of (revisions_after k l d))
  unfolding IsStrictlySortedBy
  revisions_ascend d = all_ascend (field_revisions d) [] empty
    where
      none : Revisions
      none = []

      empty : IsStrictlySortedBy revision_cmp (keys_of none)
      empty = tt

-- what the sweep vector doesn't see is in doubt, in ascending order
pub doubts_are : (t : RevVec) (d : Document) (rs : List Revision) → IsStrictlySortedBy revision_cmp rs → doubts_in t d rs ≡ map (λ r. (r, commit_root_of d r)) (filter (λ r. not (sees t r)) rs)
doubts_are t d rs h =
    let qs = filter (λ r. not (sees t r)) rs in
    put_all revision_cmp revision_total (commit_root_of d) [] qs (IsStrictlySortedBy-filter revision_cmp (λ r. not (sees t r)) rs h) (none_below qs)

-- ---- members

abbrev pub In : {X : Type 0} → X → List X → Type 0
In x [] = ⊥
In x (y ∷ ys) = (y ≡ x) ⊎ In x ys

filter_on : {X : Type 0} (p q : X → Bool) (xs : List X) → ((x : X) → In x xs → p x ≡ q x) → filter p xs ≡ filter q xs
filter_on p q [] h = refl
filter_on p q (x ∷ xs) h = ap (λ b. cond b (x ∷ filter p xs) (filter p xs)) (h x (inl refl)) ∙ ap (λ rest. cond (q x) (x ∷ rest) rest) (filter_on p q xs (λ y i. h y (inr i)))

pub in_filter : {X : Type 0} (p : X → Bool) (xs : List X) (x : X) → In x xs → p x ≡ true → In x (filter p xs)
in_filter p [] x i h = absurd i
in_filter {X} p (y ∷ xs) x (inl e) h = subst (λ b. In x (cond b (y ∷ filter p xs) (filter p xs))) (sym (ap p e ∙ h)) (inl e)
in_filter {X} p (y ∷ xs) x (inr i) h = by (p y) (in_filter p xs x i h)
  where
    by : (b : Bool) → In x (filter p xs) → In x (cond b (y ∷ filter p xs) (filter p xs))
    by true j = inr j
    by false j = j

-- ---- the commit roots that are asked

id_itself : (x : DocId) → eq_by_cmp id_cmp x x ≡ true
id_itself x = (tested id_total id_exact x x).1 refl

-- what is put is there, and what was there stays
has_put : (y x : DocId) (ids : Ids) → (eq_by_cmp id_cmp y x || list_any (λ z. eq_by_cmp id_cmp y z.0) ids) ≡ true → list_any (λ z. eq_by_cmp id_cmp y z.0) (insert_entry id_cmp ids x tt) ≡ true
has_put y x [] h = h
has_put y x (e ∷ ids) h = by (id_cmp x e.0) refl (has_put y x ids)
  where
    third : (a b c : Bool) → (a || (b || c)) ≡ true → (b ≡ false → (a || c) ≡ true) × (b ≡ true → true ≡ true)
    third true b c i = ((λ f. refl), (λ f. refl))
    third false true c i = ((λ f. never (sym f)), (λ f. refl))
    third false false c i = ((λ f. i), (λ f. refl))

    same : (b c : Bool) → (b || (b || c)) ≡ true → (b || c) ≡ true
    same true c i = refl
    same false c i = i

    behind : (b : Bool) → eq_by_cmp id_cmp y e.0 ≡ b → ((eq_by_cmp id_cmp y x || list_any (λ z. eq_by_cmp id_cmp y z.0) ids) ≡ true → list_any (λ z. eq_by_cmp id_cmp y z.0) (insert_entry id_cmp ids x tt) ≡ true) → (b || list_any (λ z. eq_by_cmp id_cmp y z.0) (insert_entry id_cmp ids x tt)) ≡ true
    behind true e rest = refl
    behind false f rest = rest ((third (eq_by_cmp id_cmp y x) (eq_by_cmp id_cmp y e.0) (list_any (λ z. eq_by_cmp id_cmp y z.0) ids) h).0 f)

    by : (o : Ordering) → id_cmp x e.0 ≡ o → ((eq_by_cmp id_cmp y x || list_any (λ z. eq_by_cmp id_cmp y z.0) ids) ≡ true → list_any (λ z. eq_by_cmp id_cmp y z.0) (insert_entry id_cmp ids x tt) ≡ true)
        → list_any (λ z. eq_by_cmp id_cmp y z.0) (match_ordering o ((x, tt) ∷ e ∷ ids) ((e.0, tt) ∷ ids) (e ∷ insert_entry id_cmp ids x tt)) ≡ true
    by Less is rest = h
    by Equal is rest = same (eq_by_cmp id_cmp y e.0) (list_any (λ z. eq_by_cmp id_cmp y z.0) ids) (subst (λ (z : DocId). (eq_by_cmp id_cmp y z || (eq_by_cmp id_cmp y e.0 || list_any (λ z. eq_by_cmp id_cmp y z.0) ids)) ≡ true) (id_exact x e.0 is) h)
    by Greater is rest = behind (eq_by_cmp id_cmp y e.0) refl rest

module _ (own : DocId) where
  has_other : (y x : DocId) (ids : Ids) → (eq_by_cmp id_cmp y own ≡ false) → (eq_by_cmp id_cmp y x || list_any (λ z. eq_by_cmp id_cmp y z.0) ids) ≡ true → list_any (λ z. eq_by_cmp id_cmp y z.0) (with_other own ids x) ≡ true
  has_other y x ids apart h = by (eq_by_cmp id_cmp x own) refl (eq_by_cmp id_cmp y x) refl h
    where
      by : (b : Bool) → eq_by_cmp id_cmp x own ≡ b → (c : Bool) → eq_by_cmp id_cmp y x ≡ c → (c || list_any (λ z. eq_by_cmp id_cmp y z.0) ids) ≡ true → list_any (λ z. eq_by_cmp id_cmp y z.0) (cond b ids (insert_entry id_cmp ids x tt)) ≡ true
      by true e true f i = never (sym apart ∙ (ap (λ (z : DocId). eq_by_cmp id_cmp z own) ((tested id_total id_exact y x).0 f) ∙ e))
      by true e false f i = i
      by false e c f i = has_put y x ids (ap (λ c. c || list_any (λ z. eq_by_cmp id_cmp y z.0) ids) f ∙ i)

  -- each commit root but the document itself is among them
  all_asked : (xs : List DocId) (ids : Ids) (y : DocId) → eq_by_cmp id_cmp y own ≡ false → In y xs ⊎ (list_any (λ z. eq_by_cmp id_cmp y z.0) ids ≡ true) → list_any (λ z. eq_by_cmp id_cmp y z.0) (fold (with_other own) ids xs) ≡ true
  all_asked [] ids y apart (inl i) = absurd i
  all_asked [] ids y apart (inr h) = h
  all_asked (x ∷ xs) ids y apart (inl (inl e)) = all_asked xs (with_other own ids x) y apart (inr (has_other y x ids apart (ap (λ b. b || list_any (λ z. eq_by_cmp id_cmp y z.0) ids) ((tested id_total id_exact y x).1 (sym e)))))
  all_asked (x ∷ xs) ids y apart (inl (inr i)) = all_asked xs (with_other own ids x) y apart (inl i)
  all_asked (x ∷ xs) ids y apart (inr h) = all_asked xs (with_other own ids x) y apart (inr (has_other y x ids apart (or_last (eq_by_cmp id_cmp y x) _ h)))
    where
      or_last : (a b : Bool) → b ≡ true → (a || b) ≡ true
      or_last true b h = refl
      or_last false b h = h

value_in : (es : Doubts) (e : Revision × DocId) → In e es → In e.1 (values_of es)
value_in [] e i = absurd i
value_in (f ∷ es) e (inl same) = inl (ap (λ (x : Revision × DocId). x.1) same)
value_in (f ∷ es) e (inr i) = inr (value_in es e i)

module _ (ds : Documents) where
  -- a commit root is asked
  abbrev pub asking : Reading → DocId × Unit {0} → Reading
  asking s x = root_answered (record s { asked = x.0 }) x.0 (ds x.0)

  -- its commit root has it
  abbrev pub confirmed : Revision × DocId → Bool
  confirmed e = is_confirmed e.1 (ds e.1) e

  abbrev pub any_confirms : Ids → Revision × DocId → Bool
  any_confirms xs e = list_any (λ x. is_confirmed x.0 (ds x.0) e) xs

  asked_doubts : (xs : Ids) (s : Reading) → (fold asking s xs).doubts ≡ filter (λ e. not (any_confirms xs e)) s.doubts
  asked_doubts [] s = sym (all s.doubts)
    where
      all : (es : Doubts) → filter (λ e. not false) es ≡ es
      all [] = refl
      all (e ∷ es) = ap (λ rest. e ∷ rest) (all es)
  asked_doubts (x ∷ xs) s =
      asked_doubts xs (asking s x)
      ∙ (filter_two (λ e. not (is_confirmed x.0 (ds x.0) e)) (λ e. not (any_confirms xs e)) s.doubts
      ∙ filter_same (λ e. not (is_confirmed x.0 (ds x.0) e) && not (any_confirms xs e)) (λ e. not (any_confirms (x ∷ xs) e)) s.doubts (λ e. neither (is_confirmed x.0 (ds x.0) e) (any_confirms xs e)))
    where
      neither : (a b : Bool) → (not a && not b) ≡ not (a || b)
      neither true b = refl
      neither false b = refl

  pub asked_at : (xs : Ids) (s : Reading) → (fold asking s xs).at ≡ s.at
  asked_at [] s = refl
  asked_at (x ∷ xs) s = asked_at xs (asking s x)

  -- who confirms it is its commit root
  at_root : (x : DocId) (o : Option Document) (e : Revision × DocId) → is_confirmed x o e ≡ true → e.1 ≡ x
  at_root x None e h = never h
  at_root x (Some d) e h = (tested id_total id_exact e.1 x).0 (first (eq_by_cmp id_cmp e.1 x) _ h)
    where
      first : (a b : Bool) → (a && b) ≡ true → a ≡ true
      first true b i = refl
      first false b i = i

  any_is : (xs : Ids) (e : Revision × DocId) → any_confirms xs e ≡ true → confirmed e ≡ true
  any_is [] e h = never h
  any_is (x ∷ xs) e h = by (is_confirmed x.0 (ds x.0) e) refl h (any_is xs e)
    where
      by : (b : Bool) → is_confirmed x.0 (ds x.0) e ≡ b → (b || any_confirms xs e) ≡ true → (any_confirms xs e ≡ true → confirmed e ≡ true) → confirmed e ≡ true
      by true c i rest = subst (λ (y : DocId). is_confirmed y (ds y) e ≡ true) (sym (at_root x.0 (ds x.0) e c)) c
      by false c i rest = rest i

  is_any : (xs : Ids) (e : Revision × DocId) → list_any (λ z. eq_by_cmp id_cmp e.1 z.0) xs ≡ true → confirmed e ≡ true → any_confirms xs e ≡ true
  is_any [] e h c = never h
  is_any (x ∷ xs) e h c = by (eq_by_cmp id_cmp e.1 x.0) refl h (λ i. is_any xs e i c)
    where
      or_last : (a b : Bool) → b ≡ true → (a || b) ≡ true
      or_last true b h = refl
      or_last false b h = h

      by : (b : Bool) → eq_by_cmp id_cmp e.1 x.0 ≡ b → (b || list_any (λ z. eq_by_cmp id_cmp e.1 z.0) xs) ≡ true → (list_any (λ z. eq_by_cmp id_cmp e.1 z.0) xs ≡ true → any_confirms xs e ≡ true) → (is_confirmed x.0 (ds x.0) e || any_confirms xs e) ≡ true
      by true same i rest = ap (λ b. b || any_confirms xs e) (subst (λ (y : DocId). is_confirmed y (ds y) e ≡ true) ((tested id_total id_exact e.1 x.0).0 same) c)
      by false other i rest = or_last (is_confirmed x.0 (ds x.0) e) (any_confirms xs e) (rest i)

  module _ (t : RevVec) (d : Document) (there : ds d.id ≡ Some d) where
    -- who has it is its commit root
    pub asks_all : (e : Revision × DocId) → (is_confirmed d.id (Some d) e ≡ true) ⊎ ((xs : Ids) × (any_confirms xs e ≡ true)) → confirmed e ≡ true
    asks_all e (inl h) = subst (λ (y : DocId). is_confirmed y (ds y) e ≡ true) (sym (at_root d.id (Some d) e h)) (ap (λ o. is_confirmed d.id o e) there ∙ h)
    asks_all e (inr h) = any_is h.0 e h.1

    -- a commit root that has it is among those that are left, where the document itself isn't it
    pub left_finds : (es : Doubts) (e : Revision × DocId) → In e es → is_confirmed d.id (Some d) e ≡ false → confirmed e ≡ true → any_confirms (roots_of d.id (filter (λ e. not (is_confirmed d.id (Some d) e)) es)) e ≡ true
    left_finds es e i f c = by (eq_by_cmp id_cmp e.1 d.id) refl
      where
        back : eq_by_cmp id_cmp e.1 d.id ≡ true → is_confirmed d.id (Some d) e ≡ true
        back same = ap (λ o. is_confirmed d.id o e) (sym there) ∙ subst (λ (y : DocId). is_confirmed y (ds y) e ≡ true) ((tested id_total id_exact e.1 d.id).0 same) c

        by : (b : Bool) → eq_by_cmp id_cmp e.1 d.id ≡ b → any_confirms (roots_of d.id (filter (λ e. not (is_confirmed d.id (Some d) e)) es)) e ≡ true
        by true same = never (sym f ∙ back same)
        by false other = is_any (roots_of d.id (filter (λ e. not (is_confirmed d.id (Some d) e)) es)) e
            (all_asked d.id (values_of (filter (λ e. not (is_confirmed d.id (Some d) e)) es)) [] e.1 other (inl (value_in _ e (in_filter (λ e. not (is_confirmed d.id (Some d) e)) es e i (ap not f))))) c

    -- of all in doubt these two questions come to one
    one_answer : (es : Doubts) (e : Revision × DocId) → In e es → (not (is_confirmed d.id (Some d) e) && not (any_confirms (roots_of d.id (filter (λ e. not (is_confirmed d.id (Some d) e)) es)) e)) ≡ not (confirmed e)
    one_answer es e i = by (is_confirmed d.id (Some d) e) refl (any_confirms (roots_of d.id (filter (λ e. not (is_confirmed d.id (Some d) e)) es)) e) refl (confirmed e) refl
      where
        by : (a : Bool) → is_confirmed d.id (Some d) e ≡ a → (b : Bool) → any_confirms (roots_of d.id (filter (λ e. not (is_confirmed d.id (Some d) e)) es)) e ≡ b → (c : Bool) → confirmed e ≡ c → (not a && not b) ≡ not c
        by true f b g true h = refl
        by true f b g false h = never (sym h ∙ asks_all e (inl f))
        by false f true g true h = refl
        by false f true g false h = never (sym h ∙ any_is _ e g)
        by false f false g true h = never (sym g ∙ left_finds es e i f h)
        by false f false g false h = refl

    module _ (k : ℕ) (l : Revision) where
      rs : List Revision
      rs = keys_of (revisions_after k l d)

      start : Reading
      start = read_of t k l d

      left_doubts : (fold asking (read_of t k l d) (read_of t k l d).left).doubts ≡ filter (λ e. not (confirmed e)) (doubts_in t d (keys_of (revisions_after k l d)))
      left_doubts =
          let es = doubts_in t d (keys_of (revisions_after k l d)) in
          let p : Revision × DocId → Bool = λ e. not (is_confirmed d.id (Some d) e) in
          asked_doubts (read_of t k l d).left (read_of t k l d)
          ∙ (filter_two p (λ e. not (any_confirms (roots_of d.id (filter p es)) e)) es
          ∙ filter_on (λ e. p e && not (any_confirms (roots_of d.id (filter p es)) e)) (λ e. not (confirmed e)) es (one_answer es))

      told : (r : Revision) → (not (sees t r) && not (is_confirmed (commit_root_of d r) (ds (commit_root_of d r)) (r, commit_root_of d r))) ≡ not (is_committed ds t d r)
      told r = by (sees t r) (ds (commit_root_of d r))
        where
          rest : (x : DocId) (o : Option Document) → is_confirmed x o (r, x) ≡ option_map_or (λ root. is_some (of_revision root.revisions r)) o false
          rest x None = refl
          rest x (Some root) = ap (λ b. b && is_some (of_revision root.revisions r)) (id_itself x)

          by : (a : Bool) (o : Option Document) → (not a && not (is_confirmed (commit_root_of d r) o (r, commit_root_of d r))) ≡ not (a || option_map_or (λ root. is_some (of_revision root.revisions r)) o false)
          by true o = refl
          by false o = ap not (rest (commit_root_of d r) o)

      -- of what the sweep vector doesn't see its commit root tells whether it is committed
      pub root_answers_for : (r : Revision) → sees t r ≡ false → is_confirmed (commit_root_of d r) (ds (commit_root_of d r)) (r, commit_root_of d r) ≡ is_committed ds t d r
      root_answers_for r h = turn _ _ (ap (λ a. not a && not (is_confirmed (commit_root_of d r) (ds (commit_root_of d r)) (r, commit_root_of d r))) (sym h) ∙ told r)
        where
          turn : (a b : Bool) → not a ≡ not b → a ≡ b
          turn true true e = refl
          turn false false e = refl
          turn true false e = never e
          turn false true e = never (sym e)

      -- what is in doubt once all were asked is dead
      pub dead_left : keys_of (fold asking (read_of t k l d) (read_of t k l d).left).doubts ≡ dead_in ds t k l d
      dead_left =
          let all = keys_of (revisions_after k l d) in
          ap keys_of (left_doubts
          ∙ (ap (filter (λ e. not (confirmed e))) (doubts_are t d all (revisions_ascend k l d))
          ∙ filter_pairs (commit_root_of d) (λ e. not (confirmed e)) (filter (λ r. not (sees t r)) all)))
          ∙ (keys_of_pairs (commit_root_of d) (filter (λ r. not (confirmed (r, commit_root_of d r))) (filter (λ r. not (sees t r)) all))
          ∙ (filter_two (λ r. not (sees t r)) (λ r. not (confirmed (r, commit_root_of d r))) all
          ∙ filter_same (λ r. not (sees t r) && not (confirmed (r, commit_root_of d r))) (λ r. not (is_committed ds t d r)) all told))
