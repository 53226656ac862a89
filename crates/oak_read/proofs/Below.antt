-- The children that documents show: each of them, and in ascending order.
use Rattle.std.proofs.Common.{◌≡◌, ℕ, ◌+◌, ◌-◌, ◌<◌, ◌==◌, ◌&&◌, zero, suc, Bool, true, false, cond, List, [], ◌∷◌, ◌++◌, Option, None, Some, length, take, get_or, map, refl, sym, ap, ◌∙◌, subst, arith, add-one, length-append, append-nil}
use Rattle.std.specs.Prelude.{IsTrue, IsSome, ◌↔◌, is_some, slice_get, codes}
use Rattle.std.specs.Option.{option_map, option_and_then, unwrap_or}
use Rattle.std.specs.declared.cmp.Ordering.{Ordering}
use Rattle.std.specs.declared.cmp.Ordering.TheVariants.{Less, Equal, Greater}
use Rattle.std.specs.Ordering.{eq_by_cmp, is_eq, nat_cmp, ordering_then}
use Rattle.std.specs.Cmp.Lexicographic.{slice_cmp}
use Rattle.std.specs.Cmp.{IsTotalOrder}
use Rattle.std.specs.List.{All, AllByRecursion, Contains, filter_map, flat_map, cons_option}
use Rattle.std.specs.List.Sorted.{IsStrictlySortedBy}
use Rattle.std.specs.Map.{keys_of, lookup}
use Rattle.std.specs.BTreeMap.{is_at}
use Rattle.std.proofs.lemmas.Cmp.{nat_cmp_total, nat_list_cmp_total, tied_itself}
use Rattle.std.proofs.Math.Seq.{take-append_seam}
use Rattle.std.proofs.lemmas.List.{take_more, take_all}
use Rattle.std.proofs.lemmas.List.Concat.{flat_map-append}
use Rattle.std.proofs.lemmas.List.Elements.{All-from_recursion, All-contains, Contains-append_right, Contains-get_or}
use Rattle.std.proofs.lemmas.Map.Entries.{place_from_lookup}
use Rattle.std.proofs.lemmas.Bool.Decides.{nat_tests}
use Rattle.std.proofs.lemmas.Option.{slice_get-map, slice_get_within, get_or_from_slice_get}
use Rattle.jr_path.specs.Ids.{id_cmp, joined}
use Rattle.jr_path.specs.Names.{name_cmp, path_cmp, parent_of, last_name}
use Rattle.jr_path.specs.declared.name.Name.{Name}
use Rattle.jr_path.specs.declared.path.Path.{Path}
use Rattle.jr_path.specs.declared.path.DocId.{DocId}
use Rattle.jr_path.specs.declared.path.DocId.TheVariants as id
use Rattle.jr_path.proofs.Maps.{path_exact, path_total}
use Rattle.jr_path.proofs.Orders.{id_exact, tested}
use Rattle.jr_rev.specs.declared.vector.RevVec.{RevVec}
use Rattle.jr_rev.specs.declared.revision.Revision.{Revision}
use Rattle.jr_tree.specs.Trees.{born_of, is_child_of}
use Rattle.oak_doc.specs.declared.document.Document.{Document}
use Rattle.oak_read.specs.Meaning.{Documents, documents_in, found_node, child_found, found_children}
use Rattle.basics.proofs.Orders.{equal_of}
use Rattle.std.proofs.lemmas.Bool.{and_parts}

-- ---- a child's path

-- the last name behind the others
last_behind : (q : Path) (n : Name) → last_name q ≡ Some n → q ≡ take (length q - 1) q ++ n ∷ []
last_behind q n h =
    let within : length q - 1 < length q = slice_get_within q (length q - 1) n h in
    sym (take_all (length q - 1 + 1) q (omega arith))
    ∙ take_more q (length q - 1) n within
    ∙ ap (λ x. take (length q - 1) q ++ x ∷ []) (get_or_from_slice_get q (length q - 1) n n h)

-- a child has one name more than its parent
pub child_path : (p q : Path) (n : Name) → is_child_of p q ≡ true → last_name q ≡ Some n → q ≡ p ++ n ∷ []
child_path p q n h last =
    let within : length q - 1 < length q = slice_get_within q (length q - 1) n last in
    let some : (length q == 0) ≡ false = grind (arith, nat_tests) in
    let parent : p ≡ take (length q - 1) q = path_exact p (take (length q - 1) q) (equal_of (path_cmp p (take (length q - 1) q)) (rw some at h)) in
    rw parent (last_behind q n last)

pub long_child : (p q : Path) (k : ℕ) → length q ≡ k + 1 → take k q ≡ p → is_child_of p q ≡ true
long_child p q k long front =
    let some : (k + 1 == 0) ≡ false = grind (arith, nat_tests) in
    let less : k + 1 - 1 ≡ k = omega arith in
    rw (long, some, less, front) (ap is_eq (tied_itself path_total p))

pub longer : (p : Path) (n : Name) → length (p ++ n ∷ []) ≡ length p + 1
longer p n = length-append p (n ∷ [])

pub own_child : (p : Path) (n : Name) → is_child_of p (p ++ n ∷ []) ≡ true
own_child p n = long_child p (p ++ n ∷ []) (length p) (longer p n) (take-append_seam p (n ∷ []))

slice_get-behind : (p : Path) (n : Name) → slice_get (p ++ n ∷ []) (length p) ≡ Some n
slice_get-behind [] n = refl
slice_get-behind (m ∷ p) n = slice_get-behind p n

pub own_name : (p : Path) (n : Name) → last_name (p ++ n ∷ []) ≡ Some n
own_name p n =
    let less : length (p ++ n ∷ []) - 1 ≡ length p = omega (arith, longer p n) in
    rw less (slice_get-behind p n)

-- ---- what is found

-- the name of a child, with the revision that added it
abbrev pub Child : Type 0
Child = Name × Option Revision

named_from : (o : Option Name) (b : Option Revision) (c : Child) → option_map (λ n. (n, b)) o ≡ Some c → (o ≡ Some c.0) × (b ≡ c.1)
named_from None b c h = cc
named_from (Some n) b c h = (ap (λ (o : Option Child). Some (unwrap_or o c).0) h, ap (λ (o : Option Child). (unwrap_or o c).1) h)

module _ (table : List (DocId × Document)) (t v : RevVec) (p : Path) where
  abbrev ds : Documents
  ds = documents_in table

  -- a node is found one name below, and this revision added it
  abbrev pub IsChild : Child → Type 0
  IsChild c = (is_some (found_node ds t v (p ++ c.0 ∷ [])) ≡ true) × (born_of (found_node ds t v (p ++ c.0 ∷ [])) ≡ c.1)

  -- what is a child is found one name below
  pub found_below : (x : DocId) (c : Child) → child_found ds t v p x ≡ Some c → (x ≡ id.Node (p ++ c.0 ∷ [])) × (is_some (found_node ds t v (p ++ c.0 ∷ [])) ≡ true) × (born_of (found_node ds t v (p ++ c.0 ∷ [])) ≡ c.1)
  found_below (id.Node q) c h = by (is_child_of p q && is_some (found_node ds t v q)) refl h
    where
      by : (b : Bool) → (is_child_of p q && is_some (found_node ds t v q)) ≡ b → cond b (option_map (λ n. (n, born_of (found_node ds t v q))) (last_name q)) None ≡ Some c
          → (id.Node q ≡ id.Node (p ++ c.0 ∷ [])) × (is_some (found_node ds t v (p ++ c.0 ∷ [])) ≡ true) × (born_of (found_node ds t v (p ++ c.0 ∷ [])) ≡ c.1)
      by true both last =
          let parts = and_parts _ _ both in
          let named = named_from (last_name q) (born_of (found_node ds t v q)) c last in
          let path : q ≡ p ++ c.0 ∷ [] = child_path p q c.0 parts.0 named.0 in
          (ap (λ x. id.Node x) path, ap (λ x. is_some (found_node ds t v x)) (sym path) ∙ parts.1, ap (λ x. born_of (found_node ds t v x)) (sym path) ∙ named.1)
      by false both last = cc
  found_below (id.Prev m q) c h = cc
  found_below id.Settings c h = cc

  each_found : (ids : List DocId) → AllByRecursion IsChild (found_children ds t v ids p)
  each_found [] = tt
  each_found (x ∷ xs) = by (child_found ds t v p x) refl (each_found xs)
    where
      by : (o : Option Child) → child_found ds t v p x ≡ o → AllByRecursion IsChild (found_children ds t v xs p) → AllByRecursion IsChild (cons_option o (found_children ds t v xs p))
      by None is rest = rest
      by (Some c) is rest = let below = found_below x c is in ((below.1, below.2), rest)

in_filter_map : {X Y : Type 0} (h : X → Option Y) (xs : List X) (k : ℕ) (x : X) (y : Y) → slice_get xs k ≡ Some x → h x ≡ Some y → Contains (filter_map h xs) y
in_filter_map h [] k x y at gives = cc
in_filter_map {X} {Y} h (z ∷ xs) zero x y at gives =
    let same : z ≡ x = cc in
    rw (same, gives) (Contains-get_or (y ∷ filter_map h xs) 0 y (omega arith))
in_filter_map {X} {Y} h (z ∷ xs) (suc k) x y at gives = by (h z) (in_filter_map h xs k x y at gives)
  where
    by : (o : Option Y) → Contains (filter_map h xs) y → Contains (cons_option o (filter_map h xs)) y
    by None c = c
    by (Some w) c = Contains-append_right (w ∷ []) (filter_map h xs) y c

module _ (table : List (DocId × Document)) (t v : RevVec) (p : Path) where
  -- a node that is found one name below is among the children
  found_is_child : (n : Name) (born : Option Revision) → is_some (found_node (documents_in table) t v (p ++ n ∷ [])) ≡ true → born_of (found_node (documents_in table) t v (p ++ n ∷ [])) ≡ born → Contains (found_children (documents_in table) t v (keys_of table) p) (n, born)
  found_is_child n born found added = by (documents_in table (id.Node (p ++ n ∷ []))) refl
    where
      gives : child_found (documents_in table) t v p (id.Node (p ++ n ∷ [])) ≡ Some (n, born)
      gives = rw (own_child p n, found, added) (ap (option_map (λ m. (m, born))) (own_name p n))

      by : (o : Option Document) → documents_in table (id.Node (p ++ n ∷ [])) ≡ o → Contains (found_children (documents_in table) t v (keys_of table) p) (n, born)
      by None is = let none : is_some (found_node (documents_in table) t v (p ++ n ∷ [])) ≡ false = rw is refl in cc
      by (Some d) is =
          let place = place_from_lookup (is_at (id_cmp (id.Node (p ++ n ∷ [])))) table d is in
          let same : id.Node (p ++ n ∷ []) ≡ place.1 = id_exact (id.Node (p ++ n ∷ [])) place.1 (equal_of _ place.3) in
          in_filter_map (child_found (documents_in table) t v p) (keys_of table) place.0 (id.Node (p ++ n ∷ [])) (n, born)
          (slice_get-map (λ e. e.0) table place.0 ∙ ap (option_map (λ e. e.0)) place.2 ∙ ap (λ x. Some x) (sym same)) gives

  -- the children by documents are the nodes that are found one name below
  pub children-found : (n : Name) (born : Option Revision) → Contains (found_children (documents_in table) t v (keys_of table) p) (n, born)
      ↔ (IsTrue (is_some (found_node (documents_in table) t v (p ++ n ∷ []))) × (born_of (found_node (documents_in table) t v (p ++ n ∷ [])) ≡ born))
  children-found n born = (
    All-contains (IsChild table t v p) (found_children (documents_in table) t v (keys_of table) p) (n, born)
        (All-from_recursion (IsChild table t v p) (found_children (documents_in table) t v (keys_of table) p) (each_found table t v p (keys_of table))),
    λ both. found_is_child n born both.0 both.1,
  )

-- ---- the order

pub same_front : {K : Type 0} {R : K → K → Ordering} → IsTotalOrder R → (xs a b : List K) → slice_cmp R (xs ++ a) (xs ++ b) ≡ slice_cmp R a b
same_front o [] a b = refl
same_front o (x ∷ xs) a b = rw (tied_itself o x) (same_front o xs a b)

pub joined-child : (p : Path) (a : Name) → joined (p ++ a ∷ []) ≡ joined p ++ (codes "/" ++ a)
joined-child p a = flat_map-append (λ name. codes "/" ++ name) p (a ∷ []) ∙ ap (λ x. joined p ++ x) (append-nil (codes "/" ++ a))

-- the names of two children are in the store's order of their documents
pub names_rise : (p : Path) (a b : Name) → id_cmp (id.Node (p ++ a ∷ [])) (id.Node (p ++ b ∷ [])) ≡ Less → name_cmp a b ≡ Less
names_rise p a b h =
    let depth : nat_cmp (length (p ++ a ∷ [])) (length (p ++ b ∷ [])) ≡ Equal = rw (longer p a, longer p b) (tied_itself nat_cmp_total (length p + 1)) in
    let text : name_cmp (joined (p ++ a ∷ [])) (joined (p ++ b ∷ [])) ≡ name_cmp a b = rw (joined-child p a, joined-child p b) (same_front nat_cmp_total (joined p) (codes "/" ++ a) (codes "/" ++ b)) in
    let path : path_cmp (p ++ a ∷ []) (p ++ b ∷ []) ≡ ordering_then (name_cmp a b) Equal = same_front nat_list_cmp_total p (a ∷ []) (b ∷ []) in
    by (name_cmp a b) (rw (depth, text, path) at h)
  where
    by : (o : Ordering) → ordering_then o (ordering_then (ordering_then o Equal) Equal) ≡ Less → o ≡ Less
    by Less h = refl
    by Equal h = cc
    by Greater h = cc

module _ {K J : Type 0} (R : K → K → Ordering) (S : J → J → Ordering) (h : K → Option J) (rises : (x y : K) (a b : J) → h x ≡ Some a → h y ≡ Some b → R x y ≡ Less → S a b ≡ Less) where
  all_above : (x : K) (a : J) → h x ≡ Some a → (ys : List K) → AllByRecursion (λ y. R x y ≡ Less) ys → AllByRecursion (λ b. S a b ≡ Less) (filter_map h ys)
  all_above x a is [] all = tt
  all_above x a is (y ∷ ys) all = by (h y) refl (all_above x a is ys all.1)
    where
      by : (o : Option J) → h y ≡ o → AllByRecursion (λ b. S a b ≡ Less) (filter_map h ys) → AllByRecursion (λ b. S a b ≡ Less) (cons_option o (filter_map h ys))
      by None is' rest = rest
      by (Some b) is' rest = (rises x y a b is is' all.0, rest)

  sorted-filter_map : (xs : List K) → IsStrictlySortedBy R xs → IsStrictlySortedBy S (filter_map h xs)
  unfolding IsStrictlySortedBy
  sorted-filter_map [] sorted = tt
  sorted-filter_map (x ∷ xs) sorted = by (h x) refl (sorted-filter_map xs sorted.1)
    where
      by : (o : Option J) → h x ≡ o → IsStrictlySortedBy S (filter_map h xs) → IsStrictlySortedBy S (cons_option o (filter_map h xs))
      by None is rest = rest
      by (Some a) is rest = (all_above x a is xs sorted.0, rest)

-- the children by documents rise, where the documents stand in the store's order
pub children-ascend : (table : List (DocId × Document)) (t v : RevVec) (p : Path) → IsStrictlySortedBy id_cmp (keys_of table) → IsStrictlySortedBy (λ c d. name_cmp c.0 d.0) (found_children (documents_in table) t v (keys_of table) p)
children-ascend table t v p sorted = sorted-filter_map id_cmp (λ c d. name_cmp c.0 d.0) (child_found (documents_in table) t v p) rises (keys_of table) sorted
  where
    rises : (x y : DocId) (a b : Child) → child_found (documents_in table) t v p x ≡ Some a → child_found (documents_in table) t v p y ≡ Some b → id_cmp x y ≡ Less → name_cmp a.0 b.0 ≡ Less
    rises x y a b is_a is_b less =
        let same_x : x ≡ id.Node (p ++ a.0 ∷ []) = (found_below table t v p x a is_a).0 in
        let same_y : y ≡ id.Node (p ++ b.0 ∷ []) = (found_below table t v p y b is_b).0 in
        names_rise p a.0 b.0 (rw (same_x, same_y) at less)
