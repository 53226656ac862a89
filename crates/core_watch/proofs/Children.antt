-- The names of the children of a path in a tree: they rise, and which of them come before a document or up to it.
use Rattle.std.proofs.Common.{◌≡◌, ◌+◌, length, Bool, true, false, cond, ◌||◌, Some, None, Option, List, [], ◌∷◌, ◌++◌, map, refl, sym, ap, ◌∙◌, is_some}
use Rattle.std.specs.Option.{option_map}
use Rattle.std.specs.Prelude.{option_to_list, codes}
use Rattle.std.specs.declared.cmp.Ordering.{Ordering}
use Rattle.std.specs.declared.cmp.Ordering.TheVariants.{Less, Equal, Greater}
use Rattle.std.specs.Ordering.{eq_by_cmp, is_eq, is_lt, is_le, nat_cmp, ordering_then, ordering_reverse}
use Rattle.std.specs.FinMap.{is_sorted}
use Rattle.std.specs.FinMap.Entries.{below_all}
use Rattle.std.specs.List.{AllByRecursion, filter, list_any, cons_option}
use Rattle.std.proofs.lemmas.Cmp.{nat_cmp_total, nat_list_cmp_total, tied_itself}
use mathlib.Core.Bool.{false≢true}
use Rattle.jr_path.specs.Ids.{id_cmp, joined}
use Rattle.jr_path.specs.Names.{name_cmp, path_cmp, last_name}
use Rattle.jr_path.specs.declared.name.Name.{Name}
use Rattle.jr_path.specs.declared.path.Path.{Path}
use Rattle.jr_path.specs.declared.path.DocId.TheVariants as id
use Rattle.jr_path.proofs.Maps.{name_exact}
use Rattle.jr_tree.specs.declared.tree.Node.{Node}
use Rattle.jr_tree.specs.Trees.{Nodes, born_of, node_at, is_child_of, children_of, dated_children_of}
use Rattle.jr_tree.proofs.Pointwise.{same_path}
use Rattle.oak_read.proofs.Below.{child_path, longer, own_child, own_name, same_front, joined-child}
use Rattle.core_read.proofs.Entries.{exactly, is_less, first, none_below, second}
use Rattle.jr_path.proofs.Maps.{path_total}
use Rattle.core_watch.specs.Standing.{Child, children_to, dated}

-- ---- two children are as their names

then_nothing : (o : Ordering) → ordering_then o (ordering_then (ordering_then o Equal) Equal) ≡ o
then_nothing Less = refl
then_nothing Equal = refl
then_nothing Greater = refl

-- the documents of two children stand as their names
pub child_order : (p : Path) (a b : Name) → id_cmp (id.Node (p ++ a ∷ [])) (id.Node (p ++ b ∷ [])) ≡ name_cmp a b
child_order p a b =
    let depth : nat_cmp (length (p ++ a ∷ [])) (length (p ++ b ∷ [])) ≡ Equal = rw (longer p a, longer p b) (tied_itself nat_cmp_total (length p + 1)) in
    let text : name_cmp (joined (p ++ a ∷ [])) (joined (p ++ b ∷ [])) ≡ name_cmp a b = rw (joined-child p a, joined-child p b) (same_front nat_cmp_total (joined p) (codes "/" ++ a) (codes "/" ++ b)) in
    let path : path_cmp (p ++ a ∷ []) (p ++ b ∷ []) ≡ ordering_then (name_cmp a b) Equal = same_front nat_list_cmp_total p (a ∷ []) (b ∷ []) in
    rw (depth, text, path) (then_nothing (name_cmp a b))

-- and so do their paths
path_order : (p : Path) (a b : Name) → path_cmp (p ++ a ∷ []) (p ++ b ∷ []) ≡ name_cmp a b
path_order p a b = same_front nat_list_cmp_total p (a ∷ []) (b ∷ []) ∙ then_equal (name_cmp a b)
  where
    then_equal : (o : Ordering) → ordering_then o Equal ≡ o
    then_equal Less = refl
    then_equal Equal = refl
    then_equal Greater = refl

-- ---- which names are among the children

module _ (p : Path) where
  abbrev child : Path × Node → Option Name
  child e = cond (is_child_of p e.0) (last_name e.0) None

  -- what a path is that is a child's, or isn't one's
  pub child_shape : (q : Path) (n : Name) → cond (is_child_of p q) (last_name q) None ≡ Some n → q ≡ p ++ n ∷ []
  child_shape q n h = by (is_child_of p q) refl h
    where
      by : (b : Bool) → is_child_of p q ≡ b → cond b (last_name q) None ≡ Some n → q ≡ p ++ n ∷ []
      by true is last = child_path p q n is last
      by false is last = absurd (false≢true (ap is_some last))

  other_path : (q : Path) (n : Name) → cond (is_child_of p q) (last_name q) None ≡ None → eq_by_cmp path_cmp (p ++ n ∷ []) q ≡ false
  other_path q n h = by (eq_by_cmp path_cmp (p ++ n ∷ []) q) refl
    where
      own : cond (is_child_of p (p ++ n ∷ [])) (last_name (p ++ n ∷ [])) None ≡ Some n
      own = ap (λ b. cond b (last_name (p ++ n ∷ [])) None) (own_child p n) ∙ own_name p n

      by : (b : Bool) → eq_by_cmp path_cmp (p ++ n ∷ []) q ≡ b → b ≡ false
      by true e = absurd (false≢true (ap is_some (sym h ∙ (ap (λ (x : Path). cond (is_child_of p x) (last_name x) None) (sym (same_path (p ++ n ∷ []) q e)) ∙ own))))
      by false e = refl

  -- a name is among the children where there is a node of that name
  pub child_listed : (t : Nodes) (n : Name) → list_any (eq_by_cmp name_cmp n) (children_of t p) ≡ is_some (node_at t (p ++ n ∷ []))
  child_listed [] n = refl
  child_listed (e ∷ t) n = by (child e) refl (child_listed t n)
    where
      here : (b : Bool) → list_any (eq_by_cmp name_cmp n) (children_of t p) ≡ is_some (node_at t (p ++ n ∷ [])) → (b || list_any (eq_by_cmp name_cmp n) (children_of t p)) ≡ is_some (cond b (Some e.1) (node_at t (p ++ n ∷ [])))
      here true rest = refl
      here false rest = rest

      by : (o : Option Name) → child e ≡ o → list_any (eq_by_cmp name_cmp n) (children_of t p) ≡ is_some (node_at t (p ++ n ∷ [])) → list_any (eq_by_cmp name_cmp n) (cons_option o (children_of t p)) ≡ is_some (node_at (e ∷ t) (p ++ n ∷ []))
      by None is rest = rest ∙ ap (λ b. is_some (cond b (Some e.1) (node_at t (p ++ n ∷ [])))) (sym (other_path e.0 n is))
      by (Some m) is rest =
          here (eq_by_cmp name_cmp n m) rest
          ∙ ap (λ b. is_some (cond b (Some e.1) (node_at t (p ++ n ∷ [])))) (ap is_eq (sym (path_order p n m)) ∙ ap (eq_by_cmp path_cmp (p ++ n ∷ [])) (sym (child_shape e.0 m is)))

-- what is so of each element that is found is so of all
module _ (f : Name → Bool) where
  all_of : (xs : List Name) → ((n : Name) → list_any (eq_by_cmp name_cmp n) xs ≡ true → f n ≡ true) → AllByRecursion (λ n. f n ≡ true) xs
  all_of [] h = tt
  all_of (x ∷ xs) h = (h x (ap (λ o. is_eq o || list_any (eq_by_cmp name_cmp x) xs) (tied_itself nat_list_cmp_total x)), all_of xs (λ n k. h n (later (eq_by_cmp name_cmp n x) k)))
    where
      later : (b : Bool) {c : Bool} → c ≡ true → (b || c) ≡ true
      later true k = refl
      later false k = k

-- each child is there
pub children_there : (t : Nodes) (p : Path) → AllByRecursion (λ n. is_some (node_at t (p ++ n ∷ [])) ≡ true) (children_of t p)
children_there t p = all_of (λ n. is_some (node_at t (p ++ n ∷ []))) (children_of t p) (λ n h. sym (child_listed p t n) ∙ h)

-- ---- they rise

abbrev pub Rise : List Name → Type 0
Rise [] = Unit {0}
Rise (x ∷ xs) = AllByRecursion (λ y. name_cmp x y ≡ Less) xs × Rise xs

module _ (p : Path) where
  above : (q : Path) (n : Name) → q ≡ p ++ n ∷ [] → (t : Nodes) → below_all path_cmp q t ≡ true → AllByRecursion (λ m. name_cmp n m ≡ Less) (children_of t p)
  above q n is [] h = tt
  above q n is (e ∷ t) h = by (child p e) refl (above q n is t (second _ _ h))
    where
      by : (o : Option Name) → child p e ≡ o → AllByRecursion (λ m. name_cmp n m ≡ Less) (children_of t p) → AllByRecursion (λ m. name_cmp n m ≡ Less) (cons_option o (children_of t p))
      by None is' rest = rest
      by (Some m) is' rest = (sym (path_order p n m) ∙ (ap (path_cmp (p ++ n ∷ [])) (sym (child_shape p e.0 m is')) ∙ (ap (λ (x : Path). path_cmp x e.0) (sym is) ∙ is_less _ (first _ _ h))), rest)

  pub children_rise : (t : Nodes) → is_sorted path_cmp t ≡ true → Rise (children_of t p)
  children_rise [] h = tt
  children_rise (e ∷ t) h = by (child p e) refl (children_rise t (second _ _ h))
    where
      by : (o : Option Name) → child p e ≡ o → Rise (children_of t p) → Rise (cons_option o (children_of t p))
      by None is rest = rest
      by (Some n) is rest = (above e.0 n (child_shape p e.0 n is) t (first _ _ h), rest)

-- ---- parts of a list of names

filter_same : (f g : Name → Bool) (xs : List Name) → AllByRecursion (λ n. f n ≡ g n) xs → filter f xs ≡ filter g xs
filter_same f g [] h = refl
filter_same f g (x ∷ xs) h = ap (λ (rest : List Name). cond (f x) (x ∷ rest) rest) (filter_same f g xs h.1) ∙ ap (λ b. cond b (x ∷ filter g xs) (filter g xs)) h.0

filter_all : (f : Name → Bool) (xs : List Name) → AllByRecursion (λ n. f n ≡ true) xs → filter f xs ≡ xs
filter_all f [] h = refl
filter_all f (x ∷ xs) h = ap (λ b. cond b (x ∷ filter f xs) (filter f xs)) h.0 ∙ ap (λ (rest : List Name). x ∷ rest) (filter_all f xs h.1)

filter_none : (f : Name → Bool) (xs : List Name) → AllByRecursion (λ n. f n ≡ false) xs → filter f xs ≡ []
filter_none f [] h = refl
filter_none f (x ∷ xs) h = ap (λ b. cond b (x ∷ filter f xs) (filter f xs)) h.0 ∙ filter_none f xs h.1

all_from : {P Q : Name → Type 0} → ((n : Name) → P n → Q n) → (xs : List Name) → AllByRecursion P xs → AllByRecursion Q xs
all_from f [] h = tt
all_from f (x ∷ xs) h = (f x h.0, all_from f xs h.1)

turned : (n m : Name) → name_cmp n m ≡ Less → name_cmp m n ≡ Greater
turned n m h = nat_list_cmp_total.antisymm m n ∙ ap ordering_reverse h

-- those up to a name are those before it, and the name itself where it is among them
module _ (m : Name) where
  abbrev up_to : List Name → List Name
  up_to = filter (λ n. is_le (name_cmp n m))

  abbrev before : List Name → List Name
  before = filter (λ n. is_lt (name_cmp n m))

  abbrev itself : List Name → List Name
  itself xs = option_to_list (cond (list_any (eq_by_cmp name_cmp m) xs) (Some m) None)

  split_up_to : (xs : List Name) → Rise xs → up_to xs ≡ before xs ++ itself xs
  split_up_to [] rise = refl
  split_up_to (x ∷ xs) rise = by (name_cmp x m) refl (split_up_to xs rise.1)
    where
      shape : (o : Ordering) (b : Bool) → name_cmp x m ≡ o → eq_by_cmp name_cmp m x ≡ b
          → cond (is_le o) (x ∷ up_to xs) (up_to xs) ≡ cond (is_lt o) (x ∷ before xs) (before xs) ++ option_to_list (cond (b || list_any (eq_by_cmp name_cmp m) xs) (Some m) None) → up_to (x ∷ xs) ≡ before (x ∷ xs) ++ itself (x ∷ xs)
      shape o b is eq h =
          ap (λ o. cond (is_le o) (x ∷ up_to xs) (up_to xs)) is
          ∙ (h
          ∙ (ap (λ (b : Bool). cond (is_lt o) (x ∷ before xs) (before xs) ++ option_to_list (cond (b || list_any (eq_by_cmp name_cmp m) xs) (Some m) None)) (sym eq)
          ∙ ap (λ o. cond (is_lt o) (x ∷ before xs) (before xs) ++ itself (x ∷ xs)) (sym is)))

      by : (o : Ordering) → name_cmp x m ≡ o → up_to xs ≡ before xs ++ itself xs → up_to (x ∷ xs) ≡ before (x ∷ xs) ++ itself (x ∷ xs)
      by Less is rest = shape Less false is (ap is_eq (turned x m is)) (ap (λ (ns : List Name). x ∷ ns) rest)
      by Greater is rest = shape Greater false is (ap is_eq (nat_list_cmp_total.antisymm m x ∙ ap ordering_reverse is)) rest
      by Equal is rest =
          let same : x ≡ m = name_exact x m is in
          let over : AllByRecursion (λ y. name_cmp y m ≡ Greater) xs = all_from (λ y h. turned m y (ap (λ (z : Name). name_cmp z y) (sym same) ∙ h)) xs rise.0 in
          shape Equal true is (ap is_eq (nat_list_cmp_total.antisymm m x ∙ ap ordering_reverse is))
          (ap (λ (ns : List Name). x ∷ ns) (filter_none (λ n. is_le (name_cmp n m)) xs (all_from (λ y h. ap is_le h) xs over))
          ∙ (ap (λ (z : Name). z ∷ []) same
          ∙ ap (λ (ns : List Name). ns ++ m ∷ []) (sym (filter_none (λ n. is_lt (name_cmp n m)) xs (all_from (λ y h. ap is_lt h) xs over)))))

-- ---- children before a document and up to it

pub to_by_name : (test : Ordering → Bool) (t : Nodes) (p : Path) (m : Name) → children_to test t p (p ++ m ∷ []) ≡ filter (λ n. test (name_cmp n m)) (children_of t p)
to_by_name test t p m = filter_same (λ n. test (id_cmp (id.Node (p ++ n ∷ [])) (id.Node (p ++ m ∷ [])))) (λ n. test (name_cmp n m)) (children_of t p) (each (children_of t p))
  where
    each : (xs : List Name) → AllByRecursion (λ n. test (id_cmp (id.Node (p ++ n ∷ [])) (id.Node (p ++ m ∷ []))) ≡ test (name_cmp n m)) xs
    each [] = tt
    each (x ∷ xs) = (ap test (child_order p x m), each xs)

-- with the child itself those before it are those up to it
pub one_more_child : (t : Nodes) → is_sorted path_cmp t ≡ true → (p : Path) (m : Name)
    → children_to is_lt t p (p ++ m ∷ []) ++ option_to_list (cond (is_some (node_at t (p ++ m ∷ []))) (Some m) None) ≡ children_to is_le t p (p ++ m ∷ [])
one_more_child t sorted p m =
    ap (λ (ns : List Name). ns ++ option_to_list (cond (is_some (node_at t (p ++ m ∷ []))) (Some m) None)) (to_by_name is_lt t p m)
    ∙ (ap (λ b. filter (λ n. is_lt (name_cmp n m)) (children_of t p) ++ option_to_list (cond b (Some m) None)) (sym (child_listed p t m))
    ∙ (sym (split_up_to m (children_of t p) (children_rise p t sorted))
    ∙ sym (to_by_name is_le t p m)))

module _ (t : Nodes) (p : Path) where
  -- none stands so, where none does that is there
  pub no_children : (test : Ordering → Bool) (q : Path) → ((n : Name) → is_some (node_at t (p ++ n ∷ [])) ≡ true → test (id_cmp (id.Node (p ++ n ∷ [])) (id.Node q)) ≡ false) → children_to test t p q ≡ []
  no_children test q h = filter_none (λ n. test (id_cmp (id.Node (p ++ n ∷ [])) (id.Node q))) (children_of t p) (all_from h (children_of t p) (children_there t p))

  -- all stand so, where each does that is there
  pub all_children : (test : Ordering → Bool) (q : Path) → ((n : Name) → is_some (node_at t (p ++ n ∷ [])) ≡ true → test (id_cmp (id.Node (p ++ n ∷ [])) (id.Node q)) ≡ true) → children_to test t p q ≡ children_of t p
  all_children test q h = filter_all (λ n. test (id_cmp (id.Node (p ++ n ∷ [])) (id.Node q))) (children_of t p) (all_from h (children_of t p) (children_there t p))

  -- the same stand so to one document and so to another
  pub same_children : (test test' : Ordering → Bool) (q q' : Path) → ((n : Name) → is_some (node_at t (p ++ n ∷ [])) ≡ true → test (id_cmp (id.Node (p ++ n ∷ [])) (id.Node q)) ≡ test' (id_cmp (id.Node (p ++ n ∷ [])) (id.Node q')))
      → children_to test t p q ≡ children_to test' t p q'
  same_children test test' q q' h = filter_same (λ n. test (id_cmp (id.Node (p ++ n ∷ [])) (id.Node q))) (λ n. test' (id_cmp (id.Node (p ++ n ∷ [])) (id.Node q'))) (children_of t p) (all_from h (children_of t p) (children_there t p))

-- ---- the revisions that added them

-- each child's revision is that of the node of its name
module _ (whole : Nodes) (p : Path) where
  dated_within : (t : Nodes) → is_sorted path_cmp t ≡ true → ((q : Path) (node : Node) → node_at t q ≡ Some node → node_at whole q ≡ Some node) → dated_children_of t p ≡ map (dated whole p) (children_of t p)
  dated_within [] s within = refl
  dated_within (e ∷ t) s within = by (is_child_of p e.0) refl (last_name e.0) refl (dated_within t (second _ _ s) (λ q node h. within q node (passed q node h (eq_by_cmp path_cmp q e.0) refl)))
    where
      passed : (q : Path) (node : Node) → node_at t q ≡ Some node → (b : Bool) → eq_by_cmp path_cmp q e.0 ≡ b → cond b (Some e.1) (node_at t q) ≡ Some node
      passed q node h true g = absurd (false≢true (ap is_some (sym (none_below path_cmp path_total q e.0 (exactly _ g) t (first _ _ s)) ∙ h)))
      passed q node h false g = h

      own : node_at whole e.0 ≡ Some e.1
      own = within e.0 e.1 (ap (λ o. cond (is_eq o) (Some e.1) (node_at t e.0)) (tied_itself path_total e.0))

      by : (b : Bool) → is_child_of p e.0 ≡ b → (o : Option Name) → last_name e.0 ≡ o → dated_children_of t p ≡ map (dated whole p) (children_of t p)
          → cons_option (cond b (option_map (λ n. (n, e.1.born)) o) None) (dated_children_of t p) ≡ map (dated whole p) (cons_option (cond b o None) (children_of t p))
      by false is o last rest = rest
      by true is None last rest = rest
      by true is (Some n) last rest =
          let at : node_at whole (p ++ n ∷ []) ≡ Some e.1 = ap (node_at whole) (sym (child_path p e.0 n is last)) ∙ own in
          λ i. (n, born_of (sym at i)) ∷ rest i

pub dated_are : (t : Nodes) → is_sorted path_cmp t ≡ true → (p : Path) → dated_children_of t p ≡ map (dated t p) (children_of t p)
dated_are t s p = dated_within t p t s (λ q node h. h)

-- one child more at the end
pub dated_more : (t : Nodes) (p : Path) (xs : List Name) (b : Bool) (o : Option Name) → map (dated t p) xs ++ option_to_list (cond b (option_map (dated t p) o) None) ≡ map (dated t p) (xs ++ option_to_list (cond b o None))
dated_more t p [] true None = refl
dated_more t p [] true (Some n) = refl
dated_more t p [] false o = refl
dated_more t p (x ∷ xs) b o = ap (λ (rest : List Child). dated t p x ∷ rest) (dated_more t p xs b o)
