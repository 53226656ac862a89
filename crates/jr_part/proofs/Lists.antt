-- What an edit makes of the names of the children of one node, in the lists and in the tree.
use Rattle.std.proofs.Common.{◌≡◌, ◌⊎◌, inl, inr, Bool, true, false, cond, Some, None, Option, List, [], ◌∷◌, ◌++◌, is_some, refl, sym, ap, ◌∙◌, subst}
use Rattle.std.specs.Option.{option_map, option_map_or, option_or, unwrap_or}
use Rattle.std.specs.Ordering.{eq_by_cmp}
use Rattle.std.specs.Map.{lookup, set_value}
use Rattle.std.specs.BTreeMap.{is_at}
use Rattle.std.specs.FinMap.{is_sorted}
use Rattle.std.specs.List.{fold, list_all}
use Rattle.std.proofs.lemmas.Cmp.{eq_by_cmp_equiv, nat_list_cmp_total}
use Rattle.std.proofs.lemmas.Map.{lookup-set_value}
use mathlib.Core.Bool.{false≢true}
use Rattle.jr_path.specs.Names.{last_name, name_cmp, parent_of, path_cmp}
use Rattle.jr_path.specs.declared.name.Name.{Name}
use Rattle.jr_path.specs.declared.path.Path.{Path}
use Rattle.jr_path.proofs.Maps.{lookup-insert_entry, name_exact, path_total}
use Rattle.jr_path.proofs.Parts.{last_name-child, parent_of-child}
use Rattle.jr_rev.specs.declared.revision.Revision.{Revision}
use Rattle.jr_tree.specs.declared.edit.Write.{Write}
use Rattle.jr_tree.specs.declared.edit.Write.TheVariants.{Here, Gone, Put, Unset}
use Rattle.jr_tree.specs.declared.tree.Node.{Node}
use Rattle.jr_tree.specs.Edits.{applied, last_writes}
use Rattle.jr_tree.specs.Items.{here_of, written}
use Rattle.jr_tree.specs.Trees.{Nodes, born_of, dated_children_of, is_child_of, node_at}
use Rattle.jr_tree.proofs.AtPath.{InOrder, node_at-applied, order-applied}
use Rattle.jr_tree.proofs.EditLaw.{fills_born, fills_has, nodes_written, stood}
use Rattle.jr_tree.proofs.Entries.{first, lookup-remove, same_lists, second, sorted_insert, sorted_remove}
use Rattle.jr_tree.proofs.Pointwise.{same_path}
use Rattle.jr_part.specs.Parts.{ChildNames, HaveRisingNames}
use Rattle.jr_part.specs.Follows.{Lists, lists_after, with_begun, with_change_above, with_changed, with_listed, with_name, without_name}
use Rattle.jr_part.proofs.Children.{children_sorted}
use Rattle.jr_part.proofs.Named.{apart, born_in, child_is, child_or_not, ends, named_child, own_child, same_names}

-- ---- options

none_of_both : {X : Type 0} (a b : Option X) → option_or a b ≡ None → (a ≡ None) × (b ≡ None)
none_of_both None b h = (refl, h)
none_of_both (Some x) b h = absurd (false≢true (sym (ap is_some h)))

map_same : {X : Type 0} (o : Option X) → o ≡ option_map (λ x. x) o
map_same None = refl
map_same (Some x) = refl

map_twice : {X : Type 0} (f g : X → X) (o : Option X) → option_map f (option_map g o) ≡ option_map (λ x. f (g x)) o
map_twice f g None = refl
map_twice f g (Some x) = refl

-- ---- the names at one path

abbrev pub names_at : Lists → Path → Option ChildNames
names_at lists p = lookup (is_at (path_cmp p)) lists

module _ (p : Path) where
  begun_one : (lists : Lists) (w : Write) → here_of p w ≡ None → names_at (with_begun lists w) p ≡ names_at lists p
  begun_one lists (Here q) h = lookup-insert_entry path_cmp path_total p q [] lists ∙ by (eq_by_cmp path_cmp p q) h
    where
      by : (b : Bool) → cond b (Some true) None ≡ None → cond b (Some []) (names_at lists p) ≡ names_at lists p
      by true h = absurd (false≢true (sym (ap is_some h)))
      by false h = refl
  begun_one lists (Gone q) h = refl
  begun_one lists (Put q n x) h = refl
  begun_one lists (Unset q n) h = refl

  -- where no write of the node stands the list is as it was
  pub begun_none : (lists : Lists) (ws : List Write) → written (here_of p) ws ≡ None → names_at (fold with_begun lists ws) p ≡ names_at lists p
  begun_none lists [] h = refl
  begun_none lists (w ∷ ws) h =
      let parts = none_of_both (written (here_of p) ws) (here_of p w) h in
      begun_none (with_begun lists w) ws parts.0 ∙ begun_one lists w parts.1

  began_one : (lists : Lists) (w : Write) → here_of p w ≡ Some true → names_at (with_begun lists w) p ≡ Some []
  began_one lists (Here q) h = lookup-insert_entry path_cmp path_total p q [] lists ∙ by (eq_by_cmp path_cmp p q) h
    where
      by : (b : Bool) → cond b (Some true) None ≡ Some true → cond b (Some []) (names_at lists p) ≡ Some []
      by true h = refl
      by false h = absurd (false≢true (ap is_some h))
  began_one lists (Gone q) h = by (eq_by_cmp path_cmp p q) h
    where
      by : (b : Bool) → cond b (Some false) None ≡ Some true → names_at lists p ≡ Some []
      by true h = absurd (false≢true (ap (λ o. unwrap_or o false) h))
      by false h = absurd (false≢true (ap is_some h))
  began_one lists (Put q n x) h = absurd (false≢true (ap is_some h))
  began_one lists (Unset q n) h = absurd (false≢true (ap is_some h))

  -- where the node comes the list begins
  pub begun_some : (lists : Lists) (ws : List Write) → written (here_of p) ws ≡ Some true → names_at (fold with_begun lists ws) p ≡ Some []
  begun_some lists [] h = absurd (false≢true (ap is_some h))
  begun_some lists (w ∷ ws) h = by (written (here_of p) ws) refl h (λ g. begun_some (with_begun lists w) ws g)
    where
      by : (o : Option Bool) → written (here_of p) ws ≡ o → option_or o (here_of p w) ≡ Some true
          → (written (here_of p) ws ≡ Some true → names_at (fold with_begun (with_begun lists w) ws) p ≡ Some []) → names_at (fold with_begun (with_begun lists w) ws) p ≡ Some []
      by (Some b) is h rest = rest (is ∙ h)
      by None is h rest = begun_none (with_begun lists w) ws is ∙ began_one lists w h

  -- a list is as it was, or it begins at a write that passes the test of all
  pub begun_names : (passes : Write → Bool) (ws : List Write) → list_all passes ws ≡ true → (lists : Lists) (names : ChildNames)
      → names_at (fold with_begun lists ws) p ≡ Some names → (names_at lists p ≡ Some names) ⊎ ((names ≡ []) × (passes (Here p) ≡ true))
  begun_names passes [] all lists names h = inl h
  begun_names passes (w ∷ ws) all lists names h = by (begun_names passes ws (second _ _ all) (with_begun lists w) names h)
    where
      one : (w : Write) → passes w ≡ true → names_at (with_begun lists w) p ≡ Some names → (names_at lists p ≡ Some names) ⊎ ((names ≡ []) × (passes (Here p) ≡ true))
      one (Here q) ok h = at (eq_by_cmp path_cmp p q) refl (sym (lookup-insert_entry path_cmp path_total p q [] lists) ∙ h)
        where
          at : (b : Bool) → eq_by_cmp path_cmp p q ≡ b → cond b (Some []) (names_at lists p) ≡ Some names → (names_at lists p ≡ Some names) ⊎ ((names ≡ []) × (passes (Here p) ≡ true))
          at true same h = inr (sym (ap (λ o. unwrap_or o []) h), ap (λ (r : Path). passes (Here r)) (same_path p q same) ∙ ok)
          at false same h = inl h
      one (Gone q) ok h = inl h
      one (Put q n x) ok h = inl h
      one (Unset q n) ok h = inl h

      by : (names_at (with_begun lists w) p ≡ Some names) ⊎ ((names ≡ []) × (passes (Here p) ≡ true)) → (names_at lists p ≡ Some names) ⊎ ((names ≡ []) × (passes (Here p) ≡ true))
      by (inl h) = one w (first _ _ all) h
      by (inr r) = inr r

  -- ---- a change of the names above a path

  changed_at : (change : ChildNames → ChildNames) (lists : Lists) (q : Path) (o : Option ChildNames) → names_at lists q ≡ o
      → names_at (option_map_or (λ names. set_value (is_at (path_cmp q)) lists (change names)) o lists) p ≡ cond (eq_by_cmp path_cmp p q) (option_map change (names_at lists p)) (names_at lists p)
  changed_at change lists q None is = by (eq_by_cmp path_cmp p q) refl
    where
      by : (b : Bool) → eq_by_cmp path_cmp p q ≡ b → names_at lists p ≡ cond b (option_map change (names_at lists p)) (names_at lists p)
      by true same = let none : names_at lists p ≡ None = ap (names_at lists) (same_path p q same) ∙ is in none ∙ ap (option_map change) (sym none)
      by false same = refl
  changed_at change lists q (Some names) is =
      lookup-set_value (eq_by_cmp_equiv path_total) (is_at (path_cmp q)) one p (change names) lists (ap is_some is) ∙ by (eq_by_cmp path_cmp p q) refl
    where
      one : (a b : Path) → eq_by_cmp path_cmp q a ≡ true → eq_by_cmp path_cmp q b ≡ eq_by_cmp path_cmp a b
      one a b e = ap (λ c. eq_by_cmp path_cmp c b) (same_path q a e)

      turned : eq_by_cmp path_cmp q p ≡ eq_by_cmp path_cmp p q
      turned = (eq_by_cmp_equiv path_total).symm q p

      by : (b : Bool) → eq_by_cmp path_cmp p q ≡ b → cond (eq_by_cmp path_cmp q p) (Some (change names)) (names_at lists p) ≡ cond b (option_map change (names_at lists p)) (names_at lists p)
      by true same =
          ap (λ b. cond b (Some (change names)) (names_at lists p)) (turned ∙ same)
          ∙ ap (option_map change) (sym (ap (names_at lists) (same_path p q same) ∙ is))
      by false same = ap (λ b. cond b (Some (change names)) (names_at lists p)) (turned ∙ same)

  -- what a change at a path makes of the names of the children of p
  abbrev pub change_in : (Name → ChildNames → ChildNames) → Path → ChildNames → ChildNames
  change_in change q names = cond (is_child_of p q) (option_map_or (λ n. change n names) (last_name q) names) names

  above_at : (change : Name → ChildNames → ChildNames) (lists : Lists) (q : Path) → names_at (with_change_above change lists q) p ≡ option_map (change_in change q) (names_at lists p)
  above_at change lists q = by (ends q)
    where
      either : (b : Bool) (f : ChildNames → ChildNames) (o : Option ChildNames) → cond b (option_map f o) o ≡ option_map (λ names. cond b (f names) names) o
      either true f o = refl
      either false f o = map_same o

      child : (above : Path) (n : Name) → names_at (with_change_above change lists (above ++ n ∷ [])) p ≡ option_map (change_in change (above ++ n ∷ [])) (names_at lists p)
      child above n =
          ap (λ o. names_at (option_map_or (λ m. option_map_or (with_changed (change m) lists) (parent_of (above ++ n ∷ [])) lists) o lists) p) (last_name-child above n)
          ∙ (ap (λ o. names_at (option_map_or (with_changed (change n) lists) o lists) p) (parent_of-child above n)
          ∙ (changed_at (change n) lists above (names_at lists above) refl
          ∙ (either (eq_by_cmp path_cmp p above) (change n) (names_at lists p)
          ∙ (ap (λ b. option_map (λ names. cond b (change n names) names) (names_at lists p)) (sym (child_is p above n))
          ∙ ap (λ o. option_map (λ names. cond (is_child_of p (above ++ n ∷ [])) (option_map_or (λ m. change m names) o names) names) (names_at lists p)) (sym (last_name-child above n))))))

      by : (q ≡ []) ⊎ ((above : Path) × (n : Name) × (q ≡ above ++ n ∷ [])) → names_at (with_change_above change lists q) p ≡ option_map (change_in change q) (names_at lists p)
      by (inl e) = rw e (map_same (names_at lists p))
      by (inr r) = rw r.2 (child r.0 r.1)

  module _ (by : Option Revision) where
    -- what a write makes of the names of the children of p
    abbrev pub named_in : ChildNames → Write → ChildNames
    named_in names (Here q) = change_in (with_name by) q names
    named_in names (Gone q) = change_in without_name q names
    named_in names (Put q n x) = names
    named_in names (Unset q n) = names

    listed_one : (lists : Lists) (w : Write) → names_at (with_listed by lists w) p ≡ option_map (λ names. named_in names w) (names_at lists p)
    listed_one lists (Here q) = above_at (with_name by) lists q
    listed_one lists (Gone q) = above_at without_name lists q
    listed_one lists (Put q n x) = map_same (names_at lists p)
    listed_one lists (Unset q n) = map_same (names_at lists p)

    listed_all : (lists : Lists) (ws : List Write) → names_at (fold (with_listed by) lists ws) p ≡ option_map (λ names. fold named_in names ws) (names_at lists p)
    listed_all lists [] = map_same (names_at lists p)
    listed_all lists (w ∷ ws) =
        listed_all (with_listed by lists w) ws
        ∙ (ap (λ (o : Option ChildNames). option_map (λ names. fold named_in names ws) o) (listed_one lists w)
        ∙ map_twice (λ names. fold named_in names ws) (λ names. named_in names w) (names_at lists p))

    pub listed_after : (lists : Lists) (ws : List Write) → names_at (lists_after by lists ws) p ≡ option_map (λ names. fold named_in names ws) (names_at (fold with_begun lists ws) p)
    listed_after lists ws = listed_all (fold with_begun lists ws) ws

    -- ---- the order of the names

    kept_sorted : (change : Name → ChildNames → ChildNames) → ((n : Name) (names : ChildNames) → is_sorted name_cmp names ≡ true → is_sorted name_cmp (change n names) ≡ true)
        → (q : Path) (names : ChildNames) → is_sorted name_cmp names ≡ true → is_sorted name_cmp (change_in change q names) ≡ true
    kept_sorted change keeps q names sorted = at (is_child_of p q) (last_name q)
      where
        at : (b : Bool) (o : Option Name) → is_sorted name_cmp (cond b (option_map_or (λ n. change n names) o names) names) ≡ true
        at true (Some n) = keeps n names sorted
        at true None = sorted
        at false o = sorted

    sorted_one : (names : ChildNames) (w : Write) → is_sorted name_cmp names ≡ true → is_sorted name_cmp (named_in names w) ≡ true
    sorted_one names (Here q) sorted = kept_sorted (with_name by) (λ n ns s. sorted_insert name_cmp nat_list_cmp_total n by ns s) q names sorted
    sorted_one names (Gone q) sorted = kept_sorted without_name (λ n ns s. sorted_remove name_cmp (is_at (name_cmp n)) ns s) q names sorted
    sorted_one names (Put q n x) sorted = sorted
    sorted_one names (Unset q n) sorted = sorted

    pub sorted_all : (names : ChildNames) (ws : List Write) → is_sorted name_cmp names ≡ true → is_sorted name_cmp (fold named_in names ws) ≡ true
    sorted_all names [] sorted = sorted
    sorted_all names (w ∷ ws) sorted = sorted_all (named_in names w) ws (sorted_one names w sorted)

    -- ---- what is listed at a name

    -- what the last write of a child makes of what is listed of it
    abbrev pub after_write : Option Bool → Option (Option Revision) → Option (Option Revision)
    after_write None o = o
    after_write (Some true) o = Some by
    after_write (Some false) o = None

    after_both : (a b : Option Bool) (o : Option (Option Revision)) → after_write a (after_write b o) ≡ after_write (option_or a b) o
    after_both None b o = refl
    after_both (Some true) b o = refl
    after_both (Some false) b o = refl

    module _ (n : Name) where
      abbrev child : Path
      child = p ++ n ∷ []

      abbrev pub listed : ChildNames → Option (Option Revision)
      listed names = lookup (is_at (name_cmp n)) names

      out_of : (change : Name → ChildNames → ChildNames) (q : Path) (names : ChildNames) → is_child_of p q ≡ false → change_in change q names ≡ names
      out_of change q names out = ap (λ b. cond b (option_map_or (λ m. change m names) (last_name q) names) names) out

      within : (change : Name → ChildNames → ChildNames) (m : Name) (names : ChildNames) → change_in change (p ++ m ∷ []) names ≡ change m names
      within change m names =
          ap (λ b. cond b (option_map_or (λ m. change m names) (last_name (p ++ m ∷ [])) names) names) (own_child p m)
          ∙ ap (λ o. option_map_or (λ m. change m names) o names) (last_name-child p m)

      come : (b : Bool) (o : Option (Option Revision)) → cond b (Some by) o ≡ after_write (cond b (Some true) None) o
      come true o = refl
      come false o = refl

      go : (b : Bool) (o : Option (Option Revision)) → cond b None o ≡ after_write (cond b (Some false) None) o
      go true o = refl
      go false o = refl

      named_one : (names : ChildNames) (w : Write) → is_sorted name_cmp names ≡ true → listed (named_in names w) ≡ after_write (here_of child w) (listed names)
      named_one names (Here q) sorted = at (child_or_not p q)
        where
          at : (is_child_of p q ≡ false) ⊎ ((m : Name) × (q ≡ p ++ m ∷ [])) → listed (change_in (with_name by) q names) ≡ after_write (cond (eq_by_cmp path_cmp child q) (Some true) None) (listed names)
          at (inl out) = ap listed (out_of (with_name by) q names out) ∙ sym (ap (λ b. after_write (cond b (Some true) None) (listed names)) (apart p q n out))
          at (inr r) =
              ap (λ (x : Path). listed (change_in (with_name by) x names)) r.1
              ∙ (ap listed (within (with_name by) r.0 names)
              ∙ (lookup-insert_entry name_cmp nat_list_cmp_total n r.0 by names
              ∙ (come (eq_by_cmp name_cmp n r.0) (listed names)
              ∙ sym (ap (λ b. after_write (cond b (Some true) None) (listed names)) (ap (eq_by_cmp path_cmp child) r.1 ∙ same_names p n r.0)))))
      named_one names (Gone q) sorted = at (child_or_not p q)
        where
          at : (is_child_of p q ≡ false) ⊎ ((m : Name) × (q ≡ p ++ m ∷ [])) → listed (change_in without_name q names) ≡ after_write (cond (eq_by_cmp path_cmp child q) (Some false) None) (listed names)
          at (inl out) = ap listed (out_of without_name q names out) ∙ sym (ap (λ b. after_write (cond b (Some false) None) (listed names)) (apart p q n out))
          at (inr r) =
              ap (λ (x : Path). listed (change_in without_name x names)) r.1
              ∙ (ap listed (within without_name r.0 names)
              ∙ (lookup-remove name_cmp nat_list_cmp_total n r.0 names sorted
              ∙ (go (eq_by_cmp name_cmp n r.0) (listed names)
              ∙ sym (ap (λ b. after_write (cond b (Some false) None) (listed names)) (ap (eq_by_cmp path_cmp child) r.1 ∙ same_names p n r.0)))))
      named_one names (Put q m x) sorted = refl
      named_one names (Unset q m) sorted = refl

      pub named_all : (names : ChildNames) (ws : List Write) → is_sorted name_cmp names ≡ true → listed (fold named_in names ws) ≡ after_write (written (here_of child) ws) (listed names)
      named_all names [] sorted = refl
      named_all names (w ∷ ws) sorted =
          named_all (named_in names w) ws (sorted_one names w sorted)
          ∙ (ap (after_write (written (here_of child) ws)) (named_one names w sorted)
          ∙ after_both (written (here_of child) ws) (here_of child w) (listed names))

      -- ---- the same in the tree

      same_born : (a b : Option Node) → is_some a ≡ is_some b → born_of a ≡ born_of b → born_in a ≡ born_in b
      same_born None None some born = refl
      same_born None (Some y) some born = absurd (false≢true some)
      same_born (Some x) None some born = absurd (false≢true (sym some))
      same_born (Some x) (Some y) some born = ap (λ (r : Option Revision). Some r) born

      stood_born : (o : Option Node) (h : Option Bool) → born_in (stood by o h) ≡ after_write h (born_in o)
      stood_born o None = refl
      stood_born o (Some true) = refl
      stood_born o (Some false) = refl

      pub named_in_tree : (t : Nodes) (ws : List Write) → InOrder t → listed (dated_children_of (applied by t ws) p) ≡ after_write (written (here_of child) ws) (listed (dated_children_of t p))
      named_in_tree t ws sorted =
          named_child p n (applied by t ws)
          ∙ (ap born_in (node_at-applied by child t ws sorted)
          ∙ (same_born _ _ (fills_has child _ (last_writes ws)) (fills_born child _ (last_writes ws))
          ∙ (ap born_in (nodes_written by child (node_at t child) ws)
          ∙ (stood_born (node_at t child) (written (here_of child) ws)
          ∙ ap (after_write (written (here_of child) ws)) (sym (named_child p n t))))))

    -- the names after an edit are those of the tree after it
    pub names_follow : (t : Nodes) (ws : List Write) → InOrder t → fold named_in (dated_children_of t p) ws ≡ dated_children_of (applied by t ws) p
    names_follow t ws sorted =
        let before : is_sorted name_cmp (dated_children_of t p) ≡ true = children_sorted p t sorted in
        same_lists name_cmp nat_list_cmp_total name_exact (fold named_in (dated_children_of t p) ws) (dated_children_of (applied by t ws) p)
        (sorted_all (dated_children_of t p) ws before) (children_sorted p (applied by t ws) (order-applied by t ws sorted))
        (λ n. named_all n (dated_children_of t p) ws before ∙ sym (named_in_tree n t ws sorted))

-- ---- the names of each list rise after an edit as before

all_pass : (ws : List Write) → list_all (λ w. true) ws ≡ true
all_pass [] = refl
all_pass (w ∷ ws) = all_pass ws

pub begun_rising : (lists : Lists) (ws : List Write) → HaveRisingNames lists → HaveRisingNames (fold with_begun lists ws)
begun_rising lists ws rising = λ p names h. by p names (begun_names p (λ w. true) ws (all_pass ws) lists names h)
  where
    by : (p : Path) (names : ChildNames) → (names_at lists p ≡ Some names) ⊎ ((names ≡ []) × (true ≡ true)) → is_sorted name_cmp names ≡ true
    by p names (inl h) = rising p names h
    by p names (inr r) = ap (is_sorted name_cmp) r.0

pub listed_rising : (by : Option Revision) (lists : Lists) (ws : List Write) → HaveRisingNames lists → HaveRisingNames (fold (with_listed by) lists ws)
listed_rising by lists ws rising = λ p names h. at p names (names_at lists p) refl (sym (listed_all p by lists ws) ∙ h)
  where
    at : (p : Path) (names : ChildNames) (o : Option ChildNames) → names_at lists p ≡ o → option_map (λ names. fold (named_in p by) names ws) o ≡ Some names → is_sorted name_cmp names ≡ true
    at p names None is h = absurd (false≢true (ap is_some h))
    at p names (Some before) is h = subst (λ (ns : ChildNames). is_sorted name_cmp ns ≡ true) (ap (λ o. unwrap_or o []) h) (sorted_all p by before ws (rising p before is))

pub after_rising : (by : Option Revision) (lists : Lists) (ws : List Write) → HaveRisingNames lists → HaveRisingNames (lists_after by lists ws)
after_rising by lists ws rising = listed_rising by (fold with_begun lists ws) ws (begun_rising lists ws rising)
