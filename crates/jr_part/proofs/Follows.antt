-- A part follows an edit: it agrees with the tree after it, and nothing lacks.
use Rattle.std.proofs.Common.{◌≡◌, ◌⊎◌, inl, inr, Bool, true, false, cond, Some, None, Option, List, [], ◌∷◌, ◌++◌, is_some, is_none, refl, sym, ap, ◌∙◌, subst, append_assoc, append-nil}
use Rattle.std.specs.Ordering.{eq_by_cmp}
use Rattle.std.specs.Option.{option_map, option_map_or, unwrap_or}
use Rattle.std.specs.Map.{lookup}
use Rattle.std.specs.BTreeMap.{is_at, insert_entry}
use Rattle.std.specs.FinMap.{is_sorted}
use Rattle.std.specs.List.{fold}
use mathlib.Core.Bool.{false≢true}
use Rattle.jr_path.specs.Names.{name_cmp, path_cmp}
use Rattle.jr_path.specs.declared.name.Name.{Name}
use Rattle.jr_path.specs.declared.path.Path.{Path}
use Rattle.jr_path.proofs.Maps.{lookup-insert_entry, path_total}
use Rattle.jr_rev.specs.declared.revision.Revision.{Revision}
use Rattle.jr_tree.specs.declared.edit.Write.{Write}
use Rattle.jr_tree.specs.declared.edit.Write.TheVariants.{Here}
use Rattle.jr_tree.specs.declared.tree.Node.{Node}
use Rattle.jr_tree.specs.Edits.{IsProper, applied, is_change}
use Rattle.jr_tree.specs.Items.{here_of, written}
use Rattle.jr_tree.specs.Trees.{IsTree, Nodes, dated_children_of, node_at}
use Rattle.jr_tree.proofs.EditLaw.{has_applied}
use Rattle.jr_tree.proofs.Entries.{first, second}
use Rattle.jr_part.specs.declared.need.Need.TheVariants as need
use Rattle.jr_part.specs.Parts.{AgreesWith, ChildNames, HaveRisingNames, IsReached, Knowledge, LacksNothing, has_name, is_absent, known_at, leads_down, list_at, lists_child}
use Rattle.jr_part.specs.Follows.{followed, with_begun}
use Rattle.jr_part.proofs.Lists.{after_rising, after_write, begun_names, begun_none, begun_rising, begun_some, listed_after, named_all, named_in, names_at, names_follow}
use Rattle.jr_part.proofs.Named.{none_without}
use Rattle.jr_part.proofs.Ways.{Lists, There, lists_from, nothing_child, reached_itself, there_known}
use Rattle.jr_part.proofs.Whole.{tree_whole}

none_of : {X : Type 0} (o : Option X) → is_none o ≡ true → o ≡ None
none_of None h = refl
none_of (Some x) h = absurd (false≢true h)

map_there : {X Y : Type 0} (f : X → Y) (o : Option X) → is_some o ≡ true → is_some (option_map f o) ≡ true
map_there f None h = absurd (false≢true h)
map_there f (Some x) h = refl

module _ (by : Option Revision) (k : Knowledge) (ws : List Write) (sorted : is_sorted path_cmp k.nodes ≡ true) where
  abbrev then : Knowledge
  then = followed by k ws

  abbrev begun : Path → Option ChildNames
  begun p = names_at (fold with_begun k.lists ws) p

  abbrev changed : Path → ChildNames → ChildNames
  changed p names = fold (named_in p by) names ws

  -- ---- it agrees with the tree after the edit

  pub follows_agrees : LacksNothing k need.All → (t : Nodes) → IsTree t → IsProper t ws → AgreesWith t k → AgreesWith (applied by t ws) then
  follows_agrees nothing t tree proper agrees = record {
    nodes = λ p answer h. answered (node_at then.nodes p) (is_absent then p) answer h ∙ ap (λ (es : Nodes). node_at (applied by es ws) p) same;
    lists = λ p names h. listed p names (begun p) refl (sym (listed_after p by k.lists ws) ∙ h);
  }
    where
      same : k.nodes ≡ t
      same = tree_whole k sorted nothing t tree agrees

      answered : (o : Option Node) (b : Bool) (answer : Option Node) → cond (is_some o) (Some o) (cond b (Some None) None) ≡ Some answer → answer ≡ o
      answered None true answer h = sym (ap (λ x. unwrap_or x None) h)
      answered None false answer h = absurd (false≢true (ap is_some h))
      answered (Some x) b answer h = sym (ap (λ y. unwrap_or y None) h)

      before : (p : Path) (names : ChildNames) → (list_at k p ≡ Some names) ⊎ ((names ≡ []) × (is_change t (applied None t ws) (Here p) ≡ true)) → names ≡ dated_children_of t p
      before p names (inl h) = agrees.lists p names h
      before p names (inr r) = r.0 ∙ sym (none_without p t tree (none_of (node_at t p) (first _ _ r.1)))

      listed : (p : Path) (names : ChildNames) (o : Option ChildNames) → begun p ≡ o → option_map (changed p) o ≡ Some names → names ≡ dated_children_of (applied by t ws) p
      listed p names None is h = absurd (false≢true (ap is_some h))
      listed p names (Some ns) is h =
          sym (ap (λ o. unwrap_or o []) h)
          ∙ (ap (changed p) (before p ns (begun_names p (is_change t (applied None t ws)) ws proper.changing k.lists ns is))
          ∙ names_follow p by t ws tree.paths)

  -- ---- nothing lacks

  -- the last write of the node at a path
  abbrev last : Path → Option Bool
  last p = written (here_of p) ws

  has_then : (p : Path) → is_some (node_at then.nodes p) ≡ unwrap_or (last p) (is_some (node_at k.nodes p))
  has_then p = has_applied by k.nodes ws sorted p

  absent_more : (p : Path) → is_absent k p ≡ true → is_absent then p ≡ true
  absent_more p h = at (is_some (node_at then.nodes []))
    where
      more : (b : Bool) → is_some (cond b (Some tt) (lookup (is_at (path_cmp p)) k.absent)) ≡ true
      more true = refl
      more false = h

      at : (b : Bool) → is_some (lookup (is_at (path_cmp p)) (cond b k.absent (insert_entry path_cmp k.absent [] tt))) ≡ true
      at true = h
      at false = ap is_some (lookup-insert_entry path_cmp path_total p [] tt k.absent) ∙ more (eq_by_cmp path_cmp p [])

  -- what is asked of a node that names lead down to is known
  abbrev IsGood : Path → Type 0
  IsGood p = (is_some (known_at then p) ≡ true) × (There then p → is_some (list_at then p) ≡ true)

  -- the node came by the edit, or no write of it stands there and nothing lacked below it
  abbrev Came : Path → Type 0
  Came p = last p ≡ Some true

  abbrev Stayed : Path → Type 0
  Stayed p = (last p ≡ None) × LacksNothing k (need.Subtree p)

  there_good : (p : Path) → There then p → is_some (known_at then p) ≡ true
  there_good p there = ap is_some (there_known then p there)

  list_good : (p : Path) → is_some (begun p) ≡ true → is_some (list_at then p) ≡ true
  list_good p h = ap is_some (listed_after p by k.lists ws) ∙ map_there (changed p) (begun p) h

  known_still : (o now : Option Node) (a b : Bool) → is_some now ≡ is_some o → (a ≡ true → b ≡ true)
      → is_some (cond (is_some o) (Some o) (cond a (Some None) None)) ≡ true → is_some (cond (is_some now) (Some now) (cond b (Some None) None)) ≡ true
  known_still o (Some x) a b same more h = refl
  known_still (Some x) None a b same more h = absurd (false≢true same)
  known_still None None true b same more h = ap (λ c. is_some {T = Option Node} (cond c (Some None) None)) (more refl)
  known_still None None false b same more h = absurd (false≢true h)

  good : (p : Path) → Came p ⊎ Stayed p → IsGood p
  good p (inl came) =
      let there : There then p = has_then p ∙ ap (λ o. unwrap_or o (is_some (node_at k.nodes p))) came in
      (there_good p there, λ h. list_good p (ap is_some (begun_some p k.lists ws came)))
  good p (inr stayed) =
      let same : is_some (node_at then.nodes p) ≡ is_some (node_at k.nodes p) = has_then p ∙ ap (λ o. unwrap_or o (is_some (node_at k.nodes p))) stayed.0 in
      let known : is_some (known_at k p) ≡ true = stayed.1 (need.Node p) (reached_itself k p) in (
        known_still (node_at k.nodes p) (node_at then.nodes p) (is_absent k p) (is_absent then p) same (absent_more p) known,
        λ there. list_good p (ap is_some (begun_none p k.lists ws stayed.0) ∙ stayed.1 (need.Children p) (reached_itself k p, sym same ∙ there)),
      )

  module _ (rising : HaveRisingNames k.lists) where
    listed_then : (p : Path) (n : Name) (ns : ChildNames) → begun p ≡ Some ns → lists_child then p n ≡ is_some (after_write p by (last (p ++ n ∷ [])) (lookup (is_at (name_cmp n)) ns))
    listed_then p n ns is =
        lists_from then p (changed p ns) n (listed_after p by k.lists ws ∙ ap (option_map (changed p)) is)
        ∙ ap is_some (named_all p by n ns ws (begun_rising k.lists ws rising p ns is))

    step : (p : Path) (n : Name) → Came p ⊎ Stayed p → There then p → Lists then p n → Came (p ++ n ∷ []) ⊎ Stayed (p ++ n ∷ [])
    step p n state there lists = at (begun p) refl (last (p ++ n ∷ [])) refl
      where
        kept : (ns : ChildNames) → begun p ≡ Some ns → has_name ns n ≡ true → last (p ++ n ∷ []) ≡ None → Came p ⊎ Stayed p → Came (p ++ n ∷ []) ⊎ Stayed (p ++ n ∷ [])
        kept ns is has none (inl came) =
            absurd (false≢true (ap (λ (o : Option ChildNames). option_map_or (λ names. has_name names n) o false) (sym (begun_some p k.lists ws came) ∙ is) ∙ has))
        kept ns is has none (inr stayed) =
            let same : is_some (node_at then.nodes p) ≡ is_some (node_at k.nodes p) = has_then p ∙ ap (λ o. unwrap_or o (is_some (node_at k.nodes p))) stayed.0 in
            let named : Lists k p n = lists_from k p ns n (sym (begun_none p k.lists ws stayed.0) ∙ is) ∙ has in
            inr (none, nothing_child k p n (sym same ∙ there) named stayed.1)

        at : (o : Option ChildNames) → begun p ≡ o → (h : Option Bool) → last (p ++ n ∷ []) ≡ h → Came (p ++ n ∷ []) ⊎ Stayed (p ++ n ∷ [])
        at None is h was =
            absurd (false≢true (sym (ap (λ (o : Option ChildNames). option_map_or (λ names. has_name names n) o false) (listed_after p by k.lists ws ∙ ap (option_map (changed p)) is)) ∙ lists))
        at (Some ns) is (Some true) was = inl was
        at (Some ns) is (Some false) was =
            absurd (false≢true (sym (listed_then p n ns is ∙ ap (λ h. is_some (after_write p by h (lookup (is_at (name_cmp n)) ns))) was) ∙ lists))
        at (Some ns) is None was =
            kept ns is (sym (listed_then p n ns is ∙ ap (λ h. is_some (after_write p by h (lookup (is_at (name_cmp n)) ns))) was) ∙ lists) was state

    below : (ns : List Name) (p : Path) → Came p ⊎ Stayed p → leads_down then p ns ≡ true → IsGood (p ++ ns)
    below [] p state down = subst IsGood (sym (append-nil p)) (good p state)
    below (n ∷ ns) p state down =
        let here = first _ _ down in
        subst IsGood (append_assoc p (n ∷ []) ns) (below ns (p ++ n ∷ []) (step p n state (first _ _ here) (second _ _ here)) (second _ _ down))

    module _ (nothing : LacksNothing k need.All) where
      -- the edit took the root
      rootless : (ns : List Name) → last [] ≡ Some false → leads_down then [] ns ≡ true → IsGood ns
      rootless ns gone = at ns
        where
          none : is_some (node_at then.nodes []) ≡ false
          none = has_then [] ∙ ap (λ o. unwrap_or o (is_some (node_at k.nodes []))) gone

          noted : is_absent then [] ≡ true
          noted =
              ap (λ b. is_some (lookup (is_at (path_cmp [])) (cond b k.absent (insert_entry path_cmp k.absent [] tt)))) none
              ∙ ap is_some (lookup-insert_entry path_cmp path_total [] [] tt k.absent)

          known : (o : Option Node) (b : Bool) → b ≡ true → is_some (cond (is_some o) (Some o) (cond b (Some None) None)) ≡ true
          known (Some x) b h = refl
          known None b h = ap (λ c. is_some {T = Option Node} (cond c (Some None) None)) h

          at : (ns : List Name) → leads_down then [] ns ≡ true → IsGood ns
          at [] down = (known (node_at then.nodes []) (is_absent then []) noted, λ there. absurd (false≢true (sym none ∙ there)))
          at (n ∷ ns) down = absurd (false≢true (sym none ∙ first _ _ (first _ _ down)))

      reached : (ns : List Name) (h : Option Bool) → last [] ≡ h → leads_down then [] ns ≡ true → IsGood ns
      reached ns (Some true) is down = below ns [] (inl is) down
      reached ns None is down = below ns [] (inr (is, nothing)) down
      reached ns (Some false) is down = rootless ns is down

      good_at : (p : Path) → IsReached then [] p → IsGood p
      good_at p r = subst IsGood (sym r.path) (reached r.names (last []) refl r.down)

      pub follows_whole : LacksNothing then need.All
      follows_whole (need.Node p) asked = (good_at p asked).0
      follows_whole (need.Children p) asked = (good_at p asked.0).1 asked.1
      follows_whole (need.Subtree p) asked = absurd asked
      follows_whole need.All asked = absurd asked

-- ---- what is known now, once the parts followed

module _ (by : Option Revision) (before k now : Knowledge) (ws : List Write) (view : before ≡ k) (follows : now ≡ followed by before ws) where
  same_now : now ≡ followed by k ws
  same_now = follows ∙ ap (λ (x : Knowledge). followed by x ws) view

  pub rising_now : HaveRisingNames k.lists → HaveRisingNames now.lists
  rising_now rising = subst (λ (x : Knowledge). HaveRisingNames x.lists) (sym same_now) (after_rising by k.lists ws rising)

  pub whole_now : is_sorted path_cmp k.nodes ≡ true → HaveRisingNames k.lists → LacksNothing k need.All → LacksNothing now need.All
  whole_now sorted rising nothing = subst (λ (x : Knowledge). LacksNothing x need.All) (sym same_now) (follows_whole by k ws sorted rising nothing)

  pub agrees_now : is_sorted path_cmp k.nodes ≡ true → LacksNothing k need.All → (t : Nodes) → IsTree t → IsProper t ws → AgreesWith t k → AgreesWith (applied by t ws) now
  agrees_now sorted nothing t tree proper agrees = subst (λ (x : Knowledge). AgreesWith (applied by t ws) x) (sym same_now) (follows_agrees by k ws sorted nothing t tree proper agrees)
