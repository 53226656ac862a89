-- What a subtree asks for: the node, its children, and what the subtree of each child asks for.
use Rattle.std.proofs.Common.{◌≡◌, ◌⊎◌, inl, inr, Bool, true, false, cond, Some, None, Option, List, [], ◌∷◌, ◌++◌, is_some, refl, sym, ap, ◌∙◌, subst, append_assoc, append-nil}
use Rattle.std.specs.Option.{option_map_or, unwrap_or}
use mathlib.Core.Bool.{false≢true}
use Rattle.jr_path.specs.declared.name.Name.{Name}
use Rattle.jr_path.specs.declared.path.Path.{Path}
use Rattle.jr_tree.specs.declared.tree.Node.{Node}
use Rattle.jr_tree.specs.Trees.{node_at}
use Rattle.jr_tree.proofs.Entries.{both, first, second}
use Rattle.jr_part.specs.declared.need.Need.{Need}
use Rattle.jr_part.specs.declared.need.Need.TheVariants as need
use Rattle.jr_part.specs.Parts.{AsksBelow, ChildNames, IsReached, Knowledge, LacksNothing, is_absent, known_at, knows, leads_down, list_at, lists_child, need_path, has_name}

module _ (k : Knowledge) where
  abbrev pub There : Path → Type 0
  There p = is_some (node_at k.nodes p) ≡ true

  abbrev pub Lists : Path → Name → Type 0
  Lists p n = lists_child k p n ≡ true

  -- ---- what is known of a node

  pub known_there : (p : Path) (node : Node) → known_at k p ≡ Some (Some node) → node_at k.nodes p ≡ Some node
  known_there p node h = by (node_at k.nodes p) (is_absent k p) h
    where
      by : (o : Option Node) (b : Bool) → cond (is_some o) (Some o) (cond b (Some None) None) ≡ Some (Some node) → o ≡ Some node
      by None true h = absurd (false≢true (ap (λ o. is_some (unwrap_or o None)) h))
      by None false h = absurd (false≢true (ap is_some h))
      by (Some x) b h = ap (λ o. unwrap_or o None) h

  pub there_known : (p : Path) → There p → known_at k p ≡ Some (node_at k.nodes p)
  there_known p there = ap (λ b. cond b (Some (node_at k.nodes p)) (cond (is_absent k p) (Some None) None)) there

  pub there_is : (p : Path) (node : Node) → known_at k p ≡ Some (Some node) → There p
  there_is p node h = ap is_some (known_there p node h)

  none_there : (p : Path) → known_at k p ≡ Some None → There p → ⊥
  none_there p none there = false≢true (sym (ap (λ o. is_some (unwrap_or o None)) (sym (there_known p there) ∙ none)) ∙ there)

  pub lists_from : (p : Path) (names : ChildNames) (n : Name) → list_at k p ≡ Some names → lists_child k p n ≡ has_name names n
  lists_from p names n is = ap (λ o. option_map_or (λ ns. has_name ns n) o false) is

  -- ---- names lead down through a child

  reached_below : (p q : Path) (n : Name) → There p → Lists p n → IsReached k (p ++ n ∷ []) q → IsReached k p q
  reached_below p q n there lists r = record {
    names = n ∷ r.names;
    path = r.path ∙ append_assoc p (n ∷ []) r.names;
    down = both _ _ (both _ _ there lists) r.down;
  }

  below_reached : (p q : Path) → IsReached k p q → (q ≡ p) ⊎ ((n : Name) × There p × Lists p n × IsReached k (p ++ n ∷ []) q)
  below_reached p q r = by r.names r.path r.down
    where
      by : (ns : List Name) → q ≡ p ++ ns → leads_down k p ns ≡ true → (q ≡ p) ⊎ ((n : Name) × There p × Lists p n × IsReached k (p ++ n ∷ []) q)
      by [] path down = inl (path ∙ append-nil p)
      by (n ∷ ns) path down = inr (n, first _ _ (first _ _ down), second _ _ (first _ _ down), record { names = ns; path = path ∙ sym (append_assoc p (n ∷ []) ns); down = second _ _ down })

  pub reached_itself : (p : Path) → IsReached k p p
  reached_itself p = record { names = []; path = sym (append-nil p); down = refl }

  -- ---- what is asked through a child

  abbrev pub AsksChild : Path → Need → Type 0
  AsksChild p m = (n : Name) × There p × Lists p n × AsksBelow k (p ++ n ∷ []) m

  pub asks_below : (p : Path) (n : Name) (m : Need) → There p → Lists p n → AsksBelow k (p ++ n ∷ []) m → AsksBelow k p m
  asks_below p n (need.Node q) there lists a = reached_below p q n there lists a
  asks_below p n (need.Children q) there lists a = (reached_below p q n there lists a.0, a.1)
  asks_below p n (need.Subtree q) there lists a = a
  asks_below p n need.All there lists a = a

  pub below_asks : (p : Path) (m : Need) → AsksBelow k p m → (m ≡ need.Node p) ⊎ (((m ≡ need.Children p) × There p) ⊎ AsksChild p m)
  below_asks p (need.Node q) a = by (below_reached p q a)
    where
      by : (q ≡ p) ⊎ ((n : Name) × There p × Lists p n × IsReached k (p ++ n ∷ []) q) → (need.Node q ≡ need.Node p) ⊎ (((need.Node q ≡ need.Children p) × There p) ⊎ AsksChild p (need.Node q))
      by (inl e) = inl (ap (λ (x : Path). need.Node x) e)
      by (inr r) = inr (inr (r.0, r.1, r.2, r.3))
  below_asks p (need.Children q) a = by (below_reached p q a.0)
    where
      by : (q ≡ p) ⊎ ((n : Name) × There p × Lists p n × IsReached k (p ++ n ∷ []) q) → (need.Children q ≡ need.Node p) ⊎ (((need.Children q ≡ need.Children p) × There p) ⊎ AsksChild p (need.Children q))
      by (inl e) = inr (inl (ap (λ (x : Path). need.Children x) e, subst (λ (x : Path). There x) e a.1))
      by (inr r) = inr (inr (r.0, r.1, r.2, (r.3, a.1)))
  below_asks p (need.Subtree q) a = absurd a
  below_asks p need.All a = absurd a

  pub path_below : (p : Path) (m : Need) → AsksBelow k p m → (ns : List Name) × (need_path m ≡ p ++ ns)
  path_below p (need.Node q) a = (a.names, a.path)
  path_below p (need.Children q) a = (a.0.names, a.0.path)
  path_below p (need.Subtree q) a = absurd a
  path_below p need.All a = absurd a

  -- ---- when nothing lacks

  pub nothing_child : (p : Path) (n : Name) → There p → Lists p n → LacksNothing k (need.Subtree p) → LacksNothing k (need.Subtree (p ++ n ∷ []))
  nothing_child p n there lists nothing = λ m a. nothing m (asks_below p n m there lists a)

  pub nothing_absent : (p : Path) → known_at k p ≡ Some None → LacksNothing k (need.Subtree p)
  nothing_absent p none = λ m a. by m (below_asks p m a)
    where
      by : (m : Need) → (m ≡ need.Node p) ⊎ (((m ≡ need.Children p) × There p) ⊎ AsksChild p m) → knows k m ≡ true
      by m (inl e) = ap (knows k) e ∙ ap is_some none
      by m (inr (inl e)) = absurd (none_there p none e.1)
      by m (inr (inr r)) = absurd (none_there p none r.1)

  pub nothing_among : (p : Path) (names : ChildNames) → There p → list_at k p ≡ Some names → ((n : Name) → has_name names n ≡ true → LacksNothing k (need.Subtree (p ++ n ∷ []))) → LacksNothing k (need.Subtree p)
  nothing_among p names there is fine = λ m a. by m (below_asks p m a)
    where
      by : (m : Need) → (m ≡ need.Node p) ⊎ (((m ≡ need.Children p) × There p) ⊎ AsksChild p m) → knows k m ≡ true
      by m (inl e) = ap (knows k) e ∙ ap is_some (there_known p there)
      by m (inr (inl e)) = ap (knows k) e.0 ∙ ap is_some is
      by m (inr (inr r)) = fine r.0 (sym (lists_from p names r.0 is) ∙ r.2) m r.3
