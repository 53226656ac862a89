-- Rounds of loading end: all that a command may load of a tree is in one list, and each round learns one of it.
use Rattle.std.proofs.Common.{◌≡◌, ◌⊎◌, inl, inr, ◌∙◌, ◌++◌, ℕ, ◌+◌, ◌*◌, ◌≤◌, Bool, true, false, cond, List, [], ◌∷◌, length, Option, None, Some, is_some, refl, sym, ap, subst, append-nil, append_assoc, arith}
use Rattle.std.specs.List.{All}
use Rattle.std.specs.Option.{option_map, option_map_or}
use Rattle.std.specs.Ordering.{eq_by_cmp}
use Rattle.std.proofs.lemmas.Bool.{or_right}
use Rattle.std.proofs.lemmas.List.Elements.{All-cons, All-contains, All-nil}
use mathlib.Core.Bool.{false≢true}
use Rattle.jr_path.specs.Names.{parent_of, path_cmp}
use Rattle.jr_path.specs.declared.name.Name.{Name}
use Rattle.jr_path.specs.declared.path.Path.{Path}
use Rattle.jr_tree.specs.declared.shared.Who.{Who}
use Rattle.jr_tree.specs.declared.tree.Node.{Node}
use Rattle.jr_tree.specs.Trees.{Nodes, dated_children_of, node_at}
use Rattle.jr_tree.proofs.Entries.{first, second}
use Rattle.jr_tree.proofs.Pointwise.{same_path}
use Rattle.jr_items.specs.Items.{same_name}
use Rattle.jr_items.specs.Names.{version_storage, versionable}
use Rattle.jr_part.specs.Parts.{AgreesWith, AsksOf, AsksBelow, ChildNames, IsFirstLacking, Knowledge, has_name, known_at, knows, leads_down, list_at}
use Rattle.jr_part.specs.declared.need.Need.{Need}
use Rattle.jr_part.specs.declared.need.Need.TheVariants as need
use Rattle.jr_part.proofs.Puts.{children_agree, node_agrees}
use Rattle.jr_part.proofs.Ways.{Lists, There, lists_from, there_is, there_known}
use Rattle.jr_overlay.specs.Overlays.{AreOver, Changed, change_at, seen}
use Rattle.jr_overlay.proofs.Children.{named_child}
use Rattle.jr_overlay.proofs.Commits.{known_seen}
use Rattle.jcr_trans.specs.declared.command.Command.{Command}
use Rattle.jcr_trans.specs.declared.command.Command.TheVariants as command
use Rattle.jcr_write.specs.Places.{above}
use Rattle.jcr_mixin.specs.Histories.{due_history}
use Rattle.jcr_make.specs.Subtrees.{makes_histories}
use Rattle.jcr_view.specs.Needs.{children_needs, history_needs, listing_needs, needs_of, storage_needs, versionable_needs}
use Rattle.jcr_view.specs.Rounds.{AreLoadsOf, need_answered, loadable, nodes_at, one_path, paths_named, unknown_of}
use Rattle.jcr_view.proofs.Rounds.{answer_keeps, answer_known, one_lacks}

-- ---- one of a list

abbrev pub In : {X : Type 0} → List X → X → Type 0
In [] x = ⊥
In (y ∷ ys) x = (x ≡ y) ⊎ In ys x

-- ---- how many of some needs are unknown

at_most : (k : Knowledge) (xs : List Need) → unknown_of k xs ≤ length xs
at_most k [] = omega arith
at_most k (x ∷ xs) = by (knows k x) (at_most k xs)
  where
    by : (b : Bool) → unknown_of k xs ≤ length xs → cond b 0 1 + unknown_of k xs ≤ length (x ∷ xs)
    by true rest = omega arith
    by false rest = omega arith

module _ (k now : Knowledge) (kept : (x : Need) → knows k x ≡ true → knows now x ≡ true) where
  one_kept : (b c : Bool) → (b ≡ true → c ≡ true) → cond c 0 1 ≤ cond b 0 1
  one_kept b true h = by b
    where
      by : (b : Bool) → 0 ≤ cond b 0 1
      by true = omega arith
      by false = omega arith
  one_kept true false h = absurd (false≢true (h refl))
  one_kept false false h = omega arith

  pub no_more : (xs : List Need) → unknown_of now xs ≤ unknown_of k xs
  no_more [] = omega arith
  no_more (x ∷ xs) =
      let one : cond (knows now x) 0 1 ≤ cond (knows k x) 0 1 = one_kept (knows k x) (knows now x) (kept x) in
      let rest = no_more xs in
      omega arith

  pub fewer : (xs : List Need) (x : Need) → In xs x → knows k x ≡ false → knows now x ≡ true → unknown_of now xs + 1 ≤ unknown_of k xs
  fewer [] x h before after = absurd h
  fewer (y ∷ xs) x (inl same) before after =
      let old : cond {A = ℕ} (knows k y) 0 1 ≡ 1 = ap (λ b. cond {A = ℕ} b 0 1) (ap (knows k) (sym same) ∙ before) in
      let new : cond {A = ℕ} (knows now y) 0 1 ≡ 0 = ap (λ b. cond {A = ℕ} b 0 1) (ap (knows now) (sym same) ∙ after) in
      let rest = no_more xs in
      omega arith
  fewer (y ∷ xs) x (inr h) before after =
      let one : cond (knows now y) 0 1 ≤ cond (knows k y) 0 1 = one_kept (knows k y) (knows now y) (kept y) in
      let rest = fewer xs x h before after in
      omega arith

-- ---- all that may be loaded: the nodes at these paths, and each node of the tree with its children

length_nodes_at : (ps : List Path) → length (nodes_at ps) ≡ length ps
length_nodes_at [] = refl
length_nodes_at (p ∷ ps) = let rest = length_nodes_at ps in omega arith

length_loadable : (ps : List Path) (t : Nodes) → length (loadable ps t) ≡ 2 * length t + length ps
length_loadable ps [] = let e = length_nodes_at ps in omega arith
length_loadable ps (e ∷ t) = let rest = length_loadable ps t in omega arith

pub in_nodes_at : (ps : List Path) (p : Path) → In ps p → In (nodes_at ps) (need.Node p)
in_nodes_at [] p h = h
in_nodes_at (q ∷ ps) p (inl same) = inl (ap (λ (x : Path). need.Node x) same)
in_nodes_at (q ∷ ps) p (inr h) = inr (in_nodes_at ps p h)

named_in : (ps : List Path) (t : Nodes) (p : Path) → In ps p → In (loadable ps t) (need.Node p)
named_in ps [] p h = in_nodes_at ps p h
named_in ps (e ∷ t) p h = inr (inr (named_in ps t p h))

-- a node of the tree is in the list, and its children are
pub there_in : (ps : List Path) (t : Nodes) (p : Path) → is_some (node_at t p) ≡ true
    → In (loadable ps t) (need.Node p) × In (loadable ps t) (need.Children p)
there_in ps [] p is = absurd (false≢true is)
there_in ps (e ∷ t) p is = by (eq_by_cmp path_cmp p e.0) refl is (there_in ps t p)
  where
    by : (b : Bool) → eq_by_cmp path_cmp p e.0 ≡ b → is_some (cond b (Some e.1) (node_at t p)) ≡ true
        → (is_some (node_at t p) ≡ true → In (loadable ps t) (need.Node p) × In (loadable ps t) (need.Children p))
        → In (loadable ps (e ∷ t)) (need.Node p) × In (loadable ps (e ∷ t)) (need.Children p)
    by true same k rest =
        let here : p ≡ e.0 = same_path p e.0 same in
        (inl (ap (λ (x : Path). need.Node x) here), inr (inl (ap (λ (x : Path). need.Children x) here)))
    by false same k rest = let more = rest k in (inr (inr more.0), inr (inr more.1))

-- ---- what a need asks of a part that agrees with the tree

is_born : (o : Option Node) → is_some (option_map {T = Node} (λ node. node.born) o) ≡ true → is_some o ≡ true
is_born None h = h
is_born (Some node) h = refl

module _ (t : Nodes) (k : Knowledge) (agrees : AgreesWith t k) where
  pub known_is : (p : Path) → There k p → is_some (node_at t p) ≡ true
  known_is p there = sym (ap is_some (agrees.nodes p (node_at k.nodes p) (there_known k p there))) ∙ there

  -- where a name is listed the child stands
  pub listed_is : (p : Path) (n : Name) → Lists k p n → is_some (node_at t (p ++ n ∷ [])) ≡ true
  listed_is p n lists = by (list_at k p) refl
    where
      by : (o : Option ChildNames) → list_at k p ≡ o → is_some (node_at t (p ++ n ∷ [])) ≡ true
      by None h = absurd (false≢true (sym (ap (λ o. option_map_or (λ ns. has_name ns n) o false) h) ∙ lists))
      by (Some names) h =
          let named : has_name (dated_children_of t p) n ≡ true =
          ap (λ ns. has_name ns n) (sym (agrees.lists p names h)) ∙ (sym (lists_from k p names n h) ∙ lists) in
          is_born (node_at t (p ++ n ∷ [])) (sym (ap is_some (named_child p n t)) ∙ named)

  module _ (ps : List Path) where
    -- the path is one of those named, or a node of the tree's
    abbrev IsMet : Path → Type 0
    IsMet p = In ps p ⊎ (is_some (node_at t p) ≡ true)

    met_in : (p : Path) → IsMet p → In (loadable ps t) (need.Node p)
    met_in p (inl named) = named_in ps t p named
    met_in p (inr is) = (there_in ps t p is).0

    leads_to : (ns : List Name) (p : Path) → IsMet p → leads_down k p ns ≡ true → IsMet (p ++ ns)
    leads_to [] p met down = subst (λ (q : Path). IsMet q) (sym (append-nil p)) met
    leads_to (n ∷ ns) p met down =
        subst (λ (q : Path). IsMet q) (append_assoc p (n ∷ []) ns)
        (leads_to ns (p ++ n ∷ []) (inr (listed_is p n (second _ _ (first _ _ down)))) (second _ _ down))

    below_in : (p : Path) (asked : Need) → In ps p → AsksBelow k p asked → In (loadable ps t) asked
    below_in p (need.Node q) named a =
        met_in q (subst (λ (r : Path). IsMet r) (sym a.path) (leads_to a.names p (inl named) a.down))
    below_in p (need.Children q) named a = (there_in ps t q (known_is q a.1)).1
    below_in p (need.Subtree q) named a = absurd a
    below_in p need.All named a = absurd a

    -- the need is of a path that is named, or of the children of a node that is known
    abbrev pub IsNamed : Need → Type 0
    IsNamed (need.Node p) = In ps p
    IsNamed (need.Children p) = There k p
    IsNamed (need.Subtree p) = In ps p
    IsNamed need.All = In ps []

    pub asked_in : (wanted asked : Need) → IsNamed wanted → AsksOf k wanted asked → In (loadable ps t) asked
    asked_in (need.Node p) asked named a = subst (λ (x : Need). In (loadable ps t) x) (sym a) (named_in ps t p named)
    asked_in (need.Children p) asked named a = subst (λ (x : Need). In (loadable ps t) x) (sym a) (there_in ps t p (known_is p named)).1
    asked_in (need.Subtree p) asked named a = below_in p asked named a
    asked_in need.All asked named a = below_in [] asked named a

    -- what lacks of the need is in the list
    abbrev pub IsHeld : Need → Type 0
    IsHeld wanted = (lacking : Need) → IsFirstLacking k wanted lacking → In (loadable ps t) lacking

    none_held : All IsHeld []
    none_held = All-nil IsHeld

    and_held : (wanted : Need) (wanteds : List Need) → IsNamed wanted → All IsHeld wanteds → All IsHeld (wanted ∷ wanteds)
    and_held wanted wanteds named all =
        All-cons IsHeld wanted wanteds (λ lacking lacks. asked_in wanted lacking named lacks.asked) all

    children_held : (p : Path) → All IsHeld (children_needs (known_at k p) p)
    children_held p = by (known_at k p) refl
      where
        by : (o : Option (Option Node)) → known_at k p ≡ o → All IsHeld (children_needs o p)
        by None h = none_held
        by (Some None) h = none_held
        by (Some (Some node)) h = and_held (need.Children p) [] (there_is k p node h) none_held

    listing_held : (p : Path) → In ps p → All IsHeld (listing_needs k p)
    listing_held p named = and_held (need.Node p) (children_needs (known_at k p) p) named (children_held p)

    storage_held : (b : Bool) → In ps version_storage → All IsHeld (cond b (need.Subtree version_storage ∷ []) [])
    storage_held true named = and_held (need.Subtree version_storage) [] named none_held
    storage_held false named = none_held

-- ---- the paths that a command names

one_at_most : (o : Option Path) → length (one_path o) ≤ 1
one_at_most None = omega arith
one_at_most (Some p) = omega arith

module _ (who : Who) (t : Nodes) (c : Changed) where
  three_at_most : (command : Command) → length (paths_named who (seen t c) command) ≤ 3
  three_at_most (command.Add p type) = omega arith
  three_at_most (command.Tree p parts) = omega arith
  three_at_most (command.Set p n x) = omega arith
  three_at_most (command.Unset p n) = omega arith
  three_at_most (command.Remove p) = omega arith
  three_at_most (command.Move p q) = omega arith
  three_at_most (command.Mixin p n) = let one = one_at_most (due_history who who.ids (seen t c p)) in omega arith
  three_at_most (command.Unmixin p n) = omega arith
  three_at_most (command.SetType p n) = omega arith
  three_at_most (command.OrderBefore p n) = omega arith
  three_at_most (command.Get p) = let one = one_at_most (parent_of p) in omega arith
  three_at_most (command.List p) = omega arith
  three_at_most (command.Props p) = omega arith
  three_at_most (command.Id p) = omega arith
  three_at_most (command.ById id) = omega arith
  three_at_most (command.Refs p) = omega arith
  three_at_most (command.Versions p) = omega arith
  three_at_most _ = omega arith

  module _ (k : Knowledge) (agrees : AgreesWith t k) (over : AreOver t c) where
    -- what lacks of each of these needs is of the tree or of these paths
    abbrev pub AreHeld : List Path → List Need → Type 0
    AreHeld ps wanteds = All (IsHeld t k agrees ps) wanteds

    none : (ps : List Path) → AreHeld ps []
    none ps = none_held t k agrees ps

    more : (ps : List Path) (wanted : Need) (wanteds : List Need) → IsNamed t k agrees ps wanted → AreHeld ps wanteds → AreHeld ps (wanted ∷ wanteds)
    more ps wanted wanteds named all = and_held t k agrees ps wanted wanteds named all

    parent_held : (o : Option Path) → AreHeld (one_path o) (option_map_or (λ q. need.Node q ∷ []) o [])
    parent_held None = none []
    parent_held (Some q) = more (q ∷ []) (need.Node q) [] (inl refl) (none (q ∷ []))

    history_held : (p : Path) (o : Option Path) → AreHeld (p ∷ one_path o) (history_needs o)
    history_held p None = none (p ∷ [])
    history_held p (Some h) = more (p ∷ h ∷ []) (need.Subtree h) [] (inr (inl refl)) (none (p ∷ h ∷ []))

    module _ (p : Path) where
      abbrev mixed_paths : List Path
      mixed_paths = p ∷ one_path (due_history who who.ids (seen t c p))

      versionable_held : (o : Option (Option Node)) → known_at k p ≡ o
          → AreHeld mixed_paths (versionable_needs o p (due_history who who.ids (seen k.nodes c p)))
      versionable_held None h = more mixed_paths (need.Node p) [] (inl refl) (none mixed_paths)
      versionable_held (Some known) h =
          let same : seen k.nodes c p ≡ seen t c p =
          known_seen t k c p agrees over (or_right (is_some (change_at c p)) (is_some (known_at k p)) (ap is_some h)) in
          subst (λ (x : Option Node). AreHeld mixed_paths (need.Subtree p ∷ history_needs (due_history who who.ids x))) (sym same)
          (more mixed_paths (need.Subtree p) (history_needs (due_history who who.ids (seen t c p))) (inl refl)
          (history_held p (due_history who who.ids (seen t c p))))

      mixin_held : (b : Bool) → AreHeld mixed_paths (cond b (versionable_needs (known_at k p) p (due_history who who.ids (seen k.nodes c p))) (need.Subtree p ∷ []))
      mixin_held true = versionable_held (known_at k p) refl
      mixin_held false = more mixed_paths (need.Subtree p) [] (inl refl) (none mixed_paths)

    one_held : (p : Path) (wanted : Need) → IsNamed t k agrees (p ∷ []) wanted → AreHeld (p ∷ []) (wanted ∷ [])
    one_held p wanted named = more (p ∷ []) wanted [] named (none (p ∷ []))

    two_held : (p : Path) → AreHeld (p ∷ above p ∷ []) (need.Subtree p ∷ need.Node (above p) ∷ [])
    two_held p =
        let ps : List Path = p ∷ above p ∷ [] in
        more ps (need.Subtree p) (need.Node (above p) ∷ []) (inl refl) (more ps (need.Node (above p)) [] (inr (inl refl)) (none ps))

    pub all_held : (command : Command) → AreHeld (paths_named who (seen t c) command) (needs_of who k c command)
    all_held (command.Add p type) = two_held p
    all_held (command.Tree p parts) =
        let ps : List Path = p ∷ above p ∷ version_storage ∷ [] in
        more ps (need.Subtree p) (need.Node (above p) ∷ storage_needs parts) (inl refl)
        (more ps (need.Node (above p)) (storage_needs parts) (inr (inl refl))
        (storage_held t k agrees ps (makes_histories parts) (inr (inr (inl refl)))))
    all_held (command.Set p n x) = one_held p (need.Node p) (inl refl)
    all_held (command.Unset p n) = one_held p (need.Node p) (inl refl)
    all_held (command.Remove p) = two_held p
    all_held (command.Move p q) =
        let ps : List Path = p ∷ q ∷ above q ∷ [] in
        more ps (need.Subtree p) (need.Subtree q ∷ need.Node (above q) ∷ []) (inl refl)
        (more ps (need.Subtree q) (need.Node (above q) ∷ []) (inr (inl refl))
        (more ps (need.Node (above q)) [] (inr (inr (inl refl))) (none ps)))
    all_held (command.Mixin p n) = mixin_held p (same_name versionable n)
    all_held (command.Unmixin p n) = one_held p (need.Node p) (inl refl)
    all_held (command.SetType p n) = one_held p (need.Subtree p) (inl refl)
    all_held (command.OrderBefore p n) =
        let ps : List Path = p ∷ above p ∷ [] in
        more ps (need.Node p) (listing_needs k (above p)) (inl refl) (listing_held t k agrees ps (above p) (inr (inl refl)))
    all_held (command.Get p) = parent_held (parent_of p)
    all_held (command.List p) = listing_held t k agrees (p ∷ []) p (inl refl)
    all_held (command.Props p) = one_held p (need.Node p) (inl refl)
    all_held (command.Id p) = one_held p (need.Node p) (inl refl)
    all_held (command.ById id) = one_held [] need.All (inl refl)
    all_held (command.Refs p) = one_held [] need.All (inl refl)
    all_held (command.Versions p) = one_held [] need.All (inl refl)
    all_held _ = none []

-- ---- rounds one after another

answer_agrees : (t : Nodes) (k : Knowledge) (load : Need) → AgreesWith t k → AgreesWith t (need_answered t k load)
answer_agrees t k (need.Node p) agrees = node_agrees t k p agrees (node_at t p) refl
answer_agrees t k (need.Children p) agrees = children_agree t k p agrees
answer_agrees t k (need.Subtree p) agrees = agrees
answer_agrees t k need.All agrees = agrees

module _ (who : Who) (t : Nodes) (c : Changed) (over : AreOver t c) (command : Command) where
  each_is_fewer : (k : Knowledge) (loads : List Need) → AgreesWith t k → AreLoadsOf (λ known. needs_of who known c command) t k loads
      → length loads ≤ unknown_of k (loadable (paths_named who (seen t c) command) t)
  each_is_fewer k [] agrees rounds = omega arith
  each_is_fewer k (load ∷ loads) agrees rounds =
      let lacked = one_lacks k rounds.0 load rounds.2 in
      let held = All-contains (IsHeld t k agrees (paths_named who (seen t c) command)) (needs_of who k c command) rounds.0
      (all_held who t c k agrees over command) rounds.1 load rounds.2 in
      let less = fewer k (need_answered t k load) (λ x known. answer_keeps t k load x known) (loadable (paths_named who (seen t c) command) t) load held
      lacked.1 (answer_known t k load lacked.0) in
      let rest = each_is_fewer (need_answered t k load) loads (answer_agrees t k load agrees) rounds.3 in
      omega arith

  pub few_loads : (k : Knowledge) (loads : List Need) → AgreesWith t k → AreLoadsOf (λ known. needs_of who known c command) t k loads
      → length loads ≤ 2 * length t + 3
  few_loads k loads agrees rounds =
      let each = each_is_fewer k loads agrees rounds in
      let most = at_most k (loadable (paths_named who (seen t c) command) t) in
      let size = length_loadable (paths_named who (seen t c) command) t in
      let three = three_at_most who t c command in
      omega arith
