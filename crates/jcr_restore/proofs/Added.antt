-- What an edit makes of a place where no node is: a node that it adds there, or none.
use Rattle.std.proofs.Common.{◌≡◌, Bool, true, false, cond, ◌++◌, Some, None, Option, List, [], ◌∷◌, map, refl, sym, ap, ◌∙◌}
use Rattle.std.specs.Prelude.{◌&&◌, is_some, is_none, not}
use Rattle.std.specs.Ordering.{eq_by_cmp}
use Rattle.std.specs.Option.{option_and_then, option_map, option_map_or, option_or, unwrap_or}
use Rattle.std.specs.List.{filter, flat_map, list_all}
use Rattle.std.specs.Map.{lookup}
use Rattle.std.specs.BTreeMap.{is_at}
use Rattle.std.specs.FinMap.{is_sorted}
use Rattle.std.proofs.lemmas.Bool.{and_from, and_parts, false≢true}
use Rattle.std.proofs.lemmas.Cmp.{nat_list_cmp_total}
use Rattle.basics.proofs.Lists.{all_joined}
use Rattle.basics.proofs.Options.{none_unless, where_some}
use Rattle.jr_path.specs.Names.{name_cmp, path_cmp}
use Rattle.jr_path.specs.declared.name.Name.{Name}
use Rattle.jr_path.specs.declared.path.Path.{Path}
use Rattle.jr_path.proofs.Maps.{path_total}
use Rattle.jr_rev.specs.declared.revision.Revision.{Revision}
use Rattle.jr_value.specs.declared.value.Property.{Property}
use Rattle.jr_value.specs.Values.{same_property}
use Rattle.jr_tree.specs.declared.edit.Write.{Write}
use Rattle.jr_tree.specs.declared.edit.Write.TheVariants.{Here, Gone, Put, Unset}
use Rattle.jr_tree.specs.declared.tree.Node.{Node}
use Rattle.jr_tree.specs.Edits.{applied}
use Rattle.jr_tree.specs.Items.{here_of, put_of, written}
use Rattle.jr_tree.specs.Trees.{IsTree, Nodes, has_names_in_order, node_at, property_at}
use Rattle.jr_tree.proofs.Entries.{exactly, first, none_below, second}
use Rattle.jr_tree.proofs.EditLaw.{Orderly-all, has_applied, property_applied}
use Rattle.jr_tree.proofs.Pointwise.{same_path}
use Rattle.jr_tree.proofs.Written.{or_none}
use Rattle.jr_items.specs.Items.{adding, property_of}
use Rattle.jcr_lock.specs.Needed.{is_needed}

-- ---- what a list of writes writes

or_within : {X : Type 0} (a b c : Option X)
    → option_or (option_or a b) c ≡ option_or a (option_or b c)
or_within (Some x) b c = refl
or_within None b c = refl

written_joined : {X : Type 0} (f : Write → Option X) (us ws : List Write)
    → written f (us ++ ws) ≡ option_or (written f ws) (written f us)
written_joined f [] ws = sym (or_none (written f ws))
written_joined f (w ∷ us) ws =
    ap (λ o. option_or o (f w)) (written_joined f us ws)
    ∙ or_within (written f ws) (written f us) (f w)

-- where each write that is read passes a test, the others write nothing that is read
written_filtered : {X : Type 0} (f : Write → Option X) (test ok : Write → Bool)
    → ((w : Write) → ok w ≡ true → is_some (f w) ≡ true → test w ≡ true)
    → (ws : List Write) → list_all ok ws ≡ true → written f (filter test ws) ≡ written f ws
written_filtered f test ok passes [] all = refl
written_filtered f test ok passes (w ∷ ws) all =
    by (test w) refl (written_filtered f test ok passes ws (and_parts _ _ all).1)
  where
    by : (b : Bool) → test w ≡ b → written f (filter test ws) ≡ written f ws
        → written f (cond b (w ∷ filter test ws) (filter test ws)) ≡ option_or (written f ws) (f w)
    by true h rest = ap (λ o. option_or o (f w)) rest
    by false h rest =
        rest
        ∙ (sym (or_none (written f ws))
        ∙ ap (option_or (written f ws))
        (sym (none_unless (f w)
        (λ some. false≢true (sym h ∙ passes w (and_parts _ _ all).0 some)))))

-- ---- the writes that add nodes

abbrev puts : Path → List (Name × Property) → List Write
puts p ns = map (λ x. Put p x.0 x.1) ns

no_node : (p q : Path) (ns : List (Name × Property)) → written (here_of p) (puts q ns) ≡ None
no_node p q [] = refl
no_node p q (n ∷ ns) = ap (λ o. option_or o None) (no_node p q ns)

put_found : (p q : Path) (n : Name) (ns : List (Name × Property)) → is_sorted name_cmp ns ≡ true
    → written (put_of p n) (puts q ns)
    ≡ cond (eq_by_cmp path_cmp p q) (option_map Some (lookup (is_at (name_cmp n)) ns)) None
put_found p q n [] s = by (eq_by_cmp path_cmp p q)
  where
    by : (b : Bool) → ◌≡◌ {A = Option (Option Property)} None (cond b None None)
    by true = refl
    by false = refl
put_found p q n (m ∷ ns) s =
    ap (λ o. option_or o (put_of p n (Put q m.0 m.1))) (put_found p q n ns (second _ _ s))
    ∙ by (eq_by_cmp path_cmp p q) (eq_by_cmp name_cmp n m.0) refl
  where
    at : Option Property
    at = lookup (is_at (name_cmp n)) ns

    by : (b c : Bool) → eq_by_cmp name_cmp n m.0 ≡ c
        → option_or (cond b (option_map Some at) None) (cond (b && c) (Some (Some m.1)) None)
        ≡ cond b (option_map Some (cond c (Some m.1) at)) None
    by false c h = refl
    by true true h =
        ap (λ (o : Option Property). option_or (option_map Some o) (Some (Some m.1)))
        (none_below name_cmp nat_list_cmp_total n m.0 (exactly _ h) ns (first _ _ s))
    by true false h = or_none _

-- where only the writes of the node at p are read, they are read of that node
nodes_read : {X : Type 0} (f : Write → Option X) (g : Path × Node → List Write) (p : Path)
    (h : Node → Option X) (ok : Node → Bool)
    → ((e : Path × Node) → ok e.1 ≡ true
    → written f (g e) ≡ cond (eq_by_cmp path_cmp p e.0) (h e.1) None)
    → (es : Nodes) → is_sorted path_cmp es ≡ true → list_all (λ e. ok e.1) es ≡ true
    → written f (flat_map g es) ≡ option_and_then h (node_at es p)
nodes_read f g p h ok one [] s k = refl
nodes_read f g p h ok one (e ∷ es) s k =
    written_joined f (g e) (flat_map g es)
    ∙ (ap (option_or (written f (flat_map g es))) (one e (first _ _ k))
    ∙ (ap (λ o. option_or o (cond (eq_by_cmp path_cmp p e.0) (h e.1) None))
    (nodes_read f g p h ok one es (second _ _ s) (second _ _ k))
    ∙ by (eq_by_cmp path_cmp p e.0) refl))
  where
    by : (b : Bool) → eq_by_cmp path_cmp p e.0 ≡ b
        → option_or (option_and_then h (node_at es p)) (cond b (h e.1) None)
        ≡ option_and_then h (cond b (Some e.1) (node_at es p))
    by true c =
        ap (λ (o : Option Node). option_or (option_and_then h o) (h e.1))
        (none_below path_cmp path_total p e.0 (exactly _ c) es (first _ _ s))
    by false c = or_none (option_and_then h (node_at es p))

all_pass : (ns : Nodes) → list_all (λ e. true) ns ≡ true
all_pass [] = refl
all_pass (e ∷ ns) = all_pass ns

here_added : (q : Path) (ns : Nodes) → is_sorted path_cmp ns ≡ true
    → written (here_of q) (adding ns) ≡ option_and_then (λ node. Some true) (node_at ns q)
here_added q ns s =
    nodes_read (here_of q) (λ e. Here e.0 ∷ puts e.0 e.1.props) q (λ node. Some true) (λ node. true)
    (λ e k. ap (λ o. option_or o (cond (eq_by_cmp path_cmp q e.0) (Some true) None))
    (no_node q e.0 e.1.props))
    ns s (all_pass ns)

put_added : (q : Path) (n : Name) (ns : Nodes) → is_sorted path_cmp ns ≡ true
    → has_names_in_order ns ≡ true
    → written (put_of q n) (adding ns)
    ≡ option_and_then (λ node. option_map Some (property_of node n)) (node_at ns q)
put_added q n ns s o =
    nodes_read (put_of q n) (λ e. Here e.0 ∷ puts e.0 e.1.props) q
    (λ node. option_map Some (property_of node n)) (λ node. is_sorted name_cmp node.props)
    (λ e k. or_none _ ∙ put_found q e.0 n e.1.props k) ns s o

-- ---- writes that give, and writes elsewhere

-- a node comes, or a property is put
abbrev is_giving : Write → Bool
is_giving (Here p) = true
is_giving (Put p n x) = true
is_giving (Gone p) = false
is_giving (Unset p n) = false

puts_give : (p : Path) (ns : List (Name × Property)) → list_all is_giving (puts p ns) ≡ true
puts_give p [] = refl
puts_give p (n ∷ ns) = puts_give p ns

adding_gives : (ns : Nodes) → list_all is_giving (adding ns) ≡ true
adding_gives [] = refl
adding_gives (e ∷ ns) =
    all_joined is_giving (puts e.0 e.1.props) (adding ns) (puts_give e.0 e.1.props)
    (adding_gives ns)

-- a property is put of another node than that at q
abbrev pub is_elsewhere : Path → Write → Bool
is_elsewhere q (Put r n x) = not (eq_by_cmp path_cmp q r)
is_elsewhere q (Here r) = false
is_elsewhere q (Gone r) = false
is_elsewhere q (Unset r n) = false

one_elsewhere : (q : Path) (n : Name) (w : Write) → is_elsewhere q w ≡ true
    → (is_giving w ≡ true) × (here_of q w ≡ None) × (put_of q n w ≡ None)
one_elsewhere q n (Here r) h = absurd (false≢true h)
one_elsewhere q n (Gone r) h = absurd (false≢true h)
one_elsewhere q n (Unset r m) h = absurd (false≢true h)
one_elsewhere q n (Put r m x) h = (refl, refl, by (eq_by_cmp path_cmp q r) h)
  where
    by : (b : Bool) → not b ≡ true
        → cond (b && eq_by_cmp name_cmp n m) (Some (Some x)) None ≡ None
    by true h = absurd (false≢true h)
    by false h = refl

elsewhere_gives : (q : Path) (ws : List Write) → list_all (is_elsewhere q) ws ≡ true
    → list_all is_giving ws ≡ true
elsewhere_gives q [] all = refl
elsewhere_gives q (w ∷ ws) all =
    and_from _ _ (one_elsewhere q [] w (and_parts _ _ all).0).0
    (elsewhere_gives q ws (and_parts _ _ all).1)

none_here : (q : Path) (ws : List Write) → list_all (is_elsewhere q) ws ≡ true
    → written (here_of q) ws ≡ None
none_here q [] all = refl
none_here q (w ∷ ws) all =
    ap (λ o. option_or o (here_of q w)) (none_here q ws (and_parts _ _ all).1)
    ∙ (one_elsewhere q [] w (and_parts _ _ all).0).1

none_put : (q : Path) (n : Name) (ws : List Write) → list_all (is_elsewhere q) ws ≡ true
    → written (put_of q n) ws ≡ None
none_put q n [] all = refl
none_put q n (w ∷ ws) all =
    ap (λ o. option_or o (put_of q n w)) (none_put q n ws (and_parts _ _ all).1)
    ∙ (one_elsewhere q n w (and_parts _ _ all).0).2

puts_elsewhere : (q r : Path) (ns : List (Name × Property)) → eq_by_cmp path_cmp q r ≡ false
    → list_all (is_elsewhere q) (puts r ns) ≡ true
puts_elsewhere q r [] h = refl
puts_elsewhere q r (n ∷ ns) h = and_from _ _ (ap not h) (puts_elsewhere q r ns h)

-- a node that comes elsewhere
here_beside : (q r : Path) (node : Node) (ns : Nodes) → eq_by_cmp path_cmp q r ≡ false
    → written (here_of q) (adding ((r, node) ∷ ns)) ≡ written (here_of q) (adding ns)
here_beside q r node ns h =
    written_joined (here_of q) (Here r ∷ puts r node.props) (adding ns)
    ∙ (ap (λ o. option_or (written (here_of q) (adding ns))
    (option_or o (cond (eq_by_cmp path_cmp q r) (Some true) None))) (no_node q r node.props)
    ∙ (ap (λ b. option_or (written (here_of q) (adding ns)) (cond b (Some true) None)) h
    ∙ or_none (written (here_of q) (adding ns))))

put_beside : (q r : Path) (n : Name) (node : Node) (ns : Nodes) → eq_by_cmp path_cmp q r ≡ false
    → written (put_of q n) (adding ((r, node) ∷ ns)) ≡ written (put_of q n) (adding ns)
put_beside q r n node ns h =
    written_joined (put_of q n) (Here r ∷ puts r node.props) (adding ns)
    ∙ (ap (λ o. option_or (written (put_of q n) (adding ns)) (option_or o None))
    (none_put q n (puts r node.props) (puts_elsewhere q r node.props h))
    ∙ or_none (written (put_of q n) (adding ns)))

-- ---- what an edit makes of a place where no node is

-- each write that gives something there changes something
needed_here : (t : Nodes) (q : Path) → node_at t q ≡ None → (w : Write) → is_giving w ≡ true
    → is_some (here_of q w) ≡ true → is_needed t w ≡ true
needed_here t q free (Here r) give some =
    ap (λ (p : Path). is_none (node_at t p)) (sym (same_path q r (where_some _ _ some)))
    ∙ ap is_none free
needed_here t q free (Gone r) give some = absurd (false≢true give)
needed_here t q free (Put r n x) give some = absurd (false≢true some)
needed_here t q free (Unset r n) give some = absurd (false≢true give)

needed_put : (t : Nodes) (q : Path) (n : Name) → node_at t q ≡ None → (w : Write)
    → is_giving w ≡ true → is_some (put_of q n w) ≡ true → is_needed t w ≡ true
needed_put t q n free (Here r) give some = absurd (false≢true some)
needed_put t q n free (Gone r) give some = absurd (false≢true give)
needed_put t q n free (Unset r m) give some = absurd (false≢true give)
needed_put t q n free (Put r m x) give some =
    ap (λ (p : Path). not (option_map_or (same_property x) (property_at t p m) false))
    (sym (same_path q r (and_parts _ _ (where_some _ _ some)).0))
    ∙ ap (λ (o : Option Node). not (option_map_or (same_property x)
    (option_and_then (λ node. property_of node m) o) false)) free

-- a node is added at r, and others, and else properties of other nodes are put: what comes of q
module _ (born : Option Revision) (t : Nodes) (tree : IsTree t) (q r : Path) (node : Node)
    (ns : Nodes) (rest : List Write) (sorted : is_sorted path_cmp ns ≡ true)
    (names : has_names_in_order ns ≡ true) (free : node_at t q ≡ None)
    (beside : eq_by_cmp path_cmp q r ≡ false)
    (elsewhere : list_all (is_elsewhere q) rest ≡ true) where
  abbrev edit : List Write
  edit = adding ((r, node) ∷ ns) ++ rest

  gives : list_all is_giving edit ≡ true
  gives =
      all_joined is_giving (adding ((r, node) ∷ ns)) rest (adding_gives ((r, node) ∷ ns))
      (elsewhere_gives q rest elsewhere)

  here_made : written (here_of q) (filter (is_needed t) edit)
      ≡ option_and_then (λ node. Some true) (node_at ns q)
  here_made =
      written_filtered (here_of q) (is_needed t) is_giving (needed_here t q free) edit gives
      ∙ (written_joined (here_of q) (adding ((r, node) ∷ ns)) rest
      ∙ (ap (λ o. option_or o (written (here_of q) (adding ((r, node) ∷ ns))))
      (none_here q rest elsewhere)
      ∙ (here_beside q r node ns beside ∙ here_added q ns sorted)))

  put_made : (n : Name) → written (put_of q n) (filter (is_needed t) edit)
      ≡ option_and_then (λ node. option_map Some (property_of node n)) (node_at ns q)
  put_made n =
      written_filtered (put_of q n) (is_needed t) is_giving (needed_put t q n free) edit gives
      ∙ (written_joined (put_of q n) (adding ((r, node) ∷ ns)) rest
      ∙ (ap (λ o. option_or o (written (put_of q n) (adding ((r, node) ∷ ns))))
      (none_put q n rest elsewhere)
      ∙ (put_beside q r n node ns beside ∙ put_added q n ns sorted names)))

  -- the node is there that was added
  pub node_there : is_some (node_at (applied born t (filter (is_needed t) edit)) q)
      ≡ is_some (node_at ns q)
  node_there =
      has_applied born t (filter (is_needed t) edit) tree.paths q
      ∙ ((λ i. unwrap_or (here_made i) (is_some (free i))) ∙ by (node_at ns q))
    where
      by : (o : Option Node)
          → unwrap_or (option_and_then (λ node. Some true) o) false ≡ is_some o
      by None = refl
      by (Some x) = refl

  -- with its properties
  pub prop_there : (n : Name)
      → property_at (applied born t (filter (is_needed t) edit)) q n ≡ property_at ns q n
  prop_there n =
      property_applied born t (filter (is_needed t) edit) tree.paths (Orderly-all t tree.names) q n
      ∙ ((λ i. cond (unwrap_or (here_made i) (is_some (free i)))
      (unwrap_or (put_made n i) (of_node (free i))) None)
      ∙ by (node_at ns q))
    where
      of_node : Option Node → Option Property
      of_node o = option_and_then (λ node. property_of node n) o

      found : (o : Option Property) → unwrap_or (option_map Some o) None ≡ o
      found None = refl
      found (Some x) = refl

      by : (o : Option Node)
          → cond (unwrap_or (option_and_then (λ node. Some true) o) false)
          (unwrap_or (option_and_then (λ node. option_map Some (property_of node n)) o) None) None
          ≡ of_node o
      by None = refl
      by (Some x) = found (property_of x n)
