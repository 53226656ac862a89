-- What an edit leaves as it was.
use Rattle.std.proofs.Common.{◌≡◌, Bool, true, false, cond, Some, None, Option, List, [], ◌∷◌, map, refl, ap, ◌∙◌}
use Rattle.std.specs.Prelude.{◌&&◌, is_some, not}
use Rattle.std.specs.Ordering.{eq_by_cmp}
use Rattle.std.specs.Option.{option_and_then, option_or, unwrap_or}
use Rattle.std.specs.List.{fold, list_all, list_any}
use Rattle.std.proofs.lemmas.Bool.{and_from, and_parts, false≢true}
use Rattle.basics.proofs.Lists.{all_joined}
use Rattle.jr_path.specs.Names.{name_cmp, path_cmp}
use Rattle.jr_path.specs.declared.name.Name.{Name}
use Rattle.jr_path.specs.declared.path.Path.{Path}
use Rattle.jr_rev.specs.declared.revision.Revision.{Revision}
use Rattle.jr_value.specs.declared.value.Property.{Property}
use Rattle.jr_tree.specs.declared.edit.Write.{Write}
use Rattle.jr_tree.specs.declared.edit.Write.TheVariants.{Here, Gone, Put, Unset}
use Rattle.jr_tree.specs.declared.tree.Node.{Node}
use Rattle.jr_tree.specs.Edits.{applied, is_same_item, item_of, last_writes}
use Rattle.jr_tree.specs.Items.{here_of, put_of, written}
use Rattle.jr_tree.specs.Trees.{IsTree, Nodes, node_at, property_at}
use Rattle.jr_tree.proofs.AtPath.{come, filled, node_at-applied}
use Rattle.jr_tree.proofs.EditLaw.{Orderly-all, has_applied, property_applied}
use Rattle.jr_items.specs.Items.{adding, property_of}

if_not : {X : Type 0} (b : Bool) (x y : X) → not b ≡ true → cond b x y ≡ y
if_not true x y h = absurd (false≢true h)
if_not false x y h = refl

-- ---- nodes that no write is of

-- the write is of another node than that at q, or of a property of another
abbrev pub is_apart : Path → Write → Bool
is_apart q w = not (eq_by_cmp path_cmp q (item_of w).path)

come_apart : (born : Option Revision) (q : Path) (o : Option Node) (w : Write)
    → is_apart q w ≡ true → come born q o w ≡ o
come_apart born q o (Here r) h = if_not (eq_by_cmp path_cmp q r) _ o h
come_apart born q o (Gone r) h = if_not (eq_by_cmp path_cmp q r) None o h
come_apart born q o (Put r n x) h = refl
come_apart born q o (Unset r n) h = refl

filled_apart : (q : Path) (o : Option Node) (w : Write) → is_apart q w ≡ true → filled q o w ≡ o
filled_apart q o (Here r) h = refl
filled_apart q o (Gone r) h = refl
filled_apart q o (Put r n x) h = if_not (eq_by_cmp path_cmp q r) _ o h
filled_apart q o (Unset r n) h = if_not (eq_by_cmp path_cmp q r) _ o h

all_last : (ok : Write → Bool) (ws : List Write) → list_all ok ws ≡ true
    → list_all ok (last_writes ws) ≡ true
all_last ok [] all = refl
all_last ok (w ∷ ws) all =
    by (list_any (is_same_item w) ws) (all_last ok ws (and_parts _ _ all).1)
  where
    by : (b : Bool) → list_all ok (last_writes ws) ≡ true
        → list_all ok (cond b (last_writes ws) (w ∷ last_writes ws)) ≡ true
    by true rest = rest
    by false rest = and_from _ _ (and_parts _ _ all).0 rest

comes_apart : (born : Option Revision) (q : Path) (o : Option Node) (ws : List Write)
    → list_all (is_apart q) ws ≡ true → fold (come born q) o ws ≡ o
comes_apart born q o [] all = refl
comes_apart born q o (w ∷ ws) all =
    comes_apart born q (come born q o w) ws (and_parts _ _ all).1
    ∙ come_apart born q o w (and_parts _ _ all).0

fills_apart : (q : Path) (o : Option Node) (ws : List Write) → list_all (is_apart q) ws ≡ true
    → fold (filled q) o ws ≡ o
fills_apart q o [] all = refl
fills_apart q o (w ∷ ws) all =
    fills_apart q (filled q o w) ws (and_parts _ _ all).1
    ∙ filled_apart q o w (and_parts _ _ all).0

-- a node that no write is of is as it was
pub node_apart : (born : Option Revision) (t : Nodes) → IsTree t → (q : Path) (ws : List Write)
    → list_all (is_apart q) ws ≡ true → node_at (applied born t ws) q ≡ node_at t q
node_apart born t tree q ws all =
    let last = all_last (is_apart q) ws all in
    node_at-applied born q t ws tree.paths
    ∙ (ap (λ (o : Option Node). fold (filled q) o (last_writes ws))
    (comes_apart born q (node_at t q) (last_writes ws) last)
    ∙ fills_apart q (node_at t q) (last_writes ws) last)

-- ---- properties that no write is of

-- the write is of another item than the property of that name of the node at q, and of another node
abbrev pub is_other_item : Path → Name → Write → Bool
is_other_item q n (Here r) = not (eq_by_cmp path_cmp q r)
is_other_item q n (Gone r) = not (eq_by_cmp path_cmp q r)
is_other_item q n (Put r m x) = not (eq_by_cmp path_cmp q r && eq_by_cmp name_cmp n m)
is_other_item q n (Unset r m) = not (eq_by_cmp path_cmp q r && eq_by_cmp name_cmp n m)

one_other : (q : Path) (n : Name) (w : Write) → is_other_item q n w ≡ true
    → (here_of q w ≡ None) × (put_of q n w ≡ None)
one_other q n (Here r) h = (if_not _ (Some true) None h, refl)
one_other q n (Gone r) h = (if_not _ (Some false) None h, refl)
one_other q n (Put r m x) h = (refl, if_not _ (Some (Some x)) None h)
one_other q n (Unset r m) h = (refl, if_not _ (Some None) None h)

none_other : (q : Path) (n : Name) (ws : List Write) → list_all (is_other_item q n) ws ≡ true
    → (written (here_of q) ws ≡ None) × (written (put_of q n) ws ≡ None)
none_other q n [] all = (refl, refl)
none_other q n (w ∷ ws) all =
    let rest = none_other q n ws (and_parts _ _ all).1 in
    let one = one_other q n w (and_parts _ _ all).0 in (
      ap (λ o. option_or o (here_of q w)) rest.0 ∙ one.0,
      ap (λ o. option_or o (put_of q n w)) rest.1 ∙ one.1,
    )

-- a node that no write is of is there as it was
pub there_apart : (born : Option Revision) (t : Nodes) → IsTree t → (q : Path) (n : Name)
    (ws : List Write) → list_all (is_other_item q n) ws ≡ true
    → is_some (node_at (applied born t ws) q) ≡ is_some (node_at t q)
there_apart born t tree q n ws all =
    has_applied born t ws tree.paths q
    ∙ ap (λ o. unwrap_or o (is_some (node_at t q))) (none_other q n ws all).0

-- and a property of it that no write is of
pub prop_apart : (born : Option Revision) (t : Nodes) → IsTree t → (q : Path) (n : Name)
    (ws : List Write) → list_all (is_other_item q n) ws ≡ true
    → property_at (applied born t ws) q n ≡ property_at t q n
prop_apart born t tree q n ws all =
    property_applied born t ws tree.paths (Orderly-all t tree.names) q n
    ∙ ((λ i. cond (unwrap_or ((none_other q n ws all).0 i) (is_some (node_at t q)))
    (unwrap_or ((none_other q n ws all).1 i) (property_at t q n)) None)
    ∙ by (node_at t q))
  where
    by : (o : Option Node)
        → cond (is_some o) (option_and_then (λ node. property_of node n) o) None
        ≡ option_and_then (λ node. property_of node n) o
    by None = refl
    by (Some node) = refl

-- ---- lists of writes

-- all writes that add nodes pass a test where those of each path do
pub adding_all : (ok : Write → Bool) (good : Path → Bool)
    → ((r : Path) → good r ≡ true → ok (Here r) ≡ true)
    → ((r : Path) (n : Name) (x : Property) → good r ≡ true → ok (Put r n x) ≡ true)
    → (ns : Nodes) → list_all (λ e. good e.0) ns ≡ true → list_all ok (adding ns) ≡ true
adding_all ok good here put [] all = refl
adding_all ok good here put (e ∷ ns) all =
    and_from _ _ (here e.0 (and_parts _ _ all).0)
    (all_joined ok (map (λ x. Put e.0 x.0 x.1) e.1.props) (adding ns)
    (puts e.0 (and_parts _ _ all).0 e.1.props)
    (adding_all ok good here put ns (and_parts _ _ all).1))
  where
    puts : (r : Path) → good r ≡ true → (ps : List (Name × Property))
        → list_all ok (map (λ x. Put r x.0 x.1) ps) ≡ true
    puts r h [] = refl
    puts r h (x ∷ ps) = and_from _ _ (put r x.0 x.1 h) (puts r h ps)
