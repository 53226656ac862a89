-- Steps of the loops that compare two trees.
use Rattle.std.proofs.Common.{◌≡◌, Bool, true, false, cond, not, List, [], ◌∷◌, map, Option, None, Some, refl, sym, ap, ◌∙◌}
use Rattle.std.specs.Prelude.{is_none, is_some}
use Rattle.std.specs.Option.{option_map_or}
use Rattle.std.specs.Map.{lookup}
use Rattle.std.specs.BTreeMap.{is_at, insert_entry}
use Rattle.std.specs.List.{filter, flat_map}
use Rattle.std.proofs.lemmas.Bool.{false≢true}
use Rattle.jr_path.specs.Names.{name_cmp}
use Rattle.jr_path.specs.declared.name.Name.{Name}
use Rattle.jr_path.specs.declared.path.Path.{Path}
use Rattle.jr_value.specs.declared.value.Property.{Property}
use Rattle.jr_value.specs.Values.{same_property}
use Rattle.jr_tree.specs.declared.tree.Node.{Node}
use Rattle.jr_tree.specs.declared.edit.Write.TheVariants.{Gone, Put, Unset}
use Rattle.jr_tree.specs.Trees.{Nodes, node_at}
use Rattle.jr_tree.specs.Edits.{item_of, item_cmp, taking}
use Rattle.jr_tree.specs.Changes.{Writes, with_writes, unset_missing, put_changed, nodes_taken}

kept_all : {A : Type 0} (xs : List A) → filter (λ x. true) xs ≡ xs
kept_all [] = refl
kept_all (x ∷ xs) = ap (λ ys. x ∷ ys) (kept_all xs)

-- a node goes, and all its properties are unset
pub taken : (writes more : Writes) (p q : Path) (node : Node) (none : List (Name × Property)) → more ≡ insert_entry item_cmp writes (item_of (Gone q)) (Gone q) → q ≡ p → none ≡ []
    → with_writes more (unset_missing p node.props none) ≡ with_writes writes (taking (p, node))
taken writes more p q node none first same empty =
    rw (first, same, empty) (ap (λ (es : List (Name × Property)). with_writes (insert_entry item_cmp writes (item_of (Gone p)) (Gone p)) (map (λ n. Unset p n.0) es)) (kept_all node.props))

-- the first of a list doesn't pass
passed : {A : Type 0} (test : A → Bool) (x : A) (xs more : List A) → xs ≡ x ∷ more → test x ≡ false → filter test more ≡ filter test xs
passed test x xs more first fails = sym (ap (filter test) first ∙ ap (λ b. cond b (x ∷ filter test more) (filter test more)) fails)

is_there : {A : Type 0} (o : Option A) → is_some o ≡ true → is_none o ≡ false
is_there None e = absurd (false≢true e)
is_there (Some x) e = refl

-- a property that the new node has isn't unset
pub unset_passed : (writes target : Writes) (p : Path) (new rest more : List (Name × Property)) (e : Name × Property) (b : Bool) → with_writes writes (unset_missing p rest new) ≡ target → rest ≡ e ∷ more
    → b ≡ is_some (lookup (is_at (name_cmp e.0)) new) → b ≡ true → with_writes writes (unset_missing p more new) ≡ target
unset_passed writes target p new rest more e b before first told holds =
    ap (λ (es : List (Name × Property)). with_writes writes (map (λ n. Unset p n.0) es)) (passed (λ n. is_none (lookup (is_at (name_cmp n.0)) new)) e rest more first (is_there _ (sym told ∙ holds))) ∙ before

-- a property that the old node has so isn't put
pub put_passed : (writes target : Writes) (p : Path) (old rest more : List (Name × Property)) (e : Name × Property) (b : Bool) → with_writes writes (put_changed p old rest) ≡ target → rest ≡ e ∷ more
    → b ≡ option_map_or (same_property e.1) (lookup (is_at (name_cmp e.0)) old) false → b ≡ true → with_writes writes (put_changed p old more) ≡ target
put_passed writes target p old rest more e b before first told holds =
    ap (λ (es : List (Name × Property)). with_writes writes (map (λ n. Put p n.0 n.1) es))
    (passed (λ n. not (option_map_or (same_property n.1) (lookup (is_at (name_cmp n.0)) old) false)) e rest more first (ap not (sym told ∙ holds)))
    ∙ before

-- a node that the new tree has isn't taken
pub node_passed : (writes target : Writes) (to rest more : Nodes) (e : Path × Node) (b : Bool) → with_writes writes (nodes_taken to rest) ≡ target → rest ≡ e ∷ more → b ≡ is_some (node_at to e.0) → b ≡ true
    → with_writes writes (nodes_taken to more) ≡ target
node_passed writes target to rest more e b before first told holds =
    ap (λ (es : Nodes). with_writes writes (flat_map taking es)) (passed (λ n. is_none (node_at to n.0)) e rest more first (is_there _ (sym told ∙ holds))) ∙ before
