-- The violations of the touched nodes are the same, whether one goes over these nodes or over the tree.
use Rattle.std.proofs.Common.{◌≡◌, Bool, true, false, cond, ◌&&◌, ◌||◌, Option, None, Some, is_some, List, [], ◌∷◌, ◌++◌, map, refl, sym, ap, ◌∙◌}
use Rattle.std.proofs.lemmas.Map.Entries.{lookup-filter-keys}
use Rattle.std.specs.FinMap.{is_sorted}
use Rattle.std.specs.FinMap.Entries.{below_all}
use Rattle.std.specs.List.{filter, flat_map, list_any}
use Rattle.std.specs.Map.{keys_of, lookup}
use Rattle.std.specs.BTreeMap.{is_at, insert_entry}
use Rattle.std.specs.Ordering.{eq_by_cmp, is_lt}
use Rattle.jr_path.specs.Names.{path_cmp}
use Rattle.jr_path.specs.declared.name.Name.{Name}
use Rattle.jr_path.specs.declared.path.Path.{Path}
use Rattle.jr_path.proofs.Maps.{lookup-insert_entry, path_exact, path_total}
use Rattle.jr_tree.specs.declared.edit.Write.{Write}
use Rattle.jr_tree.specs.declared.tree.Node.{Node}
use Rattle.jr_tree.specs.Merging.{with_room}
use Rattle.jr_tree.specs.Trees.{Nodes, children_of, node_at, subtree_of}
use Rattle.jr_tree.proofs.Entries.{same_lists, sorted_filter, sorted_insert}
use Rattle.jr_tree.proofs.Pointwise.{same_path as path_same}
use Rattle.jr_items.specs.Items.{child_path, same_path}
use Rattle.jr_types.specs.declared.TypeDef.{TypeDef}
use Rattle.jr_edited.proofs.Children.{named_child}
use Rattle.jr_rules.specs.Violations.{Violation, is_among_names, violations_among}
use Rattle.jcr_plan.specs.declared.touched.Touched.{Touched}
use Rattle.jcr_plan.specs.Checked.{IsTouched, is_looked_at, is_asked_in, renewed_by, touched_by, violations_in, violations_touched}

-- ---- paths as nodes without properties

turned : (a b c : Bool) → (a || (b || c)) ≡ ((b || a) || c)
turned true true c = refl
turned true false c = refl
turned false true c = refl
turned false false c = refl

or_none : (b : Bool) → (b || false) ≡ b
or_none true = refl
or_none false = refl

with_found : (p : Path) (ps : List Path) (t : Nodes) → is_some (node_at (with_room t ps) p) ≡ (list_any (same_path p) ps || is_some (node_at t p))
with_found p [] t = refl
with_found p (q ∷ ps) t =
    with_found p ps (insert_entry path_cmp t q bare)
    ∙ (ap (λ (o : Option Node). list_any (same_path p) ps || is_some o) (lookup-insert_entry path_cmp path_total p q bare t)
    ∙ (ap (λ b. list_any (same_path p) ps || b) (by (same_path p q) (node_at t p)) ∙ turned (list_any (same_path p) ps) (same_path p q) (is_some (node_at t p))))
  where
    bare : Node
    bare = record { props = []; born = None }

    by : (b : Bool) (o : Option Node) → is_some (cond b (Some bare) o) ≡ (b || is_some o)
    by true o = refl
    by false o = refl

found : (p : Path) (ps : List Path) → is_some (node_at (with_room [] ps) p) ≡ list_any (same_path p) ps
found p ps = with_found p ps [] ∙ or_none (list_any (same_path p) ps)

sorted_room : (ps : List Path) (t : Nodes) → is_sorted path_cmp t ≡ true → is_sorted path_cmp (with_room t ps) ≡ true
sorted_room [] t s = s
sorted_room (q ∷ ps) t s = sorted_room ps (insert_entry path_cmp t q (record { props = []; born = None })) (sorted_insert path_cmp path_total q (record { props = []; born = None }) t s)

-- ---- the paths that two trees share

-- the paths alone
abbrev marks : Nodes → List (Path × Bool)
marks es = map (λ e. (e.0, true)) es

keys_marks : (es : Nodes) → keys_of (marks es) ≡ keys_of es
keys_marks [] = refl
keys_marks (e ∷ es) = ap (λ (ps : List Path). e.0 ∷ ps) (keys_marks es)

below_marks : (p : Path) (es : Nodes) → below_all path_cmp p (marks es) ≡ below_all path_cmp p es
below_marks p [] = refl
below_marks p (e ∷ es) = ap (λ b. is_lt (path_cmp p e.0) && b) (below_marks p es)

sorted_marks : (es : Nodes) → is_sorted path_cmp (marks es) ≡ is_sorted path_cmp es
sorted_marks [] = refl
sorted_marks (e ∷ es) = λ i. below_marks e.0 es i && sorted_marks es i

marked_at : (es : Nodes) (p : Path) → lookup (is_at (path_cmp p)) (marks es) ≡ cond (is_some (node_at es p)) (Some true) None
marked_at [] p = refl
marked_at (e ∷ es) p = by (eq_by_cmp path_cmp p e.0) (marked_at es p)
  where
    by : (b : Bool) → lookup (is_at (path_cmp p)) (marks es) ≡ cond (is_some (node_at es p)) (Some true) None
        → cond b (Some true) (lookup (is_at (path_cmp p)) (marks es)) ≡ cond (is_some (cond b (Some e.1) (node_at es p))) (Some true) None
    by true rest = refl
    by false rest = rest

-- the nodes of one tree that stand in another too
abbrev shared : Nodes → Nodes → Nodes
shared a b = filter (λ e. is_some (node_at b e.0)) a

shared_at : (a b : Nodes) (p : Path) → node_at (shared a b) p ≡ cond (is_some (node_at b p)) (node_at a p) None
shared_at a b p = lookup-filter-keys (is_at (path_cmp p)) (λ q. is_some (node_at b q)) (is_some (node_at b p)) (λ q h. ap (λ r. is_some (node_at b r)) (sym (path_same p q h))) a

both_there : (o r : Option Node) → is_some (cond (is_some r) o None) ≡ is_some (cond (is_some o) r None)
both_there None None = refl
both_there None (Some y) = refl
both_there (Some x) None = refl
both_there (Some x) (Some y) = refl

shared_marks : (a b : Nodes) → is_sorted path_cmp a ≡ true → is_sorted path_cmp b ≡ true → marks (shared a b) ≡ marks (shared b a)
shared_marks a b s r =
    same_lists path_cmp path_total path_exact _ _ (sorted_marks (shared a b) ∙ sorted_filter path_cmp _ a s) (sorted_marks (shared b a) ∙ sorted_filter path_cmp _ b r)
    (λ p. marked_at (shared a b) p
    ∙ (ap (λ c. cond c (Some true) None) (ap (λ (o : Option Node). is_some o) (shared_at a b p) ∙ (both_there (node_at a p) (node_at b p) ∙ ap (λ (o : Option Node). is_some o) (sym (shared_at b a p))))
    ∙ sym (marked_at (shared b a) p)))

shared_keys : (a b : Nodes) → is_sorted path_cmp a ≡ true → is_sorted path_cmp b ≡ true → keys_of (shared a b) ≡ keys_of (shared b a)
shared_keys a b s r = sym (keys_marks (shared a b)) ∙ (ap keys_of (shared_marks a b s r) ∙ keys_marks (shared b a))

module _ (G : Path → List Violation) where
  -- what is found at the shared paths, by these alone
  by_keys : (a b : Nodes) → flat_map (λ e. cond (is_some (node_at b e.0)) (G e.0) []) a ≡ flat_map G (keys_of (shared a b))
  by_keys [] b = refl
  by_keys (e ∷ a) b = by (is_some (node_at b e.0)) (by_keys a b)
    where
      by : (c : Bool) → flat_map (λ e. cond (is_some (node_at b e.0)) (G e.0) []) a ≡ flat_map G (keys_of (shared a b))
          → cond c (G e.0) [] ++ flat_map (λ e. cond (is_some (node_at b e.0)) (G e.0) []) a ≡ flat_map G (keys_of (cond c (e ∷ shared a b) (shared a b)))
      by true rest = ap (λ (vs : List Violation). G e.0 ++ vs) rest
      by false rest = rest

  either_way : (a b : Nodes) → is_sorted path_cmp a ≡ true → is_sorted path_cmp b ≡ true
      → flat_map (λ e. cond (is_some (node_at b e.0)) (G e.0) []) a ≡ flat_map (λ e. cond (is_some (node_at a e.0)) (G e.0) []) b
  either_way a b s r = by_keys a b ∙ (ap (flat_map G) (shared_keys a b s r) ∙ sym (by_keys b a))

-- ---- the violations

pub touched_found : (types : List TypeDef) (u : Nodes) (ws : List Write) (touched : Touched) → is_sorted path_cmp u ≡ true → IsTouched ws touched → violations_in touched types u ≡ violations_touched ws types u
touched_found types u ws touched s is =
    (λ i. flat_map (λ e. cond (is_some (node_at u e.0)) (violations_among (λ n. asked e.0 n i) types u e.0) []) (is.nodes i))
    ∙ (either_way G paths u (sorted_room (flat_map touched_by ws) [] refl) s
    ∙ (λ i. flat_map (λ e. cond (found e.0 (flat_map touched_by ws) i) (G e.0) []) u))
  where
    paths : Nodes
    paths = with_room [] (flat_map touched_by ws)

    G : Path → List Violation
    G p = violations_among (is_looked_at ws p) types u p

    asked : (p : Path) (n : Name) → is_asked_in touched p n ≡ is_looked_at ws p n
    asked p n =
        (λ i. is_some (node_at (is.renewed i) p) || is_some (node_at (is.nodes i) (child_path p n)))
        ∙ (λ i. found p (flat_map renewed_by ws) i || found (child_path p n) (flat_map touched_by ws) i)

-- all of a renewed node is looked at
pub renewed_asked : (types : List TypeDef) (u : Nodes) (touched : Touched) (p : Path) → is_some (node_at touched.renewed p) ≡ true → violations_among (λ n. true) types u p ≡ violations_among (is_asked_in touched p) types u p
renewed_asked types u touched p h = λ i. violations_among (λ n. sym h i || is_some (node_at touched.nodes (child_path p n))) types u p

-- of another the children of these names
pub part_named : (types : List TypeDef) (u : Nodes) (touched : Touched) (p : Path) (names items : List Name) → is_some (node_at touched.renewed p) ≡ false → names ≡ items → items ≡ children_of touched.nodes p
    → violations_among (is_among_names names) types u p ≡ violations_among (is_asked_in touched p) types u p
part_named types u touched p names items h same are =
    (λ i. violations_among (λ n. each n i) types u p) ∙ (λ i. violations_among (λ n. sym h i || is_some (node_at touched.nodes (child_path p n))) types u p)
  where
    each : (n : Name) → is_among_names names n ≡ is_some (node_at touched.nodes (child_path p n))
    each n = ap (λ ns. is_among_names ns n) (same ∙ are) ∙ named_child touched.nodes p n

-- all nodes are below the root
pub all_below : (t : Nodes) → subtree_of t [] ≡ t
all_below [] = refl
all_below (e ∷ t) = ap (λ (u : Nodes). e ∷ u) (all_below t)
