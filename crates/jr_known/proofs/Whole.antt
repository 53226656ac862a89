-- The whole tree is known still, where a path that had no node is known to have none.
use Rattle.std.proofs.Common.{◌≡◌, Bool, true, false, cond, Some, None, Option, ◌++◌, ◌∷◌, ◌&&◌, [], List, is_some, refl, sym, ap, ◌∙◌, subst}
use Rattle.std.specs.Prelude.{Result, Ok, Err, OnOk, OnErr}
use Rattle.std.specs.Map.{lookup}
use Rattle.std.specs.BTreeMap.{is_at, insert_entry}
use Rattle.std.specs.Ordering.{eq_by_cmp}
use Rattle.std.proofs.lemmas.Bool.{false≢true}
use Rattle.jr_path.specs.Names.{path_cmp}
use Rattle.jr_path.proofs.Maps.{lookup-insert_entry, path_total}
use Rattle.jr_path.specs.declared.name.Name.{Name}
use Rattle.jr_path.specs.declared.path.Path.{Path}
use Rattle.jr_tree.specs.declared.tree.Node.{Node}
use Rattle.jr_tree.specs.Trees.{Nodes, node_at}
use Rattle.jr_part.specs.declared.need.Need.{Need}
use Rattle.jr_part.specs.declared.need.Need.TheVariants as need
use Rattle.jr_part.specs.Parts.{AsksBelow, IsReached, Knowledge, LacksNothing, is_absent, knows, leads_down, lists_child, with_node}
use Rattle.jr_part.proofs.Puts.{nothing_removed}

-- what is answered of a path at which no node is known
abbrev answer : Bool → Option (Option Node)
answer b = cond b (Some None) None

module _ (k : Knowledge) (p : Path) where
  abbrev later : Knowledge
  later = record k { absent = insert_entry path_cmp k.absent p tt }

  down : (q : Path) (ns : List Name) → leads_down later q ns ≡ leads_down k q ns
  down q [] = refl
  down q (n ∷ ns) = ap (λ b. is_some (node_at k.nodes q) && lists_child k q n && b) (down (q ++ n ∷ []) ns)

  reached : (q r : Path) → IsReached later q r → IsReached k q r
  reached q r h = record { names = h.names; path = h.path; down = sym (down q h.names) ∙ h.down }

  asks : (m : Need) → AsksBelow later [] m → AsksBelow k [] m
  asks (need.Node q) a = reached [] q a
  asks (need.Children q) a = (reached [] q a.0, a.1)
  asks (need.Subtree q) a = absurd a
  asks need.All a = absurd a

  more : (q : Path) → is_absent k q ≡ true → is_absent later q ≡ true
  more q h = ap is_some (lookup-insert_entry path_cmp path_total q p tt k.absent) ∙ by (eq_by_cmp path_cmp q p) (lookup (is_at (path_cmp q)) k.absent) h
    where
      by : (b : Bool) (o : Option (Unit {0})) → is_some o ≡ true → is_some (cond b (Some tt) o) ≡ true
      by true o h = refl
      by false o h = h

  knows_still : (m : Need) → knows k m ≡ true → knows later m ≡ true
  knows_still (need.Node q) h = by (node_at k.nodes q) (is_absent k q) (is_absent later q) (more q) h
    where
      by : (o : Option Node) (a b : Bool) → (a ≡ true → b ≡ true) → is_some (cond (is_some o) (Some o) (cond a (Some None) None)) ≡ true → is_some (cond (is_some o) (Some o) (cond b (Some None) None)) ≡ true
      by (Some x) a b up is = refl
      by None true b up is = ap (λ c. is_some (answer c)) (up refl)
      by None false b up is = absurd (false≢true is)
  knows_still (need.Children q) h = h
  knows_still (need.Subtree q) h = refl
  knows_still need.All h = refl

  whole_still : LacksNothing k need.All → LacksNothing later need.All
  whole_still nothing = λ m a. knows_still m (nothing m (asks m a))

  same_nodes : is_some (node_at k.nodes p) ≡ false → later ≡ with_node k p None
  same_nodes none = ap (λ (es : Nodes). record k { nodes = es; absent = insert_entry path_cmp k.absent p tt }) (sym (nothing_removed (is_at (path_cmp p)) k.nodes (by (node_at k.nodes p) none)))
    where
      by : (o : Option Node) → is_some o ≡ false → o ≡ None
      by None h = refl
      by (Some x) h = absurd (false≢true (sym h))

-- whether or not it was put that no node is there, nothing lacks where nothing lacked
pub whole_if_put : {A E : Type 0} (k new : Knowledge) (p : Path) (r : Result A E) → is_some (node_at k.nodes p) ≡ false
    → OnOk r (new ≡ with_node k p None) → OnErr r (new ≡ k) → LacksNothing k need.All → LacksNothing new need.All
whole_if_put k new p (Ok x) none ok err nothing = subst (λ (x : Knowledge). LacksNothing x need.All) (same_nodes k p none ∙ sym ok) (whole_still k p nothing)
whole_if_put k new p (Err e) none ok err nothing = subst (λ (x : Knowledge). LacksNothing x need.All) (sym err) nothing
