-- What an edit writes at an item, and when an edit fits a tree.
use Rattle.std.specs.Prelude.{◌≡◌, Bool, true, false, cond, ◌&&◌, List, [], ◌∷◌, Option, None, Some, is_some, IsTrue}
use Rattle.std.specs.Option.{option_or, unwrap_or}
use Rattle.std.specs.Ordering.{eq_by_cmp}
use Rattle.std.specs.List.{list_any}
use Rattle.jr_path.specs.Names.{name_cmp, path_cmp}
use Rattle.jr_path.specs.declared.name.Name.{Name}
use Rattle.jr_path.specs.declared.path.Path.{Path}
use Rattle.jr_rev.specs.declared.revision.Revision.{Revision}
use Rattle.jr_value.specs.declared.value.Property.{Property}
use Rattle.jr_tree.specs.declared.edit.Write.{Write}
use Rattle.jr_tree.specs.declared.edit.Write.TheVariants.{Here, Gone, Put, Unset}
use Rattle.jr_tree.specs.Trees.{Nodes, born_at, node_at, property_at}
use Rattle.jr_tree.specs.Edits.{is_once}

-- whether the node at p is there after a write of it
abbrev pub here_of : Path → Write → Option Bool
here_of p (Here q) = cond (eq_by_cmp path_cmp p q) (Some true) None
here_of p (Gone q) = cond (eq_by_cmp path_cmp p q) (Some false) None
here_of p (Put q m x) = None
here_of p (Unset q m) = None

-- the property of that name of the node at p after a write of it
abbrev pub put_of : Path → Name → Write → Option (Option Property)
put_of p n (Put q m x) = cond (eq_by_cmp path_cmp p q && eq_by_cmp name_cmp n m) (Some (Some x)) None
put_of p n (Unset q m) = cond (eq_by_cmp path_cmp p q && eq_by_cmp name_cmp n m) (Some None) None
put_of p n (Here q) = None
put_of p n (Gone q) = None

-- a write removes the node at the path
abbrev pub is_gone_of : Path → Write → Bool
is_gone_of p (Gone q) = eq_by_cmp path_cmp p q
is_gone_of p _ = false

-- what the last write of an item writes there
abbrev pub written : {X : Type 0} → (Write → Option X) → List Write → Option X
written f [] = None
written f (w ∷ ws) = option_or (written f ws) (f w)

-- whether the node at p is there after an edit
abbrev pub has_after : Nodes → List Write → Path → Bool
has_after t ws p = unwrap_or (written (here_of p) ws) (is_some (node_at t p))

-- the revision that added the node at p, after an edit by a revision: this one where the node is written
abbrev pub born_after : Option Revision → Nodes → List Write → Path → Option Revision
born_after born t ws p = cond (has_after t ws p) (cond (is_some (written (here_of p) ws)) born (born_at t p)) None

-- the property of that name of the node at p after an edit
abbrev pub property_after : Nodes → List Write → Path → Name → Option Property
property_after t ws p n = cond (has_after t ws p) (unwrap_or (written (put_of p n) ws) (property_at t p n)) None

-- an edit fits a tree: no item is written twice, a property is put where its node is there afterwards, and each property of a node that goes is written
pub record Fits (t : Nodes) (ws : List Write) : Type 0 where
  pub once : IsTrue (is_once ws)
  pub put : (p : Path) (n : Name) (x : Property) → written (put_of p n) ws ≡ Some (Some x) → IsTrue (has_after t ws p)
  pub gone : (p : Path) (n : Name) → IsTrue (list_any (is_gone_of p) ws) → IsTrue (is_some (property_at t p n)) → IsTrue (is_some (written (put_of p n) ws))
