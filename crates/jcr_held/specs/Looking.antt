-- What loading may read on its way, of what is left to be looked at.
use Rattle.std.specs.Prelude.{◌≡◌, ◌++◌, ◌⊎◌, Bool, List, [], ◌∷◌, Contains, Some, IsFalse, IsTrue, is_some}
use Rattle.std.specs.List.{flat_map}
use Rattle.jr_path.specs.Names.{parent_of}
use Rattle.jr_path.specs.declared.name.Name.{Name}
use Rattle.jr_path.specs.declared.path.Path.{Path}
use Rattle.jr_tree.specs.Trees.{node_at}
use Rattle.jr_part.specs.Parts.{Knowledge, Lacks, knows, lists_child}
use Rattle.jr_part.specs.declared.need.Need.{Need}
use Rattle.jr_part.specs.declared.need.Need.TheVariants as need
use Rattle.jr_overlay.specs.Overlays.{Changed, change_at}
use Rattle.jcr_view.specs.Rounds.{one_path}
use Rattle.jcr_held.specs.declared.looking.Place.{Place}
use Rattle.jcr_held.specs.declared.looking.Place.TheVariants as place

-- the places that are left to be looked at for a need: its node, or from the first child on all
-- that is below its path
abbrev pub places_for : Need → List Place
places_for (need.Node p) = place.Node p ∷ []
places_for (need.Children p) = []
places_for (need.Subtree p) = place.Below p 0 ∷ []
places_for need.All = place.Below [] 0 ∷ []

-- a path, and the one above it
abbrev pub with_above : Path → List Path
with_above p = p ∷ one_path (parent_of p)

-- the paths that are touched, and those above them
abbrev pub touched_paths : Changed → List Path
touched_paths c = flat_map (λ e. with_above e.0) c

-- the node at q is a child that is known to be below another
pub record IsKnownChild (k : Knowledge) (q : Path) : Type 0 where
  pub parent : Path
  pub name : Name
  pub path : q ≡ parent ++ name ∷ []
  pub lists : IsTrue (lists_child k parent name)

-- the node at q is touched, or stands above one that is
pub record IsNearTouched (c : Changed) (q : Path) : Type 0 where
  pub below : Path
  pub touched : IsTrue (is_some (change_at c below))
  pub near : Contains (with_above below) q

-- The node is known to be a child, or, where what is pending is kept, it is touched or stands above
-- one that is; or the children are those of a node that is known to be there.
abbrev pub IsMet : Knowledge → Changed → (kept : Bool) → Need → Type 0
IsMet k c kept (need.Node q) = IsKnownChild k q ⊎ (IsTrue kept × IsNearTouched c q)
IsMet k c kept (need.Children p) = IsTrue (is_some (node_at k.nodes p))
IsMet k c kept (need.Subtree p) = ⊥
IsMet k c kept need.All = ⊥

-- the need is met on the way, and isn't known
pub record IsMetFirst (k : Knowledge) (c : Changed) (kept : Bool) (n : Need) : Type 0 where
  pub met : IsMet k c kept n
  pub unknown : IsFalse (knows k n)

-- the need is of a child that is known to be below another, and isn't known
pub record IsUnknownChild (k : Knowledge) (n : Need) : Type 0 where
  pub at : Path
  pub node : n ≡ need.Node at
  pub listed : IsKnownChild k at
  pub unknown : IsFalse (knows k n)

-- the need is of the node at p or of the one above it, and isn't known
pub record IsUnknownNear (k : Knowledge) (p : Path) (n : Need) : Type 0 where
  pub at : Path
  pub node : n ≡ need.Node at
  pub near : Contains (with_above p) at
  pub unknown : IsFalse (knows k n)

-- the need lacks first of one of these
pub record IsLackingOf (k : Knowledge) (needs : List Need) (lacking : Need) : Type 0 where
  pub wanted : Need
  pub asked : Contains needs wanted
  pub lacks : Lacks k wanted (Some lacking)
