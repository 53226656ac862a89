-- Commits in descending order: the tree that a reader sees, and what it sees at an item.
use Rattle.std.specs.Prelude.{◌≡◌, Bool, cond, List, [], ◌∷◌, Option, None, Some, is_some, IsTrue}
use Rattle.std.specs.Option.{option_map, option_or}
use Rattle.jr_path.specs.declared.name.Name.{Name}
use Rattle.jr_path.specs.declared.path.Path.{Path}
use Rattle.jr_rev.specs.declared.revision.Revision.{Revision}
use Rattle.jr_rev.specs.Revisions.{is_before}
use Rattle.jr_tree.specs.declared.edit.Write.{Write}
use Rattle.jr_tree.specs.Trees.{Nodes}
use Rattle.jr_tree.specs.Edits.{applied}
use Rattle.jr_tree.specs.Items.{here_of, put_of, written}

-- edits by revision, the greatest revision first
abbrev pub Commits : Type 0
Commits = List (Revision × List Write)

-- which revisions are seen
abbrev pub Sight : Type 0
Sight = Revision → Bool

-- the tree that is seen: the edits that are seen, applied to nothing in ascending order, each with
-- its revision
abbrev pub tree_seen : Sight → Commits → Nodes
tree_seen s [] = []
tree_seen s (e ∷ es) = cond (s e.0) (applied (Some e.0) (tree_seen s es) e.1) (tree_seen s es)

-- what the last write of an item writes, over the edits that are seen
abbrev pub last : {X : Type 0} → (Write → Option X) → Sight → Commits → Option X
last f s [] = None
last f s (e ∷ es) = option_or (cond (s e.0) (written f e.1) None) (last f s es)

-- what the last write of an item writes, over the edits that are seen, with that edit's revision
abbrev pub last_entry : {X : Type 0} → (Write → Option X) → Sight → Commits → Option (Revision × X)
last_entry f s [] = None
last_entry f s (e ∷ es) = option_or (option_map (λ x. (e.0, x)) (cond (s e.0) (written f e.1) None))
    (last_entry f s es)

-- the revision of the last edit that writes the node at p
abbrev pub last_by : Path → Sight → Commits → Option Revision
last_by p s es = option_map (λ e. e.0) (last_entry (here_of p) s es)

-- P holds of each element
abbrev pub Each : {X : Type 0} → (X → Type 0) → List X → Type 0
Each P [] = Unit {0}
Each P (x ∷ xs) = P x × Each P xs

-- with a revision that is seen, all that its base sees is seen
abbrev pub Closed : (Revision → Sight) → Sight → Commits → Type 0
Closed base s [] = Unit {0}
Closed base s (e ∷ es) = (IsTrue (s e.0) → Each (λ o. IsTrue (base e.0 o.0) → IsTrue (s o.0)) es)
    × Closed base s es

-- where one edit writes a node the other writes no property of it, and where one writes a property
-- the other doesn't write its node
pub record Apart (ws os : List Write) : Type 0 where
  pub below : (p : Path) (n : Name) → IsTrue (is_some (written (here_of p) ws))
      → written (put_of p n) os ≡ None
  pub prop : (p : Path) (n : Name) → IsTrue (is_some (written (put_of p n) ws))
      → written (here_of p) os ≡ None

-- the revisions fall
abbrev pub Fall : Commits → Type 0
Fall [] = Unit {0}
Fall (e ∷ es) = Each (λ o. IsTrue (is_before o.0 e.0)) es × Fall es
