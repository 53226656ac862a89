-- What is looked up for each reference of a tree.
use Rattle.std.specs.Prelude.{◌≡◌, ℕ, cond, is_some, List, Option, None, Some}
use Rattle.std.specs.Map.{lookup}
use Rattle.std.specs.BTreeMap.{is_at, insert_entry}
use Rattle.jr_path.specs.Names.{name_cmp}
use Rattle.jr_path.specs.declared.path.Path.{Path}
use Rattle.jr_tree.specs.Trees.{Nodes}
use Rattle.jr_items.specs.Names.{primary_type}
use Rattle.jcr_ref.specs.declared.references.Targets.{Targets}
use Rattle.jcr_ref.specs.References.{IsIndex, target_of, uuid_text}

-- the index is the tree's, and the name is that of the property with a node's type
pub record IsIndexReady (targets : Targets) : Type 0 where
  pub index : IsIndex targets.tree.now targets.index
  pub primary : targets.primary ≡ primary_type

-- the node that an index has for the text of an identifier
abbrev pub node_by_text : List (List ℕ × Path) → ℕ → Option Path
node_by_text index id = lookup (is_at (name_cmp (uuid_text id))) index

-- an index has for each identifier the first node that it names, and none for one that names no node
abbrev pub FindsTargets : Nodes → List (List ℕ × Path) → Type 0
FindsTargets t index = (id : ℕ) → node_by_text index id ≡ target_of t id

-- an index with the node of an identifier, if there is one and the index has none for it
abbrev pub with_first : List (List ℕ × Path) → Option (List ℕ) → Path → List (List ℕ × Path)
with_first index None p = index
with_first index (Some id) p = cond (is_some (lookup (is_at (name_cmp id)) index)) index (insert_entry name_cmp index id p)
