-- What a session knows of the references of the tree at its base.
use Rattle.std.specs.Prelude.{Bool, true, false, Option, None, Some, IsTrue, is_some, ⊤}
use Rattle.jr_path.specs.declared.path.Item.{Item}
use Rattle.jr_tree.specs.Trees.{Nodes}
use Rattle.jcr_ref.specs.References.{ReferencesOk, dangling}
use Rattle.jcr_held.specs.declared.references.References.{References}
use Rattle.jcr_held.specs.declared.references.References.TheVariants as references

-- what is known of the references of a tree: nothing, that each names a node, or that one dangles
abbrev pub HoldsReferences : Nodes → References → Type 0
HoldsReferences t references.Unasked = ⊤
HoldsReferences t references.Named = ReferencesOk t
HoldsReferences t references.Dangling = IsTrue (is_some (dangling t))

-- whether one dangles was asked, or is known without
abbrev pub are_asked : References → Bool
are_asked references.Unasked = false
are_asked references.Named = true
are_asked references.Dangling = true

-- each is known to name a node
abbrev pub are_named : References → Bool
are_named references.Unasked = false
are_named references.Named = true
are_named references.Dangling = false

-- what is known once it was asked which reference dangles first
abbrev pub references_by : (first : Option Item) → References
references_by None = references.Named
references_by (Some item) = references.Dangling
