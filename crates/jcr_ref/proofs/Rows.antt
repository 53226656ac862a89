-- Identifiers and references, computed.
use Rattle.std.proofs.Common.{◌≡◌, Some, None, List, [], ◌∷◌, ◌++◌, refl}
use Rattle.std.specs.Prelude.{codes}
use Rattle.jr_path.specs.declared.name.Name.{Name}
use Rattle.jr_path.specs.declared.path.Path.{Path}
use Rattle.jr_value.specs.declared.value.Property.{Property}
use Rattle.jr_value.specs.declared.value.Property.TheVariants.{Single}
use Rattle.jr_value.specs.declared.value.Value.TheVariants as value
use Rattle.jr_tree.specs.declared.tree.Node.{Node}
use Rattle.jr_tree.specs.declared.edit.Write.TheVariants.{Gone, Unset}
use Rattle.jr_tree.specs.Trees.{Nodes}
use Rattle.jr_tree.specs.Edits.{applied}
use Rattle.jcr_ref.specs.Histories.{version_names}
use Rattle.jcr_ref.specs.References.{identifier, identifier_number, uuid_text, identifier_of, node_by_id, target_of, referrers, dangling}

first : identifier 0 1 ≡ codes "00000000-0000-4000-8000-000000000001"
first = refl

-- the last six digits of each number stand
wide : identifier 0x1ABCDEF 0x1000001 ≡ codes "00000000-0000-4000-8000-abcdef000001"
wide = refl

same_text : uuid_text (identifier_number 0x1ABCDEF 0x1000001) ≡ identifier 0x1ABCDEF 0x1000001
same_text = refl

abbrev node : List (Name × Property) → Node
node props = record { props = props; born = None }

abbrev a : Path
a = codes "a" ∷ []

abbrev t : Path
t = codes "t" ∷ []

-- /t with an identifier, and /a with a reference to it
abbrev both : Nodes
both =
    ([], node []) ∷ (a, node ((codes "r", Single (value.Reference (identifier_number 0 1))) ∷ []))
    ∷ (t, node ((codes "jcr:uuid", Single (value.Str (identifier 0 1))) ∷ [])) ∷ []

found : node_by_id both (identifier 0 1) ≡ Some t
found = refl

found_by_path : node_by_id both (codes "/a") ≡ Some a
found_by_path = refl

target : target_of both (identifier_number 0 1) ≡ Some t
target = refl

named : referrers both (identifier_of both t) ≡ record { path = a; name = Some (codes "r") } ∷ []
named = refl

whole : dangling both ≡ None
whole = refl

-- without /t, the reference names no node
broken : dangling (applied None both (Gone t ∷ Unset t (codes "jcr:uuid") ∷ [])) ≡ Some (record { path = a; name = Some (codes "r") })
broken = refl

-- a frozen node's reference isn't held to that
frozen : dangling (([], node []) ∷ (a, node ((codes "jcr:primaryType", Single (value.Name (codes "nt:frozenNode"))) ∷ (codes "r", Single (value.Reference 7)) ∷ [])) ∷ []) ≡ None
frozen = refl

abbrev h : Path
h = codes "h" ∷ []

-- the root version first, and `v10` behind `v9`
in_order : version_names (([], node []) ∷ (h, node []) ∷ (h ++ codes "jcr:rootVersion" ∷ [], node []) ∷ (h ++ codes "jcr:versionLabels" ∷ [], node []) ∷ (h ++ codes "v1" ∷ [], node []) ∷ (h ++ codes "v10" ∷ [], node []) ∷ (h ++ codes "v9" ∷ [], node []) ∷ []) h
    ≡ codes "jcr:rootVersion" ∷ codes "v1" ∷ codes "v9" ∷ codes "v10" ∷ []
in_order = refl
