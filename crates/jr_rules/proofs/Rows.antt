-- The rules of the built-in types, at some trees.
use Rattle.std.proofs.Common.{None, ◌≡◌, Some, [], ◌∷◌, refl}
use Rattle.std.specs.Prelude.{codes}
use Rattle.jr_value.specs.declared.value.Property.TheVariants.{Single}
use Rattle.jr_value.specs.declared.value.Value.TheVariants as value
use Rattle.jr_tree.specs.declared.edit.Write.TheVariants.{Here, Put}
use Rattle.jr_tree.specs.Trees.{initial_tree}
use Rattle.jr_tree.specs.Edits.{applied}
use Rattle.jr_items.specs.Names.{primary_type}
use Rattle.jr_types.specs.Rules.{TypesOk}
use Rattle.jr_builtin.specs.Builtin.{builtin}
use Rattle.jr_rules.specs.Violations.{first_violation}
use Rattle.jr_rules.proofs.Meeting.{meets_rules}

pub initial_meets_rules : TypesOk builtin initial_tree
initial_meets_rules = meets_rules builtin initial_tree refl

-- a folder may have no child of another type than nt:hierarchyNode, and a file has to have its content
a_folder : first_violation builtin (applied None initial_tree
    (Here (codes "f" ∷ []) ∷ Put (codes "f" ∷ []) primary_type (Single (value.Name (codes "nt:folder")))
    ∷ Here (codes "f" ∷ codes "x" ∷ []) ∷ Put (codes "f" ∷ codes "x" ∷ []) primary_type (Single (value.Name (codes "nt:unstructured"))) ∷ []))
    ≡ Some (record { node = codes "f" ∷ []; rule = 8; item = codes "x" })
a_folder = refl

a_file : first_violation builtin (applied None initial_tree (Here (codes "f" ∷ []) ∷ Put (codes "f" ∷ []) primary_type (Single (value.Name (codes "nt:file"))) ∷ []))
    ≡ Some (record { node = codes "f" ∷ []; rule = 9; item = codes "jcr:content" })
a_file = refl

-- an orderable type keeps the order of its children as names
an_order : first_violation builtin (applied None initial_tree (Put [] (codes "rep:childOrder") (Single (value.Name (codes "a"))) ∷ [])) ≡ Some (record { node = []; rule = 4; item = codes "rep:childOrder" })
an_order = refl
