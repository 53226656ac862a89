-- Refusals of edits, computed, and a whole plan.
use Rattle.std.proofs.Common.{◌≡◌, true, false, Some, None, List, [], ◌∷◌, ◌++◌, refl}
use Rattle.std.specs.Prelude.{codes}
use Rattle.jr_value.specs.declared.value.Kind.TheVariants as kind
use Rattle.jr_value.specs.declared.value.Property.TheVariants.{Single, Many}
use Rattle.jr_value.specs.declared.value.Value.TheVariants as value
use Rattle.jr_tree.specs.declared.shared.Datum.TheVariants as datum
use Rattle.jr_tree.specs.declared.edit.Write.{Write}
use Rattle.jr_tree.specs.declared.edit.Write.TheVariants.{Gone, Put, Unset}
use Rattle.jr_tree.specs.Trees.{Nodes}
use Rattle.jr_tree.specs.Edits.{applied}
use Rattle.oak_clash.specs.declared.mark.Mark.TheVariants.{Guard, Prop}
use Rattle.jr_builtin.specs.Builtin.{builtin}
use Rattle.jcr_ref.specs.References.{identifier, identifier_number}
use Rattle.jcr_marks.proofs.Rows.{a, b, c, empty, locking, mark, mix, of_type, one, start, t}
use Rattle.jcr_plan.specs.Plans.{PlanOk}
use Rattle.jcr_plan.specs.Refusals.{plan_refusal}
use Rattle.jcr_plan.proofs.Accepted.{accepted}

-- a file without its content
no_content : plan_refusal builtin empty [] (of_type (codes "f" ∷ []) (codes "nt:file"))
    ≡ Some (record { number = 4; parts = datum.Number 9 ∷ datum.Path (codes "f" ∷ []) ∷ datum.Name (codes "jcr:content") ∷ [] })
no_content = refl

-- an unstructured child of a folder
wrong_child : plan_refusal builtin empty [] (of_type (codes "f" ∷ []) (codes "nt:folder") ++ of_type (codes "f" ∷ codes "x" ∷ []) (codes "nt:unstructured"))
    ≡ Some (record { number = 4; parts = datum.Number 8 ∷ datum.Path (codes "f" ∷ []) ∷ datum.Name (codes "x") ∷ [] })
wrong_child = refl

-- a locked node is changed with the token alone
abbrev locked : Nodes
locked = applied None start (locking false)

no_token : plan_refusal builtin locked [] (Put a (codes "p") one ∷ []) ≡ Some (record { number = 7; parts = datum.Path a ∷ [] })
no_token = refl

with_token : plan_refusal builtin locked (codes "t" ∷ []) (Put a (codes "p") one ∷ []) ≡ None
with_token = refl

-- of nested locks the one that stands first in path order is named
nested : plan_refusal builtin (applied None start (locking true ++ Put c (codes "jcr:lockOwner") (Single (value.Str (codes "u"))) ∷ [])) []
    (Put c (codes "p") one ∷ Put b (codes "p") one ∷ []) ≡ Some (record { number = 7; parts = datum.Path a ∷ [] })
nested = refl

-- /t with an identifier, and /a with a reference to it
abbrev referring : List Write
referring =
    of_type a (codes "nt:unstructured") ++ Put a (codes "r") (Single (value.Reference (identifier_number 0 1)))
    ∷ of_type t (codes "nt:unstructured") ++ mix t (codes "mix:referenceable") ∷ Put t (codes "jcr:uuid") (Single (value.Str (identifier 0 1))) ∷ []

referring_plan : plan_refusal builtin empty [] referring ≡ None
referring_plan = refl

-- the target goes, and the reference stays
target_gone : plan_refusal builtin (applied None empty referring) [] (Gone t ∷ Unset t (codes "jcr:mixinTypes") ∷ Unset t (codes "jcr:primaryType") ∷ Unset t (codes "jcr:uuid") ∷ [])
    ≡ Some (record { number = 9; parts = datum.Item (record { path = a; name = Some (codes "r") }) ∷ [] })
target_gone = refl

-- /a is checked in: its properties aren't written, but those with IGNORE are
abbrev checked_in : Nodes
checked_in = applied None empty (of_type a (codes "nt:unstructured") ++ mix a (codes "mix:versionable")
    ∷ Put a (codes "jcr:isCheckedOut") (Single (value.Boolean false))
    ∷ Put a (codes "jcr:uuid") (Single (value.Str (identifier 0 1)))
    ∷ Put a (codes "jcr:versionHistory") (Single (value.Reference (identifier_number 0 1)))
    ∷ Put a (codes "jcr:baseVersion") (Single (value.Reference (identifier_number 0 1)))
    ∷ Put a (codes "jcr:predecessors") (Many kind.Reference [])
    ∷ [])

frozen : plan_refusal builtin checked_in [] (Put a (codes "p") one ∷ []) ≡ Some (record { number = 8; parts = datum.Path a ∷ [] })
frozen = refl

below_frozen : plan_refusal builtin checked_in [] (of_type b (codes "nt:unstructured")) ≡ Some (record { number = 8; parts = datum.Path a ∷ [] })
below_frozen = refl

checking_out : plan_refusal builtin checked_in [] (Put a (codes "jcr:isCheckedOut") (Single (value.Boolean true)) ∷ []) ≡ None
checking_out = refl

-- a whole plan
plan : PlanOk builtin start [] (locking true) (mark a Guard ∷ mark a (Prop (codes "jcr:lockIsDeep")) ∷ mark a (Prop (codes "jcr:lockOwner")) ∷ mark b Guard ∷ mark c Guard ∷ [])
plan = accepted builtin start [] (locking true) (record { tree = record { paths = refl; names = refl; root = refl; parents = refl }; once = refl; changing = refl; emptied = refl }) refl
