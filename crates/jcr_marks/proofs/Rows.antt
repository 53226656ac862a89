-- Marks of edits, computed; rows of plans take the same trees and writes.
use Rattle.std.proofs.Common.{◌≡◌, Bool, true, false, Some, None, List, [], ◌∷◌, ◌++◌, refl, pos}
use Rattle.std.specs.Prelude.{codes}
use Rattle.jr_path.specs.declared.name.Name.{Name}
use Rattle.jr_path.specs.declared.path.Path.{Path}
use Rattle.jr_value.specs.declared.value.Kind.TheVariants as kind
use Rattle.jr_value.specs.declared.value.Property.{Property}
use Rattle.jr_value.specs.declared.value.Property.TheVariants.{Single, Many}
use Rattle.jr_value.specs.declared.value.Value.TheVariants as value
use Rattle.jr_tree.specs.declared.tree.Node.{Node}
use Rattle.jr_tree.specs.declared.edit.Write.{Write}
use Rattle.jr_tree.specs.declared.edit.Write.TheVariants.{Here, Put, Unset}
use Rattle.jr_tree.specs.Trees.{Nodes}
use Rattle.jr_tree.specs.Edits.{applied}
use Rattle.oak_clash.specs.declared.mark.Mark.{Mark}
use Rattle.oak_clash.specs.declared.mark.Mark.TheVariants.{Exists, Guard, Touch, Prop}
use Rattle.oak_clash.specs.declared.mark.MarkAt.{MarkAt}
use Rattle.oak_clash.specs.Clashes.{Meets, clashing}
use Rattle.jcr_ref.specs.References.{identifier, identifier_number}
use Rattle.jcr_marks.specs.Marks.{marks_of}

abbrev pub plain : Node
plain = record { props = (codes "jcr:primaryType", Single (value.Name (codes "nt:unstructured"))) ∷ []; born = None }

abbrev pub of_type : Path → Name → List Write
of_type p n = Here p ∷ Put p (codes "jcr:primaryType") (Single (value.Name n)) ∷ []

abbrev pub mix : Path → Name → Write
mix p n = Put p (codes "jcr:mixinTypes") (Many kind.Name (value.Name n ∷ []))

abbrev pub one : Property
one = Single (value.Long (pos 1))

abbrev pub a : Path
a = codes "a" ∷ []

abbrev pub b : Path
b = a ++ codes "b" ∷ []

abbrev pub c : Path
c = b ++ codes "c" ∷ []

abbrev d : Path
d = c ++ codes "d" ∷ []

abbrev pub mark : Path → Mark → MarkAt
mark p m = record { path = p; mark = m }

abbrev pub empty : Nodes
empty = ([], plain) ∷ []

-- /a that can be locked, /a/b and /a/b/c
abbrev pub start : Nodes
start = applied None empty (of_type a (codes "nt:unstructured") ++ mix a (codes "mix:lockable") ∷ of_type b (codes "nt:unstructured") ++ of_type c (codes "nt:unstructured"))

abbrev pub locking : Bool → List Write
locking deep = Put a (codes "jcr:lockIsDeep") (Single (value.Boolean deep)) ∷ Put a (codes "jcr:lockOwner") (Single (value.Str (codes "t"))) ∷ []

-- a deep lock guards each node that it comes to cover
deep_marks : marks_of start (locking true)
    ≡ mark a Guard ∷ mark a (Prop (codes "jcr:lockIsDeep")) ∷ mark a (Prop (codes "jcr:lockOwner")) ∷ mark b Guard ∷ mark c Guard ∷ []
deep_marks = refl

shallow_marks : marks_of start (locking false) ≡ mark a Guard ∷ mark a (Prop (codes "jcr:lockIsDeep")) ∷ mark a (Prop (codes "jcr:lockOwner")) ∷ []
shallow_marks = refl

-- a node added below touches its parent, so it clashes with the lock
abbrev adding : List MarkAt
adding = marks_of start (of_type d (codes "nt:unstructured"))

added_marks : adding ≡ mark c Touch ∷ mark d Exists ∷ mark d (Prop (codes "jcr:primaryType")) ∷ []
added_marks = refl

clash : clashing (marks_of start (locking true)) adding ≡ true
clash = refl

clash_item : Meets adding (marks_of start (locking true)) (record { path = c; name = None })
clash_item = refl

no_clash : clashing (marks_of start (locking false)) adding ≡ false
no_clash = refl

-- a written mixin guards the node and touches its parent; an unset of its property elsewhere meets it at the property
abbrev dating : List MarkAt
dating = marks_of (applied None empty (of_type a (codes "nt:unstructured") ++ Put a (codes "ex:d") one ∷ [])) (mix a (codes "ex:dated") ∷ [])

dated_marks : dating ≡ mark [] Touch ∷ mark a Guard ∷ mark a (Prop (codes "jcr:mixinTypes")) ∷ []
dated_marks = refl

undating_meets : Meets (marks_of (applied None empty (of_type a (codes "nt:unstructured") ++ Put a (codes "ex:d") one ∷ [])) (Unset a (codes "ex:d") ∷ [])) dating (record { path = a; name = Some (codes "ex:d") })
undating_meets = refl

abbrev pub t : Path
t = codes "t" ∷ []

-- a new reference touches its target
new_reference : marks_of (applied None empty (of_type a (codes "nt:unstructured") ++ of_type t (codes "nt:unstructured") ++ Put t (codes "jcr:uuid") (Single (value.Str (identifier 0 1))) ∷ []))
    (Put a (codes "r") (Single (value.Reference (identifier_number 0 1))) ∷ []) ≡ mark a (Prop (codes "r")) ∷ mark t Touch ∷ []
new_reference = refl
