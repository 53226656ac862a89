-- What is told of the first reference that dangles is known of all.
use Rattle.std.proofs.Common.{◌≡◌, true, Option, None, Some, ap, is_some}
use Rattle.std.proofs.lemmas.Bool.{false≢true}
use Rattle.jr_path.specs.declared.path.Item.{Item}
use Rattle.jr_tree.specs.Trees.{Nodes}
use Rattle.jcr_ref.specs.References.{ReferencesOk, dangling}
use Rattle.jcr_plan.proofs.Accepted.{references_hold}
use Rattle.jcr_held.specs.References.{HoldsReferences, are_named, references_by}
use Rattle.jcr_held.specs.declared.references.References.{References}
use Rattle.jcr_held.specs.declared.references.References.TheVariants as references

-- what was told of the first that dangles is so
pub told_so : (t : Nodes) (first : Option Item) → dangling t ≡ first → HoldsReferences t (references_by first)
told_so t None is = references_hold t is
told_so t (Some item) is = ap is_some is

-- where they are known to name nodes, they do
pub named_ok : (t : Nodes) (r : References) → HoldsReferences t r → are_named r ≡ true → ReferencesOk t
named_ok t references.Unasked h is = absurd (false≢true is)
named_ok t references.Named h is = h
named_ok t references.Dangling h is = absurd (false≢true is)
