-- A text of the grammar is refused for want of memory alone.
use Rattle.std.proofs.Common.{◌≡◌, List, ℕ, refl}
use Rattle.jr_path.specs.Grammar.{IsName, RefusesName}
use Rattle.jr_path.specs.Paths.{IsPathText, RefusesText}
use Rattle.jr_path.proofs.TextLaws.{one_fault}
use Rattle.jr_path.specs.declared.fault.PathFault.{PathFault}
use Rattle.jr_path.specs.declared.fault.PathFault.TheVariants as fault

pub path_fault : (text : List ℕ) (e : PathFault) → RefusesText text e → IsPathText text → e ≡ fault.Memory
path_fault text (fault.BadPath offset) refused is = absurd ((one_fault IsPathText).none text offset refused is)
path_fault text (fault.BadName offset) refused is = absurd refused
path_fault text (fault.TooDeep depth) refused is = absurd refused
path_fault text (fault.TooLong bytes) refused is = absurd refused
path_fault text fault.Memory refused is = refl

pub name_fault : (text : List ℕ) (e : PathFault) → RefusesName text e → IsName text → e ≡ fault.Memory
name_fault text (fault.BadName offset) refused is = absurd ((one_fault IsName).none text offset refused is)
name_fault text (fault.BadPath offset) refused is = absurd refused
name_fault text (fault.TooDeep depth) refused is = absurd refused
name_fault text (fault.TooLong bytes) refused is = absurd refused
name_fault text fault.Memory refused is = refl
