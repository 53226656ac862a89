-- What a command answers.
use Rattle.std.specs.Prelude.{ℕ, List, []}
use Rattle.jr_path.specs.declared.name.Name.{Name}
use Rattle.jr_path.specs.declared.path.Item.{Item}
use Rattle.jr_value.specs.declared.value.Property.{Property}
use Rattle.jr_rev.specs.declared.revision.Revision.{Revision}
use Rattle.jr_rev.specs.declared.vector.RevVec.{RevVec}
use Rattle.jr_tree.specs.declared.shared.Datum.{Datum}

-- `ok`, `ok` with what is shown, or `no` with a number and what it names
pub data Answer : Type 0 where
  Done : Answer
  ShowsProperty : Property → Answer
  ShowsNames : List Name → Answer
  ShowsRevision : Revision → Answer
  ShowsVector : RevVec → Answer
  ShowsNothing : Answer
  ShowsProperties : List (Name × Property) → Answer
  ShowsText : List ℕ → Answer
  ShowsItems : List Item → Answer
  Refused : (number : ℕ) → List Datum → Answer

-- memory was refused
abbrev pub memory_refused : Answer
memory_refused = Refused 16 []
