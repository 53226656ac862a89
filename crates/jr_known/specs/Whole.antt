-- Whether the whole tree at the base is known, as it is noted.
use Rattle.std.specs.Prelude.{Bool, IsTrue}
use Rattle.jr_part.specs.Parts.{Knowledge, LacksNothing}
use Rattle.jr_part.specs.declared.need.Need.TheVariants as need

-- nothing of the whole tree lacks, if it is noted so
abbrev pub IsWholeIf : Knowledge → (is_whole : Bool) → Type 0
IsWholeIf k is_whole = IsTrue is_whole → LacksNothing k need.All
