-- What an operand is, however it is kept.
use Rattle.std.specs.Prelude.{Option, Some, None}
use Rattle.jr_value.specs.declared.value.Property.{Property}
use Rattle.sql_eval.specs.declared.operand.Shown.{Shown}
use Rattle.sql_eval.specs.declared.operand.Shown.TheVariants.{Missing, Kept, Made}

-- the property of the tree, the one that was made, or none
abbrev pub shown_property : Shown → Option Property
shown_property Missing = None
shown_property (Kept p) = Some p.now
shown_property (Made p) = Some p
