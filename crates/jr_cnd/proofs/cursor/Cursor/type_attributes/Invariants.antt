use Rattle.std.proofs.Common.{◌≡◌, length}
use Rattle.jr_cnd.specs.Grammar.{type_attribute_first, type_attribute_more}
use Rattle.jr_cnd.specs.Reading.{many}
use Rattle.jr_cnd.proofs.cursor.Cursor.type_attributes.Given as goal

abbrev pub invariant-loop-turns : goal.invariant-loop-turns
invariant-loop-turns l =
    many type_attribute_first type_attribute_more l.turns l.attributes l.self
    ≡ many type_attribute_first type_attribute_more l.initial.turns l.initial.attributes l.initial.self

abbrev pub decreases-loop-turns : goal.decreases-loop-turns
decreases-loop-turns l = length l.turns
