use Rattle.std.proofs.Common.{◌≡◌, length}
use Rattle.jr_cnd.specs.Grammar.{item_attribute_first, item_attribute_more}
use Rattle.jr_cnd.specs.Reading.{many}
use Rattle.jr_cnd.proofs.cursor.Cursor.item_attributes.Given as goal

abbrev pub invariant-loop-turns : goal.invariant-loop-turns
invariant-loop-turns l =
    many (item_attribute_first l.of_property) (item_attribute_more l.of_property) l.turns l.attributes l.self
    ≡ many (item_attribute_first l.of_property) (item_attribute_more l.of_property) l.initial.turns l.initial.attributes l.initial.self

abbrev pub decreases-loop-turns : goal.decreases-loop-turns
decreases-loop-turns l = length l.turns
