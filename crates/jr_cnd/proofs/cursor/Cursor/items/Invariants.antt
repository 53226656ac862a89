use Rattle.std.proofs.Common.{◌≡◌, length}
use Rattle.jr_cnd.specs.Grammar.{item_first, item_more}
use Rattle.jr_cnd.specs.Reading.{many}
use Rattle.jr_cnd.proofs.cursor.Cursor.items.Given as goal

abbrev pub invariant-loop-turns : goal.invariant-loop-turns
invariant-loop-turns l =
    many item_first item_more l.turns l.items l.self
    ≡ many item_first item_more l.initial.turns l.initial.items l.initial.self

abbrev pub decreases-loop-turns : goal.decreases-loop-turns
decreases-loop-turns l = length l.turns
