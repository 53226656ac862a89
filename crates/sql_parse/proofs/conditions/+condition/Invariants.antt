use Rattle.std.proofs.Common.{◌≡◌, ◌+◌, ◌*◌, length}
use Rattle.std.specs.Prelude.{codes}
use Rattle.sql_parse.specs.Grammar.{and_more, not_at, or_more}
use Rattle.sql_pieces.specs.Reading.{many, word_first}
use Rattle.sql_parse.specs.Depths.{tested_in}
use Rattle.sql_parse.proofs.conditions.+condition.Given as goal

abbrev pub decreases-condition : goal.decreases-condition
decreases-condition l = 4 * length l.room.now + 2

abbrev pub decreases-conjunction : goal.decreases-conjunction
decreases-conjunction l = 4 * length l.room.now + 1

abbrev pub decreases-negated : goal.decreases-negated
decreases-negated l = 4 * length l.room.now + 1

abbrev pub decreases-grouped : goal.decreases-grouped
decreases-grouped l = 4 * length l.room.now + 3

abbrev pub decreases-negation : goal.decreases-negation
decreases-negation l = 4 * length l.room.now

abbrev pub invariant-condition-loop-turns : goal.invariant-condition-loop-turns
invariant-condition-loop-turns l =
    many (word_first (codes "OR")) (or_more (not_at l.names l.room)) l.turns (tested_in l.left) l.cursor
    ≡ many (word_first (codes "OR")) (or_more (not_at l.names l.room)) l.initial.turns (tested_in l.initial.left) l.initial.cursor

abbrev pub decreases-condition-loop-turns : goal.decreases-condition-loop-turns
decreases-condition-loop-turns l = length l.turns

abbrev pub invariant-conjunction-loop-turns : goal.invariant-conjunction-loop-turns
invariant-conjunction-loop-turns l =
    many (word_first (codes "AND")) (and_more (not_at l.names l.room)) l.turns (tested_in l.left) l.cursor
    ≡ many (word_first (codes "AND")) (and_more (not_at l.names l.room)) l.initial.turns (tested_in l.initial.left) l.initial.cursor

abbrev pub decreases-conjunction-loop-turns : goal.decreases-conjunction-loop-turns
decreases-conjunction-loop-turns l = length l.turns
