use Rattle.std.proofs.Common.{◌+◌, ◌*◌, length}
use Rattle.sql_parse.proofs.operands.+operand.Given as goal

abbrev pub decreases-operand : goal.decreases-operand
decreases-operand l = 2 * length l.room.now

abbrev pub decreases-operand_call : goal.decreases-operand_call
decreases-operand_call l = 2 * length l.room.now + 1
