use Rattle.std.proofs.Common.{sym}
use Rattle.jr_part.proofs.Order.{own_node}
use Rattle.jr_part.proofs.part.Part.lacks_node.Goals as goal

pub returns-in_ok-copy-in-None : goal.returns-in_ok-copy-in-None
returns-in_ok-copy-in-None c = own_node c.args.self.now c.args.path.now _ c.in_ok-copy-in-None.ensures (sym c.in-None.ensures)
