use Rattle.std.proofs.Common.{sym}
use Rattle.jr_part.proofs.Order.{own_children}
use Rattle.jr_part.proofs.part.Part.lacks_children.Goals as goal

pub returns-in_ok-copy-in-None : goal.returns-in_ok-copy-in-None
returns-in_ok-copy-in-None c = own_children c.args.self.now c.args.path.now _ c.in_ok-copy-in-None.ensures (sym c.in-None.ensures)
