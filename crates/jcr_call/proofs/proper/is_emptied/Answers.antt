use Rattle.std.proofs.Common.{sym}
use Rattle.jcr_call.proofs.Written.{emptied_by}
use Rattle.jcr_call.proofs.proper.is_emptied.Goals as goal

pub returns-in-Some : goal.returns-in-Some
returns-in-Some c = λ ws are. emptied_by c.args.tree.now c.in-Gone.path c.in-Some.node.now c.args.unset.now ws
    c.args.write.now c.are_unset.result (sym c.in-Some.ensures) are c.in-Gone.is c.are_unset.ensures
