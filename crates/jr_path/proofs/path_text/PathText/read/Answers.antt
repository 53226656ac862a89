use Rattle.std.proofs.Common.{arith}
use Rattle.jr_path.proofs.Pieces.{depth_is}
use Rattle.jr_path.proofs.path_text.PathText.read.Goals as goal

pub returns-clause-path : goal.returns-clause-path
returns-clause-path c =
    let same = depth_is _ _ _ c.in-Ok.ensures c.in_ok-path_of.ensures in
    (c.in_ok-path_of.ensures, omega arith, omega arith)
