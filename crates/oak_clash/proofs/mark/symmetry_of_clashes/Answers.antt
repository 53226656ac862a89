use Rattle.oak_clash.proofs.Marks.{clash-symm}
use Rattle.oak_clash.proofs.mark.symmetry_of_clashes.Goals as goal

pub returns : goal.returns
returns c = clash-symm
