use Rattle.jcr_fill.proofs.Touched.{completed_here}
use Rattle.jcr_fill.proofs.laws.completing_keeps_identifiers.Goals as goal

pub returns : goal.returns
returns c = λ types who view p node m. completed_here 65 types who view p node m
