use Rattle.jcr_fill.proofs.Touched.{completed_elsewhere}
use Rattle.jcr_fill.proofs.laws.completing_stays_below.Goals as goal

pub returns : goal.returns
returns c = λ types who view p node m q apart. completed_elsewhere 65 types who view p node m q apart
