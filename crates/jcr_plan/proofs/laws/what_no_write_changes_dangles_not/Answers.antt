-- Each identifier stays where it was, and no REFERENCE comes.
use Rattle.jcr_plan.proofs.Dangling.{dangles_not}
use Rattle.jcr_plan.proofs.laws.what_no_write_changes_dangles_not.Goals as goal

pub returns : goal.returns
returns c = dangles_not
