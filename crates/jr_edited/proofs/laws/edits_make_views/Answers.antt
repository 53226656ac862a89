use Rattle.jr_edited.proofs.Made.{makes_view}
use Rattle.jr_edited.proofs.laws.edits_make_views.Goals as goal

pub returns : goal.returns
returns c = makes_view
