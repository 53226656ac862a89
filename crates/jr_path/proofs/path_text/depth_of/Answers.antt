use Rattle.jr_path.proofs.Pieces.{no_slash_stops}
use Rattle.jr_path.proofs.path_text.depth_of.Goals as goal

pub returns-in-None : goal.returns-in-None
returns-in-None c = no_slash_stops _ c.in-None.ensures
