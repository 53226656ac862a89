use Rattle.jcr_session.proofs.Moving.{base_moves}
use Rattle.jcr_session.proofs.laws.bases_move_for_their_commands.Goals as goal

pub returns : goal.returns
returns c = base_moves
