use Rattle.jcr_session.proofs.Begun.{events_kept}
use Rattle.jcr_session.proofs.errand.show_changes.Goals as goal

pub returns : goal.returns
returns c = λ h x holds since. events_kept h x c.args.run.now.held c.args.commits.now c.in_ok-reply.reply holds since c.in_ok-reply.ensures
