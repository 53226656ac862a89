use Rattle.std.proofs.Common.{ap, sym}
use Rattle.jcr_run.specs.Standing.{is_errand}
use Rattle.jcr_session.proofs.Nearer.{reply_steps}
use Rattle.jcr_session.proofs.turns.rest.Goals as goal

pub leave-requires-clause-next : goal.leave-requires-clause-next
leave-requires-clause-next g c = sym c.in-Leave.ensures

pub bar-requires-clause-next : goal.bar-requires-clause-next
bar-requires-clause-next g c = sym c.in-Bar.ensures

pub show_base-requires-clause-next : goal.show_base-requires-clause-next
show_base-requires-clause-next g c = sym c.in-ShowBase.ensures

pub set_out-requires-clause-next : goal.set_out-requires-clause-next
set_out-requires-clause-next g c = ap is_errand (sym c.in-Errand.ensures)

pub returns-in-Bar-clause-steps : goal.returns-in-Bar-clause-steps
returns-in-Bar-clause-steps g c = reply_steps _ _ _ c.bar.result c.bar.ensures.said

pub returns-in-ShowBase-clause-steps : goal.returns-in-ShowBase-clause-steps
returns-in-ShowBase-clause-steps g c = reply_steps _ _ _ c.show_base.result c.show_base.ensures.said
