use Rattle.std.proofs.Common.{ap}
use Rattle.jcr_run.specs.Standing.{due_for, reads_for}
use Rattle.jcr_run.proofs.Lawful.{unread_by}
use Rattle.jcr_session.proofs.Tidying.{collect_task, collect_tidies}
use Rattle.jcr_session.proofs.tidy.collect.Goals as goal

pub keep_place-requires-clause-next : goal.keep_place-requires-clause-next
keep_place-requires-clause-next g c = collect_tidies (due_for c.args.run.now) c.requires.next

pub keep_place-requires-clause-unread : goal.keep_place-requires-clause-unread
keep_place-requires-clause-unread g c = unread_by (g.P.Port.law c.args.port.now) (g.P.Port.shown c.args.port.now) c.args.run.now c.requires.stands c.requires.between (ap reads_for c.requires.next)

pub keep_place-requires-clause-task : goal.keep_place-requires-clause-task
keep_place-requires-clause-task g c = collect_task c.args.run.now c.requires.next
