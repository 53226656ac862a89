use Rattle.std.proofs.Common.{ap, refl}
use Rattle.jcr_run.specs.declared.next.Due.TheVariants as due
use Rattle.jcr_run.proofs.Calling.{comes_by}
use Rattle.jcr_run.proofs.Nexts.{commits_there, next_due, next_there, none_there}
use Rattle.jcr_run.proofs.Readying.{ready_by}
use Rattle.jcr_run.specs.Standing.{is_events, reads_for}
use Rattle.jcr_session.proofs.commit.come.Goals as goal

pub come-requires-clause-ready : goal.come-requires-clause-ready
come-requires-clause-ready c = ready_by c.args.run.now c.in-Some.command.now (let h = c.in-Some.ensures.lookup in next_there c.args.run.now.commands c.as_slice.result.now c.args.run.now.index c.in-Some.command.now c.as_slice.ensures h.3.0 h.1)
    (ap reads_for c.requires.next) (ap is_events c.requires.next) c.requires.ready.ready

pub come-requires-clause-commits : goal.come-requires-clause-commits
come-requires-clause-commits c = commits_there c.args.run.now c.in-Some.command.now c.requires.next (let h = c.in-Some.ensures.lookup in next_there c.args.run.now.commands c.as_slice.result.now c.args.run.now.index c.in-Some.command.now c.as_slice.ensures h.3.0 h.1)

pub returns : goal.returns
returns c = comes_by c.args.run.now c.in-Some.command.now c.come.result (let h = c.in-Some.ensures.lookup in next_there c.args.run.now.commands c.as_slice.result.now c.args.run.now.index c.in-Some.command.now c.as_slice.ensures h.3.0 h.1) c.come.ensures

pub unreachable-requires : goal.unreachable-requires
unreachable-requires c = (let m = next_due c.args.run.now due.Commit c.requires.next refl in none_there c.args.run.now.commands c.as_slice.result.now c.args.run.now.index m.0 c.as_slice.ensures c.in-None.ensures.lookup.0 m.1)
