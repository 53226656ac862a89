use Rattle.std.proofs.Common.{ap, subst, refl}
use Rattle.jcr_trans.specs.declared.command.Command.{Command}
use Rattle.jcr_held.specs.Sees.{Sees}
use Rattle.jcr_run.specs.declared.next.Due.TheVariants as due
use Rattle.jcr_run.proofs.Nexts.{next_due, next_there, none_there, same_next, seen_there}
use Rattle.jcr_run.proofs.Readying.{ready_by}
use Rattle.jcr_run.specs.Standing.{is_events, reads_for}
use Rattle.jcr_run.proofs.run.SessionRun.seen.Goals as goal

pub see-requires-clause-viewed : goal.see-requires-clause-viewed
see-requires-clause-viewed c = seen_there c.args.self.now c.in-Some.command.now c.requires.next (let h = c.in-Some.ensures.lookup in next_there c.args.self.now.commands c.as_slice.result.now c.args.self.now.index c.in-Some.command.now c.as_slice.ensures h.3.0 h.1)

pub see-requires-clause-ready : goal.see-requires-clause-ready
see-requires-clause-ready c = ready_by c.args.self.now c.in-Some.command.now (let h = c.in-Some.ensures.lookup in next_there c.args.self.now.commands c.as_slice.result.now c.args.self.now.index c.in-Some.command.now c.as_slice.ensures h.3.0 h.1)
    (ap reads_for c.requires.next) (ap is_events c.requires.next) c.requires.ready.ready

pub returns-clause-sees : goal.returns-clause-sees
returns-clause-sees c = λ m x next holds.
    subst (λ (n : Command). Sees x n c.see.new.self c.see.result) (same_next c.args.self.now.commands c.args.self.now.index c.in-Some.command.now m (let h = c.in-Some.ensures.lookup in next_there c.args.self.now.commands c.as_slice.result.now c.args.self.now.index c.in-Some.command.now c.as_slice.ensures h.3.0 h.1) next) (c.see.ensures x holds)

pub unreachable-requires : goal.unreachable-requires
unreachable-requires c = (let m = next_due c.args.self.now due.See c.requires.next refl in none_there c.args.self.now.commands c.as_slice.result.now c.args.self.now.index m.0 c.as_slice.ensures c.in-None.ensures.lookup.0 m.1)
