use Rattle.std.proofs.Common.{ap, subst, refl, sym, ◌∙◌}
use Rattle.jcr_trans.specs.declared.command.Command.{Command}
use Rattle.jcr_run.specs.declared.next.Due.TheVariants as due
use Rattle.jcr_run.specs.Asked.{IsQueriedAs}
use Rattle.jcr_run.proofs.Calling.{made_if}
use Rattle.jcr_run.proofs.Nexts.{allowed_due, due_at, next_due, next_there, none_there, same_next}
use Rattle.jcr_run.proofs.Readying.{ready_by}
use Rattle.jcr_run.specs.Standing.{is_events, reads_for}
use Rattle.jcr_run.proofs.run.SessionRun.queried.Goals as goal

pub query_by-requires-clause-next : goal.query_by-requires-clause-next
query_by-requires-clause-next c = (allowed_due c.args.self.now.attached c.in-Some.command.now due.Query (sym (due_at c.args.self.now c.in-Some.command.now (let h = c.in-Some.ensures.lookup in next_there c.args.self.now.commands c.as_slice.result.now c.args.self.now.index c.in-Some.command.now c.as_slice.ensures h.3.0 h.1)) ∙ c.requires.next) refl).1

pub query_by-requires-clause-ready : goal.query_by-requires-clause-ready
query_by-requires-clause-ready c = ready_by c.args.self.now c.in-Some.command.now (let h = c.in-Some.ensures.lookup in next_there c.args.self.now.commands c.as_slice.result.now c.args.self.now.index c.in-Some.command.now c.as_slice.ensures h.3.0 h.1)
    (ap reads_for c.requires.next) (ap is_events c.requires.next) c.requires.ready.ready

pub returns : goal.returns
returns c = made_if c.query_by.result _ _
    (λ text is m next. subst (λ (n : Command). IsQueriedAs c.args.self.now.held n text) (same_next c.args.self.now.commands c.args.self.now.index c.in-Some.command.now m (let h = c.in-Some.ensures.lookup in next_there c.args.self.now.commands c.as_slice.result.now c.args.self.now.index c.in-Some.command.now c.as_slice.ensures h.3.0 h.1) next) is) c.query_by.ensures

pub unreachable-requires : goal.unreachable-requires
unreachable-requires c = (let m = next_due c.args.self.now due.Query c.requires.next refl in none_there c.args.self.now.commands c.as_slice.result.now c.args.self.now.index m.0 c.as_slice.ensures c.in-None.ensures.lookup.0 m.1)
