use Rattle.std.proofs.Common.{subst}
use Rattle.jcr_held.specs.Holds.{IsReady}
use Rattle.jcr_trans.specs.declared.command.Command.{Command}
use Rattle.jcr_run.proofs.Calling.{made_if}
use Rattle.jcr_run.proofs.Readying.{ready_tree}
use Rattle.jcr_run.proofs.Nearing.{no_more_unread, wanted_by}
use Rattle.jcr_run.proofs.Nexts.{next_there, none_there, reads_due, reads_next, same_next}
use Rattle.jcr_run.proofs.reads.next_load.Goals as goal

pub returns-clause-ready : goal.returns-clause-ready
returns-clause-ready c = made_if c.next_load.result _ _
    (λ load ready none m next. ready_tree (record c.args.run.now { held = c.next_load.new.self }) m next (reads_due c.args.run.now c.requires.reads) c.requires.tree (subst (λ (n : Command). IsReady c.next_load.new.self n) (same_next c.args.run.now.commands c.args.run.now.index c.in-Some.command.now m (let h = c.in-Some.ensures.lookup in next_there c.args.run.now.commands c.as_slice.result.now c.args.run.now.index c.in-Some.command.now c.as_slice.ensures h.3.0 h.1) next) (ready none))) c.next_load.ensures.ready

pub unreachable-requires : goal.unreachable-requires
unreachable-requires c = let m = reads_next c.args.run.now c.requires.reads in none_there c.args.run.now.commands c.as_slice.result.now c.args.run.now.index m.0 c.as_slice.ensures c.in-None.ensures.lookup.0 m.1

pub returns-clause-wanted : goal.returns-clause-wanted
returns-clause-wanted c = wanted_by c.args.run.now c.next_load.new.self c.in-Some.command.now c.next_load.result (let h = c.in-Some.ensures.lookup in next_there c.args.run.now.commands c.as_slice.result.now c.args.run.now.index c.in-Some.command.now c.as_slice.ensures h.3.0 h.1) c.next_load.ensures.wanted

pub returns-clause-fewer : goal.returns-clause-fewer
returns-clause-fewer c = λ x holds. no_more_unread x c.args.run.now c.in-Some.command.now c.next_load.new.self (let h = c.in-Some.ensures.lookup in next_there c.args.run.now.commands c.as_slice.result.now c.args.run.now.index c.in-Some.command.now c.as_slice.ensures h.3.0 h.1) c.requires.tree (c.next_load.ensures.fewer x holds)
