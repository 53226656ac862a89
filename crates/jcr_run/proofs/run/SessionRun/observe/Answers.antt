use Rattle.std.proofs.Common.{subst, refl, true, false}
use Rattle.jcr_trans.specs.declared.command.Command.{Command}
use Rattle.jcr_law.specs.Calls.{call_after}
use Rattle.jcr_held.specs.Accepts.{IsFilterOf}
use Rattle.jcr_held.specs.Holds.{Holds}
use Rattle.jcr_run.proofs.Nexts.{next_there, none_there, same_next}
use Rattle.jcr_run.proofs.run.SessionRun.observe.Goals as goal

pub observe-requires : goal.observe-requires
observe-requires c =
    subst (λ (m : Command). IsFilterOf m c.args.filter) (same_next c.args.self.now.commands c.args.self.now.index c.requires.0 c.in-Some.command.now c.requires.1 (let h = c.in-Some.ensures.lookup in next_there c.args.self.now.commands c.as_slice.result.now c.args.self.now.index
    c.in-Some.command.now c.as_slice.ensures h.3.0 h.1)) c.requires.2

pub returns : goal.returns
returns c = record {
  same = refl;
  holds = λ m x next holds fit.
      (let at = same_next c.args.self.now.commands c.args.self.now.index c.in-Some.command.now m (let h = c.in-Some.ensures.lookup in next_there c.args.self.now.commands c.as_slice.result.now c.args.self.now.index
      c.in-Some.command.now c.as_slice.ensures h.3.0 h.1) next in
      subst (λ (n : Command). Holds (call_after true false x n) c.observe.new.self) at (c.observe.ensures x holds));
}

pub unreachable-requires : goal.unreachable-requires
unreachable-requires c = none_there c.args.self.now.commands c.as_slice.result.now c.args.self.now.index c.requires.0 c.as_slice.ensures c.in-None.ensures.lookup.0 c.requires.1
