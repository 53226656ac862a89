use Rattle.std.proofs.Common.{subst, refl, false}
use Rattle.jcr_trans.specs.declared.command.Command.{Command}
use Rattle.jcr_law.specs.Calls.{call_after}
use Rattle.jcr_held.specs.Holds.{Holds}
use Rattle.jcr_run.proofs.Nexts.{next_there, same_next, some_there, none_there}
use Rattle.jcr_run.proofs.run.SessionRun.refuse.Goals as goal

pub returns : goal.returns
returns c = record {
  same = refl;
  holds = λ m x next holds fit.
      (let at = same_next c.args.self.now.commands c.args.self.now.index c.in-Some.command.now m (let h = c.in-Some.ensures.lookup in next_there c.args.self.now.commands c.as_slice.result.now c.args.self.now.index c.in-Some.command.now c.as_slice.ensures h.3.0 h.1) next in
      subst (λ (n : Command). Holds (call_after false c.args.drew x n) c.refuse.new.self) at (c.refuse.ensures x holds));
}

pub unreachable-requires : goal.unreachable-requires
unreachable-requires c =
    let m = some_there c.args.self.now.commands c.args.self.now.index c.requires.next in
    none_there c.args.self.now.commands c.as_slice.result.now c.args.self.now.index m.0 c.as_slice.ensures c.in-None.ensures.lookup.0 m.1
