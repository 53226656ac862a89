use Rattle.std.proofs.Common.{subst, sym, refl, true, false, ◌≡◌}
use Rattle.jcr_trans.specs.declared.command.Command.{Command}
use Rattle.jcr_view.specs.Outcomes.{is_viewed}
use Rattle.jcr_law.specs.Calls.{call_after}
use Rattle.jcr_held.specs.Accepts.{AcceptsAs}
use Rattle.jcr_held.specs.Holds.{Holds}
use Rattle.jcr_run.proofs.Nexts.{next_there, none_there, same_next}
use Rattle.jcr_run.proofs.run.SessionRun.accept.Goals as goal

pub accept-requires : goal.accept-requires
accept-requires c =
    subst (λ (m : Command). is_viewed m ≡ false) (same_next c.args.self.now.commands c.args.self.now.index c.requires.next.0 c.in-Some.command.now c.requires.next.1 (let h = c.in-Some.ensures.lookup in next_there c.args.self.now.commands c.as_slice.result.now c.args.self.now.index c.in-Some.command.now c.as_slice.ensures h.3.0 h.1)) c.requires.next.2

pub returns : goal.returns
returns c = record {
  same = refl;
  holds = λ m x next holds fit.
      (let at = same_next c.args.self.now.commands c.args.self.now.index c.in-Some.command.now m (let h = c.in-Some.ensures.lookup in next_there c.args.self.now.commands c.as_slice.result.now c.args.self.now.index c.in-Some.command.now c.as_slice.ensures h.3.0 h.1) next in
      subst (λ (n : Command). Holds (call_after true c.args.drew x n) c.accept.new.self) at
      (c.accept.ensures x holds (subst (λ (n : Command). AcceptsAs c.args.self.now.held c.args.tokens x n) (sym at) (fit refl))));
}

pub unreachable-requires : goal.unreachable-requires
unreachable-requires c = none_there c.args.self.now.commands c.as_slice.result.now c.args.self.now.index c.requires.next.0 c.as_slice.ensures c.in-None.ensures.lookup.0 c.requires.next.1
