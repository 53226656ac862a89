use Rattle.std.proofs.Common.{arith}
use Rattle.jcr_held.specs.Looking.{IsLackingOf}
use Rattle.jcr_held.proofs.Holding.{holds_alike, ready_alike}
use Rattle.jcr_held.proofs.OnTheWay.{of_some}
use Rattle.jcr_held.proofs.Unread.{asked_wanted, no_more_alike}
use Rattle.jcr_held.proofs.held.Held.load_asked.Goals as goal

pub ask_before-requires : goal.ask_before-requires
ask_before-requires c = record {
  ready = ready_alike c.args.self.now c.load_of.new.self c.args.command.now c.in_ok-needs.needs.items
      c.load_of.ensures.same c.requires.settled c.in_ok-needs.ensures (c.in_ok-load.ensures.known c.in-None.is);
}

pub returns-in-None-clause-holds : goal.returns-in-None-clause-holds
returns-in-None-clause-holds c = λ d h.
    c.ask_before.ensures.holds d (holds_alike d c.args.self.now c.load_of.new.self c.load_of.ensures.same h)

pub returns-in-Some-clause-wanted : goal.returns-in-Some-clause-wanted
returns-in-Some-clause-wanted c = λ d h.
    asked_wanted d c.args.self.now c.load_of.new.self c.args.command.now c.in_ok-needs.needs.items c.in-Some.load
    c.load_of.ensures.same c.requires.settled c.in_ok-needs.ensures c.requires.caught h
    (of_some (IsLackingOf c.load_of.new.self.part c.in_ok-needs.needs.items) _ c.in-Some.load c.in-Some.is c.in_ok-load.ensures.lacks)

pub returns-in-None-clause-fewer : goal.returns-in-None-clause-fewer
returns-in-None-clause-fewer c = λ d m.
    let first = no_more_alike d c.args.self.now c.load_of.new.self m c.load_of.ensures.same in
    let rest = c.ask_before.ensures.fewer d m in
    omega arith
