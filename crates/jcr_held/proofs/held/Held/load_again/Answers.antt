use Rattle.std.proofs.Common.{arith}
use Rattle.jcr_held.specs.Looking.{IsLackingOf}
use Rattle.jcr_held.proofs.Holding.{again_known, holds_alike}
use Rattle.jcr_held.proofs.OnTheWay.{of_some}
use Rattle.jcr_held.proofs.Unread.{kept_wanted, no_more_alike}
use Rattle.jcr_held.proofs.held.Held.load_again.Goals as goal

pub make_again-requires-clause-known : goal.make_again-requires-clause-known
make_again-requires-clause-known c =
    again_known c.args.self.now c.load_of.new.self c.args.needs.items c.load_of.ensures.same c.requires.needs
    (c.in_ok-load.ensures.known c.in-None.is)

pub returns-in-None-clause-holds : goal.returns-in-None-clause-holds
returns-in-None-clause-holds c = λ d h.
    c.make_again.ensures.holds d (holds_alike d c.args.self.now c.load_of.new.self c.load_of.ensures.same h)

pub returns-in-Some-clause-wanted : goal.returns-in-Some-clause-wanted
returns-in-Some-clause-wanted c = λ d m h.
    kept_wanted d c.args.self.now c.load_of.new.self m c.args.needs.items c.in-Some.load
    c.load_of.ensures.same c.requires.kept c.requires.needs c.requires.caught h
    (of_some (IsLackingOf c.load_of.new.self.part c.args.needs.items) _ c.in-Some.load c.in-Some.is c.in_ok-load.ensures.lacks)

pub returns-in-None-clause-fewer : goal.returns-in-None-clause-fewer
returns-in-None-clause-fewer c = λ d m.
    let first = no_more_alike d c.args.self.now c.load_of.new.self m c.load_of.ensures.same in
    let rest = c.make_again.ensures.fewer d m in
    omega arith
