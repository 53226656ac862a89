use Rattle.std.proofs.Common.{arith}
use Rattle.jcr_held.specs.Unread.{IsWanted}
use Rattle.jcr_held.proofs.Holding.{holds_alike}
use Rattle.jcr_held.proofs.OnTheWay.{of_some}
use Rattle.jcr_held.proofs.Unread.{no_more_alike}
use Rattle.jcr_held.specs.Alike.{IsWholeBehind}
use Rattle.jcr_held.proofs.Behind.{of_ok, whole_alike}
use Rattle.jcr_held.proofs.held.Held.next_load.Goals as goal

pub returns-in-None-clause-holds : goal.returns-in-None-clause-holds
returns-in-None-clause-holds c = λ d h.
    c.load_anew.ensures.holds d (holds_alike d c.args.self.now c.load_on.new.self c.load_on.ensures.same h)

pub returns-in-Some-clause-wanted : goal.returns-in-Some-clause-wanted
returns-in-Some-clause-wanted c = λ d h.
    of_some (IsWanted d c.load_on.new.self c.args.command.now) _ c.in-Some.load c.in-Some.is
    (c.in_ok-load.ensures.wanted d c.args.command.now h)

pub returns-in-None-clause-wanted : goal.returns-in-None-clause-wanted
returns-in-None-clause-wanted c = λ d h.
    c.load_anew.ensures.wanted d (holds_alike d c.args.self.now c.load_on.new.self c.load_on.ensures.same h)

pub returns-in-None-clause-fewer : goal.returns-in-None-clause-fewer
returns-in-None-clause-fewer c = λ d h.
    let first = no_more_alike d c.args.self.now c.load_on.new.self c.args.command.now c.load_on.ensures.same in
    let rest = c.load_anew.ensures.fewer d c.args.command.now in
    omega arith

pub returns-in-None-clause-whole : goal.returns-in-None-clause-whole
returns-in-None-clause-whole c = λ d h.
    of_ok (IsWholeBehind c.load_on.new.self c.load_anew.new.self) (IsWholeBehind c.args.self.now c.load_anew.new.self) c.load_anew.result
    (whole_alike c.args.self.now c.load_on.new.self c.load_anew.new.self c.load_on.ensures.same)
    (c.load_anew.ensures.whole d (holds_alike d c.args.self.now c.load_on.new.self c.load_on.ensures.same h))
