use Rattle.jcr_held.specs.Unread.{IsWanted}
use Rattle.jcr_held.proofs.OnTheWay.{of_some}
use Rattle.jcr_held.specs.Alike.{IsWholeBehind}
use Rattle.jcr_held.proofs.Behind.{of_ok, whole_on}
use Rattle.jcr_held.proofs.held.Held.load_anew.Goals as goal

pub returns-in-None-clause-holds : goal.returns-in-None-clause-holds
returns-in-None-clause-holds c = λ d h. c.load_for.ensures.holds d (c.load_kept.ensures.holds d h)

pub returns-in-Some-clause-wanted : goal.returns-in-Some-clause-wanted
returns-in-Some-clause-wanted c = λ d h.
    of_some (IsWanted d c.load_kept.new.self c.args.command.now) _ c.in-Some.load c.in-Some.is
    (c.in_ok-load.ensures.wanted d c.args.command.now h)

pub returns-in-None-clause-wanted : goal.returns-in-None-clause-wanted
returns-in-None-clause-wanted c = λ d h. c.load_for.ensures.wanted d (c.load_kept.ensures.holds d h)

pub returns-in-None-clause-whole : goal.returns-in-None-clause-whole
returns-in-None-clause-whole c = λ d h.
    of_ok (IsWholeBehind c.load_kept.new.self c.load_for.new.self) (IsWholeBehind c.args.self.now c.load_for.new.self) c.load_for.result
    (whole_on c.args.self.now c.load_kept.new.self c.load_for.new.self (c.in_ok-load.ensures.whole d h) c.load_for.ensures.others)
    (c.load_for.ensures.whole d (c.load_kept.ensures.holds d h))
