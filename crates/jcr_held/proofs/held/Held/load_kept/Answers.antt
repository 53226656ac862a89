use Rattle.jcr_held.specs.Unread.{IsWanted}
use Rattle.jcr_held.proofs.OnTheWay.{of_some}
use Rattle.jcr_held.specs.Alike.{IsWholeBehind}
use Rattle.jcr_held.proofs.Behind.{in_ok, whole_again}
use Rattle.jcr_held.proofs.held.Held.load_kept.Goals as goal

pub returns-in-Some-clause-wanted : goal.returns-in-Some-clause-wanted
returns-in-Some-clause-wanted c = λ d m h.
    of_some (IsWanted d c.catch_up_for.new.self m) _ c.in-Some.load c.in-Some.is (c.in_ok-load.ensures.wanted d m)

pub returns-in-None-clause-holds : goal.returns-in-None-clause-holds
returns-in-None-clause-holds c = λ d h. c.load_again.ensures.holds d (c.catch_up_for.ensures.holds d h)

pub returns-in-None-clause-wanted : goal.returns-in-None-clause-wanted
returns-in-None-clause-wanted c = λ d m h. c.load_again.ensures.wanted d m (c.catch_up_for.ensures.holds d h)

pub returns-in-None-clause-whole : goal.returns-in-None-clause-whole
returns-in-None-clause-whole c = λ d h.
    in_ok (IsWholeBehind c.args.self.now c.load_again.new.self) c.load_again.result
    (whole_again c.args.self.now c.catch_up_for.new.self c.load_again.new.self (c.in_ok-load.ensures.whole d h) c.load_again.ensures.others)
