use Rattle.std.proofs.Common.{subst}
use Rattle.jr_rev.specs.declared.vector.RevVec.{RevVec}
use Rattle.jr_rev.specs.Alone.{IsNextAlone}
use Rattle.jcr_session.proofs.Ending.{follows_commit}
use Rattle.jcr_session.proofs.ends.move_behind.Goals as goal

-- that commit alone lies between
pub returns-then-is_next_alone-clause-holds : goal.returns-then-is_next_alone-clause-holds
returns-then-is_next_alone-clause-holds c = λ x t holds settled sees same.
    follows_commit x t c.args.run.now.held c.follow.new.self c.args.edit.now c.args.by c.args.vector holds settled sees
    (subst (λ (v : RevVec). IsNextAlone v c.args.vector c.args.by) c.base.ensures (c.is_next_alone.ensures.0 c.if-is_next_alone.true)) c.follow.ensures.holds

-- or others do
pub returns-clause-holds : goal.returns-clause-holds
returns-clause-holds c = λ x t holds settled sees same. c.move_along.ensures.moved x t holds settled sees.tree_is same
