use Rattle.core_world.proofs.Truths.{has_cause, no_clash_unseen}
use Rattle.oak_world.specs.Worlds.{state_of, with_formers}
use Rattle.oak_world.proofs.Clashing.{comes_or_wants}
use Rattle.oak_world.proofs.Ends.{ends_may}
use Rattle.oak_world.proofs.Seats.{asked_by, world_is}
use Rattle.oak_world.proofs.world.World.is_kept.Goals as goal

pub returns-clause-run : goal.returns-clause-run
returns-clause-run g c = (world_is g.L.Law.may_start g.L.Law.may_say _ c.args.self.now c.self.view_is c.self.invariant.0.0).kept.sessions.run

pub returns-clause-seats : goal.returns-clause-seats
returns-clause-seats g c = (world_is g.L.Law.may_start g.L.Law.may_say _ c.args.self.now c.self.view_is c.self.invariant.0.0).seats

pub returns-clause-apart : goal.returns-clause-apart
returns-clause-apart g c = λ r o apart made other_made clash.
    no_clash_unseen (g.L.Law.may_start c.args.self.now.law) (g.L.Law.may_say c.args.self.now.law) (g.L.Law.proper c.args.self.now.law) (with_formers (state_of c.args.self.now) (world_is g.L.Law.may_start g.L.Law.may_say _ c.args.self.now c.self.view_is c.self.invariant.0.0).formers) (world_is g.L.Law.may_start g.L.Law.may_say _ c.args.self.now c.self.view_is c.self.invariant.0.0).kept.sessions r o apart made other_made clash

pub returns-clause-causes : goal.returns-clause-causes
returns-clause-causes g c = λ r item o refused.
    has_cause (g.L.Law.may_start c.args.self.now.law) (g.L.Law.may_say c.args.self.now.law) (g.L.Law.proper c.args.self.now.law) (with_formers (state_of c.args.self.now) (world_is g.L.Law.may_start g.L.Law.may_say _ c.args.self.now c.self.view_is c.self.invariant.0.0).formers) (world_is g.L.Law.may_start g.L.Law.may_say _ c.args.self.now c.self.view_is c.self.invariant.0.0).kept.sessions r item o refused

pub returns-clause-through : goal.returns-clause-through
returns-clause-through g c = λ r ended none.
    comes_or_wants (g.L.Law.may_start c.args.self.now.law) (g.L.Law.may_say c.args.self.now.law) (g.L.Law.proper c.args.self.now.law) (with_formers (state_of c.args.self.now) (world_is g.L.Law.may_start g.L.Law.may_say _ c.args.self.now c.self.view_is c.self.invariant.0.0).formers) (world_is g.L.Law.may_start g.L.Law.may_say _ c.args.self.now c.self.view_is c.self.invariant.0.0).kept (world_is g.L.Law.may_start g.L.Law.may_say _ c.args.self.now c.self.view_is c.self.invariant.0.0).unstopped r ended none

pub returns-clause-asked : goal.returns-clause-asked
returns-clause-asked g c = asked_by g.L.Law.asks _ c.args.self.now c.self.view_is c.self.invariant.2

pub returns-clause-told : goal.returns-clause-told
returns-clause-told g c = ends_may (g.L.Law.may_start c.args.self.now.law) (g.L.Law.may_say c.args.self.now.law) c.args.self.now (world_is g.L.Law.may_start g.L.Law.may_say _ c.args.self.now c.self.view_is c.self.invariant.0.0)
