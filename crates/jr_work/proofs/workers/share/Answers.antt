use Rattle.std.proofs.Common.{refl}
use Rattle.seat_lock.specs.Passes.{view_of}
use Rattle.jr_work.proofs.Handing.{begins_out}
use Rattle.jr_stage.proofs.Within.{within_nodes}
use Rattle.jr_work.proofs.workers.share.Goals as goal

pub world_of-requires-clause-nodes : goal.world_of-requires-clause-nodes
world_of-requires-clause-nodes c = within_nodes c.args.script c.requires.within

pub returns-clause-first : goal.returns-clause-first
returns-clause-first c workers =
    begins_out c.args.script c.in_ok-world.world _ _ (view_of c.in_ok-shared.pass) refl refl c.in_ok-world.ensures c.in_ok-shared.ensures.pass workers
