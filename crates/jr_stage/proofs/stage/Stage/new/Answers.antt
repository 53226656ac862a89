use Rattle.std.proofs.Common.{None, refl}
use Rattle.jr_stage.proofs.Beginning.{begun_by, few_commands}
use Rattle.jr_stage.proofs.Within.{within_nodes}
use Rattle.jr_stage.proofs.stage.Stage.new.Goals as goal

pub world_of-requires-clause-nodes : goal.world_of-requires-clause-nodes
world_of-requires-clause-nodes c = within_nodes c.args.script c.requires

pub seats_of-requires-clause-few : goal.seats_of-requires-clause-few
seats_of-requires-clause-few c = few_commands c.args.script c.requires

pub returns : goal.returns
returns c =
    begun_by c.args.script c.requires _ (c.the_product_obeys.ensures.bases_are_trees None) (c.the_product_obeys.ensures.bases_are_typed None)
    c.in_ok-seats.ensures c.in_ok-world.ensures c.of-shown.ensures refl
