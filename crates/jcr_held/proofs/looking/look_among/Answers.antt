use Rattle.jcr_held.proofs.OnTheWay.{lists_at}
use Rattle.jcr_held.proofs.looking.look_among.Goals as goal

pub look_at_child-requires : goal.look_at_child-requires
look_at_child-requires c = record {
  lists = lists_at c.args.part.now c.args.path c.args.names.now c.args.next c.in-Some.field-0.now c.requires.listed
      c.in-Some.ensures.lookup.3.0 c.in-Some.ensures.lookup.1;
}
