use Rattle.jr_part.proofs.Puts.{rising_either}
use Rattle.jr_part.proofs.part.Part.put_children.Goals as goal

pub invariant_of-self-2 : goal.invariant_of-self-2
invariant_of-self-2 c = rising_either c.self.inside.lists c.in_ok-copy.field-0 c.args.names c.put.new.self c.put.result c.put.ensures.ok c.put.ensures.err c.requires.rising c.self.invariant
