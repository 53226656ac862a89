use Rattle.jr_part.proofs.Follows.{agrees_now, rising_now, whole_now}
use Rattle.jr_part.proofs.part.Part.apply.Goals as goal

pub invariant_of-self : goal.invariant_of-self
invariant_of-self c = rising_now c.args.by _ c.args.self.now _ c.args.edit.now.writes c.self.view_is c.in-Ok.ensures c.in_order.ensures.lists

pub returns-in-Ok-clause-agrees : goal.returns-in-Ok-clause-agrees
returns-in-Ok-clause-agrees c = λ t tree proper agrees.
    agrees_now c.args.by _ c.args.self.now _ c.args.edit.now.writes c.self.view_is c.in-Ok.ensures c.in_order.ensures.nodes c.requires.whole t tree proper agrees

pub returns-in-Ok-clause-whole : goal.returns-in-Ok-clause-whole
returns-in-Ok-clause-whole c =
    whole_now c.args.by _ c.args.self.now _ c.args.edit.now.writes c.self.view_is c.in-Ok.ensures c.in_order.ensures.nodes c.in_order.ensures.lists c.requires.whole
