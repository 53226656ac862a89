use Rattle.std.proofs.Common.{is_some, sym, ap, ◌∙◌}
use Rattle.jr_part.specs.Parts.{Knowledge}
use Rattle.jr_tree.specs.Trees.{node_at}
use Rattle.jr_known.proofs.Whole.{whole_if_put}
use Rattle.jr_known.proofs.held_part.HeldPart.put_absent.Goals as goal

pub invariant_of-self : goal.invariant_of-self
invariant_of-self c = λ noted. whole_if_put c.self.inside.part c.put_node.new.self c.args.path.now c.put_node.result
    (ap (λ (k : Knowledge). is_some (node_at k.nodes c.args.path.now)) c.self.view_is ∙ (sym c.has.ensures ∙ c.if-has.false))
    c.put_node.ensures.ok c.put_node.ensures.err (c.self.invariant noted)
