use Rattle.std.proofs.Common.{List, inl, subst, sym, ◌∙◌}
use Rattle.oak_node.specs.Memory.{NodeState}
use Rattle.oak_tidy.specs.Replies.{all_parts}
use Rattle.oak_world.specs.Acting.{Acts}
use Rattle.oak_world.proofs.Acting.{acts_alone}
use Rattle.oak_world.proofs.actor.act.Goals as goal

pub returns-then-is_tidying-clause-made : goal.returns-then-is_tidying-clause-made
returns-then-is_tidying-clause-made c =
    subst (λ (ms : List NodeState). Acts c.args.s c.args.node (all_parts c.args.table.now ms c.args.events.now.list) c.args.work (all_parts c.act_on_all.new.table ms c.act_on_all.new.events.list) c.act_on_all.result.0 c.act_on_all.result.1)
    c.as_slice.ensures.value (inl c.act_on_all.ensures.made)

pub returns-else-is_tidying-clause-made : goal.returns-else-is_tidying-clause-made
returns-else-is_tidying-clause-made c =
    acts_alone c.args.s c.args.node c.args.memories.now.items c.args.events.now.places c.args.work c.requires.can (sym c.is_tidying.ensures ∙ c.if-is_tidying.false)
    c.index_mut-memory.result.now c.index_mut-memory.ensures.value c.args.table.now c.step_work.new.table c.args.events.now.list c.step_work.new.events.list c.step_work.new.memory c.step_work.result.0 c.step_work.result.1 c.step_work.ensures.made
