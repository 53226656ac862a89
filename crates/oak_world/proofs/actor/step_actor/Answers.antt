use Rattle.std.proofs.Common.{Bool, List, Option, ap, cond, subst, sym, ◌∙◌}
use Rattle.std.specs.Option.{option_map_or}
use Rattle.oak_machine.specs.declared.event.Event.{Event}
use Rattle.oak_step.specs.declared.work.Work.{Work}
use Rattle.oak_tidy.specs.Replies.{AllParts, all_parts}
use Rattle.oak_world.specs.Acting.{Acts}
use Rattle.oak_world.specs.Steps.{is_made}
use Rattle.oak_world.proofs.actor.step_actor.Goals as goal

pub returns-clause-reads : goal.returns-clause-reads
returns-clause-reads c = c.settle.ensures.reads ∙ (c.reads_after-actor.ensures ∙ sym (c.is_read-reading.ensures c.act-work.result.1 c.args.actor.now.reads))

pub returns-clause-attached : goal.returns-clause-attached
returns-clause-attached c =
    c.settle.ensures.attached
    ∙ (c.attached_after-actor.ensures
    ∙ ap (λ (o : Option Bool). option_map_or (λ now. cond (is_made c.act-work.result.1) now c.args.actor.now.attached) o c.args.actor.now.attached) c.attaching-attaching.ensures)

pub returns-clause-made : goal.returns-clause-made
returns-clause-made c =
    let before : AllParts = all_parts c.args.table.now c.args.memories.now.items c.args.events.now.list in
    subst (λ (es : List Event). Acts c.args.s c.args.node before c.args.actor.now.work (all_parts c.act-work.new.table c.act-work.new.memories.items es) c.settle.new.actor.work c.act-work.result.1) (sym c.settle.ensures.list)
    (subst (λ (y : Work). Acts c.args.s c.args.node before c.args.actor.now.work (all_parts c.act-work.new.table c.act-work.new.memories.items c.act-work.new.events.list) y c.act-work.result.1) (sym c.settle.ensures.work)
    (subst (λ (v : Work). Acts c.args.s c.args.node before v (all_parts c.act-work.new.table c.act-work.new.memories.items c.act-work.new.events.list) c.act-work.result.0 c.act-work.result.1) c.replace-work.ensures.value c.act-work.ensures.made))
