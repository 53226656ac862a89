use Rattle.std.proofs.Common.{refl, ap, ◌∙◌, sym}
use Rattle.std.proofs.lemmas.List.{drop_more, drop_all}
use Rattle.oak_node.specs.Heads.{local_from}
use Rattle.oak_node.proofs.Settling.{step_on, step_end}
use Rattle.oak_node.proofs.drawn.local.Goals as goal

pub loop-d-init : goal.loop-d-init
loop-d-init c = record { rising = c.requires; same = refl }

pub loop-d-preserved : goal.loop-d-preserved
loop-d-preserved c =
    let step = step_on c.loop-d.local _ _ _ (drop_more c.args.drawn.now c.loop-d.d-index _ c.loop-d-test.true) c.if-not-d.false c.loop-d.invariant.rising in
    record { rising = step.0; same = c.loop-d.invariant.same ∙ step.1 }

pub returns-then-not-d : goal.returns-then-not-d
returns-then-not-d c =
    sym (c.loop-d.invariant.same ∙ step_end c.loop-d.local _ _ _ (drop_more c.args.drawn.now c.loop-d.d-index _ c.loop-d-test.true) c.if-not-d.true c.loop-d.invariant.rising)

pub returns-after-loop-d : goal.returns-after-loop-d
returns-after-loop-d c =
    sym (c.loop-d.invariant.same ∙ ap (λ ds. local_from c.loop-d.local ds) (drop_all c.loop-d.d-index c.args.drawn.now c.loop-d-test.false))
