use Rattle.std.proofs.Common.{◌≡◌, ◌∙◌, subst, arith}
use Rattle.std.proofs.lemmas.Grind.{common_steps}
use Rattle.jr_overlay.specs.Overlays.{Sighted, sighted}
use Rattle.jcr_view.specs.Rebases.{again}
use Rattle.jcr_view.proofs.rebase.make_again.Goals as goal

pub loop-write-preserved : goal.loop-write-preserved
loop-write-preserved c =
    let made : c.write_again.new.draft.steps
    ≡ again (sighted c.args.draft.now.sight) c.loop-write.draft.steps c.write-item.result =
    subst (λ (s : Sighted). c.write_again.new.draft.steps
    ≡ again (sighted s) c.loop-write.draft.steps c.write-item.result) c.loop-write.invariant.sight
    c.in_ok-write_again.ensures.steps in
    record {
      sight = c.in_ok-write_again.ensures.sight ∙ c.loop-write.invariant.sight;
      steps = grind (arith, common_steps, made);
    }
