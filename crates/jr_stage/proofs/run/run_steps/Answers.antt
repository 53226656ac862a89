use Rattle.std.proofs.Common.{◌∙◌}
use Rattle.jr_stage.proofs.Whole.{ran}
use Rattle.jr_stage.proofs.run.run_steps.Goals as goal

-- the entries, the last replies and the ends are the whole run
pub returns : goal.returns
returns c =
    rw c.into_world.ensures (ran c.args.script c.in_ok-stage.stage c.play_all.new.self c.reply_all.new.self c.finish_all.new.self c.as_slice.result.now
    c.in_ok-stage.ensures c.in_ok-play_all.ensures (c.as_slice.ensures ∙ c.in_ok-flying.ensures.flying) c.in_ok-reply_all.ensures.closes
    c.in_ok-finish_all.ensures.closes c.in_ok-finish_all.ensures.over c.journal.ensures.run c.journal.ensures.asked
    (record { seen = c.journal.ensures.apart; causes = c.journal.ensures.causes; complete = c.journal.ensures.through }) c.the_product_obeys_throughout.ensures c.the_product_answers_throughout.ensures)
