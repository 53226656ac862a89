use Rattle.std.proofs.Common.{◌∙◌, ap, length, subst, sym}
use Rattle.seat_lock.specs.Passes.{view_of}
use Rattle.jr_script.specs.Bounds.{IsWithin}
use Rattle.jr_work.specs.Workers.{HasAll, HasHandedOut}
use Rattle.jr_work.proofs.Finishing.{by_workers}
use Rattle.jr_work.proofs.workers.run_workers.Goals as goal

pub run_all-requires-clause-crew : goal.run_all-requires-clause-crew
run_all-requires-clause-crew g c κs lives = record {
  within = subst (λ s. IsWithin s) (sym c.of-shown.ensures) c.requires.within;
  types_are = ap (λ l. l.types) c.in_ok-shared.ensures.law ∙ sym (ap (λ s. s.types) c.of-shown.ensures);
  many = c.len.ensures ∙ (ap (λ l. length l.sessions) c.in_ok-shared.ensures.law ∙ sym (ap (λ s. length s.sessions) c.of-shown.ensures));
}

pub run_all-requires-clause-first : goal.run_all-requires-clause-first
run_all-requires-clause-first g c κs lives = subst (λ s. HasHandedOut s c.args.workers 0 (view_of c.in_ok-shared.main)) (sym c.of-shown.ensures) (c.in_ok-shared.ensures.first c.args.workers)

pub run_all-requires-clause-sessions : goal.run_all-requires-clause-sessions
run_all-requires-clause-sessions g c κs lives = ap (λ l. l.sessions) c.in_ok-shared.ensures.law ∙ sym (ap (λ s. s.sessions) c.of-shown.ensures)

pub returns : goal.returns
returns g c =
    by_workers c.args.script c.requires.within (view_of c.run_all.new.main) (subst (λ s. HasAll s (view_of c.run_all.new.main)) c.of-shown.ensures c.in_ok-run_all.ensures.all) c.close-world.result c.close-world.ensures.frame c.close-world.ensures.parts c.journal.ensures.run c.journal.ensures.asked
    (record { seen = c.journal.ensures.apart; causes = c.journal.ensures.causes; complete = c.journal.ensures.through }) c.the_product_obeys_throughout.ensures c.the_product_answers_throughout.ensures
