use Rattle.std.proofs.Common.{None, ◌≤◌, ◌∙◌, length, subst, sym}
use Rattle.seat_lock.specs.Passes.{view_of}
use Rattle.jr_work.proofs.Turns.{first_stands}
use Rattle.jr_stage.proofs.Within.{few_said}
use Rattle.jr_work.proofs.worker.run_session.Goals as goal

pub session_of-requires : goal.session_of-requires
session_of-requires g c = record { few = subst (λ l. length l ≤ 10000) (sym c.requires.commands) (few_said c.args.crew.now.script.now.value c.requires.crew.within c.args.s) }

pub run_through-requires-clause-commands : goal.run_through-requires-clause-commands
run_through-requires-clause-commands g c = c.in_ok-run.ensures.commands_are ∙ c.requires.commands

pub run_through-requires-clause-stands : goal.run_through-requires-clause-stands
run_through-requires-clause-stands g c name =
    first_stands c.args.crew.now.script.now.value c.requires.crew.within (view_of c.args.pass.now) c.requires.knows c.args.s c.requires.first c.args.commands c.requires.commands c.requires.there
    (c.the_product_obeys.ensures.bases_are_trees None) (c.the_product_obeys.ensures.bases_are_typed None) c.args.crew.now.types.now c.requires.crew.types_are c.in_ok-run.run' c.in_ok-run.ensures name
