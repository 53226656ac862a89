use Rattle.std.proofs.Common.{subst, sym, ap}
use Rattle.jcr_run.specs.declared.run.Phase.{Phase}
use Rattle.jcr_run.specs.Standing.{HasCommitEnded, is_detaching, is_on_errand, is_tidied, is_told}
use Rattle.jcr_run.proofs.Looking.{over_ends}
use Rattle.jcr_session.proofs.Nearer.{begins_reads, reply_steps, steps_sooner}
use Rattle.jcr_session.proofs.Undrawn.{reply_undrawn}
use Rattle.jcr_session.proofs.turns.counted.Goals as goal

pub log_in-requires-clause-outside : goal.log_in-requires-clause-outside
log_in-requires-clause-outside g c = c.in-Outside.is

pub rest-requires-clause-between : goal.rest-requires-clause-between
rest-requires-clause-between g c = c.in-Between.is

pub say_end-requires-clause-ended : goal.say_end-requires-clause-ended
say_end-requires-clause-ended g c = subst (λ (f : Phase). HasCommitEnded f) (sym c.in-Committed.is) tt

pub work_on-requires-clause-works : goal.work_on-requires-clause-works
work_on-requires-clause-works g c = ap is_on_errand c.in-Working.is

pub say_told-requires-clause-told : goal.say_told-requires-clause-told
say_told-requires-clause-told g c = ap is_told c.in-Told.is

pub returns-in-Told-clause-steps : goal.returns-in-Told-clause-steps
returns-in-Told-clause-steps g c = reply_steps _ _ _ c.say_told.result c.say_told.ensures.said

-- it has left
pub returns-in-Over-clause-turned : goal.returns-in-Over-clause-turned
returns-in-Over-clause-turned g c = over_ends (g.P.Port.law c.args.port.now) (g.P.Port.shown c.args.port.now) c.args.run.now c.requires.stands c.in-Over.is

pub returns-in-Outside-clause-steps : goal.returns-in-Outside-clause-steps
returns-in-Outside-clause-steps g c = steps_sooner _ _ _ c.log_in.result c.log_in.ensures.steps

pub returns-in-Between-clause-steps : goal.returns-in-Between-clause-steps
returns-in-Between-clause-steps g c = steps_sooner _ _ _ c.rest.result c.rest.ensures.steps

pub returns-in-Moved-clause-steps : goal.returns-in-Moved-clause-steps
returns-in-Moved-clause-steps g c = reply_steps _ _ _ c.say_vector.result c.say_vector.ensures.said

pub detach_on-requires-clause-detaches : goal.detach_on-requires-clause-detaches
detach_on-requires-clause-detaches g c = ap is_detaching c.in-Detaching.is

pub returns-in-Detaching-clause-steps : goal.returns-in-Detaching-clause-steps
returns-in-Detaching-clause-steps g c = steps_sooner _ _ _ c.detach_on.result c.detach_on.ensures.steps

pub returns-in-Committed-clause-steps : goal.returns-in-Committed-clause-steps
returns-in-Committed-clause-steps g c = reply_steps _ _ _ c.say_end.result c.say_end.ensures.said

-- behind a commit the reply draws nothing
pub returns-in-Committed-clause-draws : goal.returns-in-Committed-clause-draws
returns-in-Committed-clause-draws g c = λ saving.
    reply_undrawn (g.P.Port.law c.args.port.now) (g.P.Port.shown c.args.port.now) (g.P.Port.shown c.say_end.new.port) c.args.run.now c.say_end.new.run c.say_end.result c.requires.stands c.say_end.ensures.said c.say_end.ensures.granted c.say_end.ensures.turned

-- the step that begins a collection may be one of reading
pub returns-in-Between-clause-reads : goal.returns-in-Between-clause-reads
returns-in-Between-clause-reads g c = begins_reads (g.P.Port.law c.args.port.now) (g.P.Port.shown c.args.port.now) c.args.run.now c.rest.new.run _ c.rest.result c.in-Between.is c.rest.ensures.reads

pub say_tidied-requires-clause-tidied : goal.say_tidied-requires-clause-tidied
say_tidied-requires-clause-tidied g c = ap is_tidied c.in-Tidied.is

pub returns-in-Tidied-clause-steps : goal.returns-in-Tidied-clause-steps
returns-in-Tidied-clause-steps g c = reply_steps _ _ _ c.say_tidied.result c.say_tidied.ensures.said
