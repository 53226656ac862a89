use Rattle.std.proofs.Common.{Some, refl, subst, sym, ◌∙◌}
use Rattle.std.specs.Prelude.{Option, ℕ}
use Rattle.jcr_run.specs.Standing.{IsPlace}
use Rattle.jcr_run.specs.declared.run.Phase.TheVariants as phase
use Rattle.jcr_run.proofs.Calling.{forgo_behind, turned_idle}
use Rattle.jcr_session.proofs.Drawing.{draws_law, planned_draws, planned_forgoes}
use Rattle.jcr_run.proofs.Lawful.{idle_by}
use Rattle.jcr_run.proofs.Saying.{replied_like, turned_like}
use Rattle.jcr_run.proofs.Stages.{pledged_stage}
use Rattle.jcr_run.proofs.Waiting.{by_waits}
use Rattle.jcr_session.proofs.Nearer.{pledged_steps, reply_steps}
use Rattle.jcr_session.proofs.commit.pledge.Goals as goal

-- its place is kept
pub draw-requires : goal.draw-requires
draw-requires g c =
    let mid = g.P.Port.shown c.reserve_say.new.self in
    let waits = c.in-Ok.ensures.ok in
    record {
      draws = draws_law (g.P.Port.law c.args.port.now) (g.P.Port.law c.reserve_say.new.self) c.in-Ok.ensures.law mid (record c.args.run.now { phase = phase.Committing c.args.pledge }) c.args.plan
          (planned_draws (g.P.Port.law c.args.port.now) (g.P.Port.shown c.args.port.now) c.args.run.now c.requires.stands c.requires.between c.requires.ready c.requires.next c.args.plan c.args.pledge c.requires.comes mid
          (by_waits (g.P.Port.law c.args.port.now) (g.P.Port.shown c.args.port.now) mid (g.P.Port.shown c.args.port.now).work (Some c.place_for-bytes.result) waits) (waits.work_is ∙ idle_by (g.P.Port.law c.args.port.now) (g.P.Port.shown c.args.port.now) c.args.run.now c.requires.stands c.requires.between c.requires.ready.done)
          (subst (λ (room : Option ℕ). IsPlace room c.args.pledge.accepted) (sym waits.room_is) c.place_for-bytes.ensures.place) c.requires.copied);
    }

pub returns-in-Ok-clause-turned : goal.returns-in-Ok-clause-turned
returns-in-Ok-clause-turned g c =
    let mid = g.P.Port.shown c.reserve_say.new.self in
    let waits = c.in-Ok.ensures.ok in
    let planned = record c.args.run.now { phase = phase.Committing c.args.pledge } in
    turned_like (g.P.Port.law c.args.port.now) (g.P.Port.shown c.args.port.now) (g.P.Port.shown c.draw.new.port) c.args.run.now planned c.draw.new.run c.draw.result refl refl refl (λ k is. pledged_stage (g.P.Port.shown c.args.port.now).work c.args.run.now c.args.pledge c.requires.between)
    (turned_idle (g.P.Port.law c.args.port.now) (g.P.Port.law c.reserve_say.new.self) c.in-Ok.ensures.law (g.P.Port.shown c.args.port.now) mid (by_waits (g.P.Port.law c.args.port.now) (g.P.Port.shown c.args.port.now) mid (g.P.Port.shown c.args.port.now).work (Some c.place_for-bytes.result) waits)
    (waits.work_is ∙ idle_by (g.P.Port.law c.args.port.now) (g.P.Port.shown c.args.port.now) c.args.run.now c.requires.stands c.requires.between c.requires.ready.done) planned Rattle.std.proofs.Common.false
    (planned_forgoes (g.P.Port.law c.args.port.now) (g.P.Port.shown c.args.port.now) c.args.run.now c.requires.stands c.requires.between c.requires.ready c.requires.next c.args.plan c.args.pledge c.requires.comes)
    (g.P.Port.shown c.draw.new.port) c.draw.new.run c.draw.result c.draw.ensures.turned)

-- it isn't
pub say_memory-requires : goal.say_memory-requires
say_memory-requires g c =
    let mid = g.P.Port.shown c.reserve_say.new.self in
    let waits = c.in-Err.ensures.err in
    record {
      forgoes = forgo_behind (g.P.Port.law c.args.port.now) (g.P.Port.law c.reserve_say.new.self) c.in-Err.ensures.law (g.P.Port.shown c.args.port.now) mid (by_waits (g.P.Port.law c.args.port.now) (g.P.Port.shown c.args.port.now) mid (g.P.Port.shown c.args.port.now).work (g.P.Port.shown c.args.port.now).room waits)
          (waits.work_is ∙ idle_by (g.P.Port.law c.args.port.now) (g.P.Port.shown c.args.port.now) c.args.run.now c.requires.stands c.requires.between c.requires.ready.done) (record c.args.run.now { phase = phase.Committing c.args.pledge }) Rattle.std.proofs.Common.false
          (planned_forgoes (g.P.Port.law c.args.port.now) (g.P.Port.shown c.args.port.now) c.args.run.now c.requires.stands c.requires.between c.requires.ready c.requires.next c.args.plan c.args.pledge c.requires.comes);
    }

pub returns-in-Err-clause-turned : goal.returns-in-Err-clause-turned
returns-in-Err-clause-turned g c =
    let mid = g.P.Port.shown c.reserve_say.new.self in
    let waits = c.in-Err.ensures.err in
    let planned = record c.args.run.now { phase = phase.Committing c.args.pledge } in
    replied_like (g.P.Port.law c.args.port.now) (g.P.Port.shown c.args.port.now) (g.P.Port.shown c.say_memory.new.port) c.args.run.now planned c.say_memory.new.self c.say_memory.result refl refl refl c.say_memory.ensures.said
    (turned_idle (g.P.Port.law c.args.port.now) (g.P.Port.law c.reserve_say.new.self) c.in-Err.ensures.law (g.P.Port.shown c.args.port.now) mid (by_waits (g.P.Port.law c.args.port.now) (g.P.Port.shown c.args.port.now) mid (g.P.Port.shown c.args.port.now).work (g.P.Port.shown c.args.port.now).room waits)
    (waits.work_is ∙ idle_by (g.P.Port.law c.args.port.now) (g.P.Port.shown c.args.port.now) c.args.run.now c.requires.stands c.requires.between c.requires.ready.done) planned Rattle.std.proofs.Common.false
    (planned_forgoes (g.P.Port.law c.args.port.now) (g.P.Port.shown c.args.port.now) c.args.run.now c.requires.stands c.requires.between c.requires.ready c.requires.next c.args.plan c.args.pledge c.requires.comes)
    (g.P.Port.shown c.say_memory.new.port) c.say_memory.new.self c.say_memory.result c.say_memory.ensures.turned)

pub returns-in-Err-clause-steps : goal.returns-in-Err-clause-steps
returns-in-Err-clause-steps g c = reply_steps _ _ _ c.say_memory.result c.say_memory.ensures.said

pub returns-in-Ok-clause-steps : goal.returns-in-Ok-clause-steps
returns-in-Ok-clause-steps g c =
    pledged_steps c.args.run.now (record c.args.run.now { phase = phase.Committing c.args.pledge }) c.draw.new.run c.draw.result c.requires.between refl refl refl c.draw.ensures.stays
