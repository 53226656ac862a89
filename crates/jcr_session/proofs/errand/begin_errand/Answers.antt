use Rattle.std.proofs.Common.{false}
use Rattle.oak_port.specs.Ports.{Idle}
use Rattle.jcr_run.specs.declared.run.Phase.TheVariants as phase
use Rattle.jcr_session.proofs.Begun.{begun_stands, begun_turns, errand_asked, errand_begins, errand_forgoes, errand_room}
use Rattle.jcr_run.proofs.Calling.{forgo_behind, stands_law, turned_idle}
use Rattle.jcr_session.proofs.Nearer.{begun_steps, reply_steps}
use Rattle.jcr_run.proofs.Waiting.{by_waits}
use Rattle.jcr_session.proofs.errand.begin_errand.Goals as goal

pub start-requires-clause-idle : goal.start-requires-clause-idle
start-requires-clause-idle g c = c.requires.sets.idle

pub start-requires-clause-may : goal.start-requires-clause-may
start-requires-clause-may g c = errand_begins (g.P.Port.law c.args.port.now) (g.P.Port.shown c.args.port.now) c.args.run.now c.args.task
    c.args.errand c.requires.sets

pub start-requires-clause-asked : goal.start-requires-clause-asked
start-requires-clause-asked g c = errand_asked (g.P.Port.law c.args.port.now) (g.P.Port.shown c.args.port.now) c.args.run.now c.args.task
    c.args.errand c.requires.sets

-- it is begun
pub work-requires : goal.work-requires
work-requires g c =
    let law = g.P.Port.law c.args.port.now in
    let old = g.P.Port.shown c.args.port.now in
    let mid = g.P.Port.shown c.start.new.self in
    record {
      stands = stands_law law (g.P.Port.law c.start.new.self) c.in-Ok.ensures.law mid
          (record c.args.run.now { phase = phase.Working c.args.errand })
          (begun_stands law old c.args.run.now c.args.task c.args.errand c.requires.sets mid c.in-Ok.ensures.ok);
    }

pub returns-in-Ok-clause-turned : goal.returns-in-Ok-clause-turned
returns-in-Ok-clause-turned g c =
    let law = g.P.Port.law c.args.port.now in
    let old = g.P.Port.shown c.args.port.now in
    let mid = g.P.Port.shown c.start.new.self in
    begun_turns law old c.args.run.now c.args.task c.args.errand c.requires.sets mid c.in-Ok.ensures.ok (g.P.Port.law c.start.new.self)
    c.in-Ok.ensures.law (g.P.Port.shown c.work.new.port) c.work.new.run c.work.result c.work.ensures.turned

pub returns-in-Ok-clause-steps : goal.returns-in-Ok-clause-steps
returns-in-Ok-clause-steps g c = begun_steps c.args.run.now c.args.errand _ c.work.new.run c.work.result c.requires.sets.between
    c.work.ensures.stays

-- memory was refused for it
pub forgo-requires-clause-forgoes : goal.forgo-requires-clause-forgoes
forgo-requires-clause-forgoes g c =
    let law = g.P.Port.law c.args.port.now in
    let old = g.P.Port.shown c.args.port.now in
    let mid = g.P.Port.shown c.start.new.self in
    forgo_behind law (g.P.Port.law c.start.new.self) c.in-Err.ensures.law old mid (by_waits law old mid Idle old.room c.in-Err.ensures.err)
    c.in-Err.ensures.err.work_is c.args.run.now false (errand_forgoes law old c.args.run.now c.args.task c.args.errand c.requires.sets)

pub forgo-requires-clause-room : goal.forgo-requires-clause-room
forgo-requires-clause-room g c = errand_room (g.P.Port.law c.args.port.now) (g.P.Port.shown c.args.port.now) c.args.run.now c.args.task
    c.args.errand c.requires.sets (g.P.Port.shown c.start.new.self).room c.in-Err.ensures.err.room_is

pub returns-in-Err-clause-turned : goal.returns-in-Err-clause-turned
returns-in-Err-clause-turned g c =
    let law = g.P.Port.law c.args.port.now in
    let old = g.P.Port.shown c.args.port.now in
    let mid = g.P.Port.shown c.start.new.self in
    turned_idle law (g.P.Port.law c.start.new.self) c.in-Err.ensures.law old mid (by_waits law old mid Idle old.room c.in-Err.ensures.err)
    c.in-Err.ensures.err.work_is c.args.run.now false (errand_forgoes law old c.args.run.now c.args.task c.args.errand c.requires.sets)
    (g.P.Port.shown c.forgo.new.port) c.forgo.new.self c.forgo.result c.forgo.ensures.turned

pub returns-in-Err-clause-steps : goal.returns-in-Err-clause-steps
returns-in-Err-clause-steps g c = reply_steps _ _ _ c.forgo.result c.forgo.ensures.said
