use Rattle.std.proofs.Common.{false}
use Rattle.oak_port.specs.Ports.{Idle}
use Rattle.jcr_run.specs.declared.run.Phase.TheVariants as phase
use Rattle.jcr_run.proofs.Calling.{forgo_behind, stands_law, turned_idle}
use Rattle.jcr_run.proofs.Waiting.{by_waits}
use Rattle.jcr_session.proofs.Nearer.{counted_turns, reply_steps}
use Rattle.jcr_session.proofs.Tidying.{begun_turned, reply_begins, tidy_asked, tidy_begins, tidy_forgoes, tidy_room, tidying_begins, tidying_stands, tidying_steps}
use Rattle.jcr_session.proofs.tidy.begin.Goals as goal

pub start-requires-clause-may : goal.start-requires-clause-may
start-requires-clause-may g c = tidy_begins (g.P.Port.law c.args.port.now) (g.P.Port.shown c.args.port.now) c.args.run.now c.args.task c.requires.tidies

pub start-requires-clause-asked : goal.start-requires-clause-asked
start-requires-clause-asked g c = tidy_asked (g.P.Port.law c.args.port.now) (g.P.Port.shown c.args.port.now) c.args.run.now c.args.task c.requires.tidies

-- it is begun
pub tidy-requires : goal.tidy-requires
tidy-requires g c =
    let law = g.P.Port.law c.args.port.now in
    let old = g.P.Port.shown c.args.port.now in
    let mid = g.P.Port.shown c.start.new.self in
    record {
      stands = stands_law law (g.P.Port.law c.start.new.self) c.in-Ok.ensures.law mid (record c.args.run.now { phase = phase.Tidying })
          (tidying_stands law old c.args.run.now c.args.task c.requires.tidies mid c.in-Ok.ensures.ok);
    }

pub returns-in-Ok-clause-turned : goal.returns-in-Ok-clause-turned
returns-in-Ok-clause-turned g c =
    begun_turned (g.P.Port.law c.args.port.now) (g.P.Port.shown c.args.port.now) c.args.run.now c.args.task c.requires.tidies (g.P.Port.shown c.start.new.self) c.in-Ok.ensures.ok (g.P.Port.law c.start.new.self)
    c.in-Ok.ensures.law (g.P.Port.shown c.tidy.new.port) c.tidy.new.run c.tidy.result c.tidy.ensures.turned

pub returns-in-Ok-clause-steps : goal.returns-in-Ok-clause-steps
returns-in-Ok-clause-steps g c = tidying_steps c.args.run.now c.requires.tidies.between _ c.tidy.new.run c.tidy.result c.tidy.ensures.steps

pub returns-in-Ok-clause-reads : goal.returns-in-Ok-clause-reads
returns-in-Ok-clause-reads g c = tidying_begins c.args.run.now c.requires.tidies.between _ (g.P.Port.law c.start.new.self) (g.P.Port.shown c.start.new.self) c.tidy.new.run c.tidy.result c.tidy.ensures.reads

-- memory was refused for it
pub forgo-requires-clause-forgoes : goal.forgo-requires-clause-forgoes
forgo-requires-clause-forgoes g c =
    let law = g.P.Port.law c.args.port.now in
    let old = g.P.Port.shown c.args.port.now in
    let mid = g.P.Port.shown c.start.new.self in
    forgo_behind law (g.P.Port.law c.start.new.self) c.in-Err.ensures.law old mid (by_waits law old mid Idle old.room c.in-Err.ensures.err)
    c.in-Err.ensures.err.work_is c.args.run.now false (tidy_forgoes law old c.args.run.now c.args.task c.requires.tidies)

pub forgo-requires-clause-room : goal.forgo-requires-clause-room
forgo-requires-clause-room g c = tidy_room (g.P.Port.law c.args.port.now) (g.P.Port.shown c.args.port.now) c.args.run.now c.args.task c.requires.tidies (g.P.Port.shown c.start.new.self).room c.in-Err.ensures.err.room_is

pub returns-in-Err-clause-turned : goal.returns-in-Err-clause-turned
returns-in-Err-clause-turned g c =
    let law = g.P.Port.law c.args.port.now in
    let old = g.P.Port.shown c.args.port.now in
    let mid = g.P.Port.shown c.start.new.self in
    counted_turns law old (g.P.Port.shown c.forgo.new.port) c.args.run.now c.forgo.new.self c.forgo.result
    (turned_idle law (g.P.Port.law c.start.new.self) c.in-Err.ensures.law old mid (by_waits law old mid Idle old.room c.in-Err.ensures.err)
    c.in-Err.ensures.err.work_is c.args.run.now false (tidy_forgoes law old c.args.run.now c.args.task c.requires.tidies)
    (g.P.Port.shown c.forgo.new.port) c.forgo.new.self c.forgo.result c.forgo.ensures.turned)

pub returns-in-Err-clause-steps : goal.returns-in-Err-clause-steps
returns-in-Err-clause-steps g c = reply_steps _ _ _ c.forgo.result c.forgo.ensures.said

pub returns-in-Err-clause-reads : goal.returns-in-Err-clause-reads
returns-in-Err-clause-reads g c = reply_begins _ _ c.forgo.result c.forgo.ensures.said
