use Rattle.std.proofs.Common.{Some, refl, false, ◌∙◌}
use Rattle.jcr_steps.specs.declared.limits.TheConstants.{VECTOR_REPLY_BYTES}
use Rattle.jcr_run.specs.declared.next.Due.TheVariants as due
use Rattle.jcr_run.proofs.Calling.{forgo_behind, stands_law, turned_idle}
use Rattle.jcr_run.proofs.Lawful.{between_forgoes, idle_by}
use Rattle.jcr_run.proofs.Nexts.{next_due}
use Rattle.jcr_run.proofs.Saying.{room_kept}
use Rattle.jcr_run.proofs.Staying.{stands_between}
use Rattle.jcr_run.proofs.Waiting.{by_waits}
use Rattle.jcr_session.proofs.Nearer.{reply_steps}
use Rattle.jcr_law.specs.Lasting.{says_of, starts_of}
use Rattle.jcr_session.proofs.moves.detach.Goals as goal

-- the place is kept
pub begin_detach-requires-clause-stands : goal.begin_detach-requires-clause-stands
begin_detach-requires-clause-stands g c =
    let law = g.P.Port.law c.args.port.now in
    let old = g.P.Port.shown c.args.port.now in
    let mid = g.P.Port.shown c.reserve_say.new.self in
    let waits = c.in-Ok.ensures.ok in
    stands_law law (g.P.Port.law c.reserve_say.new.self) c.in-Ok.ensures.law mid c.args.run.now
    (stands_between law old mid c.args.run.now c.requires.stands (by_waits law old mid old.work (Some VECTOR_REPLY_BYTES) waits) waits.work_is c.requires.between)

pub begin_detach-requires-clause-place : goal.begin_detach-requires-clause-place
begin_detach-requires-clause-place g c =
    let law = g.P.Port.law c.args.port.now in
    let old = g.P.Port.shown c.args.port.now in
    room_kept (starts_of law) (says_of law) old (g.P.Port.shown c.reserve_say.new.self) old.work VECTOR_REPLY_BYTES c.in-Ok.ensures.ok

pub returns-in-Ok-clause-turned : goal.returns-in-Ok-clause-turned
returns-in-Ok-clause-turned g c =
    let m = next_due c.args.run.now due.Detach c.requires.next refl in
    let law = g.P.Port.law c.args.port.now in
    let old = g.P.Port.shown c.args.port.now in
    let mid = g.P.Port.shown c.reserve_say.new.self in
    let waits = c.in-Ok.ensures.ok in
    turned_idle law (g.P.Port.law c.reserve_say.new.self) c.in-Ok.ensures.law old mid (by_waits law old mid old.work (Some VECTOR_REPLY_BYTES) waits) (waits.work_is ∙ idle_by law old c.args.run.now c.requires.stands c.requires.between c.requires.ready.done) c.args.run.now false
    (between_forgoes law old c.args.run.now c.requires.stands c.requires.between m.0 m.1 c.requires.ready.done) (g.P.Port.shown c.begin_detach.new.port) c.begin_detach.new.run c.begin_detach.result c.begin_detach.ensures.turned

-- it isn't
pub say_memory-requires : goal.say_memory-requires
say_memory-requires g c =
    let m = next_due c.args.run.now due.Detach c.requires.next refl in
    let law = g.P.Port.law c.args.port.now in
    let old = g.P.Port.shown c.args.port.now in
    let mid = g.P.Port.shown c.reserve_say.new.self in
    let waits = c.in-Err.ensures.err in
    record {
      forgoes = forgo_behind law (g.P.Port.law c.reserve_say.new.self) c.in-Err.ensures.law old mid (by_waits law old mid old.work old.room waits) (waits.work_is ∙ idle_by law old c.args.run.now c.requires.stands c.requires.between c.requires.ready.done) c.args.run.now false
          (between_forgoes law old c.args.run.now c.requires.stands c.requires.between m.0 m.1 c.requires.ready.done);
    }

pub returns-in-Err-clause-turned : goal.returns-in-Err-clause-turned
returns-in-Err-clause-turned g c =
    let m = next_due c.args.run.now due.Detach c.requires.next refl in
    let law = g.P.Port.law c.args.port.now in
    let old = g.P.Port.shown c.args.port.now in
    let mid = g.P.Port.shown c.reserve_say.new.self in
    let waits = c.in-Err.ensures.err in
    turned_idle law (g.P.Port.law c.reserve_say.new.self) c.in-Err.ensures.law old mid (by_waits law old mid old.work old.room waits) (waits.work_is ∙ idle_by law old c.args.run.now c.requires.stands c.requires.between c.requires.ready.done) c.args.run.now false
    (between_forgoes law old c.args.run.now c.requires.stands c.requires.between m.0 m.1 c.requires.ready.done) (g.P.Port.shown c.say_memory.new.port) c.say_memory.new.self c.say_memory.result c.say_memory.ensures.turned

pub returns-in-Err-clause-steps : goal.returns-in-Err-clause-steps
returns-in-Err-clause-steps g c = reply_steps _ _ _ c.say_memory.result c.say_memory.ensures.said
