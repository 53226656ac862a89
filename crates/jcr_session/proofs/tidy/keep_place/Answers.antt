use Rattle.std.proofs.Common.{Some, false, subst, sym, ◌∙◌}
use Rattle.jcr_law.specs.declared.law.JcrLaw.{JcrLaw}
use Rattle.jcr_law.specs.Lasting.{says_of, starts_of}
use Rattle.jcr_steps.specs.declared.limits.TheConstants.{COMMIT_REPLY_BYTES}
use Rattle.jcr_session.specs.Tidying.{MayBeginTidying}
use Rattle.jcr_run.proofs.Calling.{forgo_behind, turned_idle}
use Rattle.jcr_run.proofs.Lawful.{between_forgoes, idle_by}
use Rattle.jcr_run.proofs.Saying.{room_kept}
use Rattle.jcr_run.proofs.Waiting.{by_waits}
use Rattle.jcr_session.proofs.Nearer.{counted_turns, reply_steps}
use Rattle.jcr_session.proofs.Tidying.{idle_turned, reply_begins, tidies_now, tidy_next}
use Rattle.jcr_session.proofs.tidy.keep_place.Goals as goal

-- the place is kept
pub begin-requires : goal.begin-requires
begin-requires g c =
    let law = g.P.Port.law c.args.port.now in
    let old = g.P.Port.shown c.args.port.now in
    let mid = g.P.Port.shown c.reserve_say.new.self in
    let waits = c.in-Ok.ensures.ok in
    record {
      tidies = subst (λ (l : JcrLaw). MayBeginTidying l mid c.args.run.now c.args.task) (sym c.in-Ok.ensures.law)
          (tidies_now law old c.args.run.now c.requires.stands c.requires.between c.requires.next c.requires.unread mid c.args.task c.requires.task
          (by_waits law old mid old.work (Some COMMIT_REPLY_BYTES) waits)
          (waits.work_is ∙ idle_by law old c.args.run.now c.requires.stands c.requires.between c.requires.unread)
          (room_kept (starts_of law) (says_of law) old mid old.work COMMIT_REPLY_BYTES waits));
    }

pub returns-in-Ok-clause-turned : goal.returns-in-Ok-clause-turned
returns-in-Ok-clause-turned g c =
    let law = g.P.Port.law c.args.port.now in
    let old = g.P.Port.shown c.args.port.now in
    let mid = g.P.Port.shown c.reserve_say.new.self in
    let waits = c.in-Ok.ensures.ok in
    let m = tidy_next c.args.run.now c.requires.next in
    idle_turned law (g.P.Port.law c.reserve_say.new.self) c.in-Ok.ensures.law old mid (g.P.Port.shown c.begin.new.port)
    (by_waits law old mid old.work (Some COMMIT_REPLY_BYTES) waits)
    (waits.work_is ∙ idle_by law old c.args.run.now c.requires.stands c.requires.between c.requires.unread) c.args.run.now c.begin.new.run c.requires.between
    (between_forgoes law old c.args.run.now c.requires.stands c.requires.between m.0 m.1 c.requires.unread) c.begin.result c.begin.ensures.turned

-- it isn't
pub say_memory-requires : goal.say_memory-requires
say_memory-requires g c =
    let law = g.P.Port.law c.args.port.now in
    let old = g.P.Port.shown c.args.port.now in
    let mid = g.P.Port.shown c.reserve_say.new.self in
    let waits = c.in-Err.ensures.err in
    let m = tidy_next c.args.run.now c.requires.next in
    record {
      forgoes = forgo_behind law (g.P.Port.law c.reserve_say.new.self) c.in-Err.ensures.law old mid (by_waits law old mid old.work old.room waits)
          (waits.work_is ∙ idle_by law old c.args.run.now c.requires.stands c.requires.between c.requires.unread) c.args.run.now false
          (between_forgoes law old c.args.run.now c.requires.stands c.requires.between m.0 m.1 c.requires.unread);
    }

pub returns-in-Err-clause-turned : goal.returns-in-Err-clause-turned
returns-in-Err-clause-turned g c =
    let law = g.P.Port.law c.args.port.now in
    let old = g.P.Port.shown c.args.port.now in
    let mid = g.P.Port.shown c.reserve_say.new.self in
    let waits = c.in-Err.ensures.err in
    let m = tidy_next c.args.run.now c.requires.next in
    counted_turns law old (g.P.Port.shown c.say_memory.new.port) c.args.run.now c.say_memory.new.self c.say_memory.result
    (turned_idle law (g.P.Port.law c.reserve_say.new.self) c.in-Err.ensures.law old mid (by_waits law old mid old.work old.room waits)
    (waits.work_is ∙ idle_by law old c.args.run.now c.requires.stands c.requires.between c.requires.unread) c.args.run.now false
    (between_forgoes law old c.args.run.now c.requires.stands c.requires.between m.0 m.1 c.requires.unread)
    (g.P.Port.shown c.say_memory.new.port) c.say_memory.new.self c.say_memory.result c.say_memory.ensures.turned)

pub returns-in-Err-clause-steps : goal.returns-in-Err-clause-steps
returns-in-Err-clause-steps g c = reply_steps _ _ _ c.say_memory.result c.say_memory.ensures.said

pub returns-in-Err-clause-reads : goal.returns-in-Err-clause-reads
returns-in-Err-clause-reads g c = reply_begins _ _ c.say_memory.result c.say_memory.ensures.said
