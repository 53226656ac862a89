use Rattle.std.proofs.Common.{ℕ, inl, sym, subst, false, ◌∙◌}
use Rattle.jcr_run.proofs.Calling.{forgo_law, stands_law, turned_law}
use Rattle.jcr_run.proofs.Lawful.{idle_by}
use Rattle.jcr_run.proofs.Looking.{looked_reads, refused_forgoes, turned_behind, turned_on}
use Rattle.jcr_run.proofs.Nexts.{reads_between, reads_unbegun, reads_unmoved, reads_unsaving}
use Rattle.jcr_session.proofs.Nearer.{begins_reads, commit_nearer, counted_reads, counted_turns, left_looked, reads_nearer, reply_steps, steps_sooner, tidying_unsaving, turn_nearer}
use Rattle.jcr_law.specs.declared.law.JcrLaw.{JcrLaw}
use Rattle.jcr_run.specs.Nearing.{BeginsNearer, EndsSooner, StepsOn, WorksSooner, turns_left}
use Rattle.jcr_run.specs.Standing.{HasTurned}
use Rattle.jcr_session.proofs.turns.turn.Goals as goal

-- a split or a collection is under way
pub returns-then-is_tidying-clause-nears : goal.returns-then-is_tidying-clause-nears
returns-then-is_tidying-clause-nears g c =
    commit_nearer (g.P.Port.law c.args.port.now) (g.P.Port.shown c.args.port.now) (g.P.Port.shown c.tidy_on.new.port) c.args.run.now c.tidy_on.new.run
    (WorksSooner (g.P.Port.left c.args.port.now) (g.P.Port.left c.tidy_on.new.port) (g.P.Port.shown c.args.port.now) c.args.run.now)
    c.tidy_on.result c.requires.stands c.tidy_on.ensures.turned c.tidy_on.ensures.steps

pub returns-then-is_tidying-clause-draws : goal.returns-then-is_tidying-clause-draws
returns-then-is_tidying-clause-draws g c = λ saving. tidying_unsaving c.args.run.now.phase (sym c.is_tidying.ensures ∙ c.if-is_tidying.true) saving

-- no reading step can be due
pub returns-then-not-may_read-clause-nears : goal.returns-then-not-may_read-clause-nears
returns-then-not-may_read-clause-nears g c =
    commit_nearer (g.P.Port.law c.args.port.now) (g.P.Port.shown c.args.port.now) (g.P.Port.shown c.counted.new.port) c.args.run.now
    c.counted.new.run
    (WorksSooner (g.P.Port.left c.args.port.now) (g.P.Port.left c.counted.new.port) (g.P.Port.shown c.args.port.now) c.args.run.now)
    c.counted.result c.requires.stands c.counted.ensures.turned c.counted.ensures.steps

-- a reading step was made
pub returns-in-Ok-true-clause-turned : goal.returns-in-Ok-true-clause-turned
returns-in-Ok-true-clause-turned g c = inl (c.read.ensures.looked, sym c.may_read.ensures ∙ c.if-not-may_read.false)

pub returns-in-Ok-true-clause-reads : goal.returns-in-Ok-true-clause-reads
returns-in-Ok-true-clause-reads g c =
    let reads = sym c.may_read.ensures ∙ c.if-not-may_read.false in
    reads_nearer (g.P.Port.law c.args.port.now) (g.P.Port.shown c.args.port.now) c.args.run.now c.read.new.run (EndsSooner (g.P.Port.left c.args.port.now) (g.P.Port.left c.read.new.port) (g.P.Port.shown c.args.port.now)) reads (c.in-Ok-true.ensures.nears c.in-Ok-true.field-0-test)

pub returns-in-Ok-true-clause-draws : goal.returns-in-Ok-true-clause-draws
returns-in-Ok-true-clause-draws g c = λ saving. reads_unsaving c.args.run.now (sym c.may_read.ensures ∙ c.if-not-may_read.false) saving

-- none was due
pub go_on-requires-clause-stands : goal.go_on-requires-clause-stands
go_on-requires-clause-stands g c =
    stands_law (g.P.Port.law c.args.port.now) (g.P.Port.law c.read.new.port) c.read.ensures.law (g.P.Port.shown c.read.new.port) c.read.new.run c.read.ensures.looked.stands

pub go_on-requires-clause-reads : goal.go_on-requires-clause-reads
go_on-requires-clause-reads g c =
    looked_reads (g.P.Port.law c.args.port.now) (g.P.Port.shown c.args.port.now) (g.P.Port.shown c.read.new.port) c.args.run.now c.read.new.run c.read.ensures.looked ∙ (sym c.may_read.ensures ∙ c.if-not-may_read.false)

pub go_on-requires-clause-ready : goal.go_on-requires-clause-ready
go_on-requires-clause-ready g c = c.in-Ok-false.ensures.read.prepared c.in-Ok-false.field-0-test (sym c.may_read.ensures ∙ c.if-not-may_read.false)

pub returns-in-Ok-false-clause-turned : goal.returns-in-Ok-false-clause-turned
returns-in-Ok-false-clause-turned g c =
    let law = g.P.Port.law c.args.port.now in
    let old = g.P.Port.shown c.args.port.now in
    let mid = g.P.Port.shown c.read.new.port in
    let new = g.P.Port.shown c.go_on.new.port in
    let reads = sym c.may_read.ensures ∙ c.if-not-may_read.false in
    turned_on law old mid new c.args.run.now c.read.new.run c.go_on.new.run c.go_on.result c.requires.stands reads c.read.ensures.looked
    (idle_by law mid c.read.new.run c.read.ensures.looked.stands (c.read.ensures.looked.same.phase ∙ reads_between c.args.run.now reads) (c.in-Ok-false.ensures.read.prepared c.in-Ok-false.field-0-test reads).done)
    (subst (λ (l : JcrLaw). HasTurned l mid new c.read.new.run c.go_on.new.run c.go_on.result) c.read.ensures.law c.go_on.ensures.turned)

pub returns-in-Ok-false-clause-nears : goal.returns-in-Ok-false-clause-nears
returns-in-Ok-false-clause-nears g c =
    let law = g.P.Port.law c.args.port.now in
    let old = g.P.Port.shown c.args.port.now in
    let mid = g.P.Port.shown c.read.new.port in
    let new = g.P.Port.shown c.go_on.new.port in
    let reads = sym c.may_read.ensures ∙ c.if-not-may_read.false in
    let sooner = WorksSooner (g.P.Port.left c.args.port.now) (g.P.Port.left c.go_on.new.port) old c.args.run.now in
    commit_nearer law old new c.args.run.now c.go_on.new.run sooner c.go_on.result c.requires.stands
    (turned_on law old mid new c.args.run.now c.read.new.run c.go_on.new.run c.go_on.result c.requires.stands reads c.read.ensures.looked
    (idle_by law mid c.read.new.run c.read.ensures.looked.stands (c.read.ensures.looked.same.phase ∙ reads_between c.args.run.now reads) (c.in-Ok-false.ensures.read.prepared c.in-Ok-false.field-0-test reads).done)
    (subst (λ (l : JcrLaw). HasTurned l mid new c.read.new.run c.go_on.new.run c.go_on.result) c.read.ensures.law c.go_on.ensures.turned))
    (steps_sooner sooner (turns_left c.args.run.now) (turns_left c.go_on.new.run) c.go_on.result
    (subst (λ (n : ℕ). StepsOn ⊥ n (turns_left c.go_on.new.run) c.go_on.result) (left_looked c.args.run.now c.read.new.run c.read.ensures.looked.same) c.go_on.ensures.steps))

pub returns-in-Ok-false-clause-reads : goal.returns-in-Ok-false-clause-reads
returns-in-Ok-false-clause-reads g c =
    let reads = sym c.may_read.ensures ∙ c.if-not-may_read.false in
    begins_reads (g.P.Port.law c.args.port.now) (g.P.Port.shown c.args.port.now) c.args.run.now c.go_on.new.run
    (EndsSooner (g.P.Port.left c.args.port.now) (g.P.Port.left c.go_on.new.port) (g.P.Port.shown c.args.port.now)) c.go_on.result (reads_between c.args.run.now reads)
    (subst (λ (n : ℕ). BeginsNearer n (turns_left c.go_on.new.run) c.go_on.result) (left_looked c.args.run.now c.read.new.run c.read.ensures.looked.same) c.go_on.ensures.reads)

-- a session that reads isn't in its commit
pub returns-in-Ok-false-clause-granted : goal.returns-in-Ok-false-clause-granted
returns-in-Ok-false-clause-granted g c = λ saving. reads_unsaving c.args.run.now (sym c.may_read.ensures ∙ c.if-not-may_read.false) saving

pub returns-in-Ok-false-clause-moved : goal.returns-in-Ok-false-clause-moved
returns-in-Ok-false-clause-moved g c = λ moved. reads_unmoved c.args.run.now (sym c.may_read.ensures ∙ c.if-not-may_read.false) moved

pub returns-in-Ok-false-clause-begun : goal.returns-in-Ok-false-clause-begun
returns-in-Ok-false-clause-begun g c = λ begun. reads_unbegun c.args.run.now (sym c.may_read.ensures ∙ c.if-not-may_read.false) begun

pub returns-in-Ok-false-clause-draws : goal.returns-in-Ok-false-clause-draws
returns-in-Ok-false-clause-draws g c = λ saving. reads_unsaving c.args.run.now (sym c.may_read.ensures ∙ c.if-not-may_read.false) saving

-- memory was refused for reading
pub say_memory-requires : goal.say_memory-requires
say_memory-requires g c =
    let mid = g.P.Port.shown c.read.new.port in
    record { forgoes = forgo_law (g.P.Port.law c.args.port.now) (g.P.Port.law c.read.new.port) c.read.ensures.law mid c.read.new.run false (refused_forgoes (g.P.Port.law c.args.port.now) mid c.read.new.run c.read.ensures.looked.stands c.in-Err.ensures.err.1) }

pub returns-in-Err-clause-turned : goal.returns-in-Err-clause-turned
returns-in-Err-clause-turned g c =
    let law = g.P.Port.law c.args.port.now in
    let old = g.P.Port.shown c.args.port.now in
    let mid = g.P.Port.shown c.read.new.port in
    let new = g.P.Port.shown c.say_memory.new.port in
    let reads = sym c.may_read.ensures ∙ c.if-not-may_read.false in
    counted_turns law old new c.args.run.now c.say_memory.new.self c.say_memory.result
    (turned_behind law old mid new c.args.run.now c.read.new.run c.say_memory.new.self c.say_memory.result c.requires.stands reads c.read.ensures.looked
    c.in-Err.ensures.err.1.idle
    (turned_law law (g.P.Port.law c.read.new.port) c.read.ensures.law mid new c.read.new.run c.say_memory.new.self c.say_memory.result c.say_memory.ensures.turned))

pub returns-in-Err-clause-nears : goal.returns-in-Err-clause-nears
returns-in-Err-clause-nears g c =
    let law = g.P.Port.law c.args.port.now in
    let old = g.P.Port.shown c.args.port.now in
    let mid = g.P.Port.shown c.read.new.port in
    let new = g.P.Port.shown c.say_memory.new.port in
    let reads = sym c.may_read.ensures ∙ c.if-not-may_read.false in
    let sooner = WorksSooner (g.P.Port.left c.args.port.now) (g.P.Port.left c.say_memory.new.port) old c.args.run.now in
    turn_nearer law old new c.args.run.now c.say_memory.new.self sooner c.say_memory.result c.requires.stands
    (turned_behind law old mid new c.args.run.now c.read.new.run c.say_memory.new.self c.say_memory.result c.requires.stands reads c.read.ensures.looked
    c.in-Err.ensures.err.1.idle
    (turned_law law (g.P.Port.law c.read.new.port) c.read.ensures.law mid new c.read.new.run c.say_memory.new.self c.say_memory.result c.say_memory.ensures.turned))
    (reply_steps sooner (turns_left c.args.run.now) (turns_left c.say_memory.new.self) c.say_memory.result c.say_memory.ensures.said)

pub returns-in-Err-clause-reads : goal.returns-in-Err-clause-reads
returns-in-Err-clause-reads g c =
    let law = g.P.Port.law c.args.port.now in
    let old = g.P.Port.shown c.args.port.now in
    let mid = g.P.Port.shown c.read.new.port in
    let new = g.P.Port.shown c.say_memory.new.port in
    let reads = sym c.may_read.ensures ∙ c.if-not-may_read.false in
    counted_reads law old new c.args.run.now c.say_memory.new.self (EndsSooner (g.P.Port.left c.args.port.now) (g.P.Port.left c.say_memory.new.port) old) c.say_memory.result
    (turned_behind law old mid new c.args.run.now c.read.new.run c.say_memory.new.self c.say_memory.result c.requires.stands reads c.read.ensures.looked
    c.in-Err.ensures.err.1.idle
    (turned_law law (g.P.Port.law c.read.new.port) c.read.ensures.law mid new c.read.new.run c.say_memory.new.self c.say_memory.result c.say_memory.ensures.turned))

-- a session that reads isn't in its commit
pub returns-in-Err-clause-granted : goal.returns-in-Err-clause-granted
returns-in-Err-clause-granted g c = λ saving. reads_unsaving c.args.run.now (sym c.may_read.ensures ∙ c.if-not-may_read.false) saving

pub returns-in-Err-clause-moved : goal.returns-in-Err-clause-moved
returns-in-Err-clause-moved g c = λ moved. reads_unmoved c.args.run.now (sym c.may_read.ensures ∙ c.if-not-may_read.false) moved

pub returns-in-Err-clause-begun : goal.returns-in-Err-clause-begun
returns-in-Err-clause-begun g c = λ begun. reads_unbegun c.args.run.now (sym c.may_read.ensures ∙ c.if-not-may_read.false) begun

pub returns-in-Err-clause-draws : goal.returns-in-Err-clause-draws
returns-in-Err-clause-draws g c = λ saving. reads_unsaving c.args.run.now (sym c.may_read.ensures ∙ c.if-not-may_read.false) saving
