use Rattle.std.proofs.Common.{◌<◌, None, refl, arith}
use Rattle.jr_script.specs.declared.script.Entry.TheVariants as entry
use Rattle.jr_stage.specs.Parts.{by_entry}
use Rattle.jr_stage.specs.Stages.{IsNearerOrCome}
use Rattle.jr_stage.proofs.Counting.{say_begins, say_done}
use Rattle.jr_stage.proofs.Going.{only_four, said_less, steps_less, until_as}
use Rattle.jr_stage.proofs.Looping.{says_one, says_over, says_until, says_waits}
use Rattle.jr_stage.proofs.Taking.{there_still}
use Rattle.jr_stage.proofs.stage.Stage.say.Goals as goal

pub turns-init : goal.turns-init
turns-init c = say_begins c.args.self.now c.args.self.now c.args.s c.args.count 0 c.requires.stage

pub returns : goal.returns
returns c = say_done c.args.self.now c.turns.self c.args.s c.args.count c.turns.said c.turns.invariant c.turns-test.false

pub go_on-requires-clause-stage : goal.go_on-requires-clause-stage
go_on-requires-clause-stage c = c.turns.invariant.under.stage_is

pub go_on-requires-clause-there : goal.go_on-requires-clause-there
go_on-requires-clause-there c = there_still c.args.self.now c.turns.self (by_entry (entry.Say c.args.s c.args.count)) c.turns.invariant.part c.args.s c.requires.stage c.turns.invariant.under c.requires.there

pub go_on-requires-clause-short : goal.go_on-requires-clause-short
go_on-requires-clause-short c = refl

pub overflow_add-said : goal.overflow_add-said
overflow_add-said c = omega arith

pub unreachable-requires : goal.unreachable-requires
unreachable-requires c =
    only_four (IsNearerOrCome c.turns.self c.go_on.new.self c.args.s None) c.turns.self c.go_on.new.self c.args.s _
    c.in_default.not-Stepped c.in_default.not-Said c.in_default.not-Waiting c.in_default.not-Ended c.in_ok-go_on.ensures

pub returns-in-Waiting : goal.returns-in-Waiting
returns-in-Waiting c =
    let short : c.turns.said < c.args.count = omega arith in
    says_waits c.args.self.now c.turns.self c.args.s c.args.count c.turns.said c.turns.invariant short (IsNearerOrCome c.turns.self c.go_on.new.self c.args.s None) c.go_on.new.self _ _ c.in-Waiting.is c.in_ok-go_on.ensures

pub returns-in-Ended : goal.returns-in-Ended
returns-in-Ended c =
    let short : c.turns.said < c.args.count = omega arith in
    says_over c.args.self.now c.turns.self c.args.s c.args.count c.turns.said c.turns.invariant short (IsNearerOrCome c.turns.self c.go_on.new.self c.args.s None) c.go_on.new.self _ c.in-Ended.is c.in_ok-go_on.ensures

pub turns-preserved : goal.turns-preserved
turns-preserved c =
    let short : c.turns.said < c.args.count = omega arith in
    says_until c.args.self.now c.turns.self c.args.s c.args.count c.turns.said c.turns.invariant short (IsNearerOrCome c.turns.self c.go_on.new.self c.args.s None) c.go_on.new.self _ _ c.in-Stepped.is c.in_ok-go_on.ensures

pub turns-preserved-in-Said : goal.turns-preserved-in-Said
turns-preserved-in-Said c =
    let short : c.turns.said < c.args.count = omega arith in
    says_one c.args.self.now c.turns.self c.args.s c.args.count c.turns.said c.turns.invariant short (IsNearerOrCome c.turns.self c.go_on.new.self c.args.s None) c.go_on.new.self _ _ c.in-Said.is c.in_ok-go_on.ensures

pub turns-smaller : goal.turns-smaller
turns-smaller c = steps_less c.turns.self c.go_on.new.self c.args.s (until_as (IsNearerOrCome c.turns.self c.go_on.new.self c.args.s None) c.turns.self c.go_on.new.self c.args.s None _ _ c.in-Stepped.is c.in_ok-go_on.ensures).1

pub turns-smaller-in-Said : goal.turns-smaller-in-Said
turns-smaller-in-Said c = said_less c.turns.self c.go_on.new.self c.args.s _ None (until_as (IsNearerOrCome c.turns.self c.go_on.new.self c.args.s None) c.turns.self c.go_on.new.self c.args.s None _ _ c.in-Said.is c.in_ok-go_on.ensures)
