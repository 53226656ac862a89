use Rattle.std.proofs.Common.{None, refl}
use Rattle.jr_stage.specs.Stages.{IsNearerOrCome}
use Rattle.jr_stage.proofs.Going.{said_less, steps_less, until_as}
use Rattle.jr_stage.proofs.Looping.{finished_closes, finished_over, finished_still, finishes_only, finishes_said, finishes_until, finishing_begins, finishing_there}
use Rattle.jr_stage.proofs.stage.Stage.finish.Goals as goal

pub turns-init : goal.turns-init
turns-init c = finishing_begins c.args.self.now c.args.s c.requires.stage c.requires.alone

pub go_on-requires-clause-stage : goal.go_on-requires-clause-stage
go_on-requires-clause-stage c = c.turns.invariant.ending.under.stage_is

pub go_on-requires-clause-there : goal.go_on-requires-clause-there
go_on-requires-clause-there c = finishing_there c.args.self.now c.turns.self c.args.s c.requires.stage c.requires.there c.turns.invariant

pub go_on-requires-clause-short : goal.go_on-requires-clause-short
go_on-requires-clause-short c = refl

pub returns-in-Ended-clause-closes : goal.returns-in-Ended-clause-closes
returns-in-Ended-clause-closes c =
    finished_closes c.args.self.now c.turns.self c.args.s c.requires.stage c.requires.there c.turns.invariant (IsNearerOrCome c.turns.self c.go_on.new.self c.args.s None) c.go_on.new.self _ c.in-Ended.is c.in_ok-go_on.ensures

pub returns-in-Ended-clause-over : goal.returns-in-Ended-clause-over
returns-in-Ended-clause-over c =
    finished_over c.args.self.now c.turns.self c.args.s c.requires.stage c.requires.there c.turns.invariant (IsNearerOrCome c.turns.self c.go_on.new.self c.args.s None) c.go_on.new.self _ c.in-Ended.is c.in_ok-go_on.ensures

pub returns-in-Ended-clause-still : goal.returns-in-Ended-clause-still
returns-in-Ended-clause-still c =
    finished_still c.args.self.now c.turns.self c.args.s c.requires.stage c.requires.there c.turns.invariant (IsNearerOrCome c.turns.self c.go_on.new.self c.args.s None) c.go_on.new.self _ c.in-Ended.is c.in_ok-go_on.ensures

pub unreachable-requires : goal.unreachable-requires
unreachable-requires c =
    finishes_only c.args.self.now c.turns.self c.args.s c.requires.stage c.requires.there c.turns.invariant (IsNearerOrCome c.turns.self c.go_on.new.self c.args.s None) c.go_on.new.self _
    c.in_default.not-Ended c.in_default.not-Said c.in_default.not-Stepped c.in_ok-go_on.ensures

pub turns-preserved : goal.turns-preserved
turns-preserved c = finishes_until c.args.self.now c.turns.self c.args.s c.requires.stage c.requires.there c.turns.invariant (IsNearerOrCome c.turns.self c.go_on.new.self c.args.s None) c.go_on.new.self _ _ c.in-Stepped.is c.in_ok-go_on.ensures

pub turns-preserved-in-Said : goal.turns-preserved-in-Said
turns-preserved-in-Said c = finishes_said c.args.self.now c.turns.self c.args.s c.requires.stage c.requires.there c.turns.invariant (IsNearerOrCome c.turns.self c.go_on.new.self c.args.s None) c.go_on.new.self _ _ c.in-Said.is c.in_ok-go_on.ensures

pub turns-smaller : goal.turns-smaller
turns-smaller c = steps_less c.turns.self c.go_on.new.self c.args.s (until_as (IsNearerOrCome c.turns.self c.go_on.new.self c.args.s None) c.turns.self c.go_on.new.self c.args.s None _ _ c.in-Stepped.is c.in_ok-go_on.ensures).1

pub turns-smaller-in-Said : goal.turns-smaller-in-Said
turns-smaller-in-Said c = said_less c.turns.self c.go_on.new.self c.args.s _ None (until_as (IsNearerOrCome c.turns.self c.go_on.new.self c.args.s None) c.turns.self c.go_on.new.self c.args.s None _ _ c.in-Said.is c.in_ok-go_on.ensures)
