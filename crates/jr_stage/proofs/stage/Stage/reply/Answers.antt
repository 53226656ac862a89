use Rattle.std.proofs.Common.{None, refl}
use Rattle.jr_stage.specs.Stages.{IsNearerOrCome}
use Rattle.jr_stage.proofs.Going.{steps_less, until_as}
use Rattle.jr_stage.proofs.Looping.{replied_closes, replied_lands, replied_leaves, replies_only, replies_until, replying_begins, replying_there}
use Rattle.jr_stage.proofs.stage.Stage.reply.Goals as goal

pub turns-init : goal.turns-init
turns-init c = replying_begins c.args.self.now c.args.s c.requires.stage c.requires.there c.requires.flies c.requires.first

pub go_on-requires-clause-stage : goal.go_on-requires-clause-stage
go_on-requires-clause-stage c = c.turns.invariant.gone.under.stage_is

pub go_on-requires-clause-there : goal.go_on-requires-clause-there
go_on-requires-clause-there c = replying_there c.args.self.now c.turns.self c.args.s c.requires.stage c.requires.there c.turns.invariant

pub go_on-requires-clause-short : goal.go_on-requires-clause-short
go_on-requires-clause-short c = refl

pub returns-in-Said-clause-closes : goal.returns-in-Said-clause-closes
returns-in-Said-clause-closes c =
    replied_closes c.args.self.now c.turns.self c.args.s c.requires.stage c.requires.there c.turns.invariant (IsNearerOrCome c.turns.self c.go_on.new.self c.args.s None) c.go_on.new.self _ _ c.in-Said.is c.in_ok-go_on.ensures

pub returns-in-Said-clause-leaves : goal.returns-in-Said-clause-leaves
returns-in-Said-clause-leaves c =
    replied_leaves c.args.self.now c.turns.self c.args.s c.requires.stage c.requires.there c.turns.invariant (IsNearerOrCome c.turns.self c.go_on.new.self c.args.s None) c.go_on.new.self _ _ c.in-Said.is c.in_ok-go_on.ensures

pub returns-in-Said-clause-lands : goal.returns-in-Said-clause-lands
returns-in-Said-clause-lands c =
    replied_lands c.args.self.now c.turns.self c.args.s c.requires.stage c.requires.there c.turns.invariant (IsNearerOrCome c.turns.self c.go_on.new.self c.args.s None) c.go_on.new.self _ _ c.in-Said.is c.in_ok-go_on.ensures

pub unreachable-requires : goal.unreachable-requires
unreachable-requires c =
    replies_only c.args.self.now c.turns.self c.args.s c.requires.stage c.requires.there c.turns.invariant (IsNearerOrCome c.turns.self c.go_on.new.self c.args.s None) c.go_on.new.self _
    c.in_default.not-Said c.in_default.not-Stepped c.in_ok-go_on.ensures

pub turns-preserved : goal.turns-preserved
turns-preserved c =
    replies_until c.args.self.now c.turns.self c.args.s c.requires.stage c.requires.there c.turns.invariant (IsNearerOrCome c.turns.self c.go_on.new.self c.args.s None) c.go_on.new.self _ _ c.in-Stepped.is c.in_ok-go_on.ensures

pub turns-smaller : goal.turns-smaller
turns-smaller c = steps_less c.turns.self c.go_on.new.self c.args.s (until_as (IsNearerOrCome c.turns.self c.go_on.new.self c.args.s None) c.turns.self c.go_on.new.self c.args.s None _ _ c.in-Stepped.is c.in_ok-go_on.ensures).1
