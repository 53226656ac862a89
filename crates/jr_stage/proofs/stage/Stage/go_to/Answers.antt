use Rattle.std.proofs.Common.{◌∙◌, Some, ap, sym}
use Rattle.jr_stage.specs.Parts.{by_entry}
use Rattle.jr_stage.specs.Stages.{IsNearerOrCome}
use Rattle.jr_stage.proofs.Counting.{gone_begins}
use Rattle.jr_stage.proofs.Going.{go_less, only_five, until_as}
use Rattle.jr_stage.proofs.Reaching.{as_many, ends_until, go_closes, goes_until, is_stepped, still_there}
use Rattle.jr_stage.proofs.stage.Stage.go_to.Goals as goal

pub turns-init : goal.turns-init
turns-init c = gone_begins c.args.self.now c.args.self.now c.args.s (by_entry c.args.entry) c.requires.stage

pub has_come-requires-clause-there : goal.has_come-requires-clause-there
has_come-requires-clause-there c = still_there c.args.self.now c.turns.self c.args.s c.args.entry c.requires.named c.turns.invariant c.requires.stage c.requires.there

pub has_come-requires-clause-seats : goal.has_come-requires-clause-seats
has_come-requires-clause-seats c = as_many c.turns.self c.turns.invariant.under.stage_is

pub returns : goal.returns
returns c =
    go_closes c.args.self.now c.turns.self c.args.s c.args.entry c.requires.named c.turns.invariant
    (still_there c.args.self.now c.turns.self c.args.s c.args.entry c.requires.named c.turns.invariant c.requires.stage c.requires.there)
    (sym c.has_come.ensures ∙ c.turns-test.false)

pub go_on-requires-clause-stage : goal.go_on-requires-clause-stage
go_on-requires-clause-stage c = c.turns.invariant.under.stage_is

pub go_on-requires-clause-there : goal.go_on-requires-clause-there
go_on-requires-clause-there c = still_there c.args.self.now c.turns.self c.args.s c.args.entry c.requires.named c.turns.invariant c.requires.stage c.requires.there

pub go_on-requires-clause-short : goal.go_on-requires-clause-short
go_on-requires-clause-short c = sym c.has_come.ensures ∙ c.turns-test.true

pub returns-in-Read : goal.returns-in-Read
returns-in-Read c =
    ends_until c.args.self.now c.turns.self c.args.s c.args.entry c.requires.named c.requires.stage c.requires.there c.turns.invariant
    (IsNearerOrCome c.turns.self c.go_on.new.self c.args.s (Some c.args.entry)) c.go_on.new.self c.in_ok-go_on.field-0 (ap is_stepped c.in-Read.is) c.in_ok-go_on.ensures

pub returns-in-Said : goal.returns-in-Said
returns-in-Said c =
    ends_until c.args.self.now c.turns.self c.args.s c.args.entry c.requires.named c.requires.stage c.requires.there c.turns.invariant
    (IsNearerOrCome c.turns.self c.go_on.new.self c.args.s (Some c.args.entry)) c.go_on.new.self c.in_ok-go_on.field-0 (ap is_stepped c.in-Said.is) c.in_ok-go_on.ensures

pub returns-in-Waiting : goal.returns-in-Waiting
returns-in-Waiting c =
    ends_until c.args.self.now c.turns.self c.args.s c.args.entry c.requires.named c.requires.stage c.requires.there c.turns.invariant
    (IsNearerOrCome c.turns.self c.go_on.new.self c.args.s (Some c.args.entry)) c.go_on.new.self c.in_ok-go_on.field-0 (ap is_stepped c.in-Waiting.is) c.in_ok-go_on.ensures

pub returns-in-Ended : goal.returns-in-Ended
returns-in-Ended c =
    ends_until c.args.self.now c.turns.self c.args.s c.args.entry c.requires.named c.requires.stage c.requires.there c.turns.invariant
    (IsNearerOrCome c.turns.self c.go_on.new.self c.args.s (Some c.args.entry)) c.go_on.new.self c.in_ok-go_on.field-0 (ap is_stepped c.in-Ended.is) c.in_ok-go_on.ensures

pub unreachable-requires : goal.unreachable-requires
unreachable-requires c =
    only_five (IsNearerOrCome c.turns.self c.go_on.new.self c.args.s (Some c.args.entry)) c.turns.self c.go_on.new.self c.args.s (Some c.args.entry) _
    c.in_default.not-Stepped c.in_default.not-Read c.in_default.not-Said c.in_default.not-Waiting c.in_default.not-Ended c.in_ok-go_on.ensures

pub turns-preserved : goal.turns-preserved
turns-preserved c =
    goes_until c.args.self.now c.turns.self c.args.s c.args.entry c.requires.named c.requires.stage c.requires.there c.turns.invariant
    (IsNearerOrCome c.turns.self c.go_on.new.self c.args.s (Some c.args.entry)) c.go_on.new.self _ _ c.in-Stepped.is c.in_ok-go_on.ensures

pub turns-smaller : goal.turns-smaller
turns-smaller c =
    go_less c.turns.self c.go_on.new.self c.args.s c.args.entry (sym c.has_come.ensures ∙ c.turns-test.true)
    (until_as (IsNearerOrCome c.turns.self c.go_on.new.self c.args.s (Some c.args.entry)) c.turns.self c.go_on.new.self c.args.s (Some c.args.entry) _ _ c.in-Stepped.is c.in_ok-go_on.ensures).1
