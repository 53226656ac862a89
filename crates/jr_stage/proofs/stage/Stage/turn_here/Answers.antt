use Rattle.std.proofs.Common.{◌∙◌, sym}
use Rattle.jr_stage.specs.Nearing.{ReadsLess}
use Rattle.jr_stage.specs.Stages.{IsComeOrFurther}
use Rattle.jr_stage.proofs.Reaching.{as_many, seats_on}
use Rattle.jr_stage.proofs.Reading.{here_begins, here_come, here_less, here_more, here_moved, read_as, turns_to}
use Rattle.jr_stage.proofs.stage.Stage.turn_here.Goals as goal

pub needs-init : goal.needs-init
needs-init c = here_begins c.args.self.now c.args.s c.args.until c.requires.stage c.requires.short

pub look-requires-clause-stage : goal.look-requires-clause-stage
look-requires-clause-stage c = c.needs.invariant.reads.only.stage

pub look-requires-clause-there : goal.look-requires-clause-there
look-requires-clause-there c = seats_on c.args.self.now c.needs.self c.args.s c.requires.stage c.needs.invariant.reads.only.stage c.needs.invariant.reads.only.script c.requires.there

pub comes_to-requires-clause-there : goal.comes_to-requires-clause-there
comes_to-requires-clause-there c =
    let read = (read_as (ReadsLess c.needs.self c.look.new.self c.args.s) c.needs.self c.look.new.self c.args.s _ c.in-Read.is c.in_ok-turn.ensures).0 in
    seats_on c.args.self.now c.look.new.self c.args.s c.requires.stage read.stage (read.script ∙ c.needs.invariant.reads.only.script) c.requires.there

pub comes_to-requires-clause-seats : goal.comes_to-requires-clause-seats
comes_to-requires-clause-seats c = as_many c.look.new.self (read_as (ReadsLess c.needs.self c.look.new.self c.args.s) c.needs.self c.look.new.self c.args.s _ c.in-Read.is c.in_ok-turn.ensures).0.stage

pub place-requires : goal.place-requires
place-requires c =
    let read = (read_as (ReadsLess c.needs.self c.look.new.self c.args.s) c.needs.self c.look.new.self c.args.s _ c.in-Read.is c.in_ok-turn.ensures).0 in
    seats_on c.args.self.now c.look.new.self c.args.s c.requires.stage read.stage (read.script ∙ c.needs.invariant.reads.only.script) c.requires.there

pub returns-in_default : goal.returns-in_default
returns-in_default c =
    turns_to c.args.self.now c.needs.self c.look.new.self c.args.s c.args.until c.needs.invariant.reads
    (ReadsLess c.needs.self c.look.new.self c.args.s) (IsComeOrFurther c.args.self.now c.look.new.self c.args.s c.args.until) _ c.in_default.not-Read c.in_ok-turn.ensures

pub returns-then-comes_to : goal.returns-then-comes_to
returns-then-comes_to c = here_come c.args.self.now c.needs.self c.look.new.self c.args.s c.args.until c.needs.invariant (read_as (ReadsLess c.needs.self c.look.new.self c.args.s) c.needs.self c.look.new.self c.args.s _ c.in-Read.is c.in_ok-turn.ensures).0 (sym c.comes_to.ensures ∙ c.if-comes_to.true)

pub returns-then-place : goal.returns-then-place
returns-then-place c = here_moved c.args.self.now c.needs.self c.look.new.self c.args.s c.args.until c.needs.invariant (read_as (ReadsLess c.needs.self c.look.new.self c.args.s) c.needs.self c.look.new.self c.args.s _ c.in-Read.is c.in_ok-turn.ensures).0 (λ same. c.if-place.true (c.place.ensures ∙ (same ∙ sym c.place-place.ensures)))

pub needs-preserved : goal.needs-preserved
needs-preserved c = here_more c.args.self.now c.needs.self c.look.new.self c.args.s c.args.until c.needs.invariant (read_as (ReadsLess c.needs.self c.look.new.self c.args.s) c.needs.self c.look.new.self c.args.s _ c.in-Read.is c.in_ok-turn.ensures).0 (sym c.place.ensures ∙ (c.if-place.false ∙ c.place-place.ensures)) (sym c.comes_to.ensures ∙ c.if-comes_to.false)

pub needs-smaller : goal.needs-smaller
needs-smaller c = here_less c.args.self.now c.needs.self c.look.new.self c.args.s c.args.until c.needs.invariant (read_as (ReadsLess c.needs.self c.look.new.self c.args.s) c.needs.self c.look.new.self c.args.s _ c.in-Read.is c.in_ok-turn.ensures).0 (sym c.place.ensures ∙ (c.if-place.false ∙ c.place-place.ensures)) (read_as (ReadsLess c.needs.self c.look.new.self c.args.s) c.needs.self c.look.new.self c.args.s _ c.in-Read.is c.in_ok-turn.ensures).1
