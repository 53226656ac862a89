use Rattle.std.proofs.Common.{◌≡◌, ◌∙◌, true, sym}
use Rattle.jr_stage.specs.Stages.{IsComeOrFurther, comes_to}
use Rattle.jr_stage.proofs.Reaching.{as_many, seats_on}
use Rattle.jr_stage.proofs.Reading.{further_left, only_more, short_begins, short_more, turned_as, turns_on}
use Rattle.jr_stage.proofs.stage.Stage.turn.Goals as goal

pub places-init : goal.places-init
places-init c = short_begins c.args.self.now c.args.s c.args.until c.requires.stage c.requires.short

pub turn_here-requires-clause-stage : goal.turn_here-requires-clause-stage
turn_here-requires-clause-stage c = c.places.invariant.only.stage

pub turn_here-requires-clause-there : goal.turn_here-requires-clause-there
turn_here-requires-clause-there c = seats_on c.args.self.now c.places.self c.args.s c.requires.stage c.places.invariant.only.stage c.places.invariant.only.script c.requires.there

pub turn_here-requires-clause-short : goal.turn_here-requires-clause-short
turn_here-requires-clause-short c = c.places.invariant.short

pub comes_to-requires-clause-there : goal.comes_to-requires-clause-there
comes_to-requires-clause-there c =
    let read = (turned_as (IsComeOrFurther c.places.self c.turn_here.new.self c.args.s c.args.until) c.places.self c.turn_here.new.self c.args.s c.args.until _ c.in-Read.is c.in_ok-turn.ensures).0 in
    seats_on c.args.self.now c.turn_here.new.self c.args.s c.requires.stage read.stage (read.script ∙ c.places.invariant.only.script) c.requires.there

pub comes_to-requires-clause-seats : goal.comes_to-requires-clause-seats
comes_to-requires-clause-seats c = as_many c.turn_here.new.self (turned_as (IsComeOrFurther c.places.self c.turn_here.new.self c.args.s c.args.until) c.places.self c.turn_here.new.self c.args.s c.args.until _ c.in-Read.is c.in_ok-turn.ensures).0.stage

pub returns-in_default : goal.returns-in_default
returns-in_default c =
    turns_on c.args.self.now c.places.self c.turn_here.new.self c.args.s c.args.until c.places.invariant
    (IsComeOrFurther c.places.self c.turn_here.new.self c.args.s c.args.until) (comes_to c.turn_here.new.self c.args.s c.args.until ≡ true) _ c.in_default.not-Read c.in_ok-turn.ensures

pub returns-then-comes_to : goal.returns-then-comes_to
returns-then-comes_to c = (only_more c.args.self.now c.places.self c.turn_here.new.self c.args.s c.places.invariant.only (turned_as (IsComeOrFurther c.places.self c.turn_here.new.self c.args.s c.args.until) c.places.self c.turn_here.new.self c.args.s c.args.until _ c.in-Read.is c.in_ok-turn.ensures).0, sym c.comes_to.ensures ∙ c.if-comes_to.true)

pub places-preserved : goal.places-preserved
places-preserved c =
    short_more c.args.self.now c.places.self c.turn_here.new.self c.args.s c.args.until c.places.invariant (turned_as (IsComeOrFurther c.places.self c.turn_here.new.self c.args.s c.args.until) c.places.self c.turn_here.new.self c.args.s c.args.until _ c.in-Read.is c.in_ok-turn.ensures).0 (sym c.comes_to.ensures ∙ c.if-comes_to.false)

pub places-smaller : goal.places-smaller
places-smaller c = further_left c.places.self c.turn_here.new.self c.args.s c.args.until (sym c.comes_to.ensures ∙ c.if-comes_to.false) (turned_as (IsComeOrFurther c.places.self c.turn_here.new.self c.args.s c.args.until) c.places.self c.turn_here.new.self c.args.s c.args.until _ c.in-Read.is c.in_ok-turn.ensures).1
