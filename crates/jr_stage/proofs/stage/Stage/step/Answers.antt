use Rattle.std.proofs.Common.{refl}
use Rattle.std.proofs.lemmas.Option.{slice_get_read}
use Rattle.jr_stage.proofs.Taking.{come_by, session_there}
use Rattle.jr_stage.proofs.stage.Stage.step.Goals as goal

pub turn_once-requires-clause-there : goal.turn_once-requires-clause-there
turn_once-requires-clause-there c = session_there c.args.self.now c.requires.stage c.args.s c.requires.there

pub turn_once-requires-clause-stands : goal.turn_once-requires-clause-stands
turn_once-requires-clause-stands c = (c.requires.stage.each c.args.s c.index_mut-seat.result.now (slice_get_read _ _ _ _ refl c.requires.there c.index_mut-seat.ensures.value)).stands

pub returns-in_ok-seat-in_default : goal.returns-in_ok-seat-in_default
returns-in_ok-seat-in_default c =
    come_by c.args.s c.args.self.now _ c.index_mut-seat.result.now (record { run = c.turn_once.new.run; flight = c.in_ok-seat-in_default.field-0 }) c.requires.stage
    (slice_get_read _ _ _ _ refl c.requires.there c.index_mut-seat.ensures.value) refl refl refl
    c.turn_once.result c.in_default.not-Memory c.turn_once.ensures c.in_ok-seat-in_default.ensures
