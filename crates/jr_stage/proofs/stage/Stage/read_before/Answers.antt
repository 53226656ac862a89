use Rattle.std.proofs.Common.{refl}
use Rattle.std.proofs.lemmas.Option.{slice_get_read}
use Rattle.jr_stage.proofs.Looking.{leaves_read, read_closes}
use Rattle.jr_stage.proofs.Taking.{session_there}
use Rattle.jr_stage.proofs.stage.Stage.read_before.Goals as goal

pub read_one-requires-clause-there : goal.read_one-requires-clause-there
read_one-requires-clause-there c = session_there c.args.self.now c.requires.stage c.args.s c.requires.there

pub read_one-requires-clause-stands : goal.read_one-requires-clause-stands
read_one-requires-clause-stands c = (c.requires.stage.each c.args.s c.index_mut-seat.result.now (slice_get_read _ _ _ _ refl c.requires.there c.index_mut-seat.ensures.value)).stands

pub returns : goal.returns
returns c =
    read_closes c.in_ok-read_one.ensures.0 c.args.s c.args.self.now _ c.index_mut-seat.result.now (record { run = c.read_one.new.run; flight = c.index_mut-seat.result.now.flight }) c.requires.stage
    (slice_get_read _ _ _ _ refl c.requires.there c.index_mut-seat.ensures.value) refl refl refl refl
    (leaves_read c.in_ok-read_one.ensures.0 c.args.s c.args.self.now.world c.read_one.new.world c.index_mut-seat.result.now.run c.read_one.new.run ((c.requires.stage.each c.args.s c.index_mut-seat.result.now (slice_get_read _ _ _ _ refl c.requires.there c.index_mut-seat.ensures.value)).stands c.in_ok-read_one.ensures.0) c.in_ok-read_one.ensures.1)
