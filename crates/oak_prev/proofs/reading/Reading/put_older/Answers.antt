use Rattle.std.proofs.Common.{◌&&◌, map}
use Rattle.jr_rev.specs.Vectors.{sees}
use Rattle.oak_read.specs.Meaning.{is_committed}
use Rattle.oak_prev.specs.Moving.{documents_known, entry_of}
use Rattle.oak_prev.proofs.Older.{older_left}
use Rattle.oak_prev.proofs.reading.Reading.put_older.Goals as goal

pub returns : goal.returns
returns c =
    older_left (λ e. sees c.args.pin.now.base e.0 && is_committed (documents_known c.args.self.now.document c.args.self.now.roots) c.args.pin.now.sweep c.args.self.now.document e.0)
    (map entry_of c.args.moved.now.items) (map entry_of c.loop-r.moved.items) c.loop-r.latest c.args.name.now c.loop-r.r-iterator c.args.values.now
    c.in-None.ensures.steps.0 c.loop-r.invariant
