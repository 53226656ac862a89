use Rattle.jr_rev.specs.Vectors.{start_of}
use Rattle.oak_doc.specs.declared.document.PrevEntry.{PrevEntry}
use Rattle.oak_gc.specs.Noting.{unlisting}
use Rattle.oak_gc.proofs.Going.{changes_more}
use Rattle.oak_gc.proofs.reading.Reading.put_unlistings.Goals as goal

-- what an entry past the end of a list is read as
abbrev no_entry : PrevEntry
no_entry = record { number = 0; high = start_of 0; low = start_of 0 }

pub loop-entry-preserved : goal.loop-entry-preserved
loop-entry-preserved c =
    changes_more (unlisting c.args.bound.now c.args.self.now) c.args.entries.now c.loop-entry.entry-index no_entry c.args.changes.now c.loop-entry.changes c.put_unlisting.new.changes
    c.loop-entry-test.true c.loop-entry.invariant c.in_ok-put_unlisting.ensures
