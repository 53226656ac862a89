use Rattle.jr_path.specs.declared.path.DocId.TheVariants as id
use Rattle.jr_rev.specs.Vectors.{start_of}
use Rattle.oak_doc.specs.declared.document.PrevEntry.{PrevEntry}
use Rattle.oak_read.specs.Wanted.{with_unknown}
use Rattle.oak_read.proofs.Entries.{fold_more}
use Rattle.oak_read.proofs.wanted.add_listed.Goals as goal

-- what an entry past the end of a list is read as
abbrev no_entry : PrevEntry
no_entry = record { number = 0; high = start_of 0; low = start_of 0 }

pub loop-entry-preserved : goal.loop-entry-preserved
loop-entry-preserved c =
    fold_more (with_unknown c.args.known.now) (λ e. id.Prev e.number c.args.path.now) c.args.entries.now c.loop-entry.entry-index no_entry c.args.wanted.now c.loop-entry.wanted c.add_unknown.new.wanted
    c.loop-entry-test.true c.loop-entry.invariant (rw c.in_ok-copy.ensures at c.in_ok-add_unknown.ensures)
