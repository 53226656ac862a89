use Rattle.std.proofs.Common.{map}
use Rattle.std.specs.Map.Iter.{deref}
use Rattle.jr_path.specs.declared.path.DocId.TheVariants as id
use Rattle.jr_rev.specs.Vectors.{start_of}
use Rattle.oak_doc.specs.declared.document.PrevEntry.{PrevEntry}
use Rattle.oak_read.specs.Meaning.{documents_in}
use Rattle.oak_read.proofs.Entries.{found_more}
use Rattle.oak_read.proofs.node.add_previous.Goals as goal

-- what an entry past the end of a list is read as
abbrev no_entry : PrevEntry
no_entry = record { number = 0; high = start_of 0; low = start_of 0 }

pub loop-entry-preserved : goal.loop-entry-preserved
loop-entry-preserved c =
    found_more (λ e. documents_in c.args.documents.now (id.Prev e.number c.args.path.now)) deref (map deref c.args.all.now.items) c.args.listed.now c.loop-entry.entry-index no_entry _ c.loop-entry.all.items c.push_found.new.all.items
    c.loop-entry-test.true c.loop-entry.invariant (rw c.in_ok-copy.ensures at c.document_at.ensures) c.in_ok-push_found.ensures
