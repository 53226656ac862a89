use Rattle.oak_read.specs.Meaning.{documents_in, is_committed}
use Rattle.oak_sound.proofs.Raising.{raise_entry}
use Rattle.oak_sound.proofs.whole.raise_by_entries.Goals as goal

pub loop-r-preserved : goal.loop-r-preserved
loop-r-preserved g c =
    raise_entry (is_committed (documents_in c.args.documents.now) c.args.sweep.now c.args.document.now) _ _ _ _ _ _ _ _ c.in-Some.ensures.steps c.in_ok-told.ensures c.raise_if.ensures c.loop-r.invariant
