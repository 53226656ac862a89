use Rattle.oak_sound.specs.Meant.{committed_entries_in}
use Rattle.oak_sound.proofs.Raising.{raise_more}
use Rattle.oak_sound.proofs.whole.opened_at.Goals as goal

pub loop-document-preserved : goal.loop-document-preserved
loop-document-preserved c =
    raise_more (λ e. committed_entries_in c.args.documents.now c.args.sweep.now e.1) _ _ _ _ _ _ c.in-Some.ensures.steps c.in_ok-raise_by.ensures c.loop-document.invariant
