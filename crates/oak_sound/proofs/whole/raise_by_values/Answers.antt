use Rattle.std.specs.Map.{keys_of}
use Rattle.oak_read.specs.Meaning.{documents_in, is_committed}
use Rattle.oak_sound.proofs.Raising.{raise_those}
use Rattle.oak_sound.proofs.whole.raise_by_values.Goals as goal

pub loop-values-preserved : goal.loop-values-preserved
loop-values-preserved c =
    raise_those (is_committed (documents_in c.args.documents.now) c.args.sweep.now c.args.document.now) (λ p. keys_of p.1) _ _ _ _ _ _ c.in-Some.ensures.steps c.in_ok-raise_by_entries.ensures c.loop-values.invariant
