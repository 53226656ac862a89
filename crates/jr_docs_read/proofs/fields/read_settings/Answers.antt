use Rattle.jr_docs_read.proofs.Ranged.{on_ok}
use Rattle.jr_docs_read.proofs.Stored.{settings_stored}
use Rattle.jr_docs_read.proofs.fields.read_settings.Goals as goal

pub returns-clause-in_range : goal.returns-clause-in_range
returns-clause-in_range c h =
    on_ok c.read_object-2.result (λ readers. settings_stored c.args.document.now _ _ _ c.in_ok-document.ensures.in_range (c.in_ok-read_object.ensures.in_range h.storable.checkpoints) h readers) (c.read_object-2.ensures.in_range h.storable.readers)
