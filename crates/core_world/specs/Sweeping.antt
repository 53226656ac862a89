-- What a sweep reads.
use Rattle.std.specs.Prelude.{ℕ}
use Rattle.std.specs.Option.{unwrap_or}
use Rattle.jr_rev.specs.declared.revision.Revision.{Revision}
use Rattle.jr_rev.specs.Vectors.{entry, start_of}
use Rattle.oak_doc.specs.declared.document.Document.{Document}

-- how far cluster node k has published, by the root's document; its start where that has no entry
-- of it
abbrev pub swept_target : Document → ℕ → Revision
swept_target root k = unwrap_or (entry root.last_rev k) (start_of k)
