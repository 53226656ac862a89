use Rattle.jcr_held.proofs.Holding.{first_known}
use Rattle.jcr_held.proofs.loading.note_known.Goals as goal

pub note-requires : goal.note-requires
note-requires c = first_known c.args.part.now c.args.needs.now c.in-Some.need.now c.in-Some.ensures.value c.requires
