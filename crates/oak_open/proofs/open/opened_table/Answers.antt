use Rattle.std.proofs.Common.{◌<◌, ◌^◌, [], sym, subst}
use Rattle.oak_open.proofs.Numbered.{few_sessions, low_number, sound_numbers, stored_by}
use Rattle.oak_open.proofs.open.opened_table.Goals as goal

pub opened_documents-requires-clause-few : goal.opened_documents-requires-clause-few
opened_documents-requires-clause-few c = few_sessions [] c.args.documents.now
    (sound_numbers c.args.clusters c.args.documents.now c.requires.sound)

pub opened_documents-requires-clause-low : goal.opened_documents-requires-clause-low
opened_documents-requires-clause-low c = subst (λ n. n < 2 ^ 63) (sym c.greatest_number-number.ensures)
    (low_number c.args.documents.now (sound_numbers c.args.clusters c.args.documents.now c.requires.sound))

pub of-requires : goal.of-requires
of-requires c = stored_by c.args.documents.now c.args.pin.now c.args.sessions _ _ _ c.in_ok-opened.ensures
    c.greatest_number-number.ensures c.requires.ordered
