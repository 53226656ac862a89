use Rattle.std.proofs.Common.{◌≡◌, ap, refl, ◌∙◌}
use Rattle.std.specs.Prelude.{codes}
use Rattle.serde_json.specs.Data.{Data, Members, no_members, object, put, string}
use Rattle.serde_json.specs.View.{members_view}
use Rattle.serde_json.proofs.Views.{view-Object}
use Rattle.jr_path.specs.Ids.{id_text}
use Rattle.oak_doc.specs.declared.document.Document.{Document}
use Rattle.jr_docs.specs.Documents.{fields_at, fields_of, number_data}
use Rattle.jr_docs.specs.Members.{put_fields}
use Rattle.jr_docs.proofs.writing.document_json.Goals as goal

-- the members step by step
all_put : (d : Document) (a b c e : Members) (number : Data) → a ≡ no_members → b ≡ put (codes "_id") (string (id_text d.id)) a → number ≡ number_data d.mod_count
    → c ≡ put (codes "_modCount") number b → e ≡ put_fields c (fields_at d.id d) → e ≡ put_fields no_members (fields_of d)
all_put d a b c e number none id is counted fields = rw (fields, counted, is, id, none) refl

pub returns : goal.returns
returns c = view-Object c.put_fields.new.members
    ∙ ap object (all_put c.args.document.now _ _ _ _ _ (ap members_view c.new-members.ensures.empty) c.in_ok-put_id.ensures c.from.ensures c.in_ok-put.ensures c.in_ok-put_fields.ensures)
