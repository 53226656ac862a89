-- What a reader of changes keeps after a refusal.
use Rattle.std.proofs.Common.{◌≡◌, false, ap, ◌∙◌}
use Rattle.std.specs.Prelude.{is_some}
use Rattle.std.specs.Map.{lookup, remove_entry}
use Rattle.std.specs.BTreeMap.{insert_entry, is_at}
use Rattle.jr_path.specs.Ids.{id_cmp}
use Rattle.jr_path.specs.declared.path.DocId.{DocId}
use Rattle.jr_path.proofs.Orders.{id_total}
use Rattle.oak_doc.specs.declared.document.Document.{Document}
use Rattle.oak_read.specs.Wanted.{Known}
use Rattle.oak_read.proofs.Feeding.{put_removed}
use Rattle.oak_changes.specs.declared.changes.ChangesReader.{ChangesReader}

-- a document that was put is removed where memory is refused behind it
pub restored : (old left : ChangesReader) (put removed : Known) (key x : DocId) (d : Document) → is_some (lookup (is_at (id_cmp x)) old.known) ≡ false → key ≡ x → put ≡ insert_entry id_cmp old.known key d → left ≡ record old { known = put } → removed ≡ remove_entry (is_at (id_cmp x)) left.known → record left { known = removed } ≡ old
restored old left put removed key x d none copied is_put is_left is_removed =
    let again : removed ≡ old.known =
    is_removed
    ∙ ap (λ (r : ChangesReader). remove_entry (is_at (id_cmp x)) r.known) is_left
    ∙ ap (remove_entry (is_at (id_cmp x))) (is_put ∙ ap (λ k. insert_entry id_cmp old.known k d) copied)
    ∙ put_removed id_cmp id_total old.known x d none in
    ap {A = ChangesReader} {B = ChangesReader} (λ r. record r { known = removed }) is_left ∙ ap {A = Known} {B = ChangesReader} (λ k. record old { known = k }) again
