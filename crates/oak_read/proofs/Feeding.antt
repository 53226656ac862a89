-- What a reader keeps after a refusal.
use Rattle.std.proofs.Common.{◌≡◌, true, false, cond, List, [], ◌∷◌, Some, refl, sym, ap, ◌∙◌}
use Rattle.std.specs.Prelude.{is_some}
use Rattle.std.specs.declared.cmp.Ordering.{Ordering}
use Rattle.std.specs.declared.cmp.Ordering.TheVariants.{Less, Equal, Greater}
use Rattle.std.specs.Cmp.{IsTotalOrder}
use Rattle.std.specs.Ordering.{is_eq, match_ordering}
use Rattle.std.specs.Map.{lookup, remove_entry}
use Rattle.std.specs.BTreeMap.{insert_entry, is_at}
use Rattle.std.proofs.lemmas.Bool.{false≢true}
use Rattle.std.proofs.lemmas.Cmp.{tied_itself}
use Rattle.jr_path.specs.Ids.{id_cmp}
use Rattle.jr_path.specs.declared.path.DocId.{DocId}
use Rattle.jr_path.proofs.Orders.{id_total}
use Rattle.oak_doc.specs.declared.document.Document.{Document}
use Rattle.oak_read.specs.Wanted.{Known}
use Rattle.oak_read.specs.declared.reader.Reader.{Reader}

-- what is put at a new key and removed again leaves what there was
pub put_removed : {K X : Type 0} (R : K → K → Ordering) → IsTotalOrder R → (es : List (K × X)) (k : K) (v : X) → is_some (lookup (is_at (R k)) es) ≡ false → remove_entry (is_at (R k)) (insert_entry R es k v) ≡ es
put_removed R o [] k v none = ap (λ c. cond (is_eq c) [] ((k, v) ∷ [])) (tied_itself o k)
put_removed {K} {X} R o (e ∷ es) k v none = by (R k e.0) refl none (put_removed R o es k v)
  where
    by : (q : Ordering) → R k e.0 ≡ q → is_some (cond (is_eq (R k e.0)) (Some e.1) (lookup (is_at (R k)) es)) ≡ false
        → (is_some (lookup (is_at (R k)) es) ≡ false → remove_entry (is_at (R k)) (insert_entry R es k v) ≡ es)
        → remove_entry (is_at (R k)) (match_ordering q ((k, v) ∷ e ∷ es) ((e.0, v) ∷ es) (e ∷ insert_entry R es k v)) ≡ e ∷ es
    by Less is none' go = ap (λ c. cond (is_eq c) (e ∷ es) ((k, v) ∷ remove_entry (is_at (R k)) (e ∷ es))) (tied_itself o k)
    by Equal is none' go = absurd (false≢true (sym none' ∙ ap (λ c. is_some (cond (is_eq c) (Some e.1) (lookup (is_at (R k)) es))) is))
    by Greater is none' go =
        ap (λ c. cond (is_eq c) (insert_entry R es k v) (e ∷ remove_entry (is_at (R k)) (insert_entry R es k v))) is
        ∙ ap (λ (rest : List (K × X)). e ∷ rest) (go (sym (ap (λ c. is_some (cond (is_eq c) (Some e.1) (lookup (is_at (R k)) es))) is) ∙ none'))

-- a document that was put is removed where memory is refused behind it
pub restored : (old left : Reader) (put removed : Known) (key x : DocId) (d : Document) → is_some (lookup (is_at (id_cmp x)) old.known) ≡ false → key ≡ x → put ≡ insert_entry id_cmp old.known key d → left ≡ record old { known = put } → removed ≡ remove_entry (is_at (id_cmp x)) left.known → record left { known = removed } ≡ old
restored old left put removed key x d none copied is_put is_left is_removed =
    let again : removed ≡ old.known =
    is_removed
    ∙ ap (λ r. remove_entry (is_at (id_cmp x)) r.known) is_left
    ∙ ap (remove_entry (is_at (id_cmp x))) (is_put ∙ ap (λ k. insert_entry id_cmp old.known k d) copied)
    ∙ put_removed id_cmp id_total old.known x d none in
    ap {A = Reader} {B = Reader} (λ r. record r { known = removed }) is_left ∙ ap {A = Known} {B = Reader} (λ k. record old { known = k }) again
