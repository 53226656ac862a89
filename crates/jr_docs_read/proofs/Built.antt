-- A document by what is read of it.
use Rattle.std.proofs.Common.{◌≡◌, ◌≢◌, Bool, List, [], ◌∷◌, refl, sym, ap, ◌∙◌}
use Rattle.std.specs.Prelude.{ℕ, None, filter, map}
use Rattle.jr_docs_read.specs.Printed.{as_node, as_printed, has_entries, numbered, of_root, printed_at}
use Rattle.jr_docs_read.specs.Reading.{document_kind, with_commits, with_marks_of, with_vectors}
use Rattle.jr_docs_read.specs.declared.reading.Kind.TheVariants as kind
use Rattle.jr_path.specs.declared.path.DocId.{DocId}
use Rattle.jr_path.specs.declared.path.DocId.TheVariants.{Node, Prev, Settings}
use Rattle.jr_path.specs.declared.path.Item.{Item}
use Rattle.jr_path.specs.declared.path.Path.{Path}
use Rattle.jr_rev.specs.Vectors.{Entries, no_entries}
use Rattle.jr_rev.specs.declared.revision.Revision.{Revision}
use Rattle.jr_rev.specs.declared.vector.Pin.{Pin}
use Rattle.oak_doc.specs.Updates.{Props, document_of}
use Rattle.oak_doc.specs.declared.document.Document.{Document}
use Rattle.oak_doc.specs.declared.document.PrevEntry.{PrevEntry}

pub commits_same : (x d : Document) (a : List (Revision × Bool)) (b : List (Revision × ℕ)) (e : List (Revision × Unit {0})) → a ≡ d.deleted → b ≡ d.commit_root → e ≡ d.revisions → record x { deleted = a; commit_root = b; revisions = e } ≡ with_commits d x
commits_same x d a b e p q r = λ i. record x { deleted = p i; commit_root = q i; revisions = r i }

pub marks_same : (x d : Document) (a : List (Revision × (Revision × Item))) (b e : List (Revision × Unit {0})) → a ≡ map as_node d.collisions → b ≡ d.touched → e ≡ d.guard → record x { collisions = a; touched = b; guard = e } ≡ with_marks_of d x
marks_same x d a b e p q r = λ i. record x { collisions = p i; touched = q i; guard = r i }

pub vectors_same : (x d : Document) (p : Path) (a b : Entries) → a ≡ d.last_rev → b ≡ of_root p d.sweep_rev → record x { last_rev = a; sweep_rev = b } ≡ with_vectors p d x
vectors_same x d p a b q r = λ i. record x { last_rev = q i; sweep_rev = r i }

pub off_root : (p : Path) (v : Entries) → (p ≡ [] → ⊥) → no_entries ≡ of_root p v
off_root [] v other = absurd (other refl)
off_root (n ∷ p) v other = refl

pub node_built : (d : Document) (p : Path) (x y z w : Document) (prev : List PrevEntry) (props : Props) → d.id ≡ Node p → x ≡ numbered d.id d.mod_count → y ≡ with_commits d x → z ≡ with_marks_of d y → w ≡ with_vectors p d z → prev ≡ d.prev → props ≡ filter has_entries d.props
    → record w { prev = prev; props = props } ≡ as_printed d
node_built d p x y z w prev props is a b e f g h =
    (λ i. record (f i) { prev = g i; props = h i })
    ∙ (ap (λ (v : Document). record (with_vectors p d v) { prev = d.prev; props = filter has_entries d.props }) e
    ∙ (ap (λ (v : Document). record (with_vectors p d (with_marks_of d v)) { prev = d.prev; props = filter has_entries d.props }) b
    ∙ (ap (λ (v : Document). record (with_vectors p d (with_marks_of d (with_commits d v))) { prev = d.prev; props = filter has_entries d.props }) a
    ∙ sym (ap (λ (i : DocId). printed_at i d) is))))

pub prev_built : (d : Document) (n : ℕ) (p : Path) (x : Document) (roots : List (Revision × ℕ)) (props : Props) → d.id ≡ Prev n p → x ≡ numbered d.id d.mod_count → roots ≡ d.commit_root → props ≡ filter has_entries d.props → record x { commit_root = roots; props = props } ≡ as_printed d
prev_built d n p x roots props is a b e = (λ i. record (a i) { commit_root = b i; props = e i }) ∙ sym (ap (λ (i : DocId). printed_at i d) is)

pub settings_built : (d : Document) (x : Document) (n : ℕ) (checkpoints : List (List ℕ × Pin)) (readers : List (ℕ × Pin)) → d.id ≡ Settings → x ≡ numbered d.id d.mod_count → n ≡ d.sessions → checkpoints ≡ d.checkpoints → readers ≡ d.readers
    → record x { sessions = n; checkpoints = checkpoints; readers = readers } ≡ as_printed d
settings_built d x n checkpoints readers is a b e f = (λ i. record (a i) { sessions = b i; checkpoints = e i; readers = f i }) ∙ sym (ap (λ (i : DocId). printed_at i d) is)

-- ids by their kind
pub node_of : (id : DocId) → document_kind id ≡ kind.Node → (p : Path) × (id ≡ Node p)
node_of (Node p) is = (p, refl)
node_of (Prev n p) is = cc
node_of Settings is = cc

pub prev_of : (id : DocId) → document_kind id ≡ kind.Prev → (n : ℕ) × (p : Path) × (id ≡ Prev n p)
prev_of (Node p) is = cc
prev_of (Prev n p) is = (n, p, refl)
prev_of Settings is = cc

pub settings_of : (id : DocId) → document_kind id ≡ kind.Settings → id ≡ Settings
settings_of (Node p) is = cc
settings_of (Prev n p) is = cc
settings_of Settings is = refl

pub node_not_settings : (id : DocId) (p : Path) → id ≡ Node p → id ≢ Settings
node_not_settings id p is other = cc

pub prev_not_settings : (id : DocId) (n : ℕ) (p : Path) → id ≡ Prev n p → id ≢ Settings
prev_not_settings id n p is other = cc

pub begun_with : (x d : Document) (id : DocId) (n : ℕ) → x ≡ document_of None id → id ≡ d.id → n ≡ d.mod_count → record x { mod_count = n } ≡ numbered d.id d.mod_count
begun_with x d id n empty same count = (λ i. record (empty i) { mod_count = count i }) ∙ ap (λ (k : DocId). numbered k d.mod_count) same
