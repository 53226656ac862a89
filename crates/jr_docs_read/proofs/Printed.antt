-- What the line of a document tells of it has the same JSON.
use Rattle.std.proofs.Common.{◌≡◌, Bool, true, false, cond, List, [], ◌∷◌, ◌++◌, Option, Some, refl, sym, ap, subst, ◌∙◌}
use Rattle.std.specs.Prelude.{ℕ, codes, filter, map}
use Rattle.std.proofs.lemmas.List.Elements.{All-from_recursion, recursion_from_All}
use Rattle.std.specs.declared.cmp.Ordering.{Ordering}
use Rattle.std.specs.declared.cmp.Ordering.TheVariants.{Less}
use Rattle.std.specs.List.{AllByRecursion, list_any}
use Rattle.std.specs.List.Sorted.{IsStrictlySortedBy}
use Rattle.std.specs.Map.{keys_of}
use Rattle.serde_json.specs.Data.{Data, Members, boolean, no_members, object, string}
use Rattle.jr_docs.specs.Documents.{by_revision, collision_data, commit_data, document_data, held_data, listed_data}
use Rattle.jr_docs.specs.Documents.{note_data, number_data, property_field, sweep_field, vector_field}
use Rattle.jr_docs.specs.Members.{Field, map_data, members_of_map, put_all, put_field, put_fields, unless_empty}
use Rattle.jr_docs_read.specs.Printed.{as_node, as_printed, has_entries, of_root, printed_at, printed_of_node, printed_of_prev, printed_of_settings}
use Rattle.jr_docs_read.specs.Ranges.{IsByRevision, IsCollisionInRange, IsMapOf, IsNodeCollision}
use Rattle.jr_docs_read.proofs.Named.{members_at}
use Rattle.jr_path.specs.declared.name.Name.{Name}
use Rattle.jr_path.specs.declared.path.DocId.{DocId}
use Rattle.jr_path.specs.declared.path.DocId.TheVariants.{Node, Prev, Settings}
use Rattle.jr_path.specs.declared.path.Item.{Item}
use Rattle.jr_path.specs.declared.path.Path.{Path}
use Rattle.jr_rev.specs.Grammar.{FitsFields}
use Rattle.jr_rev.specs.Revisions.{revision_cmp}
use Rattle.jr_rev.specs.Texts.{revision_text}
use Rattle.jr_rev.specs.Vectors.{Entries}
use Rattle.jr_rev.specs.declared.revision.Revision.{Revision}
use Rattle.jr_value.specs.declared.value.Property.{Property}
use Rattle.oak_doc.specs.declared.document.Document.{Document}
use Rattle.oak_doc.specs.Updates.{Props}

-- ---- collisions

abbrev Collisions : Type 0
Collisions = List (Revision × (Revision × Item))

node_keys : (es : Collisions) → keys_of (map as_node es) ≡ keys_of es
node_keys [] = refl
node_keys (e ∷ es) = ap (λ (ks : List Revision). e.0 ∷ ks) (node_keys es)

node_members : (es : Collisions) → members_of_map revision_text collision_data (map as_node es) ≡ members_of_map revision_text collision_data es
node_members [] = refl
node_members (e ∷ es) = ap (λ (ms : List (List ℕ × Data)). (revision_text e.0, collision_data e.1) ∷ ms) (node_members es)

pub node_collisions_data : (es : Collisions) → by_revision collision_data (map as_node es) ≡ by_revision collision_data es
node_collisions_data [] = refl
node_collisions_data (e ∷ es) = ap (λ (ms : List (List ℕ × Data)). Some (object (put_all no_members ((revision_text e.0, collision_data e.1) ∷ ms)))) (node_members es)

node_each : (es : Collisions) → AllByRecursion (λ e. FitsFields e.0 × IsCollisionInRange e.1) es → AllByRecursion (λ e. FitsFields e.0 × IsNodeCollision e.1) (map as_node es)
node_each [] h = tt
node_each (e ∷ es) h = ((h.0.0, record { in_range = record { revision = h.0.1.revision; names = h.0.1.names }; node = refl }), node_each es h.1)

pub node_collisions_map : (es : Collisions) → IsByRevision IsCollisionInRange es → IsByRevision IsNodeCollision (map as_node es)
node_collisions_map es h = record {
  rise = subst (λ (ks : List Revision). IsStrictlySortedBy revision_cmp ks) (sym (node_keys es)) h.rise;
  each = All-from_recursion (λ e. FitsFields e.0 × IsNodeCollision e.1) (map as_node es) (node_each es (recursion_from_All (λ e. FitsFields e.0 × IsCollisionInRange e.1) es h.each));
}

-- ---- properties

module _ {K V : Type 0} (test : K × V → Bool) where
  kept_below : (P : K → Type 0) (es : List (K × V)) → AllByRecursion P (keys_of es) → AllByRecursion P (keys_of (filter test es))
  kept_below P [] h = tt
  kept_below P (e ∷ es) h = by (test e) (kept_below P es h.1)
    where
      by : (b : Bool) → AllByRecursion P (keys_of (filter test es)) → AllByRecursion P (keys_of (cond b (e ∷ filter test es) (filter test es)))
      by true rest = (h.0, rest)
      by false rest = rest

  kept_rise : (cmp : K → K → Ordering) (es : List (K × V)) → IsStrictlySortedBy cmp (keys_of es) → IsStrictlySortedBy cmp (keys_of (filter test es))
  unfolding IsStrictlySortedBy
  kept_rise cmp [] h = tt
  kept_rise cmp (e ∷ es) h = by (test e) (kept_below (λ k. cmp e.0 k ≡ Less) es h.0) (kept_rise cmp es h.1)
    where
      by : (b : Bool) → AllByRecursion (λ k. cmp e.0 k ≡ Less) (keys_of (filter test es)) → IsStrictlySortedBy cmp (keys_of (filter test es)) → IsStrictlySortedBy cmp (keys_of (cond b (e ∷ filter test es) (filter test es)))
      by true below rest = (below, rest)
      by false below rest = rest

  kept_each : (P : K × V → Type 0) (es : List (K × V)) → AllByRecursion P es → AllByRecursion P (filter test es)
  kept_each P [] h = tt
  kept_each P (e ∷ es) h = by (test e) (kept_each P es h.1)
    where
      by : (b : Bool) → AllByRecursion P (filter test es) → AllByRecursion P (cond b (e ∷ filter test es) (filter test es))
      by true rest = (h.0, rest)
      by false rest = rest

-- the name of a property's member
abbrev pub property_text : Name → List ℕ
property_text n = codes "p:" ++ n

-- the JSON of a property's values
abbrev pub values_data : List (Revision × Option Property) → Data
values_data es = map_data revision_text held_data es

-- properties without an entry are left out
pub properties_put : (ms : Members) (ps : Props) → put_fields ms (map property_field ps) ≡ put_all ms (members_of_map property_text values_data (filter has_entries ps))
properties_put ms [] = refl
properties_put ms (p ∷ ps) = by p.1 (λ ns. properties_put ns ps)
  where
    by : (es : List (Revision × Option Property)) → ((ns : Members) → put_fields ns (map property_field ps) ≡ put_all ns (members_of_map property_text values_data (filter has_entries ps)))
        → put_fields (put_field ms (property_field (p.0, es))) (map property_field ps) ≡ put_all ms (members_of_map property_text values_data (cond (list_any (λ e. true) es) ((p.0, es) ∷ filter has_entries ps) (filter has_entries ps)))
    by [] rest = rest ms
    by (e ∷ es) rest = rest (put_field ms (property_field (p.0, e ∷ es)))

kept_twice : (ps : Props) → filter has_entries (filter has_entries ps) ≡ filter has_entries ps
kept_twice [] = refl
kept_twice (p ∷ ps) = by (has_entries p) refl (kept_twice ps)
  where
    by : (b : Bool) → has_entries p ≡ b → filter has_entries (filter has_entries ps) ≡ filter has_entries ps → filter has_entries (cond b (p ∷ filter has_entries ps) (filter has_entries ps)) ≡ cond b (p ∷ filter has_entries ps) (filter has_entries ps)
    by true is rest = rw is (ap (λ (qs : Props). p ∷ qs) rest)
    by false is rest = rest

kept_same : (ms : Members) (ps : Props) → put_fields ms (map property_field (filter has_entries ps)) ≡ put_fields ms (map property_field ps)
kept_same ms ps = properties_put ms (filter has_entries ps) ∙ (ap (λ (qs : Props). put_all ms (members_of_map property_text values_data qs)) (kept_twice ps) ∙ sym (properties_put ms ps))

pub properties_map : {cmp : Name → Name → Ordering} {IsKey : Name → Type 0} {IsValue : List (Revision × Option Property) → Type 0} (ps : Props) → IsMapOf cmp IsKey IsValue ps → IsMapOf cmp IsKey IsValue (filter has_entries ps)
properties_map {cmp} {IsKey} {IsValue} ps h = record {
  rise = kept_rise has_entries cmp ps h.rise;
  each = All-from_recursion (λ e. IsKey e.0 × IsValue e.1) (filter has_entries ps) (kept_each has_entries (λ e. IsKey e.0 × IsValue e.1) ps (recursion_from_All (λ e. IsKey e.0 × IsValue e.1) ps h.each));
}

-- ---- documents

root_sweep : (p : Path) (v : Entries) → sweep_field p (of_root p v) ≡ sweep_field p v
root_sweep [] v = refl
root_sweep (n ∷ p) v = refl

-- the fields of a node's document before its properties
abbrev pub node_front : Path → Document → Option Data → Option Data → List Field
node_front p d collisions sweep =
    (codes "_id", Some (string (Rattle.jr_path.specs.Ids.id_text d.id)))
    ∷ (codes "_modCount", Some (number_data d.mod_count))
    ∷ (codes "_deleted", by_revision boolean d.deleted)
    ∷ (codes "_commitRoot", by_revision number_data d.commit_root)
    ∷ (codes "_revisions", by_revision commit_data d.revisions)
    ∷ (codes "_collisions", collisions)
    ∷ (codes "_touched", by_revision note_data d.touched)
    ∷ (codes "_guard", by_revision note_data d.guard)
    ∷ (codes "_lastRev", vector_field d.last_rev)
    ∷ (codes "_sweepRev", sweep)
    ∷ (codes "_prev", unless_empty (listed_data p) d.prev)
    ∷ []

printed_data : (i : DocId) (d : Document) → d.id ≡ i → document_data (printed_at i d) ≡ document_data d
printed_data (Node p) d is =
    ap object (members_at (Node p) (printed_of_node p d) is
    ∙ (ap (λ (o : Option Data). put_fields (put_fields no_members (node_front p d o (sweep_field p (of_root p d.sweep_rev)))) (map property_field (filter has_entries d.props))) (node_collisions_data d.collisions)
    ∙ (ap (λ (o : Option Data). put_fields (put_fields no_members (node_front p d (by_revision collision_data d.collisions) o)) (map property_field (filter has_entries d.props))) (root_sweep p d.sweep_rev)
    ∙ (kept_same (put_fields no_members (node_front p d (by_revision collision_data d.collisions) (sweep_field p d.sweep_rev))) d.props
    ∙ sym (members_at (Node p) d is)))))
printed_data (Prev n p) d is =
    ap object (members_at (Prev n p) (printed_of_prev d) is
    ∙ (kept_same (put_fields no_members ((codes "_id", Some (string (Rattle.jr_path.specs.Ids.id_text d.id))) ∷ (codes "_modCount", Some (number_data d.mod_count)) ∷ (codes "_commitRoot", by_revision number_data d.commit_root) ∷ [])) d.props
    ∙ sym (members_at (Prev n p) d is)))
printed_data Settings d is = ap object (members_at Settings (printed_of_settings d) is ∙ sym (members_at Settings d is))

pub same_data_printed : (d : Document) → document_data (as_printed d) ≡ document_data d
same_data_printed d = printed_data d.id d refl
