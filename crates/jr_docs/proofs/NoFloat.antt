-- The JSON of a document has no float, so the text that is written for it is the compact one.
use Rattle.std.proofs.Common.{◌≡◌, ◌||◌, Bool, true, false, List, [], ◌∷◌, ◌++◌, Option, None, Some, refl, ap, sym, ◌∙◌}
use Rattle.std.specs.Prelude.{ℕ, map, codes}
use Rattle.std.proofs.lemmas.Bool.{or_from, false≢true}
use Rattle.std.specs.declared.cmp.Ordering.{Ordering}
use Rattle.std.specs.declared.cmp.Ordering.TheVariants.{Less, Equal, Greater}
use Rattle.std.specs.Fmt.{decimal}
use Rattle.std.specs.List.{AllByRecursion}
use Rattle.std.specs.Option.{option_map_or}
use Rattle.std.specs.Ordering.{nat_cmp, match_ordering}
use Rattle.std.specs.Cmp.Lexicographic.{slice_cmp}
use Rattle.serde_json.specs.Data.{Data, Members, no_members, member, put, boolean, string, array}
use Rattle.serde_json.specs.View.{items_of}
use Rattle.serde_json.specs.Written.{has_float, items_have_float, members_have_float}
use Rattle.jr_json.proofs.NoFloat.{property_plain}
use Rattle.jr_path.specs.declared.name.Name.{Name}
use Rattle.jr_path.specs.declared.path.Path.{Path}
use Rattle.jr_path.specs.declared.path.DocId.{DocId}
use Rattle.jr_path.specs.declared.path.DocId.TheVariants.{Node, Prev, Settings}
use Rattle.jr_rev.specs.declared.revision.Revision.{Revision}
use Rattle.jr_rev.specs.Vectors.{Entries}
use Rattle.jr_rev.specs.Texts.{revision_text, vector_text}
use Rattle.jr_value.specs.declared.value.Property.{Property}
use Rattle.oak_doc.specs.declared.document.Document.{Document}
use Rattle.oak_doc.specs.declared.document.PrevEntry.{PrevEntry}
use Rattle.jr_docs.specs.Members.{Field, map_data, members_of_map, put_all, put_field, put_fields, unless_empty}
use Rattle.jr_docs.specs.Documents.{collision_data, commit_data, document_data, fields_at, fields_of, listed_data, note_data, number_data, pin_data, prev_data, property_field, sweep_field, held_data}

neither : (a b : Bool) → (a || b) ≡ false → (a ≡ false) × (b ≡ false)
neither true b h = absurd (false≢true (sym h))
neither false b h = (refl, h)

plain_put : (k : List ℕ) (d : Data) (ms : Members) → has_float d ≡ false → members_have_float ms ≡ false → members_have_float (put k d ms) ≡ false
plain_put k d no_members h g = or_from _ _ h refl
plain_put k d (member l e ms) h g = by (slice_cmp nat_cmp k l) (plain_put k d ms h)
  where
    by : (o : Ordering) → (members_have_float ms ≡ false → members_have_float (put k d ms) ≡ false) → members_have_float (match_ordering o (member k d (member l e ms)) (member l d ms) (member l e (put k d ms))) ≡ false
    by Less rest = or_from _ _ h g
    by Equal rest = or_from _ _ h (neither (has_float e) (members_have_float ms) g).1
    by Greater rest = or_from _ _ (neither (has_float e) (members_have_float ms) g).0 (rest (neither (has_float e) (members_have_float ms) g).1)

plain_entries : {K V : Type 0} (text : K → List ℕ) (of_value : V → Data) → ((v : V) → has_float (of_value v) ≡ false) → (ms : Members) → members_have_float ms ≡ false → (es : List (K × V)) → members_have_float (put_all ms (members_of_map text of_value es)) ≡ false
plain_entries text of_value plain ms h [] = h
plain_entries text of_value plain ms h (e ∷ es) = plain_entries text of_value plain (put (text e.0) (of_value e.1) ms) (plain_put (text e.0) (of_value e.1) ms (plain e.1) h) es

plain_map : {K V : Type 0} (text : K → List ℕ) (of_value : V → Data) → ((v : V) → has_float (of_value v) ≡ false) → (es : List (K × V)) → has_float (map_data text of_value es) ≡ false
plain_map text of_value plain es = plain_entries text of_value plain no_members refl es

-- a field has no float
abbrev IsPlain : Option Data → Type 0
IsPlain None = Unit {0}
IsPlain (Some d) = has_float d ≡ false

plain_field : (ms : Members) (k : List ℕ) (o : Option Data) → members_have_float ms ≡ false → IsPlain o → members_have_float (option_map_or (λ d. put k d ms) o ms) ≡ false
plain_field ms k None h p = h
plain_field ms k (Some d) h p = plain_put k d ms p h

plain_fields : (ms : Members) (fs : List Field) → members_have_float ms ≡ false → AllByRecursion (λ f. IsPlain f.1) fs → members_have_float (put_fields ms fs) ≡ false
plain_fields ms [] h all = h
plain_fields ms (f ∷ fs) h all = plain_fields (put_field ms f) fs (plain_field ms f.0 f.1 h all.0) all.1

plain_unless : {X : Type 0} (of_value : List X → Data) → ((xs : List X) → has_float (of_value xs) ≡ false) → (xs : List X) → IsPlain (unless_empty of_value xs)
plain_unless of_value plain [] = tt
plain_unless of_value plain (x ∷ xs) = plain (x ∷ xs)

plain_value : (x : Option Property) → has_float (held_data x) ≡ false
plain_value None = refl
plain_value (Some x) = property_plain x

plain_items : (p : Path) (es : List PrevEntry) → items_have_float (items_of (map (prev_data p) es)) ≡ false
plain_items p [] = refl
plain_items p (e ∷ es) = plain_items p es

plain_props : (ps : List (Name × List (Revision × Option Property))) → AllByRecursion (λ f. IsPlain f.1) (map property_field ps)
plain_props [] = tt
plain_props (p ∷ ps) = (plain_unless (map_data revision_text held_data) (plain_map revision_text held_data plain_value) p.1, plain_props ps)

plain_sweep : (p : Path) (v : Entries) → IsPlain (sweep_field p v)
plain_sweep [] v = plain_unless string (λ t. refl) (vector_text v)
plain_sweep (n ∷ p) v = tt

plain_at : (id : DocId) (d : Document) → AllByRecursion (λ f. IsPlain f.1) (fields_at id d)
plain_at (Node p) d = (
  plain_unless (map_data revision_text boolean) (plain_map revision_text boolean (λ b. refl)) d.deleted,
  (
    plain_unless (map_data revision_text number_data) (plain_map revision_text number_data (λ n. refl)) d.commit_root,
    (
      plain_unless (map_data revision_text commit_data) (plain_map revision_text commit_data (λ u. refl)) d.revisions,
      (
        plain_unless (map_data revision_text collision_data) (plain_map revision_text collision_data (λ c. refl)) d.collisions,
        (
          plain_unless (map_data revision_text note_data) (plain_map revision_text note_data (λ u. refl)) d.touched,
          (
            plain_unless (map_data revision_text note_data) (plain_map revision_text note_data (λ u. refl)) d.guard,
            (
              plain_unless string (λ t. refl) (vector_text d.last_rev),
              (
                plain_sweep p d.sweep_rev,
                (
                  plain_unless (listed_data p) (plain_items p) d.prev,
                  plain_props d.props,
                ),
              ),
            ),
          ),
        ),
      ),
    ),
  ),
)
plain_at (Prev n p) d = (plain_unless (map_data revision_text number_data) (plain_map revision_text number_data (λ n. refl)) d.commit_root, plain_props d.props)
plain_at Settings d = (refl, (plain_map (λ t. t) pin_data (λ p. refl) d.checkpoints, (plain_map decimal pin_data (λ p. refl) d.readers, tt)))

pub document_plain : (d : Document) → has_float (document_data d) ≡ false
document_plain d = plain_fields no_members (fields_of d) refl (refl, (refl, plain_at d.id d))
