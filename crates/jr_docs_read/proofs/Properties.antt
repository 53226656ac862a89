-- The members of a document's JSON, of which those of properties come to its properties.
use Rattle.std.proofs.Common.{◌≡◌, ◌≢◌, List, [], ◌∷◌, ◌++◌, Option, None, Some, false, refl, sym, subst, ◌∙◌}
use Rattle.std.specs.Prelude.{codes, map, ℕ, filter}
use Rattle.std.specs.List.{AllByRecursion}
use Rattle.std.proofs.lemmas.Cmp.{nat_list_cmp_total}
use Rattle.std.proofs.lemmas.List.Elements.{recursion_from_All}
use Rattle.serde_json.specs.Data.{Data, Members, no_members, string}
use Rattle.jr_docs.specs.Documents.{by_revision, collision_data, number_data, property_field, sweep_field}
use Rattle.jr_docs.specs.Members.{Field, put_field, put_fields}
use Rattle.jr_docs_read.specs.Printed.{has_entries}
use Rattle.jr_docs_read.specs.Ranges.{IsByRevision, IsHeldInRange, IsStorable}
use Rattle.jr_docs_read.specs.Reading.{is_property, printed_members}
use Rattle.jr_docs_read.proofs.Named.{members_at}
use Rattle.jr_docs_read.proofs.Left.{Entered, IsEntered, Left, NoneOurs, map_left, none_ours_put}
use Rattle.jr_docs_read.proofs.Printed.{node_front, properties_map, properties_put, property_text, values_data}
use Rattle.jr_path.proofs.Maps.{name_exact}
use Rattle.jr_path.specs.Grammar.{IsName}
use Rattle.jr_path.specs.Ids.{id_text}
use Rattle.jr_path.specs.Names.{name_cmp}
use Rattle.jr_path.specs.declared.name.Name.{Name}
use Rattle.jr_path.specs.declared.path.DocId.{DocId}
use Rattle.jr_path.specs.declared.path.DocId.TheVariants.{Node, Prev, Settings}
use Rattle.jr_rev.specs.declared.revision.Revision.{Revision}
use Rattle.jr_value.specs.declared.value.Property.{Property}
use Rattle.oak_doc.specs.declared.document.Document.{Document}
use Rattle.oak_doc.specs.Updates.{Props}

-- how properties stand among the members
abbrev pub of_properties : Entered Name (List (Revision × Option Property))
of_properties = record {
  ours = is_property;
  text = property_text;
  shown = values_data;
  Fits = λ e. IsName e.0 × IsByRevision IsHeldInRange e.1;
  cmp = name_cmp;
}

same_behind : (a b : List ℕ) → codes "p:" ++ a ≡ codes "p:" ++ b → a ≡ b
same_behind a b same = cc

pub of_properties_holds : IsEntered of_properties
of_properties_holds = record {
  mine = λ k. refl;
  one = λ a b _ _ same. same_behind a.0 b.0 same;
  total = nat_list_cmp_total;
  exact = name_exact;
}

-- fields of other names
none_fields : (fs : List Field) (ms : Members) → AllByRecursion (λ f. is_property f.0 ≡ false) fs → NoneOurs is_property ms → NoneOurs is_property (put_fields ms fs)
none_fields [] ms other none = none
none_fields (f ∷ fs) ms other none = none_fields fs (put_field ms f) other.1 (by f.1)
  where
    by : (o : Option Data) → NoneOurs is_property (put_field ms (f.0, o))
    by None = none
    by (Some d) = none_ours_put is_property f.0 d ms other.0 none

behind : (fs : List Field) (d : Document) → AllByRecursion (λ f. is_property f.0 ≡ false) fs → IsStorable d → (ms : Members) → ms ≡ put_fields (put_fields no_members fs) (map property_field d.props) → Left of_properties ms [] (filter has_entries d.props)
behind fs d other h ms is =
    let kept = properties_map d.props h.props in
    let front = put_fields no_members fs in
    subst (λ (ns : Members). Left of_properties ns [] (filter has_entries d.props)) (sym (is ∙ properties_put front d.props))
    (map_left of_properties of_properties_holds (filter has_entries d.props) front kept.rise (recursion_from_All (λ e. IsName e.0 × IsByRevision IsHeldInRange e.1) (filter has_entries d.props) kept.each) (none_fields fs no_members other tt))

by_id : (i : DocId) (d : Document) → IsStorable d → d.id ≡ i → i ≢ Settings → Left of_properties (printed_members d) [] (filter has_entries d.props)
by_id (Node p) d h is other =
    behind (node_front p d (by_revision collision_data d.collisions) (sweep_field p d.sweep_rev)) d
    (refl, (refl, (refl, (refl, (refl, (refl, (refl, (refl, (refl, (refl, (refl, tt))))))))))) h (printed_members d) (members_at (Node p) d is)
by_id (Prev n p) d h is other =
    behind ((codes "_id", Some (string (id_text d.id))) ∷ (codes "_modCount", Some (number_data d.mod_count)) ∷ (codes "_commitRoot", by_revision number_data d.commit_root) ∷ []) d
    (refl, (refl, (refl, tt))) h (printed_members d) (members_at (Prev n p) d is)
by_id Settings d h is other = absurd (other refl)

-- the members that are left to be read at first come to the properties with an entry
pub properties_left : (d : Document) → IsStorable d → d.id ≢ Settings → Left of_properties (printed_members d) [] (filter has_entries d.props)
properties_left d h other = by_id d.id d h refl other

pub properties_begin : (d : Document) (ms : Members) (acc : Props) → IsStorable d → d.id ≢ Settings → printed_members d ≡ ms → acc ≡ [] → Left of_properties ms acc (filter has_entries d.props)
properties_begin d ms acc h other is none =
    subst (λ (ns : Members). Left of_properties ns acc (filter has_entries d.props)) is
    (subst (λ (xs : Props). Left of_properties (printed_members d) xs (filter has_entries d.props)) (sym none) (properties_left d h other))
