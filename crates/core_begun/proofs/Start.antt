-- The documents of the first start show it.
use Rattle.std.proofs.Common.{◌≡◌, ◌≤◌, ℕ, ◌++◌, Bool, true, false, cond, Some, None, Option, List, [], ◌∷◌, refl, ap, sym, ◌∙◌, subst, is_some}
use Rattle.std.specs.Prelude.{codes}
use Rattle.std.specs.BTreeMap.{is_at}
use Rattle.std.specs.List.{filter}
use Rattle.std.specs.Map.{lookup}
use Rattle.std.specs.Option.{option_and_then, option_map_or, unwrap_or}
use Rattle.std.specs.Ordering.{eq_by_cmp}
use mathlib.Core.Bool.{false≢true}
use Rattle.jr_path.specs.Names.{name_cmp, path_cmp}
use Rattle.jr_path.specs.declared.name.Name.{Name}
use Rattle.jr_path.specs.declared.path.Path.{Path}
use Rattle.jr_path.specs.declared.path.DocId.TheVariants as id
use Rattle.jr_value.specs.declared.value.Property.{Property}
use Rattle.jr_value.specs.declared.value.Property.TheVariants.{Single}
use Rattle.jr_value.specs.declared.value.Value.TheVariants as value
use Rattle.jr_rev.specs.declared.revision.Revision.{Revision}
use Rattle.jr_rev.specs.declared.vector.RevVec.{RevVec}
use Rattle.jr_rev.specs.Revisions.{revision_cmp}
use Rattle.jr_rev.specs.Vectors.{sees, start}
use Rattle.jr_tree.specs.declared.tree.Node.{Node}
use Rattle.jr_tree.specs.Trees.{born_at, born_of, first_revision, initial_tree, node_at, property_at, typed_node}
use Rattle.jr_tree.proofs.Pointwise.{same_path}
use Rattle.oak_doc.specs.declared.document.Document.{Document}
use Rattle.oak_doc.specs.declared.document.PrevEntry.{PrevEntry}
use Rattle.oak_doc.specs.Updates.{of_revision, values_of_property}
use Rattle.oak_read.specs.Meaning.{latest}
use Rattle.oak_read.specs.Shown.{with_previous}
use Rattle.core_heads.proofs.Entries.{start_begun}
use Rattle.core_read.specs.Holds.{has_revision, root_entry, the_start}
use Rattle.core_read.specs.Start.{start_document, start_documents, path_of_system, versions}
use Rattle.core_read.specs.Told.{IsIn}
use Rattle.core_read.proofs.Latest.{same_revision}
use Rattle.core_read.proofs.Start.{start_whole}
use Rattle.core_keep.specs.From.{IsFirst}
use Rattle.core_keep.specs.Standing.{all_at, gone_in, shows_node, shows_value, values_in}
use Rattle.core_begun.specs.Told.{start_in}
use Rattle.core_begun.specs.Kept.{ShowsStart}

-- the node, by which of the three paths it is
abbrev node_chosen : Bool → Bool → Bool → Option Node
node_chosen a b c =
    cond c (Some (typed_node (Some first_revision) (codes "nt:unstructured")))
    (cond b (Some (typed_node (Some first_revision) (codes "rep:system")))
    (cond a (Some (typed_node (Some first_revision) (codes "rep:versionStorage"))) None))

dated_chosen : (a b c : Bool) → is_some (node_chosen a b c) ≡ is_some (born_of (node_chosen a b c))
dated_chosen a b true = refl
dated_chosen a true false = refl
dated_chosen true false false = refl
dated_chosen false false false = refl

pub initial_first : IsFirst initial_tree
initial_first = record {
  tree = record { paths = refl; names = refl; root = refl; parents = refl };
  dated = λ p. dated_chosen (eq_by_cmp path_cmp p versions) (eq_by_cmp path_cmp p path_of_system) (eq_by_cmp path_cmp p []);
}

module _ (s : RevVec) (seen : sees s the_start ≡ true) (v : RevVec) where
  -- the document, by which of the three paths it is
  abbrev chosen : Path → Bool → Bool → Bool → Option Document
  chosen p a b c =
      cond a (Some (start_document v p (codes "rep:versionStorage"))) (cond b (Some (start_document v p (codes "rep:system"))) (cond c (Some (start_document v p (codes "nt:unstructured"))) None))

  abbrev all_chosen : Path → Bool → Bool → Bool → List Document
  all_chosen p a b c = option_map_or (with_previous (start_documents v) p) (chosen p a b c) []

  one : option_and_then shows_node (latest (cond (sees s the_start) ((the_start, false) ∷ []) [])) ≡ Some the_start
  one = ap (λ b. option_and_then shows_node (latest (cond b ((the_start, false) ∷ []) []))) seen

  node_shown : (p : Path) (a b c : Bool) → option_and_then shows_node (latest (filter (λ e. sees s e.0) (gone_in (all_chosen p a b c)))) ≡ born_of (node_chosen a b c)
  node_shown p true true true = one
  node_shown p true true false = one
  node_shown p true false true = one
  node_shown p true false false = one
  node_shown p false true true = one
  node_shown p false true false = one
  node_shown p false false true = one
  node_shown p false false false = refl

  value_shown : (type : List ℕ) (k : Bool) → option_and_then shows_value (latest (filter (λ e. sees s e.0) (unwrap_or (cond k (Some ((the_start, Some (Single (value.Name type))) ∷ [])) None) [] ++ [])))
      ≡ cond k (Some (Single (value.Name type))) None
  value_shown type true = ap (λ b. option_and_then shows_value (latest (cond b ((the_start, Some (Single (value.Name type))) ∷ []) []))) seen
  value_shown type false = refl

  abbrev Shown : Path → Name → Type 0
  Shown p n = option_and_then shows_value (latest (filter (λ e. sees s e.0) (values_in n (all_at (start_documents v) p)))) ≡ property_at initial_tree p n

  none_shown : (p : Path) (n : Name) (a b c : Bool) → a ≡ false → b ≡ false → c ≡ false
      → option_and_then shows_value (latest (filter (λ e. sees s e.0) (values_in n (all_chosen p a b c)))) ≡ option_and_then (λ node. lookup (is_at (name_cmp n)) node.props) (node_chosen a b c)
  none_shown p n true b c h k l = absurd (false≢true (sym h))
  none_shown p n false true c h k l = absurd (false≢true (sym k))
  none_shown p n false false true h k l = absurd (false≢true (sym l))
  none_shown p n false false false h k l = refl

  prop_shown : (p : Path) (n : Name) → Shown p n
  prop_shown p n = by (eq_by_cmp path_cmp p versions) (eq_by_cmp path_cmp p path_of_system) (eq_by_cmp path_cmp p []) refl refl refl
    where
      typed : Bool
      typed = eq_by_cmp name_cmp n (codes "jcr:primaryType")

      by : (a b c : Bool) → eq_by_cmp path_cmp p versions ≡ a → eq_by_cmp path_cmp p path_of_system ≡ b → eq_by_cmp path_cmp p [] ≡ c → Shown p n
      by true b c h k l = subst (λ (x : Path). Shown x n) (sym (same_path p versions h)) (value_shown (codes "rep:versionStorage") typed)
      by false true c h k l = subst (λ (x : Path). Shown x n) (sym (same_path p path_of_system k)) (value_shown (codes "rep:system") typed)
      by false false true h k l = subst (λ (x : Path). Shown x n) (sym (same_path p [] l)) (value_shown (codes "nt:unstructured") typed)
      by false false false h k l = none_shown p n _ _ _ h k l

  other : (r : Revision) → sees s r ≡ false → eq_by_cmp revision_cmp r the_start ≡ false
  other r h = by (eq_by_cmp revision_cmp r the_start) refl
    where
      by : (b : Bool) → eq_by_cmp revision_cmp r the_start ≡ b → b ≡ false
      by true k = absurd (false≢true (sym h ∙ ap (sees s) (same_revision r the_start k) ∙ seen))
      by false k = refl

  no_node : (p : Path) (r : Revision) → eq_by_cmp revision_cmp r the_start ≡ false → (a b c : Bool) → of_revision (gone_in (all_chosen p a b c)) r ≡ None
  no_node p r h true b c = ap (λ b. cond b (Some false) None) h
  no_node p r h false true c = ap (λ b. cond b (Some false) None) h
  no_node p r h false false true = ap (λ b. cond b (Some false) None) h
  no_node p r h false false false = refl

  no_value : (type : List ℕ) (n : Name) (r : Revision) → eq_by_cmp revision_cmp r the_start ≡ false → (k : Bool) → of_revision (unwrap_or (cond k (Some ((the_start, Some (Single (value.Name type))) ∷ [])) None) [] ++ []) r ≡ None
  no_value type n r h true = ap (λ b. cond b (Some (Some (Single (value.Name type)))) None) h
  no_value type n r h false = refl

  no_prop : (p : Path) (n : Name) (r : Revision) → eq_by_cmp revision_cmp r the_start ≡ false → (a b c : Bool) → of_revision (values_in n (all_chosen p a b c)) r ≡ None
  no_prop p n r h true b c = no_value (codes "rep:versionStorage") n r h (eq_by_cmp name_cmp n (codes "jcr:primaryType"))
  no_prop p n r h false true c = no_value (codes "rep:system") n r h (eq_by_cmp name_cmp n (codes "jcr:primaryType"))
  no_prop p n r h false false true = no_value (codes "nt:unstructured") n r h (eq_by_cmp name_cmp n (codes "jcr:primaryType"))
  no_prop p n r h false false false = refl

  no_status : (p : Path) (r : Revision) (a b c : Bool) → has_revision (chosen p a b c) r ≡ false
  no_status p r true b c = refl
  no_status p r false true c = refl
  no_status p r false false true = refl
  no_status p r false false false = refl

  rootless : (p : Path) (r : Revision) (a b c : Bool) → root_entry (chosen p a b c) r ≡ None
  rootless p r true b c = refl
  rootless p r false true c = refl
  rootless p r false false true = refl
  rootless p r false false false = refl

  unlisted : (p : Path) (d : Document) → start_documents v (id.Node p) ≡ Some d → (e : PrevEntry) → IsIn e d.prev → ⊥
  unlisted p d here e i = subst (λ (es : List PrevEntry). IsIn e es) (start_whole v p d here).0 i

  pub first_shown : ShowsStart (record { tree = initial_tree; at = s }) (start_documents v)
  first_shown = record {
    first = initial_first;
    node = λ p. node_shown p (eq_by_cmp path_cmp p versions) (eq_by_cmp path_cmp p path_of_system) (eq_by_cmp path_cmp p []);
    prop = prop_shown;
    of_node = λ p r h. no_node p r (other r h) (eq_by_cmp path_cmp p versions) (eq_by_cmp path_cmp p path_of_system) (eq_by_cmp path_cmp p []);
    of_prop = λ p n r h. no_prop p n r (other r h) (eq_by_cmp path_cmp p versions) (eq_by_cmp path_cmp p path_of_system) (eq_by_cmp path_cmp p []);
    unsaid = λ p r h. no_status p r (eq_by_cmp path_cmp p versions) (eq_by_cmp path_cmp p path_of_system) (eq_by_cmp path_cmp p []);
    no_root = λ p r h. rootless p r (eq_by_cmp path_cmp p versions) (eq_by_cmp path_cmp p path_of_system) (eq_by_cmp path_cmp p []);
    named = λ p d here. (start_whole v p d here).1;
    previous = λ p d here e i. absurd (unlisted p d here e i);
    numbers = λ p d here e i. absurd (unlisted p d here e i);
  }

pub start_shown : (clusters : ℕ) (v : RevVec) → 1 ≤ clusters → ShowsStart (start_in clusters None) (start_documents v)
start_shown clusters v h = first_shown (start clusters) (start_begun clusters h) v
