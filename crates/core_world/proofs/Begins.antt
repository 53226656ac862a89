-- The documents of the start.
use Rattle.std.proofs.Common.{◌≡◌, ℕ, Bool, true, false, cond, Some, None, Option, [], ◌∷◌, is_some, refl, sym, ap, subst, ◌∙◌, List, ◌≤◌, filter, filter_map}
use Rattle.std.specs.Prelude.{codes}
use Rattle.std.specs.Option.{unwrap_or, option_and_then, option_map_or}
use Rattle.std.specs.Ordering.{eq_by_cmp}
use mathlib.Core.Bool.{false≢true}
use Rattle.jr_path.specs.Ids.{id_cmp}
use Rattle.jr_path.specs.Names.{name_cmp, path_cmp}
use Rattle.jr_path.specs.declared.name.Name.{Name}
use Rattle.jr_path.specs.declared.path.Path.{Path}
use Rattle.jr_path.specs.declared.path.DocId.TheVariants as id
use Rattle.jr_rev.specs.declared.revision.Revision.{Revision}
use Rattle.jr_rev.specs.Revisions.{is_same}
use Rattle.jr_rev.specs.Vectors.{start, start_of, sees}
use Rattle.jr_value.specs.declared.value.Property.TheVariants.{Single}
use Rattle.jr_value.specs.declared.value.Value.TheVariants as value
use Rattle.oak_clash.specs.declared.mark.Mark.{Mark}
use Rattle.oak_clash.specs.declared.mark.Mark.TheVariants.{Exists, Guard, Touch, Prop}
use Rattle.oak_commit.specs.Clashing.{collision, has_mark, marked, noted}
use Rattle.oak_doc.specs.declared.document.Document.{Document}
use Rattle.oak_read.specs.Meaning.{Documents, documents_in, latest}
use Rattle.oak_store.specs.Tables.{by_id}
use Rattle.core_read.specs.Holds.{has_revision, root_entry}
use Rattle.core_read.specs.Start.{start_document as core_document, start_documents as core_documents, path_of_system, versions}
use Rattle.core_read.proofs.Start.{start_whole}
use Rattle.oak_doc.specs.Updates.{of_revision}
use Rattle.core_clash.proofs.Basics.{same_path, same_revision}
use Rattle.core_clash.specs.Steps.{IsCoreStart}
use Rattle.core_clash.specs.Views.{AreOrdered}
use Rattle.core_world.specs.Start.{node_of_start, documents_of_start, start_root, start_table}
use Rattle.core_world.specs.States.{nodes_in}
use Rattle.core_world.proofs.Tables.{other_node}
use Rattle.core_keep.specs.Standing.{all_at, gone_in, shows_node, shows_value, values_in}
use Rattle.oak_read.specs.Shown.{with_previous}
use Rattle.oak_doc.specs.declared.document.PrevEntry.{PrevEntry}
use Rattle.core_begun.specs.Kept.{ShowsStart}
use Rattle.core_begun.specs.Told.{start_in}
use Rattle.core_begun.proofs.Start.{start_shown}
use Rattle.core_read.specs.Told.{IsIn}
use Rattle.core_read.specs.Commits.{Sight}

-- ---- the documents of the start

abbrev mine : ℕ → ℕ → Documents
mine c n = documents_in (by_id (documents_of_start c n))

-- a document that lists no previous ones
abbrev alone : Option Document → List Document
alone o = option_map_or (λ d. d ∷ []) o []

-- a document has the entries of another, at its path
pub record IsAlike (p : Path) (a b : Option Document) : Type 0 where
  pub root : (r : Revision) → root_entry a r ≡ root_entry b r
  pub said : (r : Revision) → has_revision a r ≡ has_revision b r
  pub gone : gone_in (alone a) ≡ gone_in (alone b)
  pub values : (n : Name) → values_in n (alone a) ≡ values_in n (alone b)
  pub whole : (d : Document) → a ≡ Some d → d.prev ≡ []
  pub named : (d : Document) → a ≡ Some d → d.id ≡ id.Node p

from_some : (c d : Document) → Some c ≡ Some d → d ≡ c
from_some c d h = sym (ap (λ o. unwrap_or o c) h)

-- the one entry of a list is of the start
one_entry : {X : Type 0} (r : Revision) (x : X) → is_some (of_revision ((start_of 1, x) ∷ []) r) ≡ true → r ≡ start_of 1
one_entry r x h = by (is_same r (start_of 1)) refl h
  where
    by : (b : Bool) → is_same r (start_of 1) ≡ b → is_some (cond b (Some x) None) ≡ true → r ≡ start_of 1
    by true k h = same_revision r (start_of 1) k
    by false k h = absurd (false≢true h)

-- so are the marks of a document of the start
only_start : (p : Path) (type : Name) (number : ℕ) (r : Revision) (m : Mark) → has_mark (node_of_start p type number) r m ≡ true → r ≡ start_of 1
only_start p type number r Exists h = one_entry r false h
only_start p type number r Guard h = absurd (false≢true h)
only_start p type number r Touch h = absurd (false≢true h)
only_start p type number r (Prop n) h = by (eq_by_cmp name_cmp n (codes "jcr:primaryType")) h
  where
    by : (b : Bool) → is_some (of_revision (unwrap_or (cond b (Some ((start_of 1, Some (Single (value.Name type))) ∷ [])) None) []) r) ≡ true → r ≡ start_of 1
    by true h = one_entry r _ h
    by false h = absurd (false≢true h)

module _ (c n : ℕ) where
  root_alike : IsAlike [] (mine c n (id.Node [])) (core_documents (start c) (id.Node []))
  root_alike = record {
    root = λ r. refl;
    said = λ r. refl;
    gone = refl;
    values = λ n. refl;
    whole = λ d h. ap (λ (d : Document). d.prev) (from_some _ d h);
    named = λ d h. ap (λ (d : Document). d.id) (from_some _ d h);
  }

  system_alike : IsAlike path_of_system (mine c n (id.Node path_of_system)) (core_documents (start c) (id.Node path_of_system))
  system_alike = record {
    root = λ r. refl;
    said = λ r. refl;
    gone = refl;
    values = λ n. refl;
    whole = λ d h. ap (λ (d : Document). d.prev) (from_some _ d h);
    named = λ d h. ap (λ (d : Document). d.id) (from_some _ d h);
  }

  versions_alike : IsAlike versions (mine c n (id.Node versions)) (core_documents (start c) (id.Node versions))
  versions_alike = record {
    root = λ r. refl;
    said = λ r. refl;
    gone = refl;
    values = λ n. refl;
    whole = λ d h. ap (λ (d : Document). d.prev) (from_some _ d h);
    named = λ d h. ap (λ (d : Document). d.id) (from_some _ d h);
  }

  nowhere : (p : Path) (a b : Option Document) → a ≡ None → b ≡ None → IsAlike p a b
  nowhere p a b h k = record {
    root = λ r. ap (λ o. root_entry o r) (h ∙ sym k);
    said = λ r. ap (λ o. has_revision o r) (h ∙ sym k);
    gone = ap (λ o. gone_in (alone o)) (h ∙ sym k);
    values = λ n. ap (λ o. values_in n (alone o)) (h ∙ sym k);
    whole = λ d e. absurd (false≢true (ap is_some (sym h ∙ e)));
    named = λ d e. absurd (false≢true (ap is_some (sym h ∙ e)));
  }

  mine_none : (p : Path) → eq_by_cmp path_cmp p [] ≡ false → eq_by_cmp path_cmp p path_of_system ≡ false → eq_by_cmp path_cmp p versions ≡ false → mine c n (id.Node p) ≡ None
  mine_none p k l m =
      ap (λ x. cond x (Some (start_root c)) (cond (eq_by_cmp id_cmp (id.Node p) (id.Node path_of_system)) (Some (node_of_start path_of_system (codes "rep:system") 2)) (cond (eq_by_cmp id_cmp (id.Node p) (id.Node versions)) (Some (node_of_start versions (codes "rep:versionStorage") 3)) None))) (other_node p [] k)
      ∙ (ap (λ x. cond x (Some (node_of_start path_of_system (codes "rep:system") 2)) (cond (eq_by_cmp id_cmp (id.Node p) (id.Node versions)) (Some (node_of_start versions (codes "rep:versionStorage") 3)) None)) (other_node p path_of_system l)
      ∙ ap (λ x. cond x (Some (node_of_start versions (codes "rep:versionStorage") 3)) None) (other_node p versions m))

  alike : (p : Path) → IsAlike p (mine c n (id.Node p)) (core_documents (start c) (id.Node p))
  alike p = by (eq_by_cmp path_cmp p []) refl (eq_by_cmp path_cmp p path_of_system) refl (eq_by_cmp path_cmp p versions) refl
    where
      core_none : eq_by_cmp path_cmp p [] ≡ false → eq_by_cmp path_cmp p path_of_system ≡ false → eq_by_cmp path_cmp p versions ≡ false → core_documents (start c) (id.Node p) ≡ None
      core_none k l m =
          ap (λ x. cond x (Some (core_document (start c) p (codes "rep:versionStorage"))) (cond (eq_by_cmp path_cmp p path_of_system) (Some (core_document (start c) p (codes "rep:system"))) (cond (eq_by_cmp path_cmp p []) (Some (core_document (start c) p (codes "nt:unstructured"))) None))) m
          ∙ (ap (λ x. cond x (Some (core_document (start c) p (codes "rep:system"))) (cond (eq_by_cmp path_cmp p []) (Some (core_document (start c) p (codes "nt:unstructured"))) None)) l
          ∙ ap (λ x. cond x (Some (core_document (start c) p (codes "nt:unstructured"))) None) k)

      by : (a : Bool) → eq_by_cmp path_cmp p [] ≡ a → (b : Bool) → eq_by_cmp path_cmp p path_of_system ≡ b → (e : Bool) → eq_by_cmp path_cmp p versions ≡ e → IsAlike p (mine c n (id.Node p)) (core_documents (start c) (id.Node p))
      by true k b l e m = subst (λ (x : Path). IsAlike x (mine c n (id.Node x)) (core_documents (start c) (id.Node x))) (sym (same_path p [] k)) root_alike
      by false k true l e m = subst (λ (x : Path). IsAlike x (mine c n (id.Node x)) (core_documents (start c) (id.Node x))) (sym (same_path p path_of_system l)) system_alike
      by false k false l true m = subst (λ (x : Path). IsAlike x (mine c n (id.Node x)) (core_documents (start c) (id.Node x))) (sym (same_path p versions m)) versions_alike
      by false k false l false m = nowhere p (mine c n (id.Node p)) (core_documents (start c) (id.Node p)) (mine_none p k l m) (core_none k l m)

  -- all documents of a path are the one that lists no previous ones
  all_alone : (ds : Documents) (p : Path) → ((d : Document) → ds (id.Node p) ≡ Some d → d.prev ≡ []) → all_at ds p ≡ alone (ds (id.Node p))
  all_alone ds p whole = by (ds (id.Node p)) refl
    where
      by : (o : Option Document) → ds (id.Node p) ≡ o → option_map_or (with_previous ds p) o [] ≡ alone o
      by None h = refl
      by (Some d) h = ap (λ (es : List PrevEntry). d ∷ filter_map (λ e. ds (id.Prev e.number p)) es) (whole d h)

  pub lists_none : (p : Path) (d : Document) → mine c n (id.Node p) ≡ Some d → d.prev ≡ []
  lists_none p d h = (alike p).whole d h

  core_lists_none : (p : Path) (d : Document) → core_documents (start c) (id.Node p) ≡ Some d → d.prev ≡ []
  core_lists_none p d h = (start_whole (start c) p d h).0

  same_gone : (p : Path) → gone_in (all_at (mine c n) p) ≡ gone_in (all_at (core_documents (start c)) p)
  same_gone p = ap gone_in (all_alone (mine c n) p (lists_none p)) ∙ ((alike p).gone ∙ sym (ap gone_in (all_alone (core_documents (start c)) p (core_lists_none p))))

  same_values : (p : Path) (m : Name) → values_in m (all_at (mine c n) p) ≡ values_in m (all_at (core_documents (start c)) p)
  same_values p m = ap (values_in m) (all_alone (mine c n) p (lists_none p)) ∙ ((alike p).values m ∙ sym (ap (values_in m) (all_alone (core_documents (start c)) p (core_lists_none p))))

  -- so they show what there is before any commit
  pub shows_start : 1 ≤ c → ShowsStart (start_in c None) (mine c n)
  shows_start some =
      let core = start_shown c (start c) some in record {
        first = core.first;
        node = λ p. ap (λ es. option_and_then shows_node (latest (filter (λ e. sees (start c) e.0) es))) (same_gone p) ∙ core.node p;
        prop = λ p m. ap (λ es. option_and_then shows_value (latest (filter (λ e. sees (start c) e.0) es))) (same_values p m) ∙ core.prop p m;
        of_node = λ p r h. ap (λ es. of_revision es r) (same_gone p) ∙ core.of_node p r h;
        of_prop = λ p m r h. ap (λ es. of_revision es r) (same_values p m) ∙ core.of_prop p m r h;
        unsaid = λ p r h. (alike p).said r ∙ core.unsaid p r h;
        no_root = λ p r h. (alike p).root r ∙ core.no_root p r h;
        named = λ p d h. (alike p).named d h;
        previous = λ p d h e i. absurd (subst (λ (l : List PrevEntry). IsIn e l) (lists_none p d h) i);
        numbers = λ p d h e i. absurd (subst (λ (l : List PrevEntry). IsIn e l) (lists_none p d h) i);
      }

  -- each document of a node is one of three
  each_start : (P : Path → Option Document → Type 0) → P [] (Some (start_root c)) → P path_of_system (Some (node_of_start path_of_system (codes "rep:system") 2)) → P versions (Some (node_of_start versions (codes "rep:versionStorage") 3)) → ((p : Path) → P p None) → (p : Path) → P p (mine c n (id.Node p))
  each_start P root of_system of_versions none p = by (eq_by_cmp path_cmp p []) refl (eq_by_cmp path_cmp p path_of_system) refl (eq_by_cmp path_cmp p versions) refl
    where
      by : (a : Bool) → eq_by_cmp path_cmp p [] ≡ a → (b : Bool) → eq_by_cmp path_cmp p path_of_system ≡ b → (e : Bool) → eq_by_cmp path_cmp p versions ≡ e → P p (mine c n (id.Node p))
      by true k b l e m = subst (λ (x : Path). P x (mine c n (id.Node x))) (sym (same_path p [] k)) root
      by false k true l e m = subst (λ (x : Path). P x (mine c n (id.Node x))) (sym (same_path p path_of_system l)) of_system
      by false k false l true m = subst (λ (x : Path). P x (mine c n (id.Node x))) (sym (same_path p versions m)) of_versions
      by false k false l false m = subst (P p) (sym (mine_none p k l m)) (none p)

  -- the root has more fields, and the same marks
  only_root : (r : Revision) (m : Mark) → has_mark (start_root c) r m ≡ true → r ≡ start_of 1
  only_root r Exists h = only_start [] (codes "nt:unstructured") 1 r Exists h
  only_root r Guard h = absurd (false≢true h)
  only_root r Touch h = absurd (false≢true h)
  only_root r (Prop n) h = only_start [] (codes "nt:unstructured") 1 r (Prop n) h

  pub start_is : (old : Sight) → old (start_of 1) ≡ true → IsCoreStart old (nodes_in (start_table c n)) (λ p. [])
  start_is old first = record {
    ordered = each_start AreOrdered (refl, record { names = refl }) (refl, record { names = refl }) (refl, record { names = refl }) (λ p. tt);
    marks = λ p r m h. known r (each_start (λ q o. marked o r m ≡ true → r ≡ start_of 1) (only_root r m) (only_start path_of_system (codes "rep:system") 2 r m) (only_start versions (codes "rep:versionStorage") 3 r m) (λ q h. absurd (false≢true h)) p h);
    notes = λ p r h. known r (each_start (λ q o. noted o r ≡ true → r ≡ start_of 1) (λ h. absurd (false≢true h)) (λ h. absurd (false≢true h)) (λ h. absurd (false≢true h)) (λ q h. absurd (false≢true h)) p h);
    roots = λ p r h. known r (each_start (λ q o. is_some (root_entry o r) ≡ true → r ≡ start_of 1) (λ h. absurd (false≢true h)) (λ h. absurd (false≢true h)) (λ h. absurd (false≢true h)) (λ q h. absurd (false≢true h)) p h);
    collisions = λ p r. each_start (λ q o. collision o r ≡ None) refl refl refl (λ q. refl) p;
    listed = λ p r m h. absurd (false≢true h);
  }
    where
      known : (r : Revision) → r ≡ start_of 1 → old r ≡ true
      known r e = subst (λ (x : Revision). old x ≡ true) (sym e) first
