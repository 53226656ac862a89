-- Opened documents show the start that they are opened with.
use Rattle.std.proofs.Common.{◌≡◌, ◌≤◌, ◌<◌, inl, inr, ℕ, Bool, true, false, cond, ◌&&◌, ◌||◌, List, [], ◌∷◌, ◌++◌, Option, None, Some, All, map, refl, sym, ap, ◌∙◌, subst, is_some, arith}
use Rattle.std.specs.Prelude.{nat_lt}
use Rattle.std.specs.FinMap.{is_sorted}
use Rattle.std.specs.Ordering.{eq_by_cmp}
use Rattle.basics.proofs.Options.{some_of}
use Rattle.std.specs.List.{filter, filter_map, flat_map, list_all}
use Rattle.std.specs.Map.{keys_of, lookup, values_of}
use Rattle.std.specs.BTreeMap.{is_at}
use Rattle.std.specs.Option.{option_and_then, option_map_or, unwrap_or}
use Rattle.std.proofs.lemmas.Bool.{false≢true}
use Rattle.std.proofs.lemmas.Bool.Decides.{nat_tests}
use Rattle.jr_path.proofs.Maps.{name_exact}
use Rattle.std.proofs.lemmas.Cmp.{nat_list_cmp_total}
use Rattle.jr_path.specs.Names.{name_cmp, path_cmp}
use Rattle.jr_path.specs.declared.name.Name.{Name}
use Rattle.jr_path.specs.declared.path.Path.{Path}
use Rattle.jr_path.specs.declared.path.DocId.{DocId}
use Rattle.jr_path.specs.declared.path.DocId.TheVariants as id
use Rattle.jr_items.specs.Names.{system, version_storage}
use Rattle.jr_value.specs.declared.value.Property.{Property}
use Rattle.jr_rev.specs.declared.revision.Revision.{Revision}
use Rattle.jr_rev.specs.declared.vector.Pin.{Pin}
use Rattle.jr_rev.specs.declared.vector.RevVec.{RevVec}
use Rattle.jr_rev.specs.Revisions.{is_before, revision_cmp}
use Rattle.jr_rev.specs.Vectors.{sees}
use Rattle.jr_tree.specs.declared.tree.Node.{Node}
use Rattle.jr_tree.specs.Trees.{IsTree, Nodes, born_at, born_of, has_parent, node_at, property_at}
use Rattle.oak_doc.specs.declared.document.Document.{Document}
use Rattle.oak_doc.specs.declared.document.PrevEntry.{PrevEntry}
use Rattle.oak_doc.specs.Updates.{of_revision, values_of_property}
use Rattle.oak_read.specs.Meaning.{Documents, documents_in, entry_of, found_node, is_committed, latest, properties_in}
use Rattle.oak_read.specs.Shown.{with_previous}
use Rattle.oak_store.specs.Tables.{by_id}
use Rattle.oak_sound.specs.Meant.{ById, opened_at, opened_pin, opened_tree, swept}
use Rattle.oak_sound.specs.Sound.{has_system, keeps_revisions, keeps_roots, keeps_tree, keeps_node, latest_committed}
use Rattle.oak_open.specs.Opened.{stays_opened}
use Rattle.oak_open.proofs.Numbered.{KeepRules, all_keep, sound_rules}
use Rattle.oak_open.proofs.Shown.{all_shown, shown_at, shown_sorted, shown_there}
use Rattle.core_read.specs.Holds.{has_revision, root_entry}
use Rattle.core_read.specs.Told.{IsIn}
use Rattle.core_read.proofs.Entries.{first, same_lists, second}
use Rattle.core_read.proofs.Latest.{same_revision}
use Rattle.core_keep.specs.From.{IsFirst, course_from}
use Rattle.core_keep.specs.Keeps.{IsPrevious}
use Rattle.core_keep.specs.Standing.{all_at, gone_in, shows_node, shows_value, values_in}
use Rattle.core_begun.specs.Kept.{ShowsStart}
use Rattle.core_open.specs.Starting.{AreOpenable, begun_documents, shown_start}
use Rattle.core_open.proofs.Behind.{absent_shows_none, behind_listed, committed_counts, has_parent_at, keeps_at, latest_is, well_listed}
use Rattle.core_open.proofs.Filtered.{filtered_all, filtered_none, filtered_there, latest_there}
use Rattle.core_open.proofs.Lookups.{IsOpenedAs, Opens, found_among, found_keeps, found_named}
use Rattle.core_open.proofs.Nodes.{dated, found_nowhere, found_over, found_props, node_with, node_shown, props_at, props_sorted}
use Rattle.core_open.proofs.Rising.{opens_each}
use Rattle.core_open.proofs.Staying.{gone_kept, rootless_at, same_entry, seen_at, unsaid_at, unseen_at, value_kept}

module _ (clusters sessions : ℕ) (items : List Document) (openable : AreOpenable clusters items) where
  abbrev ds : ById
  ds = by_id items

  abbrev pin : Pin
  pin = opened_pin clusters (by_id items)

  abbrev now : Documents
  now = begun_documents clusters sessions items

  abbrev tree : Nodes
  tree = opened_tree clusters (by_id items)

  abbrev high : clusters ≤ 8
  high = openable.nodes.1

  abbrev kept : KeepRules clusters (by_id items)
  kept = sound_rules clusters (by_id items) openable.sound

  drawable : list_all (λ e. keeps_revisions clusters e.1) (by_id items) ≡ true
  drawable = all_keep (λ e. keeps_revisions clusters e.1) [] (by_id items) kept.revisions

  rooted : list_all (λ e. keeps_roots (by_id items) (swept (by_id items)) e.0 e.1) (by_id items) ≡ true
  rooted = all_keep (λ e. keeps_roots (by_id items) (swept (by_id items)) e.0 e.1) [] (by_id items) kept.roots

  treed : list_all (λ e. keeps_tree (by_id items) (swept (by_id items)) (opened_tree clusters (by_id items)) e.0 e.1) (by_id items) ≡ true
  treed = all_keep (λ e. keeps_tree (by_id items) (swept (by_id items)) (opened_tree clusters (by_id items)) e.0 e.1) [] (by_id items) kept.tree

  opens : (i : DocId) → Opens (by_id items) pin sessions (documents_in (by_id items) i) (now i)
  opens = opens_each clusters sessions items

  ordered : (i : DocId) (d : Document) → documents_in (by_id items) i ≡ Some d → is_sorted name_cmp d.props ≡ true
  ordered i d h = (openable.ordered d (found_among items i d h)).names

  shown : (p : Path) → node_at tree p ≡ found_node (documents_in (by_id items)) (swept (by_id items)) (opened_at clusters (by_id items)) p
  shown = shown_at (by_id items) (swept (by_id items)) (opened_at clusters (by_id items))

  -- ---- nodes

  pub shows_nodes : (p : Path) → option_and_then shows_node (latest (filter (λ e. sees pin.base e.0) (gone_in (all_at now p)))) ≡ born_at tree p
  shows_nodes p =
      ap (λ es. option_and_then shows_node (latest es))
      (seen_at (by_id items) pin sessions now opens (λ x. x.deleted) (gone_kept (by_id items) pin sessions now opens) p)
      ∙ node_shown (documents_in (by_id items)) (swept (by_id items)) (opened_at clusters (by_id items)) p
      ∙ sym (ap born_of (shown p))

  pub no_other_nodes : (p : Path) (r : Revision) → sees pin.base r ≡ false → of_revision (gone_in (all_at now p)) r ≡ None
  no_other_nodes = unseen_at (by_id items) pin sessions now opens (λ x. x.deleted) (gone_kept (by_id items) pin sessions now opens)

  -- ---- properties

  property_shown : (p : Path) (n : Name) → option_and_then shows_value
      (entry_of (documents_in (by_id items)) (swept (by_id items)) (opened_at clusters (by_id items)) (λ d. values_of_property d.props n) (all_at (documents_in (by_id items)) p))
      ≡ option_and_then (λ (node : Node). lookup (is_at (name_cmp n)) node.props) (found_node (documents_in (by_id items)) (swept (by_id items)) (opened_at clusters (by_id items)) p)
  property_shown p n = by (found_node old t v p) refl
    where
      old : Documents
      old = documents_in (by_id items)

      t : RevVec
      t = swept (by_id items)

      v : RevVec
      v = opened_at clusters (by_id items)

      by : (o : Option Node) → found_node old t v p ≡ o → option_and_then shows_value (entry_of old t v (λ d. values_of_property d.props n) (all_at old p))
          ≡ option_and_then (λ (node : Node). lookup (is_at (name_cmp n)) node.props) o
      by None h = absent_shows_none clusters high (by_id items) drawable rooted treed p h n
      by (Some node) h =
          let there = shown_there (by_id items) t v p node h in
          ap (λ o. option_and_then shows_value (entry_of old t v (λ d. values_of_property d.props n) (option_map_or (with_previous old p) o []))) there.1
          ∙ sym (props_at old t v (with_previous old p there.0) n)
          ∙ ap (λ ps. lookup (is_at (name_cmp n)) ps) (sym (found_props old t v p there.0 node there.1 h))

  pub shows_properties : (p : Path) (n : Name)
      → option_and_then shows_value (latest (filter (λ e. sees pin.base e.0) (values_in n (all_at now p)))) ≡ property_at tree p n
  shows_properties p n =
      ap (λ es. option_and_then shows_value (latest es))
      (seen_at (by_id items) pin sessions now opens (λ x. values_of_property x.props n) (value_kept (by_id items) pin sessions now opens ordered n) p)
      ∙ property_shown p n
      ∙ sym (ap (option_and_then (λ (node : Node). lookup (is_at (name_cmp n)) node.props)) (shown p))

  pub no_other_values : (p : Path) (n : Name) (r : Revision) → sees pin.base r ≡ false → of_revision (values_in n (all_at now p)) r ≡ None
  no_other_values p n =
      unseen_at (by_id items) pin sessions now opens (λ x. values_of_property x.props n) (value_kept (by_id items) pin sessions now opens ordered n) p

  pub unsaid : (p : Path) (r : Revision) → sees pin.base r ≡ false → has_revision (now (id.Node p)) r ≡ false
  unsaid p = unsaid_at (by_id items) pin sessions now opens (id.Node p)

  pub rootless : (p : Path) (r : Revision) → sees pin.base r ≡ false → root_entry (now (id.Node p)) r ≡ None
  rootless p = rootless_at (by_id items) pin sessions now opens (id.Node p)

  -- ---- what they mean

  pub mean_nodes : (p : Path) → found_node now pin.base pin.base p ≡ node_at tree p
  mean_nodes p = by (documents_in (by_id items) (id.Node p)) refl (opens (id.Node p)) ∙ sym (shown p)
    where
      old : Documents
      old = documents_in (by_id items)

      t : RevVec
      t = swept (by_id items)

      v : RevVec
      v = opened_at clusters (by_id items)

      nodes : entry_of now v v (λ e. e.deleted) (all_at now p) ≡ entry_of old t v (λ e. e.deleted) (all_at old p)
      nodes = same_entry (by_id items) pin sessions now opens (λ x. x.deleted) (gone_kept (by_id items) pin sessions now opens) p

      values : (n : Name) → entry_of now v v (λ d. values_of_property d.props n) (all_at now p) ≡ entry_of old t v (λ d. values_of_property d.props n) (all_at old p)
      values n = same_entry (by_id items) pin sessions now opens (λ x. values_of_property x.props n) (value_kept (by_id items) pin sessions now opens ordered n) p

      props : properties_in now v v (all_at now p) ≡ properties_in old t v (all_at old p)
      props = same_lists name_cmp nat_list_cmp_total name_exact _ _ (props_sorted now v v (all_at now p)) (props_sorted old t v (all_at old p))
          (λ n. props_at now v v (all_at now p) n ∙ ap (option_and_then shows_value) (values n) ∙ sym (props_at old t v (all_at old p) n))

      by : (o : Option Document) → old (id.Node p) ≡ o → Opens (by_id items) pin sessions o (now (id.Node p)) → found_node now v v p ≡ found_node old t v p
      by None h is = found_nowhere now v v p is ∙ sym (found_nowhere old t v p h)
      by (Some d) h is =
          found_over now v v p is.0 is.1
          ∙ ap (λ o. node_with o (properties_in now v v (all_at now p))) nodes
          ∙ ap (node_with (entry_of old t v (λ e. e.deleted) (all_at old p))) props
          ∙ sym (found_over old t v p d h)

  -- ---- names

  pub named_as : (i : DocId) (made : Document) → now i ≡ Some made → made.id ≡ i
  named_as i made h = found_named _ i made h

  -- ---- the tree

  pub first_tree : IsFirst tree
  first_tree = record {
    tree = record {
      paths = shown_sorted (by_id items) (swept (by_id items)) (opened_at clusters (by_id items));
      names = all_shown (by_id items) t v (λ e. is_sorted name_cmp e.1.props) (λ e. true) names all_true;
      root = root;
      parents = all_shown (by_id items) t v (λ e. has_parent tree e.0) (λ e. true) parents all_true;
    };
    dated = λ p. ap is_some (shown p) ∙ dated old t v p ∙ sym (ap (λ o. is_some (born_of o)) (shown p));
  }
    where
      old : Documents
      old = documents_in (by_id items)

      t : RevVec
      t = swept (by_id items)

      v : RevVec
      v = opened_at clusters (by_id items)

      all_of : (es : ById) → list_all (λ (e : DocId × Document). true) es ≡ true
      all_of [] = refl
      all_of (e ∷ es) = all_of es

      all_true : list_all (λ (e : DocId × Document). true) (by_id items) ≡ true
      all_true = all_of (by_id items)

      names : (q : Path) (d : Document) (x : Node) → true ≡ true → found_node old t v q ≡ Some x → is_sorted name_cmp x.props ≡ true
      names q d x _ h =
          let there = shown_there (by_id items) t v q x h in
          ap (is_sorted name_cmp) (found_props old t v q there.0 x there.1 h) ∙ props_sorted old t v (with_previous old q there.0)

      parents : (q : Path) (d : Document) (x : Node) → true ≡ true → found_node old t v q ≡ Some x → has_parent tree q ≡ true
      parents q d x _ h =
          let there = shown_there (by_id items) t v q x h in
          has_parent_at clusters high (by_id items) drawable rooted treed q there.0 there.1 (ap is_some h)

      root : is_some (node_at tree []) ≡ true
      root =
          let there = some_of (documents_in (by_id items) (id.Node [])) openable.root in
          first (is_some (node_at tree [])) (is_some (node_at tree system))
          (first (is_some (node_at tree []) && is_some (node_at tree system)) (is_some (node_at tree version_storage))
          (first (has_system tree) _ (found_keeps (λ e. keeps_tree (by_id items) t tree e.0 e.1) (by_id items) treed (id.Node []) there.0 there.1)))

  -- ---- previous documents

  of_previous : (p : Path) (d : Document) → documents_in (by_id items) (id.Node p) ≡ Some d → (e : PrevEntry) → IsIn e d.prev
      → (x : Document) → documents_in (by_id items) (id.Prev e.number p) ≡ Some x
      → (made : Document) → IsOpenedAs (by_id items) pin sessions d made
      → (made_x : Document) → IsOpenedAs (by_id items) pin sessions x made_x → made_x.id ≡ id.Prev e.number p
      → IsPrevious (course_from (shown_start clusters items) []) p made e.number made_x
  of_previous p d here e i x there made is made_x is_x named = record {
    named = named;
    plain = ap (λ (y : Document). y.deleted) is_x.made_is
        ∙ ap (filter (λ (z : Revision × Bool). stays_opened (by_id items) pin x z.0))
        (openable.plain x (found_among items (id.Prev e.number p) x there) e.number p (found_named items (id.Prev e.number p) x there));
    done = seen_there made_x x (id.Prev e.number p) there is_x;
    genuine = λ n r ws y h. absurd (false≢true (ap is_some h));
    behind = later;
  }
    where
      old : Documents
      old = documents_in (by_id items)

      t : RevVec
      t = swept (by_id items)

      v : RevVec
      v = opened_at clusters (by_id items)

      -- what is left is seen
      seen_there : (made : Document) (d : Document) (i : DocId) → documents_in (by_id items) i ≡ Some d → IsOpenedAs (by_id items) pin sessions d made
          → (n : Name) (r : Revision) → is_some (of_revision (values_of_property made.props n) r) ≡ true → sees v r ≡ true
      seen_there made d i h is n r entry = by (sees v r) refl
        where
          by : (b : Bool) → sees v r ≡ b → b ≡ true
          by true k = refl
          by false k = absurd (false≢true (sym (ap is_some
              (ap (λ es. of_revision es r) (value_kept (by_id items) pin sessions now opens ordered n i d made h is)
              ∙ filtered_none (stays_opened (by_id items) pin d) (values_of_property d.props n) r
              (ap (λ b. b && is_committed old t d r) k))) ∙ entry))

      later : (n : Name) (r : Revision) → is_some (of_revision (values_of_property made_x.props n) r) ≡ true
          → (q : Revision) × (is_before r q ≡ true) × (sees v q ≡ true) × (is_some (of_revision (values_of_property made.props n) q) ≡ true)
      later n r entry = by (latest_committed (by_id items) t d (values_of_property d.props n)) refl behind
        where
          stood : is_some (of_revision (values_of_property x.props n) r) ≡ true
          stood = filtered_there (stays_opened (by_id items) pin x) (values_of_property x.props n) r
              (ap (λ es. is_some (of_revision es r)) (sym (value_kept (by_id items) pin sessions now opens ordered n (id.Prev e.number p) x made_x there is_x)) ∙ entry)

          each : (es : List (Revision × Option Property)) (P : Revision → Bool) → list_all (λ y. P y.0) es ≡ true → is_some (of_revision es r) ≡ true → P r ≡ true
          each [] P all h = absurd (false≢true h)
          each (y ∷ es) P all h = at (eq_by_cmp revision_cmp r y.0) refl h (λ j. each es P (second _ _ all) j)
            where
              at : (b : Bool) → eq_by_cmp revision_cmp r y.0 ≡ b → is_some (cond b (Some y.1) (of_revision es r)) ≡ true → (is_some (of_revision es r) ≡ true → P r ≡ true) → P r ≡ true
              at true k j rest = subst (λ (z : Revision). P z ≡ true) (sym (same_revision r y.0 k)) (first _ _ all)
              at false k j rest = rest j

          behind : option_map_or (λ a. is_before r a.0) (latest_committed (by_id items) t d (values_of_property d.props n)) false ≡ true
          behind = each (values_of_property x.props n) (λ z. option_map_or (λ a. is_before z a.0) (latest_committed (by_id items) t d (values_of_property d.props n)) false)
              (behind_listed clusters high (by_id items) drawable rooted treed p d here e i x there n) stood

          by : (o : Option (Revision × Option Property)) → latest_committed (by_id items) t d (values_of_property d.props n) ≡ o
              → option_map_or (λ a. is_before r a.0) o false ≡ true
              → (q : Revision) × (is_before r q ≡ true) × (sees v q ≡ true) × (is_some (of_revision (values_of_property made.props n) q) ≡ true)
          by None h k = absurd (false≢true k)
          by (Some a) h k =
              let left : is_some (of_revision (values_of_property made.props n) a.0) ≡ true =
              ap (λ es. is_some (of_revision es a.0)) (value_kept (by_id items) pin sessions now opens ordered n (id.Node p) d made here is)
              ∙ latest_there _ a (latest_is clusters high (by_id items) drawable rooted treed p d here n ∙ h) in
              (a.0, k, seen_there made d (id.Node p) here is n a.0 left, left)

  -- a previous document that is there has what a listed one must have, and its number is below the document's
  pub previous_there : (p : Path) (made : Document) → now (id.Node p) ≡ Some made → (e : PrevEntry) → IsIn e made.prev
      → (e.number < made.mod_count)
      × ((x : Document) → now (id.Prev e.number p) ≡ Some x → IsPrevious (course_from (shown_start clusters items) []) p made e.number x)
  previous_there p made h e i = by (documents_in (by_id items) (id.Node p)) refl (opens (id.Node p))
    where
      Wanted : Type 0
      Wanted = (e.number < made.mod_count)
          × ((x : Document) → now (id.Prev e.number p) ≡ Some x → IsPrevious (course_from (shown_start clusters items) []) p made e.number x)

      raised : (n m k : ℕ) → nat_lt n m ≡ true → m ≤ k → n < k
      raised n m k low up = grind (arith, nat_tests)

      with_made : (d : Document) → documents_in (by_id items) (id.Node p) ≡ Some d → (made' : Document) → now (id.Node p) ≡ Some made'
          → IsOpenedAs (by_id items) pin sessions d made' → made' ≡ made → Wanted
      with_made d here made' there is same = (
        raised e.number d.mod_count made.mod_count
            (first (nat_lt e.number d.mod_count) _ (well_listed clusters high (by_id items) drawable rooted treed p d here e listed))
            (subst (λ (y : Document). d.mod_count ≤ y.mod_count) same is.higher),
        λ x k. found x k (documents_in (by_id items) (id.Prev e.number p)) refl (opens (id.Prev e.number p)),
      )
        where
          opened : IsOpenedAs (by_id items) pin sessions d made
          opened = subst (λ (y : Document). IsOpenedAs (by_id items) pin sessions d y) same is

          listed : IsIn e d.prev
          listed = subst (λ es. IsIn e es) (ap (λ (y : Document). y.prev) opened.made_is) i

          found : (x : Document) → now (id.Prev e.number p) ≡ Some x → (o : Option Document) → documents_in (by_id items) (id.Prev e.number p) ≡ o
              → Opens (by_id items) pin sessions o (now (id.Prev e.number p)) → IsPrevious (course_from (shown_start clusters items) []) p made e.number x
          found x k None j is = absurd (false≢true (ap is_some (sym is ∙ k)))
          found x k (Some y) j is =
              let one : is.0 ≡ x = ap (λ o. unwrap_or o x) (sym is.1 ∙ k) in
              of_previous p d here e listed y j made opened x
              (subst (λ (z : Document). IsOpenedAs (by_id items) pin sessions y z) one is.2) (named_as (id.Prev e.number p) x k)

      by : (o : Option Document) → documents_in (by_id items) (id.Node p) ≡ o → Opens (by_id items) pin sessions o (now (id.Node p)) → Wanted
      by None k is = absurd (false≢true (ap is_some (sym is ∙ h)))
      by (Some d) k is = with_made d k is.0 is.1 is.2 (ap (λ o. unwrap_or o made) (sym is.1 ∙ h))

  -- all of it together
  pub shows_start : ShowsStart (shown_start clusters items) now
  shows_start = record {
    first = first_tree;
    node = shows_nodes;
    prop = shows_properties;
    of_node = no_other_nodes;
    of_prop = no_other_values;
    unsaid = unsaid;
    no_root = rootless;
    named = λ p d h. named_as (id.Node p) d h;
    previous = λ p d h e i x there. (previous_there p d h e i).1 x there;
    numbers = λ p d h e i. (previous_there p d h e i).0;
  }
