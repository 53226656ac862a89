-- Of a property the latest entry that counts stands in the node's own document, and of an absent node it is no value.
use Rattle.std.proofs.Common.{◌≡◌, ◌≤◌, inl, inr, ℕ, Bool, true, false, cond, not, ◌&&◌, ◌||◌, List, [], ◌∷◌, ◌++◌, Option, None, Some, refl, sym, ap, ◌∙◌, subst, is_some}
use Rattle.std.specs.Prelude.{nat_lt}
use Rattle.std.specs.Ordering.{eq_by_cmp}
use Rattle.std.specs.FinMap.{is_sorted}
use Rattle.std.specs.List.{cons_option, filter, filter_map, flat_map, list_all}
use Rattle.std.specs.Map.{keys_of, lookup}
use Rattle.std.specs.BTreeMap.{is_at}
use Rattle.std.specs.Option.{option_and_then, option_map_or, unwrap_or}
use Rattle.std.proofs.lemmas.Bool.{false≢true}
use Rattle.jr_path.specs.Names.{name_cmp}
use Rattle.jr_path.specs.declared.name.Name.{Name}
use Rattle.jr_path.specs.declared.path.Path.{Path}
use Rattle.jr_path.specs.declared.path.DocId.{DocId}
use Rattle.jr_path.specs.declared.path.DocId.TheVariants as id
use Rattle.jr_value.specs.declared.value.Property.{Property}
use Rattle.jr_rev.specs.declared.revision.Revision.{Revision}
use Rattle.jr_rev.specs.declared.vector.RevVec.{RevVec}
use Rattle.jr_rev.specs.Revisions.{is_before}
use Rattle.jr_rev.specs.Vectors.{sees}
use Rattle.jr_tree.specs.Trees.{Nodes, has_parent, node_at}
use Rattle.jr_tree.proofs.Proper.{same_name}
use Rattle.oak_doc.specs.declared.document.Document.{Document}
use Rattle.oak_doc.specs.declared.document.PrevEntry.{PrevEntry}
use Rattle.oak_doc.specs.Updates.{Props, of_revision, values_of_property}
use Rattle.oak_read.specs.Meaning.{counting, documents_in, entry_of, found_node, is_committed, latest}
use Rattle.oak_read.specs.Shown.{with_previous}
use Rattle.oak_sound.specs.Meant.{ById, opened_at, opened_tree, swept}
use Rattle.oak_sound.specs.Sound.{are_behind, has_later, has_no_values, has_system, is_value, is_well_listed, keeps_node, keeps_revisions, keeps_roots, keeps_tree, latest_committed}
use Rattle.oak_open.proofs.Shown.{shown_at}
use Rattle.core_read.specs.Told.{IsIn}
use Rattle.core_read.proofs.Entries.{both, first, second}
use Rattle.core_keep.specs.Standing.{all_at, shows_value}
use Rattle.core_keep.proofs.Found.{same_filter}
use Rattle.core_open.proofs.Filtered.{all_keys, filtered_all, latest_front}
use Rattle.core_open.proofs.Lookups.{found_keeps, holds_in}
use Rattle.core_open.proofs.Seen.{committed_seen}

-- what all properties have, those of a name have
values_have : (P : Name → List (Revision × Option Property) → Bool) (n : Name) (ps : Props) → list_all (λ p. P p.0 p.1) ps ≡ true
    → P n [] ≡ true → P n (values_of_property ps n) ≡ true
values_have P n [] all none = none
values_have P n (p ∷ ps) all none = by (eq_by_cmp name_cmp n p.0) refl (values_have P n ps (second _ _ all) none)
  where
    by : (b : Bool) → eq_by_cmp name_cmp n p.0 ≡ b → P n (values_of_property ps n) ≡ true → P n (unwrap_or (cond b (Some p.1) (lookup (is_at (name_cmp n)) ps)) []) ≡ true
    by true k rest = subst (λ (m : Name). P m p.1 ≡ true) (sym (same_name n p.0 k)) (first _ _ all)
    by false k rest = rest

module _ (clusters : ℕ) (high : clusters ≤ 8) (ds : ById)
    (drawable : list_all (λ e. keeps_revisions clusters e.1) ds ≡ true)
    (rooted : list_all (λ e. keeps_roots ds (swept ds) e.0 e.1) ds ≡ true)
    (treed : list_all (λ e. keeps_tree ds (swept ds) (opened_tree clusters ds) e.0 e.1) ds ≡ true) where
  abbrev t : RevVec
  t = swept ds

  abbrev v : RevVec
  v = opened_at clusters ds

  abbrev counts : {X : Type 0} → (Document → List (Revision × X)) → Document → List (Revision × X)
  counts field d = counting (documents_in ds) t v field d

  abbrev values : Name → Document → List (Revision × Option Property)
  values n d = values_of_property d.props n

  -- all that is committed of a property counts
  pub committed_counts : (i : DocId) (d : Document) → documents_in ds i ≡ Some d → (n : Name)
      → counts (values n) d ≡ filter (λ e. is_committed (documents_in ds) t d e.0) (values n d)
  committed_counts i d h n =
      same_filter (λ r. sees v r && is_committed (documents_in ds) t d r) (is_committed (documents_in ds) t d) (values n d)
      (λ r entry. by r entry (is_committed (documents_in ds) t d r) refl)
    where
      and_false : (b : Bool) → (b && false) ≡ false
      and_false true = refl
      and_false false = refl

      by : (r : Revision) → is_some (of_revision (values n d) r) ≡ true → (b : Bool) → is_committed (documents_in ds) t d r ≡ b → (sees v r && b) ≡ b
      by r entry true told = ap (λ s. s && true) (committed_seen clusters high ds drawable i d h n r entry told)
      by r entry false told = and_false (sees v r)

  -- what a node's document lists is well listed
  pub well_listed : (p : Path) (d : Document) → documents_in ds (id.Node p) ≡ Some d → (e : PrevEntry) → IsIn e d.prev
      → is_well_listed ds t p d e ≡ true
  well_listed p d h e i =
      holds_in (is_well_listed ds t p d) d.prev e
      (second _ _ (found_keeps (λ e. keeps_roots ds t e.0 e.1) ds rooted (id.Node p) d h)) i

  pub later_listed : (p : Path) (d : Document) → documents_in ds (id.Node p) ≡ Some d → (e : PrevEntry) → IsIn e d.prev
      → (x : Document) → documents_in ds (id.Prev e.number p) ≡ Some x → has_later ds t d x ≡ true
  later_listed p d h e i x there =
      sym (ap (λ o. option_map_or (has_later ds t d) o true) there) ∙ second _ _ (well_listed p d h e i)

  -- behind each value of a listed previous document there is a later committed one
  pub behind_listed : (p : Path) (d : Document) → documents_in ds (id.Node p) ≡ Some d → (e : PrevEntry) → IsIn e d.prev
      → (x : Document) → documents_in ds (id.Prev e.number p) ≡ Some x → (n : Name)
      → list_all (λ y. option_map_or (λ a. is_before y.0 a.0) (latest_committed ds t d (values n d)) false) (values n x) ≡ true
  behind_listed p d h e i x there n =
      all_keys (λ r. option_map_or (λ a. is_before r a.0) (latest_committed ds t d (values n d)) false) (values n x)
      (values_have (λ m es. are_behind ds t d (values m d) es) n x.props (second _ _ (later_listed p d h e i x there)) refl)

  module _ (p : Path) (d : Document) (h : documents_in ds (id.Node p) ≡ Some d) (n : Name) where
    abbrev latest_here : Option (Revision × Option Property)
    latest_here = latest (counts (values n) d)

    pub latest_is : latest_here ≡ latest_committed ds t d (values n d)
    latest_is = ap latest (committed_counts (id.Node p) d h n)

    abbrev is_behind : Revision × Option Property → Bool
    is_behind y = option_map_or (λ a. is_before y.0 a.0) latest_here false

    behind_previous : (es : List PrevEntry) → ((e : PrevEntry) → IsIn e es → IsIn e d.prev)
        → list_all is_behind (flat_map (counts (values n)) (filter_map (λ e. documents_in ds (id.Prev e.number p)) es)) ≡ true
    behind_previous [] within = refl
    behind_previous (e ∷ es) within =
        by (documents_in ds (id.Prev e.number p)) refl (behind_previous es (λ f i. within f (inr i)))
      where
        more : List Document
        more = filter_map (λ e. documents_in ds (id.Prev e.number p)) es

        joined : (xs ys : List (Revision × Option Property)) → list_all is_behind xs ≡ true → list_all is_behind ys ≡ true
            → list_all is_behind (xs ++ ys) ≡ true
        joined [] ys k l = l
        joined (x ∷ xs) ys k l = both _ _ (first _ _ k) (joined xs ys (second _ _ k) l)

        by : (o : Option Document) → documents_in ds (id.Prev e.number p) ≡ o
            → list_all is_behind (flat_map (counts (values n)) more) ≡ true
            → list_all is_behind (flat_map (counts (values n)) (cons_option o more)) ≡ true
        by None there rest = rest
        by (Some x) there rest =
            joined (counts (values n) x) (flat_map (counts (values n)) more)
            (filtered_all is_behind (λ y. sees v y.0 && is_committed (documents_in ds) t x y.0) (values n x)
            (subst (λ o. list_all (λ y. option_map_or (λ a. is_before y.0 a.0) o false) (values n x) ≡ true) (sym latest_is)
            (behind_listed p d h e (within e (inl refl)) x there n))) rest

    -- over all documents of the path the latest is the own one
    pub own_latest : entry_of (documents_in ds) t v (values n) (with_previous (documents_in ds) p d) ≡ latest_committed ds t d (values n d)
    own_latest =
        latest_front (counts (values n) d) (flat_map (counts (values n)) (filter_map (λ e. documents_in ds (id.Prev e.number p)) d.prev))
        (behind_previous d.prev (λ e i. i))
        ∙ latest_is

  -- ---- the rule of the tree

  node_rule : (p : Path) (d : Document) → keeps_tree ds t (opened_tree clusters ds) (id.Node p) d ≡ true
      → keeps_node ds t (opened_tree clusters ds) p d ≡ true
  node_rule [] d h = second (has_system (opened_tree clusters ds)) _ h
  node_rule (n ∷ p) d h = h

  pub keeps_at : (p : Path) (d : Document) → documents_in ds (id.Node p) ≡ Some d → keeps_node ds t (opened_tree clusters ds) p d ≡ true
  keeps_at p d h = node_rule p d (found_keeps (λ e. keeps_tree ds t (opened_tree clusters ds) e.0 e.1) ds treed (id.Node p) d h)

  pub has_parent_at : (p : Path) (d : Document) → documents_in ds (id.Node p) ≡ Some d
      → is_some (found_node (documents_in ds) t v p) ≡ true → has_parent (opened_tree clusters ds) p ≡ true
  has_parent_at p d h there =
      sym (ap (λ b. cond b (has_parent (opened_tree clusters ds) p) (has_no_values ds t d)) (ap is_some (shown_at ds t v p) ∙ there)) ∙ keeps_at p d h

  valueless : (o : Option (Revision × Option Property)) → not (is_value o) ≡ true → option_and_then shows_value o ≡ None
  valueless None k = refl
  valueless (Some (r, None)) k = refl
  valueless (Some (r, Some x)) k = absurd (false≢true k)

  -- an absent node shows no value
  pub absent_shows_none : (p : Path) → found_node (documents_in ds) t v p ≡ None → (n : Name)
      → option_and_then shows_value (entry_of (documents_in ds) t v (values n) (all_at (documents_in ds) p)) ≡ None
  absent_shows_none p none n = by (documents_in ds (id.Node p)) refl
    where
      by : (o : Option Document) → documents_in ds (id.Node p) ≡ o
          → option_and_then shows_value (entry_of (documents_in ds) t v (values n) (option_map_or (with_previous (documents_in ds) p) o [])) ≡ None
      by None h = refl
      by (Some d) h =
          ap (option_and_then shows_value) (own_latest p d h n)
          ∙ valueless (latest_committed ds t d (values n d))
          (values_have (λ m es. not (is_value (latest_committed ds t d es))) n d.props
          (sym (ap (λ b. cond b (has_parent (opened_tree clusters ds) p) (has_no_values ds t d)) (ap is_some (shown_at ds t v p ∙ none))) ∙ keeps_at p d h)
          refl)
