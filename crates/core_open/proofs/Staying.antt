-- What stands at a path in the opened documents is what counted there before.
use Rattle.std.proofs.Common.{◌≡◌, ℕ, Bool, true, false, cond, ◌&&◌, ◌||◌, List, [], ◌∷◌, ◌++◌, Option, None, Some, refl, sym, ap, ◌∙◌, subst, is_some}
use Rattle.std.specs.List.{cons_option, filter, filter_map, flat_map}
use Rattle.std.specs.FinMap.{is_sorted}
use Rattle.std.specs.Option.{option_map_or}
use Rattle.jr_path.specs.Names.{name_cmp}
use Rattle.jr_path.specs.declared.name.Name.{Name}
use Rattle.jr_path.specs.declared.path.Path.{Path}
use Rattle.jr_path.specs.declared.path.DocId.{DocId}
use Rattle.jr_path.specs.declared.path.DocId.TheVariants as id
use Rattle.jr_value.specs.declared.value.Property.{Property}
use Rattle.jr_rev.specs.declared.revision.Revision.{Revision}
use Rattle.jr_rev.specs.declared.vector.Pin.{Pin}
use Rattle.jr_rev.specs.Vectors.{sees}
use Rattle.oak_doc.specs.declared.document.Document.{Document}
use Rattle.oak_doc.specs.declared.document.PrevEntry.{PrevEntry}
use Rattle.oak_doc.specs.Updates.{of_revision, values_of_property}
use Rattle.oak_read.specs.Meaning.{Documents, commit_root_of, counting, documents_in, entry_of, is_committed, latest}
use Rattle.oak_read.specs.Shown.{with_previous}
use Rattle.oak_sound.specs.Meant.{ById}
use Rattle.oak_open.specs.Opened.{stays_opened}
use Rattle.core_read.specs.Holds.{has_revision, root_entry}
use Rattle.core_keep.specs.Standing.{all_at, gone_in, values_in}
use Rattle.core_keep.proofs.Found.{filter-append}
use Rattle.core_open.proofs.Filtered.{filtered_again, filtered_none, values_left_at}
use Rattle.core_open.proofs.Lookups.{IsOpenedAs, Opens}

module _ (ds : ById) (pin : Pin) (sessions : ℕ) (now : Documents) (opens : (i : DocId) → Opens ds pin sessions (documents_in ds i) (now i)) where
  abbrev pub old : Documents
  old = documents_in ds

  -- what counts of a document
  abbrev pub counted : {X : Type 0} → (Document → List (Revision × X)) → Document → List (Revision × X)
  counted field d = counting (documents_in ds) pin.sweep pin.base field d

  module _ {X : Type 0} (field : Document → List (Revision × X))
      (kept : (i : DocId) (d made : Document) → documents_in ds i ≡ Some d → IsOpenedAs ds pin sessions d made → field made ≡ counted field d) where
    listed : (p : Path) (es : List PrevEntry) → flat_map field (filter_map (λ e. now (id.Prev e.number p)) es)
        ≡ flat_map (counted field) (filter_map (λ e. documents_in ds (id.Prev e.number p)) es)
    listed p [] = refl
    listed p (e ∷ es) = by (documents_in ds (id.Prev e.number p)) refl (opens (id.Prev e.number p)) (listed p es)
      where
        more : List Document
        more = filter_map (λ e. now (id.Prev e.number p)) es

        by : (o : Option Document) → documents_in ds (id.Prev e.number p) ≡ o → Opens ds pin sessions o (now (id.Prev e.number p))
            → flat_map field more ≡ flat_map (counted field) (filter_map (λ e. documents_in ds (id.Prev e.number p)) es)
            → flat_map field (cons_option (now (id.Prev e.number p)) more)
            ≡ flat_map (counted field) (cons_option o (filter_map (λ e. documents_in ds (id.Prev e.number p)) es))
        by None h is rest = ap (λ o. flat_map field (cons_option o more)) is ∙ rest
        by (Some d) h is rest =
            ap (λ o. flat_map field (cons_option o more)) is.1
            ∙ ap (λ l. l ++ flat_map field more) (kept (id.Prev e.number p) d is.0 h is.2)
            ∙ ap (λ l. counted field d ++ l) rest

    -- at a path stands just what counted there
    pub at_path : (p : Path) → flat_map field (all_at now p) ≡ flat_map (counted field) (all_at (documents_in ds) p)
    at_path p = by (documents_in ds (id.Node p)) refl (opens (id.Node p))
      where
        by : (o : Option Document) → documents_in ds (id.Node p) ≡ o → Opens ds pin sessions o (now (id.Node p))
            → flat_map field (all_at now p) ≡ flat_map (counted field) (option_map_or (with_previous (documents_in ds) p) o [])
        by None h is = ap (λ o. flat_map field (option_map_or (with_previous now p) o [])) is
        by (Some d) h is =
            ap (λ o. flat_map field (option_map_or (with_previous now p) o [])) is.1
            ∙ ap (λ l. l ++ flat_map field (filter_map (λ e. now (id.Prev e.number p)) is.0.prev)) (kept (id.Node p) d is.0 h is.2)
            ∙ ap (λ es. counted field d ++ flat_map field (filter_map (λ (e : PrevEntry). now (id.Prev e.number p)) es)) (ap (λ (x : Document). x.prev) is.2.made_is)
            ∙ ap (λ l. counted field d ++ l) (listed p d.prev)

    -- the base sees all of it
    pub seen_all : (all : List Document) → filter (λ e. sees pin.base e.0) (flat_map (counted field) all) ≡ flat_map (counted field) all
    seen_all [] = refl
    seen_all (d ∷ all) =
        filter-append (λ e. sees pin.base e.0) (counted field d) (flat_map (counted field) all)
        ∙ ap (λ l. l ++ filter (λ e. sees pin.base e.0) (flat_map (counted field) all)) (filtered_again (sees pin.base) (is_committed (documents_in ds) pin.sweep d) (field d))
        ∙ ap (λ l. counted field d ++ l) (seen_all all)

    pub seen_at : (p : Path) → filter (λ e. sees pin.base e.0) (flat_map field (all_at now p)) ≡ flat_map (counted field) (all_at (documents_in ds) p)
    seen_at p = ap (filter (λ e. sees pin.base e.0)) (at_path p) ∙ seen_all (all_at (documents_in ds) p)

    own_counts : (x : Document) → counting now pin.base pin.base field x ≡ filter (λ e. sees pin.base e.0) (field x)
    own_counts x = over (field x)
      where
        one : (b c : Bool) → (b && (b || c)) ≡ b
        one true c = refl
        one false c = refl

        over : (es : List (Revision × X)) → filter (λ e. sees pin.base e.0 && is_committed now pin.base x e.0) es ≡ filter (λ e. sees pin.base e.0) es
        over [] = refl
        over (e ∷ es) =
            ap (λ b. cond b (e ∷ filter (λ e. sees pin.base e.0 && is_committed now pin.base x e.0) es) (filter (λ e. sees pin.base e.0 && is_committed now pin.base x e.0) es))
            (one (sees pin.base e.0) (option_map_or (λ root. is_some (of_revision root.revisions e.0)) (now (commit_root_of x e.0)) false))
            ∙ ap (λ (l : List (Revision × X)). cond (sees pin.base e.0) (e ∷ l) l) (over es)

    own_counts_all : (all : List Document) → flat_map (counting now pin.base pin.base field) all ≡ filter (λ e. sees pin.base e.0) (flat_map field all)
    own_counts_all [] = refl
    own_counts_all (x ∷ all) =
        ap (λ l. l ++ flat_map (counting now pin.base pin.base field) all) (own_counts x)
        ∙ ap (λ l. filter (λ e. sees pin.base e.0) (field x) ++ l) (own_counts_all all)
        ∙ sym (filter-append (λ e. sees pin.base e.0) (field x) (flat_map field all))

    -- swept up to the base, they count what counted
    pub same_entry : (p : Path) → entry_of now pin.base pin.base field (all_at now p) ≡ entry_of (documents_in ds) pin.sweep pin.base field (all_at (documents_in ds) p)
    same_entry p = ap latest (own_counts_all (all_at now p) ∙ seen_at p)

    -- nothing of what the base doesn't see
    pub unseen_at : (p : Path) (r : Revision) → sees pin.base r ≡ false → of_revision (flat_map field (all_at now p)) r ≡ None
    unseen_at p r h =
        ap (λ es. of_revision es r) (at_path p ∙ sym (seen_at p))
        ∙ filtered_none (sees pin.base) (flat_map field (all_at now p)) r h

  -- of `_deleted`, and of the values of a property where names stand in order
  pub gone_kept : (i : DocId) (d made : Document) → documents_in ds i ≡ Some d → IsOpenedAs ds pin sessions d made
      → made.deleted ≡ counted (λ x. x.deleted) d
  gone_kept i d made h is = ap (λ (x : Document). x.deleted) is.made_is

  module _ (ordered : (i : DocId) (d : Document) → documents_in ds i ≡ Some d → is_sorted name_cmp d.props ≡ true) where
    pub value_kept : (n : Name) (i : DocId) (d made : Document) → documents_in ds i ≡ Some d → IsOpenedAs ds pin sessions d made
        → values_of_property made.props n ≡ counted (λ x. values_of_property x.props n) d
    value_kept n i d made h is =
        ap (λ (x : Document). values_of_property x.props n) is.made_is ∙ values_left_at (stays_opened ds pin d) n d.props (ordered i d h)

  -- statuses and commit roots that the base doesn't see are gone
  pub unsaid_at : (i : DocId) (r : Revision) → sees pin.base r ≡ false → has_revision (now i) r ≡ false
  unsaid_at i r h = by (documents_in ds i) (opens i)
    where
      by : (o : Option Document) → Opens ds pin sessions o (now i) → has_revision (now i) r ≡ false
      by None is = ap (λ o. has_revision o r) is
      by (Some d) is =
          ap (λ o. has_revision o r) is.1
          ∙ ap (λ (x : Document). is_some (of_revision x.revisions r)) is.2.made_is
          ∙ ap is_some (filtered_none (sees pin.base) d.revisions r h)

  pub rootless_at : (i : DocId) (r : Revision) → sees pin.base r ≡ false → root_entry (now i) r ≡ None
  rootless_at i r h = by (documents_in ds i) (opens i)
    where
      by : (o : Option Document) → Opens ds pin sessions o (now i) → root_entry (now i) r ≡ None
      by None is = ap (λ o. root_entry o r) is
      by (Some d) is =
          ap (λ o. root_entry o r) is.1
          ∙ ap (λ (x : Document). of_revision x.commit_root r) is.2.made_is
          ∙ filtered_none (stays_opened ds pin d) d.commit_root r (ap (λ b. b && is_committed (documents_in ds) pin.sweep d r) h)
