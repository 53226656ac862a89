-- A document whose garbage was dropped has none, nor do the previous documents that it still lists.
use Rattle.std.proofs.Common.{◌≡◌, ◌⊎◌, inl, inr, ℕ, Bool, true, false, cond, ◌&&◌, ◌||◌, List, [], ◌∷◌, ◌++◌, Option, None, Some, length, map, fold, refl, sym, ap, ◌∙◌, subst}
use Rattle.std.specs.Prelude.{not, ◌==◌}
use Rattle.std.specs.Option.{option_map_or, unwrap_or}
use Rattle.std.specs.List.{AllByRecursion, filter, flat_map, list_all, list_any}
use Rattle.std.specs.List.Sorted.{IsStrictlySortedBy}
use Rattle.std.specs.Map.{keys_of, lookup, remove_entry}
use Rattle.std.specs.BTreeMap.{insert_entry, is_at}
use Rattle.std.specs.Ordering.{eq_by_cmp, is_eq, match_ordering}
use Rattle.std.specs.declared.cmp.Ordering.{Ordering}
use Rattle.std.specs.declared.cmp.Ordering.TheVariants.{Less, Equal, Greater}
use Rattle.std.proofs.lemmas.Bool.{and_from, and_parts, false≢true}
use Rattle.std.proofs.lemmas.Cmp.{nat_list_cmp_total}
use Rattle.std.proofs.lemmas.List.Folds.{list_any-append}
use Rattle.basics.proofs.Bools.{first_of_both, number_itself}
use Rattle.basics.proofs.Lists.{all_joined}
use Rattle.jr_path.proofs.Maps.{lookup-insert_entry, name_exact}
use Rattle.jr_path.proofs.Orders.{tested}
use Rattle.jr_path.specs.Names.{name_cmp}
use Rattle.jr_path.specs.declared.name.Name.{Name}
use Rattle.jr_path.specs.declared.path.DocId.TheVariants.{Prev}
use Rattle.jr_value.specs.declared.value.Property.{Property}
use Rattle.jr_rev.proofs.Order.{same_revision}
use Rattle.jr_rev.specs.declared.revision.Revision.{Revision}
use Rattle.jr_rev.specs.declared.vector.RevVec.{RevVec}
use Rattle.jr_rev.specs.Revisions.{is_before, is_same}
use Rattle.jr_rev.specs.Vectors.{sees}
use Rattle.oak_doc.specs.declared.document.Document.{Document}
use Rattle.oak_doc.specs.declared.document.PrevEntry.{PrevEntry}
use Rattle.oak_doc.specs.declared.update.Change.TheVariants as change
use Rattle.oak_doc.specs.declared.update.EntryKey.{EntryKey}
use Rattle.oak_doc.specs.declared.update.Field.{Field}
use Rattle.oak_doc.specs.declared.update.Field.TheVariants as field
use Rattle.oak_doc.specs.Updates.{Props, after_changes, changed, pruned, values_of_property, with_values, without_revision}
use Rattle.oak_gc.proofs.Left.{leaves_no_garbage}
use Rattle.oak_gc.proofs.Ordered.{lookup_removed, sorted_put, sorted_removed}
use Rattle.oak_gc.specs.Garbage.{are_superseded, garbage_in, garbage_listed, has_garbage, is_absent, is_garbage_document, is_garbage_listed, is_garbage_previous, is_superseded, keys_where, pruning, revisions_kept}
use Rattle.oak_read.proofs.Walking.{all_both, all_of}
use Rattle.oak_read.specs.Meaning.{Documents, latest, path_of}
use Rattle.oak_clean.proofs.Entries.{all_before, all_filter, any_before, at_most_latest, joined, latest_kept, list_all_more, none_later}

abbrev IsSorted : Document → Type 0
IsSorted d = IsStrictlySortedBy name_cmp (keys_of d.props)

-- ---- what is so of one more is so before

module _ (m : RevVec) where
  abbrev props_kept : Props → List Revision
  props_kept ps = flat_map (λ p. keys_of p.1) ps

  props_removed : (n : Name) (ps : Props) → list_all (sees m) (keys_of (values_of_property ps n)) ≡ true → list_all (sees m) (props_kept (remove_entry (is_at (name_cmp n)) ps)) ≡ true → list_all (sees m) (props_kept ps) ≡ true
  props_removed n [] h k = k
  props_removed n (p ∷ ps) h k = by (is_eq (name_cmp n p.0)) h k (props_removed n ps)
    where
      by : (b : Bool) → list_all (sees m) (keys_of (unwrap_or (cond b (Some p.1) (lookup (is_at (name_cmp n)) ps)) [])) ≡ true → list_all (sees m) (props_kept (cond b ps (p ∷ remove_entry (is_at (name_cmp n)) ps))) ≡ true
          → (list_all (sees m) (keys_of (values_of_property ps n)) ≡ true → list_all (sees m) (props_kept (remove_entry (is_at (name_cmp n)) ps)) ≡ true → list_all (sees m) (props_kept ps) ≡ true)
          → list_all (sees m) (props_kept (p ∷ ps)) ≡ true
      by true h' k' rest = all_joined (sees m) (keys_of p.1) (props_kept ps) h' k'
      by false h' k' rest = joined (sees m) (keys_of p.1) (keys_of p.1) (props_kept ps) (props_kept (remove_entry (is_at (name_cmp n)) ps)) (λ g. g) (rest h') k'

  props_put : (n : Name) (vs : List (Revision × Option Property)) (ps : Props) → (list_all (sees m) (keys_of vs) ≡ true → list_all (sees m) (keys_of (values_of_property ps n)) ≡ true) → list_all (sees m) (props_kept (insert_entry name_cmp ps n vs)) ≡ true → list_all (sees m) (props_kept ps) ≡ true
  props_put n vs [] h k = refl
  props_put n vs (p ∷ ps) h k = by (name_cmp n p.0) h k (props_put n vs ps)
    where
      by : (c : Ordering) → (list_all (sees m) (keys_of vs) ≡ true → list_all (sees m) (keys_of (unwrap_or (cond (is_eq c) (Some p.1) (lookup (is_at (name_cmp n)) ps)) [])) ≡ true)
          → list_all (sees m) (props_kept (match_ordering c ((n, vs) ∷ p ∷ ps) ((p.0, vs) ∷ ps) (p ∷ insert_entry name_cmp ps n vs))) ≡ true
          → ((list_all (sees m) (keys_of vs) ≡ true → list_all (sees m) (keys_of (values_of_property ps n)) ≡ true) → list_all (sees m) (props_kept (insert_entry name_cmp ps n vs)) ≡ true → list_all (sees m) (props_kept ps) ≡ true)
          → list_all (sees m) (props_kept (p ∷ ps)) ≡ true
      by Less h' k' rest = (and_parts (list_all (sees m) (keys_of vs)) (list_all (sees m) (props_kept (p ∷ ps))) (sym (Rattle.std.proofs.lemmas.List.Folds.list_all-append (sees m) (keys_of vs) (props_kept (p ∷ ps))) ∙ k')).1
      by Equal h' k' rest = joined (sees m) (keys_of p.1) (keys_of vs) (props_kept ps) (props_kept ps) h' (λ g. g) k'
      by Greater h' k' rest = joined (sees m) (keys_of p.1) (keys_of p.1) (props_kept ps) (props_kept (insert_entry name_cmp ps n vs)) (λ g. g) (rest h') k'

  props_before : (n : Name) (r : Revision) → sees m r ≡ true → (ps : Props) → list_all (sees m) (props_kept (with_values ps n (without_revision r (values_of_property ps n)))) ≡ true → list_all (sees m) (props_kept ps) ≡ true
  props_before n r seen ps = by (without_revision r (values_of_property ps n)) (all_before (sees m) r seen (values_of_property ps n))
    where
      by : (vs : List (Revision × Option Property)) → (list_all (sees m) (keys_of vs) ≡ true → list_all (sees m) (keys_of (values_of_property ps n)) ≡ true) → list_all (sees m) (props_kept (with_values ps n vs)) ≡ true → list_all (sees m) (props_kept ps) ≡ true
      by [] h k = props_removed n ps (h refl) k
      by (v ∷ vs) h k = props_put n (v ∷ vs) ps h k

  -- what a document keeps, up to a field
  abbrev to_roots : Document → List Revision
  to_roots d = keys_of d.deleted ++ keys_of d.commit_root

  abbrev to_revisions : Document → List Revision
  to_revisions d = to_roots d ++ keys_of d.revisions

  abbrev to_collisions : Document → List Revision
  to_collisions d = to_revisions d ++ keys_of d.collisions

  abbrev to_touched : Document → List Revision
  to_touched d = to_collisions d ++ keys_of d.touched

  abbrev to_guard : Document → List Revision
  to_guard d = to_touched d ++ keys_of d.guard

  -- all that one document keeps is seen, where all that another keeps is, field by field
  kept_before : (d e : Document) → (list_all (sees m) (keys_of e.deleted) ≡ true → list_all (sees m) (keys_of d.deleted) ≡ true) → (list_all (sees m) (keys_of e.commit_root) ≡ true → list_all (sees m) (keys_of d.commit_root) ≡ true)
      → (list_all (sees m) (keys_of e.revisions) ≡ true → list_all (sees m) (keys_of d.revisions) ≡ true) → (list_all (sees m) (keys_of e.collisions) ≡ true → list_all (sees m) (keys_of d.collisions) ≡ true)
      → (list_all (sees m) (keys_of e.touched) ≡ true → list_all (sees m) (keys_of d.touched) ≡ true) → (list_all (sees m) (keys_of e.guard) ≡ true → list_all (sees m) (keys_of d.guard) ≡ true)
      → (list_all (sees m) (props_kept e.props) ≡ true → list_all (sees m) (props_kept d.props) ≡ true) → list_all (sees m) (revisions_kept e) ≡ true → list_all (sees m) (revisions_kept d) ≡ true
  kept_before d e deleted roots revisions collisions touched guard props =
      joined (sees m) (to_guard d) (to_guard e) (props_kept d.props) (props_kept e.props)
      (joined (sees m) (to_touched d) (to_touched e) (keys_of d.guard) (keys_of e.guard)
      (joined (sees m) (to_collisions d) (to_collisions e) (keys_of d.touched) (keys_of e.touched)
      (joined (sees m) (to_revisions d) (to_revisions e) (keys_of d.collisions) (keys_of e.collisions)
      (joined (sees m) (to_roots d) (to_roots e) (keys_of d.revisions) (keys_of e.revisions)
      (joined (sees m) (keys_of d.deleted) (keys_of e.deleted) (keys_of d.commit_root) (keys_of e.commit_root) deleted roots) revisions) collisions) touched) guard) props

-- ---- what garbage leaves

module _ (m t : RevVec) (within : (r : Revision) → sees t r ≡ true → sees m r ≡ true) (old : Document) where
  -- an entry that may be dropped: m sees it, t a status, and of `_deleted` it isn't the latest that m sees
  abbrev MayGo : Field → Revision → Type 0
  MayGo field.Deleted r = (sees m r ≡ true) × ((e : Revision × Bool) → latest (filter (λ e. sees m e.0) old.deleted) ≡ Some e → is_same r e.0 ≡ false)
  MayGo field.Revisions r = (sees t r ≡ true) × (sees m r ≡ true)
  MayGo _ r = sees m r ≡ true

  abbrev AllMayGo : List EntryKey → Type 0
  AllMayGo ks = AllByRecursion (λ k. MayGo k.field k.revision) ks

  keys_may_go : {X : Type 0} (f : Field) (test : Revision → Bool) → ((r : Revision) → test r ≡ true → MayGo f r) → (es : List (Revision × X)) → AllMayGo (keys_where test f es)
  keys_may_go f test may [] = tt
  keys_may_go f test may (e ∷ es) = by (test e.0) refl (keys_may_go f test may es)
    where
      by : (b : Bool) → test e.0 ≡ b → AllMayGo (keys_where test f es) → AllMayGo (map (λ e. record { field = f; revision = e.0 }) (cond b (e ∷ filter (λ e. test e.0) es) (filter (λ e. test e.0) es)))
      by true is rest = (may e.0 is, rest)
      by false is rest = rest

  props_may_go : (ps : Props) → AllMayGo (flat_map (λ p. keys_where (is_superseded m t (keys_of p.1)) (field.Prop p.0) p.1) ps)
  props_may_go [] = tt
  props_may_go (p ∷ ps) =
      all_both (λ k. MayGo k.field k.revision) (keys_where (is_superseded m t (keys_of p.1)) (field.Prop p.0) p.1) (flat_map (λ p. keys_where (is_superseded m t (keys_of p.1)) (field.Prop p.0) p.1) ps)
      (keys_may_go (field.Prop p.0) (is_superseded m t (keys_of p.1)) (λ r h. first_of_both (sees m r) _ h) p.1) (props_may_go ps)

  superseded_may_go : (r : Revision) → is_superseded m t (keys_of old.deleted) r ≡ true → MayGo field.Deleted r
  superseded_may_go r h = (first_of_both (sees m r) _ h, λ e is. by e is (is_same r e.0) refl)
    where
      by : (e : Revision × Bool) → latest (filter (λ e. sees m e.0) old.deleted) ≡ Some e → (b : Bool) → is_same r e.0 ≡ b → b ≡ false
      by e is false same = refl
      by e is true same =
          let none = none_later (sees m) (sees t) e.0 old.deleted (at_most_latest (filter (λ e. sees m e.0) old.deleted) e is) in
          let some = (and_parts (sees m r) (list_any (λ q. is_before r q && sees m q && sees t q) (keys_of old.deleted)) h).1 in
          absurd (false≢true (sym none ∙ subst (λ (r : Revision). list_any (λ q. is_before r q && sees m q && sees t q) (keys_of old.deleted) ≡ true) (same_revision r e.0 same) some))

  -- both of two lists of keys
  both_may_go : (ks ls : List EntryKey) → AllMayGo ks → AllMayGo ls → AllMayGo (ks ++ ls)
  both_may_go ks ls h k = all_both (λ k. MayGo k.field k.revision) ks ls h k

  abbrev deleted_keys : List EntryKey
  deleted_keys = keys_where (is_superseded m t (keys_of old.deleted)) field.Deleted old.deleted

  abbrev root_keys : List EntryKey
  root_keys = keys_where (sees t) field.CommitRoot old.commit_root

  abbrev revision_keys : List EntryKey
  revision_keys = keys_where (sees t) field.Revisions old.revisions

  abbrev collision_keys : List EntryKey
  collision_keys = keys_where (sees m) field.Collisions old.collisions

  abbrev touched_keys : List EntryKey
  touched_keys = keys_where (sees m) field.Touched old.touched

  abbrev guard_keys : List EntryKey
  guard_keys = keys_where (sees m) field.Guard old.guard

  abbrev value_keys : List EntryKey
  value_keys = flat_map (λ p. keys_where (is_superseded m t (keys_of p.1)) (field.Prop p.0) p.1) old.props

  all_may_go : AllMayGo (garbage_in m t old)
  all_may_go =
      both_may_go (deleted_keys ++ root_keys ++ revision_keys ++ collision_keys ++ touched_keys ++ guard_keys) value_keys
      (both_may_go (deleted_keys ++ root_keys ++ revision_keys ++ collision_keys ++ touched_keys) guard_keys
      (both_may_go (deleted_keys ++ root_keys ++ revision_keys ++ collision_keys) touched_keys
      (both_may_go (deleted_keys ++ root_keys ++ revision_keys) collision_keys
      (both_may_go (deleted_keys ++ root_keys) revision_keys
      (both_may_go deleted_keys root_keys (keys_may_go field.Deleted (is_superseded m t (keys_of old.deleted)) superseded_may_go old.deleted) (keys_may_go field.CommitRoot (sees t) within old.commit_root))
      (keys_may_go field.Revisions (sees t) (λ r h. (h, within r h)) old.revisions))
      (keys_may_go field.Collisions (sees m) (λ r h. h) old.collisions))
      (keys_may_go field.Touched (sees m) (λ r h. h) old.touched))
      (keys_may_go field.Guard (sees m) (λ r h. h) old.guard))
      (props_may_go old.props)

  -- a document that the old one becomes while its garbage is dropped
  record IsLeft (d : Document) : Type 0 where
    latest_is : (e : Revision × Bool) → latest (filter (λ e. sees m e.0) old.deleted) ≡ Some e → latest (filter (λ e. sees m e.0) d.deleted) ≡ Some e
    kept : list_all (sees m) (revisions_kept d) ≡ true → list_all (sees m) (revisions_kept old) ≡ true
    swept : list_all (sees t) (keys_of d.revisions) ≡ true → list_all (sees t) (keys_of old.revisions) ≡ true

  one_left : (d : Document) (f : Field) (r : Revision) → MayGo f r → IsLeft d → IsLeft (pruned d (record { field = f; revision = r }))
  one_left d field.Deleted r may is = record {
    latest_is = λ e at. latest_kept (sees m) r d.deleted e (is.latest_is e at) (may.1 e at);
    kept = λ h. is.kept (kept_before m d (pruned d (record { field = field.Deleted; revision = r })) (all_before (sees m) r may.0 d.deleted) (λ g. g) (λ g. g) (λ g. g) (λ g. g) (λ g. g) (λ g. g) h);
    swept = is.swept;
  }
  one_left d field.CommitRoot r may is = record {
    latest_is = is.latest_is;
    kept = λ h. is.kept (kept_before m d (pruned d (record { field = field.CommitRoot; revision = r })) (λ g. g) (all_before (sees m) r may d.commit_root) (λ g. g) (λ g. g) (λ g. g) (λ g. g) (λ g. g) h);
    swept = is.swept;
  }
  one_left d field.Revisions r may is = record {
    latest_is = is.latest_is;
    kept = λ h. is.kept (kept_before m d (pruned d (record { field = field.Revisions; revision = r })) (λ g. g) (λ g. g) (all_before (sees m) r may.1 d.revisions) (λ g. g) (λ g. g) (λ g. g) (λ g. g) h);
    swept = λ h. is.swept (all_before (sees t) r may.0 d.revisions h);
  }
  one_left d field.Collisions r may is = record {
    latest_is = is.latest_is;
    kept = λ h. is.kept (kept_before m d (pruned d (record { field = field.Collisions; revision = r })) (λ g. g) (λ g. g) (λ g. g) (all_before (sees m) r may d.collisions) (λ g. g) (λ g. g) (λ g. g) h);
    swept = is.swept;
  }
  one_left d field.Touched r may is = record {
    latest_is = is.latest_is;
    kept = λ h. is.kept (kept_before m d (pruned d (record { field = field.Touched; revision = r })) (λ g. g) (λ g. g) (λ g. g) (λ g. g) (all_before (sees m) r may d.touched) (λ g. g) (λ g. g) h);
    swept = is.swept;
  }
  one_left d field.Guard r may is = record {
    latest_is = is.latest_is;
    kept = λ h. is.kept (kept_before m d (pruned d (record { field = field.Guard; revision = r })) (λ g. g) (λ g. g) (λ g. g) (λ g. g) (λ g. g) (all_before (sees m) r may d.guard) (λ g. g) h);
    swept = is.swept;
  }
  one_left d (field.Prop n) r may is = record {
    latest_is = is.latest_is;
    kept = λ h. is.kept (kept_before m d (pruned d (record { field = field.Prop n; revision = r })) (λ g. g) (λ g. g) (λ g. g) (λ g. g) (λ g. g) (λ g. g) (props_before m n r may d.props) h);
    swept = is.swept;
  }

  all_left : (ks : List EntryKey) (d : Document) → AllMayGo ks → IsLeft d → IsLeft (fold pruned d ks)
  all_left [] d may is = is
  all_left (k ∷ ks) d may is = all_left ks (pruned d k) may.1 (one_left d k.field k.revision may.0 is)

  unlisted_left : (ns : List ℕ) (d : Document) → IsLeft d → IsLeft (fold changed d (map change.Unlist ns))
  unlisted_left [] d is = is
  unlisted_left (n ∷ ns) d is = unlisted_left ns (changed d (change.Unlist n)) (record { latest_is = is.latest_is; kept = is.kept; swept = is.swept })

  module _ (ns : List ℕ) (number : ℕ) where
    abbrev new : Document
    new = after_changes (Some old) (pruning m t old ns) number

    new_left : IsLeft new
    new_left =
        let itself : IsLeft old = record { latest_is = λ e h. h; kept = λ h. h; swept = λ h. h } in
        let is = unlisted_left ns (fold pruned old (garbage_in m t old)) (all_left (garbage_in m t old) old all_may_go itself) in
        record { latest_is = is.latest_is; kept = is.kept; swept = is.swept }

    was_absent : is_absent m t new ≡ true → is_absent m t old ≡ true
    was_absent h = by (latest (filter (λ e. sees m e.0) old.deleted)) refl
      where
        by : (o : Option (Revision × Bool)) → latest (filter (λ e. sees m e.0) old.deleted) ≡ o → option_map_or (λ e. e.1) o true ≡ true
        by None is = refl
        by (Some e) is = sym (ap (λ o. option_map_or (λ (e : Revision × Bool). e.1) o true) (new_left.latest_is e is)) ∙ h

    -- it is no garbage where the old one isn't
    no_garbage_document : is_garbage_document m t old ≡ false → is_garbage_document m t new ≡ false
    no_garbage_document alive = by (is_garbage_document m t new) refl
      where
        by : (b : Bool) → is_garbage_document m t new ≡ b → b ≡ false
        by false is = refl
        by true is =
            let front = and_parts (is_absent m t new && list_all (sees m) (revisions_kept new)) (list_all (sees t) (keys_of new.revisions)) is in
            let both = and_parts (is_absent m t new) (list_all (sees m) (revisions_kept new)) front.0 in
            absurd (false≢true (sym alive ∙ and_from _ _ (and_from _ _ (was_absent both.0) (new_left.kept both.1)) (new_left.swept front.1)))

-- ---- what a pruned document supersedes

abbrev values_put : Props → Name → Revision → Props
values_put ps n r = with_values ps n (without_revision r (values_of_property ps n))

put_sorted : (ps : Props) (n : Name) (vs : List (Revision × Option Property)) → IsStrictlySortedBy name_cmp (keys_of ps) → IsStrictlySortedBy name_cmp (keys_of (with_values ps n vs))
put_sorted ps n [] sorted = sorted_removed name_cmp nat_list_cmp_total name_exact n ps sorted
put_sorted ps n (v ∷ vs) sorted = sorted_put name_cmp nat_list_cmp_total name_exact n (v ∷ vs) ps sorted

value_at : (ps : Props) (n k : Name) (vs : List (Revision × Option Property)) → IsStrictlySortedBy name_cmp (keys_of ps) → values_of_property (with_values ps n vs) k ≡ cond (eq_by_cmp name_cmp k n) vs (values_of_property ps k)
value_at ps n k [] sorted = ap (λ o. unwrap_or o []) (lookup_removed name_cmp nat_list_cmp_total name_exact n k ps sorted) ∙ by (eq_by_cmp name_cmp k n)
  where
    by : (b : Bool) → unwrap_or (cond b None (lookup (is_at (name_cmp k)) ps)) [] ≡ cond b [] (values_of_property ps k)
    by true = refl
    by false = refl
value_at ps n k (v ∷ vs) sorted = ap (λ o. unwrap_or o []) (lookup-insert_entry name_cmp nat_list_cmp_total k n (v ∷ vs) ps) ∙ by (eq_by_cmp name_cmp k n)
  where
    by : (b : Bool) → unwrap_or (cond b (Some (v ∷ vs)) (lookup (is_at (name_cmp k)) ps)) [] ≡ cond b (v ∷ vs) (values_of_property ps k)
    by true = refl
    by false = refl

-- a value that stands in one document stands in another
abbrev StandsIn : Document → Document → Type 0
StandsIn new old = (test : Revision → Bool) (n : Name) → list_any test (keys_of (values_of_property new.props n)) ≡ true → list_any test (keys_of (values_of_property old.props n)) ≡ true

one_stands : (d : Document) (f : Field) (r : Revision) → IsSorted d → StandsIn (pruned d (record { field = f; revision = r })) d × IsSorted (pruned d (record { field = f; revision = r }))
one_stands d field.Deleted r sorted = (λ test n h. h, sorted)
one_stands d field.CommitRoot r sorted = (λ test n h. h, sorted)
one_stands d field.Revisions r sorted = (λ test n h. h, sorted)
one_stands d field.Collisions r sorted = (λ test n h. h, sorted)
one_stands d field.Touched r sorted = (λ test n h. h, sorted)
one_stands d field.Guard r sorted = (λ test n h. h, sorted)
one_stands d (field.Prop k) r sorted = (stands, put_sorted d.props k (without_revision r (values_of_property d.props k)) sorted)
  where
    stands : (test : Revision → Bool) (n : Name) → list_any test (keys_of (values_of_property (values_put d.props k r) n)) ≡ true → list_any test (keys_of (values_of_property d.props n)) ≡ true
    stands test n h = by (eq_by_cmp name_cmp n k) refl (sym (ap (λ (vs : List (Revision × Option Property)). list_any test (keys_of vs)) (value_at d.props k n (without_revision r (values_of_property d.props k)) sorted)) ∙ h)
      where
        by : (b : Bool) → eq_by_cmp name_cmp n k ≡ b → list_any test (keys_of (cond b (without_revision r (values_of_property d.props k)) (values_of_property d.props n))) ≡ true → list_any test (keys_of (values_of_property d.props n)) ≡ true
        by true is h' = subst (λ (k : Name). list_any test (keys_of (values_of_property d.props k)) ≡ true) (sym ((tested nat_list_cmp_total name_exact n k).0 is)) (any_before test r (values_of_property d.props k) h')
        by false is h' = h'

all_stand : (ks : List EntryKey) (d : Document) → IsSorted d → StandsIn (fold pruned d ks) d
all_stand [] d sorted = λ test n h. h
all_stand (k ∷ ks) d sorted = let one = one_stands d k.field k.revision sorted in λ test n h. one.0 test n (all_stand ks (pruned d k) one.1 test n h)

unlisted_stand : (ns : List ℕ) (d : Document) → StandsIn (fold changed d (map change.Unlist ns)) d
unlisted_stand [] d = λ test n h. h
unlisted_stand (n ∷ ns) d = unlisted_stand ns (changed d (change.Unlist n))

module _ (m t : RevVec) where
  -- what a document supersedes, one in which more stands does
  superseded_more : (rs qs ks : List Revision) → ((test : Revision → Bool) → list_any test rs ≡ true → list_any test qs ≡ true) → (r : Revision) → is_superseded m t (rs ++ ks) r ≡ true → is_superseded m t (qs ++ ks) r ≡ true
  superseded_more rs qs ks more r h =
      let p = and_parts (sees m r) (list_any later (rs ++ ks)) h in
      and_from _ _ p.0 (list_any-append later qs ks ∙ either (list_any later rs) (list_any later qs) (list_any later ks) (more later) (sym (list_any-append later rs ks) ∙ p.1))
    where
      later : Revision → Bool
      later q = is_before r q && sees m q && sees t q

      either : (a b c : Bool) → (a ≡ true → b ≡ true) → (a || c) ≡ true → (b || c) ≡ true
      either true b c f g = ap (λ a. a || c) (f refl)
      either false true c f g = refl
      either false false c f g = g

  previous_more : (new old previous : Document) → StandsIn new old → is_garbage_previous m t new previous ≡ true → is_garbage_previous m t old previous ≡ true
  previous_more new old previous stands h =
      let p = and_parts (list_all (λ e. sees t e.0) previous.commit_root) (list_all (are_superseded m t new) previous.props) h in
      and_from _ _ p.0
      (list_all_more (are_superseded m t new) (are_superseded m t old)
      (λ p. list_all_more (is_superseded m t (keys_of (values_of_property new.props p.0) ++ keys_of p.1)) (is_superseded m t (keys_of (values_of_property old.props p.0) ++ keys_of p.1))
      (superseded_more (keys_of (values_of_property new.props p.0)) (keys_of (values_of_property old.props p.0)) (keys_of p.1) (λ test. stands test p.0)) (keys_of p.1)) previous.props p.1)

-- ---- what a pruned document lists

prune_same : (d : Document) (f : Field) (r : Revision) → ((pruned d (record { field = f; revision = r })).id ≡ d.id) × ((pruned d (record { field = f; revision = r })).prev ≡ d.prev)
prune_same d field.Deleted r = (refl, refl)
prune_same d field.CommitRoot r = (refl, refl)
prune_same d field.Revisions r = (refl, refl)
prune_same d field.Collisions r = (refl, refl)
prune_same d field.Touched r = (refl, refl)
prune_same d field.Guard r = (refl, refl)
prune_same d (field.Prop n) r = (refl, refl)

prunes_same : (ks : List EntryKey) (d : Document) → ((fold pruned d ks).id ≡ d.id) × ((fold pruned d ks).prev ≡ d.prev)
prunes_same [] d = (refl, refl)
prunes_same (k ∷ ks) d = let one = prune_same d k.field k.revision in let more = prunes_same ks (pruned d k) in (more.0 ∙ one.0, more.1 ∙ one.1)

unlists_id : (ns : List ℕ) (d : Document) → (fold changed d (map change.Unlist ns)).id ≡ d.id
unlists_id [] d = refl
unlists_id (n ∷ ns) d = unlists_id ns (changed d (change.Unlist n))

-- a number isn't among these
abbrev IsApart : List ℕ → PrevEntry → Type 0
IsApart ns e = AllByRecursion (λ n. (e.number == n) ≡ false) ns

kept_where : (P : PrevEntry → Type 0) (n : ℕ) (es : List PrevEntry) → AllByRecursion (λ e. (e.number == n) ≡ false → P e) es → AllByRecursion P (filter (λ e. not (e.number == n)) es)
kept_where P n [] h = tt
kept_where P n (e ∷ es) h = by (e.number == n) refl (kept_where P n es h.1)
  where
    by : (b : Bool) → (e.number == n) ≡ b → AllByRecursion P (filter (λ e. not (e.number == n)) es) → AllByRecursion P (cond (not b) (e ∷ filter (λ e. not (e.number == n)) es) (filter (λ e. not (e.number == n)) es))
    by true is rest = rest
    by false is rest = (h.0 is, rest)

-- what is so of all but those that are unlisted is so of each that is left
still_listed : (P : PrevEntry → Type 0) (ns : List ℕ) (d : Document) → AllByRecursion (λ e. IsApart ns e → P e) d.prev → AllByRecursion P (fold changed d (map change.Unlist ns)).prev
still_listed P [] d h = all_of (λ e. IsApart [] e → P e) P (λ e f. f tt) d.prev h
still_listed P (n ∷ ns) d h =
    still_listed P ns (changed d (change.Unlist n))
    (kept_where (λ e. IsApart ns e → P e) n d.prev (all_of (λ e. IsApart (n ∷ ns) e → P e) (λ e. (e.number == n) ≡ false → IsApart ns e → P e) (λ e f one more. f (one, more)) d.prev h))

-- the number of an entry that passes is among the numbers of those that do
passing_among : (test : PrevEntry → Bool) (es : List PrevEntry) → AllByRecursion (λ e. test e ≡ true → IsApart (map (λ (e : PrevEntry). e.number) (filter test es)) e → ⊥) es
passing_among test [] = tt
passing_among test (e ∷ es) = (here (test e), all_of (λ f. test f ≡ true → IsApart (map (λ (e : PrevEntry). e.number) (filter test es)) f → ⊥) _ (λ f h is apart. h is (later (test e) f apart)) es (passing_among test es))
  where
    numbers : Bool → List ℕ
    numbers b = map (λ (e : PrevEntry). e.number) (cond b (e ∷ filter test es) (filter test es))

    here : (b : Bool) → b ≡ true → IsApart (numbers b) e → ⊥
    here true is apart = false≢true (sym apart.0 ∙ number_itself e.number)
    here false is apart = false≢true is

    later : (b : Bool) (f : PrevEntry) → IsApart (numbers b) f → IsApart (map (λ (e : PrevEntry). e.number) (filter test es)) f
    later true f apart = apart.1
    later false f apart = apart

none_pass : {X : Type 0} (test : X → Bool) (xs : List X) → AllByRecursion (λ x. test x ≡ false) xs → filter test xs ≡ []
none_pass test [] h = refl
none_pass test (x ∷ xs) h = ap (λ b. cond b (x ∷ filter test xs) (filter test xs)) h.0 ∙ none_pass test xs h.1

same_pass : {X : Type 0} (f g : X → Bool) (xs : List X) → AllByRecursion (λ x. f x ≡ g x) xs → filter f xs ≡ filter g xs
same_pass f g [] h = refl
same_pass {X} f g (x ∷ xs) h = ap (λ b. cond b (x ∷ filter f xs) (filter f xs)) h.0 ∙ ap (λ (ys : List X). cond (g x) (x ∷ ys) ys) (same_pass f g xs h.1)

module _ (m t : RevVec) (ds now : Documents) where
  -- a document has garbage where it had some, if what it lists is as it was
  pub same_garbage : (d : Document) → AllByRecursion (λ e. now (Prev e.number (path_of d.id)) ≡ ds (Prev e.number (path_of d.id))) d.prev → has_garbage m t now d ≡ has_garbage m t ds d
  same_garbage d h =
      ap (λ (es : List PrevEntry). is_garbage_document m t d || not (length (garbage_in m t d) == 0) || not (length (map (λ (e : PrevEntry). e.number) es) == 0))
      (same_pass (is_garbage_listed m t now d) (is_garbage_listed m t ds d) d.prev
      (all_of (λ e. now (Prev e.number (path_of d.id)) ≡ ds (Prev e.number (path_of d.id))) (λ e. is_garbage_listed m t now d e ≡ is_garbage_listed m t ds d e) (λ e same. ap (λ o. option_map_or (is_garbage_previous m t d) o false) same) d.prev h))

  module _ (within : (r : Revision) → sees t r ≡ true → sees m r ≡ true) (old : Document) (sorted : IsSorted old) (number : ℕ) where
    abbrev numbers : List ℕ
    numbers = garbage_listed m t ds old

    -- the document without its garbage, and without what it listed that was garbage
    abbrev pub cleaned : Document
    cleaned = after_changes (Some old) (pruning m t old numbers) number

    pub cleaned_id : cleaned.id ≡ old.id
    cleaned_id = unlists_id numbers (fold pruned old (garbage_in m t old)) ∙ (prunes_same (garbage_in m t old) old).0

    stands : StandsIn cleaned old
    stands = λ test n h. all_stand (garbage_in m t old) old sorted test n (unlisted_stand numbers (fold pruned old (garbage_in m t old)) test n h)

    -- one that it still lists was no garbage, and is none where it is gone or as it was
    not_listed : (e : PrevEntry) → (is_garbage_listed m t ds old e ≡ true → IsApart numbers e → ⊥) → (now (Prev e.number (path_of old.id)) ≡ None) ⊎ (now (Prev e.number (path_of old.id)) ≡ ds (Prev e.number (path_of old.id))) → IsApart numbers e → is_garbage_listed m t now cleaned e ≡ false
    not_listed e among is apart = ap (λ x. option_map_or (is_garbage_previous m t cleaned) (now (Prev e.number (path_of x))) false) cleaned_id ∙ by is
      where
        here : (o : Option Document) → ds (Prev e.number (path_of old.id)) ≡ o → (b : Bool) → option_map_or (is_garbage_previous m t cleaned) o false ≡ b → b ≡ false
        here o at false h = refl
        here None at true h = absurd (false≢true h)
        here (Some x) at true h = absurd (among (ap (λ o. option_map_or (is_garbage_previous m t old) o false) at ∙ previous_more m t cleaned old x stands h) apart)

        by : (now (Prev e.number (path_of old.id)) ≡ None) ⊎ (now (Prev e.number (path_of old.id)) ≡ ds (Prev e.number (path_of old.id))) → option_map_or (is_garbage_previous m t cleaned) (now (Prev e.number (path_of old.id))) false ≡ false
        by (inl none) = ap (λ o. option_map_or (is_garbage_previous m t cleaned) o false) none
        by (inr same) = ap (λ o. option_map_or (is_garbage_previous m t cleaned) o false) same ∙ here (ds (Prev e.number (path_of old.id))) refl (option_map_or (is_garbage_previous m t cleaned) (ds (Prev e.number (path_of old.id))) false) refl

    pub none_left : is_garbage_document m t old ≡ false → AllByRecursion (λ e. (now (Prev e.number (path_of old.id)) ≡ None) ⊎ (now (Prev e.number (path_of old.id)) ≡ ds (Prev e.number (path_of old.id)))) old.prev → has_garbage m t now cleaned ≡ false
    none_left alive are =
        neither (is_garbage_document m t cleaned) (not (length (garbage_in m t cleaned) == 0)) (not (length (garbage_listed m t now cleaned) == 0))
        (no_garbage_document m t within old numbers number alive)
        (ap (λ (ks : List EntryKey). not (length ks == 0)) (leaves_no_garbage m t old numbers number sorted))
        (ap (λ (es : List PrevEntry). not (length (map (λ (e : PrevEntry). e.number) es) == 0)) (none_pass (is_garbage_listed m t now cleaned) cleaned.prev listed_none))
      where
        neither : (a b c : Bool) → a ≡ false → b ≡ false → c ≡ false → (a || b || c) ≡ false
        neither false false false a b c = refl
        neither false false true a b c = c
        neither false true c a b d = absurd (false≢true (sym b))
        neither true b c a d e = absurd (false≢true (sym a))

        listed_none : AllByRecursion (λ e. is_garbage_listed m t now cleaned e ≡ false) cleaned.prev
        listed_none =
            still_listed (λ e. is_garbage_listed m t now cleaned e ≡ false) numbers (fold pruned old (garbage_in m t old))
            (subst (λ (es : List PrevEntry). AllByRecursion (λ e. IsApart numbers e → is_garbage_listed m t now cleaned e ≡ false) es) (sym (prunes_same (garbage_in m t old) old).1)
            (Rattle.oak_clean.proofs.Entries.all_two (λ e. is_garbage_listed m t ds old e ≡ true → IsApart numbers e → ⊥) (λ e. (now (Prev e.number (path_of old.id)) ≡ None) ⊎ (now (Prev e.number (path_of old.id)) ≡ ds (Prev e.number (path_of old.id))))
            (λ e. IsApart numbers e → is_garbage_listed m t now cleaned e ≡ false) not_listed old.prev (passing_among (is_garbage_listed m t ds old) old.prev) are))
