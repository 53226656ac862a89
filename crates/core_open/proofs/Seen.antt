-- How far documents are committed: the vector sees each committed entry, and has an entry for each cluster node and no other.
use Rattle.std.proofs.Common.{◌≡◌, ◌≤◌, ◌<◌, ◌⊎◌, inl, inr, ℕ, zero, suc, Bool, true, false, cond, not, ◌&&◌, ◌||◌, List, [], ◌∷◌, ◌++◌, Option, None, Some, fold, length, refl, sym, ap, ◌∙◌, subst, is_some, arith}
use Rattle.std.specs.Prelude.{◌==◌, ◌^◌, nat_le, nat_lt, is_none}
use Rattle.std.specs.Ordering.{eq_by_cmp}
use Rattle.std.specs.List.{filter, flat_map, list_all}
use Rattle.std.specs.Map.{keys_of, lookup}
use Rattle.std.specs.BTreeMap.{is_at}
use Rattle.std.specs.Option.{option_map_or, unwrap_or}
use Rattle.std.proofs.lemmas.Bool.{false≢true}
use Rattle.std.proofs.lemmas.Bool.Decides.{nat_tests}
use Rattle.jr_path.specs.Names.{name_cmp}
use Rattle.jr_path.specs.declared.name.Name.{Name}
use Rattle.jr_path.specs.declared.path.DocId.{DocId}
use Rattle.jr_rev.specs.declared.revision.Revision.{Revision}
use Rattle.jr_rev.specs.declared.vector.RevVec.{RevVec}
use Rattle.jr_rev.specs.Revisions.{revision_cmp}
use Rattle.jr_rev.specs.Vectors.{IsVector, entry, raised, sees, stands_from, start, with_entry}
use Rattle.oak_doc.specs.declared.document.Document.{Document}
use Rattle.oak_doc.specs.Updates.{Props, of_revision, values_of_property}
use Rattle.oak_machine.specs.History.{has_entry}
use Rattle.oak_read.specs.Meaning.{documents_in, is_committed}
use Rattle.oak_sound.specs.Meant.{ById, committed_entries, committed_entries_in, entry_revisions, opened_at, swept}
use Rattle.oak_sound.specs.Sound.{is_drawable, keeps_revisions, keyed_revisions}
use Rattle.core_read.specs.Told.{IsIn}
use Rattle.core_read.proofs.Entries.{both, first, second}
use Rattle.core_read.proofs.Latest.{at_most_itself, same_revision}
use Rattle.core_heads.proofs.Below.{raised_stands, start_stands}
use Rattle.core_heads.proofs.Entries.{raised_length, raised_own, raised_sees}
use Rattle.core_open.proofs.Lookups.{found_in, holds_in}

-- ---- what stands in joined lists

in_left : {X : Type 0} (x : X) (xs ys : List X) → IsIn x xs → IsIn x (xs ++ ys)
in_left x [] ys i = absurd i
in_left x (y ∷ xs) ys (inl same) = inl same
in_left x (y ∷ xs) ys (inr i) = inr (in_left x xs ys i)

in_right : {X : Type 0} (x : X) (xs ys : List X) → IsIn x ys → IsIn x (xs ++ ys)
in_right x [] ys i = i
in_right x (y ∷ xs) ys i = inr (in_right x xs ys i)

in_flat : {X Y : Type 0} (f : X → List Y) (x : X) (y : Y) (xs : List X) → IsIn x xs → IsIn y (f x) → IsIn y (flat_map f xs)
in_flat f x y [] i j = absurd i
in_flat f x y (z ∷ xs) (inl same) j = in_left y (f z) (flat_map f xs) (subst (λ w. IsIn y (f w)) (sym same) j)
in_flat f x y (z ∷ xs) (inr i) j = in_right y (f z) (flat_map f xs) (in_flat f x y xs i j)

in_filter : {X : Type 0} (test : X → Bool) (x : X) (xs : List X) → IsIn x xs → test x ≡ true → IsIn x (filter test xs)
in_filter test x [] i h = absurd i
in_filter {X} test x (y ∷ xs) i h = by (test y) refl i (λ j. in_filter test x xs j h)
  where
    by : (b : Bool) → test y ≡ b → (y ≡ x) ⊎ IsIn x xs → (IsIn x xs → IsIn x (filter test xs)) → IsIn x (cond b (y ∷ filter test xs) (filter test xs))
    by true k (inl same) rest = inl same
    by true k (inr j) rest = inr (rest j)
    by false k (inl same) rest = absurd (false≢true (sym k ∙ ap test same ∙ h))
    by false k (inr j) rest = rest j

in_keys : {X : Type 0} (r : Revision) (es : List (Revision × X)) → is_some (of_revision es r) ≡ true → IsIn r (keys_of es)
in_keys r [] h = absurd (false≢true h)
in_keys {X} r (e ∷ es) h = by (eq_by_cmp revision_cmp r e.0) refl h (λ there. in_keys r es there)
  where
    by : (b : Bool) → eq_by_cmp revision_cmp r e.0 ≡ b → is_some (cond b (Some e.1) (of_revision es r)) ≡ true
        → (is_some (of_revision es r) ≡ true → IsIn r (keys_of es)) → IsIn r (e.0 ∷ keys_of es)
    by true k h rest = inl (sym (same_revision r e.0 k))
    by false k h rest = inr (rest h)

in_values : (r : Revision) (n : Name) (ps : Props) → is_some (of_revision (values_of_property ps n) r) ≡ true
    → IsIn r (flat_map (λ p. keys_of p.1) ps)
in_values r n [] h = absurd (false≢true h)
in_values r n (p ∷ ps) h = by (eq_by_cmp name_cmp n p.0) h (λ there. in_values r n ps there)
  where
    by : (b : Bool) → is_some (of_revision (unwrap_or (cond b (Some p.1) (lookup (is_at (name_cmp n)) ps)) []) r) ≡ true
        → (is_some (of_revision (values_of_property ps n) r) ≡ true → IsIn r (flat_map (λ p. keys_of p.1) ps))
        → IsIn r (keys_of p.1 ++ flat_map (λ p. keys_of p.1) ps)
    by true h rest = in_left r (keys_of p.1) (flat_map (λ p. keys_of p.1) ps) (in_keys r p.1 h)
    by false h rest = in_right r (keys_of p.1) (flat_map (λ p. keys_of p.1) ps) (rest h)

-- the entries of a document are among what it keeps by revision
pub kept_entries : (P : Revision → Bool) (d : Document) → list_all P (keyed_revisions d) ≡ true → list_all P (entry_revisions d) ≡ true
kept_entries P d h =
    let gone = keys_of d.deleted in
    let values = split (gone ++ keys_of d.commit_root ++ keys_of d.revisions ++ keys_of d.touched ++ keys_of d.guard) (flat_map (λ p. keys_of p.1) d.props) h in
    let guards = split (gone ++ keys_of d.commit_root ++ keys_of d.revisions ++ keys_of d.touched) (keys_of d.guard) values.0 in
    let touches = split (gone ++ keys_of d.commit_root ++ keys_of d.revisions) (keys_of d.touched) guards.0 in
    let statuses = split (gone ++ keys_of d.commit_root) (keys_of d.revisions) touches.0 in
    let roots = split gone (keys_of d.commit_root) statuses.0 in
    join gone (flat_map (λ p. keys_of p.1) d.props) roots.0 values.1
  where
    split : (xs ys : List Revision) → list_all P (xs ++ ys) ≡ true → (list_all P xs ≡ true) × (list_all P ys ≡ true)
    split [] ys k = (refl, k)
    split (x ∷ xs) ys k = let rest = split xs ys (second _ _ k) in (both _ _ (first _ _ k) rest.0, rest.1)

    join : (xs ys : List Revision) → list_all P xs ≡ true → list_all P ys ≡ true → list_all P (xs ++ ys) ≡ true
    join [] ys k l = l
    join (x ∷ xs) ys k l = both _ _ (first _ _ k) (join xs ys (second _ _ k) l)

-- ---- one vector raised by many revisions

low_by : (n : ℕ) → nat_le 1 n ≡ true → 1 ≤ n
low_by n h = grind (arith, nat_tests)

high_by : (n m : ℕ) → nat_le n m ≡ true → n ≤ m
high_by n m h = grind (arith, nat_tests)

-- the cluster node of a drawable revision is one of those
pub drawn_by : (clusters : ℕ) (r : Revision) → is_drawable clusters r ≡ true → (1 ≤ r.cluster) × (r.cluster ≤ clusters)
drawn_by clusters r h =
    let front = first (r.counter == 0 && nat_lt r.time (2 ^ 62) && nat_le 1 r.cluster) (nat_le r.cluster clusters) h in (
      low_by r.cluster (second (r.counter == 0 && nat_lt r.time (2 ^ 62)) (nat_le 1 r.cluster) front),
      high_by r.cluster clusters (second (r.counter == 0 && nat_lt r.time (2 ^ 62) && nat_le 1 r.cluster) (nat_le r.cluster clusters) h),
    )

all_raised : (rs : List Revision) (v : RevVec) (o : Revision) → sees v o ≡ true → sees (fold raised v rs) o ≡ true
all_raised [] v o h = h
all_raised (r ∷ rs) v o h = all_raised rs (raised v r) o (raised_sees v r o h)

raised_each : (rs : List Revision) (v : RevVec) (r : Revision) → length v ≡ 8 → 1 ≤ r.cluster → r.cluster ≤ 8 → IsIn r rs
    → sees (fold raised v rs) r ≡ true
raised_each [] v r eight low high i = absurd i
raised_each (q ∷ rs) v r eight low high (inl same) =
    all_raised rs (raised v q) r
    (subst (λ (x : Revision). sees (raised v x) r ≡ true) (sym same) (raised_own v r r low high eight refl (at_most_itself r r refl)))
raised_each (q ∷ rs) v r eight low high (inr i) = raised_each rs (raised v q) r (raised_length v q ∙ eight) low high i

lasting : (rs : List Revision) (v : RevVec) → length v ≡ 8 → stands_from 1 v ≡ true
    → (length (fold raised v rs) ≡ 8) × (stands_from 1 (fold raised v rs) ≡ true)
lasting [] v eight stands = (eight, stands)
lasting (r ∷ rs) v eight stands = lasting rs (raised v r) (raised_length v r ∙ eight) (raised_stands v r stands)

pub raised_size : (rs : List Revision) (v : RevVec) → length v ≡ 8 → length (fold raised v rs) ≡ 8
raised_size [] v eight = eight
raised_size (r ∷ rs) v eight = raised_size rs (raised v r) (raised_length v r ∙ eight)

module _ (clusters : ℕ) (high : clusters ≤ 8) (ds : ById) (drawable : list_all (λ e. keeps_revisions clusters e.1) ds ≡ true) where
  abbrev t : RevVec
  t = swept ds

  below_eight : (n : ℕ) → n ≤ clusters → n ≤ 8
  below_eight n h = omega arith

  each_drawable : (i : DocId) (d : Document) → documents_in ds i ≡ Some d → list_all (is_drawable clusters) (entry_revisions d) ≡ true
  each_drawable i d h =
      kept_entries (is_drawable clusters) d
      (first _ _ (holds_in (λ (e : DocId × Document). keeps_revisions clusters e.1) ds (i, d) drawable (found_in ds i d h)))

  -- the vector sees each committed entry of a property
  pub committed_seen : (i : DocId) (d : Document) → documents_in ds i ≡ Some d → (n : Name) (r : Revision)
      → is_some (of_revision (values_of_property d.props n) r) ≡ true → is_committed (documents_in ds) t d r ≡ true
      → sees (opened_at clusters ds) r ≡ true
  committed_seen i d h n r entry told =
      let here = in_right r (keys_of d.deleted) (flat_map (λ p. keys_of p.1) d.props) (in_values r n d.props entry) in
      let node = drawn_by clusters r (holds_in (is_drawable clusters) (entry_revisions d) r (each_drawable i d h) here) in
      raised_each (committed_entries ds t) (start clusters) r refl node.0 (below_eight r.cluster node.1)
      (in_flat (λ (e : DocId × Document). committed_entries_in ds t e.1) (i, d) r ds (found_in ds i d h)
      (in_filter (is_committed (documents_in ds) t d) r (entry_revisions d) here told))

  -- it stands for eight cluster nodes
  pub opened_vector : IsVector (opened_at clusters ds)
  opened_vector =
      let kept = lasting (committed_entries ds t) (start clusters) refl (start_stands clusters) in
      record { eight = kept.0; stands = kept.1 }
