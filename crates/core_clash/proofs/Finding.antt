-- What a committer finds in a document depends on the marks alone that this has of what the base doesn't see.
use Rattle.std.proofs.Common.{◌≡◌, inl, inr, ℕ, Bool, true, false, cond, not, ◌||◌, Some, None, Option, List, [], ◌∷◌, ◌++◌, fold, filter, filter_map, refl, sym, ap, ◌∙◌, subst, is_some}
use Rattle.std.specs.List.{cons_option, flat_map, list_any}
use Rattle.std.specs.Option.{option_or}
use Rattle.std.specs.Map.{keys_of}
use Rattle.std.specs.BTreeMap.{insert_entry}
use Rattle.std.specs.FinMap.{is_sorted}
use Rattle.std.specs.Ordering.{eq_by_cmp, match_ordering}
use Rattle.std.specs.declared.cmp.Ordering.{Ordering}
use Rattle.std.specs.declared.cmp.Ordering.TheVariants.{Less, Equal, Greater}
use mathlib.Core.Bool.{false≢true}
use Rattle.jr_path.specs.declared.name.Name.{Name}
use Rattle.jr_value.specs.declared.value.Property.{Property}
use Rattle.jr_path.specs.declared.path.Item.{Item}
use Rattle.jr_path.specs.declared.path.Path.{Path}
use Rattle.jr_rev.specs.declared.revision.Revision.{Revision}
use Rattle.jr_rev.specs.declared.vector.RevVec.{RevVec}
use Rattle.jr_rev.specs.Revisions.{revision_cmp, is_same}
use Rattle.jr_rev.specs.Vectors.{sees}
use Rattle.jr_rev.proofs.Order.{revision_exact, revision_total}
use Rattle.jr_tree.proofs.Entries.{sorted_filter}
use Rattle.oak_clash.specs.declared.mark.Mark.{Mark}
use Rattle.oak_clash.specs.declared.mark.Mark.TheVariants.{Exists, Guard, Touch, Prop}
use Rattle.oak_clash.specs.declared.mark.MarkAt.{MarkAt}
use Rattle.oak_clash.specs.Clashes.{marks_at}
use Rattle.oak_commit.specs.Looking.{whole}
use Rattle.oak_commit.specs.Clashing.{Met, found, has, marked, marks_in, met_among, met_with, marked_revisions}
use Rattle.oak_doc.specs.declared.document.Document.{Document}
use Rattle.oak_doc.specs.Updates.{of_revision, values_of_property}
use Rattle.oak_read.specs.Meaning.{Documents}
use Rattle.core_keep.specs.Formers.{Formers}
use Rattle.core_keep.specs.Lookers.{Looks}
use Rattle.core_keep.specs.Standing.{values_in}
use Rattle.core_keep.proofs.Found.{found_append}
use Rattle.core_read.proofs.Entries.{same_lists, sorted_insert}
use Rattle.core_keep.proofs.Splits.{passing_found}
use Rattle.core_clash.specs.Views.{In}
use Rattle.core_clash.specs.Sound.{has_moved, marked_in}
use Rattle.core_clash.proofs.Firsts.{Same, both_same, met_is, met_same}
use Rattle.core_clash.proofs.Whole.{whole_from, whole_to}
use Rattle.core_clash.proofs.Meetings.{In-from_marks_in, In-marks_in, In-revisions, met_parts}

-- ---- the revisions of a document, as entries

entries_of : Option Document → List (Revision × Bool)
entries_of None = []
entries_of (Some d) = fold (λ es r. insert_entry revision_cmp es r true) [] (keys_of d.deleted ++ (keys_of d.guard ++ (keys_of d.touched ++ flat_map (λ e. keys_of e.1) d.props)))

revisions_are : (d : Option Document) → marked_revisions d ≡ keys_of (entries_of d)
unfolding entries_of
revisions_are None = refl
revisions_are (Some d) = refl

abbrev AreTrue : List (Revision × Bool) → Type 0
AreTrue [] = Unit {0}
AreTrue (e ∷ es) = (e.1 ≡ true) × AreTrue es

insert_true : (es : List (Revision × Bool)) (r : Revision) → AreTrue es → AreTrue (insert_entry revision_cmp es r true)
insert_true [] r are = (refl, tt)
insert_true (e ∷ es) r are = by (insert_true es r are.1) (revision_cmp r e.0)
  where
    by : AreTrue (insert_entry revision_cmp es r true) → (c : Ordering) → AreTrue (match_ordering c ((r, true) ∷ e ∷ es) ((e.0, true) ∷ es) (e ∷ insert_entry revision_cmp es r true))
    by rest Less = (refl, are)
    by rest Equal = (refl, are.1)
    by rest Greater = (are.0, rest)

fold_true : (rs : List Revision) (es : List (Revision × Bool)) → AreTrue es → AreTrue (fold (λ es r. insert_entry revision_cmp es r true) es rs)
fold_true [] es are = are
fold_true (r ∷ rs) es are = fold_true rs (insert_entry revision_cmp es r true) (insert_true es r are)

fold_sorted : (rs : List Revision) (es : List (Revision × Bool)) → is_sorted revision_cmp es ≡ true → is_sorted revision_cmp (fold (λ es r. insert_entry revision_cmp es r true) es rs) ≡ true
fold_sorted [] es h = h
fold_sorted (r ∷ rs) es h = fold_sorted rs (insert_entry revision_cmp es r true) (sorted_insert revision_cmp revision_total r true es h)

entries_true : (d : Option Document) → AreTrue (entries_of d)
unfolding entries_of
entries_true None = tt
entries_true (Some d) = fold_true (keys_of d.deleted ++ (keys_of d.guard ++ (keys_of d.touched ++ flat_map (λ e. keys_of e.1) d.props))) [] tt

entries_sorted : (d : Option Document) → is_sorted revision_cmp (entries_of d) ≡ true
unfolding entries_of
entries_sorted None = refl
entries_sorted (Some d) = fold_sorted (keys_of d.deleted ++ (keys_of d.guard ++ (keys_of d.touched ++ flat_map (λ e. keys_of e.1) d.props))) [] refl

in_true : (es : List (Revision × Bool)) (q : Revision) → AreTrue es → In q (keys_of es) → of_revision es q ≡ Some true
in_true [] q are i = absurd i
in_true (e ∷ es) q are i = by (in_true es q are.1) (eq_by_cmp revision_cmp q e.0) refl i
  where
    itself : (r : Revision) → eq_by_cmp revision_cmp r r ≡ true
    itself r = ap Rattle.std.specs.Ordering.is_eq (Rattle.std.specs.Cmp.tied_itself revision_total r)

    by : (In q (keys_of es) → of_revision es q ≡ Some true) → (b : Bool) → eq_by_cmp revision_cmp q e.0 ≡ b → In q (keys_of (e ∷ es)) → cond b (Some e.1) (of_revision es q) ≡ Some true
    by rest true h j = ap (λ (x : Bool). Some x) are.0
    by rest false h (inl one) = absurd (false≢true (sym h ∙ (ap (λ (x : Revision). eq_by_cmp revision_cmp q x) (sym one) ∙ itself q)))
    by rest false h (inr j) = rest j

-- ---- of a list only what gives something counts

filter_drops : {Y : Type 0} (f : Revision → Option Y) (es : List (Revision × Bool)) → filter_map f (keys_of es) ≡ filter_map f (keys_of (filter (λ e. is_some (f e.0)) es))
filter_drops f [] = refl
filter_drops {Y} f (e ∷ es) = by (filter_drops f es) (f e.0) refl
  where
    by : filter_map f (keys_of es) ≡ filter_map f (keys_of (filter (λ e. is_some (f e.0)) es)) → (o : Option Y) → f e.0 ≡ o → cons_option o (filter_map f (keys_of es)) ≡ filter_map f (keys_of (cond (is_some o) (e ∷ filter (λ e. is_some (f e.0)) es) (filter (λ e. is_some (f e.0)) es)))
    by rest None h = rest
    by rest (Some y) h = ap (λ ys. y ∷ ys) rest ∙ ap (λ o. cons_option o (filter_map f (keys_of (filter (λ e. is_some (f e.0)) es)))) (sym h)

-- ---- two documents

module _ (base : RevVec) (r : Revision) (p : Path) (ms : List MarkAt) (d e : Option Document) (same : (o : Revision) → (is_same o r || sees base o) ≡ false → (m : Mark) → marked d o m ≡ marked e o m) where
  abbrev meets : Option Document → Revision → Option Met
  meets x o = cond (is_same o r || sees base o) None (met_with o (met_among p (marks_at p ms) (marks_in x o)) (met_among p (marks_in x o) (marks_at p ms)))

  itself : (xs : List Mark) → Same xs xs
  itself xs = record { to = λ m h. h; from = λ m h. h }

  marks_same : (o : Revision) → (is_same o r || sees base o) ≡ false → Same (marks_in d o) (marks_in e o)
  marks_same o apart = record {
    to = λ m h. In-marks_in e o m (sym (same o apart m) ∙ In-from_marks_in d o m h);
    from = λ m h. In-marks_in d o m (same o apart m ∙ In-from_marks_in e o m h);
  }

  meets_same : (o : Revision) → meets d o ≡ meets e o
  meets_same o = by (is_same o r || sees base o) refl
    where
      by : (b : Bool) → (is_same o r || sees base o) ≡ b → cond b None (met_with o (met_among p (marks_at p ms) (marks_in d o)) (met_among p (marks_in d o) (marks_at p ms))) ≡ cond b None (met_with o (met_among p (marks_at p ms) (marks_in e o)) (met_among p (marks_in e o) (marks_at p ms)))
      by true h = refl
      by false h =
          ap (λ (x : Option Item). met_with o x (met_among p (marks_in d o) (marks_at p ms))) (met_same p (marks_at p ms) (marks_at p ms) (marks_in d o) (marks_in e o) (itself (marks_at p ms)) (marks_same o h))
          ∙ ap (λ (x : Option Item). met_with o (met_among p (marks_at p ms) (marks_in e o)) x) (met_same p (marks_in d o) (marks_in e o) (marks_at p ms) (marks_at p ms) (marks_same o h) (itself (marks_at p ms)))

  -- who is met is among the revisions of a document that has the same marks of it
  met_entry : (x : Option Document) (o : Revision) (f : Met) → meets x o ≡ Some f → of_revision (entries_of x) o ≡ Some true
  met_entry x o f h =
      let m = has (is_same o r || sees base o) h in
      in_true (entries_of x) o (entries_true x) (subst (λ rs. In o rs) (revisions_are x) (In-revisions x o m.0 (In-from_marks_in x o m.0 m.1)))
    where
      has : (b : Bool) → cond b None (met_with o (met_among p (marks_at p ms) (marks_in x o)) (met_among p (marks_in x o) (marks_at p ms))) ≡ Some f → (m : Mark) × In m (marks_in x o)
      has true k = absurd (false≢true (ap is_some k))
      has false k = (met_is p (marks_in x o) (marks_at p ms) f.theirs (met_parts o f _ _ k).1).1

  pub found_same : found base r p ms d ≡ found base r p ms e
  found_same =
      ap (filter_map (meets d)) (revisions_are d)
      ∙ (filter_drops (meets d) (entries_of d)
      ∙ (ap (λ es. filter_map (meets d) (keys_of es)) lists
      ∙ (maps (keys_of (filter (λ x. is_some (meets e x.0)) (entries_of e)))
      ∙ (sym (filter_drops (meets e) (entries_of e))
      ∙ sym (ap (filter_map (meets e)) (revisions_are e))))))
    where
      maps : (os : List Revision) → filter_map (meets d) os ≡ filter_map (meets e) os
      maps [] = refl
      maps (o ∷ os) = ap (λ x. cons_option x (filter_map (meets d) os)) (meets_same o) ∙ ap (cons_option (meets e o)) (maps os)

      at : (q : Revision) (o : Option Met) → meets d q ≡ o → cond (is_some (meets d q)) (of_revision (entries_of d) q) None ≡ cond (is_some (meets e q)) (of_revision (entries_of e) q) None
      at q None h = ap (λ (x : Option Met). cond (is_some x) (of_revision (entries_of d) q) None) h ∙ sym (ap (λ (x : Option Met). cond (is_some x) (of_revision (entries_of e) q) None) (sym (meets_same q) ∙ h))
      at q (Some f) h =
          ap (λ (x : Option Met). cond (is_some x) (of_revision (entries_of d) q) None) h
          ∙ (met_entry d q f h
          ∙ (sym (met_entry e q f (sym (meets_same q) ∙ h))
          ∙ sym (ap (λ (x : Option Met). cond (is_some x) (of_revision (entries_of e) q) None) (sym (meets_same q) ∙ h))))

      lists : filter (λ x. is_some (meets d x.0)) (entries_of d) ≡ filter (λ x. is_some (meets e x.0)) (entries_of e)
      lists = same_lists revision_cmp revision_total revision_exact _ _ (sorted_filter revision_cmp (λ x. is_some (meets d x.0)) (entries_of d) (entries_sorted d)) (sorted_filter revision_cmp (λ x. is_some (meets e x.0)) (entries_of e) (entries_sorted e))
          (λ q. passing_found (λ o. is_some (meets d o)) (entries_of d) q ∙ (at q (meets d q) refl ∙ sym (passing_found (λ o. is_some (meets e o)) (entries_of e) q)))

-- ---- with what moved put back

-- what is found in a document with what moved put back depends on the marks alone of both
pub found_marked : (base : RevVec) (r : Revision) (p : Path) (ms : List MarkAt) (d e : Option Document) (xs ys : List Document) → ((o : Revision) → (is_same o r || sees base o) ≡ false → (m : Mark) → marked_in d xs o m ≡ marked_in e ys o m)
    → found base r p ms (whole p d xs) ≡ found base r p ms (whole p e ys)
found_marked base r p ms d e xs ys same = found_same base r p ms (whole p d xs) (whole p e ys) (λ o apart m. is_whole o d xs m ∙ (same o apart m ∙ sym (is_whole o e ys m)))
  where
    is_whole : (o : Revision) (doc : Option Document) (zs : List Document) (m : Mark) → marked (whole p doc zs) o m ≡ marked_in doc zs o m
    is_whole o doc zs m = both_same (marked (whole p doc zs) o m) (marked_in doc zs o m) (whole_from p o doc zs m) (whole_to p o doc zs m)

-- values over a document and previous ones are marks in them
values_mark : (copy : Document) (xs : List Document) (n : Name) (o : Revision) → is_some (of_revision (values_in n (copy ∷ xs)) o) ≡ marked_in (Some copy) xs o (Prop n)
values_mark copy xs n o = ap is_some (found_append (values_of_property copy.props n) (values_in n xs) o) ∙ by (of_revision (values_of_property copy.props n) o) (over xs)
  where
    or_some : (a b : Option (Option Property)) → is_some (option_or a b) ≡ (is_some a || is_some b)
    or_some None b = refl
    or_some (Some x) b = refl

    over : (zs : List Document) → is_some (of_revision (values_in n zs) o) ≡ list_any (has_moved o (Prop n)) zs
    over [] = refl
    over (z ∷ zs) = ap is_some (found_append (values_of_property z.props n) (values_in n zs) o) ∙ (or_some (of_revision (values_of_property z.props n) o) (of_revision (values_in n zs) o) ∙ ap (λ b. is_some (of_revision (values_of_property z.props n) o) || b) (over zs))

    by : (a : Option (Option Property)) → is_some (of_revision (values_in n xs) o) ≡ list_any (has_moved o (Prop n)) xs → is_some (option_or a (of_revision (values_in n xs) o)) ≡ (is_some a || list_any (has_moved o (Prop n)) xs)
    by a h = or_some a (of_revision (values_in n xs) o) ∙ ap (λ b. is_some a || b) h

-- a mark that no previous document has
never_moved : (o : Revision) (m : Mark) → ((x : Document) → has_moved o m x ≡ false) → (zs : List Document) → list_any (has_moved o m) zs ≡ false
never_moved o m never [] = refl
never_moved o m never (z ∷ zs) = ap (λ b. b || list_any (has_moved o m) zs) (never z) ∙ never_moved o m never zs

-- a committer that has looked at all previous documents finds what it would have found at its write
pub looked_found : (ds : Documents) (formers : Formers) (base : RevVec) (r : Revision) (p : Path) (ms : List MarkAt) (copy : Document) (xs : List Document) (asked : ℕ → Bool) (look : ℕ → Option Document)
    → Looks ds formers (λ o. not (is_same o r || sees base o)) p (copy ∷ xs) copy asked look → found base r p ms (whole p (Some copy) (filter_map (λ e. look e.number) copy.prev)) ≡ found base r p ms (whole p (Some copy) xs)
looked_found ds formers base r p ms copy xs asked look looks = found_marked base r p ms (Some copy) (Some copy) (filter_map (λ e. look e.number) copy.prev) xs each
  where
    each : (o : Revision) → (is_same o r || sees base o) ≡ false → (m : Mark) → marked_in (Some copy) (filter_map (λ e. look e.number) copy.prev) o m ≡ marked_in (Some copy) xs o m
    each o apart (Prop n) = sym (values_mark copy (filter_map (λ e. look e.number) copy.prev) n o) ∙ (ap is_some (looks.same n o (ap not apart)) ∙ values_mark copy xs n o)
    each o apart Exists = ap (λ b. has copy.deleted o || b) (never_moved o Exists (λ x. refl) (filter_map (λ e. look e.number) copy.prev) ∙ sym (never_moved o Exists (λ x. refl) xs))
    each o apart Guard = ap (λ b. has copy.guard o || b) (never_moved o Guard (λ x. refl) (filter_map (λ e. look e.number) copy.prev) ∙ sym (never_moved o Guard (λ x. refl) xs))
    each o apart Touch = ap (λ b. has copy.touched o || b) (never_moved o Touch (λ x. refl) (filter_map (λ e. look e.number) copy.prev) ∙ sym (never_moved o Touch (λ x. refl) xs))
