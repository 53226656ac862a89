-- What a committer finds in a document are those whom it meets.
use Rattle.std.proofs.Common.{◌≡◌, Bool, true, false, cond, ◌||◌, ◌⊎◌, inl, inr, Some, None, Option, List, [], ◌∷◌, ◌++◌, map, refl, sym, ap, subst, ◌∙◌, is_some, filter_map, flat_map, fold}
use Rattle.std.specs.List.{cons_option}
use Rattle.std.specs.Option.{unwrap_or}
use Rattle.std.specs.Ordering.{eq_by_cmp, match_ordering}
use Rattle.std.specs.declared.cmp.Ordering.{Ordering}
use Rattle.std.specs.declared.cmp.Ordering.TheVariants.{Less, Equal, Greater}
use Rattle.std.specs.BTreeMap.{insert_entry, is_at}
use Rattle.std.specs.Map.{lookup, keys_of}
use mathlib.Core.Bool.{false≢true}
use Rattle.jr_path.specs.Names.{name_cmp}
use Rattle.jr_path.specs.declared.name.Name.{Name}
use Rattle.jr_path.specs.declared.path.Path.{Path}
use Rattle.jr_path.specs.declared.path.Item.{Item}
use Rattle.jr_rev.specs.declared.revision.Revision.{Revision}
use Rattle.jr_rev.specs.declared.vector.RevVec.{RevVec}
use Rattle.jr_rev.specs.Revisions.{revision_cmp, is_same}
use Rattle.jr_rev.specs.Vectors.{sees}
use Rattle.jr_rev.proofs.Order.{revision_exact}
use Rattle.oak_clash.specs.declared.mark.Mark.{Mark}
use Rattle.oak_clash.specs.declared.mark.Mark.TheVariants.{Exists, Guard, Touch, Prop}
use Rattle.oak_clash.specs.declared.mark.MarkAt.{MarkAt}
use Rattle.oak_clash.specs.Clashes.{clash, marks_at, Meets}
use Rattle.oak_doc.specs.declared.document.Document.{Document}
use Rattle.oak_doc.specs.Updates.{of_revision, values_of_property, Props}
use Rattle.oak_commit.specs.Clashing.{Met, has, has_mark, marked, marks_in, marked_revisions, met_among, met_with, found}
use Rattle.core_clash.specs.Views.{In, mark_at}
use Rattle.core_clash.proofs.Basics.{some_is, same_revision, same_name, other_revision, decide, In-left, In-right}
use Rattle.core_clash.proofs.Documents.{In-marks_at, In-from_marks_at}
use Rattle.core_clash.proofs.Effects.{AreMarksOf, IsMet, Meeting}
use Rattle.core_clash.proofs.Firsts.{Same, In-filter, In-from_filter, met_same, met_is, met_some}
use Rattle.core_clash.proofs.Written.{clash_swap}

pub In-map : {X Y : Type 0} (f : X → Y) (x : X) (xs : List X) → In x xs → In (f x) (map f xs)
In-map f x [] h = absurd h
In-map f x (y ∷ xs) (inl e) = inl (ap f e)
In-map f x (y ∷ xs) (inr h) = inr (In-map f x xs h)

-- who has an entry is among the keys
In-keys : {X : Type 0} (es : List (Revision × X)) (o : Revision) → has es o ≡ true → In o (keys_of es)
In-keys [] o h = absurd (false≢true h)
In-keys (e ∷ es) o h = by (In-keys es o) (is_same o e.0) refl h
  where
    by : (has es o ≡ true → In o (keys_of es)) → (b : Bool) → is_same o e.0 ≡ b → is_some (cond b (Some e.1) (of_revision es o)) ≡ true → In o (keys_of (e ∷ es))
    by rest true t h = inl (same_revision o e.0 t)
    by rest false f h = inr (rest h)

In-names : (ps : Props) (n : Name) (o : Revision) → has (values_of_property ps n) o ≡ true → In n (keys_of ps)
In-names [] n o h = absurd (false≢true h)
In-names (e ∷ ps) n o h = by (In-names ps n o) (eq_by_cmp name_cmp n e.0) refl h
  where
    by : (has (values_of_property ps n) o ≡ true → In n (keys_of ps)) → (b : Bool) → eq_by_cmp name_cmp n e.0 ≡ b → has (unwrap_or (cond b (Some e.1) (lookup (is_at (name_cmp n)) ps)) []) o ≡ true → In n (keys_of (e ∷ ps))
    by rest true t h = inl (same_name n e.0 t)
    by rest false f h = inr (rest h)

In-values : (ps : Props) (n : Name) (o : Revision) → has (values_of_property ps n) o ≡ true → In o (flat_map (λ e. keys_of e.1) ps)
In-values [] n o h = absurd (false≢true h)
In-values (e ∷ ps) n o h = by (In-values ps n o) (eq_by_cmp name_cmp n e.0) h
  where
    by : (has (values_of_property ps n) o ≡ true → In o (flat_map (λ e. keys_of e.1) ps)) → (b : Bool) → has (unwrap_or (cond b (Some e.1) (lookup (is_at (name_cmp n)) ps)) []) o ≡ true → In o (keys_of e.1 ++ flat_map (λ e. keys_of e.1) ps)
    by rest true h = In-left o (keys_of e.1) _ (In-keys e.1 o h)
    by rest false h = In-right o (keys_of e.1) _ (rest h)

-- a key that is put in is among the keys, with those that were there
pub In-insert : {K : Type 0} (R : K → K → Ordering) → ((x y : K) → R x y ≡ Equal → x ≡ y) → (es : List (K × Bool)) (r o : K) → (o ≡ r) ⊎ In o (keys_of es) → In o (keys_of (insert_entry R es r true))
In-insert R exact [] r o (inl e) = inl e
In-insert R exact [] r o (inr h) = absurd h
In-insert R exact (e ∷ es) r o h = by (In-insert R exact es r o) (R r e.0) refl h
  where
    by : ((o ≡ r) ⊎ In o (keys_of es) → In o (keys_of (insert_entry R es r true))) → (c : Ordering) → R r e.0 ≡ c → (o ≡ r) ⊎ In o (keys_of (e ∷ es)) → In o (keys_of (match_ordering c ((r, true) ∷ e ∷ es) ((e.0, true) ∷ es) (e ∷ insert_entry R es r true)))
    by rest Less k (inl q) = inl q
    by rest Less k (inr h) = inr h
    by rest Equal k (inl q) = inl (q ∙ exact r e.0 k)
    by rest Equal k (inr h) = h
    by rest Greater k (inl q) = inr (rest (inl q))
    by rest Greater k (inr (inl q)) = inl q
    by rest Greater k (inr (inr h)) = inr (rest (inr h))

pub In-from_insert : {K : Type 0} (R : K → K → Ordering) (es : List (K × Bool)) (r o : K) → In o (keys_of (insert_entry R es r true)) → (o ≡ r) ⊎ In o (keys_of es)
In-from_insert R [] r o (inl e) = inl e
In-from_insert R [] r o (inr h) = absurd h
In-from_insert R (e ∷ es) r o h = by (In-from_insert R es r o) (R r e.0) h
  where
    more : (o ≡ r) ⊎ In o (keys_of es) → (o ≡ r) ⊎ In o (keys_of (e ∷ es))
    more (inl q) = inl q
    more (inr h) = inr (inr h)

    by : (In o (keys_of (insert_entry R es r true)) → (o ≡ r) ⊎ In o (keys_of es)) → (c : Ordering) → In o (keys_of (match_ordering c ((r, true) ∷ e ∷ es) ((e.0, true) ∷ es) (e ∷ insert_entry R es r true))) → (o ≡ r) ⊎ In o (keys_of (e ∷ es))
    by rest Less (inl q) = inl q
    by rest Less (inr h) = inr h
    by rest Equal h = inr h
    by rest Greater (inl q) = inr (inl q)
    by rest Greater (inr h) = more (rest h)

-- the sorted list of some revisions has each of them
In-sorted : (rs : List Revision) (es : List (Revision × Bool)) (o : Revision) → In o rs ⊎ In o (keys_of es) → In o (keys_of (fold (λ es r. insert_entry revision_cmp es r true) es rs))
In-sorted [] es o (inl h) = absurd h
In-sorted [] es o (inr h) = h
In-sorted (r ∷ rs) es o (inl (inl e)) = In-sorted rs (insert_entry revision_cmp es r true) o (inr (In-insert revision_cmp revision_exact es r o (inl e)))
In-sorted (r ∷ rs) es o (inl (inr h)) = In-sorted rs (insert_entry revision_cmp es r true) o (inl h)
In-sorted (r ∷ rs) es o (inr h) = In-sorted rs (insert_entry revision_cmp es r true) o (inr (In-insert revision_cmp revision_exact es r o (inr h)))

-- who has a mark there is among the revisions there
pub In-revisions : (doc : Option Document) (o : Revision) (m : Mark) → marked doc o m ≡ true → In o (marked_revisions doc)
In-revisions None o m h = absurd (false≢true h)
In-revisions (Some d) o m h = In-sorted (keys_of d.deleted ++ (keys_of d.guard ++ (keys_of d.touched ++ flat_map (λ e. keys_of e.1) d.props))) [] o (inl (by m h))
  where
    by : (m : Mark) → has_mark d o m ≡ true → In o (keys_of d.deleted ++ (keys_of d.guard ++ (keys_of d.touched ++ flat_map (λ e. keys_of e.1) d.props)))
    by Exists h = In-left o (keys_of d.deleted) _ (In-keys d.deleted o h)
    by Guard h = In-right o (keys_of d.deleted) _ (In-left o (keys_of d.guard) _ (In-keys d.guard o h))
    by Touch h = In-right o (keys_of d.deleted) _ (In-right o (keys_of d.guard) _ (In-left o (keys_of d.touched) _ (In-keys d.touched o h)))
    by (Prop n) h = In-right o (keys_of d.deleted) _ (In-right o (keys_of d.guard) _ (In-right o (keys_of d.touched) _ (In-values d.props n o h)))

-- the marks there
pub In-marks_in : (doc : Option Document) (o : Revision) (m : Mark) → marked doc o m ≡ true → In m (marks_in doc o)
In-marks_in None o m h = absurd (false≢true h)
In-marks_in (Some d) o m h = In-filter (has_mark d o) m (Exists ∷ Guard ∷ Touch ∷ map Prop (keys_of d.props)) (by m h) h
  where
    by : (m : Mark) → has_mark d o m ≡ true → In m (Exists ∷ Guard ∷ Touch ∷ map Prop (keys_of d.props))
    by Exists h = inl refl
    by Guard h = inr (inl refl)
    by Touch h = inr (inr (inl refl))
    by (Prop n) h = inr (inr (inr (In-map (λ (x : Name). Prop x) n (keys_of d.props) (In-names d.props n o h))))

pub In-from_marks_in : (doc : Option Document) (o : Revision) (m : Mark) → In m (marks_in doc o) → marked doc o m ≡ true
In-from_marks_in None o m h = absurd h
In-from_marks_in (Some d) o m h = (In-from_filter (has_mark d o) m (Exists ∷ Guard ∷ Touch ∷ map Prop (keys_of d.props)) h).1

In-filter_map : {X Y : Type 0} (f : X → Option Y) (x : X) (y : Y) (xs : List X) → In x xs → f x ≡ Some y → In y (filter_map f xs)
In-filter_map f x y [] h e = absurd h
In-filter_map f x y (z ∷ xs) h e = by (λ k. In-filter_map f x y xs k e) (f z) refl h
  where
    by : (In x xs → In y (filter_map f xs)) → (o : Option _) → f z ≡ o → In x (z ∷ xs) → In y (cons_option o (filter_map f xs))
    by rest None q (inl k) = absurd (false≢true (ap (λ (o : Option _). is_some o) (sym q ∙ (ap f (sym k) ∙ e))))
    by rest None q (inr h) = rest h
    by rest (Some w) q (inl k) = inl (some_is (sym q ∙ (ap f (sym k) ∙ e)))
    by rest (Some w) q (inr h) = inr (rest h)

In-from_filter_map : {X Y : Type 0} (f : X → Option Y) (y : Y) (xs : List X) → In y (filter_map f xs) → (x : X) × (f x ≡ Some y)
In-from_filter_map f y [] h = absurd h
In-from_filter_map f y (z ∷ xs) h = by (λ k. In-from_filter_map f y xs k) (f z) refl h
  where
    by : (In y (filter_map f xs) → (x : _) × (f x ≡ Some y)) → (o : Option _) → f z ≡ o → In y (cons_option o (filter_map f xs)) → (x : _) × (f x ≡ Some y)
    by rest None q h = rest h
    by rest (Some w) q (inl k) = (z, q ∙ ap (λ v. Some v) (sym k))
    by rest (Some w) q (inr h) = rest h

-- what a meeting is of
pub met_parts : (o : Revision) (f : Met) (x y : Option Item) → met_with o x y ≡ Some f → (x ≡ Some f.mine) × (y ≡ Some f.theirs) × (f.other ≡ o)
met_parts o f (Some a) (Some b) h =
    let e : f ≡ record { other = o; mine = a; theirs = b } = some_is h in
    (ap (λ (g : Met). Some g.mine) (sym e), ap (λ (g : Met). Some g.theirs) (sym e), ap (λ (g : Met). g.other) e)
met_parts o f None y h = absurd (false≢true (ap (λ (z : Option Met). is_some z) h))
met_parts o f (Some a) None h = absurd (false≢true (ap (λ (z : Option Met). is_some z) h))

neither : (a b : Bool) → (a || b) ≡ false → (a ≡ false) × (b ≡ false)
neither true b h = absurd (false≢true (sym h))
neither false b h = (refl, h)

module _ (base : RevVec) (r : Revision) (p : Path) (ms : List MarkAt) (doc : Option Document) where
  abbrev test_of : Revision → Option Met
  test_of o = cond (is_same o r || sees base o) None (met_with o (met_among p (marks_at p ms) (marks_in doc o)) (met_among p (marks_in doc o) (marks_at p ms)))

  same_self : (xs : List Mark) → Same xs xs
  same_self xs = record { to = λ m h. h; from = λ m h. h }

  -- the marks of o at p are those that the document has of o
  same_marks : (o : Revision) (os : List MarkAt) → AreMarksOf doc o p os → Same (marks_at p os) (marks_in doc o)
  same_marks o os are = record {
    to = λ m h. In-marks_in doc o m (are.0 m (In-from_marks_at p m os h));
    from = λ m h. In-marks_at p m os (are.1 m (In-from_marks_in doc o m h));
  }

  meets_at : (xs ys : List MarkAt) (item : Item) → item.path ≡ p → met_among p (marks_at p xs) (marks_at p ys) ≡ Some item → Meets xs ys item
  meets_at xs ys item e h = subst (λ (q : Path). met_among q (marks_at q xs) (marks_at q ys) ≡ Some item) (sym e) h

  is_met : (o : Revision) (f : Met) → test_of o ≡ Some f → IsMet base r p ms doc f
  is_met o f = by (is_same o r || sees base o) refl
    where
      of_parts : (is_same o r ≡ false) × (sees base o ≡ false) → (met_among p (marks_at p ms) (marks_in doc o) ≡ Some f.mine) × (met_among p (marks_in doc o) (marks_at p ms) ≡ Some f.theirs) × (f.other ≡ o) → IsMet base r p ms doc f
      of_parts n h =
          let mine = met_is p (marks_at p ms) (marks_in doc o) f.mine h.0 in
          let theirs = met_is p (marks_in doc o) (marks_at p ms) f.theirs h.1 in
          record {
            apart = λ e. other_revision o r n.0 (sym h.2 ∙ e);
            outside = subst (λ (x : Revision). sees base x ≡ false) (sym h.2) n.1;
            mark = (theirs.1.0, subst (λ (x : Revision). marked doc x theirs.1.0 ≡ true) (sym h.2) (In-from_marks_in doc o theirs.1.0 theirs.1.1));
            mine = λ os are. meets_at ms os f.mine mine.0 (met_same p (marks_at p ms) (marks_at p ms) (marks_at p os) (marks_in doc o) (same_self (marks_at p ms)) (same_marks o os (subst (λ (x : Revision). AreMarksOf doc x p os) h.2 are)) ∙ h.0);
            theirs = λ os are. meets_at os ms f.theirs theirs.0 (met_same p (marks_at p os) (marks_in doc o) (marks_at p ms) (marks_at p ms) (same_marks o os (subst (λ (x : Revision). AreMarksOf doc x p os) h.2 are)) (same_self (marks_at p ms)) ∙ h.1);
          }

      by : (b : Bool) → (is_same o r || sees base o) ≡ b → cond b None (met_with o (met_among p (marks_at p ms) (marks_in doc o)) (met_among p (marks_in doc o) (marks_at p ms))) ≡ Some f → IsMet base r p ms doc f
      by true t h = absurd (false≢true (ap (λ (z : Option Met). is_some z) h))
      by false n h = of_parts (neither (is_same o r) (sees base o) n) (met_parts o f _ _ h)

  or_false : (a b : Bool) → a ≡ false → b ≡ false → (a || b) ≡ false
  or_false true b h k = absurd (false≢true (sym h))
  or_false false b h k = k

  all_met : (o : Revision) (m n : Mark) → (r ≡ o → ⊥) → sees base o ≡ false → In (mark_at p m) ms → marked doc o n ≡ true → clash m n ≡ true → (f : Met) × In f (found base r p ms doc) × (f.other ≡ o)
  all_met o m n apart outside h k c =
      let a = met_some p (marks_at p ms) (marks_in doc o) m n (In-marks_at p m ms h) (In-marks_in doc o n k) c in
      let b = met_some p (marks_in doc o) (marks_at p ms) n m (In-marks_in doc o n k) (In-marks_at p m ms h) (clash_swap m n c) in
      let f : Met = record { other = o; mine = a.0; theirs = b.0 } in
      (f, In-filter_map test_of o f (marked_revisions doc) (In-revisions doc o n k) (of_tests f (unsame (decide o r)) a.1 b.1), refl)
    where
      unsame : (o ≡ r) ⊎ (is_same o r ≡ false) → is_same o r ≡ false
      unsame (inl e) = absurd (apart (sym e))
      unsame (inr g) = g

      of_tests : (f : Met) → is_same o r ≡ false → met_among p (marks_at p ms) (marks_in doc o) ≡ Some f.mine → met_among p (marks_in doc o) (marks_at p ms) ≡ Some f.theirs → test_of o ≡ Some (record { other = o; mine = f.mine; theirs = f.theirs })
      of_tests f g x y = ap (λ t. cond t None (met_with o (met_among p (marks_at p ms) (marks_in doc o)) (met_among p (marks_in doc o) (marks_at p ms)))) (or_false (is_same o r) (sees base o) g outside) ∙ (ap (λ (z : Option Item). met_with o z (met_among p (marks_in doc o) (marks_at p ms))) x ∙ ap (λ (z : Option Item). met_with o (Some f.mine) z) y)

  pub meeting : Meeting base r p ms doc (found base r p ms doc)
  meeting = record {
    each = λ f h. let x = In-from_filter_map test_of f (marked_revisions doc) h in is_met x.0 f x.1;
    all = all_met;
  }
