-- What is told of former documents stays so, step by step.
use Rattle.std.proofs.Common.{◌≡◌, ◌⊎◌, inl, inr, ℕ, take, Bool, true, false, cond, ◌||◌, ◌&&◌, Some, None, Option, List, [], refl, sym, ap, ◌∙◌, subst, is_some}
use Rattle.std.specs.Prelude.{◌==◌, IsTrue}
use Rattle.std.specs.Option.{option_map_or, option_or, unwrap_or}
use Rattle.std.specs.Ordering.{eq_by_cmp}
use mathlib.Core.Bool.{false≢true}
use Rattle.jr_path.specs.Names.{path_cmp}
use Rattle.jr_path.specs.declared.name.Name.{Name}
use Rattle.jr_path.specs.declared.path.Path.{Path}
use Rattle.jr_path.specs.declared.path.DocId.TheVariants as id
use Rattle.jr_value.specs.declared.value.Property.{Property}
use Rattle.jr_rev.specs.declared.revision.Revision.{Revision}
use Rattle.jr_rev.specs.Revisions.{is_before}
use Rattle.jr_rev.proofs.Entries.{number_same}
use Rattle.jr_tree.specs.declared.edit.Write.{Write}
use Rattle.jr_tree.specs.Trees.{property_at}
use Rattle.jr_tree.specs.Items.{put_of}
use Rattle.jr_tree.proofs.Pointwise.{same_path}
use Rattle.oak_doc.specs.declared.document.Document.{Document}
use Rattle.oak_doc.specs.declared.document.PrevEntry.{PrevEntry}
use Rattle.oak_doc.specs.Updates.{of_revision, values_of_property}
use Rattle.oak_read.specs.Meaning.{Documents, commit_root_of, main_of, path_of}
use Rattle.core_read.specs.Commits.{Sight}
use Rattle.core_read.specs.Holds.{has_revision, prop_entry, IsSameAt}
use Rattle.core_read.specs.Told.{IsIn}
use Rattle.core_read.proofs.Latest.{before_itself}
use Rattle.core_keep.specs.Standing.{all_at, shows_value, values_in}
use Rattle.core_keep.specs.Keeps.{Course, edit_in, is_done, Keeps, IsCourse}
use Rattle.core_keep.specs.Steps.{IsChangeAt, IsMainAt, IsSameBesides, IsPruned, IsMoved, IsUnwanted, IsPreviousAt, IsUnlisted}
use Rattle.core_keep.specs.Formers.{AreFormers, Former, former_now, Formers, FormersGrow, IsAmong, IsCopyOf, IsFollowed, IsFormer, IsKeptIn, StaysOn, with_former}
use Rattle.core_keep.proofs.Item.{either_true, entry_done, is_none, not_true, some_of}
use Rattle.core_keep.proofs.AtPath.{listed, same_all, value_split}
use Rattle.core_keep.proofs.Main.{AreOpen, listed_kept, value_now}
use Rattle.core_keep.proofs.Main as main_step
use Rattle.core_keep.proofs.Pruned as pruned_step
use Rattle.core_keep.proofs.Pruned.{before_trans}
use Rattle.core_keep.proofs.Moved as moved_step

-- ---- the commit root of an entry of a document of a node

pub root_named : (d : Document) (p : Path) → main_of d.id ≡ id.Node p → (r : Revision) → (q : Path) × (commit_root_of d r ≡ id.Node q)
root_named d p named r = by (of_revision d.commit_root r)
  where
    by : (o : Option ℕ) → (q : Path) × (option_map_or (λ depth. id.Node (take depth (path_of d.id))) o (main_of d.id) ≡ id.Node q)
    by None = (p, named)
    by (Some depth) = (take depth (path_of d.id), refl)

some_edit : (c later : Course) → ((r : Revision) (ws : List Write) → edit_in c r ≡ Some ws → edit_in later r ≡ Some ws) → (r : Revision) → is_some (edit_in c r) ≡ true → is_some (edit_in later r) ≡ true
some_edit c later edits r h = let e = some_of (edit_in c r) h in ap is_some (edits r e.0 e.1)

-- what was there from the beginning is swept
unswept_edit : (c : Course) → IsCourse c → (r : Revision) → is_done c r ≡ true → c.swept r ≡ false → (ws : List Write) × (edit_in c r ≡ Some ws)
unswept_edit c course r h unswept = elim (either_true (is_some (edit_in c r)) (c.old r) h) [
  | inl k ↦ some_of (edit_in c r) k
  | inr k ↦ absurd (false≢true (sym unswept ∙ course.old_swept r k))
]

or_first : (a b : Bool) → a ≡ true → (a || b) ≡ true
or_first true b h = refl
or_first false b h = absurd (false≢true h)

or_second : (a b : Bool) → b ≡ true → (a || b) ≡ true
or_second true b h = refl
or_second false b h = h

-- ---- such a step keeps what is told

module _ (ds now : Documents) (c later : Course) (stays : StaysOn ds now c later) (keeps : Keeps ds c) (course : IsCourse c) where
  -- what is done is done still
  done_on : (r : Revision) → is_done c r ≡ true → is_done later r ≡ true
  done_on r h = elim (either_true (is_some (edit_in c r)) (c.old r) h) [
    | inl k ↦ or_first _ _ (some_edit c later stays.edits r k)
    | inr k ↦ or_second _ _ (stays.old r k).0
  ]

  -- and its edit was the same
  edit_was : (r : Revision) (ws : List Write) → is_done c r ≡ true → edit_in later r ≡ Some ws → edit_in c r ≡ Some ws
  edit_was r ws h e = elim (either_true (is_some (edit_in c r)) (c.old r) h) [
    | inl k ↦ let u = some_of (edit_in c r) k in u.1 ∙ sym (stays.edits r u.0 u.1) ∙ e
    | inr k ↦ absurd (false≢true (ap is_some (sym (stays.old r k).1 ∙ e)))
  ]

  former_on : (p : Path) (f : Former) → IsFormer ds c p f → IsFormer now later p f
  former_on p f former = record {
    named = former.named;
    done = λ r h. done_on r (former.done r h);
    genuine = λ n r ws x had e. former.genuine n r ws x had (edit_was r ws (former.done r had.0) e);
    said = λ n r x had unswept.
        let before : c.swept r ≡ false = not_true (c.swept r) (λ s. false≢true (sym unswept ∙ stays.swept r s)) in
        let k = unswept_edit c course r (former.done r had.0) before in
        let root = root_named f.document p (ap main_of former.named) r in
        ap (λ j. has_revision (now j) r) root.1
        ∙ stays.said root.0 r k.0 k.1 before (ap (λ j. has_revision (ds j) r) (sym root.1) ∙ former.said n r x had before);
  }

  -- what a bound sees and stands is done
  bound_done : (p : Path) (n : Name) (q : Revision) → c.bound q ≡ true → IsAmong (all_at ds p) n q → is_done c q ≡ true
  bound_done p n q b there =
      let x = some_of (of_revision (values_in n (all_at ds p)) q) there in
      entry_done (put_of p n) shows_value (property_at c.tree p n) c course (values_in n (all_at ds p)) ((keeps p).prop n) q x.0 x.1 (λ flies e. false≢true (sym (course.bound_done q flies e) ∙ b))

  followed_on : (p : Path) (d : Document) → now (id.Node p) ≡ Some d → (f : Former) → IsFormer ds c p f → IsFollowed ds c p f → IsFollowed now later p f
  followed_on p d is f former followed n r x had = elim (followed n r x had) [
    | inl there ↦ stays.stands p d is n r x (former.done r had.0) there
    | inr q ↦
        let y = some_of (of_revision (values_in n (all_at ds p)) q.0) q.3 in
        by q.0 y.0 q.1 q.2 (stays.stands p d is n q.0 y.0 (bound_done p n q.0 q.2 q.3) y.1)
  ]
    where
      by : (q : Revision) (y : Option Property) → is_before r q ≡ true → c.bound q ≡ true → IsKeptIn later.bound (all_at now p) n q y → IsKeptIn later.bound (all_at now p) n r x
      by q y before b (inl there) = inr (q, before, stays.bound q b, ap is_some there)
      by q y before b (inr more) = inr (more.0, before_trans r q more.0 before more.1, more.2, more.3)

  pub formers_on : (formers : Formers) → ((p : Path) (k : ℕ) (f : Former) (x : Document) → formers p k ≡ Some f → now (id.Prev k p) ≡ Some x → IsCopyOf p k f x) → AreFormers ds c formers → AreFormers now later formers
  formers_on formers copies are = record {
    listed = λ p d is e i.
        let o = stays.lists p d is e i in
        let l = are.listed p o.0 o.1 e o.2 in
        (l.0, l.1, followed_on p d is l.0 (are.former p e.number l.0 l.1) l.2);
    former = λ p k f h. former_on p f (are.former p k f h);
    there = λ p d is e i f h numbered. let o = stays.lists p d is e i in ap is_some o.3 ∙ are.there p o.0 o.1 e o.2 f h numbered;
    copies = copies;
  }

-- ---- the steps

-- what was there from the beginning isn't committed
pub old_alone : (c : Course) → IsCourse c → (r : Revision) → c.old r ≡ true → (c.old r ≡ true) × (edit_in c r ≡ None)
old_alone c course r old = (old, is_none (edit_in c r) (λ ws e. false≢true (sym (before_itself r) ∙ course.old_first r r ws old e)))

-- what a journal tells more
pub told_stays : (ds : Documents) (c later : Course) → ((r : Revision) (ws : List Write) → edit_in c r ≡ Some ws → edit_in later r ≡ Some ws) → ((r : Revision) → c.bound r ≡ true → later.bound r ≡ true) → ((r : Revision) → c.swept r ≡ true → later.swept r ≡ true)
    → ((r : Revision) → c.old r ≡ true → (later.old r ≡ true) × (edit_in later r ≡ None)) → StaysOn ds ds c later
told_stays ds c later edits bound swept old = record {
  edits = edits;
  bound = bound;
  swept = swept;
  old = old;
  said = λ p r ws e s h. h;
  lists = λ p d is e i. (d, is, i, refl);
  stands = λ p d is n q x done there. inl there;
}

module _ (ds now : Documents) (c : Course) (course : IsCourse c) where
  -- documents at one path change
  at_stays : (at : Path) → IsChangeAt ds now at → ((y : Path) (r : Revision) (ws : List Write) → edit_in c r ≡ Some ws → c.swept r ≡ false → has_revision (ds (id.Node y)) r ≡ true → has_revision (now (id.Node y)) r ≡ true)
      → ((d : Document) → now (id.Node at) ≡ Some d → (e : PrevEntry) → IsIn e d.prev → (old : Document) × (ds (id.Node at) ≡ Some old) × IsIn e old.prev × (now (id.Prev e.number at) ≡ ds (id.Prev e.number at)))
      → ((d : Document) → now (id.Node at) ≡ Some d → (n : Name) (q : Revision) (x : Option Property) → is_done c q ≡ true → of_revision (values_in n (all_at ds at)) q ≡ Some x → IsKeptIn c.bound (all_at now at) n q x) → StaysOn ds now c c
  at_stays at elsewhere said lists stands = record {
    edits = λ r ws e. e;
    bound = λ r h. h;
    swept = λ r h. h;
    old = old_alone c course;
    said = said;
    lists = λ p d is e i. listed_by p d is e i (eq_by_cmp path_cmp p at) refl;
    stands = λ p d is n q x done there. stands_by p d is n q x done there (eq_by_cmp path_cmp p at) refl;
  }
    where
      listed_by : (p : Path) (d : Document) → now (id.Node p) ≡ Some d → (e : PrevEntry) → IsIn e d.prev → (b : Bool) → eq_by_cmp path_cmp p at ≡ b → (old : Document) × (ds (id.Node p) ≡ Some old) × IsIn e old.prev × (now (id.Prev e.number p) ≡ ds (id.Prev e.number p))
      listed_by p d is e i false h = (d, sym (elsewhere.node p h) ∙ is, i, elsewhere.previous e.number p h)
      listed_by p d is e i true h =
          let one : p ≡ at = same_path p at h in
          subst (λ (z : Path). (old : Document) × (ds (id.Node z) ≡ Some old) × IsIn e old.prev × (now (id.Prev e.number z) ≡ ds (id.Prev e.number z))) (sym one) (lists d (ap (λ (z : Path). now (id.Node z)) (sym one) ∙ is) e i)

      stands_by : (p : Path) (d : Document) → now (id.Node p) ≡ Some d → (n : Name) (q : Revision) (x : Option Property) → is_done c q ≡ true → of_revision (values_in n (all_at ds p)) q ≡ Some x → (b : Bool) → eq_by_cmp path_cmp p at ≡ b → IsKeptIn c.bound (all_at now p) n q x
      stands_by p d is n q x done there false h = inl (ap (λ l. of_revision (values_in n l) q) (same_all ds now p p (elsewhere.node p h) (λ d e k i. elsewhere.previous e.number p h)) ∙ there)
      stands_by p d is n q x done there true h =
          let one : p ≡ at = same_path p at h in
          subst (λ (z : Path). IsKeptIn c.bound (all_at now z) n q x) (sym one)
          (stands d (ap (λ (z : Path). now (id.Node z)) (sym one) ∙ is) n q x done (subst (λ (z : Path). of_revision (values_in n (all_at ds z)) q ≡ Some x) one there))

  listed_before : (at : Path) (d : Document) → IsMainAt ds now at d → d.prev ≡ option_map_or (λ d. d.prev) (ds (id.Node at)) [] → (e : PrevEntry) → IsIn e d.prev → (old : Document) × (ds (id.Node at) ≡ Some old) × IsIn e old.prev × (now (id.Prev e.number at) ≡ ds (id.Prev e.number at))
  listed_before at d main whole e i = by (ds (id.Node at)) refl (subst (λ l. IsIn e l) whole i)
    where
      by : (o : Option Document) → ds (id.Node at) ≡ o → IsIn e (option_map_or (λ d. d.prev) o []) → (old : Document) × (ds (id.Node at) ≡ Some old) × IsIn e old.prev × (now (id.Prev e.number at) ≡ ds (id.Prev e.number at))
      by None h j = absurd j
      by (Some old) h j = (old, h, j, main.previous_here e.number)

  value_of : (at : Path) (d y : Document) → now (id.Node at) ≡ Some d → now (id.Node at) ≡ Some y → y ≡ d
  value_of at d y h k = ap (λ o. unwrap_or o y) (sym k ∙ h)

  -- a write, an undo, or marks
  pub besides_stays : (keeps : Keeps ds c) (at : Path) (d : Document) → IsMainAt ds now at d → (own : Sight) → AreOpen c own → IsSameBesides c own at (ds (id.Node at)) d → StaysOn ds now c c
  besides_stays keeps at d main own open_ same = at_stays at main.elsewhere (main_step.said ds now c keeps course at d main own open_ same)
      (λ y is e i. listed_before at d main same.whole e (subst (λ (z : Document). IsIn e z.prev) (value_of at d y main.at is) i))
      (λ y is n q x done there. inl (main_step.value_is ds now c keeps course at d main own open_ same n q (not_true (own q) (λ h. main_step.not_done ds now c keeps course at d main own open_ same q h done)) ∙ there))

  -- a document changes without entries
  pub same_stays : (at : Path) (d : Document) → IsMainAt ds now at d → ((y : Path) (r : Revision) (ws : List Write) → edit_in c r ≡ Some ws → c.swept r ≡ false → has_revision (ds (id.Node y)) r ≡ true → has_revision (now (id.Node y)) r ≡ true)
      → ((q : Revision) → IsSameAt q (ds (id.Node at)) d) → d.prev ≡ option_map_or (λ d. d.prev) (ds (id.Node at)) [] → StaysOn ds now c c
  same_stays at d main said same whole = at_stays at main.elsewhere said
      (λ y is e i. listed_before at d main whole e (subst (λ (z : Document). IsIn e z.prev) (value_of at d y main.at is) i))
      (λ y is n q x done there. inl (value_is n q ∙ there))
    where
      value_is : (n : Name) (q : Revision) → of_revision (values_in n (all_at now at)) q ≡ of_revision (values_in n (all_at ds at)) q
      value_is n q =
          value_now ds now at d main n q
          ∙ (ap (λ l. option_or (prop_entry (Some d) n q) (of_revision (values_in n l) q)) (listed_kept ds now at d main whole)
          ∙ (ap (λ o. option_or o (of_revision (values_in n (listed ds at (ds (id.Node at)))) q)) ((same q).prop n)
          ∙ sym (value_split ds at (ds (id.Node at)) n q)))

  -- entries go as garbage
  pub pruned_stays : (keeps : Keeps ds c) (at : Path) (old d : Document) → ds (id.Node at) ≡ Some old → IsMainAt ds now at d → IsPruned ds c at old d → StaysOn ds now c c
  pruned_stays keeps at old d is main pruned = at_stays at main.elsewhere (pruned_step.said ds now c keeps course at old d is main pruned)
      (λ y has e i. (old, is, pruned_step.in_filter pruned.prev.0 old.prev e (subst (λ l. IsIn e l) pruned.prev.1 (subst (λ (z : Document). IsIn e z.prev) (value_of at d y main.at has) i)), main.previous_here e.number))
      (λ y has n q x done there. elim (pruned_step.prop_each ds now c keeps course at old d is main pruned n q) [
        | inl same ↦ inl (same ∙ there)
        | inr gone ↦ inr gone.1
      ])

  -- a document of an absent node goes
  pub removed_stays : (at : Path) (old : Document) → ds (id.Node at) ≡ Some old → IsChangeAt ds now at → now (id.Node at) ≡ None → IsUnwanted c at old → StaysOn ds now c c
  removed_stays at old is elsewhere gone unwanted = at_stays at elsewhere said
      (λ y has e i. absurd (false≢true (ap is_some (sym gone ∙ has))))
      (λ y has n q x done there. absurd (false≢true (ap is_some (sym gone ∙ has))))
    where
      said : (y : Path) (r : Revision) (ws : List Write) → edit_in c r ≡ Some ws → c.swept r ≡ false → has_revision (ds (id.Node y)) r ≡ true → has_revision (now (id.Node y)) r ≡ true
      said y r ws e s h = by (eq_by_cmp path_cmp y at) refl
        where
          by : (b : Bool) → eq_by_cmp path_cmp y at ≡ b → has_revision (now (id.Node y)) r ≡ true
          by false k = ap (λ o. has_revision o r) (elsewhere.node y k) ∙ h
          by true k = absurd (false≢true (sym s ∙ unwanted.statuses r (sym (ap (λ o. has_revision o r) (ap (λ (x : Path). ds (id.Node x)) (same_path y at k) ∙ is)) ∙ h)))

  -- nodes' documents, and the previous ones that they list, stay
  listed_stays : ((p : Path) → now (id.Node p) ≡ ds (id.Node p)) → ((p : Path) (d : Document) (e : PrevEntry) → ds (id.Node p) ≡ Some d → IsIn e d.prev → now (id.Prev e.number p) ≡ ds (id.Prev e.number p)) → StaysOn ds now c c
  listed_stays node previous = record {
    edits = λ r ws e. e;
    bound = λ r h. h;
    swept = λ r h. h;
    old = old_alone c course;
    said = λ p r ws e s h. ap (λ o. has_revision o r) (node p) ∙ h;
    lists = λ p d is e i. (d, sym (node p) ∙ is, i, previous p d e (sym (node p) ∙ is) i);
    stands = λ p d is n q x done there. inl (ap (λ l. of_revision (values_in n l) q) (same_all ds now p p (node p) (previous p)) ∙ there);
  }

  -- documents of no node change
  pub others_stay : ((p : Path) → now (id.Node p) ≡ ds (id.Node p)) → ((k : ℕ) (p : Path) → now (id.Prev k p) ≡ ds (id.Prev k p)) → StaysOn ds now c c
  others_stay node previous = listed_stays node (λ p d e is i. previous e.number p)

  -- a previous document that nobody lists comes or goes
  pub previous_stays : (at : Path) (k : ℕ) → IsPreviousAt ds now at k → IsUnlisted ds at k → StaysOn ds now c c
  previous_stays at k change unlisted = listed_stays change.node (λ p d e is i. by p d e is i (eq_by_cmp path_cmp p at) refl)
    where
      by : (p : Path) (d : Document) (e : PrevEntry) → ds (id.Node p) ≡ Some d → IsIn e d.prev → (b : Bool) → eq_by_cmp path_cmp p at ≡ b → now (id.Prev e.number p) ≡ ds (id.Prev e.number p)
      by p d e is i false h = change.elsewhere e.number p h
      by p d e is i true h =
          let one : p ≡ at = same_path p at h in
          subst (λ (z : Path). now (id.Prev e.number z) ≡ ds (id.Prev e.number z)) (sym one) (change.other e.number (λ n. unlisted d (ap (λ (z : Path). ds (id.Node z)) (sym one) ∙ is) e i n))

-- ---- a split lists what it moved: the document becomes a former one

-- a former document more, of a number that had none
pub grows_by : (formers : Formers) (p : Path) (k : ℕ) (f : Former) → formers p k ≡ None → FormersGrow formers (with_former formers p k f)
grows_by formers p k f new q j g h = by (eq_by_cmp path_cmp q p) refl (j == k) refl
  where
    by : (a : Bool) → eq_by_cmp path_cmp q p ≡ a → (b : Bool) → (j == k) ≡ b → cond (eq_by_cmp path_cmp q p && (j == k)) (Some f) (formers q j) ≡ Some g
    by false m b n = ap (λ c. cond (c && (j == k)) (Some f) (formers q j)) m ∙ h
    by true m false n = ap (λ c. cond (c && (j == k)) (Some f) (formers q j)) m ∙ (ap (λ c. cond c (Some f) (formers q j)) n ∙ h)
    by true m true n = absurd (false≢true (sym (ap is_some (ap (λ (z : Path). formers z k) (same_path q p m) ∙ new)) ∙ ap is_some (ap (formers q) (sym (number_same j k n)) ∙ h)))

module _ (ds now : Documents) (c : Course) (keeps : Keeps ds c) (course : IsCourse c) (p : Path) (old d : Document) (e : PrevEntry) (x : Document) (is : ds (id.Node p) ≡ Some old) (there : ds (id.Prev e.number p) ≡ Some x) (main : IsMainAt ds now p d) (moved : IsMoved c p old d e x) (number : e.number ≡ old.mod_count) where
  abbrev f : Former
  f = former_now c old

  old_in : IsIn old (all_at ds p)
  old_in = moved_step.old_in ds now c keeps p old d e x is there main moved

  -- what it had stands at the path
  old_there : (n : Name) (r : Revision) (y : Option Property) → of_revision (values_of_property old.props n) r ≡ Some y → of_revision (values_in n (all_at ds p)) r ≡ Some y
  old_there n r y h = moved_step.value_was ds now c keeps p old d e x is there main moved n r ∙ ap (λ o. option_or o (of_revision (values_in n (listed ds p (Some old))) r)) h

  -- what x has it had
  had_it : (n : Name) (r : Revision) (y : Option Property) → of_revision (values_of_property x.props n) r ≡ Some y → of_revision (values_of_property old.props n) r ≡ Some y
  had_it n r y h = sym (moved.props n r) ∙ (ap (λ o. option_or o (of_revision (values_of_property x.props n) r)) (moved.parted n r (ap is_some h)) ∙ h)

  moved_said : (y : Path) (r : Revision) (ws : List Write) → edit_in c r ≡ Some ws → c.swept r ≡ false → has_revision (ds (id.Node y)) r ≡ true → has_revision (now (id.Node y)) r ≡ true
  moved_said = moved_step.said ds now c keeps p old d e x is there main moved

  -- it becomes a former document
  former_new : IsFormer now c p f
  former_new = record {
    named = (keeps p).named old is;
    done = λ r h. h;
    genuine = λ n r ws y had k. ((keeps p).prop n).genuine r ws y k (old_there n r y had.1);
    said = λ n r y had unswept.
        let k = unswept_edit c course r had.0 unswept in
        let root = root_named old p (ap main_of ((keeps p).named old is)) r in
        ap (λ j. has_revision (now j) r) root.1
        ∙ moved_said root.0 r k.0 k.1 unswept (ap (λ j. has_revision (ds j) r) (sym root.1) ∙ (keeps p).rooted old old_in r k.0 k.1 unswept (inr (n, ap is_some had.1)));
  }

  followed_new : IsFollowed now c p f
  followed_new n r y had = inl (moved_step.value_is ds now c keeps p old d e x is there main moved n r ∙ old_there n r y had.1)

  copy_new : IsCopyOf p e.number f x
  copy_new = record {
    numbered = sym number;
    named = moved.listed.named;
    plain = moved.listed.plain;
    had = λ n r y h. (moved.listed.done n r (ap is_some h), had_it n r y h);
    roots = λ n r h. moved_step.same_place ds now c keeps p old d e x is there main moved _ _ (moved.noted n r h) x old (ap main_of moved.listed.named ∙ sym (ap main_of ((keeps p).named old is))) (ap path_of moved.listed.named ∙ sym (ap path_of ((keeps p).named old is)));
  }

  pub formers_moved : (formers : Formers) → formers p e.number ≡ None → AreFormers ds c formers → AreFormers now c (with_former formers p e.number f)
  formers_moved formers new are = record {
    listed = λ q y h g i. listed_by q y h g i (eq_by_cmp path_cmp q p) refl;
    former = λ q k g h. former_by q k g h (eq_by_cmp path_cmp q p) refl (k == e.number) refl;
    there = λ q y h g i z f m. there_by q y h g i z f m (eq_by_cmp path_cmp q p) refl;
    copies = λ q k g z h there. copies_by q k g z h there (eq_by_cmp path_cmp q p) refl (k == e.number) refl;
  }
    where
      more : FormersGrow formers (with_former formers p e.number f)
      more = grows_by formers p e.number f new

      -- what stood stands
      followed_still : (q : Path) (y : Document) → now (id.Node q) ≡ Some y → (g : Former) → IsFormer ds c q g → IsFollowed ds c q g → IsFollowed now c q g
      followed_still q y h g former followed n r u had = elim (followed n r u had) [ inl at ↦ inl (stands q n r ∙ at) | inr z ↦ inr (z.0, z.1, z.2, ap is_some (stands q n z.0) ∙ z.3) ]
        where
          stands : (q : Path) (n : Name) (r : Revision) → of_revision (values_in n (all_at now q)) r ≡ of_revision (values_in n (all_at ds q)) r
          stands q n r = by (eq_by_cmp path_cmp q p) refl
            where
              by : (b : Bool) → eq_by_cmp path_cmp q p ≡ b → of_revision (values_in n (all_at now q)) r ≡ of_revision (values_in n (all_at ds q)) r
              by false m = ap (λ l. of_revision (values_in n l) r) (same_all ds now q q (main.elsewhere.node q m) (λ d g k i. main.elsewhere.previous g.number q m))
              by true m =
                  let one : q ≡ p = same_path q p m in
                  subst (λ (z : Path). of_revision (values_in n (all_at now z)) r ≡ of_revision (values_in n (all_at ds z)) r) (sym one) (moved_step.value_is ds now c keeps p old d e x is there main moved n r)

      former_still : (q : Path) (g : Former) → IsFormer ds c q g → IsFormer now c q g
      former_still q g former = record {
        named = former.named;
        done = former.done;
        genuine = former.genuine;
        said = λ n r y had unswept.
            let k = unswept_edit c course r (former.done r had.0) unswept in
            let root = root_named g.document q (ap main_of former.named) r in
            ap (λ j. has_revision (now j) r) root.1
            ∙ moved_said root.0 r k.0 k.1 unswept (ap (λ j. has_revision (ds j) r) (sym root.1) ∙ former.said n r y had unswept);
      }

      old_listed : (q : Path) (y u : Document) → now (id.Node q) ≡ Some y → ds (id.Node q) ≡ Some u → (g : PrevEntry) → IsIn g u.prev → (z : Former) × (with_former formers p e.number f q g.number ≡ Some z) × IsFollowed now c q z
      old_listed q y u h was g i =
          let l = are.listed q u was g i in
          (l.0, more q g.number l.0 l.1, followed_still q y h l.0 (are.former q g.number l.0 l.1) l.2)

      listed_by : (q : Path) (y : Document) → now (id.Node q) ≡ Some y → (g : PrevEntry) → IsIn g y.prev → (b : Bool) → eq_by_cmp path_cmp q p ≡ b → (z : Former) × (with_former formers p e.number f q g.number ≡ Some z) × IsFollowed now c q z
      listed_by q y h g i false m = old_listed q y y h (sym (main.elsewhere.node q m) ∙ h) g i
      listed_by q y h g i true m =
          let one : q ≡ p = same_path q p m in
          let same : y ≡ d = ap (λ o. unwrap_or o y) (sym h ∙ (ap (λ (z : Path). now (id.Node z)) one ∙ main.at)) in
          here one (subst (λ l. IsIn g l) moved.prev (subst (λ (z : Document). IsIn g z.prev) same i))
        where
          itself : (k : ℕ) → (k == k) ≡ true
          itself k = Rattle.core_keep.proofs.Going.itself k

          here : q ≡ p → (e ≡ g) ⊎ IsIn g old.prev → (z : Former) × (with_former formers p e.number f q g.number ≡ Some z) × IsFollowed now c q z
          here one (inr j) = old_listed q y old h (ap (λ (z : Path). ds (id.Node z)) one ∙ is) g j
          here one (inl new) = (
            f,
            ap (λ b. cond (b && (g.number == e.number)) (Some f) (formers q g.number)) m ∙ ap (λ b. cond b (Some f) (formers q g.number)) (ap (λ (z : PrevEntry). z.number == e.number) (sym new) ∙ itself e.number),
            subst (λ (z : Path). IsFollowed now c z f) (sym one) followed_new,
          )

      -- which former document it is
      which : (q : Path) (k : ℕ) (g : Former) → with_former formers p e.number f q k ≡ Some g → (a : Bool) → eq_by_cmp path_cmp q p ≡ a → (b : Bool) → (k == e.number) ≡ b → (formers q k ≡ Some g) ⊎ ((q ≡ p) × (k ≡ e.number) × (f ≡ g))
      which q k g h false m b n = inl (sym (ap (λ c. cond (c && (k == e.number)) (Some f) (formers q k)) m) ∙ h)
      which q k g h true m false n = inl (sym (ap (λ c. cond (c && (k == e.number)) (Some f) (formers q k)) m ∙ ap (λ c. cond c (Some f) (formers q k)) n) ∙ h)
      which q k g h true m true n = inr (same_path q p m, number_same k e.number n, ap (λ o. unwrap_or o f) (sym (ap (λ c. cond (c && (k == e.number)) (Some f) (formers q k)) m ∙ ap (λ c. cond c (Some f) (formers q k)) n) ∙ h))

      former_by : (q : Path) (k : ℕ) (g : Former) → with_former formers p e.number f q k ≡ Some g → (a : Bool) → eq_by_cmp path_cmp q p ≡ a → (b : Bool) → (k == e.number) ≡ b → IsFormer now c q g
      former_by q k g h a m b n = elim (which q k g h a m b n) [
        | inl was ↦ former_still q g (are.former q k g was)
        | inr one ↦ subst (λ (z : Path). IsFormer now c z g) (sym one.0) (subst (λ (z : Former). IsFormer now c p z) one.2 former_new)
      ]

      previous_still : (q : Path) (k : ℕ) (b : Bool) → eq_by_cmp path_cmp q p ≡ b → now (id.Prev k q) ≡ ds (id.Prev k q)
      previous_still q k false m = main.elsewhere.previous k q m
      previous_still q k true m = subst (λ (z : Path). now (id.Prev k z) ≡ ds (id.Prev k z)) (sym (same_path q p m)) (main.previous_here k)

      copies_by : (q : Path) (k : ℕ) (g : Former) (z : Document) → with_former formers p e.number f q k ≡ Some g → now (id.Prev k q) ≡ Some z → (a : Bool) → eq_by_cmp path_cmp q p ≡ a → (b : Bool) → (k == e.number) ≡ b → IsCopyOf q k g z
      copies_by q k g z h at a m b n = elim (which q k g h a m b n) [
        | inl was ↦ are.copies q k g z was (sym (previous_still q k a m) ∙ at)
        | inr one ↦
            let same : x ≡ z = ap (λ o. unwrap_or o x) (sym there ∙ (ap (λ (j : ℕ). ds (id.Prev j p)) (sym one.1) ∙ (ap (λ (y : Path). ds (id.Prev k y)) (sym one.0) ∙ (sym (previous_still q k a m) ∙ at)))) in
            subst (λ (y : Path). IsCopyOf y k g z) (sym one.0) (subst (λ (j : ℕ). IsCopyOf p j g z) (sym one.1) (subst (λ (y : Former). IsCopyOf p e.number y z) one.2 (subst (λ (y : Document). IsCopyOf p e.number f y) same copy_new)))
      ]

      there_by : (q : Path) (y : Document) → now (id.Node q) ≡ Some y → (g : PrevEntry) → IsIn g y.prev → (z : Former) → with_former formers p e.number f q g.number ≡ Some z → z.document.mod_count ≡ g.number → (b : Bool) → eq_by_cmp path_cmp q p ≡ b → is_some (now (id.Prev g.number q)) ≡ true
      there_by q y h g i z has numbered b m = here b m (which q g.number z has b m (g.number == e.number) refl)
        where
          at_old : (u : Document) → ds (id.Node q) ≡ Some u → IsIn g u.prev → formers q g.number ≡ Some z → is_some (now (id.Prev g.number q)) ≡ true
          at_old u was j k = ap is_some (previous_still q g.number b m) ∙ are.there q u was g j z k numbered

          it : q ≡ p → g.number ≡ e.number → is_some (now (id.Prev g.number q)) ≡ true
          it one same = ap is_some (ap (λ (j : ℕ). now (id.Prev j q)) same ∙ (ap (λ (u : Path). now (id.Prev e.number u)) one ∙ (main.previous_here e.number ∙ there)))

          here : (b : Bool) → eq_by_cmp path_cmp q p ≡ b → (formers q g.number ≡ Some z) ⊎ ((q ≡ p) × (g.number ≡ e.number) × (f ≡ z)) → is_some (now (id.Prev g.number q)) ≡ true
          here b m (inr new) = it new.0 new.1
          here false m (inl was) = at_old y (sym (main.elsewhere.node q m) ∙ h) i was
          here true m (inl was) =
              let one : q ≡ p = same_path q p m in
              let same : y ≡ d = ap (λ o. unwrap_or o y) (sym h ∙ (ap (λ (u : Path). now (id.Node u)) one ∙ main.at)) in
              listed one (subst (λ l. IsIn g l) moved.prev (subst (λ (u : Document). IsIn g u.prev) same i))
            where
              listed : q ≡ p → (e ≡ g) ⊎ IsIn g old.prev → is_some (now (id.Prev g.number q)) ≡ true
              listed one (inl new) = it one (ap (λ (u : PrevEntry). u.number) (sym new))
              listed one (inr j) = at_old old (ap (λ (u : Path). ds (id.Node u)) one ∙ is) j was

-- what isn't there, under a number that a former document had, isn't listed
pub missing_unlisted : (ds : Documents) (c : Course) (formers : Formers) → AreFormers ds c formers → (p : Path) (k : ℕ) → ((f : Former) → formers p k ≡ Some f → f.document.mod_count ≡ k) → ds (id.Prev k p) ≡ None → IsUnlisted ds p k
missing_unlisted ds c formers are p k numbered none d is e i one =
    let f = are.listed p d is e i in
    false≢true (ap is_some (sym none ∙ ap (λ (j : ℕ). ds (id.Prev j p)) (sym one)) ∙ are.there p d is e i f.0 f.1 (numbered f.0 (ap (λ (j : ℕ). formers p j) (sym one) ∙ f.1) ∙ sym one))
