-- A reader that finds a previous document which was written again after another of its number had gone reads the tree still: it is a copy of what a former document had, and that is shown by what the reader goes by.
use Rattle.std.proofs.Common.{◌≡◌, ◌⊎◌, inl, inr, ℕ, Bool, true, false, cond, ◌||◌, Some, None, Option, List, [], ◌∷◌, ◌++◌, refl, sym, ap, ◌∙◌, subst, is_some}
use Rattle.std.proofs.Math.Path.{fun_ext}
use Rattle.std.specs.Prelude.{◌==◌, IsTrue}
use Rattle.std.specs.Option.{option_map_or, option_or, unwrap_or}
use Rattle.std.specs.List.{filter, filter_map, cons_option}
use mathlib.Core.Bool.{false≢true}
use Rattle.jr_path.specs.declared.name.Name.{Name}
use Rattle.jr_path.specs.declared.path.Path.{Path}
use Rattle.jr_path.specs.declared.path.DocId.TheVariants as id
use Rattle.jr_value.specs.declared.value.Property.{Property}
use Rattle.jr_rev.specs.declared.revision.Revision.{Revision}
use Rattle.jr_rev.specs.Revisions.{is_before}
use Rattle.jr_rev.proofs.Entries.{number_same}
use Rattle.jr_tree.specs.Trees.{born_at, property_at}
use Rattle.jr_tree.specs.declared.edit.Write.{Write}
use Rattle.jr_tree.specs.Items.{put_of, written}
use Rattle.oak_doc.specs.declared.document.Document.{Document}
use Rattle.oak_doc.specs.declared.document.PrevEntry.{PrevEntry}
use Rattle.oak_doc.specs.Updates.{of_revision, values_of_property}
use Rattle.oak_read.specs.Meaning.{Documents, commit_root_of, latest}
use Rattle.core_read.specs.Commits.{Sight, last_entry}
use Rattle.core_read.specs.Holds.{has_revision}
use Rattle.core_read.specs.Told.{IsIn}
use Rattle.core_keep.specs.Standing.{all_at, gone_of, gone_in, values_in, shows_node, shows_value, HasEntryOf}
use Rattle.core_keep.specs.Keeps.{Course, edit_in, is_done, Matches, IsHeldPair}
use Rattle.core_keep.specs.Readers.{gone_by, Reads, asked_too, look_too}
use Rattle.core_keep.specs.Formers.{Former, IsAmong, IsCopyOf, IsFollowed, IsFormer, IsKeptIn, IsShownIn}
use Rattle.oak_read.specs.Shown.{with_previous}
use Rattle.core_keep.proofs.Item.{latest_of, not_true, some_of, cond_some}
use Rattle.core_keep.proofs.Found.{found_append}
use Rattle.core_keep.proofs.Readers.{look_in, in_look, last_left, no_gone, reads_previous}

-- it goes by what is there already
pub same_too : (look : ℕ → Option Document) (k : ℕ) (o : Option Document) → look k ≡ o → look_too look k o ≡ look
same_too look k o is = fun_ext (λ j. by j (j == k) refl)
  where
    by : (j : ℕ) (b : Bool) → (j == k) ≡ b → cond b o (look j) ≡ look j
    by j true h = sym is ∙ ap look (sym (number_same j k h))
    by j false h = refl

pub unasked_too : (asked : ℕ → Bool) (k j : ℕ) → asked_too asked k j ≡ false → ((j == k) ≡ false) × (asked j ≡ false)
unasked_too asked k j = by (j == k)
  where
    by : (b : Bool) → cond b true (asked j) ≡ false → (b ≡ false) × (asked j ≡ false)
    by true h = absurd (false≢true (sym h))
    by false h = (refl, h)

module _ (copy : Document) (look : ℕ → Option Document) (k : ℕ) (x : Document) (none : look k ≡ None) where
  abbrev more : ℕ → Option Document
  more = look_too look k (Some x)

  -- what it goes by is what it went by, or the one that it finds
  each_more : (e : PrevEntry) → (more e.number ≡ look e.number) ⊎ ((e.number ≡ k) × (more e.number ≡ Some x) × (look e.number ≡ None))
  each_more e = by (e.number == k) refl
    where
      by : (b : Bool) → (e.number == k) ≡ b → (cond b (Some x) (look e.number) ≡ look e.number) ⊎ ((e.number ≡ k) × (cond b (Some x) (look e.number) ≡ Some x) × (look e.number ≡ None))
      by false h = inl refl
      by true h = let one = number_same e.number k h in inr (one, refl, ap look one ∙ none)

  was_or : (y : Document) → IsIn y (gone_by copy more) → IsIn y (gone_by copy look) ⊎ (x ≡ y)
  was_or y (inl one) = inl (inl one)
  was_or y (inr i) =
      let g = look_in more copy.prev y i in
      elim (each_more g.0) [
        | inl same ↦ inl (inr (in_look look copy.prev g.0 y g.1 (sym same ∙ g.2)))
        | inr new ↦ inr (ap (λ o. unwrap_or o x) (sym new.1 ∙ g.2))
      ]

  module _ (n : Name) (q : Revision) where
    -- an entry over these documents is that over those, or that of the one that it finds
    abbrev pub IsOver : List Document → List Document → Type 0
    IsOver a b = (of_revision (values_in n a) q ≡ of_revision (values_in n b) q) ⊎ ((y : Option Property) × (of_revision (values_of_property x.props n) q ≡ Some y) × (of_revision (values_in n a) q ≡ Some y))

    front : (z : Document) (a : List Document) (o : Option (Option Property)) → of_revision (values_of_property z.props n) q ≡ o → of_revision (values_in n (z ∷ a)) q ≡ option_or o (of_revision (values_in n a) q)
    front z a o h = found_append (values_of_property z.props n) (values_in n a) q ∙ ap (λ o. option_or o (of_revision (values_in n a) q)) h

    -- with the same document before both
    before : (z : Document) (a b : List Document) → IsOver a b → IsOver (z ∷ a) (z ∷ b)
    before z a b over = by (of_revision (values_of_property z.props n) q) refl over
      where
        by : (o : Option (Option Property)) → of_revision (values_of_property z.props n) q ≡ o → IsOver a b → IsOver (z ∷ a) (z ∷ b)
        by (Some w) h o = inl (front z a (Some w) h ∙ sym (front z b (Some w) h))
        by None h (inl same) = inl (front z a None h ∙ (same ∙ sym (front z b None h)))
        by None h (inr new) = inr (new.0, new.1, front z a None h ∙ new.2)

    -- with the one that it finds
    put : (a b : List Document) → IsOver a b → IsOver (x ∷ a) b
    put a b over = by (of_revision (values_of_property x.props n) q) refl over
      where
        by : (o : Option (Option Property)) → of_revision (values_of_property x.props n) q ≡ o → IsOver a b → IsOver (x ∷ a) b
        by (Some w) h o = inr (w, h, front x a (Some w) h)
        by None h (inl same) = inl (front x a None h ∙ same)
        by None h (inr new) = inr (new.0, new.1, front x a None h ∙ new.2)

    over_more : (es : List PrevEntry) → IsOver (filter_map (λ e. more e.number) es) (filter_map (λ e. look e.number) es)
    over_more [] = inl refl
    over_more (e ∷ es) = by (each_more e) (over_more es)
      where
        both : (o : Option Document) → IsOver (filter_map (λ e. more e.number) es) (filter_map (λ e. look e.number) es) → IsOver (cons_option o (filter_map (λ e. more e.number) es)) (cons_option o (filter_map (λ e. look e.number) es))
        both None over = over
        both (Some z) over = before z (filter_map (λ e. more e.number) es) (filter_map (λ e. look e.number) es) over

        by : (more e.number ≡ look e.number) ⊎ ((e.number ≡ k) × (more e.number ≡ Some x) × (look e.number ≡ None)) → IsOver (filter_map (λ e. more e.number) es) (filter_map (λ e. look e.number) es)
            → IsOver (cons_option (more e.number) (filter_map (λ e. more e.number) es)) (cons_option (look e.number) (filter_map (λ e. look e.number) es))
        by (inl same) over = subst (λ o. IsOver (cons_option o (filter_map (λ e. more e.number) es)) (cons_option (look e.number) (filter_map (λ e. look e.number) es))) (sym same) (both (look e.number) over)
        by (inr new) over = subst (λ o. IsOver (cons_option o (filter_map (λ e. more e.number) es)) (cons_option (look e.number) (filter_map (λ e. look e.number) es))) (sym new.1)
            (subst (λ o. IsOver (x ∷ filter_map (λ e. more e.number) es) (cons_option o (filter_map (λ e. look e.number) es))) (sym new.2) (put (filter_map (λ e. more e.number) es) (filter_map (λ e. look e.number) es) over))

    pub value_more : IsOver (gone_by copy more) (gone_by copy look)
    value_more = before copy (filter_map (λ e. more e.number) copy.prev) (filter_map (λ e. look e.number) copy.prev) (over_more copy.prev)

    -- what stood stands
    still_more : is_some (of_revision (values_in n (gone_by copy look)) q) ≡ true → is_some (of_revision (values_in n (gone_by copy more)) q) ≡ true
    still_more h = elim value_more [ inl same ↦ ap is_some same ∙ h | inr new ↦ ap is_some new.2 ]

  -- what shows a former document shows it still, where what it finds is a copy of one that is shown
  pub shown_more : (v : Sight) (f g : Former) (p : Path) → IsCopyOf p k g x → IsShownIn v g (gone_by copy look) → IsShownIn v f (gone_by copy look) → IsShownIn v f (gone_by copy more)
  shown_more v f g p copied its shown n r y had seen = elim (shown n r y had seen) [
    | inl there ↦ elim (value_more n r) [
      | inl same ↦ inl (same ∙ there)
      | inr new ↦ by new.0 new.2 there (its n r new.0 (copied.had n r new.0 new.1) seen)
    ]
    | inr q ↦ inr (later q)
  ]
    where
      later : (q : Revision) × IsTrue (is_before r q) × IsTrue (v q) × IsAmong (gone_by copy look) n q → (q : Revision) × IsTrue (is_before r q) × IsTrue (v q) × IsAmong (gone_by copy more) n q
      later q = (q.0, q.1, q.2, still_more n q.0 q.3)

      by : (z : Option Property) → of_revision (values_in n (gone_by copy more)) r ≡ Some z → of_revision (values_in n (gone_by copy look)) r ≡ Some y → IsKeptIn v (gone_by copy look) n r z → IsKeptIn v (gone_by copy more) n r y
      by z now there (inl same) = inl (now ∙ (sym same ∙ there))
      by z now there (inr q) = inr (later q)

-- ---- the reader finds one that it didn't go by

module _ (ds : Documents) (c : Course) (v t : Sight) (p : Path) (copy : Document) (asked : ℕ → Bool) (look : ℕ → Option Document) (reads : Reads ds c v t p copy asked look) (held : IsHeldPair c v t)
    (k : ℕ) (x : Document) (none : look k ≡ None) (f : Former) (former : IsFormer ds c p f) (copied : IsCopyOf p k f x) (shown : IsShownIn v f (gone_by copy look)) where
  abbrev new_look : ℕ → Option Document
  new_look = look_too look k (Some x)

  -- an entry of it is what a commit writes
  pub wrote : (n : Name) (q : Revision) (ws : List Write) (y : Option Property) → edit_in c q ≡ Some ws → of_revision (values_of_property x.props n) q ≡ Some y → written (put_of p n) ws ≡ Some y
  wrote n q ws y e h = former.genuine n q ws y (copied.had n q y h) e

  module _ (n : Name) where
    abbrev before_it : List (Revision × Option Property)
    before_it = values_in n (gone_by copy look)

    abbrev with_it : List (Revision × Option Property)
    with_it = values_in n (gone_by copy new_look)

    abbrev Later : Revision → Type 0
    Later q = (r : Revision) × (is_before q r ≡ true) × (v r ≡ true) × (is_some (of_revision before_it r) ≡ true)

    -- of what is seen the same stood, or a later one
    each : (q : Revision) → v q ≡ true → (of_revision before_it q ≡ of_revision with_it q) ⊎ Later q
    each q seen = elim (value_more copy look k x none n q) [
      | inl same ↦ inl (sym same)
      | inr new ↦ by new.0 new.2 (shown n q new.0 (copied.had n q new.0 new.1) seen)
    ]
      where
        by : (y : Option Property) → of_revision with_it q ≡ Some y → IsKeptIn v (gone_by copy look) n q y → (of_revision before_it q ≡ of_revision with_it q) ⊎ Later q
        by y now (inl there) = inl (there ∙ sym now)
        by y now (inr later) = inr later

    value_same : latest (filter (λ e. v e.0) with_it) ≡ latest (filter (λ e. v e.0) before_it)
    value_same = sym (last_left v with_it before_it each (λ q h. still_more copy look k x none n q h))

  previous_new : (e : PrevEntry) → IsIn e copy.prev → (y : Document) → new_look e.number ≡ Some y → (y.id ≡ id.Prev e.number p) × (y.deleted ≡ [])
  previous_new e i y h = elim (each_more copy look k x none e) [
    | inl same ↦ reads.previous e i y (sym same ∙ h)
    | inr new ↦
        let one : x ≡ y = ap (λ o. unwrap_or o x) (sym new.1 ∙ h) in
        (ap (λ (z : Document). z.id) (sym one) ∙ (copied.named ∙ ap (λ (j : ℕ). id.Prev j p) (sym new.0)), ap (λ (z : Document). z.deleted) (sym one) ∙ copied.plain)
  ]

  pub gone_same : gone_in (gone_by copy new_look) ≡ gone_in (gone_by copy look)
  gone_same = ap (λ l. copy.deleted ++ l) (no_gone copy new_look (λ e i y h. (previous_new e i y h).1) ∙ sym (no_gone copy look (λ e i y h. (reads.previous e i y h).1)))

  done_new : (y : Document) → IsIn y (gone_by copy new_look) → (r : Revision) → v r ≡ true → HasEntryOf r y → is_done c r ≡ true
  done_new y i r seen entry = elim (was_or copy look k x none y i) [
    | inl was ↦ reads.done y was r seen entry
    | inr one ↦ own (subst (λ (z : Document). HasEntryOf r z) (sym one) entry)
  ]
    where
      own : HasEntryOf r x → is_done c r ≡ true
      own (inl h) = absurd (false≢true (ap (λ (es : List (Revision × Bool)). is_some (of_revision es r)) (sym copied.plain) ∙ h))
      own (inr h) = let y = some_of (of_revision (values_of_property x.props h.0) r) h.1 in former.done r (copied.had h.0 r y.0 y.1).0

  said_new : (y : Document) → IsIn y (gone_by copy new_look) → (r : Revision) → v r ≡ true → t r ≡ false → HasEntryOf r y → has_revision (ds (commit_root_of y r)) r ≡ true
  said_new y i r seen unswept entry = elim (was_or copy look k x none y i) [
    | inl was ↦ reads.said y was r seen unswept entry
    | inr one ↦ subst (λ (z : Document). has_revision (ds (commit_root_of z r)) r ≡ true) one (own (subst (λ (z : Document). HasEntryOf r z) (sym one) entry))
  ]
    where
      own : HasEntryOf r x → has_revision (ds (commit_root_of x r)) r ≡ true
      own (inl h) = absurd (false≢true (ap (λ (es : List (Revision × Bool)). is_some (of_revision es r)) (sym copied.plain) ∙ h))
      own (inr h) =
          let y = some_of (of_revision (values_of_property x.props h.0) r) h.1 in
          ap (λ j. has_revision (ds j) r) (copied.roots h.0 r h.1)
          ∙ former.said h.0 r y.0 (copied.had h.0 r y.0 y.1) (not_true (c.swept r) (λ s. false≢true (sym unswept ∙ held.sweep r s)))

  stayed : (e : PrevEntry) → asked_too asked k e.number ≡ false → new_look e.number ≡ look e.number
  stayed e a = ap (λ b. cond b (Some x) (look e.number)) (unasked_too asked k e.number a).0

  reads_new : Reads ds c v t p copy (asked_too asked k) new_look
  reads_new = record {
    follows = λ e i a. elim (reads.follows e i (unasked_too asked k e.number a).1) [ inl one ↦ inl (stayed e a ∙ one) | inr nothing ↦ inr (stayed e a ∙ nothing) ];
    node = subst (λ (l : List (Revision × Bool)). Matches shows_node (born_at c.tree p) (last_entry (gone_of p) v c.commits) (latest (filter (λ e. v e.0) l))) (sym gone_same) reads.node;
    prop = λ n. subst (λ o. Matches shows_value (property_at c.tree p n) (last_entry (put_of p n) v c.commits) o) (sym (value_same n)) (reads.prop n);
    named = reads.named;
    previous = previous_new;
    done = done_new;
    said = said_new;
    within = reads.within;
    left = λ e i a y h. reads.left e i (unasked_too asked k e.number a).1 y (sym (stayed e a) ∙ h);
  }

-- ---- what a reader finds

-- a reader asks for a previous document that its copy lists: it is what it went by, or it went by nothing, and a copy of what a former document had is there, or nothing
pub reads_found : (ds : Documents) (c : Course) (v t : Sight) (p : Path) (copy : Document) (asked : ℕ → Bool) (look : ℕ → Option Document) → Reads ds c v t p copy asked look → IsHeldPair c v t
    → (k : ℕ) (f : Former) → IsFormer ds c p f → ((x : Document) → ds (id.Prev k p) ≡ Some x → IsCopyOf p k f x) → IsShownIn v f (gone_by copy look)
    → (look k ≡ ds (id.Prev k p)) ⊎ (look k ≡ None) → Reads ds c v t p copy (asked_too asked k) (look_too look k (ds (id.Prev k p)))
reads_found ds c v t p copy asked look reads held k f former copied shown way = by (ds (id.Prev k p)) refl way
  where
    same : (o : Option Document) → look k ≡ o → Reads ds c v t p copy (asked_too asked k) (look_too look k o)
    same o is = subst (λ l. Reads ds c v t p copy (asked_too asked k) l) (sym (same_too look k o is)) (reads_previous ds c v t p copy asked look reads k)

    by : (o : Option Document) → ds (id.Prev k p) ≡ o → (look k ≡ o) ⊎ (look k ≡ None) → Reads ds c v t p copy (asked_too asked k) (look_too look k o)
    by o is (inl one) = same o one
    by None is (inr none) = same None none
    by (Some x) is (inr none) = reads_new ds c v t p copy asked look reads held k x none f former (copied x is) shown

-- and what shows a former document shows it still
pub shown_found : (ds : Documents) (copy : Document) (look : ℕ → Option Document) (v : Sight) (p : Path) (f g : Former) (k : ℕ) → ((x : Document) → ds (id.Prev k p) ≡ Some x → IsCopyOf p k g x) → IsShownIn v g (gone_by copy look) → (look k ≡ ds (id.Prev k p)) ⊎ (look k ≡ None)
    → IsShownIn v f (gone_by copy look) → IsShownIn v f (gone_by copy (look_too look k (ds (id.Prev k p))))
shown_found ds copy look v p f g k copied its way shown = by (ds (id.Prev k p)) refl way
  where
    same : (o : Option Document) → look k ≡ o → IsShownIn v f (gone_by copy (look_too look k o))
    same o is = subst (λ (l : ℕ → Option Document). IsShownIn v f (gone_by copy l)) (sym (same_too look k o is)) shown

    by : (o : Option Document) → ds (id.Prev k p) ≡ o → (look k ≡ o) ⊎ (look k ≡ None) → IsShownIn v f (gone_by copy (look_too look k o))
    by o is (inl one) = same o one
    by None is (inr none) = same None none
    by (Some x) is (inr none) = shown_more copy look k x none v f g p (copied x is) its shown

-- a reader begins with a copy of a document: each former document that is followed is shown
pub shown_copy : (ds : Documents) (c : Course) (v t : Sight) (p : Path) (copy : Document) (f : Former) → IsHeldPair c v t → ds (id.Node p) ≡ Some copy → IsFollowed ds c p f → IsShownIn v f (gone_by copy (λ k. ds (id.Prev k p)))
shown_copy ds c v t p copy f held is followed n r x had seen = elim (followed n r x had) [
  | inl there ↦ inl (subst (λ l. of_revision (values_in n l) r ≡ Some x) all_is there)
  | inr q ↦ inr (q.0, q.1, held.base q.0 q.2, subst (λ l. IsAmong l n (q.0)) all_is q.3)
]
  where
    all_is : all_at ds p ≡ gone_by copy (λ k. ds (id.Prev k p))
    all_is = ap (λ o. option_map_or (with_previous ds p) o []) is
