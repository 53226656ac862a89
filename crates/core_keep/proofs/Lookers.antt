-- A committer that looks at previous documents one after another meets just what stood at its write, of what its base doesn't see.
use Rattle.std.proofs.Common.{◌≡◌, ◌⊎◌, inl, inr, ℕ, Bool, true, false, cond, not, ◌||◌, ◌&&◌, Some, None, Option, List, [], ◌∷◌, refl, sym, ap, ◌∙◌, subst, is_some}
use Rattle.std.specs.Prelude.{◌==◌}
use Rattle.std.specs.Option.{option_map_or, option_or, unwrap_or}
use Rattle.std.specs.Ordering.{eq_by_cmp}
use Rattle.std.specs.List.{filter, filter_map, cons_option}
use mathlib.Core.Bool.{false≢true}
use Rattle.jr_path.specs.Names.{path_cmp}
use Rattle.jr_path.specs.declared.name.Name.{Name}
use Rattle.jr_path.specs.declared.path.Path.{Path}
use Rattle.jr_path.specs.declared.path.DocId.TheVariants as id
use Rattle.jr_value.specs.declared.value.Property.{Property}
use Rattle.jr_rev.specs.declared.revision.Revision.{Revision}
use Rattle.jr_rev.specs.Revisions.{is_before}
use Rattle.jr_rev.proofs.Entries.{number_same}
use Rattle.jr_tree.specs.declared.edit.Write.{Write}
use Rattle.jr_tree.proofs.Pointwise.{same_path}
use Rattle.oak_doc.specs.declared.document.Document.{Document}
use Rattle.oak_doc.specs.declared.document.PrevEntry.{PrevEntry}
use Rattle.oak_doc.specs.Updates.{of_revision, values_of_property}
use Rattle.oak_read.specs.Meaning.{Documents}
use Rattle.oak_read.specs.Shown.{with_previous}
use Rattle.core_read.specs.Commits.{Sight}
use Rattle.core_read.specs.Told.{IsIn}
use Rattle.core_keep.specs.Formers.{AreFormers, Former, Formers, FormersGrow, Had, IsCopyOf}
use Rattle.core_keep.specs.Keeps.{Course, edit_in, is_done, Keeps, IsCourse, IsDownward, IsPrevious}
use Rattle.core_keep.specs.Lookers.{HasNoValue, Looks, LooksOn}
use Rattle.core_keep.specs.Readers.{asked_too, gone_by, IsListed, look_on, look_too}
use Rattle.core_keep.specs.Standing.{all_at, values_in}
use Rattle.core_keep.specs.Steps.{IsChangeAt, IsMainAt, IsPruned, IsPreviousAt, IsUnlisted, IsUnwanted}
use Rattle.core_keep.proofs.Formers.{same_too, unasked_too, value_more}
use Rattle.core_keep.proofs.Found.{found_append}
use Rattle.core_keep.proofs.Going.{itself}
use Rattle.core_keep.proofs.Item.{either_true, is_none, some_of}
use Rattle.core_keep.proofs.Pruned.{before_trans}
use Rattle.core_read.proofs.Latest.{before_itself}

-- ---- it begins: it has a copy of the document before its write

pub looks_begin : (ds : Documents) (c : Course) (formers : Formers) (unseen : Sight) (p : Path) (copy : Document) → Keeps ds c → IsCourse c → AreFormers ds c formers → ((o : Revision) → unseen o ≡ true → c.bound o ≡ false) → ds (id.Node p) ≡ Some copy
    → Looks ds formers unseen p (all_at ds p) copy (λ k. false) (λ k. ds (id.Prev k p))
looks_begin ds c formers unseen p copy keeps course are unbound is = record {
  same = λ n o counts. ap (λ l. of_revision (values_in n l) o) (sym all_is);
  follows = λ e i a. inl refl;
  left = λ e i a x h. inl (copy, is, (e, i, refl));
  former = λ e i. let l = are.listed p copy is e i in (l.0, l.1, stood e.number l.0 l.1);
}
  where
    all_is : all_at ds p ≡ gone_by copy (λ k. ds (id.Prev k p))
    all_is = ap (λ o. option_map_or (with_previous ds p) o []) is

    stood : (k : ℕ) (f : Former) → formers p k ≡ Some f → (n : Name) (o : Revision) (y : Option Property) → unseen o ≡ true → Had f n o y → of_revision (values_in n (all_at ds p)) o ≡ Some y
    stood k f has n o y counts had =
        let former = are.former p k f has in
        let ws = committed o counts (former.done o had.0) in
        ((keeps p).prop n).exact o ws.0 ws.1 (unbound o counts) ∙ former.genuine n o ws.0 y had ws.1
      where
        -- what was there from the beginning is seen by a bound
        committed : (o : Revision) → unseen o ≡ true → is_done c o ≡ true → (ws : List Write) × (edit_in c o ≡ Some ws)
        committed o counts done = elim (either_true (is_some (edit_in c o)) (c.old o) done) [
          | inl e ↦ some_of (edit_in c o) e
          | inr old ↦ absurd (false≢true (sym (unbound o counts) ∙ course.old_bound o old))
        ]

-- ---- others go on

module _ (ds now : Documents) (formers more : Formers) (grows : FormersGrow formers more) (unseen : Sight) (p : Path) (stood : List Document) (copy : Document) (asked : ℕ → Bool) (look : ℕ → Option Document) (looks : Looks ds formers unseen p stood copy asked look) (goes : LooksOn ds now unseen p copy asked) where
  abbrev later : ℕ → Option Document
  later = look_on asked goes.stays look

  stayed : (e : PrevEntry) → asked e.number ≡ false → goes.stays e.number ≡ true → later e.number ≡ look e.number
  stayed e a s = ap (λ b. cond (b || goes.stays e.number) (look e.number) None) a ∙ ap (λ b. cond b (look e.number) None) s

  went : (e : PrevEntry) → asked e.number ≡ false → goes.stays e.number ≡ false → later e.number ≡ None
  went e a s = ap (λ b. cond (b || goes.stays e.number) (look e.number) None) a ∙ ap (λ b. cond b (look e.number) None) s

  -- what is looked at stays, or goes where it has nothing that counts
  each_look : (e : PrevEntry) → IsIn e copy.prev → (later e.number ≡ look e.number) ⊎ ((later e.number ≡ None) × ((x : Document) → look e.number ≡ Some x → HasNoValue unseen x))
  each_look e i = by (asked e.number) refl
    where
      gone : asked e.number ≡ false → IsUnlisted ds p e.number → (x : Document) → look e.number ≡ Some x → HasNoValue unseen x
      gone a g x h = elim (looks.left e i a x h) [ inl l ↦ absurd (g l.0 l.1 (l.2).0 (l.2).1 (l.2).2) | inr o ↦ o ]

      by : (b : Bool) → asked e.number ≡ b → (later e.number ≡ look e.number) ⊎ ((later e.number ≡ None) × ((x : Document) → look e.number ≡ Some x → HasNoValue unseen x))
      by true a = inl (ap (λ b. cond (b || goes.stays e.number) (look e.number) None) a)
      by false a = elim (goes.previous e i a) [
        | inl same ↦ inl (stayed e a same.0)
        | inr g ↦ inr (went e a g.0, gone a g.1)
      ]

  module _ (n : Name) (o : Revision) (counts : unseen o ≡ true) where
    abbrev IsSame : List Document → List Document → Type 0
    IsSame a b = of_revision (values_in n a) o ≡ of_revision (values_in n b) o

    both : (d : Option Document) (a b : List Document) → IsSame a b → IsSame (cons_option d a) (cons_option d b)
    both None a b h = h
    both (Some z) a b h = found_append (values_of_property z.props n) (values_in n a) o ∙ (ap (option_or (of_revision (values_of_property z.props n) o)) h ∙ sym (found_append (values_of_property z.props n) (values_in n b) o))

    without : (d : Option Document) → ((x : Document) → d ≡ Some x → HasNoValue unseen x) → (a b : List Document) → IsSame a b → IsSame a (cons_option d b)
    without None nothing a b h = h
    without (Some z) nothing a b h = h ∙ sym (found_append (values_of_property z.props n) (values_in n b) o ∙ ap (λ u. option_or u (of_revision (values_in n b) o)) (nothing z refl n o counts))

    over_same : (es : List PrevEntry) → ((e : PrevEntry) → IsIn e es → (later e.number ≡ look e.number) ⊎ ((later e.number ≡ None) × ((x : Document) → look e.number ≡ Some x → HasNoValue unseen x)))
        → IsSame (filter_map (λ e. later e.number) es) (filter_map (λ e. look e.number) es)
    over_same [] each = refl
    over_same (e ∷ es) each = by (each e (inl refl)) (over_same es (λ f i. each f (inr i)))
      where
        by : (later e.number ≡ look e.number) ⊎ ((later e.number ≡ None) × ((x : Document) → look e.number ≡ Some x → HasNoValue unseen x)) → IsSame (filter_map (λ e. later e.number) es) (filter_map (λ e. look e.number) es)
            → IsSame (cons_option (later e.number) (filter_map (λ e. later e.number) es)) (cons_option (look e.number) (filter_map (λ e. look e.number) es))
        by (inl same) h = subst (λ d. IsSame (cons_option d (filter_map (λ e. later e.number) es)) (cons_option (look e.number) (filter_map (λ e. look e.number) es))) (sym same)
            (both (look e.number) (filter_map (λ e. later e.number) es) (filter_map (λ e. look e.number) es) h)
        by (inr gone) h = subst (λ d. IsSame (cons_option d (filter_map (λ e. later e.number) es)) (cons_option (look e.number) (filter_map (λ e. look e.number) es))) (sym gone.0)
            (without (look e.number) gone.1 (filter_map (λ e. later e.number) es) (filter_map (λ e. look e.number) es) h)

    still_same : IsSame (gone_by copy later) stood
    still_same = both (Some copy) (filter_map (λ e. later e.number) copy.prev) (filter_map (λ e. look e.number) copy.prev) (over_same copy.prev each_look) ∙ looks.same n o counts

  pub looks_last : Looks now more unseen p stood copy asked (look_on asked goes.stays look)
  looks_last = record {
    same = still_same;
    follows = λ e i a. elim (goes.previous e i a) [
      | inr g ↦ inr (went e a g.0)
      | inl same ↦ elim (looks.follows e i a) [ inl one ↦ inl (stayed e a same.0 ∙ (one ∙ sym same.1)) | inr nothing ↦ inr (stayed e a same.0 ∙ nothing) ]
    ];
    left = λ e i a x h. elim (goes.previous e i a) [
      | inr g ↦ absurd (false≢true (ap is_some (sym (went e a g.0) ∙ h)))
      | inl same ↦ left e i a x (sym (stayed e a same.0) ∙ h)
    ];
    former = λ e i. let l = looks.former e i in (l.0, grows p e.number l.0 l.1, l.2);
  }
    where
      there : (e : PrevEntry) (x : Document) → look e.number ≡ Some x → (look e.number ≡ ds (id.Prev e.number p)) ⊎ (look e.number ≡ None) → ds (id.Prev e.number p) ≡ Some x
      there e x k (inl same) = sym same ∙ k
      there e x k (inr nothing) = absurd (false≢true (ap is_some (sym nothing ∙ k)))

      left : (e : PrevEntry) → IsIn e copy.prev → asked e.number ≡ false → (x : Document) → look e.number ≡ Some x → IsListed now p e.number ⊎ HasNoValue unseen x
      left e i a x h = elim (looks.left e i a x h) [
        | inr no_more ↦ inr no_more
        | inl listed ↦ goes.list e.number x (there e x h (looks.follows e i a)) listed
      ]

-- ---- it asks for a previous document

pub looks_find : (ds : Documents) (formers : Formers) (unseen : Sight) (p : Path) (stood : List Document) (copy : Document) (asked : ℕ → Bool) (look : ℕ → Option Document) → Looks ds formers unseen p stood copy asked look
    → (e : PrevEntry) → IsIn e copy.prev → asked e.number ≡ false → ((f : Former) (x : Document) → formers p e.number ≡ Some f → ds (id.Prev e.number p) ≡ Some x → IsCopyOf p e.number f x)
    → Looks ds formers unseen p stood copy (asked_too asked e.number) (look_too look e.number (ds (id.Prev e.number p)))
looks_find ds formers unseen p stood copy asked look looks e i unasked copied = by (ds (id.Prev e.number p)) refl (looks.follows e i unasked)
  where
    k : ℕ
    k = e.number

    asks : (more : ℕ → Option Document) → ((g : PrevEntry) → asked_too asked e.number g.number ≡ false → more g.number ≡ look g.number) → ((n : Name) (o : Revision) → unseen o ≡ true → of_revision (values_in n (gone_by copy more)) o ≡ of_revision (values_in n stood) o)
        → Looks ds formers unseen p stood copy (asked_too asked e.number) more
    asks more same values = record {
      same = values;
      follows = λ g j a. elim (looks.follows g j (unasked_too asked e.number g.number a).1) [ inl one ↦ inl (same g a ∙ one) | inr nothing ↦ inr (same g a ∙ nothing) ];
      left = λ g j a x h. looks.left g j (unasked_too asked e.number g.number a).1 x (sym (same g a) ∙ h);
      former = looks.former;
    }

    stays : (o : Option Document) (g : PrevEntry) → asked_too asked e.number g.number ≡ false → look_too look e.number o g.number ≡ look g.number
    stays o g a = ap (λ b. cond b o (look g.number)) (unasked_too asked e.number g.number a).0

    unchanged : (o : Option Document) → look e.number ≡ o → Looks ds formers unseen p stood copy (asked_too asked e.number) (look_too look e.number o)
    unchanged o is = asks (look_too look e.number o) (stays o) (subst (λ l. (n : Name) (o : Revision) → unseen o ≡ true → of_revision (values_in n (gone_by copy l)) o ≡ of_revision (values_in n stood) o) (sym (same_too look e.number o is)) looks.same)

    changed : (x : Document) → ds (id.Prev e.number p) ≡ Some x → look e.number ≡ None → Looks ds formers unseen p stood copy (asked_too asked e.number) (look_too look e.number (Some x))
    changed x is nothing = asks (look_too look e.number (Some x)) (stays (Some x)) (λ n o counts. elim (value_more copy look e.number x nothing n o) [
      | inl same ↦ same ∙ looks.same n o counts
      | inr new ↦
          let f = looks.former e i in
          let is_copy = copied f.0 x f.1 is in
          new.2 ∙ sym (f.2 n o new.0 counts (is_copy.had n o new.0 new.1))
    ])

    by : (o : Option Document) → ds (id.Prev e.number p) ≡ o → (look e.number ≡ o) ⊎ (look e.number ≡ None) → Looks ds formers unseen p stood copy (asked_too asked e.number) (look_too look e.number o)
    by o is (inl one) = unchanged o one
    by None is (inr nothing) = unchanged None nothing
    by (Some x) is (inr nothing) = changed x is nothing

-- ---- what others do

module _ (ds now : Documents) (unseen : Sight) (p : Path) (copy : Document) (asked : ℕ → Bool) where
  -- documents of nodes change, and list at least what they listed
  pub main_looks : (at : Path) (d : Document) → IsMainAt ds now at d → ((old : Document) → ds (id.Node at) ≡ Some old → (e : PrevEntry) → IsIn e old.prev → (x : Document) → ds (id.Prev e.number at) ≡ Some x → IsIn e d.prev ⊎ HasNoValue unseen x) → LooksOn ds now unseen p copy asked
  main_looks at d main lists = record {
    list = λ k x h l. by k x h l (eq_by_cmp path_cmp p at) refl;
    stays = λ k. true;
    previous = λ e i a. inl (refl, still e.number (eq_by_cmp path_cmp p at) refl);
  }
    where
      still : (k : ℕ) (b : Bool) → eq_by_cmp path_cmp p at ≡ b → now (id.Prev k p) ≡ ds (id.Prev k p)
      still k false h = main.elsewhere.previous k p h
      still k true h = subst (λ (z : Path). now (id.Prev k z) ≡ ds (id.Prev k z)) (sym (same_path p at h)) (main.previous_here k)

      by : (k : ℕ) (x : Document) → ds (id.Prev k p) ≡ Some x → IsListed ds p k → (b : Bool) → eq_by_cmp path_cmp p at ≡ b → IsListed now p k ⊎ HasNoValue unseen x
      by k x h l false m = inl (l.0, main.elsewhere.node p m ∙ l.1, l.2)
      by k x h l true m =
          let one : p ≡ at = same_path p at m in
          elim (lists l.0 (ap (λ (z : Path). ds (id.Node z)) (sym one) ∙ l.1) (l.2).0 (l.2).1 x (ap (λ (j : ℕ). ds (id.Prev j at)) (l.2).2 ∙ (ap (λ (z : Path). ds (id.Prev k z)) (sym one) ∙ h))) [
            | inl i ↦ inl (d, ap (λ (z : Path). now (id.Node z)) one ∙ main.at, ((l.2).0, i, (l.2).2))
            | inr nothing ↦ inr nothing
          ]

  -- the document lists what it listed
  pub same_looks : (at : Path) (d : Document) → IsMainAt ds now at d → d.prev ≡ option_map_or (λ d. d.prev) (ds (id.Node at)) [] → LooksOn ds now unseen p copy asked
  same_looks at d main whole = main_looks at d main (λ old is e i x h. inl (subst (λ l. IsIn e l) (sym whole) (subst (λ o. IsIn e (option_map_or (λ d. d.prev) o [])) (sym is) i)))

  -- a split lists what it moved
  pub moved_looks : (at : Path) (old d : Document) (e : PrevEntry) → ds (id.Node at) ≡ Some old → IsMainAt ds now at d → d.prev ≡ e ∷ old.prev → LooksOn ds now unseen p copy asked
  moved_looks at old d e is main prev = main_looks at d main (λ o h f i x k. inl (subst (λ l. IsIn f l) (sym prev) (inr (subst (λ (z : Document). IsIn f z.prev) (ap (λ u. unwrap_or u o) (sym h ∙ is)) i))))

  -- garbage goes, of which bounds see all
  pub pruned_looks : (c : Course) (at : Path) (old d : Document) → ((o : Revision) → unseen o ≡ true → c.bound o ≡ false) → ds (id.Node at) ≡ Some old → IsMainAt ds now at d → IsPruned ds c at old d → LooksOn ds now unseen p copy asked
  pruned_looks c at old d unbound is main pruned = main_looks at d main (λ o h e i x k. by e (subst (λ (y : Document). IsIn e y.prev) (ap (λ u. unwrap_or u o) (sym h ∙ is)) i) x k (pruned.prev.0 e) refl)
    where
      in_filter : (keep : PrevEntry → Bool) (es : List PrevEntry) (e : PrevEntry) → IsIn e es → keep e ≡ true → IsIn e (filter keep es)
      in_filter keep [] e i k = i
      in_filter keep (f ∷ es) e (inl one) k = subst (λ b. IsIn e (cond b (f ∷ filter keep es) (filter keep es))) (sym (ap keep one ∙ k)) (inl one)
      in_filter keep (f ∷ es) e (inr i) k = elim (keep f) as (λ b. IsIn e (cond b (f ∷ filter keep es) (filter keep es))) [ true ↦ inr (in_filter keep es e i k) | false ↦ in_filter keep es e i k ]

      by : (e : PrevEntry) → IsIn e old.prev → (x : Document) → ds (id.Prev e.number at) ≡ Some x → (b : Bool) → pruned.prev.0 e ≡ b → IsIn e d.prev ⊎ HasNoValue unseen x
      by e i x k true m = inl (subst (λ l. IsIn e l) (sym pruned.prev.1) (in_filter pruned.prev.0 old.prev e i m))
      by e i x k false m = inr (λ n o counts. is_none (of_revision (values_of_property x.props n) o) (λ y has. false≢true (sym (unbound o counts) ∙ (pruned.prev.2 e i m x k n o (ap is_some has)).0)))

  -- a previous document that nobody lists goes or comes
  pub previous_looks : (at : Path) (k : ℕ) → IsPreviousAt ds now at k → IsUnlisted ds at k → LooksOn ds now unseen p copy asked
  previous_looks at k change unlisted = record {
    list = λ j x h l. inl (l.0, change.node p ∙ l.1, l.2);
    stays = λ j. not (eq_by_cmp path_cmp p at && (j == k));
    previous = λ e i a. by e (eq_by_cmp path_cmp p at) refl (e.number == k) refl;
  }
    where
      apart : (j : ℕ) → (j == k) ≡ false → j ≡ k → ⊥
      apart j h e = false≢true (sym h ∙ (ap (λ (i : ℕ). j == i) (sym e) ∙ itself j))

      by : (e : PrevEntry) → (b : Bool) → eq_by_cmp path_cmp p at ≡ b → (a : Bool) → (e.number == k) ≡ a
          → ((not (eq_by_cmp path_cmp p at && (e.number == k)) ≡ true) × (now (id.Prev e.number p) ≡ ds (id.Prev e.number p))) ⊎ ((not (eq_by_cmp path_cmp p at && (e.number == k)) ≡ false) × IsUnlisted ds p e.number)
      by e false h a m = inl (ap (λ b. not (b && (e.number == k))) h, change.elsewhere e.number p h)
      by e true h false m = inl (ap (λ b. not (b && (e.number == k))) h ∙ ap not m, subst (λ (z : Path). now (id.Prev e.number z) ≡ ds (id.Prev e.number z)) (sym (same_path p at h)) (change.other e.number (apart e.number m)))
      by e true h true m = inr (ap (λ b. not (b && (e.number == k))) h ∙ ap not m, subst (λ (z : Path). IsUnlisted ds z e.number) (sym (same_path p at h)) (λ d is f j same. unlisted d is f j (same ∙ number_same e.number k m)))

  -- documents of no node change
  pub others_look : ((q : Path) → now (id.Node q) ≡ ds (id.Node q)) → ((k : ℕ) (q : Path) → now (id.Prev k q) ≡ ds (id.Prev k q)) → LooksOn ds now unseen p copy asked
  others_look node previous = record {
    list = λ k x h l. inl (l.0, node p ∙ l.1, l.2);
    stays = λ k. true;
    previous = λ e i a. inl (refl, previous e.number p);
  }

-- a document of an absent node goes: bounds see its entries, so they see those behind which it has later ones
module _ (ds now : Documents) (c : Course) (keeps : Keeps ds c) (course : IsCourse c) (down : IsDownward c c.bound) (unseen : Sight) (unbound : (o : Revision) → unseen o ≡ true → c.bound o ≡ false) (p : Path) (copy : Document) (asked : ℕ → Bool) where
  module _ (at : Path) (old : Document) (is : ds (id.Node at) ≡ Some old) (elsewhere : IsChangeAt ds now at) (stay : (k : ℕ) (q : Path) → now (id.Prev k q) ≡ ds (id.Prev k q)) (unwanted : IsUnwanted c at old) where
    stands : (n : Name) (q : Revision) (y : Option Property) → of_revision (values_of_property old.props n) q ≡ Some y → of_revision (values_in n (all_at ds at)) q ≡ Some y
    stands n q y h = ap (λ o. of_revision (values_in n (option_map_or (with_previous ds at) o [])) q) is ∙ (found_append (values_of_property old.props n) (values_in n (filter_map (λ e. ds (id.Prev e.number at)) old.prev)) q ∙ ap (λ o. option_or o (of_revision (values_in n (filter_map (λ e. ds (id.Prev e.number at)) old.prev)) q)) h)

    bounded : (n : Name) (o : Revision) (k : ℕ) (x : Document) → IsPrevious c at old k x → (y : Option Property) → of_revision (values_of_property x.props n) o ≡ Some y → c.bound o ≡ true
    bounded n o k x previous y has =
        let b = previous.behind n o (ap is_some has) in
        let z = some_of (of_revision (values_of_property old.props n) b.0) b.3 in
        by b.0 z.0 z.1 b.1 (unwanted.entries b.0 (inr (n, b.3))) (edit_in c o) refl (edit_in c b.0) refl
        (either_true (is_some (edit_in c o)) (c.old o) (previous.done n o (ap is_some has))) (either_true (is_some (edit_in c b.0)) (c.old b.0) b.2)
      where
        by : (q : Revision) (z : Option Property) → of_revision (values_of_property old.props n) q ≡ Some z → is_before o q ≡ true → c.bound q ≡ true → (u : Option (List Write)) → edit_in c o ≡ u → (v : Option (List Write)) → edit_in c q ≡ v
            → (is_some (edit_in c o) ≡ true) ⊎ (c.old o ≡ true) → (is_some (edit_in c q) ≡ true) ⊎ (c.old q ≡ true) → c.bound o ≡ true
        by q z there before seen u eu v ev (inr first) w = course.old_bound o first
        by q z there before seen None eu v ev (inl k) w = absurd (false≢true (ap is_some (sym eu) ∙ k))
        by q z there before seen (Some us) eu v ev (inl k) (inr first) = absurd (false≢true (sym (before_itself o) ∙ before_trans o q o before (course.old_first q o us first eu)))
        by q z there before seen (Some us) eu None ev (inl k) (inl j) = absurd (false≢true (ap is_some (sym ev) ∙ j))
        by q z there before seen (Some us) eu (Some vs) ev (inl k) (inl j) =
            down.prop at n q o vs us ev eu (ap is_some (((keeps at).prop n).genuine q vs z ev (stands n q z there))) (ap is_some (previous.genuine n o us y eu has)) before seen

    pub removed_looks : LooksOn ds now unseen p copy asked
    removed_looks = record {
      list = λ k x h l. list k x h l (eq_by_cmp path_cmp p at) refl;
      stays = λ k. true;
      previous = λ e i a. inl (refl, stay e.number p);
    }
      where
        list : (k : ℕ) (x : Document) → ds (id.Prev k p) ≡ Some x → IsListed ds p k → (b : Bool) → eq_by_cmp path_cmp p at ≡ b → IsListed now p k ⊎ HasNoValue unseen x
        list k x h l false m = inl (l.0, elsewhere.node p m ∙ l.1, l.2)
        list k x h l true m =
            let one : p ≡ at = same_path p at m in
            let same : l.0 ≡ old = ap (λ o. unwrap_or o l.0) (sym l.1 ∙ (ap (λ (z : Path). ds (id.Node z)) one ∙ is)) in
            let g = (keeps at).previous old is (l.2).0 (subst (λ (y : Document). IsIn (l.2).0 y.prev) same (l.2).1) x (ap (λ (j : ℕ). ds (id.Prev j at)) (l.2).2 ∙ (ap (λ (z : Path). ds (id.Prev k z)) (sym one) ∙ h)) in
            inr (λ n o counts. is_none (of_revision (values_of_property x.props n) o) (λ y has. false≢true (sym (unbound o counts) ∙ bounded n o (l.2).0.number x g y has)))
