-- A reader that goes document by document reads the tree, whatever comes between its steps.
use Rattle.std.proofs.Common.{◌≡◌, ◌⊎◌, inl, inr, ℕ, take, Bool, true, false, cond, ◌&&◌, ◌||◌, Some, None, Option, List, [], ◌∷◌, ◌++◌, refl, sym, ap, ◌∙◌, subst, is_some}
use Rattle.std.specs.Prelude.{◌==◌, IsTrue}
use Rattle.std.specs.Option.{option_map_or, option_or, unwrap_or}
use Rattle.std.specs.List.{filter, filter_map, cons_option, flat_map}
use mathlib.Core.Bool.{false≢true}
use Rattle.jr_path.specs.declared.name.Name.{Name}
use Rattle.jr_path.specs.declared.path.Path.{Path}
use Rattle.jr_path.specs.declared.path.DocId.TheVariants as id
use Rattle.jr_value.specs.declared.value.Property.{Property}
use Rattle.jr_rev.specs.declared.revision.Revision.{Revision}
use Rattle.jr_rev.specs.declared.vector.RevVec.{RevVec}
use Rattle.jr_rev.specs.Revisions.{is_before, is_at_most}
use Rattle.jr_rev.specs.Vectors.{sees}
use Rattle.jr_tree.specs.declared.edit.Write.{Write}
use Rattle.jr_tree.specs.Trees.{Nodes, born_at, born_of, node_at, property_at}
use Rattle.jr_tree.specs.Items.{put_of}
use Rattle.oak_doc.specs.declared.document.Document.{Document}
use Rattle.oak_doc.specs.declared.document.PrevEntry.{PrevEntry}
use Rattle.oak_doc.specs.Updates.{of_revision, values_of_property}
use Rattle.oak_read.specs.Meaning.{Documents, is_committed, counting, found_node, latest, commit_root_of, main_of, path_of}
use Rattle.oak_read.specs.Shown.{with_previous}
use Rattle.core_read.specs.Commits.{Sight, last_entry}
use Rattle.core_read.specs.Holds.{has_revision}
use Rattle.core_read.specs.Told.{IsIn}
use Rattle.core_read.proofs.Latest.{before_itself, before_at_most, at_most_both, passing, IsLastEntry, only_entry}
use Rattle.core_keep.specs.Standing.{all_at, gone_of, gone_in, values_in, shows_node, shows_value, HasEntryOf}
use Rattle.core_keep.specs.Keeps.{Course, edit_in, is_done, Matches, Keeps, KeepsAt, IsCourse, IsDownward, IsHeldPair, Shows}
use Rattle.core_keep.specs.Steps.{IsUnlisted}
use Rattle.core_keep.specs.Readers.{gone_by, HasLater, IsOutdone, IsListed, Reads, GoesOn, asked_too, look_on, Knows}
use Rattle.core_keep.specs.Formers.{Former, IsKeptIn, IsShownIn}
use Rattle.core_keep.proofs.Item.{latest_of, is_none, not_true, some_of, cond_some, either_true, matches}
use Rattle.core_keep.proofs.Found.{found_append, among, same_filter, filter-append}
use Rattle.core_keep.proofs.Shown.{found_by, found_there, found_born}
use Rattle.core_keep.proofs.AtPath.{same_listed, value_from}
use Rattle.core_keep.proofs.Pruned.{before_trans}

-- ---- the last of what is seen stays, where what goes has a later one that stays

pub last_left : {X : Type 0} (s : Sight) (es left : List (Revision × X)) → ((q : Revision) → s q ≡ true → (of_revision left q ≡ of_revision es q) ⊎ ((r : Revision) × (is_before q r ≡ true) × (s r ≡ true) × (is_some (of_revision left r) ≡ true)))
    → ((q : Revision) → is_some (of_revision left q) ≡ true → is_some (of_revision es q) ≡ true) → latest (filter (λ e. s e.0) left) ≡ latest (filter (λ e. s e.0) es)
last_left {X} s es left each sub = only_entry (passing s left) (passing s left) (λ q. refl) _ _ (latest_of s left) (top _ (latest_of s es))
  where
    still : (q : Revision) → is_some (passing s left q) ≡ true → is_some (passing s es q) ≡ true
    still q h =
        let y = some_of (passing s left q) h in
        let p = cond_some (s q) (of_revision left q) y.0 y.1 in
        ap (λ b. is_some (cond b (of_revision es q) None)) p.0 ∙ sub q (ap is_some p.1)

    top : (o : Option (Revision × X)) → IsLastEntry (passing s es) o → IsLastEntry (passing s left) o
    top None l = λ q. is_none _ (λ x h. false≢true (sym (ap is_some (l q)) ∙ still q (ap is_some h)))
    top (Some e) l = (stands (each e.0 seen.0), λ q h. l.1 q (still q h))
      where
        seen : (s e.0 ≡ true) × (of_revision es e.0 ≡ Some e.1)
        seen = cond_some (s e.0) (of_revision es e.0) e.1 l.0

        later : (r : Revision) → is_before e.0 r ≡ true → is_at_most r e.0 ≡ true → ⊥
        later r b m = false≢true (sym (before_itself e.0) ∙ subst (λ (z : Revision). is_before e.0 z ≡ true) (at_most_both r e.0 m (before_at_most e.0 r b)) b)

        stands : (of_revision left e.0 ≡ of_revision es e.0) ⊎ ((r : Revision) × (is_before e.0 r ≡ true) × (s r ≡ true) × (is_some (of_revision left r) ≡ true)) → passing s left e.0 ≡ Some e.1
        stands (inl same) = ap (λ b. cond b (of_revision left e.0) None) seen.0 ∙ (same ∙ seen.1)
        stands (inr gone) = absurd (later gone.0 gone.1 (l.1 gone.0 (still gone.0 (ap (λ b. is_some (cond b (of_revision left gone.0) None)) gone.2 ∙ gone.3))))

-- ---- what is listed, by a look at it

pub look_in : (look : ℕ → Option Document) (es : List PrevEntry) (x : Document) → IsIn x (filter_map (λ e. look e.number) es) → (e : PrevEntry) × IsIn e es × (look e.number ≡ Some x)
look_in look [] x i = absurd i
look_in look (e ∷ es) x i = by (λ j. look_in look es x j) (look e.number) refl i
  where
    by : (IsIn x (filter_map (λ e. look e.number) es) → (f : PrevEntry) × IsIn f es × (look f.number ≡ Some x)) → (o : Option Document) → look e.number ≡ o → IsIn x (cons_option o (filter_map (λ e. look e.number) es)) → (f : PrevEntry) × IsIn f (e ∷ es) × (look f.number ≡ Some x)
    by rest None h i = let r = rest i in (r.0, inr r.1, r.2)
    by rest (Some y) h (inl one) = (e, inl refl, h ∙ ap (λ (z : Document). Some z) one)
    by rest (Some y) h (inr i) = let r = rest i in (r.0, inr r.1, r.2)

pub in_look : (look : ℕ → Option Document) (es : List PrevEntry) (e : PrevEntry) (x : Document) → IsIn e es → look e.number ≡ Some x → IsIn x (filter_map (λ e. look e.number) es)
in_look look [] e x i h = absurd i
in_look look (f ∷ es) e x (inl one) h = subst (λ o. IsIn x (cons_option o (filter_map (λ e. look e.number) es))) (sym (ap (λ (g : PrevEntry). look g.number) one ∙ h)) (inl refl)
in_look look (f ∷ es) e x (inr i) h = by (look f.number) (in_look look es e x i h)
  where
    by : (o : Option Document) → IsIn x (filter_map (λ e. look e.number) es) → IsIn x (cons_option o (filter_map (λ e. look e.number) es))
    by None j = j
    by (Some y) j = inr j

-- ---- a copy is made

module _ (ds : Documents) (c : Course) (keeps : Keeps ds c) (course : IsCourse c) (down : IsDownward c c.bound) (v t : Sight) (held : IsHeldPair c v t) (settled : (r : Revision) → v r ≡ true → edit_in c r ≡ None → c.flying r ≡ false) (p : Path) (copy : Document) (is : ds (id.Node p) ≡ Some copy) where
  abbrev at : KeepsAt ds c p
  at = keeps p

  abbrev look : ℕ → Option Document
  look k = ds (id.Prev k p)

  all_is : all_at ds p ≡ gone_by copy look
  all_is = ap (λ o. option_map_or (with_previous ds p) o []) is

  -- what is seen and stands is done
  seen_done : {X : Type 0} (es : List (Revision × X)) → ((r : Revision) → edit_in c r ≡ None → c.old r ≡ false → c.flying r ≡ false → of_revision es r ≡ None) → (r : Revision) → v r ≡ true → is_some (of_revision es r) ≡ true → is_done c r ≡ true
  seen_done es none r seen h = by (edit_in c r) refl (c.old r) refl
    where
      by : (o : Option (List Write)) → edit_in c r ≡ o → (b : Bool) → c.old r ≡ b → (is_some o || b) ≡ true
      by (Some ws) e b k = refl
      by None e true k = refl
      by None e false k = absurd (false≢true (sym (ap is_some (none r e k (settled r seen e))) ∙ h))

  filter_done : {X : Type 0} (es : List (Revision × X)) → ((r : Revision) → edit_in c r ≡ None → c.old r ≡ false → c.flying r ≡ false → of_revision es r ≡ None) → filter (λ e. v e.0 && is_done c e.0) es ≡ filter (λ e. v e.0) es
  filter_done es none = same_filter (λ r. v r && is_done c r) v es (λ r h. by r (v r) refl h)
    where
      by : (r : Revision) (b : Bool) → v r ≡ b → is_some (of_revision es r) ≡ true → (b && is_done c r) ≡ b
      by r true k h = seen_done es none r k h
      by r false k h = refl

  node_here : Matches shows_node (born_at c.tree p) (last_entry (gone_of p) v c.commits) (latest (filter (λ e. v e.0) (gone_in (all_at ds p))))
  node_here = subst (λ l. Matches shows_node (born_at c.tree p) (last_entry (gone_of p) v c.commits) (latest l)) (filter_done (gone_in (all_at ds p)) at.node.none_else)
      (matches (gone_of p) shows_node (born_at c.tree p) c course _ at.node v held.base (down.node p))

  prop_here : (n : Name) → Matches shows_value (property_at c.tree p n) (last_entry (put_of p n) v c.commits) (latest (filter (λ e. v e.0) (values_in n (all_at ds p))))
  prop_here n = subst (λ l. Matches shows_value (property_at c.tree p n) (last_entry (put_of p n) v c.commits) (latest l)) (filter_done (values_in n (all_at ds p)) (at.prop n).none_else)
      (matches (put_of p n) shows_value (property_at c.tree p n) c course _ (at.prop n) v held.base (down.prop p n))

  entry_is_done : (x : Document) → IsIn x (all_at ds p) → (r : Revision) → v r ≡ true → HasEntryOf r x → is_done c r ≡ true
  entry_is_done x i r seen (inl h) = seen_done (gone_in (all_at ds p)) at.node.none_else r seen (among (λ d. d.deleted) (all_at ds p) x i r h)
  entry_is_done x i r seen (inr h) = seen_done (values_in h.0 (all_at ds p)) (at.prop h.0).none_else r seen (among (λ d. values_of_property d.props h.0) (all_at ds p) x i r h.1)

  entry_is_said : (x : Document) → IsIn x (all_at ds p) → (r : Revision) → v r ≡ true → t r ≡ false → HasEntryOf r x → has_revision (ds (commit_root_of x r)) r ≡ true
  entry_is_said x i r seen unswept entry = by (edit_in c r) refl (either_true (is_some (edit_in c r)) (c.old r) (entry_is_done x i r seen entry))
    where
      by : (o : Option (List Write)) → edit_in c r ≡ o → (is_some (edit_in c r) ≡ true) ⊎ (c.old r ≡ true) → has_revision (ds (commit_root_of x r)) r ≡ true
      by o e (inr k) = absurd (false≢true (sym unswept ∙ held.sweep r (course.old_swept r k)))
      by None e (inl k) = absurd (false≢true (ap is_some (sym e) ∙ k))
      by (Some ws) e (inl k) = at.rooted x i r ws e (not_true (c.swept r) (λ h. false≢true (sym unswept ∙ held.sweep r h))) entry

  -- a reader begins with a copy of the node's document
  pub reads_copy : Reads ds c v t p copy (λ k. false) look
  reads_copy = record {
    follows = λ e i a. inl refl;
    node = subst (λ l. Matches shows_node (born_at c.tree p) (last_entry (gone_of p) v c.commits) (latest (filter (λ e. v e.0) (gone_in l)))) all_is node_here;
    prop = λ n. subst (λ l. Matches shows_value (property_at c.tree p n) (last_entry (put_of p n) v c.commits) (latest (filter (λ e. v e.0) (values_in n l)))) all_is (prop_here n);
    named = at.named copy is;
    previous = λ e i x h.
        let k = at.previous copy is e i x h in
        (k.named, k.plain);
    done = λ x i. entry_is_done x (subst (λ l. IsIn x l) (sym all_is) i);
    said = λ x i. entry_is_said x (subst (λ l. IsIn x l) (sym all_is) i);
    within = λ d h n q s k. ap (λ (y : Document). is_some (of_revision (values_of_property y.props n) q)) (ap (λ o. unwrap_or o d) (sym is ∙ h)) ∙ k;
    left = λ e i a x h. inl (copy, is, (e, i, refl));
  }

-- ---- a previous document is asked for

pub reads_previous : (ds : Documents) (c : Course) (v t : Sight) (p : Path) (copy : Document) (asked : ℕ → Bool) (look : ℕ → Option Document) → Reads ds c v t p copy asked look → (k : ℕ) → Reads ds c v t p copy (asked_too asked k) look
reads_previous ds c v t p copy asked look reads k = record {
  follows = λ e i a. reads.follows e i (unasked e.number a);
  node = reads.node;
  prop = reads.prop;
  named = reads.named;
  previous = reads.previous;
  done = reads.done;
  said = reads.said;
  within = reads.within;
  left = λ e i a. reads.left e i (unasked e.number a);
}
  where
    unasked : (j : ℕ) → cond (j == k) true (asked j) ≡ false → asked j ≡ false
    unasked j = by (j == k)
      where
        by : (b : Bool) → cond b true (asked j) ≡ false → asked j ≡ false
        by true h = absurd (false≢true (sym h))
        by false h = h

-- no previous document has an entry of `_deleted`
pub no_gone : (copy : Document) (l : ℕ → Option Document) → ((e : PrevEntry) → IsIn e copy.prev → (x : Document) → l e.number ≡ Some x → x.deleted ≡ []) → gone_in (filter_map (λ e. l e.number) copy.prev) ≡ []
no_gone copy l plain = over copy.prev plain
  where
    over : (es : List PrevEntry) → ((e : PrevEntry) → IsIn e es → (x : Document) → l e.number ≡ Some x → x.deleted ≡ []) → gone_in (filter_map (λ e. l e.number) es) ≡ []
    over [] plain = refl
    over (e ∷ es) plain = by (l e.number) refl (over es (λ f i. plain f (inr i)))
      where
        by : (o : Option Document) → l e.number ≡ o → gone_in (filter_map (λ e. l e.number) es) ≡ [] → gone_in (cons_option o (filter_map (λ e. l e.number) es)) ≡ []
        by None h rest = rest
        by (Some x) h rest = ap (λ es. es ++ gone_in (filter_map (λ e. l e.number) (es_of es))) (plain e (inl refl) x h) ∙ rest
          where
            es_of : List (Revision × Bool) → List PrevEntry
            es_of _ = es

-- ---- others go on

module _ (ds now : Documents) (c later : Course) (v t : Sight) (p : Path) (copy : Document) (asked : ℕ → Bool) (look : ℕ → Option Document) (reads : Reads ds c v t p copy asked look) (goes : GoesOn ds now c later v t p copy asked) where
  abbrev look' : ℕ → Option Document
  look' = look_on asked goes.stays look

  -- what is looked at stays, or goes where the copy outdoes it
  pub each_look : (e : PrevEntry) → IsIn e copy.prev → (look' e.number ≡ look e.number) ⊎ ((look' e.number ≡ None) × ((x : Document) → look e.number ≡ Some x → IsOutdone v copy x))
  each_look e i = by (asked e.number) refl
    where
      gone : asked e.number ≡ false → IsUnlisted ds p e.number → (x : Document) → look e.number ≡ Some x → IsOutdone v copy x
      gone a g x h =
          elim (reads.left e i a x h) [
            | inl l ↦ absurd (g l.0 l.1 (l.2).0 (l.2).1 (l.2).2)
            | inr o ↦ o
          ]

      by : (b : Bool) → asked e.number ≡ b → (look' e.number ≡ look e.number) ⊎ ((look' e.number ≡ None) × ((x : Document) → look e.number ≡ Some x → IsOutdone v copy x))
      by true a = inl (ap (λ b. cond (b || goes.stays e.number) (look e.number) None) a)
      by false a = elim (goes.previous e i a) [
        | inl same ↦ inl (ap (λ b. cond (b || goes.stays e.number) (look e.number) None) a ∙ ap (λ b. cond b (look e.number) None) same.0)
        | inr g ↦ inr (ap (λ b. cond (b || goes.stays e.number) (look e.number) None) a ∙ ap (λ b. cond b (look e.number) None) g.0, gone a g.1)
      ]

  -- what it goes by now it went by
  pub was_in : (x : Document) → IsIn x (gone_by copy look') → IsIn x (gone_by copy look)
  was_in x (inl one) = inl one
  was_in x (inr i) =
      let f = look_in look' copy.prev x i in
      elim (each_look f.0 f.1) [
        | inl same ↦ inr (in_look look copy.prev f.0 x f.1 (sym same ∙ f.2))
        | inr gone ↦ absurd (false≢true (ap is_some (sym gone.0 ∙ f.2)))
      ]

  previous' : (e : PrevEntry) → IsIn e copy.prev → (x : Document) → look' e.number ≡ Some x → (x.id ≡ id.Prev e.number p) × (x.deleted ≡ [])
  previous' e i x h = elim (each_look e i) [
    | inl same ↦ reads.previous e i x (sym same ∙ h)
    | inr gone ↦ absurd (false≢true (ap is_some (sym gone.0 ∙ h)))
  ]

  pub gone_same : gone_in (gone_by copy look') ≡ gone_in (gone_by copy look)
  gone_same = ap (λ l. copy.deleted ++ l) (no_gone copy look' (λ e i x h. (previous' e i x h).1) ∙ sym (no_gone copy look (λ e i x h. (reads.previous e i x h).1)))

  -- ---- values

  pub over_values : (n : Name) (q : Revision) → v q ≡ true → (es : List PrevEntry) → ((e : PrevEntry) → IsIn e es → (look' e.number ≡ look e.number) ⊎ ((look' e.number ≡ None) × ((x : Document) → look e.number ≡ Some x → IsOutdone v copy x)))
      → (of_revision (values_in n (filter_map (λ e. look' e.number) es)) q ≡ of_revision (values_in n (filter_map (λ e. look e.number) es)) q) ⊎ HasLater v copy n q
  over_values n q seen [] each = inl refl
  over_values n q seen (e ∷ es) each = by (each e (inl refl)) (over_values n q seen es (λ f i. each f (inr i)))
    where
      mine : List Document
      mine = filter_map (λ e. look' e.number) es

      theirs : List Document
      theirs = filter_map (λ e. look e.number) es

      with_one : (o : Option Document) → of_revision (values_in n mine) q ≡ of_revision (values_in n theirs) q → of_revision (values_in n (cons_option o mine)) q ≡ of_revision (values_in n (cons_option o theirs)) q
      with_one None h = h
      with_one (Some x) h = found_append (values_of_property x.props n) (values_in n mine) q ∙ (ap (option_or (of_revision (values_of_property x.props n) q)) h ∙ sym (found_append (values_of_property x.props n) (values_in n theirs) q))

      without_one : (o : Option Document) → look e.number ≡ o → ((x : Document) → look e.number ≡ Some x → IsOutdone v copy x) → of_revision (values_in n mine) q ≡ of_revision (values_in n theirs) q
          → (of_revision (values_in n mine) q ≡ of_revision (values_in n (cons_option o theirs)) q) ⊎ HasLater v copy n q
      without_one None k out h = inl h
      without_one (Some x) k out h = at (of_revision (values_of_property x.props n) q) refl
        where
          at : (w : Option (Option Property)) → of_revision (values_of_property x.props n) q ≡ w → (of_revision (values_in n mine) q ≡ of_revision (values_of_property x.props n ++ values_in n theirs) q) ⊎ HasLater v copy n q
          at None m = inl (h ∙ sym (found_append (values_of_property x.props n) (values_in n theirs) q ∙ ap (λ o. option_or o (of_revision (values_in n theirs) q)) m))
          at (Some y) m = inr (out x k n q seen (ap is_some m))

      by : (look' e.number ≡ look e.number) ⊎ ((look' e.number ≡ None) × ((x : Document) → look e.number ≡ Some x → IsOutdone v copy x))
          → (of_revision (values_in n mine) q ≡ of_revision (values_in n theirs) q) ⊎ HasLater v copy n q
          → (of_revision (values_in n (cons_option (look' e.number) mine)) q ≡ of_revision (values_in n (cons_option (look e.number) theirs)) q) ⊎ HasLater v copy n q
      by one (inr later) = inr later
      by (inl same) (inl h) = inl (ap (λ o. of_revision (values_in n (cons_option o mine)) q) same ∙ with_one (look e.number) h)
      by (inr gone) (inl h) = subst (λ o. (of_revision (values_in n (cons_option o mine)) q ≡ of_revision (values_in n (cons_option (look e.number) theirs)) q) ⊎ HasLater v copy n q) (sym gone.0) (without_one (look e.number) refl gone.1 h)

  abbrev own : Name → List (Revision × Option Property)
  own n = values_of_property copy.props n

  or_l : {X : Type 0} (a b : Option X) → is_some a ≡ true → is_some (option_or a b) ≡ true
  or_l None b h = absurd (false≢true h)
  or_l (Some x) b h = refl

  value_each : (n : Name) (q : Revision) → v q ≡ true → (of_revision (values_in n (gone_by copy look')) q ≡ of_revision (values_in n (gone_by copy look)) q) ⊎ ((r : Revision) × (is_before q r ≡ true) × (v r ≡ true) × (is_some (of_revision (values_in n (gone_by copy look')) r) ≡ true))
  value_each n q seen = elim (over_values n q seen copy.prev each_look) [
    | inl same ↦ inl (found_append (own n) _ q ∙ (ap (option_or (of_revision (own n) q)) same ∙ sym (found_append (own n) _ q)))
    | inr later ↦ inr (later.0, later.1, later.2, ap is_some (found_append (own n) (values_in n (filter_map (λ e. look' e.number) copy.prev)) later.0) ∙ or_l _ _ later.3)
  ]

  value_same : (n : Name) → latest (filter (λ e. v e.0) (values_in n (gone_by copy look'))) ≡ latest (filter (λ e. v e.0) (values_in n (gone_by copy look)))
  value_same n = last_left v (values_in n (gone_by copy look)) (values_in n (gone_by copy look')) (value_each n) sub
    where
      sub : (q : Revision) → is_some (of_revision (values_in n (gone_by copy look')) q) ≡ true → is_some (of_revision (values_in n (gone_by copy look)) q) ≡ true
      sub q h =
          let w = some_of (of_revision (values_in n (gone_by copy look')) q) h in
          let f = value_from n (gone_by copy look') q w.0 w.1 in
          among (λ d. values_of_property d.props n) (gone_by copy look) f.0 (was_in f.0 f.1) q (ap is_some f.2)

  -- what shows a former document shows it still
  pub shown_on : (f : Former) → IsShownIn v f (gone_by copy look) → IsShownIn v f (gone_by copy look')
  shown_on f shown n r x had seen = elim (shown n r x had seen) [
    | inl there ↦ stands n r x there (value_each n r seen)
    | inr q ↦ inr (after n r q.0 q.1 q.2 q.3 (value_each n q.0 q.2))
  ]
    where
      Now : Name → Revision → Type 0
      Now n q = (of_revision (values_in n (gone_by copy look')) q ≡ of_revision (values_in n (gone_by copy look)) q) ⊎ ((u : Revision) × (is_before q u ≡ true) × (v u ≡ true) × (is_some (of_revision (values_in n (gone_by copy look')) u) ≡ true))

      stands : (n : Name) (q : Revision) (x : Option Property) → of_revision (values_in n (gone_by copy look)) q ≡ Some x → Now n q → IsKeptIn v (gone_by copy look') n q x
      stands n q x there (inl same) = inl (same ∙ there)
      stands n q x there (inr later) = inr later

      after : (n : Name) (r q : Revision) → is_before r q ≡ true → v q ≡ true → is_some (of_revision (values_in n (gone_by copy look)) q) ≡ true → Now n q
          → (u : Revision) × (is_before r u ≡ true) × (v u ≡ true) × (is_some (of_revision (values_in n (gone_by copy look')) u) ≡ true)
      after n r q before saw there (inl same) = (q, before, saw, ap is_some same ∙ there)
      after n r q before saw there (inr later) = (later.0, before_trans r q later.0 before later.1, later.2, later.3)

  -- ---- statuses

  root_of : (x : Document) → IsIn x (gone_by copy look') → (r : Revision) → (q : Path) × (commit_root_of x r ≡ id.Node q)
  root_of x i r = by (of_revision x.commit_root r)
    where
      main : main_of x.id ≡ id.Node p
      main = at i
        where
          at : IsIn x (gone_by copy look') → main_of x.id ≡ id.Node p
          at (inl one) = ap (λ (y : Document). main_of y.id) (sym one) ∙ ap main_of reads.named
          at (inr j) = let f = look_in look' copy.prev x j in ap main_of (previous' f.0 f.1 x f.2).0

      by : (o : Option ℕ) → (q : Path) × (option_map_or (λ depth. id.Node (take depth (path_of x.id))) o (main_of x.id) ≡ id.Node q)
      by None = (p, main)
      by (Some depth) = (take depth (path_of x.id), refl)

  still : (x : Document) → IsIn x (gone_by copy look') → (r : Revision) → v r ≡ true → t r ≡ false → HasEntryOf r x → has_revision (now (commit_root_of x r)) r ≡ true
  still x i r seen unswept entry =
      let root = root_of x i r in
      ap (λ j. has_revision (now j) r) root.1
      ∙ goes.said root.0 r (reads.done x (was_in x i) r seen entry) seen unswept (ap (λ j. has_revision (ds j) r) (sym root.1) ∙ reads.said x (was_in x i) r seen unswept entry)

  -- ---- what it will ask for

  outdone_copy : (old x : Document) → ds (id.Node p) ≡ Some old → IsOutdone v old x → IsOutdone v copy x
  outdone_copy old x is out n r seen h = let l = out n r seen h in (l.0, l.1, l.2, reads.within old is n l.0 l.2 l.3)

  -- of what it will ask for it goes by what stays
  stayed : (e : PrevEntry) → IsIn e copy.prev → asked e.number ≡ false → (x : Document) → look' e.number ≡ Some x → (look e.number ≡ Some x) × (now (id.Prev e.number p) ≡ ds (id.Prev e.number p))
  stayed e i a x h = elim (goes.previous e i a) [
    | inl same ↦ (sym (ap (λ b. cond (b || goes.stays e.number) (look e.number) None) a ∙ ap (λ b. cond b (look e.number) None) same.0) ∙ h, same.1)
    | inr g ↦ absurd (false≢true (ap is_some (sym (ap (λ b. cond (b || goes.stays e.number) (look e.number) None) a ∙ ap (λ b. cond b (look e.number) None) g.0) ∙ h)))
  ]

  left_now : (e : PrevEntry) → IsIn e copy.prev → asked e.number ≡ false → (x : Document) → look' e.number ≡ Some x → IsListed now p e.number ⊎ IsOutdone v copy x
  left_now e i a x h =
      let was = stayed e i a x h in
      elim (reads.left e i a x was.0) [
        | inr out ↦ inr out
        | inl listed ↦ elim (goes.list e.number x (there was.0 (reads.follows e i a)) listed) [ inl l ↦ inl l | inr o ↦ inr (outdone_copy o.0 x o.1 o.2) ]
      ]
    where
      there : look e.number ≡ Some x → (look e.number ≡ ds (id.Prev e.number p)) ⊎ (look e.number ≡ None) → ds (id.Prev e.number p) ≡ Some x
      there k (inl same) = sym same ∙ k
      there k (inr none) = absurd (false≢true (ap is_some (sym none ∙ k)))

  follows_now : (e : PrevEntry) → IsIn e copy.prev → asked e.number ≡ false → (look' e.number ≡ now (id.Prev e.number p)) ⊎ (look' e.number ≡ None)
  follows_now e i a = elim (goes.previous e i a) [
    | inr g ↦ inr (ap (λ b. cond (b || goes.stays e.number) (look e.number) None) a ∙ ap (λ b. cond b (look e.number) None) g.0)
    | inl same ↦
        let is : look' e.number ≡ look e.number = ap (λ b. cond (b || goes.stays e.number) (look e.number) None) a ∙ ap (λ b. cond b (look e.number) None) same.0 in
        elim (reads.follows e i a) [
          | inl one ↦ inl (is ∙ (one ∙ sym same.1))
          | inr none ↦ inr (is ∙ none)
        ]
  ]

  -- the reader reads the same
  pub reads_on : Reads now later v t p copy asked look'
  reads_on = record {
    follows = follows_now;
    node = subst (λ (tree : Nodes). Matches shows_node (born_at tree p) (last_entry (gone_of p) v later.commits) (latest (filter (λ e. v e.0) (gone_in (gone_by copy look'))))) (sym goes.tree)
        (subst (λ o. Matches shows_node (born_at c.tree p) o (latest (filter (λ e. v e.0) (gone_in (gone_by copy look'))))) (sym goes.node_last)
        (subst (λ (l : List (Revision × Bool)). Matches shows_node (born_at c.tree p) (last_entry (gone_of p) v c.commits) (latest (filter (λ e. v e.0) l))) (sym gone_same) reads.node));
    prop = λ n. subst (λ (tree : Nodes). Matches shows_value (property_at tree p n) (last_entry (put_of p n) v later.commits) (latest (filter (λ e. v e.0) (values_in n (gone_by copy look'))))) (sym goes.tree)
        (subst (λ o. Matches shows_value (property_at c.tree p n) o (latest (filter (λ e. v e.0) (values_in n (gone_by copy look'))))) (sym (goes.prop_last n))
        (subst (λ o. Matches shows_value (property_at c.tree p n) (last_entry (put_of p n) v c.commits) o) (sym (value_same n)) (reads.prop n)));
    named = reads.named;
    previous = previous';
    done = λ x i r seen entry. goes.done r (reads.done x (was_in x i) r seen entry);
    said = still;
    within = λ d h n q seen k. let o = goes.sub d h n q seen k in reads.within o.0 o.1 n q seen o.2;
    left = left_now;
  }

-- a reader that has asked for more
pub reads_more : (ds : Documents) (c : Course) (v t : Sight) (p : Path) (copy : Document) (asked more : ℕ → Bool) (look : ℕ → Option Document) → ((k : ℕ) → more k ≡ false → asked k ≡ false) → Reads ds c v t p copy asked look → Reads ds c v t p copy more look
reads_more ds c v t p copy asked more look less reads = record {
  follows = λ e i a. reads.follows e i (less e.number a);
  node = reads.node;
  prop = reads.prop;
  named = reads.named;
  previous = reads.previous;
  done = reads.done;
  said = reads.said;
  within = reads.within;
  left = λ e i a. reads.left e i (less e.number a);
}

-- the commit root of an entry of what it goes by is a node's document
pub root_by : (ds : Documents) (c : Course) (v t : Sight) (p : Path) (copy : Document) (asked : ℕ → Bool) (look : ℕ → Option Document) → Reads ds c v t p copy asked look → (x : Document) → IsIn x (gone_by copy look) → (r : Revision) → (q : Path) × (commit_root_of x r ≡ id.Node q)
root_by ds c v t p copy asked look reads x i r = by (of_revision x.commit_root r)
  where
    main : main_of x.id ≡ id.Node p
    main = at i
      where
        at : IsIn x (gone_by copy look) → main_of x.id ≡ id.Node p
        at (inl one) = ap (λ (y : Document). main_of y.id) (sym one) ∙ ap main_of reads.named
        at (inr j) = let f = look_in look copy.prev x j in ap main_of (reads.previous f.0 f.1 x f.2).0

    by : (o : Option ℕ) → (q : Path) × (option_map_or (λ depth. id.Node (take depth (path_of x.id))) o (main_of x.id) ≡ id.Node q)
    by None = (p, main)
    by (Some depth) = (take depth (path_of x.id), refl)

-- ---- what it knows in the end, of `_deleted` alone

-- a reader that has asked for all, and knows the statuses of the entries of `_deleted`
module _ (ds : Documents) (c : Course) (v t : RevVec) (p : Path) (copy : Document) (asked : ℕ → Bool) (look : ℕ → Option Document) (reads : Reads ds c (sees v) (sees t) p copy asked look) (known : Documents) (main : known (id.Node p) ≡ Some copy) (listed : (e : PrevEntry) → IsIn e copy.prev → known (id.Prev e.number p) ≡ look e.number)
    (said : (x : Document) → IsIn x (gone_by copy look) → (r : Revision) → sees v r ≡ true → sees t r ≡ false → is_some (of_revision x.deleted r) ≡ true → has_revision (known (commit_root_of x r)) r ≡ true) where
  all_known : all_at known p ≡ gone_by copy look
  all_known = ap (λ o. option_map_or (with_previous known p) o []) main ∙ ap (λ l. copy ∷ l) (same_listed (λ e. known (id.Prev e.number p)) (λ e. look e.number) copy.prev (λ e i. listed e i))

  gone_count : (all : List Document) → ((x : Document) → IsIn x all → IsIn x (gone_by copy look)) → flat_map (counting known t v (λ d. d.deleted)) all ≡ filter (λ e. sees v e.0) (gone_in all)
  gone_count [] inside = refl
  gone_count (x ∷ all) inside =
      ap (λ l. l ++ flat_map (counting known t v (λ d. d.deleted)) all) (same_filter (λ r. sees v r && is_committed known t x r) (sees v) x.deleted (λ r h. by r (sees v r) refl (sees t r) refl h))
      ∙ (ap (λ l. filter (λ e. sees v e.0) x.deleted ++ l) (gone_count all (λ y i. inside y (inr i))) ∙ sym (filter-append (λ e. sees v e.0) x.deleted (gone_in all)))
    where
      by : (r : Revision) (b : Bool) → sees v r ≡ b → (k : Bool) → sees t r ≡ k → is_some (of_revision x.deleted r) ≡ true → (b && (k || has_revision (known (commit_root_of x r)) r)) ≡ b
      by r false s k u h = refl
      by r true s true u h = refl
      by r true s false u h = said x (inside x (inl refl)) r s u h

  node_known : Matches shows_node (born_at c.tree p) (last_entry (gone_of p) (sees v) c.commits) (Rattle.oak_read.specs.Meaning.entry_of known t v (λ d. d.deleted) (all_at known p))
  node_known = subst (λ o. Matches shows_node (born_at c.tree p) (last_entry (gone_of p) (sees v) c.commits) o) (sym (ap (λ l. latest (flat_map (counting known t v (λ d. d.deleted)) l)) all_known ∙ ap latest (gone_count (gone_by copy look) (λ x i. i)))) reads.node

  pub known_there : (tree : Nodes) → Shows c (sees v) tree → is_some (found_node known t v p) ≡ is_some (node_at tree p)
  known_there tree shows = found_there known c t v p node_known tree shows

  pub known_born : (tree : Nodes) → Shows c (sees v) tree → born_of (found_node known t v p) ≡ born_at tree p
  known_born tree shows = found_born known c t v p node_known tree shows

-- ---- what it knows in the end

module _ (ds : Documents) (c : Course) (v t : RevVec) (p : Path) (copy : Document) (asked : ℕ → Bool) (look : ℕ → Option Document) (reads : Reads ds c (sees v) (sees t) p copy asked look) (known : Documents) (knows : Knows known (sees v) (sees t) p copy look) where
  pub known_all : all_at known p ≡ gone_by copy look
  known_all = ap (λ o. option_map_or (with_previous known p) o []) knows.main ∙ ap (λ l. copy ∷ l) (same_listed (λ e. known (id.Prev e.number p)) (λ e. look e.number) copy.prev (λ e i. knows.previous e i))

  -- all that is seen counts
  pub all_count : {X : Type 0} (field : Document → List (Revision × X)) → ((x : Document) (r : Revision) → is_some (of_revision (field x) r) ≡ true → HasEntryOf r x) → (all : List Document) → ((x : Document) → IsIn x all → IsIn x (gone_by copy look))
      → flat_map (counting known t v field) all ≡ filter (λ e. sees v e.0) (flat_map field all)
  all_count field entry [] inside = refl
  all_count field entry (x ∷ all) inside =
      ap (λ l. l ++ flat_map (counting known t v field) all) (same_filter (λ r. sees v r && is_committed known t x r) (sees v) (field x) (λ r h. by r (sees v r) refl (sees t r) refl h))
      ∙ (ap (λ l. filter (λ e. sees v e.0) (field x) ++ l) (all_count field entry all (λ y i. inside y (inr i))) ∙ sym (filter-append (λ e. sees v e.0) (field x) (flat_map field all)))
    where
      by : (r : Revision) (b : Bool) → sees v r ≡ b → (k : Bool) → sees t r ≡ k → is_some (of_revision (field x) r) ≡ true → (b && (k || has_revision (known (commit_root_of x r)) r)) ≡ b
      by r false s k u h = refl
      by r true s true u h = refl
      by r true s false u h = knows.said x (inside x (inl refl)) r s u (entry x r h)

  -- a reader that has asked for all gives the node of the tree
  pub known_found : (tree : Nodes) → Shows c (sees v) tree → found_node known t v p ≡ node_at tree p
  known_found tree shows = found_by known c t v p
      (subst (λ o. Matches shows_node (born_at c.tree p) (last_entry (gone_of p) (sees v) c.commits) o) (sym (ap (λ l. latest (flat_map (counting known t v (λ d. d.deleted)) l)) known_all ∙ ap latest (all_count (λ d. d.deleted) (λ x r h. inl h) (gone_by copy look) (λ x i. i)))) reads.node)
      (λ n. subst (λ o. Matches shows_value (property_at c.tree p n) (last_entry (put_of p n) (sees v) c.commits) o) (sym (ap (λ l. latest (flat_map (counting known t v (λ d. values_of_property d.props n)) l)) known_all ∙ ap latest (all_count (λ d. values_of_property d.props n) (λ x r h. inr (n, h)) (gone_by copy look) (λ x i. i)))) (reads.prop n))
      tree shows
