-- Splits, prunings and removals keep the world.
use Rattle.core_clash.specs.Collecting.{with_moved}
use Rattle.core_keep.specs.Keeps.{edit_in, is_done, IsPrevious}
use Rattle.core_keep.specs.Standing.{all_at, values_in}
use Rattle.jr_tree.specs.declared.edit.Write.{Write}
use Rattle.jr_tree.specs.Items.{put_of, written}
use Rattle.core_keep.specs.Steps.{IsChangeAt}
use Rattle.core_keep.proofs.AtPath.{listed, value_split}
use Rattle.core_keep.proofs.Item.{some_of}
use Rattle.oak_read.specs.Shown.{with_previous}
use Rattle.std.specs.Option.{option_or}
use Rattle.jr_value.specs.declared.value.Property.{Property}
use Rattle.std.proofs.Common.{◌≡◌, ◌⊎◌, inl, inr, ℕ, Bool, true, false, cond, not, ◌||◌, Some, None, Option, List, [], ◌∷◌, filter_map, is_some, refl, sym, ap, ◌∙◌, subst}
use Rattle.std.proofs.Math.Path.{fun_ext}
use Rattle.std.specs.Prelude.{◌==◌}
use Rattle.std.specs.List.{cons_option, filter, list_any}
use Rattle.std.specs.Option.{option_map_or, unwrap_or}
use Rattle.std.specs.Ordering.{eq_by_cmp}
use mathlib.Core.Bool.{false≢true}
use Rattle.jr_path.specs.Ids.{id_cmp}
use Rattle.jr_path.specs.Names.{path_cmp}
use Rattle.jr_path.specs.declared.name.Name.{Name}
use Rattle.jr_path.specs.declared.path.DocId.{DocId}
use Rattle.jr_path.specs.declared.path.DocId.TheVariants as id
use Rattle.jr_path.specs.declared.path.Path.{Path}
use Rattle.jr_rev.specs.declared.revision.Revision.{Revision}
use Rattle.jr_rev.specs.declared.vector.Pin.{Pin}
use Rattle.jr_rev.specs.declared.vector.RevVec.{RevVec}
use Rattle.jr_rev.specs.Revisions.{revision_cmp, is_before}
use Rattle.jr_rev.specs.Vectors.{start_of, sees}
use Rattle.jr_tree.proofs.Pointwise.{same_path}
use Rattle.oak_clash.specs.declared.mark.Mark.{Mark}
use Rattle.oak_clash.specs.declared.mark.Mark.TheVariants.{Exists, Guard, Touch, Prop}
use Rattle.oak_commit.specs.Clashing.{Writer}
use Rattle.oak_doc.specs.declared.document.Document.{Document}
use Rattle.oak_doc.specs.declared.document.PrevEntry.{PrevEntry}
use Rattle.oak_doc.specs.declared.update.UpdateOp.{UpdateOp}
use Rattle.oak_doc.specs.Updates.{after_changes, of_revision, values_of_property}
use Rattle.oak_machine.specs.declared.event.StepKind.TheVariants as kind
use Rattle.oak_machine.specs.History.{Past}
use Rattle.oak_machine.specs.Commits.{is_committed}
use Rattle.oak_machine.specs.Laws.{Says, Starts, StartsProper}
use Rattle.oak_machine.specs.Sessions.{has_left, has_login}
use Rattle.oak_read.specs.Meaning.{Documents, documents_in}
use Rattle.oak_store.specs.Tables.{Table, next_number, with_document}
use Rattle.core_read.specs.Holds.{the_start}
use Rattle.core_read.specs.Told.{IsIn}
use Rattle.core_read.proofs.Told.{edit_committed}
use Rattle.core_clash.specs.Collecting.{MaySplitCore as MaySplitCore, MayPruneCore as MayPruneCore}
use Rattle.core_clash.specs.Views.{In}
use Rattle.core_clash.specs.Sound.{Sound, has_moved}
use Rattle.core_clash.proofs.Basics.{same_revision, or_cases, or_left, or_right}
use Rattle.core_clash.proofs.Dropped.{prune_drops, remove_drops, split_drops}
use Rattle.core_keep.specs.Dropping.{is_number_of}
use Rattle.core_keep.specs.Garbage.{is_garbage_previous}
use Rattle.core_keep.specs.Holding.{IsHoldingStep}
use Rattle.core_keep.specs.Journal.{is_bounded}
use Rattle.core_keep.specs.Splits.{moved_keys, previous_write}
use Rattle.core_keep.specs.Steps.{IsMainAt, IsMoved, IsPreviousAt, IsPruned, IsUnlisted}
use Rattle.core_keep.proofs.Garbage.{garbage_pruned, garbage_unwanted}
use Rattle.core_keep.proofs.Splits.{split_moved}
use Rattle.core_keep.specs.Formers.{AreFormers, Former, former_now, Formers, IsCopyOf, with_former}
use Rattle.core_keep.proofs.Staying.{grows_by, missing_unlisted}
use Rattle.core_watch.specs.Reading.{ReadsOn}
use Rattle.core_watch.proofs.StayingOn.{formers_listed, formers_previous, formers_pruned, formers_removed}
use Rattle.core_watch.proofs.GoingOn.{on_moved, on_previous, on_pruned, on_removed}
use Rattle.core_world.specs.Collecting.{MayPrune, MayRemove, MayRemovePrevious, MaySplit, after_change, after_copied, after_pruned, after_removed, after_split, after_taken_back, split_now, without}
use Rattle.core_world.specs.Held.{holding_in}
use Rattle.core_world.specs.Kept.{AreLayersKept, has_written}
use Rattle.core_world.specs.States.{State, core_in, moved_in, nodes_in, origin}
use Rattle.core_world.proofs.Changing.{changed_keeps, changed_rises}
use Rattle.core_world.proofs.Collects.{filter_listed, in_listed, listed_by, pruned_last, pruned_prev, pruned_sweep, root_changed, same_vectors, sound_put, taken_is}
use Rattle.core_world.proofs.Telling.{numbered_sound}
use Rattle.core_keep.proofs.AtPath.{same_listed}
use Rattle.std.specs.FinMap.{is_sorted}
use Rattle.core_world.proofs.Tables.{id_itself, one_id, path_itself, put_is, put_main}
use Rattle.oak_machine.specs.declared.event.Start.{Start}
use Rattle.core_begun.proofs.World.{kept_previous}
use Rattle.core_begun.proofs.Sound.{found as edit_is}
use Rattle.core_begun.proofs.Collecting.{garbage_keeps, removed_garbage_keeps, split_lists}
use Rattle.core_begun.specs.Kept.{IsHeldSince, IsKeptSince, bounded_since}
use Rattle.core_keep.specs.From.{course_from}
use Rattle.core_begun.specs.Told.{edit_since, IsToldSince}
use Rattle.core_begun.proofs.Course.{downward}
use Rattle.core_heads.proofs.Orders.{before_not}
use Rattle.core_read.proofs.Latest.{before_at_most}

-- what is done there was from the beginning, or was committed
pub edit_done : (start : Start) (past : Past) (r : Revision) → is_done (course_from start past) r ≡ true → (sees start.at r ≡ true) ⊎ (is_committed past r ≡ true)
edit_done start past r h = elim (or_cases (is_some (edit_in (course_from start past) r)) (sees start.at r) h) [
  | inl e ↦ inr (edit_committed past r (sym (ap is_some (edit_is past r)) ∙ e))
  | inr old ↦ inl old
]

-- a member that passes
pub any_in : (test : Document → Bool) (xs : List Document) → list_any test xs ≡ true → (y : Document) × IsIn y xs × (test y ≡ true)
any_in test [] a = absurd (false≢true a)
any_in test (y ∷ ys) a = by (test y) refl a (any_in test ys)
  where
    by : (b : Bool) → test y ≡ b → (b || list_any test ys) ≡ true → (list_any test ys ≡ true → (z : Document) × IsIn z ys × (test z ≡ true)) → (z : Document) × IsIn z (y ∷ ys) × (test z ≡ true)
    by true e a rest = (y, inl refl, e)
    by false e a rest = let z = rest a in (z.0, inr z.1, z.2)

-- what is done has an edit, or was there from the beginning
pub edit_or_old : (start : Start) (past : Past) (q : Revision) → is_done (course_from start past) q ≡ true → ((us : List Write) × (edit_in (course_from start past) q ≡ Some us)) ⊎ (sees start.at q ≡ true)
edit_or_old start past q d = by (edit_in (course_from start past) q) refl d
  where
    by : (o : Option (List Write)) → edit_in (course_from start past) q ≡ o → (is_some o || sees start.at q) ≡ true → ((us : List Write) × (edit_in (course_from start past) q ≡ Some us)) ⊎ (sees start.at q ≡ true)
    by None e h = inr h
    by (Some us) e h = inl (us, e)

-- what is later than an edit wasn't there from the beginning
pub later_edit : (start : Start) (past : Past) → IsToldSince start past → (o q : Revision) → is_before o q ≡ true → (us : List Write) → edit_in (course_from start past) o ≡ Some us → is_done (course_from start past) q ≡ true → (vs : List Write) × (edit_in (course_from start past) q ≡ Some vs)
later_edit start past told o q before us e d =
    let f = told.edits o us (sym (edit_is past o) ∙ e) in
    elim (edit_or_old start past q d) [ inl v ↦ v | inr old ↦ before_not o q before (before_at_most q o ((told.draws o f.0 f.1).after q old)) ]

-- the number of a previous document isn't one of these
number_stays : List ℕ → DocId → Bool
number_stays ns (id.Prev k p) = not (list_any (λ n. k == n) ns)
number_stays ns i = true

as_in : (x : Document) (xs : List Document) → In x xs → IsIn x xs
as_in x [] h = absurd h
as_in x (y ∷ ys) (inl e) = inl (sym e)
as_in x (y ∷ ys) (inr i) = inr (as_in x ys i)

-- what passes was there
in_filter : {X : Type 0} (pass : X → Bool) (es : List X) (e : X) → IsIn e (filter pass es) → IsIn e es
in_filter pass [] e i = i
in_filter {X} pass (x ∷ es) e i = by (pass x) i (in_filter pass es e)
  where
    by : (b : Bool) → IsIn e (cond b (x ∷ filter pass es) (filter pass es)) → (IsIn e (filter pass es) → IsIn e es) → IsIn e (x ∷ es)
    by false j rest = inr (rest j)
    by true (inl one) rest = inl one
    by true (inr j) rest = inr (rest j)

-- one previous document is this now, or none
pub previous_from : (ds now : Documents) (p : Path) (k : ℕ) (o : Option Document) → ((j : DocId) → now j ≡ cond (eq_by_cmp id_cmp j (id.Prev k p)) o (ds j)) → IsPreviousAt ds now p k
previous_from ds now p k o put = record {
  node = λ q. put (id.Node q) ∙ ap (λ b. cond b o (ds (id.Node q))) (apart (id.Node q) (λ h. cc));
  elsewhere = λ j q h. put (id.Prev j q) ∙ ap (λ b. cond b o (ds (id.Prev j q))) (apart (id.Prev j q) (λ e. other_path q h (ap (λ i. path_of_id i) e)));
  other = λ j h. put (id.Prev j p) ∙ ap (λ b. cond b o (ds (id.Prev j p))) (apart (id.Prev j p) (λ e. h (ap (λ i. number_of_id i) e)));
}
  where
    path_of_id : DocId → Path
    path_of_id (id.Prev j q) = q
    path_of_id i = []

    number_of_id : DocId → ℕ
    number_of_id (id.Prev j q) = j
    number_of_id i = 0

    apart : (i : DocId) → (i ≡ id.Prev k p → ⊥) → eq_by_cmp id_cmp i (id.Prev k p) ≡ false
    apart i never = by (eq_by_cmp id_cmp i (id.Prev k p)) refl
      where
        by : (b : Bool) → eq_by_cmp id_cmp i (id.Prev k p) ≡ b → b ≡ false
        by false h = refl
        by true h = absurd (never (one_id i (id.Prev k p) h))

    other_path : (q : Path) → eq_by_cmp path_cmp q p ≡ false → q ≡ p → ⊥
    other_path q h same = false≢true (sym h ∙ (ap (λ z. eq_by_cmp path_cmp z p) same ∙ path_itself p))

module _ (starts : Starts) (says : Says) (proper : StartsProper starts) (w : State) (kept : AreLayersKept starts says w) (s : ℕ) (login : has_login w.past s ≡ true) (stays : has_left w.past s ≡ false) where
  abbrev ds : Documents
  ds = documents_in w.table.documents

  abbrev writers : Revision → Writer
  writers = kept.sessions.committing.writers

  abbrev done : Rattle.core_read.specs.World.Progress
  done = λ r. has_written (kept.sessions.committing.writers r)

  abbrev world : IsKeptSince (origin w) (documents_in w.table.documents) w.past (λ r. has_written (kept.sessions.committing.writers r))
  world = kept.sessions.committing.kept

  abbrev sound : Sound (core_in (origin w) w.past w.table kept.sessions.committing.writers)
  sound = kept.sessions.committing.sound

  abbrev formers : Formers
  formers = w.formers

  abbrev n : ℕ
  n = next_number w.table

  -- ---- a split's update of the document

  module _ (read : Documents) (pin : Pin) (p : Path) (old : Document) (e : PrevEntry) (may : MaySplit w read pin p old e) where
    abbrev d : Document
    d = split_now w read pin old e

    abbrev x : Document
    x = after_changes None (previous_write read pin old) may.first

    abbrev u : Table
    u = with_document w.table (id.Node p) (split_now w read pin old e) (next_number w.table)

    moves : IsMoved (course_from (origin w) w.past) p old d e x
    moves = split_moved read pin old e may.first n may.order (documents_in w.table.documents) (course_from (origin w) w.past) p (world.keeps p) may.there may.number
        may.counted

    main : IsMainAt (documents_in w.table.documents) (documents_in u.documents) p d
    main = put_main w.table p d n

    lists : filter_map (λ (f : PrevEntry). documents_in w.table.documents (id.Prev f.number p)) d.prev ≡ x ∷ moved_in w.table p
    lists =
        ap (filter_map (λ (f : PrevEntry). documents_in w.table.documents (id.Prev f.number p))) moves.prev
        ∙ (ap (λ (o : Option Document). cons_option o (filter_map (λ (f : PrevEntry). documents_in w.table.documents (id.Prev f.number p)) old.prev)) may.copied
        ∙ ap (λ (l : List Document). x ∷ l) (sym (ap (λ (o : Option Document). option_map_or (λ d. filter_map (λ (f : PrevEntry). documents_in w.table.documents (id.Prev f.number p)) d.prev) o []) may.there)))

    may_core : MaySplitCore (core_in (origin w) w.past w.table kept.sessions.committing.writers) read pin p old
    may_core = record { there = may.there; order = may.order; counted = λ m r stands h. edit_done (origin w) w.past r (may.counted m r stands h) }

    sound_then : Sound (core_in (origin w) w.past u kept.sessions.committing.writers)
    sound_then = sound_put (origin w) w.past writers w.table p d n (x ∷ moved_in w.table p) lists (split_drops (core_in (origin w) w.past w.table kept.sessions.committing.writers) read pin p old e may.first n sound may_core)

    world_then : IsKeptSince (origin w) (documents_in u.documents) w.past (λ r. has_written (kept.sessions.committing.writers r))
    world_then = split_lists (origin w) read (documents_in w.table.documents) (documents_in u.documents) w.past done p pin old e may.first n world may.there may.order may.number may.counted may.copied main

    abbrev more : Formers
    more = with_former formers p e.number (former_now (course_from (origin w) w.past) old)

    module _ (new : formers p e.number ≡ None) where
      formers_then : AreFormers (documents_in u.documents) (course_from (origin w) w.past) more
      formers_then = formers_listed (origin w) (documents_in w.table.documents) (documents_in u.documents) w.past done world p old d e x may.there may.copied main moves may.number formers new kept.sessions.readers.told

    on : (y : Pin) → IsHeldSince (origin w) w.past y.base y.sweep → ReadsOn (origin w) y (documents_in w.table.documents) (documents_in u.documents) w.past w.past
    on y held = on_moved (origin w) y (documents_in w.table.documents) (documents_in u.documents) w.past done world held p old d e x may.there may.copied main moves

    pub split_keeps : formers p e.number ≡ None → AreLayersKept starts says (after_split w s read pin p old e)
    split_keeps new = changed_keeps starts says proper w kept s login stays kind.Split refl refl u sound_then world_then more (grows_by formers p e.number (former_now (course_from (origin w) w.past) old) new) (formers_then new) on
        (root_changed w.clusters w.begin w.past w.table u p old d main may.there (same_vectors (moved_keys read pin old) old).0 (same_vectors (moved_keys read pin old) old).1 kept.root) (put_is w.table (id.Node p) d n id.Settings)

    pub split_rises : formers p e.number ≡ None → IsHoldingStep (holding_in w) (holding_in (after_split w s read pin p old e))
    split_rises new = changed_rises starts says proper w kept s login stays kind.Split refl refl u sound_then world_then more (grows_by formers p e.number (former_now (course_from (origin w) w.past) old) new) (formers_then new) on
        (root_changed w.clusters w.begin w.past w.table u p old d main may.there (same_vectors (moved_keys read pin old) old).0 (same_vectors (moved_keys read pin old) old).1 kept.root) (put_is w.table (id.Node p) d n id.Settings)

  -- ---- a split writes a previous document that isn't there

  -- a previous document is changed
  module _ (u : Table) (p : Path) (k : ℕ) (change : IsPreviousAt (documents_in w.table.documents) (documents_in u.documents) p k) (unlisted : IsUnlisted (documents_in w.table.documents) p k) where
    -- what is listed stays
    same_moved : moved_in u ≡ moved_in w.table
    same_moved = fun_ext (λ q. by q (nodes_in w.table q) refl (eq_by_cmp path_cmp q p) refl)
      where
        each : (q : Path) (es : List PrevEntry) → ((f : PrevEntry) → IsIn f es → documents_in u.documents (id.Prev f.number q) ≡ documents_in w.table.documents (id.Prev f.number q))
            → filter_map (λ (f : PrevEntry). documents_in u.documents (id.Prev f.number q)) es ≡ filter_map (λ (f : PrevEntry). documents_in w.table.documents (id.Prev f.number q)) es
        each q es same = same_listed (λ (f : PrevEntry). documents_in u.documents (id.Prev f.number q)) (λ (f : PrevEntry). documents_in w.table.documents (id.Prev f.number q)) es same

        by : (q : Path) (o : Option Document) → nodes_in w.table q ≡ o → (b : Bool) → eq_by_cmp path_cmp q p ≡ b → moved_in u q ≡ moved_in w.table q
        by q None is b h =
            ap (λ (o : Option Document). option_map_or (λ d. filter_map (λ (f : PrevEntry). documents_in u.documents (id.Prev f.number q)) d.prev) o []) (change.node q ∙ is)
            ∙ sym (ap (λ (o : Option Document). option_map_or (λ d. filter_map (λ (f : PrevEntry). documents_in w.table.documents (id.Prev f.number q)) d.prev) o []) is)
        by q (Some c) is false h =
            ap (λ (o : Option Document). option_map_or (λ d. filter_map (λ (f : PrevEntry). documents_in u.documents (id.Prev f.number q)) d.prev) o []) (change.node q ∙ is)
            ∙ (each q c.prev (λ f i. change.elsewhere f.number q h)
            ∙ sym (ap (λ (o : Option Document). option_map_or (λ d. filter_map (λ (f : PrevEntry). documents_in w.table.documents (id.Prev f.number q)) d.prev) o []) is))
        by q (Some c) is true h =
            let at : q ≡ p = same_path q p h in
            ap (λ (o : Option Document). option_map_or (λ d. filter_map (λ (f : PrevEntry). documents_in u.documents (id.Prev f.number q)) d.prev) o []) (change.node q ∙ is)
            ∙ (each q c.prev (λ f i. subst (λ (z : Path). documents_in u.documents (id.Prev f.number z) ≡ documents_in w.table.documents (id.Prev f.number z)) (sym at)
            (change.other f.number (λ same. unlisted c (ap (λ (z : Path). documents_in w.table.documents (id.Node z)) (sym at) ∙ is) f i same)))
            ∙ sym (ap (λ (o : Option Document). option_map_or (λ d. filter_map (λ (f : PrevEntry). documents_in w.table.documents (id.Prev f.number q)) d.prev) o []) is))

    previous_sound : Sound (core_in (origin w) w.past u kept.sessions.committing.writers)
    previous_sound =
        subst (λ (docs : Path → Option Document). Sound (record { old = sees (origin w).at; number = u.number; docs = docs; moved = moved_in u; past = w.past; writers = kept.sessions.committing.writers })) (sym (fun_ext change.node))
        (subst (λ (moved : Path → List Document). Sound (record { old = sees (origin w).at; number = u.number; docs = nodes_in w.table; moved = moved; past = w.past; writers = kept.sessions.committing.writers })) (sym same_moved)
        (numbered_sound (core_in (origin w) w.past w.table kept.sessions.committing.writers) sound u.number))

    previous_world : IsKeptSince (origin w) (documents_in u.documents) w.past (λ r. has_written (kept.sessions.committing.writers r))
    previous_world = kept_previous (origin w) (documents_in w.table.documents) (documents_in u.documents) w.past done world p k change unlisted

    module _ (copied : (f : Former) (x : Document) → formers p k ≡ Some f → documents_in u.documents (id.Prev k p) ≡ Some x → IsCopyOf p k f x) (set : documents_in u.documents id.Settings ≡ documents_in w.table.documents id.Settings) (step : Rattle.oak_machine.specs.declared.event.StepKind.StepKind)
        (other : Rattle.oak_machine.specs.Steps.is_kind step kind.End ≡ false) (apart : Rattle.oak_machine.specs.Steps.is_kind step kind.Pin ≡ false) where
      previous_on : (y : Pin) → IsHeldSince (origin w) w.past y.base y.sweep → ReadsOn (origin w) y (documents_in w.table.documents) (documents_in u.documents) w.past w.past
      previous_on y held = on_previous (origin w) y (documents_in w.table.documents) (documents_in u.documents) w.past done world held p k change unlisted

      previous_formers : AreFormers (documents_in u.documents) (course_from (origin w) w.past) formers
      previous_formers = formers_previous (origin w) (documents_in w.table.documents) (documents_in u.documents) w.past done world p k change unlisted formers copied kept.sessions.readers.told

      pub previous_keeps : AreLayersKept starts says (after_change w s step u)
      previous_keeps = changed_keeps starts says proper w kept s login stays step other apart u previous_sound previous_world formers (λ q j f h. h) previous_formers previous_on
          (record { document = kept.root.document; there = change.node [] ∙ kept.root.there; tells = kept.root.tells; begun = kept.root.begun }) set

      pub previous_rises : IsHoldingStep (holding_in w) (holding_in (after_change w s step u))
      previous_rises = changed_rises starts says proper w kept s login stays step other apart u previous_sound previous_world formers (λ q j f h. h) previous_formers previous_on
          (record { document = kept.root.document; there = change.node [] ∙ kept.root.there; tells = kept.root.tells; begun = kept.root.begun }) set

  module _ (p : Path) (k : ℕ) where
    put_previous : (x : Document) → IsPreviousAt (documents_in w.table.documents) (documents_in (with_document w.table (id.Prev k p) x n).documents) p k
    put_previous x = previous_from (documents_in w.table.documents) (documents_in (with_document w.table (id.Prev k p) x n).documents) p k (Some x) (put_is w.table (id.Prev k p) x n)

    take_previous : is_sorted id_cmp w.table.documents ≡ true → IsPreviousAt (documents_in w.table.documents) (documents_in (without w.table (id.Prev k p)).documents) p k
    take_previous sorted = previous_from (documents_in w.table.documents) (documents_in (without w.table (id.Prev k p)).documents) p k None (λ j. taken_is w.table (id.Prev k p) j sorted)

    -- what a split writes is a copy of what a former document of its number had
    put_copied : (x : Document) → ((f : Former) → formers p k ≡ Some f → IsCopyOf p k f x) → (f : Former) (y : Document) → formers p k ≡ Some f → documents_in (with_document w.table (id.Prev k p) x n).documents (id.Prev k p) ≡ Some y → IsCopyOf p k f y
    put_copied x copied f y h there = subst (λ (z : Document). IsCopyOf p k f z) (ap (λ o. unwrap_or o x) (sym (put_is w.table (id.Prev k p) x n (id.Prev k p) ∙ ap (λ b. cond b (Some x) (documents_in w.table.documents (id.Prev k p))) (id_itself (id.Prev k p))) ∙ there)) (copied f h)

    pub copied_keeps : (x : Document) → documents_in w.table.documents (id.Prev k p) ≡ None → ((f : Former) → formers p k ≡ Some f → IsCopyOf p k f x) → AreLayersKept starts says (after_copied w s p k x)
    copied_keeps x none new = previous_keeps (with_document w.table (id.Prev k p) x n) p k (put_previous x) (missing_unlisted (documents_in w.table.documents) (course_from (origin w) w.past) formers kept.sessions.readers.told p k (λ f h. (new f h).numbered) none) (put_copied x new) (put_is w.table (id.Prev k p) x n id.Settings) kind.Split refl refl

    pub copied_rises : (x : Document) → documents_in w.table.documents (id.Prev k p) ≡ None → ((f : Former) → formers p k ≡ Some f → IsCopyOf p k f x) → IsHoldingStep (holding_in w) (holding_in (after_copied w s p k x))
    copied_rises x none new = previous_rises (with_document w.table (id.Prev k p) x n) p k (put_previous x) (missing_unlisted (documents_in w.table.documents) (course_from (origin w) w.past) formers kept.sessions.readers.told p k (λ f h. (new f h).numbered) none) (put_copied x new) (put_is w.table (id.Prev k p) x n id.Settings) kind.Split refl refl

    module _ (may : MayRemovePrevious w p k) where
      gone : documents_in (without w.table (id.Prev k p)).documents (id.Prev k p) ≡ None
      gone = taken_is w.table (id.Prev k p) (id.Prev k p) may.sorted ∙ ap (λ b. cond b None (documents_in w.table.documents (id.Prev k p))) (id_itself (id.Prev k p))

      pub unlisted_goes : AreLayersKept starts says (after_removed w s (id.Prev k p))
      unlisted_goes = previous_keeps (without w.table (id.Prev k p)) p k (take_previous may.sorted) may.unlisted (λ f x h there. absurd (false≢true (ap is_some (sym gone ∙ there)))) (taken_is w.table (id.Prev k p) id.Settings may.sorted) kind.Collect refl refl

      pub unlisted_rises : IsHoldingStep (holding_in w) (holding_in (after_removed w s (id.Prev k p)))
      unlisted_rises = previous_rises (without w.table (id.Prev k p)) p k (take_previous may.sorted) may.unlisted (λ f x h there. absurd (false≢true (ap is_some (sym gone ∙ there)))) (taken_is w.table (id.Prev k p) id.Settings may.sorted) kind.Collect refl refl

      pub back_goes : AreLayersKept starts says (after_taken_back w s (id.Prev k p))
      back_goes = previous_keeps (without w.table (id.Prev k p)) p k (take_previous may.sorted) may.unlisted (λ f x h there. absurd (false≢true (ap is_some (sym gone ∙ there)))) (taken_is w.table (id.Prev k p) id.Settings may.sorted) kind.Split refl refl

      pub back_rises : IsHoldingStep (holding_in w) (holding_in (after_taken_back w s (id.Prev k p)))
      back_rises = previous_rises (without w.table (id.Prev k p)) p k (take_previous may.sorted) may.unlisted (λ f x h there. absurd (false≢true (ap is_some (sym gone ∙ there)))) (taken_is w.table (id.Prev k p) id.Settings may.sorted) kind.Split refl refl

  -- ---- a collection prunes a document

  module _ (m t : RevVec) (p : Path) (old : Document) (op : UpdateOp) (may : MayPrune w m t p old op) where
    abbrev then : Document
    then = after_changes (Some old) op (next_number w.table)

    abbrev pruned_table : Table
    pruned_table = with_document w.table (id.Node p) (after_changes (Some old) op (next_number w.table)) (next_number w.table)

    pruned_main : IsMainAt (documents_in w.table.documents) (documents_in pruned_table.documents) p then
    pruned_main = put_main w.table p then n

    -- a previous document stays where its number isn't unlisted
    stays_listed : Document → Bool
    stays_listed x = number_stays may.numbers x.id

    named : (f : PrevEntry) → IsIn f old.prev → (x : Document) → documents_in w.table.documents (id.Prev f.number p) ≡ Some x → stays_listed x ≡ not (is_number_of may.numbers f)
    unfolding stays_listed number_stays
    named f i x h =
        ap (number_stays may.numbers) ((world.keeps p).previous old may.there f i x h).named

    pruned_lists : filter_map (λ (f : PrevEntry). documents_in w.table.documents (id.Prev f.number p)) then.prev ≡ filter stays_listed (moved_in w.table p)
    pruned_lists =
        ap (filter_map (λ (f : PrevEntry). documents_in w.table.documents (id.Prev f.number p))) (pruned_prev (documents_in w.table.documents) m t p old op n may.keys may.numbers may.garbage)
        ∙ (filter_listed (λ (f : PrevEntry). documents_in w.table.documents (id.Prev f.number p)) (λ f. not (is_number_of may.numbers f)) stays_listed old.prev named
        ∙ ap (filter stays_listed) (sym (ap (λ (o : Option Document). option_map_or (λ d. filter_map (λ (f : PrevEntry). documents_in w.table.documents (id.Prev f.number p)) d.prev) o []) may.there)))

    may_prune : MayPruneCore (core_in (origin w) w.past w.table kept.sessions.committing.writers) m t p old op stays_listed
    may_prune = record {
      bound = may.bound;
      there = may.there;
      keys = may.keys;
      numbers = may.numbers;
      garbage = record { changes = may.garbage.changes; entries = may.garbage.entries; previous = λ f i k x h. absurd (false≢true (ap is_some h)) };
      moved = λ x i e. moved x i e;
    }
      where
        turn : (b : Bool) → not b ≡ false → b ≡ true
        turn true h = refl
        turn false h = absurd (false≢true (sym h))

        moved : (x : Document) → In x (moved_in w.table p) → stays_listed x ≡ false → is_garbage_previous m t old x ≡ true
        moved x i e =
            let l = in_listed (λ (f : PrevEntry). documents_in w.table.documents (id.Prev f.number p)) old.prev x
            (subst (λ (l : List Document). IsIn x l) (ap (λ (o : Option Document). option_map_or (λ d. filter_map (λ (f : PrevEntry). documents_in w.table.documents (id.Prev f.number p)) d.prev) o []) may.there) (as_in x (moved_in w.table p) i)) in
            may.garbage.previous l.0 l.1 (turn (is_number_of may.numbers l.0) (sym (named l.0 l.1 x l.2) ∙ e)) x l.2

    pruned_sound : Sound (core_in (origin w) w.past pruned_table kept.sessions.committing.writers)
    pruned_sound = sound_put (origin w) w.past writers w.table p then n (filter stays_listed (moved_in w.table p)) pruned_lists (prune_drops (core_in (origin w) w.past w.table kept.sessions.committing.writers) m t p old op stays_listed sound may_prune n)

    pruned_world : IsKeptSince (origin w) (documents_in pruned_table.documents) w.past (λ r. has_written (kept.sessions.committing.writers r))
    pruned_world = garbage_keeps (origin w) (documents_in w.table.documents) (documents_in pruned_table.documents) w.past done m t p old op n may.keys may.numbers world (λ r h. or_right (sees (origin w).at r) _ (may.bound.bounded r h)) (λ r h. or_right (sees (origin w).at r) _ (may.bound.swept r h)) may.there may.order may.garbage pruned_main

    pruned_is : Rattle.core_keep.specs.Steps.IsPruned (documents_in w.table.documents) (course_from (origin w) w.past) p old then
    pruned_is = garbage_pruned (documents_in w.table.documents) (course_from (origin w) w.past) p m t (λ r h. or_right (sees (origin w).at r) _ (may.bound.bounded r h)) (λ r h. or_right (sees (origin w).at r) _ (may.bound.swept r h)) old op n may.keys may.numbers ((world.keeps p).named old may.there) may.order may.garbage

    pruned_formers : AreFormers (documents_in pruned_table.documents) (course_from (origin w) w.past) formers
    pruned_formers = formers_pruned (origin w) (documents_in w.table.documents) (documents_in pruned_table.documents) w.past done world p old then may.there pruned_main pruned_is formers kept.sessions.readers.told

    pruned_on : (y : Pin) → IsHeldSince (origin w) w.past y.base y.sweep → ReadsOn (origin w) y (documents_in w.table.documents) (documents_in pruned_table.documents) w.past w.past
    pruned_on y held = on_pruned (origin w) y (documents_in w.table.documents) (documents_in pruned_table.documents) w.past done world held p old then may.there pruned_main
        pruned_is

    pruned_root : Rattle.core_world.specs.Kept.IsRootKept w.begin w.clusters w.past pruned_table
    pruned_root = root_changed w.clusters w.begin w.past w.table pruned_table p old then pruned_main may.there (pruned_last (documents_in w.table.documents) m t p old op n may.keys may.numbers may.garbage) (pruned_sweep (documents_in w.table.documents) m t p old op n may.keys may.numbers may.garbage) kept.root

    pub pruned_keeps : AreLayersKept starts says (after_pruned w s p old op)
    pruned_keeps = changed_keeps starts says proper w kept s login stays kind.Collect refl refl pruned_table pruned_sound pruned_world formers (λ q j f h. h) pruned_formers pruned_on pruned_root (put_is w.table (id.Node p) then n id.Settings)

    pub pruned_rises : IsHoldingStep (holding_in w) (holding_in (after_pruned w s p old op))
    pruned_rises = changed_rises starts says proper w kept s login stays kind.Collect refl refl pruned_table pruned_sound pruned_world formers (λ q j f h. h) pruned_formers pruned_on pruned_root (put_is w.table (id.Node p) then n id.Settings)

  -- ---- a document of an absent node goes

  module _ (m t : RevVec) (p : Path) (old : Document) (may : MayRemove w m t p old) where
    abbrev left : Table
    left = without w.table (id.Node p)

    left_is : (j : DocId) → documents_in left.documents j ≡ cond (eq_by_cmp id_cmp j (id.Node p)) None (documents_in w.table.documents j)
    left_is j = taken_is w.table (id.Node p) j may.sorted

    -- other documents stay
    left_other : (j : DocId) → (j ≡ id.Node p → ⊥) → documents_in left.documents j ≡ documents_in w.table.documents j
    left_other j never = left_is j ∙ ap (λ b. cond b None (documents_in w.table.documents j)) (apart (eq_by_cmp id_cmp j (id.Node p)) refl)
      where
        apart : (b : Bool) → eq_by_cmp id_cmp j (id.Node p) ≡ b → b ≡ false
        apart false h = refl
        apart true h = absurd (never (one_id j (id.Node p) h))

    left_gone : documents_in left.documents (id.Node p) ≡ None
    left_gone = left_is (id.Node p) ∙ ap (λ b. cond b None (documents_in w.table.documents (id.Node p))) (id_itself (id.Node p))

    left_previous : (k : ℕ) (q : Path) → documents_in left.documents (id.Prev k q) ≡ documents_in w.table.documents (id.Prev k q)
    left_previous k q = left_other (id.Prev k q) (λ h. cc)

    left_nodes : (q : Path) → eq_by_cmp path_cmp q p ≡ false → documents_in left.documents (id.Node q) ≡ documents_in w.table.documents (id.Node q)
    left_nodes q h = left_other (id.Node q) (λ e. false≢true (sym h ∙ (ap (λ z. eq_by_cmp path_cmp z p) (at_node e) ∙ path_itself p)))
      where
        path_of_id : DocId → Path
        path_of_id (id.Node y) = y
        path_of_id i = []

        at_node : id.Node q ≡ id.Node p → q ≡ p
        at_node e = ap path_of_id e

    elsewhere : IsChangeAt (documents_in w.table.documents) (documents_in left.documents) p
    elsewhere = record { node = left_nodes; previous = λ k q h. left_previous k q }

    left_docs : nodes_in left ≡ (λ q. cond (eq_by_cmp path_cmp q p) None (nodes_in w.table q))
    left_docs = fun_ext (λ q. by q (eq_by_cmp path_cmp q p) refl)
      where
        by : (q : Path) (b : Bool) → eq_by_cmp path_cmp q p ≡ b → nodes_in left q ≡ cond (eq_by_cmp path_cmp q p) None (nodes_in w.table q)
        by q false h = left_nodes q h ∙ sym (ap (λ b. cond b None (nodes_in w.table q)) h)
        by q true h = ap (nodes_in left) (same_path q p h) ∙ (left_gone ∙ sym (ap (λ b. cond b None (nodes_in w.table q)) h))

    left_moved : moved_in left ≡ with_moved (moved_in w.table) p []
    left_moved = fun_ext (λ q. by q (eq_by_cmp path_cmp q p) refl)
      where
        by : (q : Path) (b : Bool) → eq_by_cmp path_cmp q p ≡ b → moved_in left q ≡ cond (eq_by_cmp path_cmp q p) [] (moved_in w.table q)
        by q false h =
            listed_by (λ k. documents_in left.documents (id.Prev k q)) (λ k. documents_in w.table.documents (id.Prev k q)) (λ k. left_previous k q) (nodes_in left q)
            ∙ (ap (λ (o : Option Document). option_map_or (λ d. filter_map (λ (f : PrevEntry). documents_in w.table.documents (id.Prev f.number q)) d.prev) o []) (left_nodes q h)
            ∙ sym (ap (λ b. cond b [] (moved_in w.table q)) h))
        by q true h =
            ap (λ (o : Option Document). option_map_or (λ d. filter_map (λ (f : PrevEntry). documents_in left.documents (id.Prev f.number q)) d.prev) o []) (ap (nodes_in left) (same_path q p h) ∙ left_gone)
            ∙ sym (ap (λ b. cond b [] (moved_in w.table q)) h)

    unwanted : Rattle.core_keep.specs.Steps.IsUnwanted (course_from (origin w) w.past) p old
    unwanted = garbage_unwanted (course_from (origin w) w.past) p m t (λ r h. or_right (sees (origin w).at r) _ (may.bound.bounded r h)) (λ r h. or_right (sees (origin w).at r) _ (may.bound.swept r h)) old may.garbage

    -- bounds see what moved from it: behind each value there is a later one in the document, which they see
    moved_bounded : (r : Revision) (k : Mark) → list_any (has_moved r k) (moved_in w.table p) ≡ true → bounded_since (origin w) w.past r ≡ true
    moved_bounded r k h =
        let f = any_in (has_moved r k) (moved_in w.table p) h in
        let l = in_listed (λ (f : PrevEntry). documents_in w.table.documents (id.Prev f.number p)) old.prev f.0
        (subst (λ (l : List Document). IsIn f.0 l) (ap (λ (o : Option Document). option_map_or (λ d. filter_map (λ (f : PrevEntry). documents_in w.table.documents (id.Prev f.number p)) d.prev) o []) may.there) f.1) in
        of_mark k f.0 (l.0).number ((world.keeps p).previous old may.there l.0 l.1 f.0 l.2) f.2
      where
        of_edit : (n : Name) (x : Document) (j : ℕ) → IsPrevious (course_from (origin w) w.past) p old j x → is_some (of_revision (values_of_property x.props n) r) ≡ true → ((us : List Write) × (edit_in (course_from (origin w) w.past) r ≡ Some us)) → bounded_since (origin w) w.past r ≡ true
        of_edit n x j previous has us =
            let b = previous.behind n r has in
            let vs = later_edit (origin w) w.past world.told r b.0 b.1 us.0 us.1 b.2 in
            let mine = some_of (of_revision (values_of_property x.props n) r) has in
            let late = some_of (of_revision (values_of_property old.props n) b.0) b.3 in
            let wrote : written (put_of p n) us.0 ≡ Some mine.0 = previous.genuine n r us.0 mine.0 us.1 mine.1 in
            let stands : of_revision (values_in n (all_at (documents_in w.table.documents) p)) b.0 ≡ Some late.0 =
            ap (λ (o : Option Document). of_revision (values_in n (option_map_or (with_previous (documents_in w.table.documents) p) o [])) b.0) may.there
            ∙ (value_split (documents_in w.table.documents) p (Some old) n b.0 ∙ ap (λ (o : Option (Option Property)). option_or o (of_revision (values_in n (listed (documents_in w.table.documents) p (Some old))) b.0)) late.1) in
            let wrote_late : written (put_of p n) vs.0 ≡ Some late.0 = ((world.keeps p).prop n).genuine b.0 vs.0 late.0 vs.1 stands in
            (downward (origin w) w.past world.told world.separate (bounded_since (origin w) w.past) world.bounded.closed).prop p n b.0 r vs.0 us.0 vs.1 us.1 (ap is_some wrote_late) (ap is_some wrote) b.1 (unwanted.entries b.0 (inr (n, b.3)))

        of_name : (n : Name) (x : Document) (j : ℕ) → IsPrevious (course_from (origin w) w.past) p old j x → is_some (of_revision (values_of_property x.props n) r) ≡ true → bounded_since (origin w) w.past r ≡ true
        of_name n x j previous has = elim (edit_or_old (origin w) w.past r (previous.done n r has)) [ inl us ↦ of_edit n x j previous has us | inr old ↦ or_left (sees (origin w).at r) _ old ]

        of_mark : (k : Mark) (x : Document) (j : ℕ) → IsPrevious (course_from (origin w) w.past) p old j x → has_moved r k x ≡ true → bounded_since (origin w) w.past r ≡ true
        of_mark (Prop n) x j previous has = of_name n x j previous has
        of_mark Exists x j previous has = absurd (false≢true has)
        of_mark Guard x j previous has = absurd (false≢true has)
        of_mark Touch x j previous has = absurd (false≢true has)

    removed_sound : Sound (core_in (origin w) w.past left kept.sessions.committing.writers)
    removed_sound =
        subst (λ (docs : Path → Option Document). Sound (record { old = sees (origin w).at; number = w.table.number; docs = docs; moved = moved_in left; past = w.past; writers = kept.sessions.committing.writers })) (sym left_docs)
        (subst (λ (moved : Path → List Document). Sound (record { old = sees (origin w).at; number = w.table.number; docs = λ q. cond (eq_by_cmp path_cmp q p) None (nodes_in w.table q); moved = moved; past = w.past; writers = kept.sessions.committing.writers })) (sym left_moved)
        (remove_drops (core_in (origin w) w.past w.table kept.sessions.committing.writers) m t p old sound (record { bound = may.bound; there = may.there; garbage = may.garbage; moved = moved_bounded }) w.table.number))

    removed_world : IsKeptSince (origin w) (documents_in left.documents) w.past (λ r. has_written (kept.sessions.committing.writers r))
    removed_world = removed_garbage_keeps (origin w) (documents_in w.table.documents) (documents_in left.documents) w.past done m t p old world (λ r h. or_right (sees (origin w).at r) _ (may.bound.bounded r h)) (λ r h. or_right (sees (origin w).at r) _ (may.bound.swept r h)) may.there may.garbage elsewhere left_gone

    removed_formers : AreFormers (documents_in left.documents) (course_from (origin w) w.past) formers
    removed_formers = formers_removed (origin w) (documents_in w.table.documents) (documents_in left.documents) w.past done world p old may.there elsewhere left_gone left_previous unwanted formers kept.sessions.readers.told

    removed_on : (y : Pin) → IsHeldSince (origin w) w.past y.base y.sweep → ReadsOn (origin w) y (documents_in w.table.documents) (documents_in left.documents) w.past w.past
    removed_on y held = on_removed (origin w) y (documents_in w.table.documents) (documents_in left.documents) w.past done world held p old may.there elsewhere left_gone (λ k. left_previous k p) unwanted

    removed_root : Rattle.core_world.specs.Kept.IsRootKept w.begin w.clusters w.past left
    removed_root = record { document = kept.root.document; there = left_nodes [] may.below ∙ kept.root.there; tells = kept.root.tells; begun = kept.root.begun }

    pub removed_keeps : AreLayersKept starts says (after_removed w s (id.Node p))
    removed_keeps = changed_keeps starts says proper w kept s login stays kind.Collect refl refl left removed_sound removed_world formers (λ q j f h. h) removed_formers removed_on removed_root (left_other id.Settings (λ h. cc))

    pub removed_rises : IsHoldingStep (holding_in w) (holding_in (after_removed w s (id.Node p)))
    removed_rises = changed_rises starts says proper w kept s login stays kind.Collect refl refl left removed_sound removed_world formers (λ q j f h. h) removed_formers removed_on removed_root (left_other id.Settings (λ h. cc))
