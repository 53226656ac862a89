-- How the steps of a world change the documents, and that committers look on meanwhile.
use mathlib.Core.Bool.{false≢true}
use Rattle.std.proofs.Common.{◌≡◌, ◌⊎◌, inl, inr, ℕ, Bool, true, false, cond, not, ◌&&◌, Option, Some, None, List, [], ◌∷◌, map, filter, is_some, is_none, refl, sym, ap, subst, ◌∙◌}
use Rattle.std.specs.Prelude.{Result, Ok, Err}
use Rattle.std.specs.List.{list_all}
use Rattle.std.specs.Option.{option_map_or}
use Rattle.std.specs.Ordering.{eq_by_cmp}
use Rattle.jr_path.specs.Names.{path_cmp}
use Rattle.jr_path.specs.declared.path.DocId.{DocId}
use Rattle.jr_path.specs.declared.path.DocId.TheVariants as id
use Rattle.jr_path.specs.declared.path.Path.{Path}
use Rattle.jr_rev.specs.declared.revision.Revision.{Revision}
use Rattle.jr_tree.proofs.Pointwise.{same_path}
use Rattle.oak_commit.specs.Clashing.{Met, mark_op}
use Rattle.oak_commit.specs.Writing.{last_op, write_op}
use Rattle.oak_doc.specs.declared.document.Document.{Document}
use Rattle.oak_doc.specs.declared.document.PrevEntry.{PrevEntry}
use Rattle.oak_doc.specs.declared.update.Change.{Change}
use Rattle.oak_doc.specs.declared.update.OpFault.{OpFault}
use Rattle.oak_doc.specs.declared.update.OpFault.TheVariants as fault
use Rattle.oak_doc.specs.declared.update.Kept.TheVariants as kept
use Rattle.oak_doc.specs.declared.update.UpdateOp.{UpdateOp}
use Rattle.oak_doc.specs.Updates.{after_changes, is_met, undone, update_refusal}
use Rattle.oak_machine.specs.Laws.{Says, Starts}
use Rattle.oak_read.specs.Meaning.{documents_in}
use Rattle.oak_store.specs.Tables.{Table, after_undo, found, next_number, with_document}
use Rattle.core_begun.specs.Kept.{IsKeptSince, bounded_since}
use Rattle.core_begun.proofs.Course.{downward}
use Rattle.core_begun.proofs.World.{course}
use Rattle.core_clash.specs.Core.{root_of}
use Rattle.core_clash.specs.Sessions.{Running}
use Rattle.core_clash.specs.Views.{In}
use Rattle.core_keep.specs.Formers.{Formers, FormersGrow}
use Rattle.core_keep.specs.From.{course_from}
use Rattle.core_keep.specs.Lookers.{LooksOn}
use Rattle.core_keep.specs.Steps.{IsChangeAt, IsMainAt, IsPreviousAt, IsPruned, IsUnlisted, IsUnwanted}
use Rattle.core_keep.proofs.Lookers.{moved_looks, others_look, previous_looks, pruned_looks, removed_looks, same_looks}
use Rattle.core_read.specs.Commits.{Sight}
use Rattle.core_read.specs.Told.{IsIn}
use Rattle.core_world.specs.Kept.{IsKept, has_written}
use Rattle.core_world.specs.States.{State, listed_at, nodes_in, origin}
use Rattle.core_world.specs.Steps.{after_last, after_mark, after_update, lasted_by, marked_by, setting_op, with_result}
use Rattle.core_world.proofs.Tabled.{last_table, mark_table}
use Rattle.core_world.proofs.Tables.{lists_stay, put_is, put_main, undo_main, undo_none}
use Rattle.core_world.proofs.Unsplit.{is_still, still_document, write_still}
use Rattle.oak_world.specs.Looks.{AreListedOnce, AreOnce}
use Rattle.oak_world.proofs.Looking.{SamePrevious, put_previous, undo_previous}

-- ---- a plain change

-- of the nodes' documents none is changed
abbrev pub SameNodes : Table → Table → Type 0
SameNodes t u = (q : Path) → nodes_in u q ≡ nodes_in t q

-- one node's document is changed, and lists what it listed
pub record IsChangedMain (t u : Table) : Type 0 where
  pub at : Path
  pub document : Document
  pub main : IsMainAt (documents_in t.documents) (documents_in u.documents) at document
  pub prev : document.prev ≡ listed_at t at

-- no previous document is changed, and at most one node's document, which lists what it listed
pub record IsPlainChange (t u : Table) : Type 0 where
  pub previous : SamePrevious t u
  pub nodes : SameNodes t u ⊎ IsChangedMain t u

-- a step changes the documents plainly, and tells of no former ones
pub record IsPlainly (w u : State) : Type 0 where
  pub change : IsPlainChange w.table u.table
  pub formers : u.formers ≡ w.formers

-- ---- changes by splits and collections

-- one previous document comes or goes, which no node lists
pub record IsPreviousChange (t u : Table) : Type 0 where
  pub at : Path
  pub number : ℕ
  pub change : IsPreviousAt (documents_in t.documents) (documents_in u.documents) at number
  pub unlisted : IsUnlisted (documents_in t.documents) at number

-- a node's document lists one previous document more, the first of its number
pub record IsListing (w u : State) : Type 0 where
  pub at : Path
  pub old : Document
  pub document : Document
  pub entry : PrevEntry
  pub there : nodes_in w.table at ≡ Some old
  pub main : IsMainAt (documents_in w.table.documents) (documents_in u.table.documents) at document
  pub prev : document.prev ≡ entry ∷ old.prev
  pub new : w.formers at entry.number ≡ None
  pub grows : FormersGrow w.formers u.formers

-- garbage of a node's document goes
pub record IsPruning (w u : State) : Type 0 where
  pub at : Path
  pub old : Document
  pub document : Document
  pub there : nodes_in w.table at ≡ Some old
  pub main : IsMainAt (documents_in w.table.documents) (documents_in u.table.documents) at document
  pub pruned : IsPruned (documents_in w.table.documents) (course_from (origin w) w.past) at old document

-- the document of an absent node goes
pub record IsRemoval (w u : State) : Type 0 where
  pub at : Path
  pub old : Document
  pub there : nodes_in w.table at ≡ Some old
  pub elsewhere : IsChangeAt (documents_in w.table.documents) (documents_in u.table.documents) at
  pub gone : nodes_in u.table at ≡ None
  pub previous : SamePrevious w.table u.table
  pub unwanted : IsUnwanted (course_from (origin w) w.past) at old

-- how a step changes the documents, where nothing more is told of former ones
abbrev pub ChangesAlone : State → State → Type 0
ChangesAlone w u = IsPlainChange w.table u.table ⊎ IsPreviousChange w.table u.table ⊎ IsPruning w u ⊎ IsRemoval w u

-- how a step changes the documents, and what is told of former ones
abbrev pub Changes : State → State → Type 0
Changes w u = (ChangesAlone w u × (u.formers ≡ w.formers)) ⊎ IsListing w u

-- ---- the steps of sessions and of commits

module _ (t : Table) where
  pub still_plain : IsPlainChange t t
  still_plain = record { previous = λ k q. refl; nodes = inl (λ q. refl) }

  put_plain : (p : Path) (d : Document) (n : ℕ) → d.prev ≡ listed_at t p → IsPlainChange t (with_document t (id.Node p) d n)
  put_plain p d n same = record {
    previous = put_previous t (id.Node p) d n refl;
    nodes = inr (record { at = p; document = d; main = put_main t p d n; prev = same });
  }

  -- an update of a node's document that lists nothing and unlists nothing
  pub update_plain : (p : Path) (op : UpdateOp) → op.id ≡ id.Node p → list_all is_still op.changes ≡ true → IsPlainChange t (after_update t op)
  update_plain p op at all = by (is_none (found t op.id) && not op.create) (is_met (found t op.id) op.cond)
    where
      made : IsPlainChange t (with_document t op.id (after_changes (found t op.id) op (next_number t)) (next_number t))
      made = subst (λ (i : DocId). IsPlainChange t (with_document t i (after_changes (found t i) op (next_number t)) (next_number t))) (sym at)
          (put_plain p (after_changes (found t (id.Node p)) op (next_number t)) (next_number t) (still_document (found t (id.Node p)) op (next_number t) all))

      by : (a b : Bool) → IsPlainChange t (with_result t op.id (cond a (Err fault.Absent) (cond b (Ok (after_changes (found t op.id) op (next_number t))) (Err (update_refusal (found t op.id) op.cond)))))
      by true b = still_plain
      by false true = made
      by false false = still_plain

  -- an update of the settings
  pub settings_plain : (c : Change) → IsPlainChange t (after_update t (setting_op c))
  settings_plain c = by (is_none (found t id.Settings) && true)
    where
      made : IsPlainChange t (with_document t id.Settings (after_changes (found t id.Settings) (setting_op c) (next_number t)) (next_number t))
      made = record {
        previous = put_previous t id.Settings (after_changes (found t id.Settings) (setting_op c) (next_number t)) (next_number t) refl;
        nodes = inl (λ q. put_is t id.Settings (after_changes (found t id.Settings) (setting_op c) (next_number t)) (next_number t) (id.Node q));
      }

      by : (a : Bool) → IsPlainChange t (with_result t id.Settings (cond a (Err fault.Absent) (Ok (after_changes (found t id.Settings) (setting_op c) (next_number t)))))
      by true = still_plain
      by false = made

  -- an undoing
  pub undo_plain : (p : Path) (r : Revision) → IsPlainChange t (after_undo t (id.Node p) r)
  undo_plain p r = record { previous = undo_previous t p r; nodes = by (found t (id.Node p)) refl }
    where
      by : (o : Option Document) → found t (id.Node p) ≡ o → SameNodes t (after_undo t (id.Node p) r) ⊎ IsChangedMain t (after_undo t (id.Node p) r)
      by None is = inl (λ q. ap (λ es. documents_in es (id.Node q)) (undo_none t p r is))
      by (Some d) is = inr (record { at = p; document = undone d r (next_number t); main = undo_main t p r d is; prev = sym (ap (λ (o : Option Document). option_map_or (λ d. d.prev) o []) is) })

module _ (w : State) (s : ℕ) (x : Running) where
  pub write_plain : (p : Path) → IsPlainChange w.table (after_update w.table (write_op x.draw.revision x.draw.edit.writes x.draw.marks p))
  write_plain p = update_plain w.table p (write_op x.draw.revision x.draw.edit.writes x.draw.marks p) refl (write_still x.draw.revision x.draw.edit.writes x.draw.marks p)

  pub mark_plain : (f : Met) (rest : List Met) → IsPlainChange w.table (after_mark w s x f rest).table
  mark_plain f rest = subst (IsPlainChange w.table) (sym (mark_table w s x f rest)) (update_plain w.table (root_of w.past f.other) (mark_op (root_of w.past f.other) f.other x.draw.revision f.theirs) refl refl)

  pub last_plain : IsPlainChange w.table (after_last w s x).table
  last_plain = subst (IsPlainChange w.table) (sym (last_table w s x)) (update_plain w.table _ (last_op x.draw.revision x.draw.marks) refl refl)

  -- what is told of former documents stays
  marked_formers : (f : Met) (rest : List Met) (r : Result Document OpFault) → (marked_by w s x f rest r).formers ≡ w.formers
  marked_formers f rest (Ok d) = refl
  marked_formers f rest (Err g) = refl

  pub mark_formers : (f : Met) (rest : List Met) → (after_mark w s x f rest).formers ≡ w.formers
  mark_formers f rest = marked_formers f rest _

  lasted_formers : (r : Result Document OpFault) → (lasted_by w s x r).formers ≡ w.formers
  lasted_formers (Ok d) = refl
  lasted_formers (Err (fault.Unmet c (kept.Entry o item))) = refl
  lasted_formers (Err g) = refl

  pub last_formers : (after_last w s x).formers ≡ w.formers
  last_formers = lasted_formers _

module _ (w u : State) where
  pub plainly : IsPlainChange w.table u.table → u.formers ≡ w.formers → IsPlainly w u
  plainly change same = record { change = change; formers = same }

  pub plain_changes : IsPlainly w u → Changes w u
  plain_changes plain = inl (inl plain.change, plain.formers)

  -- the documents stay
  pub untouched : u.table ≡ w.table → u.formers ≡ w.formers → IsPlainly w u
  untouched same told = plainly (subst (IsPlainChange w.table) (sym same) (still_plain w.table)) told

  pub unchanged : u.table ≡ w.table → u.formers ≡ w.formers → Changes w u
  unchanged same told = plain_changes (untouched same told)

-- ---- each previous document is listed once

module _ (t u : Table) where
  once_same : listed_at u ≡ listed_at t → AreListedOnce t → AreListedOnce u
  once_same same once = subst (λ (f : Path → List PrevEntry). (p : Path) → AreOnce (f p)) (sym same) once

  -- documents of one path alone are changed
  once_at : (at : Path) → IsChangeAt (documents_in t.documents) (documents_in u.documents) at → AreOnce (listed_at u at) → AreListedOnce t → AreListedOnce u
  once_at at change here once p = by (eq_by_cmp path_cmp p at) refl
    where
      by : (b : Bool) → eq_by_cmp path_cmp p at ≡ b → AreOnce (listed_at u p)
      by true h = subst (λ (q : Path). AreOnce (listed_at u q)) (sym (same_path p at h)) here
      by false h = subst AreOnce (sym (ap (λ (o : Option Document). option_map_or (λ d. d.prev) o []) (change.node p h))) (once p)

  nodes_once : SameNodes t u → AreListedOnce t → AreListedOnce u
  nodes_once same once p = subst AreOnce (sym (ap (λ (o : Option Document). option_map_or (λ d. d.prev) o []) (same p))) (once p)

  pub plain_once : IsPlainChange t u → AreListedOnce t → AreListedOnce u
  plain_once change once = by change.nodes
    where
      by : SameNodes t u ⊎ IsChangedMain t u → AreListedOnce u
      by (inl same) = nodes_once same once
      by (inr one) = once_same (lists_stay t u one.at one.document one.main one.prev) once

-- a document that is there lists this
listed_there : (t : Table) (p : Path) (d : Document) → nodes_in t p ≡ Some d → listed_at t p ≡ d.prev
listed_there t p d is = ap (λ (o : Option Document). option_map_or (λ d. d.prev) o []) is

-- a number that is listed is that of an entry
number_in : (k : ℕ) (es : List PrevEntry) → In k (map (λ e. e.number) es) → (e : PrevEntry) × IsIn e es × (e.number ≡ k)
number_in k [] i = absurd i
number_in k (e ∷ es) (inl one) = (e, inl refl, sym one)
number_in k (e ∷ es) (inr i) = let r = number_in k es i in (r.0, inr r.1, r.2)

filter_in : (k : ℕ) (keep : PrevEntry → Bool) (es : List PrevEntry) → In k (map (λ e. e.number) (filter keep es)) → In k (map (λ e. e.number) es)
filter_in k keep [] i = i
filter_in k keep (e ∷ es) i = by (filter_in k keep es) (keep e) i
  where
    by : (In k (map (λ e. e.number) (filter keep es)) → In k (map (λ e. e.number) es)) → (b : Bool) → In k (map (λ e. e.number) (cond b (e ∷ filter keep es) (filter keep es))) → In k (map (λ e. e.number) (e ∷ es))
    by rest true (inl one) = inl one
    by rest true (inr j) = inr (rest j)
    by rest false j = inr (rest j)

filter_once : (keep : PrevEntry → Bool) (es : List PrevEntry) → AreOnce es → AreOnce (filter keep es)
filter_once keep [] once = tt
filter_once keep (e ∷ es) once = by (filter_once keep es once.1) (keep e)
  where
    by : AreOnce (filter keep es) → (b : Bool) → AreOnce (cond b (e ∷ filter keep es) (filter keep es))
    by rest true = (λ i. once.0 (filter_in e.number keep es i), rest)
    by rest false = rest

module _ (starts : Starts) (says : Says) (w : State) (is : IsKept starts says w) (u : State) where
  alone_once : ChangesAlone w u → AreListedOnce w.table → AreListedOnce u.table
  alone_once (inl plain) once = plain_once w.table u.table plain once
  alone_once (inr (inl previous)) once = nodes_once w.table u.table previous.change.node once
  alone_once (inr (inr (inl pruning))) once =
      once_at w.table u.table pruning.at pruning.main.elsewhere
      (subst AreOnce (sym (listed_there u.table pruning.at pruning.document pruning.main.at ∙ pruning.pruned.prev.1))
      (filter_once pruning.pruned.prev.0 pruning.old.prev (subst AreOnce (listed_there w.table pruning.at pruning.old pruning.there) (once pruning.at)))) once
  alone_once (inr (inr (inr removal))) once =
      once_at w.table u.table removal.at removal.elsewhere (subst AreOnce (sym (ap (λ (o : Option Document). option_map_or (λ d. d.prev) o []) removal.gone)) tt) once

  listing_once : IsListing w u → AreListedOnce w.table → AreListedOnce u.table
  listing_once listing once =
      once_at w.table u.table listing.at listing.main.elsewhere
      (subst AreOnce (sym (listed_there u.table listing.at listing.document listing.main.at ∙ listing.prev))
      (fresh, subst AreOnce (listed_there w.table listing.at listing.old listing.there) (once listing.at))) once
    where
      fresh : In listing.entry.number (map (λ e. e.number) listing.old.prev) → ⊥
      fresh i =
          let e = number_in listing.entry.number listing.old.prev i in
          let f = is.sessions.readers.told.listed listing.at listing.old listing.there e.0 e.1 in
          false≢true (ap is_some (sym listing.new ∙ (ap (w.formers listing.at) (sym e.2) ∙ f.1)))

  -- so each document lists each previous one once
  pub changes_once : Changes w u → AreListedOnce w.table → AreListedOnce u.table
  changes_once (inl alone) once = alone_once alone.0 once
  changes_once (inr listing) once = listing_once listing once

  -- ---- looks go on

  -- what is told of former documents grows
  pub changes_grow : Changes w u → FormersGrow w.formers u.formers
  changes_grow (inl alone) = λ p k f h. ap (λ (g : Formers). g p k) alone.1 ∙ h
  changes_grow (inr listing) = listing.grows

  abbrev world : IsKeptSince (origin w) (documents_in w.table.documents) w.past (λ r. has_written (is.sessions.committing.writers r))
  world = is.sessions.committing.kept

  module _ (unseen : Sight) (unbound : (o : Revision) → unseen o ≡ true → bounded_since (origin w) w.past o ≡ false) (p : Path) (copy : Document) (asked : ℕ → Bool) where
    abbrev LetsLook : Type 0
    LetsLook = LooksOn (documents_in w.table.documents) (documents_in u.table.documents) unseen p copy asked

    plain_looks : IsPlainChange w.table u.table → LetsLook
    plain_looks change = by change.nodes
      where
        by : SameNodes w.table u.table ⊎ IsChangedMain w.table u.table → LetsLook
        by (inl same) = others_look (documents_in w.table.documents) (documents_in u.table.documents) unseen p copy asked same change.previous
        by (inr one) = same_looks (documents_in w.table.documents) (documents_in u.table.documents) unseen p copy asked one.at one.document one.main one.prev

    alone_looks : ChangesAlone w u → LetsLook
    alone_looks (inl plain) = plain_looks plain
    alone_looks (inr (inl previous)) = previous_looks (documents_in w.table.documents) (documents_in u.table.documents) unseen p copy asked previous.at previous.number previous.change previous.unlisted
    alone_looks (inr (inr (inl pruning))) =
        pruned_looks (documents_in w.table.documents) (documents_in u.table.documents) unseen p copy asked (course_from (origin w) w.past) pruning.at pruning.old pruning.document unbound pruning.there pruning.main pruning.pruned
    alone_looks (inr (inr (inr removal))) =
        removed_looks (documents_in w.table.documents) (documents_in u.table.documents) (course_from (origin w) w.past) world.keeps (course (origin w) (documents_in w.table.documents) w.past _ world)
        (downward (origin w) w.past world.told world.separate (bounded_since (origin w) w.past) world.bounded.closed) unseen unbound p copy asked removal.at removal.old removal.there removal.elsewhere removal.previous removal.unwanted

    pub changes_look : Changes w u → LetsLook
    changes_look (inl alone) = alone_looks alone.0
    changes_look (inr listing) = moved_looks (documents_in w.table.documents) (documents_in u.table.documents) unseen p copy asked listing.at listing.old listing.document listing.entry listing.there listing.main listing.prev
