-- What a step of a split or a collection makes of a world is kept, and lets the others be.
use Rattle.std.proofs.Common.{◌≡◌, ◌⊎◌, inl, inr, ◌+◌, ◌<◌, ◌≤◌, ◌^◌, ◌-◌, ℕ, Bool, true, false, cond, not, ◌&&◌, min, List, [], ◌∷◌, ◌++◌, Option, Some, None, refl, sym, ap, ◌∙◌, subst, arith}
use Rattle.std.specs.Prelude.{◌==◌}
use Rattle.std.specs.List.{fold}
use Rattle.std.specs.Ordering.{eq_by_cmp}
use mathlib.Core.Bool.{false≢true}
use Rattle.jr_path.specs.Ids.{id_cmp}
use Rattle.jr_path.specs.Names.{path_cmp}
use Rattle.jr_path.specs.declared.path.DocId.{DocId}
use Rattle.jr_path.specs.declared.path.DocId.TheVariants as id
use Rattle.jr_path.specs.declared.path.Path.{Path}
use Rattle.jr_rev.specs.declared.revision.Revision.{Revision}
use Rattle.jr_rev.specs.declared.vector.Pin.{Pin}
use Rattle.jr_rev.specs.declared.vector.RevVec.{RevVec}
use Rattle.jr_rev.proofs.Entries.{number_same}
use Rattle.jr_tree.proofs.Pointwise.{same_path}
use Rattle.oak_doc.specs.declared.document.Document.{Document}
use Rattle.oak_doc.specs.declared.document.PrevEntry.{PrevEntry}
use Rattle.oak_doc.specs.declared.update.EntryKey.{EntryKey}
use Rattle.oak_doc.specs.declared.update.Field.{Field}
use Rattle.oak_doc.specs.declared.update.Field.TheVariants as field
use Rattle.oak_doc.specs.declared.update.UpdateOp.{UpdateOp}
use Rattle.oak_doc.specs.Updates.{after_changes, pruned}
use Rattle.oak_machine.specs.declared.event.Event.TheVariants as event
use Rattle.oak_machine.specs.declared.event.Start.{Start}
use Rattle.oak_machine.specs.declared.event.StepKind.TheVariants as kind
use Rattle.oak_machine.specs.History.{Begin, Past}
use Rattle.oak_machine.specs.Laws.{Says, Starts, StartsProper}
use Rattle.oak_machine.specs.Runs.{IsRunOf}
use Rattle.oak_machine.specs.Sessions.{has_left, has_login}
use Rattle.oak_prev.specs.Splits.{IsInOrder, main_write, moved_keys}
use Rattle.oak_read.specs.Meaning.{Documents, documents_in}
use Rattle.oak_store.specs.Tables.{Table, next_number}
use Rattle.core_begun.specs.Told.{start_in}
use Rattle.core_heads.specs.Sound.{IsGood, Seen}
use Rattle.core_keep.specs.Dropping.{is_number_of}
use Rattle.core_keep.specs.Formers.{Former, Formers, former_now, with_former}
use Rattle.core_keep.specs.From.{course_from}
use Rattle.core_keep.specs.Holding.{IsHoldingStep}
use Rattle.core_keep.specs.Steps.{IsMainAt, IsUnlisted}
use Rattle.core_keep.proofs.Staying.{missing_unlisted}
use Rattle.core_world.specs.Collecting.{MayPrune, MayRemove, MayRemovePrevious, MaySplit, after_copied, after_pruned, after_removed, after_split, after_taken_back, split_now, without}
use Rattle.core_world.specs.Copying.{IsCopied, LetsCopy}
use Rattle.core_world.specs.Held.{after_bound, holding_in}
use Rattle.core_world.specs.Kept.{IsKept}
use Rattle.core_world.specs.Numbers.{AreNumbered, IsPassed, IsSplitting, last_number}
use Rattle.core_world.specs.States.{State, listed_at, nodes_in, origin}
use Rattle.core_world.specs.Steps.{after_went}
use Rattle.core_world.proofs.Collected.{back_whole, copied_whole, pruned_whole, removed_whole, split_whole, unlisted_whole}
use Rattle.core_world.proofs.Collects.{pruned_prev, taken_is}
use Rattle.core_world.proofs.Copying.{copied_apart, moved_lets, others_let, previous_lets, pruned_lets, removed_lets, same_lets}
use Rattle.core_world.proofs.Held.{still_holding}
use Rattle.core_world.proofs.Late.{splitting_beside, splitting_on}
use Rattle.core_world.proofs.Numbers.{first_listed, listed_numbers, numbered_on}
use Rattle.core_world.proofs.Splitting.{back_rises, copied_rises, previous_from, pruned_rises, removed_rises, split_rises, unlisted_rises}
use Rattle.core_world.proofs.Tables.{id_itself, one_id, path_itself, put_is, put_main}
use Rattle.core_world.proofs.Whole.{bound_keeps, layers_of, went_whole}
use Rattle.core_tidy.specs.Beside.{IsWorldStep, LetsTidy}
use Rattle.core_tidy.specs.Ordered.{AreAllInOrder, IsTableStep}
use Rattle.core_tidy.specs.Splitting.{IsBehind}
use Rattle.core_tidy.specs.Steps.{Bound, Copied, Listed, Makes, Pruned, Removed, Still, TakenBack, Unlisted, Went, lists_copy}
use Rattle.core_tidy.specs.Tidying.{HaveTheirNumbers}
use Rattle.core_tidy.proofs.Ordered.{made_order, put_table, still_table, without_table}
use Rattle.core_tidy.proofs.Since.{done_back, done_more}

-- the next number is at most the last one
pub next_low : (t : Table) → next_number t ≤ last_number
next_low t = by (t.number + 1)
  where
    by : (n : ℕ) → min n (2 ^ 64 - 1) ≤ last_number
    by n = omega arith

-- ---- documents

-- where a node's document changes no previous document does
pub main_previous : (ds now : Documents) (p : Path) (d : Document) → IsMainAt ds now p d → (k : ℕ) (q : Path) → now (id.Prev k q) ≡ ds (id.Prev k q)
main_previous ds now p d main k q = by (eq_by_cmp path_cmp q p) refl
  where
    by : (b : Bool) → eq_by_cmp path_cmp q p ≡ b → now (id.Prev k q) ≡ ds (id.Prev k q)
    by false h = main.elsewhere.previous k q h
    by true h = subst (λ (z : Path). now (id.Prev k z) ≡ ds (id.Prev k z)) (sym (same_path q p h)) (main.previous_here k)

-- dropping entries leaves what is listed
field_prev : (f : Field) (r : Revision) (d : Document) → (pruned d (record { field = f; revision = r })).prev ≡ d.prev
field_prev field.Deleted r d = refl
field_prev field.CommitRoot r d = refl
field_prev field.Revisions r d = refl
field_prev field.Collisions r d = refl
field_prev field.Touched r d = refl
field_prev field.Guard r d = refl
field_prev (field.Prop n) r d = refl

keys_prev : (ks : List EntryKey) (d : Document) → (fold pruned d ks).prev ≡ d.prev
keys_prev [] d = refl
keys_prev (k ∷ ks) d = keys_prev ks (pruned d k) ∙ field_prev k.field k.revision d

-- a previous document changes alone
module _ (ds now : Documents) (p : Path) (k : ℕ) (o : Option Document) (put : (j : DocId) → now j ≡ cond (eq_by_cmp id_cmp j (id.Prev k p)) o (ds j)) (unlisted : IsUnlisted ds p k) where
  previous_stays : (q : Path) (j : ℕ) → (now (id.Prev j q) ≡ ds (id.Prev j q)) ⊎ IsUnlisted ds q j
  previous_stays q j = by (eq_by_cmp id_cmp (id.Prev j q) (id.Prev k p)) refl
    where
      path_of_id : DocId → Path
      path_of_id (id.Prev n z) = z
      path_of_id i = []

      number_of_id : DocId → ℕ
      number_of_id (id.Prev n z) = n
      number_of_id i = 0

      by : (b : Bool) → eq_by_cmp id_cmp (id.Prev j q) (id.Prev k p) ≡ b → (now (id.Prev j q) ≡ ds (id.Prev j q)) ⊎ IsUnlisted ds q j
      by false h = inl (put (id.Prev j q) ∙ ap (λ b. cond b o (ds (id.Prev j q))) h)
      by true h =
          let e = one_id (id.Prev j q) (id.Prev k p) h in
          inr (subst (λ (z : Path). IsUnlisted ds z j) (sym (ap path_of_id e)) (subst (λ (n : ℕ). IsUnlisted ds p n) (sym (ap number_of_id e)) unlisted))

-- ---- what a split has read

module _ (starts : Starts) (says : Says) (w u : State) (later : IsKept starts says u) (own : Past) (grown : u.past ≡ own ++ w.past) (clusters : u.clusters ≡ w.clusters) (begin : u.begin ≡ w.begin) (table : IsTableStep w.table u.table) where
  same_origin : origin u ≡ origin w
  same_origin = ap (λ (n : ℕ). start_in n u.begin) clusters ∙ ap (λ (b : Begin). start_in w.clusters b) begin

  its_run : IsRunOf starts says u.clusters u.sessions u.begin (own ++ w.past)
  its_run = subst (λ (p : Past). IsRunOf starts says u.clusters u.sessions u.begin p) grown later.sessions.run

  -- what one split has read it may still move where no former document came
  pub splits_on : (formers : Formers) (known : Documents) (pin : Pin) (p : Path) (old : Document) → IsGood w.begin w.past (Seen pin.base)
      → IsSplitting (origin w) w.past w.table formers known pin p old → IsSplitting (origin u) u.past u.table formers known pin p old
  splits_on formers known pin p old good splits =
      subst (λ (b : Start). IsSplitting b u.past u.table formers known pin p old) (sym same_origin)
      (subst (λ (l : Past). IsSplitting (origin w) l u.table formers known pin p old) (sym grown)
      (splitting_on (origin w) w.table u.table w.past (own ++ w.past) formers known pin p old table.numbers (λ r h. done_more (origin w) own w.past r h)
      (λ r seen h. done_back starts says u.clusters u.sessions u.begin later.sessions.nodes (origin w) own w.past its_run pin.base (subst (λ (b : Begin). IsGood b w.past (Seen pin.base)) (sym begin) good) r seen h) splits))

-- ---- steps

-- what a step of this kind makes of a world
pub record IsMade (starts : Starts) (says : Says) (w u : State) (Lists : Path → ℕ → Type 0) : Type 0 where
  pub kept : IsKept starts says u
  pub lets : LetsTidy w u Lists

-- no copy is listed
abbrev pub nothing : Path → ℕ → Type 0
nothing p k = ⊥

module _ (starts : Starts) (says : Says) (w : State) (numbered : AreNumbered w.table w.formers) (theirs : HaveTheirNumbers w.formers) where
  -- a step by which no former document comes
  module _ (u : State) (later : IsKept starts says u) (own : Past) (grown : u.past ≡ own ++ w.past) (clusters : u.clusters ≡ w.clusters) (sessions : u.sessions ≡ w.sessions) (begin : u.begin ≡ w.begin) (formers : u.formers ≡ w.formers) (low : u.table.number ≤ last_number) (table : IsTableStep w.table u.table) (holds : IsHoldingStep (holding_in w) (holding_in u)) where
    pub quiet_step : IsWorldStep w u
    quiet_step = record {
      own = own;
      grown = grown;
      clusters = clusters;
      sessions = sessions;
      begin = begin;
      table = table;
      holds = holds;
      numbered = subst (AreNumbered u.table) (sym formers) (numbered_on w.table u.table table.numbers w.formers low numbered);
      own_numbers = subst HaveTheirNumbers (sym formers) theirs;
    }

    pub quiet_made : (Lists : Path → ℕ → Type 0) → ((p : Path) (k : ℕ) (x : Document) → IsCopied w.table p k x → (Lists p k → IsPassed w.table p k) → LetsCopy w.table u.table p k)
        → ((p : Path) (k : ℕ) → (documents_in u.table.documents (id.Prev k p) ≡ documents_in w.table.documents (id.Prev k p)) ⊎ IsUnlisted (documents_in w.table.documents) p k) → IsMade starts says w u Lists
    quiet_made Lists copies previous = record {
      kept = later;
      lets = record {
        step = quiet_step;
        copies = copies;
        previous = previous;
        splits = λ known pin p old good splits. subst (λ (f : Formers). IsSplitting (origin u) u.past u.table f known pin p old) (sym formers) (splits_on starts says w u later own grown clusters begin table w.formers known pin p old good splits);
      };
    }

  -- the documents stay
  pub still_made : (u : State) → IsKept starts says u → (own : Past) → u.past ≡ own ++ w.past → u.clusters ≡ w.clusters → u.sessions ≡ w.sessions → u.begin ≡ w.begin → u.formers ≡ w.formers → u.table ≡ w.table → IsHoldingStep (holding_in w) (holding_in u) → IsMade starts says w u nothing
  still_made u later own grown clusters sessions begin formers same holds =
      quiet_made u later own grown clusters sessions begin formers (subst (λ (t : Table). t.number ≤ last_number) (sym same) numbered.low) (subst (IsTableStep w.table) (sym same) (still_table w.table)) holds nothing
      (λ p k x copied apart. subst (λ (t : Table). LetsCopy w.table t p k) (sym same) (others_let w.table w.table p k (λ q. refl) (λ j q. refl)))
      (λ p k. inl (ap (λ (t : Table). documents_in t.documents (id.Prev k p)) same))

  -- no previous document changes, and of the nodes' documents none, or one that lists what it listed
  pub plain_made : (u : State) → IsKept starts says u → (own : Past) → u.past ≡ own ++ w.past → u.clusters ≡ w.clusters → u.sessions ≡ w.sessions → u.begin ≡ w.begin → u.formers ≡ w.formers → u.table.number ≤ last_number → IsTableStep w.table u.table → IsHoldingStep (holding_in w) (holding_in u)
      → ((k : ℕ) (p : Path) → documents_in u.table.documents (id.Prev k p) ≡ documents_in w.table.documents (id.Prev k p))
      → ((q : Path) → nodes_in u.table q ≡ nodes_in w.table q) ⊎ ((at : Path) × (d : Document) × IsMainAt (documents_in w.table.documents) (documents_in u.table.documents) at d × (d.prev ≡ listed_at w.table at)) → IsMade starts says w u nothing
  plain_made u later own grown clusters sessions begin formers low table holds previous nodes =
      quiet_made u later own grown clusters sessions begin formers low table holds nothing
      (λ p k x copied apart. elim nodes [ inl same ↦ others_let w.table u.table p k same previous | inr main ↦ same_lets w.table u.table p k main.0 main.1 main.2 main.3 ])
      (λ p k. inl (previous k p))

module _ (starts : Starts) (says : Says) (proper : StartsProper starts) (w : State) (kept : IsKept starts says w) (s : ℕ) (login : has_login w.past s ≡ true) (stays : has_left w.past s ≡ false) (numbered : AreNumbered w.table w.formers) (theirs : HaveTheirNumbers w.formers) (order : AreAllInOrder w.table) where
  abbrev ds : Documents
  ds = documents_in w.table.documents

  -- a previous document is written
  module _ (p : Path) (k : ℕ) (x : Document) (none : ds (id.Prev k p) ≡ None) (new : (f : Former) → w.formers p k ≡ Some f → Rattle.core_keep.specs.Formers.IsCopyOf p k f x) (number : x.mod_count ≡ next_number w.table) (ordered : IsInOrder x) where
    abbrev copied_now : State
    copied_now = after_copied w s p k x

    its_put : (j : DocId) → documents_in copied_now.table.documents j ≡ cond (eq_by_cmp id_cmp j (id.Prev k p)) (Some x) (ds j)
    its_put j = put_is w.table (id.Prev k p) x (next_number w.table) j

    unlisted_there : IsUnlisted ds p k
    unlisted_there = missing_unlisted ds (course_from (origin w) w.past) w.formers kept.sessions.readers.told p k (λ f h. theirs p k f h) none

    copied_made : IsMade starts says w copied_now nothing
    copied_made =
        quiet_made starts says w numbered theirs copied_now (copied_whole starts says proper w kept s login stays p k x none new) (event.Went s kind.Split ∷ []) refl refl refl refl refl (next_low w.table)
        (put_table w.table (id.Prev k p) x numbered.low number (λ all. ordered)) (copied_rises starts says proper w (layers_of starts says w kept) s login stays p k x none new) nothing
        (λ q j y copied apart. previous_lets w.table copied_now.table q j p k (previous_from ds (documents_in copied_now.table.documents) p k (Some x) its_put) (λ at same. copied_apart w.table q j y copied
        (subst (λ (z : Path). ds (id.Prev j z) ≡ None) at (subst (λ (n : ℕ). ds (id.Prev n p) ≡ None) same none))))
        (λ q j. previous_stays ds (documents_in copied_now.table.documents) p k (Some x) its_put unlisted_there q j)

  -- a previous document that isn't listed is taken away
  module _ (p : Path) (k : ℕ) (may : MayRemovePrevious w p k) (behind : IsBehind w.table p k) where
    abbrev left : Table
    left = without w.table (id.Prev k p)

    its_taken : (j : DocId) → documents_in left.documents j ≡ cond (eq_by_cmp id_cmp j (id.Prev k p)) None (ds j)
    its_taken j = taken_is w.table (id.Prev k p) j may.sorted

    passed_for : (q : Path) (j : ℕ) (y : Document) → IsCopied w.table q j y → p ≡ q → k ≡ j → IsPassed w.table q j
    passed_for q j y copied at same = by behind
      where
        early : k < last_number
        early = subst (λ (n : ℕ). n < last_number) (sym same) copied.early

        by : IsBehind w.table p k → IsPassed w.table q j
        by (inl passed) = subst (λ (z : Path). IsPassed w.table z j) at (subst (IsPassed w.table p) same passed)
        by (inr last) = absurd (omega (arith, early, last))

    lets_copies : (q : Path) (j : ℕ) (y : Document) → IsCopied w.table q j y → LetsCopy w.table left q j
    lets_copies q j y copied = previous_lets w.table left q j p k (previous_from ds (documents_in left.documents) p k None its_taken) (λ at same. passed_for q j y copied at same)

    back_made : IsMade starts says w (after_taken_back w s (id.Prev k p)) nothing
    back_made =
        quiet_made starts says w numbered theirs (after_taken_back w s (id.Prev k p)) (back_whole starts says proper w kept s login stays p k may) (event.Went s kind.Split ∷ []) refl refl refl refl refl numbered.low
        (without_table w.table (id.Prev k p) may.sorted) (back_rises starts says proper w (layers_of starts says w kept) s login stays p k may) nothing
        (λ q j y copied apart. lets_copies q j y copied) (λ q j. previous_stays ds (documents_in left.documents) p k None its_taken may.unlisted q j)

    unlisted_made : IsMade starts says w (after_removed w s (id.Prev k p)) nothing
    unlisted_made =
        quiet_made starts says w numbered theirs (after_removed w s (id.Prev k p)) (unlisted_whole starts says proper w kept s login stays p k may) (event.Went s kind.Collect ∷ []) refl refl refl refl refl numbered.low
        (without_table w.table (id.Prev k p) may.sorted) (unlisted_rises starts says proper w (layers_of starts says w kept) s login stays p k may) nothing
        (λ q j y copied apart. lets_copies q j y copied) (λ q j. previous_stays ds (documents_in left.documents) p k None its_taken may.unlisted q j)

  -- garbage goes
  pruned_made : (m t : RevVec) (p : Path) (old : Document) (op : UpdateOp) → MayPrune w m t p old op → IsMade starts says w (after_pruned w s p old op) nothing
  pruned_made m t p old op may =
      let d = after_changes (Some old) op (next_number w.table) in
      let main = put_main w.table p d (next_number w.table) in
      quiet_made starts says w numbered theirs (after_pruned w s p old op) (pruned_whole starts says proper w kept s login stays m t p old op may) (event.Went s kind.Collect ∷ []) refl refl refl refl refl (next_low w.table)
      (put_table w.table (id.Node p) d numbered.low refl (λ all. made_order (Some old) op (next_number w.table) (λ e h. all (id.Node p) e (may.there ∙ h)))) (pruned_rises starts says proper w (layers_of starts says w kept) s login stays m t p old op may) nothing
      (λ q j y copied apart. pruned_lets w.table (after_pruned w s p old op).table q j p old d (λ e. not (is_number_of may.numbers e)) may.there main (pruned_prev ds m t p old op (next_number w.table) may.keys may.numbers may.garbage))
      (λ q j. inl (main_previous ds (documents_in (after_pruned w s p old op).table.documents) p d main j q))

  -- a document goes
  removed_made : (m t : RevVec) (p : Path) (old : Document) → MayRemove w m t p old → IsMade starts says w (after_removed w s (id.Node p)) nothing
  removed_made m t p old may =
      quiet_made starts says w numbered theirs (after_removed w s (id.Node p)) (removed_whole starts says proper w kept s login stays m t p old may) (event.Went s kind.Collect ∷ []) refl refl refl refl refl numbered.low
      (without_table w.table (id.Node p) may.sorted) (removed_rises starts says proper w (layers_of starts says w kept) s login stays m t p old may) nothing
      (λ q j y copied apart. removed_lets w.table gone q j p (record { node = others; previous = λ n z h. previous n z }) none previous)
      (λ q j. inl (previous j q))
    where
      gone : Table
      gone = without w.table (id.Node p)

      left_is : (j : DocId) → documents_in gone.documents j ≡ cond (eq_by_cmp id_cmp j (id.Node p)) None (ds j)
      left_is j = taken_is w.table (id.Node p) j may.sorted

      other : (j : DocId) → (j ≡ id.Node p → ⊥) → documents_in gone.documents j ≡ ds j
      other j never = left_is j ∙ ap (λ b. cond b None (ds j)) (apart (eq_by_cmp id_cmp j (id.Node p)) refl)
        where
          apart : (b : Bool) → eq_by_cmp id_cmp j (id.Node p) ≡ b → b ≡ false
          apart false h = refl
          apart true h = absurd (never (one_id j (id.Node p) h))

      previous : (n : ℕ) (z : Path) → documents_in gone.documents (id.Prev n z) ≡ ds (id.Prev n z)
      previous n z = other (id.Prev n z) (λ h. cc)

      none : documents_in gone.documents (id.Node p) ≡ None
      none = left_is (id.Node p) ∙ ap (λ b. cond b None (ds (id.Node p))) (id_itself (id.Node p))

      path_of_id : DocId → Path
      path_of_id (id.Node y) = y
      path_of_id i = []

      others : (q : Path) → eq_by_cmp path_cmp q p ≡ false → documents_in gone.documents (id.Node q) ≡ ds (id.Node q)
      others q h = other (id.Node q) (λ e. false≢true (sym h ∙ (ap (λ z. eq_by_cmp path_cmp z p) (ap path_of_id e) ∙ path_itself p)))

  -- a previous document is listed
  module _ (read : Documents) (pin : Pin) (p : Path) (old : Document) (e : PrevEntry) (may : MaySplit w read pin p old e) (early : old.mod_count < last_number) where
    abbrev listed_now : State
    listed_now = after_split w s read pin p old e

    abbrev d : Document
    d = split_now w read pin old e

    its_main : IsMainAt ds (documents_in listed_now.table.documents) p d
    its_main = put_main w.table p d (next_number w.table)

    its_prev : d.prev ≡ e ∷ old.prev
    its_prev = ap (λ l. e ∷ l) (keys_prev (moved_keys read pin old) old)

    its_new : w.formers p e.number ≡ None
    its_new = ap (w.formers p) may.number ∙ first_listed w.table w.formers numbered p old may.there

    its_kept : IsKept starts says listed_now
    its_kept = split_whole starts says proper w kept s login stays read pin p old e may its_new

    its_table : IsTableStep w.table listed_now.table
    its_table = put_table w.table (id.Node p) d numbered.low refl (λ all. made_order (Some old) (main_write read pin old e) (next_number w.table) (λ c h. all (id.Node p) c (may.there ∙ h)))

    abbrev now_former : Former
    now_former = former_now (course_from (origin w) w.past) old

    its_numbers : (q : Path) (j : ℕ) (f : Former) → with_former w.formers p e.number now_former q j ≡ Some f → f.document.mod_count ≡ j
    its_numbers q j f h = by (eq_by_cmp path_cmp q p) (j == e.number) refl h
      where
        value : (a b : Former) → ◌≡◌ {A = Option Former} (Some a) (Some b) → a ≡ b
        value a b k = cc

        by : (a b : Bool) → (j == e.number) ≡ b → cond (a && b) (Some now_former) (w.formers q j) ≡ Some f → f.document.mod_count ≡ j
        by true true same k = ap (λ (g : Former). g.document.mod_count) (sym (value now_former f k)) ∙ (sym may.number ∙ sym (number_same j e.number same))
        by true false same k = theirs q j f k
        by false b same k = theirs q j f k

    listed_step : IsWorldStep w listed_now
    listed_step = record {
      own = event.Went s kind.Split ∷ [];
      grown = refl;
      clusters = refl;
      sessions = refl;
      begin = refl;
      table = its_table;
      holds = split_rises starts says proper w (layers_of starts says w kept) s login stays read pin p old e may its_new;
      numbered = subst (λ (n : ℕ). AreNumbered listed_now.table (with_former w.formers p n now_former)) (sym may.number) (listed_numbers w.table w.formers numbered p old d now_former may.there early refl);
      own_numbers = its_numbers;
    }

    -- what others have read
    listed_splits : (known : Documents) (y : Pin) (q : Path) (its : Document) → IsGood w.begin w.past (Seen y.base) → IsSplitting (origin w) w.past w.table w.formers known y q its → IsSplitting (origin w) listed_now.past listed_now.table listed_now.formers known y q its
    listed_splits known y q its good splits =
        subst (λ (n : ℕ). IsSplitting (origin w) listed_now.past listed_now.table (with_former w.formers p n now_former) known y q its) (sym may.number)
        (splitting_on (origin w) listed_now.table listed_now.table w.past listed_now.past (with_former w.formers p old.mod_count now_former) known y q its (still_table listed_now.table).numbers (λ r h. h) (λ r seen h. h)
        (splitting_beside (origin w) w.table listed_now.table w.past w.formers known y q p its old its_table.numbers may.there early splits kept.sessions.committing.kept.told))

    listed_made : IsMade starts says w listed_now (λ q k. (p ≡ q) × (e.number ≡ k))
    listed_made = record {
      kept = its_kept;
      lets = record {
        step = listed_step;
        copies = λ q j y copied apart. moved_lets w.table listed_now.table q j p old d e may.there its_main its_prev (λ at same. (apart (at, same)).other old (subst (λ (z : Path). nodes_in w.table z ≡ Some old) at may.there) (sym may.number ∙ same));
        previous = λ q j. inl (main_previous ds (documents_in listed_now.table.documents) p d its_main j q);
        splits = listed_splits;
      };
    }

  -- whatever is made
  pub made : (u : State) (m : Makes w s u) → IsMade starts says w u (lists_copy m)
  made u (Still is) = subst (λ (t : State). IsMade starts says w t nothing) (sym is) (still_made starts says w numbered theirs w kept [] refl refl refl refl refl refl (still_holding (holding_in w)))
  made u (Went k is other apart) =
      subst (λ (t : State). IsMade starts says w t nothing) (sym is) (still_made starts says w numbered theirs (after_went w s k) (went_whole starts says proper w kept s k other apart login stays) (event.Went s k ∷ []) refl refl refl refl refl refl (still_holding (holding_in w)))
  made u (Copied p k x is none new number ordered) = subst (λ (t : State). IsMade starts says w t nothing) (sym is) (copied_made p k x none new number ordered)
  made u (Listed read pin p old e is may early) = subst (λ (t : State). IsMade starts says w t (λ q k. (p ≡ q) × (e.number ≡ k))) (sym is) (listed_made read pin p old e may early)
  made u (TakenBack p k is may behind) = subst (λ (t : State). IsMade starts says w t nothing) (sym is) (back_made p k may behind)
  made u (Bound m t is may) =
      subst (λ (t : State). IsMade starts says w t nothing) (sym is) (still_made starts says w numbered theirs (after_bound w m t) (bound_keeps starts says proper w kept m t may) (event.Bound m t ∷ []) refl refl refl refl refl refl (still_holding (holding_in w)))
  made u (Pruned m t p old op is may) = subst (λ (t : State). IsMade starts says w t nothing) (sym is) (pruned_made m t p old op may)
  made u (Removed m t p old is may) = subst (λ (t : State). IsMade starts says w t nothing) (sym is) (removed_made m t p old may)
  made u (Unlisted p k is may behind) = subst (λ (t : State). IsMade starts says w t nothing) (sym is) (unlisted_made p k may behind)
