-- What a split or a collection has read, heard and written, others leave.
use Rattle.std.proofs.Common.{arith, ◌≡◌, inl, inr, ◌+◌, ◌<◌, ℕ, true, false, List, [], ◌∷◌, ◌++◌, Some, refl, sym, ◌∙◌, subst}
use Rattle.std.specs.List.{list_any}
use Rattle.jr_path.specs.declared.path.DocId.TheVariants as id
use Rattle.jr_path.specs.declared.path.Path.{Path}
use Rattle.jr_rev.specs.declared.vector.Pin.{Pin}
use Rattle.jr_rev.specs.declared.vector.RevVec.{RevVec}
use Rattle.oak_doc.specs.declared.asks.SplitEnd.{SplitEnd}
use Rattle.oak_doc.specs.declared.document.Document.{Document}
use Rattle.oak_gc.specs.declared.collector.Collector.{Collector}
use Rattle.oak_gc.specs.declared.reading.Reading.{Reading}
use Rattle.oak_gc.specs.declared.reading.Step.{Step as CollectStep}
use Rattle.oak_gc.specs.declared.reading.Step.TheVariants as collect_step
use Rattle.oak_machine.specs.History.{Past}
use Rattle.oak_machine.specs.Laws.{AreOthers, Says, Starts, StartsProper}
use Rattle.oak_machine.specs.Runs.{IsRunOf, is_bound}
use Rattle.oak_machine.specs.Sessions.{has_left, has_login, since}
use Rattle.oak_prev.specs.declared.splitter.Splitter.{Splitter}
use Rattle.oak_prev.specs.declared.splitter.Step.{Step as SplitStep}
use Rattle.oak_prev.specs.declared.splitter.Step.TheVariants as split_step
use Rattle.oak_prev.specs.Splitting.{known}
use Rattle.oak_tidy.specs.declared.tidying.Tidying.{Tidying}
use Rattle.oak_tidy.specs.declared.tidying.Tidying.TheVariants as tidying
use Rattle.core_clash.specs.Collecting.{IsBoundOf}
use Rattle.core_heads.specs.Sound.{IsGood, Seen}
use Rattle.core_world.specs.Bounding.{CanAllBound, IsBounding}
use Rattle.core_world.specs.Kept.{IsKept}
use Rattle.core_world.specs.Numbers.{IsPassed, last_number}
use Rattle.core_world.specs.States.{State}
use Rattle.core_world.proofs.Bounding.{all_can_on, bounding_on}
use Rattle.core_world.proofs.Copying.{copied_on, dropped_copied, found_on}
use Rattle.core_world.proofs.Numbers.{passed_on, read_on}
use Rattle.core_world.proofs.Whole.{layers_of}
use Rattle.core_tidy.specs.Beside.{IsWorldStep, LetsTidy}
use Rattle.core_tidy.specs.Collecting.{HasAsked, HasBound, IsDropped, MayCollectAt}
use Rattle.core_tidy.specs.Splitting.{HasCopied, HasRead, HoldsCopy, IsBehind, MaySplitAt, Moves, TakesBack}
use Rattle.core_tidy.specs.Tidying.{HasTidied, KeepsCopy, MayTidy}
use Rattle.core_tidy.proofs.Since.{bound_stays, good_on, login_stays, since_left, stay_left}

-- the run up to a later moment
abbrev RunTo : Starts → Says → State → Past → Type 0
RunTo starts says u past = IsRunOf starts says u.clusters u.sessions u.begin past

module _ (starts : Starts) (says : Says) (proper : StartsProper starts) (w u : State) (kept : IsKept starts says w) (later : IsKept starts says u) (step : IsWorldStep w u) where
  -- what is held can bound still
  pub bounds_on : CanAllBound w → CanAllBound u
  bounds_on = all_can_on starts says proper w u step.own (layers_of starts says w kept) kept.begun (layers_of starts says u later) step.grown step.clusters step.sessions step.begin step.holds

  pub its_bounding : (k : ℕ) (x : Pin) → IsBounding w k x → IsBounding u k x
  its_bounding = bounding_on starts says proper w u step.own (layers_of starts says w kept) kept.begun (layers_of starts says u later) step.grown step.clusters step.sessions step.begin step.holds

  its_run : RunTo starts says u (step.own ++ w.past)
  its_run = subst (RunTo starts says u) step.grown later.sessions.run

  pub its_good : (v : RevVec) → IsGood w.begin w.past (Seen v) → IsGood u.begin u.past (Seen v)
  its_good v good =
      subst (λ (p : Past). IsGood u.begin p (Seen v)) (sym step.grown)
      (good_on starts says u.clusters u.sessions u.begin later.sessions.nodes step.own w.past its_run v (subst (λ b. IsGood b w.past (Seen v)) (sym step.begin) good))

  pub its_bound : (m t : RevVec) → IsBoundOf w.past m t → IsBoundOf u.past m t
  its_bound m t bound = subst (λ (p : Past). IsBoundOf p m t) (sym step.grown) (bound_stays step.own w.past m t bound)

  -- a collection has its bound still
  pub has_bound_on : (s : ℕ) → AreOthers s step.own w.past → (x : Collector) → HasBound w s x → HasBound u s x
  has_bound_on s others x has = record {
    bound = its_bound x.bound.base x.bound.sweep has.bound;
    taken = subst (λ (p : Past). list_any is_bound (since p s) ≡ true) (sym step.grown) (since_left s step.own w.past others has.taken);
    skips = has.skips;
  }

  module _ (Keeps : Path → ℕ → Type 0) (lets : LetsTidy w u Keeps) where
    -- a copy that a split has written
    pub has_copied_on : (p : Path) (k : ℕ) (x : Document) → (Keeps p k → IsBehind w.table p k) → HasCopied w.table p k x → HasCopied u.table p k x
    has_copied_on p k x apart (inl copied) = inl (copied_on w.table p k x copied u.table step.table.numbers (lets.copies p k x copied (λ h. passed (apart h))))
      where
        passed : IsBehind w.table p k → IsPassed w.table p k
        passed (inl h) = h
        passed (inr last) = let early : k < last_number = copied.early in absurd (omega (arith, early, last))
    has_copied_on p k x apart (inr last) = inr last

    pub behind_on : (p : Path) (k : ℕ) → IsBehind w.table p k → IsBehind u.table p k
    behind_on p k (inl passed) = inl (passed_on w.table u.table step.table.numbers p k passed)
    behind_on p k (inr last) = inr last

    pub dropped_on : (p : Path) (k : ℕ) → IsDropped w.table p k → IsDropped u.table p k
    dropped_on p k dropped = record {
      passed = passed_on w.table u.table step.table.numbers p k dropped.passed;
      unlisted = λ d is e i same. lists d is e i same;
    }
      where
        lists : (d : Document) → Rattle.oak_read.specs.Meaning.documents_in u.table.documents (id.Node p) ≡ Some d → (e : _) → Rattle.core_read.specs.Told.IsIn e d.prev → e.number ≡ k → ⊥
        lists d is e i same = let l = (lets.copies p k d (dropped_copied w.table p k d dropped.passed dropped.unlisted) (λ h. dropped.passed)).lists d is e i same in dropped.unlisted l.0 l.1 (l.2).0 (l.2).1 (l.2).2

    pub takes_back_on : (p : Path) (k : ℕ) (o : SplitEnd) → (Keeps p k → IsBehind w.table p k) → TakesBack w.table p k o → TakesBack u.table p k o
    takes_back_on p k o apart takes = record { copy = takes.copy; copied = has_copied_on p k takes.copy apart takes.copied; behind = behind_on p k takes.behind; ends = takes.ends }

    pub has_read_on : (x : Splitter) → HasRead w x → HasRead u x
    has_read_on x has = record { good = its_good x.pin.base has.good; splitting = lets.splits (known x) x.pin x.path x.reading.document has.good has.splitting }

    pub moves_on : (x : Splitter) (e : _) → Moves w x e → Moves u x e
    moves_on x e moves = record { reads = has_read_on x moves.reads; listed = moves.listed }

    split_on : (s : ℕ) → u.reading s ≡ w.reading s → (x : Splitter) (st : SplitStep) → ((p : Path) (k : ℕ) → HoldsCopy x st p k → Keeps p k → IsBehind w.table p k) → MaySplitAt w s x st → MaySplitAt u s x st
    split_on s same x split_step.Read apart may = same ∙ may
    split_on s same x split_step.Root apart may = has_read_on x may
    split_on s same x (split_step.Previous e n) apart may = moves_on x e may
    split_on s same x (split_step.Main e n) apart may = record { moves = moves_on x e may.moves; first = may.first; copied = has_copied_on x.path e.number _ (apart x.path e.number (refl, refl)) may.copied }
    split_on s same x (split_step.Find k o) apart may = takes_back_on x.path k o (apart x.path k (refl, refl)) may
    split_on s same x (split_step.Remove k found o) apart may = takes_back_on x.path k o (apart x.path k (refl, refl)) may
    split_on s same x (split_step.Done o) apart may = may

    pub has_asked_on : (r : Reading) (left : List ℕ) → HasAsked w.table r left → HasAsked u.table r left
    has_asked_on r left has = record {
      read = read_on w.table u.table step.table.numbers (id.Node r.at) r.document has.read;
      order = has.order;
      found = λ e i new early. found_on w.table r.at r.document e _ (has.found e i new early) u.table step.table.numbers (lets.previous r.at e.number);
      sorted = has.sorted;
      listed = has.listed;
      left_listed = has.left_listed;
    }

    pub collect_on : (s : ℕ) → AreOthers s step.own w.past → (x : Collector) (st : CollectStep) → MayCollectAt w s x st → MayCollectAt u s x st
    collect_on s others x collect_step.Root may = may
    collect_on s others x (collect_step.Node k) may = (its_bounding k x.bound may.0, may.1)
    collect_on s others x collect_step.Settings may = (subst (λ (n : ℕ). IsBounding u (n + 1) x.bound) (sym step.clusters) (its_bounding (w.clusters + 1) x.bound may.0), may.1)
    collect_on s others x collect_step.First may = has_bound_on s others x may
    collect_on s others x collect_step.Next may = has_bound_on s others x may
    collect_on s others x (collect_step.Listed n) may = (has_bound_on s others x may.0, has_asked_on x.reading (n ∷ x.reading.listed) may.1)
    collect_on s others x collect_step.Prune may = (has_bound_on s others x may.0, has_asked_on x.reading [] may.1)
    collect_on s others x collect_step.Remove may = (has_bound_on s others x may.0, has_asked_on x.reading [] may.1)
    collect_on s others x (collect_step.RemovePrevious n read) may = (has_bound_on s others x may.0, dropped_on x.reading.at n may.1, λ k c i. dropped_on x.reading.at k (may.2 k c i))
    collect_on s others x collect_step.Done may = has_bound_on s others x may

    tidied_so : (s : ℕ) → AreOthers s step.own w.past → u.reading s ≡ w.reading s → (x : Tidying) → ((p : Path) (k : ℕ) → KeepsCopy x p k → Keeps p k → IsBehind w.table p k) → HasTidied w s x → HasTidied u s x
    tidied_so s others same (tidying.Split x) apart may = split_on s same x x.step apart may
    tidied_so s others same (tidying.Collect x) apart may = collect_on s others x x.step may

    -- what session s tidies it may tidy after a step of another
    pub may_on : (s : ℕ) → AreOthers s step.own w.past → u.reading s ≡ w.reading s → (x : Tidying) → ((p : Path) (k : ℕ) → KeepsCopy x p k → Keeps p k → IsBehind w.table p k) → MayTidy w s x → MayTidy u s x
    may_on s others same x apart may = record {
      login = subst (λ (p : Past). has_login p s ≡ true) (sym step.grown) (login_stays s step.own w.past may.login);
      stays = subst (λ (p : Past). has_left p s ≡ false) (sym step.grown) (stay_left s step.own w.past others ∙ may.stays);
      so_far = tidied_so s others same x apart may.so_far;
    }
