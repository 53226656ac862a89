-- All that tidies in a world stays so through its own steps and those of others.
use Rattle.std.proofs.Common.{arith, ◌||◌, length, ◌≡◌, ◌⊎◌, inl, inr, ◌≤◌, ℕ, Bool, true, false, cond, List, [], ◌∷◌, ◌++◌, Option, Some, None, is_some, refl, sym, ap, ◌∙◌, subst}
use Rattle.std.specs.Prelude.{◌==◌}
use Rattle.std.specs.Option.{option_map_or}
use Rattle.std.specs.BTreeMap.{is_at}
use Rattle.std.specs.List.{list_any}
use Rattle.jr_path.specs.Ids.{id_cmp}
use Rattle.oak_prev.specs.Splits.{IsInOrder}
use Rattle.core_read.specs.Told.{IsIn}
use Rattle.std.proofs.lemmas.Bool.Decides.{nat_tests}
use mathlib.Core.Bool.{false≢true}
use Rattle.jr_path.specs.declared.path.DocId.{DocId}
use Rattle.jr_path.specs.declared.path.DocId.TheVariants as id
use Rattle.jr_path.specs.declared.path.Path.{Path}
use Rattle.jr_rev.proofs.Entries.{number_same}
use Rattle.oak_doc.specs.declared.document.Document.{Document}
use Rattle.oak_machine.specs.declared.event.Event.{Event}
use Rattle.oak_machine.specs.declared.event.Event.TheVariants as event
use Rattle.oak_machine.specs.History.{Past}
use Rattle.oak_machine.specs.Laws.{AreOthers, Says, Starts, StartsProper, is_event_of}
use Rattle.oak_machine.specs.Runs.{MayFollow, is_task_end}
use Rattle.oak_machine.specs.Sessions.{has_left, is_login_of}
use Rattle.oak_machine.specs.declared.event.StepKind.{StepKind}
use Rattle.oak_machine.specs.declared.event.StepKind.TheVariants as kind
use Rattle.oak_prev.specs.declared.splitter.Step.{Step as SplitStep}
use Rattle.oak_prev.specs.declared.splitter.Step.TheVariants as split_step
use Rattle.oak_read.specs.Meaning.{documents_in}
use Rattle.oak_read.specs.Reading.{IsTable}
use Rattle.oak_port.specs.declared.task.TaskEnd.{TaskEnd}
use Rattle.oak_tidy.specs.declared.tidying.Tidying.{Tidying}
use Rattle.oak_tidy.specs.declared.tidying.Tidying.TheVariants as tidying
use Rattle.oak_tidy.specs.Tidyings.{TidiesTo, bound_told, kind_collect, kind_split, kind_tidied, takes_bound, tidy_events, tidying_ask, went}
use Rattle.oak_gc.specs.Stages as collect_stages
use Rattle.oak_gc.specs.declared.stage.Stage.{Stage as Collected}
use Rattle.oak_gc.specs.declared.stage.Stage.TheVariants as collect_stage
use Rattle.oak_prev.specs.Stages as split_stages
use Rattle.oak_prev.specs.declared.stage.Stage.{Stage as Splits}
use Rattle.oak_prev.specs.declared.stage.Stage.TheVariants as split_stage
use Rattle.core_keep.specs.Formers.{Formers, FormersGrow}
use Rattle.core_world.specs.Kept.{IsKept}
use Rattle.core_world.specs.Numbers.{AreNumbered, IsPassed}
use Rattle.core_world.specs.States.{State, history_in, with_session}
use Rattle.core_world.specs.Start.{documents_of_start, start_state, start_table}
use Rattle.core_world.specs.Steps.{with_reader}
use Rattle.core_world.proofs.Copying.{copied_apart}
use Rattle.core_world.proofs.Held.{found_in}
use Rattle.core_world.proofs.Whole.{gone_whole}
use Rattle.core_world.proofs.Bounding.{start_can}
use Rattle.core_tidy.specs.Beside.{IsWorldStep, LetsTidy}
use Rattle.core_tidy.specs.Ordered.{AreAllInOrder}
use Rattle.core_tidy.specs.Splitting.{HasCopied, HoldsCopy, IsBehind, MaySplitAt, TakesBack}
use Rattle.core_tidy.specs.Steps.{IsTidyStep, Makes, after_tidied, lists_copy, tidied_in, told_of}
use Rattle.core_tidy.specs.Tidying.{AreApart, AreTidying, HasTidied, KeepsCopy, MayTidy, reader_of}
use Rattle.core_tidy.proofs.Beside.{behind_on, bounds_on, may_on}
use Rattle.core_tidy.proofs.Making.{IsMade, made}
use Rattle.core_tidy.proofs.Since.{more}

-- ---- sessions

pub own_session : {X : Type 0} (has : ℕ → Option X) (s : ℕ) (x : Option X) → with_session has s x s ≡ x
own_session has s x = ap (λ b. cond b x (has s)) (Rattle.core_world.proofs.Flights.number_itself s)

pub other_session : {X : Type 0} (has : ℕ → Option X) (s q : ℕ) (x : Option X) → (q == s) ≡ false → with_session has s x q ≡ has q
other_session has s q x apart = ap (λ b. cond b x (has q)) apart

-- ---- others

module _ (starts : Starts) (says : Says) (proper : StartsProper starts) (w u : State) (kept : IsKept starts says w) (later : IsKept starts says u) (does : ℕ → Option Tidying) (tidies : AreTidying w does) (Keeps : Path → ℕ → Type 0) (lets : LetsTidy w u Keeps) where
  -- what a session that another's step leaves may still tidy
  still : (q : ℕ) (x : Tidying) → does q ≡ Some x → AreOthers q lets.step.own w.past → u.reading q ≡ w.reading q → ((p : Path) (k : ℕ) → KeepsCopy x p k → Keeps p k → IsBehind w.table p k) → MayTidy u q x
  still q x is others same apart = may_on starts says proper w u kept later lets.step Keeps lets q others same x apart (tidies.each q x is)

  still_apart : (s q : ℕ) → (q == s) ≡ false → (x y : Tidying) → does s ≡ Some x → does q ≡ Some y → AreApart u.table x y
  still_apart s q other x y is its p k mine theirs = behind_on starts says proper w u kept later lets.step Keeps lets p k (tidies.apart s q other x y is its p k mine theirs)

  -- a step of a session that tidies nothing
  pub others_tidy : (s : ℕ) → does s ≡ None → ((p : Path) (k : ℕ) → Keeps p k → ⊥) → ((q : ℕ) → (q == s) ≡ false → AreOthers q lets.step.own w.past × (u.reading q ≡ w.reading q)) → AreTidying u does
  others_tidy s none keeps others = record {
    numbered = lets.step.numbered;
    own = lets.step.own_numbers;
    order = lets.step.table.order tidies.order;
    bounds = bounds_on starts says proper w u kept later lets.step tidies.bounds;
    each = λ q x is. by q x is (q == s) refl;
    apart = still_apart;
  }
    where
      by : (q : ℕ) (x : Tidying) → does q ≡ Some x → (b : Bool) → (q == s) ≡ b → MayTidy u q x
      by q x is false other = let h = others q other in still q x is h.0 h.1 (λ p k mine its. absurd (keeps p k its))
      by q x is true same = absurd (false≢true (ap is_some (sym (ap does (number_same q s same) ∙ none) ∙ is)))

  -- a step after which the session does what it may, and keeps no copy; before it may have kept none either
  pub begun_tidies : (s : ℕ) → ((p : Path) (k : ℕ) → Keeps p k → ⊥) → ((q : ℕ) → (q == s) ≡ false → AreOthers q lets.step.own w.past × (u.reading q ≡ w.reading q))
      → (y : Option Tidying) → ((z : Tidying) → y ≡ Some z → MayTidy u s z) → ((z : Tidying) → y ≡ Some z → (p : Path) (k : ℕ) → KeepsCopy z p k → ⊥) → AreTidying u (with_session does s y)
  begun_tidies s keeps others y may copies = record {
    numbered = lets.step.numbered;
    own = lets.step.own_numbers;
    order = lets.step.table.order tidies.order;
    bounds = bounds_on starts says proper w u kept later lets.step tidies.bounds;
    each = λ q z at. by q z (q == s) refl at;
    apart = λ a b other z v at its. two a b other z v (a == s) refl (b == s) refl at its;
  }
    where
      by : (q : ℕ) (z : Tidying) (b : Bool) → (q == s) ≡ b → cond b y (does q) ≡ Some z → MayTidy u q z
      by q z true same at = subst (λ (n : ℕ). MayTidy u n z) (sym (number_same q s same)) (may z at)
      by q z false other at = let h = others q other in still q z at h.0 h.1 (λ p k mine its. absurd (keeps p k its))

      two : (a b : ℕ) → (b == a) ≡ false → (z v : Tidying) (t : Bool) → (a == s) ≡ t → (r : Bool) → (b == s) ≡ r → cond t y (does a) ≡ Some z → cond r y (does b) ≡ Some v → AreApart u.table z v
      two a b other z v true same r too at its = λ p k mine theirs. absurd (copies z at p k mine)
      two a b other z v false apart true same at its = λ p k theirs mine. absurd (copies v its p k mine)
      two a b other z v false apart false too at its = still_apart a b other z v at its

  -- a step of one that tidies, which then does what it may
  pub tidier_tidies : (s : ℕ) (x : Tidying) → does s ≡ Some x → ((p : Path) (k : ℕ) → Keeps p k → KeepsCopy x p k) → ((q : ℕ) → (q == s) ≡ false → AreOthers q lets.step.own w.past × (u.reading q ≡ w.reading q))
      → (y : Option Tidying) → ((z : Tidying) → y ≡ Some z → MayTidy u s z)
      → ((z : Tidying) → y ≡ Some z → (p : Path) (k : ℕ) → KeepsCopy z p k → KeepsCopy x p k ⊎ ((q : ℕ) (v : Tidying) → (q == s) ≡ false → does q ≡ Some v → KeepsCopy v p k → IsBehind w.table p k)) → AreTidying u (with_session does s y)
  tidier_tidies s x is keeps others y may copies = record {
    numbered = lets.step.numbered;
    own = lets.step.own_numbers;
    order = lets.step.table.order tidies.order;
    bounds = bounds_on starts says proper w u kept later lets.step tidies.bounds;
    each = λ q z at. by q z (q == s) refl at;
    apart = λ a b other z v at its. two a b other z v (a == s) refl (b == s) refl at its;
  }
    where
      by : (q : ℕ) (z : Tidying) (b : Bool) → (q == s) ≡ b → cond b y (does q) ≡ Some z → MayTidy u q z
      by q z true same at = subst (λ (n : ℕ). MayTidy u n z) (sym (number_same q s same)) (may z at)
      by q z false other at = let h = others q other in still q z at h.0 h.1 (λ p k mine its. tidies.apart s q other x z is at p k (keeps p k its) mine)

      own_apart : (q : ℕ) (z v : Tidying) → (q == s) ≡ false → y ≡ Some z → does q ≡ Some v → (p : Path) (k : ℕ) → KeepsCopy z p k → KeepsCopy v p k → IsBehind u.table p k
      own_apart q z v other at its p k mine theirs =
          behind_on starts says proper w u kept later lets.step Keeps lets p k (elim (copies z at p k mine) [ inl was ↦ tidies.apart s q other x v is its p k was theirs | inr new ↦ new q v other its theirs ])

      two : (a b : ℕ) → (b == a) ≡ false → (z v : Tidying) (t : Bool) → (a == s) ≡ t → (r : Bool) → (b == s) ≡ r → cond t y (does a) ≡ Some z → cond r y (does b) ≡ Some v → AreApart u.table z v
      two a b other z v true same true too at its = absurd (false≢true (sym other ∙ (ap (λ (n : ℕ). b == n) (number_same a s same ∙ sym (number_same b s too)) ∙ Rattle.core_world.proofs.Flights.number_itself b)))
      two a b other z v true same false apart at its = λ p k mine theirs. own_apart b z v apart at its p k mine theirs
      two a b other z v false apart true same at its = λ p k theirs mine. own_apart a v z apart its at p k mine theirs
      two a b other z v false apart false too at its = still_apart a b other z v at its

-- ---- the beginning

pub starts_tidy : (clusters : ℕ) (sessions : List ℕ) → AreTidying (start_state clusters sessions) (λ s. None)
starts_tidy clusters sessions = record {
  numbered = record { low = low; within = within; passed = λ p k f h. absurd (false≢true (ap is_some h)) };
  own = λ p k f h. absurd (false≢true (ap is_some h));
  order = order;
  bounds = start_can clusters sessions;
  each = λ s x h. absurd (false≢true (ap is_some h));
  apart = λ s q other x y h k. absurd (false≢true (ap is_some h));
}
  where
    low : 4 ≤ Rattle.core_world.specs.Numbers.last_number
    low = omega arith

    -- each document of the start is one of four
    one_of : (i : DocId) (d : Document) → documents_in (start_table clusters (length sessions)).documents i ≡ Some d → IsIn d (documents_of_start clusters (length sessions))
    one_of i d h = found_in (is_at (id_cmp i)) (start_table clusters (length sessions)).documents d h

    within : (i : DocId) (d : Document) → documents_in (start_table clusters (length sessions)).documents i ≡ Some d → d.mod_count ≤ 4
    within i d h = elim (one_of i d h) [
      | inl one ↦ subst (λ (c : Document). c.mod_count ≤ 4) one (omega arith)
      | inr (inl one) ↦ subst (λ (c : Document). c.mod_count ≤ 4) one (omega arith)
      | inr (inr (inl one)) ↦ subst (λ (c : Document). c.mod_count ≤ 4) one (omega arith)
      | inr (inr (inr (inl one))) ↦ subst (λ (c : Document). c.mod_count ≤ 4) one (omega arith)
      | inr (inr (inr (inr none))) ↦ absurd none
    ]

    order : AreAllInOrder (start_table clusters (length sessions))
    order i d h = elim (one_of i d h) [
      | inl one ↦ subst IsInOrder one (record { names = refl; values = refl; roots = refl })
      | inr (inl one) ↦ subst IsInOrder one (record { names = refl; values = refl; roots = refl })
      | inr (inr (inl one)) ↦ subst IsInOrder one (record { names = refl; values = refl; roots = refl })
      | inr (inr (inr (inl one))) ↦ subst IsInOrder one (record { names = refl; values = refl; roots = refl })
      | inr (inr (inr (inr none))) ↦ absurd none
    ]

-- ---- the events of a step

-- no other's, and the session is there still
module _ (s : ℕ) where
  flipped : (q : ℕ) → (q == s) ≡ false → (s == q) ≡ false
  flipped q h = grind (arith, nat_tests)

  went_others : (past : Past) (k : StepKind) (q : ℕ) → (q == s) ≡ false → list_any (is_event_of past q) (went s k) ≡ false
  went_others past kind.Read q h = refl
  went_others past kind.Login q h = ap (λ b. b || false) (flipped q h)
  went_others past kind.Pin q h = ap (λ b. b || false) (flipped q h)
  went_others past kind.Draw q h = ap (λ b. b || false) (flipped q h)
  went_others past kind.Write q h = ap (λ b. b || false) (flipped q h)
  went_others past kind.Mark q h = ap (λ b. b || false) (flipped q h)
  went_others past kind.Last q h = ap (λ b. b || false) (flipped q h)
  went_others past kind.Undo q h = ap (λ b. b || false) (flipped q h)
  went_others past kind.Finish q h = ap (λ b. b || false) (flipped q h)
  went_others past kind.Back q h = ap (λ b. b || false) (flipped q h)
  went_others past kind.Learn q h = ap (λ b. b || false) (flipped q h)
  went_others past kind.Split q h = ap (λ b. b || false) (flipped q h)
  went_others past kind.Sweep q h = ap (λ b. b || false) (flipped q h)
  went_others past kind.Bound q h = ap (λ b. b || false) (flipped q h)
  went_others past kind.Collect q h = ap (λ b. b || false) (flipped q h)
  went_others past kind.Settings q h = ap (λ b. b || false) (flipped q h)
  went_others past kind.Say q h = ap (λ b. b || false) (flipped q h)
  went_others past kind.End q h = ap (λ b. b || false) (flipped q h)
  went_others past kind.Stop q h = ap (λ b. b || false) (flipped q h)
  went_others past kind.Recover q h = ap (λ b. b || false) (flipped q h)

  -- a bound is nobody's
  pub events_others : (past : Past) (x y : Tidying) (q : ℕ) → (q == s) ≡ false → AreOthers q (tidy_events s x y) past
  events_others past x y q h = by (takes_bound x (tidying_ask x))
    where
      by : (b : Bool) → list_any (is_event_of (option_map_or (λ e. e ∷ []) (cond b (Some (event.Bound (bound_told y).base (bound_told y).sweep)) None) (went s (kind_tidied x)) ++ past) q) (option_map_or (λ e. e ∷ []) (cond b (Some (event.Bound (bound_told y).base (bound_told y).sweep)) None) (went s (kind_tidied x))) ≡ false
      by true = refl
      by false = went_others (went s (kind_tidied x) ++ past) (kind_tidied x) q h

  split_stays : (past : Past) (k : Splits) → has_left (went s (kind_split k) ++ past) s ≡ has_left past s
  split_stays past split_stage.Read = refl
  split_stays past split_stage.Split = refl
  split_stays past split_stage.Done = refl

  collect_stays : (past : Past) (k : Collected) → has_left (went s (kind_collect k) ++ past) s ≡ has_left past s
  collect_stays past collect_stage.Bound = refl
  collect_stays past collect_stage.Read = refl
  collect_stays past collect_stage.Collect = refl
  collect_stays past collect_stage.Done = refl

  went_stays : (past : Past) (x : Tidying) → has_left (went s (kind_tidied x) ++ past) s ≡ has_left past s
  went_stays past (tidying.Split x) = split_stays past (split_stages.stage_of x)
  went_stays past (tidying.Collect x) = collect_stays past (collect_stages.stage_of x)

  pub events_stay : (past : Past) (x y : Tidying) → has_left (tidy_events s x y ++ past) s ≡ has_left past s
  events_stay past x y = by (takes_bound x (tidying_ask x))
    where
      by : (b : Bool) → has_left (option_map_or (λ e. e ∷ []) (cond b (Some (event.Bound (bound_told y).base (bound_told y).sweep)) None) (went s (kind_tidied x)) ++ past) s ≡ has_left past s
      by true = refl
      by false = went_stays past x

-- ---- a step

module _ (starts : Starts) (says : Says) (proper : StartsProper starts) (w : State) (kept : IsKept starts says w) (does : ℕ → Option Tidying) (tidies : AreTidying w does) (table : IsTable w.table.documents) (s : ℕ) where
  -- the session reads no more as one that hasn't begun
  abbrev gone : State
  gone = with_reader w s None

  gone_kept : IsKept starts says gone
  gone_kept = gone_whole starts says proper w kept s

  -- whatever x makes: the world is kept, and all that tidies goes on
  module _ (x : Tidying) (is : does s ≡ Some x) (f : Formers) (grow : FormersGrow w.formers f) (m : Makes gone s (told_of (after_tidied w s x) f)) (lists : (p : Path) (k : ℕ) → lists_copy m p k → KeepsCopy x p k) where
    abbrev u : State
    u = told_of (after_tidied w s x) f

    abbrev next : Tidying
    next = tidied_in w x

    its : MayTidy w s x
    its = tidies.each s x is

    now : IsMade starts says gone u (lists_copy m)
    now = made starts says proper gone gone_kept s its.login its.stays tidies.numbered tidies.own tidies.order u m

    -- the same beside what the session read
    step_from : IsWorldStep w u
    step_from = record {
      own = tidy_events s x next;
      grown = refl;
      clusters = refl;
      sessions = refl;
      begin = refl;
      table = now.lets.step.table;
      holds = now.lets.step.holds;
      numbered = now.lets.step.numbered;
      own_numbers = now.lets.step.own_numbers;
    }

    lets_from : LetsTidy w u (KeepsCopy x)
    lets_from = record {
      step = step_from;
      copies = λ p k c copied apart. now.lets.copies p k c copied (λ h. apart (lists p k h));
      previous = now.lets.previous;
      splits = now.lets.splits;
    }

    -- a copy that was written where there was none was behind for whoever had copied it
    copied_before : (p : Path) (k : ℕ) → documents_in w.table.documents (id.Prev k p) ≡ None → (q : ℕ) (v : Tidying) → does q ≡ Some v → KeepsCopy v p k → IsBehind w.table p k
    copied_before p k none q (tidying.Collect v) at holds = absurd holds
    copied_before p k none q (tidying.Split v) at holds = by v.step holds (tidies.each q (tidying.Split v) at).so_far
      where
        behind : (z : Path) (j : ℕ) (c : Document) → z ≡ p → j ≡ k → HasCopied w.table z j c → IsBehind w.table p k
        behind z j c one two has = subst (λ (a : Path). IsBehind w.table a k) one (subst (IsBehind w.table z) two (from has))
          where
            none_there : documents_in w.table.documents (id.Prev j z) ≡ None
            none_there = ap (λ (a : Path). documents_in w.table.documents (id.Prev j a)) one ∙ (ap (λ (n : ℕ). documents_in w.table.documents (id.Prev n p)) two ∙ none)

            from : HasCopied w.table z j c → IsBehind w.table z j
            from (inl copied) = inl (copied_apart w.table z j c copied none_there)
            from (inr last) = inr last

        by : (st : SplitStep) → HoldsCopy v st p k → MaySplitAt w q v st → IsBehind w.table p k
        by split_step.Read h may = absurd h
        by split_step.Root h may = absurd h
        by (split_step.Previous e n) h may = absurd h
        by (split_step.Main e n) h may = behind v.path e.number _ h.0 h.1 may.copied
        by (split_step.Find j o) h may = behind v.path j takes.copy h.0 h.1 takes.copied
          where
            takes : TakesBack w.table v.path j o
            takes = may
        by (split_step.Remove j n o) h may = behind v.path j takes.copy h.0 h.1 takes.copied
          where
            takes : TakesBack w.table v.path j o
            takes = may
        by (split_step.Done o) h may = absurd h

    -- where what it does next it may do
    module _ (so_far : HasTidied u s next) (copies : (p : Path) (k : ℕ) → KeepsCopy next p k → KeepsCopy x p k ⊎ (documents_in w.table.documents (id.Prev k p) ≡ None))
        (ended : (e : TaskEnd) (told : Event) → TidiesTo s next e told → is_task_end s told ≡ true × MayFollow starts says (history_in u) told) where
      may_next : MayTidy u s next
      may_next = record { login = more (is_login_of s) (tidy_events s x next) w.past its.login; stays = events_stay s w.past x next ∙ its.stays; so_far = so_far }

      one : (z : Tidying) → ◌≡◌ {A = Option Tidying} (Some next) (Some z) → next ≡ z
      one z h = cc

      pub tidy_stepped : IsTidyStep starts says w does s x
      unfolding lets_from step_from
      tidy_stepped = record {
        formers = f;
        grow = grow;
        makes = m;
        kept = now.kept;
        lets = lets_from;
        tidying = tidier_tidies starts says proper w u kept now.kept does tidies (KeepsCopy x) lets_from s x is (λ p k h. h) (λ q other. (events_others s w.past x next q other, other_session w.reading s q (reader_of next) other)) (Some next)
            (λ z at. subst (MayTidy u s) (one z at) may_next)
            (λ z at p k holds. elim (copies p k (subst (λ (y : Tidying). KeepsCopy y p k) (sym (one z at)) holds)) [ inl was ↦ inl was | inr none ↦ inr (λ q v other its_own theirs. copied_before p k none q v its_own theirs) ]);
        ends = ended;
      }
