-- What tidies begins, ends, and is told how it ended.
use Rattle.std.proofs.Common.{arith, ◌≡◌, ℕ, true, false, ◌||◌, [], ◌∷◌, Option, Some, None, is_some, refl, sym, ap, subst}
use Rattle.std.specs.Prelude.{◌==◌}
use Rattle.std.specs.declared.alloc.Global.{Global}
use Rattle.std.specs.List.{list_any}
use Rattle.std.proofs.lemmas.Bool.Decides.{nat_tests}
use mathlib.Core.Bool.{false≢true}
use Rattle.jr_path.specs.declared.path.Path.{Path}
use Rattle.jr_rev.specs.declared.vector.Pin.{Pin}
use Rattle.oak_gc.specs.Collecting as collecting
use Rattle.oak_machine.specs.declared.event.Event.{Event}
use Rattle.oak_machine.specs.declared.event.Event.TheVariants as event
use Rattle.oak_machine.specs.Laws.{AreOthers, Says, Starts, StartsProper, is_event_of}
use Rattle.oak_machine.specs.Runs.{MayFollow, is_task_end}
use Rattle.oak_machine.specs.Sessions.{has_left, has_login, is_stopped_under}
use Rattle.oak_prev.specs.Splitting as splitting
use Rattle.oak_read.specs.declared.reader.Reader.{Reader}
use Rattle.oak_read.specs.Reading.{node_reader}
use Rattle.oak_tidy.specs.declared.tidying.Tidying.{Tidying}
use Rattle.oak_tidy.specs.declared.tidying.Tidying.TheVariants as tidying
use Rattle.core_world.specs.Held.{holding_in}
use Rattle.core_world.specs.Kept.{IsKept}
use Rattle.core_world.specs.States.{State, actor_pin, history_in, with_session}
use Rattle.core_world.specs.Steps.{after_task_end, with_reader}
use Rattle.core_world.proofs.Held.{still_holding}
use Rattle.core_world.proofs.Rising.{task_end_rises}
use Rattle.core_world.proofs.Whole.{gone_whole, layers_of, load_whole, task_end_whole}
use Rattle.core_tidy.specs.Beside.{IsWorldStep, LetsTidy}
use Rattle.core_tidy.specs.Tidying.{AreTidying, KeepsCopy, MayTidy}
use Rattle.core_tidy.proofs.Making.{IsMade, nothing, still_made}
use Rattle.core_tidy.proofs.Whole.{begun_tidies, other_session, others_tidy, own_session}

module _ (starts : Starts) (says : Says) (proper : StartsProper starts) (w : State) (kept : IsKept starts says w) (does : ℕ → Option Tidying) (tidies : AreTidying w does) (s : ℕ) where
  -- where nothing changes but what the session reads
  module _ (r : Option Reader) (later : IsKept starts says (with_reader w s r)) where
    reads_made : IsMade starts says w (with_reader w s r) nothing
    reads_made = still_made starts says w tidies.numbered tidies.own (with_reader w s r) later [] refl refl refl refl refl refl (still_holding (holding_in w))

    abbrev reads_step : IsWorldStep w (with_reader w s r)
    reads_step = record {
      own = [];
      grown = refl;
      clusters = refl;
      sessions = refl;
      begin = refl;
      table = reads_made.lets.step.table;
      holds = reads_made.lets.step.holds;
      numbered = reads_made.lets.step.numbered;
      own_numbers = reads_made.lets.step.own_numbers;
    }

    abbrev reads_lets : LetsTidy w (with_reader w s r) nothing
    reads_lets = record { step = reads_step; copies = reads_made.lets.copies; previous = reads_made.lets.previous; splits = reads_made.lets.splits }

    reads_others : (q : ℕ) → (q == s) ≡ false → AreOthers q [] w.past × ((with_reader w s r).reading q ≡ w.reading q)
    reads_others q other = (refl, other_session w.reading s q r other)

    reads_tidy : (y : Option Tidying) → ((z : Tidying) → y ≡ Some z → MayTidy (with_reader w s r) s z) → ((z : Tidying) → y ≡ Some z → (p : Path) (k : ℕ) → KeepsCopy z p k → ⊥) → AreTidying (with_reader w s r) (with_session does s y)
    reads_tidy y may copies = begun_tidies starts says proper w (with_reader w s r) kept later does tidies nothing reads_lets s (λ p k h. h) reads_others y may copies

  one : (y z : Tidying) → ◌≡◌ {A = Option Tidying} (Some y) (Some z) → y ≡ z
  one y z h = cc

  -- a split begins, at the session's pin
  module _ (a : Global) (pin : Pin) (p : Path) (on : is_stopped_under w.sessions w.past s ≡ false) (login : has_login w.past s ≡ true) (stays : has_left w.past s ≡ false) (has : actor_pin w s ≡ Some pin) where
    abbrev split : Tidying
    split = tidying.Split (splitting.begun a pin p)

    abbrev read : State
    read = with_reader w s (Some (node_reader a pin p))

    may_split : MayTidy read s split
    may_split = record { login = login; stays = stays; so_far = own_session w.reading s (Some (node_reader a pin p)) }

    pub begins_split : AreTidying read (with_session does s (Some split))
    begins_split = reads_tidy (Some (node_reader a pin p)) (load_whole starts says proper w kept s a pin p on login stays has) (Some split)
        (λ z at. subst (MayTidy read s) (one split z at) may_split)
        (λ z at q k h. subst (λ (y : Tidying). KeepsCopy y q k) (sym (one split z at)) h)

  -- a collection begins
  module _ (a : Global) (login : has_login w.past s ≡ true) (stays : has_left w.past s ≡ false) where
    abbrev collection : Tidying
    collection = tidying.Collect (collecting.begun a w.clusters)

    may_collect : MayTidy (with_reader w s None) s collection
    may_collect = record { login = login; stays = stays; so_far = refl }

    pub begins_collection : AreTidying (with_reader w s None) (with_session does s (Some collection))
    begins_collection = reads_tidy None (gone_whole starts says proper w kept s) (Some collection)
        (λ z at. subst (MayTidy (with_reader w s None) s) (one collection z at) may_collect)
        (λ z at q k h. subst (λ (y : Tidying). KeepsCopy y q k) (sym (one collection z at)) h)

  -- one ends, also where memory was refused
  pub ends_tidying : AreTidying (with_reader w s None) (with_session does s None)
  ends_tidying = reads_tidy None (gone_whole starts says proper w kept s) None (λ z at. absurd (false≢true (ap is_some at))) (λ z at p k h. false≢true (ap is_some at))

  -- how it ended is told
  module _ (none : does s ≡ None) (e : Event) (own : is_task_end s e ≡ true) (may : MayFollow starts says (history_in w) e) where
    abbrev told : State
    told = after_task_end w e

    told_kept : IsKept starts says told
    told_kept = task_end_whole starts says proper w kept s e own may

    told_made : IsMade starts says w told nothing
    told_made = still_made starts says w tidies.numbered tidies.own told told_kept (e ∷ []) refl refl refl refl refl refl (task_end_rises starts says proper w (layers_of starts says w kept) s e own may)

    abbrev told_step : IsWorldStep w told
    told_step = record {
      own = e ∷ [];
      grown = refl;
      clusters = refl;
      sessions = refl;
      begin = refl;
      table = told_made.lets.step.table;
      holds = told_made.lets.step.holds;
      numbered = told_made.lets.step.numbered;
      own_numbers = told_made.lets.step.own_numbers;
    }

    abbrev told_lets : LetsTidy w told nothing
    told_lets = record { step = told_step; copies = told_made.lets.copies; previous = told_made.lets.previous; splits = told_made.lets.splits }

    told_others : (q : ℕ) → (q == s) ≡ false → AreOthers q (e ∷ []) w.past
    told_others q other = by e own
      where
        apart : (t : ℕ) → (t == s) ≡ true → (t == q) ≡ false
        apart t h = grind (arith, nat_tests)

        by : (v : Event) → is_task_end s v ≡ true → list_any (is_event_of (v ∷ w.past) q) (v ∷ []) ≡ false
        by (event.Split t path end) h = ap (λ b. b || false) (apart t h)
        by (event.Collected t c) h = ap (λ b. b || false) (apart t h)
        by _ h = absurd (false≢true h)

    pub told_tidy : AreTidying told does
    told_tidy = others_tidy starts says proper w told kept told_kept does tidies nothing told_lets s none (λ p k h. h) (λ q other. (told_others q other, refl))
