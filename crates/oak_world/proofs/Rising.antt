-- Each call of a world that steps no session numbers the documents on, and lets what is held rise.
use Rattle.std.proofs.Common.{◌≡◌, ◌≤◌, ℕ, true, Option, ◌++◌, refl}
use Rattle.jr_path.specs.Lists.{Text}
use Rattle.oak_machine.specs.Laws.{Says, Starts, StartsProper}
use Rattle.oak_machine.specs.Runs.{MayFollow, is_task_end}
use Rattle.oak_machine.specs.Sessions.{next_index}
use Rattle.oak_machine.specs.declared.event.Event.{Event}
use Rattle.core_keep.specs.Formers.{Formers}
use Rattle.core_keep.specs.Holding.{IsHoldingStep}
use Rattle.core_world.specs.Held.{holding_in}
use Rattle.core_world.specs.Kept.{IsKept}
use Rattle.core_world.specs.Numbers.{last_number, IsNumberStep}
use Rattle.core_world.specs.States.{State, history_in}
use Rattle.core_world.proofs.Rising.{said_rises, task_end_rises}
use Rattle.core_world.proofs.Whole.{layers_of}
use Rattle.oak_step.specs.declared.work.Work.{Work}
use Rattle.oak_step.specs.declared.work.Work.TheVariants as work
use Rattle.oak_world.specs.Worlds.{WorldOf, live, said_in, state_of, told_first, with_formers, with_reply, with_work, work_in}
use Rattle.oak_world.proofs.StepsOf.{holds_still, numbers_stay}

module _ {L : Type 0} (w : WorldOf L) (s : ℕ) where
  -- a task that begins changes no document, and holds nothing: a reader reads at a pair that is held
  pub start_numbers : (v : Work) → w.table.number ≤ last_number → IsNumberStep w.table (with_work w s v).table
  start_numbers v = numbers_stay w.table

  -- room for a reply changes no document
  pub reply_numbers : (room : Option ℕ) → w.table.number ≤ last_number → IsNumberStep w.table (with_reply w s room).table
  reply_numbers room = numbers_stay w.table

  -- a reply changes no document
  pub said_numbers : (i : ℕ) (text : Text) → w.table.number ≤ last_number → IsNumberStep w.table (said_in w s i text).table
  said_numbers i text = numbers_stay w.table

  module _ (formers : Formers) where
    -- the state, with what is told of former documents
    abbrev told : WorldOf L → State
    told v = with_formers (state_of v) formers

    pub start_holds : (v : Work) → IsHoldingStep (holding_in (told w)) (holding_in (told (with_work w s v)))
    start_holds v = holds_still (told w)

    pub reply_holds : (room : Option ℕ) → IsHoldingStep (holding_in (told w)) (holding_in (told (with_reply w s room)))
    reply_holds room = holds_still (told w)

    -- the state once what is told before the reply of a session that does this is told
    abbrev pub told_before : Work → State
    told_before v = record (told w) { past = told_first v ++ w.history.past }

    module _ (starts : Starts) (says : Says) (proper : StartsProper starts) where
      -- the event that tells how a split or a collection ended, where there is one
      pub first_holds : IsKept starts says (told w) → (v : Work) → ((e : Event) → v ≡ work.Told e → (is_task_end s e ≡ true) × MayFollow starts says (live w.history) e) → IsHoldingStep (holding_in (told w)) (holding_in (told_before v))
      first_holds kept (work.Told e) may = task_end_rises starts says proper (told w) (layers_of starts says (told w) kept) s e (may e refl).0 (may e refl).1
      first_holds kept _ may = holds_still (told w)

      -- and the reply behind it
      pub said_holds : IsKept starts says (told_before (work_in w.actors s)) → (i : ℕ) (text : Text) → i ≡ next_index (told_before (work_in w.actors s)).past s → says (history_in (told_before (work_in w.actors s))) s i text
          → IsHoldingStep (holding_in (told_before (work_in w.actors s))) (holding_in (told (said_in w s i text)))
      said_holds kept i text next lawful =
          said_rises starts says proper (told_before (work_in w.actors s)) (layers_of starts says (told_before (work_in w.actors s)) kept) s i text next lawful
