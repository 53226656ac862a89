-- What workers have run answers the script.
use Rattle.std.proofs.Common.{◌≡◌, ℕ, ◌<◌, true, Some, length, sym, ◌∙◌, subst}
use Rattle.oak_machine.specs.History.{History}
use Rattle.oak_machine.specs.Asked.{AreAsked}
use Rattle.oak_machine.specs.Runs.{IsRun}
use Rattle.oak_world.specs.Worlds.{WorldOf, live}
use Rattle.core_heads.specs.Sound.{IsNodesRun}
use Rattle.core_obeys.specs.Answering.{AnswersThroughout, NameOthers}
use Rattle.core_obeys.specs.Obeying.{ObeysThroughout}
use Rattle.core_obeys.specs.Product.{IsProductRun}
use Rattle.jcr_law.specs.declared.law.JcrLaw.{JcrLaw}
use Rattle.jcr_law.specs.Lasting.{says_of, starts_of}
use Rattle.jcr_law.specs.Makes.{asks_of}
use Rattle.jr_script.specs.Bounds.{IsWithin}
use Rattle.jr_script.specs.declared.script.Script.{Script}
use Rattle.jr_shared.specs.Holds.{PassKnown}
use Rattle.jr_shared.specs.Meanings.{Owned, frame_of, owned_of}
use Rattle.seat_lock.specs.Views.{OwnsPart}
use Rattle.jr_stage.specs.Places.{is_over}
use Rattle.jr_stage.specs.Runs.{AreApart}
use Rattle.jr_work.specs.Workers.{HasAll, HasRunByWorkers, frame_for}
use Rattle.jr_stage.proofs.Flying.{some_is_some}
use Rattle.jr_work.proofs.Gathering.{history_back, law_back, over_back}
use Rattle.jr_stage.proofs.Whole.{answers_all}

module _ (script : Script) (within : IsWithin script) (v : PassKnown JcrLaw) (all : HasAll script v) (w : WorldOf JcrLaw) (frame : v.frame ≡ Some (frame_of w))
    (parts : (s : ℕ) (part : Owned) → OwnsPart v s part → owned_of w s ≡ part) where
  same_frame : frame_of w ≡ frame_for script
  same_frame = some_is_some (frame_of w) (frame_for script) (sym frame ∙ all.frame)

  all_over : (s : ℕ) → s < length script.sessions → is_over script w.history.past s ≡ true
  all_over s below = over_back script v w s (all.over s below) (parts s)

  -- the world that is given back once all workers have run
  pub by_workers : IsRun (starts_of w.law) (says_of w.law) (live w.history) → AreAsked (asks_of w.law) (live w.history) → AreApart w.history.past
      → ((law : JcrLaw) (h : History) → IsProductRun law h → ObeysThroughout law h)
      → ((law : JcrLaw) (h : History) → IsNodesRun (starts_of law) (says_of law) h → NameOthers h.past → AnswersThroughout law h)
      → HasRunByWorkers script w
  by_workers run asked apart obey answer = record {
    law = law_back script w same_frame;
    answers = answers_all script w.history within (history_back script w same_frame)
        (subst (λ (l : JcrLaw). IsRun (starts_of l) (says_of l) (live w.history)) (law_back script w same_frame) run)
        (subst (λ (l : JcrLaw). AreAsked (asks_of l) (live w.history)) (law_back script w same_frame) asked) apart all_over obey answer;
  }
