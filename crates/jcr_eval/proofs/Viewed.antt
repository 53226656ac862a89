-- The answer of a command of the view, by what the next command of the session is run with.
use Rattle.std.proofs.Common.{◌≡◌, ◌↔◌, ℕ, Bool, false, List, Option, None, Some, sym, ap, ◌∙◌}
use Rattle.std.specs.Prelude.{IsTrue, is_some}
use Rattle.std.specs.Option.{unwrap_or}
use Rattle.std.proofs.lemmas.Bool.{false≢true}
use Rattle.oak_machine.specs.History.{History}
use Rattle.jcr_trans.specs.Texts.{answer_text}
use Rattle.jcr_trans.specs.declared.command.Command.{Command}
use Rattle.jcr_view.specs.Outcomes.{eval}
use Rattle.jcr_law.specs.declared.law.JcrLaw.{JcrLaw}
use Rattle.jcr_law.specs.State.{Call, call_of}
use Rattle.jcr_eval.specs.Causes.{ViewCause}

-- what a command of the view answers that is run so
abbrev pub answered_by : Call → Command → List ℕ
answered_by c m = answer_text (eval c.types c.who c.base c.state.view m).answer

module _ (law : JcrLaw) (h : History) (s : ℕ) (m : Command) (text : List ℕ) where
  -- it is run so
  pub viewed_there : (c : Call) (b : Bool) → Some c ≡ call_of law h.begin h.past s
      → (IsTrue b ↔ (text ≡ answered_by c m)) → IsTrue b ↔ ViewCause law h s m text
  viewed_there c b is i = (
    λ t. (c, sym is, i.0 t),
    λ v. i.1 (v.2 ∙ sym (ap (λ (d : Call). answered_by d m)
        (ap (λ (o : Option Call). unwrap_or o c) (is ∙ v.1)))),
  )

  -- the session has no base
  pub viewed_nowhere : None ≡ call_of law h.begin h.past s → IsTrue false ↔ ViewCause law h s m text
  viewed_nowhere is = (λ t. absurd (false≢true t), λ v. absurd (false≢true (ap is_some (is ∙ v.1))))
