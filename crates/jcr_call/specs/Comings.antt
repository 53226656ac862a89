-- What a command that commits comes to before its commit.
use Rattle.std.specs.Prelude.{◌≡◌, ◌≢◌, ℕ, List, [], ◌∷◌, Option, None, Some, option_map, Result, Ok, Err}
use Rattle.std.specs.Option.{option_map_or}
use Rattle.std.specs.String.{string_bytes}
use Rattle.jr_rev.specs.declared.revision.Revision.{Revision}
use Rattle.jr_tree.specs.declared.edit.Write.{Write}
use Rattle.jr_tree.specs.declared.shared.Refusal.{Refusal}
use Rattle.jcr_plan.specs.Plans.{PlanOk}
use Rattle.jcr_trans.specs.Answers.{ShowsRevision}
use Rattle.jcr_trans.specs.Texts.{answer_text}
use Rattle.jcr_trans.specs.declared.command.Command.{Command}
use Rattle.jcr_law.specs.Commits.{committed_answer, refusal_of_plan, unwritten_answer}
use Rattle.jcr_law.specs.Law.{no_text}
use Rattle.jcr_law.specs.State.{Call, accepted}
use Rattle.jcr_call.specs.declared.coming.Accepted.{Accepted}
use Rattle.jcr_call.specs.declared.coming.Coming.{Coming}
use Rattle.jcr_call.specs.declared.coming.Coming.TheVariants as coming

-- the reply to a command by the edit that is due for it, where it isn't committed: the refusal, or
-- that there is nothing to write
abbrev pub reply_to_due : Call → Command → Result (List Write) Refusal → Option (List ℕ)
reply_to_due c m (Ok []) = Some (answer_text (unwritten_answer c m))
reply_to_due c m (Ok (w ∷ ws)) = option_map no_text (refusal_of_plan c (w ∷ ws))
reply_to_due c m (Err r) = Some (no_text r)

-- the text of the accepted reply, where the commit was made by a revision
abbrev pub accepted_text : Accepted → Revision → List ℕ
accepted_text a r = option_map_or string_bytes a.text (answer_text (ShowsRevision r))

-- of an accepted commit this text is told, or its revision, and the session then holds these tokens
pub record IsTold (shown : Option (List ℕ)) (held : List (List ℕ)) (a : Accepted) : Type 0 where
  pub text : option_map string_bytes a.text ≡ shown
  pub tokens : a.tokens ≡ held

-- what is told of an accepted commit is what the law has of it
pub record IsAcceptedOf (c : Call) (m : Command) (a : Accepted) : Type 0 where
  pub text : (r : Revision) → accepted_text a r ≡ answer_text (committed_answer c c.base r m)
  pub tokens : a.tokens ≡ (accepted c m).tokens

-- the reply, where it comes to one
abbrev pub reply_said : Coming → Option (List ℕ)
reply_said (coming.Said text) = Some (string_bytes text)
reply_said (coming.Planned plan a) = None

-- what a command comes to by what is due for it: a reply, or a plan and its accepted reply
abbrev pub IsComing : Call → Command → Result (List Write) Refusal → Coming → Type 0
IsComing c m due (coming.Said text) = reply_to_due c m due ≡ Some (string_bytes text)
IsComing c m due (coming.Planned plan a) = (due ≡ Ok plan.edit.writes)
    × (plan.edit.writes ≢ [])
    × PlanOk c.types c.base c.state.tokens plan.edit.writes plan.marks
    × IsAcceptedOf c m a
