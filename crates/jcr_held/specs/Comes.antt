-- What a command that commits comes to.
use Rattle.std.specs.Prelude.{◌≡◌, List, Some, Result}
use Rattle.jr_tree.specs.declared.edit.Write.{Write}
use Rattle.jr_tree.specs.declared.shared.Refusal.{Refusal}
use Rattle.jcr_trans.specs.declared.command.Command.{Command}
use Rattle.jcr_law.specs.Commits.{edit_due}
use Rattle.jcr_law.specs.State.{Call}
use Rattle.jcr_call.specs.Comings.{IsComing}
use Rattle.jcr_call.specs.declared.coming.Coming.{Coming}

-- an edit or a refusal is due for the command, and what it comes to is told
pub record ComesTo (c : Call) (m : Command) (coming : Coming) : Type 0 where
  pub due : Result (List Write) Refusal
  pub is_due : edit_due c m ≡ Some due
  pub comes : IsComing c m due coming
