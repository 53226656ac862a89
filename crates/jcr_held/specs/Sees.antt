-- What a command of the view comes to.
use Rattle.std.specs.Prelude.{◌≡◌, ℕ, false, List, Result, Ok, Err}
use Rattle.std.specs.String.{string_bytes}
use Rattle.std.specs.declared.alloc.AllocError.{AllocError}
use Rattle.std.specs.declared.alloc.Global.{Global}
use Rattle.std.specs.declared.string.String.{String}
use Rattle.jr_overlay.specs.Drafts.{with_steps}
use Rattle.jr_overlay.specs.Overlays.{known_view}
use Rattle.jcr_trans.specs.Texts.{answer_text}
use Rattle.jcr_trans.specs.declared.command.Command.{Command}
use Rattle.jcr_view.specs.Outcomes.{CommandOutcome, eval, outcome}
use Rattle.jcr_law.specs.State.{Call, is_ok_text}
use Rattle.jcr_law.specs.Calls.{call_after}
use Rattle.jcr_held.specs.declared.held.Held.{Held}
use Rattle.jcr_held.specs.Holds.{Holds}

-- the text is the law's answer, and what is held then is what the law has after it
pub record IsSeen (c : Call) (m : Command) (x : Held) (reply : List ℕ) : Type 0 where
  pub text : reply ≡ answer_text (eval c.types c.who c.base c.state.view m).answer
  pub holds : Holds (call_after (is_ok_text reply) false c m) x

-- the command is answered so; where memory is refused, what was held is held still
abbrev pub Sees : Call → Command → Held → Result (String Global) AllocError → Type 0
Sees c m x (Ok text) = IsSeen c m x (string_bytes text)
Sees c m x (Err e) = Holds c x

-- what a command comes to on what is known
abbrev pub outcome_of : Held → Command → CommandOutcome
outcome_of x m = outcome x.types x.who (known_view x.part x.pending) x.part.nodes m

-- what is held once it counts
abbrev pub with_outcome : Held → CommandOutcome → Held
with_outcome x o = record x {
  pending = with_steps x.part.nodes x.pending o.steps;
  who = record x.who { ids = o.ids };
}
