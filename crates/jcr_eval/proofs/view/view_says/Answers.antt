use Rattle.std.proofs.Common.{sym, ap, ◌∙◌}
use Rattle.std.specs.Prelude.{option_map, reverse}
use Rattle.std.proofs.lemmas.Result.{IfOk-weaker}
use Rattle.oak_machine.specs.History.{Past, history_of}
use Rattle.jcr_law.specs.State.{call_of}
use Rattle.jcr_past.specs.Calls.{called}
use Rattle.jcr_eval.proofs.Viewed.{viewed_there}
use Rattle.jcr_eval.proofs.view.view_says.Goals as goal

pub returns-in-Some : goal.returns-in-Some
returns-in-Some c = IfOk-weaker c.is_answer.result _ _
    (λ b is. viewed_there c.args.law.now (history_of c.args.journal.now) c.args.session
    c.args.command.now
    c.args.text.now (called c.args.law.now.types c.in-Some.call) b
    (sym (ap (option_map (called c.args.law.now.types)) c.in-Some.is) ∙ c.in_ok-call.ensures
    ∙ ap (λ (es : Past). call_of c.args.law.now c.args.journal.now.start (reverse es)
    c.args.session)
    c.as_slice.ensures) is) c.is_answer.ensures
