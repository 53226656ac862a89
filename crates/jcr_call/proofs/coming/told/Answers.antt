use Rattle.std.proofs.Common.{None, sym, ap, subst, List, ℕ}
use Rattle.std.proofs.lemmas.Result.{IfOk-weaker}
use Rattle.jcr_trans.specs.Texts.{answer_text}
use Rattle.jcr_law.specs.Commits.{committed_answer}
use Rattle.jcr_law.specs.State.{accepted}
use Rattle.jcr_call.specs.Comings.{IsTold}
use Rattle.jcr_call.proofs.Replying.{accepted_by, untold_answer, untold_tokens}
use Rattle.jcr_call.proofs.coming.told.Goals as goal

pub returns-in-Lock : goal.returns-in-Lock
returns-in-Lock c = λ on due o is. IfOk-weaker c.locked.result _ _
    (λ a told. accepted_by on c.args.command.now a _ _ told
    (λ r. ap (λ m. answer_text (committed_answer on on.base r m)) (sym c.in-Lock.is))
    (ap (λ m. (accepted on m).tokens) (sym c.in-Lock.is))) (c.locked.ensures on o)

pub returns-in-Checkin : goal.returns-in-Checkin
returns-in-Checkin c = λ on due o is. IfOk-weaker c.checked_in.result _ _
    (λ a told. accepted_by on c.args.command.now a _ _ told
    (λ r. ap (λ m. answer_text (committed_answer on on.base r m)) (sym c.in-Checkin.is))
    (ap (λ m. (accepted on m).tokens) (sym c.in-Checkin.is))) (c.checked_in.ensures on o)

pub returns-in_default : goal.returns-in_default
returns-in_default c = λ on due o is. IfOk-weaker c.untold.result _ _
    (λ a told. accepted_by on c.args.command.now a None on.state.tokens
    (subst (λ (ts : List (List ℕ)). IsTold None ts a) o.tokens told)
    (untold_answer on c.args.command.now due is c.in_default.not-Lock c.in_default.not-Checkin)
    (untold_tokens on c.args.command.now due is c.in_default.not-Lock)) c.untold.ensures
