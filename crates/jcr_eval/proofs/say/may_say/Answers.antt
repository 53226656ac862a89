use Rattle.std.proofs.Common.{cond, ap, ◌∙◌}
use Rattle.std.proofs.lemmas.Result.{IfOk-weaker}
use Rattle.oak_machine.specs.History.{history_of}
use Rattle.jcr_law.specs.Built.{Allowed, Unsupported}
use Rattle.jcr_law.specs.Law.{asked_by}
use Rattle.jcr_eval.proofs.Causes.{may_by_any, may_by_barring, may_by_cause}
use Rattle.jcr_eval.proofs.say.may_say.Goals as goal

pub returns-then-branch : goal.returns-then-branch
returns-then-branch c =
    let h = history_of c.args.journal.now in
    may_by_any c.args.law.now h c.args.session (asked_by h c.args.session c.args.command.now)
    c.args.text.now c.in_ok-any_says.field-0 c.in_ok-any_says.ensures c.if-branch.true

pub returns-then-is_asked : goal.returns-then-is_asked
returns-then-is_asked c =
    let h = history_of c.args.journal.now in
    let m = c.args.command.now in
    IfOk-weaker c.allowed_says.result _ _
    (λ b is. may_by_cause c.args.law.now h c.args.session (asked_by h c.args.session m) m
    c.args.text.now c.in_ok-any_says.field-0 b
    (c.is_asked.ensures ∙ ap (λ x. cond x (Allowed m) (Unsupported m)) c.if-is_asked.true)
    c.in_ok-any_says.ensures c.if-branch.false is)
    c.allowed_says.ensures

pub returns-else-is_asked : goal.returns-else-is_asked
returns-else-is_asked c =
    let h = history_of c.args.journal.now in
    let m = c.args.command.now in
    IfOk-weaker c.barred_says.result _ _
    (λ b is. may_by_barring c.args.law.now h c.args.session (asked_by h c.args.session m) m
    c.args.text.now c.in_ok-any_says.field-0 b
    (c.is_asked.ensures ∙ ap (λ x. cond x (Allowed m) (Unsupported m)) c.if-is_asked.false)
    c.in_ok-any_says.ensures c.if-branch.false is)
    c.barred_says.ensures
