use Rattle.std.proofs.Common.{sym, ap, ◌∙◌}
use Rattle.std.specs.Prelude.{is_some}
use Rattle.std.proofs.lemmas.Result.{IfOk-weaker}
use Rattle.jr_tree.specs.Trees.{node_at}
use Rattle.jcr_call.proofs.Standing.{kept_by, no_root}
use Rattle.jcr_call.proofs.rooted.keeps_tree.Goals as goal

pub returns-then-not-has : goal.returns-then-not-has
returns-then-not-has c = λ t same tree. no_root c.args.tree.now (ap (λ p. is_some (node_at c.args.tree.now p)) (sym c.root.ensures) ∙ sym c.if-not-has.ensures)

pub returns : goal.returns
returns c = λ t same tree. IfOk-weaker c.are_rooted.result _ _
    (λ b is. kept_by t c.args.tree.now c.args.writes.now b same tree
    (ap (λ p. is_some (node_at c.args.tree.now p)) (sym c.root.ensures) ∙ sym c.if-not-has.ensures) is) c.are_rooted.ensures
