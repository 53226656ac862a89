use Rattle.std.proofs.Common.{None, sym, ap, ◌∙◌}
use Rattle.std.specs.List.{list_all}
use Rattle.std.proofs.lemmas.Result.{IfOk-weaker}
use Rattle.jr_tree.specs.declared.edit.Write.{Write}
use Rattle.std.specs.Prelude.{List}
use Rattle.jr_tree.specs.Edits.{applied, is_change, is_emptied, is_once}
use Rattle.jcr_call.proofs.Improper.{no_change, no_once, no_tree, rest}
use Rattle.jcr_call.proofs.proper.is_proper.Goals as goal

pub returns-then-not-branch : goal.returns-then-not-branch
returns-then-not-branch c = λ know. no_tree c.args.tree.now c.args.after.now c.args.edit.now.writes c.requires
    (sym c.if-not-branch.true ∙ c.in_ok-leaves_tree.ensures c.args.tree.now (c.requires ∙ ap (applied None c.args.tree.now) (sym c.as_slice-writes.ensures)) know)

pub returns-then-not-branch-2 : goal.returns-then-not-branch-2
returns-then-not-branch-2 c = λ know. no_once c.args.tree.now c.args.after.now c.args.edit.now.writes c.requires
    (sym c.if-not-branch-2.true ∙ c.in_ok-is_once.ensures ∙ ap is_once c.as_slice-writes.ensures)

pub returns-then-not-all_change : goal.returns-then-not-all_change
returns-then-not-all_change c = λ know. no_change c.args.tree.now c.args.after.now c.args.edit.now.writes c.requires
    (c.if-not-all_change.ensures ∙ ap (list_all (is_change c.args.tree.now c.args.after.now)) c.as_slice-writes.ensures)

pub returns : goal.returns
returns c = λ know. IfOk-weaker c.all_emptied.result _ _ (λ b is. rest c.args.tree.now c.args.after.now c.args.edit.now.writes c.requires b
    (sym c.if-not-branch.false ∙ c.in_ok-leaves_tree.ensures c.args.tree.now (c.requires ∙ ap (applied None c.args.tree.now) (sym c.as_slice-writes.ensures)) know)
    (sym c.if-not-branch-2.false ∙ c.in_ok-is_once.ensures ∙ ap is_once c.as_slice-writes.ensures)
    (c.if-not-all_change.ensures ∙ ap (list_all (is_change c.args.tree.now c.args.after.now)) c.as_slice-writes.ensures)
    (is ∙ ap (λ (ws : List Write). list_all (is_emptied c.args.tree.now ws) ws) c.as_slice-writes.ensures)) c.all_emptied.ensures
