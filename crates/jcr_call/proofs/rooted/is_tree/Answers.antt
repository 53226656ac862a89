use Rattle.std.proofs.Common.{◌≡◌, true, sym, ap, subst, ◌∙◌}
use Rattle.std.specs.Prelude.{is_some}
use Rattle.std.specs.FinMap.{is_sorted}
use Rattle.std.proofs.lemmas.Result.{IfOk-weaker}
use Rattle.jr_path.specs.Names.{path_cmp}
use Rattle.jr_tree.specs.Trees.{Nodes, has_names_in_order, node_at}
use Rattle.jcr_call.proofs.Improper.{tree_by_parents}
use Rattle.jcr_call.proofs.Standing.{no_root}
use Rattle.jcr_call.proofs.rooted.is_tree.Goals as goal

pub returns-then-not-has : goal.returns-then-not-has
returns-then-not-has c = no_root c.args.tree.now (ap (λ p. is_some (node_at c.args.tree.now p)) (sym c.root.ensures) ∙ sym c.if-not-has.ensures)

pub returns : goal.returns
returns c = IfOk-weaker c.have_parents-rooted.result _ _
    (λ b is. tree_by_parents c.args.tree.now b
    (subst (λ (t : Nodes). is_sorted path_cmp t ≡ true) c.in_ok-whole.ensures c.know_order.ensures.paths)
    (subst (λ (t : Nodes). has_names_in_order t ≡ true) c.in_ok-whole.ensures c.know_order.ensures.names)
    (ap (λ p. is_some (node_at c.args.tree.now p)) (sym c.root.ensures) ∙ sym c.if-not-has.ensures) is)
    c.have_parents-rooted.ensures
