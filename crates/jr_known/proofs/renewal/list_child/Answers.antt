use Rattle.std.proofs.Common.{◌≡◌, IfSome, Option, sym, ap, ◌∙◌, subst}
use Rattle.std.specs.FinMap.{is_sorted}
use Rattle.jr_path.specs.Names.{name_cmp}
use Rattle.jr_part.specs.Parts.{ChildNames}
use Rattle.jr_known.specs.Renewal.{with_child}
use Rattle.jr_known.proofs.Listing.{lists_already, lists_put, lists_unknown, with_child_rises}
use Rattle.jr_known.proofs.renewal.list_child.Goals as goal

pub returns-in_default : goal.returns-in_default
returns-in_default c = lists_unknown c.args.part.now c.args.born c.args.above.now c.args.name.now (sym c.in_default.ensures)

pub put_children-requires : goal.put_children-requires
put_children-requires c = record {
  rising =
      let made : c.in-Some-2.names ≡ with_child c.args.born c.args.name.now c.in-Some.names.now =
      subst (λ (o : Option ChildNames). IfSome o (λ ns. ns ≡ with_child c.args.born c.args.name.now c.in-Some.names.now)) c.in-Some-2.is c.in_ok-names.ensures.made in
      ap (is_sorted name_cmp) made
      ∙ with_child_rises c.args.born c.args.name.now c.in-Some.names.now (c.in_order.ensures.lists c.args.above.now c.in-Some.names.now (sym c.in-Some.ensures));
}

pub returns-in-Some-2 : goal.returns-in-Some-2
returns-in-Some-2 c =
    let made : c.in-Some-2.names ≡ with_child c.args.born c.args.name.now c.in-Some.names.now =
    subst (λ (o : Option ChildNames). IfSome o (λ ns. ns ≡ with_child c.args.born c.args.name.now c.in-Some.names.now)) c.in-Some-2.is c.in_ok-names.ensures.made in
    lists_put c.args.part.now c.put_children.new.self c.args.born c.args.above.now c.args.name.now c.in-Some.names.now c.in-Some-2.names c.put_children.result (sym c.in-Some.ensures)
    (c.in_order.ensures.lists c.args.above.now c.in-Some.names.now (sym c.in-Some.ensures)) made c.put_children.ensures.ok

pub returns-in-None : goal.returns-in-None
returns-in-None c = lists_already c.args.part.now c.args.born c.args.above.now c.args.name.now c.in-Some.names.now (sym c.in-Some.ensures) (c.in_ok-names.ensures.same c.in-None.is)
