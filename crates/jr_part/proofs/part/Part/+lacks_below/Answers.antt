use Rattle.std.proofs.Common.{◌≡◌, ◌<◌, false, true, length, is_some, rules, sym, arith}
use Rattle.jr_tree.specs.Trees.{subtree_of}
use Rattle.jr_part.specs.declared.need.Need.TheVariants as need
use Rattle.jr_part.proofs.Among.{fine_all, fine_more, none_lacks, some_lacks}
use Rattle.jr_part.proofs.Children.{smaller_child}
use Rattle.jr_part.proofs.Order.{first_children_at, first_node_at}
use Rattle.jr_part.proofs.Ways.{nothing_absent, there_is}
use Rattle.jr_part.proofs.part.Part.+lacks_below.Goals as goal

pub lacks_among-lacks_below-requires : goal.lacks_among-lacks_below-requires
lacks_among-lacks_below-requires t c =
    let less : length (subtree_of c.args.self.now.nodes c.in_ok-child.child) < length (subtree_of c.args.self.now.nodes c.args.path.now) = smaller_child _ _ _ _ c.in_ok-child.ensures c.requires.there in
    (omega (arith, c.decreases, less), tt)

pub lacks_among-returns-then-is_some : goal.lacks_among-returns-then-is_some
lacks_among-returns-then-is_some t c =
    let some : is_some c.in_ok-lacking.lacking ≡ true = search rules in
    some_lacks c.args.self.now c.args.path.now c.args.names.now c.loop-name.name-index c.loop-name-item.result c.loop-name-test.true c.loop-name-item.is c.loop-name.invariant
    (c.in_order.ensures.lists _ _ c.requires.listed) c.requires.there c.requires.listed _ _ c.in_ok-child.ensures some c.in_ok-lacking.ensures

pub lacks_among-loop-name-preserved : goal.lacks_among-loop-name-preserved
lacks_among-loop-name-preserved t c =
    let none : is_some c.in_ok-lacking.lacking ≡ false = search rules in
    fine_more c.args.self.now c.args.path.now c.args.names.now c.loop-name.name-index c.loop-name-item.result c.loop-name-test.true c.loop-name-item.is c.loop-name.invariant _ c.in_ok-child.ensures
    (none_lacks c.args.self.now (need.Subtree c.in_ok-child.child) c.in_ok-lacking.lacking none c.in_ok-lacking.ensures)

pub lacks_among-returns : goal.lacks_among-returns
lacks_among-returns t c = fine_all c.args.self.now c.args.path.now c.args.names.now c.loop-name.name-index c.loop-name-test.false c.requires.there c.requires.listed c.loop-name.invariant

pub lacks_below-returns-in_ok-copy-in-None : goal.lacks_below-returns-in_ok-copy-in-None
lacks_below-returns-in_ok-copy-in-None t c = first_node_at c.args.self.now c.args.path.now _ c.in_ok-copy-in-None.ensures (sym c.in-None.ensures)

pub lacks_below-returns-in-Some-None : goal.lacks_below-returns-in-Some-None
lacks_below-returns-in-Some-None t c = nothing_absent c.args.self.now c.args.path.now (sym (rw c.in-Some-None.field-0-is at c.in-Some-None.ensures))

pub lacks_below-returns-in_ok-copy-in-None-children : goal.lacks_below-returns-in_ok-copy-in-None-children
lacks_below-returns-in_ok-copy-in-None-children t c =
    first_children_at c.args.self.now c.args.path.now _ c.in_ok-copy-in-None-children.ensures
    (there_is c.args.self.now c.args.path.now _ (sym (rw c.in-Some-Some.field-0-is at c.in-Some-Some.ensures))) (sym c.in-None-children.ensures)
