use Rattle.std.proofs.Common.{List, take, sym, ap, ◌∙◌, subst}
use Rattle.std.specs.List.{fold}
use Rattle.std.proofs.lemmas.List.{take_all}
use Rattle.jr_tree.specs.declared.edit.Write.{Write}
use Rattle.jr_part.specs.Parts.{HaveRisingNames}
use Rattle.jr_part.specs.Follows.{Lists, with_listed}
use Rattle.jr_part.proofs.Lists.{begun_rising, listed_rising}
use Rattle.jr_part.proofs.follow.follow_lists.Goals as goal

pub list_write-requires : goal.list_write-requires
list_write-requires c =
    let begun = subst (λ (lists : Lists). HaveRisingNames lists) (sym c.in_ok-begin_lists.ensures) (begun_rising c.args.lists.now c.args.writes.now c.requires) in
    subst (λ (lists : Lists). HaveRisingNames lists) (sym c.loop-write.invariant)
    (listed_rising c.args.by c.begin_lists.new.lists (take c.loop-write.write-index c.args.writes.now) begun)

pub returns : goal.returns
returns c =
    c.loop-write.invariant
    ∙ (ap (λ (ws : List Write). fold (with_listed c.args.by) c.begin_lists.new.lists ws) (take_all c.loop-write.write-index c.args.writes.now c.loop-write-test.false)
    ∙ ap (λ (lists : Lists). fold (with_listed c.args.by) lists c.args.writes.now) c.in_ok-begin_lists.ensures)
