use Rattle.std.proofs.Common.{sym, ap, ◌∙◌}
use Rattle.std.specs.BTreeMap.{insert_entry}
use Rattle.jr_tree.specs.Edits.{item_cmp}
use Rattle.oak_changes.proofs.Putting.{put_at_revision, put_new_revision}
use Rattle.oak_changes.proofs.said.put_change.Goals as goal

pub returns-in-Some : goal.returns-in-Some
returns-in-Some c =
    rw c.inner_mut.ensures.shows at
    (put_at_revision c.inner_mut.result.now.entries c.args.r c.args.item c.args.change c.in-Some.changes.now c.put.new.self
    (c.get_mut.follows.lender c.put.new.self).entries
    c.get_mut.ensures.ordered (sym c.in-Some.ensures.value) c.in_ok-put.ensures.ok
    (c.get_mut.follows.holds c.put.new.self).0)

pub returns : goal.returns
returns c =
    rw c.inner_mut.ensures.shows at
    (put_new_revision c.inner_mut.result.now.entries c.args.r c.args.item c.args.change _ c.put-3.new.self c.put-2.new.self (sym c.in_default.ensures.value) (ap (λ m. m.entries) c.get_mut.follows.holds-at-none)
    (c.in_ok-put-2.ensures.ok ∙ ap (λ es. insert_entry item_cmp es c.args.item c.args.change) c.new-changes.ensures) c.in_ok-put-3.ensures.ok)
