use Rattle.std.proofs.Common.{ap, ◌∙◌}
use Rattle.std.specs.BTreeMap.{insert_entry}
use Rattle.jr_rev.specs.Revisions.{revision_cmp}
use Rattle.jr_tree.specs.Edits.{item_cmp}
use Rattle.oak_changes.specs.Saying.{changes_at}
use Rattle.oak_changes.proofs.said.put_said.Goals as goal

pub returns : goal.returns
returns c =
    c.in_ok-put_change.ensures
    ∙ ap (λ i. insert_entry revision_cmp c.args.groups.now c.args.said.now.revision (insert_entry item_cmp (changes_at c.args.groups.now c.args.said.now.revision) i c.in_ok-change.change)) c.in_ok-item.ensures
    ∙ ap (λ x. insert_entry revision_cmp c.args.groups.now c.args.said.now.revision (insert_entry item_cmp (changes_at c.args.groups.now c.args.said.now.revision) c.args.said.now.change.item x)) c.in_ok-change.ensures
