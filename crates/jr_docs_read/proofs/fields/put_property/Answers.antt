use Rattle.std.proofs.lemmas.Cmp.{nat_list_cmp_total}
use Rattle.jr_docs_read.specs.Ranges.{IsByRevision, IsHeldInRange}
use Rattle.jr_docs_read.proofs.Ranged.{map_put, no_map}
use Rattle.jr_path.specs.Grammar.{IsName}
use Rattle.jr_path.specs.Names.{name_cmp}
use Rattle.jr_rev.specs.Grammar.{FitsFields}
use Rattle.jr_rev.specs.Revisions.{revision_cmp}
use Rattle.jr_docs_read.proofs.fields.put_property.Goals as goal

pub returns-clause-in_range : goal.returns-clause-in_range
returns-clause-in_range c h =
    let none : IsByRevision IsHeldInRange c.new-values.result = rw c.new-values.ensures (no_map revision_cmp FitsFields IsHeldInRange) in
    rw c.in_ok-put.ensures.ok (map_put name_cmp nat_list_cmp_total _ _ IsName (IsByRevision IsHeldInRange) c.args.props.now h c.in_ok-name.ensures.in_range (c.in_ok-read_object.ensures.in_range none))
