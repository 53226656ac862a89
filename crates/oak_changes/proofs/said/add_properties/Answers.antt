use Rattle.std.proofs.Common.{rules, ◌≤◌, length, map}
use Rattle.std.specs.List.{flat_map}
use Rattle.std.specs.Map.{keys_of}
use Rattle.std.specs.Map.Iter.{deref}
use Rattle.oak_doc.specs.declared.document.Document.{Document}
use Rattle.oak_read.specs.Meaning.{documents_in}
use Rattle.oak_changes.specs.Saying.{property_said}
use Rattle.oak_changes.proofs.Gathering.{joined_all, joined_more}
use Rattle.oak_changes.proofs.said.add_properties.Goals as goal

pub loop-document-preserved : goal.loop-document-preserved
loop-document-preserved c =
    joined_more (λ (d : Document). flat_map (property_said (documents_in c.args.documents.now) c.args.pin.now.sweep c.args.from.now c.args.pin.now.base c.args.path.now (map deref c.args.all.now)) (keys_of d.props)) deref c.args.all.now c.loop-document.document-index c.document-item.result
    c.args.said.now c.loop-document.said c.add_properties_in.new.said c.loop-document-test.true c.document-item.is c.loop-document.invariant c.in_ok-add_properties_in.ensures

pub returns : goal.returns
returns c =
    let over : length c.args.all.now ≤ c.loop-document.document-index = search rules in
    joined_all (property_said (documents_in c.args.documents.now) c.args.pin.now.sweep c.args.from.now c.args.pin.now.base c.args.path.now (map deref c.args.all.now)) (λ (d : Document). keys_of d.props) deref c.args.all.now c.loop-document.document-index
    c.args.said.now c.loop-document.said over c.loop-document.invariant
