use Rattle.std.specs.Prelude.{is_some}
use Rattle.std.specs.Map.Iter.{deref}
use Rattle.oak_doc.specs.Updates.{values_of_property}
use Rattle.oak_read.specs.Meaning.{counting, documents_in}
use Rattle.oak_changes.proofs.Gathering.{gathered_more}
use Rattle.oak_changes.proofs.states.property_states.Goals as goal

pub loop-document-preserved : goal.loop-document-preserved
loop-document-preserved c =
    gathered_more (counting (documents_in c.args.documents.now) c.args.pin.now.sweep c.args.pin.now.base (λ d. values_of_property d.props c.args.name.now)) (λ e. (e.0, is_some e.1)) deref c.args.all.now c.loop-document.document-index c.document-item.result
    c.loop-document.states c.add_values_of.new.states c.loop-document-test.true c.document-item.is c.loop-document.invariant c.in_ok-add_values_of.ensures
