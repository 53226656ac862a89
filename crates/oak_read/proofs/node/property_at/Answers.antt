use Rattle.std.specs.Map.Iter.{deref}
use Rattle.oak_doc.specs.Updates.{values_of_property}
use Rattle.oak_read.specs.Meaning.{documents_in, counting}
use Rattle.oak_read.specs.Shown.{shown}
use Rattle.oak_read.proofs.Entries.{latest_more}
use Rattle.oak_read.proofs.node.property_at.Goals as goal

pub loop-document-preserved : goal.loop-document-preserved
loop-document-preserved c =
    latest_more (counting (documents_in c.args.documents.now) c.args.pin.now.sweep c.args.pin.now.base (λ d. values_of_property d.props c.args.name.now)) deref c.args.all.now c.loop-document.document-index c.document-item.result
    (shown c.loop-document.best) (shown c.in_ok-best.best) c.loop-document-test.true c.document-item.is c.loop-document.invariant c.in_ok-best.ensures
