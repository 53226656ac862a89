use Rattle.std.proofs.Common.{◌≡◌, ◌≢◌, []}
use Rattle.std.specs.Prelude.{filter}
use Rattle.serde_json.specs.View.{members_view}
use Rattle.jr_docs_read.specs.Printed.{has_entries}
use Rattle.jr_docs_read.specs.Ranges.{ArePropsInRange, IsStorable}
use Rattle.jr_docs_read.specs.Reading.{printed_members}
use Rattle.jr_docs_read.proofs.Left.{Left}
use Rattle.jr_docs_read.proofs.Properties.{of_properties}
use Rattle.jr_path.specs.declared.path.DocId.TheVariants.{Settings}
use Rattle.oak_doc.specs.declared.document.Document.{Document}
use Rattle.jr_docs_read.proofs.fields.read_members_of.Given as goal

-- what is left to be read comes to the properties, and they are in range
abbrev pub invariant-loop-name : goal.invariant-loop-name
invariant-loop-name l = ((d : Document) → IsStorable d → d.id ≢ Settings → printed_members d ≡ members_view l.members.entries → l.fn.props ≡ []
    → Left of_properties (members_view l.name-iterator) l.props (filter has_entries d.props))
    × (ArePropsInRange l.fn.props → ArePropsInRange l.props)
