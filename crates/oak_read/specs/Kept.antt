-- Parts of what a reader keeps after a reply.
use Rattle.std.specs.Prelude.{Some}
use Rattle.jr_path.specs.declared.path.Path.{Path}
use Rattle.oak_doc.specs.declared.document.Document.{Document}
use Rattle.oak_read.specs.Meaning.{documents_in, found_node}
use Rattle.oak_read.specs.Reading.{noted, settled}
use Rattle.oak_read.specs.declared.reader.Reader.{Reader}
use Rattle.oak_read.specs.declared.reader.ReadOut.TheVariants as out
use Rattle.oak_read.specs.declared.reader.Step.TheVariants as step

-- the node is what the documents that were found mean
abbrev pub node_read : Reader → Reader
node_read r = record r { step = step.Done (out.Node (found_node (documents_in r.known) r.pin.sweep r.pin.base r.at)) }

-- a document of a child comes
abbrev pub child_noted : Reader → Path → Document → Reader
child_noted r q d = settled (noted (record r { at = q }) d.id (Some d))
