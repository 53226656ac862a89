use Rattle.std.proofs.Common.{refl}
use Rattle.std.specs.Prelude.{codes}
use Rattle.jr_path.proofs.OwnNames.{prefixed_name}
use Rattle.oak_world.proofs.start.start_documents.Goals as goal

pub start_document-requires : goal.start_document-requires
start_document-requires c = prefixed_name (codes "rep") (codes "system") refl

pub start_document-requires-2 : goal.start_document-requires-2
start_document-requires-2 c = prefixed_name (codes "rep") (codes "versionStorage") refl
