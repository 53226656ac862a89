-- What is kept after a document, by what is due.
use Rattle.std.proofs.Common.{◌≡◌, Option, refl, sym, subst}
use Rattle.oak_doc.specs.declared.document.Document.{Document}
use Rattle.oak_recover.specs.Recovering.{fed_found, fed_status}
use Rattle.oak_recover.specs.declared.recovery.Recovery.{Recovery}
use Rattle.oak_recover.specs.declared.recovery.Step.{Step}
use Rattle.oak_recover.specs.declared.recovery.Step.TheVariants as step

pub found_status : (s : Recovery) (found : Option Document) → s.step ≡ step.Status → fed_found s found ≡ fed_status s found
found_status s found is = subst (λ (x : Step). fed_found (record s { step = x }) found ≡ fed_status (record s { step = x }) found) (sym is) refl
