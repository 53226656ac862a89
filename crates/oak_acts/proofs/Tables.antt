-- What an update leaves of the documents.
use Rattle.std.proofs.Common.{◌≡◌, All, Option, Result, Ok, Err, sym, ap, subst, ◌∙◌}
use Rattle.jr_path.specs.Grammar.{IsName}
use Rattle.oak_doc.specs.declared.document.Document.{Document}
use Rattle.oak_doc.specs.declared.update.UpdateOp.{UpdateOp}
use Rattle.oak_doc.specs.declared.update.OpFault.{OpFault}
use Rattle.oak_doc.specs.declared.update.OpFault.TheVariants.{Unmet, Absent, Memory}
use Rattle.oak_doc.specs.Updates.{updated}
use Rattle.oak_read.specs.Meaning.{path_of}
use Rattle.oak_read.specs.Reading.{IsTable}
use Rattle.oak_store.specs.Tables.{Table, Updates, next_number}
use Rattle.core_world.specs.Steps.{after_update, with_result}
use Rattle.core_world.proofs.Tabled.{update_in_order}

pub updates_after : (old new : Table) (op : UpdateOp) (before : Option Document) → Updates old new op (Ok before) → new ≡ after_update old op
updates_after old new op before u = u.3 ∙ sym (ap (with_result old op.id) (ap (λ (b : Option Document). updated b op (next_number old)) (sym u.0) ∙ u.2))

pub refused_same : (old new : Table) (op : UpdateOp) (fault : OpFault) → Updates old new op (Err fault) → new ≡ old
refused_same old new op Memory u = u
refused_same old new op Absent u = u.0
refused_same old new op (Unmet c k) u = u.0

pub updates_in_order : (old new : Table) (op : UpdateOp) (answer : Result (Option Document) OpFault) → Updates old new op answer → IsTable old.documents → All IsName (path_of op.id) → IsTable new.documents
updates_in_order old new op (Ok before) u is names = subst (λ (t : Table). IsTable t.documents) (sym (updates_after old new op before u)) (update_in_order old op is names)
updates_in_order old new op (Err fault) u is names = subst (λ (t : Table). IsTable t.documents) (sym (refused_same old new op fault u)) is
