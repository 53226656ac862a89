-- No documents are a table's, whatever number was drawn last.
use Rattle.std.proofs.Common.{◌≤◌, ℕ, []}
use Rattle.std.specs.List.Sorted.{IsStrictlySortedBy}
use Rattle.std.proofs.lemmas.List.Elements.{All-from_recursion}
use Rattle.oak_doc.specs.declared.document.Document.{Document}
use Rattle.oak_store.specs.Tables.{AreStored}

pub nothing_stored : (number : ℕ) → AreStored [] number
unfolding IsStrictlySortedBy
nothing_stored number = record {
  ordered = tt;
  drawn = All-from_recursion (λ (d : Document). d.mod_count ≤ number) [] tt;
}
