-- What documents open with is a start of so many cluster nodes.
use Rattle.std.proofs.Common.{◌≡◌, ◌≤◌, ℕ, true, List, []}
use Rattle.std.specs.List.{list_all}
use Rattle.oak_doc.specs.declared.document.Document.{Document}
use Rattle.oak_machine.specs.History.{IsStart}
use Rattle.oak_store.specs.Tables.{by_id}
use Rattle.oak_sound.specs.Sound.{keeps_revisions}
use Rattle.oak_open.proofs.Numbered.{all_keep, sound_rules}
use Rattle.core_open.specs.Starting.{AreOpenable, shown_start}
use Rattle.core_open.proofs.Placed.{opened_nodes}
use Rattle.core_open.proofs.Seen.{opened_vector}
use Rattle.core_open.proofs.Showing.{first_tree}

pub begins : (clusters : ℕ) (items : List Document) → AreOpenable clusters items → IsStart clusters (shown_start clusters items)
begins clusters items openable = record {
  tree = (first_tree clusters 0 items openable).tree;
  vector = opened_vector clusters openable.nodes.1 (by_id items) drawable;
  nodes = opened_nodes clusters (by_id items) drawable;
}
  where
    drawable : list_all (λ e. keeps_revisions clusters e.1) (by_id items) ≡ true
    drawable = all_keep (λ e. keeps_revisions clusters e.1) [] (by_id items) (sound_rules clusters (by_id items) openable.sound).revisions
