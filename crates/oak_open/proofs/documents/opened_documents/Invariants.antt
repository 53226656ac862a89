use Rattle.std.proofs.Common.{◌≡◌, ◌≤◌, ◌+◌, true, length}
use Rattle.std.specs.Prelude.{nat_le}
use Rattle.std.specs.List.{list_all}
use Rattle.oak_open.proofs.Left.{AreOpened}
use Rattle.oak_open.proofs.documents.opened_documents.Given as goal

-- so far these are opened; few sessions are counted in those that are left; each drew at most one number
abbrev pub invariant-loop-document : goal.invariant-loop-document
invariant-loop-document l =
    AreOpened l.opening.documents.now l.opening.pin.now l.opening.sessions l.number l.opening.documents.now
    l.document-iterator l.opened.items l.last
    × (list_all (λ e. nat_le e.1.sessions 16777152) l.document-iterator ≡ true)
    × (l.last ≤ l.number + length l.opened.items)
