-- Runs in which a node learns of another's draw and draws after it, and one from a start; and an Out of a revision of another node, which may not follow.
use Rattle.std.proofs.Common.{◌≡◌, ℕ, zero, suc, true, false, List, [], ◌∷◌, is_some, refl, ap, arith, None}
use Rattle.std.specs.Option.{unwrap_or}
use mathlib.Core.Bool.{false≢true}
use Rattle.std.specs.Prelude.{slice_get, Some}
use Rattle.jr_rev.specs.declared.revision.Revision.{Revision}
use Rattle.jr_rev.specs.Vectors.{Entries, start, sees, with_entry, is_below, no_entries}
use Rattle.jr_tree.specs.declared.edit.Edit.{Edit}
use Rattle.oak_machine.specs.declared.event.Event.TheVariants as event
use Rattle.oak_machine.specs.declared.event.Start.{Start}
use Rattle.jr_tree.specs.Trees.{initial_tree}
use Rattle.oak_machine.specs.History.{History, IsStart, Past}
use Rattle.oak_machine.specs.Commits.{is_in_base}
use Rattle.oak_machine.specs.Heads.{head_of, published}
use Rattle.oak_machine.specs.Laws.{Starts, Says}
use Rattle.oak_machine.specs.Runs.{IsRunOf, MayFollow, AreNodes, IsNode}

abbrev at : ℕ → ℕ → Revision
at t k = record { time = t; counter = 0; cluster = k }

abbrev nothing : Edit
nothing = record { writes = [] }

abbrev sessions : List ℕ
sessions = 1 ∷ 2 ∷ []

abbrev heard : Entries
heard = with_entry (start 2) (at 1 1)

abbrev past : Past
past =
    event.Draw (record { revision = at 2 2; session = 1; base = heard; edit = nothing; marks = [] })
    ∷ event.Login 1 heard
    ∷ event.In 2 heard
    ∷ event.Out 1 (at 1 1)
    ∷ event.End (at 1 1)
    ∷ event.Draw (record { revision = at 1 1; session = 0; base = start 2; edit = nothing; marks = [] })
    ∷ event.Login 0 (start 2)
    ∷ []

abbrev starts : Starts
starts h s edit marks = Unit {0}

abbrev says : Says
says h s i text = Unit {0}

are_nodes : AreNodes 2 sessions
are_nodes = record { eight = omega arith; some = omega arith; node = each }
  where
    each : (s k : ℕ) → slice_get sessions s ≡ Some k → IsNode 2 k
    each zero k h = let e = one 1 k h in (omega arith, omega arith)
      where
        one : (n k : ℕ) → Some n ≡ Some k → n ≡ k
        one n k h = ap (λ o. unwrap_or o n) h
    each (suc zero) k h = let e = one 2 k h in (omega arith, omega arith)
      where
        one : (n k : ℕ) → Some n ≡ Some k → n ≡ k
        one n k h = ap (λ o. unwrap_or o n) h
    each (suc (suc s)) k h = absurd (false≢true (ap is_some h))

it_is_seen : sees (head_of 2 None past 2) (at 1 1) ≡ true
it_is_seen = refl

is_run : IsRunOf starts says 2 sessions None past
is_run = (
  record { running = refl; login = refl; detached = refl; idle = refl; base = refl; cluster = refl; next = refl; lawful = tt },
  (
    record { running = refl; first = refl; head = (2, refl, refl) },
    (
      (refl, (0, refl)),
      (
        (refl, refl),
        (
          refl,
          (
            record { running = refl; login = refl; detached = refl; idle = refl; base = refl; cluster = refl; next = refl; lawful = tt },
            (record { running = refl; first = refl; head = (1, refl, refl) }, tt),
          ),
        ),
      ),
    ),
  ),
)

no_other_out : (h : History) → MayFollow starts says h (event.Out 1 (at 1 2)) → ⊥
no_other_out h may = let e = may.0 in omega arith

-- node 3 publishes, node 2 learns of it, draws after it, commits and publishes
abbrev saw : Entries
saw = with_entry (start 3) (at 1 3)

abbrev apart : Past
apart =
    event.Out 2 (at 2 2)
    ∷ event.End (at 2 2)
    ∷ event.Commit (at 2 2)
    ∷ event.Draw (record { revision = at 2 2; session = 1; base = saw; edit = nothing; marks = [] })
    ∷ event.Login 1 saw
    ∷ event.In 2 saw
    ∷ event.Out 3 (at 1 3)
    ∷ event.End (at 1 3)
    ∷ event.Draw (record { revision = at 1 3; session = 2; base = start 3; edit = nothing; marks = [] })
    ∷ event.Login 2 (start 3)
    ∷ []

apart_is_run : IsRunOf starts says 3 (1 ∷ 2 ∷ 3 ∷ []) None apart
apart_is_run = (
  (refl, refl),
  (
    refl,
    (
      record {
        open_ = record { running = refl; in_flight = refl; not_committed = refl; not_refused = refl };
        apart = λ o committed outside. absurd (false≢true committed);
      },
      (
        record { running = refl; login = refl; detached = refl; idle = refl; base = refl; cluster = refl; next = refl; lawful = tt },
        (
          record { running = refl; first = refl; head = (2, refl, refl) },
          (
            (refl, (0, refl)),
            (
              (refl, refl),
              (
                refl,
                (
                  record { running = refl; login = refl; detached = refl; idle = refl; base = refl; cluster = refl; next = refl; lawful = tt },
                  (record { running = refl; first = refl; head = (3, refl, refl) }, tt),
                ),
              ),
            ),
          ),
        ),
      ),
    ),
  ),
)

-- a vector with the entry of node 2 from the end and that of node 3 from the beginning isn't closed
abbrev torn : Entries
torn = with_entry (start 3) (published None apart 2)

torn_sees : (sees torn (at 2 2) ≡ true) × (is_in_base apart (at 2 2) (at 1 3) ≡ true) × (sees torn (at 1 3) ≡ false)
torn_sees = (refl, refl, refl)

-- a sweep vector with no entries may stand in a Bound
no_sweep : is_below no_entries (start 3) ≡ true
no_sweep = refl

-- ---- a run from a start

-- after a commit at time 7 of node 1 and one at time 3 of node 2
abbrev from : Start
from = record { tree = initial_tree; at = with_entry (with_entry (start 2) (at 7 1)) (at 3 2) }

from_is_start : IsStart 2 from
from_is_start = record {
  tree = record { paths = refl; names = refl; root = refl; parents = refl };
  vector = record { eight = refl; stands = refl };
  nodes = refl;
}

-- node 2 draws later than all that its head sees
abbrev from_past : Past
from_past =
    event.Draw (record { revision = at 8 2; session = 1; base = from.at; edit = nothing; marks = [] })
    ∷ event.Login 1 from.at
    ∷ []

from_is_run : IsRunOf starts says 2 sessions (Some from) from_past
from_is_run = (
  record { running = refl; login = refl; detached = refl; idle = refl; base = refl; cluster = refl; next = refl; lawful = tt },
  (record { running = refl; first = refl; head = (2, refl, refl) }, from_is_start),
)

-- what both nodes begin from is seen, the draw isn't
from_sees : (sees from.at (at 7 1) ≡ true) × (sees from.at (at 3 2) ≡ true) × (sees from.at (at 8 2) ≡ false)
from_sees = (refl, refl, refl)
