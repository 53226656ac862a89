-- A run in which a node has two revisions in flight and the later one ends first.
use Rattle.std.proofs.Common.{◌≡◌, ℕ, true, false, List, [], ◌∷◌, refl}
use Rattle.std.specs.Prelude.{None, Some}
use Rattle.jr_rev.specs.declared.revision.Revision.{Revision}
use Rattle.jr_rev.specs.Vectors.{start, with_entry}
use Rattle.jr_tree.specs.declared.edit.Edit.{Edit}
use Rattle.oak_machine.specs.declared.event.Event.TheVariants as event
use Rattle.oak_machine.specs.declared.event.StepKind.TheVariants as kind
use Rattle.oak_machine.specs.History.{Past}
use Rattle.oak_machine.specs.Heads.{head_of, last_draw_time}
use Rattle.oak_machine.specs.Runs.{IsRunOf, any_start, any_said}
use Rattle.oak_machine.specs.Sessions.{cursor_at, session_base}
use Rattle.core_nodes.specs.Nodes.{drawn_above, draws_made, owner_base}

abbrev at : ℕ → ℕ → Revision
at t k = record { time = t; counter = 0; cluster = k }

abbrev nothing : Edit
nothing = record { writes = [] }

-- sessions 0 and 1 of node 1, and 2 of node 2
abbrev sessions : List ℕ
sessions = 1 ∷ 1 ∷ 2 ∷ []

-- both sessions of node 1 have drawn, and the later draw has ended
abbrev one_left : Past
one_left =
    event.End (at 2 1)
    ∷ event.Draw (record { revision = at 2 1; session = 1; base = start 2; edit = nothing; marks = [] })
    ∷ event.Draw (record { revision = at 1 1; session = 0; base = start 2; edit = nothing; marks = [] })
    ∷ event.Login 1 (start 2)
    ∷ event.Login 0 (start 2)
    ∷ []

-- then the earlier one ends, session 0 refreshes and session 1 leaves
abbrev none_left : Past
none_left = event.Went 1 kind.End ∷ event.Refresh 0 (with_entry (start 2) (at 2 1)) ∷ event.End (at 1 1) ∷ one_left

is_run : IsRunOf any_start any_said 2 sessions None none_left
is_run = (
  (refl, refl),
  (
    record { running = refl; login = refl; idle = refl; head = (1, refl, refl) },
    (
      refl,
      (
        refl,
        (
          record { running = refl; login = refl; detached = refl; idle = refl; base = refl; cluster = refl; next = refl; lawful = tt },
          (
            record { running = refl; login = refl; detached = refl; idle = refl; base = refl; cluster = refl; next = refl; lawful = tt },
            (record { running = refl; first = refl; head = (1, refl, refl) }, (record { running = refl; first = refl; head = (1, refl, refl) }, tt)),
          ),
        ),
      ),
    ),
  ),
)

-- the head stays below the one in flight, and both are kept above it
kept_both : (head_of 2 None one_left 1 ≡ start 2) × (drawn_above None one_left 1 ≡ record { revision = at 1 1; ended = false } ∷ record { revision = at 2 1; ended = true } ∷ []) × (last_draw_time one_left 1 ≡ 2) × (draws_made one_left ≡ 2)
kept_both = (refl, refl, refl, refl)

-- then it moves past both
kept_none : (head_of 2 None none_left 1 ≡ with_entry (start 2) (at 2 1)) × (drawn_above None none_left 1 ≡ []) × (head_of 2 None none_left 2 ≡ start 2)
kept_none = (refl, refl, refl)

pins_then : (session_base one_left 1 ≡ Some (start 2)) × (session_base none_left 0 ≡ Some (with_entry (start 2) (at 2 1))) × (session_base none_left 1 ≡ None)
pins_then = (refl, refl, refl)

-- session 1 observes, session 0 refreshes, and then session 1 leaves: its cursor, the owner 65, stays at its own base until then
abbrev observed : Past
observed = event.Refresh 0 (with_entry (start 2) (at 2 1)) ∷ event.Went 1 kind.Pin ∷ event.End (at 1 1) ∷ one_left

cursors_then : (cursor_at observed 1 ≡ Some (start 2)) × (owner_base sessions observed 1 65 ≡ Some (start 2)) × (owner_base sessions observed 1 64 ≡ None) × (cursor_at (event.Went 1 kind.End ∷ observed) 1 ≡ None)
cursors_then = (refl, refl, refl, refl)
