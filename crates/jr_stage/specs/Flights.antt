-- What is kept of the commit that a session has in flight, and what the history tells of it.
use Rattle.std.specs.Prelude.{◌≡◌, ℕ, ◌+◌, Bool, true, false, not, ◌&&◌, ◌∷◌, length, slice_get}
use Rattle.std.specs.Prelude.{Option, None, Some, option_map, IsFalse}
use Rattle.std.specs.List.{count_by, list_any}
use Rattle.oak_clash.specs.Clashes.{marked_paths}
use Rattle.oak_machine.specs.declared.event.Draw.{Draw}
use Rattle.oak_machine.specs.declared.event.Event.{Event}
use Rattle.oak_machine.specs.declared.event.Event.TheVariants as event
use Rattle.oak_machine.specs.declared.event.StepKind.TheVariants as kind
use Rattle.oak_machine.specs.History.{Past}
use Rattle.oak_machine.specs.Commits.{draw_of, is_committed, is_ended, is_refused}
use Rattle.oak_machine.specs.Sessions.{is_drawing}
use Rattle.jr_stage.specs.declared.flight.Flight.{Flight}
use Rattle.jr_stage.specs.Places.{draws_of, is_undo_of, is_write_of, since_draw}

-- a draw of s is neither committed nor refused, and nothing of it is undone
abbrev pub is_undecided : Past → ℕ → Draw → Bool
is_undecided past s d =
    not (is_committed past d.revision) && not (is_refused past d.revision)
    && not (list_any (is_undo_of s) (since_draw past s))

-- what is kept of the last draw of s, which alone of its draws is in flight
pub record IsFlightOf (past : Past) (s : ℕ) (f : Flight) : Type 0 where
  pub draw : Draw
  pub last : slice_get (draws_of past s) 0 ≡ Some draw
  pub known : draw_of past draw.revision ≡ Some draw
  pub theirs : draw.session ≡ s
  pub unended : IsFalse (is_ended past draw.revision)
  pub alone : IsFalse (is_drawing (event.End draw.revision ∷ past) s)
  pub revision : f.revision ≡ draw.revision
  pub documents : f.documents ≡ length (marked_paths draw.marks)
  pub written : f.written ≡ count_by (is_write_of s) (since_draw past s)
  pub undecided : f.undecided ≡ is_undecided past s draw

-- what is kept is what the history tells
abbrev pub IsFlight : Past → ℕ → Option Flight → Type 0
IsFlight past s None = IsFalse (is_drawing past s)
IsFlight past s (Some f) = IsFlightOf past s f

-- what is kept once a commit is decided, or undone; and once it has written a document more
abbrev pub decided : Flight → Flight
decided f = record f { undecided = false }

-- a flight with one document more that is written
abbrev pub written_more : Flight → Flight
written_more f = record f { written = f.written + 1 }

-- what is kept once this event of the session is the newest one
abbrev pub flight_with : Event → Option Flight → Option Flight
flight_with (event.Draw d) o = Some (record {
  revision = d.revision;
  documents = length (marked_paths d.marks);
  written = 0;
  undecided = true;
})
flight_with (event.Went s kind.Write) o = option_map written_more o
flight_with (event.Went s kind.Undo) o = option_map decided o
flight_with (event.Commit r) o = option_map decided o
flight_with (event.Refuse r item other) o = option_map decided o
flight_with (event.End r) o = None
flight_with (event.Head k v) o = None
flight_with _ o = o
