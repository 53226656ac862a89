-- The parts into which a schedule cuts a journal, and the rule of each.
use Rattle.std.specs.Prelude.{ℕ, Bool, true, false, not, ◌&&◌, ◌||◌, nat_le, List, [], ◌∷◌, ◌++◌}
use Rattle.std.specs.Prelude.{reverse, IsTrue}
use Rattle.std.specs.List.{count_by, flat_map}
use Rattle.oak_machine.specs.declared.event.Event.{Event}
use Rattle.oak_machine.specs.History.{Past}
use Rattle.oak_machine.specs.Sessions.{is_drawing, is_reply_of}
use Rattle.oak_machine.specs.Steps.{is_one_step}
use Rattle.jr_script.specs.Schedules.{session_named}
use Rattle.jr_script.specs.declared.script.Script.{Script}
use Rattle.jr_script.specs.declared.script.Entry.{Entry}
use Rattle.jr_script.specs.declared.script.Entry.TheVariants as entry
use Rattle.jr_stage.specs.Places.{history_at, is_resting, is_over, is_at_last, has_written, is_next}
use Rattle.jr_stage.specs.Places.{is_commit, is_write_or_mark, is_of_turn}

-- what a part is for: an entry of the schedule, the reply of a commit in flight, or the end of a
-- session
pub data Rule : Type 0 where
  by_entry : Entry → Rule
  to_reply : ℕ → Rule
  to_end : ℕ → Rule

-- a part, its events newest first
pub record Part : Type 0 where
  pub rule : Rule
  pub events : Past

-- the session whose turns a part has
abbrev pub part_session : Rule → ℕ
part_session (by_entry e) = session_named e
part_session (to_reply s) = s
part_session (to_end s) = s

-- the part so far ends with a reply of s
abbrev pub has_just_said : ℕ → Past → Bool
has_just_said s [] = false
has_just_said s (e ∷ part) = is_reply_of s e

-- the part ends here, whatever comes: n replies are said, a draw is in flight, n documents are
-- written, something is said, or s rests
abbrev pub is_entry_done : Script → Entry → Past → Past → Bool
is_entry_done script (entry.Turn s) before part = false
is_entry_done script (entry.Say s n) before part =
    nat_le n (count_by (is_reply_of s) part) || is_resting script (part ++ before) s
is_entry_done script (entry.Draw s) before part =
    is_drawing (part ++ before) s || has_just_said s part || is_resting script (part ++ before) s
is_entry_done script (entry.Write s n) before part =
    has_written n (part ++ before) s || has_just_said s part || is_resting script (part ++ before) s
is_entry_done script (entry.Last s) before part =
    has_just_said s part || is_resting script (part ++ before) s
is_entry_done script (entry.Read s) before part = true

-- the part has come to its end by its rule, whatever comes
abbrev pub is_part_over : Script → Rule → Past → Past → Bool
is_part_over script (by_entry e) before part = is_entry_done script e before part
is_part_over script (to_reply s) before part = has_just_said s part
is_part_over script (to_end s) before part = is_over script (part ++ before) s

-- a part that waits for the last write is at it, and the next event of its session passes the test
abbrev pub is_last_and : (Event → Bool) → Rule → Past → List Event → Bool
is_last_and test (by_entry (entry.Last s)) now later = is_at_last now s && is_next test now s later
is_last_and test _ now later = false

-- the part may end here; at the last write only where no Write or Mark is next
abbrev pub may_end : Script → Rule → Past → Past → List Event → Bool
may_end script (by_entry (entry.Last s)) before part later =
    is_part_over script (by_entry (entry.Last s)) before part
    || (is_at_last (part ++ before) s && not (is_next is_write_or_mark (part ++ before) s later))
may_end script rule before part later = is_part_over script rule before part

-- the part can't go on from here; at the last write only where its commit is next
abbrev pub must_end : Script → Rule → Past → Past → List Event → Bool
must_end script rule before part later =
    is_part_over script rule before part || is_last_and is_commit rule (part ++ before) later

-- each event of the part is of its session's turns, and the part need not have ended before it
abbrev pub goes_on : Script → Rule → Past → Past → List Event → Bool
goes_on script rule before [] later = true
goes_on script rule before (e ∷ part) later =
    not (must_end script rule before part (e ∷ later))
    && is_of_turn script (part ++ before) (part_session rule) e
    && goes_on script rule before part (e ∷ later)

-- one counted step of s; none, where s makes no step
abbrev pub is_turn : Script → ℕ → Past → Past → Bool
is_turn script s before [] = is_resting script before s
is_turn script s before (e ∷ part) = is_one_step (history_at script before) s (reverse (e ∷ part))

-- the events are a part by its rule, between what lies before and what comes later
abbrev pub is_part : Script → Rule → Past → Past → List Event → Bool
is_part script (by_entry (entry.Turn s)) before part later =
    is_turn script s before part && goes_on script (by_entry (entry.Turn s)) before part later
is_part script rule before part later =
    may_end script rule before part later && goes_on script rule before part later

-- the events of some parts, both newest first
abbrev pub events_of : List Part → Past
events_of parts = flat_map (λ p. p.events) parts

-- each of the parts, newest first, is one by its rule; these events come later
abbrev pub IsCut : Script → List Part → List Event → Type 0
IsCut script [] later = Unit {0}
IsCut script (p ∷ parts) later =
    IsTrue (is_part script p.rule (events_of parts) p.events later)
    × IsCut script parts (reverse p.events ++ later)
