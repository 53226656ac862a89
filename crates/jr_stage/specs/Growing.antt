-- What keeps a part one while more events come.
use Rattle.std.specs.Prelude.{◌≡◌, ℕ, Bool, true, false, not, ◌&&◌, ◌||◌, List, [], ◌∷◌, ◌++◌}
use Rattle.std.specs.Prelude.{reverse}
use Rattle.oak_machine.specs.declared.event.Event.{Event}
use Rattle.oak_machine.specs.History.{Past}
use Rattle.jr_script.specs.declared.script.Script.{Script}
use Rattle.jr_script.specs.declared.script.Entry.TheVariants as entry
use Rattle.jr_stage.specs.Places.{is_own, is_at_last, is_next, is_write_or_mark}
use Rattle.jr_stage.specs.Parts.{Rule, by_entry, Part, is_part_over, events_of}

-- only a part that waits for a last write looks at what comes later
abbrev pub looks_ahead : Rule → Bool
looks_ahead (by_entry (entry.Last s)) = true
looks_ahead _ = false

-- no part of these looks ahead
abbrev pub LookBack : List Part → Type 0
LookBack [] = Unit {0}
LookBack (p ∷ parts) = (looks_ahead p.rule ≡ false) × LookBack parts

-- each event of the part is of session s itself, or comes where the session is not at its last
-- write: so each place of the part knows the next event that counts there
abbrev pub knows_next : ℕ → Past → Past → Bool
knows_next s before [] = true
knows_next s before (e ∷ part) =
    (is_own (part ++ before) s e || not (is_at_last (part ++ before) s)) && knows_next s before part

-- no Write or Mark of session s is next, where that counts
abbrev pub is_step_quiet : Script → Rule → ℕ → Past → Past → List Event → Bool
is_step_quiet script rule s before part m =
    is_part_over script rule before part || not (is_next is_write_or_mark (part ++ before) s m)

-- what keeps a part one while events come: where it waits for a last write, it has come to its end
-- anyway, or no Write or Mark is next
abbrev pub StaysPart : Script → Rule → Past → Past → List Event → Type 0
StaysPart script (by_entry (entry.Last s)) before part m =
    (knows_next s before part ≡ true)
    × (is_step_quiet script (by_entry (entry.Last s)) s before part m ≡ true)
StaysPart script rule before part m = Unit {0}

-- each of the parts, newest first, stays one when these events come
abbrev pub StayParts : Script → List Part → List Event → Type 0
StayParts script [] m = Unit {0}
StayParts script (p ∷ parts) m =
    StaysPart script p.rule (events_of parts) p.events m
    × StayParts script parts (reverse p.events ++ m)
