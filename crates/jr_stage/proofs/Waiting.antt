-- Two commits at their last writes; the later one ends first and waits for the other. And cuts that are none.
use Rattle.std.proofs.Common.{◌≡◌, ℕ, true, false, None, List, [], ◌∷◌, ◌++◌, refl}
use Rattle.std.specs.Prelude.{codes, reverse}
use Rattle.jr_tree.specs.declared.edit.Write.TheVariants.{Here, Put}
use Rattle.oak_clash.specs.declared.mark.MarkAt.{MarkAt}
use Rattle.oak_clash.specs.declared.mark.Mark.TheVariants as mark
use Rattle.oak_machine.specs.declared.event.Event.{Event}
use Rattle.oak_machine.specs.declared.event.Event.TheVariants.{Login, Refresh, Commit, End, Head, Said, Went}
use Rattle.oak_machine.specs.declared.event.StepKind.TheVariants as kind
use Rattle.oak_machine.specs.declared.event.Journal.{Journal}
use Rattle.oak_machine.specs.History.{Past, history_of}
use Rattle.jcr_trans.specs.declared.command.Command.TheVariants as command
use Rattle.jr_script.specs.declared.script.Script.{Script}
use Rattle.jr_script.specs.declared.script.Entry.TheVariants as entry
use Rattle.jr_stage.specs.Parts.{by_entry, to_reply, Part, events_of, is_part}
use Rattle.jr_stage.specs.Schedules.{Scheduled}
use Rattle.jr_stage.proofs.Script.{a, at, vector, draw, type_name, node_type, part, closing}

abbrev x : List (List ℕ)
x = codes "a" ∷ codes "x" ∷ []

abbrev y : List (List ℕ)
y = codes "a" ∷ codes "y" ∷ []

-- a node is added below another
abbrev marks_of_child : List (List ℕ) → List (List ℕ) → List MarkAt
marks_of_child parent child =
    record { path = parent; mark = mark.Touch } ∷ record { path = child; mark = mark.Exists } ∷ record { path = child; mark = mark.Prop type_name } ∷ []

abbrev script : Script
script = record {
  clusters = 1;
  types = [];
  sessions =
      record { cluster = 1; commands = command.Add a None ∷ command.Save ∷ command.Add x None ∷ command.Save ∷ [] }
      ∷ record { cluster = 1; commands = command.Add y None ∷ command.Save ∷ command.List a ∷ [] }
      ∷ [];
  schedule = entry.Say 0 3 ∷ entry.Say 1 1 ∷ entry.Last 0 ∷ entry.Last 1 ∷ entry.Say 1 1 ∷ entry.Say 0 1 ∷ entry.Say 1 2 ∷ [];
}

abbrev start_of_both : List Part
start_of_both = reverse
    (part (entry.Say 0 3)
    (Login 0 (vector 0)
    ∷ Said 0 0 (codes "ok")
    ∷ draw 1 0 0 (Here a ∷ Put a type_name node_type ∷ []) (marks_of_child [] a)
    ∷ Went 0 kind.Write
    ∷ Went 0 kind.Write
    ∷ Commit (at 1)
    ∷ End (at 1)
    ∷ Head 1 (vector 1)
    ∷ Refresh 0 (vector 1)
    ∷ Said 0 1 (codes "ok \"r1-0-1\"")
    ∷ Said 0 2 (codes "ok")
    ∷ [])
    ∷ part (entry.Say 1 1) (Login 1 (vector 1) ∷ Said 1 0 (codes "ok") ∷ [])
    ∷ [])

abbrev writes_x : List Event
writes_x = draw 2 0 1 (Here x ∷ Put x type_name node_type ∷ []) (marks_of_child a x) ∷ Went 0 kind.Write ∷ Went 0 kind.Write ∷ []

abbrev writes_y : List Event
writes_y = draw 3 1 1 (Here y ∷ Put y type_name node_type ∷ []) (marks_of_child a y) ∷ Went 1 kind.Write ∷ Went 1 kind.Write ∷ []

abbrev ends_y : List Event
ends_y = Commit (at 3) ∷ End (at 3) ∷ []

abbrev ends_x : List Event
ends_x = Commit (at 2) ∷ End (at 2) ∷ Head 1 (vector 3) ∷ Refresh 0 (vector 3) ∷ Said 0 3 (codes "ok \"r2-0-1\"") ∷ []

abbrev replies_y : List Event
replies_y = Refresh 1 (vector 3) ∷ Said 1 1 (codes "ok \"r3-0-1\"") ∷ Said 1 2 (codes "ok [\"x\",\"y\"]") ∷ []

abbrev parts : List Part
parts =
    part (entry.Say 1 2) replies_y
    ∷ part (entry.Say 0 1) ends_x
    ∷ part (entry.Say 1 1) ends_y
    ∷ part (entry.Last 1) writes_y
    ∷ part (entry.Last 0) writes_x
    ∷ start_of_both

abbrev leaving : List Part
leaving = closing 1 (Went 1 kind.End ∷ []) ∷ closing 0 (Went 0 kind.End ∷ []) ∷ []

abbrev journal : Journal
journal = record { clusters = 1; sessions = 1 ∷ 1 ∷ []; events = record { list = reverse (events_of (leaving ++ parts)); places = 0 }; start = None }

scheduled : Scheduled script (history_of journal)
scheduled = record {
  scheduled = parts;
  replied = [];
  closed = leaving;
  whole = refl;
  cut = (refl, (refl, (refl, (refl, (refl, (refl, (refl, (refl, (refl, tt)))))))));
  entries = refl;
  commits = refl;
  sessions = refl;
}

-- the same script without the last three entries: both commits are in flight behind the schedule
abbrev short : Script
short = record script { schedule = entry.Say 0 3 ∷ entry.Say 1 1 ∷ entry.Last 0 ∷ entry.Last 1 ∷ [] }

abbrev short_parts : List Part
short_parts = part (entry.Last 1) writes_y ∷ part (entry.Last 0) writes_x ∷ start_of_both

abbrev reply_parts : List Part
reply_parts =
    record { rule = to_reply 1; events = reverse (Commit (at 3) ∷ End (at 3) ∷ Head 1 (vector 3) ∷ Refresh 1 (vector 3) ∷ Said 1 1 (codes "ok \"r3-0-1\"") ∷ []) }
    ∷ record { rule = to_reply 0; events = reverse (Commit (at 2) ∷ End (at 2) ∷ Head 1 (vector 2) ∷ Refresh 0 (vector 2) ∷ Said 0 3 (codes "ok \"r2-0-1\"") ∷ []) }
    ∷ []

abbrev short_closed : List Part
short_closed = closing 1 (Said 1 2 (codes "ok [\"x\",\"y\"]") ∷ Went 1 kind.End ∷ []) ∷ closing 0 (Went 0 kind.End ∷ []) ∷ []

abbrev short_journal : Journal
short_journal = record { clusters = 1; sessions = 1 ∷ 1 ∷ []; events = record { list = reverse (events_of (short_closed ++ reply_parts ++ short_parts)); places = 0 }; start = None }

short_scheduled : Scheduled short (history_of short_journal)
short_scheduled = record {
  scheduled = short_parts;
  replied = reply_parts;
  closed = short_closed;
  whole = refl;
  cut = (refl, (refl, (refl, (refl, (refl, (refl, (refl, (refl, tt))))))));
  entries = refl;
  commits = refl;
  sessions = refl;
}

-- what lies behind the first last writes
abbrev before : Past
before = events_of start_of_both

abbrev later : List Event
later = writes_y ++ ends_y ++ ends_x ++ replies_y

-- a part that stops short of its last document, and one that runs past its last write
stops_short : is_part script (by_entry (entry.Last 0)) before (reverse (draw 2 0 1 [] (marks_of_child a x) ∷ Went 0 kind.Write ∷ [])) (Went 0 kind.Write ∷ later) ≡ false
stops_short = refl

runs_past : is_part script (by_entry (entry.Last 0)) before (reverse (writes_x ++ ends_x)) replies_y ≡ false
runs_past = refl

-- one reply too many, a turn of two steps, a turn that is left out, and a step of another session
too_many : is_part script (by_entry (entry.Say 1 1)) before (reverse (Said 1 1 [] ∷ Said 1 2 [] ∷ [])) [] ≡ false
too_many = refl

two_steps : is_part script (by_entry (entry.Turn 0)) before (reverse (Went 0 kind.Write ∷ Went 0 kind.Write ∷ [])) [] ≡ false
two_steps = refl

left_out : is_part script (by_entry (entry.Turn 0)) before [] later ≡ false
left_out = refl

of_another : is_part script (by_entry (entry.Say 0 1)) before (reverse (Said 1 1 [] ∷ Said 0 3 [] ∷ [])) [] ≡ false
of_another = refl

-- a session that waits makes no step
abbrev waiting : Past
waiting = reverse (ends_y) ++ reverse (writes_x ++ writes_y) ++ before

nothing : is_part script (by_entry (entry.Turn 1)) waiting [] [] ≡ true
nothing = refl
