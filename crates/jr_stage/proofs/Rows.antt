-- A save that stands in mid-stream while another session reads; and two saves that meet each other.
use Rattle.std.proofs.Common.{false, None, Some, List, [], ◌∷◌, ◌++◌, refl}
use Rattle.std.specs.Prelude.{codes, reverse}
use Rattle.oak_machine.specs.declared.event.Event.TheVariants.{Login, Refresh, Commit, Refuse, End, Head, Said, Went}
use Rattle.oak_machine.specs.declared.event.StepKind.TheVariants as kind
use Rattle.oak_machine.specs.declared.event.Journal.{Journal}
use Rattle.oak_machine.specs.History.{history_of}
use Rattle.jcr_trans.specs.declared.command.Command.TheVariants as command
use Rattle.jr_script.specs.declared.script.Script.{Script}
use Rattle.jr_script.specs.declared.script.Entry.TheVariants as entry
use Rattle.jr_stage.specs.Parts.{Part, events_of}
use Rattle.jr_stage.specs.Schedules.{Scheduled}
use Rattle.jr_stage.proofs.Script.{a, b, p, set, get, at, vector, draw, add_both, marks_of_both, set_both, marks_of_set, part, closing}

-- one session saves twice, the second time in the midst of what another one reads
abbrev reading : Script
reading = record {
  clusters = 1;
  types = [];
  sessions =
      record { cluster = 1; commands = command.Add a None ∷ command.Add b None ∷ command.Save ∷ set a 1 ∷ set b 1 ∷ command.Save ∷ [] }
      ∷ record { cluster = 1; commands = command.Refresh false ∷ get ∷ command.Refresh false ∷ get ∷ [] }
      ∷ [];
  schedule = entry.Say 0 5 ∷ entry.Write 0 1 ∷ entry.Say 1 2 ∷ entry.Say 0 1 ∷ entry.Say 1 2 ∷ [];
}

-- the first five replies of session 0, in both rows
abbrev first_replies : Part
first_replies = part (entry.Say 0 5)
    (Login 0 (vector 0)
    ∷ Said 0 0 (codes "ok")
    ∷ Said 0 1 (codes "ok")
    ∷ draw 1 0 0 add_both marks_of_both
    ∷ Went 0 kind.Write
    ∷ Went 0 kind.Write
    ∷ Went 0 kind.Write
    ∷ Commit (at 1)
    ∷ End (at 1)
    ∷ Head 1 (vector 1)
    ∷ Refresh 0 (vector 1)
    ∷ Said 0 2 (codes "ok \"r1-0-1\"")
    ∷ Said 0 3 (codes "ok")
    ∷ Said 0 4 (codes "ok")
    ∷ [])

abbrev reading_parts : List Part
reading_parts = reverse
    (first_replies
    ∷ part (entry.Write 0 1) (draw 2 0 1 (set_both 1) marks_of_set ∷ Went 0 kind.Write ∷ [])
    ∷ part (entry.Say 1 2) (Login 1 (vector 1) ∷ Refresh 1 (vector 1) ∷ Said 1 0 (codes "ok \"r1-0-1\"") ∷ Said 1 1 (codes "no 1 [\"/a/p\"]") ∷ [])
    ∷ part (entry.Say 0 1)
    (Went 0 kind.Write ∷ Commit (at 2) ∷ End (at 2) ∷ Head 1 (vector 2) ∷ Refresh 0 (vector 2) ∷ Said 0 5 (codes "ok \"r2-0-1\"") ∷ [])
    ∷ part (entry.Say 1 2) (Refresh 1 (vector 2) ∷ Said 1 2 (codes "ok \"r2-0-1\"") ∷ Said 1 3 (codes "ok 1") ∷ [])
    ∷ [])

abbrev leaving : List Part
leaving = closing 1 (Went 1 kind.End ∷ []) ∷ closing 0 (Went 0 kind.End ∷ []) ∷ []

abbrev reading_journal : Journal
reading_journal = record { clusters = 1; sessions = 1 ∷ 1 ∷ []; events = record { list = reverse (events_of (leaving ++ reading_parts)); places = 0 }; start = None }

reading_scheduled : Scheduled reading (history_of reading_journal)
reading_scheduled = record {
  scheduled = reading_parts;
  replied = [];
  closed = leaving;
  whole = refl;
  cut = (refl, (refl, (refl, (refl, (refl, (refl, (refl, tt)))))));
  entries = refl;
  commits = refl;
  sessions = refl;
}

-- two sessions write /a/p and /b/p, and each meets the other
abbrev meeting : Script
meeting = record {
  clusters = 1;
  types = [];
  sessions =
      record { cluster = 1; commands = command.Add a None ∷ command.Add b None ∷ command.Save ∷ set a 1 ∷ set b 1 ∷ command.Save ∷ command.Refresh false ∷ get ∷ [] }
      ∷ record { cluster = 1; commands = set a 2 ∷ set b 2 ∷ command.Save ∷ [] }
      ∷ [];
  schedule = entry.Say 0 5 ∷ entry.Say 1 2 ∷ entry.Write 0 1 ∷ entry.Write 1 1 ∷ entry.Write 1 2 ∷ entry.Last 0 ∷ entry.Say 0 1 ∷ entry.Say 1 1 ∷ [];
}

abbrev meeting_parts : List Part
meeting_parts = reverse
    (first_replies
    ∷ part (entry.Say 1 2) (Login 1 (vector 1) ∷ Said 1 0 (codes "ok") ∷ Said 1 1 (codes "ok") ∷ [])
    ∷ part (entry.Write 0 1) (draw 2 0 1 (set_both 1) marks_of_set ∷ Went 0 kind.Write ∷ [])
    ∷ part (entry.Write 1 1) (draw 3 1 1 (set_both 2) marks_of_set ∷ Went 1 kind.Write ∷ [])
    ∷ part (entry.Write 1 2) (Went 1 kind.Mark ∷ Went 1 kind.Write ∷ [])
    ∷ part (entry.Last 0) (Went 0 kind.Write ∷ Went 0 kind.Mark ∷ [])
    ∷ part (entry.Say 0 1)
    (Refuse (at 2) (record { path = a; name = Some p }) (at 3)
    ∷ Went 0 kind.Undo
    ∷ Went 0 kind.Undo
    ∷ End (at 2)
    ∷ Head 1 (vector 2)
    ∷ Said 0 5 (codes "no 10 [\"/a/p\",\"r3-0-1\"]")
    ∷ [])
    ∷ part (entry.Say 1 1)
    (Refuse (at 3) (record { path = b; name = Some p }) (at 2)
    ∷ Went 1 kind.Undo
    ∷ Went 1 kind.Undo
    ∷ End (at 3)
    ∷ Head 1 (vector 3)
    ∷ Said 1 2 (codes "no 10 [\"/b/p\",\"r2-0-1\"]")
    ∷ [])
    ∷ [])

abbrev meeting_closed : List Part
meeting_closed =
    closing 1 (Went 1 kind.End ∷ [])
    ∷ closing 0 (Refresh 0 (vector 3) ∷ Said 0 6 (codes "ok \"r3-0-1\"") ∷ Said 0 7 (codes "no 1 [\"/a/p\"]") ∷ Went 0 kind.End ∷ [])
    ∷ []

abbrev meeting_journal : Journal
meeting_journal = record { clusters = 1; sessions = 1 ∷ 1 ∷ []; events = record { list = reverse (events_of (meeting_closed ++ meeting_parts)); places = 0 }; start = None }

meeting_scheduled : Scheduled meeting (history_of meeting_journal)
meeting_scheduled = record {
  scheduled = meeting_parts;
  replied = [];
  closed = meeting_closed;
  whole = refl;
  cut = (refl, (refl, (refl, (refl, (refl, (refl, (refl, (refl, (refl, (refl, tt))))))))));
  entries = refl;
  commits = refl;
  sessions = refl;
}
