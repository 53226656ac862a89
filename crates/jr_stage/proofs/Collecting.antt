-- A removed node is collected, while another collection that has read it is behind. Single turns of session 1.
use Rattle.std.proofs.Common.{None, List, [], ◌∷◌, ◌++◌, refl}
use Rattle.std.specs.Prelude.{codes, reverse}
use Rattle.jr_path.specs.declared.path.DocId.TheVariants.{Node}
use Rattle.jr_tree.specs.declared.edit.Write.TheVariants.{Here, Gone, Put, Unset}
use Rattle.oak_clash.specs.declared.mark.MarkAt.{MarkAt}
use Rattle.oak_clash.specs.declared.mark.Mark.TheVariants as mark
use Rattle.oak_machine.specs.declared.event.Event.TheVariants.{Login, Refresh, Commit, End, Head, Out, Bound, Collected, Said, Went}
use Rattle.oak_machine.specs.declared.event.StepKind.TheVariants as kind
use Rattle.oak_machine.specs.declared.event.Journal.{Journal}
use Rattle.oak_machine.specs.History.{history_of}
use Rattle.jcr_trans.specs.declared.command.Command.TheVariants as command
use Rattle.jr_script.specs.declared.script.Script.{Script}
use Rattle.jr_script.specs.declared.script.Entry.TheVariants as entry
use Rattle.jr_stage.specs.Parts.{Part, events_of}
use Rattle.jr_stage.specs.Schedules.{Scheduled}
use Rattle.jr_stage.proofs.Script.{a, at, vector, draw, type_name, node_type, part, closing}

abbrev script : Script
script = record {
  clusters = 1;
  types = [];
  sessions =
      record { cluster = 1; commands = command.Add a None ∷ command.Save ∷ command.Remove a ∷ command.Save ∷ command.BackWrite ∷ command.Add a None ∷ command.Save ∷ [] }
      ∷ record { cluster = 1; commands = command.Collect ∷ [] }
      ∷ record { cluster = 1; commands = command.Collect ∷ [] }
      ∷ [];
  schedule =
      entry.Say 0 5
      ∷ entry.Turn 1
      ∷ entry.Turn 1
      ∷ entry.Turn 1
      ∷ entry.Turn 1
      ∷ entry.Turn 1
      ∷ entry.Turn 1
      ∷ entry.Turn 1
      ∷ entry.Say 2 1
      ∷ entry.Say 0 2
      ∷ entry.Say 1 1
      ∷ [];
}

abbrev marks : List MarkAt
marks = record { path = []; mark = mark.Touch } ∷ record { path = a; mark = mark.Exists } ∷ record { path = a; mark = mark.Prop type_name } ∷ []

abbrev parts : List Part
parts = reverse
    (part (entry.Say 0 5)
    (Login 0 (vector 0)
    ∷ Said 0 0 (codes "ok")
    ∷ draw 1 0 0 (Here a ∷ Put a type_name node_type ∷ []) marks
    ∷ Went 0 kind.Write
    ∷ Went 0 kind.Write
    ∷ Commit (at 1)
    ∷ End (at 1)
    ∷ Head 1 (vector 1)
    ∷ Refresh 0 (vector 1)
    ∷ Said 0 1 (codes "ok \"r1-0-1\"")
    ∷ Said 0 2 (codes "ok")
    ∷ draw 2 0 1 (Gone a ∷ Unset a type_name ∷ []) marks
    ∷ Went 0 kind.Write
    ∷ Went 0 kind.Write
    ∷ Commit (at 2)
    ∷ End (at 2)
    ∷ Head 1 (vector 2)
    ∷ Refresh 0 (vector 2)
    ∷ Said 0 3 (codes "ok \"r2-0-1\"")
    ∷ Went 0 kind.Back
    ∷ Went 0 kind.Back
    ∷ Out 1 (at 2)
    ∷ Said 0 4 (codes "ok \"r2-0-1\"")
    ∷ [])
    ∷ part (entry.Turn 1) (Login 1 (vector 2) ∷ [])
    ∷ part (entry.Turn 1) (Went 1 kind.Bound ∷ [])
    ∷ part (entry.Turn 1) (Went 1 kind.Bound ∷ [])
    ∷ part (entry.Turn 1) (Bound (vector 2) (vector 0) ∷ [])
    ∷ part (entry.Turn 1) (Went 1 kind.Collect ∷ [])
    ∷ part (entry.Turn 1) (Went 1 kind.Collect ∷ [])
    ∷ part (entry.Turn 1) (Went 1 kind.Collect ∷ [])
    ∷ part (entry.Say 2 1)
    (Login 2 (vector 2)
    ∷ Went 2 kind.Bound
    ∷ Went 2 kind.Bound
    ∷ Bound (vector 2) (vector 0)
    ∷ Went 2 kind.Collect
    ∷ Went 2 kind.Collect
    ∷ Went 2 kind.Collect
    ∷ Went 2 kind.Collect
    ∷ Went 2 kind.Collect
    ∷ Went 2 kind.Collect
    ∷ Collected 2 (record { entries = 0; documents = 1; skipped = [] })
    ∷ Said 2 0 (codes "ok {\"documents\":1,\"entries\":0,\"skipped\":[]}")
    ∷ [])
    ∷ part (entry.Say 0 2)
    (Said 0 5 (codes "ok")
    ∷ draw 3 0 2 (Here a ∷ Put a type_name node_type ∷ []) marks
    ∷ Went 0 kind.Write
    ∷ Went 0 kind.Write
    ∷ Commit (at 3)
    ∷ End (at 3)
    ∷ Head 1 (vector 3)
    ∷ Refresh 0 (vector 3)
    ∷ Said 0 6 (codes "ok \"r3-0-1\"")
    ∷ [])
    ∷ part (entry.Say 1 1)
    (Went 1 kind.Collect
    ∷ Went 1 kind.Collect
    ∷ Went 1 kind.Collect
    ∷ Went 1 kind.Collect
    ∷ Collected 1 (record { entries = 2; documents = 0; skipped = (Node a, 11, 15) ∷ [] })
    ∷ Said 1 0 (codes "ok {\"documents\":0,\"entries\":2,\"skipped\":[[\"1:/a\",11,15]]}")
    ∷ [])
    ∷ [])

abbrev leaving : List Part
leaving = closing 2 (Went 2 kind.End ∷ []) ∷ closing 1 (Went 1 kind.End ∷ []) ∷ closing 0 (Went 0 kind.End ∷ []) ∷ []

abbrev journal : Journal
journal = record { clusters = 1; sessions = 1 ∷ 1 ∷ 1 ∷ []; events = record { list = reverse (events_of (leaving ++ parts)); places = 0 }; start = None }

scheduled : Scheduled script (history_of journal)
scheduled = record {
  scheduled = parts;
  replied = [];
  closed = leaving;
  whole = refl;
  cut = (refl, (refl, (refl, (refl, (refl, (refl, (refl, (refl, (refl, (refl, (refl, (refl, (refl, (refl, tt))))))))))))));
  entries = refl;
  commits = refl;
  sessions = refl;
}
