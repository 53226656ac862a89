-- What is asked of a place in a journal: what lies behind it, newest first, and what comes after
-- it.
use Rattle.std.specs.Prelude.{ℕ, Bool, true, false, cond, not, ◌&&◌, ◌||◌, ◌==◌, nat_le, List, []}
use Rattle.std.specs.Prelude.{◌∷◌, length, map, slice_get, Option, None, Some}
use Rattle.std.specs.Option.{option_map_or}
use Rattle.std.specs.BTreeMap.{insert_entry}
use Rattle.std.specs.Map.{values_of}
use Rattle.std.specs.List.{count_by, filter, fold, list_any}
use Rattle.jr_rev.specs.declared.revision.Revision.{Revision}
use Rattle.jr_rev.specs.Revisions.{revision_cmp}
use Rattle.jr_rev.specs.Vectors.{sees}
use Rattle.oak_clash.specs.Clashes.{marked_paths}
use Rattle.oak_machine.specs.declared.event.Draw.{Draw}
use Rattle.oak_machine.specs.declared.event.StepKind.TheVariants as kind
use Rattle.oak_machine.specs.declared.event.Event.{Event}
use Rattle.oak_machine.specs.declared.event.Event.TheVariants as event
use Rattle.oak_machine.specs.History.{Past, History}
use Rattle.oak_machine.specs.Commits.{is_committed, is_refused, is_ended, is_in_flight}
use Rattle.oak_machine.specs.Heads.{head_of}
use Rattle.oak_machine.specs.Sessions.{is_drawing, has_left, next_index}
use Rattle.oak_machine.specs.Laws.{is_event_of, is_revision_of}
use Rattle.oak_machine.specs.Asked.{is_made_by}
use Rattle.jcr_trans.specs.declared.command.Command.{Command}
use Rattle.jr_script.specs.declared.script.Script.{Script}

-- the history of a script's run that has come so far
abbrev pub history_at : Script → Past → History
history_at script past = record {
  clusters = script.clusters;
  sessions = map (λ x. x.cluster) script.sessions;
  begin = None;
  past = past;
}

-- the commands of session s; none, where there is no such session
abbrev pub commands_of : Script → ℕ → List Command
commands_of script s = option_map_or (λ x. x.commands) (slice_get script.sessions s) []

-- the draws, the last one first
abbrev pub draws_in : Past → List Draw
draws_in [] = []
draws_in (event.Draw d ∷ past) = d ∷ draws_in past
draws_in (_ ∷ past) = draws_in past

-- the draws of s, the last one first
abbrev pub draws_of : Past → ℕ → List Draw
draws_of past s = filter (λ d. d.session == s) (draws_in past)

-- the sessions whose commits are in flight, in ascending order of their revisions
abbrev pub flying_sessions : Past → List ℕ
flying_sessions past =
    values_of
    (fold (λ es d. insert_entry revision_cmp es d.revision d.session) []
    (filter (λ d. is_in_flight past d.revision) (draws_in past)))

-- r is committed and has ended, and the head of its cluster node doesn't see it yet
abbrev pub is_unseen : Script → Past → Revision → Bool
is_unseen script past r =
    is_committed past r && is_ended past r
    && not (sees (head_of script.clusters None past r.cluster) r)

-- s waits for the head to see what it committed
abbrev pub is_waiting : Script → Past → ℕ → Bool
is_waiting script past s = list_any (λ d. is_unseen script past d.revision) (draws_of past s)

-- each command of s is said, and s has left
abbrev pub is_over : Script → Past → ℕ → Bool
is_over script past s = next_index past s == length (commands_of script s) && has_left past s

-- s makes no step now
abbrev pub is_resting : Script → Past → ℕ → Bool
is_resting script past s = is_waiting script past s || is_over script past s

-- the events after the last draw of s
abbrev pub since_draw : Past → ℕ → Past
since_draw [] s = []
since_draw (event.Draw d ∷ past) s = cond (d.session == s) [] (event.Draw d ∷ since_draw past s)
since_draw (e ∷ past) s = e ∷ since_draw past s

-- session s wrote a document
abbrev pub is_write_of : ℕ → Event → Bool
is_write_of s (event.Went t kind.Write) = t == s
is_write_of s _ = false

-- session s undid a document
abbrev pub is_undo_of : ℕ → Event → Bool
is_undo_of s (event.Went t kind.Undo) = t == s
is_undo_of s _ = false

-- the commit of s that is in flight has written n documents
abbrev pub has_written : ℕ → Past → ℕ → Bool
has_written n past s = is_drawing past s && nat_le n (count_by (is_write_of s) (since_draw past s))

-- a draw has written each marked document, and is neither decided nor undone
abbrev pub is_written_out : Past → ℕ → Draw → Bool
is_written_out past s d =
    has_written (length (marked_paths d.marks)) past s && not (is_committed past d.revision)
    && not (is_refused past d.revision)
    && not (list_any (is_undo_of s) (since_draw past s))

-- only the last write of the commit of s that is in flight may be left
abbrev pub is_at_last : Past → ℕ → Bool
is_at_last past s = option_map_or (is_written_out past s) (slice_get (draws_of past s) 0) false

-- an event of session s, its Ends among them
abbrev pub is_own : Past → ℕ → Event → Bool
is_own past s (event.End r) = is_revision_of past s r
is_own past s e = is_event_of past s e

-- the next event of s, of those that come
abbrev pub next_of : Past → ℕ → List Event → Option Event
next_of past s [] = None
next_of past s (e ∷ later) = cond (is_own past s e) (Some e) (next_of (e ∷ past) s later)

-- a commit by its last write
abbrev pub is_commit : Event → Bool
is_commit (event.Commit r) = true
is_commit _ = false

-- a document that is written, or a collision that is noted
abbrev pub is_write_or_mark : Event → Bool
is_write_or_mark (event.Went t kind.Write) = true
is_write_or_mark (event.Went t kind.Mark) = true
is_write_or_mark _ = false

-- the next event of s passes the test
abbrev pub is_next : (Event → Bool) → Past → ℕ → List Event → Bool
is_next test past s later = option_map_or test (next_of past s later) false

-- the event tells of no session: of a cluster node, of a collection's bound, or of a checkpoint
abbrev pub tells_of_none : Event → Bool
tells_of_none (event.Out k r) = true
tells_of_none (event.In k v) = true
tells_of_none (event.Sweep k r) = true
tells_of_none (event.Bound m t) = true
tells_of_none (event.Checkpoint id v) = true
tells_of_none (event.Release id) = true
tells_of_none _ = false

-- a step of session s may append the event
abbrev pub is_of_turn : Script → Past → ℕ → Event → Bool
is_of_turn script past s e = is_made_by (history_at script past) s e
