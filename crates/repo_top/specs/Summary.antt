-- The one line that counts what came of a run.
use Rattle.std.specs.Prelude.{ℕ, Bool, false, List, ◌++◌, codes, nat_eq, reverse}
use Rattle.std.specs.Fmt.{decimal}
use Rattle.std.specs.List.{count_by, starts_with}
use Rattle.jcr_law.specs.State.{is_ok_text}
use Rattle.jr_gen.specs.Sizes.{commands_in}
use Rattle.jr_path.specs.Lists.{Text}
use Rattle.jr_script.specs.declared.script.Script.{Script}
use Rattle.oak_machine.specs.declared.event.Event.{Event}
use Rattle.oak_machine.specs.declared.event.Event.TheVariants as event
use Rattle.oak_machine.specs.History.{History}
use Rattle.jr_work.specs.Places.{is_commit}
use Rattle.repo_top.specs.declared.summary.Counts.{Counts}

-- a reply says `no`
abbrev pub is_no_text : Text → Bool
is_no_text text = starts_with nat_eq text (codes "no")

-- an event is a reply that accepts
unfoldable pub is_ok_reply : Event → Bool
is_ok_reply (event.Said s i text) = is_ok_text text
is_ok_reply _ = false

-- an event is a reply that refuses
unfoldable pub is_no_reply : Event → Bool
is_no_reply (event.Said s i text) = is_no_text text
is_no_reply _ = false

-- how many of the events are of each kind
abbrev pub counts_of : List Event → Counts
counts_of events = record {
  accepted = count_by is_ok_reply events;
  refused = count_by is_no_reply events;
  commits = count_by is_commit events;
}

-- the line of these counts, of a script with so many sessions and commands
abbrev pub summary_line : ℕ → ℕ → Counts → List ℕ
summary_line sessions commands counts =
    codes "sessions " ++ decimal sessions
    ++ codes " commands " ++ decimal commands
    ++ codes " ok " ++ decimal counts.accepted
    ++ codes " refused " ++ decimal counts.refused
    ++ codes " commits " ++ decimal counts.commits
    ++ codes "\n"

-- the line of a script of so many sessions that was run, and of the history of its run
abbrev pub summary_text : ℕ → Script → History → List ℕ
summary_text sessions script h =
    summary_line sessions (commands_in script.sessions) (counts_of (reverse h.past))
