-- What a session finds before it answers its next command.
use Rattle.std.specs.Prelude.{◌≡◌, ◌≤◌, ℕ, Bool, false, List, length, slice_get}
use Rattle.std.specs.Prelude.{Option, None, Some, is_some, IsTrue, IsFalse, string_bytes, ⊤}
use Rattle.std.specs.Prelude.{Result}
use Rattle.std.specs.Option.{option_map_or}
use Rattle.std.specs.declared.alloc.AllocError.{AllocError}
use Rattle.std.specs.declared.alloc.Global.{Global}
use Rattle.std.specs.declared.string.String.{String}
use Rattle.jr_path.specs.declared.name.Name.{Name}
use Rattle.jr_path.specs.Lists.{Text}
use Rattle.jr_value.specs.declared.value.Value.{Value}
use Rattle.oak_machine.specs.Commits.{is_committed}
use Rattle.oak_machine.specs.History.{History}
use Rattle.oak_machine.specs.Laws.{after}
use Rattle.oak_machine.specs.Runs.{is_task_end}
use Rattle.oak_machine.specs.Sessions.{drawn_since, is_attached, is_drawing, next_index}
use Rattle.oak_port.specs.Ports.{Idle, Shown, Telling, Work, end_told}
use Rattle.jr_types.specs.Rules.{TypesOk}
use Rattle.jcr_trans.specs.declared.command.Command.{Command}
use Rattle.jcr_trans.specs.declared.command.Command.TheVariants as command
use Rattle.jcr_observe.specs.declared.event.Filter.{Filter}
use Rattle.jcr_view.specs.Outcomes.{is_viewed}
use Rattle.jcr_law.specs.declared.law.JcrLaw.{JcrLaw}
use Rattle.jcr_law.specs.Law.{IsUnmoved, IsUnpinned, SaysBy, no_support}
use Rattle.jcr_law.specs.Queries.{QueryAnswers}
use Rattle.jcr_law.specs.State.{Call, command_at, is_ok_text}
use Rattle.jcr_law.specs.Calls.{call_after}
use Rattle.jcr_call.specs.declared.coming.Coming.{Coming}
use Rattle.jcr_held.specs.Accepts.{AcceptsAs, IsFilterOf}
use Rattle.jcr_held.specs.Comes.{ComesTo}
use Rattle.jcr_held.specs.Holds.{Holds}
use Rattle.jcr_held.specs.Sees.{Sees}
use Rattle.jcr_held.specs.declared.held.Held.{Held}
use Rattle.jcr_run.specs.declared.limits.TheConstants.{MOST_COMMANDS}
use Rattle.jcr_run.specs.declared.run.SessionRun.{SessionRun}
use Rattle.jcr_run.specs.Standing.{HasCursor, IsCalled, IsIn}

-- nothing is left to be done for s but to tell how a split or a collection of its own ended
abbrev pub HasOnlyToTell : ℕ → Work → Type 0
HasOnlyToTell s Idle = ⊤
HasOnlyToTell s (Telling e) = IsTrue (is_task_end s e)
HasOnlyToTell s _ = ⊥

-- the session's history once it is told how a split or a collection ended, where that is left to
-- be told
abbrev pub history_told : Shown → History
history_told p = after (end_told p.work) p.history

-- the session is in, with nothing being done for it but what is told with its reply, and nothing of
-- it in flight; its next command is m, which is run with c
pub record IsAsked (law : JcrLaw) (p : Shown) (run : SessionRun) (m : Command) (c : Call)
    : Type 0 where
  pub inside : IsIn law p run.attached
  pub session : p.session ≡ run.session
  pub few : length run.commands ≤ MOST_COMMANDS
  pub commands : (i : ℕ) → command_at law run.session i ≡ slice_get run.commands i
  pub index : run.index ≡ next_index p.history.past run.session
  pub rests : HasOnlyToTell p.session p.work
  pub unread : run.fetch ≡ None
  pub still : IsFalse (is_drawing p.history.past p.session)
  pub next : slice_get run.commands run.index ≡ Some m
  pub call : IsCalled law p c

-- a revision was drawn for the next command
abbrev pub has_drawn : Shown → Bool
has_drawn p = is_some (drawn_since p.history.past p.session)

-- the text may be said now as the reply to the next command, behind what is told with it, which
-- began attached or not; what the session holds is what the command after it is run with then, it
-- is attached as it then is, and the cursor stands where the history has it
pub record MayAnswer (law : JcrLaw) (p : Shown) (run : SessionRun) (text : Text) : Type 0 where
  pub began : Bool
  pub command : Command
  pub call : Call
  pub asked : IsAsked law p (record run { attached = began }) command call
  pub says : SaysBy law (history_told p) p.session run.index text
  pub leaves : Holds (call_after (is_ok_text text) (has_drawn p) call command) run.held
  pub stands : is_attached p.history.past p.session ≡ run.attached
  pub cursor : HasCursor p.history.past p.session
      (call_after (is_ok_text text) (has_drawn p) call command)

-- want of memory may be answered now: neither the base nor the cursor has moved, and what the
-- session holds is what the next command is run with, for which a revision was drawn or none
pub record MayForgo (law : JcrLaw) (p : Shown) (run : SessionRun) (drew : Bool) : Type 0 where
  pub command : Command
  pub call : Call
  pub asked : IsAsked law p run command call
  pub unmoved : IsUnmoved p.history p.session
  pub unpinned : IsUnpinned p.history p.session
  pub drew_is : has_drawn p ≡ drew
  pub uncommitted : IsFalse (option_map_or (is_committed p.history.past)
      (drawn_since p.history.past p.session) false)
  pub holds : Holds call run.held

-- the text may be said now as the reply to the next command, behind what is told with it, which
-- the view doesn't answer, for which nothing was drawn and the base hasn't moved, before what the
-- session holds is brought up to that reply
pub record MaySettle (law : JcrLaw) (p : Shown) (run : SessionRun) (text : Text) : Type 0 where
  pub command : Command
  pub call : Call
  pub asked : IsAsked law p run command call
  pub says : SaysBy law (history_told p) p.session run.index text
  pub first : has_drawn p ≡ false
  pub unmoved : IsUnmoved p.history p.session
  pub cursor : HasCursor p.history.past p.session
      (call_after (is_ok_text text) false call command)
  pub unviewed : IsFalse (is_viewed command)
  pub accepts : IsTrue (is_ok_text text) → AcceptsAs run.held None call command
  pub holds : Holds call run.held

-- the view doesn't answer the next command
abbrev pub IsUnviewedNext : SessionRun → Type 0
IsUnviewedNext run =
    (m : Command) × (slice_get run.commands run.index ≡ Some m) × IsFalse (is_viewed m)

-- the next command observes, with this filter
abbrev pub ObservesNext : SessionRun → Filter → Type 0
ObservesNext run filter = (m : Command)
    × (slice_get run.commands run.index ≡ Some m) × IsFilterOf m filter

-- what is held was brought up to a reply to the next command, where that fits
pub record SettlesBy (fits : Call → Command → Type 0) (old new : SessionRun) (ok drew : Bool)
    : Type 0 where
  pub same : new ≡ record old { held = new.held }
  pub holds : (m : Command) (c : Call) → slice_get old.commands old.index ≡ Some m
      → Holds c old.held → fits c m → Holds (call_after ok drew c m) new.held

-- what is held was brought up to a reply to the next command, behind which the tokens are held that
-- are given, or those that were
abbrev pub Settles : (old new : SessionRun) → (ok drew : Bool)
    → (tokens : Option (List (List ℕ))) → Type 0
Settles old new ok drew tokens =
    SettlesBy (λ c m. IsTrue ok → AcceptsAs old.held tokens c m) old new ok drew

-- ---- replies before a commit

-- the reply to a command that isn't built, or that the session may not run
abbrev pub IsBarred : SessionRun → String Global → Type 0
IsBarred run text = (m : Command) → slice_get run.commands run.index ≡ Some m
    → string_bytes text ≡ no_support m

-- the reply to a query
abbrev pub IsQueriedAs : Held → Command → String Global → Type 0
IsQueriedAs held m text = (q : Text) (vars : List (Name × Value)) (c : Call) → Holds c held
    → m ≡ command.Query q vars → QueryAnswers c q vars (string_bytes text)

-- the reply to the session's next command, where that is a query
abbrev pub IsQueried : SessionRun → String Global → Type 0
IsQueried run text = (m : Command) → slice_get run.commands run.index ≡ Some m
    → IsQueriedAs run.held m text

-- the reply by the view, or that memory was refused for it
abbrev pub HasSeen : SessionRun → SessionRun → Result (String Global) AllocError → Type 0
HasSeen old new result = (m : Command) (c : Call) → slice_get old.commands old.index ≡ Some m
    → Holds c old.held → Sees c m new.held result

-- what the next command comes to before its commit, where the tree at its base meets its types
abbrev pub ComesNext : SessionRun → Coming → Type 0
ComesNext run coming = (m : Command) (c : Call) → slice_get run.commands run.index ≡ Some m
    → Holds c run.held → TypesOk c.types c.base → ComesTo c m coming
