-- For which events a command asks, and of which kinds its steps are.
use Rattle.std.specs.Prelude.{◌≡◌, ◌∷◌, ◌++◌, ℕ, Bool, true, false, cond, List, [], None, Some, IsTrue, ⊤}
use Rattle.oak_machine.specs.declared.event.Event.{Event}
use Rattle.oak_machine.specs.declared.event.Event.TheVariants as event
use Rattle.oak_machine.specs.declared.event.StepKind.{StepKind}
use Rattle.oak_machine.specs.declared.event.StepKind.TheVariants as kind
use Rattle.oak_machine.specs.Asked.{is_of_commit}
use Rattle.oak_machine.specs.Laws.{Asks}
use Rattle.jcr_trans.specs.declared.command.Command.{Command}
use Rattle.jcr_trans.specs.declared.command.Command.TheVariants as command
use Rattle.jcr_law.specs.declared.law.JcrLaw.{JcrLaw}
use Rattle.jcr_law.specs.Built.{is_built}
use Rattle.jcr_law.specs.State.{command_at}

-- the command commits: what is pending, or an edit of locks or versions
abbrev pub commits : Command → Bool
commits command.Save = true
commits (command.Lock p deep) = true
commits (command.Unlock p) = true
commits (command.Checkin p) = true
commits (command.Checkout p) = true
commits (command.Label p version label take) = true
commits (command.Unlabel p label) = true
commits (command.Restore p version) = true
commits _ = false

-- ---- events

-- the command asks for such an event: a commit for those of a commit, a refresh for the move of the
-- base, and so on; the commands of the view, `head`, queries, `token` and `dropToken` for none
abbrev pub CommandAsks : Command → Event → Type 0
CommandAsks (command.Refresh keep) (event.Refresh s v) = ⊤
CommandAsks (command.Observe p deep mask) (event.Went s kind.Pin) = ⊤
CommandAsks command.Events (event.Went s kind.Pin) = ⊤
CommandAsks command.BackWrite (event.Went s kind.Back) = ⊤
CommandAsks command.BackWrite (event.Out k r) = ⊤
CommandAsks command.BackRead (event.Went s kind.Back) = ⊤
CommandAsks command.BackRead (event.In k v) = ⊤
CommandAsks (command.Split p) (event.Went s kind.Split) = ⊤
CommandAsks (command.Split p) (event.Split s path e) = path ≡ p
CommandAsks command.Sweep (event.Went s kind.Sweep) = ⊤
CommandAsks command.Sweep (event.Sweep k r) = ⊤
CommandAsks command.Sweep (event.Went s kind.Learn) = ⊤
CommandAsks command.Collect (event.Went s kind.Bound) = ⊤
CommandAsks command.Collect (event.Bound m t) = ⊤
CommandAsks command.Collect (event.Went s kind.Collect) = ⊤
CommandAsks command.Collect (event.Collected s c) = ⊤
CommandAsks command.Checkpoint (event.Checkpoint id v) = ⊤
CommandAsks (command.Attach i) (event.Attach s id) = id ≡ i
CommandAsks (command.Attach i) (event.Went s kind.Settings) = ⊤
CommandAsks (command.Release i) (event.Release id) = id ≡ i
CommandAsks (command.Release i) (event.Went s kind.Settings) = ⊤
CommandAsks command.Detach (event.Refresh s v) = ⊤
CommandAsks command.Detach (event.Detach s) = ⊤
CommandAsks (command.Stop (Some k)) (event.Stop m) = m ≡ k
CommandAsks (command.Stop (Some k)) (event.Went s kind.Stop) = ⊤
CommandAsks (command.Recover (Some k)) (event.Went s kind.Recover) = ⊤
CommandAsks (command.Recover (Some k)) (event.Went s kind.Undo) = ⊤
CommandAsks (command.Recover (Some k)) (event.End r) = r.cluster ≡ k
CommandAsks (command.Recover (Some k)) (event.Recover m) = m ≡ k
CommandAsks (command.Recover (Some k)) (event.Went s kind.Back) = ⊤
CommandAsks (command.Recover (Some k)) (event.Out m r) = m ≡ k
CommandAsks (command.Recover (Some k)) (event.Sweep m r) = m ≡ k
CommandAsks m e = IsTrue (cond (commits m) (is_of_commit e) false)

-- the command of that index of session s, which is built, asks for such an event; a session logs in
-- before its first command, and leaves behind its last one
abbrev pub IsAskedAt : JcrLaw → ℕ → ℕ → Event → Type 0
IsAskedAt law s i (event.Login t v) = i ≡ 0
IsAskedAt law s i (event.Went t kind.End) = command_at law s i ≡ None
IsAskedAt law s i e =
    (m : Command) × (command_at law s i ≡ Some m) × IsTrue (is_built m) × CommandAsks m e

-- the events that the law's commands ask for, as the machine takes them
abbrev pub asks_of : JcrLaw → Asks
asks_of law = λ s i e. IsAskedAt law s i e

-- ---- kinds of steps

-- the stages of a commit: each is made before the next, and steps of the kinds of one in any order
abbrev pub commit_stages : List (List StepKind)
commit_stages = (kind.Draw ∷ []) ∷ (kind.Write ∷ kind.Mark ∷ []) ∷ (kind.Last ∷ [])
    ∷ (kind.Undo ∷ []) ∷ (kind.Finish ∷ []) ∷ (kind.Pin ∷ []) ∷ []

-- the stages of a command's task before its reply
abbrev pub stages_of : Command → List (List StepKind)
stages_of (command.Refresh keep) = (kind.Pin ∷ []) ∷ []
stages_of (command.Observe p deep mask) = (kind.Pin ∷ []) ∷ []
stages_of command.Events = (kind.Pin ∷ []) ∷ []
stages_of command.BackWrite = (kind.Back ∷ []) ∷ []
stages_of command.BackRead = (kind.Back ∷ []) ∷ (kind.Learn ∷ []) ∷ []
stages_of (command.Split p) = (kind.Split ∷ []) ∷ []
stages_of command.Sweep = (kind.Sweep ∷ []) ∷ (kind.Learn ∷ []) ∷ []
stages_of command.Collect = (kind.Bound ∷ []) ∷ (kind.Collect ∷ []) ∷ []
stages_of command.Checkpoint = (kind.Settings ∷ []) ∷ []
stages_of (command.Attach i) = (kind.Settings ∷ []) ∷ []
stages_of (command.Release i) = (kind.Settings ∷ []) ∷ []
stages_of command.Detach = (kind.Pin ∷ []) ∷ (kind.Settings ∷ []) ∷ []
stages_of (command.Stop k) = (kind.Stop ∷ []) ∷ []
stages_of (command.Recover k) = (kind.Recover ∷ kind.Undo ∷ []) ∷ (kind.Back ∷ [])
    ∷ (kind.Recover ∷ []) ∷ []
stages_of m = cond (commits m) commit_stages []

-- the kinds of the steps that a command makes, in their order, its reply the last
abbrev pub steps_of : Command → List (List StepKind)
steps_of m = stages_of m ++ (kind.Say ∷ []) ∷ []
