-- What is to be done for the next command of a session, case by case.
use Rattle.std.proofs.lemmas.Bool.Decides.{nat_tests}
use Rattle.std.proofs.Common.{◌≡◌, ℕ, zero, suc, ◌<◌, length, get_or, arith, Bool, true, false, cond, not, ◌&&◌, Some, None, Option, List, [], ◌∷◌, is_some, nat_eq, nat_lt, refl, sym, ap, ◌∙◌, subst}
use Rattle.std.specs.Prelude.{IfSome, slice_get}
use Rattle.std.specs.Option.{option_map_or}
use mathlib.Core.Bool.{false≢true}
use Rattle.jr_path.specs.declared.name.Name.{Name}
use Rattle.jr_path.specs.declared.path.Path.{Path}
use Rattle.jr_path.specs.Lists.{Text}
use Rattle.jr_value.specs.declared.value.Value.{Value}
use Rattle.jcr_trans.specs.declared.command.Command.{Command}
use Rattle.jcr_trans.specs.declared.command.Command.TheVariants as command
use Rattle.jcr_run.specs.declared.run.Fetch.{Fetch}
use Rattle.jcr_view.specs.Outcomes.{is_viewed}
use Rattle.jcr_law.specs.State.{Call}
use Rattle.jcr_law.specs.Built.{is_built, is_forbidden}
use Rattle.jcr_law.specs.Makes.{commits}
use Rattle.jcr_run.specs.declared.next.Due.{Due}
use Rattle.jcr_run.specs.declared.next.Due.TheVariants as due
use Rattle.jcr_run.specs.declared.run.Phase.{Phase}
use Rattle.jcr_run.specs.declared.run.Phase.TheVariants as phase
use Rattle.jcr_run.specs.declared.run.SessionRun.{SessionRun}
use Rattle.jcr_run.specs.Standing.{IsWantedBy, IsWantedNext, due_by, due_for, command_due, due_to, has_begun, base_has_moved, is_allowed, is_between}
use Rattle.jcr_run.specs.Standing.{is_errand, is_saving, may_read, reads_for}

abbrev pub due_number : Due → ℕ
due_number due.Leave = 0
due_number due.Bar = 1
due_number due.ShowBase = 2
due_number due.Refresh = 3
due_number due.Query = 4
due_number due.Commit = 5
due_number due.See = 6
due_number due.Errand = 7
due_number due.Attach = 8
due_number due.Detach = 9
due_number due.Observe = 10
due_number due.Events = 11
due_number due.Split = 12
due_number due.Collect = 13

-- of different things to be done
pub apart : {A : Type 0} (x y : Due) → nat_eq (due_number x) (due_number y) ≡ false → x ≡ y → A
apart x y other same = absurd (false≢true (sym other ∙ (ap (λ (d : Due). nat_eq (due_number d) (due_number y)) same ∙ itself (due_number y))))
  where
    itself : (n : ℕ) → nat_eq n n ≡ true
    itself n = grind (Rattle.std.proofs.Common.arith, Rattle.std.proofs.lemmas.Bool.Decides.nat_tests)

-- a command that the session may run isn't barred
not_barred : (m : Command) → nat_eq (due_number (due_by m)) 1 ≡ false
not_barred command.Head = refl
not_barred (command.Refresh keep) = refl
not_barred (command.Query text vars) = refl
not_barred command.Save = refl
not_barred (command.Lock p deep) = refl
not_barred (command.Unlock p) = refl
not_barred (command.Checkin p) = refl
not_barred (command.Checkout p) = refl
not_barred (command.Label p version label take) = refl
not_barred (command.Unlabel p label) = refl
not_barred (command.Restore p version) = refl
not_barred command.BackWrite = refl
not_barred command.BackRead = refl
not_barred command.Sweep = refl
not_barred command.Checkpoint = refl
not_barred (command.Release id) = refl
not_barred (command.Attach id) = refl
not_barred command.Detach = refl
not_barred (command.Observe p deep mask) = refl
not_barred command.Events = refl
not_barred (command.Split p) = refl
not_barred command.Collect = refl
not_barred m = refl

-- nor is it a leave
not_left : (m : Command) → nat_eq (due_number (due_by m)) 0 ≡ false
not_left command.Head = refl
not_left (command.Refresh keep) = refl
not_left (command.Query text vars) = refl
not_left command.Save = refl
not_left (command.Lock p deep) = refl
not_left (command.Unlock p) = refl
not_left (command.Checkin p) = refl
not_left (command.Checkout p) = refl
not_left (command.Label p version label take) = refl
not_left (command.Unlabel p label) = refl
not_left (command.Restore p version) = refl
not_left command.BackWrite = refl
not_left command.BackRead = refl
not_left command.Sweep = refl
not_left command.Checkpoint = refl
not_left (command.Release id) = refl
not_left (command.Attach id) = refl
not_left command.Detach = refl
not_left (command.Observe p deep mask) = refl
not_left command.Events = refl
not_left (command.Split p) = refl
not_left command.Collect = refl
not_left m = refl

-- what is due for a command that the session may run
pub allowed_due : (attached : Bool) (m : Command) (d : Due) → due_to attached m ≡ d → nat_eq (due_number d) 1 ≡ false → (is_allowed attached m ≡ true) × (due_by m ≡ d)
allowed_due attached m d is other = by (is_allowed attached m) refl is
  where
    by : (b : Bool) → is_allowed attached m ≡ b → cond b (due_by m) due.Bar ≡ d → (is_allowed attached m ≡ true) × (due_by m ≡ d)
    by true e h = (e, h)
    by false e h = absurd (false≢true (sym other ∙ ap (λ (x : Due). nat_eq (due_number x) 1) (sym h)))

-- a command that is barred
pub barred_due : (attached : Bool) (m : Command) → due_to attached m ≡ due.Bar → is_allowed attached m ≡ false
barred_due attached m is = by (is_allowed attached m) refl is
  where
    by : (b : Bool) → is_allowed attached m ≡ b → cond b (due_by m) due.Bar ≡ due.Bar → is_allowed attached m ≡ false
    by true e h = absurd (false≢true (sym (not_barred m) ∙ ap (λ (x : Due). nat_eq (due_number x) 1) h))
    by false e h = e

-- `head` shows the base
pub only_head : (m : Command) → due_by m ≡ due.ShowBase → m ≡ command.Head
only_head command.Head h = refl
only_head (command.Refresh keep) h = apart due.Refresh due.ShowBase refl h
only_head (command.Query text vars) h = apart due.Query due.ShowBase refl h
only_head command.Save h = apart due.Commit due.ShowBase refl h
only_head (command.Lock p deep) h = apart due.Commit due.ShowBase refl h
only_head (command.Unlock p) h = apart due.Commit due.ShowBase refl h
only_head (command.Checkin p) h = apart due.Commit due.ShowBase refl h
only_head (command.Checkout p) h = apart due.Commit due.ShowBase refl h
only_head (command.Label p version label take) h = apart due.Commit due.ShowBase refl h
only_head (command.Unlabel p label) h = apart due.Commit due.ShowBase refl h
only_head (command.Restore p version) h = apart due.Commit due.ShowBase refl h
only_head command.BackWrite h = apart due.Errand due.ShowBase refl h
only_head command.BackRead h = apart due.Errand due.ShowBase refl h
only_head command.Sweep h = apart due.Errand due.ShowBase refl h
only_head command.Checkpoint h = apart due.Errand due.ShowBase refl h
only_head (command.Release id) h = apart due.Errand due.ShowBase refl h
only_head (command.Attach id) h = apart due.Attach due.ShowBase refl h
only_head command.Detach h = apart due.Detach due.ShowBase refl h
only_head (command.Observe p deep mask) h = apart due.Observe due.ShowBase refl h
only_head command.Events h = apart due.Events due.ShowBase refl h
only_head (command.Split p) h = apart due.Split due.ShowBase refl h
only_head command.Collect h = apart due.Collect due.ShowBase refl h
only_head m h = apart due.See due.ShowBase refl h

pub only_refresh : (m : Command) → due_by m ≡ due.Refresh → (keep : Bool) × (m ≡ command.Refresh keep)
only_refresh command.Head h = apart due.ShowBase due.Refresh refl h
only_refresh (command.Refresh keep) h = (keep, refl)
only_refresh (command.Query text vars) h = apart due.Query due.Refresh refl h
only_refresh command.Save h = apart due.Commit due.Refresh refl h
only_refresh (command.Lock p deep) h = apart due.Commit due.Refresh refl h
only_refresh (command.Unlock p) h = apart due.Commit due.Refresh refl h
only_refresh (command.Checkin p) h = apart due.Commit due.Refresh refl h
only_refresh (command.Checkout p) h = apart due.Commit due.Refresh refl h
only_refresh (command.Label p version label take) h = apart due.Commit due.Refresh refl h
only_refresh (command.Unlabel p label) h = apart due.Commit due.Refresh refl h
only_refresh (command.Restore p version) h = apart due.Commit due.Refresh refl h
only_refresh command.BackWrite h = apart due.Errand due.Refresh refl h
only_refresh command.BackRead h = apart due.Errand due.Refresh refl h
only_refresh command.Sweep h = apart due.Errand due.Refresh refl h
only_refresh command.Checkpoint h = apart due.Errand due.Refresh refl h
only_refresh (command.Release id) h = apart due.Errand due.Refresh refl h
only_refresh (command.Attach id) h = apart due.Attach due.Refresh refl h
only_refresh command.Detach h = apart due.Detach due.Refresh refl h
only_refresh (command.Observe p deep mask) h = apart due.Observe due.Refresh refl h
only_refresh command.Events h = apart due.Events due.Refresh refl h
only_refresh (command.Split p) h = apart due.Split due.Refresh refl h
only_refresh command.Collect h = apart due.Collect due.Refresh refl h
only_refresh m h = apart due.See due.Refresh refl h

pub only_query : (m : Command) → due_by m ≡ due.Query → (text : Text) × (vars : List (Name × Value)) × (m ≡ command.Query text vars)
only_query command.Head h = apart due.ShowBase due.Query refl h
only_query (command.Refresh keep) h = apart due.Refresh due.Query refl h
only_query (command.Query text vars) h = (text, vars, refl)
only_query command.Save h = apart due.Commit due.Query refl h
only_query (command.Lock p deep) h = apart due.Commit due.Query refl h
only_query (command.Unlock p) h = apart due.Commit due.Query refl h
only_query (command.Checkin p) h = apart due.Commit due.Query refl h
only_query (command.Checkout p) h = apart due.Commit due.Query refl h
only_query (command.Label p version label take) h = apart due.Commit due.Query refl h
only_query (command.Unlabel p label) h = apart due.Commit due.Query refl h
only_query (command.Restore p version) h = apart due.Commit due.Query refl h
only_query command.BackWrite h = apart due.Errand due.Query refl h
only_query command.BackRead h = apart due.Errand due.Query refl h
only_query command.Sweep h = apart due.Errand due.Query refl h
only_query command.Checkpoint h = apart due.Errand due.Query refl h
only_query (command.Release id) h = apart due.Errand due.Query refl h
only_query (command.Attach id) h = apart due.Attach due.Query refl h
only_query command.Detach h = apart due.Detach due.Query refl h
only_query (command.Observe p deep mask) h = apart due.Observe due.Query refl h
only_query command.Events h = apart due.Events due.Query refl h
only_query (command.Split p) h = apart due.Split due.Query refl h
only_query command.Collect h = apart due.Collect due.Query refl h
only_query m h = apart due.See due.Query refl h

-- a command for which a commit is due commits
pub commits_due : (m : Command) → due_by m ≡ due.Commit → commits m ≡ true
commits_due command.Head h = apart due.ShowBase due.Commit refl h
commits_due (command.Refresh keep) h = apart due.Refresh due.Commit refl h
commits_due (command.Query text vars) h = apart due.Query due.Commit refl h
commits_due command.Save h = refl
commits_due (command.Lock p deep) h = refl
commits_due (command.Unlock p) h = refl
commits_due (command.Checkin p) h = refl
commits_due (command.Checkout p) h = refl
commits_due (command.Label p version label take) h = refl
commits_due (command.Unlabel p label) h = refl
commits_due (command.Restore p version) h = refl
commits_due command.BackWrite h = apart due.Errand due.Commit refl h
commits_due command.BackRead h = apart due.Errand due.Commit refl h
commits_due command.Sweep h = apart due.Errand due.Commit refl h
commits_due command.Checkpoint h = apart due.Errand due.Commit refl h
commits_due (command.Release id) h = apart due.Errand due.Commit refl h
commits_due (command.Attach id) h = apart due.Attach due.Commit refl h
commits_due command.Detach h = apart due.Detach due.Commit refl h
commits_due (command.Observe p deep mask) h = apart due.Observe due.Commit refl h
commits_due command.Events h = apart due.Events due.Commit refl h
commits_due (command.Split p) h = apart due.Split due.Commit refl h
commits_due command.Collect h = apart due.Collect due.Commit refl h
commits_due m h = apart due.See due.Commit refl h

-- the view answers the others that the session may run
pub seen_viewed : (attached : Bool) (m : Command) → is_allowed attached m ≡ true → due_by m ≡ due.See → is_viewed m ≡ true
seen_viewed b command.Head a h = apart due.ShowBase due.See refl h
seen_viewed b (command.Refresh keep) a h = apart due.Refresh due.See refl h
seen_viewed b (command.Query text vars) a h = apart due.Query due.See refl h
seen_viewed b command.Save a h = apart due.Commit due.See refl h
seen_viewed b (command.Lock p deep) a h = apart due.Commit due.See refl h
seen_viewed b (command.Unlock p) a h = apart due.Commit due.See refl h
seen_viewed b (command.Checkin p) a h = apart due.Commit due.See refl h
seen_viewed b (command.Checkout p) a h = apart due.Commit due.See refl h
seen_viewed b (command.Label p version label take) a h = apart due.Commit due.See refl h
seen_viewed b (command.Unlabel p label) a h = apart due.Commit due.See refl h
seen_viewed b (command.Restore p version) a h = apart due.Commit due.See refl h
seen_viewed b command.BackWrite a h = apart due.Errand due.See refl h
seen_viewed b command.BackRead a h = apart due.Errand due.See refl h
seen_viewed b command.Sweep a h = apart due.Errand due.See refl h
seen_viewed b (command.Split p) a h = apart due.Split due.See refl h
seen_viewed b command.Collect a h = apart due.Collect due.See refl h
seen_viewed b command.Checkpoint a h = apart due.Errand due.See refl h
seen_viewed b (command.Attach id) a h = apart due.Attach due.See refl h
seen_viewed b (command.Release id) a h = apart due.Errand due.See refl h
seen_viewed b command.Detach a h = apart due.Detach due.See refl h
seen_viewed b (command.Observe p deep mask) a h = apart due.Observe due.See refl h
seen_viewed b command.Events a h = apart due.Events due.See refl h
seen_viewed b (command.Stop k) a h = absurd (false≢true a)
seen_viewed b (command.Recover k) a h = absurd (false≢true a)
seen_viewed b m a h = refl

-- the commands of the cluster node, of the settings and of the cursor that the session may run
pub data IsErrand : Command → Type 0 where
  errand_write : IsErrand command.BackWrite
  errand_read : IsErrand command.BackRead
  errand_sweep : IsErrand command.Sweep
  errand_checkpoint : IsErrand command.Checkpoint
  errand_release : (id : Text) → IsErrand (command.Release id)
  errand_observe : (p : Path) (deep : Bool) (mask : ℕ) → IsErrand (command.Observe p deep mask)
  errand_events : IsErrand command.Events

pub only_errand : (m : Command) → is_errand (due_by m) ≡ true → IsErrand m
only_errand command.BackWrite h = errand_write
only_errand command.BackRead h = errand_read
only_errand command.Sweep h = errand_sweep
only_errand command.Checkpoint h = errand_checkpoint
only_errand (command.Release id) h = errand_release id
only_errand (command.Observe p deep mask) h = errand_observe p deep mask
only_errand command.Events h = errand_events
only_errand command.Head h = absurd (false≢true h)
only_errand (command.Refresh keep) h = absurd (false≢true h)
only_errand (command.Query text vars) h = absurd (false≢true h)
only_errand command.Save h = absurd (false≢true h)
only_errand (command.Lock p deep) h = absurd (false≢true h)
only_errand (command.Unlock p) h = absurd (false≢true h)
only_errand (command.Checkin p) h = absurd (false≢true h)
only_errand (command.Checkout p) h = absurd (false≢true h)
only_errand (command.Label p version label take) h = absurd (false≢true h)
only_errand (command.Unlabel p label) h = absurd (false≢true h)
only_errand (command.Restore p version) h = absurd (false≢true h)
only_errand (command.Attach id) h = absurd (false≢true h)
only_errand command.Detach h = absurd (false≢true h)
only_errand (command.Split p) h = absurd (false≢true h)
only_errand command.Collect h = absurd (false≢true h)
only_errand m h = absurd (false≢true h)

-- the view answers none of them
pub errand_viewed : (m : Command) → IsErrand m → is_viewed m ≡ false
errand_viewed _ errand_write = refl
errand_viewed _ errand_read = refl
errand_viewed _ errand_sweep = refl
errand_viewed _ errand_checkpoint = refl
errand_viewed _ (errand_release id) = refl
errand_viewed _ (errand_observe p deep mask) = refl
errand_viewed _ errand_events = refl

-- and no other
pub unviewed_due : (attached : Bool) (m : Command) → nat_eq (due_number (due_to attached m)) 6 ≡ false → is_viewed m ≡ false
unviewed_due b (command.Add p type) h = absurd (false≢true (sym h))
unviewed_due b (command.Tree p nodes) h = absurd (false≢true (sym h))
unviewed_due b (command.Set p n x) h = absurd (false≢true (sym h))
unviewed_due b (command.Unset p n) h = absurd (false≢true (sym h))
unviewed_due b (command.Remove p) h = absurd (false≢true (sym h))
unviewed_due b (command.Move p q) h = absurd (false≢true (sym h))
unviewed_due b (command.Mixin p n) h = absurd (false≢true (sym h))
unviewed_due b (command.Unmixin p n) h = absurd (false≢true (sym h))
unviewed_due b (command.SetType p n) h = absurd (false≢true (sym h))
unviewed_due b (command.OrderBefore p before) h = absurd (false≢true (sym h))
unviewed_due b (command.Get p) h = absurd (false≢true (sym h))
unviewed_due b (command.List p) h = absurd (false≢true (sym h))
unviewed_due b (command.Props p) h = absurd (false≢true (sym h))
unviewed_due b (command.Id p) h = absurd (false≢true (sym h))
unviewed_due b (command.ById id) h = absurd (false≢true (sym h))
unviewed_due b (command.Refs p) h = absurd (false≢true (sym h))
unviewed_due b (command.Versions p) h = absurd (false≢true (sym h))
unviewed_due b (command.Token token) h = absurd (false≢true (sym h))
unviewed_due b (command.DropToken token) h = absurd (false≢true (sym h))
unviewed_due b m h = refl

-- a command is no leave
pub left_due : {A : Type 0} (attached : Bool) (m : Command) → due_to attached m ≡ due.Leave → A
left_due {A = A} attached m is = by (is_allowed attached m) is
  where
    by : (b : Bool) → cond b (due_by m) due.Bar ≡ due.Leave → A
    by true h = absurd (false≢true (sym (not_left m) ∙ ap (λ (x : Due). nat_eq (due_number x) 0) h))
    by false h = apart due.Bar due.Leave refl h

-- ---- the next command

pub next_due : (run : SessionRun) (d : Due) → due_for run ≡ d → nat_eq (due_number due.Leave) (due_number d) ≡ false → (m : Command) × (slice_get run.commands run.index ≡ Some m) × (due_to run.attached m ≡ d)
next_due run d is other = by (slice_get run.commands run.index) refl is
  where
    by : (o : Option Command) → slice_get run.commands run.index ≡ o → option_map_or (λ m. due_to run.attached m) o due.Leave ≡ d → (m : Command) × (slice_get run.commands run.index ≡ Some m) × (due_to run.attached m ≡ d)
    by None e h = apart due.Leave d other h
    by (Some m) e h = (m, e, h)

-- what is due is for that command
pub due_at : (run : SessionRun) (m : Command) → slice_get run.commands run.index ≡ Some m → due_for run ≡ due_to run.attached m
due_at run m is = ap (λ (o : Option Command). option_map_or (λ m. due_to run.attached m) o due.Leave) is

between_is : (f : Phase) (b : Bool) → (is_between f && b) ≡ true → (f ≡ phase.Between) × (b ≡ true)
between_is phase.Between b h = (refl, h)
between_is phase.Outside b h = absurd (false≢true h)
between_is (phase.Moved v) b h = absurd (false≢true h)
between_is (phase.Committing a) b h = absurd (false≢true h)
between_is (phase.Committed e a) b h = absurd (false≢true h)
between_is (phase.Working e) b h = absurd (false≢true h)
between_is (phase.Told t) b h = absurd (false≢true h)
between_is phase.Detaching b h = absurd (false≢true h)
between_is phase.Tidying b h = absurd (false≢true h)
between_is (phase.Tidied t) b h = absurd (false≢true h)
between_is phase.Over b h = absurd (false≢true h)

-- before a command that reads
pub reads_between : (run : SessionRun) → may_read run ≡ true → run.phase ≡ phase.Between
reads_between run reads = (between_is run.phase (reads_for (due_for run)) reads).0

pub reads_due : (run : SessionRun) → may_read run ≡ true → reads_for (due_for run) ≡ true
reads_due run reads = (between_is run.phase (reads_for (due_for run)) reads).1

pub reads_by : (run : SessionRun) → run.phase ≡ phase.Between → may_read run ≡ reads_for (due_for run)
reads_by run between = ap (λ (f : Phase). is_between f && reads_for (due_for run)) between

-- there is one
pub reads_next : (run : SessionRun) → may_read run ≡ true → (m : Command) × (slice_get run.commands run.index ≡ Some m)
reads_next run reads = by (slice_get run.commands run.index) refl (reads_due run reads)
  where
    by : (o : Option Command) → slice_get run.commands run.index ≡ o → reads_for (option_map_or (λ m. due_to run.attached m) o due.Leave) ≡ true → (m : Command) × (slice_get run.commands run.index ≡ Some m)
    by None e h = absurd (false≢true h)
    by (Some m) e h = (m, e)

-- the same run, as it says that it stands
pub same_reads : (a b : SessionRun) → b.phase ≡ a.phase → b.commands ≡ a.commands → b.index ≡ a.index → b.attached ≡ a.attached → may_read b ≡ may_read a
same_reads a b at commands index attached =
    ap (λ (f : Phase). is_between f && reads_for (due_for b)) at
    ∙ (ap (λ (x : Bool). is_between a.phase && reads_for (command_due x b.commands b.index)) attached
    ∙ (ap (λ (cs : List Command). is_between a.phase && reads_for (command_due a.attached cs b.index)) commands
    ∙ ap (λ (i : ℕ). is_between a.phase && reads_for (command_due a.attached a.commands i)) index))

-- ---- the command that is found

get_there : {X : Type 0} (xs : List X) (i : ℕ) (d : X) → i < length xs → slice_get xs i ≡ Some (get_or xs i d)
get_there [] i d h = absurd (omega arith)
get_there (x ∷ xs) zero d h = refl
get_there (x ∷ xs) (suc i) d h = get_there xs i d (omega arith)

pub next_there : (commands slice : List Command) (i : ℕ) (c : Command) → slice ≡ commands → i < length slice → c ≡ get_or slice i c → slice_get commands i ≡ Some c
next_there commands slice i c same within is =
    subst (λ (cs : List Command). slice_get cs i ≡ Some c) same (get_there slice i c within ∙ ap (λ (d : Command). Some d) (sym is))

pub same_next : (commands : List Command) (i : ℕ) (x m : Command) → slice_get commands i ≡ Some x → slice_get commands i ≡ Some m → x ≡ m
same_next commands i x m a b = ap (λ (o : Option Command). elim o [ Some y ↦ y | None ↦ x ]) (sym a ∙ b)

get_less : {X : Type 0} (xs : List X) (i : ℕ) (x : X) → slice_get xs i ≡ Some x → i < length xs
get_less [] i x h = absurd (false≢true (ap is_some h))
get_less (y ∷ xs) zero x h = omega arith
get_less (y ∷ xs) (suc i) x h = let r : i < length xs = get_less xs i x h in omega arith

-- where none is found, there is none
pub none_there : {A : Type 0} (commands slice : List Command) (i : ℕ) (m : Command) → slice ≡ commands → false ≡ nat_lt i (length slice) → slice_get commands i ≡ Some m → A
none_there commands slice i m same none next =
    let w : i < length slice = subst (λ (cs : List Command). i < length cs) (sym same) (get_less commands i m next) in
    let t : nat_lt i (length slice) ≡ true = grind (arith, nat_tests) in
    absurd (false≢true (none ∙ t))

pub seen_there : (run : SessionRun) (x : Command) → due_for run ≡ due.See → slice_get run.commands run.index ≡ Some x → is_viewed x ≡ true
seen_there run x is next = let a = allowed_due run.attached x due.See (sym (due_at run x next) ∙ is) refl in seen_viewed run.attached x a.0 a.1

pub commits_there : (run : SessionRun) (x : Command) → due_for run ≡ due.Commit → slice_get run.commands run.index ≡ Some x → commits x ≡ true
commits_there run x is next = commits_due x (allowed_due run.attached x due.Commit (sym (due_at run x next) ∙ is) refl).1

pub some_there : (commands : List Command) (i : ℕ) → is_some (slice_get commands i) ≡ true → (m : Command) × (slice_get commands i ≡ Some m)
some_there commands i is = by (slice_get commands i) refl is
  where
    by : (o : Option Command) → slice_get commands i ≡ o → is_some o ≡ true → (m : Command) × (slice_get commands i ≡ Some m)
    by None e h = absurd (false≢true h)
    by (Some m) e h = (m, e)

-- a session that reads isn't in its commit
pub reads_unsaving : {A : Type 0} (run : SessionRun) → may_read run ≡ true → is_saving run.phase ≡ true → A
reads_unsaving run reads saving = absurd (false≢true (sym (ap is_saving (reads_between run reads)) ∙ saving))

-- nor has a task begun
pub reads_unbegun : {A : Type 0} (run : SessionRun) → may_read run ≡ true → has_begun run.phase ≡ true → A
reads_unbegun run reads begun = absurd (false≢true (sym (ap has_begun (reads_between run reads)) ∙ begun))

-- nor has its base moved
pub reads_unmoved : {A : Type 0} (run : SessionRun) → may_read run ≡ true → base_has_moved run.phase ≡ true → A
reads_unmoved run reads moved = absurd (false≢true (sym (ap base_has_moved (reads_between run reads)) ∙ moved))

-- nothing is being read, so nothing that isn't wanted
pub unwanted : (c : Call) (run : SessionRun) → run.fetch ≡ None → IsWantedNext c run
unwanted c run none m next = subst (λ (o : Option Fetch). IfSome o (IsWantedBy c run.held m)) (sym none) tt

-- the next command, where it is one of these
pub errand_there : (run : SessionRun) (x : Command) → is_errand (due_for run) ≡ true → slice_get run.commands run.index ≡ Some x →
    (is_allowed run.attached x ≡ true) × (is_errand (due_by x) ≡ true)
errand_there run x is next = by (is_allowed run.attached x) refl (ap is_errand (sym (due_at run x next)) ∙ is)
  where
    by : (b : Bool) → is_allowed run.attached x ≡ b → is_errand (cond b (due_by x) due.Bar) ≡ true → (is_allowed run.attached x ≡ true) × (is_errand (due_by x) ≡ true)
    by true e h = (e, h)
    by false e h = absurd (false≢true h)

pub errand_some : (run : SessionRun) → is_errand (due_for run) ≡ true → (m : Command) × (slice_get run.commands run.index ≡ Some m)
errand_some run is = by (slice_get run.commands run.index) refl is
  where
    by : (o : Option Command) → slice_get run.commands run.index ≡ o → is_errand (option_map_or (λ m. due_to run.attached m) o due.Leave) ≡ true → (m : Command) × (slice_get run.commands run.index ≡ Some m)
    by None e h = absurd (false≢true h)
    by (Some m) e h = (m, e)

-- what an attach and a detach are
pub only_attach : (m : Command) → due_by m ≡ due.Attach → (id : Text) × (m ≡ command.Attach id)
only_attach (command.Attach id) h = (id, refl)
only_attach command.Detach h = apart due.Detach due.Attach refl h
only_attach (command.Observe p deep mask) h = apart due.Observe due.Attach refl h
only_attach command.Events h = apart due.Events due.Attach refl h
only_attach (command.Split p) h = apart due.Split due.Attach refl h
only_attach command.Collect h = apart due.Collect due.Attach refl h
only_attach command.Head h = apart due.ShowBase due.Attach refl h
only_attach (command.Refresh keep) h = apart due.Refresh due.Attach refl h
only_attach (command.Query text vars) h = apart due.Query due.Attach refl h
only_attach command.Save h = apart due.Commit due.Attach refl h
only_attach (command.Lock p deep) h = apart due.Commit due.Attach refl h
only_attach (command.Unlock p) h = apart due.Commit due.Attach refl h
only_attach (command.Checkin p) h = apart due.Commit due.Attach refl h
only_attach (command.Checkout p) h = apart due.Commit due.Attach refl h
only_attach (command.Label p version label take) h = apart due.Commit due.Attach refl h
only_attach (command.Unlabel p label) h = apart due.Commit due.Attach refl h
only_attach (command.Restore p version) h = apart due.Commit due.Attach refl h
only_attach command.BackWrite h = apart due.Errand due.Attach refl h
only_attach command.BackRead h = apart due.Errand due.Attach refl h
only_attach command.Sweep h = apart due.Errand due.Attach refl h
only_attach command.Checkpoint h = apart due.Errand due.Attach refl h
only_attach (command.Release id) h = apart due.Errand due.Attach refl h
only_attach m h = apart due.See due.Attach refl h

pub only_detach : (m : Command) → due_by m ≡ due.Detach → m ≡ command.Detach
only_detach command.Detach h = refl
only_detach (command.Attach id) h = apart due.Attach due.Detach refl h
only_detach (command.Observe p deep mask) h = apart due.Observe due.Detach refl h
only_detach command.Events h = apart due.Events due.Detach refl h
only_detach (command.Split p) h = apart due.Split due.Detach refl h
only_detach command.Collect h = apart due.Collect due.Detach refl h
only_detach command.Head h = apart due.ShowBase due.Detach refl h
only_detach (command.Refresh keep) h = apart due.Refresh due.Detach refl h
only_detach (command.Query text vars) h = apart due.Query due.Detach refl h
only_detach command.Save h = apart due.Commit due.Detach refl h
only_detach (command.Lock p deep) h = apart due.Commit due.Detach refl h
only_detach (command.Unlock p) h = apart due.Commit due.Detach refl h
only_detach (command.Checkin p) h = apart due.Commit due.Detach refl h
only_detach (command.Checkout p) h = apart due.Commit due.Detach refl h
only_detach (command.Label p version label take) h = apart due.Commit due.Detach refl h
only_detach (command.Unlabel p label) h = apart due.Commit due.Detach refl h
only_detach (command.Restore p version) h = apart due.Commit due.Detach refl h
only_detach command.BackWrite h = apart due.Errand due.Detach refl h
only_detach command.BackRead h = apart due.Errand due.Detach refl h
only_detach command.Sweep h = apart due.Errand due.Detach refl h
only_detach command.Checkpoint h = apart due.Errand due.Detach refl h
only_detach (command.Release id) h = apart due.Errand due.Detach refl h
only_detach m h = apart due.See due.Detach refl h

-- the commands that set the cursor
abbrev pub sets_cursor : Command → Bool
sets_cursor (command.Observe p deep mask) = true
sets_cursor command.Events = true
sets_cursor _ = false

pub sets_none : (m : Command) → nat_lt (due_number (due_by m)) 10 ≡ true → sets_cursor m ≡ false
sets_none (command.Observe p deep mask) h = absurd (false≢true h)
sets_none command.Events h = absurd (false≢true h)
sets_none m h = refl

-- a session that may run what one that is attached may not isn't attached
pub unattached_runs : (attached : Bool) (m : Command) → is_forbidden true m ≡ true → is_allowed attached m ≡ true → attached ≡ false
unattached_runs false m forbidden allowed = refl
unattached_runs true m forbidden allowed =
    absurd (false≢true (sym (ap (λ (b : Bool). is_built m && not b) forbidden ∙ nothing (is_built m)) ∙ allowed))
  where
    nothing : (b : Bool) → (b && false) ≡ false
    nothing true = refl
    nothing false = refl

-- and one that detaches is
pub detaches_attached : (attached : Bool) → is_allowed attached command.Detach ≡ true → attached ≡ true
detaches_attached true allowed = refl
detaches_attached false allowed = absurd (false≢true allowed)

-- none that is attached commits
pub commits_forbidden : (m : Command) → commits m ≡ true → is_forbidden true m ≡ true
commits_forbidden command.Save h = refl
commits_forbidden (command.Lock p deep) h = refl
commits_forbidden (command.Unlock p) h = refl
commits_forbidden (command.Checkin p) h = refl
commits_forbidden (command.Checkout p) h = refl
commits_forbidden (command.Label p version label take) h = refl
commits_forbidden (command.Unlabel p label) h = refl
commits_forbidden (command.Restore p version) h = refl
commits_forbidden m h = absurd (false≢true h)
