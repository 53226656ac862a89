-- A session saves from the draw of its commit until its reply, and has nothing in flight before and behind that.
use Rattle.std.proofs.Common.{◌≡◌, inl, inr, ℕ, ◌<◌, length, Bool, true, false, cond, ◌||◌, ◌&&◌, Some, None, Option, List, [], ◌∷◌, ◌++◌, is_some, refl, sym, ap, ◌∙◌, subst, arith}
use Rattle.std.specs.Prelude.{◌==◌}
use Rattle.std.proofs.lemmas.Bool.Decides.{nat_tests}
use Rattle.std.proofs.lemmas.Option.{slice_get_within}
use mathlib.Core.Bool.{false≢true}
use Rattle.jr_path.specs.Lists.{Text}
use Rattle.jr_rev.specs.declared.revision.Revision.{Revision}
use Rattle.jr_part.specs.declared.need.Need.TheVariants as need
use Rattle.oak_machine.specs.declared.event.Event.{Event}
use Rattle.oak_machine.specs.declared.event.Event.TheVariants as event
use Rattle.oak_machine.specs.declared.event.StepKind.{StepKind}
use Rattle.oak_machine.specs.History.{History, Past}
use Rattle.oak_machine.specs.Commits.{is_ended}
use Rattle.oak_machine.specs.Runs.{IsRun, IsRunOf}
use Rattle.oak_machine.specs.Sessions.{drawn_among, drawn_since, has_left, has_login, is_drawing, is_login_of, next_index, since}
use Rattle.oak_machine.proofs.Stays.{any_later}
use Rattle.oak_commit.specs.declared.outcome.CommitEnd.{CommitEnd}
use Rattle.oak_commit.specs.declared.outcome.CommitEnd.TheVariants as commit
use Rattle.oak_port.specs.Ports.{Awaiting, Collecting, Deciding, HoldsBack, Idle, Learning, Passing, Publishing, Shown, Starting, Sweeping, Undoing, Work, Writing}
use Rattle.oak_port.specs.declared.task.Task.TheVariants as task
use Rattle.core_heads.proofs.Passing.{drawn_stays, next_stays}
use Rattle.jcr_law.specs.Lasting.{says_of, starts_of}
use Rattle.jcr_law.specs.State.{Call}
use Rattle.jcr_law.specs.declared.law.JcrLaw.{JcrLaw}
use Rattle.jcr_steps.specs.declared.tidying.Tidied.{Tidied}
use Rattle.jcr_steps.specs.declared.tidying.Tidied.TheVariants as tidied
use Rattle.jcr_trans.specs.declared.command.Command.{Command}
use Rattle.jcr_trans.specs.declared.command.Command.TheVariants as command
use Rattle.jcr_run.specs.declared.run.Fetch.{Fetch}
use Rattle.jcr_run.specs.declared.run.Fetch.TheVariants as fetch
use Rattle.jcr_run.specs.declared.run.Phase.{Phase}
use Rattle.jcr_run.specs.declared.run.Phase.TheVariants as phase
use Rattle.jcr_run.specs.declared.run.SessionRun.{SessionRun}
use Rattle.jcr_run.specs.declared.turn.Turn.TheVariants as turn
use Rattle.jcr_run.specs.Standing.{HasCommitted, HasDrawn, IsCommitting, IsEndFor, IsIn, IsOneStep, IsReading, IsTidyWork, IsTurned, IsWorkFor, Stands, StandsAt, due_for, is_between, is_committing, is_saving, is_step_event, may_read, reads_for}
use Rattle.jr_stage.specs.Awaited.{KeepsWaiting}
use Rattle.jr_stage.proofs.First.{kept_by_another}

itself : (n : ℕ) → (n == n) ≡ true
itself n = grind (arith, nat_tests)

abbrev is_awaiting : Work → Bool
is_awaiting (Awaiting r) = true
is_awaiting w = false

-- what is done for a command by a task of the cluster node, of the settings or of the cursor awaits no revision
pub errand_waits : (h : History) (s : ℕ) (c : Call) (m : Command) (w : Work) → IsWorkFor h s c m w → is_awaiting w ≡ false
errand_waits h s c command.BackWrite (Starting task.BackWrite) works = refl
errand_waits h s c command.BackWrite (Publishing r) works = refl
errand_waits h s c command.BackRead (Starting task.BackRead) works = refl
errand_waits h s c command.BackRead (Learning v) works = refl
errand_waits h s c command.Sweep (Starting task.Sweep) works = refl
errand_waits h s c command.Sweep (Passing r) works = refl
errand_waits h s c command.Sweep (Sweeping r) works = refl
errand_waits h s c command.Checkpoint (Starting (task.Checkpoint id)) works = refl
errand_waits h s c (command.Release id) (Starting (task.Release i)) works = refl
errand_waits h s c (command.Observe path deep mask) (Starting task.Observe) works = refl
errand_waits h s c command.Events (Starting task.Observe) works = refl
errand_waits h s c m w works = absurd works

-- nor does a split or a collection, under way or ended
tidy_waits : (m : Command) (w : Work) → IsTidyWork m w → is_awaiting w ≡ false
tidy_waits (command.Split path) (Starting (task.Split q)) works = refl
tidy_waits command.Collect (Starting task.Collect) works = refl
tidy_waits command.Collect Collecting works = refl
tidy_waits m w works = absurd works

told_waits : (s : ℕ) (m : Command) (t : Tidied) (w : Work) → IsEndFor s m t w → is_awaiting w ≡ false
told_waits s (command.Split path) (tidied.Split e) w works = ap is_awaiting works
told_waits s command.Collect (tidied.Collected c) w works = ap is_awaiting works
told_waits s m t w works = absurd works

-- ---- what a commit under way tells

-- it is the last draw of s, for its next command
committing_drew : (past : Past) (s : ℕ) (w : Work) → IsCommitting past s w → (r : Revision) × HasDrawn past s r
committing_drew past s (Writing r) h = (r, h.0)
committing_drew past s (Undoing r e) h = (r, h.0)
committing_drew past s (Deciding r) h = (r, h.0)
committing_drew past s (Awaiting r) h = (r, h.0)
committing_drew past s w h = absurd h

-- a commit that has ended was drawn for the next command, and nothing is in flight
ended_drew : (law : JcrLaw) (p : Shown) (c : Call) (e : CommitEnd) → HasCommitted law p c e → is_some (drawn_since p.history.past p.session) ≡ true
ended_drew law p c (commit.Committed r) h = ap is_some h.drawn
ended_drew law p c (commit.Clash item o) h = ap is_some h.2.unmade.drawn
ended_drew law p c commit.Memory h = ap is_some h.2.drawn

ended_idle : (law : JcrLaw) (p : Shown) (c : Call) (e : CommitEnd) → HasCommitted law p c e → is_drawing p.history.past p.session ≡ false
ended_idle law p c (commit.Committed r) h = h.idle
ended_idle law p c (commit.Clash item o) h = h.2.unmade.idle
ended_idle law p c commit.Memory h = h.2.idle

-- ---- phases

pub committing_saves : (f : Phase) → is_committing f ≡ true → is_saving f ≡ true
committing_saves (phase.Committing pledge) h = refl
committing_saves f h = absurd (false≢true h)

module _ (law : JcrLaw) (p : Shown) (run : SessionRun) where
  -- a session that doesn't commit has nothing in flight
  idle_at : (f : Phase) → StandsAt law p run f → is_committing f ≡ false → is_drawing p.history.past p.session ≡ false
  idle_at phase.Outside at h = at.still
  idle_at phase.Between at h = at.1.fresh.idle
  idle_at (phase.Moved v) at h = at.1.for.fresh.idle
  idle_at phase.Detaching at h = at.1.half.fresh.idle
  idle_at (phase.Committing pledge) at h = absurd (false≢true (sym h))
  idle_at (phase.Committed e pledge) at h = ended_idle law p at.1.call e at.1.ended
  idle_at (phase.Working e) at h = at.1.for.fresh.idle
  idle_at (phase.Told t) at h = at.1.for.fresh.idle
  idle_at phase.Tidying at h = at.1.for.fresh.idle
  idle_at (phase.Tidied t) at h = at.1.for.fresh.idle
  idle_at phase.Over at h = at.still

  in_at : (f : Phase) → StandsAt law p run f → is_saving f ≡ true → IsIn law p run.attached
  in_at (phase.Committing pledge) at h = at.0
  in_at (phase.Committed e pledge) at h = at.0
  in_at f at h = absurd (false≢true h)

  drew_at : (f : Phase) → StandsAt law p run f → is_saving f ≡ true → is_some (drawn_since p.history.past p.session) ≡ true
  drew_at (phase.Committing pledge) at h = ap is_some (committing_drew p.history.past p.session p.work at.1.commits).1.drawn
  drew_at (phase.Committed e pledge) at h = ended_drew law p at.1.call e at.1.ended
  drew_at f at h = absurd (false≢true h)

  -- it has a command more to answer
  asked_at : (f : Phase) → StandsAt law p run f → is_saving f ≡ true → run.index < length run.commands
  asked_at (phase.Committing pledge) at h = slice_get_within run.commands run.index at.1.for.command at.1.for.next
  asked_at (phase.Committed e pledge) at h = slice_get_within run.commands run.index at.1.for.command at.1.for.next
  asked_at f at h = absurd (false≢true h)

  idle_waits : {A : Type 0} (r : Revision) → p.work ≡ Idle → p.work ≡ Awaiting r → A
  idle_waits r idle waits = absurd (false≢true (sym (ap is_awaiting idle) ∙ ap is_awaiting waits))

  reading_waits : {A : Type 0} (r : Revision) (o : Option Fetch) → IsReading p.work o → p.work ≡ Awaiting r → A
  reading_waits r None reads waits = idle_waits r reads waits
  reading_waits r (Some (fetch.Tree (need.Node path))) reads waits = absurd (false≢true (sym (ap is_awaiting reads) ∙ ap is_awaiting waits))
  reading_waits r (Some (fetch.Tree (need.Children path))) reads waits = absurd (false≢true (sym (ap is_awaiting reads) ∙ ap is_awaiting waits))
  reading_waits r (Some (fetch.Tree (need.Subtree path))) reads waits = absurd reads
  reading_waits r (Some (fetch.Tree need.All)) reads waits = absurd reads
  reading_waits r (Some (fetch.Changes v)) reads waits = absurd (false≢true (sym (ap is_awaiting reads) ∙ ap is_awaiting waits))

  working_waits : {A : Type 0} (r : Revision) (h : History) (c : Call) (m : Command) (w : Work) → IsWorkFor h p.session c m w → w ≡ Awaiting r → A
  working_waits r h c m w works waits = absurd (false≢true (sym (errand_waits h p.session c m w works) ∙ ap is_awaiting waits))

  -- a session that awaits a revision has drawn it last, and it has ended
  awaits_at : (f : Phase) (r : Revision) → StandsAt law p run f → p.work ≡ Awaiting r → HasDrawn p.history.past p.session r × (is_ended p.history.past r ≡ true)
  awaits_at phase.Outside r at waits = idle_waits r at.idle waits
  awaits_at phase.Between r at waits = reading_waits r run.fetch at.1.reads waits
  awaits_at (phase.Moved v) r at waits = idle_waits r at.1.idle waits
  awaits_at phase.Detaching r at waits = absurd (false≢true (sym (ap is_awaiting at.1.works) ∙ ap is_awaiting waits))
  awaits_at (phase.Committing pledge) r at waits = let h = subst (λ (w : Work). IsCommitting p.history.past p.session w) waits at.1.commits in (h.0, h.2)
  awaits_at (phase.Committed e pledge) r at waits = idle_waits r at.1.idle waits
  awaits_at (phase.Working e) r at waits = working_waits r p.history at.1.call at.1.command p.work at.1.works waits
  awaits_at (phase.Told t) r at waits = idle_waits r at.1.idle waits
  awaits_at phase.Tidying r at waits = absurd (false≢true (sym (tidy_waits at.1.command p.work at.1.works) ∙ ap is_awaiting waits))
  awaits_at (phase.Tidied t) r at waits = absurd (false≢true (sym (told_waits p.session at.1.command t p.work at.1.works) ∙ ap is_awaiting waits))
  awaits_at phase.Over r at waits = idle_waits r at.idle waits

  -- ---- where it stands

  module _ (stands : Stands law p run) where
    pub flying_commits : is_drawing p.history.past p.session ≡ true → is_committing run.phase ≡ true
    flying_commits flies = by (is_committing run.phase) refl
      where
        by : (b : Bool) → is_committing run.phase ≡ b → b ≡ true
        by true h = refl
        by false h = absurd (false≢true (sym (idle_at run.phase stands.at h) ∙ flies))

    -- it reads nothing while it saves, and doesn't leave
    pub saving_reads_not : is_saving run.phase ≡ true → may_read run ≡ false
    saving_reads_not saves = by run.phase saves
      where
        by : (f : Phase) → is_saving f ≡ true → (is_between f && reads_for (due_for run)) ≡ false
        by (phase.Committing pledge) h = refl
        by (phase.Committed e pledge) h = refl
        by f h = absurd (false≢true h)

    pub saving_stays_in : is_saving run.phase ≡ true → has_left p.history.past p.session ≡ false
    saving_stays_in saves = (in_at run.phase stands.at saves).stays

    -- what holds the head back while it waits is another session's
    pub waiting_by : (q r : Revision) → p.work ≡ Awaiting r → HoldsBack p.history.past q r → (t : ℕ) × ((t == p.session) ≡ false) × KeepsWaiting p.history.past t p.session
    waiting_by q r waits holds =
        let h = awaits_at run.phase r stands.at waits in
        kept_by_another p.history.past p.session q r h.0.theirs h.1 h.0.last holds

    -- behind a reply nothing of it is in flight
    pub said_idle : (i : ℕ) (text : Text) (past : Past) → p.history.past ≡ event.Said p.session i text ∷ past → is_drawing p.history.past p.session ≡ false
    said_idle i text past is = by (is_drawing p.history.past p.session) refl
      where
        none : drawn_since p.history.past p.session ≡ None
        none = ap (λ (q : Past). drawn_since q p.session) is ∙ ap (λ b. drawn_among (cond (b || false) [] (event.Said p.session i text ∷ since past p.session)) p.session) (itself p.session)

        by : (b : Bool) → is_drawing p.history.past p.session ≡ b → b ≡ false
        by true flies = absurd (false≢true (sym (ap is_some none) ∙ drew_at run.phase stands.at (committing_saves run.phase (flying_commits flies))))
        by false idle = refl

    -- nor once it has left
    pub left_idle : has_left p.history.past p.session ≡ true → is_drawing p.history.past p.session ≡ false
    left_idle left = by (is_drawing p.history.past p.session) refl
      where
        by : (b : Bool) → is_drawing p.history.past p.session ≡ b → b ≡ false
        by true flies = absurd (false≢true (sym (saving_stays_in (committing_saves run.phase (flying_commits flies))) ∙ left))
        by false idle = refl

-- ---- a step

module _ (law : JcrLaw) (old new : Shown) (run now : SessionRun) (k : StepKind) (stands : Stands law old run) (turned : IsTurned law old new run now (turn.Stepped k)) (saves : is_saving run.phase ≡ true) where
  abbrev s : ℕ
  s = old.session

  -- what lies behind the step
  abbrev before : Past
  before = turned.others ++ old.history.past

  past_is : new.history.past ≡ turned.own ++ before
  past_is = ap (λ (h : History). h.past) turned.grows.grown

  session_is : new.session ≡ s
  session_is = turned.stands.session ∙ (turned.same.0 ∙ sym stands.session)

  ran : IsRunOf (starts_of law) (says_of law) old.history.clusters old.history.sessions old.history.begin (turned.own ++ before)
  ran = subst (λ (h : History). IsRun (starts_of law) (says_of law) h) turned.grows.grown turned.grows.run

  moved : (F : Past → ℕ → Type 0) → F (turned.own ++ before) s → F new.history.past new.session
  moved F h = subst (λ (q : Past). F q new.session) (sym past_is) (subst (λ (n : ℕ). F (turned.own ++ before) n) (sym session_is) h)

  -- it has logged in
  login_before : has_login before s ≡ true
  login_before = any_later (is_login_of s) turned.others old.history.past (in_at law old run run.phase stands.at saves).login

  login_now : has_login (turned.own ++ before) s ≡ true
  login_now = any_later (is_login_of s) turned.own before login_before

  -- what was drawn for its next command still is
  drawn_before : is_some (drawn_since before s) ≡ true
  drawn_before = ap is_some (drawn_stays before turned.others old.history.past s turned.grows.theirs) ∙ drew_at law old run run.phase stands.at saves

  drawn_by_one : (e : Event) → IsRunOf (starts_of law) (says_of law) old.history.clusters old.history.sessions old.history.begin (e ∷ before) → is_step_event e ≡ true → is_some (drawn_since (e ∷ before) s) ≡ true
  drawn_by_one (event.Login t v) ran step = by (t == s) refl
    where
      equal : (a b : ℕ) → (a == b) ≡ true → a ≡ b
      equal a b h = grind (arith, nat_tests)

      by : (b : Bool) → (t == s) ≡ b → is_some (drawn_among (cond b [] (event.Login t v ∷ since before s)) s) ≡ true
      by true same = absurd (false≢true (sym ran.0.first ∙ subst (λ (n : ℕ). has_login before n ≡ true) (sym (equal t s same)) login_before))
      by false apart = drawn_before
  drawn_by_one (event.Draw d) ran step = by (d.session == s)
    where
      by : (b : Bool) → is_some (cond b (Some d.revision) (drawn_since before s)) ≡ true
      by true = refl
      by false = drawn_before
  drawn_by_one (event.Refresh t v) ran step = drawn_before
  drawn_by_one (event.Commit r) ran step = drawn_before
  drawn_by_one (event.Refuse r item o) ran step = drawn_before
  drawn_by_one (event.End r) ran step = drawn_before
  drawn_by_one (event.Went t j) ran step = drawn_before
  drawn_by_one (event.Out c r) ran step = drawn_before
  drawn_by_one (event.In c v) ran step = drawn_before
  drawn_by_one (event.Sweep c r) ran step = drawn_before
  drawn_by_one (event.Bound c v) ran step = drawn_before
  drawn_by_one (event.Checkpoint id v) ran step = drawn_before
  drawn_by_one (event.Release id) ran step = drawn_before
  drawn_by_one (event.Attach t id) ran step = drawn_before
  drawn_by_one (event.Detach t) ran step = drawn_before
  drawn_by_one e ran step = absurd (false≢true step)

  drawn_now : is_some (drawn_since (turned.own ++ before) s) ≡ true
  drawn_now = by turned.tells.1
    where
      by : IsOneStep turned.own → is_some (drawn_since (turned.own ++ before) s) ≡ true
      by (inl (e, is, step)) = subst (λ (o : Past). is_some (drawn_since (o ++ before) s) ≡ true) (sym is) (drawn_by_one e (subst (λ (o : Past). IsRunOf (starts_of law) (says_of law) old.history.clusters old.history.sessions old.history.begin (o ++ before)) is ran) step)
      by (inr (m, v, r, is)) = subst (λ (o : Past). is_some (drawn_since (o ++ before) s) ≡ true) (sym is) drawn_before

  -- it has said no reply
  replies_one : (e : Event) → is_step_event e ≡ true → next_index (e ∷ before) s ≡ next_index before s
  replies_one (event.Said t i text) step = absurd (false≢true step)
  replies_one e step = refl

  replies_now : next_index (turned.own ++ before) s ≡ next_index before s
  replies_now = by turned.tells.1
    where
      by : IsOneStep turned.own → next_index (turned.own ++ before) s ≡ next_index before s
      by (inl (e, is, step)) = subst (λ (o : Past). next_index (o ++ before) s ≡ next_index before s) (sym is) (replies_one e step)
      by (inr (m, v, r, is)) = subst (λ (o : Past). next_index (o ++ before) s ≡ next_index before s) (sym is) refl

  index_same : now.index ≡ run.index
  index_same =
      turned.stands.index
      ∙ (ap (λ (n : ℕ). next_index new.history.past n) (sym turned.stands.session)
      ∙ (moved (λ q n. next_index q n ≡ next_index before s) replies_now
      ∙ (next_stays before turned.others old.history.past s turned.grows.theirs
      ∙ (ap (λ (n : ℕ). next_index old.history.past n) stands.session ∙ sym stands.index))))

  more_to_say : now.index < length now.commands
  more_to_say = let h = asked_at law old run run.phase stands.at saves in
      subst (λ (i : ℕ). i < length now.commands) (sym index_same) (subst (λ (l : List Command). run.index < length l) (sym turned.same.1) h)

  -- a session that saves still does behind a step
  pub saving_stays : is_saving now.phase ≡ true
  saving_stays = by now.phase turned.stands.at
    where
      none : {A : Type 0} → drawn_since new.history.past new.session ≡ None → A
      none h = absurd (false≢true (sym (ap is_some h) ∙ moved (λ q n. is_some (drawn_since q n) ≡ true) drawn_now))

      all : {A : Type 0} (i n : ℕ) → i < n → i ≡ n → A
      all i n below same = absurd (omega arith)

      by : (f : Phase) → StandsAt law new now f → is_saving f ≡ true
      by phase.Outside at = absurd (false≢true (sym at.out ∙ moved (λ q n. has_login q n ≡ true) login_now))
      by phase.Between at = none at.1.fresh.first
      by (phase.Moved v) at = none at.1.for.fresh.first
      by phase.Detaching at = none at.1.half.fresh.first
      by (phase.Committing pledge) at = refl
      by (phase.Committed e pledge) at = refl
      by (phase.Working e) at = none at.1.for.fresh.first
      by (phase.Told t) at = none at.1.for.fresh.first
      by phase.Tidying at = none at.1.for.fresh.first
      by (phase.Tidied t) at = none at.1.for.fresh.first
      by phase.Over at = all now.index (length now.commands) more_to_say at.all
