-- A session stands where it stood while others make their steps; and a new one stands before its login.
use Rattle.std.proofs.Common.{◌≡◌, ℕ, ◌≤◌, Bool, true, false, Option, List, [], ◌∷◌, ◌++◌, length, refl, sym, ap, ◌∙◌, subst, arith}
use Rattle.std.specs.Prelude.{slice_get}
use Rattle.std.specs.List.{list_any}
use Rattle.oak_machine.specs.History.{Past}
use Rattle.oak_machine.specs.Laws.{is_event_of}
use Rattle.oak_machine.specs.Runs.{AreNodes, IsRun}
use Rattle.oak_machine.specs.Sessions.{has_left, has_login, is_drawing, is_end_of_session, next_index}
use Rattle.oak_machine.proofs.Stays.{any_later}
use Rattle.oak_port.specs.Ports.{HasRoom, Idle, Shown, OthersAlone, Work}
use Rattle.jcr_trans.specs.declared.command.Command.{Command}
use Rattle.core_heads.proofs.Passing.{idle_stays, next_stays}
use Rattle.jcr_law.specs.declared.law.JcrLaw.{JcrLaw}
use Rattle.jcr_trans.specs.Answers.{ShowsVector}
use Rattle.jcr_trans.specs.Texts.{answer_text}
use Rattle.jcr_law.specs.Calls.{call_after}
use Rattle.jcr_law.specs.Lasting.{says_of, starts_of}
use Rattle.jcr_law.specs.Since.{draw_since}
use Rattle.jcr_law.specs.State.{Call, command_at, is_ok_text}
use Rattle.core_calls.specs.Seeing.{SeesTrees, SeesTyped}
use Rattle.jcr_run.specs.declared.limits.TheConstants.{MOST_COMMANDS}
use Rattle.jcr_steps.specs.declared.limits.TheConstants.{COMMIT_REPLY_BYTES, VECTOR_REPLY_BYTES}
use Rattle.jcr_run.specs.declared.run.Pledge.{Pledge}
use Rattle.jcr_run.specs.declared.run.Phase.{Phase}
use Rattle.jcr_run.specs.declared.run.Phase.TheVariants as phase
use Rattle.jcr_run.specs.declared.run.SessionRun.{SessionRun}
use Rattle.jcr_steps.specs.Kept.{HasPlace}
use Rattle.jcr_run.specs.Standing.{IsEndFor, IsTidyWork}
use Rattle.jcr_run.specs.Standing.{IsBeside, IsCommitting, IsFor, IsIn, IsNew, IsOutside, IsPlace, IsReading, IsWorkFor}
use Rattle.jcr_run.specs.Standing.{Stands, StandsAt}
use Rattle.jcr_steps.specs.Kept.{kept_for, kept_of, reply_of}
use Rattle.jcr_run.proofs.Since.{kept_beside, since_beside}
use Rattle.jcr_run.proofs.Waiting.{all_beside, attached_beside, by_waits, called_beside, command_beside, committed_beside, committing_beside}
use Rattle.jcr_run.proofs.Waiting.{fresh_beside, half_beside, has_cursor_beside, in_beside, login_stays, next_beside, nodes_beside}
use Rattle.jcr_run.proofs.Waiting.{says_beside, shown_beside, unmoved_beside, unpinned_beside, work_beside}

module _ (law : JcrLaw) (p q : Shown) (run : SessionRun) (stands : Stands law p run) (beside : IsBeside law p q) (work : q.work ≡ p.work) (room : q.room ≡ p.room) where
  abbrev added : Past
  added = beside.others

  in_now : {attached : Bool} → IsIn law p attached → IsIn law q attached
  in_now = in_beside law p q beside stands.nodes

  for_now : (c : Call) (a : Pledge) → IsFor p run c a → IsFor q run c a
  for_now c a is = record {
    command = is.command;
    next = is.next;
    commits = is.commits;
    holds = is.holds;
    settled = is.settled;
    accepts = is.accepts;
    place = subst (λ (x : Option ℕ). IsPlace x a.accepted) (sym room) is.place;
    proper = is.proper;
    referring = is.referring;
    drew = λ d now. is.drew d (sym (shown_beside law p q beside (λ h n. draw_since h.past n ≡ draw_since p.history.past p.session) (all_beside law p q beside stands.nodes).draw) ∙ now);
  }

  at_now : (f : Phase) → StandsAt law p run f → StandsAt law q run f
  at_now phase.Outside h = record {
    idle = work ∙ h.idle;
    first = h.first;
    out = shown_beside law p q beside (λ h n. has_login h.past n ≡ false) (login_stays (added ++ p.history.past) added p.history.past p.session beside.grows.theirs h.out);
    unread = h.unread;
    unlisted = h.unlisted;
    holds = h.holds;
    detached = h.detached;
    still = shown_beside law p q beside (λ h n. is_drawing h.past n ≡ false) (idle_stays (added ++ p.history.past) added p.history.past p.session beside.grows.theirs h.still);
  }
  at_now phase.Between h = (
    in_now h.0,
    record {
      call = h.1.call;
      is = called_beside law p q beside stands.nodes h.1.call h.1.is;
      holds = h.1.holds;
      unmoved = unmoved_beside law p q beside stands.nodes h.1.unmoved;
      unpinned = unpinned_beside law p q beside stands.nodes h.1.unpinned;
      fresh = fresh_beside law p q beside stands.nodes h.1.fresh;
      reads = subst (λ (w : Work). IsReading w run.fetch) (sym work) h.1.reads;
      due = h.1.due;
      for = h.1.for;
      wanted = h.1.wanted;
      changes = since_beside law p q beside stands.nodes h.1.call h.1.is run.changes h.1.changes;
    },
  )
  at_now (phase.Moved v) h = (
    in_now h.0,
    record {
      idle = work ∙ h.1.idle;
      command = h.1.command;
      call = h.1.call;
      for = command_beside law p q beside stands.nodes run h.1.command h.1.call h.1.for;
      moves = h.1.moves;
      unpinned = unpinned_beside law p q beside stands.nodes h.1.unpinned;
      stands = attached_beside law p q beside stands.nodes ∙ h.1.stands;
      says = says_beside law p q beside stands.nodes stands.run_is run.index (answer_text (ShowsVector v)) h.1.says;
      eight = h.1.eight;
      place = subst (λ (x : Option ℕ). HasRoom x VECTOR_REPLY_BYTES) (sym room) h.1.place;
    },
  )
  at_now phase.Detaching h = (
    in_now h.0,
    record {
      vector = h.1.vector;
      works = work ∙ h.1.works;
      half = half_beside law p q beside stands.nodes run h.1.vector room h.1.half;
    },
  )
  at_now (phase.Committing a) h = (
    in_now h.0,
    record {
      unread = h.1.unread;
      call = h.1.call;
      is = called_beside law p q beside stands.nodes h.1.call h.1.is;
      for = for_now h.1.call a h.1.for;
      commits = subst (λ (x : Work). IsCommitting q.history.past q.session x) (sym work) (committing_beside law p q beside stands.nodes p.work h.1.commits);
    },
  )
  at_now (phase.Committed e a) h = (
    in_now h.0,
    record {
      idle = work ∙ h.1.idle;
      unread = h.1.unread;
      call = h.1.call;
      for = for_now h.1.call a h.1.for;
      ended = committed_beside law p q beside stands.nodes h.1.call e h.1.ended;
    },
  )
  at_now (phase.Working e) h = (
    in_now h.0,
    record {
      command = h.1.command;
      call = h.1.call;
      for = command_beside law p q beside stands.nodes run h.1.command h.1.call h.1.for;
      errands = h.1.errands;
      unmoved = unmoved_beside law p q beside stands.nodes h.1.unmoved;
      unpinned = unpinned_beside law p q beside stands.nodes h.1.unpinned;
      works = subst (λ (w : Work). IsWorkFor q.history q.session h.1.call h.1.command w) (sym work)
          (work_beside law p q beside stands.nodes h.1.call h.1.command p.work h.1.works);
      kept = kept_beside law p q beside stands.nodes h.1.call h.1.for.is h.1.command e h.1.kept;
      place = subst (λ (x : Option ℕ). HasPlace x (kept_for e)) (sym room) h.1.place;
    },
  )
  at_now (phase.Told t) h = (
    in_now h.0,
    record {
      idle = work ∙ h.1.idle;
      command = h.1.command;
      call = h.1.call;
      for = command_beside law p q beside stands.nodes run h.1.command h.1.call h.1.for;
      tells = h.1.tells;
      unmoved = unmoved_beside law p q beside stands.nodes h.1.unmoved;
      says = says_beside law p q beside stands.nodes stands.run_is run.index (reply_of t) h.1.says;
      by = h.1.by;
      cursor = has_cursor_beside law p q beside stands.nodes (call_after (is_ok_text (reply_of t)) false h.1.call h.1.command) h.1.cursor;
      place = subst (λ (x : Option ℕ). HasPlace x (kept_of t)) (sym room) h.1.place;
      eight = h.1.eight;
    },
  )
  at_now phase.Tidying h = (
    in_now h.0,
    record {
      command = h.1.command;
      call = h.1.call;
      for = command_beside law p q beside stands.nodes run h.1.command h.1.call h.1.for;
      tidies = h.1.tidies;
      unmoved = unmoved_beside law p q beside stands.nodes h.1.unmoved;
      unpinned = unpinned_beside law p q beside stands.nodes h.1.unpinned;
      works = subst (λ (w : Work). IsTidyWork h.1.command w) (sym work) h.1.works;
      place = subst (λ (x : Option ℕ). HasRoom x COMMIT_REPLY_BYTES) (sym room) h.1.place;
    },
  )
  at_now (phase.Tidied t) h = (
    in_now h.0,
    record {
      command = h.1.command;
      call = h.1.call;
      for = command_beside law p q beside stands.nodes run h.1.command h.1.call h.1.for;
      tidies = h.1.tidies;
      unmoved = unmoved_beside law p q beside stands.nodes h.1.unmoved;
      unpinned = unpinned_beside law p q beside stands.nodes h.1.unpinned;
      works = subst (λ (w : Work). IsEndFor q.session h.1.command t w) (sym work)
          (subst (λ (n : ℕ). IsEndFor n h.1.command t p.work) (sym beside.session) h.1.works);
      place = subst (λ (x : Option ℕ). HasRoom x COMMIT_REPLY_BYTES) (sym room) h.1.place;
    },
  )
  at_now phase.Over h = record {
    idle = work ∙ h.idle;
    left = shown_beside law p q beside (λ h n. has_left h.past n ≡ true) (any_later (is_end_of_session p.session) added p.history.past h.left);
    all = h.all;
    still = shown_beside law p q beside (λ h n. is_drawing h.past n ≡ false) (idle_stays (added ++ p.history.past) added p.history.past p.session beside.grows.theirs h.still);
  }

  pub stands_beside : Stands law q run
  stands_beside = record {
    nodes = nodes_beside law p q beside stands.nodes;
    trees = shown_beside law p q beside (λ h n. SeesTrees law h.clusters h.sessions h.begin) stands.trees;
    typed = shown_beside law p q beside (λ h n. SeesTyped law h.clusters h.sessions h.begin) stands.typed;
    run_is = beside.grows.run;
    session = beside.session ∙ stands.session;
    few = stands.few;
    commands = stands.commands;
    index = stands.index ∙ (ap (next_index p.history.past) (sym stands.session) ∙ (sym (next_beside law p q beside) ∙ ap (next_index q.history.past) (beside.session ∙ stands.session)));
    within = stands.within;
    at = at_now run.phase stands.at;
  }

-- between two commands, whatever place there is for the reply
pub stands_between : (law : JcrLaw) (p q : Shown) (run : SessionRun) → Stands law p run → IsBeside law p q → q.work ≡ p.work → run.phase ≡ phase.Between → Stands law q run
stands_between law p q run stands beside work between = record {
  nodes = nodes_beside law p q beside stands.nodes;
  trees = shown_beside law p q beside (λ h n. SeesTrees law h.clusters h.sessions h.begin) stands.trees;
  typed = shown_beside law p q beside (λ h n. SeesTyped law h.clusters h.sessions h.begin) stands.typed;
  run_is = beside.grows.run;
  session = beside.session ∙ stands.session;
  few = stands.few;
  commands = stands.commands;
  index = stands.index ∙ (ap (next_index p.history.past) (sym stands.session) ∙ (sym (next_beside law p q beside) ∙ ap (next_index q.history.past) (beside.session ∙ stands.session)));
  within = stands.within;
  at = subst (λ (f : Phase). StandsAt law q run f) (sym between) (now (subst (λ (f : Phase). StandsAt law p run f) between stands.at));
}
  where
    now : StandsAt law p run phase.Between → StandsAt law q run phase.Between
    now h = (
      in_beside law p q beside stands.nodes h.0,
      record {
        call = h.1.call;
        is = called_beside law p q beside stands.nodes h.1.call h.1.is;
        holds = h.1.holds;
        unmoved = unmoved_beside law p q beside stands.nodes h.1.unmoved;
        unpinned = unpinned_beside law p q beside stands.nodes h.1.unpinned;
        fresh = fresh_beside law p q beside stands.nodes h.1.fresh;
        reads = subst (λ (w : Work). IsReading w run.fetch) (sym work) h.1.reads;
        due = h.1.due;
        for = h.1.for;
        wanted = h.1.wanted;
        changes = since_beside law p q beside stands.nodes h.1.call h.1.is run.changes h.1.changes;
      },
    )

pub stands_waits : (law : JcrLaw) (p q : Shown) (run : SessionRun) → Stands law p run → OthersAlone (starts_of law) (says_of law) p q p.work p.room → Stands law q run
stands_waits law p q run stands waits = stands_beside law p q run stands (by_waits law p q p.work p.room waits) waits.work_is waits.room_is

-- ---- a new session

nothing_behind : {X : Type 0} (a : List X) → a ++ [] ≡ a
nothing_behind [] = refl
nothing_behind (x ∷ a) = ap (λ l. x ∷ l) (nothing_behind a)

module _ (law : JcrLaw) (p : Shown) (session : ℕ) (commands : List Command) (run : SessionRun) (new : IsNew session law.earlier commands law.types run) (few : length commands ≤ MOST_COMMANDS) (nodes : AreNodes p.history.clusters p.history.sessions)
    (trees : SeesTrees law p.history.clusters p.history.sessions p.history.begin) (typed : SeesTyped law p.history.clusters p.history.sessions p.history.begin) (run_is : IsRun (starts_of law) (says_of law) p.history) (idle : p.work ≡ Idle) (own : p.session ≡ session) (theirs : (i : ℕ) → command_at law session i ≡ slice_get commands i)
    (none : list_any (is_event_of p.history.past session) p.history.past ≡ false) where
  abbrev past : Past
  past = p.history.past

  -- what others leave of a history without events
  from_nothing : (F : Past → Type 0) → F (past ++ []) → F past
  from_nothing F x = subst F (nothing_behind past) x

  outside : StandsAt law p run phase.Outside
  outside = subst (λ (s : ℕ). IsOutside law (record p { session = s }) run) (sym own) record {
    idle = idle;
    first = new.first;
    out = from_nothing (λ (w : Past). has_login w session ≡ false) (login_stays past past [] session none refl);
    unread = new.unread;
    unlisted = new.unlisted;
    detached = new.detached;
    holds = record { nothing = new.holds.nothing; session_is = new.holds.session_is ∙ sym new.session_is; earlier_is = new.holds.earlier_is; types_are = new.holds.types_are };
    still = from_nothing (λ (w : Past). is_drawing w session ≡ false) (idle_stays past past [] session none refl);
  }

  pub new_stands : Stands law p run
  new_stands = record {
    nodes = nodes;
    trees = trees;
    typed = typed;
    run_is = run_is;
    session = own ∙ sym new.session_is;
    few = subst (λ (cs : List Command). length cs ≤ MOST_COMMANDS) (sym new.commands_are) few;
    commands = λ i. ap (λ (s : ℕ). command_at law s i) new.session_is ∙ (theirs i ∙ ap (λ (cs : List Command). slice_get cs i) (sym new.commands_are));
    index = new.first ∙ sym (ap (next_index past) new.session_is ∙ from_nothing (λ (w : Past). next_index w session ≡ 0) (next_stays past past [] session none));
    within = subst (λ (i : ℕ). i ≤ length run.commands) (sym new.first) (let h : 0 ≤ length run.commands = omega arith in h);
    at = subst (λ (f : Phase). StandsAt law p run f) (sym new.outside) outside;
  }
