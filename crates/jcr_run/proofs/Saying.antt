-- What a session may answer where it stands, and where it stands once that is said.
use Rattle.std.proofs.Common.{◌≡◌, ℕ, zero, suc, ◌+◌, ◌<◌, ◌≤◌, length, Bool, true, false, cond, not, ◌||◌, Some, None, Option, List, [], ◌∷◌, ◌++◌, is_some, refl, sym, ap, ◌∙◌, subst, arith}
use Rattle.std.specs.Prelude.{◌==◌, slice_get}
use Rattle.std.specs.List.{list_any}
use mathlib.Core.Bool.{false≢true}
use Rattle.jr_path.specs.Lists.{Text}
use Rattle.jr_rev.specs.declared.revision.Revision.{Revision}
use Rattle.oak_machine.specs.declared.event.Event.TheVariants as event
use Rattle.oak_machine.specs.declared.event.StepKind.{StepKind}
use Rattle.oak_machine.specs.History.{History, Past}
use Rattle.std.specs.Option.{option_map_or}
use Rattle.oak_machine.specs.Commits.{is_committed}
use Rattle.oak_machine.specs.Laws.{after}
use Rattle.oak_machine.specs.Runs.{AreNodes, IsRun}
use Rattle.oak_machine.specs.Sessions.{drawn_among, drawn_since, is_attached, is_drawing, next_index, since}
use Rattle.oak_port.specs.Ports.{Answers, HasRoom, Idle, IsAtRest, OthersAlone, Shown, Work, end_told, is_by_due}
use Rattle.jcr_trans.specs.declared.command.Command.{Command}
use Rattle.core_heads.proofs.Passing.{among_same, next_more, next_stays}
use Rattle.jcr_law.specs.declared.law.JcrLaw.{JcrLaw}
use Rattle.jcr_law.specs.Lasting.{says_of, starts_of}
use Rattle.jcr_law.specs.Law.{SaysBy}
use Rattle.jcr_law.specs.Since.{before_turn, is_move_of, is_pinning, is_unmoved, is_unpinned}
use Rattle.jcr_law.specs.State.{Call, call_of, command_at, is_ok_text}
use Rattle.jcr_law.specs.Calls.{call_after}
use Rattle.jcr_held.specs.Holds.{Holds}
use Rattle.core_calls.specs.Seeing.{SeesTrees, SeesTyped}
use Rattle.core_calls.proofs.Called.{said_call}
use Rattle.jcr_steps.specs.declared.limits.TheConstants.{COMMIT_REPLY_BYTES, VECTOR_REPLY_BYTES}
use Rattle.jcr_run.specs.declared.limits.TheConstants.{MOST_COMMANDS}
use Rattle.jcr_run.specs.declared.run.Fetch.{Fetch}
use Rattle.jcr_run.specs.declared.run.Phase.TheVariants as phase
use Rattle.jcr_run.specs.declared.run.SessionRun.{SessionRun}
use Rattle.jcr_run.specs.declared.turn.Turn.{Turn}
use Rattle.jcr_run.specs.declared.turn.Turn.TheVariants as turn
use Rattle.jcr_run.specs.Asked.{IsAsked, HasOnlyToTell, MayAnswer, MayForgo, MaySettle, has_drawn, history_told}
use Rattle.jcr_run.specs.Nearing.{IsReply}
use Rattle.jcr_run.specs.Standing.{HasAwaited, HasCounted, HasCursor, IsBeside, IsBetweenCommands, IsFetchFor, IsFresh, IsIn, IsReading, IsSeenFor, IsTurned, KeepsCursor, is_revision_written, stage_at}
use Rattle.jcr_run.proofs.Committing.{own}
use Rattle.jcr_run.proofs.Cursors.{cursor_of_call, has_cursor_over}
use Rattle.jcr_run.proofs.Nexts.{unwanted}
use Rattle.jcr_run.proofs.Stages.{order_like}
use Rattle.jcr_run.proofs.Telling.{IsToldOver, at_rest, rest_ends, rest_seen, run_under, says_behind, started_resting, told_call, told_inside, told_over}
use Rattle.jcr_run.proofs.Turning.{has_turned_later, is_awaiting, kept, never_ends}
use Rattle.jcr_run.proofs.Waiting.{all_beside, attached_beside, by_waits, called_beside, has_cursor_beside, in_beside, next_beside}
use Rattle.jcr_run.proofs.Waiting.{shown_beside, unmoved_beside}
use Rattle.jcr_run.proofs.Waiting.{unpinned_beside}

-- ---- before a reply

-- a reply is no write, and nothing is waited for behind it
said_due : (due : Option StepKind) (s i : ℕ) (text : Text) (told : Past) → is_by_due due (event.Said s i text ∷ told) ≡ true
said_due due s i text [] = refl
said_due due s i text (e ∷ told) = refl

said_awaited : (s i : ℕ) (text : Text) (told past : Past) (work : Work) → HasAwaited past (event.Said s i text ∷ told) work
said_awaited s i text [] past work = tt
said_awaited s i text (e ∷ told) past work = tt

pub get_within : {X : Type 0} (xs : List X) (i : ℕ) (x : X) → slice_get xs i ≡ Some x → i < length xs
get_within [] i x h = absurd (false≢true (ap is_some h))
get_within (y ∷ xs) zero x h = omega arith
get_within (y ∷ xs) (suc i) x h = let r : i < length xs = get_within xs i x h in omega arith

module _ (law : JcrLaw) (m : Command) (c : Call) where
  -- the session is asked for the same command, whatever it holds, and wherever it says that it stands
  pub asked_like : (p : Shown) (a b : SessionRun) → b.session ≡ a.session → b.commands ≡ a.commands → b.index ≡ a.index → b.fetch ≡ a.fetch → b.attached ≡ a.attached → IsAsked law p a m c → IsAsked law p b m c
  asked_like p a b session commands index fetch attached asked = record {
    inside = subst (λ (x : Bool). IsIn law p x) (sym attached) asked.inside;
    session = asked.session ∙ sym session;
    few = subst (λ (cs : List Command). length cs ≤ MOST_COMMANDS) (sym commands) asked.few;
    commands = λ i. ap (λ n. command_at law n i) session ∙ (asked.commands i ∙ ap (λ (cs : List Command). slice_get cs i) (sym commands));
    index = index ∙ (asked.index ∙ ap (next_index p.history.past) (sym session));
    rests = asked.rests;
    unread = fetch ∙ asked.unread;
    still = asked.still;
    next = ap (λ (cs : List Command). slice_get cs b.index) commands ∙ (ap (λ (i : ℕ). slice_get a.commands i) index ∙ asked.next);
    call = asked.call;
  }

  module _ (old new : Shown) (run : SessionRun) (asked : IsAsked law old run m c) (beside : IsBeside law old new) where
    -- while others add events, too
    pub asked_waits : HasOnlyToTell new.session new.work → IsAsked law new run m c
    asked_waits rests = record {
      inside = in_beside law old new beside asked.inside.nodes asked.inside;
      session = beside.session ∙ asked.session;
      few = asked.few;
      commands = asked.commands;
      index = asked.index ∙ (ap (next_index old.history.past) (sym asked.session) ∙ (sym (next_beside law old new beside) ∙ ap (next_index new.history.past) (beside.session ∙ asked.session)));
      rests = rests;
      unread = asked.unread;
      still = shown_beside law old new beside (λ h n. is_drawing h.past n ≡ false) ((all_beside law old new beside asked.inside.nodes).idle asked.still);
      next = asked.next;
      call = called_beside law old new beside asked.inside.nodes c asked.call;
    }

    pub drawn_waits : drawn_since new.history.past new.session ≡ drawn_since old.history.past old.session
    drawn_waits = shown_beside law old new beside (λ h n. drawn_since h.past n ≡ drawn_since old.history.past old.session) (all_beside law old new beside asked.inside.nodes).drawn

    pub says_waits : new.work ≡ old.work → (text : Text) → SaysBy law (history_told old) old.session run.index text → SaysBy law (history_told new) new.session run.index text
    says_waits work text says = subst (λ (w : Work). SaysBy law (after (end_told w) new.history) new.session run.index text) (sym work)
        (says_behind law old new old.work run.index text beside asked.inside.nodes asked.rests says)

    -- what was left to be told still is
    pub rests_waits : new.work ≡ old.work → HasOnlyToTell new.session new.work
    rests_waits work = subst (λ (w : Work). HasOnlyToTell new.session w) (sym work) (subst (λ (s : ℕ). HasOnlyToTell s old.work) (sym beside.session) asked.rests)

-- ---- a reply is said

module _ (law : JcrLaw) (old new : Shown) (run : SessionRun) (text : Text) (may : MayAnswer law old run text) where
  -- the session as its command began
  abbrev asking : SessionRun
  asking = record run { attached = may.began }

  -- what may be answered may still be answered after events of others
  pub answer_waits : IsBeside law old new → new.work ≡ old.work → MayAnswer law new run text
  answer_waits beside work = record {
    began = may.began;
    command = may.command;
    call = may.call;
    asked = asked_waits law may.command may.call old new asking may.asked beside (rests_waits law may.command may.call old new asking may.asked beside work);
    says = says_waits law may.command may.call old new asking may.asked beside work text may.says;
    stands = attached_beside law old new beside may.asked.inside.nodes ∙ may.stands;
    cursor = subst (λ (o : Option Revision). HasCursor new.history.past new.session (call_after (is_ok_text text) (is_some o) may.call may.command)) (sym (drawn_waits law may.command may.call old new asking may.asked beside))
        (has_cursor_beside law old new beside may.asked.inside.nodes (call_after (is_ok_text text) (has_drawn old) may.call may.command) may.cursor);
    leaves = subst (λ (o : Option Revision). Holds (call_after (is_ok_text text) (is_some o) may.call may.command) run.held) (sym (drawn_waits law may.command may.call old new asking may.asked beside)) may.leaves;
  }

  abbrev then_run : SessionRun
  then_run = record run { index = run.index + 1; phase = phase.Between; changes = None }

  -- once it is said, the session stands before its next command
  pub answered_turns : Answers (starts_of law) (says_of law) old new run.index text → IsTurned law old new run then_run (turn.Said run.index)
  answered_turns done = record {
    others = done.others;
    own = event.Said old.session run.index text ∷ end_told old.work;
    grows = done.grows;
    beside = done.beside;
    alone = done.alone;
    tells = (refl, text, end_told old.work, rest_ends old.session old.work may.asked.rests, refl);
    same = (refl, refl);
    made = record {
      stays = inside_before.stays;
      seen = rest_seen old.session old.work (after done.others old.history) may.asked.rests;
      as_due = said_due old.due old.session run.index text (end_told old.work);
      quiet = λ still. said_due None old.session run.index text (end_told old.work);
      ended = said_awaited old.session run.index text (end_told old.work) (done.others ++ old.history.past) new.work;
    };
    in_order = tt;
    stands = record {
      nodes = moved (λ h s. AreNodes h.clusters h.sessions) may.asked.inside.nodes;
      trees = moved (λ h s. SeesTrees law h.clusters h.sessions h.begin) may.asked.inside.trees;
      typed = moved (λ h s. SeesTyped law h.clusters h.sessions h.begin) may.asked.inside.typed;
      run_is = done.grows.run;
      session = done.session ∙ may.asked.session;
      few = may.asked.few;
      commands = may.asked.commands;
      index = sym (moved (λ h s. next_index h.past run.session ≡ run.index + 1) counted);
      within = behind;
      at = (inside_now, between_now);
    };
  }
    where
      behind : run.index + 1 ≤ length run.commands
      behind = let w : run.index < length run.commands = get_within run.commands run.index may.command may.asked.next in omega arith

      apart : Past
      apart = done.others ++ old.history.past

      q : Past
      q = end_told old.work ++ apart

      over : IsToldOver old.session (end_told old.work) apart
      over = told_over old.session old.work may.asked.rests apart

      said : Past
      said = event.Said old.session run.index text ∷ q

      moved : (F : History → ℕ → Type 0) → F (record old.history { past = said }) old.session → F new.history new.session
      moved F x = subst (λ (h : History). F h new.session) (sym done.grows.grown) (subst (λ (s : ℕ). F (record old.history { past = said }) s) (sym done.session) x)

      whole : IsRun (starts_of law) (says_of law) (record old.history { past = said })
      whole = subst (λ (h : History). IsRun (starts_of law) (says_of law) h) done.grows.grown done.grows.run

      one : ◌≡◌ {A = ℕ} (cond (run.session == run.session) 1 0) 1
      one = ap (λ b. cond b 1 0) (own run.session)

      counted : next_index said run.session ≡ run.index + 1
      counted =
          subst (λ (s : ℕ). next_index (event.Said s run.index text ∷ q) run.session ≡ run.index + 1) (sym may.asked.session)
          (next_more run.session (event.Said run.session run.index text) q
          ∙ (ap (λ n. next_index q run.session + n) one
          ∙ ap (λ n. n + 1) (subst (λ (s : ℕ). next_index q s ≡ next_index old.history.past s) may.asked.session
          (over.next ∙ next_stays apart done.others old.history.past old.session done.grows.theirs) ∙ sym may.asked.index)))

      run_before : IsRun (starts_of law) (says_of law) (after done.others old.history)
      run_before = run_under law (end_told old.work) (after done.others old.history) whole.1

      before_shown : Shown
      before_shown = record old { history = after done.others old.history }

      waited : IsBeside law old before_shown
      waited = record { others = done.others; grows = record { grown = refl; theirs = done.grows.theirs; run = run_before }; session = refl; beside = refl; alone = done.alone }

      inside_before : IsIn law before_shown may.began
      inside_before = in_beside law old before_shown waited may.asked.inside.nodes may.asked.inside

      -- what the command after it is run with
      called_said : call_of law old.history.begin said old.session ≡ Some (call_after (is_ok_text text) (is_some (drawn_since q old.session)) may.call may.command)
      called_said = said_call law old.history.begin q old.session run.index text may.call may.command
          (told_call law (after done.others old.history) old.session old.work may.asked.rests may.asked.inside.nodes whole.1
          ∙ called_beside law old before_shown waited may.asked.inside.nodes may.call may.asked.call)
          (ap (λ (s : ℕ). command_at law s run.index) may.asked.session ∙ (may.asked.commands run.index ∙ may.asked.next))

      drawn_same : drawn_since q old.session ≡ drawn_since old.history.past old.session
      drawn_same = over.drawn ∙ drawn_waits law may.command may.call old before_shown asking may.asked waited

      stands_before : is_attached q old.session ≡ run.attached
      stands_before = over.attached ∙ (attached_beside law old before_shown waited may.asked.inside.nodes ∙ may.stands)

      inside_told : IsIn law (record old { history = record old.history { past = q } }) may.began
      inside_told = told_inside law before_shown old.work may.began may.asked.rests whole.1 inside_before

      cursor_said : KeepsCursor law (record old.history { past = said }) old.session
      cursor_said = cursor_of_call law (record old.history { past = said }) old.session (call_after (is_ok_text text) (is_some (drawn_since q old.session)) may.call may.command) called_said
          (λ unpinned. subst (λ (o : Option Revision). HasCursor said old.session (call_after (is_ok_text text) (is_some o) may.call may.command)) (sym drawn_same)
          (has_cursor_over apart said old.session (call_after (is_ok_text text) (has_drawn old) may.call may.command) over.cursor
          (has_cursor_beside law old before_shown waited may.asked.inside.nodes (call_after (is_ok_text text) (has_drawn old) may.call may.command) may.cursor)))

      inside_said : IsIn law (record old { history = record old.history { past = said } }) run.attached
      inside_said = record {
        nodes = inside_before.nodes;
        trees = inside_before.trees;
        typed = inside_before.typed;
        run = whole;
        login = inside_told.login;
        stays = inside_told.stays;
        began = subst (λ (p : Past). is_attached p old.session ≡ run.attached) (sym (ap (λ (b : Bool). cond (b || false) said (before_turn q old.session)) (own old.session))) stands_before;
        cursor = cursor_said;
      }

      inside_now : IsIn law new run.attached
      inside_now = let y = moved (λ h s. IsIn law (record old { history = h; session = s }) run.attached) inside_said in
          record { nodes = y.nodes; trees = y.trees; typed = y.typed; run = y.run; login = y.login; stays = y.stays; began = y.began; cursor = y.cursor }

      fresh_said : IsFresh said old.session
      fresh_said = record {
        first = ap (λ (b : Bool). drawn_among (cond (b || false) [] (event.Said old.session run.index text ∷ since q old.session)) old.session) (own old.session);
        idle = among_same q (event.Said old.session run.index text) (λ r. refl) q old.session ∙ over.idle ((all_beside law old before_shown waited may.asked.inside.nodes).idle may.asked.still);
      }

      unmoved_said : is_unmoved said old.session ≡ true
      unmoved_said = ap (λ (b : Bool). not (list_any (is_move_of old.session) (cond (b || false) [] (event.Said old.session run.index text ∷ since q old.session)))) (own old.session)

      unpinned_said : is_unpinned said old.session ≡ true
      unpinned_said = ap
          (λ (b : Bool). not
          (list_any (is_pinning old.session) (cond (b || false) [] (event.Said old.session run.index text ∷ since q old.session))))
          (own old.session)

      between_now : IsBetweenCommands law new then_run
      between_now = record {
        call = call_after (is_ok_text text) (has_drawn old) may.call may.command;
        is = moved (λ h s. call_of law h.begin h.past s ≡ Some (call_after (is_ok_text text) (has_drawn old) may.call may.command))
            (called_said ∙ ap (λ (o : Option Revision). Some (call_after (is_ok_text text) (is_some o) may.call may.command)) drawn_same);
        holds = may.leaves;
        unmoved = moved (λ h s. is_unmoved h.past s ≡ true) unmoved_said;
        unpinned = moved (λ h s. is_unpinned h.past s ≡ true) unpinned_said;
        fresh = moved (λ h s. IsFresh h.past s) fresh_said;
        reads = subst (λ (o : Option Fetch). IsReading new.work o) (sym may.asked.unread) done.work;
        due = λ some. absurd (false≢true (sym (ap is_some may.asked.unread) ∙ some));
        for = subst (λ (o : Option Fetch). IsFetchFor then_run o) (sym may.asked.unread) tt;
        changes = tt;
        wanted = unwanted (call_after (is_ok_text text) (has_drawn old) may.call may.command) then_run may.asked.unread;
      }

-- want of memory may still be answered, too
pub forgo_waits : (law : JcrLaw) (old new : Shown) (run : SessionRun) (drew : Bool) → IsBeside law old new → HasOnlyToTell new.session new.work → MayForgo law old run drew → MayForgo law new run drew
forgo_waits law old new run drew beside rests may = record {
  command = may.command;
  call = may.call;
  asked = asked_waits law may.command may.call old new run may.asked beside rests;
  unmoved = unmoved_beside law old new beside may.asked.inside.nodes may.unmoved;
  unpinned = unpinned_beside law old new beside may.asked.inside.nodes may.unpinned;
  drew_is = ap is_some (drawn_waits law may.command may.call old new run may.asked beside) ∙ may.drew_is;
  uncommitted = shown_beside law old new beside (λ h n. option_map_or (is_committed h.past) (drawn_since h.past n) false ≡ false)
      (ap (λ (o : Option Revision). option_map_or (is_committed (beside.others ++ old.history.past)) o false) (all_beside law old new beside may.asked.inside.nodes).drawn
      ∙ (all_beside law old new beside may.asked.inside.nodes).uncommitted may.asked.still may.uncommitted);
  holds = may.holds;
}

-- and so may a reply before what is held is brought up to it
pub settle_waits : (law : JcrLaw) (old new : Shown) (run : SessionRun) (text : Text) → IsBeside law old new → new.work ≡ old.work → MaySettle law old run text → MaySettle law new run text
settle_waits law old new run text beside work may = record {
  command = may.command;
  call = may.call;
  asked = asked_waits law may.command may.call old new run may.asked beside (rests_waits law may.command may.call old new run may.asked beside work);
  says = says_waits law may.command may.call old new run may.asked beside work text may.says;
  first = ap is_some (drawn_waits law may.command may.call old new run may.asked beside) ∙ may.first;
  unmoved = unmoved_beside law old new beside may.asked.inside.nodes may.unmoved;
  cursor = has_cursor_beside law old new beside may.asked.inside.nodes (call_after (is_ok_text text) false may.call may.command) may.cursor;
  unviewed = may.unviewed;
  accepts = may.accepts;
  holds = may.holds;
}

-- ---- the place of a reply

module _ (law : JcrLaw) (old : Shown) (run : SessionRun) (text : Text) (may : MayAnswer law old run text) where
  -- there are no more replies than commands
  pub index_small : run.index < MOST_COMMANDS
  index_small =
      let w : run.index < length run.commands = get_within run.commands run.index may.command may.asked.next in
      let f : length run.commands ≤ MOST_COMMANDS = may.asked.few in
      omega arith

  pub may_index : run.index ≡ next_index old.history.past old.session
  may_index = may.asked.index ∙ ap (next_index old.history.past) (sym may.asked.session)

  pub may_rest : IsAtRest old.work
  may_rest = at_rest old.session old.work may.asked.rests

  pub may_says : SaysBy law (history_told old) old.session run.index text
  may_says = may.says

  -- with a place kept, and events of others before
  pub answer_later : (new : Shown) (room : Option ℕ) → OthersAlone (starts_of law) (says_of law) old new old.work room → MayAnswer law new run text
  answer_later new room waits = answer_waits law old new run text may (by_waits law old new old.work room waits) waits.work_is

  pub said_later : (mid new : Shown) (room : Option ℕ) (now : SessionRun) (t : Turn) → OthersAlone (starts_of law) (says_of law) old mid old.work room → HasCounted law mid new run now t → HasCounted law old new run now t
  said_later mid new room now t waits turned =
      let beside = by_waits law old mid old.work room waits in
      has_turned_later law old mid new run now t may.asked.inside.nodes (kept waits.work_is (waits.same_due refl)) beside
      (never_ends law mid new run now (in_beside law old mid beside may.asked.inside.nodes may.asked.inside)) turned

-- ---- behind calls that left nothing being done

-- a session for which nothing was to be done, and is so, behind events of others
pub idle_later : (law : JcrLaw) (old mid new : Shown) (run now : SessionRun) (t : Turn) → {attached : Bool} → IsIn law old attached → HasOnlyToTell old.session old.work → mid.work ≡ Idle → IsBeside law old mid → HasCounted law mid new run now t → HasCounted law old new run now t
idle_later law old mid new run now t inside was is beside turned =
    has_turned_later law old mid new run now t inside.nodes (started_resting old mid (ap is_revision_written is) (ap is_awaiting is) was) beside
    (never_ends law mid new run now (in_beside law old mid beside inside.nodes inside)) turned

-- ---- a turn of a session that holds something else, or says that it stands elsewhere

pub turned_like : (law : JcrLaw) (old new : Shown) (run like now : SessionRun) (t : Turn) → like.session ≡ run.session → like.commands ≡ run.commands → like.index ≡ run.index → ((k : StepKind) → t ≡ turn.Stepped k → stage_at run.phase old.work ≤ stage_at like.phase old.work) → HasCounted law old new like now t → HasCounted law old new run now t
turned_like law old new run like now (turn.Stepped k) session commands index stage h = record { others = h.others; own = h.own; grows = h.grows; beside = h.beside; alone = h.alone; made = h.made; in_order = order_like law old new run like now (turn.Stepped k) (stage k refl) h.in_order; same = (h.same.0 ∙ session, h.same.1 ∙ commands); tells = h.tells; stands = h.stands }
turned_like law old new run like now (turn.Said i) session commands index stage h = record { others = h.others; own = h.own; grows = h.grows; beside = h.beside; alone = h.alone; made = h.made; in_order = tt; same = (h.same.0 ∙ session, h.same.1 ∙ commands); tells = subst (λ n. Rattle.jcr_run.specs.Standing.Tells (after h.others old.history) old.session n (turn.Said i) h.own) index h.tells; stands = h.stands }
turned_like law old new run like now (turn.Waiting q) session commands index stage h = record { others = h.others; own = h.own; grows = h.grows; beside = h.beside; alone = h.alone; made = h.made; in_order = tt; same = (h.same.0 ∙ session, h.same.1 ∙ commands); tells = h.tells; stands = h.stands }
turned_like law old new run like now turn.Ended session commands index stage h = record { others = h.others; own = h.own; grows = h.grows; beside = h.beside; alone = h.alone; made = h.made; in_order = tt; same = (h.same.0 ∙ session, h.same.1 ∙ commands); tells = h.tells; stands = h.stands }
turned_like law old new run like now turn.Read session commands index stage h = absurd h.tells
turned_like law old new run like now turn.Memory session commands index stage h = tt

-- a reply, whatever is behind
pub replied_like : (law : JcrLaw) (old new : Shown) (run like now : SessionRun) (t : Turn) → like.session ≡ run.session → like.commands ≡ run.commands → like.index ≡ run.index → IsReply t → HasCounted law old new like now t → HasCounted law old new run now t
replied_like law old new run like now t session commands index reply h = turned_like law old new run like now t session commands index (λ k is. absurd (subst (λ (x : Turn). IsReply x) is reply)) h

pub room_kept : (starts : _) (says : _) (old new : Shown) (work : Work) (n : ℕ) → OthersAlone starts says old new work (Some n) → HasRoom new.room n
room_kept starts says old new work n waits = subst (λ (x : Option ℕ). HasRoom x n) (sym waits.room_is) (let h : n ≤ n = omega arith in h)

pub room_stays : (starts : _) (says : _) (old new : Shown) (work : Work) (n : ℕ) → OthersAlone starts says old new work old.room → HasRoom old.room n → HasRoom new.room n
room_stays starts says old new work n waits h = subst (λ (x : Option ℕ). HasRoom x n) (sym waits.room_is) h

pub room_less : (o : Option ℕ) (n m : ℕ) → m ≤ n → HasRoom o n → HasRoom o m
room_less None n m le h = h
room_less (Some k) n m le h = let a : n ≤ k = h in omega arith

-- the place of a vector is one for want of memory
pub refused_room : (was is : Option ℕ) → is ≡ was → HasRoom was VECTOR_REPLY_BYTES → HasRoom is COMMIT_REPLY_BYTES
refused_room was is same h = subst (λ (x : Option ℕ). HasRoom x COMMIT_REPLY_BYTES) (sym same) (room_less was VECTOR_REPLY_BYTES COMMIT_REPLY_BYTES (let le : 40 ≤ 292 = omega arith in le) h)
