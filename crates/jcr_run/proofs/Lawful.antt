-- Which replies the law lets a session say between its commands.
use Rattle.std.proofs.Common.{◌≡◌, ℕ, ◌≤◌, length, Bool, true, false, cond, Some, None, Option, List, [], ◌∷◌, ◌++◌, is_some, nat_eq, nat_lt, Result, Ok, Err, refl, sym, ap, ◌∙◌, subst}
use Rattle.std.specs.Prelude.{option_map, slice_get, string_bytes}
use Rattle.std.specs.Option.{option_map_or}
use Rattle.std.specs.declared.alloc.Global.{Global}
use Rattle.std.specs.declared.string.String.{String}
use mathlib.Core.Bool.{false≢true}
use Rattle.jr_path.specs.Lists.{Text}
use Rattle.jr_rev.specs.declared.revision.Revision.{Revision}
use Rattle.jr_rev.specs.declared.vector.RevVec.{RevVec}
use Rattle.jr_tree.specs.declared.edit.Write.{Write}
use Rattle.jr_tree.specs.declared.shared.Refusal.{Refusal}
use Rattle.jr_tree.specs.declared.shared.Who.{Who}
use Rattle.jr_items.specs.Refusals.{unsupported}
use Rattle.jcr_trans.specs.Commands.{word_of}
use Rattle.oak_machine.specs.History.{History, Past}
use Rattle.oak_machine.specs.Laws.{Asks, after}
use Rattle.oak_machine.specs.Commits.{is_committed}
use Rattle.oak_machine.specs.Sessions.{base_of, drawn_since, is_attached}
use Rattle.oak_port.specs.Ports.{HasRoom, Idle, Shown, Work, end_told}
use Rattle.jcr_trans.specs.Answers.{Refused, ShowsVector}
use Rattle.jcr_trans.specs.Texts.{answer_text, memory_text}
use Rattle.jcr_trans.specs.declared.command.Command.{Command}
use Rattle.jcr_trans.specs.declared.command.Command.TheVariants as command
use Rattle.jcr_view.specs.Outcomes.{is_viewed}
use Rattle.jcr_read.specs.Reading.{refused}
use Rattle.jcr_law.specs.declared.law.JcrLaw.{JcrLaw}
use Rattle.jcr_law.specs.Built.{Allowed, Asked, Unsupported, asked}
use Rattle.jcr_law.specs.Commits.{edit_due, refusal_of_due, refusal_of_plan, unwritten_answer}
use Rattle.jcr_law.specs.Law.{IsUnmoved, IsUnpinned, MaySay, SaysBy, asked_by, barred, head, memory, no_support, no_text, queried}
use Rattle.jcr_law.specs.Law.{refused_edit, unwritten, viewed}
use Rattle.jcr_law.specs.Makes.{IsAskedAt}
use Rattle.jcr_law.specs.Since.{before_turn}
use Rattle.jr_types.specs.Rules.{TypesOk}
use Rattle.jcr_law.specs.Starting.{call_based, call_has_base}
use Rattle.jcr_law.specs.State.{Call, accepted, command_at, is_ok_text}
use Rattle.jcr_law.specs.Calls.{call_after}
use Rattle.jcr_call.specs.Comings.{reply_to_due}
use Rattle.jcr_call.specs.declared.coming.Coming.TheVariants as coming
use Rattle.jcr_held.specs.Accepts.{AcceptsAs}
use Rattle.jcr_held.specs.Comes.{ComesTo}
use Rattle.jcr_held.specs.Holds.{Holds}
use Rattle.jcr_held.specs.declared.held.Held.{Held}
use Rattle.core_calls.proofs.Accepting.{answer_accepts}
use Rattle.core_calls.proofs.Unmoved.{attached_stands}
use Rattle.jcr_steps.specs.declared.limits.TheConstants.{VECTOR_REPLY_BYTES}
use Rattle.jcr_run.specs.declared.next.Due.{Due}
use Rattle.jcr_run.specs.declared.next.Due.TheVariants as due
use Rattle.jcr_run.specs.declared.run.Fetch.{Fetch}
use Rattle.jcr_run.specs.declared.run.Phase.{Phase}
use Rattle.jcr_run.specs.declared.run.Phase.TheVariants as phase
use Rattle.jcr_run.specs.declared.run.SessionRun.{SessionRun}
use Rattle.jcr_run.specs.Asked.{ComesNext, HasSeen, IsAsked, IsQueried, IsUnviewedNext, MayAnswer, MayForgo, MaySettle, Settles, has_drawn, history_told}
use Rattle.jcr_run.specs.Standing.{HasCursor, IsBetweenCommands, IsCalled, IsIn, IsBaseMoved, IsReading, Stands, StandsAt, due_by, due_for, due_to, is_allowed}
use Rattle.jcr_run.specs.Standing.{is_attaching, is_moving, reads_for}
use Rattle.jcr_run.proofs.Cursors.{accepts_by, cursor_refused, cursor_settled}
use Rattle.jcr_run.proofs.Nexts.{allowed_due, barred_due, due_at, due_number, only_head, only_query, seen_viewed, sets_cursor, sets_none, unviewed_due}
use Rattle.jcr_run.proofs.Saying.{asked_like, room_less}
use Rattle.jcr_run.proofs.Telling.{IsToldOver, rest_idle, told_over}

-- ---- how a command is asked for

-- what the next commands of sessions ask for by the law
abbrev pub asks_of : JcrLaw → Asks
asks_of law = λ s i e. IsAskedAt law s i e

-- as by a session that was attached to a checkpoint when its command began, or wasn't
asked_is : (h : History) (s : ℕ) (attached : Bool) (m : Command) → is_attached (before_turn h.past s) s ≡ attached → asked_by h s m ≡ cond (is_allowed attached m) (Allowed m) (Unsupported m)
asked_is h s attached m began = ap (λ (b : Bool). asked b m) began

pub asked_allowed : (h : History) (s : ℕ) (attached : Bool) (m : Command) → is_attached (before_turn h.past s) s ≡ attached → is_allowed attached m ≡ true → asked_by h s m ≡ Allowed m
asked_allowed h s attached m began allowed = asked_is h s attached m began ∙ ap (λ (b : Bool). cond b (Allowed m) (Unsupported m)) allowed

asked_unsupported : (h : History) (s : ℕ) (attached : Bool) (m : Command) → is_attached (before_turn h.past s) s ≡ attached → is_allowed attached m ≡ false → asked_by h s m ≡ Unsupported m
asked_unsupported h s attached m began allowed = asked_is h s attached m began ∙ ap (λ (b : Bool). cond b (Allowed m) (Unsupported m)) allowed

-- a refusal is no text that accepts
pub refused_text : (r : Refusal) → is_ok_text (no_text r) ≡ false
refused_text r = answer_accepts (refused r)

module _ (law : JcrLaw) (p : Shown) (run : SessionRun) (m : Command) (c : Call) (is : IsAsked law p run m c) where
  command_is : command_at law p.session run.index ≡ Some m
  command_is = ap (λ (s : ℕ). command_at law s run.index) is.session ∙ (is.commands run.index ∙ is.next)

  pub says_allowed : (text : Text) → is_allowed run.attached m ≡ true → MaySay law p.history p.session (Allowed m) text → SaysBy law p.history p.session run.index text
  says_allowed text allowed may = (m, command_is, subst (λ (a : Asked). MaySay law p.history p.session a text) (sym (asked_allowed p.history p.session run.attached m is.inside.began allowed)) may)

  says_barred : is_allowed run.attached m ≡ false → IsUnmoved p.history p.session → SaysBy law p.history p.session run.index (no_support m)
  says_barred allowed unmoved = (m, command_is, subst (λ (a : Asked). MaySay law p.history p.session a (no_support m)) (sym (asked_unsupported p.history p.session run.attached m is.inside.began allowed)) (barred m unmoved))

  -- where the base hasn't moved the session is attached as it was
  pub attached_still : IsUnmoved p.history p.session → is_attached p.history.past p.session ≡ run.attached
  attached_still unmoved = attached_stands p.history.past p.session unmoved ∙ is.inside.began

  -- where nothing is to be told with the reply
  pub says_idle : p.work ≡ Idle → (text : Text) → SaysBy law p.history p.session run.index text → SaysBy law (history_told p) p.session run.index text
  says_idle idle text says = subst (λ (w : Work). SaysBy law (after (end_told w) p.history) p.session run.index text) (sym idle) says

  over : IsToldOver p.session (end_told p.work) p.history.past
  over = told_over p.session p.work is.rests p.history.past

  -- behind what is told with the reply
  pub says_behind_told : (text : Text) → is_allowed run.attached m ≡ true → MaySay law (history_told p) p.session (Allowed m) text → SaysBy law (history_told p) p.session run.index text
  says_behind_told text allowed may = (
    m,
    command_is,
    subst (λ (a : Asked). MaySay law (history_told p) p.session a text)
        (sym (asked_allowed (history_told p) p.session run.attached m (ap (λ (q : Past). is_attached q p.session) over.before ∙ is.inside.began) allowed)) may,
  )

  uncommitted_told : (o : Option Revision) → option_map_or (is_committed (end_told p.work ++ p.history.past)) o false ≡ option_map_or (is_committed p.history.past) o false
  uncommitted_told None = refl
  uncommitted_told (Some r) = over.committed r

  says_memory : option_map_or (is_committed p.history.past) (drawn_since p.history.past p.session) false
      ≡ false → IsUnmoved p.history p.session → IsUnpinned p.history p.session → SaysBy law (history_told p) p.session run.index memory_text
  says_memory none unmoved unpinned = (
    m,
    command_is,
    memory (asked_by (history_told p) p.session m) (over.idle is.still)
        (ap (λ (o : Option Revision). option_map_or (is_committed (end_told p.work ++ p.history.past)) o false) over.drawn
        ∙ (uncommitted_told (drawn_since p.history.past p.session) ∙ none))
        (over.unmoved ∙ unmoved) (over.unpinned ∙ unpinned),
  )

-- ---- once what is held is brought up to the reply

module _ (law : JcrLaw) (p : Shown) (run now : SessionRun) where
  module _ (ok drew : Bool) (tokens : Option (List (List ℕ))) (settles : Settles run now ok drew tokens) where
    -- as it was asked for when it began
    pub settled_asked : (m : Command) (c : Call) → IsAsked law p run m c → IsAsked law p (record now { attached = run.attached }) m c
    settled_asked m c asked = asked_like law m c p run (record now { attached = run.attached }) (ap (λ (r : SessionRun). r.session) settles.same) (ap (λ (r : SessionRun). r.commands) settles.same)
        (ap (λ (r : SessionRun). r.index) settles.same) (ap (λ (r : SessionRun). r.fetch) settles.same) refl asked

    pub settled_attached : now.attached ≡ run.attached
    settled_attached = ap (λ (r : SessionRun). r.attached) settles.same

    pub settled_says : (text : Text) → SaysBy law (history_told p) p.session run.index text → SaysBy law (history_told p) p.session now.index text
    settled_says text says = subst (λ (i : ℕ). SaysBy law (history_told p) p.session i text) (sym (ap (λ (r : SessionRun). r.index) settles.same)) says

    pub settled_leaves : (m : Command) (c : Call) (text : Text) → slice_get run.commands run.index ≡ Some m → Holds c run.held → (ok ≡ true → AcceptsAs run.held tokens c m)
        → is_ok_text text ≡ ok → has_drawn p ≡ drew → Holds (call_after (is_ok_text text) (has_drawn p) c m) now.held
    settled_leaves m c text next holds fit okay drawn =
        subst (λ (b : Bool). Holds (call_after b (has_drawn p) c m) now.held) (sym okay)
        (subst (λ (b : Bool). Holds (call_after ok b c m) now.held) (sym drawn) (settles.holds m c next holds fit))

  pub forgo_answers : (drew : Bool) → MayForgo law p run drew → Settles run now false drew None → MayAnswer law p now memory_text
  forgo_answers drew may settles = record {
    began = run.attached;
    command = may.command;
    call = may.call;
    asked = settled_asked false drew None settles may.command may.call may.asked;
    says = settled_says false drew None settles memory_text
        (says_memory law p run may.command may.call may.asked may.uncommitted may.unmoved may.unpinned);
    leaves = settled_leaves false drew None settles may.command may.call memory_text may.asked.next may.holds (λ ok. absurd (false≢true ok)) (answer_accepts (Refused 16 [])) may.drew_is;
    stands = attached_still law p run may.command may.call may.asked may.unmoved ∙ sym (settled_attached false drew None settles);
    cursor = cursor_refused p.history.past p.session memory_text (has_drawn p) may.call may.command (answer_accepts (Refused 16 []))
        (may.asked.inside.cursor may.call may.asked.call may.unpinned);
  }

  pub settle_answers : (text : Text) → MaySettle law p run text → Settles run now (is_ok_text text) false None → MayAnswer law p now text
  settle_answers text may settles = record {
    began = run.attached;
    command = may.command;
    call = may.call;
    asked = settled_asked (is_ok_text text) false None settles may.command may.call may.asked;
    says = settled_says (is_ok_text text) false None settles text may.says;
    leaves = settled_leaves (is_ok_text text) false None settles may.command may.call text may.asked.next may.holds may.accepts refl may.first;
    stands = attached_still law p run may.command may.call may.asked may.unmoved ∙ sym (settled_attached (is_ok_text text) false None settles);
    cursor = subst (λ (b : Bool). HasCursor p.history.past p.session (call_after (is_ok_text text) b may.call may.command)) (sym may.first) may.cursor;
  }

-- ---- between two commands

-- a session is called on a tree that meets the types
pub called_typed : {attached : Bool} (law : JcrLaw) (p : Shown) (c : Call) → IsIn law p attached → IsCalled law p c → TypesOk c.types c.base
called_typed law p c inside is =
    subst (λ (y : Call). TypesOk y.types y.base) (sym (call_based law p.history.begin p.history.past p.session c is))
    (inside.typed p.history.past inside.run p.session c.who.base (call_has_base law p.history.begin p.history.past p.session c is))

module _ (law : JcrLaw) (p : Shown) (run : SessionRun) (stands : Stands law p run) (between : run.phase ≡ phase.Between) where
  pub at_between : IsIn law p run.attached × IsBetweenCommands law p run
  at_between = subst (λ (f : Phase). StandsAt law p run f) between stands.at

  -- nothing is being read for a command that doesn't read
  pub unread_by : reads_for (due_for run) ≡ false → run.fetch ≡ None
  unread_by none = by run.fetch refl
    where
      by : (o : Option Fetch) → run.fetch ≡ o → run.fetch ≡ None
      by None e = e
      by (Some n) e = absurd (false≢true (sym none ∙ at_between.1.due (ap is_some e)))

  pub idle_by : run.fetch ≡ None → p.work ≡ Idle
  idle_by none = subst (λ (o : Option Fetch). IsReading p.work o) none at_between.1.reads

  module _ (m : Command) (next : slice_get run.commands run.index ≡ Some m) (unread : run.fetch ≡ None) where
    pub between_asked : IsAsked law p run m at_between.1.call
    between_asked = record {
      inside = at_between.0;
      session = stands.session;
      few = stands.few;
      commands = stands.commands;
      index = stands.index;
      rests = rest_idle p.session p.work (idle_by unread);
      unread = unread;
      still = at_between.1.fresh.idle;
      next = next;
      call = at_between.1.is;
    }

    pub between_forgoes : MayForgo law p run false
    between_forgoes = record {
      command = m;
      call = at_between.1.call;
      asked = between_asked;
      unmoved = at_between.1.unmoved;
      unpinned = at_between.1.unpinned;
      drew_is = ap is_some at_between.1.fresh.first;
      uncommitted = ap (λ (o : Option Revision). option_map_or (is_committed p.history.past) o false) at_between.1.fresh.first;
      holds = at_between.1.holds;
    }

    settles_by : (text : Text) → SaysBy law p.history p.session run.index text → is_viewed m ≡ false → HasCursor p.history.past p.session (call_after (is_ok_text text) false at_between.1.call m)
        → (is_ok_text text ≡ true → AcceptsAs run.held None at_between.1.call m) → MaySettle law p run text
    settles_by text says unviewed cursor accepts = record {
      command = m;
      call = at_between.1.call;
      asked = between_asked;
      says = says_idle law p run m at_between.1.call between_asked (idle_by unread) text says;
      first = ap is_some at_between.1.fresh.first;
      unmoved = at_between.1.unmoved;
      cursor = cursor;
      unviewed = unviewed;
      accepts = accepts;
      holds = at_between.1.holds;
    }

    cursor_between : HasCursor p.history.past p.session at_between.1.call
    cursor_between = at_between.0.cursor at_between.1.call at_between.1.is at_between.1.unpinned

    -- a refusal
    pub refusal_settles : (text : Text) → SaysBy law p.history p.session run.index text → is_viewed m ≡ false → is_ok_text text ≡ false → MaySettle law p run text
    refusal_settles text says unviewed refuses = settles_by text says unviewed
        (cursor_refused p.history.past p.session text false at_between.1.call m refuses cursor_between) (λ ok. absurd (false≢true (sym refuses ∙ ok)))

    -- a command that sets no cursor, and leaves the tokens
    plain_settles : (text : Text) → SaysBy law p.history p.session run.index text → is_viewed m ≡ false → sets_cursor m ≡ false → (accepted at_between.1.call m).tokens ≡ at_between.1.call.state.tokens → MaySettle law p run text
    plain_settles text says unviewed none tokens = settles_by text says unviewed
        (cursor_settled p.history.past p.session (is_ok_text text) false at_between.1.call m none cursor_between)
        (λ ok. accepts_by at_between.1.call run.held m None none at_between.1.holds (at_between.1.holds.tokens ∙ sym tokens))

    -- a command that isn't built, or that the session may not run
    pub bar_settles : (text : Text) → due_to run.attached m ≡ due.Bar → text ≡ no_support m → MaySettle law p run text
    bar_settles text is told = subst (λ (t : Text). MaySettle law p run t) (sym told)
        (refusal_settles (no_support m) (says_barred law p run m at_between.1.call between_asked (barred_due run.attached m is) at_between.1.unmoved)
        (unviewed_due run.attached m (ap (λ (d : _). nat_eq (due_number d) 6) is))
        (refused_text (unsupported (word_of m))))

    -- the base
    pub head_settles : (text : Text) (v : RevVec) → due_to run.attached m ≡ due.ShowBase → v ≡ run.held.who.base → text ≡ answer_text (ShowsVector v) → MaySettle law p run text
    head_settles text v is base told = subst (λ (t : Text). MaySettle law p run t) (sym told)
        (plain_settles (answer_text (ShowsVector v))
        (says_allowed law p run m at_between.1.call between_asked (answer_text (ShowsVector v)) (allowed_due run.attached m due.ShowBase is refl).0
        (subst (λ (x : Command). MaySay law p.history p.session (Allowed x) (answer_text (ShowsVector v))) (sym at) (head v there at_between.1.unmoved)))
        (unviewed_due run.attached m (ap (λ (d : _). nat_eq (due_number d) 6) is))
        (subst (λ (x : Command). sets_cursor x ≡ false) (sym at) refl)
        (subst (λ (x : Command). (accepted at_between.1.call x).tokens ≡ at_between.1.call.state.tokens) (sym at) refl))
      where
        at : m ≡ command.Head
        at = only_head m (allowed_due run.attached m due.ShowBase is refl).1

        there : base_of p.history.past p.session ≡ Some v
        there = call_has_base law p.history.begin p.history.past p.session at_between.1.call at_between.1.is
            ∙ ap (λ (w : RevVec). Some w) (ap (λ (w : Who). w.base) (sym at_between.1.holds.who) ∙ sym base)

    -- a query
    pub query_settles : (text : String Global) → due_to run.attached m ≡ due.Query → IsQueried run text → MaySettle law p run (string_bytes text)
    query_settles text is queries =
        let q = only_query m (allowed_due run.attached m due.Query is refl).1 in
        plain_settles (string_bytes text)
        (says_allowed law p run m at_between.1.call between_asked (string_bytes text) (allowed_due run.attached m due.Query is refl).0
        (subst (λ (x : Command). MaySay law p.history p.session (Allowed x) (string_bytes text)) (sym q.2)
        (queried q.0 q.1 at_between.1.call (string_bytes text) at_between.1.is
        (queries m next q.0 q.1 at_between.1.call at_between.1.holds q.2) at_between.1.unmoved)))
        (unviewed_due run.attached m (ap (λ (d : _). nat_eq (due_number d) 6) is))
        (subst (λ (x : Command). sets_cursor x ≡ false) (sym q.2) refl)
        (subst (λ (x : Command). (accepted at_between.1.call x).tokens ≡ at_between.1.call.state.tokens) (sym q.2) refl)

    -- a command for which nothing is to be committed
    module _ (commits : due_to run.attached m ≡ due.Commit) where
      abbrev c : Call
      c = at_between.1.call

      allowed : is_allowed run.attached m ≡ true
      allowed = (allowed_due run.attached m due.Commit commits refl).0

      none_set : sets_cursor m ≡ false
      none_set = sets_none m (ap (λ (d : _). nat_lt (due_number d) 10) (allowed_due run.attached m due.Commit commits refl).1)

      unviewed_now : is_viewed m ≡ false
      unviewed_now = unviewed_due run.attached m (ap (λ (d : _). nat_eq (due_number d) 6) commits)

      refuses : (d : Result (List Write) Refusal) (r : Refusal) → edit_due c m ≡ Some d → refusal_of_due c d ≡ Some r → SaysBy law p.history p.session run.index (no_text r)
      refuses d r is cause = says_allowed law p run m c between_asked (no_text r) allowed (refused_edit m c d r at_between.1.fresh.first at_between.1.is is cause at_between.1.unmoved)

      some_text : (o : Option Refusal) (text : Text) → option_map no_text o ≡ Some text → (r : Refusal) × (o ≡ Some r) × (text ≡ no_text r)
      some_text None text h = absurd (false≢true (ap is_some h))
      some_text (Some r) text h = (r, refl, ap (λ (x : Option Text). elim x [ Some t ↦ t | None ↦ text ]) (sym h))

      says_due : (d : Result (List Write) Refusal) (text : Text) → edit_due c m ≡ Some d → reply_to_due c m d ≡ Some text → SaysBy law p.history p.session run.index text
      says_due (Ok []) text is told =
          subst (λ (t : Text). SaysBy law p.history p.session run.index t) (ap (λ (x : Option Text). elim x [ Some t ↦ t | None ↦ text ]) told)
          (says_allowed law p run m c between_asked (answer_text (unwritten_answer c m)) allowed (unwritten m c at_between.1.fresh.first at_between.1.is is at_between.1.unmoved))
      says_due (Ok (w ∷ ws)) text is told =
          let r = some_text (refusal_of_plan c (w ∷ ws)) text told in
          subst (λ (t : Text). SaysBy law p.history p.session run.index t) (sym r.2) (refuses (Ok (w ∷ ws)) r.0 is r.1)
      says_due (Err r) text is told =
          subst (λ (t : Text). SaysBy law p.history p.session run.index t) (ap (λ (x : Option Text). elim x [ Some t ↦ t | None ↦ text ]) told) (refuses (Err r) r is refl)

      pub commit_settles : (text : String Global) → ComesNext run (coming.Said text)
          → ((x : Call) (held : Held) (n : Command) (t : String Global) → Holds x held → ComesTo x n (coming.Said t) → is_ok_text (string_bytes t) ≡ true → AcceptsAs held None x n) → MaySettle law p run (string_bytes text)
      commit_settles text comes keeps = let x = comes m c next at_between.1.holds (called_typed law p c at_between.0 at_between.1.is) in record {
        command = m;
        call = c;
        asked = between_asked;
        says = says_idle law p run m c between_asked (idle_by unread) (string_bytes text) (says_due x.due (string_bytes text) x.is_due x.comes);
        first = ap is_some at_between.1.fresh.first;
        unmoved = at_between.1.unmoved;
        cursor = cursor_settled p.history.past p.session (is_ok_text (string_bytes text)) false c m none_set cursor_between;
        unviewed = unviewed_now;
        accepts = λ ok. keeps c run.held m text at_between.1.holds x ok;
        holds = at_between.1.holds;
      }

    -- the view answers
    pub see_answers : (now : SessionRun) (text : String Global) → due_to run.attached m ≡ due.See → now ≡ record run { held = now.held } → HasSeen run now (Ok text) → MayAnswer law p now (string_bytes text)
    see_answers now text is same seen =
        let c : Call = at_between.1.call in
        let a = allowed_due run.attached m due.See is refl in
        let x = seen m c next at_between.1.holds in record {
          began = run.attached;
          command = m;
          call = c;
          asked = asked_like law m c p run (record now { attached = run.attached }) (ap (λ (r : SessionRun). r.session) same) (ap (λ (r : SessionRun). r.commands) same) (ap (λ (r : SessionRun). r.index) same) (ap (λ (r : SessionRun). r.fetch) same) refl between_asked;
          says = subst (λ (i : ℕ). SaysBy law (history_told p) p.session i (string_bytes text)) (sym (ap (λ (r : SessionRun). r.index) same))
              (says_idle law p run m c between_asked (idle_by unread) (string_bytes text)
              (says_allowed law p run m c between_asked (string_bytes text) a.0
              (subst (λ (t : Text). MaySay law p.history p.session (Allowed m) t) (sym x.text) (viewed m c (seen_viewed run.attached m a.0 a.1) at_between.1.is at_between.1.unmoved))));
          leaves = subst (λ (b : Bool). Holds (call_after (is_ok_text (string_bytes text)) b c m) now.held) (sym (ap is_some at_between.1.fresh.first)) x.holds;
          stands = attached_still law p run m c between_asked at_between.1.unmoved ∙ sym (ap (λ (r : SessionRun). r.attached) same);
          cursor = cursor_settled p.history.past p.session (is_ok_text (string_bytes text)) (has_drawn p) c m
              (sets_none m (ap (λ (d : _). nat_lt (due_number d) 10) a.1)) cursor_between;
        }

    pub see_forgoes : (now : SessionRun) → now ≡ record run { held = now.held } → Holds at_between.1.call now.held → MayForgo law p now false
    see_forgoes now same holds = record {
      command = m;
      call = at_between.1.call;
      asked = asked_like law m at_between.1.call p run now (ap (λ (r : SessionRun). r.session) same) (ap (λ (r : SessionRun). r.commands) same) (ap (λ (r : SessionRun). r.index) same) (ap (λ (r : SessionRun). r.fetch) same) (ap (λ (r : SessionRun). r.attached) same) between_asked;
      unmoved = at_between.1.unmoved;
      unpinned = at_between.1.unpinned;
      drew_is = ap is_some at_between.1.fresh.first;
      uncommitted = ap (λ (o : Option Revision). option_map_or (is_committed p.history.past) o false) at_between.1.fresh.first;
      holds = holds;
    }

-- ---- once the base moved

-- the reply to a command that moves the base leaves the tokens, and sets no cursor
move_tokens : (m : Command) (c : Call) → is_moving (due_by m) ≡ true → (accepted c m).tokens ≡ c.state.tokens
move_tokens (command.Refresh true) c h = refl
move_tokens (command.Refresh false) c h = refl
move_tokens (command.Attach id) c h = refl
move_tokens command.Detach c h = refl
move_tokens m c h = absurd (false≢true h)

move_sets_none : (m : Command) → is_moving (due_by m) ≡ true → sets_cursor m ≡ false
move_sets_none (command.Observe p deep mask) h = absurd (false≢true h)
move_sets_none command.Events h = absurd (false≢true h)
move_sets_none m h = refl

-- nor does the view answer it
move_unviewed : (d : Due) → is_moving d ≡ true → nat_eq (due_number d) 6 ≡ false
move_unviewed due.Refresh h = refl
move_unviewed due.Attach h = refl
move_unviewed due.Detach h = refl
move_unviewed d h = absurd (false≢true h)

pub moving_due : (attached : Bool) (m : Command) → is_moving (due_to attached m) ≡ true → (is_allowed attached m ≡ true) × (is_moving (due_by m) ≡ true)
moving_due attached m is = by (is_allowed attached m) refl is
  where
    by : (b : Bool) → is_allowed attached m ≡ b → is_moving (cond b (due_by m) due.Bar) ≡ true → (is_allowed attached m ≡ true) × (is_moving (due_by m) ≡ true)
    by true e h = (e, h)
    by false e h = absurd (false≢true h)

module _ (law : JcrLaw) (p : Shown) (run : SessionRun) (stands : Stands law p run) (v : RevVec) (is : run.phase ≡ phase.Moved v) where
  at_moved : IsIn law p run.attached × IsBaseMoved law p run v
  at_moved = subst (λ (f : Phase). StandsAt law p run f) is stands.at

  abbrev moved_command : Command
  moved_command = at_moved.1.command

  abbrev moved_call : Call
  moved_call = at_moved.1.call

  moves_next : is_moving (due_to run.attached moved_command) ≡ true
  moves_next = ap is_moving (sym (due_at run moved_command at_moved.1.for.next)) ∙ at_moved.1.moves

  -- it isn't answered by the view
  pub moved_next : IsUnviewedNext run
  moved_next = (moved_command, at_moved.1.for.next, unviewed_due run.attached moved_command (move_unviewed (due_to run.attached moved_command) moves_next))

  -- there is a place for its reply
  pub moved_room : (n : ℕ) → n ≤ VECTOR_REPLY_BYTES → HasRoom p.room n
  moved_room n few = room_less p.room VECTOR_REPLY_BYTES n few at_moved.1.place

  pub moved_eight : length v ≡ 8
  moved_eight = at_moved.1.eight

  asked_there : IsAsked law p run moved_command moved_call
  asked_there = record {
    inside = at_moved.0;
    session = stands.session;
    few = stands.few;
    commands = stands.commands;
    index = stands.index;
    rests = rest_idle p.session p.work at_moved.1.idle;
    unread = at_moved.1.for.unread;
    still = at_moved.1.for.fresh.idle;
    next = at_moved.1.for.next;
    call = at_moved.1.for.is;
  }

  moved_accepts : AcceptsAs run.held None moved_call moved_command
  moved_accepts =
      let move = (moving_due run.attached moved_command moves_next).1 in
      accepts_by moved_call run.held moved_command None (move_sets_none moved_command move) at_moved.1.for.holds (at_moved.1.for.holds.tokens ∙ sym (move_tokens moved_command moved_call move))

  -- once what is held is brought up to it, and whether the session is attached
  module _ (settled now : SessionRun) (attached : Bool) (text : Text) (told : text ≡ answer_text (ShowsVector v)) (settles : Settles run settled true false None)
      (attaches : attached ≡ is_attaching (due_for run)) (same : now ≡ record settled { attached = attached }) where
    moved_asked : IsAsked law p (record now { attached = run.attached }) moved_command moved_call
    moved_asked = asked_like law moved_command moved_call p run (record now { attached = run.attached })
        (ap (λ (r : SessionRun). r.session) same ∙ ap (λ (r : SessionRun). r.session) settles.same)
        (ap (λ (r : SessionRun). r.commands) same ∙ ap (λ (r : SessionRun). r.commands) settles.same)
        (ap (λ (r : SessionRun). r.index) same ∙ ap (λ (r : SessionRun). r.index) settles.same)
        (ap (λ (r : SessionRun). r.fetch) same ∙ ap (λ (r : SessionRun). r.fetch) settles.same)
        refl asked_there

    pub moved_answers : MayAnswer law p now text
    moved_answers = record {
      began = run.attached;
      command = moved_command;
      call = moved_call;
      asked = moved_asked;
      says = subst (λ (i : ℕ). SaysBy law (history_told p) p.session i text) (sym (ap (λ (r : SessionRun). r.index) same ∙ ap (λ (r : SessionRun). r.index) settles.same))
          (says_idle law p run moved_command moved_call asked_there at_moved.1.idle text
          (subst (λ (t : Text). SaysBy law p.history p.session run.index t) (sym told) at_moved.1.says));
      leaves = subst (λ (h : Held). Holds (call_after (is_ok_text text) (has_drawn p) moved_call moved_command) h) (sym (ap (λ (r : SessionRun). r.held) same))
          (settled_leaves law p run settled true false None settles moved_command moved_call text at_moved.1.for.next at_moved.1.for.holds (λ ok. moved_accepts)
          (ap is_ok_text told ∙ answer_accepts (ShowsVector v)) (ap is_some at_moved.1.for.fresh.first));
      stands = at_moved.1.stands ∙ (sym attaches ∙ sym (ap (λ (r : SessionRun). r.attached) same));
      cursor = cursor_settled p.history.past p.session (is_ok_text text) (has_drawn p) moved_call moved_command (move_sets_none moved_command (moving_due run.attached moved_command moves_next).1)
          (at_moved.0.cursor moved_call at_moved.1.for.is at_moved.1.unpinned);
    }
