-- Each turn leaves its session where the history says.
use Rattle.std.proofs.Common.{◌≡◌, inl, inr, ℕ, ◌≤◌, Bool, true, false, None, Option, List, [], ◌∷◌, ◌++◌, refl, sym, ap, ◌∙◌, subst, arith}
use Rattle.std.specs.Prelude.{IfSome}
use Rattle.std.specs.List.{list_any}
use mathlib.Core.Bool.{false≢true}
use Rattle.jr_rev.specs.declared.revision.Revision.{Revision}
use Rattle.oak_machine.specs.declared.event.Event.TheVariants as event
use Rattle.oak_machine.specs.declared.event.StepKind.{StepKind}
use Rattle.oak_machine.specs.declared.event.StepKind.TheVariants as kind
use Rattle.oak_machine.specs.History.{History, Past}
use Rattle.oak_machine.specs.Commits.{is_committed}
use Rattle.oak_machine.specs.Laws.{AreOthers, after}
use Rattle.oak_machine.specs.Runs.{AreNodes, IsRun}
use Rattle.oak_machine.specs.Sessions.{cursor_at, has_left, is_attached, next_index}
use Rattle.oak_port.specs.Ports.{Awaiting, Beside, Collecting, Deciding, Detaching, Idle, IsFinish, Learning, Passing, Publishing, Seat, Shown, Starting}
use Rattle.oak_port.specs.Ports.{Sweeping, Telling, Undoing, Work, Writing, WritesOn, is_by_due}
use Rattle.jcr_law.specs.declared.law.JcrLaw.{JcrLaw}
use Rattle.jcr_law.specs.Lasting.{says_of, starts_of}
use Rattle.jcr_law.specs.Since.{before_turn, draw_since, is_unpinned}
use Rattle.core_calls.specs.Events.{is_calling}
use Rattle.jcr_run.specs.declared.run.SessionRun.{SessionRun}
use Rattle.jcr_run.specs.declared.turn.Turn.{Turn}
use Rattle.jcr_run.specs.declared.turn.Turn.TheVariants as turn
use Rattle.jcr_run.specs.Nearing.{IsReply}
use Rattle.jcr_run.specs.Standing.{HasAwaited, HasCounted, IsBeside, IsIn, AreInStageOrder, IsMade, IsOneStep, IsSeenFor, IsStep, IsTurned}
use Rattle.jcr_run.specs.Standing.{IsUnseen, Tells, is_revision_written, stage_of}
use Rattle.jcr_run.proofs.Others.{others_both}
use Rattle.jcr_run.proofs.Reading.{after_both, alone_both}
use Rattle.jcr_run.proofs.Stages.{order_later}
use Rattle.jcr_run.proofs.Waiting.{left_stays}

-- ---- a counted step

abbrev pub is_awaiting : Work → Bool
is_awaiting (Awaiting r) = true
is_awaiting _ = false

-- what is made where nothing is due may be made whatever is due
pub any_due : (due : Option StepKind) (own : Past) → is_by_due None own ≡ true → is_by_due due own ≡ true
any_due due (event.Went s kind.Write ∷ []) h = absurd (false≢true h)
any_due due (event.Went s kind.Mark ∷ []) h = absurd (false≢true h)
any_due due (event.Commit r ∷ []) h = absurd (false≢true h)
any_due due own h = h

pub unawaited : (h : History) (w : Work) → is_awaiting w ≡ false → IsSeenFor h w
unawaited h Idle never = tt
unawaited h (Starting t) never = tt
unawaited h (Publishing r) never = tt
unawaited h (Learning u) never = tt
unawaited h (Passing r) never = tt
unawaited h (Sweeping r) never = tt
unawaited h Collecting never = tt
unawaited h (Telling e) never = tt
unawaited h (Detaching v) never = tt
unawaited h (Writing r) never = tt
unawaited h (Undoing r e) never = tt
unawaited h (Deciding r) never = tt
unawaited h (Awaiting r) never = absurd (false≢true (sym never))

-- a step by which nothing is written, before which nothing was waited for
pub plain_step : (h : History) (old new : Shown) (own made : Past) → own ≡ made → has_left h.past old.session ≡ false → is_awaiting old.work ≡ false → is_by_due None made ≡ true → HasAwaited h.past made new.work → IsStep h old new own
plain_step h old new own made is stays awaits due ended = subst (λ (e : Past). IsStep h old new e) (sym is) record {
  stays = stays;
  seen = unawaited h old.work awaits;
  as_due = any_due old.due made due;
  quiet = λ still. due;
  ended = ended;
}

-- ---- a turn behind events of others

-- what was being done and due is so still; or the turn writes nothing, nothing was waited for, and no
-- fewer stages are behind
pub data Link (old mid : Shown) : Type 0 where
  kept : mid.work ≡ old.work → mid.due ≡ old.due → Link old mid
  free : is_revision_written mid.work ≡ false → is_awaiting mid.work ≡ false → is_awaiting old.work ≡ false → stage_of old.work ≤ stage_of mid.work → Link old mid

-- nothing was being done
pub started : (old mid : Shown) → is_revision_written mid.work ≡ false → is_awaiting mid.work ≡ false → old.work ≡ Idle → Link old mid
started old mid still waitless idle = free still waitless (ap is_awaiting idle) (subst (λ (w : Work). stage_of w ≤ stage_of mid.work) (sym idle) (let le : 0 ≤ stage_of mid.work = omega arith in le))

link_stage : (old mid : Shown) → Link old mid → stage_of old.work ≤ stage_of mid.work
link_stage old mid (kept work due) = subst (λ (w : Work). stage_of old.work ≤ stage_of w) (sym work) (let le : stage_of old.work ≤ stage_of old.work = omega arith in le)
link_stage old mid (free still unwaited awaits le) = le

-- a step that writes nothing, where nothing was waited for
step_free : (h : History) (old mid new : Shown) (own : Past) → is_revision_written mid.work ≡ false → is_awaiting old.work ≡ false → mid.session ≡
    old.session → IsStep h mid new own → IsStep h old new own
step_free h old mid new own still awaits session step = record {
  stays = subst (λ (s : ℕ). has_left h.past s ≡ false) session step.stays;
  seen = unawaited h old.work awaits;
  as_due = any_due old.due own (step.quiet still);
  quiet = λ again. step.quiet still;
  ended = step.ended;
}

step_later : (h : History) (old mid new : Shown) (own : Past) → Link old mid → mid.session ≡ old.session → IsStep h mid new own → IsStep h old new own
step_later h old mid new own (kept work due) session step = record {
  stays = subst (λ (s : ℕ). has_left h.past s ≡ false) session step.stays;
  seen = subst (λ (w : Work). IsSeenFor h w) work step.seen;
  as_due = subst (λ (d : Option StepKind). is_by_due d own ≡ true) due step.as_due;
  quiet = λ still. step.quiet (ap is_revision_written work ∙ still);
  ended = step.ended;
}
step_later h old mid new own (free still unwaited awaits le) session step = step_free h old mid new own still awaits session step

made_later : (h : History) (old mid new : Shown) (now : SessionRun) (own : Past) (t : Turn) → Link old mid → mid.session ≡ old.session → IsMade h mid new now own t → (t ≡ turn.Ended → ⊥) → IsMade h old new now own t
made_later h old mid new now own (turn.Stepped k) link session made never = step_later h old mid new own link session made
made_later h old mid new now own (turn.Said i) link session made never = step_later h old mid new own link session made
made_later h old mid new now own (turn.Waiting q) link session made never = by link
  where
    by : Link old mid → IsMade h old new now own (turn.Waiting q)
    by (kept work due) = (made.0, sym work ∙ made.1, made.2, subst (λ (s : ℕ). IsUnseen h s made.0) session made.3, made.4)
    by (free still unwaited awaits le) = absurd (false≢true (sym unwaited ∙ ap is_awaiting made.1))
made_later h old mid new now own turn.Read link session made never = made
made_later h old mid new now own turn.Ended link session made never = absurd (never refl)
made_later h old mid new now own turn.Memory link session made never = made

-- the same turn, which is made and in its order so too
turned_over : (law : JcrLaw) (a b c : Shown) (run now : SessionRun) (answer : Turn) → AreNodes a.history.clusters a.history.sessions →
    IsBeside law a b → ((h : History) (own : Past) → IsMade h b c now own answer → IsMade h a c now own answer)
    → (AreInStageOrder law b c run now answer → AreInStageOrder law a c run now answer) → IsTurned law b c run now answer → IsTurned law a c run now
    answer
turned_over law a b c run now answer nodes waits makes orders turned = record {
  others = turned.others ++ waits.others;
  own = turned.own;
  grows = record {
    grown = turned.grows.grown ∙ ap (λ (h : History). after turned.own h) moment;
    theirs = others_both a.history.clusters a.history.sessions nodes a.history.begin (starts_of law) (says_of law) a.session turned.others waits.others a.history.past later first waits.grows.theirs
        (subst (λ (s : ℕ). AreOthers s turned.others (waits.others ++ a.history.past)) waits.session (subst (λ (h : History). AreOthers b.session turned.others h.past) waits.grows.grown turned.grows.theirs));
    run = turned.grows.run;
  };
  beside = turned.beside ∙ waits.beside;
  alone = alone_both a.beside.seats turned.others waits.others waits.alone (subst (λ (o : Option (List Seat)). IfSome o (λ seats. turned.others ≡ [])) (ap (λ (x : Beside). x.seats) waits.beside) turned.alone);
  tells = subst (λ (h : History). Tells h a.session run.index answer turned.own) moment (subst (λ (s : ℕ). Tells (after turned.others b.history) s run.index answer turned.own) waits.session turned.tells);
  made = subst (λ (h : History). IsMade h a c now turned.own answer) moment (makes (after turned.others b.history) turned.own turned.made);
  in_order = orders turned.in_order;
  same = turned.same;
  stands = turned.stands;
}
  where
    moment : after turned.others b.history ≡ after (turned.others ++ waits.others) a.history
    moment = ap (λ (h : History). after turned.others h) waits.grows.grown ∙ after_both turned.others waits.others a.history

    first : IsRun (starts_of law) (says_of law) (after waits.others a.history)
    first = subst (λ (h : History). IsRun (starts_of law) (says_of law) h) waits.grows.grown waits.grows.run

    dropped : (own : Past) (h : History) → IsRun (starts_of law) (says_of law) (after own h) → IsRun (starts_of law) (says_of law) h
    dropped [] h run = run
    dropped (e ∷ own) h run = dropped own h run.1

    later : IsRun (starts_of law) (says_of law) (after turned.others (after waits.others a.history))
    later = dropped turned.own (after turned.others (after waits.others a.history))
        (subst (λ (h : History). IsRun (starts_of law) (says_of law) h) (turned.grows.grown ∙ ap (λ (h : History). after turned.own (after turned.others h)) waits.grows.grown) turned.grows.run)

pub turned_later : (law : JcrLaw) (a b c : Shown) (run now : SessionRun) (answer : Turn) → AreNodes a.history.clusters a.history.sessions →
    Link a b → IsBeside law a b → (answer ≡ turn.Ended → ⊥) → IsTurned law b c run now answer → IsTurned law a c run now answer
turned_later law a b c run now answer nodes link waits never turned =
    turned_over law a b c run now answer nodes waits (λ h own made. made_later h a b c now own answer link waits.session made never)
    (order_later law a b c run now answer waits (link_stage a b link)) turned

-- a reply, whatever was being done, unless it was waited for
pub replied_later : (law : JcrLaw) (a b c : Shown) (run now : SessionRun) (t : Turn) → AreNodes a.history.clusters a.history.sessions →
    IsBeside law a b → is_revision_written b.work ≡ false → is_awaiting a.work ≡ false → IsReply t → HasCounted law b c run now t → HasCounted law a
    c run now t
replied_later law a b c run now (turn.Said i) nodes waits still awaits reply turned =
    turned_over law a b c run now (turn.Said i) nodes waits (λ h own made. step_free h a b c own still awaits waits.session made)
    (λ order. tt) turned
replied_later law a b c run now turn.Memory nodes waits still awaits reply turned = tt
replied_later law a b c run now t nodes waits still awaits reply turned = absurd reply

-- ---- events that leave the session in, before the same reply

pub record IsQuiet (s : ℕ) (e : Past) : Type 0 where
  pub left : (q : Past) → has_left (e ++ q) s ≡ has_left q s
  pub next : (q : Past) → next_index (e ++ q) s ≡ next_index q s
  pub attached : (q : Past) → is_attached (e ++ q) s ≡ is_attached q s
  pub begins : (q : Past) → before_turn (e ++ q) s ≡ before_turn q s
  pub calls : list_any (is_calling s) e ≡ false
  pub draws : (q : Past) → draw_since (e ++ q) s ≡ draw_since q s
  pub pins : (q : Past) → is_unpinned (e ++ q) s ≡ true → is_unpinned q s ≡ true
  pub cursor : (q : Past) → is_unpinned (e ++ q) s ≡ true → cursor_at (e ++ q) s ≡ cursor_at q s

pub quiet_by : (s : ℕ) (e f : Past) → e ≡ f → IsQuiet s f → IsQuiet s e
quiet_by s e f same quiet = subst (λ (p : Past). IsQuiet s p) (sym same) quiet

pub quiet_finish : (s : ℕ) (r : Revision) (e : Past) → IsFinish r e → IsQuiet s e
quiet_finish s r e (inl same) = quiet_by s e (event.End r ∷ []) same record { left = λ q. refl; next = λ q. refl; attached = λ q. refl; begins = λ q. refl; calls = refl; draws = λ q. refl; pins = λ q h. h; cursor = λ q h. refl }
quiet_finish s r e (inr (k, v, same)) = quiet_by s e (event.Head k v ∷ event.End r ∷ []) same record { left = λ q. refl; next = λ q. refl; attached = λ q. refl; begins = λ q. refl; calls = refl; draws = λ q. refl; pins = λ q h. h; cursor = λ q h. refl }

pub quiet_write : (s : ℕ) (r : Revision) (k : StepKind) (e : Past) (now : Work) → WritesOn s r k e now → IsQuiet s e
quiet_write s r k e now (inl (a, same, work)) = quiet_by s e (event.Went s kind.Write ∷ []) same record { left = λ q. refl; next = λ q. refl; attached = λ q. refl; begins = λ q. refl; calls = refl; draws = λ q. refl; pins = λ q h. h; cursor = λ q h. refl }
quiet_write s r k e now (inr (inl (a, same, work))) = quiet_by s e [] same record { left = λ q. refl; next = λ q. refl; attached = λ q. refl; begins = λ q. refl; calls = refl; draws = λ q. refl; pins = λ q h. h; cursor = λ q h. refl }
quiet_write s r k e now (inr (inr (inl (a, same, work)))) = quiet_by s e (event.Went s kind.Mark ∷ []) same record { left = λ q. refl; next = λ q. refl; attached = λ q. refl; begins = λ q. refl; calls = refl; draws = λ q. refl; pins = λ q h. h; cursor = λ q h. refl }
quiet_write s r k e now (inr (inr (inr (inl (a, same, work))))) = quiet_by s e (event.Commit r ∷ []) same record { left = λ q. refl; next = λ q. refl; attached = λ q. refl; begins = λ q. refl; calls = refl; draws = λ q. refl; pins = λ q h. h; cursor = λ q h. refl }
quiet_write s r k e now (inr (inr (inr (inr (item, o, mark, same, work))))) = quiet_by s e (event.Refuse r item o ∷ []) same record { left = λ q. refl; next = λ q. refl; attached = λ q. refl; begins = λ q. refl; calls = refl; draws = λ q. refl; pins = λ q h. h; cursor = λ q h. refl }

-- ---- the events of a step of a commit

-- a step of a commit that writes is counted, but where it reads
pub one_write : (s : ℕ) (r : Revision) (k : StepKind) (e : Past) (now : Work) → (k ≡ kind.Read → ⊥) → WritesOn s r k e now → IsOneStep e
one_write s r k e now counted (inl (a, same, work)) = inl (event.Went s kind.Write, same, refl)
one_write s r k e now counted (inr (inl (a, same, work))) = absurd (counted a)
one_write s r k e now counted (inr (inr (inl (a, same, work)))) = inl (event.Went s kind.Mark, same, refl)
one_write s r k e now counted (inr (inr (inr (inl (a, same, work))))) = inl (event.Commit r, same, refl)
one_write s r k e now counted (inr (inr (inr (inr (item, o, mark, same, work))))) = inl (event.Refuse r item o, same, refl)

-- and where it reads nothing is added
pub none_read : (s : ℕ) (r : Revision) (e : Past) (now : Work) → WritesOn s r kind.Read e now → e ≡ []
none_read s r e now (inl m) = let never : kind.Read ≡ kind.Write = m.0 in cc
none_read s r e now (inr (inl m)) = m.1
none_read s r e now (inr (inr (inl m))) = let never : kind.Read ≡ kind.Mark = m.0 in cc
none_read s r e now (inr (inr (inr (inl m)))) = let never : kind.Read ≡ kind.Last = m.0 in cc
none_read s r e now (inr (inr (inr (inr m)))) = elim m.2 [ inl e ↦ (let never : kind.Read ≡ kind.Mark = e in cc) | inr e ↦ (let never : kind.Read ≡ kind.Last = e in cc) ]

pub awaited_write : (s : ℕ) (r : Revision) (k : StepKind) (e : Past) (now : Work) (past : Past) → WritesOn s r k e now → HasAwaited past e now
awaited_write s r k e now past (inl (a, same, work)) = subst (λ (p : Past). HasAwaited past p now) (sym same) tt
awaited_write s r k e now past (inr (inl (a, same, work))) = subst (λ (p : Past). HasAwaited past p now) (sym same) tt
awaited_write s r k e now past (inr (inr (inl (a, same, work)))) = subst (λ (p : Past). HasAwaited past p now) (sym same) tt
awaited_write s r k e now past (inr (inr (inr (inl (a, same, work))))) = subst (λ (p : Past). HasAwaited past p now) (sym same) tt
awaited_write s r k e now past (inr (inr (inr (inr (item, o, mark, same, work))))) = subst (λ (p : Past). HasAwaited past p now) (sym same) tt

pub one_finish : (r : Revision) (e : Past) → IsFinish r e → IsOneStep e
one_finish r e (inl same) = inl (event.End r, same, refl)
one_finish r e (inr (k, v, same)) = inr (k, v, r, same)

pub due_finish : (r : Revision) (e : Past) → IsFinish r e → is_by_due None e ≡ true
due_finish r e (inl same) = subst (λ (p : Past). is_by_due None p ≡ true) (sym same) refl
due_finish r e (inr (k, v, same)) = subst (λ (p : Past). is_by_due None p ≡ true) (sym same) refl

pub awaited_finish : (r : Revision) (e : Past) (now : Work) (past : Past) → IsFinish r e → (is_committed past r ≡ true → now ≡ Awaiting r) → HasAwaited past e now
awaited_finish r e now past (inl same) h = subst (λ (p : Past). HasAwaited past p now) (sym same) h
awaited_finish r e now past (inr (k, v, same)) h = subst (λ (p : Past). HasAwaited past p now) (sym same) h

abbrev pub turn_number : Turn → ℕ
turn_number (turn.Stepped k) = 0
turn_number (turn.Said i) = 1
turn_number (turn.Waiting q) = 2
turn_number turn.Ended = 3
turn_number turn.Memory = 4
turn_number turn.Read = 5

pub not_ended : {A : Type 0} (t : Turn) → Rattle.std.specs.Prelude.nat_eq (turn_number t) 3 ≡ false → t ≡ turn.Ended → A
not_ended t other same = absurd (false≢true (sym other ∙ ap (λ (x : Turn). Rattle.std.specs.Prelude.nat_eq (turn_number x) 3) same))

-- a session that is in doesn't end
pub never_ends : {A : Type 0} {attached : Bool} (law : JcrLaw) (b c : Shown) (run now : SessionRun) → IsIn law b attached → IsTurned law b c run now turn.Ended → A
never_ends law b c run now inside turned =
    absurd (false≢true (sym (left_stays (turned.others ++ b.history.past) turned.others b.history.past b.session turned.grows.theirs inside.stays) ∙ turned.made.1))

pub has_turned_later : (law : JcrLaw) (a b c : Shown) (run now : SessionRun) (t : Turn) → AreNodes a.history.clusters a.history.sessions → Link a b → IsBeside law a b → (IsTurned law b c run now turn.Ended → b ≡ a) → HasCounted law b c run now t → HasCounted law a c run now t
has_turned_later law a b c run now (turn.Stepped k) nodes link waits ends turned = turned_later law a b c run now (turn.Stepped k) nodes link waits (not_ended (turn.Stepped k) refl) turned
has_turned_later law a b c run now (turn.Said i) nodes link waits ends turned = turned_later law a b c run now (turn.Said i) nodes link waits (not_ended (turn.Said i) refl) turned
has_turned_later law a b c run now (turn.Waiting q) nodes link waits ends turned = turned_later law a b c run now (turn.Waiting q) nodes link waits (not_ended (turn.Waiting q) refl) turned
has_turned_later law a b c run now turn.Read nodes link waits ends turned = absurd turned.tells
has_turned_later law a b c run now turn.Ended nodes link waits ends turned = subst (λ (p : Shown). IsTurned law p c run now turn.Ended) (ends turned) turned
has_turned_later law a b c run now turn.Memory nodes link waits ends turned = tt
