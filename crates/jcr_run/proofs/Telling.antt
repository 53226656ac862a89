-- Behind how a split or a collection of its own ended a session stands where it stood.
use Rattle.std.proofs.Common.{◌≡◌, ◌≤◌, arith, ℕ, Bool, true, false, List, [], ◌∷◌, ◌++◌, refl, sym, ap, ◌∙◌, subst}
use mathlib.Core.Bool.{false≢true}
use Rattle.jr_path.specs.declared.path.Path.{Path}
use Rattle.jr_path.specs.Lists.{Text}
use Rattle.jr_rev.specs.declared.revision.Revision.{Revision}
use Rattle.oak_doc.specs.declared.asks.Collected.{Collected}
use Rattle.oak_doc.specs.declared.asks.SplitEnd.{SplitEnd}
use Rattle.oak_machine.specs.declared.event.Event.TheVariants as event
use Rattle.oak_machine.specs.Commits.{is_committed}
use Rattle.oak_machine.specs.History.{History, Past}
use Rattle.oak_machine.specs.Laws.{after}
use Rattle.oak_machine.specs.Runs.{AreNodes, IsRun, is_task_end}
use Rattle.oak_machine.specs.Sessions.{cursor_at, drawn_since, has_left, has_login, is_attached, is_drawing, next_index}
use Rattle.oak_port.specs.Ports.{Idle, IsAtRest, Shown, Telling, Work, end_told}
use Rattle.core_heads.proofs.Passing.{among_same}
use Rattle.jcr_law.specs.declared.law.JcrLaw.{JcrLaw}
use Rattle.jcr_law.specs.Growing.{HasAllOf, said_at}
use Rattle.jcr_law.specs.Lasting.{grows_under, says_of, starts_of}
use Rattle.jcr_law.specs.Law.{SaysBy}
use Rattle.jcr_law.specs.Since.{before_turn, is_unmoved, is_unpinned}
use Rattle.jcr_law.specs.State.{call_of}
use Rattle.core_calls.proofs.Called.{call_stays}
use Rattle.core_calls.specs.Events.{is_calling}
use Rattle.std.specs.List.{list_any}
use Rattle.jcr_run.specs.Asked.{HasOnlyToTell}
use Rattle.jcr_run.specs.Standing.{AreEnds, IsBeside, IsIn, IsSeenFor, is_revision_written, stage_of}
use Rattle.jcr_run.proofs.Cursors.{has_cursor_over}
use Rattle.jcr_run.proofs.Turning.{Link, free, is_awaiting}
use Rattle.jcr_run.proofs.Waiting.{all_beside, shown_beside}

-- ---- what is left to be told

-- nothing, or how a split or a collection of s ended
pub data RestCase (s : ℕ) : Work → Type 0 where
  at_idle : RestCase s Idle
  to_split : (t : ℕ) (p : Path) (e : SplitEnd) → is_task_end s (event.Split t p e) ≡ true → RestCase s (Telling (event.Split t p e))
  to_collect : (t : ℕ) (c : Collected) → is_task_end s (event.Collected t c) ≡ true → RestCase s (Telling (event.Collected t c))

pub rest_case : (s : ℕ) (w : Work) → HasOnlyToTell s w → RestCase s w
rest_case s Idle h = at_idle
rest_case s (Telling (event.Split t p e)) h = to_split t p e h
rest_case s (Telling (event.Collected t c)) h = to_collect t c h
rest_case s (Telling e) h = absurd (false≢true h)
rest_case s w h = absurd h

pub rest_idle : (s : ℕ) (w : Work) → w ≡ Idle → HasOnlyToTell s w
rest_idle s w is = subst (λ (x : Work). HasOnlyToTell s x) (sym is) tt

pub at_rest : (s : ℕ) (w : Work) → HasOnlyToTell s w → IsAtRest w
at_rest s w rests = by w (rest_case s w rests)
  where
    by : (w : Work) → RestCase s w → IsAtRest w
    by _ at_idle = tt
    by _ (to_split t p e mine) = tt
    by _ (to_collect t c mine) = tt

pub rest_stage : (s : ℕ) (w : Work) → HasOnlyToTell s w → stage_of w ≡ 0
rest_stage s w rests = by w (rest_case s w rests)
  where
    by : (w : Work) → RestCase s w → stage_of w ≡ 0
    by _ at_idle = refl
    by _ (to_split t p e mine) = refl
    by _ (to_collect t c mine) = refl

pub rest_unwaiting : (s : ℕ) (w : Work) → HasOnlyToTell s w → is_awaiting w ≡ false
rest_unwaiting s w rests = by w (rest_case s w rests)
  where
    by : (w : Work) → RestCase s w → is_awaiting w ≡ false
    by _ at_idle = refl
    by _ (to_split t p e mine) = refl
    by _ (to_collect t c mine) = refl

-- nothing was being done that a later turn would go on with
pub started_resting : (old mid : Shown) → is_revision_written mid.work ≡ false → is_awaiting mid.work ≡ false → HasOnlyToTell old.session old.work → Link old mid
started_resting old mid still waitless rests = free still waitless (rest_unwaiting old.session old.work rests)
    (subst (λ (n : ℕ). n ≤ stage_of mid.work) (sym (rest_stage old.session old.work rests)) (let le : 0 ≤ stage_of mid.work = omega arith in le))

-- a run was one before its last events
pub run_under : (law : JcrLaw) (own : Past) (h : History) → IsRun (starts_of law) (says_of law) (after own h) → IsRun (starts_of law) (says_of law) h
run_under law [] h run = run
run_under law (e ∷ own) h run = run_under law own h run.1

pub rest_seen : (s : ℕ) (w : Work) (h : History) → HasOnlyToTell s w → IsSeenFor h w
rest_seen s w h rests = by w (rest_case s w rests)
  where
    by : (w : Work) → RestCase s w → IsSeenFor h w
    by _ at_idle = tt
    by _ (to_split t p e mine) = tt
    by _ (to_collect t c mine) = tt

pub rest_ends : (s : ℕ) (w : Work) → HasOnlyToTell s w → AreEnds s (end_told w)
rest_ends s w rests = by w (rest_case s w rests)
  where
    by : (w : Work) → RestCase s w → AreEnds s (end_told w)
    by _ at_idle = tt
    by _ (to_split t p e mine) = mine
    by _ (to_collect t c mine) = mine

-- ---- what stays behind what is told

pub record IsToldOver (s : ℕ) (told past : Past) : Type 0 where
  pub login : has_login (told ++ past) s ≡ has_login past s
  pub left : has_left (told ++ past) s ≡ has_left past s
  pub next : next_index (told ++ past) s ≡ next_index past s
  pub before : before_turn (told ++ past) s ≡ before_turn past s
  pub attached : is_attached (told ++ past) s ≡ is_attached past s
  pub cursor : cursor_at (told ++ past) s ≡ cursor_at past s
  pub drawn : drawn_since (told ++ past) s ≡ drawn_since past s
  pub unmoved : is_unmoved (told ++ past) s ≡ is_unmoved past s
  pub unpinned : is_unpinned (told ++ past) s ≡ is_unpinned past s
  pub idle : is_drawing past s ≡ false → is_drawing (told ++ past) s ≡ false
  pub committed : (r : Revision) → is_committed (told ++ past) r ≡ is_committed past r
  pub calls : list_any (is_calling s) told ≡ false

pub told_over : (s : ℕ) (w : Work) → HasOnlyToTell s w → (past : Past) → IsToldOver s (end_told w) past
told_over s w rests past = by w (rest_case s w rests)
  where
    by : (w : Work) → RestCase s w → IsToldOver s (end_told w) past
    by _ at_idle = record { login = refl; left = refl; next = refl; before = refl; attached = refl; cursor = refl; drawn = refl; unmoved = refl; unpinned = refl; idle = λ h. h; committed = λ r. refl; calls = refl }
    by _ (to_split t p e mine) = record {
      login = refl;
      left = refl;
      next = refl;
      before = refl;
      attached = refl;
      cursor = refl;
      drawn = refl;
      unmoved = refl;
      unpinned = refl;
      idle = λ h. among_same past (event.Split t p e) (λ r. refl) past s ∙ h;
      committed = λ r. refl;
      calls = refl;
    }
    by _ (to_collect t c mine) = record {
      login = refl;
      left = refl;
      next = refl;
      before = refl;
      attached = refl;
      cursor = refl;
      drawn = refl;
      unmoved = refl;
      unpinned = refl;
      idle = λ h. among_same past (event.Collected t c) (λ r. refl) past s ∙ h;
      committed = λ r. refl;
      calls = refl;
    }

-- what the next command is run with
pub told_call : (law : JcrLaw) (h : History) (s : ℕ) (w : Work) → HasOnlyToTell s w → AreNodes h.clusters h.sessions
    → IsRun (starts_of law) (says_of law) (after (end_told w) h) → call_of law h.begin (end_told w ++ h.past) s ≡ call_of law h.begin h.past s
told_call law h s w rests nodes run =
    call_stays law h.begin (starts_of law) (says_of law) h.clusters h.sessions nodes (end_told w) h.past s run (told_over s w rests h.past).calls

-- the session is in
pub told_inside : (law : JcrLaw) (p : Shown) (w : Work) (attached : Bool) → HasOnlyToTell p.session w
    → IsRun (starts_of law) (says_of law) (after (end_told w) p.history) → IsIn law p attached
    → IsIn law (record p { history = after (end_told w) p.history }) attached
told_inside law p w attached rests run inside = record {
  nodes = inside.nodes;
  trees = inside.trees;
  typed = inside.typed;
  run = run;
  login = over.login ∙ inside.login;
  stays = over.left ∙ inside.stays;
  began = ap (λ (q : Past). is_attached q p.session) over.before ∙ inside.began;
  cursor = λ c is unpinned. has_cursor_over p.history.past (end_told w ++ p.history.past) p.session c over.cursor
      (inside.cursor c (sym (told_call law p.history p.session w rests inside.nodes run) ∙ is) (sym over.unpinned ∙ unpinned));
}
  where
    over : IsToldOver p.session (end_told w) p.history.past
    over = told_over p.session w rests p.history.past

-- what may be said behind it may still be said with events of others before it
pub says_behind : (law : JcrLaw) (old new : Shown) (w : Work) (i : ℕ) (text : Text) → (beside : IsBeside law old new)
    → AreNodes old.history.clusters old.history.sessions → HasOnlyToTell old.session w
    → SaysBy law (after (end_told w) old.history) old.session i text → SaysBy law (after (end_told w) new.history) new.session i text
says_behind law old new w i text beside nodes rests says =
    shown_beside law old new beside (λ h s. SaysBy law (after (end_told w) h) s i text) (by w (rest_case old.session w rests) says)
  where
    past : Past
    past = old.history.past

    later : Past
    later = beside.others ++ old.history.past

    grown : HasAllOf law old.history.begin old.session past later
    grown = all_beside law old new beside nodes

    lasts : (was now : Past) → HasAllOf law old.history.begin old.session was now → SaysBy law (record old.history { past = was }) old.session i text
        → SaysBy law (record old.history { past = now }) old.session i text
    lasts was now grows (m, command, may) =
        (m, command, said_at law old.history.clusters old.history.sessions old.history.begin old.session was now grows m text may)

    by : (w : Work) → RestCase old.session w → SaysBy law (after (end_told w) old.history) old.session i text
        → SaysBy law (after (end_told w) (after beside.others old.history)) old.session i text
    by _ at_idle h = lasts past later grown h
    by _ (to_split t p e mine) h = lasts (event.Split t p e ∷ past) (event.Split t p e ∷ later)
        (grows_under law old.history.begin old.session past later grown (event.Split t p e) mine) h
    by _ (to_collect t c mine) h = lasts (event.Collected t c ∷ past) (event.Collected t c ∷ later)
        (grows_under law old.history.begin old.session past later grown (event.Collected t c) mine) h
