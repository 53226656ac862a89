-- The base of a session moves by an event of its own.
use Rattle.std.proofs.Common.{◌≡◌, inl, ℕ, ◌-◌, ◌≤◌, length, Bool, true, false, cond, Some, None, Option, List, [], ◌∷◌, ◌++◌, is_some, refl, sym, ap, ◌∙◌, subst, arith}
use Rattle.std.specs.Prelude.{◌==◌, ◌&&◌, ◌||◌, Contains, is_none, reverse, slice_get}
use Rattle.std.specs.List.{list_any}
use Rattle.std.specs.Option.{unwrap_or}
use mathlib.Core.Bool.{false≢true}
use Rattle.jr_path.specs.Lists.{Text}
use Rattle.jr_rev.specs.declared.vector.RevVec.{RevVec}
use Rattle.jr_tree.specs.Trees.{IsTree, Nodes}
use Rattle.oak_machine.specs.declared.event.Event.{Event}
use Rattle.oak_machine.specs.declared.event.Event.TheVariants as event
use Rattle.oak_machine.specs.declared.event.StepKind.{StepKind}
use Rattle.oak_machine.specs.declared.event.StepKind.TheVariants as kind
use Rattle.oak_machine.specs.Commits.{tree_at}
use Rattle.oak_machine.specs.Heads.{last_in, local}
use Rattle.oak_machine.specs.History.{Begin, History, Past}
use Rattle.oak_machine.specs.Laws.{Says, Starts, after}
use Rattle.oak_machine.specs.Runs.{AreNodes, IsHeadFor, IsRun, IsRunOf}
use Rattle.oak_machine.specs.Sessions.{base_of, has_left, has_login, is_attached, is_text, kept_checkpoint, last_checkpoint, next_index}
use Rattle.oak_machine.specs.Steps.{is_appended_by, is_kind}
use Rattle.oak_port.specs.Ports.{OthersAlone, Shown, Starting, Steps, is_by_due}
use Rattle.oak_port.specs.declared.task.StepOut.{StepOut}
use Rattle.oak_port.specs.declared.task.Task.{Task}
use Rattle.core_heads.proofs.Entries.{set_length}
use Rattle.core_heads.proofs.Passing.{among_same}
use Rattle.core_heads.proofs.Runs.{kept_last, sound_run}
use Rattle.jcr_trans.specs.declared.command.Command.{Command}
use Rattle.jcr_law.specs.declared.law.JcrLaw.{JcrLaw}
use Rattle.jcr_law.specs.Built.{Allowed, Asked}
use Rattle.jcr_law.specs.Calls.{call_moved}
use Rattle.jcr_law.specs.Law.{MaySay, SaysBy}
use Rattle.jcr_law.specs.Lasting.{says_of, starts_of}
use Rattle.jcr_law.specs.Makes.{steps_of}
use Rattle.jcr_law.specs.Since.{before_turn, came, is_unmoved, is_unpinned}
use Rattle.jcr_law.specs.State.{Call, call_of, command_at}
use Rattle.jcr_law.specs.Tasks.{misses}
use Rattle.core_calls.specs.Seeing.{SeesTrees, SeesTyped}
use Rattle.core_calls.proofs.Called.{attach_call, call_stays, refresh_call}
use Rattle.jcr_run.specs.declared.run.Phase.{Phase}
use Rattle.jcr_run.specs.declared.run.Phase.TheVariants as phase
use Rattle.jcr_run.specs.declared.run.SessionRun.{SessionRun}
use Rattle.jcr_run.specs.declared.turn.Turn.TheVariants as turn
use Rattle.jcr_run.specs.Standing.{HasAwaited, HasCounted, HasCursor, IsBetweenCommands, IsCalled, IsFresh, IsIn, KeepsCursor, Stands, StandsAt}
use Rattle.jcr_run.specs.Standing.{is_allowed, is_step_event, is_revision_written, stage_at, stage_of}
use Rattle.jcr_run.proofs.Committing.{own}
use Rattle.jcr_run.proofs.Cursors.{cursor_moved, cursor_of_call, has_cursor_over}
use Rattle.jcr_run.proofs.Lawful.{asked_allowed, at_between, idle_by}
use Rattle.jcr_run.proofs.Stages.{inside_order, next_is, next_later}
use Rattle.jcr_run.proofs.Starting.{added, called_moment, fresh_moment, inside_mid, inside_moment, run_new, stands_by, unmoved_moment}
use Rattle.jcr_run.proofs.Starting.{unpinned_moment}
use Rattle.jcr_run.proofs.Turning.{is_awaiting, not_ended, plain_step, started, turned_later}
use Rattle.jcr_run.proofs.Waiting.{by_waits}

-- ---- vectors of eight entries

module _ (starts : Starts) (says : Says) (clusters : ℕ) (sessions : List ℕ) (nodes : AreNodes clusters sessions) (begin : Begin) where
  -- that of a head
  head_eight : (past : Past) (s : ℕ) (v : RevVec) → IsRunOf starts says clusters sessions begin past → IsHeadFor (record { clusters = clusters; sessions = sessions; begin = begin; past = past }) s v → length v ≡ 8
  head_eight past s v run head =
      ap (λ (w : RevVec). length w) head.2
      ∙ (set_length (last_in clusters begin past head.0) ((local begin past head.0).cluster - 1) (Some (local begin past head.0))
      ∙ ((sound_run clusters sessions nodes begin starts says past run).ins head.0 (nodes.node s head.0 head.1)).eight)

  same_vector : (v w : RevVec) → Some w ≡ Some v → length w ≡ 8 → length v ≡ 8
  same_vector v w same eight = subst (λ (x : RevVec). length x ≡ 8) (ap (λ (o : Option RevVec). unwrap_or o w) same) eight

  -- those of bases and of checkpoints
  record AreEight (past : Past) : Type 0 where
    pub bases : (s : ℕ) (v : RevVec) → base_of past s ≡ Some v → length v ≡ 8
    pub kept : (id : Text) (v : RevVec) → last_checkpoint past id ≡ Some v → length v ≡ 8

  based : (past : Past) (s t : ℕ) (w v : RevVec) → AreEight past → length w ≡ 8 → cond (t == s) (Some w) (base_of past s) ≡ Some v → length v ≡ 8
  based past s t w v are eight is = by (t == s) is
    where
      by : (b : Bool) → cond b (Some w) (base_of past s) ≡ Some v → length v ≡ 8
      by true same = same_vector v w same eight
      by false same = are.bases s v same

  attached : (past : Past) (s t : ℕ) (id : Text) (v : RevVec) → AreEight past → cond (t == s) (last_checkpoint past id) (base_of past s) ≡ Some v → length v ≡ 8
  attached past s t id v are is = by (t == s) is
    where
      by : (b : Bool) → cond b (last_checkpoint past id) (base_of past s) ≡ Some v → length v ≡ 8
      by true same = are.kept id v same
      by false same = are.bases s v same

  kept_now : (past : Past) (id other : Text) (w v : RevVec) → AreEight past → length w ≡ 8 → cond (is_text other id) (Some w) (last_checkpoint past id) ≡ Some v → length v ≡ 8
  kept_now past id other w v are eight is = by (is_text other id) is
    where
      by : (b : Bool) → cond b (Some w) (last_checkpoint past id) ≡ Some v → length v ≡ 8
      by true same = same_vector v w same eight
      by false same = are.kept id v same

  are_eight : (past : Past) → IsRunOf starts says clusters sessions begin past → AreEight past
  are_eight [] run = record { bases = λ s v is. absurd (false≢true (ap is_some is)); kept = λ id v is. absurd (false≢true (ap is_some is)) }
  are_eight (event.Login t w ∷ past) run =
      let are = are_eight past run.1 in
      record { bases = λ s v is. based past s t w v are (head_eight past t w run.1 run.0.head) is; kept = are.kept }
  are_eight (event.Refresh t w ∷ past) run =
      let are = are_eight past run.1 in
      record { bases = λ s v is. based past s t w v are (head_eight past t w run.1 run.0.head) is; kept = are.kept }
  are_eight (event.Attach t id ∷ past) run =
      let are = are_eight past run.1 in
      record { bases = λ s v is. attached past s t id v are is; kept = are.kept }
  are_eight (event.Checkpoint other w ∷ past) run =
      let are = are_eight past run.1 in
      record { bases = are.bases; kept = λ id v is. kept_now past id other w v are (are.bases run.0.0 w run.0.1) is }
  are_eight (e ∷ past) run = let are = are_eight past run.1 in record { bases = are.bases; kept = are.kept }

  pub base_eight : (past : Past) (s : ℕ) (v : RevVec) → IsRunOf starts says clusters sessions begin past → base_of past s ≡ Some v → length v ≡ 8
  base_eight past s v run is = (are_eight past run).bases s v is

-- ---- what came

pub first_of : (x : Event) (xs : Past) → Contains (x ∷ xs) x
first_of x xs = (0, omega arith, refl)

-- there was no such checkpoint
pub missed_came : (past : Past) (s : ℕ) (id : Text) → kept_checkpoint past id ≡ None → came s (misses s id) (event.Went s kind.Settings ∷ past) ≡ true
missed_came past s id none =
    ap (λ (b : Bool). (b && is_none (kept_checkpoint past id)) || came s (misses s id) past) (own s)
    ∙ ap (λ (o : Option RevVec). is_none o || came s (misses s id) past) none

-- ---- a task that was begun between two commands, and a step of it

-- the base has moved to v for the next command, which c is run with before
pub record IsBased (law : JcrLaw) (new : Shown) (run : SessionRun) (c : Call) (v : RevVec) : Type 0 where
  pub inside : IsIn law new run.attached
  pub eight : length v ≡ 8
  pub tree : Nodes
  pub tree_is : IsTree tree
  pub called : IsCalled law new (call_moved c v tree)
  pub fresh : IsFresh new.history.past new.session
  pub unpinned : is_unpinned new.history.past new.session ≡ true

module _ (law : JcrLaw) (old mid new : Shown) (t : Task) (answer : StepOut) (room : Option ℕ) (run : SessionRun) (stands : Stands law old run) (between : run.phase ≡ phase.Between)
    (waits : OthersAlone (starts_of law) (says_of law) old mid (Starting t) room) (steps : Steps (starts_of law) (says_of law) mid new answer) where
  abbrev inside : IsIn law old run.attached
  inside = (at_between law old run stands between).0

  abbrev here : IsBetweenCommands law old run
  here = (at_between law old run stands between).1

  abbrev behind : Past
  behind = steps.others ++ mid.history.past

  abbrev moment : History
  moment = after steps.others mid.history

  pub inside_then : IsIn law (record mid { history = after steps.others mid.history }) run.attached
  inside_then = inside_moment law old mid new t answer room inside waits steps

  pub called_then : call_of law mid.history.begin (steps.others ++ mid.history.past) mid.session ≡ Some here.call
  called_then = called_moment law old mid new t answer room inside waits steps here.call here.is

  fresh_then : IsFresh behind mid.session
  fresh_then = fresh_moment law old mid new t answer room inside waits steps here.fresh

  unpinned_then : is_unpinned behind mid.session ≡ true
  unpinned_then = unpinned_moment law old mid new t answer room inside waits steps here.unpinned

  pub unmoved_then : is_unmoved (steps.others ++ mid.history.past) mid.session ≡ true
  unmoved_then = unmoved_moment law old mid new t answer room inside waits steps here.unmoved

  -- the next command of the session at that moment
  pub command_then : (m : Command) → slice_get run.commands run.index ≡ Some m → command_at law mid.session run.index ≡ Some m
  command_then m next = ap (λ (n : ℕ). command_at law n run.index) (waits.session ∙ stands.session) ∙ (stands.commands run.index ∙ next)

  -- ---- the step adds one event

  module _ (e : Event) (mine : steps.own ≡ e ∷ []) where
    pub by_event : (F : History → ℕ → Type 0) → F (record mid.history { past = e ∷ (steps.others ++ mid.history.past) }) mid.session → F new.history new.session
    by_event F x = added law old mid new t answer room inside waits steps (e ∷ []) mine F x

    pub run_event : IsRun (starts_of law) (says_of law) (record mid.history { past = e ∷ (steps.others ++ mid.history.past) })
    run_event = subst (λ (p : Past). IsRun (starts_of law) (says_of law) (after p moment)) mine (run_new law old mid new t answer room inside waits steps)

    -- what the law lets be said then
    pub says_event : (m : Command) → slice_get run.commands run.index ≡ Some m → is_allowed run.attached m ≡ true → before_turn (e ∷ (steps.others ++ mid.history.past)) mid.session ≡ before_turn (steps.others ++ mid.history.past) mid.session
        → (text : Text) → MaySay law (record mid.history { past = e ∷ (steps.others ++ mid.history.past) }) mid.session (Allowed m) text → SaysBy law new.history new.session run.index text
    says_event m next allowed begins text may = by_event (λ h n. SaysBy law h n run.index text) (
      m,
      command_then m next,
      subst (λ (x : Asked). MaySay law (record mid.history { past = e ∷ behind }) mid.session x text)
          (sym (asked_allowed (record mid.history { past = e ∷ behind }) mid.session run.attached m (ap (λ (p : Past). is_attached p mid.session) begins ∙ inside_then.began) allowed)) may,
    )

    -- and is the first one of its command
    pub first_turn : (unread : run.fetch ≡ None) (k : StepKind) (m : Command) (kinds : List StepKind) (now : SessionRun)
        → is_step_event e ≡ true → is_appended_by (after steps.others mid.history) mid.session k (reverse steps.own) ≡ true → is_by_due None (e ∷ []) ≡ true
        → HasAwaited (steps.others ++ mid.history.past) (e ∷ []) new.work → next_index (e ∷ (steps.others ++ mid.history.past)) mid.session ≡ next_index (steps.others ++ mid.history.past) mid.session
        → slice_get run.commands run.index ≡ Some m → slice_get (steps_of m) 0 ≡ Some kinds → list_any (is_kind k) kinds ≡ true
        → now.session ≡ run.session → now.commands ≡ run.commands → now.index ≡ run.index → StandsAt law new now now.phase → HasCounted law old new run now (turn.Stepped k)
    first_turn unread k m kinds now step appended undue awaited still next there among session commands index at =
        turned_later law old mid new run now (turn.Stepped k) stands.nodes (started old mid (ap is_revision_written waits.work_is) (ap is_awaiting waits.work_is) (idle_by law old run stands between unread)) (by_waits law old mid (Starting t) room waits) (not_ended (turn.Stepped k) refl)
        record {
          others = steps.others;
          own = steps.own;
          grows = steps.grows;
          beside = steps.beside;
          alone = steps.alone;
          tells = (appended, inl (e, mine, step));
          made = plain_step moment mid new steps.own (e ∷ []) mine inside_then.stays (ap is_awaiting waits.work_is) undue awaited;
          in_order = inside_order law mid new run now k (inside_mid law old mid new t answer room inside waits steps).login (Some m)
              (next_later law old mid (by_waits law old mid (Starting t) room waits) ∙ (next_is law old run stands ∙ next))
              record {
                place = 0;
                kinds = kinds;
                there = there;
                among = among;
                behind = subst (λ (n : ℕ). n ≤ 0) (sym (ap (λ (f : Phase). stage_at f mid.work) between ∙ ap stage_of waits.work_is)) (let le : 0 ≤ 0 = omega arith in le);
                before = let le : 0 ≤ stage_at now.phase new.work = omega arith in le;
              };
          same = (session, commands);
          stands = stands_by law old mid new t answer room inside waits steps run stands now session commands index
              (subst (λ (p : Past). next_index (p ++ behind) mid.session ≡ next_index behind mid.session) (sym mine) still) at;
        }

  -- ---- it moves the base

  module _ (v : RevVec) (mine : steps.own ≡ event.Refresh mid.session v ∷ []) where
    abbrev refreshed : History
    refreshed = record mid.history { past = event.Refresh mid.session v ∷ behind }

    based_refreshed : base_of (event.Refresh mid.session v ∷ behind) mid.session ≡ Some v
    based_refreshed = ap (λ b. cond b (Some v) (base_of behind mid.session)) (own mid.session)

    called_refreshed : call_of law mid.history.begin (event.Refresh mid.session v ∷ behind) mid.session ≡ Some (call_moved here.call v (tree_at mid.history.begin behind v))
    called_refreshed = refresh_call law mid.history.begin behind mid.session v here.call called_then

    -- to the head
    pub refreshed_base : IsBased law new run here.call v
    refreshed_base =
        let by = by_event (event.Refresh mid.session v) mine in
        let whole = run_event (event.Refresh mid.session v) mine in record {
          inside = record {
            nodes = by (λ h n. AreNodes h.clusters h.sessions) inside_then.nodes;
            trees = by (λ h n. SeesTrees law h.clusters h.sessions h.begin) inside_then.trees;
            typed = by (λ h n. SeesTyped law h.clusters h.sessions h.begin) inside_then.typed;
            run = steps.grows.run;
            login = by (λ h n. has_login h.past n ≡ true) inside_then.login;
            stays = by (λ h n. has_left h.past n ≡ false) inside_then.stays;
            began = by (λ h n. is_attached (before_turn h.past n) n ≡ run.attached) inside_then.began;
            cursor = by (λ h n. KeepsCursor law h n)
                (cursor_moved law moment refreshed mid.session here.call v (tree_at mid.history.begin behind v) called_then called_refreshed refl (λ h. h) inside_then.cursor);
          };
          eight = base_eight (starts_of law) (says_of law) mid.history.clusters mid.history.sessions inside_then.nodes mid.history.begin (event.Refresh mid.session v ∷ behind) mid.session v whole based_refreshed;
          tree = tree_at mid.history.begin behind v;
          tree_is = inside_then.trees (event.Refresh mid.session v ∷ behind) whole mid.session v based_refreshed;
          called = by (λ h n. call_of law h.begin h.past n ≡ Some (call_moved here.call v (tree_at mid.history.begin behind v))) called_refreshed;
          fresh = by (λ h n. IsFresh h.past n) record {
            first = fresh_then.first;
            idle = among_same behind (event.Refresh mid.session v) (λ r. refl) behind mid.session ∙ fresh_then.idle;
          };
          unpinned = by (λ h n. is_unpinned h.past n ≡ true) unpinned_then;
        }

  module _ (id : Text) (v : RevVec) (kept : kept_checkpoint (steps.others ++ mid.history.past) id ≡ Some v) (mine : steps.own ≡ event.Attach mid.session id ∷ []) where
    abbrev moved : History
    moved = record mid.history { past = event.Attach mid.session id ∷ behind }

    last : last_checkpoint behind id ≡ Some v
    last = kept_last behind id v kept

    pub based_attached : base_of (event.Attach mid.session id ∷ (steps.others ++ mid.history.past)) mid.session ≡ Some v
    based_attached = ap (λ b. cond b (last_checkpoint behind id) (base_of behind mid.session)) (own mid.session) ∙ last

    called_attached : call_of law mid.history.begin (event.Attach mid.session id ∷ behind) mid.session ≡ Some (call_moved here.call v (tree_at mid.history.begin behind v))
    called_attached = attach_call law mid.history.begin behind mid.session id v here.call last called_then

    -- to a checkpoint
    pub attached_base : IsBased law new run here.call v
    attached_base =
        let by = by_event (event.Attach mid.session id) mine in
        let whole = run_event (event.Attach mid.session id) mine in record {
          inside = record {
            nodes = by (λ h n. AreNodes h.clusters h.sessions) inside_then.nodes;
            trees = by (λ h n. SeesTrees law h.clusters h.sessions h.begin) inside_then.trees;
            typed = by (λ h n. SeesTyped law h.clusters h.sessions h.begin) inside_then.typed;
            run = steps.grows.run;
            login = by (λ h n. has_login h.past n ≡ true) inside_then.login;
            stays = by (λ h n. has_left h.past n ≡ false) inside_then.stays;
            began = by (λ h n. is_attached (before_turn h.past n) n ≡ run.attached) inside_then.began;
            cursor = by (λ h n. KeepsCursor law h n)
                (cursor_moved law moment moved mid.session here.call v (tree_at mid.history.begin behind v) called_then called_attached refl (λ h. h) inside_then.cursor);
          };
          eight = base_eight (starts_of law) (says_of law) mid.history.clusters mid.history.sessions inside_then.nodes mid.history.begin (event.Attach mid.session id ∷ behind) mid.session v whole based_attached;
          tree = tree_at mid.history.begin behind v;
          tree_is = inside_then.trees (event.Attach mid.session id ∷ behind) whole mid.session v based_attached;
          called = by (λ h n. call_of law h.begin h.past n ≡ Some (call_moved here.call v (tree_at mid.history.begin behind v))) called_attached;
          fresh = by (λ h n. IsFresh h.past n) record {
            first = fresh_then.first;
            idle = among_same behind (event.Attach mid.session id) (λ r. refl) behind mid.session ∙ fresh_then.idle;
          };
          unpinned = by (λ h n. is_unpinned h.past n ≡ true) unpinned_then;
        }

  -- it moves nothing, and is a look at the settings
  module _ (mine : steps.own ≡ event.Went mid.session kind.Settings ∷ []) where
    abbrev looked : Past
    looked = event.Went mid.session kind.Settings ∷ behind

    called_looked : call_of law mid.history.begin looked mid.session ≡ Some here.call
    called_looked =
        call_stays law mid.history.begin (starts_of law) (says_of law) mid.history.clusters mid.history.sessions inside_then.nodes (event.Went mid.session kind.Settings ∷ []) behind mid.session
        (run_event (event.Went mid.session kind.Settings) mine) refl ∙ called_then

    pub record IsLooked : Type 0 where
      pub inside : IsIn law new run.attached
      pub called : IsCalled law new here.call
      pub fresh : IsFresh new.history.past new.session
      pub unmoved : is_unmoved new.history.past new.session ≡ true
      pub cursor : HasCursor new.history.past new.session here.call

    pub looked_on : IsLooked
    looked_on =
        let by = by_event (event.Went mid.session kind.Settings) mine in record {
          inside = record {
            nodes = by (λ h n. AreNodes h.clusters h.sessions) inside_then.nodes;
            trees = by (λ h n. SeesTrees law h.clusters h.sessions h.begin) inside_then.trees;
            typed = by (λ h n. SeesTyped law h.clusters h.sessions h.begin) inside_then.typed;
            run = steps.grows.run;
            login = by (λ h n. has_login h.past n ≡ true) inside_then.login;
            stays = by (λ h n. has_left h.past n ≡ false) inside_then.stays;
            began = by (λ h n. is_attached (before_turn h.past n) n ≡ run.attached) inside_then.began;
            cursor = by (λ h n. KeepsCursor law h n)
                (cursor_of_call law (record mid.history { past = looked }) mid.session here.call called_looked
                (λ unpinned. has_cursor_over behind looked mid.session here.call refl (inside_then.cursor here.call called_then unpinned)));
          };
          called = by (λ h n. call_of law h.begin h.past n ≡ Some here.call) called_looked;
          fresh = by (λ h n. IsFresh h.past n) record {
            first = fresh_then.first;
            idle = among_same behind (event.Went mid.session kind.Settings) (λ r. refl) behind mid.session ∙ fresh_then.idle;
          };
          unmoved = by (λ h n. is_unmoved h.past n ≡ true) unmoved_then;
          cursor = by (λ h n. HasCursor h.past n here.call)
              (has_cursor_over behind looked mid.session here.call refl (inside_then.cursor here.call called_then unpinned_then));
        }
