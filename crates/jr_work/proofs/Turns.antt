-- Turns of a session to its end, at a port; and what its pass then knows.
use Rattle.std.proofs.Common.{◌≡◌, ◌≢◌, inl, inr, ℕ, ◌<◌, true, false, ◌&&◌, Some, None, Option, Result, Ok, Err, List, [], ◌++◌, length, map, is_some, refl, sym, ap, ◌∙◌, subst}
use mathlib.Core.Bool.{false≢true}
use Rattle.std.specs.Prelude.{◌==◌, IfOk, IfSome, IsTrue, reverse, slice_get}
use Rattle.std.specs.Borrow.{GName}
use Rattle.std.specs.Result.{OnOk}
use Rattle.std.specs.List.{list_any}
use Rattle.std.specs.Option.{option_and_then, option_map_or, unwrap_or}
use Rattle.std.proofs.lemmas.List.{append-nil}
use Rattle.basics.proofs.Bools.{number_itself}
use Rattle.oak_machine.specs.History.{History, Past}
use Rattle.oak_machine.specs.Laws.{after, is_event_of}
use Rattle.oak_machine.specs.Runs.{AreNodes, IsRun}
use Rattle.oak_machine.specs.Sessions.{has_left, next_index}
use Rattle.oak_port.specs.Ports.{Idle, Shown}
use Rattle.oak_world.specs.Seen.{shown_work}
use Rattle.oak_world.specs.Worlds.{idle}
use Rattle.core_obeys.specs.Seeing.{SeesTrees, SeesTyped}
use Rattle.jr_tree.specs.Trees.{initial_tree}
use Rattle.jr_types.specs.Rules.{TypesOk}
use Rattle.jr_types.specs.declared.TypeDef.{TypeDef}
use Rattle.jcr_law.specs.declared.law.JcrLaw.{JcrLaw}
use Rattle.jcr_law.specs.Lasting.{says_of, starts_of}
use Rattle.jcr_run.specs.declared.run.SessionRun.{SessionRun}
use Rattle.jcr_run.specs.declared.turn.Turn.{Turn}
use Rattle.jcr_run.specs.declared.turn.Turn.TheVariants as turn
use Rattle.jcr_run.specs.Standing.{HasLooked, HasLookedBack, HasReadOn, HasTurned, IsNew, IsTurned, Stands}
use Rattle.jcr_run.proofs.Staying.{new_stands}
use Rattle.jcr_trans.specs.declared.command.Command.{Command}
use Rattle.jcr_trans.specs.declared.command.SessionScript.{SessionScript}
use Rattle.jr_script.specs.Bounds.{IsWithin}
use Rattle.jr_script.specs.declared.script.Script.{Script}
use Rattle.jr_shared.specs.declared.locked.WorldFrame.{WorldFrame}
use Rattle.jr_shared.specs.Holds.{IsTold, IsToldOf, PassKnown, has_seat, owned_by}
use Rattle.jr_shared.specs.Meanings.{Owned, own_events}
use Rattle.jr_shared.specs.Seen.{history_by, law_by, shown_through}
use Rattle.jr_shared.proofs.Events.{are_others}
use Rattle.jr_shared.proofs.Got.{some_part, the_is}
use Rattle.seat_lock.specs.declared.rule.Round.TheVariants as round
use Rattle.jr_stage.specs.Places.{commands_of, history_at, is_over}
use Rattle.jr_stage.specs.Stages.{law_of}
use Rattle.jr_work.specs.Workers.{HasRunOut, HasGoneOn, HasNotBegun, HasRunOne, KnowsScript, frame_for}
use Rattle.jr_work.proofs.Handing.{history_known}
use Rattle.jr_work.proofs.Owning.{own_over}
use Rattle.jr_stage.proofs.Reaching.{seat_at}
use Rattle.jr_stage.proofs.Turning.{commands_at}
use Rattle.jr_stage.proofs.Within.{session_within, within_nodes}

-- what follows where there is no error
pub on_ok_more : {A E : Type 0} (r : Result A E) {P Q : Type 0} → (P → Q) → OnOk r P → OnOk r Q
on_ok_more (Ok a) f p = f p
on_ok_more (Err e) f p = tt

pub if_ok_both : {A E : Type 0} (r : Result A E) {P Q R : A → Type 0} → ((a : A) → P a → Q a → R a) → IfOk r P → IfOk r Q → IfOk r R
if_ok_both (Ok a) f p q = f a p q
if_ok_both (Err e) f p q = tt

-- ---- turn by turn

pub on_begins : (law : JcrLaw) (p : Shown) (run : SessionRun) → Stands law p run → HasGoneOn law p p run run
on_begins law p run stands = record { session = refl; commands = refl; clusters = refl; sessions = refl; beside = refl; stands = stands }

module _ (law : JcrLaw) (first mid new : Shown) (run was now : SessionRun) (on : HasGoneOn law first mid run was) where
  -- one turn more
  on_more : (answer : Turn) → IsTurned law mid new was now answer → HasGoneOn law first new run now
  on_more answer turned = record {
    session = turned.same.0 ∙ on.session;
    commands = turned.same.1 ∙ on.commands;
    clusters = ap (λ (h : History). h.clusters) turned.grows.grown ∙ on.clusters;
    sessions = ap (λ (h : History). h.sessions) turned.grows.grown ∙ on.sessions;
    beside = turned.beside ∙ on.beside;
    stands = turned.stands;
  }

  -- a reading step more
  on_read : HasLooked law mid new was now → HasGoneOn law first new run now
  on_read looked = record {
    session = looked.same.session ∙ on.session;
    commands = looked.same.commands ∙ on.commands;
    clusters = ap (λ (h : History). h.clusters) looked.beside.grows.grown ∙ on.clusters;
    sessions = ap (λ (h : History). h.sessions) looked.beside.grows.grown ∙ on.sessions;
    beside = looked.beside.beside ∙ on.beside;
    stands = looked.stands;
  }

  -- a look inside a commit more
  on_back : HasLookedBack law mid new was now → HasGoneOn law first new run now
  on_back back = record {
    session = ap (λ (r : SessionRun). r.session) back.same ∙ on.session;
    commands = ap (λ (r : SessionRun). r.commands) back.same ∙ on.commands;
    clusters = ap (λ (h : History). h.clusters) back.beside.grows.grown ∙ on.clusters;
    sessions = ap (λ (h : History). h.sessions) back.beside.grows.grown ∙ on.sessions;
    beside = back.beside.beside ∙ on.beside;
    stands = back.stands;
  }

  -- a reading step of a split or a collection more
  on_tidying : HasReadOn law mid new was now → HasGoneOn law first new run now
  on_tidying read = record {
    session = read.same.session ∙ on.session;
    commands = read.same.commands ∙ on.commands;
    clusters = ap (λ (h : History). h.clusters) read.beside.grows.grown ∙ on.clusters;
    sessions = ap (λ (h : History). h.sessions) read.beside.grows.grown ∙ on.sessions;
    beside = read.beside.beside ∙ on.beside;
    stands = read.stands;
  }

  pub goes_on : (answer : Turn) → (answer ≡ turn.Memory → ⊥) → HasTurned law mid new was now answer → HasGoneOn law first new run now
  goes_on (turn.Stepped k) made turned = on_more (turn.Stepped k) turned
  goes_on (turn.Said i) made turned = on_more (turn.Said i) turned
  goes_on (turn.Waiting q) made turned = on_more (turn.Waiting q) turned
  goes_on turn.Ended made turned = on_more turn.Ended turned
  goes_on turn.Read made (inl read) = on_read read.0
  goes_on turn.Read made (inr (inl back)) = on_back back
  goes_on turn.Read made (inr (inr read)) = on_tidying read
  goes_on turn.Memory made turned = absurd (made refl)

  pub ends : (answer : Turn) → answer ≡ turn.Ended → HasTurned law mid new was now answer → HasRunOut law first new run now
  ends answer is turned = by (subst (λ (a : Turn). HasTurned law mid new was now a) is turned)
    where
      by : IsTurned law mid new was now turn.Ended → HasRunOut law first new run now
      by turned = record {
        on = on_more turn.Ended turned;
        all = turned.made.2;
        left =
            ap (λ (p : Past). has_left p new.session) (ap (λ (h : History). h.past) turned.grows.grown ∙ ap (λ (o : Past). (after o (after turned.others mid.history)).past) turned.tells)
            ∙ (ap (λ (p : Shown). has_left (after turned.others mid.history).past p.session) turned.made.0 ∙ turned.made.1);
      }

-- ---- a session of a pass begins

module _ (script : Script) (within : IsWithin script) (v : PassKnown JcrLaw) (knows : KnowsScript script v) (s : ℕ) (first : HasNotBegun v s) where
  abbrev past : Past
  past = reverse v.seen

  history : history_by v ≡ history_at script past
  history = history_known script v knows.frame

  nodes : AreNodes (history_by v).clusters (history_by v).sessions
  nodes = subst (λ (h : History). AreNodes h.clusters h.sessions) (sym history) (within_nodes script within)

  pub new_seat : has_seat v s ≡ true
  new_seat = ap (λ (o : Option Owned). is_some (option_and_then (λ p. p.seat) o)) first

  -- it has no event among those that the pass has seen
  none_yet : list_any (is_event_of past s) past ≡ false
  none_yet =
      let told = knows.told s in
      let same : [] ≡ own_events past s = (subst (λ (o : Option Owned). IfSome o (IsToldOf past s)) first told).0 in
      let all : past ++ [] ≡ past = append-nil past in
      subst (λ (w : Past). list_any (is_event_of w s) past ≡ false) all
      (are_others (history_by v).clusters (history_by v).sessions nodes None (starts_of (law_of script)) (says_of (law_of script)) s past []
      (subst (λ (w : Past). IsRun (starts_of (law_of script)) (says_of (law_of script)) (record (history_by v) { past = w })) (sym all) knows.run)
      (ap (λ (w : Past). own_events w s) all ∙ sym same))

  pub first_stands : (commands : List Command) → commands ≡ commands_of script s → s < length script.sessions → ((l : JcrLaw) (clusters : ℕ) (sessions : List ℕ) → AreNodes clusters sessions → SeesTrees l clusters sessions None)
      → ((l : JcrLaw) (clusters : ℕ) (sessions : List ℕ) → AreNodes clusters sessions → TypesOk l.types initial_tree → SeesTyped l clusters sessions None)
      → (types : List TypeDef) → types ≡ script.types → (run : SessionRun) → IsNew s 0 commands types run → (name : GName) → Stands (law_of script) (shown_through name v s) run
  first_stands commands is below trees typed types same run new name = by (seat_at script.sessions s below)
    where
      by : (session : SessionScript) × (slice_get script.sessions s ≡ Some session) → Stands (law_of script) (shown_through name v s) run
      by (session, there) =
          new_stands (law_of script) (shown_through name v s) s session.commands run
          (subst (λ (c : List Command). IsNew s 0 c script.types run) (is ∙ ap (λ (o : Option SessionScript). option_map_or (λ x. x.commands) o []) there) (subst (λ (l : List TypeDef). IsNew s 0 commands l run) same new)) (session_within script within s session there).few nodes
          (subst (λ (h : History). SeesTrees (law_of script) h.clusters h.sessions h.begin) (sym history) (trees (law_of script) script.clusters (map (λ x. x.cluster) script.sessions) (within_nodes script within)))
          (subst (λ (h : History). SeesTyped (law_of script) h.clusters h.sessions h.begin) (sym history) (typed (law_of script) script.clusters (map (λ x. x.cluster) script.sessions) (within_nodes script within) within.types.typed)) knows.run
          (ap (λ (o : Option Owned). shown_work (unwrap_or (option_and_then (λ p. p.seat) o) idle).work) first) refl
          (λ i. commands_at script s i ∙ ap (λ (o : Option SessionScript). slice_get (option_map_or (λ x. x.commands) o []) i) there) none_yet

-- it stands so at a port of the pass, whatever reference leads there
pub stands_port : (script : Script) (v w : PassKnown JcrLaw) (s t : ℕ) (m : GName) (run : SessionRun) → KnowsScript script v → ((name : GName) → Stands (law_of script) (shown_through name v s) run)
    → (framed : is_some w.frame ≡ true) → w ≡ v → t ≡ s → Stands (law_by w framed) (shown_through m w t) run
stands_port script v w s t m run knows stands framed same session =
    subst (λ (l : JcrLaw). Stands l (shown_through m w t) run) (sym (law_known script w framed (ap (λ (x : PassKnown JcrLaw). x.frame) same ∙ knows.frame)))
    (subst (λ (i : ℕ). Stands (law_of script) (shown_through m w i) run) (sym session) (subst (λ (x : PassKnown JcrLaw). Stands (law_of script) (shown_through m x s) run) (sym same) (stands m)))
  where
    law_known : (script : Script) (w : PassKnown JcrLaw) (framed : is_some w.frame ≡ true) → w.frame ≡ Some (frame_for script) → law_by w framed ≡ law_of script
    law_known script w framed frame = ap (λ (f : WorldFrame JcrLaw). f.law) (the_is w.frame (frame_for script) frame framed)

-- ---- a session of a pass has ended

some_of : {A : Type 0} (o : Option A) → is_some o ≡ true → (x : A) × (o ≡ Some x)
some_of None h = absurd (false≢true h)
some_of (Some x) h = (x, refl)

same_frame : (f g : WorldFrame JcrLaw) → f.law ≡ g.law → f.clusters ≡ g.clusters → f.sessions ≡ g.sessions → f ≡ g
same_frame f g p q r = λ i. record { law = p i; clusters = q i; sessions = r i }

-- what is known of the port's pass once its session has ended
module _ (script : Script) (v w : PassKnown JcrLaw) (s t : ℕ) (n m : GName) (run now : SessionRun) (knows : KnowsScript script v) (commands : run.commands ≡ commands_of script s)
    (began : Stands (law_of script) (shown_through n v s) run) (framed : is_some w.frame ≡ true) (law : law_by w framed ≡ law_of script) (told : IsTold w) (rest : w.round ≡ round.Idle) (seat : has_seat w t ≡ true)
    (ended : HasRunOut (law_of script) (shown_through n v s) (shown_through m w t) run now) where
  session_now : now.session ≡ s
  session_now = ended.on.session ∙ sym began.session

  pub same_session : t ≡ s
  same_session = ended.on.stands.session ∙ session_now

  pub same_name : m ≡ n
  same_name = ap (λ b. b.name) ended.on.beside

  frame_now : w.frame ≡ Some (frame_for script)
  frame_now = by (some_of w.frame framed)
    where
      by : (f : WorldFrame JcrLaw) × (w.frame ≡ Some f) → w.frame ≡ Some (frame_for script)
      by (f, is) =
          let history : history_by v ≡ history_at script (reverse v.seen) = history_known script v knows.frame in
          is ∙ ap Some (same_frame f (frame_for script)
          (ap (λ (f : WorldFrame JcrLaw). f.law) (sym (the_is w.frame f is framed)) ∙ law)
          (ap (λ (o : Option (WorldFrame JcrLaw)). option_map_or (λ f. f.clusters) o 0) (sym is) ∙ (ended.on.clusters ∙ ap (λ (h : History). h.clusters) history))
          (ap (λ (o : Option (WorldFrame JcrLaw)). option_map_or (λ f. f.sessions) o []) (sym is) ∙ (ended.on.sessions ∙ ap (λ (h : History). h.sessions) history)))

  over_now : (part : Owned) × (owned_by w s ≡ Some part) × IsTrue (is_over script part.events s)
  over_now = subst (λ (i : ℕ). (part : Owned) × (owned_by w i ≡ Some part) × IsTrue (is_over script part.events s)) same_session (by (some_part (owned_by w t) seat))
    where
      said : next_index (reverse w.seen) s ≡ length (commands_of script s)
      said = ap (next_index (reverse w.seen)) (sym session_now) ∙ (sym ended.on.stands.index ∙ (ended.all ∙ ap (λ (l : List Command). length l) (ended.on.commands ∙ commands)))

      left : has_left (reverse w.seen) s ≡ true
      left = ap (has_left (reverse w.seen)) (sym same_session) ∙ ended.left

      over : is_over script (reverse w.seen) s ≡ true
      over = ap (λ (n : ℕ). n == length (commands_of script s) && has_left (reverse w.seen) s) said ∙ (ap (λ b. b && has_left (reverse w.seen) s) (number_itself (length (commands_of script s))) ∙ left)

      by : (part : Owned) × (owned_by w t ≡ Some part) → (part : Owned) × (owned_by w t ≡ Some part) × IsTrue (is_over script part.events s)
      by (part, found) =
          let told_here = told t in
          let events : part.events ≡ own_events (reverse w.seen) t = (subst (λ (o : Option Owned). IfSome o (IsToldOf (reverse w.seen) t)) found told_here).0 in
          (part, found, ap (λ (p : Past). is_over script p s) (events ∙ ap (own_events (reverse w.seen)) same_session) ∙ (own_over s script (reverse w.seen) ∙ over))

  pub ran_one : w.weight ≡ v.weight → ((q : ℕ) → q ≢ t → owned_by w q ≡ owned_by v q) → HasRunOne script v w s
  ran_one weight others = record {
    knows = record { rest = rest; frame = frame_now; told = told; run = ended.on.stands.run_is };
    weight = weight;
    others = λ q apart. others q (subst (λ (i : ℕ). q ≢ i) (sym same_session) apart);
    over = over_now;
  }

-- the same of the pass that the port leaves, which is the caller's where its reference was
module _ (script : Script) (v u w : PassKnown JcrLaw) (s r t : ℕ) (d n m : GName) (run now : SessionRun) (knows : KnowsScript script v) (commands : run.commands ≡ commands_of script s)
    (stands : (name : GName) → Stands (law_of script) (shown_through name v s) run) (begun : is_some u.frame ≡ true) (same : u ≡ v) (session : r ≡ s) (name : n ≡ d)
    (framed : is_some w.frame ≡ true) (law : law_by w framed ≡ law_by u begun) (told : IsTold w) (rest : w.round ≡ round.Idle) (seat : has_seat w t ≡ true)
    (weight : w.weight ≡ v.weight) (others : (q : ℕ) → q ≢ t → owned_by w q ≡ owned_by v q)
    (ended : HasRunOut (law_by u begun) (shown_through n u r) (shown_through m w t) run now) where
  law_begun : law_by u begun ≡ law_of script
  law_begun = ap (λ (f : WorldFrame JcrLaw). f.law) (the_is u.frame (frame_for script) (ap (λ (x : PassKnown JcrLaw). x.frame) same ∙ knows.frame) begun)

  ended_here : HasRunOut (law_of script) (shown_through n v s) (shown_through m w t) run now
  ended_here =
      subst (λ (l : JcrLaw). HasRunOut l (shown_through n v s) (shown_through m w t) run now) law_begun
      (subst (λ (i : ℕ). HasRunOut (law_by u begun) (shown_through n v i) (shown_through m w t) run now) session
      (subst (λ (y : PassKnown JcrLaw). HasRunOut (law_by u begun) (shown_through n y r) (shown_through m w t) run now) same ended))

  -- the reference is the caller's, and the session has run
  pub ran_through : (d ≡ m) × HasRunOne script v w s
  ran_through = (own_name, ran)
    where
      own_name : d ≡ m
      own_name = sym name ∙ sym (same_name script v w s t n m run now knows commands (stands n) framed (law ∙ law_begun) told rest seat ended_here)

      ran : HasRunOne script v w s
      ran = ran_one script v w s t n m run now knows commands (stands n) framed (law ∙ law_begun) told rest seat ended_here weight others
