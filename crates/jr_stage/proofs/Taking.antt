-- A turn of a session in its world, by its port, and of a stage.
use Rattle.std.proofs.Common.{◌≡◌, ◌⊎◌, inl, inr, ℕ, ◌+◌, ◌-◌, ◌*◌, ◌<◌, length, Bool, true, false, ◌||◌, ◌&&◌, Some, Result, Ok, Err, List, [], ◌∷◌, is_some, refl, sym, ap, ◌∙◌, subst, arith, zero, suc}
use mathlib.Core.Bool.{false≢true}
use Rattle.std.specs.Prelude.{IsTrue, slice_get, slice_set}
use Rattle.std.specs.Borrow.{GName}
use Rattle.std.specs.Option.{option_map}
use Rattle.std.specs.Result.{OnOk}
use Rattle.std.proofs.lemmas.Option.{slice_get-map}
use Rattle.oak_machine.specs.History.{History, Past}
use Rattle.oak_port.specs.Ports.{Beside, Shown}
use Rattle.oak_world.specs.Left.{left_in}
use Rattle.oak_world.specs.Seen.{shown_at}
use Rattle.oak_world.specs.Worlds.{WorldOf}
use Rattle.jcr_law.specs.declared.law.JcrLaw.{JcrLaw}
use Rattle.jcr_run.specs.declared.run.Phase.{Phase}
use Rattle.jcr_run.specs.declared.run.Phase.TheVariants as phase
use Rattle.jcr_run.specs.declared.run.SessionRun.{SessionRun}
use Rattle.jcr_run.specs.declared.turn.Turn.{Turn}
use Rattle.jcr_run.specs.declared.turn.Turn.TheVariants as turn
use Rattle.jcr_run.specs.Nearing.{BringsNearer, ComesNearer, DrawsNoOther, EndsSooner, HasNeared, ReadsOn, WorksSooner, stages_left, turns_left}
use Rattle.jcr_run.specs.Standing.{HasLooked, HasLookedBack, HasReadOn, HasTurned, IsSame, IsTurned, Stands, is_between, is_committing, is_saving, is_tidied, is_tidying, is_working, may_read}
use Rattle.jr_script.specs.declared.script.Script.{Script}
use Rattle.jcr_trans.specs.declared.command.Command.{Command}
use Rattle.jcr_trans.specs.declared.command.SessionScript.{SessionScript}
use Rattle.jr_stage.specs.declared.stage.Seat.{Seat}
use Rattle.jr_stage.specs.declared.stage.Stage.{Stage}
use Rattle.jr_stage.specs.Parts.{Rule}
use Rattle.jr_stage.specs.Nearing.{ReadsNearer}
use Rattle.jr_stage.specs.Stages.{HasCome, HasOnlyRead, MakesReading, HasTurnedIn, IsLookIn, IsReadingIn, IsStage, IsTidyingIn, IsTurnedIn, IsUnder, ReadsOrComes, flight_by, past_of}
use Rattle.jr_stage.proofs.Flying.{halves}
use Rattle.jr_stage.proofs.Looking.{LeavesStanding, between_works, commit_reads, further_nearer, inside_nearer, leaves_look, leaves_read, leaves_tidying, only_further, only_inside, only_reads, read_through, reads_nearer, tidy_reads, tidying_leads}
use Rattle.jr_stage.proofs.Reading.{comes_alone}
use Rattle.jr_stage.proofs.Turning.{has_come}

-- ---- in its world

-- what a turn made at a port it made in the world to which the port's reference leads
module _ (n m : GName) (s t : ℕ) (old new : WorldOf JcrLaw) (run now : SessionRun) (stands : Stands old.law (shown_at n old s) run) (law : new.law ≡ old.law) where
  same_name : (answer : Turn) → IsTurned old.law (shown_at n old s) (shown_at m new t) run now answer → m ≡ n
  same_name answer turned = ap (λ (b : Beside). b.name) turned.beside

  same_session : (answer : Turn) → IsTurned old.law (shown_at n old s) (shown_at m new t) run now answer → t ≡ s
  same_session answer turned = turned.stands.session ∙ (turned.same.0 ∙ sym stands.session)

-- what a turn at a port tells
abbrev TurnsAt : GName → ℕ → WorldOf JcrLaw → GName → ℕ → WorldOf JcrLaw → SessionRun → SessionRun → Turn → Type 0
TurnsAt n a w m t v run now answer =
    IsTurned w.law (shown_at n w a) (shown_at m v t) run now answer
    × (IsTrue (is_saving run.phase) → DrawsNoOther (shown_at n w a) (shown_at m v t))
    × ComesNearer (WorksSooner (left_in w a) (left_in v t) (shown_at n w a) run) (turns_left run) (turns_left now) answer

-- what a reading step at a port tells
abbrev ReadsAt : GName → ℕ → WorldOf JcrLaw → GName → ℕ → WorldOf JcrLaw → SessionRun → SessionRun → Type 0
ReadsAt n a w m t v run now =
    (v.law ≡ w.law)
    × HasLooked w.law (shown_at n w a) (shown_at m v t) run now
    × HasNeared (EndsSooner (left_in w a) (left_in v t) (shown_at n w a)) w.law (shown_at n w a) run now

-- what a look inside a commit at a port tells
abbrev LooksAt : GName → ℕ → WorldOf JcrLaw → GName → ℕ → WorldOf JcrLaw → SessionRun → SessionRun → Type 0
LooksAt n a w m t v run now =
    (v.law ≡ w.law)
    × HasLookedBack w.law (shown_at n w a) (shown_at m v t) run now
    × EndsSooner (left_in w a) (left_in v t) (shown_at n w a)

-- what a reading step of a split or a collection at a port tells
abbrev TidiesAt : GName → ℕ → WorldOf JcrLaw → GName → ℕ → WorldOf JcrLaw → SessionRun → SessionRun → Type 0
TidiesAt n a w m t v run now =
    (v.law ≡ w.law)
    × HasReadOn w.law (shown_at n w a) (shown_at m v t) run now
    × (IsTrue (is_working run.phase) → EndsSooner (left_in w a) (left_in v t) (shown_at n w a))

-- a commit is a task that is under way, and before a command that reads none is
commits_work : (f : Phase) → is_committing f ≡ true → is_working f ≡ true
commits_work (phase.Committing pledge) h = refl
commits_work f h = absurd (false≢true h)

reads_idle : (run : SessionRun) → may_read run ≡ true → is_working run.phase ≡ false
reads_idle run reads = between_works run.phase (halves (is_between run.phase) _ reads).0

-- before a command the session is as near as it was
turns_same : (run now : SessionRun) → IsSame run now → turns_left now ≡ turns_left run
turns_same run now same =
    ap (λ (cs : List Command). 5 * (length cs - now.index) + stages_left now.phase) same.commands
    ∙ (ap (λ (i : ℕ). 5 * (length run.commands - i) + stages_left now.phase) same.index
    ∙ ap (λ (f : Phase). 5 * (length run.commands - run.index) + stages_left f) same.phase)

no_less : {A : Type 0} (a b : ℕ) → a ≡ b → a < b → A
no_less a b h k = absurd (omega arith)

-- so less is to be known
has_neared : (sooner : Type 0) (law : JcrLaw) (q : Shown) (run now : SessionRun) → IsSame run now → BringsNearer false sooner law q run now → HasNeared sooner law q run now
has_neared sooner law q run now same (inl nears) = nears
has_neared sooner law q run now same (inr less) = no_less (turns_left now) (turns_left run) (turns_same run now same) less

-- the same of the world that is left where the port's reference was the world's own; nothing is known where memory was refused
module _ (d n m : GName) (s a t : ℕ) (old w v x : WorldOf JcrLaw) (run now : SessionRun) (name : n ≡ d) (world : w ≡ old) (session : a ≡ s) (stands : (g : GName) → Stands old.law (shown_at g old s) run) (law : v.law ≡ w.law) (left : d ≡ m → x ≡ v) where
  law_old : v.law ≡ old.law
  law_old = law ∙ ap (λ (y : WorldOf JcrLaw). y.law) world

  out : (answer : Turn) → TurnsAt n a w m t v run now answer → IsTurnedIn s old x run now answer
  out answer told =
      let at_old : TurnsAt n s old m t v run now answer =
      subst (λ (i : ℕ). TurnsAt n i old m t v run now answer) session (subst (λ (y : WorldOf JcrLaw). TurnsAt n a y m t v run now answer) world told) in
      let named : m ≡ n = same_name n m s t old v run now (stands n) law_old answer at_old.0 in
      let seated : t ≡ s = same_session n m s t old v run now (stands n) law_old answer at_old.0 in
      let at_new : TurnsAt n s old n s v run now answer =
      subst (λ (g : GName). TurnsAt n s old g s v run now answer) named (subst (λ (i : ℕ). TurnsAt n s old m i v run now answer) seated at_old) in
      let same : x ≡ v = left (sym name ∙ sym named) in
      let at_last : TurnsAt n s old n s x run now answer = subst (λ (y : WorldOf JcrLaw). TurnsAt n s old n s y run now answer) (sym same) at_new in
      record { name = n; law = ap (λ (y : WorldOf JcrLaw). y.law) same ∙ law_old; turned = at_last.0; draws = at_last.1; nears = at_last.2 }

  read_in_out : ReadsAt n a w m t v run now → may_read run ≡ true → IsReadingIn s old x run now
  read_in_out told reads =
      let named : m ≡ n = ap (λ (b : Beside). b.name) told.1.beside.beside in
      let at_port : ReadsAt n a w n a v run now =
      subst (λ (g : GName). ReadsAt n a w g a v run now) named (subst (λ (i : ℕ). ReadsAt n a w m i v run now) told.1.beside.session told) in
      let at_old : ReadsAt n s old n s v run now =
      subst (λ (i : ℕ). ReadsAt n i old n i v run now) session (subst (λ (y : WorldOf JcrLaw). ReadsAt n a y n a v run now) world at_port) in
      let at_last : ReadsAt n s old n s x run now = subst (λ (y : WorldOf JcrLaw). ReadsAt n s old n s y run now) (sym (left (sym name ∙ sym named))) at_old in
      record { name = n; read = (at_last.0, at_last.1); reads = reads; nears = at_last.2 }

  look_in_out : LooksAt n a w m t v run now → IsLookIn s old x run now
  look_in_out told =
      let named : m ≡ n = ap (λ (b : Beside). b.name) told.1.beside.beside in
      let at_port : LooksAt n a w n a v run now =
      subst (λ (g : GName). LooksAt n a w g a v run now) named (subst (λ (i : ℕ). LooksAt n a w m i v run now) told.1.beside.session told) in
      let at_old : LooksAt n s old n s v run now =
      subst (λ (i : ℕ). LooksAt n i old n i v run now) session (subst (λ (y : WorldOf JcrLaw). LooksAt n a y n a v run now) world at_port) in
      let at_last : LooksAt n s old n s x run now = subst (λ (y : WorldOf JcrLaw). LooksAt n s old n s y run now) (sym (left (sym name ∙ sym named))) at_old in
      record { name = n; law = at_last.0; looks = at_last.1; nears = at_last.2 }

  tidy_in_out : TidiesAt n a w m t v run now → IsTidyingIn s old x run now
  tidy_in_out told =
      let named : m ≡ n = ap (λ (b : Beside). b.name) told.1.beside.beside in
      let at_port : TidiesAt n a w n a v run now =
      subst (λ (g : GName). TidiesAt n a w g a v run now) named (subst (λ (i : ℕ). TidiesAt n a w m i v run now) told.1.beside.session told) in
      let at_old : TidiesAt n s old n s v run now =
      subst (λ (i : ℕ). TidiesAt n i old n i v run now) session (subst (λ (y : WorldOf JcrLaw). TidiesAt n a y n a v run now) world at_port) in
      let at_last : TidiesAt n s old n s x run now = subst (λ (y : WorldOf JcrLaw). TidiesAt n s old n s y run now) (sym (left (sym name ∙ sym named))) at_old in
      record { name = n; law = at_last.0; reads = at_last.1; nears = at_last.2 }

  -- what a reading step brings nearer, by whether a task is under way
  brings : (b : Bool) → is_working run.phase ≡ b → ReadsOn (EndsSooner (left_in w a) (left_in v t) (shown_at n w a)) w.law (shown_at n w a) run now turn.Read
      → BringsNearer b (EndsSooner (left_in w a) (left_in v t) (shown_at n w a)) w.law (shown_at n w a) run now
  brings b is reads = subst (λ (c : Bool). BringsNearer c (EndsSooner (left_in w a) (left_in v t) (shown_at n w a)) w.law (shown_at n w a) run now) is reads

  pub turned_out : (answer : Turn) → HasTurned w.law (shown_at n w a) (shown_at m v t) run now answer
      → (IsTrue (is_saving run.phase) → DrawsNoOther (shown_at n w a) (shown_at m v t))
      → ComesNearer (WorksSooner (left_in w a) (left_in v t) (shown_at n w a) run) (turns_left run) (turns_left now) answer
      → ReadsOn (EndsSooner (left_in w a) (left_in v t) (shown_at n w a)) w.law (shown_at n w a) run now answer
      → HasTurnedIn s old x run now answer
  turned_out (turn.Stepped k) turned draws nears reads = out (turn.Stepped k) (turned, draws, nears)
  turned_out (turn.Said i) turned draws nears reads = out (turn.Said i) (turned, draws, nears)
  turned_out (turn.Waiting q) turned draws nears reads = out (turn.Waiting q) (turned, draws, nears)
  turned_out turn.Ended turned draws nears reads = out turn.Ended (turned, draws, nears)
  turned_out turn.Read (inl read) draws nears reads =
      inl (read_in_out (law, read.0, has_neared (EndsSooner (left_in w a) (left_in v t) (shown_at n w a)) w.law (shown_at n w a) run now read.0.same (brings false (reads_idle run read.1) reads)) read.1)
  turned_out turn.Read (inr (inl back)) draws nears reads =
      inr (inl (look_in_out (law, back, (brings true (commits_work run.phase back.commits) reads).0)))
  turned_out turn.Read (inr (inr tidies)) draws nears reads =
      inr (inr (tidy_in_out (law, tidies, λ works. (brings true works reads).0)))
  turned_out turn.Memory turned draws nears reads = tt

-- the same of a reading step
pub read_out : (d n m : GName) (s a t : ℕ) (old w v x : WorldOf JcrLaw) (run now : SessionRun) → n ≡ d → w ≡ old → a ≡ s → v.law ≡ w.law → (d ≡ m → x ≡ v) → HasLooked w.law (shown_at n w a) (shown_at m v t) run now → (g : GName) × MakesReading g s old x run now
read_out d n m s a t old w v x run now name world session law left looked =
    let same : d ≡ m = sym name ∙ sym (ap (λ (b : Beside). b.name) looked.beside.beside) in
    subst (λ (y : WorldOf JcrLaw). (g : GName) × MakesReading g s old y run now) (sym (left same)) (d, read_through d m n s t a old w v run now world name session law looked)

-- ---- of a stage

module _ (stage : Stage) (is : IsStage stage) where
  -- each seat is of a session of the world
  pub session_there : (s : ℕ) → s < length stage.seats.items → is_some (slice_get stage.world.history.sessions s) ≡ true
  session_there s within = subst (λ (h : History). is_some (slice_get h.sessions s) ≡ true) (sym is.history) (ap is_some (slice_get-map (λ (x : SessionScript). x.cluster) stage.script.value.sessions s) ∙ by stage.script.value.sessions s (let h : s < length stage.script.value.sessions = omega (arith, is.seats) in h))
    where
      by : (xs : List SessionScript) (k : ℕ) → k < length xs → is_some (option_map (λ (x : SessionScript). x.cluster) (slice_get xs k)) ≡ true
      by [] k h = absurd (omega arith)
      by (x ∷ xs) zero h = refl
      by (x ∷ xs) (suc k) h = by xs k (omega arith)

module _ (s : ℕ) (old new : Stage) (seat seat_now : Seat) (stage : IsStage old) (at : slice_get old.seats.items s ≡ Some seat) (script_same : new.script.value ≡ old.script.value) (schedule_same : new.schedule ≡ old.schedule) (seats_now : new.seats.items ≡ slice_set old.seats.items s seat_now) where
  come_in : (answer : Turn) → IsTurnedIn s old.world new.world seat.run seat_now.run answer → seat_now.flight ≡ flight_by answer (past_of new) seat.flight → HasCome old new s answer
  come_in answer is kept = has_come is.name s old new seat seat_now answer stage at script_same schedule_same seats_now is.law is.turned kept is.draws is.nears

  pub come_by : (answer : Turn) → (answer ≡ turn.Memory → ⊥) → HasTurnedIn s old.world new.world seat.run seat_now.run answer → seat_now.flight ≡ flight_by answer (past_of new) seat.flight
      → ReadsOrComes (ReadsNearer old new s) old new s answer
  come_by (turn.Stepped k) made is kept = comes_alone old new s (turn.Stepped k) stage (come_in (turn.Stepped k) is kept)
  come_by (turn.Said i) made is kept = comes_alone old new s (turn.Said i) stage (come_in (turn.Said i) is kept)
  come_by (turn.Waiting q) made is kept = comes_alone old new s (turn.Waiting q) stage (come_in (turn.Waiting q) is kept)
  come_by turn.Ended made is kept = comes_alone old new s turn.Ended stage (come_in turn.Ended is kept)
  come_by turn.Read made (inl is) kept =
      let leaves = leaves_read is.name s old.world new.world seat.run seat_now.run ((stage.each s seat at).stands is.name) is.read in (
        only_reads is.name s old new seat seat_now stage at script_same schedule_same seats_now kept leaves is.read.1.same.phase is.reads,
        reads_nearer is.name s old new seat seat_now stage at script_same schedule_same seats_now kept leaves is.read.1.same.phase is.reads is.nears,
      )
  come_by turn.Read made (inr (inl is)) kept =
      let leaves = leaves_look is.name s old.world new.world seat.run seat_now.run is.law is.looks in
      let works : is_working seat.run.phase ≡ true = commits_work seat.run.phase is.looks.commits in
      let same : seat_now.run.phase ≡ seat.run.phase = ap (λ (r : SessionRun). r.phase) is.looks.same in (
        only_inside is.name s old new seat seat_now stage at script_same schedule_same seats_now kept leaves works same (is.nears refl),
        inside_nearer is.name s old new seat seat_now stage at script_same schedule_same seats_now kept leaves works same (is.nears refl)
            (commit_reads old.world.law (shown_at is.name old.world s) seat.run ((stage.each s seat at).stands is.name) is.looks.commits),
      )
  come_by turn.Read made (inr (inr is)) kept = by (tidying_leads seat.run.phase seat_now.run.phase is.reads.before is.reads.behind)
    where
      leaves : LeavesStanding is.name s old.world new.world seat.run seat_now.run
      leaves = leaves_tidying is.name s old.world new.world seat.run seat_now.run ((stage.each s seat at).stands is.name) is.law is.reads

      unread : is_some seat_now.run.fetch ≡ false
      unread = tidy_reads old.world.law (shown_at is.name new.world s) seat_now.run is.reads.stands is.reads.behind

      tidies : (f : Phase) → (is_between f || is_tidying f) ≡ true → is_working f ≡ true → (is_tidying f || is_tidied f) ≡ true
      tidies phase.Tidying h k = refl
      tidies phase.Between h k = absurd (false≢true k)
      tidies f h k = absurd (false≢true h)

      by : ((is_working seat.run.phase ≡ true) × (seat_now.run.phase ≡ seat.run.phase)) ⊎ (stages_left seat_now.run.phase < stages_left seat.run.phase)
          → HasOnlyRead old new s × ReadsNearer old new s
      by (inl (works, same)) = (
        only_inside is.name s old new seat seat_now stage at script_same schedule_same seats_now kept leaves works same (is.nears works refl),
        inside_nearer is.name s old new seat seat_now stage at script_same schedule_same seats_now kept leaves works same (is.nears works refl)
            (tidy_reads old.world.law (shown_at is.name old.world s) seat.run ((stage.each s seat at).stands is.name) (tidies seat.run.phase is.reads.before works)),
      )
      by (inr less) = (
        only_further is.name s old new seat seat_now stage at script_same schedule_same seats_now kept leaves less,
        further_nearer is.name s old new seat seat_now stage at script_same schedule_same seats_now kept leaves less unread,
      )
  come_by turn.Memory made is kept = absurd (made refl)

-- a part under way leaves the seats that there were
pub there_still : (first stage : Stage) (rule : Rule) (part : Past) (s : ℕ) → IsStage first → IsUnder first stage rule part → s < length first.seats.items → s < length stage.seats.items
there_still first stage rule part s is under within =
    let now = under.stage_is.seats in
    let before = is.seats in
    let same : length stage.script.value.sessions ≡ length first.script.value.sessions = ap (λ (x : Script). length x.sessions) under.script in
    omega arith

-- a session stands where it stood, in the world of its port
pub stands_at : (n m : GName) (s t : ℕ) (w v : WorldOf JcrLaw) (run : SessionRun) → m ≡ n → v ≡ w → t ≡ s → Stands w.law (shown_at n w s) run → Stands v.law (shown_at m v t) run
stands_at n m s t w v run name world session stands =
    subst (λ (i : ℕ). Stands v.law (shown_at m v i) run) (sym session) (subst (λ (x : WorldOf JcrLaw). Stands x.law (shown_at m x s) run) (sym world) (subst (λ (g : GName). Stands w.law (shown_at g w s) run) (sym name) stands))
