-- Turns bring a session nearer to its end.
use Rattle.std.proofs.Common.{◌≡◌, ◌⊎◌, inl, inr, ℕ, ◌<◌, ◌≤◌, ◌-◌, ◌+◌, ◌*◌, Bool, true, false, ◌||◌, is_some, List, [], ◌∷◌, ◌++◌, length}
use Rattle.std.proofs.Common.{refl, sym, ap, ◌∙◌, subst, arith}
use mathlib.Core.Bool.{false≢true}
use Rattle.oak_machine.specs.declared.event.Event.TheVariants as event
use Rattle.oak_machine.specs.declared.event.StepKind.{StepKind}
use Rattle.oak_machine.specs.declared.event.StepKind.TheVariants as kind
use Rattle.oak_machine.specs.History.{History, Past}
use Rattle.oak_machine.specs.Laws.{Says, Starts, after}
use Rattle.oak_machine.specs.Sessions.{next_index}
use Rattle.oak_port.specs.Ports.{Beside, IsWait, LastsLess, Shown, Steps}
use Rattle.oak_port.specs.declared.task.StepOut.{StepOut}
use Rattle.oak_port.specs.declared.task.StepOut.TheVariants as out
use Rattle.oak_port.specs.declared.task.TaskEnd.TheVariants as end
use Rattle.core_calls.proofs.Beginning.{next_reply}
use Rattle.core_heads.proofs.Passing.{next_stays}
use Rattle.jcr_trans.specs.declared.command.Command.{Command}
use Rattle.jcr_law.specs.declared.law.JcrLaw.{JcrLaw}
use Rattle.jcr_run.specs.declared.run.Pledge.{Pledge}
use Rattle.jcr_run.specs.declared.run.Phase.{Phase}
use Rattle.jcr_run.specs.declared.run.Phase.TheVariants as phase
use Rattle.jcr_run.specs.declared.run.SessionRun.{SessionRun}
use Rattle.jcr_run.specs.declared.turn.Turn.{Turn}
use Rattle.jcr_run.specs.declared.turn.Turn.TheVariants as turn
use Rattle.jcr_steps.specs.declared.errand.Came.{Came}
use Rattle.jcr_steps.specs.declared.errand.Came.TheVariants as came
use Rattle.jcr_steps.specs.declared.errand.Errand.{Errand}
use Rattle.jcr_steps.specs.declared.errand.Told.{Told}
use Rattle.jcr_steps.specs.declared.errand.Told.TheVariants as told
use Rattle.jcr_steps.specs.Answered.{IsErrandAnswer, told_by}
use Rattle.jcr_session.specs.Phases.{phase_by, phase_came, turn_by, turn_came}
use Rattle.jcr_run.specs.Nearing.{BeginsNearer, BringsNearer, ComesNearer, EndsOrStays, EndsSooner, HasNeared, IsReply, ReadsOn, StaysBehindStep, StepsOn, WorksSooner}
use Rattle.jcr_run.specs.Nearing.{turns_left, stages_left}
use Rattle.jcr_run.specs.Standing.{AreEnds, HasCounted, HasTurned, IsSame, Stands, is_committing, is_detaching, is_on_errand, is_saving, is_tidying, is_working, may_read}
use Rattle.jcr_run.proofs.Nearing.{memory_sooner, sooner_by}
use Rattle.jcr_run.proofs.Nexts.{reads_between}

-- ---- what is left

-- as many replies, and a later phase
nearer_by : (a b x y : ℕ) → a ≡ b → x < y → 5 * a + x < 5 * b + y
nearer_by a b x y same less = omega arith

-- fewer replies, whatever the phase
fewer_by : (a b x y : ℕ) → a < b → x < 5 → 5 * a + x < 5 * b + y
fewer_by a b x y fewer few = omega arith

few_stages : (f : Phase) → stages_left f < 5
few_stages phase.Outside = let lt : 4 < 5 = omega arith in lt
few_stages phase.Between = let lt : 3 < 5 = omega arith in lt
few_stages (phase.Committing a) = let lt : 2 < 5 = omega arith in lt
few_stages (phase.Committed e a) = let lt : 1 < 5 = omega arith in lt
few_stages (phase.Working e) = let lt : 2 < 5 = omega arith in lt
few_stages (phase.Told t) = let lt : 1 < 5 = omega arith in lt
few_stages phase.Tidying = let lt : 2 < 5 = omega arith in lt
few_stages (phase.Tidied t) = let lt : 1 < 5 = omega arith in lt
few_stages (phase.Moved v) = let lt : 1 < 5 = omega arith in lt
few_stages phase.Detaching = let lt : 2 < 5 = omega arith in lt
few_stages phase.Over = let lt : 0 < 5 = omega arith in lt

same_replies : (run now : SessionRun) → now.commands ≡ run.commands → now.index ≡ run.index → length now.commands - now.index ≡ length run.commands - run.index
same_replies run now commands index = ap (λ (cs : List Command). length cs - now.index) commands ∙ ap (λ (i : ℕ). length run.commands - i) index

-- behind reading steps as much is left as before
pub left_looked : (run mid : SessionRun) → IsSame run mid → turns_left mid ≡ turns_left run
left_looked run mid same =
    ap (λ (n : ℕ). 5 * n + stages_left mid.phase) (same_replies run mid same.commands same.index)
    ∙ ap (λ (f : Phase). 5 * (length run.commands - run.index) + stages_left f) same.phase

-- a step into a later phase
pub further : (run now : SessionRun) (k : StepKind) (f : Phase) → run.phase ≡ f → now.commands ≡ run.commands → now.index ≡ run.index → stages_left now.phase < stages_left f → StepsOn ⊥ (turns_left run) (turns_left now) (turn.Stepped k)
further run now k f at commands index less =
    inl (nearer_by (length now.commands - now.index) (length run.commands - run.index) (stages_left now.phase) (stages_left run.phase) (same_replies run now commands index)
    (subst (λ (g : Phase). stages_left now.phase < stages_left g) (sym at) less))

-- a reply is no step
pub reply_steps : (sooner : Type 0) (before now : ℕ) (t : Turn) → IsReply t → StepsOn sooner before now t
reply_steps sooner before now (turn.Said i) h = tt
reply_steps sooner before now turn.Memory h = tt
reply_steps sooner before now t h = absurd h

pub steps_sooner : (sooner : Type 0) (before now : ℕ) (t : Turn) → StepsOn ⊥ before now t → StepsOn sooner before now t
steps_sooner sooner before now (turn.Stepped k) (inl less) = inl less
steps_sooner sooner before now (turn.Stepped k) (inr same) = absurd same.1
steps_sooner sooner before now (turn.Said i) h = tt
steps_sooner sooner before now (turn.Waiting q) h = tt
steps_sooner sooner before now turn.Read h = tt
steps_sooner sooner before now turn.Ended h = tt
steps_sooner sooner before now turn.Memory h = tt

-- ---- a draw

committing_less : (f : Phase) → is_committing f ≡ true → stages_left f < 3
committing_less (phase.Committing a) h = let lt : 2 < 3 = omega arith in lt
committing_less phase.Outside h = absurd (false≢true h)
committing_less phase.Between h = absurd (false≢true h)
committing_less (phase.Moved x) h = absurd (false≢true h)
committing_less phase.Detaching h = absurd (false≢true h)
committing_less (phase.Committed e a) h = absurd (false≢true h)
committing_less (phase.Working e) h = absurd (false≢true h)
committing_less (phase.Told t) h = absurd (false≢true h)
committing_less phase.Tidying h = absurd (false≢true h)
committing_less (phase.Tidied t) h = absurd (false≢true h)
committing_less phase.Over h = absurd (false≢true h)

pub pledged_steps : (run mid now : SessionRun) (t : Turn) → run.phase ≡ phase.Between → mid.commands ≡ run.commands → mid.index ≡ run.index → is_committing mid.phase ≡ true → StaysBehindStep mid now t → StepsOn ⊥ (turns_left run) (turns_left now) t
pledged_steps run mid now (turn.Stepped k) between commands index commits stays =
    subst (λ (x : SessionRun). StepsOn ⊥ (turns_left run) (turns_left x) (turn.Stepped k)) (sym stays) (further run mid k phase.Between between commands index (committing_less mid.phase commits))
pledged_steps run mid now (turn.Said i) between commands index commits stays = tt
pledged_steps run mid now (turn.Waiting q) between commands index commits stays = tt
pledged_steps run mid now turn.Read between commands index commits stays = tt
pledged_steps run mid now turn.Ended between commands index commits stays = tt
pledged_steps run mid now turn.Memory between commands index commits stays = tt

pub reply_stays : (old new : SessionRun) (t : Turn) → IsReply t → StaysBehindStep old new t
reply_stays old new (turn.Said i) h = tt
reply_stays old new turn.Memory h = tt
reply_stays old new t h = absurd h

-- ---- a step of a task of the cluster node or of the settings

module _ (run : SessionRun) (e : Errand) where
  abbrev working : SessionRun
  working = record run { phase = phase.Working e }

  told_less : (t : Told) → turns_left (record run { phase = phase.Told t }) < turns_left working
  told_less t = nearer_by (length run.commands - run.index) (length run.commands - run.index) 1 2 refl (let lt : 1 < 2 = omega arith in lt)

  -- it goes on in its phase, or ends
  pub errand_nears : (sooner : Type 0) (x : Came) → sooner → EndsOrStays sooner working (record run { phase = phase_came x e })
      (turn_came x)
  errand_nears sooner (came.Going k) soon = inr (refl, soon)
  errand_nears sooner (came.Published r) soon = inl (told_less (told.Published r))
  errand_nears sooner (came.Learnt v) soon = inl (told_less (told.Learnt v))
  errand_nears sooner (came.Swept r) soon = inl (told_less (told.Swept r))
  errand_nears sooner came.Set soon = inl (told_less (told_by came.Set e))
  errand_nears sooner came.Missed soon = inl (told_less (told_by came.Missed e))
  errand_nears sooner came.Pinned soon = inl (told_less (told_by came.Pinned e))
  errand_nears sooner came.Refused soon = inl (told_less (told_by came.Refused e))

  pub nears_by : (sooner : Type 0) (x : Came) (now : SessionRun) (t : Turn) → now ≡ record run { phase = phase_came x e } → t ≡ turn_came x
      → sooner → EndsOrStays sooner working now t
  nears_by sooner x now t is turns soon =
      subst (λ (y : Turn). EndsOrStays sooner working now y) (sym turns)
      (subst (λ (y : SessionRun). EndsOrStays sooner working y (turn_came x)) (sym is) (errand_nears sooner x soon))

  -- behind its begin
  pub begun_steps : (sooner : Type 0) (now : SessionRun) (t : Turn) → run.phase ≡ phase.Between → EndsOrStays sooner working now t →
      StepsOn ⊥ (turns_left run) (turns_left now) t
  begun_steps sooner now (turn.Stepped k) between (inl less) = inl
      (less_both (turns_left now) (turns_left working) (turns_left run) less begun_less)
    where
      less_both : (a b c : ℕ) → a < b → b < c → a < c
      less_both a b c h k = omega arith

      begun_less : turns_left working < turns_left run
      begun_less = subst (λ (f : Phase). turns_left working < 5 * (length run.commands - run.index) + stages_left f) (sym between)
          (nearer_by (length run.commands - run.index) (length run.commands - run.index) 2 3 refl (let lt : 2 < 3 = omega arith in lt))
  begun_steps sooner now (turn.Stepped k) between (inr same) = inl
      (subst (λ (x : SessionRun). turns_left x < turns_left run) (sym same.0)
      (subst (λ (f : Phase). turns_left working < 5 * (length run.commands - run.index) + stages_left f) (sym between)
      (nearer_by (length run.commands - run.index) (length run.commands - run.index) 2 3 refl (let lt : 2 < 3 = omega arith in lt))))
  begun_steps sooner now (turn.Said i) between h = tt
  begun_steps sooner now (turn.Waiting q) between h = tt
  begun_steps sooner now turn.Read between h = tt
  begun_steps sooner now turn.Ended between h = tt
  begun_steps sooner now turn.Memory between h = tt

-- a reply ends it
-- what is as much is no more
same_left : (a b : SessionRun) → turns_left a ≡ turns_left b → turns_left a ≤ turns_left b
same_left a b same = omega arith

pub reply_ends : (sooner : Type 0) (old new : SessionRun) (t : Turn) → IsReply t → EndsOrStays sooner old new t
reply_ends sooner old new (turn.Said i) h = tt
reply_ends sooner old new turn.Memory h = tt
reply_ends sooner old new t h = absurd h

-- a task under way
pub worked_steps : (before later : ℕ) (p : Shown) (run now : SessionRun) (t : Turn) → is_on_errand run.phase ≡ true → EndsOrStays
    (EndsSooner before later p) run now t → StepsOn (WorksSooner before later p run) (turns_left run) (turns_left now) t
worked_steps before later p run now (turn.Stepped k) works (inl less) = inl less
worked_steps before later p run now (turn.Stepped k) works (inr same) = inr
    (ap turns_left same.0, (ap (λ (b : Bool). b || is_detaching run.phase || is_tidying run.phase) (both (is_committing run.phase) works), same.1))
  where
    both : (a : Bool) {b : Bool} → b ≡ true → (a || b) ≡ true
    both true h = refl
    both false h = h
worked_steps before later p run now (turn.Said i) works h = tt
worked_steps before later p run now (turn.Waiting q) works h = tt
worked_steps before later p run now turn.Read works h = tt
worked_steps before later p run now turn.Ended works h = tt
worked_steps before later p run now turn.Memory works h = tt

-- a step of a task doesn't wait
pub unwaiting : (answer : StepOut) (A : Type 0) → IsErrandAnswer answer → IsWait answer ⊎ A → A
unwaiting answer A is (inr soon) = soon
unwaiting (out.Wait q) A is (inl wait) = absurd is
unwaiting x A is (inl wait) = absurd wait

-- ---- a step of a commit

module _ (run : SessionRun) (a : Pledge) (sooner : Type 0) where
  abbrev run_at : Phase → SessionRun
  run_at f = record run { phase = f }

  abbrev Goes : StepOut → Type 0
  Goes answer = StepsOn sooner (turns_left (run_at (phase.Committing a))) (turns_left (run_at (phase_by answer (phase.Committing a)))) (turn_by answer)

  -- it goes on in its phase, or ends
  goes : (answer : StepOut) → IsWait answer ⊎ sooner → Goes answer
  goes (out.Went kind.Read) h = tt
  goes (out.Went k) (inr soon) = inr (refl, soon)
  goes (out.Went k) (inl wait) = absurd wait
  goes (out.Ready (end.Commit e)) h =
      inl (nearer_by (length run.commands - run.index) (length run.commands - run.index) 1 2 refl (let lt : 1 < 2 = omega arith in lt))
  goes (out.Wait q) h = tt
  goes x h = tt

module _ (old new : Shown) (run now : SessionRun) (a : Pledge) (commits : run.phase ≡ phase.Committing a) where
  same_run : record run { phase = phase.Committing a } ≡ run
  same_run = ap (λ (f : Phase). record run { phase = f }) (sym commits)

  -- told of what the turn tells
  told_so : (sooner : Type 0) (answer : StepOut) (t : Turn) → now ≡ record run { phase = phase_by answer run.phase } → t ≡ turn_by answer →
      IsWait answer ⊎ sooner → StepsOn sooner (turns_left run) (turns_left now) t
  told_so sooner answer t is turns soon =
      subst (λ (x : Turn). StepsOn sooner (turns_left run) (turns_left now) x) (sym turns)
      (subst (λ (x : SessionRun). StepsOn sooner (turns_left run) (turns_left x) (turn_by answer)) (sym (is ∙ ap (λ (f : Phase). record run { phase = phase_by answer f }) commits))
      (subst (λ (x : SessionRun). StepsOn sooner (turns_left x) (turns_left (record run { phase = phase_by answer (phase.Committing a) })) (turn_by answer)) same_run (goes run a sooner answer soon)))

  -- a look ends sooner
  reads_so : (law : JcrLaw) (sooner : Type 0) (answer : StepOut) (t : Turn) → now ≡ record run { phase = phase_by answer run.phase } → t ≡ turn_by answer → IsWait answer ⊎ sooner → ReadsOn sooner law old run now t
  reads_so law sooner answer t is turns soon = subst (λ (x : Turn). ReadsOn sooner law old run now x) (sym turns) (by answer is soon)
    where
      by : (x : StepOut) → now ≡ record run { phase = phase_by x run.phase } → IsWait x ⊎ sooner → ReadsOn sooner law old run now (turn_by x)
      by (out.Went kind.Read) is (inr soon) = subst (λ (f : Phase). BringsNearer (is_working f) sooner law old run now) (sym commits) (soon, same_left now run (ap turns_left is))
      by (out.Went kind.Read) is (inl wait) = absurd wait
      by (out.Went k) is h = tt
      by (out.Ready (end.Commit e)) is h = tt
      by (out.Wait q) is h = tt
      by x is h = tt

  -- it commits
  by_commit : (before later : ℕ) (answer : StepOut) → IsWait answer ⊎ EndsSooner before later old → IsWait answer ⊎ WorksSooner before
      later old run
  by_commit before later answer (inl wait) = inl wait
  by_commit before later answer (inr soon) = inr (ap is_working commits, soon)

  module _ (starts : Starts) (says : Says) where
    -- one step
    pub once_nearer : (before later : ℕ) (answer : StepOut) (t : Turn) → Steps starts says old new answer → LastsLess before later old new
        answer → now ≡ record run { phase = phase_by answer run.phase } → t ≡ turn_by answer → StepsOn (WorksSooner before later old run)
        (turns_left run) (turns_left now) t
    once_nearer before later answer t steps lowers is turns =
        told_so (WorksSooner before later old run) answer t is turns
        (by_commit before later answer (sooner_by starts says old new answer steps before later lowers))

    -- of a step for which memory was refused, and one more, what is left is less
    twice_sooner : (starts_later : Starts) (says_later : Says) (before between later : ℕ) (mid : Shown) (first answer : StepOut) → first ≡ out.Memory → Steps starts says old mid first → LastsLess before between old mid first
        → Steps starts_later says_later mid new answer → LastsLess between later mid new answer → IsWait answer ⊎ EndsSooner before later old
    twice_sooner starts_later says_later before between later mid first answer memory once lowers twice lowers_later =
        both (sooner_by starts_later says_later mid new answer twice between later lowers_later)
      where
        then : (z y x : ℕ) → y < x → z < y → z < x
        then z y x h k = omega arith

        both : IsWait answer ⊎ EndsSooner between later mid → IsWait answer ⊎ EndsSooner before later old
        both (inl wait) = inl wait
        both (inr soon) = inr (λ alone.
            then later between before (memory_sooner starts says old mid first once before between memory lowers alone)
            (soon (subst (λ (b : Beside). is_some b.seats ≡ true) (sym once.beside) alone)))

    -- a step for which memory was refused, and one more
    pub twice_nearer : (starts_later : Starts) (says_later : Says) (before between later : ℕ) (mid : Shown) (first answer : StepOut) (t : Turn) → first ≡ out.Memory → Steps starts says old mid first → LastsLess before between old mid first
        → Steps starts_later says_later mid new answer → LastsLess between later mid new answer → now ≡ record run
        { phase = phase_by answer run.phase } → t ≡ turn_by answer → StepsOn (WorksSooner before later old run) (turns_left run)
        (turns_left now) t
    twice_nearer starts_later says_later before between later mid first answer t memory once lowers twice lowers_later is turns =
        told_so (WorksSooner before later old run) answer t is turns
        (by_commit before later answer (twice_sooner starts_later says_later before between later mid first answer memory once lowers twice lowers_later))

    -- a look ends sooner
    pub once_reads : (law : JcrLaw) (before later : ℕ) (answer : StepOut) (t : Turn) → Steps starts says old new answer → LastsLess before later old new answer → now ≡ record run { phase = phase_by answer run.phase } → t ≡ turn_by answer → ReadsOn (EndsSooner before later old) law old run now t
    once_reads law before later answer t steps lowers is turns = reads_so law (EndsSooner before later old) answer t is turns (sooner_by starts says old new answer steps before later lowers)

    pub twice_reads : (law : JcrLaw) (starts_later : Starts) (says_later : Says) (before between later : ℕ) (mid : Shown) (first answer : StepOut) (t : Turn) → first ≡ out.Memory → Steps starts says old mid first → LastsLess before between old mid first
        → Steps starts_later says_later mid new answer → LastsLess between later mid new answer → now ≡ record run { phase = phase_by answer run.phase } → t ≡ turn_by answer → ReadsOn (EndsSooner before later old) law old run now t
    twice_reads law starts_later says_later before between later mid first answer t memory once lowers twice lowers_later is turns =
        reads_so law (EndsSooner before later old) answer t is turns (twice_sooner starts_later says_later before between later mid first answer memory once lowers twice lowers_later)

-- ---- a turn

-- a session that splits or collects isn't in its commit
pub tidying_unsaving : {A : Type 0} (f : Phase) → is_tidying f ≡ true → is_saving f ≡ true → A
tidying_unsaving phase.Tidying tidies saves = absurd (false≢true saves)
tidying_unsaving phase.Outside tidies saves = absurd (false≢true tidies)
tidying_unsaving phase.Between tidies saves = absurd (false≢true tidies)
tidying_unsaving (phase.Moved v) tidies saves = absurd (false≢true tidies)
tidying_unsaving phase.Detaching tidies saves = absurd (false≢true tidies)
tidying_unsaving (phase.Committing a) tidies saves = absurd (false≢true tidies)
tidying_unsaving (phase.Committed e a) tidies saves = absurd (false≢true tidies)
tidying_unsaving (phase.Working e) tidies saves = absurd (false≢true tidies)
tidying_unsaving (phase.Told t) tidies saves = absurd (false≢true tidies)
tidying_unsaving (phase.Tidied t) tidies saves = absurd (false≢true tidies)
tidying_unsaving phase.Over tidies saves = absurd (false≢true tidies)

-- how a split or a collection ended is no reply
ended_next : (s : ℕ) (ended past : Past) (n : ℕ) → AreEnds s ended → next_index (ended ++ past) n ≡ next_index past n
ended_next s [] past n are = refl
ended_next s (event.Split t p e ∷ []) past n are = refl
ended_next s (event.Collected t c ∷ []) past n are = refl
ended_next s (e ∷ []) past n are = absurd (false≢true are)
ended_next s (e ∷ f ∷ ended) past n are = absurd are

-- a reply that was said is one that is not left
said_less : (law : JcrLaw) (old new : Shown) (run now : SessionRun) (j : ℕ) → Stands law old run → HasCounted law old new run now (turn.Said j) → turns_left now < turns_left run
said_less law old new run now j stands turned = fewer_by (length now.commands - now.index) (length run.commands - run.index) (stages_left now.phase) (stages_left run.phase) less (few_stages now.phase)
  where
    behind : Past
    behind = turned.others ++ old.history.past

    grown : new.history ≡ after turned.own (after turned.others old.history)
    grown = turned.grows.grown

    counted : next_index new.history.past run.session ≡ run.index + 1
    counted =
        ap (λ (h : History). next_index h.past run.session) grown
        ∙ (ap (λ (own : Past). next_index (own ++ behind) run.session) turned.tells.4
        ∙ (subst (λ (s : ℕ). next_index (event.Said s run.index turned.tells.1 ∷ (turned.tells.2 ++ behind)) run.session ≡ next_index (turned.tells.2 ++ behind) run.session + 1) (sym stands.session) (next_reply (turned.tells.2 ++ behind) run.session run.index turned.tells.1)
        ∙ (ap (λ (n : ℕ). n + 1) (ended_next old.session turned.tells.2 behind run.session turned.tells.3)
        ∙ ap (λ (n : ℕ). n + 1) (subst (λ (s : ℕ). next_index behind s ≡ next_index old.history.past s) stands.session (next_stays behind turned.others old.history.past old.session turned.grows.theirs) ∙ sym stands.index))))

    index_now : now.index ≡ run.index + 1
    index_now = turned.stands.index ∙ (ap (next_index new.history.past) turned.same.0 ∙ counted)

    less : length now.commands - now.index < length run.commands - run.index
    less =
        let size : length now.commands ≡ length run.commands = ap (λ (cs : List Command). length cs) turned.same.1 in
        let within : now.index ≤ length now.commands = turned.stands.within in
        let index : now.index ≡ run.index + 1 = index_now in
        omega arith

pub turn_nearer : (law : JcrLaw) (old new : Shown) (run now : SessionRun) (sooner : Type 0) (t : Turn) → Stands law old run → HasCounted law old new run now t → StepsOn sooner (turns_left run) (turns_left now) t → ComesNearer sooner (turns_left run) (turns_left now) t
turn_nearer law old new run now sooner (turn.Said j) stands turned h = said_less law old new run now j stands turned
turn_nearer law old new run now sooner (turn.Stepped k) stands turned h = h
turn_nearer law old new run now sooner (turn.Waiting q) stands turned h = tt
turn_nearer law old new run now sooner turn.Read stands turned h = tt
turn_nearer law old new run now sooner turn.Ended stands turned h = tt
turn_nearer law old new run now sooner turn.Memory stands turned h = tt

-- a turn of a commit brings nearer what its step does
pub commit_nearer : (law : JcrLaw) (old new : Shown) (run now : SessionRun) (sooner : Type 0) (t : Turn) → Stands law old run → HasTurned law old new run now t → StepsOn sooner (turns_left run) (turns_left now) t → ComesNearer sooner (turns_left run) (turns_left now) t
commit_nearer law old new run now sooner (turn.Said j) stands turned h = said_less law old new run now j stands turned
commit_nearer law old new run now sooner (turn.Stepped k) stands turned h = h
commit_nearer law old new run now sooner (turn.Waiting q) stands turned h = tt
commit_nearer law old new run now sooner turn.Read stands turned h = tt
commit_nearer law old new run now sooner turn.Ended stands turned h = tt
commit_nearer law old new run now sooner turn.Memory stands turned h = tt

-- a reading step before a command is none inside a commit
pub reads_nearer : (law : JcrLaw) (old : Shown) (run now : SessionRun) (sooner : Type 0) → may_read run ≡ true → HasNeared sooner law old run now → ReadsOn sooner law old run now turn.Read
reads_nearer law old run now sooner reads nears = subst (λ (b : Bool). BringsNearer b sooner law old run now) (sym (ap is_working (reads_between run reads))) (inl nears)

-- one that begins a split leaves fewer stages
pub begins_reads : (law : JcrLaw) (old : Shown) (run now : SessionRun) (sooner : Type 0) (t : Turn) → run.phase ≡ phase.Between → BeginsNearer (turns_left run) (turns_left now) t → ReadsOn sooner law old run now t
begins_reads law old run now sooner turn.Read between less = subst (λ (b : Bool). BringsNearer b sooner law old run now) (sym (ap is_working between)) (inr less)
begins_reads law old run now sooner (turn.Said j) between less = tt
begins_reads law old run now sooner (turn.Stepped k) between less = tt
begins_reads law old run now sooner (turn.Waiting q) between less = tt
begins_reads law old run now sooner turn.Ended between less = tt
begins_reads law old run now sooner turn.Memory between less = tt

-- a counted turn reads nothing
pub counted_reads : (law : JcrLaw) (old new : Shown) (run now : SessionRun) (sooner : Type 0) (t : Turn) → HasCounted law old new run now t → ReadsOn sooner law old run now t
counted_reads law old new run now sooner (turn.Said j) turned = tt
counted_reads law old new run now sooner (turn.Stepped k) turned = tt
counted_reads law old new run now sooner (turn.Waiting q) turned = tt
counted_reads law old new run now sooner turn.Read turned = absurd turned.tells
counted_reads law old new run now sooner turn.Ended turned = tt
counted_reads law old new run now sooner turn.Memory turned = tt

pub counted_begins : (law : JcrLaw) (old new : Shown) (run now : SessionRun) (before later : ℕ) (t : Turn) → HasCounted law old new run now t → BeginsNearer before later t
counted_begins law old new run now before later (turn.Said j) turned = tt
counted_begins law old new run now before later (turn.Stepped k) turned = tt
counted_begins law old new run now before later (turn.Waiting q) turned = tt
counted_begins law old new run now before later turn.Read turned = absurd turned.tells
counted_begins law old new run now before later turn.Ended turned = tt
counted_begins law old new run now before later turn.Memory turned = tt

pub counted_turns : (law : JcrLaw) (old new : Shown) (run now : SessionRun) (t : Turn) → HasCounted law old new run now t → HasTurned law old new run now t
counted_turns law old new run now (turn.Said j) turned = turned
counted_turns law old new run now (turn.Stepped k) turned = turned
counted_turns law old new run now (turn.Waiting q) turned = turned
counted_turns law old new run now turn.Read turned = absurd turned.tells
counted_turns law old new run now turn.Ended turned = turned
counted_turns law old new run now turn.Memory turned = tt
