-- How parts go on turn by turn, and how they are closed.
use Rattle.std.proofs.Common.{◌≡◌, ◌⊎◌, inl, inr, ℕ, Bool, true, false, ◌||◌, None, Option, List, [], ◌∷◌, ◌++◌, refl, sym, ap, ◌∙◌, subst, arith}
use Rattle.std.specs.Prelude.{◌==◌, reverse}
use Rattle.std.proofs.lemmas.Bool.Decides.{nat_tests}
use mathlib.Core.Bool.{false≢true}
use Rattle.oak_machine.specs.declared.event.StepKind.{StepKind}
use Rattle.oak_machine.specs.History.{Past}
use Rattle.oak_machine.specs.Steps.{is_one_step}
use Rattle.jcr_run.specs.declared.turn.Turn.{Turn}
use Rattle.jcr_run.specs.declared.turn.Turn.TheVariants as turn
use Rattle.jr_script.specs.declared.script.Script.{Script}
use Rattle.jr_script.specs.declared.script.Entry.TheVariants as entry
use Rattle.jr_stage.specs.declared.stage.Stage.{Stage}
use Rattle.jr_stage.specs.Places.{history_at, is_at_last, is_over, is_resting, is_waiting}
use Rattle.jr_stage.specs.Parts.{Rule, by_entry, events_of, is_part_over, is_part, is_turn, part_session}
use Rattle.jr_stage.specs.SoFar.{AreMadeBy, IsCutSoFar, IsQuiet, IsStepAt, IsUnderWay, is_last_due}
use Rattle.jr_stage.specs.Stages.{Closes, Comes, ComesShort, HasCome, HasOnlyRead, IsStage, IsUnder, TurnsTo, due_at, past_of}
use Rattle.jr_stage.proofs.SoFar.{cut_closes, cut_due, cut_steps, part_turns, way_begins, way_steps}

nothing_behind : {X : Type 0} (a : List X) → [] ++ a ≡ a
nothing_behind a = refl

equal : (a b : ℕ) → (a == b) ≡ true → a ≡ b
equal a b h = grind (arith, nat_tests)

pub or_true : (a b : Bool) → a ≡ true → (a || b) ≡ true
or_true a b h = ap (λ c. c || b) h

pub or_later : (a b : Bool) → b ≡ true → (a || b) ≡ true
or_later true b h = refl
or_later false b h = h

abbrev is_last_rule : Rule → Bool
is_last_rule (by_entry (entry.Last t)) = true
is_last_rule r = false

-- a rule that waits for no last write
pub no_last : {A : Type 0} (rule : Rule) (t : ℕ) → is_last_rule rule ≡ false → rule ≡ by_entry (entry.Last t) → A
no_last rule t none same = absurd (false≢true (sym none ∙ ap is_last_rule same))

-- ---- a part begins

pub under_begins : (stage : Stage) (rule : Rule) → IsStage stage → IsUnder stage stage rule []
under_begins stage rule is = record {
  script = refl;
  stage_is = is;
  over = λ t h. h;
  whole = refl;
  way = way_begins stage.script.value (past_of stage) rule;
  cut = λ parts h. h;
}

-- what is due stays a last write for each session, where it does for one and the others' stays
still_due : (due now : ℕ → Option StepKind) (s t : ℕ) → ((x : ℕ) → (x == s) ≡ false → now x ≡ due x) → (is_last_due (due s) ≡ true → is_last_due (now s) ≡ true) → is_last_due (due t) ≡ true → is_last_due (now t) ≡ true
still_due due now s t others mine last = by (t == s) refl
  where
    by : (b : Bool) → (t == s) ≡ b → is_last_due (now t) ≡ true
    by true same = subst (λ (x : ℕ). is_last_due (now x) ≡ true) (sym (equal t s same)) (mine (subst (λ (x : ℕ). is_last_due (due x) ≡ true) (equal t s same) last))
    by false apart = ap is_last_due (others t apart) ∙ last

-- ---- reading steps

module _ (old new : Stage) (s : ℕ) (read : HasOnlyRead old new s) where
  still_last : (t : ℕ) → is_last_due (due_at old.world t) ≡ true → is_last_due (due_at new.world t) ≡ true
  still_last t last = still_due (due_at old.world) (due_at new.world) s t read.others read.last last

  over_still : (t : ℕ) → is_over old.script.value (past_of old) t ≡ true → is_over old.script.value (past_of new) t ≡ true
  over_still t over = subst (λ (p : Past). is_over old.script.value p t ≡ true) (sym read.past) over

  -- a part under way stays so
  pub under_reads_by : (first : Stage) (rule : Rule) (part : Past) → IsUnder first old rule part → IsUnder first new rule part
  under_reads_by first rule part under = record {
    script = read.script ∙ under.script;
    stage_is = read.stage;
    over = λ t over. subst (λ (p : Past). is_over first.script.value p t ≡ true) (sym read.past) (under.over t over);
    whole = read.past ∙ under.whole;
    way = under.way;
    cut = λ parts h. subst (λ (p : Past). IsCutSoFar first.script.value (due_at new.world) parts part p) (sym read.past)
        (cut_due first.script.value (due_at old.world) (due_at new.world) still_last parts part (past_of old) (under.cut parts h));
  }

  -- the entry of a reading step has no events
  pub only_closes : Closes old new (by_entry (entry.Read s))
  only_closes = record {
    script = read.script;
    stage = read.stage;
    over = over_still;
    closes = λ parts h. (
      record { rule = by_entry (entry.Read s); events = [] },
      refl,
      subst (λ (p : Past). IsCutSoFar old.script.value (due_at new.world) (record { rule = by_entry (entry.Read s); events = [] } ∷ parts) [] p) (sym read.past)
          (cut_closes old.script.value (due_at new.world) (by_entry (entry.Read s)) parts [] (past_of old)
          (cut_due old.script.value (due_at old.world) (due_at new.world) still_last parts [] (past_of old) h) refl tt),
    );
  }

  -- turns behind them are a part as they were
  pub closes_behind : (last : Stage) (rule : Rule) → Closes new last rule → Closes old last rule
  closes_behind last rule c = record {
    script = c.script ∙ read.script;
    stage = c.stage;
    over = λ t over. subst (λ (x : Script). is_over x (past_of last) t ≡ true) read.script (c.over t (subst (λ (x : Script). is_over x (past_of new) t ≡ true) (sym read.script) (over_still t over)));
    closes = λ parts h.
        let now : IsCutSoFar old.script.value (due_at new.world) parts [] (past_of new) =
        subst (λ (p : Past). IsCutSoFar old.script.value (due_at new.world) parts [] p) (sym read.past) (cut_due old.script.value (due_at old.world) (due_at new.world) still_last parts [] (past_of old) h) in
        let closed = c.closes parts (subst (λ (x : Script). IsCutSoFar x (due_at new.world) parts [] (past_of new)) (sym read.script) now) in
        (closed.0, closed.1, subst (λ (x : Script). IsCutSoFar x (due_at last.world) (closed.0 ∷ parts) [] (past_of last)) read.script closed.2);
  }

pub under_reads : (first stage new : Stage) (rule : Rule) (part : Past) (s : ℕ) → IsUnder first stage rule part → HasOnlyRead stage new s → IsUnder first new rule part
under_reads first stage new rule part s under read = under_reads_by stage new s read first rule part under

-- ---- a turn of the part's session

module _ (first stage new : Stage) (rule : Rule) (part : Past) (s : ℕ) (answer : Turn) (under : IsUnder first stage rule part) (come : HasCome stage new s answer) where
  script_now : new.script.value ≡ first.script.value
  script_now = come.script ∙ under.script

  whole_now : past_of new ≡ (come.own ++ part) ++ past_of first
  whole_now = come.past ∙ (ap (λ p. come.own ++ p) under.whole ∙ sym (append_assoc come.own part (past_of first)))
    where
      append_assoc : {X : Type 0} (a b c : List X) → (a ++ b) ++ c ≡ a ++ (b ++ c)
      append_assoc [] b c = refl
      append_assoc (x ∷ a) b c = ap (λ l. x ∷ l) (append_assoc a b c)

  over_then : (t : ℕ) → is_over first.script.value (past_of first) t ≡ true → is_over first.script.value (past_of new) t ≡ true
  over_then t h = subst (λ (x : Script). is_over x (past_of new) t ≡ true) under.script (come.over t (subst (λ (x : Script). is_over x (past_of stage) t ≡ true) (sym under.script) (under.over t h)))

  -- a step
  module _ (step : IsStepAt stage.script.value (past_of stage) s (due_at stage.world s) come.own) where
    step_first : IsStepAt first.script.value (past_of stage) s (due_at stage.world s) come.own
    step_first = subst (λ (x : Script). IsStepAt x (past_of stage) s (due_at stage.world s) come.own) under.script step

    step_part : IsStepAt first.script.value (part ++ past_of first) s (due_at stage.world s) come.own
    step_part = subst (λ (p : Past). IsStepAt first.script.value p s (due_at stage.world s) come.own) under.whole step_first

    pub awake_part : is_resting first.script.value (part ++ past_of first) s ≡ false
    awake_part = step_part.awake

    pub under_steps : part_session rule ≡ s → is_part_over first.script.value rule (past_of first) part ≡ false
        → ((t : ℕ) → rule ≡ by_entry (entry.Last t) → is_last_due (due_at stage.world s) ≡ true → is_at_last (part ++ past_of first) t ≡ false)
        → IsUnder first new rule (come.own ++ part)
    under_steps same done late = record {
      script = script_now;
      stage_is = come.stage;
      over = over_then;
      whole = whole_now;
      way = way_steps first.script.value (past_of first) rule part (due_at stage.world s) come.own under.way (subst (λ (x : ℕ). IsStepAt first.script.value (part ++ past_of first) x (due_at stage.world s) come.own) (sym same) step_part) done late;
      cut = λ parts h. subst (λ (p : Past). IsCutSoFar first.script.value (due_at new.world) parts (come.own ++ part) p) (sym come.past)
          (cut_steps first.script.value (due_at stage.world) (due_at new.world) s (past_of stage) come.own step_first come.others parts part (under.cut parts h));
    }

  past_stays : come.own ≡ [] → past_of new ≡ past_of stage
  past_stays none = come.past ∙ ap (λ (o : Past). o ++ past_of stage) none

  -- none
  pub under_stays : come.own ≡ [] → IsUnder first new rule part
  under_stays none = record {
    script = script_now;
    stage_is = come.stage;
    over = over_then;
    whole = past_stays none ∙ under.whole;
    way = under.way;
    cut = λ parts h. subst (λ (p : Past). IsCutSoFar first.script.value (due_at new.world) parts part p) (sym (past_stays none))
        (cut_due first.script.value (due_at stage.world) (due_at new.world) (λ t last. still_due (due_at stage.world) (due_at new.world) s t come.others (come.still none) last) parts part (past_of stage) (under.cut parts h));
  }

-- ---- a part is closed

module _ (first stage : Stage) (rule : Rule) (part : Past) (under : IsUnder first stage rule part) where
  pub under_closes : is_part first.script.value rule (past_of first) part [] ≡ true → IsQuiet first.script.value (due_at stage.world) rule (past_of first) part [] → Closes first stage rule
  under_closes is quiet = record {
    script = under.script;
    stage = under.stage_is;
    over = under.over;
    closes = λ parts h.
        let same : past_of first ≡ events_of parts = h.whole in (
          record { rule = rule; events = part },
          refl,
          cut_closes first.script.value (due_at stage.world) rule parts part (past_of stage) (under.cut parts h)
              (subst (λ (p : Past). is_part first.script.value rule p part [] ≡ true) same is)
              (subst (λ (p : Past). IsQuiet first.script.value (due_at stage.world) rule p part []) same quiet),
        );
  }

-- ---- rests

-- a session that waits or is over rests
pub rests : (script : Script) (past : Past) (s : ℕ) → (is_waiting script past s ≡ true) ⊎ (is_over script past s ≡ true) → is_resting script past s ≡ true
rests script past s (inl h) = or_true (is_waiting script past s) _ h
rests script past s (inr h) = or_later (is_waiting script past s) _ h

-- ---- one turn

first_of_step : (script : Script) (past : Past) (s : ℕ) (due : Option StepKind) (own : Past) → IsStepAt script past s due own → is_turn script s past own ≡ true
first_of_step script past s due own step = by step.events step.step
  where
    by : AreMadeBy script past s own → is_one_step (history_at script past) s (reverse own) ≡ true → is_turn script s past own ≡ true
    by (inl one) h = subst (λ (o : Past). is_turn script s past o ≡ true) (sym one.is) (subst (λ (o : Past). is_one_step (history_at script past) s (reverse o) ≡ true) one.is h)
    by (inr (inl two)) h = subst (λ (o : Past). is_turn script s past o ≡ true) (sym two.is) (subst (λ (o : Past). is_one_step (history_at script past) s (reverse o) ≡ true) two.is h)
    by (inr (inr said)) h = subst (λ (o : Past). is_turn script s past o ≡ true) (sym said.is) (subst (λ (o : Past). is_one_step (history_at script past) s (reverse o) ≡ true) said.is h)

module _ (first new : Stage) (s : ℕ) (answer : Turn) (is : IsStage first) (come : HasCome first new s answer) where
  abbrev one_turn : Rule
  one_turn = by_entry (entry.Turn s)

  turn_steps : IsStepAt first.script.value (past_of first) s (due_at first.world s) come.own → Closes first new (by_entry (entry.Turn s))
  turn_steps step =
      let under = under_steps first first new (by_entry (entry.Turn s)) [] s answer (under_begins first (by_entry (entry.Turn s)) is) come step refl refl (λ t same last. absurd (not_last t same)) in
      let same : come.own ++ [] ≡ come.own = append_nil come.own in
      under_closes first new (by_entry (entry.Turn s)) (come.own ++ []) under
      (subst (λ (o : Past). is_part first.script.value (by_entry (entry.Turn s)) (past_of first) o [] ≡ true) (sym same)
      (part_turns first.script.value (past_of first) s come.own (subst (λ (o : Past). IsUnderWay first.script.value (by_entry (entry.Turn s)) (past_of first) o) same under.way) (first_of_step first.script.value (past_of first) s (due_at first.world s) come.own step)))
      tt
    where
      append_nil : {X : Type 0} (a : List X) → a ++ [] ≡ a
      append_nil [] = refl
      append_nil (x ∷ a) = ap (λ l. x ∷ l) (append_nil a)

      not_last : (t : ℕ) → by_entry (entry.Turn s) ≡ by_entry (entry.Last t) → ⊥
      not_last t same = false≢true (ap is_last_rule same)

  turn_rests : come.own ≡ [] → is_resting first.script.value (past_of first) s ≡ true → Closes first new (by_entry (entry.Turn s))
  turn_rests none rest =
      let under = under_stays first first new (by_entry (entry.Turn s)) [] s answer (under_begins first (by_entry (entry.Turn s)) is) come none in
      under_closes first new (by_entry (entry.Turn s)) [] under (part_turns first.script.value (past_of first) s [] under.way rest) tt

  by_answer : (a : Turn) → Comes first.script.value (past_of first) s (due_at first.world s) a come.own → Closes first new (by_entry (entry.Turn s))
  by_answer (turn.Stepped k) (step, plain) = turn_steps step
  by_answer (turn.Said i) (text, told, own, ends, step) = turn_steps step
  by_answer (turn.Waiting q) (none, waits) = turn_rests none (rests first.script.value (past_of first) s (inl waits))
  by_answer turn.Ended (none, over) = turn_rests none (rests first.script.value (past_of first) s (inr over))
  by_answer turn.Read h = absurd h
  by_answer turn.Memory h = absurd h

  -- one turn is a part of a number
  turn_closes : Closes first new (by_entry (entry.Turn s))
  turn_closes = by_answer answer come.came

-- a turn, and the reading steps before it, are one; where no entry is given no commit comes to where one waits
pub turn_closes_to : (first new : Stage) (s : ℕ) (answer : Turn) → TurnsTo first new s None answer → Closes first new (by_entry (entry.Turn s))
turn_closes_to first new s answer turned = by answer turned
  where
    behind : (a : Turn) → ComesShort first new s None a → Closes first new (by_entry (entry.Turn s))
    behind a t = closes_behind first t.mid s t.reads new (by_entry (entry.Turn s)) (turn_closes t.mid new s a t.reads.stage t.come)

    by : (a : Turn) → TurnsTo first new s None a → Closes first new (by_entry (entry.Turn s))
    by (turn.Stepped k) t = behind (turn.Stepped k) t
    by (turn.Said i) t = behind (turn.Said i) t
    by (turn.Waiting q) t = behind (turn.Waiting q) t
    by turn.Ended t = behind turn.Ended t
    by turn.Read t = absurd (false≢true t.1)
    by turn.Memory t = behind turn.Memory t
