-- Turns until so many replies are said, to the next reply, and to the end.
use Rattle.std.proofs.Common.{◌≡◌, ◌⊎◌, inl, inr, ℕ, ◌+◌, ◌<◌, ◌≤◌, Bool, true, false, cond, ◌||◌, [], ◌∷◌, ◌++◌, refl, sym, ap, ◌∙◌, subst, arith}
use Rattle.std.specs.Prelude.{◌==◌, nat_le}
use Rattle.std.specs.List.{count_by, fold, list_any}
use Rattle.std.proofs.lemmas.Bool.Decides.{nat_tests}
use mathlib.Core.Bool.{false≢true}
use Rattle.oak_machine.specs.declared.event.Event.{Event}
use Rattle.oak_machine.specs.declared.event.Event.TheVariants as event
use Rattle.oak_machine.specs.declared.event.StepKind.{StepKind}
use Rattle.oak_machine.specs.History.{Past}
use Rattle.oak_machine.specs.Sessions.{is_reply_of}
use Rattle.jcr_run.specs.declared.turn.Turn.{Turn}
use Rattle.jcr_run.specs.declared.turn.Turn.TheVariants as turn
use Rattle.jr_script.specs.declared.script.Script.{Script}
use Rattle.jr_script.specs.declared.script.Entry.TheVariants as entry
use Rattle.jr_stage.specs.declared.stage.Stage.{Stage}
use Rattle.jr_stage.specs.Places.{is_over, is_resting, is_waiting}
use Rattle.jr_stage.specs.Parts.{Rule, by_entry, has_just_said, is_part_over, to_end, to_reply}
use Rattle.jcr_run.specs.Standing.{AreEnds}
use Rattle.jr_stage.specs.SoFar.{AreMadeBy, IsStepAt}
use Rattle.jr_stage.specs.Stages.{Closes, HasCome, HasOnlyRead, IsStage, IsUnder, due_at, past_of}
use Rattle.jr_stage.proofs.SoFar.{part_closes, part_replies, part_says}
use Rattle.jr_stage.proofs.Closing.{awake_part, no_last, or_later, or_true, rests, under_begins, under_closes, under_reads, under_stays, under_steps}

at_least : (a b : ℕ) → a ≡ b → nat_le a b ≡ true
at_least a b h = grind (arith, nat_tests)

short_of : (a b : ℕ) → b < a → nat_le a b ≡ false
short_of a b h = grind (arith, nat_tests)

one_less : (a b : ℕ) → a < b → a + 1 ≤ b
one_less a b h = omega arith

least : (n : ℕ) → 0 ≤ n
least n = omega arith

pub number_itself : (n : ℕ) → (n == n) ≡ true
number_itself n = grind (arith, nat_tests)

-- ---- replies among the events of a step

module _ (s : ℕ) (part : Past) where
  -- where a reply is among the events, they have none
  unsaid : (own : Past) (e : Event) (more : Past) → own ≡ e ∷ more → is_reply_of s e ≡ true → list_any (is_reply_of s) own ≡ false → ⊥
  unsaid own e more is said none = false≢true (sym (subst (λ (o : Past). list_any (is_reply_of s) o ≡ false) is none) ∙ ap (λ b. b || list_any (is_reply_of s) more) said)

  pub not_said : (own : Past) (script : Script) (past : Past) → AreMadeBy script past s own → list_any (is_reply_of s) own ≡ false → has_just_said s (own ++ part) ≡ false
  not_said own script past (inl one) none = subst (λ (o : Past). has_just_said s (o ++ part) ≡ false) (sym one.is) (first (is_reply_of s one.event) (subst (λ (o : Past). list_any (is_reply_of s) o ≡ false) one.is none))
    where
      first : (b : Bool) → (b || false) ≡ false → b ≡ false
      first true h = h
      first false h = refl
  not_said own script past (inr (inl two)) none = subst (λ (o : Past). has_just_said s (o ++ part) ≡ false) (sym two.is) refl
  not_said own script past (inr (inr said)) none = absurd (unsaid own (event.Said s said.index said.text) (said.told ∷ []) said.is (number_itself s) none)

  pub same_count : (own : Past) (script : Script) (past : Past) → AreMadeBy script past s own → list_any (is_reply_of s) own ≡ false → count_by (is_reply_of s) (own ++ part) ≡ count_by (is_reply_of s) part
  same_count own script past (inl one) none = subst (λ (o : Past). count_by (is_reply_of s) (o ++ part) ≡ count_by (is_reply_of s) part) (sym one.is)
      (ap (λ b. fold (λ n x. n + cond (is_reply_of s x) 1 0) (0 + cond b 1 0) part) (first (is_reply_of s one.event) (subst (λ (o : Past). list_any (is_reply_of s) o ≡ false) one.is none)))
    where
      first : (b : Bool) → (b || false) ≡ false → b ≡ false
      first true h = h
      first false h = refl
  same_count own script past (inr (inl two)) none = subst (λ (o : Past). count_by (is_reply_of s) (o ++ part) ≡ count_by (is_reply_of s) part) (sym two.is) refl
  same_count own script past (inr (inr said)) none = absurd (unsaid own (event.Said s said.index said.text) (said.told ∷ []) said.is (number_itself s) none)

  -- how a task ended is no reply
  ends_count : (told : Past) → AreEnds s told → count_by (is_reply_of s) (told ++ part) ≡ count_by (is_reply_of s) part
  ends_count [] ends = refl
  ends_count (event.Split a path x ∷ []) ends = refl
  ends_count (event.Collected a c ∷ []) ends = refl
  ends_count (e ∷ []) ends = absurd (false≢true ends)
  ends_count (e ∷ f ∷ told) ends = absurd ends

  one_more : (i : ℕ) (text : _) (told : Past) → AreEnds s told → count_by (is_reply_of s) ((event.Said s i text ∷ told) ++ part) ≡ count_by (is_reply_of s) part + 1
  one_more i text told ends = ap (λ b. fold (λ n x. n + cond (is_reply_of s x) 1 0) (0 + cond b 1 0) (told ++ part)) (number_itself s) ∙ (more (told ++ part) 0 ∙ ap (λ n. n + 1) (ends_count told ends))
    where
      more : (list : Past) (n : ℕ) → fold (λ n x. n + cond (is_reply_of s x) 1 0) (n + 1) list ≡ fold (λ n x. n + cond (is_reply_of s x) 1 0) n list + 1
      more [] n = refl
      more (e ∷ list) n = ap (λ m. fold (λ n x. n + cond (is_reply_of s x) 1 0) m list) (turned n (cond (is_reply_of s e) 1 0)) ∙ more list (n + cond (is_reply_of s e) 1 0)
        where
          turned : (n m : ℕ) → n + 1 + m ≡ n + m + 1
          turned n m = omega arith

-- ---- so many replies

-- so many replies are said of those that an entry waits for
pub record HasSaid (first stage : Stage) (s n said : ℕ) : Type 0 where
  pub part : Past
  pub under : IsUnder first stage (by_entry (entry.Say s n)) part
  pub count : said ≡ count_by (is_reply_of s) part
  pub few : said ≤ n

module _ (first stage : Stage) (s n said : ℕ) where
  pub say_begins : IsStage stage → HasSaid stage stage s n 0
  say_begins is = record { part = []; under = under_begins stage (by_entry (entry.Say s n)) is; count = refl; few = least n }

  pub say_done : HasSaid first stage s n said → said ≡ n → Closes first stage (by_entry (entry.Say s n))
  say_done has all = under_closes first stage (by_entry (entry.Say s n)) has.part has.under
      (part_says first.script.value (past_of first) s n has.part has.under.way (or_true (nat_le n (count_by (is_reply_of s) has.part)) _ (at_least n (count_by (is_reply_of s) has.part) (sym all ∙ has.count)))) tt

  pub say_reads : HasSaid first stage s n said → (new : Stage) → HasOnlyRead stage new s → HasSaid first new s n said
  say_reads has new read = record { part = has.part; under = under_reads first stage new (by_entry (entry.Say s n)) has.part s has.under read; count = has.count; few = has.few }

  module _ (has : HasSaid first stage s n said) (short : said < n) (new : Stage) where
    not_done : is_resting first.script.value (has.part ++ past_of first) s ≡ false → is_part_over first.script.value (by_entry (entry.Say s n)) (past_of first) has.part ≡ false
    not_done awake = ap (λ b. b || is_resting first.script.value (has.part ++ past_of first) s) (subst (λ (c : ℕ). nat_le n c ≡ false) has.count (short_of n said short)) ∙ awake

    pub say_steps : (k : StepKind) → HasCome stage new s (turn.Stepped k) → HasSaid first new s n said
    say_steps k come = record {
      part = come.own ++ has.part;
      under = under_steps first stage new (by_entry (entry.Say s n)) has.part s (turn.Stepped k) has.under come come.came.0 refl
          (not_done (awake_part first stage new (by_entry (entry.Say s n)) has.part s (turn.Stepped k) has.under come come.came.0)) (λ t same last. no_last (by_entry (entry.Say s n)) t refl same);
      count = has.count ∙ sym (same_count s has.part come.own stage.script.value (past_of stage) come.came.0.events come.came.1);
      few = has.few;
    }

    pub say_said : (i : ℕ) → HasCome stage new s (turn.Said i) → HasSaid first new s n (said + 1)
    say_said i come = record {
      part = come.own ++ has.part;
      under = under_steps first stage new (by_entry (entry.Say s n)) has.part s (turn.Said i) has.under come come.came.4 refl
          (not_done (awake_part first stage new (by_entry (entry.Say s n)) has.part s (turn.Said i) has.under come come.came.4)) (λ t same last. no_last (by_entry (entry.Say s n)) t refl same);
      count = ap (λ m. m + 1) has.count ∙ sym (subst (λ (o : Past). count_by (is_reply_of s) (o ++ has.part) ≡ count_by (is_reply_of s) has.part + 1) (sym come.came.2) (one_more s has.part i come.came.0 come.came.1 come.came.3));
      few = one_less said n short;
    }

  rest_done : (has : HasSaid first stage s n said) (new : Stage) (answer : Turn) (come : HasCome stage new s answer) → come.own ≡ [] → is_resting stage.script.value (past_of stage) s ≡ true → Closes first new (by_entry (entry.Say s n))
  rest_done has new answer come none rest =
      let under = under_stays first stage new (by_entry (entry.Say s n)) has.part s answer has.under come none in
      under_closes first new (by_entry (entry.Say s n)) has.part under
      (part_says first.script.value (past_of first) s n has.part under.way (or_later (nat_le n (count_by (is_reply_of s) has.part)) _
      (subst (λ (p : Past). is_resting first.script.value p s ≡ true) has.under.whole (subst (λ (x : Script). is_resting x (past_of stage) s ≡ true) has.under.script rest)))) tt

  pub say_waits : HasSaid first stage s n said → (new : Stage) (q : _) → HasCome stage new s (turn.Waiting q) → Closes first new (by_entry (entry.Say s n))
  say_waits has new q come = rest_done has new (turn.Waiting q) come come.came.0 (rests stage.script.value (past_of stage) s (inl come.came.1))

  pub say_over : HasSaid first stage s n said → (new : Stage) → HasCome stage new s turn.Ended → Closes first new (by_entry (entry.Say s n))
  say_over has new come = rest_done has new turn.Ended come come.came.0 (rests stage.script.value (past_of stage) s (inr come.came.1))

-- ---- to the next reply, and to the end

-- turns of s were made, none of which said a reply
pub record HasGone (first stage : Stage) (rule : Rule) (s : ℕ) : Type 0 where
  pub part : Past
  pub under : IsUnder first stage rule part
  pub unsaid : has_just_said s part ≡ false

module _ (first stage : Stage) (s : ℕ) where
  pub gone_begins : (rule : Rule) → IsStage stage → HasGone stage stage rule s
  gone_begins rule is = record { part = []; under = under_begins stage rule is; unsaid = refl }

  pub gone_reads : (rule : Rule) → HasGone first stage rule s → (new : Stage) → HasOnlyRead stage new s → HasGone first new rule s
  gone_reads rule has new read = record { part = has.part; under = under_reads first stage new rule has.part s has.under read; unsaid = has.unsaid }

  module _ (has : HasGone first stage (to_reply s) s) (new : Stage) where
    pub reply_steps : (k : StepKind) → HasCome stage new s (turn.Stepped k) → HasGone first new (to_reply s) s
    reply_steps k come = record {
      part = come.own ++ has.part;
      under = under_steps first stage new (to_reply s) has.part s (turn.Stepped k) has.under come come.came.0 refl has.unsaid (λ t same last. no_last (to_reply s) t refl same);
      unsaid = not_said s has.part come.own stage.script.value (past_of stage) come.came.0.events come.came.1;
    }

    pub reply_said : (i : ℕ) → HasCome stage new s (turn.Said i) → Closes first new (to_reply s)
    reply_said i come =
        let under = under_steps first stage new (to_reply s) has.part s (turn.Said i) has.under come come.came.4 refl has.unsaid (λ t same last. no_last (to_reply s) t refl same) in
        under_closes first new (to_reply s) (come.own ++ has.part) under
        (part_replies first.script.value (past_of first) s (come.own ++ has.part) under.way (subst (λ (o : Past). has_just_said s (o ++ has.part) ≡ true) (sym come.came.2) (number_itself s))) tt

-- turns of s were made towards its end
pub record IsEnding (first stage : Stage) (s : ℕ) : Type 0 where
  pub part : Past
  pub under : IsUnder first stage (to_end s) part

module _ (first stage : Stage) (s : ℕ) where
  pub end_begins : IsStage stage → IsEnding stage stage s
  end_begins is = record { part = []; under = under_begins stage (to_end s) is }

  pub end_reads : IsEnding first stage s → (new : Stage) → HasOnlyRead stage new s → IsEnding first new s
  end_reads has new read = record { part = has.part; under = under_reads first stage new (to_end s) has.part s has.under read }

  second : (a b : Bool) → (a || b) ≡ false → b ≡ false
  second true b h = absurd (false≢true (sym h))
  second false b h = h

  module _ (has : IsEnding first stage s) (new : Stage) where
    made_one : (answer : Turn) (come : HasCome stage new s answer) → IsStepAt stage.script.value (past_of stage) s (due_at stage.world s) come.own → IsEnding first new s
    made_one answer come step = record {
      part = come.own ++ has.part;
      under = under_steps first stage new (to_end s) has.part s answer has.under come step refl
          (second (is_waiting first.script.value (has.part ++ past_of first) s) _ (awake_part first stage new (to_end s) has.part s answer has.under come step)) (λ t same last. no_last (to_end s) t refl same);
    }

    pub end_steps : (k : StepKind) → HasCome stage new s (turn.Stepped k) → IsEnding first new s
    end_steps k come = made_one (turn.Stepped k) come come.came.0

    pub end_said : (i : ℕ) → HasCome stage new s (turn.Said i) → IsEnding first new s
    end_said i come = made_one (turn.Said i) come come.came.4

    over_first : HasCome stage new s turn.Ended → is_over first.script.value (has.part ++ past_of first) s ≡ true
    over_first come = subst (λ (p : Past). is_over first.script.value p s ≡ true) has.under.whole (subst (λ (x : Script). is_over x (past_of stage) s ≡ true) has.under.script come.came.1)

    pub end_over : HasCome stage new s turn.Ended → Closes first new (to_end s)
    end_over come =
        let under = under_stays first stage new (to_end s) has.part s turn.Ended has.under come come.came.0 in
        under_closes first new (to_end s) has.part under (part_closes first.script.value (past_of first) s has.part under.way (over_first come)) tt

    pub end_is_over : HasCome stage new s turn.Ended → is_over new.script.value (past_of new) s ≡ true
    end_is_over come = subst (λ (x : Script). is_over x (past_of new) s ≡ true) (sym come.script) (come.over s come.came.1)
