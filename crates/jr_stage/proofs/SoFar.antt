-- How a cut grows by steps, and how parts end.
use Rattle.std.proofs.Common.{◌≡◌, ◌⊎◌, inl, inr, ℕ, ◌+◌, Bool, true, false, cond, not, ◌||◌, ◌&&◌, Some, None, Option, List, [], ◌∷◌, ◌++◌, refl, sym, ap, ◌∙◌, subst, arith}
use Rattle.std.specs.Prelude.{◌==◌, nat_le, reverse}
use Rattle.std.specs.Option.{option_map_or}
use Rattle.std.specs.List.{count_by, fold}
use Rattle.std.proofs.lemmas.Bool.Decides.{nat_tests}
use Rattle.std.proofs.lemmas.List.{reverse-append, reverse-reverse}
use mathlib.Core.Bool.{false≢true}
use Rattle.jr_rev.specs.declared.revision.Revision.{Revision}
use Rattle.oak_machine.specs.declared.event.Draw.{Draw}
use Rattle.oak_machine.specs.declared.event.Event.{Event}
use Rattle.oak_machine.specs.declared.event.Event.TheVariants as event
use Rattle.oak_machine.specs.declared.event.StepKind.{StepKind}
use Rattle.oak_machine.specs.History.{Past}
use Rattle.oak_machine.specs.Commits.{draw_of}
use Rattle.oak_machine.specs.Laws.{is_revision_of}
use Rattle.oak_machine.specs.Runs.{is_task_end}
use Rattle.oak_machine.specs.Sessions.{is_drawing, is_reply_of, is_stopped}
use Rattle.jr_script.specs.declared.script.Script.{Script}
use Rattle.jr_script.specs.declared.script.Entry.TheVariants as entry
use Rattle.jr_stage.specs.Places.{is_at_last, is_commit, is_next, is_of_turn, is_own, is_resting, is_waiting, is_write_or_mark, next_of, tells_of_none}
use Rattle.jr_stage.specs.Parts.{Rule, by_entry, to_reply, to_end, Part, part_session, is_part_over, is_part, is_turn, may_end, must_end, events_of, IsCut}
use Rattle.jr_stage.specs.Growing.{StayParts, StaysPart, is_step_quiet}
use Rattle.jr_stage.specs.SoFar.{AreMadeBy, AreQuiet, IsCutSoFar, IsMadeBy, IsQuiet, IsQuietNext, IsSingle, IsStepAt, IsToldReply, IsUnderWay, IsUnnamed, is_last_due}
use Rattle.jr_stage.proofs.Flying.{idle_not_at_last, none_is_some}
use Rattle.jr_stage.proofs.Growing.{cut_grows, next_stays, part_grows}

-- ---- lists

append_nil : {X : Type 0} (a : List X) → a ++ [] ≡ a
append_nil [] = refl
append_nil (x ∷ a) = ap (λ l. x ∷ l) (append_nil a)

append_assoc : {X : Type 0} (a b c : List X) → (a ++ b) ++ c ≡ a ++ (b ++ c)
append_assoc [] b c = refl
append_assoc (x ∷ a) b c = ap (λ l. x ∷ l) (append_assoc a b c)

-- ---- an event is of one session

module _ (past : Past) (s t : ℕ) (others : (s == t) ≡ false) where
  not_equal : (a : ℕ) → (a == t) ≡ true → (a == s) ≡ false
  not_equal a h = grind (arith, nat_tests)

  not_theirs : (r : Revision) → is_revision_of past t r ≡ true → is_revision_of past s r ≡ false
  not_theirs r h = by (draw_of past r) refl h
    where
      by : (o : Option Draw) → draw_of past r ≡ o → option_map_or (λ x. x.session == t) o false ≡ true → is_revision_of past s r ≡ false
      by None is k = absurd (false≢true k)
      by (Some d) is k = ap (λ (o : Option Draw). option_map_or (λ x. x.session == s) o false) is ∙ not_equal d.session k

  pub one_session : (e : Event) → is_own past t e ≡ true → is_own past s e ≡ false
  one_session (event.Login a v) h = not_equal a h
  one_session (event.Refresh a v) h = not_equal a h
  one_session (event.Draw d) h = not_equal d.session h
  one_session (event.Commit r) h = not_theirs r h
  one_session (event.Refuse r item o) h = not_theirs r h
  one_session (event.End r) h = not_theirs r h
  one_session (event.Attach a id) h = not_equal a h
  one_session (event.Detach a) h = not_equal a h
  one_session (event.Split a path e) h = not_equal a h
  one_session (event.Collected a c) h = not_equal a h
  one_session (event.Went a k) h = not_equal a h
  one_session (event.Said a i text) h = not_equal a h
  one_session e h = absurd (false≢true h)

-- how a task of s ended is told of s
pub told_own : (past : Past) (s : ℕ) (e : Event) → is_task_end s e ≡ true → is_own past s e ≡ true
told_own past s (event.Split a path x) h = h
told_own past s (event.Collected a c) h = h
told_own past s e h = absurd (false≢true h)

pub own_itself : (s : ℕ) → (s == s) ≡ true
own_itself s = grind (arith, nat_tests)

-- that is no write, no mark and no commit, and no reply
told_quiet : (s : ℕ) (e : Event) → is_task_end s e ≡ true → (is_write_or_mark e ≡ false) × (is_commit e ≡ false) × (is_reply_of s e ≡ false)
told_quiet s (event.Split a path x) h = (refl, refl, refl)
told_quiet s (event.Collected a c) h = (refl, refl, refl)
told_quiet s e h = absurd (false≢true h)

-- while it is told the session doesn't rest, nor is anything of it in flight, where neither was before
told_awake : (script : Script) (past : Past) (s : ℕ) (e : Event) → is_task_end s e ≡ true → is_resting script past s ≡ false → is_resting script (e ∷ past) s ≡ false
told_awake script past s (event.Split a path x) h awake = awake
told_awake script past s (event.Collected a c) h awake = awake
told_awake script past s e h awake = absurd (false≢true h)

told_idle : (past : Past) (s : ℕ) (e : Event) → is_task_end s e ≡ true → is_drawing past s ≡ false → is_drawing (e ∷ past) s ≡ false
told_idle past s (event.Split a path x) h idle = idle
told_idle past s (event.Collected a c) h idle = idle
told_idle past s e h idle = absurd (false≢true h)

-- an event that tells of no session is none of a session
pub unnamed_own : (past : Past) (s : ℕ) (e : Event) → tells_of_none e ≡ true → is_own past s e ≡ false
unnamed_own past s (event.Out k r) h = refl
unnamed_own past s (event.In k v) h = refl
unnamed_own past s (event.Sweep k r) h = refl
unnamed_own past s (event.Bound m t) h = refl
unnamed_own past s (event.Checkpoint id v) h = refl
unnamed_own past s (event.Release id) h = refl
unnamed_own past s e h = absurd (false≢true h)

-- what a session makes is no event of another
pub not_of_another : (script : Script) (past : Past) (s t : ℕ) → (s == t) ≡ false → (e : Event) → IsMadeBy script past t e → is_own past s e ≡ false
not_of_another script past s t others e (inl own) = one_session past s t others e own
not_of_another script past s t others e (inr unnamed) = unnamed_own past s e unnamed.none

-- ---- what is next

behind : (e : Event) (later past : Past) → reverse (e ∷ later) ++ past ≡ reverse later ++ (e ∷ past)
behind e later past = ap (λ l. l ++ past) (reverse-append (e ∷ []) later) ∙ append_assoc (reverse later) (e ∷ []) past

next_behind : (past : Past) (s : ℕ) (later more : List Event) → next_of past s later ≡ None → next_of past s (later ++ more) ≡ next_of (reverse later ++ past) s more
next_behind past s [] more h = refl
next_behind past s (e ∷ later) more h = elim (is_own past s e) as (λ b. cond b (Some e) (next_of (e ∷ past) s later) ≡ None → cond b (Some e) (next_of (e ∷ past) s (later ++ more)) ≡ next_of (reverse (e ∷ later) ++ past) s more) [
  | true ↦ λ k. none_is_some e (sym k)
  | false ↦ λ k. next_behind (e ∷ past) s later more k ∙ ap (λ q. next_of q s more) (sym (behind e later past))
] h

-- ---- what keeps closed parts

is_quiet_by : (script : Script) (due : ℕ → Option StepKind) (s : ℕ) (before part : Past) (later : List Event) → (is_part_over script (by_entry (entry.Last s)) before part ≡ true) ⊎ IsQuietNext (next_of (part ++ before) s later) (due s) → is_step_quiet script (by_entry (entry.Last s)) s before part later ≡ true
is_quiet_by script due s before part later (inl done) = ap (λ b. b || not (is_next is_write_or_mark (part ++ before) s later)) done
is_quiet_by script due s before part later (inr next) = by (next_of (part ++ before) s later) refl next
  where
    or_later : (a b : Bool) → b ≡ true → (a || b) ≡ true
    or_later true b h = refl
    or_later false b h = h

    by : (o : Option Event) → next_of (part ++ before) s later ≡ o → IsQuietNext o (due s) → is_step_quiet script (by_entry (entry.Last s)) s before part later ≡ true
    by (Some e) is quiet = or_later (is_part_over script (by_entry (entry.Last s)) before part) _ (ap (λ (o : Option Event). not (option_map_or is_write_or_mark o false)) is ∙ ap not quiet)
    by None is quiet = or_later (is_part_over script (by_entry (entry.Last s)) before part) _ (ap (λ (o : Option Event). not (option_map_or is_write_or_mark o false)) is)

stays_by : (script : Script) (due : ℕ → Option StepKind) (rule : Rule) (before part : Past) (later : List Event) → IsQuiet script due rule before part later → StaysPart script rule before part later
stays_by script due (by_entry (entry.Last s)) before part later (knows, quiet) = (knows, is_quiet_by script due s before part later quiet)
stays_by script due (by_entry (entry.Turn s)) before part later quiet = tt
stays_by script due (by_entry (entry.Say s n)) before part later quiet = tt
stays_by script due (by_entry (entry.Draw s)) before part later quiet = tt
stays_by script due (by_entry (entry.Write s n)) before part later quiet = tt
stays_by script due (by_entry (entry.Read s)) before part later quiet = tt
stays_by script due (to_reply s) before part later quiet = tt
stays_by script due (to_end s) before part later quiet = tt

pub stay_of_quiet : (script : Script) (due : ℕ → Option StepKind) (parts : List Part) (later : List Event) → AreQuiet script due parts later → StayParts script parts later
stay_of_quiet script due [] later quiet = tt
stay_of_quiet script due (p ∷ parts) later quiet = (stays_by script due p.rule (events_of parts) p.events later quiet.0, stay_of_quiet script due parts (reverse p.events ++ later) quiet.1)

-- ---- a step of session t

module _ (script : Script) (due now : ℕ → Option StepKind) (t : ℕ) (past own : Past) (step : IsStepAt script past t (due t) own) (others : (s : ℕ) → (s == t) ≡ false → now s ≡ due s) where
  equal : (a b : ℕ) → (a == b) ≡ true → a ≡ b
  equal a b h = grind (arith, nat_tests)

  -- what is next once the step is made, where nothing was
  next_own : (e : Event) (s : ℕ) (more : List Event) → is_own past s e ≡ true → next_of past s (e ∷ more) ≡ Some e
  next_own e s more h = ap (λ b. cond b (Some e) (next_of (e ∷ past) s more)) h

  next_other : (e : Event) (s : ℕ) (more : List Event) → is_own past s e ≡ false → next_of past s (e ∷ more) ≡ next_of (e ∷ past) s more
  next_other e s more h = ap (λ b. cond b (Some e) (next_of (e ∷ past) s more)) h

  quiet_step : (s : ℕ) → is_last_due (due s) ≡ true → IsQuietNext (next_of past s (reverse own)) (now s)
  quiet_step s last = elim (s == t) as (λ b. (s == t) ≡ b → IsQuietNext (next_of past s (reverse own)) (now s)) [
    | true ↦ λ same. subst (λ (n : ℕ). IsQuietNext (next_of past n (reverse own)) (now n)) (sym (equal s t same)) (mine (subst (λ (n : ℕ). is_last_due (due n) ≡ true) (equal s t same) last) step.events)
    | false ↦ λ other. theirs other step.events
  ] refl
    where
      mine : is_last_due (due t) ≡ true → AreMadeBy script past t own → IsQuietNext (next_of past t (reverse own)) (now t)
      mine last (inl one) =
          subst (λ (o : Past). IsQuietNext (next_of past t (reverse o)) (now t)) (sym one.is)
          (first one.made)
        where
          first : IsMadeBy script past t one.event → IsQuietNext (next_of past t (one.event ∷ [])) (now t)
          first (inl own) = subst (λ (o : Option Event). IsQuietNext o (now t)) (sym (next_own one.event t [] own)) (step.written one.event one.is last)
          first (inr unnamed) = absurd (false≢true (sym (step.unnamed one.event one.is unnamed.none) ∙ last))
      mine last (inr (inl two)) =
          subst (λ (o : Past). IsQuietNext (next_of past t (reverse o)) (now t)) (sym two.is)
          (subst (λ (o : Option Event). IsQuietNext o (now t)) (sym (next_own (event.End two.revision) t (event.Head two.cluster two.head ∷ []) two.theirs)) refl)
      mine last (inr (inr said)) =
          subst (λ (o : Past). IsQuietNext (next_of past t (reverse o)) (now t)) (sym said.is)
          (subst (λ (o : Option Event). IsQuietNext o (now t)) (sym (next_own said.told t (event.Said t said.index said.text ∷ []) (told_own past t said.told said.ends))) (told_quiet t said.told said.ends).0)

      theirs : (s == t) ≡ false → AreMadeBy script past t own → IsQuietNext (next_of past s (reverse own)) (now s)
      theirs other (inl one) =
          subst (λ (o : Past). IsQuietNext (next_of past s (reverse o)) (now s)) (sym one.is)
          (subst (λ (o : Option Event). IsQuietNext o (now s)) (sym (next_other one.event s [] (not_of_another script past s t other one.event one.made)))
          (subst (λ (d : Option StepKind). is_last_due d ≡ true) (sym (others s other)) last))
      theirs other (inr (inl two)) =
          subst (λ (o : Past). IsQuietNext (next_of past s (reverse o)) (now s)) (sym two.is)
          (subst (λ (o : Option Event). IsQuietNext o (now s)) (sym (next_other (event.End two.revision) s (event.Head two.cluster two.head ∷ []) (one_session past s t other (event.End two.revision) two.theirs)))
          (subst (λ (d : Option StepKind). is_last_due d ≡ true) (sym (others s other)) last))
      theirs other (inr (inr said)) =
          subst (λ (o : Past). IsQuietNext (next_of past s (reverse o)) (now s)) (sym said.is)
          (subst (λ (o : Option Event). IsQuietNext o (now s))
          (sym (next_other said.told s (event.Said t said.index said.text ∷ []) (one_session past s t other said.told (told_own past t said.told said.ends))
          ∙ ap (λ b. cond b (Some (event.Said t said.index said.text)) None) (one_session (said.told ∷ past) s t other (event.Said t said.index said.text) (own_itself t))))
          (subst (λ (d : Option StepKind). is_last_due d ≡ true) (sym (others s other)) last))

  quiet_next : (q : Past) (s : ℕ) (later : List Event) → past ≡ reverse later ++ q → IsQuietNext (next_of q s later) (due s) → IsQuietNext (next_of q s (later ++ reverse own)) (now s)
  quiet_next q s later whole quiet = by (next_of q s later) refl quiet
    where
      by : (o : Option Event) → next_of q s later ≡ o → IsQuietNext o (due s) → IsQuietNext (next_of q s (later ++ reverse own)) (now s)
      by (Some e) is h = subst (λ (o : Option Event). IsQuietNext o (now s)) (sym (next_stays q s later (reverse own) e is)) h
      by None is h = subst (λ (o : Option Event). IsQuietNext o (now s)) (sym (next_behind q s later (reverse own) is ∙ ap (λ x. next_of x s (reverse own)) (sym whole))) (quiet_step s h)

  quiet_part : (rule : Rule) (before part : Past) (later : List Event) → past ≡ reverse later ++ (part ++ before) → IsQuiet script due rule before part later → IsQuiet script now rule before part (later ++ reverse own)
  quiet_part (by_entry (entry.Last s)) before part later whole (knows, inl done) = (knows, inl done)
  quiet_part (by_entry (entry.Last s)) before part later whole (knows, inr next) = (knows, inr (quiet_next (part ++ before) s later whole next))
  quiet_part (by_entry (entry.Turn s)) before part later whole quiet = tt
  quiet_part (by_entry (entry.Say s n)) before part later whole quiet = tt
  quiet_part (by_entry (entry.Draw s)) before part later whole quiet = tt
  quiet_part (by_entry (entry.Write s n)) before part later whole quiet = tt
  quiet_part (by_entry (entry.Read s)) before part later whole quiet = tt
  quiet_part (to_reply s) before part later whole quiet = tt
  quiet_part (to_end s) before part later whole quiet = tt

  quiet_grows : (parts : List Part) (later : List Event) → past ≡ reverse later ++ events_of parts → AreQuiet script due parts later → AreQuiet script now parts (later ++ reverse own)
  quiet_grows [] later whole quiet = tt
  quiet_grows (p ∷ parts) later whole quiet =
      let below : past ≡ reverse (reverse p.events ++ later) ++ events_of parts =
      whole ∙ (sym (append_assoc (reverse later) p.events (events_of parts)) ∙ ap (λ l. l ++ events_of parts) (ap (λ l. reverse later ++ l) (sym (reverse-reverse p.events)) ∙ sym (reverse-append (reverse p.events) later))) in (
        quiet_part p.rule (events_of parts) p.events later whole quiet.0,
        subst (λ (l : List Event). AreQuiet script now parts l) (append_assoc (reverse p.events) later (reverse own)) (quiet_grows parts (reverse p.events ++ later) below quiet.1),
      )

  -- the closed parts stay closed, and the part under way has the events of the step too
  pub cut_steps : (parts : List Part) (part : Past) → IsCutSoFar script due parts part past → IsCutSoFar script now parts (own ++ part) (own ++ past)
  cut_steps parts part so_far =
      let quiet = quiet_grows parts (reverse part) (so_far.whole ∙ ap (λ l. l ++ events_of parts) (sym (reverse-reverse part))) so_far.quiet in
      record {
        whole = ap (λ l. own ++ l) so_far.whole ∙ sym (append_assoc own part (events_of parts));
        cut = subst (λ (l : List Event). IsCut script parts l) (sym (reverse-append own part)) (cut_grows script parts (reverse part) (reverse part ++ reverse own) (stay_of_quiet script now parts (reverse part ++ reverse own) quiet) so_far.cut);
        quiet = subst (λ (l : List Event). AreQuiet script now parts l) (sym (reverse-append own part)) quiet;
      }

-- what is due may change where no last write is
module _ (script : Script) (due now : ℕ → Option StepKind) (same : (s : ℕ) → is_last_due (due s) ≡ true → is_last_due (now s) ≡ true) where
  quiet_due : (rule : Rule) (before part : Past) (later : List Event) → IsQuiet script due rule before part later → IsQuiet script now rule before part later
  quiet_due (by_entry (entry.Last s)) before part later (knows, inl done) = (knows, inl done)
  quiet_due (by_entry (entry.Last s)) before part later (knows, inr next) = (knows, inr (by (next_of (part ++ before) s later) next))
    where
      by : (o : Option Event) → IsQuietNext o (due s) → IsQuietNext o (now s)
      by (Some e) h = h
      by None h = same s h
  quiet_due (by_entry (entry.Turn s)) before part later quiet = tt
  quiet_due (by_entry (entry.Say s n)) before part later quiet = tt
  quiet_due (by_entry (entry.Draw s)) before part later quiet = tt
  quiet_due (by_entry (entry.Write s n)) before part later quiet = tt
  quiet_due (by_entry (entry.Read s)) before part later quiet = tt
  quiet_due (to_reply s) before part later quiet = tt
  quiet_due (to_end s) before part later quiet = tt

  quiet_due_all : (parts : List Part) (later : List Event) → AreQuiet script due parts later → AreQuiet script now parts later
  quiet_due_all [] later quiet = tt
  quiet_due_all (p ∷ parts) later quiet = (quiet_due p.rule (events_of parts) p.events later quiet.0, quiet_due_all parts (reverse p.events ++ later) quiet.1)

  pub cut_due : (parts : List Part) (part past : Past) → IsCutSoFar script due parts part past → IsCutSoFar script now parts part past
  cut_due parts part past so_far = record { whole = so_far.whole; cut = so_far.cut; quiet = quiet_due_all parts (reverse part) so_far.quiet }

-- ---- the part under way

own_of_turn : (script : Script) (past : Past) (s : ℕ) (e : Event) → is_own past s e ≡ true → is_of_turn script past s e ≡ true
own_of_turn script past s (event.End r) h = ap (λ b. b || is_stopped past r.cluster) h
own_of_turn script past s (event.Head k v) h = absurd (false≢true h)
own_of_turn script past s (event.Out k r) h = absurd (false≢true h)
own_of_turn script past s (event.In k v) h = absurd (false≢true h)
own_of_turn script past s (event.Sweep k r) h = absurd (false≢true h)
own_of_turn script past s (event.Bound m t) h = absurd (false≢true h)
own_of_turn script past s (event.Checkpoint id v) h = absurd (false≢true h)
own_of_turn script past s (event.Release id) h = absurd (false≢true h)
own_of_turn script past s (event.Stop k) h = absurd (false≢true h)
own_of_turn script past s (event.Recover k) h = absurd (false≢true h)
own_of_turn script past s e h = h

neither : (a b : Bool) → (a || b) ≡ false → (a ≡ false) × (b ≡ false)
neither true b h = absurd (false≢true (sym h))
neither false b h = (refl, h)

and_true : (a b : Bool) → a ≡ true → b ≡ true → (a && b) ≡ true
and_true true b h k = k
and_true false b h k = absurd (false≢true h)

module _ (script : Script) (before : Past) where
  -- nothing ends a part between two events of a step, the first of which is no reply
  mid_done : (rule : Rule) (part : Past) (e : Event) → is_reply_of (part_session rule) e ≡ false → is_part_over script rule before part ≡ false → is_drawing (e ∷ (part ++ before)) (part_session rule) ≡ false → is_resting script (e ∷ (part ++ before)) (part_session rule) ≡ false
      → is_part_over script rule before (e ∷ part) ≡ false
  mid_done (by_entry (entry.Turn s)) part e unsaid done idle awake = refl
  mid_done (by_entry (entry.Say s n)) part e unsaid done idle awake =
      ap (λ b. nat_le n (fold (λ n x. n + cond (is_reply_of s x) 1 0) (0 + cond b 1 0) part) || is_resting script (e ∷ (part ++ before)) s) unsaid
      ∙ (ap (λ b. b || is_resting script (e ∷ (part ++ before)) s) (neither (nat_le n (count_by (is_reply_of s) part)) _ done).0 ∙ awake)
  mid_done (by_entry (entry.Draw s)) part e unsaid done idle awake =
      ap (λ b. b || is_reply_of s e || is_resting script (e ∷ (part ++ before)) s) idle ∙ (ap (λ b. b || is_resting script (e ∷ (part ++ before)) s) unsaid ∙ awake)
  mid_done (by_entry (entry.Write s n)) part e unsaid done idle awake =
      ap (λ b. (b && nat_le n (count_by (Rattle.jr_stage.specs.Places.is_write_of s) (Rattle.jr_stage.specs.Places.since_draw (e ∷ (part ++ before)) s))) || is_reply_of s e || is_resting script (e ∷ (part ++ before)) s) idle
      ∙ (ap (λ b. b || is_resting script (e ∷ (part ++ before)) s) unsaid ∙ awake)
  mid_done (by_entry (entry.Last s)) part e unsaid done idle awake = ap (λ b. b || is_resting script (e ∷ (part ++ before)) s) unsaid ∙ awake
  mid_done (by_entry (entry.Read s)) part e unsaid done idle awake = absurd (false≢true (sym done))
  mid_done (to_reply s) part e unsaid done idle awake = unsaid
  mid_done (to_end s) part e unsaid done idle awake = (neither (is_waiting script (e ∷ (part ++ before)) s) _ awake).1

  -- the part need not have ended before an event
  pub not_yet : (rule : Rule) (part : Past) (e : Event) → is_part_over script rule before part ≡ false → ((s : ℕ) → rule ≡ by_entry (entry.Last s) → (is_at_last (part ++ before) s && is_next is_commit (part ++ before) s (e ∷ [])) ≡ false) → must_end script rule before part (e ∷ []) ≡ false
  not_yet (by_entry (entry.Last s)) part e done late = ap (λ b. b || (is_at_last (part ++ before) s && is_next is_commit (part ++ before) s (e ∷ []))) done ∙ late s refl
  not_yet (by_entry (entry.Turn s)) part e done late = ap (λ b. b || false) done
  not_yet (by_entry (entry.Say s n)) part e done late = ap (λ b. b || false) done
  not_yet (by_entry (entry.Draw s)) part e done late = ap (λ b. b || false) done
  not_yet (by_entry (entry.Write s n)) part e done late = ap (λ b. b || false) done
  not_yet (by_entry (entry.Read s)) part e done late = ap (λ b. b || false) done
  not_yet (to_reply s) part e done late = ap (λ b. b || false) done
  not_yet (to_end s) part e done late = ap (λ b. b || false) done

  -- the part under way goes on by a step that it need not have ended before
  pub way_steps : (rule : Rule) (part : Past) (due : Option StepKind) (own : Past) → IsUnderWay script rule before part → IsStepAt script (part ++ before) (part_session rule) due own → is_part_over script rule before part ≡ false
      → ((s : ℕ) → rule ≡ by_entry (entry.Last s) → is_last_due due ≡ true → is_at_last (part ++ before) s ≡ false) → IsUnderWay script rule before (own ++ part)
  way_steps rule part due own way step done late = by step.events
    where
      s : ℕ
      s = part_session rule

      single : (e : Event) → own ≡ e ∷ [] → is_own (part ++ before) (part_session rule) e ≡ true → IsUnderWay script rule before (e ∷ part)
      single e is own_is = record {
        goes = part_grows script rule before part e way.knows way.goes
            (not_yet rule part e done (λ t same. no_last t same (is_commit e) refl))
            (own_of_turn script (part ++ before) (part_session rule) e own_is);
        knows = and_true (is_own (part ++ before) (part_session rule) e || not (is_at_last (part ++ before) (part_session rule))) _ (ap (λ b. b || not (is_at_last (part ++ before) (part_session rule))) own_is) way.knows;
      }
        where
          own_next : (t : ℕ) → rule ≡ by_entry (entry.Last t) → is_next is_commit (part ++ before) t (e ∷ []) ≡ is_commit e
          own_next t same = ap (λ b. option_map_or is_commit (cond b (Some e) None) false) (subst (λ (r : Rule). is_own (part ++ before) (part_session r) e ≡ true) same own_is)

          and_false : (a b : Bool) → b ≡ false → (a && b) ≡ false
          and_false true b h = h
          and_false false b h = refl

          no_last : (t : ℕ) → rule ≡ by_entry (entry.Last t) → (b : Bool) → is_commit e ≡ b → (is_at_last (part ++ before) t && is_next is_commit (part ++ before) t (e ∷ [])) ≡ false
          no_last t same false none = and_false (is_at_last (part ++ before) t) _ (own_next t same ∙ none)
          no_last t same true commits = ap (λ b. b && is_next is_commit (part ++ before) t (e ∷ [])) (late t same (step.committed e is commits))

      -- an event that tells of no session comes where none of its session is in flight
      unnamed : (e : Event) → IsUnnamed script (part ++ before) (part_session rule) e → IsUnderWay script rule before (e ∷ part)
      unnamed e un = record {
        goes = part_grows script rule before part e way.knows way.goes (not_yet rule part e done (λ t same. none_next t)) un.made;
        knows = and_true (is_own (part ++ before) (part_session rule) e || not (is_at_last (part ++ before) (part_session rule))) _
            (or_true (is_own (part ++ before) (part_session rule) e) _ (ap not (idle_not_at_last (part ++ before) (part_session rule) un.idle))) way.knows;
      }
        where
          or_true : (a b : Bool) → b ≡ true → (a || b) ≡ true
          or_true true b h = refl
          or_true false b h = h

          and_false : (a b : Bool) → b ≡ false → (a && b) ≡ false
          and_false true b h = h
          and_false false b h = refl

          none_next : (t : ℕ) → (is_at_last (part ++ before) t && is_next is_commit (part ++ before) t (e ∷ [])) ≡ false
          none_next t = and_false (is_at_last (part ++ before) t) _ (ap (λ b. option_map_or is_commit (cond b (Some e) None) false) (unnamed_own (part ++ before) t e un.none))

      -- how a task ended, and the reply behind it
      told_under : (said : IsToldReply (part ++ before) (part_session rule) own) → IsUnderWay script rule before (event.Said (part_session rule) said.index said.text ∷ said.told ∷ part)
      told_under said = record {
        goes = part_grows script rule before (said.told ∷ part) (event.Said (part_session rule) said.index said.text) first.knows first.goes
            (not_yet rule (said.told ∷ part) (event.Said (part_session rule) said.index said.text)
            (mid_done rule part said.told quiet.2 done (told_idle (part ++ before) (part_session rule) said.told said.ends said.idle) (told_awake script (part ++ before) (part_session rule) said.told said.ends step.awake))
            (λ t same. none_next (said.told ∷ (part ++ before)) t (event.Said (part_session rule) said.index said.text) refl))
            (own_of_turn script (said.told ∷ (part ++ before)) (part_session rule) (event.Said (part_session rule) said.index said.text) (own_itself (part_session rule)));
        knows = and_true (is_own (said.told ∷ (part ++ before)) (part_session rule) (event.Said (part_session rule) said.index said.text) || not (is_at_last (said.told ∷ (part ++ before)) (part_session rule))) _
            (ap (λ b. b || not (is_at_last (said.told ∷ (part ++ before)) (part_session rule))) (own_itself (part_session rule))) first.knows;
      }
        where
          quiet : (is_write_or_mark said.told ≡ false) × (is_commit said.told ≡ false) × (is_reply_of (part_session rule) said.told ≡ false)
          quiet = told_quiet (part_session rule) said.told said.ends

          own_is : is_own (part ++ before) (part_session rule) said.told ≡ true
          own_is = told_own (part ++ before) (part_session rule) said.told said.ends

          -- no commit is next where the event is none
          none_next : (q : Past) (t : ℕ) (e : Event) → is_commit e ≡ false → (is_at_last q t && is_next is_commit q t (e ∷ [])) ≡ false
          none_next q t e none = by (is_at_last q t) (is_own q t e)
            where
              by : (a b : Bool) → (a && option_map_or is_commit (cond b (Some e) None) false) ≡ false
              by true true = none
              by true false = refl
              by false b = refl

          first : IsUnderWay script rule before (said.told ∷ part)
          first = record {
            goes = part_grows script rule before part said.told way.knows way.goes
                (not_yet rule part said.told done (λ t same. none_next (part ++ before) t said.told quiet.1))
                (own_of_turn script (part ++ before) (part_session rule) said.told own_is);
            knows = and_true (is_own (part ++ before) (part_session rule) said.told || not (is_at_last (part ++ before) (part_session rule))) _ (ap (λ b. b || not (is_at_last (part ++ before) (part_session rule))) own_is) way.knows;
          }

      by_one : (one : IsSingle script (part ++ before) (part_session rule) own) → IsMadeBy script (part ++ before) (part_session rule) one.event → IsUnderWay script rule before (one.event ∷ part)
      by_one one (inl own_is) = single one.event one.is own_is
      by_one one (inr un) = unnamed one.event un

      by : AreMadeBy script (part ++ before) (part_session rule) own → IsUnderWay script rule before (own ++ part)
      by (inl one) = subst (λ (o : Past). IsUnderWay script rule before (o ++ part)) (sym one.is) (by_one one one.made)
      by (inr (inr said)) = subst (λ (o : Past). IsUnderWay script rule before (o ++ part)) (sym said.is) (told_under said)
      by (inr (inl two)) = subst (λ (o : Past). IsUnderWay script rule before (o ++ part)) (sym two.is) (record {
        goes = part_grows script rule before (event.End two.revision ∷ part) (event.Head two.cluster two.head) first.knows first.goes
            (not_yet rule (event.End two.revision ∷ part) (event.Head two.cluster two.head) (mid_done rule part (event.End two.revision) refl done two.idle two.awake) (λ t same. and_none (is_at_last (event.End two.revision ∷ (part ++ before)) t)))
            two.near;
        knows = and_true (not (is_at_last (event.End two.revision ∷ (part ++ before)) (part_session rule))) _ (ap not (idle_not_at_last (event.End two.revision ∷ (part ++ before)) (part_session rule) two.idle)) first.knows;
      })
        where
          and_none : (a : Bool) → (a && false) ≡ false
          and_none true = refl
          and_none false = refl

          first : IsUnderWay script rule before (event.End two.revision ∷ part)
          first = record {
            goes = part_grows script rule before part (event.End two.revision) way.knows way.goes
                (not_yet rule part (event.End two.revision) done (λ t same.
                ap (λ b. is_at_last (part ++ before) t && option_map_or is_commit (cond b (Some (event.End two.revision)) None) false) (subst (λ (r : Rule). is_revision_of (part ++ before) (part_session r) two.revision ≡ true) same two.theirs)
                ∙ and_none (is_at_last (part ++ before) t)))
                (own_of_turn script (part ++ before) (part_session rule) (event.End two.revision) two.theirs);
            knows = and_true (is_revision_of (part ++ before) (part_session rule) two.revision || not (is_at_last (part ++ before) (part_session rule))) _ (ap (λ b. b || not (is_at_last (part ++ before) (part_session rule))) two.theirs) way.knows;
          }

  pub way_begins : (rule : Rule) → IsUnderWay script rule before []
  way_begins rule = record { goes = refl; knows = refl }

  -- ---- how a part ends

  pub part_turns : (s : ℕ) (part : Past) → IsUnderWay script (by_entry (entry.Turn s)) before part → is_turn script s before part ≡ true → is_part script (by_entry (entry.Turn s)) before part [] ≡ true
  part_turns s part way turn = and_true (is_turn script s before part) _ turn way.goes

  pub part_says : (s n : ℕ) (part : Past) → IsUnderWay script (by_entry (entry.Say s n)) before part → is_part_over script (by_entry (entry.Say s n)) before part ≡ true → is_part script (by_entry (entry.Say s n)) before part [] ≡ true
  part_says s n part way done = and_true (is_part_over script (by_entry (entry.Say s n)) before part) _ done way.goes

  pub part_draws : (s : ℕ) (part : Past) → IsUnderWay script (by_entry (entry.Draw s)) before part → is_part_over script (by_entry (entry.Draw s)) before part ≡ true → is_part script (by_entry (entry.Draw s)) before part [] ≡ true
  part_draws s part way done = and_true (is_part_over script (by_entry (entry.Draw s)) before part) _ done way.goes

  pub part_writes : (s n : ℕ) (part : Past) → IsUnderWay script (by_entry (entry.Write s n)) before part → is_part_over script (by_entry (entry.Write s n)) before part ≡ true → is_part script (by_entry (entry.Write s n)) before part [] ≡ true
  part_writes s n part way done = and_true (is_part_over script (by_entry (entry.Write s n)) before part) _ done way.goes

  pub part_rests : (s : ℕ) (part : Past) → IsUnderWay script (by_entry (entry.Last s)) before part → is_part_over script (by_entry (entry.Last s)) before part ≡ true → is_part script (by_entry (entry.Last s)) before part [] ≡ true
  part_rests s part way done = and_true (may_end script (by_entry (entry.Last s)) before part []) _ (ap (λ b. b || (is_at_last (part ++ before) s && true)) done) way.goes

  pub part_at_last : (s : ℕ) (part : Past) → IsUnderWay script (by_entry (entry.Last s)) before part → is_at_last (part ++ before) s ≡ true → is_part script (by_entry (entry.Last s)) before part [] ≡ true
  part_at_last s part way last = and_true (may_end script (by_entry (entry.Last s)) before part []) _ (or_later (is_part_over script (by_entry (entry.Last s)) before part) _ (ap (λ b. b && true) last)) way.goes
    where
      or_later : (a b : Bool) → b ≡ true → (a || b) ≡ true
      or_later true b h = refl
      or_later false b h = h

  pub part_replies : (s : ℕ) (part : Past) → IsUnderWay script (to_reply s) before part → is_part_over script (to_reply s) before part ≡ true → is_part script (to_reply s) before part [] ≡ true
  part_replies s part way done = and_true (is_part_over script (to_reply s) before part) _ done way.goes

  pub part_closes : (s : ℕ) (part : Past) → IsUnderWay script (to_end s) before part → is_part_over script (to_end s) before part ≡ true → is_part script (to_end s) before part [] ≡ true
  part_closes s part way done = and_true (is_part_over script (to_end s) before part) _ done way.goes

-- the part under way is closed
pub cut_closes : (script : Script) (due : ℕ → Option StepKind) (rule : Rule) (parts : List Part) (part past : Past) → IsCutSoFar script due parts part past → is_part script rule (events_of parts) part [] ≡ true → IsQuiet script due rule (events_of parts) part []
    → IsCutSoFar script due (record { rule = rule; events = part } ∷ parts) [] past
cut_closes script due rule parts part past so_far part_is quiet = record {
  whole = so_far.whole;
  cut = (part_is, subst (λ (l : List Event). IsCut script parts l) (sym (append_nil (reverse part))) so_far.cut);
  quiet = (quiet, subst (λ (l : List Event). AreQuiet script due parts l) (sym (append_nil (reverse part))) so_far.quiet);
}
