-- Others act between two calls of a port: what the calls tell together, and how long what is being done lasts then.
use mathlib.Core.Bool.{false≢true}
use Rattle.std.proofs.Common.{◌≡◌, ◌⊎◌, ℕ, suc, ◌+◌, ◌<◌, ◌≤◌, max, Bool, true, false, cond, ◌||◌, Option, Some, None, List, [], ◌∷◌, ◌++◌, is_some, refl, sym, ap, ◌∙◌, subst, arith}
use Rattle.std.specs.Prelude.{◌==◌, IfSome}
use Rattle.std.specs.List.{list_any}
use Rattle.std.specs.Option.{option_map_or}
use Rattle.std.proofs.lemmas.Bool.{or_parts}
use Rattle.std.proofs.lemmas.List.{append_assoc, append_cancel_right}
use Rattle.basics.proofs.Bools.{first_of_both, number_itself}
use Rattle.basics.proofs.Lists.{empty_first, empty_second}
use Rattle.core_heads.proofs.Orders.{same_number}
use Rattle.jr_rev.specs.declared.revision.Revision.{Revision}
use Rattle.jr_rev.specs.Revisions.{is_same}
use Rattle.jr_rev.proofs.Order.{same_revision}
use Rattle.oak_machine.specs.declared.event.Draw.{Draw}
use Rattle.oak_machine.specs.declared.event.Event.{Event}
use Rattle.oak_machine.specs.declared.event.Event.TheVariants as event
use Rattle.oak_machine.specs.declared.event.StepKind.{StepKind}
use Rattle.oak_machine.specs.declared.event.StepKind.TheVariants as kind
use Rattle.oak_machine.specs.History.{Begin, History, Past}
use Rattle.oak_machine.specs.Commits.{draw_of, is_drawn}
use Rattle.oak_machine.specs.Heads.{greatest_time, head_of, last_draw_time}
use Rattle.oak_machine.specs.Laws.{AreOthers, Says, Starts, after, is_event_of, is_revision_of}
use Rattle.oak_machine.specs.Runs.{IsRun, IsRunOf}
use Rattle.oak_port.specs.declared.task.StepOut.{StepOut}
use Rattle.oak_port.specs.Ports.{ActedAlone, AreOfStep, Beside, IsAtRest, IsWait, LastsLess, LastsOn, Makes, ReadsAsDue, Seat, Shown, SplitsAsDue, StaysSo, Steps, Work, is_by_due, is_due}
use Rattle.jr_shared.proofs.Shapes.{none_between, shaped}

-- ---- draws

-- what is drawn in one past is so in another
abbrev Keeps : Past → Past → Type 0
Keeps a w = (r : Revision) (d : Draw) → draw_of a r ≡ Some d → draw_of w r ≡ Some d

drawn_some : (o : Option Draw) → is_some o ≡ true → (d : Draw) × (o ≡ Some d)
drawn_some None h = absurd (false≢true h)
drawn_some (Some d) h = (d, refl)

module _ (clusters : ℕ) (sessions : List ℕ) (begin : Begin) (starts : Starts) (says : Says) where
  abbrev Runs : Past → Type 0
  Runs past = IsRunOf starts says clusters sessions begin past

  -- a draw is later than the last one of its cluster node
  later_draw : (d : Draw) (past : Past) → Runs (event.Draw d ∷ past) → suc (last_draw_time past d.revision.cluster) ≤ d.revision.time
  later_draw d past run =
      let k = d.revision.cluster in
      let at : d.revision.time ≡ max (greatest_time (head_of clusters begin past k)) (last_draw_time past k) + 1 = ap (λ (r : Revision). r.time) run.0.next in
      omega (arith, at)

  -- of the draws of a cluster node none is later than the last
  drawn_by : (past : Past) → Runs past → (r : Revision) → is_drawn past r ≡ true → r.time ≤ last_draw_time past r.cluster
  drawn_by [] run r h = absurd (false≢true h)
  drawn_by (event.Draw d ∷ past) run r h =
      elim (is_same r d.revision) as (λ b. is_same r d.revision ≡ b → is_some (cond b (Some d) (draw_of past r)) ≡ true → r.time ≤ cond (d.revision.cluster == r.cluster) d.revision.time (last_draw_time past r.cluster)) [
        | true ↦ λ same k. last (same_revision r d.revision same)
        | false ↦ λ same k. before (d.revision.cluster == r.cluster) refl (drawn_by past run.1 r k)
      ] refl h
    where
      last : r ≡ d.revision → r.time ≤ cond (d.revision.cluster == r.cluster) d.revision.time (last_draw_time past r.cluster)
      last is = subst (λ (q : Revision). q.time ≤ cond (d.revision.cluster == q.cluster) d.revision.time (last_draw_time past q.cluster)) (sym is)
          (subst (λ b. d.revision.time ≤ cond b d.revision.time (last_draw_time past d.revision.cluster)) (sym (number_itself d.revision.cluster)) (omega arith))

      before : (b : Bool) → (d.revision.cluster == r.cluster) ≡ b → r.time ≤ last_draw_time past r.cluster → r.time ≤ cond b d.revision.time (last_draw_time past r.cluster)
      before true is earlier =
          let later = subst (λ k. suc (last_draw_time past k) ≤ d.revision.time) (same_number d.revision.cluster r.cluster is) (later_draw d past run) in
          omega (arith, earlier, later)
      before false is earlier = earlier
  drawn_by (e ∷ past) run r h = drawn_by past run.1 r h

  keeps_one : (e : Event) (past : Past) → Runs (e ∷ past) → Keeps past (e ∷ past)
  keeps_one (event.Draw d) past run r f h =
      elim (is_same r d.revision) as (λ b. is_same r d.revision ≡ b → cond b (Some d) (draw_of past r) ≡ Some f) [
        | true ↦ λ same.
            let earlier = subst (λ (q : Revision). q.time ≤ last_draw_time past q.cluster) (same_revision r d.revision same) (drawn_by past run.1 r (ap is_some h)) in
            let later = later_draw d past run in
            absurd (omega (arith, earlier, later))
        | false ↦ λ same. h
      ] refl
  keeps_one e past run r f h = h

  -- what is drawn stays drawn
  keeps : (added past : Past) → Runs (added ++ past) → Keeps past (added ++ past)
  keeps [] past run r d h = h
  keeps (e ∷ added) past run r d h = keeps_one e (added ++ past) run r d (keeps added past run.1 r d h)

  -- ---- events of others

  module _ (s : ℕ) where
    -- whose a revision is stays so in each later past
    same_owner : (past a w : Past) → Keeps past a → Keeps past w → (r : Revision) → is_drawn past r ≡ true → is_revision_of w s r ≡ is_revision_of a s r
    same_owner past a w ka kw r drawn =
        let d = drawn_some (draw_of past r) drawn in
        ap (λ (o : Option Draw). option_map_or (λ d. d.session == s) o false) (kw r d.0 d.1 ∙ sym (ka r d.0 d.1))

    never_own : (e : Event) (past a w : Past) → Runs (e ∷ past) → Keeps past a → Keeps past w → is_event_of a s e ≡ false → is_event_of w s e ≡ false
    never_own (event.Commit r) past a w run ka kw h = same_owner past a w ka kw r (first_of_both _ _ run.0.open_.in_flight) ∙ h
    never_own (event.Refuse r item o) past a w run ka kw h = same_owner past a w ka kw r (first_of_both _ _ run.0.open_.in_flight) ∙ h
    never_own e past a w run ka kw h = h

    others_stay : (added past a w : Past) → Runs (added ++ past) → Keeps (added ++ past) a → Keeps (added ++ past) w → list_any (is_event_of a s) added ≡ false → list_any (is_event_of w s) added ≡ false
    others_stay [] past a w run ka kw h = refl
    others_stay (e ∷ added) past a w run ka kw h =
        let parts = or_parts (is_event_of a s e) (list_any (is_event_of a s) added) h in
        let one = keeps_one e (added ++ past) run in
        let ka1 : Keeps (added ++ past) a = λ r d k. ka r d (one r d k) in
        let kw1 : Keeps (added ++ past) w = λ r d k. kw r d (one r d k) in
        ap (λ b. b || list_any (is_event_of w s) added) (never_own e (added ++ past) a w run ka1 kw1 parts.0)
        ∙ others_stay added past a w run.1 ka1 kw1 parts.1

    none_in_both : (test : Event → Bool) (a b : Past) → list_any test a ≡ false → list_any test b ≡ false → list_any test (a ++ b) ≡ false
    none_in_both test [] b h k = k
    none_in_both test (e ∷ a) b h k =
        let parts = or_parts (test e) (list_any test a) h in
        ap (λ c. c || list_any test (a ++ b)) parts.0 ∙ none_in_both test a b parts.1 k

    -- what others added at two times are events of others
    pub others_twice : (later added past : Past) → Runs (later ++ (added ++ past)) → Runs (added ++ past) → AreOthers s added past → AreOthers s later (added ++ past) → AreOthers s (later ++ added) past
    others_twice later added past run early first second =
        subst (λ (w : Past). list_any (is_event_of w s) (later ++ added) ≡ false) (sym (append_assoc later added past))
        (none_in_both (is_event_of (later ++ (added ++ past)) s) later added second
        (others_stay added past (added ++ past) (later ++ (added ++ past)) early (λ r d h. h) (keeps later (added ++ past) run) first))

-- nobody acted at two times
alone_twice : (o : Option (List Seat)) (later added : Past) → IfSome o (λ seats. added ≡ []) → IfSome o (λ seats. later ≡ []) → IfSome o (λ seats. later ++ added ≡ [])
alone_twice None later added first second = tt
alone_twice (Some seats) later added first second = ap (λ (p : Past). p ++ added) second ∙ first

module _ (starts : Starts) (says : Says) (old mid : Shown) (waits : StaysSo starts says old mid) where
  -- the session does what it did
  pub busy_still : (IsAtRest old.work → ⊥) → IsAtRest mid.work → ⊥
  busy_still busy rests = busy (subst IsAtRest waits.work_is rests)

  module _ (new : Shown) (answer : StepOut) (steps : Steps starts says mid new answer) where
    abbrev others : Past
    others = steps.others ++ waits.others

    -- the history before the step
    moment : after steps.others mid.history ≡ after others old.history
    moment = ap (after steps.others) waits.grows.grown ∙ ap (λ (p : Past). record old.history { past = p }) (sym (append_assoc steps.others waits.others old.history.past))

    grown : new.history ≡ after steps.own (after others old.history)
    grown = steps.grows.grown ∙ ap (after steps.own) moment

    makes : Makes (after others old.history) old.session old.work answer steps.own new.work
    makes = subst (λ (w : Work). Makes (after others old.history) old.session w answer steps.own new.work) waits.work_is
        (subst (λ (s : ℕ). Makes (after others old.history) s mid.work answer steps.own new.work) waits.session
        (subst (λ (h : History). Makes h mid.session mid.work answer steps.own new.work) moment steps.makes))

    of_step : AreOfStep (after others old.history) old.session old.work answer steps.own
    of_step = subst (λ (w : Work). AreOfStep (after others old.history) old.session w answer steps.own) waits.work_is
        (subst (λ (s : ℕ). AreOfStep (after others old.history) s mid.work answer steps.own) waits.session
        (subst (λ (h : History). AreOfStep h mid.session mid.work answer steps.own) moment steps.of_step))

    theirs : AreOthers old.session others old.history.past
    theirs = others_twice old.history.clusters old.history.sessions old.history.begin starts says old.session steps.others waits.others old.history.past
        before (subst (IsRun starts says) waits.grows.grown waits.grows.run) waits.grows.theirs
        (subst (λ (s : ℕ). AreOthers s steps.others (waits.others ++ old.history.past)) waits.session
        (subst (λ (h : History). AreOthers mid.session steps.others h.past) waits.grows.grown steps.grows.theirs))
      where
        run_before : (own past : Past) → IsRunOf starts says old.history.clusters old.history.sessions old.history.begin (own ++ past) → IsRunOf starts says old.history.clusters old.history.sessions old.history.begin past
        run_before [] past run = run
        run_before (e ∷ own) past run = run_before own past run.1

        before : IsRunOf starts says old.history.clusters old.history.sessions old.history.begin (steps.others ++ (waits.others ++ old.history.past))
        before = run_before steps.own _ (subst (IsRun starts says) (steps.grows.grown ∙ ap (λ (h : History). after steps.own (after steps.others h)) waits.grows.grown) steps.grows.run)

    -- others acted, and then the session made its step
    pub steps_behind : Steps starts says old new answer
    steps_behind = record {
      others = others;
      own = steps.own;
      grows = record { grown = grown; theirs = theirs; run = steps.grows.run };
      makes = makes;
      of_step = of_step;
      as_due = subst (λ (k : Option StepKind). is_by_due k steps.own ≡ true) (waits.same_due refl) steps.as_due;
      reads_due = λ r is. subst (λ (k : Option StepKind). ReadsAsDue (is_due kind.Read k) answer steps.own) (waits.same_due refl) (steps.reads_due r (waits.work_is ∙ is));
      splits_due = λ p is. subst (λ (k : Option StepKind). SplitsAsDue (is_due kind.Read k) answer steps.own) (waits.same_due refl) (steps.splits_due p (waits.work_is ∙ is));
      session = steps.session ∙ waits.session;
      room = steps.room ∙ waits.room_is;
      beside = steps.beside ∙ waits.beside;
      alone = alone_twice old.beside.seats steps.others waits.others waits.alone (subst (λ (o : Option (List Seat)). IfSome o (λ seats. steps.others ≡ [])) (ap (λ (x : Beside). x.seats) waits.beside) steps.alone);
    }

    -- where the session acted alone, nobody acted between
    none_acted : ActedAlone old new answer → others ≡ []
    none_acted a =
        let past : steps.own ++ (others ++ old.history.past) ≡ a.own ++ old.history.past = ap (λ (h : History). h.past) (sym grown ∙ a.grown) in
        none_between old.session old.history.past _ a.own steps.own others theirs
        (shaped old.history old.session old.work answer a.own new.work a.makes)
        (shaped (after others old.history) old.session old.work answer steps.own new.work makes)
        (append_cancel_right (steps.own ++ others) a.own old.history.past (append_assoc steps.own others old.history.past ∙ past))

    -- what is being done comes nearer to its end, as far as without those who might have acted
    pub lowers_behind : (before between now : ℕ) → LastsOn before between old mid → LastsLess between now mid new answer → LastsLess before now old new answer
    lowers_behind before between now on less a =
        let none = none_acted a in
        let second : steps.others ≡ [] = empty_first steps.others waits.others none in
        let first : waits.others ≡ [] = empty_second steps.others waits.others none in
        let still : mid.history ≡ old.history = waits.grows.grown ∙ ap (λ (p : Past). after p old.history) first in
        let at : after steps.others mid.history ≡ mid.history = ap (λ (p : Past). after p mid.history) second in
        subst (λ (n : ℕ). IsWait answer ⊎ (now < n)) (on still) (less (record {
          own = steps.own;
          grown = steps.grows.grown ∙ ap (after steps.own) at;
          makes = subst (λ (h : History). Makes h mid.session mid.work answer steps.own new.work) at steps.makes;
        }))
