-- Each reply has its reason.
use Rattle.std.proofs.Common.{◌≡◌, ◌≢◌, ◌⊎◌, inl, inr, ℕ, Bool, true, false, Option, None, Some, List, [], ◌∷◌, ◌++◌, cond, not, ◌&&◌, is_some, refl, sym, ap, ◌∙◌, subst}
use Rattle.std.specs.Prelude.{Result, Ok, Err, option_map}
use Rattle.std.specs.Option.{option_map_or, unwrap_or}
use Rattle.std.proofs.lemmas.Bool.{false≢true}
use Rattle.std.proofs.lemmas.Option.{none-some, same_Some}
use Rattle.jr_rev.specs.declared.revision.Revision.{Revision}
use Rattle.jr_tree.specs.declared.edit.Edit.{Edit}
use Rattle.jr_tree.specs.declared.edit.Write.{Write}
use Rattle.jr_tree.specs.declared.shared.Refusal.{Refusal}
use Rattle.jr_items.specs.Refusals.{out_of_memory}
use Rattle.oak_clash.specs.declared.mark.MarkAt.{MarkAt}
use Rattle.oak_machine.specs.declared.event.Draw.{Draw}
use Rattle.oak_machine.specs.declared.event.Event.TheVariants as event
use Rattle.oak_machine.specs.History.{History, Past}
use Rattle.oak_machine.specs.Commits.{is_committed, tree_at}
use Rattle.oak_machine.specs.Runs.{IsRunOf}
use Rattle.oak_machine.specs.Sessions.{drawn_since, is_attached, next_index}
use Rattle.jcr_plan.specs.Plans.{PlanOk}
use Rattle.core_heads.specs.Sound.{IsNodesRun}
use Rattle.core_heads.proofs.Runs.{earlier_run}
use Rattle.core_calls.proofs.Draws.{draw_known, drawn_is}
use Rattle.jcr_trans.specs.Texts.{answer_text}
use Rattle.jcr_trans.specs.declared.command.Command.{Command}
use Rattle.jcr_trans.specs.declared.command.Command.TheVariants as command
use Rattle.jcr_view.specs.Outcomes.{is_viewed}
use Rattle.jcr_law.specs.declared.law.JcrLaw.{JcrLaw}
use Rattle.jcr_law.specs.AfterDraw.{AfterDraw, accepted, clash_told, stop_told, unmade}
use Rattle.jcr_law.specs.Built.{Asked, Allowed, Unsupported, asked, is_built, is_forbidden}
use Rattle.jcr_law.specs.Commits.{committed_answer, edit_due, refusal_of_due, unwritten_answer}
use Rattle.jcr_law.specs.Lasting.{says_of, starts_of}
use Rattle.jcr_law.specs.Law.{IsUnmoved, MaySay, MayStart, SaysBy, asked_by, no_text, barred, stopped, memory, half_detached, viewed, head, queried, refreshed, refused_edit, unwritten, committed, clashed, observing, unobserved, uncursored, observed, told, learned, swept, kept, uncounted, attached, released, unattached, unreleased, detached, split, unsplit, collected, stopping, unstopped, restopped, recovered, unrecovered}
use Rattle.jcr_law.specs.Since.{before_turn, draw_since}
use Rattle.jcr_law.specs.State.{Call, call_of, command_at}
use Rattle.jcr_law.proofs.Answered.{answered_after}
use Rattle.core_obeys.specs.Answering.{AnswersThroughout, HasReason, NameOthers, MovedFor, refreshing, committing, attaching, detaching, half_detaching, halting, Accepts, AnswersDraw, accepting, clashing, hindered, AnswersEdit, refusing, unplanned, unwriting, undone, IsHindered, lacking, halted}
use Rattle.core_obeys.specs.NoPlans.{NoPlan}
use Rattle.core_clash.specs.Unclashing.{IsUnclashing}
use Rattle.core_obeys.proofs.Planned.{NoneDangles, due_why, never_both}
use Rattle.core_obeys.proofs.Unclashing.{cause_of, named_others, unrefused}

-- ---- what was drawn

module _ (law : JcrLaw) (h : History) (run : IsNodesRun (starts_of law) (says_of law) h) (others : NameOthers h.past) (s : ℕ) (m : Command) (d : Draw) (draw : draw_since h.past s ≡ Some d) where
  of_session : d.session ≡ s
  of_session = (draw_known (starts_of law) (says_of law) h.clusters h.sessions run.nodes h.begin s d h.past run.run draw).0

  drawn : drawn_since h.past s ≡ Some d.revision
  drawn = drawn_is h.past s ∙ ap (option_map (λ (x : Draw). x.revision)) draw

  -- want of memory, where nothing was committed
  unmade_hinders : is_committed h.past d.revision ≡ false → IsHindered h s (no_text out_of_memory)
  unmade_hinders none = lacking (ap (λ (o : Option Revision). option_map_or (is_committed h.past) o false) drawn ∙ none)

  accepts : (c : Call) → is_committed h.past d.revision ≡ true → call_of law h.begin h.past s ≡ Some c
      → Accepts law h m d (answer_text (committed_answer c (tree_at h.begin h.past d.base) d.revision m))
  accepts c made call = record {
    made = made;
    call = c;
    called = subst (λ (t : ℕ). call_of law h.begin h.past t ≡ Some c) (sym of_session) call;
    accepted = refl;
  }

  hindered_there : (text : List ℕ) → IsHindered h s text → AnswersDraw law h m d text
  hindered_there text is = hindered text (subst (λ (t : ℕ). IsHindered h t text) (sym of_session) is)

  answers_draw : (text : List ℕ) → AfterDraw law h s m d text → AnswersDraw law h m d text
  answers_draw _ (accepted c made call) = accepting _ (accepts c made call)
  answers_draw _ (clash_told item o is) = clashing item o (cause_of h.clusters h.sessions run.nodes h.begin (starts_of law) (says_of law) h.past d.revision item o run.run is (others d.revision item o is))
  answers_draw _ (stop_told k p at is) = hindered_there _ (halted k p at is)
  answers_draw _ (unmade none) = hindered_there _ (unmade_hinders none)

  completes : IsUnclashing h.past d.revision → (text : List ℕ) → AfterDraw law h s m d text → Accepts law h m d text ⊎ IsHindered h s text
  completes apart _ (accepted c made call) = inl (accepts c made call)
  completes apart _ (clash_told item o is) =
      absurd (none-some (item, o) (sym (unrefused h.clusters h.sessions run.nodes h.begin (starts_of law) (says_of law) h.past d.revision run.run others apart) ∙ is))
  completes apart _ (stop_told k p at is) = inr (halted k p at is)
  completes apart _ (unmade none) = inr (unmade_hinders none)

-- ---- where nothing was drawn

-- what commits is no command of the view
due_unviewed : (c : Call) (m : Command) → is_some (edit_due c m) ≡ true → is_viewed m ≡ false
due_unviewed c command.Save h = refl
due_unviewed c (command.Lock p deep) h = refl
due_unviewed c (command.Unlock p) h = refl
due_unviewed c (command.Checkin p) h = refl
due_unviewed c (command.Checkout p) h = refl
due_unviewed c (command.Label p v n take) h = refl
due_unviewed c (command.Unlabel p n) h = refl
due_unviewed c (command.Restore p v) h = refl
due_unviewed c m h = absurd (false≢true h)

abbrev run_by : Asked → Option Command
run_by (Allowed m) = Some m
run_by (Unsupported m) = None

module _ (law : JcrLaw) (h : History) (s : ℕ) (m : Command) (c : Call) (none_drawn : drawn_since h.past s ≡ None) (called : call_of law h.begin h.past s ≡ Some c) (commits : is_some (edit_due c m) ≡ true) where
  same_command : (n : Command) → Allowed n ≡ Allowed m → n ≡ m
  same_command n e = ap (λ (a : Asked). unwrap_or (run_by a) n) e

  same_call : (x : Call) → call_of law h.begin h.past s ≡ Some x → x ≡ c
  same_call x is = same_Some x c (sym is ∙ called)

  -- another command commits nothing
  other : {A : Type 0} (n : Command) → Allowed n ≡ Allowed m → edit_due c n ≡ None → A
  other n e none = absurd (false≢true (sym (ap is_some none) ∙ (ap (λ (x : Command). is_some (edit_due c x)) (same_command n e) ∙ commits)))

  -- its edit, or the refusal of it
  due_here : (n : Command) (x : Call) (y : Result (List Write) Refusal) → Allowed n ≡ Allowed m → call_of law h.begin h.past s ≡ Some x → edit_due x n ≡ Some y → edit_due c m ≡ Some y
  due_here n x y e call is =
      subst (λ (z : Call). edit_due z m ≡ Some y) (same_call x call) (subst (λ (q : Command). edit_due x q ≡ Some y) (same_command n e) is)

  refused_due : (y : Result (List Write) Refusal) (r : Refusal) → edit_due c m ≡ Some y → refusal_of_due c y ≡ Some r → AnswersEdit h s m c (no_text r)
  refused_due (Ok ws) r is cause = unplanned ws r is (due_why c ws r cause)
  refused_due (Err x) r is cause = subst (λ (z : Refusal). AnswersEdit h s m c (no_text z)) (same_Some x r cause) (refusing x is)

  pub answers_edit : (a : Asked) (text : List ℕ) → a ≡ Allowed m → MaySay law h s a text → AnswersEdit h s m c text
  answers_edit _ _ e (barred n unmoved) = absurd (false≢true (ap (λ (a : Asked). is_some (run_by a)) e))
  answers_edit _ _ e (stopped a k p at is) = undone _ (halted k p at is)
  answers_edit _ _ e (memory a idle none unmoved unpinned) = undone _ (lacking none)
  answers_edit _ _ e (half_detached v idle moved none) = other command.Detach e refl
  answers_edit _ _ e (viewed n x is call unmoved) = absurd (false≢true (sym (due_unviewed c m commits) ∙ (ap is_viewed (sym (same_command n e)) ∙ is)))
  answers_edit _ _ e (head v is unmoved) = other command.Head e refl
  answers_edit _ _ e (queried text vars x reply call is unmoved) = other (command.Query text vars) e refl
  answers_edit _ _ e (refreshed keep v is) = other (command.Refresh keep) e refl
  answers_edit _ _ e (refused_edit n x y r none call is cause unmoved) =
      refused_due y r (due_here n x y e call is) (subst (λ (z : Call). refusal_of_due z y ≡ Some r) (same_call x call) cause)
  answers_edit _ _ e (unwritten n x none call is unmoved) =
      subst (λ (z : Call). AnswersEdit h s m c (answer_text (unwritten_answer z n))) (sym (same_call x call))
      (subst (λ (q : Command). AnswersEdit h s m c (answer_text (unwritten_answer c q))) (sym (same_command n e))
      (unwriting (due_here n x (Ok []) e call is)))
  answers_edit _ _ e (committed n x y v is begun ended made moved seen call) = absurd (none-some y.revision (sym none_drawn ∙ (drawn_is h.past s ∙ ap (option_map (λ (z : Draw). z.revision)) is)))
  answers_edit _ _ e (clashed n r o item is ended refused unmoved) = absurd (none-some r (sym none_drawn ∙ is))
  answers_edit _ _ e (observing p deep mask within is unmoved) = other (command.Observe p deep mask) e refl
  answers_edit _ _ e (unobserved p deep mask r is unmoved) = other (command.Observe p deep mask) e refl
  answers_edit _ _ e (uncursored x call none unmoved) = other command.Events e refl
  answers_edit _ _ e (observed x call is unmoved) = other command.Events e refl
  answers_edit _ _ e (told k r at is most unmoved) = other command.BackWrite e refl
  answers_edit _ _ e (learned k v at is knows unmoved) = other command.BackRead e refl
  answers_edit _ _ e (swept k r at is most unmoved) = other command.Sweep e refl
  answers_edit _ _ e (kept x call is unmoved) = other command.Checkpoint e refl
  answers_edit _ _ e (uncounted x r call is unmoved) = other command.Checkpoint e refl
  answers_edit _ _ e (attached id v is base) = other (command.Attach id) e refl
  answers_edit _ _ e (released id is unmoved) = other (command.Release id) e refl
  answers_edit _ _ e (unattached id is unmoved) = other (command.Attach id) e refl
  answers_edit _ _ e (unreleased id is unmoved) = other (command.Release id) e refl
  answers_edit _ _ e (detached v is) = other command.Detach e refl
  answers_edit _ _ e (split p x is unmoved) = other (command.Split p) e refl
  answers_edit _ _ e (unsplit p x r call is unmoved) = other (command.Split p) e refl
  answers_edit _ _ e (collected x is unmoved) = other command.Collect e refl
  answers_edit _ _ e (stopping k is unmoved) = other (command.Stop (Some k)) e refl
  answers_edit _ _ e (unstopped k at unmoved) = other (command.Stop (Some k)) e refl
  answers_edit _ _ e (restopped k is unmoved) = other (command.Stop (Some k)) e refl
  answers_edit _ _ e (recovered k r is unmoved) = other (command.Recover (Some k)) e refl
  answers_edit _ _ e (unrecovered k is unmoved) = other (command.Recover (Some k)) e refl

same_writes : (a b : List Write) → ◌≡◌ {A = Option (Result (List Write) Refusal)} (Some (Ok a)) (Some (Ok b)) → a ≡ b
same_writes a b e = ap (λ (o : Option (Result (List Write) Refusal)). elim o [ Some x ↦ elim x [ Ok ws ↦ ws | Err r ↦ a ] | None ↦ a ]) e

-- an edit that may start isn't refused
hinders : (none_dangles : NoneDangles) (h : History) (s : ℕ) (m : Command) (c : Call) (ws : List Write) (marks : List MarkAt) → edit_due c m ≡ Some (Ok ws) → ws ≢ [] → PlanOk c.types c.base c.state.tokens ws marks
    → (text : List ℕ) → AnswersEdit h s m c text → IsHindered h s text
hinders none_dangles h s m c ws marks due some plan _ (refusing r is) = cc
hinders none_dangles h s m c ws marks due some plan _ (unplanned written r is why) =
    never_both none_dangles c.types c.base c.state.tokens ws marks r plan (subst (λ (xs : List Write). NoPlan c.types c.base c.state.tokens xs r) (same_writes written ws (sym is ∙ due)) why)
hinders none_dangles h s m c ws marks due some plan _ (unwriting is) = absurd (some (same_writes ws [] (sym due ∙ is)))
hinders none_dangles h s m c ws marks due some plan text (undone _ is) = is

-- ---- where the base moved

-- a command that may be run is asked for as itself
asked_itself : (b : Bool) (m n : Command) → asked b m ≡ Allowed n → n ≡ m
asked_itself b m n e = by (is_built m && not (is_forbidden b m)) e
  where
    by : (may : Bool) → cond may (Allowed m) (Unsupported m) ≡ Allowed n → n ≡ m
    by true e = sym (ap (λ (a : Asked). unwrap_or (run_by a) m) e)
    by false e = absurd (false≢true (ap (λ (a : Asked). is_some (run_by a)) e))

module _ (law : JcrLaw) (h : History) (run : IsNodesRun (starts_of law) (says_of law) h) (s : ℕ) (m : Command) where
  itself : (n : Command) → asked_by h s m ≡ Allowed n → n ≡ m
  itself n e = asked_itself (is_attached (before_turn h.past s) s) m n e

  -- it moved for the command that is asked for
  for_it : (n : Command) (text : List ℕ) → asked_by h s m ≡ Allowed n → MovedFor law h s n text → IsUnmoved h s ⊎ MovedFor law h s m text
  for_it n text e is = inr (subst (λ (q : Command). MovedFor law h s q text) (itself n e) is)

  of_draw : (d : Draw) → draw_since h.past s ≡ Some d → d.session ≡ s
  of_draw d draw = (draw_known (starts_of law) (says_of law) h.clusters h.sessions run.nodes h.begin s d h.past run.run draw).0

  moved_for : (a : Asked) (text : List ℕ) → asked_by h s m ≡ a → MaySay law h s a text → IsUnmoved h s ⊎ MovedFor law h s m text
  moved_for _ _ e (barred n unmoved) = inl unmoved
  moved_for _ _ e (stopped a k p at is) = inr (halting m k p at is)
  moved_for _ _ e (memory a idle none unmoved unpinned) = inl unmoved
  moved_for _ _ e (half_detached v idle moved none) = for_it command.Detach _ e (half_detaching v moved none)
  moved_for _ _ e (viewed n x is call unmoved) = inl unmoved
  moved_for _ _ e (head v is unmoved) = inl unmoved
  moved_for _ _ e (queried text vars x reply call is unmoved) = inl unmoved
  moved_for _ _ e (refreshed keep v is) = for_it (command.Refresh keep) _ e (refreshing keep v is)
  moved_for _ _ e (refused_edit n x y r none call is cause unmoved) = inl unmoved
  moved_for _ _ e (unwritten n x none call is unmoved) = inl unmoved
  moved_for _ _ e (committed n x y v is begun ended made moved seen call) =
      for_it n _ e (committing n y v _ is begun moved seen
      (record {
        made = made;
        call = x;
        called = subst (λ (t : ℕ). call_of law h.begin h.past t ≡ Some x) (sym (of_draw y is)) call;
        accepted = refl;
      }))
  moved_for _ _ e (clashed n r o item is ended refused unmoved) = inl unmoved
  moved_for _ _ e (observing p deep mask within is unmoved) = inl unmoved
  moved_for _ _ e (unobserved p deep mask r is unmoved) = inl unmoved
  moved_for _ _ e (uncursored x call none unmoved) = inl unmoved
  moved_for _ _ e (observed x call is unmoved) = inl unmoved
  moved_for _ _ e (told k r at is most unmoved) = inl unmoved
  moved_for _ _ e (learned k v at is knows unmoved) = inl unmoved
  moved_for _ _ e (swept k r at is most unmoved) = inl unmoved
  moved_for _ _ e (kept x call is unmoved) = inl unmoved
  moved_for _ _ e (uncounted x r call is unmoved) = inl unmoved
  moved_for _ _ e (attached id v is base) = for_it (command.Attach id) _ e (attaching id v is base)
  moved_for _ _ e (released id is unmoved) = inl unmoved
  moved_for _ _ e (unattached id is unmoved) = inl unmoved
  moved_for _ _ e (unreleased id is unmoved) = inl unmoved
  moved_for _ _ e (detached v is) = for_it command.Detach _ e (detaching v is)
  moved_for _ _ e (split p x is unmoved) = inl unmoved
  moved_for _ _ e (unsplit p x r call is unmoved) = inl unmoved
  moved_for _ _ e (collected x is unmoved) = inl unmoved
  moved_for _ _ e (stopping k is unmoved) = inl unmoved
  moved_for _ _ e (unstopped k at unmoved) = inl unmoved
  moved_for _ _ e (restopped k is unmoved) = inl unmoved
  moved_for _ _ e (recovered k r is unmoved) = inl unmoved
  moved_for _ _ e (unrecovered k is unmoved) = inl unmoved

-- ---- each reply

module _ (none_dangles : NoneDangles) (law : JcrLaw) (h : History) (run : IsNodesRun (starts_of law) (says_of law) h) (others : NameOthers h.past) (s i : ℕ) (text : List ℕ) (place : i ≡ next_index h.past s) where
  has_reason : SaysBy law h s i text → HasReason law h s i text
  has_reason (m, at, may) = record {
    place = place;
    command = m;
    next = at;
    cause = may;
    still = moved_for law h run s m (asked_by h s m) text refl may;
    drawn = λ d draw. answers_draw law h run others s m d draw text (after d draw);
    undrawn = λ c none call allowed commits. answers_edit law h s m c (drawn_is h.past s ∙ ap (option_map (λ (x : Draw). x.revision)) none) call commits (asked_by h s m) text allowed may;
    complete = λ d draw apart. completes law h run others s m d draw apart text (after d draw);
    startable = λ edit marks starts. hindered_start edit marks starts;
  }
    where
      now : command_at law s (next_index h.past s) ≡ Some m
      now = ap (command_at law s) (sym place) ∙ at

      after : (d : Draw) → draw_since h.past s ≡ Some d → AfterDraw law h s m d text
      after d draw = answered_after law h s m d text run.run draw now (m, now, may)

      hindered_start : (edit : Edit) (marks : List MarkAt) → MayStart law h s edit marks → IsHindered h s text
      hindered_start edit marks start =
          let same : m ≡ start.command = same_Some m start.command (sym now ∙ start.next.next) in
          hinders none_dangles h s start.command start.call edit.writes marks start.due start.some start.plan text
          (answers_edit law h s start.command start.call start.first start.next.call (ap is_some start.due) (asked_by h s start.command) text start.allowed
          (subst (λ (q : Command). MaySay law h s (asked_by h s q) text) same may))

pub each_has_reason : NoneDangles → (law : JcrLaw) (h : History) → IsNodesRun (starts_of law) (says_of law) h → NameOthers h.past → AnswersThroughout law h
each_has_reason none_dangles law h is others later past s i text when =
    let whole : IsRunOf (starts_of law) (says_of law) h.clusters h.sessions h.begin (later ++ event.Said s i text ∷ past) =
    subst (λ (p : Past). IsRunOf (starts_of law) (says_of law) h.clusters h.sessions h.begin p) (sym when) is.run in
    let said : IsRunOf (starts_of law) (says_of law) h.clusters h.sessions h.begin (event.Said s i text ∷ past) =
    earlier_run h.clusters h.sessions is.nodes h.begin (starts_of law) (says_of law) later (event.Said s i text ∷ past) whole in
    let named : NameOthers (event.Said s i text ∷ past) =
    named_others h.clusters h.sessions is.nodes h.begin (starts_of law) (says_of law) later (event.Said s i text ∷ past) whole (subst NameOthers (sym when) others) in
    has_reason none_dangles law (record h { past = past }) (record { nodes = is.nodes; run = said.1 }) named s i text said.0.0 said.0.1
