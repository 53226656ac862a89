-- What a command may be answered with for which a commit was drawn.
use Rattle.std.proofs.Common.{◌≡◌, ℕ, Bool, true, false, cond, Option, None, Some, List, [], ◌∷◌, is_some, arith, refl, sym, ap, ◌∙◌, subst}
use Rattle.std.specs.Prelude.{◌==◌, ◌+◌, ◌||◌, Result, Ok, Err, option_map}
use Rattle.std.specs.Option.{option_map_or, unwrap_or}
use Rattle.std.proofs.lemmas.Bool.{false≢true}
use Rattle.std.proofs.lemmas.Bool.Decides.{nat_tests}
use Rattle.std.proofs.lemmas.Option.{none-some}
use Rattle.jr_rev.specs.declared.revision.Revision.{Revision}
use Rattle.jr_tree.specs.declared.edit.Write.{Write}
use Rattle.jr_tree.specs.declared.shared.Refusal.{Refusal}
use Rattle.oak_machine.specs.declared.event.Draw.{Draw}
use Rattle.oak_machine.specs.declared.event.Event.{Event}
use Rattle.oak_machine.specs.declared.event.Event.TheVariants as event
use Rattle.oak_machine.specs.History.{Begin, History, Past}
use Rattle.oak_machine.specs.Commits.{is_committed, refusal_of, tree_at}
use Rattle.oak_machine.specs.Runs.{IsRunOf}
use Rattle.oak_machine.specs.Sessions.{drawn_among, drawn_since, is_attached, next_index, since}
use Rattle.core_heads.proofs.Passing.{next_more}
use Rattle.jcr_trans.specs.Texts.{answer_text}
use Rattle.jcr_trans.specs.declared.command.Command.{Command}
use Rattle.jcr_trans.specs.declared.command.Command.TheVariants as command
use Rattle.jcr_view.specs.Outcomes.{is_viewed}
use Rattle.jcr_law.specs.declared.law.JcrLaw.{JcrLaw}
use Rattle.jcr_law.specs.AfterDraw.{AfterDraw, accepted, clash_told, stop_told, unmade}
use Rattle.jcr_law.specs.Built.{Asked, Allowed, Unsupported, asked}
use Rattle.jcr_law.specs.Commits.{committed_answer, edit_due}
use Rattle.jcr_law.specs.Lasting.{says_of, starts_of}
use Rattle.jcr_law.specs.Law.{MaySay, SaysBy, asked_by, barred, stopped, memory, half_detached, viewed, head, queried, refreshed, refused_edit, unwritten, committed, clashed, observing, unobserved, uncursored, observed, told, learned, swept, kept, uncounted, attached, released, unattached, unreleased, detached, split, unsplit, collected, stopping, unstopped, restopped, recovered, unrecovered}
use Rattle.jcr_law.specs.Since.{before_turn, draw_among, draw_since, is_beginning}
use Rattle.jcr_law.specs.State.{Call, command_at}

-- ---- the command for which a commit was drawn

-- the next command of s is one that commits, which s may run
pub record IsDrawnFor (law : JcrLaw) (past : Past) (s : ℕ) (m : Command) : Type 0 where
  pub call : Call
  pub writes : List Write
  pub next : command_at law s (next_index past s) ≡ Some m
  pub allowed : asked (is_attached (before_turn past s) s) m ≡ Allowed m
  pub due : edit_due call m ≡ Some (Ok writes)

-- the index of the next reply, behind an event that is none
index_same : (s : ℕ) (e : Event) (past : Past) → is_beginning s e ≡ false → next_index (e ∷ past) s ≡ next_index past s
index_same s (event.Said t i text) past h = next_more s (event.Said t i text) past ∙ (ap (λ (b : Bool). next_index past s + cond b 1 0) (first (t == s) h) ∙ plus (next_index past s))
  where
    first : (b : Bool) → (b || false) ≡ false → b ≡ false
    first true k = k
    first false k = refl

    plus : (n : ℕ) → n + 0 ≡ n
    plus n = omega arith
index_same s e past h = next_more s e past ∙ plus (next_index past s)
  where
    plus : (n : ℕ) → n + 0 ≡ n
    plus n = omega arith

module _ (law : JcrLaw) (clusters : ℕ) (sessions : List ℕ) (begin : Begin) (s : ℕ) where
  same_session : (m : ℕ) → (m == s) ≡ true → m ≡ s
  same_session m h = grind (arith, nat_tests)

  -- behind an event that begins no command
  behind : (e : Event) (past : Past) → is_beginning s e ≡ false → (m : Command) × IsDrawnFor law past s m → (m : Command) × IsDrawnFor law (e ∷ past) s m
  behind e past h (m, is) = (
    m,
    record {
      call = is.call;
      writes = is.writes;
      next = ap (command_at law s) (index_same s e past h) ∙ is.next;
      allowed = ap (λ (b : Bool). asked (is_attached (cond b (e ∷ past) (before_turn past s)) s) m) h ∙ is.allowed;
      due = is.due;
    },
  )

  own : (e : Draw) (past : Past) → IsRunOf (starts_of law) (says_of law) clusters sessions begin (event.Draw e ∷ past) → e.session ≡ s → (m : Command) × IsDrawnFor law past s m
  own e past run same =
      let may = run.0.lawful in (
        may.command,
        record {
          call = may.call;
          writes = e.edit.writes;
          next = ap (λ (t : ℕ). command_at law t (next_index past t)) (sym same) ∙ may.next.next;
          allowed = ap (λ (t : ℕ). asked (is_attached (before_turn past t) t) may.command) (sym same) ∙ may.allowed;
          due = may.due;
        },
      )

  pub drawn_for : (past : Past) (d : Draw) → IsRunOf (starts_of law) (says_of law) clusters sessions begin past → draw_since past s ≡ Some d → (m : Command) × IsDrawnFor law past s m
  drawn_for [] d run is = cc
  drawn_for (event.Draw e ∷ past) d run is =
      behind (event.Draw e) past refl (elim (e.session == s) as (λ b. (e.session == s) ≡ b → cond b (Some e) (draw_among (since past s) s) ≡ Some d → (m : Command) × IsDrawnFor law past s m) [
        | true ↦ λ at same. own e past run (same_session e.session at)
        | false ↦ λ other same. drawn_for past d run.1 same
      ] refl is)
  drawn_for (e ∷ past) d run is =
      elim (is_beginning s e) as (λ b. is_beginning s e ≡ b → draw_among (cond b [] (e ∷ since past s)) s ≡ Some d → (m : Command) × IsDrawnFor law (e ∷ past) s m) [
        | true ↦ λ begins none. cc
        | false ↦ λ none same. behind e past none (drawn_for past d run.1 same)
      ] refl is

-- the revision of the draw
pub drawn_among_is : (past : Past) (s : ℕ) → drawn_among past s ≡ option_map (λ d. d.revision) (draw_among past s)
drawn_among_is [] s = refl
drawn_among_is (event.Draw d ∷ past) s = by (d.session == s) (drawn_among_is past s)
  where
    by : (b : Bool) → drawn_among past s ≡ option_map (λ d. d.revision) (draw_among past s)
        → cond b (Some d.revision) (drawn_among past s) ≡ option_map (λ d. d.revision) (cond b (Some d) (draw_among past s))
    by true rest = refl
    by false rest = rest
drawn_among_is (e ∷ past) s = drawn_among_is past s

-- ---- a command that commits is none of the others

-- what commits is no command of the view
due_unviewed : (c : Call) (m : Command) (x : Result (List Write) Refusal) → edit_due c m ≡ Some x → is_viewed m ≡ false
due_unviewed c command.Save x h = refl
due_unviewed c (command.Lock p deep) x h = refl
due_unviewed c (command.Unlock p) x h = refl
due_unviewed c (command.Checkin p) x h = refl
due_unviewed c (command.Checkout p) x h = refl
due_unviewed c (command.Label p v n take) x h = refl
due_unviewed c (command.Unlabel p n) x h = refl
due_unviewed c (command.Restore p v) x h = refl
due_unviewed c m x h = absurd (none-some x h)

abbrev run_by : Asked → Option Command
run_by (Allowed m) = Some m
run_by (Unsupported m) = None

module _ (law : JcrLaw) (h : History) (s : ℕ) (m : Command) (d : Draw) (draw : draw_since h.past s ≡ Some d) (c : Call) (ws : List Write) (due : edit_due c m ≡ Some (Ok ws)) where
  drawn : drawn_since h.past s ≡ Some d.revision
  drawn = drawn_among_is (since h.past s) s ∙ ap (option_map (λ (x : Draw). x.revision)) draw

  same_draw : (e : Draw) → draw_since h.past s ≡ Some e → e ≡ d
  same_draw e is = ap (λ (o : Option Draw). unwrap_or o e) (sym is ∙ draw)

  same_drawn : (r : Revision) → drawn_since h.past s ≡ Some r → r ≡ d.revision
  same_drawn r is = ap (λ (o : Option Revision). unwrap_or o r) (sym is ∙ drawn)

  undrawn : {A : Type 0} → drawn_since h.past s ≡ None → A
  undrawn none = absurd (false≢true (ap is_some (sym none ∙ drawn)))

  same_command : (n : Command) → Allowed n ≡ Allowed m → n ≡ m
  same_command n e = ap (λ (a : Asked). unwrap_or (run_by a) n) e

  -- another command commits nothing
  other : {A : Type 0} (n : Command) → Allowed n ≡ Allowed m → edit_due c n ≡ None → A
  other n e none = absurd (false≢true (ap is_some (sym none ∙ (ap (edit_due c) (same_command n e) ∙ due))))

  answers : (a : Asked) (text : List ℕ) → a ≡ Allowed m → MaySay law h s a text → AfterDraw law h s m d text
  answers _ _ e (barred n unmoved) = absurd (false≢true (ap (λ (a : Asked). is_some (run_by a)) e))
  answers _ _ e (stopped a k p at is) = stop_told k p at is
  answers _ _ e (memory a idle none unmoved unpinned) = unmade (ap (λ (o : Option Revision). option_map_or (is_committed h.past) o false) (sym drawn) ∙ none)
  answers _ _ e (half_detached v idle moved none) = other command.Detach e refl
  answers _ _ e (viewed n x is call unmoved) = absurd (false≢true (sym (due_unviewed c n (Ok ws) (ap (edit_due c) (same_command n e) ∙ due)) ∙ is))
  answers _ _ e (head v is unmoved) = other command.Head e refl
  answers _ _ e (queried text vars x reply call is unmoved) = other (command.Query text vars) e refl
  answers _ _ e (refreshed keep v is) = other (command.Refresh keep) e refl
  answers _ _ e (refused_edit n x y r none call is cause unmoved) = undrawn none
  answers _ _ e (unwritten n x none call is unmoved) = undrawn none
  answers _ _ e (committed n x y v is begun ended made moved seen call) =
      subst (λ (z : Draw). AfterDraw law h s m d (answer_text (committed_answer x (tree_at h.begin h.past z.base) z.revision n))) (sym (same_draw y is))
      (subst (λ (q : Command). AfterDraw law h s m d (answer_text (committed_answer x (tree_at h.begin h.past d.base) d.revision q))) (sym (same_command n e))
      (accepted x (subst (λ (z : Draw). is_committed h.past z.revision ≡ true) (same_draw y is) made) call))
  answers _ _ e (clashed n r o item is ended refused unmoved) =
      clash_told item o (subst (λ (q : Revision). refusal_of h.past q ≡ Some (item, o)) (same_drawn r is) refused)
  answers _ _ e (observing p deep mask within is unmoved) = other (command.Observe p deep mask) e refl
  answers _ _ e (unobserved p deep mask r is unmoved) = other (command.Observe p deep mask) e refl
  answers _ _ e (uncursored x call none unmoved) = other command.Events e refl
  answers _ _ e (observed x call is unmoved) = other command.Events e refl
  answers _ _ e (told k r at is most unmoved) = other command.BackWrite e refl
  answers _ _ e (learned k v at is knows unmoved) = other command.BackRead e refl
  answers _ _ e (swept k r at is most unmoved) = other command.Sweep e refl
  answers _ _ e (kept x call is unmoved) = other command.Checkpoint e refl
  answers _ _ e (uncounted x r call is unmoved) = other command.Checkpoint e refl
  answers _ _ e (attached id v is base) = other (command.Attach id) e refl
  answers _ _ e (released id is unmoved) = other (command.Release id) e refl
  answers _ _ e (unattached id is unmoved) = other (command.Attach id) e refl
  answers _ _ e (unreleased id is unmoved) = other (command.Release id) e refl
  answers _ _ e (detached v is) = other command.Detach e refl
  answers _ _ e (split p x is unmoved) = other (command.Split p) e refl
  answers _ _ e (unsplit p x r call is unmoved) = other (command.Split p) e refl
  answers _ _ e (collected x is unmoved) = other command.Collect e refl
  answers _ _ e (stopping k is unmoved) = other (command.Stop (Some k)) e refl
  answers _ _ e (unstopped k at unmoved) = other (command.Stop (Some k)) e refl
  answers _ _ e (restopped k is unmoved) = other (command.Stop (Some k)) e refl
  answers _ _ e (recovered k r is unmoved) = other (command.Recover (Some k)) e refl
  answers _ _ e (unrecovered k is unmoved) = other (command.Recover (Some k)) e refl

-- a reply that is next, of a command for which a commit was drawn
pub answered_after : (law : JcrLaw) (h : History) (s : ℕ) (m : Command) (d : Draw) (text : List ℕ)
    → IsRunOf (starts_of law) (says_of law) h.clusters h.sessions h.begin h.past → draw_since h.past s ≡ Some d
    → command_at law s (next_index h.past s) ≡ Some m → SaysBy law h s (next_index h.past s) text → AfterDraw law h s m d text
answered_after law h s m d text run draw is (n, at, may) =
    let for = drawn_for law h.clusters h.sessions h.begin s h.past d run draw in
    let same : n ≡ m = ap (λ (o : Option Command). unwrap_or o n) (sym at ∙ is) in
    let due : for.0 ≡ m = ap (λ (o : Option Command). unwrap_or o for.0) (sym for.1.next ∙ is) in
    answers law h s m d draw for.1.call for.1.writes (subst (λ (q : Command). edit_due for.1.call q ≡ Some (Ok for.1.writes)) due for.1.due)
    (asked_by h s m) text (subst (λ (q : Command). asked_by h s q ≡ Allowed q) due for.1.allowed)
    (subst (λ (q : Command). MaySay law h s (asked_by h s q) text) same may)
