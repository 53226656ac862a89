-- The law's causes of a reply are those by commands.
use Rattle.std.proofs.Common.{◌≡◌, ◌≢◌, ◌↔◌, IsTrue, inl, inr, ℕ, Bool, true, false, None, Some, List, [], ◌∷◌, refl, sym, ap, subst, ◌∙◌}
use Rattle.std.specs.Prelude.{Contains, option_and_then, option_map, slice_get, Result, Ok, Err}
use Rattle.std.proofs.lemmas.Bool.{and_parts, false≢true, not-true}
use Rattle.std.proofs.lemmas.Option.{none-some, same_Some}
use Rattle.basics.proofs.Options.{none_tested, some_of}
use Rattle.jr_path.specs.Lists.{Text}
use Rattle.jr_items.specs.Refusals.{out_of_memory}
use Rattle.jr_tree.specs.declared.edit.Write.{Write}
use Rattle.jr_tree.specs.declared.shared.Refusal.{Refusal}
use Rattle.oak_machine.specs.declared.event.Event.{Event}
use Rattle.oak_machine.specs.declared.event.Event.TheVariants as event
use Rattle.oak_machine.specs.History.{History}
use Rattle.oak_machine.specs.Sessions.{drawn_since, refreshed_since, since}
use Rattle.jcr_trans.specs.declared.command.Command.{Command}
use Rattle.jcr_trans.specs.declared.command.Command.TheVariants as command
use Rattle.jcr_law.specs.declared.law.JcrLaw.{JcrLaw}
use Rattle.jcr_law.specs.Built.{Asked, Allowed, Unsupported}
use Rattle.jcr_law.specs.Commits.{edit_due, refusal_of_due}
use Rattle.jcr_law.specs.Law.{IsUnmoved, MaySay, SaysBy, asked_by, no_support, no_text, barred, stopped, memory, half_detached, viewed, head, queried, refreshed, refused_edit, unwritten, committed, clashed, observing, unobserved, uncursored, observed, told, learned, swept, kept, uncounted, attached, released, unattached, unreleased, detached, split, unsplit, collected, stopping, unstopped, restopped, recovered, unrecovered}
use Rattle.jcr_law.specs.Since.{came, draw_since, stop_position}
use Rattle.jcr_law.specs.State.{Call, call_of, command_at}
use Rattle.jcr_law.specs.Tasks.{stopped_at}
use Rattle.jcr_call.specs.Comings.{reply_to_due}
use Rattle.jcr_eval.specs.Causes.{AllowedCause, AnyCause, AskedCause, OwnCause, StillCause, clash_reply, committed_reply, due_reply, is_seen_commit, may_want_memory, reply_to_draw, uncommitted_reply}
use Rattle.jcr_past.specs.Shown.{attaches}
use Rattle.jcr_eval.specs.Moves.{MoveCause, is_half_detached, vector_reply}
use Rattle.jcr_eval.specs.TaskCauses.{TaskCause}
use Rattle.jcr_eval.proofs.Iffs.{second_decides}
use Rattle.jcr_eval.proofs.Options.{some_behind, some_mapped, some_passed, some_tested}
use Rattle.jcr_eval.proofs.Passing.{came_contains, came_some, contains_came, some_came}
use Rattle.jcr_eval.proofs.Showing.{attach_is, attach_passes, vector_itself, vector_same}

-- a refusal of an edit that is due is its reply
refused_due : (c : Call) (m : Command) (due : Result (List Write) Refusal) (r : Refusal)
    → refusal_of_due c due ≡ Some r → reply_to_due c m due ≡ Some (no_text r)
refused_due c m (Ok []) r h = cc
refused_due c m (Ok (w ∷ ws)) r h = ap (option_map no_text) h
refused_due c m (Err q) r h = ap (option_map no_text) h

module _ (law : JcrLaw) (h : History) (s : ℕ) where
  of_any : (a : Asked) (text : List ℕ) → AnyCause h s text → AskedCause law h s a text
  of_any (Allowed m) text c = inl c
  of_any (Unsupported m) text c = inl c

  -- the session was attached
  attached_came : (id : Text) → Contains (since h.past s) (event.Attach s id)
      → came s (λ earlier e. attaches s id e) h.past ≡ true
  attached_came id is = let p = contains_came s h.past (event.Attach s id) is in
      some_came s (λ earlier e. attaches s id e) h.past p.0 (event.Attach s id) p.1
      (attach_passes s id)

  came_attached : (id : Text) → came s (λ earlier e. attaches s id e) h.past ≡ true
      → Contains (since h.past s) (event.Attach s id)
  came_attached id is = let q = came_some s (λ earlier e. attaches s id e) h.past is in
      subst (λ (x : Event). Contains (since h.past s) x) (attach_is s id q.which q.passes)
      (came_contains s h.past q.earlier q.which q.at)

  -- what the law lets be said has a cause
  pub said_by_cause : (a : Asked) (text : List ℕ) → MaySay law h s a text
      → AskedCause law h s a text
  said_by_cause _ _ (barred m unmoved) = inr (unmoved, refl)
  said_by_cause _ _ (stopped a k p at is) =
      of_any a (no_text (stopped_at p)) (inl (rw (at, is) refl))
  said_by_cause _ _ (memory a idle none unmoved unpinned) =
      of_any a (no_text out_of_memory) (inr (rw (unmoved, unpinned, idle, none) refl))
  said_by_cause _ _ (half_detached v idle moved none) =
      inr (inl (inr (inr (rw (idle, moved, none) refl))))
  said_by_cause _ _ (viewed m c is call unmoved) =
      inr (inr (unmoved, inl (is, (c, call, refl))))
  said_by_cause _ _ (head v is unmoved) =
      inr (inr (unmoved, inr (inr (ap (option_map vector_reply) is))))
  said_by_cause _ _ (queried text vars c reply call answers unmoved) =
      inr (inr (unmoved, inr (inr (c, reply, call, answers, refl))))
  said_by_cause _ _ (refreshed keep v is) = inr (inl (inr (ap (option_map vector_reply) is)))
  said_by_cause _ _ (refused_edit m c due r none call is cause unmoved) =
      inr (inr (unmoved, inr (inl (inl (rw (none, call, is) (refused_due c m due r cause))))))
  said_by_cause _ _ (unwritten m c none call is unmoved) =
      inr (inr (unmoved, inr (inl (inl (rw (none, call, is) refl)))))
  said_by_cause _ _ (committed m c d v draw begun ended made moved seen call) =
      inr (inl (inl (rw (draw, begun, vector_itself d.base, ended, made, moved, seen, call) refl)))
  said_by_cause _ _ (clashed m r o item drawn ended is unmoved) =
      inr (inr (unmoved, inr (inl (inr (rw (drawn, ended, is) refl)))))
  said_by_cause _ _ (observing p deep mask within is unmoved) =
      inr (inr (unmoved, inr (inr (inl (within, is, refl)))))
  said_by_cause _ _ (unobserved p deep mask r is unmoved) =
      inr (inr (unmoved, inr (inr (inr (r, is, refl)))))
  said_by_cause _ _ (uncursored c call none unmoved) =
      inr (inr (unmoved, inr (inr (inl (c, call, none, refl)))))
  said_by_cause _ _ (observed c call is unmoved) =
      inr (inr (unmoved, inr (inr (inr (c, call, is, refl)))))
  said_by_cause _ _ (told k r at is most unmoved) =
      inr (inr (unmoved, inr (inr (k, r, at, is, most, refl))))
  said_by_cause _ _ (learned k v at is knows unmoved) =
      inr (inr (unmoved, inr (inr (k, v, at, is, knows, refl))))
  said_by_cause _ _ (swept k r at is most unmoved) =
      inr (inr (unmoved, inr (inr (k, r, at, is, most, refl))))
  said_by_cause _ _ (kept c call is unmoved) =
      inr (inr (unmoved, inr (inr (inl (c, call, is, refl)))))
  said_by_cause _ _ (uncounted c r call is unmoved) =
      inr (inr (unmoved, inr (inr (inr (c, r, call, is, refl)))))
  said_by_cause _ _ (attached id v is base) =
      inr (inl (inr (attached_came id is, ap (option_map vector_reply) base)))
  said_by_cause _ _ (released id is unmoved) = inr (inr (unmoved, inr (inr (inl (is, refl)))))
  said_by_cause _ _ (unattached id is unmoved) = inr (inr (unmoved, inr (inr (is, refl))))
  said_by_cause _ _ (unreleased id is unmoved) = inr (inr (unmoved, inr (inr (inr (is, refl)))))
  said_by_cause _ _ (detached v is) = inr (inl (inr (inl (ap (option_map vector_reply) is))))
  said_by_cause _ _ (split p e is unmoved) = inr (inr (unmoved, inr (inr (inl (e, is, refl)))))
  said_by_cause _ _ (unsplit p c r call is unmoved) =
      inr (inr (unmoved, inr (inr (inr (c, r, call, is, refl)))))
  said_by_cause _ _ (collected x is unmoved) = inr (inr (unmoved, inr (inr (x, is, refl))))
  said_by_cause _ _ (stopping k is unmoved) = inr (inr (unmoved, inr (inr (inl (is, refl)))))
  said_by_cause _ _ (unstopped k at unmoved) =
      inr (inr (unmoved, inr (inr (inr (inl (at, refl))))))
  said_by_cause _ _ (restopped k is unmoved) =
      inr (inr (unmoved, inr (inr (inr (inr (is, refl))))))
  said_by_cause _ _ (recovered k r is unmoved) =
      inr (inr (unmoved, inr (inr (inl (r, is, refl)))))
  said_by_cause _ _ (unrecovered k is unmoved) =
      inr (inr (unmoved, inr (inr (inr (is, refl)))))

  -- a text that is a reply with a cause may be said
  says_as : (a : Asked) (said text : List ℕ) → said ≡ text → MaySay law h s a said
      → MaySay law h s a text
  says_as a said text is may = subst (λ (t : List ℕ). MaySay law h s a t) is may

  any_says : (a : Asked) (text : List ℕ) → AnyCause h s text → MaySay law h s a text
  any_says a text (inl is) =
      let at = some_mapped (λ n. no_text (stopped_at n))
      (option_and_then (stop_position h.past) (slice_get h.sessions s)) text is in
      let k = some_behind (stop_position h.past) (slice_get h.sessions s) at.0 at.1 in
      says_as a _ text at.2 (stopped a k.0 at.0 k.1 k.2)
  any_says a text (inr is) =
      let t = some_tested (may_want_memory h s) (Some (no_text out_of_memory)) text is in
      let p = and_parts _ _ t.0 in
      let still = and_parts _ _ p.0 in
      let q = and_parts _ _ p.1 in
      says_as a (no_text out_of_memory) text (same_Some _ _ t.1)
      (memory a (not-true _ q.0) (not-true _ q.1) still.0 still.1)

  committed_says : (m : Command) (text : List ℕ) → committed_reply law h s m ≡ Some text
      → MaySay law h s (Allowed m) text
  committed_says m text is =
      let d = some_behind (reply_to_draw law h s m) (draw_since h.past s) text is in
      let t = some_tested (is_seen_commit h s d.0) _ text d.2 in
      let begun = and_parts _ _ t.0 in
      let from = some_passed _ _ begun.0 in
      let p = and_parts _ _ begun.1 in
      let q = and_parts _ _ p.0 in
      let v = some_passed _ _ p.1 in
      let c = some_mapped _ (call_of law h.begin h.past s) text t.1 in
      says_as (Allowed m) _ text c.2
      (committed m c.0 d.0 v.0 d.1 (from.1 ∙ ap Some (vector_same from.0 d.0.base from.2)) q.0 q.1
      v.1 v.2 c.1)

  move_says : (m : Command) (text : List ℕ) → MoveCause h s m text
      → MaySay law h s (Allowed m) text
  move_says (command.Refresh keep) text is =
      let v = some_mapped _ _ text is in
      says_as _ _ text v.2 (refreshed keep v.0 v.1)
  move_says (command.Attach id) text (is, shown) =
      let v = some_mapped _ _ text shown in
      says_as _ _ text v.2 (attached id v.0 (came_attached id is) v.1)
  move_says command.Detach text (inl is) =
      let v = some_mapped _ _ text is in
      says_as _ _ text v.2 (detached v.0 v.1)
  move_says command.Detach text (inr is) =
      let t = some_tested (is_half_detached h s) (Some (no_text out_of_memory)) text is in
      let p = and_parts _ _ t.0 in
      let q = and_parts _ _ p.1 in
      let v = some_of (refreshed_since h.past s) q.0 in
      says_as _ (no_text out_of_memory) text (same_Some _ _ t.1)
      (half_detached v.0 (not-true _ p.0) v.1 (none_tested _ q.1))
  move_says m text is = absurd is

  -- where the base hasn't moved
  module _ (unmoved : IsUnmoved h s) where
    due_says : (m : Command) (text : List ℕ) → due_reply law h s m ≡ Some text
        → MaySay law h s (Allowed m) text
    due_says m text is =
        let t = some_tested _ _ text is in
        let c = some_behind (λ c. uncommitted_reply c m) (call_of law h.begin h.past s) text t.1 in
        let due = some_behind (reply_to_due c.0 m) (edit_due c.0 m) text c.2 in
        by c.0 (none_tested _ t.0) c.1 due.0 due.1 due.2
      where
        by : (c : Call) → drawn_since h.past s ≡ None → call_of law h.begin h.past s ≡ Some c
            → (due : Result (List Write) Refusal) → edit_due c m ≡ Some due
            → reply_to_due c m due ≡ Some text → MaySay law h s (Allowed m) text
        by c none call (Ok []) is e =
            says_as (Allowed m) _ text (same_Some _ _ e) (unwritten m c none call is unmoved)
        by c none call (Ok (w ∷ ws)) is e =
            let r = some_mapped _ _ text e in
            says_as (Allowed m) _ text r.2
            (refused_edit m c (Ok (w ∷ ws)) r.0 none call is r.1 unmoved)
        by c none call (Err r) is e =
            says_as (Allowed m) _ text (same_Some _ _ e)
            (refused_edit m c (Err r) r none call is refl unmoved)

    clash_says : (m : Command) (text : List ℕ) → clash_reply h s ≡ Some text
        → MaySay law h s (Allowed m) text
    clash_says m text is =
        let r = some_behind _ _ text is in
        let t = some_tested _ _ text r.2 in
        let x = some_mapped _ _ text t.1 in
        says_as (Allowed m) _ text x.2 (clashed m r.0 x.0.1 x.0.0 r.1 t.0 x.1 unmoved)

    own_says : (m : Command) (text : List ℕ) → OwnCause law h s m text
        → MaySay law h s (Allowed m) text
    own_says command.Head text is =
        let v = some_mapped _ _ text is in
        says_as _ _ text v.2 (head v.0 v.1 unmoved)
    own_says command.BackWrite text (k, r, at, is, most, e) =
        says_as _ _ text (sym e) (told k r at is most unmoved)
    own_says command.BackRead text (k, v, at, is, knows, e) =
        says_as _ _ text (sym e) (learned k v at is knows unmoved)
    own_says command.Sweep text (k, r, at, is, most, e) =
        says_as _ _ text (sym e) (swept k r at is most unmoved)
    own_says command.Checkpoint text (inl (c, call, is, e)) =
        says_as _ _ text (sym e) (kept c call is unmoved)
    own_says command.Checkpoint text (inr (c, r, call, is, e)) =
        says_as _ _ text (sym e) (uncounted c r call is unmoved)
    own_says (command.Attach id) text (is, e) =
        says_as _ _ text (sym e) (unattached id is unmoved)
    own_says (command.Release id) text (inl (is, e)) =
        says_as _ _ text (sym e) (released id is unmoved)
    own_says (command.Release id) text (inr (is, e)) =
        says_as _ _ text (sym e) (unreleased id is unmoved)
    own_says (command.Split p) text (inl (x, is, e)) =
        says_as _ _ text (sym e) (split p x is unmoved)
    own_says (command.Split p) text (inr (c, r, call, is, e)) =
        says_as _ _ text (sym e) (unsplit p c r call is unmoved)
    own_says command.Collect text (x, is, e) =
        says_as _ _ text (sym e) (collected x is unmoved)
    own_says (command.Stop (Some k)) text (inl (is, e)) =
        says_as _ _ text (sym e) (stopping k is unmoved)
    own_says (command.Stop (Some k)) text (inr (inl (at, e))) =
        says_as _ _ text (sym e) (unstopped k at unmoved)
    own_says (command.Stop (Some k)) text (inr (inr (is, e))) =
        says_as _ _ text (sym e) (restopped k is unmoved)
    own_says (command.Recover (Some k)) text (inl (r, is, e)) =
        says_as _ _ text (sym e) (recovered k r is unmoved)
    own_says (command.Recover (Some k)) text (inr (is, e)) =
        says_as _ _ text (sym e) (unrecovered k is unmoved)
    own_says (command.Observe p deep mask) text (inl (within, is, e)) =
        says_as _ _ text (sym e) (observing p deep mask within is unmoved)
    own_says (command.Observe p deep mask) text (inr (r, is, e)) =
        says_as _ _ text (sym e) (unobserved p deep mask r is unmoved)
    own_says command.Events text (inl (c, call, none, e)) =
        says_as _ _ text (sym e) (uncursored c call none unmoved)
    own_says command.Events text (inr (c, call, is, e)) =
        says_as _ _ text (sym e) (observed c call is unmoved)
    own_says (command.Query query vars) text (c, reply, call, answers, e) =
        says_as _ _ text (sym e) (queried query vars c reply call answers unmoved)
    own_says m text is = absurd is

    still_says : (m : Command) (text : List ℕ) → StillCause law h s m text
        → MaySay law h s (Allowed m) text
    still_says m text (inl (is, (c, call, e))) =
        says_as _ _ text (sym e) (viewed m c is call unmoved)
    still_says m text (inr (inl (inl is))) = due_says m text is
    still_says m text (inr (inl (inr is))) = clash_says m text is
    still_says m text (inr (inr c)) = own_says m text c

  -- what has a cause the law lets be said
  pub cause_says : (a : Asked) (text : List ℕ) → AskedCause law h s a text → MaySay law h s a text
  cause_says (Unsupported m) text (inl c) = any_says (Unsupported m) text c
  cause_says (Unsupported m) text (inr (unmoved, e)) =
      says_as _ _ text (sym e) (barred m unmoved)
  cause_says (Allowed m) text (inl c) = any_says (Allowed m) text c
  cause_says (Allowed m) text (inr (inl (inl is))) = committed_says m text is
  cause_says (Allowed m) text (inr (inl (inr c))) = move_says m text c
  cause_says (Allowed m) text (inr (inr (unmoved, c))) = still_says unmoved m text c

  -- the commands of the cluster, queries and observation have the replies of their own
  pub own_tasks : (m : Command) (text : List ℕ) (b : Bool) → m ≢ command.Head
      → (IsTrue b ↔ TaskCause law h s m text) → IsTrue b ↔ OwnCause law h s m text
  own_tasks command.Head text b n i = absurd (n refl)
  own_tasks m text b n i = i

  -- a test that a text has a cause is one that it may be said
  pub may_by_any : (a : Asked) (text : List ℕ) (b : Bool) → (IsTrue b ↔ AnyCause h s text)
      → b ≡ true
      → IsTrue true ↔ MaySay law h s a text
  may_by_any a text b i is = (λ t. any_says a text (i.0 is), λ may. refl)

  pub may_by_cause : (a : Asked) (m : Command) (text : List ℕ) (any b : Bool) → a ≡ Allowed m
      → (IsTrue any ↔ AnyCause h s text) → any ≡ false → (IsTrue b ↔ AllowedCause law h s m text)
      → IsTrue b ↔ MaySay law h s a text
  may_by_cause a m text any b is i none j =
      subst (λ (x : Asked). IsTrue b ↔ MaySay law h s x text) (sym is) (
        λ t. cause_says (Allowed m) text (inr (j.0 t)),
        λ may. (second_decides any b i none j).1 (said_by_cause (Allowed m) text may),
      )

  pub may_by_barring : (a : Asked) (m : Command) (text : List ℕ) (any b : Bool) → a ≡ Unsupported m
      → (IsTrue any ↔ AnyCause h s text) → any ≡ false → (IsTrue b ↔ (IsUnmoved h s × (text ≡ no_support m)))
      → IsTrue b ↔ MaySay law h s a text
  may_by_barring a m text any b is i none j =
      subst (λ (x : Asked). IsTrue b ↔ MaySay law h s x text) (sym is) (
        λ t. cause_says (Unsupported m) text (inr (j.0 t)),
        λ may. (second_decides any b i none j).1 (said_by_cause (Unsupported m) text may),
      )

  -- what may be said of an index is what may be said of its command
  pub says_by_command : (i : ℕ) (m : Command) (text : List ℕ) (b : Bool)
      → command_at law s i ≡ Some m
      → (IsTrue b ↔ MaySay law h s (asked_by h s m) text) → IsTrue b ↔ SaysBy law h s i text
  says_by_command i m text b is j = (
    λ t. (m, is, j.0 t),
    λ says. j.1 (subst (λ (x : Command). MaySay law h s (asked_by h s x) text)
        (same_Some says.0 m (sym says.1 ∙ is)) says.2),
  )

  pub says_nothing : (i : ℕ) (text : List ℕ) → command_at law s i ≡ None
      → IsTrue false ↔ SaysBy law h s i text
  says_nothing i text is = (
    λ t. absurd (false≢true t),
    λ says. absurd (none-some says.0 (sym is ∙ says.1)),
  )
