-- That a base stands until it moves, and when it has moved since the command of its session began.
use Rattle.std.proofs.Common.{◌≡◌, ℕ, Bool, true, false, cond, not, Option, None, Some, List, [], ◌∷◌, ◌++◌, is_some, refl, sym, ap, ◌∙◌, subst}
use Rattle.std.specs.Prelude.{◌==◌, ◌||◌}
use Rattle.std.specs.List.{list_any}
use Rattle.std.specs.Option.{unwrap_or}
use Rattle.std.proofs.lemmas.Bool.{false≢true}
use Rattle.basics.proofs.Bools.{number_itself}
use Rattle.jr_path.specs.Lists.{Text}
use Rattle.jr_rev.specs.declared.vector.RevVec.{RevVec}
use Rattle.oak_machine.specs.declared.event.Draw.{Draw}
use Rattle.oak_machine.specs.declared.event.Event.{Event}
use Rattle.oak_machine.specs.declared.event.Event.TheVariants as event
use Rattle.oak_machine.specs.History.{Begin, Past}
use Rattle.oak_machine.specs.Laws.{Says, Starts}
use Rattle.oak_machine.specs.Runs.{AreNodes, IsRunOf}
use Rattle.oak_machine.specs.Sessions.{base_of, is_attached, refreshed_among, refreshed_since, since}
use Rattle.oak_machine.proofs.Induction.{neither, other}
use Rattle.core_heads.proofs.Orders.{same_number}
use Rattle.jcr_law.specs.declared.law.JcrLaw.{JcrLaw}
use Rattle.jcr_law.specs.Lasting.{says_of, starts_of}
use Rattle.jcr_law.specs.Since.{before_turn, detached_among, draw_among, draw_since, is_beginning, is_move_of, is_pinning, is_unmoved, is_unpinned}
use Rattle.jcr_law.specs.State.{call_of}
use Rattle.core_calls.specs.Events.{is_calling}
use Rattle.core_calls.proofs.Beginning.{attached_over, since_login, since_reply}
use Rattle.core_calls.proofs.Called.{base_same, call_stays, or_neither}

abbrev moves : ℕ → Past → Bool
moves s added = list_any (is_move_of s) added

-- ---- event by event

-- behind a reply, and behind a login, it hasn't moved
pub unmoved_at_reply : (past : Past) (s i : ℕ) (text : Text) → is_unmoved (event.Said s i text ∷ past) s ≡ true
unmoved_at_reply past s i text = ap (λ (p : Past). not (moves s p)) (since_reply past s i text)

pub unmoved_at_login : (past : Past) (s : ℕ) (v : RevVec) → is_unmoved (event.Login s v ∷ past) s ≡ true
unmoved_at_login past s v = ap (λ (p : Past). not (moves s p)) (since_login past s v)

-- behind a refresh of the session it has
pub moved_at_refresh : (past : Past) (s : ℕ) (v : RevVec) → is_unmoved (event.Refresh s v ∷ past) s ≡ false
moved_at_refresh past s v = ap (λ (b : Bool). not (b || moves s (since past s))) (number_itself s)

-- since the command of s began no event passes a test behind one that doesn't, where none did
none_more : (test : Event → Bool) (e : Event) (past : Past) (s : ℕ) → test e ≡ false → not (list_any test (since past s)) ≡ true → not (list_any test (since (e ∷ past) s)) ≡ true
none_more test e past s none was = by (is_beginning s e)
  where
    by : (b : Bool) → not (list_any test (cond b [] (e ∷ since past s))) ≡ true
    by true = refl
    by false = ap (λ (b : Bool). not (b || list_any test (since past s))) none ∙ was

none_over : (test : Event → Bool) (added past : Past) (s : ℕ) → list_any test added ≡ false → not (list_any test (since past s)) ≡ true → not (list_any test (since (added ++ past) s)) ≡ true
none_over test [] past s none was = was
none_over test (e ∷ added) past s none was =
    let n = neither (test e) _ none in
    none_more test e (added ++ past) s n.0 (none_over test added past s n.1 was)

-- behind other events the base hasn't moved, where it hadn't
pub unmoved_over : (added past : Past) (s : ℕ) → list_any (is_move_of s) added ≡ false → is_unmoved past s ≡ true → is_unmoved (added ++ past) s ≡ true
unmoved_over added past s still was = none_over (is_move_of s) added past s still was

-- nor has the cursor
pub unpinned_over : (added past : Past) (s : ℕ) → list_any (is_pinning s) added ≡ false → is_unpinned past s ≡ true → is_unpinned (added ++ past) s ≡ true
unpinned_over added past s still was = none_over (is_pinning s) added past s still was

pub unpinned_at_reply : (past : Past) (s i : ℕ) (text : Text) → is_unpinned (event.Said s i text ∷ past) s ≡ true
unpinned_at_reply past s i text = ap (λ (p : Past). not (list_any (is_pinning s) p)) (since_reply past s i text)

pub unpinned_at_login : (past : Past) (s : ℕ) (v : RevVec) → is_unpinned (event.Login s v ∷ past) s ≡ true
unpinned_at_login past s v = ap (λ (p : Past). not (list_any (is_pinning s) p)) (since_login past s v)

-- and where the event begins no command either, it is as it was
pub unmoved_same : (e : Event) (past : Past) (s : ℕ) → is_move_of s e ≡ false → is_beginning s e ≡ false → is_unmoved (e ∷ past) s ≡ is_unmoved past s
unmoved_same e past s still none =
    ap (λ (b : Bool). not (moves s (cond b [] (e ∷ since past s)))) none
    ∙ ap (λ (b : Bool). not (b || moves s (since past s))) still

-- ---- where it hasn't moved

none_moves : (past : Past) (s : ℕ) → is_unmoved past s ≡ true → moves s (since past s) ≡ false
none_moves past s h = by (moves s (since past s)) h
  where
    by : (b : Bool) → not b ≡ true → b ≡ false
    by true h = sym h
    by false h = refl

-- no refresh and no detaching came
none_refreshed : (rest : Past) (s : ℕ) → moves s rest ≡ false → refreshed_among rest s ≡ None
none_refreshed [] s h = refl
none_refreshed (event.Refresh t v ∷ rest) s h = let n = neither (t == s) _ h in other (t == s) _ _ _ n.0 (none_refreshed rest s n.1)
none_refreshed (e ∷ rest) s h = none_refreshed rest s (neither (is_move_of s e) _ h).1

none_detached : (rest : Past) (s : ℕ) → moves s rest ≡ false → detached_among rest s ≡ None
none_detached [] s h = refl
none_detached (event.Detach t ∷ rest) s h = let n = neither (t == s) _ h in other (t == s) _ _ _ n.0 (none_detached rest s n.1)
none_detached (e ∷ rest) s h = none_detached rest s (neither (is_move_of s e) _ h).1

pub unrefreshed : (past : Past) (s : ℕ) → is_unmoved past s ≡ true → refreshed_since past s ≡ None
unrefreshed past s h = none_refreshed (since past s) s (none_moves past s h)

pub undetached : (past : Past) (s : ℕ) → is_unmoved past s ≡ true → detached_among (since past s) s ≡ None
undetached past s h = none_detached (since past s) s (none_moves past s h)

-- a past is what came since the command began, on what lay behind then
pub parted : (past : Past) (s : ℕ) → since past s ++ before_turn past s ≡ past
parted [] s = refl
parted (e ∷ past) s = by (is_beginning s e) (parted past s)
  where
    by : (b : Bool) → since past s ++ before_turn past s ≡ past → cond b [] (e ∷ since past s) ++ cond b (e ∷ past) (before_turn past s) ≡ e ∷ past
    by true rest = refl
    by false rest = ap (λ (p : Past). e ∷ p) rest

-- what neither begins a command of s nor moves its base calls it not
not_calling : (s : ℕ) (e : Event) → is_beginning s e ≡ false → is_move_of s e ≡ false → is_calling s e ≡ false
not_calling s (event.Login t v) h k = h
not_calling s (event.Refresh t v) h k = k
not_calling s (event.Attach t id) h k = k
not_calling s (event.Said t i text) h k = (neither (t == s) _ h).0
not_calling s e h k = refl

uncalled : (past : Past) (s : ℕ) → moves s (since past s) ≡ false → list_any (is_calling s) (since past s) ≡ false
uncalled [] s h = refl
uncalled (e ∷ past) s h = by (is_beginning s e) refl (uncalled past s) h
  where
    by : (b : Bool) → is_beginning s e ≡ b → (moves s (since past s) ≡ false → list_any (is_calling s) (since past s) ≡ false)
        → moves s (cond b [] (e ∷ since past s)) ≡ false → list_any (is_calling s) (cond b [] (e ∷ since past s)) ≡ false
    by true at rest h = refl
    by false at rest h =
        let n = neither (is_move_of s e) _ h in
        or_neither (is_calling s e) _ (not_calling s e at n.0) (rest n.1)

-- the session is attached to a checkpoint as it was
pub attached_stands : (past : Past) (s : ℕ) → is_unmoved past s ≡ true → is_attached past s ≡ is_attached (before_turn past s) s
attached_stands past s h =
    sym (ap (λ (p : Past). is_attached p s) (parted past s))
    ∙ attached_over (since past s) (before_turn past s) s (uncalled past s (none_moves past s h))

-- the base stands where it stood
pub base_stands : (past : Past) (s : ℕ) → is_unmoved past s ≡ true → base_of past s ≡ base_of (before_turn past s) s
base_stands past s h =
    sym (ap (λ (p : Past). base_of p s) (parted past s))
    ∙ base_same (since past s) (before_turn past s) s (uncalled past s (none_moves past s h))

-- and the command is run with what it would have been run with
pub call_stands : (law : JcrLaw) (begin : Begin) (starts : Starts) (says : Says) (clusters : ℕ) (sessions : List ℕ) → AreNodes clusters sessions
    → (past : Past) (s : ℕ) → IsRunOf starts says clusters sessions begin past → is_unmoved past s ≡ true
    → call_of law begin past s ≡ call_of law begin (before_turn past s) s
call_stands law begin starts says clusters sessions nodes past s run h =
    sym (ap (λ (p : Past). call_of law begin p s) (parted past s))
    ∙ call_stays law begin starts says clusters sessions nodes (since past s) (before_turn past s) s
    (subst (λ (p : Past). IsRunOf starts says clusters sessions begin p) (sym (parted past s)) run)
    (uncalled past s (none_moves past s h))

-- ---- what was drawn

-- a commit is drawn at the base at which its command began
module _ (law : JcrLaw) (clusters : ℕ) (sessions : List ℕ) (begin : Begin) (s : ℕ) (d : Draw) where
  abbrev Runs : Past → Type 0
  Runs past = IsRunOf (starts_of law) (says_of law) clusters sessions begin past

  own : (e : Draw) (past : Past) → Runs (event.Draw e ∷ past) → e.session ≡ s → e ≡ d → base_of (before_turn past s) s ≡ Some d.base
  own e past run of same = subst (λ (t : ℕ). base_of (before_turn past t) t ≡ Some d.base) of
      (sym (base_stands past e.session run.0.lawful.unmoved) ∙ (run.0.base ∙ ap (λ (x : Draw). Some x.base) same))

  pub drawn_where_begun : (past : Past) → Runs past → draw_since past s ≡ Some d → base_of (before_turn past s) s ≡ Some d.base
  drawn_where_begun [] run is = absurd (false≢true (ap is_some is))
  drawn_where_begun (event.Draw e ∷ past) run is =
      elim (e.session == s) as (λ b. (e.session == s) ≡ b → cond b (Some e) (draw_among (since past s) s) ≡ Some d → base_of (before_turn past s) s ≡ Some d.base) [
        | true ↦ λ of same. own e past run (same_number e.session s of) (ap (λ (o : Option Draw). unwrap_or o d) same)
        | false ↦ λ other same. drawn_where_begun past run.1 same
      ] refl is
  drawn_where_begun (e ∷ past) run is =
      elim (is_beginning s e) as (λ b. draw_among (cond b [] (e ∷ since past s)) s ≡ Some d → base_of (cond b (e ∷ past) (before_turn past s)) s ≡ Some d.base) [
        | true ↦ λ none. absurd (false≢true (ap is_some none))
        | false ↦ λ same. drawn_where_begun past run.1 same
      ] is
