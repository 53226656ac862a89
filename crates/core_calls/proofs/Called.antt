-- What an event makes of what a session's next command is run with.
use Rattle.std.proofs.Common.{◌≡◌, ℕ, Bool, true, false, cond, Option, None, Some, List, [], ◌∷◌, ◌++◌, is_some, refl, sym, ap, ◌∙◌, subst}
use Rattle.std.specs.Prelude.{◌==◌, ◌||◌, option_map}
use Rattle.std.specs.List.{list_any}
use Rattle.std.specs.Option.{option_map_or}
use Rattle.std.proofs.lemmas.Bool.{false≢true}
use Rattle.basics.proofs.Bools.{number_itself}
use Rattle.jr_path.specs.Lists.{Text}
use Rattle.jr_rev.specs.declared.vector.RevVec.{RevVec}
use Rattle.jr_tree.specs.Trees.{Nodes}
use Rattle.oak_machine.specs.declared.event.Event.{Event}
use Rattle.oak_machine.specs.declared.event.Event.TheVariants as event
use Rattle.oak_machine.specs.Commits.{tree_at}
use Rattle.oak_machine.specs.History.{Begin, Past, begin_tree}
use Rattle.oak_machine.specs.Laws.{Says, Starts, is_event_of}
use Rattle.oak_machine.specs.Runs.{AreNodes, IsRunOf}
use Rattle.oak_machine.specs.Sessions.{base_of, drawn_since, has_login, is_login_of, kept_checkpoint, last_checkpoint}
use Rattle.oak_machine.proofs.Induction.{neither, other}
use Rattle.core_heads.proofs.Locals.{some_of}
use Rattle.core_heads.proofs.Orders.{same_number}
use Rattle.core_heads.proofs.Runs.{kept_last}
use Rattle.core_heads.proofs.Stays.{tree_at_base_stays}
use Rattle.jcr_trans.specs.declared.command.Command.{Command}
use Rattle.jcr_law.specs.declared.law.JcrLaw.{JcrLaw}
use Rattle.jcr_law.specs.declared.state.State.{State}
use Rattle.jcr_law.specs.State.{Call, state_answered, base_tree, call_at, call_of, command_at, is_ok_text, moved, new_state, state_replied, session_state}
use Rattle.jcr_law.specs.Passing.{state_stays}
use Rattle.jcr_law.specs.Starting.{call_based, call_has_base}
use Rattle.jcr_law.specs.Calls.{call_after, call_moved}
use Rattle.core_calls.specs.Events.{is_attach_of, is_calling, state_at_login}

-- of s itself
own : {A : Type 0} (s : ℕ) (x y : A) → cond (s == s) x y ≡ x
own s x y = ap (λ (b : Bool). cond b x y) (number_itself s)

pub or_neither : (a b : Bool) → a ≡ false → b ≡ false → (a || b) ≡ false
or_neither true b h k = h
or_neither false b h k = k

-- events that don't call s leave its base as it was
pub base_same : (added past : Past) (s : ℕ) → list_any (is_calling s) added ≡ false → base_of (added ++ past) s ≡ base_of past s
base_same [] past s h = refl
base_same (event.Login t v ∷ added) past s h = let n = neither (t == s) _ h in other (t == s) _ _ _ n.0 (base_same added past s n.1)
base_same (event.Refresh t v ∷ added) past s h = let n = neither (t == s) _ h in other (t == s) _ _ _ n.0 (base_same added past s n.1)
base_same (event.Attach t id ∷ added) past s h = let n = neither (t == s) _ h in other (t == s) _ _ _ n.0 (base_same added past s n.1)
base_same (e ∷ added) past s h = base_same added past s (neither (is_calling s e) _ h).1

module _ (law : JcrLaw) (begin : Begin) where
  -- ---- a call is made at the base

  abbrev at : Past → ℕ → RevVec → Call
  at past s v = call_at law begin past s v (session_state law begin past s)

  -- the base of a call, and the call at it
  by_base : (past : Past) (s : ℕ) (c : Call) → call_of law begin past s ≡ Some c → (v : RevVec) × (base_of past s ≡ Some v) × (at past s v ≡ c)
  by_base past s c is = (c.who.base, call_has_base law begin past s c is, sym (call_based law begin past s c is))

  -- a session that has a base is called
  pub called_at : (past : Past) (s : ℕ) (v : RevVec) → base_of past s ≡ Some v → call_of law begin past s ≡ Some (at past s v)
  called_at past s v is = ap (option_map (at past s)) is

  -- ---- a login, a refresh, an attach and a reply

  pub login_call : (past : Past) (s : ℕ) (v : RevVec) → call_of law begin (event.Login s v ∷ past) s
      ≡ Some (call_at law begin past s v (state_at_login begin (tree_at begin past v)))
  login_call past s v =
      ap (option_map (at (event.Login s v ∷ past) s)) (own s (Some v) (base_of past s))
      ∙ ap (λ (x : State). Some (call_at law begin past s v x)) (own s (state_at_login begin (tree_at begin past v)) (session_state law begin past s))

  pub refresh_call : (past : Past) (s : ℕ) (v : RevVec) (c : Call) → call_of law begin past s ≡ Some c
      → call_of law begin (event.Refresh s v ∷ past) s ≡ Some (call_moved c v (tree_at begin past v))
  refresh_call past s v c is =
      let b = by_base past s c is in
      let old : State = session_state law begin past s in
      ap (option_map (at (event.Refresh s v ∷ past) s)) (own s (Some v) (base_of past s))
      ∙ (ap (λ (x : State). Some (call_at law begin past s v x)) (own s (moved (option_map_or (tree_at begin past) (base_of past s) (begin_tree begin)) (tree_at begin past v) old) old)
      ∙ (ap (λ (o : Option RevVec). Some (call_at law begin past s v (moved (option_map_or (tree_at begin past) o (begin_tree begin)) (tree_at begin past v) old))) b.1
      ∙ ap (λ (x : Call). Some (call_moved x v (tree_at begin past v))) b.2))

  pub attach_call : (past : Past) (s : ℕ) (id : Text) (v : RevVec) (c : Call) → last_checkpoint past id ≡ Some v → call_of law begin past s ≡ Some c
      → call_of law begin (event.Attach s id ∷ past) s ≡ Some (call_moved c v (tree_at begin past v))
  attach_call past s id v c there is =
      let b = by_base past s c is in
      let old : State = session_state law begin past s in
      let on : base_of (event.Attach s id ∷ past) s ≡ Some v = own s (last_checkpoint past id) (base_of past s) ∙ there in
      ap (option_map (at (event.Attach s id ∷ past) s)) on
      ∙ (ap (λ (x : State). Some (call_at law begin past s v x)) (own s (moved (base_tree begin past s) (base_tree begin (event.Attach s id ∷ past) s) old) old)
      ∙ (ap (λ (o : Option RevVec). Some (call_at law begin past s v (moved (base_tree begin past s) (option_map_or (tree_at begin past) o (begin_tree begin)) old))) on
      ∙ (ap (λ (o : Option RevVec). Some (call_at law begin past s v (moved (option_map_or (tree_at begin past) o (begin_tree begin)) (tree_at begin past v) old))) b.1
      ∙ ap (λ (x : Call). Some (call_moved x v (tree_at begin past v))) b.2)))

  pub said_call : (past : Past) (s i : ℕ) (text : Text) (c : Call) (m : Command) → call_of law begin past s ≡ Some c → command_at law s i ≡ Some m
      → call_of law begin (event.Said s i text ∷ past) s ≡ Some (call_after (is_ok_text text) (is_some (drawn_since past s)) c m)
  said_call past s i text c m is command =
      let b = by_base past s c is in
      let ok : Bool = is_ok_text text in
      let drew : Bool = is_some (drawn_since past s) in
      let old : State = session_state law begin past s in
      ap (option_map (at (event.Said s i text ∷ past) s)) b.1
      ∙ (ap (λ (x : State). Some (call_at law begin past s b.0 x)) (own s (state_replied law begin past s i text old) old)
      ∙ (ap (λ (o : Option Command). Some (call_at law begin past s b.0 (option_map_or (λ n. option_map_or (λ w. state_answered ok drew (call_at law begin past s w old) n) (base_of past s) old) o old))) command
      ∙ (ap (λ (o : Option RevVec). Some (call_at law begin past s b.0 (option_map_or (λ w. state_answered ok drew (call_at law begin past s w old) m) o old))) b.1
      ∙ ap (λ (x : Call). Some (call_after ok drew x m)) b.2)))

  -- ---- other events

  pub state_same : (added past : Past) (s : ℕ) → list_any (is_calling s) added ≡ false → session_state law begin (added ++ past) s ≡ session_state law begin past s
  state_same [] past s h = refl
  state_same (event.Login t v ∷ added) past s h = let n = neither (t == s) _ h in other (t == s) _ _ _ n.0 (state_same added past s n.1)
  state_same (event.Refresh t v ∷ added) past s h = let n = neither (t == s) _ h in other (t == s) _ _ _ n.0 (state_same added past s n.1)
  state_same (event.Attach t id ∷ added) past s h = let n = neither (t == s) _ h in other (t == s) _ _ _ n.0 (state_same added past s n.1)
  state_same (event.Said t i text ∷ added) past s h = let n = neither (t == s) _ h in other (t == s) _ _ _ n.0 (state_same added past s n.1)
  state_same (e ∷ added) past s h = state_same added past s (neither (is_calling s e) _ h).1

  -- what is no event of s calls it not
  pub calls_none : (whole added : Past) (s : ℕ) → list_any (is_event_of whole s) added ≡ false → list_any (is_calling s) added ≡ false
  calls_none whole [] s h = refl
  calls_none whole (e ∷ added) s h =
      let n = neither (is_event_of whole s e) _ h in or_neither (is_calling s e) _ (by e n.0) (calls_none whole added s n.1)
    where
      by : (e : Event) → is_event_of whole s e ≡ false → is_calling s e ≡ false
      by (event.Login t v) h = h
      by (event.Refresh t v) h = h
      by (event.Attach t id) h = h
      by (event.Said t i text) h = h
      by e h = refl

  -- ---- before a login

  pub unbegun : (past : Past) (s : ℕ) → list_any (is_event_of past s) past ≡ false → session_state law begin past s ≡ new_state begin
  unbegun past s h = subst (λ (p : Past). session_state law begin p s ≡ new_state begin) (nothing_behind past) (state_stays law begin past past [] s h)
    where
      nothing_behind : (a : Past) → a ++ [] ≡ a
      nothing_behind [] = refl
      nothing_behind (e ∷ a) = ap (λ (l : Past). e ∷ l) (nothing_behind a)

  -- where s has no base it is none of its events
  unlike : (b : Bool) (v : RevVec) (o : Option RevVec) (x y : State) → cond b (Some v) o ≡ None → (o ≡ None → y ≡ new_state begin) → cond b x y ≡ new_state begin
  unlike true v o x y h rest = absurd (false≢true (sym (ap is_some h)))
  unlike false v o x y h rest = rest h

  module _ (starts : Starts) (says : Says) (clusters : ℕ) (sessions : List ℕ) where
    -- without a login and an attach there is no base
    pub unbased : (past : Past) (s : ℕ) → IsRunOf starts says clusters sessions begin past → has_login past s ≡ false → list_any (is_attach_of s) past ≡ false
        → base_of past s ≡ None
    unbased [] s run out none = refl
    unbased (event.Login t v ∷ past) s run out none =
        let n = neither (t == s) _ out in other (t == s) (Some v) _ None n.0 (unbased past s run.1 n.1 (neither (is_attach_of s (event.Login t v)) _ none).1)
    unbased (event.Refresh t v ∷ past) s run out none =
        elim (t == s) as (λ b. (t == s) ≡ b → cond b (Some v) (base_of past s) ≡ None) [
          | true ↦ λ same. absurd (false≢true (sym (sym (subst (λ (n : ℕ). has_login past n ≡ true) (same_number t s same) run.0.login) ∙ out)))
          | false ↦ λ apart. unbased past s run.1 out none
        ] refl
    unbased (event.Attach t id ∷ past) s run out none =
        let n = neither (t == s) _ none in other (t == s) (last_checkpoint past id) _ None n.0 (unbased past s run.1 out n.1)
    unbased (e ∷ past) s run out none = unbased past s run.1 (neither (is_login_of s e) _ out).1 (neither (is_attach_of s e) _ none).1

    -- without a base the state is that of a new session
    pub state_new : (past : Past) (s : ℕ) → IsRunOf starts says clusters sessions begin past → base_of past s ≡ None → session_state law begin past s ≡ new_state begin
    state_new [] s run none = refl
    state_new (event.Login t v ∷ past) s run none =
        unlike (t == s) v (base_of past s) (state_at_login begin (tree_at begin past v)) (session_state law begin past s) none (state_new past s run.1)
    state_new (event.Refresh t v ∷ past) s run none =
        unlike (t == s) v (base_of past s) (moved (base_tree begin past s) (tree_at begin past v) (session_state law begin past s))
        (session_state law begin past s) none (state_new past s run.1)
    state_new (event.Attach t id ∷ past) s run none =
        let kept = some_of (kept_checkpoint past id) run.0.0 in
        let last = kept_last past id kept.0 kept.1 in
        unlike (t == s) kept.0 (base_of past s) (moved (base_tree begin past s) (base_tree begin (event.Attach t id ∷ past) s) (session_state law begin past s))
        (session_state law begin past s) (sym (ap (λ (o : Option RevVec). cond (t == s) o (base_of past s)) last) ∙ none) (state_new past s run.1)
    state_new (event.Said t i text ∷ past) s run none =
        let old : State = session_state law begin past s in
        ap (λ (o : Option RevVec). cond (t == s) (option_map_or (λ n. option_map_or (λ w. state_answered (is_ok_text text) (is_some (drawn_since past s)) (call_at law begin past s w old) n) o old) (command_at law s i) old) old) none
        ∙ (by (t == s) (command_at law s i) ∙ state_new past s run.1 none)
      where
        by : (b : Bool) (o : Option Command) → cond b (option_map_or (λ n. session_state law begin past s) o (session_state law begin past s)) (session_state law begin past s) ≡ session_state law begin past s
        by true None = refl
        by true (Some m) = refl
        by false o = refl
    state_new (e ∷ past) s run none = state_new past s run.1 none

    module _ (nodes : AreNodes clusters sessions) where
      pub call_stays : (added past : Past) (s : ℕ) → IsRunOf starts says clusters sessions begin (added ++ past) → list_any (is_calling s) added ≡ false
          → call_of law begin (added ++ past) s ≡ call_of law begin past s
      call_stays added past s run h =
          ap (option_map (at (added ++ past) s)) (base_same added past s h)
          ∙ (ap (λ (x : State). option_map (λ v. call_at law begin (added ++ past) s v x) (base_of past s)) (state_same added past s h)
          ∙ by (base_of past s) refl)
        where
          by : (o : Option RevVec) → base_of past s ≡ o → option_map (λ v. call_at law begin (added ++ past) s v (session_state law begin past s)) o ≡ option_map (at past s) o
          by None e = refl
          by (Some v) e = ap (λ (t : Nodes). Some (record (at past s v) { base = t })) (tree_at_base_stays clusters sessions nodes begin starts says s added past run v e)
