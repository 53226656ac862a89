-- The state of a session after one event more.
use Rattle.std.proofs.Common.{◌≡◌, ℕ, Bool, cond, ◌∷◌, Option, Some, sym, ap, ◌∙◌}
use Rattle.std.specs.Prelude.{is_some}
use Rattle.std.specs.Option.{option_map_or}
use Rattle.std.proofs.lemmas.Bool.{eq-eqb}
use Rattle.jr_path.specs.Lists.{Text}
use Rattle.jr_rev.specs.declared.vector.RevVec.{RevVec}
use Rattle.oak_machine.specs.declared.event.Event.{Event}
use Rattle.oak_machine.specs.declared.event.Event.TheVariants as event
use Rattle.oak_machine.specs.Commits.{tree_at}
use Rattle.oak_machine.specs.History.{Begin, Past, begin_tree}
use Rattle.oak_machine.specs.Sessions.{base_of, drawn_since, last_checkpoint}
use Rattle.jcr_trans.specs.declared.command.Command.{Command}
use Rattle.jcr_law.specs.declared.law.JcrLaw.{JcrLaw}
use Rattle.jcr_law.specs.declared.state.State.{State}
use Rattle.jcr_law.specs.State.{Call, state_answered, base_tree, call_at, command_at, is_ok_text, moved, state_replied, session_state}

module _ (law : JcrLaw) (begin : Begin) (past : Past) (s : ℕ) where
  -- the base moved to a vector
  pub after_refresh : (t : ℕ) (v : RevVec) (e : Event) (state new : State) → e ≡ event.Refresh t v
      → t ≡ s → state ≡ session_state law begin past s
      → new ≡ moved (base_tree begin past s) (tree_at begin past v) state
      → new ≡ session_state law begin (e ∷ past) s
  after_refresh t v e state new here same before is =
      is ∙ ap (moved (base_tree begin past s) (tree_at begin past v)) before
      ∙ sym (ap (λ b. cond b
      (moved (base_tree begin past s) (tree_at begin past v) (session_state law begin past s))
      (session_state law begin past s)) (eq-eqb t s same))
      ∙ sym (ap (λ (x : Event). session_state law begin (x ∷ past) s) here)

  -- the base moved to a checkpoint
  pub after_attach : (t : ℕ) (id : Text) (v : Option RevVec) (e : Event) (state new : State)
      → e ≡ event.Attach t id → t ≡ s → v ≡ last_checkpoint past id
      → state ≡ session_state law begin past s
      → new ≡ moved (base_tree begin past s)
      (option_map_or (tree_at begin past) v (begin_tree begin)) state
      → new ≡ session_state law begin (e ∷ past) s
  after_attach t id v e state new here same last before is =
      is ∙ ap (moved (base_tree begin past s)
      (option_map_or (tree_at begin past) v (begin_tree begin))) before
      ∙ ap (λ (o : Option RevVec). moved (base_tree begin past s)
      (option_map_or (tree_at begin past) o (begin_tree begin))
      (session_state law begin past s)) last
      ∙ sym (ap (λ b. cond b (moved (base_tree begin past s) (option_map_or (tree_at begin past)
      (cond b (last_checkpoint past id) (base_of past s)) (begin_tree begin))
      (session_state law begin past s))
      (session_state law begin past s)) (eq-eqb t s same))
      ∙ sym (ap (λ (x : Event). session_state law begin (x ∷ past) s) here)

  -- a reply was said
  pub after_reply : (i : ℕ) (text : Text) (state new : State) (m : Command) (v : RevVec)
      (ok drew : Bool) (c : Call)
      → command_at law s i ≡ Some m → base_of past s ≡ Some v → ok ≡ is_ok_text text
      → drew ≡ is_some (drawn_since past s) → c ≡ call_at law begin past s v state
      → new ≡ state_answered ok drew c m
      → new ≡ state_replied law begin past s i text state
  after_reply i text state new m v ok drew c there based oks draws called is =
      is ∙ ap (λ b. state_answered b drew c m) oks
      ∙ ap (λ b. state_answered (is_ok_text text) b c m) draws
      ∙ ap (λ (d : Call). state_answered (is_ok_text text) (is_some (drawn_since past s)) d m) called
      ∙ sym (ap (λ (o : Option RevVec). option_map_or
      (λ w. state_answered (is_ok_text text) (is_some (drawn_since past s))
      (call_at law begin past s w state) m) o state) based)
      ∙ sym (ap (λ (o : Option Command). option_map_or
      (λ n. option_map_or (λ w. state_answered (is_ok_text text)
      (is_some (drawn_since past s)) (call_at law begin past s w state) n) (base_of past s) state) o
      state) there)
