-- A script within its bounds has cluster nodes for its sessions, and numbers for them that fit.
use Rattle.std.proofs.Common.{◌≡◌, ℕ, ◌<◌, ◌≤◌, [], length, map, Some, None, Option, refl, sym, ap, ◌∙◌, subst, arith}
use Rattle.std.specs.Prelude.{◌^◌, slice_get}
use Rattle.std.specs.Option.{option_map, option_map_or}
use Rattle.std.proofs.lemmas.List.Elements.{All-get_or}
use Rattle.std.proofs.lemmas.Option.{get_or_from_slice_get, slice_get-map, slice_get_within}
use Rattle.oak_machine.specs.History.{History}
use Rattle.oak_machine.specs.Runs.{AreNodes, IsNode}
use Rattle.jr_script.specs.Bounds.{IsSessionWithin, IsWithin}
use Rattle.jr_script.specs.declared.script.Script.{Script}
use Rattle.jcr_trans.specs.declared.command.SessionScript.{SessionScript}
use Rattle.jr_stage.specs.declared.stage.Stage.{Stage}
use Rattle.jr_stage.specs.Places.{commands_of}
use Rattle.jr_stage.specs.Stages.{IsStage}
use Rattle.jr_stage.proofs.Flying.{none_is_some, some_is_some}

pub session_within : (script : Script) → IsWithin script → (s : ℕ) (x : SessionScript) → slice_get script.sessions s ≡ Some x → IsSessionWithin script.clusters x
session_within script is s x at =
    subst (λ (y : SessionScript). IsSessionWithin script.clusters y) (get_or_from_slice_get script.sessions s x x at)
    (All-get_or (IsSessionWithin script.clusters) script.sessions s x (slice_get_within script.sessions s x at) is.sessions)

-- each session has few commands
pub few_said : (script : Script) → IsWithin script → (s : ℕ) → length (commands_of script s) ≤ 10000
few_said script is s = by (slice_get script.sessions s) refl
  where
    by : (o : Option SessionScript) → slice_get script.sessions s ≡ o → length (commands_of script s) ≤ 10000
    by None none = subst (λ (o : Option SessionScript). length (option_map_or (λ x. x.commands) o []) ≤ 10000) (sym none) (omega arith)
    by (Some x) some = subst (λ (o : Option SessionScript). length (option_map_or (λ x. x.commands) o []) ≤ 10000) (sym some) (session_within script is s x some).few

pub within_nodes : (script : Script) → IsWithin script → AreNodes script.clusters (map (λ x. x.cluster) script.sessions)
within_nodes script is = record {
  eight = is.nodes;
  some = is.some;
  node = λ s k at. by s k (slice_get script.sessions s) refl (sym (slice_get-map (λ (x : SessionScript). x.cluster) script.sessions s) ∙ at);
}
  where
    by : (s k : ℕ) (o : Option SessionScript) → slice_get script.sessions s ≡ o → option_map (λ (x : SessionScript). x.cluster) (slice_get script.sessions s) ≡ Some k → IsNode script.clusters k
    by s k None none h = none_is_some k (sym (ap (option_map (λ (x : SessionScript). x.cluster)) none) ∙ h)
    by s k (Some x) some h =
        let within = session_within script is s x some in
        subst (λ (n : ℕ). IsNode script.clusters n) (some_is_some x.cluster k (sym (ap (option_map (λ (x : SessionScript). x.cluster)) some) ∙ h)) (within.placed, within.near)

pub stage_nodes : (stage : Stage) → IsStage stage → AreNodes stage.world.history.clusters stage.world.history.sessions
stage_nodes stage is = subst (λ (h : History). AreNodes h.clusters h.sessions) (sym is.history) (within_nodes stage.script.value is.within)

-- the number of a session fits
pub seat_fits : (stage : Stage) → IsStage stage → (s : ℕ) → s < length stage.seats.items → s < 2 ^ 32
seat_fits stage is s below = fits s (length stage.seats.items) below (subst (λ (n : ℕ). n ≤ 64) (sym is.seats) is.within.few)
  where
    fits : (s n : ℕ) → s < n → n ≤ 64 → s < 2 ^ 32
    fits s n h k = omega arith
