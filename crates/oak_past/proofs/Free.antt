-- A free base, decided of the events where they stand.
use Rattle.std.proofs.Common.{◌≡◌, ℕ, Bool, false, Some, List, reverse, subst}
use Rattle.std.specs.Bool.{Decides}
use Rattle.jr_rev.specs.declared.vector.RevVec.{RevVec}
use Rattle.oak_machine.specs.declared.event.Event.{Event}
use Rattle.oak_machine.specs.Sessions.{base_of, is_attached, is_stopped_under}
use Rattle.oak_machine.specs.Tests.{IsFreeBaseAmong}
use Rattle.oak_machine.proofs.Deciding.{free_decided}

-- some session has the base, isn't attached, and is of a cluster node that wasn't stopped
abbrev pub IsFree : List ℕ → List Event → RevVec → Type 0
IsFree sessions events v = (s : ℕ) × (base_of (reverse events) s ≡ Some v) × (is_attached (reverse events) s ≡ false) × (is_stopped_under sessions (reverse events) s ≡ false)

pub free_at : (sessions ss : List ℕ) (events xs : List Event) (v : RevVec) (r : Bool) → ss ≡ sessions → xs ≡ events → Decides r (IsFreeBaseAmong ss (reverse xs) v (reverse xs)) → Decides r (IsFree sessions events v)
free_at sessions ss events xs v r e f d =
    let here : Decides r (IsFree ss xs v) = (λ t. (free_decided ss (reverse xs) v).0 (d.0 t), λ p. d.1 ((free_decided ss (reverse xs) v).1 p)) in
    subst (λ (ts : List ℕ). Decides r (IsFree ts events v)) e (subst (λ (ys : List Event). Decides r (IsFree ss ys v)) f here)
