-- What functions answer, by the readings of their parts.
use Rattle.std.proofs.Common.{◌≡◌, ℕ, [], Result, Ok, Err, Bool, true, false, refl}
use Rattle.std.specs.Prelude.{⊤}
use Rattle.std.specs.Result.{IsErrAnd}
use Rattle.jr_args.specs.declared.fault.Fault.{Fault}
use Rattle.jr_args.specs.declared.fault.Fault.TheVariants as fault
use Rattle.jr_args.specs.declared.fault.Step.{Step}
use Rattle.jr_args.specs.Outcomes.{Outcome, Means, Breaks, Reading, Answers, IsRaised, Then, guard, is, under}

-- the fault of a value below
pub raised : {X : Type 0} (step : Step) (M : Reading X) (below above : Fault) → IsRaised step below above → Answers M (Err below) → Answers (under step M) (Err above)
raised step M (fault.Bad rule steps) (fault.Bad broken more) h g = (steps, h.1, rw h.0 g)
raised step M (fault.Bad rule steps) fault.Memory h g = tt
raised step M fault.Memory (fault.Bad broken more) h g = absurd h
raised step M fault.Memory fault.Memory h g = tt

-- the first part's fault
pub stops : {X Y : Type 0} (M : Reading X) (f : X → Reading Y) (fault : Fault) → Answers M (Err fault) → Answers (Then M f) (Err fault)
stops M f (fault.Bad rule steps) h = record { first = Breaks rule steps; is_first = h; rest = refl }
stops M f fault.Memory h = tt

-- what follows the first part
pub goes : {X Y : Type 0} (M : Reading X) (f : X → Reading Y) (x : X) (result : Result Y Fault) → M (Means x) → Answers (f x) result → Answers (Then M f) result
goes M f x (Ok y) h g = record { first = Means x; is_first = h; rest = g }
goes M f x (Err (fault.Bad rule steps)) h g = record { first = Means x; is_first = h; rest = g }
goes M f x (Err fault.Memory) h g = tt

-- the same where `?` hands the first part's fault on
pub exits : {X Y : Type 0} (M : Reading X) (f : X → Reading Y) (fault : Fault) (result : Result Y Fault) → IsErrAnd result (λ e. e ≡ fault) → Answers M (Err fault) → Answers (Then M f) result
exits M f fault (Ok y) h g = absurd h
exits M f fault (Err e) h g = rw h (stops M f fault g)

-- what both parts mean
pub means : {X Y : Type 0} (M : Reading X) (f : X → Reading Y) (x : X) (outcome : Outcome Y) → M (Means x) → f x outcome → Then M f outcome
means M f x outcome h g = record { first = Means x; is_first = h; rest = g }

-- a guard whose condition holds, and one whose condition doesn't
pub passes : {X : Type 0} (b : Bool) (rule : ℕ) (f : ⊤ → Reading X) (result : Result X Fault) → b ≡ true → Answers (f tt) result → Answers (Then (guard b rule) f) result
passes b rule f result is h = goes (guard b rule) f tt result (rw is refl) h

pub fails : {X : Type 0} (b : Bool) (rule : ℕ) (f : ⊤ → Reading X) (e : Fault) → b ≡ false → e ≡ fault.Bad rule [] → Answers (Then (guard b rule) f) (Err e)
fails b rule f e is same = rw same (record { first = Breaks rule []; is_first = rw is refl; rest = refl })
