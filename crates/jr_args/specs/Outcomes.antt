-- What reading a JSON value comes to, and how readings are put together.
use Rattle.std.specs.Prelude.{◌≡◌, ℕ, Bool, true, false, List, [], ◌∷◌, ◌++◌, ⊤, Result, Ok, Err}
use Rattle.jr_args.specs.declared.fault.Fault.{Fault}
use Rattle.jr_args.specs.declared.fault.Fault.TheVariants as fault
use Rattle.jr_args.specs.declared.fault.Step.{Step}

-- a value means x, or breaks the rule of this number at the place to which the steps lead from it
pub data Outcome (X : Type 0) : Type 0 where
  Means : X → Outcome X
  Breaks : ℕ → List Step → Outcome X

-- which outcomes something has
abbrev pub Reading : Type 0 → Type 1
Reading X = Outcome X → Type 0

-- this outcome
abbrev pub is : {X : Type 0} → Outcome X → Reading X
is o = λ p. p ≡ o

-- nothing, where the condition holds; else the rule is broken here
abbrev pub guard : Bool → ℕ → Reading ⊤
guard true rule = is (Means tt)
guard false rule = is (Breaks rule [])

-- the second reading, of what the first one means; a rule that the first breaks stays broken
abbrev pub onward : {X Y : Type 0} → (X → Reading Y) → Outcome X → Reading Y
onward f (Means x) = f x
onward f (Breaks rule steps) = is (Breaks rule steps)

-- the first reading and then, with what it means, the second; a rule that the first breaks comes first
pub record Then {X Y : Type 0} (M : Reading X) (f : X → Reading Y) (outcome : Outcome Y) : Type 0 where
  pub first : Outcome X
  pub is_first : M first
  pub rest : onward f first outcome

-- a reading of what stands one step below: a place in it is that step and then the place there
abbrev pub under : {X : Type 0} → Step → Reading X → Reading X
under step M (Means x) = M (Means x)
under step M (Breaks rule steps) = (rest : List Step) × (steps ≡ step ∷ rest) × M (Breaks rule rest)

-- what is good means itself, and where nothing is good the rule is broken here
abbrev pub judged : {X : Type 0} → (X → Type 0) → ℕ → Reading X
judged Good rule (Means x) = Good x
judged {X} Good rule (Breaks broken steps) = (broken ≡ rule) × (steps ≡ []) × ((x : X) → Good x → ⊥)

-- the result is one of the reading's outcomes; or memory was refused
abbrev pub Answers : {X : Type 0} → Reading X → Result X Fault → Type 0
Answers M (Ok x) = M (Means x)
Answers M (Err (fault.Bad rule steps)) = M (Breaks rule steps)
Answers M (Err fault.Memory) = Unit {0}

-- the same where what a list of things means is put behind those before
abbrev pub AnswersOnto : {X : Type 0} → Reading (List X) → List X → List X → Result ⊤ Fault → Type 0
AnswersOnto {X} M before after (Ok u) = (xs : List X) × (after ≡ before ++ xs) × M (Means xs)
AnswersOnto M before after (Err (fault.Bad rule steps)) = M (Breaks rule steps)
AnswersOnto M before after (Err fault.Memory) = Unit {0}

-- a reading that has one outcome at most
abbrev pub HasOneOutcome : {X : Type 0} → Reading X → Type 0
HasOneOutcome {X} M = (o p : Outcome X) → M o → M p → o ≡ p

-- the fault of a value below, seen from above; or memory was refused
abbrev pub IsRaised : Step → Fault → Fault → Type 0
IsRaised step (fault.Bad rule steps) (fault.Bad broken raised) = (broken ≡ rule) × (raised ≡ step ∷ steps)
IsRaised step below fault.Memory = Unit {0}
IsRaised step fault.Memory above = ⊥
