-- The first document that doesn't keep a rule, taken one document after another.
use Rattle.std.proofs.Common.{◌≡◌, ℕ, zero, suc, ◌+◌, Bool, true, false, cond, List, [], ◌∷◌, ◌++◌, None, Some, length, take, drop, refl, sym, ap, ◌∙◌, arith}
use Rattle.jr_path.specs.declared.path.DocId.{DocId}
use Rattle.oak_doc.specs.declared.document.Document.{Document}
use Rattle.oak_sound.specs.Meant.{ById}
use Rattle.oak_sound.specs.Sound.{DocumentRule, first_breaking}

nothing_there : {X : Type 0} (x : X) (more : List X) → [] ≡ x ∷ more → ⊥
nothing_there x more is = let lengths : 0 ≡ suc (length more) = ap length is in omega arith

-- what stands at a place of a list
pub record IsAt {X : Type 0} (xs : List X) (at : ℕ) (x : X) (more : List X) : Type 0 where
  pub taken : take (at + 1) xs ≡ take at xs ++ x ∷ []
  pub dropped : drop (at + 1) xs ≡ more
  pub size : length (take at xs) ≡ at

abbrev rest_of : {X : Type 0} → List X → List X
rest_of [] = []
rest_of (x ∷ xs) = xs

pub is_at_place : {X : Type 0} (xs : List X) (at : ℕ) (x : X) (more : List X) → drop at xs ≡ x ∷ more → IsAt xs at x more
is_at_place [] zero x more is = absurd (nothing_there x more is)
is_at_place [] (suc k) x more is = absurd (nothing_there x more is)
is_at_place (y ∷ xs) zero x more is = record { taken = ap (take 1) is; dropped = ap rest_of is; size = refl }
is_at_place (y ∷ xs) (suc k) x more is =
    let rest = is_at_place xs k x more is in
    let p : suc k + 1 ≡ suc (k + 1) = omega arith in
    record {
      taken = ap (λ n. take n (y ∷ xs)) p ∙ ap (λ zs. y ∷ zs) rest.taken;
      dropped = ap (λ n. drop n (y ∷ xs)) p ∙ rest.dropped;
      size = ap suc rest.size;
    }

-- so far each document keeps the rule; those that are left decide
pub record IsSoFar (rule : DocumentRule) (ds : ById) (at : ℕ) (rest : ById) : Type 0 where
  pub behind : rest ≡ drop at ds
  pub size : at + length rest ≡ length ds
  pub decides : first_breaking rule (take at ds) rest ≡ first_breaking rule [] ds

pub begins : (rule : DocumentRule) (ds : ById) → IsSoFar rule ds 0 ds
begins rule ds = record { behind = refl; size = omega arith; decides = refl }

step : (rule : DocumentRule) (before : ById) (e : DocId × Document) (more : ById) (b : Bool) → rule before e ≡ b → first_breaking rule before (e ∷ more) ≡ cond b (first_breaking rule (before ++ e ∷ []) more) (Some (length before))
step rule before e more b is = ap (λ c. cond c (first_breaking rule (before ++ e ∷ []) more) (Some (length before))) is

-- one more document keeps it
pub goes_on : (rule : DocumentRule) (ds : ById) (at : ℕ) (rest : ById) (e : DocId × Document) (more : ById) → rest ≡ e ∷ more → rule (take at ds) e ≡ true → IsSoFar rule ds at rest → IsSoFar rule ds (at + 1) more
goes_on rule ds at rest e more first keeps so_far =
    let place = is_at_place ds at e more (sym so_far.behind ∙ first) in
    record {
      behind = sym place.dropped;
      size = let all : at + length rest ≡ length ds = so_far.size in let here : length rest ≡ suc (length more) = ap length first in omega arith;
      decides = ap (λ b. first_breaking rule b more) place.taken
          ∙ sym (step rule (take at ds) e more true keeps)
          ∙ ap (first_breaking rule (take at ds)) (sym first) ∙ so_far.decides;
    }

-- one document breaks it
pub breaks : (rule : DocumentRule) (ds : ById) (at : ℕ) (rest : ById) (e : DocId × Document) (more : ById) → rest ≡ e ∷ more → rule (take at ds) e ≡ false → IsSoFar rule ds at rest → Some at ≡ first_breaking rule [] ds
breaks rule ds at rest e more first broken so_far =
    let place = is_at_place ds at e more (sym so_far.behind ∙ first) in
    ap Some (sym place.size) ∙ sym (step rule (take at ds) e more false broken)
    ∙ ap (first_breaking rule (take at ds)) (sym first) ∙ so_far.decides

-- all keep it
pub ends : (rule : DocumentRule) (ds : ById) (at : ℕ) (rest : ById) → rest ≡ [] → IsSoFar rule ds at rest → None ≡ first_breaking rule [] ds
ends rule ds at rest none so_far = ap (first_breaking rule (take at ds)) (sym none) ∙ so_far.decides
