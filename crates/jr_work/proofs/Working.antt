-- A worker's pass, while the worker runs its sessions one after another.
use Rattle.std.proofs.Common.{◌≡◌, ◌≢◌, ℕ, ◌+◌, ◌<◌, ◌≤◌, ◌%◌, true, false, Some, length, refl, sym, ap, ◌∙◌, subst, arith}
use Rattle.std.specs.Prelude.{◌==◌, IsTrue}
use Rattle.std.proofs.lemmas.Bool.Decides.{nat_tests}
use Rattle.jcr_law.specs.declared.law.JcrLaw.{JcrLaw}
use Rattle.jr_script.specs.declared.script.Script.{Script}
use Rattle.jr_stage.specs.Places.{is_over}
use Rattle.jr_shared.specs.Holds.{PassKnown, owned_by}
use Rattle.jr_shared.specs.Meanings.{Owned}
use Rattle.jr_shared.proofs.Lists.{found_part}
use Rattle.jr_work.specs.Workers.{HasNotBegun, HasOver, HasRunOne, HasWorked, IsHandedOut, KnowsScript}

-- what the pass finds of session s is over
abbrev HasFound : Script → PassKnown JcrLaw → ℕ → Type 0
HasFound script v s = (part : Owned) × (owned_by v s ≡ Some part) × IsTrue (is_over script part.events s)

-- of the worker's sessions those below n are over, and the others have not begun
pub record IsWorking (script : Script) (workers worker n : ℕ) (v : PassKnown JcrLaw) : Type 0 where
  pub knows : KnowsScript script v
  pub weight : v.weight ≡ 1
  pub first : (s : ℕ) → s < length script.sessions → s % workers ≡ worker → n ≤ s → HasNotBegun v s
  pub over : (s : ℕ) → s < n → s % workers ≡ worker → HasFound script v s

equal : (a b : ℕ) → (a == b) ≡ true → a ≡ b
equal a b h = grind (arith, nat_tests)

before : (s n : ℕ) → s < n + 1 → (s == n) ≡ false → s < n
before s n h apart = grind (arith, nat_tests)

different : (s n : ℕ) → (s == n) ≡ false → s ≢ n
different s n h = grind (arith, nat_tests)

above : (s n : ℕ) → n + 1 ≤ s → s ≢ n
above s n h = omega arith

module _ (script : Script) (workers worker : ℕ) where
  pub working_begins : (v : PassKnown JcrLaw) → IsHandedOut script workers worker v → IsWorking script workers worker 0 v
  working_begins v is = record {
    knows = is.knows;
    weight = is.weight;
    first = λ s below own any. is.first s below own;
    over = λ s below own. none s below;
  }
    where
      none : {A : Type 0} (s : ℕ) → s < 0 → A
      none s below = absurd (omega arith)

  module _ (n : ℕ) (v : PassKnown JcrLaw) (is : IsWorking script workers worker n v) where
    -- a session of another worker is passed over
    pub passed_over : (n % workers ≡ worker → ⊥) → IsWorking script workers worker (n + 1) v
    passed_over other = record {
      knows = is.knows;
      weight = is.weight;
      first = λ s below own later. is.first s below own (let h : n ≤ s = omega (arith, later) in h);
      over = λ s below own. elim (s == n) as (λ b. (s == n) ≡ b → HasFound script v s) [
        | true ↦ λ same. absurd (other (ap (λ (m : ℕ). m % workers) (sym (equal s n same)) ∙ own))
        | false ↦ λ apart. is.over s (before s n below apart) own
      ] refl;
    }

    -- a session of the worker was run
    pub worked_more : (w : PassKnown JcrLaw) → HasRunOne script v w n → IsWorking script workers worker (n + 1) w
    worked_more w ran = record {
      knows = ran.knows;
      weight = ran.weight ∙ is.weight;
      first = λ s below own later. ran.others s (above s n later) ∙ is.first s below own (let h : n ≤ s = omega (arith, later) in h);
      over = λ s below own. elim (s == n) as (λ b. (s == n) ≡ b → HasFound script w s) [
        | true ↦ λ same. subst (λ (m : ℕ). HasFound script w m) (sym (equal s n same)) ran.over
        | false ↦ λ apart. still s (different s n apart) (is.over s (before s n below apart) own)
      ] refl;
    }
      where
        still : (s : ℕ) → s ≢ n → HasFound script v s → HasFound script w s
        still s apart (part, found, over) = (part, ran.others s apart ∙ found, over)

  -- all of them were run
  pub worked_all : (n : ℕ) (v : PassKnown JcrLaw) → IsWorking script workers worker n v → length script.sessions ≤ n → HasWorked script workers worker v
  worked_all n v is all = record {
    rest = is.knows.rest;
    weight = is.weight;
    over = λ s below own. owned s (is.over s (let h : s < n = omega (arith, below, all) in h) own);
  }
    where
      owned : (s : ℕ) → HasFound script v s → HasOver script v s
      owned s (part, found, over) = (part, found_part v.parts s part found, over)
