-- The jobs of the workers in order, and what they give back.
use Rattle.std.proofs.Common.{◌≡◌, ◌⊎◌, inl, inr, ℕ, zero, suc, ◌+◌, Some, None, Option, Result, Ok, List, [], ◌∷◌, ◌++◌, length, length-append, refl, sym, ap, ◌∙◌, subst}
use Rattle.std.specs.Prelude.{MatchOption, slice_get}
use Rattle.std.specs.Option.{option_to_list}
use Rattle.std.specs.declared.alloc.AllocError.{AllocError}
use Rattle.oak_machine.specs.declared.event.Event.{Event}
use Rattle.oak_world.specs.Worlds.{WorldOf}
use Rattle.jcr_law.specs.declared.law.JcrLaw.{JcrLaw}
use Rattle.jr_script.specs.declared.script.Script.{Script}
use Rattle.jr_shared.specs.declared.locked.LockedWorld.{LockedWorld}
use Rattle.jr_shared.specs.declared.locked.WorldFrame.{WorldFrame}
use Rattle.jr_shared.specs.Meanings.{Owned}
use Rattle.seat_lock.specs.declared.counted.Counted.{Ghosts}
use Rattle.seat_lock.specs.declared.lock.SeatLock.{SeatLock}
use Rattle.seat_lock.specs.declared.pass.Pass.{Pass}
use Rattle.jr_work.specs.declared.worker.Job.{Job}
use Rattle.seat_lock.specs.Passes.{IsOf, view_of}
use Rattle.jr_work.specs.Workers.{AreGivenBack, AreInOrder, HasWorked, IsGivenBack}
use Rattle.jr_stage.proofs.Beginning.{pushed}
use Rattle.jr_stage.proofs.Flying.{none_is_some}

-- ---- jobs

pub none_in_order : AreInOrder []
none_in_order i job at = none_is_some job at

-- one job more
pub in_order_more : (jobs : List Job) (job : Job) → AreInOrder jobs → job.worker ≡ length jobs → AreInOrder (jobs ++ job ∷ [])
in_order_more jobs job are number i other at = by (pushed jobs job other i at)
  where
    by : (slice_get jobs i ≡ Some other) ⊎ ((i ≡ length jobs) × (job ≡ other)) → other.worker ≡ i
    by (inl h) = are i other h
    by (inr (p, q)) = ap (λ (j : Job). j.worker) (sym q) ∙ (number ∙ sym p)

-- ---- what is given back

module _ {X : Type 0} where
  get_before : (xs : List X) (x y : X) (i : ℕ) → slice_get xs i ≡ Some y → slice_get (xs ++ x ∷ []) i ≡ Some y
  get_before [] x y i h = none_is_some y h
  get_before (z ∷ xs) x y zero h = h
  get_before (z ∷ xs) x y (suc i) h = get_before xs x y i h

  get_last : (xs : List X) (x : X) → slice_get (xs ++ x ∷ []) (length xs) ≡ Some x
  get_last [] x = refl
  get_last (z ∷ xs) x = get_last xs x

  -- nothing is left where nothing is taken
  pub none_left : (o : Option X) (A : Type 0) (B : X → Type 0) → ((x : X) → o ≡ Some x → ⊥) → MatchOption o A B → A
  none_left None A B never m = m
  none_left (Some x) A B never m = absurd (never x refl)

  as_pushed : (all rest : List X) (o : Option X) (last : X) → all ≡ rest ++ option_to_list o → o ≡ Some last → all ≡ rest ++ last ∷ []
  as_pushed all rest o last is taken = is ∙ ap (λ (x : Option X). rest ++ option_to_list x) taken

  -- one fewer is left where one is taken
  pub one_fewer : (all rest : List X) (o : Option X) (last : X) → all ≡ rest ++ option_to_list o → o ≡ Some last → length all ≡ length rest + 1
  one_fewer all rest o last is taken = ap (λ (l : List X). length l) (as_pushed all rest o last is taken) ∙ length-append rest (last ∷ [])

module _ (law : Ghosts (LockedWorld JcrLaw) Event Owned (WorldFrame JcrLaw) (WorldOf JcrLaw)) (script : Script) (workers : ℕ) (lock : SeatLock (LockedWorld JcrLaw) Event Owned (WorldFrame JcrLaw) (WorldOf JcrLaw)) where
  abbrev pub WorldPass : Type 0
  WorldPass = Pass (LockedWorld JcrLaw) Event Owned (WorldFrame JcrLaw) (WorldOf JcrLaw) law

  abbrev pub Back : Type 0
  Back = Result WorldPass AllocError

  module _ (all rest : List Back) (o : Option Back) (last : Back) (is : all ≡ rest ++ option_to_list o) (taken : o ≡ Some last) (given : AreGivenBack {law = law} script workers lock all) where
    -- the last one
    pub given_last : (pass : WorldPass) → last ≡ Ok pass → IsOf lock pass × HasWorked script workers (length rest) (view_of pass)
    given_last pass back = subst (λ (r : Back). IsGivenBack {law = law} script workers lock (length rest) r) back
        (given (length rest) last (ap (λ (l : List Back). slice_get l (length rest)) (as_pushed all rest o last is taken) ∙ get_last rest last))

    -- those before it
    pub given_rest : AreGivenBack {law = law} script workers lock rest
    given_rest i pass at = given i pass (ap (λ (l : List Back). slice_get l i) (as_pushed all rest o last is taken) ∙ get_before rest last pass i at)
