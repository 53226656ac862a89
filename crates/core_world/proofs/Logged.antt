-- What a run says of a session that has logged in, and of a draw.
use Rattle.std.proofs.Common.{◌≡◌, ℕ, Bool, true, false, cond, ◌||◌, Some, None, Option, List, [], ◌∷◌, is_some, refl, sym, ap, subst}
use Rattle.std.specs.Prelude.{◌==◌, slice_get}
use Rattle.std.specs.Option.{unwrap_or}
use mathlib.Core.Bool.{false≢true}
use Rattle.jr_rev.specs.declared.revision.Revision.{Revision}
use Rattle.jr_rev.specs.Revisions.{is_same}
use Rattle.oak_machine.specs.declared.event.Draw.{Draw}
use Rattle.oak_machine.specs.declared.event.Event.{Event}
use Rattle.oak_machine.specs.declared.event.Event.TheVariants as event
use Rattle.oak_machine.specs.History.{Past, Begin}
use Rattle.oak_machine.specs.Commits.{draw_of}
use Rattle.oak_machine.specs.Laws.{Says, Starts}
use Rattle.oak_machine.specs.Runs.{IsRunOf}
use Rattle.oak_machine.specs.Sessions.{has_login, is_login_of}
use Rattle.core_clash.proofs.Basics.{or_right, same_revision, some_is}
use Rattle.core_world.proofs.Flights.{same_number}

-- a number that is there, by what stands for it
pub some_number : (o : Option ℕ) → is_some o ≡ true → o ≡ Some (unwrap_or o 0)
some_number None h = absurd (false≢true h)
some_number (Some n) h = refl

-- a draw is of a session that has logged in, on its cluster node
pub record IsDrawnBy (sessions : List ℕ) (past : Past) (r : Revision) (d : Draw) : Type 0 where
  pub named : d.revision ≡ r
  pub login : has_login past d.session ≡ true
  pub node : slice_get sessions d.session ≡ Some d.revision.cluster

module _ (starts : Starts) (says : Says) (clusters : ℕ) (sessions : List ℕ) (begin : Begin) where
  -- it is a session of a cluster node
  pub login_node : (past : Past) (s : ℕ) → IsRunOf starts says clusters sessions begin past → has_login past s ≡ true → is_some (slice_get sessions s) ≡ true
  login_node [] s run h = absurd (false≢true h)
  login_node (event.Login t v ∷ past) s run h = by (λ k. login_node past s run.1 k) (t == s) refl h
    where
      by : (has_login past s ≡ true → is_some (slice_get sessions s) ≡ true) → (b : Bool) → (t == s) ≡ b → (b || has_login past s) ≡ true → is_some (slice_get sessions s) ≡ true
      by rest true e k = subst (λ (n : ℕ). is_some (slice_get sessions n) ≡ true) (same_number t s e) (ap (λ o. is_some o) run.0.head.1)
      by rest false e k = rest k
  login_node (e ∷ past) s run h = login_node past s run.1 h

  later_drawn : (e : Event) (past : Past) (r : Revision) (d : Draw) → IsDrawnBy sessions past r d → IsDrawnBy sessions (e ∷ past) r d
  later_drawn e past r d by = record { named = by.named; login = or_right (is_login_of d.session e) _ by.login; node = by.node }

  pub drawn_by : (past : Past) (r : Revision) (d : Draw) → IsRunOf starts says clusters sessions begin past → draw_of past r ≡ Some d → IsDrawnBy sessions past r d
  drawn_by [] r d run h = absurd (false≢true (ap (λ o. is_some o) h))
  drawn_by (event.Draw e ∷ past) r d run h = by (λ k. drawn_by past r d run.1 k) (is_same r e.revision) refl h
    where
      by : (draw_of past r ≡ Some d → IsDrawnBy sessions past r d) → (b : Bool) → is_same r e.revision ≡ b → cond b (Some e) (draw_of past r) ≡ Some d → IsDrawnBy sessions (event.Draw e ∷ past) r d
      by rest true t k = subst (λ (x : Draw). IsDrawnBy sessions (event.Draw e ∷ past) r x) (sym (some_is k)) (record { named = sym (same_revision r e.revision t); login = run.0.login; node = run.0.cluster })
      by rest false f k = later_drawn (event.Draw e) past r d (rest k)
  drawn_by (e ∷ past) r d run h = later_drawn e past r d (drawn_by past r d run.1 h)
