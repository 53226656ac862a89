-- In a run what is drawn stays drawn, by the same draw.
use Rattle.std.proofs.Common.{◌≡◌, ℕ, true, false, cond, Some, None, Option, List, [], ◌∷◌, ◌++◌, is_some, refl, sym, ap, ◌∙◌, subst}
use mathlib.Core.Bool.{false≢true}
use Rattle.jr_rev.specs.declared.revision.Revision.{Revision}
use Rattle.jr_rev.specs.Revisions.{is_same}
use Rattle.jr_rev.proofs.Order.{same_revision}
use Rattle.oak_machine.specs.declared.event.Draw.{Draw}
use Rattle.oak_machine.specs.declared.event.Event.{Event}
use Rattle.oak_machine.specs.declared.event.Event.TheVariants as event
use Rattle.oak_machine.specs.History.{Begin, Past}
use Rattle.oak_machine.specs.Commits.{draw_of}
use Rattle.oak_machine.specs.Laws.{Says, Starts}
use Rattle.oak_machine.specs.Runs.{AreNodes, IsRunOf}
use Rattle.core_heads.proofs.Runs.{fresh_run}

-- what is drawn in one past is so in another
abbrev pub Keeps : Past → Past → Type 0
Keeps a w = (r : Revision) (d : Draw) → draw_of a r ≡ Some d → draw_of w r ≡ Some d

pub drawn_some : (o : Option Draw) → is_some o ≡ true → (d : Draw) × (o ≡ Some d)
drawn_some None h = absurd (false≢true h)
drawn_some (Some d) h = (d, refl)

module _ (clusters : ℕ) (sessions : List ℕ) (nodes : AreNodes clusters sessions) (begin : Begin) (starts : Starts) (says : Says) where
  pub keeps_one : (e : Event) (past : Past) → IsRunOf starts says clusters sessions begin (e ∷ past) → Keeps past (e ∷ past)
  keeps_one (event.Draw d) past run r f h =
      elim (is_same r d.revision) as (λ b. is_same r d.revision ≡ b → cond b (Some d) (draw_of past r) ≡ Some f) [
        | true ↦ λ same. absurd (false≢true (ap is_some (sym (fresh_run clusters sessions nodes begin starts says d past run).fresh ∙ subst (λ (q : Revision). draw_of past q ≡ Some f) (same_revision r d.revision same) h)))
        | false ↦ λ same. h
      ] refl
  keeps_one e past run r f h = h

  pub draw_stays : (added past : Past) → IsRunOf starts says clusters sessions begin (added ++ past) → (r : Revision) (d : Draw) → draw_of past r ≡ Some d → draw_of (added ++ past) r ≡ Some d
  draw_stays [] past run r d h = h
  draw_stays (e ∷ added) past run r d h = keeps_one e (added ++ past) run r d (draw_stays added past run.1 r d h)
