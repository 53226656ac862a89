-- The draw that a session made for the command that it has not answered yet.
use Rattle.std.proofs.Common.{◌≡◌, ℕ, Bool, true, false, cond, Option, Some, List, [], ◌∷◌, is_some, refl, sym, ap, ◌∙◌, subst}
use Rattle.std.specs.Prelude.{◌==◌, option_map}
use Rattle.std.specs.Ordering.{is_eq}
use Rattle.std.specs.Cmp.{tied_itself}
use Rattle.std.specs.Option.{unwrap_or}
use Rattle.std.proofs.lemmas.Bool.{false≢true}
use Rattle.jr_rev.specs.Revisions.{is_same}
use Rattle.jr_rev.proofs.Order.{revision_total, same_revision}
use Rattle.oak_machine.specs.declared.event.Draw.{Draw}
use Rattle.oak_machine.specs.declared.event.Event.TheVariants as event
use Rattle.oak_machine.specs.History.{Begin, Past}
use Rattle.oak_machine.specs.Commits.{draw_of}
use Rattle.oak_machine.specs.Laws.{Says, Starts}
use Rattle.oak_machine.specs.Runs.{AreNodes, IsRunOf}
use Rattle.oak_machine.specs.Sessions.{drawn_since, since}
use Rattle.core_heads.proofs.Orders.{same_number}
use Rattle.core_heads.proofs.Runs.{fresh_run}
use Rattle.jcr_law.proofs.Answered.{drawn_among_is}
use Rattle.jcr_law.specs.Since.{draw_among, draw_since, is_beginning}

-- its revision
pub drawn_is : (past : Past) (s : ℕ) → drawn_since past s ≡ option_map (λ d. d.revision) (draw_since past s)
drawn_is past s = drawn_among_is (since past s) s

module _ (starts : Starts) (says : Says) (clusters : ℕ) (sessions : List ℕ) (nodes : AreNodes clusters sessions) (begin : Begin) (s : ℕ) (d : Draw) where
  -- it is a draw of s, and that of its revision
  abbrev pub IsDrawn : Past → Type 0
  IsDrawn past = (d.session ≡ s) × (draw_of past d.revision ≡ Some d)

  own : (e : Draw) (past : Past) → (e.session == s) ≡ true → e ≡ d → IsDrawn (event.Draw e ∷ past)
  own e past of same = subst (λ (x : Draw). (x.session ≡ s) × (draw_of (event.Draw e ∷ past) x.revision ≡ Some x)) same
      (same_number e.session s of, ap (λ (b : Bool). cond b (Some e) (draw_of past e.revision)) (ap is_eq (tied_itself revision_total e.revision)))

  older : (e : Draw) (past : Past) → IsRunOf starts says clusters sessions begin (event.Draw e ∷ past) → IsDrawn past → IsDrawn (event.Draw e ∷ past)
  older e past run (of, is) = (of, by (is_same d.revision e.revision) refl)
    where
      by : (b : Bool) → is_same d.revision e.revision ≡ b → cond b (Some e) (draw_of past d.revision) ≡ Some d
      by true same = absurd (false≢true (ap is_some (sym (ap (draw_of past) (same_revision d.revision e.revision same) ∙ (fresh_run clusters sessions nodes begin starts says e past run).fresh) ∙ is)))
      by false apart = is

  pub draw_known : (past : Past) → IsRunOf starts says clusters sessions begin past → draw_since past s ≡ Some d → IsDrawn past
  draw_known [] run is = absurd (false≢true (ap is_some is))
  draw_known (event.Draw e ∷ past) run is =
      elim (e.session == s) as (λ b. (e.session == s) ≡ b → cond b (Some e) (draw_among (since past s) s) ≡ Some d → IsDrawn (event.Draw e ∷ past)) [
        | true ↦ λ of same. own e past of (ap (λ (o : Option Draw). unwrap_or o d) same)
        | false ↦ λ other same. older e past run (draw_known past run.1 same)
      ] refl is
  draw_known (e ∷ past) run is =
      elim (is_beginning s e) as (λ b. draw_among (cond b [] (e ∷ since past s)) s ≡ Some d → IsDrawn (e ∷ past)) [
        | true ↦ λ none. absurd (false≢true (ap is_some none))
        | false ↦ λ same. draw_known past run.1 same
      ] is
