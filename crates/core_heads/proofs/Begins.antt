-- What a store of many committers asks of a draw of a run.
use Rattle.std.proofs.Common.{◌≡◌, ℕ, ◌≤◌, Bool, true, false, cond, Some, None, Option, List, ◌∷◌, is_some, refl, ap, ◌∙◌, arith}
use Rattle.std.specs.Option.{option_map_or}
use Rattle.jr_rev.specs.declared.revision.Revision.{Revision}
use Rattle.jr_rev.specs.Revisions.{is_same}
use Rattle.jr_rev.specs.Vectors.{sees, start_of}
use Rattle.oak_machine.specs.declared.event.Draw.{Draw}
use Rattle.oak_machine.specs.declared.event.Event.TheVariants as event
use Rattle.oak_machine.specs.History.{Begin, Past}
use Rattle.oak_machine.specs.Commits.{draw_of, is_in_base}
use Rattle.oak_machine.specs.Laws.{Starts, Says}
use Rattle.oak_machine.specs.Runs.{IsRunOf, AreNodes}
use Rattle.core_read.proofs.Latest.{before_itself}
use Rattle.core_read.specs.Told.{IsFreshDraw}
use Rattle.core_heads.specs.Sound.{Begins}
use Rattle.core_heads.proofs.Orders.{not_both}
use Rattle.core_heads.proofs.Runs.{fresh_run}

module _ (past : Past) (d : Draw) (new : IsFreshDraw past d) (positive : 1 ≤ d.revision.time) where
  itself : is_same d.revision d.revision ≡ true
  itself = ap Rattle.std.specs.Ordering.is_eq (Rattle.std.specs.Cmp.tied_itself Rattle.jr_rev.proofs.Order.revision_total d.revision)

  own : (o : Revision) → is_in_base (event.Draw d ∷ past) d.revision o ≡ sees d.base o
  own o = ap (λ (b : Bool). option_map_or (λ (e : Draw). sees e.base o) (cond b (Some d) (draw_of past d.revision)) false) itself

  unseen : (b : Bool) → sees d.base d.revision ≡ b → b ≡ false
  unseen true h = absurd (not_both _ (new.rises d.revision h) (before_itself d.revision))
  unseen false h = refl

  none_sees : (r : Revision) (o : Option Draw) → draw_of past r ≡ o → is_in_base past r d.revision ≡ false
  none_sees r None e = ap (λ (o : Option Draw). option_map_or (λ (g : Draw). sees g.base d.revision) o false) e
  none_sees r (Some e) k = new.hidden r e k

  pub begins : Begins past d
  begins = record {
    fresh = ap (λ (o : Option Draw). is_some o) new.fresh;
    later = λ r. none_sees r (draw_of past r) refl;
    itself = own d.revision ∙ unseen (sees d.base d.revision) refl;
    settled = λ o f. own o ∙ new.base.settled o f;
    start = own (start_of 1) ∙ new.base.begun;
    started = λ e. let t = ap (λ (r : Revision). r.time) e in omega arith;
  }

pub begins_run : (clusters : ℕ) (sessions : List ℕ) → AreNodes clusters sessions → (begin : Begin) (starts : Starts) (says : Says) (d : Draw) (past : Past) → IsRunOf starts says clusters sessions begin (event.Draw d ∷ past) → Begins past d
begins_run clusters sessions nodes begin starts says d past run = begins past d (fresh_run clusters sessions nodes begin starts says d past run) (let t = ap (λ (r : Revision). r.time) run.0.next in omega arith)
