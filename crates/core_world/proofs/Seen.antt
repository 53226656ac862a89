-- What a settled base sees is committed later only if it is now.
use Rattle.std.proofs.Common.{◌≡◌, Bool, true, false, cond, not, Some, None, Option, ℕ, List, ◌∷◌, is_some, refl, sym, ap, ◌∙◌, subst, inl, inr}
use Rattle.std.specs.BTreeMap.{insert_entry}
use Rattle.std.specs.Option.{option_map_or}
use Rattle.std.specs.Ordering.{eq_by_cmp}
use mathlib.Core.Bool.{false≢true}
use Rattle.jr_path.proofs.Maps.{lookup-insert_entry}
use Rattle.jr_rev.specs.declared.revision.Revision.{Revision}
use Rattle.jr_rev.specs.declared.vector.RevVec.{RevVec}
use Rattle.jr_rev.specs.Revisions.{revision_cmp}
use Rattle.jr_rev.specs.Vectors.{sees}
use Rattle.jr_rev.proofs.Order.{revision_total}
use Rattle.jr_tree.specs.declared.edit.Write.{Write}
use Rattle.oak_doc.specs.Updates.{of_revision}
use Rattle.oak_machine.specs.declared.event.Draw.{Draw}
use Rattle.oak_machine.specs.declared.event.Event.{Event}
use Rattle.oak_machine.specs.declared.event.Event.TheVariants as event
use Rattle.oak_machine.specs.History.{Past, Begin}
use Rattle.oak_machine.specs.Commits.{committed_edits, draw_of, is_drawn, is_ended, IsSettled}
use Rattle.oak_machine.specs.Laws.{Says, Starts}
use Rattle.oak_machine.specs.Runs.{IsRunOf}
use Rattle.core_heads.proofs.Orders.{and_both}
use Rattle.core_read.proofs.Latest.{same_revision}
use Rattle.core_begun.specs.Told.{edit_since}
use Rattle.core_clash.proofs.Basics.{or_cases, or_left, or_right}
use Rattle.core_keep.specs.Keeps.{edit_in, is_done}
use Rattle.core_keep.specs.From.{course_from}
use Rattle.core_begun.proofs.Sound.{found as edit_is}
use Rattle.oak_machine.specs.declared.event.Start.{Start}

module _ (starts : Starts) (says : Says) (clusters : ℕ) (sessions : List ℕ) (begin : Begin) where
  edit_stays : (e : Event) (past : Past) → IsRunOf starts says clusters sessions begin (e ∷ past) → (v : RevVec) → IsSettled past v → (r : Revision) → sees v r ≡ true → is_some (edit_since (e ∷ past) r) ≡ true → is_some (edit_since past r) ≡ true
  edit_stays (event.Commit q) past run v settled r seen some = by (draw_of past q) refl
    where
      told : Option Draw → Option (List Write)
      told o = of_revision (option_map_or (λ d. insert_entry revision_cmp (committed_edits past) q d.edit.writes) o (committed_edits past)) r

      never : eq_by_cmp revision_cmp r q ≡ true → ⊥
      never h =
          let flight = and_both (is_drawn past q) (not (is_ended past q)) run.0.open_.in_flight in
          let ended : is_ended past q ≡ true = settled q flight.0 (subst (λ (x : Revision). sees v x ≡ true) (same_revision r q h) seen) in
          false≢true (sym (ap not ended) ∙ flight.1)

      last : (y z : Option (List Write)) (b : Bool) → eq_by_cmp revision_cmp r q ≡ b → is_some (cond b y z) ≡ true → is_some z ≡ true
      last y z true h k = absurd (never h)
      last y z false h k = k

      by : (o : Option Draw) → draw_of past q ≡ o → is_some (edit_since past r) ≡ true
      by None h = sym (ap (λ o. is_some (told o)) h) ∙ some
      by (Some d) h = last (Some d.edit.writes) (of_revision (committed_edits past) r) (eq_by_cmp revision_cmp r q) refl
          (sym (ap (λ o. is_some (told o)) h ∙ ap is_some (lookup-insert_entry revision_cmp revision_total r q d.edit.writes (committed_edits past))) ∙ some)
  edit_stays e past run v settled r seen some = some

  pub seen_stays : (start : Start) (e : Event) (past : Past) → IsRunOf starts says clusters sessions begin (e ∷ past) → (v : RevVec) → IsSettled past v → (r : Revision) → sees v r ≡ true → is_done (course_from start (e ∷ past)) r ≡ true → is_done (course_from start past) r ≡ true
  seen_stays start e past run v settled r seen done =
      elim (or_cases (is_some (edit_in (course_from start (e ∷ past)) r)) (sees start.at r) done) [
        | inl h ↦ or_left (is_some (edit_in (course_from start past) r)) _ (ap is_some (edit_is past r) ∙ edit_stays e past run v settled r seen (sym (ap is_some (edit_is (e ∷ past) r)) ∙ h))
        | inr old ↦ or_right (is_some (edit_in (course_from start past) r)) _ old
      ]
