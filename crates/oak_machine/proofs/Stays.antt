-- The tree that a vector sees stays as it is while events are added, where all that it sees had ended.
use Rattle.std.proofs.Common.{◌≡◌, ℕ, Bool, true, false, cond, ◌&&◌, not, Some, None, Option, List, [], ◌∷◌, ◌++◌, refl, sym, ap, ◌∙◌, subst}
use Rattle.std.specs.Option.{option_map_or}
use Rattle.std.specs.declared.cmp.Ordering.{Ordering}
use Rattle.std.specs.declared.cmp.Ordering.TheVariants.{Less, Equal, Greater}
use Rattle.std.specs.Ordering.{match_ordering}
use Rattle.std.specs.BTreeMap.{insert_entry}
use Rattle.std.specs.List.{filter, list_any}
use mathlib.Core.Bool.{false≢true}
use Rattle.jr_rev.specs.declared.revision.Revision.{Revision}
use Rattle.jr_rev.specs.declared.vector.RevVec.{RevVec}
use Rattle.jr_rev.specs.Revisions.{revision_cmp}
use Rattle.jr_rev.specs.Vectors.{sees}
use Rattle.jr_rev.proofs.Order.{revision_exact}
use Rattle.jr_tree.specs.declared.edit.Write.{Write}
use Rattle.oak_machine.specs.declared.event.Draw.{Draw}
use Rattle.oak_machine.specs.declared.event.Event.{Event}
use Rattle.oak_machine.specs.declared.event.Event.TheVariants as event
use Rattle.oak_machine.specs.History.{Begin, Past, begin_tree}
use Rattle.oak_machine.specs.Commits.{draw_of, is_drawn, is_ended, is_end_of, applied_all, committed_edits, tree_at}
use Rattle.oak_machine.specs.Laws.{Starts, Says}
use Rattle.oak_machine.specs.Runs.{IsRunOf}
use Rattle.oak_machine.proofs.Induction.{first_of_both, still_drawn}
use Rattle.std.proofs.lemmas.Bool.{or_right}

-- what some event of the past passes, some event of a longer past passes
pub any_later : (test : Event → Bool) (added past : Past) → list_any test past ≡ true → list_any test (added ++ past) ≡ true
any_later test [] past h = h
any_later test (e ∷ added) past h = or_right (test e) _ (any_later test added past h)

in_flight_not_ended : (a b : Bool) → (a && not b) ≡ true → b ≡ true → false ≡ true
in_flight_not_ended true true h e = h
in_flight_not_ended true false h e = e
in_flight_not_ended false b h e = h

-- an entry that fails the test changes nothing of what passes
filter-insert_unseen : (v : RevVec) (r : Revision) (ws : List Write) → sees v r ≡ false → (es : List (Revision × List Write)) → filter (λ e. sees v e.0) (insert_entry revision_cmp es r ws) ≡ filter (λ e. sees v e.0) es
filter-insert_unseen v r ws unseen [] = ap (λ b. cond b ((r, ws) ∷ []) []) unseen
filter-insert_unseen v r ws unseen (e ∷ es) = by (filter-insert_unseen v r ws unseen es) (revision_cmp r e.0) refl
  where
    kept : List (Revision × List Write) → List (Revision × List Write)
    kept all = filter (λ e. sees v e.0) all

    by : kept (insert_entry revision_cmp es r ws) ≡ kept es → (o : Ordering) → revision_cmp r e.0 ≡ o → kept (match_ordering o ((r, ws) ∷ e ∷ es) ((e.0, ws) ∷ es) (e ∷ insert_entry revision_cmp es r ws)) ≡ kept (e ∷ es)
    by rest Less h = ap (λ b. cond b ((r, ws) ∷ kept (e ∷ es)) (kept (e ∷ es))) unseen
    by rest Equal h =
        let same : sees v e.0 ≡ false = subst (λ (q : Revision). sees v q ≡ false) (revision_exact r e.0 h) unseen in
        ap (λ b. cond b ((e.0, ws) ∷ kept es) (kept es)) same ∙ sym (ap (λ b. cond b (e ∷ kept es) (kept es)) same)
    by rest Greater h = ap (λ tail. cond (sees v e.0) (e ∷ tail) tail) rest

module _ (starts : Starts) (says : Says) (clusters : ℕ) (sessions : List ℕ) (begin : Begin) (v : RevVec) (past : Past) where
  -- each revision drawn by now that v sees had ended in the past
  abbrev pub HadEnded : Past → Type 0
  HadEnded now = (r : Revision) → is_drawn now r ≡ true → sees v r ≡ true → is_ended past r ≡ true

  unseen_commit : (added : Past) (r : Revision) → (is_drawn (added ++ past) r && not (is_ended (added ++ past) r)) ≡ true → HadEnded (added ++ past) → (b : Bool) → sees v r ≡ b → b ≡ false
  unseen_commit added r flying had false h = refl
  unseen_commit added r flying had true h =
      absurd (false≢true (in_flight_not_ended _ _ flying (any_later (is_end_of r) added past (had r (first_of_both _ _ flying) h))))

  dropped : (es : List (Revision × List Write)) (r : Revision) → sees v r ≡ false → (o : Option Draw) → filter (λ e. sees v e.0) (option_map_or (λ d. insert_entry revision_cmp es r d.edit.writes) o es) ≡ filter (λ e. sees v e.0) es
  dropped es r unseen None = refl
  dropped es r unseen (Some d) = filter-insert_unseen v r d.edit.writes unseen es

  pub edits_stay : (added : Past) → IsRunOf starts says clusters sessions begin (added ++ past) → HadEnded (added ++ past) → filter (λ e. sees v e.0) (committed_edits (added ++ past)) ≡ filter (λ e. sees v e.0) (committed_edits past)
  edits_stay [] run had = refl
  edits_stay (event.Commit r ∷ added) run had =
      dropped (committed_edits (added ++ past)) r (let b : sees v r ≡ false = unseen_commit added r run.0.open_.in_flight had (sees v r) refl in b) (draw_of (added ++ past) r) ∙ edits_stay added run.1 had
  edits_stay (event.Draw d ∷ added) run had = edits_stay added run.1 (λ r drawn seen. had r (still_drawn _ d (added ++ past) r drawn) seen)
  edits_stay (e ∷ added) run had = edits_stay added run.1 had

  pub tree_stays : (added : Past) → IsRunOf starts says clusters sessions begin (added ++ past) → HadEnded (added ++ past) → tree_at begin (added ++ past) v ≡ tree_at begin past v
  tree_stays added run had = ap (applied_all (begin_tree begin)) (edits_stay added run had)
