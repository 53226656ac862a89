-- A reader of changes ends, as long as but finitely many documents come.
use Rattle.std.proofs.Common.{◌≡◌, ℕ, ◌≤◌, ◌<◌, zero, suc, arith, length, ◌⊎◌, inl, inr, Bool, true, false, cond, Some, None, Option, List, [], ◌∷◌, refl, sym, ap, ◌∙◌, subst, is_some}
use Rattle.std.specs.Prelude.{slice_get}
use Rattle.std.specs.Option.{option_map, option_map_or}
use Rattle.std.specs.declared.alloc.Global.{Global}
use Rattle.std.specs.declared.cmp.Ordering.TheVariants.{Less}
use Rattle.std.specs.List.{filter}
use Rattle.std.proofs.lemmas.Bool.{cases_lt}
use Rattle.std.proofs.lemmas.List.Elements.{recursion_from_All}
use Rattle.jr_path.specs.Ids.{id_cmp}
use Rattle.jr_path.specs.declared.path.Path.{Path}
use Rattle.jr_path.specs.declared.path.DocId.{DocId}
use Rattle.jr_path.specs.declared.path.DocId.TheVariants as id
use Rattle.jr_rev.specs.declared.vector.RevVec.{RevVec}
use Rattle.jr_rev.specs.declared.vector.Pin.{Pin}
use Rattle.jr_tree.specs.declared.shared.CommitChanges.{CommitChanges}
use Rattle.oak_changes.specs.Reading.{changes_reader, due, fed, fed_next, changes_on_main, changes_on_previous, changes_on_roots, with_document}
use Rattle.oak_changes.specs.declared.changes.ChangesReader.{ChangesReader}
use Rattle.oak_changes.specs.declared.changes.Step.{Step}
use Rattle.oak_changes.specs.declared.changes.Step.TheVariants as step
use Rattle.oak_changes.specs.declared.said.Said.{Said}
use Rattle.oak_doc.specs.declared.document.Document.{Document}
use Rattle.oak_machine.specs.Changed.{changes_between}
use Rattle.oak_read.specs.Meaning.{documents_in}
use Rattle.oak_read.specs.Reading.{answer, with_known}
use Rattle.oak_read.specs.Wanted.{Ids, Known, left_of, previous_wanted, roots_wanted}
use Rattle.oak_read.specs.declared.wanted.Left.{Left}
use Rattle.core_watch.proofs.Behind.{Entries, IsNext, behind, each_found, next_is}
use Rattle.core_watch.proofs.Finite.{behind_of, fewer_behind}
use Rattle.core_watch.specs.Instants.{first_instants, Instant}
use Rattle.core_watch.specs.Moments.{HasIdsAmong, Moment}
use Rattle.core_changes.proofs.Instants.{observing_done}
use Rattle.oak_machine.specs.declared.event.Start.{Start}
use Rattle.core_changes.specs.Instants.{after_instants, AreObservable, ChangesEndWith}

-- ---- what a step lowers

-- a reader is done
abbrev IsDone : Step → Type 0
IsDone (step.Done o) = Unit {0}
IsDone _ = ⊥

-- what comes behind a step at one node
abbrev phase : Step → ℕ
phase step.First = 4
phase (step.Previous left) = 3
phase (step.Roots left) = 2
phase step.Next = 1
phase (step.Done o) = 0

abbrev rest_of : Step → ℕ
rest_of (step.Previous left) = length left.rest
rest_of (step.Roots left) = length left.rest
rest_of _ = 0

abbrev answered : ChangesReader → Moment → ChangesReader
answered r m = fed r (answer m.table (due r))

shorter : (e : DocId × Unit {0}) (es : Ids) → length es < length (e ∷ es)
shorter e es = let long : length (e ∷ es) ≡ suc (length es) = refl in omega (arith, long)

few : (p : DocId → Bool) (ids : List DocId) → length (filter p ids) ≤ length ids
few p [] = omega arith
few p (k ∷ ids) = by (p k) (few p ids)
  where
    by : (b : Bool) → length (filter p ids) ≤ length ids → length (cond b (k ∷ filter p ids) (filter p ids)) ≤ length (k ∷ ids)
    by true h = omega (arith, h)
    by false h = omega (arith, h)

module _ (ids : List DocId) where
  -- how many of the ids are ahead
  abbrev ahead : ChangesReader → ℕ
  ahead r = by r.step
    where
      by : Step → ℕ
      by step.First = suc (length ids)
      by _ = behind_of ids (id.Node r.at)

  -- after an answer a reader is done, or at a later document, or further at the same
  abbrev Descends : ChangesReader → ChangesReader → Type 0
  Descends r r' = IsDone r'.step ⊎ ((ahead r' < ahead r) ⊎ ((ahead r' ≡ ahead r) × ((phase r'.step < phase r.step) ⊎ ((phase r'.step ≡ phase r.step) × (rest_of r'.step < rest_of r.step)))))

  module _ (a : Global) (from : RevVec) (pin : Pin) (at : Path) where
    abbrev reader : Known → List Said → Step → ChangesReader
    reader known said s = record { alloc = a; from = from; pin = pin; at = at; known = known; said = said; step = s }

    -- a reader at the node, in a later phase
    abbrev IsAt : ℕ → ChangesReader → Type 0
    IsAt p r' = (ahead r' ≡ behind_of ids (id.Node at)) × (phase r'.step < p)

    roots_at : (p : ℕ) (known : Known) (said : List Said) (s : Step) → 1 < p → IsAt p (changes_on_roots (reader known said s))
    roots_at p known said s h = (refl, h)

    previous_at : (p : ℕ) (known : Known) (said : List Said) (s : Step) → 2 < p → IsAt p (changes_on_previous (reader known said s))
    previous_at p known said s h = by (left_of (roots_wanted pin.sweep pin.base known true at))
      where
        by : (o : Option Left) → IsAt p (option_map_or (λ left. record (reader known said s) { step = step.Roots left }) o (changes_on_roots (reader known said s)))
        by None = roots_at p known said s (omega (arith, h))
        by (Some left) = (refl, h)

    main_at : (p : ℕ) (known : Known) (said : List Said) (s : Step) → 3 < p → IsAt p (changes_on_main (reader known said s))
    main_at p known said s h = by (left_of (previous_wanted known at))
      where
        by : (o : Option Left) → IsAt p (option_map_or (λ left. record (reader known said s) { step = step.Previous left }) o (changes_on_previous (reader known said s)))
        by None = previous_at p known said s (omega (arith, h))
        by (Some left) = (refl, h)

    previous_goes : (m : Moment) (known : Known) (said : List Said) (left : Left) → Descends (reader known said (step.Previous left)) (answered (reader known said (step.Previous left)) m)
    previous_goes m known said left = by left.rest refl
      where
        now : Known
        now = with_known known left.first (documents_in m.table left.first)

        by : (es : Ids) → left.rest ≡ es → Descends (reader known said (step.Previous left)) (option_map_or (λ more. record (reader now said (step.Previous left)) { step = step.Previous more }) (left_of es) (changes_on_previous (reader now said (step.Previous left))))
        by [] is = let h = previous_at 3 now said (step.Previous left) (omega arith) in inr (inr (h.0, inl h.1))
        by (e ∷ es) is = inr (inr (refl, inr (refl, subst (λ (xs : Ids). length es < length xs) (sym is) (shorter e es))))

    roots_go : (m : Moment) (known : Known) (said : List Said) (left : Left) → Descends (reader known said (step.Roots left)) (answered (reader known said (step.Roots left)) m)
    roots_go m known said left = by left.rest refl
      where
        now : Known
        now = with_known known left.first (documents_in m.table left.first)

        by : (es : Ids) → left.rest ≡ es → Descends (reader known said (step.Roots left)) (option_map_or (λ more. record (reader now said (step.Roots left)) { step = step.Roots more }) (left_of es) (changes_on_roots (reader now said (step.Roots left))))
        by [] is = let h = roots_at 2 now said (step.Roots left) (omega arith) in inr (inr (h.0, inl h.1))
        by (e ∷ es) is = inr (inr (refl, inr (refl, subst (λ (xs : Ids). length es < length xs) (sym is) (shorter e es))))

  module _ (a : Global) (from : RevVec) (pin : Pin) (at : Path) (m : Moment) (are : HasIdsAmong ids m) where
    first_goes : (known : Known) (said : List Said) → Descends (reader a from pin at known said step.First) (answered (reader a from pin at known said step.First) m)
    first_goes known said = by (slice_get m.table 0)
      where
        kind : (d : Document) (x : DocId) → Descends (reader a from pin at known said step.First) (with_document (reader a from pin at known said step.First) x d)
        kind d (id.Node q) =
            let at_q = main_at a from pin q 4 ((id.Node q, d) ∷ []) said step.First (omega arith) in
            let most : behind_of ids (id.Node q) ≤ length ids = few _ ids in
            inr (inl (subst (λ (n : ℕ). n < suc (length ids)) (sym at_q.0) (omega (arith, most))))
        kind d (id.Prev n q) = inl tt
        kind d id.Settings = inl tt

        by : (o : Option (DocId × Document)) → Descends (reader a from pin at known said step.First) (fed_next (reader a from pin at known said step.First) (option_map (λ e. e.1) o))
        by None = inl tt
        by (Some e) = kind e.1 e.1.id

    next_goes : (known : Known) (said : List Said) → Descends (reader a from pin at known said step.Next) (answered (reader a from pin at known said step.Next) m)
    next_goes known said = first (behind (id.Node at) m.table) refl
      where
        first : (es : Entries) → behind (id.Node at) m.table ≡ es → Descends (reader a from pin at known said step.Next) (fed_next (reader a from pin at known said step.Next) (option_map (λ e. e.1) (slice_get es 0)))
        first [] none = inl tt
        first (e ∷ more) is_first = subst (λ (x : DocId). Descends (reader a from pin at known said step.Next) (with_document (reader a from pin at known said step.Next) x e.1)) (sym id_is) (kind e.0 refl)
          where
            found : IsNext (id.Node at) m.table e
            found = next_is (id.Node at) m.table e more are.ordered.ordered is_first

            id_is : e.1.id ≡ e.0
            id_is = each_found (λ x d. d.id ≡ x) m.table (recursion_from_All (λ e. e.1.id ≡ e.0) m.table are.ordered.named) e.0 e.1 found.found

            kind : (x : DocId) → e.0 ≡ x → Descends (reader a from pin at known said step.Next) (with_document (reader a from pin at known said step.Next) x e.1)
            kind (id.Node q) same =
                let at_q = main_at a from pin q 4 ((id.Node q, e.1) ∷ []) said step.Next (omega arith) in
                let less : id_cmp (id.Node at) (id.Node q) ≡ Less = subst (λ (x : DocId). id_cmp (id.Node at) x ≡ Less) same found.above in
                let there : is_some (documents_in m.table (id.Node q)) ≡ true = subst (λ (x : DocId). is_some (documents_in m.table x) ≡ true) same (ap is_some found.found) in
                inr (inl (subst (λ (n : ℕ). n < behind_of ids (id.Node at)) (sym at_q.0) (fewer_behind (id.Node at) (id.Node q) less ids (are.among (id.Node q) there))))
            kind (id.Prev n q) same = inl tt
            kind id.Settings same = inl tt

    any_goes : (known : Known) (said : List Said) (s : Step) → Descends (reader a from pin at known said s) (answered (reader a from pin at known said s) m)
    any_goes known said step.First = first_goes known said
    any_goes known said step.Next = next_goes known said
    any_goes known said (step.Previous left) = previous_goes a from pin at m known said left
    any_goes known said (step.Roots left) = roots_go a from pin at m known said left
    any_goes known said (step.Done o) = inl tt

  descends : (m : Moment) (r : ChangesReader) → HasIdsAmong ids m → Descends r (answered r m)
  descends m r are = any_goes r.alloc r.from r.pin r.at m are r.known r.said r.step

  -- ---- the end

  abbrev Ends : (ℕ → Instant) → ChangesReader → Type 0
  Ends f r = (n : ℕ) × IsDone (after_instants (first_instants n f) r).step

  one_more : (f : ℕ → Instant) (r : ChangesReader) → Ends (λ i. f (suc i)) (answered r (f 0).moment) → Ends f r
  one_more f r e = (suc e.0, e.1)

  abbrev AreIn : (ℕ → Instant) → Type 0
  AreIn f = (i : ℕ) → HasIdsAmong ids (f i).moment

  -- each reader ends that has at most so many ids ahead, is at most in this phase, and has in it at most so many to read
  abbrev BelowIds : ℕ → Type 0
  BelowIds b = (f : ℕ → Instant) (r : ChangesReader) → AreIn f → ahead r < b → Ends f r

  abbrev BelowPhase : ℕ → ℕ → Type 0
  BelowPhase b p = (f : ℕ → Instant) (r : ChangesReader) → AreIn f → ahead r ≤ b → phase r.step < p → Ends f r

  abbrev InPhase : ℕ → ℕ → ℕ → Type 0
  InPhase b p k = (f : ℕ → Instant) (r : ChangesReader) → AreIn f → ahead r ≤ b → phase r.step ≡ p → rest_of r.step < k → Ends f r

  in_phase : (b p : ℕ) → BelowIds b → BelowPhase b p → (k : ℕ) → InPhase b p k
  in_phase b p ids_below phase_below zero f r are h in_p less = let none : ⊥ = omega (arith, less) in absurd none
  in_phase b p ids_below phase_below (suc k) f r are h in_p less = one_more f r (by (descends (f 0).moment r (are 0)) (λ f' r' are' h' in_p' less'. in_phase b p ids_below phase_below k f' r' are' h' in_p' less'))
    where
      by : Descends r (answered r (f 0).moment) → InPhase b p k → Ends (λ i. f (suc i)) (answered r (f 0).moment)
      by (inl done) rest = (0, done)
      by (inr (inl fewer)) rest = ids_below (λ i. f (suc i)) (answered r (f 0).moment) (λ i. are (suc i)) (omega (arith, h, fewer))
      by (inr (inr (same, inl lesser))) rest =
          phase_below (λ i. f (suc i)) (answered r (f 0).moment) (λ i. are (suc i)) (subst (λ (n : ℕ). n ≤ b) (sym same) h) (subst (λ (n : ℕ). phase (answered r (f 0).moment).step < n) in_p lesser)
      by (inr (inr (same, inr lesser))) rest =
          rest (λ i. f (suc i)) (answered r (f 0).moment) (λ i. are (suc i)) (subst (λ (n : ℕ). n ≤ b) (sym same) h) (lesser.0 ∙ in_p) (let shrunk = lesser.1 in omega (arith, less, shrunk))

  in_phases : (b : ℕ) → BelowIds b → (p : ℕ) → BelowPhase b p
  in_phases b ids_below zero f r are h less = let none : ⊥ = omega (arith, less) in absurd none
  in_phases b ids_below (suc p) f r are h less = by (same_or_less (phase r.step) p less) (λ f' r' are' h' less'. in_phases b ids_below p f' r' are' h' less')
    where
      same_or_less : (n p : ℕ) → n < suc p → (n ≡ p) ⊎ (n < p)
      same_or_less n p h = elim (cases_lt n p) [ inl k ↦ inr k | inr k ↦ inl (omega (arith, h, k)) ]

      by : (phase r.step ≡ p) ⊎ (phase r.step < p) → BelowPhase b p → Ends f r
      by (inl same) rest = in_phase b p ids_below rest (suc (rest_of r.step)) f r are h same (omega arith)
      by (inr lesser) rest = rest f r are h lesser

  phases_end : (s : Step) → phase s < 5
  phases_end step.First = omega arith
  phases_end (step.Previous left) = omega arith
  phases_end (step.Roots left) = omega arith
  phases_end step.Next = omega arith
  phases_end (step.Done o) = omega arith

  below_all : (b : ℕ) → BelowIds b
  below_all zero f r are less = let none : ⊥ = omega (arith, less) in absurd none
  below_all (suc b) f r are less = in_phases b (λ f' r' are' less'. below_all b f' r' are' less') 5 f r are (omega (arith, less)) (phases_end r.step)

  -- a reader of changes ends, where the ids of all documents that come are among these
  pub ends : (f : ℕ → Instant) (r : ChangesReader) → AreIn f → Ends f r
  ends f r are = below_all (suc (ahead r)) f r are (omega arith)

done_with : (s : Step) → IsDone s → (o : List CommitChanges) × (s ≡ step.Done o)
done_with (step.Done o) done = (o, refl)
done_with step.First done = absurd done
done_with step.Next done = absurd done
done_with (step.Previous left) done = absurd done
done_with (step.Roots left) done = absurd done

-- with what the commits change
pub changes_at_end : (start : Start) (ids : List DocId) (a : Global) (from : RevVec) (pin : Pin) (i : Instant) (f : ℕ → Instant) → ((n : ℕ) → AreObservable start from pin i (first_instants n f)) → ((n : ℕ) → HasIdsAmong ids (f n).moment)
    → ChangesEndWith (λ o. o ≡ changes_between (Some start) i.moment.past from pin.base) f (changes_reader a from pin)
changes_at_end start ids a from pin i f on are =
    let e = ends ids f (changes_reader a from pin) are in
    let o = done_with (after_instants (first_instants e.0 f) (changes_reader a from pin)).step e.1 in
    (e.0, o.0, o.1, observing_done start a from pin i (first_instants e.0 f) o.0 (on e.0) o.1)
