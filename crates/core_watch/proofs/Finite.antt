-- A reader ends, as long as but finitely many documents come.
use Rattle.std.proofs.Common.{◌≡◌, ℕ, ◌≤◌, ◌<◌, zero, suc, arith, length, ◌⊎◌, inl, inr, Bool, true, false, cond, Some, None, Option, List, [], ◌∷◌, refl, sym, ap, ◌∙◌, subst}
use Rattle.std.specs.Prelude.{is_some, is_none, ◌||◌}
use Rattle.std.specs.Option.{option_map_or}
use Rattle.std.specs.declared.alloc.Global.{Global}
use Rattle.std.specs.declared.cmp.Ordering.TheVariants.{Less}
use Rattle.std.specs.Ordering.{eq_by_cmp, is_lt}
use Rattle.std.specs.List.{filter, list_any}
use Rattle.std.proofs.lemmas.Bool.{cases_lt}
use mathlib.Core.Bool.{false≢true}
use Rattle.jr_path.specs.Ids.{id_cmp}
use Rattle.jr_path.specs.declared.path.Path.{Path}
use Rattle.jr_path.specs.declared.path.DocId.{DocId}
use Rattle.jr_path.specs.declared.path.DocId.TheVariants as id
use Rattle.jr_path.proofs.Orders.{id_total}
use Rattle.jr_rev.specs.declared.vector.Pin.{Pin}
use Rattle.oak_doc.specs.declared.document.Document.{Document}
use Rattle.oak_read.specs.Meaning.{documents_in}
use Rattle.oak_read.specs.Wanted.{Known, Ids, left_of, previous_wanted, roots_wanted}
use Rattle.oak_read.specs.Reading.{IsTable, fed_main, on_main, on_previous, on_roots, with_known}
use Rattle.oak_read.specs.declared.wanted.Left.{Left}
use Rattle.oak_read.specs.declared.reader.Reader.{Reader}
use Rattle.oak_read.specs.declared.reader.ReadOut.{ReadOut}
use Rattle.oak_read.specs.declared.reader.Step.{Step}
use Rattle.oak_read.specs.declared.reader.Step.TheVariants as step
use Rattle.oak_read.proofs.Walking.{same_id}
use Rattle.core_read.proofs.Entries.{is_less}
use Rattle.core_watch.specs.Standing.{Child}
use Rattle.core_watch.specs.Moments.{Moment, HasIdsAmong, answered, after_moments, first_moments, IsReaderDone}
use Rattle.core_watch.proofs.Behind.{not_below_itself}
use Rattle.core_watch.proofs.Ending.{next_rises}

-- ---- what a step lowers

-- what comes behind a step at one node
abbrev phase : Step → ℕ
phase step.Main = 4
phase (step.Previous left) = 3
phase (step.Roots left) = 2
phase step.Next = 1
phase (step.Done o) = 0

abbrev rest_of : Step → ℕ
rest_of (step.Previous left) = length left.rest
rest_of (step.Roots left) = length left.rest
rest_of _ = 0

abbrev IsLower : Step → Step → Type 0
IsLower s' s = (phase s' < phase s) ⊎ ((phase s' ≡ phase s) × (rest_of s' < rest_of s))

-- after an answer a reader is done, or at a later document, or further at the same
abbrev Moves : Moment → Path → Step → Reader → Type 0
Moves m at s r' = IsReaderDone r'.step ⊎ (((id_cmp (id.Node at) (id.Node r'.at) ≡ Less) × (is_some (documents_in m.table (id.Node r'.at)) ≡ true)) ⊎ ((r'.at ≡ at) × IsLower r'.step s))

module _ (m : Moment) (a : Global) (pin : Pin) (at : Path) (names : List Child) where
  abbrev reader : Option Path → Known → Step → Reader
  reader parent known s = record { alloc = a; pin = pin; parent = parent; at = at; known = known; names = names; step = s }

  roots_move : (parent : Option Path) (known : Known) (s s' : Step) → 1 < phase s → Moves m at s (on_roots (reader parent known s'))
  roots_move None known s s' h = inl tt
  roots_move (Some p) known s s' h = inr (inr (refl, inl h))

  previous_move : (parent : Option Path) (known : Known) (s s' : Step) → 2 < phase s → Moves m at s (on_previous (reader parent known s'))
  previous_move parent known s s' h = by (left_of (roots_wanted pin.sweep pin.base known (is_none parent) at))
    where
      by : (o : Option Left) → Moves m at s (option_map_or (λ left. record (reader parent known s') { step = step.Roots left }) o (on_roots (reader parent known s')))
      by None = roots_move parent known s s' (omega (arith, h))
      by (Some left) = inr (inr (refl, inl h))

  main_move : (parent : Option Path) (known : Known) → Moves m at step.Main (on_main (reader parent known step.Main))
  main_move parent known = by (left_of (previous_wanted known at))
    where
      by : (o : Option Left) → Moves m at step.Main (option_map_or (λ left. record (reader parent known step.Main) { step = step.Previous left }) o (on_previous (reader parent known step.Main)))
      by None = previous_move parent known step.Main step.Main (omega arith)
      by (Some left) = inr (inr (refl, inl (omega arith)))

  first_move : (parent : Option Path) (known : Known) (o : Option Document) → Moves m at step.Main (fed_main (reader parent known step.Main) o)
  first_move None known None = inl tt
  first_move (Some p) known None = inr (inr (refl, inl (omega arith)))
  first_move parent known (Some d) = main_move parent (with_known known (id.Node at) (Some d))

  shorter : (e : DocId × Unit {0}) (es : Ids) → length es < length (e ∷ es)
  shorter e es = let long : length (e ∷ es) ≡ suc (length es) = refl in omega (arith, long)

  roots_left_move : (parent : Option Path) (known : Known) (left : Left) → Moves m at (step.Roots left) (answered (reader parent known (step.Roots left)) m)
  roots_left_move parent known left = by left.rest refl
    where
      now : Known
      now = with_known known left.first (documents_in m.table left.first)

      by : (ids : Ids) → left.rest ≡ ids → Moves m at (step.Roots left) (option_map_or (λ more. record (reader parent now (step.Roots left)) { step = step.Roots more }) (left_of ids) (on_roots (reader parent now (step.Roots left))))
      by [] is = roots_move parent now (step.Roots left) (step.Roots left) (omega arith)
      by (e ∷ es) is = inr (inr (refl, inr (refl, subst (λ (ids : Ids). length es < length ids) (sym is) (shorter e es))))

  previous_left_move : (parent : Option Path) (known : Known) (left : Left) → Moves m at (step.Previous left) (answered (reader parent known (step.Previous left)) m)
  previous_left_move parent known left = by left.rest refl
    where
      now : Known
      now = with_known known left.first (documents_in m.table left.first)

      by : (ids : Ids) → left.rest ≡ ids → Moves m at (step.Previous left) (option_map_or (λ more. record (reader parent now (step.Previous left)) { step = step.Previous more }) (left_of ids) (on_previous (reader parent now (step.Previous left))))
      by [] is = previous_move parent now (step.Previous left) (step.Previous left) (omega arith)
      by (e ∷ es) is = inr (inr (refl, inr (refl, subst (λ (ids : Ids). length es < length ids) (sym is) (shorter e es))))

  any_move : IsTable m.table → (parent : Option Path) (known : Known) (s : Step) → Moves m at s (answered (reader parent known s) m)
  any_move is parent known step.Main = first_move parent known (documents_in m.table (id.Node at))
  any_move is parent known (step.Previous left) = previous_left_move parent known left
  any_move is parent known (step.Roots left) = roots_left_move parent known left
  any_move is parent known (step.Done o) = inl tt
  any_move is parent known step.Next = by (next_rises m (reader parent known step.Next) is refl)
    where
      by : IsReaderDone (answered (reader parent known step.Next) m).step ⊎ ((id_cmp (id.Node at) (id.Node (answered (reader parent known step.Next) m).at) ≡ Less) × (is_some (documents_in m.table (id.Node (answered (reader parent known step.Next) m).at)) ≡ true))
          → Moves m at step.Next (answered (reader parent known step.Next) m)
      by (inl done) = inl done
      by (inr risen) = inr (inl risen)

moves : (m : Moment) (r : Reader) → IsTable m.table → Moves m r.at r.step (answered r m)
moves m r is = any_move m r.alloc r.pin r.at r.names is r.parent r.known r.step

-- ---- the documents that are left

-- how many of some ids are behind one
abbrev pub behind_of : List DocId → DocId → ℕ
behind_of ids x = length (filter (λ k. is_lt (id_cmp x k)) ids)

still_less : (x y k : DocId) → id_cmp x y ≡ Less → is_lt (id_cmp y k) ≡ true → is_lt (id_cmp x k) ≡ true
still_less x y k h l = ap is_lt (id_total.trans x y k h (is_less (id_cmp y k) l))

module _ (x y : DocId) (less : id_cmp x y ≡ Less) where
  abbrev over : DocId → List DocId → List DocId
  over z ids = filter (λ k. is_lt (id_cmp z k)) ids

  -- an id more
  at_most : (k : DocId) (ids : List DocId) → length (over y ids) ≤ length (over x ids) → length (over y (k ∷ ids)) ≤ length (over x (k ∷ ids))
  at_most k ids h = by (is_lt (id_cmp y k)) refl (is_lt (id_cmp x k)) refl
    where
      by : (b : Bool) → is_lt (id_cmp y k) ≡ b → (c : Bool) → is_lt (id_cmp x k) ≡ c → length (cond b (k ∷ over y ids) (over y ids)) ≤ length (cond c (k ∷ over x ids) (over x ids))
      by true p true q = omega (arith, h)
      by true p false q = absurd (false≢true (sym q ∙ still_less x y k less p))
      by false p true q = omega (arith, h)
      by false p false q = h

  as_few : (ids : List DocId) → length (over y ids) ≤ length (over x ids)
  as_few [] = omega arith
  as_few (k ∷ ids) = at_most k ids (as_few ids)

  -- behind a later document there are fewer
  pub fewer_behind : (ids : List DocId) → list_any (eq_by_cmp id_cmp y) ids ≡ true → behind_of ids y < behind_of ids x
  fewer_behind [] h = absurd (false≢true h)
  fewer_behind (k ∷ ids) h = by (eq_by_cmp id_cmp y k) refl h (λ j. fewer_behind ids j)
    where
      -- the id itself is behind x and not behind y
      own : length (cond false (k ∷ over y ids) (over y ids)) < length (cond true (k ∷ over x ids) (over x ids))
      own = let rest = as_few ids in omega (arith, rest)

      other : length (over y ids) < length (over x ids) → (b : Bool) → is_lt (id_cmp y k) ≡ b → (c : Bool) → is_lt (id_cmp x k) ≡ c → length (cond b (k ∷ over y ids) (over y ids)) < length (cond c (k ∷ over x ids) (over x ids))
      other h true p true q = omega (arith, h)
      other h true p false q = absurd (false≢true (sym q ∙ still_less x y k less p))
      other h false p true q = omega (arith, h)
      other h false p false q = h

      by : (b : Bool) → eq_by_cmp id_cmp y k ≡ b → (b || list_any (eq_by_cmp id_cmp y) ids) ≡ true → (list_any (eq_by_cmp id_cmp y) ids ≡ true → length (over y ids) < length (over x ids)) → length (over y (k ∷ ids)) < length (over x (k ∷ ids))
      by true e j rest =
          let same : y ≡ k = same_id y k e in
          subst (λ (b : Bool). length (cond b (k ∷ over y ids) (over y ids)) < length (over x (k ∷ ids))) (sym (subst (λ (z : DocId). is_lt (id_cmp y z) ≡ false) same (not_below_itself y)))
          (subst (λ (c : Bool). length (over y ids) < length (cond c (k ∷ over x ids) (over x ids))) (sym (subst (λ (z : DocId). is_lt (id_cmp x z) ≡ true) same (ap is_lt less))) own)
      by false e j rest = other (rest j) (is_lt (id_cmp y k)) refl (is_lt (id_cmp x k)) refl

-- ---- the end

abbrev Ends : (ℕ → Moment) → Reader → Type 0
Ends f r = (n : ℕ) × IsReaderDone (after_moments (first_moments n f) r).step

one_more : (f : ℕ → Moment) (r : Reader) → Ends (λ i. f (suc i)) (answered r (f 0)) → Ends f r
one_more f r e = (suc e.0, e.1)

module _ (ids : List DocId) where
  abbrev AreIn : (ℕ → Moment) → Type 0
  AreIn f = (i : ℕ) → HasIdsAmong ids (f i)

  -- each reader ends that has at most so many ids behind it, is at most in this phase, and has in it at most so many to read
  abbrev WithIds : ℕ → Type 0
  WithIds b = (f : ℕ → Moment) (r : Reader) → AreIn f → behind_of ids (id.Node r.at) ≤ b → Ends f r

  abbrev BelowIds : ℕ → Type 0
  BelowIds b = (f : ℕ → Moment) (r : Reader) → AreIn f → behind_of ids (id.Node r.at) < b → Ends f r

  abbrev BelowPhase : ℕ → ℕ → Type 0
  BelowPhase b p = (f : ℕ → Moment) (r : Reader) → AreIn f → behind_of ids (id.Node r.at) ≤ b → phase r.step < p → Ends f r

  abbrev InPhase : ℕ → ℕ → ℕ → Type 0
  InPhase b p k = (f : ℕ → Moment) (r : Reader) → AreIn f → behind_of ids (id.Node r.at) ≤ b → phase r.step ≡ p → rest_of r.step < k → Ends f r

  in_phase : (b p : ℕ) → BelowIds b → BelowPhase b p → (k : ℕ) → InPhase b p k
  in_phase b p ids_below phase_below zero f r are h in_p less = let none : ⊥ = omega (arith, less) in absurd none
  in_phase b p ids_below phase_below (suc k) f r are h in_p less = one_more f r (by (moves (f 0) r (are 0).ordered) (λ f' r' are' h' in_p' less'. in_phase b p ids_below phase_below k f' r' are' h' in_p' less'))
    where
      by : Moves (f 0) r.at r.step (answered r (f 0)) → InPhase b p k → Ends (λ i. f (suc i)) (answered r (f 0))
      by (inl done) rest = (0, done)
      by (inr (inl risen)) rest =
          let fewer_left : behind_of ids (id.Node (answered r (f 0)).at) < behind_of ids (id.Node r.at) = fewer_behind (id.Node r.at) (id.Node (answered r (f 0)).at) risen.0 ids ((are 0).among (id.Node (answered r (f 0)).at) risen.1) in
          ids_below (λ i. f (suc i)) (answered r (f 0)) (λ i. are (suc i)) (omega (arith, h, fewer_left))
      by (inr (inr (same, inl lesser))) rest =
          phase_below (λ i. f (suc i)) (answered r (f 0)) (λ i. are (suc i)) (subst (λ (q : Path). behind_of ids (id.Node q) ≤ b) (sym same) h) (subst (λ (n : ℕ). phase (answered r (f 0)).step < n) in_p lesser)
      by (inr (inr (same, inr lesser))) rest =
          rest (λ i. f (suc i)) (answered r (f 0)) (λ i. are (suc i)) (subst (λ (q : Path). behind_of ids (id.Node q) ≤ b) (sym same) h) (lesser.0 ∙ in_p) (let shrunk = lesser.1 in omega (arith, less, shrunk))

  in_phases : (b : ℕ) → BelowIds b → (p : ℕ) → BelowPhase b p
  in_phases b ids_below zero f r are h less = let none : ⊥ = omega (arith, less) in absurd none
  in_phases b ids_below (suc p) f r are h less = by (same_or_less (phase r.step) p less) (λ f' r' are' h' less'. in_phases b ids_below p f' r' are' h' less')
    where
      same_or_less : (n p : ℕ) → n < suc p → (n ≡ p) ⊎ (n < p)
      same_or_less n p h = elim (cases_lt n p) [ inl k ↦ inr k | inr k ↦ inl (omega (arith, h, k)) ]

      by : (phase r.step ≡ p) ⊎ (phase r.step < p) → BelowPhase b p → Ends f r
      by (inl same) rest = in_phase b p ids_below rest (suc (rest_of r.step)) f r are h same (omega arith)
      by (inr lesser) rest = rest f r are h lesser

  phases_end : (s : Step) → phase s < 5
  phases_end step.Main = omega arith
  phases_end (step.Previous left) = omega arith
  phases_end (step.Roots left) = omega arith
  phases_end step.Next = omega arith
  phases_end (step.Done o) = omega arith

  below_all : (b : ℕ) → BelowIds b
  below_all zero f r are less = let none : ⊥ = omega (arith, less) in absurd none
  below_all (suc b) f r are less = in_phases b (λ f' r' are' less'. below_all b f' r' are' less') 5 f r are (omega (arith, less)) (phases_end r.step)

  -- a reader ends, where the ids of all documents that come are among these
  pub ends : (f : ℕ → Moment) (r : Reader) → AreIn f → Ends f r
  ends f r are = below_all (suc (behind_of ids (id.Node r.at))) f r are (omega arith)

-- ---- with what the tree has

pub done_with : (s : Step) → IsReaderDone s → (o : ReadOut) × (s ≡ step.Done o)
done_with (step.Done o) done = (o, refl)
done_with step.Main done = absurd done
done_with step.Next done = absurd done
done_with (step.Previous left) done = absurd done
done_with (step.Roots left) done = absurd done
