-- An answer of the documents lowers the number of asks that are left of a load or a list.
use Rattle.std.proofs.Common.{◌≡◌, ◌≢◌, ◌⊎◌, inl, inr, ℕ, ◌≤◌, ◌<◌, Bool, true, false, cond, ◌||◌, Some, None, Option, List, [], ◌∷◌, length, is_some, refl, ap, arith}
use Rattle.std.specs.Prelude.{is_none, slice_get}
use Rattle.std.specs.BTreeMap.{is_at}
use Rattle.std.specs.BTreeMap.Range.{entries_between}
use Rattle.std.specs.List.{list_any}
use Rattle.std.specs.Map.{keys_of, lookup}
use Rattle.std.specs.Option.{option_map, option_map_or}
use Rattle.std.specs.Ordering.{eq_by_cmp}
use Rattle.std.specs.declared.alloc.Global.{Global}
use Rattle.std.specs.declared.cmp.Ordering.TheVariants.{Less}
use Rattle.std.specs.declared.ops.Bound.TheVariants.{Excluded, Unbounded}
use Rattle.jr_path.specs.Ids.{id_cmp}
use Rattle.jr_path.specs.declared.path.DocId.{DocId}
use Rattle.jr_path.specs.declared.path.DocId.TheVariants as id
use Rattle.jr_path.specs.declared.path.Path.{Path}
use Rattle.jr_rev.specs.declared.vector.Pin.{Pin}
use Rattle.oak_doc.specs.declared.asks.Ask.TheVariants as ask
use Rattle.oak_doc.specs.declared.document.Document.{Document}
use Rattle.oak_read.specs.Meaning.{documents_in}
use Rattle.oak_read.specs.Reading.{IsTable, child_path_in, due, ended, fed_main, fed_next, noted, on_main, on_previous, on_roots, settled}
use Rattle.oak_read.specs.Wanted.{Ids, Known, left_of, previous_wanted, roots_wanted}
use Rattle.oak_read.specs.declared.reader.Reader.{Reader}
use Rattle.oak_read.specs.declared.reader.Step.{Step}
use Rattle.oak_read.specs.declared.reader.Step.TheVariants as step
use Rattle.oak_read.specs.declared.wanted.Left.{Left}
use Rattle.oak_store.specs.Tables.{Table}
use Rattle.core_watch.proofs.Ending.{next_rises}
use Rattle.core_watch.proofs.Finite.{fewer_behind}
use Rattle.core_watch.specs.Moments.{IsReaderDone}
use Rattle.core_watch.specs.Standing.{Child}
use Rattle.oak_step.specs.Parts.{read_on}
use Rattle.oak_world.specs.Left.{documents_behind, phase_of, reads_left}
use Rattle.oak_world.proofs.Lowering.{main_less, next_less, previous_end, previous_less, rank, roots_end, roots_less}

-- ---- documents behind a path

-- a document that is found is under one of the ids
pub ids_known : {X : Type 0} (es : List (DocId × X)) (x : DocId) → is_some (lookup (is_at (id_cmp x)) es) ≡ true → list_any (eq_by_cmp id_cmp x) (keys_of es) ≡ true
ids_known [] x h = h
ids_known (e ∷ es) x h = by (eq_by_cmp id_cmp x e.0) h (ids_known es x)
  where
    by : (b : Bool) → is_some (cond b (Some e.1) (lookup (is_at (id_cmp x)) es)) ≡ true → (is_some (lookup (is_at (id_cmp x)) es) ≡ true → list_any (eq_by_cmp id_cmp x) (keys_of es) ≡ true) → (b || list_any (eq_by_cmp id_cmp x) (keys_of es)) ≡ true
    by true h rest = refl
    by false h rest = rest h

-- ---- what a step leads to

-- a reader is at this path, in at most this phase
abbrev IsPast : ℕ → Path → Reader → Type 0
IsPast n p r = (rank (phase_of r) ≤ n) × (r.at ≡ p)

roots_past : (r : Reader) → IsPast 1 r.at (on_roots r)
roots_past r = by r.alloc r.pin r.parent r.at r.known r.names r.step
  where
    by : (a : Global) (pin : Pin) (parent : Option Path) (at : Path) (known : Known) (names : List Child) (s : Step) → IsPast 1 at (on_roots (record { alloc = a; pin = pin; parent = parent; at = at; known = known; names = names; step = s }))
    by a pin None at known names s = (omega arith, refl)
    by a pin (Some p) at known names s = (omega arith, refl)

past_more : (m n : ℕ) (p : Path) (r : Reader) → m ≤ n → IsPast m p r → IsPast n p r
past_more m n p r le h = let k = h.0 in (omega (arith, le, k), h.1)

previous_past : (r : Reader) → IsPast 2 r.at (on_previous r)
previous_past r = by (left_of (roots_wanted r.pin.sweep r.pin.base r.known (is_none r.parent) r.at))
  where
    by : (o : Option Left) → IsPast 2 r.at (option_map_or (λ left. record r { step = step.Roots left }) o (on_roots r))
    by None = past_more 1 2 r.at (on_roots r) (omega arith) (roots_past r)
    by (Some left) = (omega arith, refl)

main_past : (r : Reader) → IsPast 3 r.at (on_main r)
main_past r = by (left_of (previous_wanted r.known r.at))
  where
    by : (o : Option Left) → IsPast 3 r.at (option_map_or (λ left. record r { step = step.Previous left }) o (on_previous r))
    by None = past_more 2 3 r.at (on_previous r) (omega arith) (previous_past r)
    by (Some left) = (omega arith, refl)

-- ---- a step

module _ (t : Table) where
  abbrev Lowers : Reader → Type 0
  Lowers r = reads_left t (read_on t r) < reads_left t r

  -- as many documents are behind a reader that is at the same path
  same_behind : (p q : Path) → q ≡ p → documents_behind t q ≡ documents_behind t p
  same_behind p q same = ap (documents_behind t) same

  module _ (a : Global) (pin : Pin) (parent : Option Path) (at : Path) (known : Known) (names : List Child) where
    abbrev reader : Step → Reader
    reader s = record { alloc = a; pin = pin; parent = parent; at = at; known = known; names = names; step = s }

    abbrev behind : Reader → ℕ
    behind q = documents_behind t q.at

    abbrev next : Step → Reader
    next s = read_on t (reader s)

    main_lowers : Lowers (reader step.Main)
    main_lowers =
        let past = by parent (documents_in t.documents (id.Node at)) in
        main_less (read_on t) phase_of (reader step.Main) (documents_behind t at) (behind (next step.Main)) (same_behind at (next step.Main).at past.1) refl past.0
      where
        by : (q : Option Path) (o : Option Document) → IsPast 3 at (fed_main (record { alloc = a; pin = pin; parent = q; at = at; known = known; names = names; step = step.Main }) o)
        by None None = (omega arith, refl)
        by (Some p) None = (omega arith, refl)
        by q (Some d) = main_past (noted (record { alloc = a; pin = pin; parent = q; at = at; known = known; names = names; step = step.Main }) (id.Node at) (Some d))

    previous_lowers : (x : DocId) (ids : Ids) → Lowers (reader (step.Previous (record { first = x; rest = ids })))
    previous_lowers x [] =
        let s = step.Previous (record { first = x; rest = [] }) in
        let past = previous_past (noted (reader s) x (documents_in t.documents x)) in
        previous_end (read_on t) phase_of (reader s) (documents_behind t at) (behind (next s)) (same_behind at (next s).at past.1) refl past.0
    previous_lowers x (e ∷ es) = previous_less (read_on t) phase_of (reader (step.Previous (record { first = x; rest = e ∷ es }))) (documents_behind t at) (documents_behind t at) (length es) refl refl refl

    roots_lower : (x : DocId) (ids : Ids) → Lowers (reader (step.Roots (record { first = x; rest = ids })))
    roots_lower x [] =
        let s = step.Roots (record { first = x; rest = [] }) in
        let past = roots_past (noted (reader s) x (documents_in t.documents x)) in
        roots_end (read_on t) phase_of (reader s) (documents_behind t at) (behind (next s)) (same_behind at (next s).at past.1) refl past.0
    roots_lower x (e ∷ es) = roots_less (read_on t) phase_of (reader (step.Roots (record { first = x; rest = e ∷ es }))) (documents_behind t at) (documents_behind t at) (length es) refl refl refl

    next_past : rank (phase_of (next step.Next)) ≤ 3
    next_past = by (slice_get (entries_between id_cmp (Excluded (id.Node at)) Unbounded t.documents) 0)
      where
        by : (o : Option (DocId × Document)) → rank (phase_of (fed_next (reader step.Next) (option_map (λ e. e.1) o))) ≤ 3
        by None = omega arith
        by (Some e) = child (child_path_in parent e.1.id)
          where
            child : (o : Option Path) → rank (phase_of (option_map_or (λ q. settled (noted (record (reader step.Next) { at = q }) e.1.id (Some e.1))) o (ended (reader step.Next)))) ≤ 3
            child None = omega arith
            child (Some q) = (main_past (noted (record (reader step.Next) { at = q }) e.1.id (Some e.1))).0

    next_lowers : IsTable t.documents → (IsReaderDone (next step.Next).step → ⊥) → Lowers (reader step.Next)
    next_lowers table undone = by (next_rises (record { table = t.documents; past = [] }) (reader step.Next) table refl)
      where
        by : IsReaderDone (next step.Next).step ⊎ ((id_cmp (id.Node at) (id.Node (next step.Next).at) ≡ Less) × (is_some (documents_in t.documents (id.Node (next step.Next).at)) ≡ true)) → Lowers (reader step.Next)
        by (inl done) = absurd (undone done)
        by (inr risen) =
            next_less (read_on t) phase_of (reader step.Next) (documents_behind t at) (behind (next step.Next))
            (fewer_behind (id.Node at) (id.Node (next step.Next).at) risen.0 (keys_of t.documents) (ids_known t.documents (id.Node (next step.Next).at) risen.1))
            refl next_past

    step_lowers : IsTable t.documents → (s : Step) → (IsReaderDone (next s).step → ⊥) → Lowers (reader s)
    step_lowers table step.Main undone = main_lowers
    step_lowers table (step.Previous left) undone = previous_lowers left.first left.rest
    step_lowers table (step.Roots left) undone = roots_lower left.first left.rest
    step_lowers table step.Next undone = next_lowers table undone
    step_lowers table (step.Done o) undone = absurd (undone tt)

  done_due : (r : Reader) → IsReaderDone r.step → due r ≡ ask.Done
  done_due r = by r.alloc r.pin r.parent r.at r.known r.names r.step
    where
      by : (a : Global) (pin : Pin) (parent : Option Path) (at : Path) (known : Known) (names : List Child) (s : Step) → IsReaderDone s → due (record { alloc = a; pin = pin; parent = parent; at = at; known = known; names = names; step = s }) ≡ ask.Done
      by a pin parent at known names (step.Done o) done = refl
      by a pin parent at known names step.Main done = absurd done
      by a pin parent at known names step.Next done = absurd done
      by a pin parent at known names (step.Previous left) done = absurd done
      by a pin parent at known names (step.Roots left) done = absurd done

  -- an answer lowers the number, where more is due behind it
  pub read_lowers : IsTable t.documents → (r : Reader) → due (read_on t r) ≢ ask.Done → reads_left t (read_on t r) < reads_left t r
  read_lowers table r more = step_lowers r.alloc r.pin r.parent r.at r.known r.names table r.step (λ done. more (done_due (read_on t r) done))
