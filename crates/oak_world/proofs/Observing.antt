-- An answer of the documents lowers the number of asks that are left of a reading of what commits changed.
use Rattle.std.proofs.Common.{◌≡◌, ◌≢◌, ◌⊎◌, inl, inr, ℕ, suc, ◌≤◌, ◌<◌, Bool, true, false, cond, Some, None, Option, List, [], ◌∷◌, length, is_some, refl, sym, ap, subst, ◌∙◌, arith}
use Rattle.std.specs.Prelude.{All, slice_get}
use Rattle.std.specs.List.{filter}
use Rattle.std.specs.Map.{keys_of}
use Rattle.std.specs.Option.{option_map, option_map_or}
use Rattle.std.specs.Ordering.{is_lt}
use Rattle.std.specs.declared.alloc.Global.{Global}
use Rattle.std.specs.declared.cmp.Ordering.TheVariants.{Less}
use Rattle.std.proofs.lemmas.List.Elements.{recursion_from_All}
use Rattle.jr_path.specs.Ids.{id_cmp}
use Rattle.jr_path.specs.declared.path.DocId.{DocId}
use Rattle.jr_path.specs.declared.path.DocId.TheVariants as id
use Rattle.jr_path.specs.declared.path.Path.{Path}
use Rattle.jr_rev.specs.declared.vector.Pin.{Pin}
use Rattle.jr_rev.specs.declared.vector.RevVec.{RevVec}
use Rattle.oak_changes.specs.Reading.{due, fed_next, noted, changes_on_main, changes_on_previous, changes_on_roots, with_document}
use Rattle.oak_changes.specs.declared.changes.ChangesReader.{ChangesReader}
use Rattle.oak_changes.specs.declared.changes.Step.{Step}
use Rattle.oak_changes.specs.declared.changes.Step.TheVariants as step
use Rattle.oak_changes.specs.declared.said.Said.{Said}
use Rattle.oak_doc.specs.declared.asks.Ask.TheVariants as ask
use Rattle.oak_doc.specs.declared.document.Document.{Document}
use Rattle.oak_read.specs.Meaning.{documents_in}
use Rattle.oak_read.specs.Reading.{IsTable}
use Rattle.oak_read.specs.Wanted.{Ids, Known, left_of, previous_wanted, roots_wanted}
use Rattle.oak_read.specs.declared.wanted.Left.{Left}
use Rattle.oak_store.specs.Tables.{Table}
use Rattle.core_watch.proofs.Behind.{Entries, IsNext, behind, each_found, next_is, not_below_itself}
use Rattle.core_watch.proofs.Finite.{fewer_behind}
use Rattle.oak_step.specs.Parts.{changes_on}
use Rattle.oak_world.specs.Left.{Next, changes_left, documents_ahead, documents_behind, phase_told}
use Rattle.oak_world.proofs.Lowering.{next_less, previous_end, previous_less, rank, roots_end, roots_less}
use Rattle.oak_world.proofs.Reading.{ids_known}

-- no more ids pass a test than there are
few_pass : (test : DocId → Bool) (ids : List DocId) → length (filter test ids) ≤ length ids
few_pass test [] = omega arith
few_pass test (x ∷ ids) = by (test x) (few_pass test ids)
  where
    by : (b : Bool) → length (filter test ids) ≤ length ids → length (cond b (x ∷ filter test ids) (filter test ids)) ≤ length (x ∷ ids)
    by true h = omega (arith, h)
    by false h = omega (arith, h)

as_many : (es : Entries) → length (keys_of es) ≡ length es
as_many [] = refl
as_many (e ∷ es) = ap suc (as_many es)

-- behind the first of all there are fewer than all
pub behind_first : (e : DocId × Document) (more : Entries) (q : Path) → e.0 ≡ id.Node q → length (filter (λ x. is_lt (id_cmp (id.Node q) x)) (keys_of (e ∷ more))) < length (e ∷ more)
behind_first e more q same =
    let none : is_lt (id_cmp (id.Node q) e.0) ≡ false = ap (λ (x : DocId). is_lt (id_cmp (id.Node q) x)) same ∙ not_below_itself (id.Node q) in
    let rest = filter (λ x. is_lt (id_cmp (id.Node q) x)) (keys_of more) in
    let passed : length (filter (λ x. is_lt (id_cmp (id.Node q) x)) (keys_of (e ∷ more))) ≡ length rest = ap (λ b. length (cond b (e.0 ∷ rest) rest)) none in
    let most : length rest ≤ length (keys_of more) = few_pass (λ x. is_lt (id_cmp (id.Node q) x)) (keys_of more) in
    let count : length (keys_of more) ≡ length more = as_many more in
    omega (arith, passed, most, count)

module _ (t : Table) where
  -- ---- what an answer leads to

  -- a reader of changes stands at the node of this path, in at most this phase, and has the documents behind it ahead
  abbrev IsPast : ℕ → Path → ChangesReader → Type 0
  IsPast n p r = (rank (phase_told r) ≤ n) × (documents_ahead t r ≡ documents_behind t p)

  roots_past : (r : ChangesReader) → IsPast 1 r.at (changes_on_roots r)
  roots_past r = (omega arith, refl)

  past_more : (m n : ℕ) (p : Path) (r : ChangesReader) → m ≤ n → IsPast m p r → IsPast n p r
  past_more m n p r le h = let k = h.0 in (omega (arith, le, k), h.1)

  previous_past : (r : ChangesReader) → IsPast 2 r.at (changes_on_previous r)
  previous_past r = by (left_of (roots_wanted r.pin.sweep r.pin.base r.known true r.at))
    where
      by : (o : Option Left) → IsPast 2 r.at (option_map_or (λ left. record r { step = step.Roots left }) o (changes_on_roots r))
      by None = past_more 1 2 r.at (changes_on_roots r) (omega arith) (roots_past r)
      by (Some left) = (omega arith, refl)

  main_past : (r : ChangesReader) → IsPast 3 r.at (changes_on_main r)
  main_past r = by (left_of (previous_wanted r.known r.at))
    where
      by : (o : Option Left) → IsPast 3 r.at (option_map_or (λ left. record r { step = step.Previous left }) o (changes_on_previous r))
      by None = past_more 2 3 r.at (changes_on_previous r) (omega arith) (previous_past r)
      by (Some left) = (omega arith, refl)

  -- ---- a step

  abbrev Lowers : ChangesReader → Type 0
  Lowers r = changes_left t (changes_on t r) < changes_left t r

  -- nothing more is due, or it has fewer documents ahead
  abbrev IsFurther : ℕ → ChangesReader → Type 0
  IsFurther n r = (due r ≡ ask.Done) ⊎ ((rank (phase_told r) ≤ 3) × (documents_ahead t r < n))

  module _ (a : Global) (from : RevVec) (pin : Pin) (at : Path) (known : Known) (said : List Said) where
    abbrev reader : Step → ChangesReader
    reader s = record { alloc = a; from = from; pin = pin; at = at; known = known; said = said; step = s }

    abbrev next : Step → ChangesReader
    next s = changes_on t (reader s)

    previous_lowers : (x : DocId) (ids : Ids) → Lowers (reader (step.Previous (record { first = x; rest = ids })))
    previous_lowers x [] =
        let s = step.Previous (record { first = x; rest = [] }) in
        let past = previous_past (noted (reader s) x (documents_in t.documents x)) in
        previous_end (changes_on t) phase_told (reader s) (documents_behind t at) (documents_ahead t (next s)) past.1 refl past.0
    previous_lowers x (e ∷ es) = previous_less (changes_on t) phase_told (reader (step.Previous (record { first = x; rest = e ∷ es }))) (documents_behind t at) (documents_behind t at) (length es) refl refl refl

    roots_lower : (x : DocId) (ids : Ids) → Lowers (reader (step.Roots (record { first = x; rest = ids })))
    roots_lower x [] =
        let s = step.Roots (record { first = x; rest = [] }) in
        let past = roots_past (noted (reader s) x (documents_in t.documents x)) in
        roots_end (changes_on t) phase_told (reader s) (documents_behind t at) (documents_ahead t (next s)) past.1 refl past.0
    roots_lower x (e ∷ es) = roots_less (changes_on t) phase_told (reader (step.Roots (record { first = x; rest = e ∷ es }))) (documents_behind t at) (documents_behind t at) (length es) refl refl refl

    -- the document of a node comes
    at_node : (n : ℕ) (s : Step) (q : Path) (d : Document) → documents_behind t q < n → IsFurther n (with_document (reader s) (id.Node q) d)
    at_node n s q d few =
        let past = main_past (record (reader s) { at = q; known = (id.Node q, d) ∷ [] }) in
        inr (past.0, subst (λ (k : ℕ). k < n) (sym past.1) few)

    first_further : IsTable t.documents → IsFurther (length t.documents) (next step.First)
    first_further table = by t.documents refl
      where
        by : (es : Entries) → t.documents ≡ es → IsFurther (length t.documents) (fed_next (reader step.First) (option_map (λ e. e.1) (slice_get es 0)))
        by [] none = inl refl
        by (e ∷ more) is = subst (λ (x : DocId). IsFurther (length t.documents) (with_document (reader step.First) x e.1)) (sym id_is) (kind e.0 refl)
          where
            id_is : e.1.id ≡ e.0
            id_is = (recursion_from_All (λ e. e.1.id ≡ e.0) (e ∷ more) (subst (λ (es : Entries). All (λ e. e.1.id ≡ e.0) es) is table.named)).0

            kind : (x : DocId) → e.0 ≡ x → IsFurther (length t.documents) (with_document (reader step.First) x e.1)
            kind (id.Node q) same =
                at_node (length t.documents) step.First q e.1
                (subst (λ (es : Entries). length (filter (λ x. is_lt (id_cmp (id.Node q) x)) (keys_of es)) < length es) (sym is) (behind_first e more q same))
            kind (id.Prev n q) same = inl refl
            kind id.Settings same = inl refl

    next_further : IsTable t.documents → IsFurther (documents_behind t at) (next step.Next)
    next_further table = first (behind (id.Node at) t.documents) refl
      where
        first : (es : Entries) → behind (id.Node at) t.documents ≡ es → IsFurther (documents_behind t at) (fed_next (reader step.Next) (option_map (λ e. e.1) (slice_get es 0)))
        first [] none = inl refl
        first (e ∷ more) is_first = subst (λ (x : DocId). IsFurther (documents_behind t at) (with_document (reader step.Next) x e.1)) (sym id_is) (kind e.0 refl)
          where
            found : IsNext (id.Node at) t.documents e
            found = next_is (id.Node at) t.documents e more table.ordered is_first

            id_is : e.1.id ≡ e.0
            id_is = each_found (λ x d. d.id ≡ x) t.documents (recursion_from_All (λ e. e.1.id ≡ e.0) t.documents table.named) e.0 e.1 found.found

            kind : (x : DocId) → e.0 ≡ x → IsFurther (documents_behind t at) (with_document (reader step.Next) x e.1)
            kind (id.Node q) same =
                let less : id_cmp (id.Node at) (id.Node q) ≡ Less = subst (λ (x : DocId). id_cmp (id.Node at) x ≡ Less) same found.above in
                let there : is_some (documents_in t.documents (id.Node q)) ≡ true = subst (λ (x : DocId). is_some (documents_in t.documents x) ≡ true) same (ap is_some found.found) in
                at_node (documents_behind t at) step.Next q e.1 (fewer_behind (id.Node at) (id.Node q) less (keys_of t.documents) (ids_known t.documents (id.Node q) there))
            kind (id.Prev n q) same = inl refl
            kind id.Settings same = inl refl

    goes_further : (s : Step) (n : ℕ) → phase_told (reader s) ≡ Next → documents_ahead t (reader s) ≡ n → due (next s) ≢ ask.Done → IsFurther n (next s) → Lowers (reader s)
    goes_further s n is ahead more (inl over) = absurd (more over)
    goes_further s n is ahead more (inr h) = next_less (changes_on t) phase_told (reader s) (documents_ahead t (reader s)) (documents_ahead t (next s)) (subst (λ (k : ℕ). documents_ahead t (next s) < k) (sym ahead) h.1) is h.0

    step_lowers : IsTable t.documents → (s : Step) → due (next s) ≢ ask.Done → Lowers (reader s)
    step_lowers table step.First more = goes_further step.First (length t.documents) refl refl more (first_further table)
    step_lowers table step.Next more = goes_further step.Next (documents_behind t at) refl refl more (next_further table)
    step_lowers table (step.Previous left) more = previous_lowers left.first left.rest
    step_lowers table (step.Roots left) more = roots_lower left.first left.rest
    step_lowers table (step.Done o) more = absurd (more refl)

  -- an answer lowers the number, where more is due behind it
  pub changes_lower : IsTable t.documents → (r : ChangesReader) → due (changes_on t r) ≢ ask.Done → changes_left t (changes_on t r) < changes_left t r
  changes_lower table r more = step_lowers r.alloc r.from r.pin r.at r.known r.said table r.step more
