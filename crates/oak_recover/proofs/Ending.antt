-- A recovery over documents at rest undoes what is dead, document by document, and ends.
use Rattle.std.proofs.Common.{◌≡◌, ◌≢◌, ℕ, zero, suc, ◌+◌, ◌-◌, ◌^◌, ◌≤◌, min, Bool, true, false, cond, not, ◌&&◌, List, [], ◌∷◌, ◌++◌, fold, length, map, Option, None, Some, refl, sym, ap, subst, ◌∙◌, arith, append_assoc}
use Rattle.std.specs.Prelude.{◌==◌, nat_lt, option_to_list, slice_get, IsTrue}
use Rattle.std.specs.BTreeMap.{is_at}
use Rattle.std.specs.BTreeMap.Range.{entries_between}
use Rattle.std.specs.List.{AllByRecursion, cons_option, filter_map, flat_map}
use Rattle.std.specs.List.Sorted.{IsStrictlySortedBy}
use Rattle.std.specs.Map.{keys_of, lookup}
use Rattle.std.specs.Option.{option_and_then, option_map, option_map_or, unwrap_or}
use Rattle.std.specs.Ordering.{eq_by_cmp, is_lt, ordering_reverse}
use Rattle.std.specs.declared.cmp.Ordering.{Ordering}
use Rattle.std.specs.declared.cmp.Ordering.TheVariants.{Less, Equal, Greater}
use Rattle.std.specs.declared.ops.Bound.TheVariants.{Excluded, Unbounded}
use Rattle.std.proofs.lemmas.Cmp.{tied_itself}
use Rattle.std.proofs.lemmas.Option.{slice_get_past}
use Rattle.std.proofs.lemmas.List.Elements.{recursion_from_All}
use mathlib.Core.Bool.{false≢true}
use Rattle.jr_path.specs.Ids.{id_cmp, node_path}
use Rattle.jr_path.specs.declared.path.Path.{Path}
use Rattle.jr_path.specs.declared.path.DocId.{DocId}
use Rattle.jr_path.specs.declared.path.DocId.TheVariants as id
use Rattle.jr_path.proofs.Orders.{id_exact, id_total, tested}
use Rattle.jr_rev.specs.declared.revision.Revision.{Revision}
use Rattle.jr_rev.specs.declared.vector.RevVec.{RevVec}
use Rattle.jr_rev.specs.Revisions.{is_before, revision_cmp}
use Rattle.jr_rev.specs.Vectors.{entry, start_of}
use Rattle.jr_rev.proofs.Order.{revision_total}
use Rattle.oak_doc.specs.declared.document.Document.{Document}
use Rattle.oak_doc.specs.declared.asks.Ask.TheVariants as ask
use Rattle.oak_doc.specs.declared.asks.Reply.TheVariants as reply
use Rattle.oak_read.specs.Meaning.{documents_in}
use Rattle.oak_read.specs.Reading as reading
use Rattle.oak_read.specs.Wanted.{Ids}
use Rattle.oak_sync.specs.Publishing.{back_op}
use Rattle.oak_sync.specs.Upward.{AreUpward}
use Rattle.oak_recover.specs.Dead.{dead_in}
use Rattle.oak_recover.specs.Ending.{EndsBy, IsRecoveryRun, RecoversAll, recovery_answer, dead, documents_of_nodes, latest_in, noted, published, undone_at, undone_by, with_latest}
use Rattle.oak_recover.specs.Reading.{Doubts, read_of}
use Rattle.oak_recover.specs.Recovering.{begun, due, fed, fed_next, on_next_status, node_document, one_more, passed, published_in, document_told, undoing, upto_after, upto_told}
use Rattle.oak_recover.specs.declared.entries.After.{After}
use Rattle.oak_recover.specs.declared.reading.Reading.{Reading}
use Rattle.oak_recover.specs.declared.recovery.Recovery.{Recovery}
use Rattle.oak_recover.specs.declared.recovery.Step.{Step}
use Rattle.oak_recover.specs.declared.recovery.Step.TheVariants as step
use Rattle.oak_recover.proofs.Asking.{asked_at, asking, dead_left}
use Rattle.oak_recover.proofs.Greatest.{committed_is}

-- revisions, and those in doubt, at a document
abbrev at_id : DocId → List Revision → List (DocId × Revision)
at_id x rs = map (λ r. (x, r)) rs

abbrev doubts_at : DocId → Doubts → List (DocId × Revision)
doubts_at x es = map (λ e. (x, e.0)) es

abbrev Entries : Type 0
Entries = List (DocId × Document)

-- ---- what stands behind an id

abbrev behind : DocId → Entries → Entries
behind x es = entries_between id_cmp (Excluded x) Unbounded es

passes_if : (o : Ordering) → o ≡ Less → (is_lt o && not false) ≡ true
passes_if Less e = refl
passes_if Equal e = cc
passes_if Greater e = cc

passes_not : (o : Ordering) → o ≢ Less → (is_lt o && not false) ≡ false
passes_not Less e = absurd (e refl)
passes_not Equal e = refl
passes_not Greater e = refl

all_pass : (x : DocId) (es : Entries) → AllByRecursion (λ y. id_cmp x y ≡ Less) (keys_of es) → behind x es ≡ es
all_pass x [] h = refl
all_pass x (e ∷ es) h = ap (λ b. cond b (e ∷ behind x es) (behind x es)) (passes_if (id_cmp x e.0) h.0) ∙ ap (λ (rest : Entries). e ∷ rest) (all_pass x es h.1)

below_member : (x : DocId) (front more : Entries) (e : DocId × Document) → AllByRecursion (λ y. id_cmp x y ≡ Less) (keys_of (front ++ e ∷ more)) → id_cmp x e.0 ≡ Less
below_member x [] more e h = h.0
below_member x (f ∷ front) more e h = below_member x front more e h.1

-- behind an entry of documents in store order stand the others behind it
behind_front : (front more : Entries) (e : DocId × Document) → IsStrictlySortedBy id_cmp (keys_of (front ++ e ∷ more)) → behind e.0 (front ++ e ∷ more) ≡ more
unfolding IsStrictlySortedBy
behind_front [] more e h =
    ap (λ b. cond b (e ∷ behind e.0 more) (behind e.0 more)) (passes_not (id_cmp e.0 e.0) (λ l. let k : Less ≡ Equal = sym l ∙ tied_itself id_total e.0 in cc))
    ∙ all_pass e.0 more h.0
behind_front (f ∷ front) more e h =
    ap (λ b. cond b (f ∷ behind e.0 (front ++ e ∷ more)) (behind e.0 (front ++ e ∷ more)))
    (passes_not (id_cmp e.0 f.0) (λ l. let k : Less ≡ Greater = sym l ∙ (id_total.antisymm e.0 f.0 ∙ ap ordering_reverse (below_member f.0 front more e h.0)) in cc))
    ∙ behind_front front more e h.1

-- no node stands behind another document
none_after : (x : DocId) → node_path x ≡ None → (es : Entries) → AllByRecursion (λ y. id_cmp x y ≡ Less) (keys_of es) → filter_map (λ (e : DocId × Document). option_map_or (λ p. Some e.1) (node_path e.0) None) es ≡ []
none_after x other [] h = refl
none_after x other (e ∷ es) h =
    ap (λ o. cons_option (option_map_or (λ (p : Path). Some e.1) o None) (filter_map (λ (e : DocId × Document). option_map_or (λ p. Some e.1) (node_path e.0) None) es)) (by x e.0 other h.0)
    ∙ none_after x other es h.1
  where
    by : (x y : DocId) → node_path x ≡ None → id_cmp x y ≡ Less → node_path y ≡ None
    by (id.Node p) y e less = cc
    by (id.Prev n p) (id.Node q) e less = cc
    by (id.Prev n p) (id.Prev m q) e less = refl
    by (id.Prev n p) id.Settings e less = refl
    by id.Settings (id.Node q) e less = cc
    by id.Settings (id.Prev m q) e less = refl
    by id.Settings id.Settings e less = refl

-- what is found at an entry
found_front : (front more : Entries) (e : DocId × Document) → IsStrictlySortedBy id_cmp (keys_of (front ++ e ∷ more)) → documents_in (front ++ e ∷ more) e.0 ≡ Some e.1
unfolding IsStrictlySortedBy
found_front [] more e h = ap (λ b. cond b (Some e.1) (documents_in more e.0)) ((tested id_total id_exact e.0 e.0).1 refl)
found_front (f ∷ front) more e h = ap (λ b. cond b (Some f.1) (documents_in (front ++ e ∷ more) e.0)) (apart (eq_by_cmp id_cmp e.0 f.0) refl) ∙ found_front front more e h.1
  where
    less : id_cmp f.0 e.0 ≡ Less
    less = below_member f.0 front more e h.0

    apart : (b : Bool) → eq_by_cmp id_cmp e.0 f.0 ≡ b → b ≡ false
    apart false k = refl
    apart true k = let t : Less ≡ Equal = sym less ∙ (ap (λ x. id_cmp f.0 x) ((tested id_total id_exact e.0 f.0).0 k) ∙ tied_itself id_total f.0) in cc

-- what is passed has the same pin and node
passed_sweep : (s : Recovery) → (passed s).sweep ≡ s.sweep
passed_sweep s = by s.reading.committed
  where
    by : (o : Option Revision) → (Rattle.oak_recover.specs.Recovering.passed_with s o).sweep ≡ s.sweep
    by None = refl
    by (Some r) = refl

passed_after : (s : Recovery) → (passed s).after ≡ s.after
passed_after s = by s.reading.committed
  where
    by : (o : Option Revision) → (Rattle.oak_recover.specs.Recovering.passed_with s o).after ≡ s.after
    by None = refl
    by (Some r) = refl

-- it says no less
later_least : (u r l : Revision) → is_before u l ≡ false → is_before (cond (is_before u r) r u) l ≡ false
later_least u r l least = by (is_before u r) refl
  where
    from_lt : (o : Ordering) → is_lt o ≡ true → o ≡ Less
    from_lt Less i = refl
    from_lt Equal i = absurd (false≢true i)
    from_lt Greater i = absurd (false≢true i)

    back : is_before u r ≡ true → (b : Bool) → is_before r l ≡ b → b ≡ false
    back e false f = refl
    back e true f = absurd (false≢true (sym least ∙ ap is_lt (revision_total.trans u r l (from_lt (revision_cmp u r) e) (from_lt (revision_cmp r l) f))))

    by : (b : Bool) → is_before u r ≡ b → is_before (cond b r u) l ≡ false
    by false e = least
    by true e = back e (is_before r l) refl

passed_least : (s : Recovery) (l : Revision) → is_before s.upto l ≡ false → is_before (passed s).upto l ≡ false
passed_least s l least = by s.reading.committed
  where
    by : (o : Option Revision) → is_before (Rattle.oak_recover.specs.Recovering.passed_with s o).upto l ≡ false
    by None = least
    by (Some r) = later_least s.upto r l least

passed_undone : (s : Recovery) → (passed s).undone ≡ s.undone
passed_undone s = by s.reading.committed
  where
    by : (o : Option Revision) → (Rattle.oak_recover.specs.Recovering.passed_with s o).undone ≡ s.undone
    by None = refl
    by (Some r) = refl

-- ---- how many are undone

-- the count after these
abbrev counted : List (DocId × Revision) → ℕ → ℕ
counted us n = fold (λ n u. one_more n) n us

counted_more : (us vs : List (DocId × Revision)) (n : ℕ) → counted (us ++ vs) n ≡ counted vs (counted us n)
counted_more [] vs n = refl
counted_more (u ∷ us) vs n = counted_more us vs (one_more n)

-- it is their number, as far as that can be told
counted_all : (us : List (DocId × Revision)) (n : ℕ) → n ≤ 2 ^ 64 - 1 → counted us n ≡ min (n + length us) (2 ^ 64 - 1)
counted_all [] n h = omega (arith, h)
counted_all (u ∷ us) n h = counted_all us (one_more n) (omega (arith, h)) ∙ omega (arith, h)

counted_first : (us : List (DocId × Revision)) → counted us 0 ≡ min (length us) (2 ^ 64 - 1)
counted_first us = counted_all us 0 (omega arith) ∙ omega arith

module _ (table : Entries) (is : reading.IsTable table) (t : RevVec) (k : ℕ) (first : Recovery) (run : ℕ → Recovery) (runs : IsRecoveryRun table first run) where
  -- the first document's revisions that are looked at, and whose
  abbrev looks : After
  looks = record { cluster = k; last = published table t k }

  -- from where it stands so, these are undone, and it ends, with these noted, so far published, and so many counted
  abbrev Ends : Recovery → List (DocId × Revision) → List Path → Revision → ℕ → Type 0
  Ends s us ps u c = (n : ℕ) → run n ≡ s → (m : ℕ) × (due (run m) ≡ ask.Done) × (undone_by run m ≡ undone_by run n ++ us) × ((run m).noted ≡ ps) × AreUpward (run m).noted (run m).paths × ((run m).upto ≡ u) × ((run m).undone ≡ c)

  one_step : (s e : Recovery) (us : List (DocId × Revision)) (ps : List Path) (u : Revision) (c : ℕ) → ((up : List Path) → fed up s (recovery_answer table (due s)) ≡ e) → Ends e us ps u c → Ends s (undone_at s ++ us) ps u c
  one_step s e us ps u c goes ends n at =
      let next : run (suc n) ≡ e = (runs.next n).fed ∙ (ap (λ (x : Recovery). fed (run (suc n)).paths x (recovery_answer table (due x))) at ∙ goes (run (suc n)).paths) in
      let v = ends (suc n) next in
      (v.0, v.1, v.2 ∙ (ap (λ (x : Recovery). (undone_by run n ++ undone_at x) ++ us) at ∙ append_assoc (undone_by run n) (undone_at s) us), v.3, v.4, v.5, v.6)

  -- it has ended
  ended_now : (s : Recovery) → due s ≡ ask.Done → AreUpward s.noted s.paths → Ends s [] s.noted s.upto s.undone
  ended_now s done up n at = (n, ap due at ∙ done, sym (end (undone_by run n)), ap (λ (x : Recovery). x.noted) at, subst (λ (x : Recovery). AreUpward x.noted x.paths) (sym at) up, ap (λ (x : Recovery). x.upto) at, ap (λ (x : Recovery). x.undone) at)
    where
      end : (us : List (DocId × Revision)) → us ++ [] ≡ us
      end [] = refl
      end (u ∷ us) = ap (λ rest. u ∷ rest) (end us)

  -- ---- the documents that are told

  made : (s : Recovery) (o : Option Document) (up : List Path) → fed up s (option_map_or (λ d. reply.Updated (Some d)) o reply.Absent) ≡ Rattle.oak_recover.specs.Recovering.fed_update s o
  made s None up = refl
  made s (Some d) up = refl

  settings : (s : Recovery) → AreUpward s.noted s.paths → Ends (record s { step = step.Settings }) [] s.noted s.upto s.undone
  settings s up = one_step (record s { step = step.Settings }) (record s { step = step.Done }) [] s.noted s.upto s.undone (λ ps. made (record s { step = step.Settings }) (documents_in table id.Settings) ps) (ended_now (record s { step = step.Done }) refl up)

  backs : (j : ℕ) (s : Recovery) → s.written + j ≡ length s.paths → upto_told s.after.cluster s.upto (documents_in table (id.Node [])) ≡ s.upto → AreUpward s.noted s.paths → Ends (record s { step = step.Back }) [] s.noted s.upto s.undone
  backs zero s all rests up = ended_now (record s { step = step.Back }) (ap (λ (o : Option Path). option_map_or (λ p. ask.Update (Rattle.oak_recover.specs.Recovering.told_op p s.upto)) o ask.Done) (slice_get_past s.paths s.written (omega (arith, all)))) up
  backs (suc j) s all rests up = by (slice_get s.paths s.written) refl (backs j (record s { written = s.written + 1 }) (omega (arith, all)) rests up)
    where
      more : (b : Bool) → Ends (record s { written = s.written + 1; step = step.Back }) [] s.noted s.upto s.undone → Ends (record s { written = s.written + 1; step = cond b step.Back step.Settings }) [] s.noted s.upto s.undone
      more true rest = rest
      more false rest = settings (record s { written = s.written + 1 }) up

      within : nat_lt s.written (length s.paths) ≡ true
      within = grind (arith, all, Rattle.std.proofs.lemmas.Bool.Decides.nat_tests)

      -- the root says no more already
      no_later : (p : Path) (b : Bool) → cond b (upto_told s.after.cluster s.upto (documents_in table (cond b (Rattle.oak_recover.specs.Recovering.publish_op s.upto) (back_op p s.upto)).id)) s.upto ≡ s.upto
      no_later p true = rests
      no_later p false = refl

      upto_is : (p : Path) → slice_get s.paths s.written ≡ Some p → upto_after (record s { step = step.Back }) (documents_in table (Rattle.oak_recover.specs.Recovering.told_op p s.upto).id) ≡ s.upto
      upto_is p is =
          ap (λ (o : Option Path). option_map_or (λ q. cond (length q == 0) (upto_told s.after.cluster s.upto (documents_in table (Rattle.oak_recover.specs.Recovering.told_op p s.upto).id)) s.upto) o s.upto) is
          ∙ no_later p (length p == 0)

      gone_on : Recovery
      gone_on = record s { written = s.written + 1; step = cond (nat_lt (s.written + 1) (length s.paths)) step.Back step.Settings }

      goes : (p : Path) → slice_get s.paths s.written ≡ Some p → (up : List Path) → fed up (record s { step = step.Back }) (recovery_answer table (due (record s { step = step.Back }))) ≡ gone_on
      goes p is ps =
          ap (λ (o : Option Path). fed ps (record s { step = step.Back }) (recovery_answer table (option_map_or (λ p. ask.Update (Rattle.oak_recover.specs.Recovering.told_op p s.upto)) o ask.Done))) is
          ∙ (made (record s { step = step.Back }) (documents_in table (Rattle.oak_recover.specs.Recovering.told_op p s.upto).id) ps
          ∙ (ap (λ b. cond b (document_told (record s { step = step.Back }) (documents_in table (Rattle.oak_recover.specs.Recovering.told_op p s.upto).id)) (record s { step = step.Back })) within
          ∙ ap (λ (u : Revision). record gone_on { upto = u }) (upto_is p is)))

      none : undone_at (record s { step = step.Back }) ≡ []
      none = at_path (slice_get s.paths s.written)
        where
          at_path : (o : Option Path) → Rattle.oak_recover.specs.Ending.undone_asked (record s { step = step.Back }) (option_map_or (λ p. ask.Update (Rattle.oak_recover.specs.Recovering.told_op p s.upto)) o ask.Done) ≡ []
          at_path None = refl
          at_path (Some p) = refl

      by : (o : Option Path) → slice_get s.paths s.written ≡ o → Ends (record s { written = s.written + 1; step = step.Back }) [] s.noted s.upto s.undone → Ends (record s { step = step.Back }) [] s.noted s.upto s.undone
      by None is rest = ended_now (record s { step = step.Back }) (ap (λ (o : Option Path). option_map_or (λ p. ask.Update (Rattle.oak_recover.specs.Recovering.told_op p s.upto)) o ask.Done) is) up
      by (Some p) is rest = subst (λ us. Ends (record s { step = step.Back }) us s.noted s.upto s.undone) (ap (λ us. us ++ []) none) (one_step (record s { step = step.Back }) gone_on [] s.noted s.upto s.undone (goes p is) (more (nat_lt (s.written + 1) (length s.paths)) rest))

  -- ---- the memory

  -- the root's document says no more than what is published
  rests_at : (s : Recovery) → s.after ≡ looks → is_before s.upto (published table t k) ≡ false → upto_told s.after.cluster s.upto (documents_in table (id.Node [])) ≡ s.upto
  rests_at s after least = ap (λ (f : After). upto_told f.cluster s.upto (documents_in table (id.Node []))) after ∙ by (option_and_then (λ d. entry d.last_rev k) (documents_in table (id.Node []))) least
    where
      by : (o : Option Revision) → is_before s.upto (unwrap_or o (start_of k)) ≡ false → option_map_or (λ r. cond (is_before s.upto r) r s.upto) o s.upto ≡ s.upto
      by None h = refl
      by (Some e) h = ap (λ b. cond b e s.upto) h

  -- what the memory answers leads on to what is to be told
  memory_ends : (s : Recovery) → s.after ≡ looks → is_before s.upto (published table t k) ≡ false → Ends (record s { step = step.Memory }) [] s.noted s.upto s.undone
  memory_ends s after least n at =
      let m : Recovery = record s { step = step.Memory } in
      let ps : List Path = (run (suc n)).paths in
      let next : run (suc n) ≡ record m { paths = ps; written = 0; step = step.Back } = (runs.next n).fed ∙ ap (λ (x : Recovery). fed ps x (recovery_answer table (due x))) at in
      let up : AreUpward (run n).noted ps = (runs.next n).upward (subst (λ (x : Recovery). IsTrue (Rattle.oak_recover.specs.Recovering.is_memory_recovered x (recovery_answer table (due x)))) (sym at) refl) in
      let v = backs (length ps) (record m { paths = ps; written = 0 }) (omega arith) (rests_at s after least) (subst (λ (x : Recovery). AreUpward x.noted ps) at up) (suc n) next in
      (v.0, v.1, v.2 ∙ (ap (λ (x : Recovery). (undone_by run n ++ undone_at x) ++ []) at ∙ append_assoc (undone_by run n) [] []), v.3, v.4, v.5, v.6)

  -- ---- one document

  -- what is dead there is undone, revision by revision
  undos : (es : Doubts) (s : Recovery) (out : List (DocId × Revision)) (ps : List Path) (u : Revision) (c : ℕ) → Ends (record s { undone = counted (doubts_at s.reading.at es) s.undone; reading = record s.reading { doubts = [] }; step = step.Next }) out ps u c
      → Ends (undoing (record s { reading = record s.reading { doubts = es } })) (doubts_at s.reading.at es ++ out) ps u c
  undos [] s out ps u c go = go
  undos (e ∷ es) s out ps u c go =
      let here : Recovery = record s { reading = record s.reading { doubts = e ∷ es }; step = step.Undo e.0 } in
      let then_ : Recovery = record here { undone = one_more s.undone } in
      one_step here (undoing (record then_ { reading = record s.reading { doubts = es } })) (doubts_at s.reading.at es ++ out) ps u c
      (λ up. ap (λ b. undoing (record then_ { reading = record s.reading { doubts = cond b es (e ∷ Rattle.std.specs.Map.remove_entry (is_at (revision_cmp e.0)) es) } })) (itself e.0))
      (undos es then_ out ps u c go)
    where
      itself : (r : Revision) → is_at (revision_cmp r) r ≡ true
      itself r = ap Rattle.std.specs.Ordering.is_eq (tied_itself revision_total r)

  -- each commit root is asked
  statuses : (xs : Ids) (s : Recovery) (out : List (DocId × Revision)) (ps : List Path) (u : Revision) (c : ℕ) → ((st : Step) → Ends (undoing (record s { reading = record (fold (asking (documents_in table)) s.reading xs) { left = [] }; step = st })) out ps u c)
      → Ends (on_next_status (record s { reading = record s.reading { left = xs } })) out ps u c
  statuses [] s out ps u c go = go s.step
  statuses (x ∷ xs) s out ps u c go =
      let here : Recovery = record s { reading = record s.reading { asked = x.0; left = xs }; step = step.Status } in
      one_step here (on_next_status (record here { reading = record (asking (documents_in table) s.reading x) { left = xs } })) out ps u c (λ up. refl)
      (statuses xs (record here { reading = asking (documents_in table) s.reading x }) out ps u c go)

  -- ---- the documents, in store order

  abbrev first_found : Entries → Option Document
  first_found es = option_map (λ e. e.1) (slice_get es 0)

  abbrev nodes : Entries → List Document
  nodes es = filter_map (λ e. option_map_or (λ p. Some e.1) (node_path e.0) None) es

  abbrev dead_of : List Document → List (DocId × Revision)
  dead_of docs = flat_map (λ d. at_id d.id (dead_in (documents_in table) t k (published table t k) d)) docs

  named_in : (front more : Entries) (e : DocId × Document) → table ≡ front ++ e ∷ more → e.1.id ≡ e.0
  named_in front more e split = by front (subst (AllByRecursion (λ e. e.1.id ≡ e.0)) split (recursion_from_All (λ e. e.1.id ≡ e.0) table is.named))
    where
      by : (front : Entries) → AllByRecursion (λ e. e.1.id ≡ e.0) (front ++ e ∷ more) → e.1.id ≡ e.0
      by [] h = h.0
      by (f ∷ front) h = by front h.1

  sorted_at : (front more : Entries) → table ≡ front ++ more → IsStrictlySortedBy id_cmp (keys_of (front ++ more))
  sorted_at front more split = subst (λ (es : Entries). IsStrictlySortedBy id_cmp (keys_of es)) split is.ordered

  sorted_from : (front more : Entries) → table ≡ front ++ more → IsStrictlySortedBy id_cmp (keys_of more)
  unfolding IsStrictlySortedBy
  sorted_from front more split = by front (subst (λ (es : Entries). IsStrictlySortedBy id_cmp (keys_of es)) split is.ordered)
    where
      by : (front : Entries) → IsStrictlySortedBy id_cmp (keys_of (front ++ more)) → IsStrictlySortedBy id_cmp (keys_of more)
      by [] h = h
      by (f ∷ front) h = by front h.1

  -- a node's document is read, and left for the next one
  document : (d : Document) → documents_in table d.id ≡ Some d → (s : Recovery) → s.sweep ≡ t → s.after ≡ looks → (out : List (DocId × Revision)) (ps : List Path) (u : Revision) (c : ℕ)
      → ((v : Recovery) → v.sweep ≡ t → v.after ≡ looks → v.reading.at ≡ d.id → v.noted ≡ (passed s).noted → v.upto ≡ (passed s).upto → v.undone ≡ counted (at_id d.id (dead_in (documents_in table) t k (published table t k) d)) (passed s).undone → v.reading.committed ≡ latest_in table t k d → Ends (record v { step = step.Next }) out ps u c)
      → Ends (fed_next s (Some d)) (at_id d.id (dead_in (documents_in table) t k (published table t k) d) ++ out) ps u c
  document d there s sweep after out ps u c go =
      subst (λ (x : Reading). Ends (on_next_status (record (passed s) { reading = x })) (at_id d.id (dead_in (documents_in table) t k (published table t k) d) ++ out) ps u c) (sym read_is)
      (statuses start.left (record (passed s) { reading = start }) (at_id d.id (dead_in (documents_in table) t k (published table t k) d) ++ out) ps u c (λ st.
      subst (λ us. Ends (undoing (record (passed s) { reading = record last { left = [] }; step = st })) (us ++ out) ps u c) dead_is
      (undos last.doubts (record (passed s) { reading = record last { left = [] }; step = st }) out ps u c
      (go (record (passed s) { undone = counted (doubts_at last.at last.doubts) (passed s).undone; reading = record last { left = []; doubts = [] } }) (passed_sweep s ∙ sweep) (passed_after s ∙ after) (asked_at (documents_in table) start.left start) refl refl (ap (λ us. counted us (passed s).undone) dead_is) (committed_is (documents_in table) t d there k (published table t k))))))
    where
      start : Reading
      start = read_of t k (published table t k) d

      last : Reading
      last = fold (asking (documents_in table)) (read_of t k (published table t k) d) (read_of t k (published table t k) d).left

      read_is : read_of s.sweep s.after.cluster s.after.last d ≡ read_of t k (published table t k) d
      read_is = ap (λ v. read_of v s.after.cluster s.after.last d) sweep ∙ ap (λ (f : After). read_of t f.cluster f.last d) after

      pairs : (x y : DocId) (es : Doubts) → x ≡ y → doubts_at x es ≡ at_id y (keys_of es)
      pairs x y [] e = refl
      pairs x y (f ∷ es) e = ap (λ (z : DocId). at_id z (f.0 ∷ []) ++ doubts_at x es) e ∙ ap (λ (rest : List (DocId × Revision)). at_id y (f.0 ∷ []) ++ rest) (pairs x y es e)

      dead_is : doubts_at last.at last.doubts ≡ at_id d.id (dead_in (documents_in table) t k (published table t k) d)
      dead_is = pairs last.at d.id last.doubts (asked_at (documents_in table) start.left start) ∙ ap (at_id d.id) (dead_left (documents_in table) t d there k (published table t k))

  -- what is noted, and how far is published, once a document is passed
  passed_noted : (v : Recovery) (d : Document) → v.reading.at ≡ d.id → v.reading.committed ≡ latest_in table t k d → (docs : List Document) → (passed v).noted ++ noted table t k docs ≡ v.noted ++ noted table t k (d ∷ docs)
  passed_noted v d at is docs = ap (λ o. (Rattle.oak_recover.specs.Recovering.passed_with v o).noted ++ noted table t k docs) is ∙ by (latest_in table t k d)
    where
      one : (o : Option Path) → (v.noted ++ option_to_list o) ++ noted table t k docs ≡ v.noted ++ cons_option o (noted table t k docs)
      one None = append_assoc v.noted [] (noted table t k docs)
      one (Some p) = append_assoc v.noted (p ∷ []) (noted table t k docs)

      by : (o : Option Revision) → (Rattle.oak_recover.specs.Recovering.passed_with v o).noted ++ noted table t k docs ≡ v.noted ++ cons_option (option_and_then (λ r. node_path d.id) o) (noted table t k docs)
      by None = refl
      by (Some r) = ap (λ x. (v.noted ++ option_to_list (node_path x)) ++ noted table t k docs) at ∙ one (node_path d.id)

  passed_upto : (v : Recovery) (d : Document) → v.reading.committed ≡ latest_in table t k d → (passed v).upto ≡ with_latest table t k v.upto d
  passed_upto v d is = ap (λ o. (Rattle.oak_recover.specs.Recovering.passed_with v o).upto) is ∙ by (latest_in table t k d)
    where
      by : (o : Option Revision) → (Rattle.oak_recover.specs.Recovering.passed_with v o).upto ≡ option_map_or (λ r. cond (is_before v.upto r) r v.upto) o v.upto
      by None = refl
      by (Some r) = refl

  -- how it ends, where these documents are left
  abbrev EndsBehind : Recovery → List Document → Type 0
  EndsBehind s docs = Ends s (dead_of docs) ((passed s).noted ++ noted table t k docs) (fold (with_latest table t k) (passed s).upto docs) (counted (dead_of docs) (passed s).undone)

  -- behind the last node's document
  none_left : (s : Recovery) → s.after ≡ looks → is_before s.upto (published table t k) ≡ false → undone_at s ≡ [] → ((up : List Path) → fed up s (recovery_answer table (due s)) ≡ fed_next s None) → EndsBehind s []
  none_left s after least none goes = subst (λ us. Ends s (us ++ []) ((passed s).noted ++ []) (passed s).upto (passed s).undone) none
      (subst (λ ps. Ends s (undone_at s ++ []) ps (passed s).upto (passed s).undone) (sym (end (passed s).noted)) (one_step s (fed_next s None) [] (passed s).noted (passed s).upto (passed s).undone goes (memory_ends (passed s) (passed_after s ∙ after) (passed_least s (published table t k) least))))
    where
      end : (ps : List Path) → ps ++ [] ≡ ps
      end [] = refl
      end (p ∷ ps) = ap (λ rest. p ∷ rest) (end ps)

  no_more : (x : DocId) (d : Document) (more front : Entries) (s : Recovery) → s.after ≡ looks → is_before s.upto (published table t k) ≡ false → node_path x ≡ None → table ≡ front ++ (x, d) ∷ more → undone_at s ≡ [] → ((up : List Path) → fed up s (recovery_answer table (due s)) ≡ fed_next s (node_document (Some d))) → EndsBehind s (nodes more)
  unfolding IsStrictlySortedBy
  no_more x d more front s after least other split none goes =
      subst (λ docs. EndsBehind s docs) (sym (none_after x other more (rest_above (sorted_from front ((x, d) ∷ more) split))))
      (none_left s after least none (λ up. goes up ∙ ap (fed_next s) (ap (λ o. option_map (λ p. d) o) (ap node_path (named_in front more (x, d) split) ∙ other))))
    where
      rest_above : IsStrictlySortedBy id_cmp (keys_of ((x, d) ∷ more)) → AllByRecursion (λ y. id_cmp x y ≡ Less) (keys_of more)
      rest_above h = h.0

  -- from a step at which these documents are left
  from : (more front : Entries) (s : Recovery) → table ≡ front ++ more → s.sweep ≡ t → s.after ≡ looks → is_before s.upto (published table t k) ≡ false → undone_at s ≡ [] → ((up : List Path) → fed up s (recovery_answer table (due s)) ≡ fed_next s (node_document (first_found more))) → EndsBehind s (nodes more)
  from [] front s split sweep after least none goes = none_left s after least none goes
  from ((id.Node q, d) ∷ more) front s split sweep after least none goes =
      let named : d.id ≡ id.Node q = named_in front more (id.Node q, d) split in
      let there : documents_in table d.id ≡ Some d = ap (documents_in table) named ∙ (ap (λ (es : Entries). documents_in es (id.Node q)) split ∙ found_front front more (id.Node q, d) (sorted_at front ((id.Node q, d) ∷ more) split)) in
      let docs : List Document = nodes more in
      let ps : List Path = (passed s).noted ++ noted table t k (d ∷ docs) in
      let u : Revision = fold (with_latest table t k) (passed s).upto (d ∷ docs) in
      let c : ℕ = counted (dead_of (d ∷ docs)) (passed s).undone in
      subst (λ us. Ends s (us ++ dead_of (d ∷ docs)) ps u c) none
      (one_step s (fed_next s (Some d)) (dead_of (d ∷ docs)) ps u c (λ up. goes up ∙ ap (fed_next s) (ap (λ x. option_and_then (λ d. option_map (λ p. d) (node_path x)) (Some d)) named))
      (document d there s sweep after (dead_of docs) ps u c (λ v sweep' after' at noted' upto' undone' is.
      subst (λ ps. Ends (record v { step = step.Next }) (dead_of docs) ps u c) (passed_noted (record v { step = step.Next }) d at is docs ∙ ap (λ (before : List Path). before ++ noted table t k (d ∷ docs)) noted')
      (subst (λ x. Ends (record v { step = step.Next }) (dead_of docs) ((passed (record v { step = step.Next })).noted ++ noted table t k docs) (fold (with_latest table t k) x docs) c) (passed_upto (record v { step = step.Next }) d is ∙ ap (λ x. with_latest table t k x d) upto')
      (subst (λ c. Ends (record v { step = step.Next }) (dead_of docs) ((passed (record v { step = step.Next })).noted ++ noted table t k docs) (fold (with_latest table t k) (passed (record v { step = step.Next })).upto docs) c)
      (ap (counted (dead_of docs)) (passed_undone (record v { step = step.Next }) ∙ undone') ∙ sym (counted_more (at_id d.id (dead_in (documents_in table) t k (published table t k) d)) (dead_of docs) (passed s).undone))
      (from more (front ++ (id.Node q, d) ∷ []) (record v { step = step.Next }) (split ∙ sym (append_assoc front ((id.Node q, d) ∷ []) more)) sweep' after' (subst (λ (x : Revision). is_before x (published table t k) ≡ false) (sym upto') (passed_least s (published table t k) least)) refl
      (λ up. ap (λ (es : Entries). fed_next (record v { step = step.Next }) (node_document (first_found es)))
      (ap (λ x. behind x table) (at ∙ named) ∙ (ap (behind (id.Node q)) split ∙ behind_front front more (id.Node q, d) (sorted_at front ((id.Node q, d) ∷ more) split))))))))))
  from ((id.Prev n q, d) ∷ more) front s split sweep after least none goes = no_more (id.Prev n q) d more front s after least refl split none goes
  from ((id.Settings, d) ∷ more) front s split sweep after least none goes = no_more id.Settings d more front s after least refl split none goes

pub recovers_all : RecoversAll
recovers_all table a k sessions t run is runs =
    let first : Recovery = begun a k sessions t in
    let next : Recovery = Rattle.oak_recover.specs.Recovering.fed_root first (documents_in table (id.Node [])) in
    let v = one_step table is t k first run runs first next (dead table t k) (noted table t k (documents_of_nodes table t k)) (fold (with_latest table t k) (published table t k) (documents_of_nodes table t k)) (counted (dead table t k) 0) (λ up. refl) (from table is t k first run runs table [] next refl refl refl (ap is_lt (tied_itself revision_total (published table t k))) refl (λ up. refl)) 0 runs.begins in
    (v.0, record { done = v.1; undone = v.2; noted_ = v.3; told = v.4; upto = v.5; count = v.6 ∙ counted_first (dead table t k) })
