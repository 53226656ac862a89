-- What background writes and reads come to.
use Rattle.std.proofs.Common.{◌≡◌, ◌≢◌, ℕ, zero, suc, ◌+◌, ◌<◌, ◌≤◌, Bool, true, false, cond, ◌⊎◌, inl, inr, List, [], ◌∷◌, ◌++◌, drop, length, Option, Some, None, refl, sym, ap, subst, ◌∙◌, arith}
use Rattle.std.specs.Prelude.{Contains, IsTrue, fold, slice_get}
use Rattle.std.specs.Option.{option_map, option_map_or}
use Rattle.std.specs.List.{AllByRecursion}
use Rattle.std.specs.List.Sorted.{IsStrictlySortedBy}
use Rattle.std.specs.Ordering.{eq_by_cmp, nat_cmp, ordering_reverse, ordering_then}
use Rattle.std.specs.declared.alloc.Global.{Global}
use Rattle.std.specs.declared.cmp.Ordering.{Ordering}
use Rattle.std.specs.declared.cmp.Ordering.TheVariants.{Less, Equal, Greater}
use Rattle.std.proofs.lemmas.Bool.{cases_lt, false≢true, le-ltb, lt-ltb}
use Rattle.std.proofs.lemmas.Option.{slice_get_past}
use Rattle.std.proofs.lemmas.Cmp.{tied_itself}
use Rattle.std.proofs.lemmas.List.Elements.{recursion_from_All}
use Rattle.jr_path.specs.Ids.{id_cmp}
use Rattle.jr_path.specs.declared.path.Path.{Path}
use Rattle.jr_path.specs.declared.path.DocId.{DocId}
use Rattle.jr_path.specs.declared.path.DocId.TheVariants as id
use Rattle.jr_path.proofs.Orders.{id_exact, id_total, tested}
use Rattle.jr_rev.specs.declared.revision.Revision.{Revision}
use Rattle.oak_doc.specs.declared.document.Document.{Document}
use Rattle.oak_doc.specs.declared.asks.Ask.{Ask}
use Rattle.oak_doc.specs.declared.asks.Ask.TheVariants as ask
use Rattle.oak_doc.specs.declared.asks.Reply.{Reply}
use Rattle.oak_doc.specs.declared.asks.Reply.TheVariants as reply
use Rattle.oak_doc.specs.Updates.{updated}
use Rattle.oak_sync.specs.Upward.{AreUpward, backward_cmp}
use Rattle.oak_sync.specs.Publishing.{back_op, due, fed, went_on}
use Rattle.oak_sync.specs.Ending.{Learns, Alone, AsksUpward, DocumentsById, Publishes, after_due, after_result, back_answer, after_steps, is_made_or_gone, with_last_rev}
use Rattle.oak_sync.specs.Learning as learning
use Rattle.oak_sync.specs.Learning.{with_root}
use Rattle.oak_sync.specs.declared.back_read.BackRead.{BackRead}
use Rattle.oak_sync.specs.declared.back_read.Step.TheVariants as reading
use Rattle.oak_sync.specs.declared.back_write.BackWrite.{BackWrite}
use Rattle.oak_sync.proofs.Sets.{contains_cases, contains_none, first_of, behind}

-- ---- one list

pub not_before_itself : (p : Path) → backward_cmp p p ≢ Less
not_before_itself p h = let e : Less ≡ Equal = sym h ∙ tied_itself id_total (id.Node p) in cc

-- of two, one alone is before the other
one_before : (p q : Path) → backward_cmp p q ≡ Less → backward_cmp q p ≢ Less
one_before p q h k = let e : Less ≡ Greater = sym k ∙ (id_total.antisymm (id.Node p) (id.Node q) ∙ ap ordering_reverse h) in cc

before_member : (p q : Path) (ps : List Path) → AllByRecursion (λ y. backward_cmp p y ≡ Less) ps → Contains ps q → backward_cmp p q ≡ Less
before_member p q [] all h = absurd (contains_none q h)
before_member p q (x ∷ ps) all h = by (contains_cases x q ps h) (before_member p q ps all.1)
  where
    by : (x ≡ q) ⊎ Contains ps q → (Contains ps q → backward_cmp p q ≡ Less) → backward_cmp p q ≡ Less
    by (inl e) rest = subst (λ y. backward_cmp p y ≡ Less) e all.0
    by (inr t) rest = rest t

same_lists : (ps qs : List Path) → IsStrictlySortedBy backward_cmp ps → IsStrictlySortedBy backward_cmp qs → ((p : Path) → Contains ps p → Contains qs p) → ((p : Path) → Contains qs p → Contains ps p) → ps ≡ qs
unfolding IsStrictlySortedBy
same_lists [] [] h k to from = refl
same_lists [] (q ∷ qs) h k to from = absurd (contains_none q (from q (first_of q q qs refl)))
same_lists (p ∷ ps) [] h k to from = absurd (contains_none p (to p (first_of p p ps refl)))
same_lists (p ∷ ps) (q ∷ qs) h k to from =
    let first : p ≡ q = heads (contains_cases q p qs (to p (first_of p p ps refl))) (contains_cases p q ps (from q (first_of q q qs refl))) in
    let rest : ps ≡ qs = same_lists ps qs h.1 k.1 (λ x t. tail_to first x t (contains_cases q x qs (to x (behind p x ps t)))) (λ x t. tail_from first x t (contains_cases p x ps (from x (behind q x qs t)))) in
    cc
  where
    heads : (q ≡ p) ⊎ Contains qs p → (p ≡ q) ⊎ Contains ps q → p ≡ q
    heads (inl e) other = sym e
    heads (inr t) (inl e) = e
    heads (inr t) (inr u) = absurd (one_before q p (before_member q p qs k.0 t) (before_member p q ps h.0 u))

    tail_to : p ≡ q → (x : Path) → Contains ps x → (q ≡ x) ⊎ Contains qs x → Contains qs x
    tail_to e x t (inl same) = absurd (not_before_itself p (before_member p p ps h.0 (subst (λ y. Contains ps y) (sym same ∙ sym e) t)))
    tail_to e x t (inr u) = u

    tail_from : p ≡ q → (x : Path) → Contains qs x → (p ≡ x) ⊎ Contains ps x → Contains ps x
    tail_from e x t (inl same) = absurd (not_before_itself q (before_member q q qs k.0 (subst (λ y. Contains qs y) (sym same ∙ e) t)))
    tail_from e x t (inr u) = u

pub one_list : (paths up other : List Path) → AreUpward paths up → AreUpward paths other → up ≡ other
one_list paths up other is are = same_lists up other is.ordered are.ordered (λ p h. (are.which p).1 ((is.which p).0 h)) (λ p h. (is.which p).1 ((are.which p).0 h))

-- the root is behind every path
none_behind_root : (p : Path) → backward_cmp [] p ≢ Less
none_behind_root [] h = not_before_itself [] h
none_behind_root (n ∷ p) h = greater_first (nat_cmp (length (n ∷ p)) 0) _ (above_none (length p)) h
  where
    above_none : (k : ℕ) → nat_cmp (suc k) 0 ≡ Greater
    above_none k = grind arith

    greater_first : (o o' : Ordering) → o ≡ Greater → ordering_then o o' ≢ Less
    greater_first Less o' e k = cc
    greater_first Equal o' e k = cc
    greater_first Greater o' e k = cc

ends_in_root : (up : List Path) → IsStrictlySortedBy backward_cmp up → Contains up [] → (front : List Path) × (up ≡ front ++ [] ∷ [])
unfolding IsStrictlySortedBy
ends_in_root [] h t = absurd (contains_none [] t)
ends_in_root (p ∷ up) h t = by up h.0 (contains_cases p [] up t) (ends_in_root up h.1)
  where
    here : (up : List Path) → AllByRecursion (λ y. backward_cmp p y ≡ Less) up → p ≡ [] → (front : List Path) × (p ∷ up ≡ front ++ [] ∷ [])
    here [] all e = ([], ap (λ (q : Path). q ∷ []) e)
    here (q ∷ up) all e = absurd (none_behind_root q (subst (λ x. backward_cmp x q ≡ Less) e all.0))

    by : (up : List Path) → AllByRecursion (λ y. backward_cmp p y ≡ Less) up → (p ≡ []) ⊎ Contains up [] → (Contains up [] → (front : List Path) × (up ≡ front ++ [] ∷ [])) → (front : List Path) × (p ∷ up ≡ front ++ [] ∷ [])
    by up all (inl e) rest = here up all e
    by up all (inr u) rest = let r = rest u in (p ∷ r.0, ap (λ (qs : List Path). p ∷ qs) r.1)

pub root_last : (paths up : List Path) → AreUpward paths up → (front : List Path) × (up ≡ front ++ [] ∷ [])
root_last paths up is = ends_in_root up is.ordered ((is.which []).1 refl)

-- ---- the asks

-- what stands at a place, and behind it
at_place : {X : Type 0} (xs : List X) (w : ℕ) (x : X) (rest : List X) → drop w xs ≡ x ∷ rest → (slice_get xs w ≡ Some x) × (w < length xs) × (drop (w + 1) xs ≡ rest)
at_place [] zero x rest e = cc
at_place [] (suc w) x rest e = cc
at_place {X} (y ∷ ys) zero x rest e = (ap Some (first y x ys rest e), omega arith, more y x ys rest e)
  where
    first : (y x : X) (ys rest : List X) → y ∷ ys ≡ x ∷ rest → y ≡ x
    first y x ys rest e = cc

    more : (y x : X) (ys rest : List X) → y ∷ ys ≡ x ∷ rest → ys ≡ rest
    more y x ys rest e = cc
at_place {X} (y ∷ ys) (suc w) x rest e = let p = at_place ys w x rest e in (p.0, omega (arith, p.1), ap (λ k. drop k (y ∷ ys)) (next w) ∙ p.2)
  where
    next : (w : ℕ) → suc w + 1 ≡ suc (w + 1)
    next w = omega arith

at_end : {X : Type 0} (xs : List X) (w : ℕ) → drop w xs ≡ [] → slice_get xs w ≡ None
at_end [] zero e = refl
at_end [] (suc w) e = refl
at_end (y ∷ ys) zero e = cc
at_end (y ∷ ys) (suc w) e = at_end ys w e

went : (b : BackWrite) → b.written < length b.paths → went_on b ≡ record b { written = b.written + 1 }
went b less = ap (λ c. record b { written = cond c (b.written + 1) b.written }) (lt-ltb b.written (length b.paths) less)

stays : (b : BackWrite) → length b.paths ≤ b.written → went_on b ≡ b
stays b past = ap (λ c. record b { written = cond c (b.written + 1) b.written }) (le-ltb b.written (length b.paths) past)

made_goes : (b : BackWrite) (r : Reply) → IsTrue (is_made_or_gone r) → fed b r ≡ went_on b
made_goes b (reply.Updated before) h = refl
made_goes b reply.Absent h = refl
made_goes b (reply.Found found) h = absurd (false≢true h)
made_goes b (reply.Unmet c k) h = absurd (false≢true h)
made_goes b reply.NoMemory h = absurd (false≢true h)
made_goes b reply.Undone h = absurd (false≢true h)
made_goes b (reply.Removed o) h = absurd (false≢true h)
made_goes b reply.Finished h = absurd (false≢true h)
made_goes b reply.Learnt h = absurd (false≢true h)
made_goes b (reply.Pins head sweep pins) h = absurd (false≢true h)
made_goes b reply.Gone h = absurd (false≢true h)
made_goes b reply.Recovered h = absurd (false≢true h)

abbrev asks_at : BackWrite → ℕ → Ask
asks_at b k = option_map_or (λ p. ask.Update (back_op p b.upto)) (slice_get b.paths k) ask.Done

asks_from : (rs : List Reply) → AllByRecursion (λ r. IsTrue (is_made_or_gone r)) rs → (b : BackWrite) → due (fold fed b rs) ≡ asks_at b (b.written + length rs)
asks_from [] made b = ap (asks_at b) (let e : b.written ≡ b.written + 0 = omega arith in e)
asks_from (r ∷ rs) made b = ap (λ (c : BackWrite). due (fold fed c rs)) (made_goes b r made.0) ∙ elim (cases_lt b.written (length b.paths)) [
  | inl less ↦ ap (λ (c : BackWrite). due (fold fed c rs)) (went b less) ∙ (asks_from rs made.1 (record b { written = b.written + 1 }) ∙ ap (asks_at b) (shift b.written (length rs)))
  | inr past ↦ ap (λ (c : BackWrite). due (fold fed c rs)) (stays b past) ∙ (asks_from rs made.1 b ∙ (ap (λ o. option_map_or (λ p. ask.Update (back_op p b.upto)) o ask.Done) (slice_get_past b.paths (b.written + length rs) (omega (arith, past)) ∙ sym (slice_get_past b.paths (b.written + suc (length rs)) (omega (arith, past))))))
]
  where
    shift : (w n : ℕ) → w + 1 + n ≡ w + suc n
    shift w n = omega arith

pub asks_upward : AsksUpward
asks_upward a pending b is rs made =
    let none : b.written ≡ 0 = ap (λ (c : BackWrite). c.written) is.state in
    let behind_none : b.written + length rs ≡ length rs = omega (arith, none) in
    asks_from rs (recursion_from_All (λ r. IsTrue (is_made_or_gone r)) rs made) b
    ∙ (ap (asks_at b) behind_none
    ∙ ap (λ (c : BackWrite). option_map_or (λ p. ask.Update (back_op p c.upto)) (slice_get b.paths (length rs)) ask.Done) is.state)

-- ---- what it makes of the documents

pub record Stepped (p : Path) (upto : Revision) (s e : Alone) : Type 0 where
  pub writer : e.writer ≡ went_on s.writer
  pub raised : (d : Document) → s.documents (id.Node p) ≡ Some d → (number : ℕ) × (e.documents (id.Node p) ≡ Some (with_last_rev upto number d))
  pub gone : s.documents (id.Node p) ≡ None → e.documents (id.Node p) ≡ None
  pub others : (x : DocId) → x ≢ id.Node p → e.documents x ≡ s.documents x

no_document : (p : Path) (upto : Revision) (s : Alone) → s.documents (id.Node p) ≡ None → Stepped p upto s (after_result s (id.Node p) (updated None (back_op p upto) (s.number + 1)))
no_document p upto s none = record { writer = refl; raised = λ d h. absurd (some_none d (sym h ∙ none)); gone = λ h. h; others = λ x apart. refl }
  where
    some_none : (d : Document) → ◌≡◌ {A = Option Document} (Some d) None → ⊥
    some_none d e = cc

a_document : (p : Path) (upto : Revision) (s : Alone) (d : Document) → s.documents (id.Node p) ≡ Some d → Stepped p upto s (after_result s (id.Node p) (updated (Some d) (back_op p upto) (s.number + 1)))
a_document p upto s d there = record {
  writer = refl;
  raised = λ d' h. (s.number + 1, ap (λ b. cond b (Some (with_last_rev upto (s.number + 1) d)) (s.documents (id.Node p))) (itself (id.Node p)) ∙ ap (λ (o : Option Document). option_map (with_last_rev upto (s.number + 1)) o) (sym there ∙ h));
  gone = λ h. absurd (some_none d (sym there ∙ h));
  others = λ x apart. ap (λ b. cond b (Some (with_last_rev upto (s.number + 1) d)) (s.documents x)) (another x (id.Node p) apart);
}
  where
    some_none : (d : Document) → ◌≡◌ {A = Option Document} (Some d) None → ⊥
    some_none d e = cc

    itself : (x : DocId) → eq_by_cmp id_cmp x x ≡ true
    itself x = (tested id_total id_exact x x).1 refl

    another : (x y : DocId) → x ≢ y → eq_by_cmp id_cmp x y ≡ false
    another x y apart = by (eq_by_cmp id_cmp x y) refl
      where
        by : (b : Bool) → eq_by_cmp id_cmp x y ≡ b → b ≡ false
        by true e = absurd (apart ((tested id_total id_exact x y).0 e))
        by false e = refl

one_step : (p : Path) (upto : Revision) (s : Alone) → Stepped p upto s (after_due s (ask.Update (back_op p upto)))
one_step p upto s = by (s.documents (id.Node p)) refl
  where
    by : (o : Option Document) → s.documents (id.Node p) ≡ o → Stepped p upto s (after_result s (id.Node p) (updated (s.documents (id.Node p)) (back_op p upto) (s.number + 1)))
    by None is = subst (λ o. Stepped p upto s (after_result s (id.Node p) (updated o (back_op p upto) (s.number + 1)))) (sym is) (no_document p upto s is)
    by (Some d) is = subst (λ o. Stepped p upto s (after_result s (id.Node p) (updated o (back_op p upto) (s.number + 1)))) (sym is) (a_document p upto s d is)

pub record ToldAmong (ps : List Path) (upto : Revision) (before after : DocumentsById) : Type 0 where
  pub raised : (p : Path) (d : Document) → Contains ps p → before (id.Node p) ≡ Some d → (number : ℕ) × (after (id.Node p) ≡ Some (with_last_rev upto number d))
  pub gone : (p : Path) → Contains ps p → before (id.Node p) ≡ None → after (id.Node p) ≡ None
  pub others : (x : DocId) → ((p : Path) → Contains ps p → x ≡ id.Node p → ⊥) → after x ≡ before x

abbrev writing : Global → Revision → List Path → ℕ → BackWrite
writing a upto paths w = record { alloc = a; upto = upto; paths = paths; written = w }

-- one document, and then the others
told_first : (p : Path) (ps : List Path) (upto : Revision) (s e : Alone) (after : DocumentsById) → (Contains ps p → ⊥) → Stepped p upto s e → ToldAmong ps upto e.documents after → ToldAmong (p ∷ ps) upto s.documents after
told_first p ps upto s e after once step rest = record {
  raised = λ q d t h. raises q d h (contains_cases p q ps t);
  gone = λ q t h. goes q h (contains_cases p q ps t);
  others = λ x apart. rest.others x (λ q t same. apart q (behind p q ps t) same) ∙ step.others x (λ same. apart p (first_of p p ps refl) same);
}
  where
    same_path : (q r : Path) → id.Node q ≡ id.Node r → q ≡ r
    same_path q r e = cc

    still : after (id.Node p) ≡ e.documents (id.Node p)
    still = rest.others (id.Node p) (λ q t same. once (subst (λ x. Contains ps x) (sym (same_path p q same)) t))

    apart_from : (q : Path) → Contains ps q → id.Node q ≢ id.Node p
    apart_from q t same = once (subst (λ x. Contains ps x) (same_path q p same) t)

    raises : (q : Path) (d : Document) → s.documents (id.Node q) ≡ Some d → (p ≡ q) ⊎ Contains ps q → (number : ℕ) × (after (id.Node q) ≡ Some (with_last_rev upto number d))
    raises q d h (inl same) = let r = step.raised d (ap (λ x. s.documents (id.Node x)) same ∙ h) in (r.0, ap (λ x. after (id.Node x)) (sym same) ∙ (still ∙ r.1))
    raises q d h (inr t) = rest.raised q d t (step.others (id.Node q) (apart_from q t) ∙ h)

    goes : (q : Path) → s.documents (id.Node q) ≡ None → (p ≡ q) ⊎ Contains ps q → after (id.Node q) ≡ None
    goes q h (inl same) = ap (λ x. after (id.Node x)) (sym same) ∙ (still ∙ step.gone (ap (λ x. s.documents (id.Node x)) same ∙ h))
    goes q h (inr t) = rest.gone q t (step.others (id.Node q) (apart_from q t) ∙ h)

published : (ps : List Path) (a : Global) (upto : Revision) (paths : List Path) (w : ℕ) (s : Alone) → s.writer ≡ writing a upto paths w → drop w paths ≡ ps → IsStrictlySortedBy backward_cmp ps
    → (due (after_steps (length ps) s).writer ≡ ask.Done) × ((after_steps (length ps) s).writer.upto ≡ upto) × ToldAmong ps upto s.documents (after_steps (length ps) s).documents
unfolding IsStrictlySortedBy
published [] a upto paths w s is left ordered = (
  ap due is ∙ ap (λ o. option_map_or (λ p. ask.Update (back_op p upto)) o ask.Done) (at_end paths w left),
  ap (λ (b : BackWrite). b.upto) is,
  record { raised = λ p d t h. absurd (contains_none p t); gone = λ p t h. absurd (contains_none p t); others = λ x apart. refl },
)
published (p ∷ ps) a upto paths w s is left ordered =
    let here = at_place paths w p ps left in
    let asks : due s.writer ≡ ask.Update (back_op p upto) = ap due is ∙ ap (λ o. option_map_or (λ p. ask.Update (back_op p upto)) o ask.Done) here.0 in
    let step : Stepped p upto s (after_due s (due s.writer)) = subst (λ q. Stepped p upto s (after_due s q)) (sym asks) (one_step p upto s) in
    let rest = published ps a upto paths (w + 1) (after_due s (due s.writer)) (step.writer ∙ (ap went_on is ∙ went (writing a upto paths w) here.1)) here.2 ordered.1 in
    (rest.0, rest.1, told_first p ps upto s (after_due s (due s.writer)) _ (λ t. not_before_itself p (before_member p p ps ordered.0 t)) step rest.2)

pub publishes : Publishes
publishes a pending b is ds number =
    let all = published b.paths a pending.upto b.paths 0 (record { documents = ds; number = number; writer = b }) is.state refl is.paths.ordered in (
      all.0,
      all.1,
      record {
        raised = λ p d t h. all.2.raised p d ((is.paths.which p).1 t) h;
        gone = λ p t h. all.2.gone p ((is.paths.which p).1 t) h;
        others = λ x apart. all.2.others x (λ p t same. apart p ((is.paths.which p).0 t) same);
      },
    )

-- ---- background reads

module _ (a : Global) (root : Document) where
  read_root : (o : Option Document) → o ≡ Some root → with_root (learning.begun a) o ≡ record (learning.begun a) { step = reading.Learn; last = root.last_rev; sweep = root.sweep_rev }
  read_root None e = cc
  read_root (Some d) e = ap (λ (o : Option Document). with_root (learning.begun a) o) e

pub learns : Learns
learns a ds root there =
    let read = read_root a root (ds (id.Node [])) there in record {
      first = refl;
      second = ap learning.due read;
      done = ap (λ (b : BackRead). learning.due (learning.fed b (back_answer ds (learning.due b)))) read;
      last = ap (λ (b : BackRead). (learning.fed b (back_answer ds (learning.due b))).last) read;
      sweep = ap (λ (b : BackRead). (learning.fed b (back_answer ds (learning.due b))).sweep) read;
    }
