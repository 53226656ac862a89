-- Vectors between two others: the lesser one, with the commits up to a place that the greater one sees.
use Rattle.std.proofs.Common.{◌≡◌, ◌⊎◌, inl, inr, ℕ, zero, suc, ◌-◌, Bool, true, false, cond, ◌&&◌, ◌||◌, Some, None, Option, List, [], ◌∷◌, refl, sym, ap, ◌∙◌, subst, is_some, arith}
use Rattle.std.specs.Prelude.{slice_get}
use Rattle.std.specs.Option.{option_flatten, option_map_or, unwrap_or}
use Rattle.std.specs.Ordering.{eq_by_cmp}
use Rattle.std.specs.List.{filter, fold}
use mathlib.Core.Bool.{false≢true}
use Rattle.jr_rev.specs.declared.revision.Revision.{Revision}
use Rattle.jr_rev.specs.declared.vector.RevVec.{RevVec}
use Rattle.jr_rev.specs.Revisions.{revision_cmp, is_at_most}
use Rattle.jr_rev.specs.Vectors.{Entries, entry, greater_entry, greatest, sees}
use Rattle.jr_tree.specs.declared.edit.Write.{Write}
use Rattle.oak_doc.specs.Updates.{of_revision}
use Rattle.oak_machine.specs.declared.event.Draw.{Draw}
use Rattle.oak_machine.specs.History.{Past}
use Rattle.oak_machine.specs.Commits.{committed_edits, draw_of, is_in_base}
use Rattle.core_heads.proofs.Entries.{entry_at}
use Rattle.core_keep.proofs.Found.{found_first}
use Rattle.core_keep.proofs.Item.{and_both, either_true, some_of}
use Rattle.core_read.specs.Commits.{Commits, Sight}
use Rattle.core_begun.specs.Told.{edit_since}
use Rattle.core_read.specs.Told.{IsIn}
use Rattle.core_begun.specs.Told.{IsInUseSince, IsToldSince}
use Rattle.core_read.proofs.Latest.{at_most_trans, before_at_most, same_revision}
use Rattle.core_changes.specs.Between.{IsBetween}
use Rattle.core_heads.proofs.Orders.{at_most_itself, not_at_most}
use Rattle.oak_machine.specs.declared.event.Start.{Start}

-- ---- the greatest of two vectors

at_place : (v w : Entries) (i : ℕ) → option_flatten (slice_get (greatest v w) i) ≡ greater_entry (option_flatten (slice_get v i)) (option_flatten (slice_get w i))
at_place [] w zero = refl
at_place [] w (suc i) = refl
at_place (e ∷ v) [] i = alone (option_flatten (slice_get (e ∷ v) i)) i
  where
    alone : (o : Option Revision) (i : ℕ) → o ≡ greater_entry o (option_flatten (slice_get [] i))
    alone None zero = refl
    alone None (suc i) = refl
    alone (Some r) zero = refl
    alone (Some r) (suc i) = refl
at_place (e ∷ v) (f ∷ w) zero = refl
at_place (e ∷ v) (f ∷ w) (suc i) = at_place v w i

or_none : (b : Bool) → b ≡ (b || false)
or_none true = refl
or_none false = refl

either_entry : (q : Revision) (e f : Option Revision) → option_map_or (is_at_most q) (greater_entry e f) false ≡ (option_map_or (is_at_most q) e false || option_map_or (is_at_most q) f false)
either_entry q None f = refl
either_entry q (Some e) None = or_none (is_at_most q e)
either_entry q (Some e) (Some f) = by (is_at_most e f) refl (is_at_most q e) refl (is_at_most q f) refl
  where
    by : (b : Bool) → is_at_most e f ≡ b → (x : Bool) → is_at_most q e ≡ x → (y : Bool) → is_at_most q f ≡ y → is_at_most q (cond b f e) ≡ (x || y)
    by true h true k true l = l
    by true h true k false l = absurd (false≢true (sym l ∙ at_most_trans q e f k h))
    by true h false k y l = l
    by false h true k y l = k
    by false h false k false l = k
    by false h false k true l = absurd (false≢true (sym k ∙ at_most_trans q f e l (not_at_most e f h)))

pub sees_greatest : (v w : RevVec) (q : Revision) → sees (greatest v w) q ≡ (sees v q || sees w q)
sees_greatest v w q = by q.cluster
  where
    by : (k : ℕ) → option_map_or (is_at_most q) (entry (greatest v w) k) false ≡ (option_map_or (is_at_most q) (entry v k) false || option_map_or (is_at_most q) (entry w k) false)
    by zero = refl
    by (suc k) =
        ap (λ o. option_map_or (is_at_most q) o false) (entry_at (greatest v w) k ∙ at_place v w k)
        ∙ (either_entry q (option_flatten (slice_get v k)) (option_flatten (slice_get w k))
        ∙ sym (λ i. option_map_or (is_at_most q) (entry_at v k i) false || option_map_or (is_at_most q) (entry_at w k i) false))

-- ---- a vector of one revision

abbrev only_at : ℕ → Revision → Entries
only_at zero r = Some r ∷ []
only_at (suc i) r = None ∷ only_at i r

only_here : (i : ℕ) (r : Revision) → option_flatten (slice_get (only_at i r) i) ≡ Some r
only_here zero r = refl
only_here (suc i) r = only_here i r

only_else : (i j : ℕ) (r : Revision) → (option_flatten (slice_get (only_at i r) j) ≡ None) ⊎ ((i ≡ j) × (option_flatten (slice_get (only_at i r) j) ≡ Some r))
only_else zero zero r = inr (refl, refl)
only_else zero (suc zero) r = inl refl
only_else zero (suc (suc j)) r = inl refl
only_else (suc i) zero r = inl refl
only_else (suc i) (suc j) r = elim (only_else i j r) [ inl h ↦ inl h | inr h ↦ inr (ap suc h.0, h.1) ]

abbrev own : Revision → RevVec
own r = only_at (r.cluster - 1) r

-- the cluster node of what is seen is none of number 0
positive : (v : RevVec) (r : Revision) → sees v r ≡ true → (j : ℕ) × (r.cluster ≡ suc j)
positive v r h = by r.cluster refl h
  where
    by : (k : ℕ) → r.cluster ≡ k → option_map_or (is_at_most r) (entry v k) false ≡ true → (j : ℕ) × (r.cluster ≡ suc j)
    by zero e h = absurd (false≢true h)
    by (suc j) e h = (j, e)

seen_at : (v : RevVec) (q : Revision) (k : ℕ) → q.cluster ≡ suc k → sees v q ≡ option_map_or (is_at_most q) (option_flatten (slice_get v k)) false
seen_at v q k e = ap (λ (n : ℕ). option_map_or (is_at_most q) (entry v n) false) e ∙ ap (λ o. option_map_or (is_at_most q) o false) (entry_at v k)

-- it sees of its cluster node what is at most it
own_sees : (r q : Revision) (j : ℕ) → r.cluster ≡ suc j → sees (own r) q ≡ true → (q.cluster ≡ r.cluster) × (is_at_most q r ≡ true)
own_sees r q j is h =
    let k = positive (own r) q h in
    let at : r.cluster - 1 ≡ j = omega (arith, is) in
    by k.0 k.1 (only_else j k.0 r) (sym (ap (λ (i : ℕ). option_map_or (is_at_most q) (option_flatten (slice_get (only_at i r) k.0)) false) at) ∙ (sym (seen_at (own r) q k.0 k.1) ∙ h))
  where
    by : (k : ℕ) → q.cluster ≡ suc k → (option_flatten (slice_get (only_at j r) k) ≡ None) ⊎ ((j ≡ k) × (option_flatten (slice_get (only_at j r) k) ≡ Some r)) → option_map_or (is_at_most q) (option_flatten (slice_get (only_at j r) k)) false ≡ true → (q.cluster ≡ r.cluster) × (is_at_most q r ≡ true)
    by k e (inl none) h = absurd (false≢true (sym (ap (λ o. option_map_or (is_at_most q) o false) none) ∙ h))
    by k e (inr there) h = (e ∙ (ap suc (sym there.0) ∙ sym is), sym (ap (λ o. option_map_or (is_at_most q) o false) there.1) ∙ h)

own_itself : (r : Revision) (j : ℕ) → r.cluster ≡ suc j → sees (own r) r ≡ true
own_itself r j is =
    let at : r.cluster - 1 ≡ j = omega (arith, is) in
    seen_at (own r) r j is
    ∙ (ap (λ (i : ℕ). option_map_or (is_at_most r) (option_flatten (slice_get (only_at i r) j)) false) at
    ∙ (ap (λ o. option_map_or (is_at_most r) o false) (only_here j r) ∙ at_most_itself r))

-- what a vector sees it sees of its cluster node downwards
pub seen_down : (v : RevVec) (q r : Revision) → q.cluster ≡ r.cluster → is_at_most q r ≡ true → sees v r ≡ true → sees v q ≡ true
seen_down v q r same low h = ap (λ (n : ℕ). option_map_or (is_at_most q) (entry v n) false) same ∙ by (entry v r.cluster) h
  where
    by : (o : Option Revision) → option_map_or (is_at_most r) o false ≡ true → option_map_or (is_at_most q) o false ≡ true
    by None h = h
    by (Some e) h = at_most_trans q r e low h

-- ---- one vector raised to several

or_first : (a b : Bool) → a ≡ true → (a || b) ≡ true
or_first true b h = refl
or_first false b h = absurd (false≢true h)

or_second : (a b : Bool) → b ≡ true → (a || b) ≡ true
or_second true b h = refl
or_second false b h = h

module _ (g : Revision → RevVec) where
  abbrev raised_by : RevVec → Commits → RevVec
  raised_by v es = fold (λ v e. greatest v (g e.0)) v es

  from_raised : (es : Commits) (v : RevVec) (q : Revision) → sees (raised_by v es) q ≡ true → (sees v q ≡ true) ⊎ ((e : Revision × List Write) × IsIn e es × (sees (g e.0) q ≡ true))
  from_raised [] v q h = inl h
  from_raised (e ∷ es) v q h = elim (from_raised es (greatest v (g e.0)) q h) [
    | inl k ↦ elim (either_true (sees v q) (sees (g e.0) q) (sym (sees_greatest v (g e.0) q) ∙ k)) [ inl l ↦ inl l | inr l ↦ inr (e, inl refl, l) ]
    | inr k ↦ inr (k.0, inr k.1, k.2)
  ]

  raised_low : (es : Commits) (v : RevVec) (q : Revision) → sees v q ≡ true → sees (raised_by v es) q ≡ true
  raised_low [] v q h = h
  raised_low (e ∷ es) v q h = raised_low es (greatest v (g e.0)) q (sees_greatest v (g e.0) q ∙ or_first _ _ h)

  raised_each : (es : Commits) (v : RevVec) (e : Revision × List Write) (q : Revision) → IsIn e es → sees (g e.0) q ≡ true → sees (raised_by v es) q ≡ true
  raised_each [] v e q i h = absurd i
  raised_each (f ∷ es) v e q (inl one) h = raised_low es (greatest v (g f.0)) q (sees_greatest v (g f.0) q ∙ or_second (sees v q) _ (subst (λ (x : Revision × List Write). sees (g x.0) q ≡ true) (sym one) h))
  raised_each (f ∷ es) v e q (inr i) h = raised_each es (greatest v (g f.0)) e q i h

-- ---- commits in a list

pub in_edits : (es : Commits) (r : Revision) (ws : List Write) → of_revision es r ≡ Some ws → IsIn (r, ws) es
in_edits [] r ws h = absurd (false≢true (ap is_some h))
in_edits (e ∷ es) r ws h = by (eq_by_cmp revision_cmp r e.0) refl h (λ k. in_edits es r ws k)
  where
    value : (x y : List Write) → Some x ≡ Some y → x ≡ y
    value x y h = ap (λ o. unwrap_or o x) h

    by : (b : Bool) → eq_by_cmp revision_cmp r e.0 ≡ b → cond b (Some e.1) (of_revision es r) ≡ Some ws → (of_revision es r ≡ Some ws → IsIn (r, ws) es) → IsIn (r, ws) (e ∷ es)
    by true same h rest = inl (λ i. (sym (same_revision r e.0 same) i, value e.1 ws h i))
    by false other h rest = inr (rest h)

of_edits : (es : Commits) (e : Revision × List Write) → IsIn e es → is_some (of_revision es e.0) ≡ true
of_edits [] e i = absurd i
of_edits (f ∷ es) e (inl one) = ap is_some (subst (λ (x : Revision × List Write). of_revision (f ∷ es) x.0 ≡ Some f.1) one (found_first f es))
of_edits (f ∷ es) e (inr i) = by (eq_by_cmp revision_cmp e.0 f.0) (of_edits es e i)
  where
    by : (b : Bool) → is_some (of_revision es e.0) ≡ true → is_some (cond b (Some f.1) (of_revision es e.0)) ≡ true
    by true rest = refl
    by false rest = rest

filtered : (test : Revision × List Write → Bool) (es : Commits) (e : Revision × List Write) → IsIn e (filter test es) → IsIn e es × (test e ≡ true)
filtered test [] e i = absurd i
filtered test (f ∷ es) e i = by (test f) refl i (λ j. filtered test es e j)
  where
    by : (b : Bool) → test f ≡ b → IsIn e (cond b (f ∷ filter test es) (filter test es)) → (IsIn e (filter test es) → IsIn e es × (test e ≡ true)) → IsIn e (f ∷ es) × (test e ≡ true)
    by true h (inl one) rest = (inl one, subst (λ (x : Revision × List Write). test x ≡ true) one h)
    by true h (inr i) rest = let r = rest i in (inr r.0, r.1)
    by false h i rest = let r = rest i in (inr r.0, r.1)

kept : (test : Revision × List Write → Bool) (es : Commits) (e : Revision × List Write) → IsIn e es → test e ≡ true → IsIn e (filter test es)
kept test [] e i h = absurd i
kept test (f ∷ es) e (inl one) h = subst (λ b. IsIn e (cond b (f ∷ filter test es) (filter test es))) (sym (subst (λ (x : Revision × List Write). test x ≡ true) (sym one) h)) (inl one)
kept test (f ∷ es) e (inr i) h = by (test f) (kept test es e i h)
  where
    by : (b : Bool) → IsIn e (filter test es) → IsIn e (cond b (f ∷ filter test es) (filter test es))
    by true j = inr j
    by false j = j

-- ---- the cut

module _ (start : Start) (past : Past) (told : IsToldSince start past) (from to : RevVec) (less : IsInUseSince start past from) (more : IsInUseSince start past to) (below : (q : Revision) → sees from q ≡ true → sees to q ≡ true) where
  abbrev base_of : Revision → RevVec
  base_of r = option_map_or (λ d. d.base) (draw_of past r) []

  base_sees : (r q : Revision) → sees (base_of r) q ≡ is_in_base past r q
  base_sees r q = by (draw_of past r)
    where
      none : (k : ℕ) → option_map_or (is_at_most q) (entry [] k) false ≡ false
      none zero = refl
      none (suc k) = ap (λ o. option_map_or (is_at_most q) o false) (entry_at [] k) ∙ at k
        where
          at : (k : ℕ) → option_map_or (is_at_most q) (option_flatten (slice_get [] k)) false ≡ false
          at zero = refl
          at (suc k) = refl

      by : (o : Option Draw) → sees (option_map_or (λ d. d.base) o []) q ≡ option_map_or (λ d. sees d.base q) o false
      by None = none q.cluster
      by (Some d) = refl

  abbrev learnt : Revision → RevVec
  learnt r = greatest (base_of r) (own r)

  learnt_sees : (r q : Revision) → sees (learnt r) q ≡ true → (is_in_base past r q ≡ true) ⊎ (sees (own r) q ≡ true)
  learnt_sees r q h = elim (either_true (sees (base_of r) q) (sees (own r) q) (sym (sees_greatest (base_of r) (own r) q) ∙ h)) [ inl k ↦ inl (sym (base_sees r q) ∙ k) | inr k ↦ inr k ]

  learnt_base : (r q : Revision) → is_in_base past r q ≡ true → sees (learnt r) q ≡ true
  learnt_base r q h = sees_greatest (base_of r) (own r) q ∙ or_first _ _ (base_sees r q ∙ h)

  module _ (test : Sight) (down : (q r : Revision) → is_at_most q r ≡ true → test r ≡ true → test q ≡ true) where
    abbrev seen_there : Commits
    seen_there = filter (λ e. sees to e.0 && test e.0) (committed_edits past)

    abbrev pub cut : RevVec
    cut = raised_by learnt from seen_there

    -- what it sees, `from` sees, or the base of a commit up to the place, or it is at most that commit
    cut_from : (q : Revision) → sees cut q ≡ true → (sees from q ≡ true) ⊎ ((e : Revision × List Write) × IsIn e (committed_edits past) × (sees to e.0 ≡ true) × (test e.0 ≡ true) × (sees (learnt e.0) q ≡ true))
    cut_from q h = elim (from_raised learnt seen_there from q h) [
      | inl k ↦ inl k
      | inr k ↦ let f = filtered (λ e. sees to e.0 && test e.0) (committed_edits past) k.0 k.1 in let b = and_both (sees to (k.0).0) (test (k.0).0) f.1 in inr (k.0, f.0, b.0, b.1, k.2)
    ]

    -- a commit that a learnt one's base sees is before it
    learnt_low : (e : Revision × List Write) → IsIn e (committed_edits past) → sees to e.0 ≡ true → (q : Revision) → sees (learnt e.0) q ≡ true → (sees to q ≡ true) × (is_at_most q e.0 ≡ true)
    learnt_low e i seen q h =
        let us = some_of (edit_since past e.0) (of_edits (committed_edits past) e i) in
        let k = positive to e.0 seen in
        elim (learnt_sees e.0 q h) [
          | inl b ↦ (more.closed e.0 us.0 us.1 seen q b, before_at_most q e.0 ((told.sound e.0 us.0 us.1).ready.rises q b))
          | inr o ↦ let l = own_sees e.0 q k.0 k.1 o in (seen_down to q e.0 l.0 l.1 seen, l.1)
        ]

    cut_low : (q : Revision) → sees from q ≡ true → sees cut q ≡ true
    cut_low q h = raised_low learnt seen_there from q h

    -- of the commits it sees those that `from` sees, and of those that `to` sees those up to the place
    pub cut_commits : (q : Revision) (us : List Write) → edit_since past q ≡ Some us → sees to q ≡ true → test q ≡ true → sees cut q ≡ true
    cut_commits q us is seen low =
        let k = positive to q seen in
        raised_each learnt seen_there from (q, us) q
        (kept (λ e. sees to e.0 && test e.0) (committed_edits past) (q, us) (in_edits (committed_edits past) q us is) (ap (λ b. b && test q) seen ∙ low))
        (sees_greatest (base_of q) (own q) q ∙ or_second (sees (base_of q) q) _ (own_itself q k.0 k.1))

    pub cut_place : (q : Revision) → sees cut q ≡ true → (sees from q ≡ true) ⊎ (test q ≡ true)
    cut_place q h = elim (cut_from q h) [
      | inl k ↦ inl k
      | inr k ↦ inr (down q (k.0).0 (learnt_low k.0 k.1 k.2 q k.4).1 k.3)
    ]

    pub cut_between : IsBetween past from to cut
    cut_between = record {
      low = cut_low;
      high = λ q h. elim (cut_from q h) [ inl k ↦ below q k | inr k ↦ (learnt_low k.0 k.1 k.2 q k.4).0 ];
      closed = λ o us is seen q base. elim (cut_place o seen) [
        | inl k ↦ cut_low q (less.closed o us is k q base)
        | inr place ↦ elim (cut_from o seen) [
          | inl k ↦ cut_low q (less.closed o us is k q base)
          | inr k ↦ raised_each learnt seen_there from (o, us) q
              (kept (λ e. sees to e.0 && test e.0) (committed_edits past) (o, us) (in_edits (committed_edits past) o us is) (ap (λ b. b && test o) (learnt_low k.0 k.1 k.2 o k.4).0 ∙ place))
              (learnt_base o q base)
        ]
      ];
    }
