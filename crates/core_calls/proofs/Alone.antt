-- Between two vectors of which one has the next revision of one cluster node alone more, no other commit lies.
use Rattle.std.proofs.Common.{length, get_or, ◌≡◌, ◌-◌, ℕ, zero, suc, ◌+◌, ◌≤◌, Bool, true, false, cond, ◌||◌, inl, inr, Some, None, Option, List, [], ◌∷◌, ◌++◌, arith, is_some, refl, sym, ap, ◌∙◌, subst}
use Rattle.std.specs.Prelude.{◌==◌, option_map, slice_get}
use Rattle.std.specs.declared.cmp.Ordering.{Ordering}
use Rattle.std.specs.declared.cmp.Ordering.TheVariants.{Less, Equal, Greater}
use Rattle.std.specs.Ordering.{eq_by_cmp, is_eq, match_ordering}
use Rattle.std.specs.Option.{option_map_or, unwrap_or}
use Rattle.std.specs.FinMap.{is_sorted}
use Rattle.std.specs.FinMap.Entries.{below_all}
use Rattle.std.specs.BTreeMap.{insert_entry}
use Rattle.std.specs.List.{filter}
use Rattle.std.proofs.lemmas.Bool.Decides.{nat_tests}
use Rattle.std.proofs.lemmas.List.{get_or-set_other, get_or-set_same}
use Rattle.std.proofs.lemmas.List.Sums.{fold-append}
use mathlib.Core.Bool.{false≢true}
use Rattle.jr_path.proofs.Maps.{lookup-insert_entry}
use Rattle.jr_rev.specs.declared.revision.Revision.{Revision}
use Rattle.jr_rev.specs.declared.vector.RevVec.{RevVec}
use Rattle.jr_rev.specs.Revisions.{is_at_most, is_before, is_same, revision_cmp}
use Rattle.jr_rev.specs.Vectors.{IsVector, entry, sees, stands_from, with_entry}
use Rattle.jr_rev.proofs.Bounds.{entry_at as numbered_entry}
use Rattle.jr_rev.proofs.Order.{revision_total, same_revision}
use Rattle.jr_tree.specs.declared.edit.Write.{Write}
use Rattle.jr_tree.specs.Trees.{Nodes}
use Rattle.jr_tree.specs.Edits.{applied}
use Rattle.oak_doc.specs.Updates.{of_revision}
use Rattle.oak_machine.specs.declared.event.Draw.{Draw}
use Rattle.oak_machine.specs.declared.event.Event.TheVariants as event
use Rattle.oak_machine.specs.History.{Begin, Past, begin_tree}
use Rattle.oak_machine.specs.Commits.{applied_all, committed_edits, draw_of, is_committed, is_drawn, tree_at}
use Rattle.oak_machine.specs.Laws.{Says, Starts}
use Rattle.oak_machine.specs.Runs.{AreNodes, IsRunOf}
use Rattle.oak_machine.proofs.Induction.{committed_is_drawn}
use Rattle.core_read.proofs.Entries.{first, second}
use Rattle.core_read.proofs.Falling.{committed_sorted}
use Rattle.core_heads.specs.Sound.{IsSoundDraw}
use Rattle.core_heads.proofs.Below.{stands_at}
use Rattle.core_heads.proofs.Entries.{entry_at, flat}
use Rattle.core_heads.proofs.Locals.{some_of}
use Rattle.core_heads.proofs.Orders.{before_not, not_both, same_number, test}
use Rattle.core_heads.proofs.Runs.{fresh_run, sound_run}
use Rattle.basics.proofs.Bools.{number_itself, or_never}
use Rattle.jr_rev.specs.Alone.{IsNextAlone}

-- edits by their revisions
abbrev Edits : Type 0
Edits = List (Revision × List Write)

-- ---- each edit that counts is of a committed revision

abbrev Each : (Revision → Type 0) → Edits → Type 0
Each P [] = Unit {0}
Each P (e ∷ es) = P e.0 × Each P es

each_more : (P Q : Revision → Type 0) → ((r : Revision) → P r → Q r) → (es : Edits) → Each P es → Each Q es
each_more P Q f [] h = tt
each_more P Q f (e ∷ es) h = (f e.0 h.0, each_more P Q f es h.1)

each_insert : (P : Revision → Type 0) (r : Revision) (ws : List Write) (es : Edits) → P r → Each P es → Each P (insert_entry revision_cmp es r ws)
each_insert P r ws [] p h = (p, tt)
each_insert P r ws (e ∷ es) p h = by (revision_cmp r e.0) (each_insert P r ws es p h.1)
  where
    by : (o : Ordering) → Each P (insert_entry revision_cmp es r ws) → Each P (match_ordering o ((r, ws) ∷ e ∷ es) ((e.0, ws) ∷ es) (e ∷ insert_entry revision_cmp es r ws))
    by Less rest = (p, (h.0, h.1))
    by Equal rest = (h.0, h.1)
    by Greater rest = (h.0, rest)

same_itself : (r : Revision) → is_same r r ≡ true
same_itself r = ap is_eq (Rattle.std.specs.Cmp.tied_itself revision_total r)

or_right : (a b : Bool) → b ≡ true → (a || b) ≡ true
or_right true b h = refl
or_right false b h = h

each_committed : (past : Past) → Each (λ r. is_committed past r ≡ true) (committed_edits past)
each_committed [] = tt
each_committed (event.Commit q ∷ past) = by (draw_of past q) (each_more _ _ (λ r h. or_right (is_same r q) (is_committed past r) h) (committed_edits past) (each_committed past))
  where
    by : (o : Option Draw) → Each (λ r. is_committed (event.Commit q ∷ past) r ≡ true) (committed_edits past) → Each (λ r. is_committed (event.Commit q ∷ past) r ≡ true) (option_map_or (λ d. insert_entry revision_cmp (committed_edits past) q d.edit.writes) o (committed_edits past))
    by None rest = rest
    by (Some d) rest = each_insert (λ r. is_committed (event.Commit q ∷ past) r ≡ true) q d.edit.writes (committed_edits past) (ap (λ b. b || is_committed past q) (same_itself q)) rest
each_committed (e ∷ past) = each_committed past

-- ---- a list of edits of which one is seen more

-- a list in order in which v sees what u sees, and r, which is later than all of these
module _ (u v : RevVec) (r : Revision) (ws : List Write) (later : (x : Revision) → sees u x ≡ true → is_before x r ≡ true) where
  abbrev Sights : Revision → Type 0
  Sights x = sees v x ≡ (sees u x || is_same x r)

  abbrev seen_by : RevVec → Edits → Edits
  seen_by w es = filter (λ e. sees w e.0) es

  -- r itself is not seen by u
  own_unseen : sees u r ≡ false
  own_unseen = elim (test (sees u r)) [
    | inl h ↦ before_not r r (later r h) (Rattle.jr_rev.proofs.Order.at_most_itself r)
    | inr h ↦ h
  ]

  unseen_after : (x : Revision) → is_before r x ≡ true → sees u x ≡ false
  unseen_after x h = elim (test (sees u x)) [
    | inl seen ↦ before_not r x h (Rattle.core_read.proofs.Latest.before_at_most x r (later x seen))
    | inr k ↦ k
  ]

  other_than : (x : Revision) → is_before r x ≡ true → is_same x r ≡ false
  other_than x h = elim (test (is_same x r)) [
    | inl same ↦ before_not r x h (subst (λ (y : Revision). is_at_most x y ≡ true) (same_revision x r same) (Rattle.jr_rev.proofs.Order.at_most_itself x))
    | inr k ↦ k
  ]

  none_after : (es : Edits) → below_all revision_cmp r es ≡ true → Each Sights es → (seen_by v es ≡ []) × (seen_by u es ≡ [])
  none_after [] below sights = (refl, refl)
  none_after (e ∷ es) below sights =
      let rest = none_after es (second _ _ below) sights.1 in
      let unseen = unseen_after e.0 (first _ _ below) in
      let apart = other_than e.0 (first _ _ below) in (
        ap (λ b. cond b (e ∷ seen_by v es) (seen_by v es)) (sights.0 ∙ (ap (λ b. b || is_same e.0 r) unseen ∙ apart)) ∙ rest.0,
        ap (λ b. cond b (e ∷ seen_by u es) (seen_by u es)) unseen ∙ rest.1,
      )

  turned : (a b : Revision) → is_same a b ≡ false → is_same b a ≡ false
  turned a b h = elim (test (is_same b a)) [
    | inl same ↦ not_both (is_same a b) (subst (λ (x : Revision). is_same x b ≡ true) (same_revision b a same) (same_itself b)) h
    | inr k ↦ k
  ]

  pub one_more : (es : Edits) → is_sorted revision_cmp es ≡ true → Each Sights es → of_revision es r ≡ Some ws → seen_by v es ≡ seen_by u es ++ (r, ws) ∷ []
  one_more [] sorted sights found = absurd (false≢true (ap is_some found))
  one_more (e ∷ es) sorted sights found = elim (is_same r e.0) as (λ b. is_same r e.0 ≡ b → cond b (Some e.1) (of_revision es r) ≡ Some ws → seen_by v (e ∷ es) ≡ seen_by u (e ∷ es) ++ (r, ws) ∷ []) [
    | true ↦ λ same it. here (same_revision r e.0 same) (ap (λ (o : Option (List Write)). unwrap_or o ws) it)
    | false ↦ λ apart more. there (turned r e.0 apart) (one_more es (second _ _ sorted) sights.1 more)
  ] refl found
    where
      here : r ≡ e.0 → e.1 ≡ ws → seen_by v (e ∷ es) ≡ seen_by u (e ∷ es) ++ (r, ws) ∷ []
      here same it =
          let rest = none_after es (subst (λ (x : Revision). below_all revision_cmp x es ≡ true) (sym same) (first _ _ sorted)) sights.1 in
          let seen = sights.0 ∙ or_right (sees u e.0) (is_same e.0 r) (subst (λ (x : Revision). is_same x r ≡ true) same (same_itself r)) in
          let unseen = subst (λ (x : Revision). sees u x ≡ false) same own_unseen in
          ap (λ b. cond b (e ∷ seen_by v es) (seen_by v es)) seen
          ∙ (ap (λ (l : Edits). e ∷ l) rest.0
          ∙ (ap (λ (x : Revision). (x, e.1) ∷ []) (sym same)
          ∙ (ap (λ (us : List Write). (r, us) ∷ []) it
          ∙ sym (ap (λ (l : Edits). l ++ (r, ws) ∷ []) (ap (λ b. cond b (e ∷ seen_by u es) (seen_by u es)) unseen ∙ rest.1)))))

      there : is_same e.0 r ≡ false → seen_by v es ≡ seen_by u es ++ (r, ws) ∷ [] → seen_by v (e ∷ es) ≡ seen_by u (e ∷ es) ++ (r, ws) ∷ []
      there apart rest =
          ap (λ b. cond b (e ∷ seen_by v es) (seen_by v es)) (sights.0 ∙ (ap (λ b. sees u e.0 || b) apart ∙ or_never (sees u e.0)))
          ∙ by (sees u e.0)
        where
          by : (b : Bool) → cond b (e ∷ seen_by v es) (seen_by v es) ≡ cond b (e ∷ seen_by u es) (seen_by u es) ++ (r, ws) ∷ []
          by true = ap (λ (l : Edits). e ∷ l) rest
          by false = rest

-- ---- revisions of a cluster node one tick apart

-- the entry of a cluster node is of it
entry_cluster : (v : RevVec) (k : ℕ) (e : Revision) → stands_from 1 v ≡ true → 1 ≤ k → entry v k ≡ Some e → e.cluster ≡ k
entry_cluster v zero e stands low is = absurd (omega arith)
entry_cluster v (suc k) e stands low is = let of : e.cluster ≡ 1 + k = stands_at v 1 k e stands (flat (slice_get v k) e (sym (entry_at v k) ∙ is)) in omega arith

-- what is at most the next revision of a cluster node is at most the one before it, or it is the next
next_order : (x e r : Revision) → x.counter ≡ 0 → x.cluster ≡ r.cluster → e.cluster ≡ r.cluster → r.counter ≡ 0 → e.time + 1 ≡ r.time
    → is_at_most x r ≡ (is_at_most x e || is_same x r)
next_order x e r none same of nothing tick = grind (arith, nat_tests)

unlike : (x r : Revision) → (x.cluster ≡ r.cluster → ⊥) → is_same x r ≡ false
unlike x r apart = elim (test (is_same x r)) [
  | inl same ↦ absurd (apart (ap (λ (y : Revision). y.cluster) (same_revision x r same)))
  | inr k ↦ k
]

-- an entry that is set, and those beside it
module _ (v : RevVec) (r : Revision) (low : 1 ≤ r.cluster) where
  set_own : r.cluster ≤ length v → (k : ℕ) → r.cluster ≡ k → entry (with_entry v r) k ≡ Some r
  set_own high zero same = absurd (omega arith)
  set_own high (suc k) same =
      let before : r.cluster - 1 ≡ k = omega arith in
      numbered_entry (with_entry v r) k
      ∙ subst (λ (j : ℕ). get_or (with_entry v r) j None ≡ Some r) before (get_or-set_same v (r.cluster - 1) (Some r) None (omega arith))

  set_other : (k : ℕ) → (k ≡ r.cluster → ⊥) → entry (with_entry v r) k ≡ entry v k
  set_other zero apart = refl
  set_other (suc k) apart =
      numbered_entry (with_entry v r) k
      ∙ (get_or-set_other v (r.cluster - 1) k (Some r) None (λ same. apart (omega arith)) ∙ sym (numbered_entry v k))

  pub set_alone : r.cluster ≤ 8 → IsVector v → option_map (λ (e : Revision). e.time + 1) (entry v r.cluster) ≡ Some r.time → IsNextAlone v (with_entry v r) r
  set_alone high vector tick = record {
    own = set_own (let eight = vector.eight in omega arith) r.cluster refl;
    next = tick;
    others = λ k from to apart. set_other k apart;
  }

-- ---- a committed edit is found

module _ (starts : Starts) (says : Says) (clusters : ℕ) (sessions : List ℕ) (nodes : AreNodes clusters sessions) (begin : Begin) where
  drawn : (past : Past) (r : Revision) → IsRunOf starts says clusters sessions begin past → is_committed past r ≡ true → is_drawn past r ≡ true
  drawn past r run h = committed_is_drawn starts says clusters sessions begin (λ q r same. sym (same_revision r q same)) past r run h

  pub found_committed : (past : Past) (r : Revision) (d : Draw) → IsRunOf starts says clusters sessions begin past → is_committed past r ≡ true
      → draw_of past r ≡ Some d → of_revision (committed_edits past) r ≡ Some d.edit.writes
  found_committed [] r d run made is = absurd (false≢true made)
  found_committed (event.Commit q ∷ past) r d run made is =
      elim (is_same r q) as (λ b. is_same r q ≡ b → (b || is_committed past r) ≡ true → of_revision (committed_edits (event.Commit q ∷ past)) r ≡ Some d.edit.writes) [
        | true ↦ λ same made. own (same_revision r q same)
        | false ↦ λ apart made. beside (draw_of past q) apart (found_committed past r d run.1 made is)
      ] refl made
    where
      with : Option Draw → Edits
      with o = option_map_or (λ e. insert_entry revision_cmp (committed_edits past) q e.edit.writes) o (committed_edits past)

      own : r ≡ q → of_revision (with (draw_of past q)) r ≡ Some d.edit.writes
      own same =
          ap (λ (o : Option Draw). of_revision (with o) r) (ap (draw_of past) (sym same) ∙ is)
          ∙ (lookup-insert_entry revision_cmp revision_total r q d.edit.writes (committed_edits past)
          ∙ ap (λ b. cond b (Some d.edit.writes) (of_revision (committed_edits past) r)) (subst (λ (x : Revision). is_same r x ≡ true) same (same_itself r)))

      beside : (o : Option Draw) → is_same r q ≡ false → of_revision (committed_edits past) r ≡ Some d.edit.writes → of_revision (with o) r ≡ Some d.edit.writes
      beside None apart rest = rest
      beside (Some e) apart rest =
          lookup-insert_entry revision_cmp revision_total r q e.edit.writes (committed_edits past)
          ∙ (ap (λ b. cond b (Some e.edit.writes) (of_revision (committed_edits past) r)) apart ∙ rest)
  found_committed (event.Draw e ∷ past) r d run made is =
      elim (is_same r e.revision) as (λ b. is_same r e.revision ≡ b → cond b (Some e) (draw_of past r) ≡ Some d → of_revision (committed_edits past) r ≡ Some d.edit.writes) [
        | true ↦ λ same it. new (same_revision r e.revision same)
        | false ↦ λ apart it. found_committed past r d run.1 made it
      ] refl is
    where
      new : {A : Type 0} → r ≡ e.revision → A
      new same = absurd (false≢true (sym (ap is_some (ap (draw_of past) same ∙ (fresh_run clusters sessions nodes begin starts says e past run).fresh)) ∙ drawn past r run.1 made))
  found_committed (e ∷ past) r d run made is = found_committed past r d run.1 made is

  -- ---- drawn revisions count nothing

  pub uncounted : (past : Past) (r : Revision) (d : Draw) → IsRunOf starts says clusters sessions begin past → draw_of past r ≡ Some d → r.counter ≡ 0
  uncounted [] r d run is = absurd (false≢true (ap is_some is))
  uncounted (event.Draw e ∷ past) r d run is =
      elim (is_same r e.revision) as (λ b. is_same r e.revision ≡ b → cond b (Some e) (draw_of past r) ≡ Some d → r.counter ≡ 0) [
        | true ↦ λ same it. ap (λ (x : Revision). x.counter) (same_revision r e.revision same ∙ run.0.next)
        | false ↦ λ apart it. uncounted past r d run.1 it
      ] refl is
  uncounted (e ∷ past) r d run is = uncounted past r d run.1 is

  -- ---- what the two vectors see

  module _ (past : Past) (run : IsRunOf starts says clusters sessions begin past) (v : RevVec) (r : Revision) (d : Draw) (is : draw_of past r ≡ Some d) (alone : IsNextAlone d.base v r) where
    of_draw : IsSoundDraw clusters begin past r d
    of_draw = (sound_run clusters sessions nodes begin starts says past run).draws r d is

    old_entry : (e : Revision) × (entry d.base r.cluster ≡ Some e) × (e.time + 1 ≡ r.time)
    old_entry = by (entry d.base r.cluster) refl alone.next
      where
        by : (o : Option Revision) → entry d.base r.cluster ≡ o → option_map (λ (e : Revision). e.time + 1) o ≡ Some r.time → (e : Revision) × (entry d.base r.cluster ≡ Some e) × (e.time + 1 ≡ r.time)
        by None at h = absurd (false≢true (ap is_some h))
        by (Some e) at h = (e, at, ap (λ (o : Option ℕ). unwrap_or o r.time) h)

    -- of the revision's own cluster node
    own_sight : (x : Revision) → x.counter ≡ 0 → x.cluster ≡ r.cluster → sees v x ≡ (sees d.base x || is_same x r)
    own_sight x none same =
        let e = old_entry in
        ap (λ (k : ℕ). option_map_or (is_at_most x) (entry v k) false) same
        ∙ (ap (λ (o : Option Revision). option_map_or (is_at_most x) o false) alone.own
        ∙ (next_order x e.0 r none same (entry_cluster d.base r.cluster e.0 of_draw.stands of_draw.node.0 e.1) (uncounted past r d run is) e.2
        ∙ sym (ap (λ (k : ℕ). option_map_or (is_at_most x) (entry d.base k) false || is_same x r) same
        ∙ ap (λ (o : Option Revision). option_map_or (is_at_most x) o false || is_same x r) e.1)))

    other_sight : (x : Revision) → 1 ≤ x.cluster → x.cluster ≤ 8 → (x.cluster ≡ r.cluster → ⊥) → sees v x ≡ (sees d.base x || is_same x r)
    other_sight x low high apart =
        ap (λ (o : Option Revision). option_map_or (is_at_most x) o false) (alone.others x.cluster low high apart)
        ∙ sym (ap (λ b. sees d.base x || b) (unlike x r apart) ∙ or_never (sees d.base x))

    sight : (x : Revision) → is_committed past x ≡ true → sees v x ≡ (sees d.base x || is_same x r)
    sight x made =
        let e = some_of (draw_of past x) (drawn past x run made) in
        let node = ((sound_run clusters sessions nodes begin starts says past run).draws x e.0 e.1).node in
        let eight = nodes.eight in
        elim (test (x.cluster == r.cluster)) [
          | inl same ↦ own_sight x (uncounted past x e.0 run e.1) (same_number x.cluster r.cluster same)
          | inr apart ↦ other_sight x node.0 (let few = node.1 in omega arith) (λ same. not_both (x.cluster == r.cluster) (subst (λ (k : ℕ). (x.cluster == k) ≡ true) same (number_itself x.cluster)) apart)
        ]

    pub tree_next : is_committed past r ≡ true → tree_at begin past v ≡ applied (Some r) (tree_at begin past d.base) d.edit.writes
    tree_next made =
        ap (applied_all (begin_tree begin))
        (one_more d.base v r d.edit.writes of_draw.rises (committed_edits past) (committed_sorted past)
        (each_more _ _ sight (committed_edits past) (each_committed past))
        (found_committed past r d run made is))
        ∙ fold-append (λ (t : Nodes) (e : Revision × List Write). applied (Some e.0) t e.1) (begin_tree begin) (filter (λ e. sees d.base e.0) (committed_edits past)) ((r, d.edit.writes) ∷ [])
