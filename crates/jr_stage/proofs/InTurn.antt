-- The sessions whose commits are in flight, in ascending order of their revisions: each is first once those before it have replied.
use Rattle.std.proofs.Common.{◌≡◌, ℕ, ◌+◌, ◌<◌, ◌≤◌, length, get_or, drop, Bool, true, false, cond, not, ◌||◌, ◌&&◌, Some, None, Option, List, [], ◌∷◌, is_some, refl, sym, ap, ◌∙◌, subst, arith}
use Rattle.std.specs.Prelude.{◌==◌}
use Rattle.std.specs.Map.{values_of}
use Rattle.std.specs.BTreeMap.{insert_entry}
use Rattle.std.specs.FinMap.{is_sorted}
use Rattle.std.specs.FinMap.Entries.{below_all}
use Rattle.std.specs.List.{filter, fold}
use Rattle.std.specs.Option.{option_map_or}
use Rattle.std.specs.Ordering.{is_eq, is_le, ordering_reverse}
use Rattle.std.specs.declared.cmp.Ordering.{Ordering}
use Rattle.std.specs.declared.cmp.Ordering.TheVariants.{Less, Equal, Greater}
use Rattle.std.proofs.lemmas.Bool.Decides.{nat_tests}
use Rattle.std.proofs.lemmas.List.{drop_all, drop_more}
use mathlib.Core.Bool.{false≢true}
use Rattle.jr_rev.specs.declared.revision.Revision.{Revision}
use Rattle.jr_rev.specs.Revisions.{is_at_most, is_before, is_same, revision_cmp}
use Rattle.jr_rev.proofs.Order.{at_most_itself, at_most_trans, revision_total, same_revision}
use Rattle.oak_machine.specs.declared.event.Draw.{Draw}
use Rattle.oak_machine.specs.declared.event.Event.TheVariants as event
use Rattle.oak_machine.specs.History.{Past}
use Rattle.oak_machine.specs.Commits.{draw_of, is_drawn, is_ended, is_in_flight}
use Rattle.oak_machine.specs.Heads.{last_draw_time}
use Rattle.oak_machine.specs.Laws.{Says, Starts, is_revision_of}
use Rattle.oak_machine.specs.Runs.{AreNodes, IsRunOf}
use Rattle.oak_machine.specs.Sessions.{is_drawing}
use Rattle.core_read.proofs.Entries.{exactly, first, none_below, second}
use Rattle.core_read.proofs.Latest.{before_at_most}
use Rattle.core_read.proofs.Vectors.{time_before}
use Rattle.core_heads.proofs.Orders.{before_not}
use Rattle.core_heads.proofs.Runs.{sound_run}
use Rattle.core_heads.proofs.Steps.{above}
use Rattle.jr_stage.specs.Awaited.{AreInTurn, StandInTurn, IsNextToReply, IsStill, KeepsWaiting, LeavesOtherSessions, is_among}
use Rattle.jr_stage.specs.Places.{draws_in, flying_sessions}
use Rattle.jr_stage.proofs.Ascending.{AreFlown, draws_flown, draws_found, flies_as, flies_of, flown_of, found}
use Rattle.jr_stage.proofs.First.{drawn_by, flying_drawing, has_flying, revision_by, waits_still}
use Rattle.jr_stage.proofs.Flying.{none_is_some, same_itself, some_is_some}
use Rattle.jr_stage.proofs.Seen.{cluster_of}

equal : (a b : ℕ) → (a == b) ≡ true → a ≡ b
equal a b h = grind (arith, nat_tests)

itself : (n : ℕ) → (n == n) ≡ true
itself n = grind (arith, nat_tests)

-- ---- the order of revisions

both_at_most : (a b : Revision) → is_at_most a b ≡ true → is_at_most b a ≡ true → is_same a b ≡ true
both_at_most a b h k = by (revision_cmp a b) h (sym (ap is_le (revision_total.antisymm b a)) ∙ k)
  where
    by : (o : Ordering) → is_le o ≡ true → is_le (ordering_reverse o) ≡ true → is_eq o ≡ true
    by Less h k = absurd (false≢true k)
    by Equal h k = refl
    by Greater h k = absurd (false≢true h)

-- ---- a session's last draw

module _ (clusters : ℕ) (sessions : List ℕ) (nodes : AreNodes clusters sessions) (starts : Starts) (says : Says) where
  -- what s drew before is before what it draws
  drawn_before : (past : Past) (d : Draw) (r : Revision) → IsRunOf starts says clusters sessions None (event.Draw d ∷ past) → is_revision_of past d.session r ≡ true → is_before r d.revision ≡ true
  drawn_before past d r run own =
      let sound = sound_run clusters sessions nodes None starts says past run.1 in
      let by = drawn_by past d.session r own in
      let draw = sound.draws r by.draw by.known in
      let same : r.cluster ≡ d.revision.cluster = some_is_some r.cluster d.revision.cluster (sym (cluster_of clusters sessions nodes starts says past run.1 d.session r own) ∙ run.0.cluster) in
      let late = subst (λ (k : ℕ). r.time ≤ last_draw_time past k) same draw.late in
      let later = above clusters sessions nodes None past sound d (nodes.node d.session d.revision.cluster run.0.cluster) run.0.next in
      time_before r d.revision (omega arith)

  -- what s has in flight is the last that it drew
  pub last_greatest : (past : Past) (s : ℕ) (q r : Revision) → IsRunOf starts says clusters sessions None past → is_revision_of past s q ≡ true → is_in_flight past q ≡ true → is_revision_of past s r ≡ true → is_at_most r q ≡ true
  last_greatest [] s q r run own flies theirs = absurd (false≢true own)
  last_greatest (event.Draw d ∷ past) s q r run own flies theirs = by (λ k l m. last_greatest past s q r run.1 k l m) (is_same q d.revision) (is_same r d.revision) refl refl own flies theirs
    where
      by : (is_revision_of past s q ≡ true → is_in_flight past q ≡ true → is_revision_of past s r ≡ true → is_at_most r q ≡ true)
          → (a b : Bool) → is_same q d.revision ≡ a → is_same r d.revision ≡ b
          → option_map_or (λ x. x.session == s) (cond a (Some d) (draw_of past q)) false ≡ true → (is_some (cond a (Some d) (draw_of past q)) && not (is_ended past q)) ≡ true
          → option_map_or (λ x. x.session == s) (cond b (Some d) (draw_of past r)) false ≡ true → is_at_most r q ≡ true
      by rest true true same too mine f h =
          subst (λ (x : Revision). is_at_most x q ≡ true) (sym (same_revision r d.revision too))
          (subst (λ (x : Revision). is_at_most d.revision x ≡ true) (sym (same_revision q d.revision same)) (at_most_itself d.revision))
      by rest true false same too mine f h =
          subst (λ (x : Revision). is_at_most r x ≡ true) (sym (same_revision q d.revision same))
          (before_at_most r d.revision (drawn_before past d r run (subst (λ (n : ℕ). is_revision_of past n r ≡ true) (sym (equal d.session s mine)) h)))
      by rest false true same too mine f h =
          absurd (false≢true (sym (subst (λ (n : ℕ). is_drawing past n ≡ false) (equal d.session s h) run.0.idle) ∙ flying_drawing past s q mine f))
      by rest false false same too mine f h = rest mine f h
  last_greatest (event.End x ∷ past) s q r run own flies theirs = last_greatest past s q r run.1 own (flew (is_drawn past q) (is_same q x) (is_ended past q) flies) theirs
    where
      flew : (d a b : Bool) → (d && not (a || b)) ≡ true → (d && not b) ≡ true
      flew true false b h = h
      flew true true b h = absurd (false≢true h)
      flew false a b h = absurd (false≢true h)
  last_greatest (e ∷ past) s q r run own flies theirs = last_greatest past s q r run.1 own flies theirs

  -- and all that it has in flight
  one_flying : (past : Past) (s : ℕ) (q r : Revision) → IsRunOf starts says clusters sessions None past → is_revision_of past s q ≡ true → is_in_flight past q ≡ true → is_revision_of past s r ≡ true → is_in_flight past r ≡ true → is_same q r ≡ true
  one_flying past s q r run own flies theirs too = both_at_most q r (last_greatest past s r q run theirs too own) (last_greatest past s q r run own flies theirs)

-- ---- entries of what is in flight

-- each of the entries has the session of a commit that is in flight at its revision
abbrev AllFly : Past → List (Revision × ℕ) → Type 0
AllFly past [] = Unit {0}
AllFly past (e ∷ es) = (flies_as past e.0 ≡ Some e.1) × AllFly past es

all_fly : (past : Past) (es : List (Revision × ℕ)) → is_sorted revision_cmp es ≡ true → ((r : Revision) (s : ℕ) → found es r ≡ Some s → flies_as past r ≡ Some s) → AllFly past es
all_fly past [] order sound = tt
all_fly past (e ∷ es) order sound = (
  sound e.0 e.1 (ap (λ b. cond b (Some e.1) (found es e.0)) (same_itself e.0)),
  all_fly past es (second (below_all revision_cmp e.0 es) _ order) (λ r s h. sound r s (by r s (is_same r e.0) refl h)),
)
  where
    by : (r : Revision) (s : ℕ) (b : Bool) → is_same r e.0 ≡ b → found es r ≡ Some s → cond b (Some e.1) (found es r) ≡ Some s
    by r s true same h = none_is_some s (sym (none_below revision_cmp revision_total r e.0 (exactly (revision_cmp r e.0) same) es (first (below_all revision_cmp e.0 es) _ order)) ∙ h)
    by r s false same h = h

-- a commit of t that is in flight, behind each revision that is below all entries
record IsEntry (past : Past) (t : ℕ) (es : List (Revision × ℕ)) : Type 0 where
  pub revision : Revision
  pub flies : flies_as past revision ≡ Some t
  pub behind : (k : Revision) → below_all revision_cmp k es ≡ true → is_before k revision ≡ true

entry_of : (past : Past) (t : ℕ) (es : List (Revision × ℕ)) → AllFly past es → is_among t (values_of es) ≡ true → IsEntry past t es
entry_of past t [] all h = absurd (false≢true h)
entry_of past t (e ∷ es) all h = by (λ k. entry_of past t es all.1 k) (e.1 == t) refl h
  where
    by : (is_among t (values_of es) ≡ true → IsEntry past t es) → (b : Bool) → (e.1 == t) ≡ b → (b || is_among t (values_of es)) ≡ true → IsEntry past t (e ∷ es)
    by rest true same k = record {
      revision = e.0;
      flies = all.0 ∙ ap Some (equal e.1 t same);
      behind = λ r below. first (is_before r e.0) (below_all revision_cmp r es) below;
    }
    by rest false same k =
        let there = rest k in
        record { revision = there.revision; flies = there.flies; behind = λ r below. there.behind r (second (is_before r e.0) (below_all revision_cmp r es) below) }

-- what is found has its session among the values
found_among : (es : List (Revision × ℕ)) (r : Revision) (t : ℕ) → found es r ≡ Some t → is_among t (values_of es) ≡ true
found_among [] r t h = none_is_some t h
found_among (e ∷ es) r t h = by (λ k. found_among es r t k) (is_same r e.0) h
  where
    or_later : (a b : Bool) → b ≡ true → (a || b) ≡ true
    or_later true b h = refl
    or_later false b h = h

    by : (found es r ≡ Some t → is_among t (values_of es) ≡ true) → (b : Bool) → cond b (Some e.1) (found es r) ≡ Some t → ((e.1 == t) || is_among t (values_of es)) ≡ true
    by rest true k = ap (λ b. b || is_among t (values_of es)) (subst (λ (n : ℕ). (n == t) ≡ true) (sym (some_is_some e.1 t k)) (itself t))
    by rest false k = or_later (e.1 == t) _ (rest k)

-- what flies as a commit of s is a revision of s, in flight
flown_own : (past : Past) (r : Revision) (s : ℕ) → flies_as past r ≡ Some s → is_revision_of past s r ≡ true
flown_own past r s flies =
    let flown = flown_of past r s flies in
    revision_by past s r (record { draw = flown.draw; known = flown.is; theirs = subst (λ (n : ℕ). (n == s) ≡ true) (sym flown.session) (itself s) })

flown_flies : (past : Past) (r : Revision) (s : ℕ) → flies_as past r ≡ Some s → is_in_flight past r ≡ true
flown_flies past r s flies =
    let flown = flown_of past r s flies in
    ap (λ (o : Option Draw). is_some o && not (is_ended past r)) flown.is ∙ ap not flown.unended

-- ---- in turn

module _ (clusters : ℕ) (sessions : List ℕ) (nodes : AreNodes clusters sessions) (starts : Starts) (says : Says) (past : Past) (run : IsRunOf starts says clusters sessions None past) where
  -- a later entry is of another session, and keeps the session of an earlier one not waiting
  later_waits : (k : Revision) (s t : ℕ) (es : List (Revision × ℕ)) → flies_as past k ≡ Some s → below_all revision_cmp k es ≡ true → IsEntry past t es → ((t == s) ≡ false) × (KeepsWaiting past t s → ⊥)
  later_waits k s t es flies below entry = (other (t == s) refl, waits)
    where
      after : is_before k entry.revision ≡ true
      after = entry.behind k below

      other : (b : Bool) → (t == s) ≡ b → b ≡ false
      other true same =
          let theirs : flies_as past entry.revision ≡ Some s = entry.flies ∙ ap Some (equal t s same) in
          absurd (before_not k entry.revision after
          (last_greatest clusters sessions nodes starts says past s k entry.revision run (flown_own past k s flies) (flown_flies past k s flies) (flown_own past entry.revision s theirs)))
      other false same = refl

      waits : KeepsWaiting past t s → ⊥
      waits kept =
          let same : is_same kept.holding entry.revision ≡ true =
          one_flying clusters sessions nodes starts says past t kept.holding entry.revision run kept.theirs kept.holds.flying (flown_own past entry.revision t entry.flies) (flown_flies past entry.revision t entry.flies) in
          let earlier : is_at_most entry.revision kept.held ≡ true =
          subst (λ (x : Revision). is_at_most x kept.held ≡ true) (same_revision kept.holding entry.revision same) (before_at_most kept.holding kept.held kept.holds.earlier) in
          let last = last_greatest clusters sessions nodes starts says past s k kept.held run (flown_own past k s flies) (flown_flies past k s flies) kept.own in
          before_not k entry.revision after (at_most_trans entry.revision kept.held k earlier last)

  ordered_of : (es : List (Revision × ℕ)) → is_sorted revision_cmp es ≡ true → AllFly past es → StandInTurn past (values_of es)
  ordered_of [] order all = tt
  ordered_of (e ∷ es) order all = (
    λ t among. later_waits e.0 e.1 t es all.0 (first (below_all revision_cmp e.0 es) _ order) (entry_of past t es all.1 among),
    ordered_of es (second (below_all revision_cmp e.0 es) _ order) all.1,
  )

  -- entries that tell what is in flight, and all of it
  in_turn_of : (es : List (Revision × ℕ)) → AreFlown past es → ((r : Revision) (s : ℕ) → flies_as past r ≡ Some s → is_some (found es r) ≡ true) → AreInTurn past (values_of es)
  in_turn_of es are all = record {
    flying = λ t. by t (is_drawing past t) refl;
    ordered = ordered_of es are.order fly;
  }
    where
      fly : AllFly past es
      fly = all_fly past es are.order are.sound

      there : (t : ℕ) (r : Revision) → flies_as past r ≡ Some t → (o : Option ℕ) → found es r ≡ o → is_some o ≡ true → is_among t (values_of es) ≡ true
      there t r flies None is h = absurd (false≢true h)
      there t r flies (Some s) is h = found_among es r t (is ∙ (sym (are.sound r s is) ∙ flies))

      by : (t : ℕ) (b : Bool) → is_drawing past t ≡ b → b ≡ is_among t (values_of es)
      by t true draws =
          let has = has_flying clusters sessions nodes starts says past t run draws in
          let flies : flies_as past has.draw.revision ≡ Some t = flies_of past has.draw.revision has.draw has.known has.unended ∙ ap Some (equal has.draw.session t has.theirs) in
          sym (there t has.draw.revision flies (found es has.draw.revision) refl (all has.draw.revision t flies))
      by t false idle = sym (none (is_among t (values_of es)) refl)
        where
          none : (b : Bool) → is_among t (values_of es) ≡ b → b ≡ false
          none true among =
              let entry = entry_of past t es fly among in
              absurd (false≢true (sym idle ∙ flying_drawing past t entry.revision (flown_own past entry.revision t entry.flies) (flown_flies past entry.revision t entry.flies)))
          none false among = refl

  -- the sessions whose commits are in flight
  pub flying_in_turn : AreInTurn past (flying_sessions past)
  flying_in_turn = in_turn_of (fold (λ es d. insert_entry revision_cmp es d.revision d.session) [] (filter (λ d. is_in_flight past d.revision) (draws_in past)))
      (draws_flown clusters sessions nodes starts says past run) (draws_found clusters sessions nodes starts says past)

-- ---- one after another

module _ (past : Past) (s : ℕ) (left : List ℕ) (turns : AreInTurn past (s ∷ left)) where
  pub first_drawing : is_drawing past s ≡ true
  first_drawing = turns.flying s ∙ ap (λ b. b || is_among s left) (itself s)

  pub first_in_turn : IsNextToReply past s
  first_in_turn t apart waits = by (is_among t left) refl
    where
      turned : (a b : ℕ) → (b == a) ≡ false → (a == b) ≡ false
      turned a b h = grind (arith, nat_tests)

      by : (b : Bool) → is_among t left ≡ b → ⊥
      by true among = (turns.ordered.0 t among).1 waits
      by false out = false≢true (sym (turns.flying t ∙ (ap (λ b. b || is_among t left) (turned s t apart) ∙ out)) ∙ flying_drawing past t waits.holding waits.theirs waits.holds.flying)

-- none of these is s
abbrev AreApart : ℕ → List ℕ → Type 0
AreApart s list = (t : ℕ) → is_among t list ≡ true → (t == s) ≡ false

-- sessions stay in order while another makes turns
ordered_still : (old new : Past) (s : ℕ) (list : List ℕ) → LeavesOtherSessions old new s → AreApart s list → StandInTurn old list → StandInTurn new list
ordered_still old new s [] leaves apart ordered = tt
ordered_still old new s (u ∷ list) leaves apart ordered = (
  λ t among. ((ordered.0 t among).0, λ waits. (ordered.0 t among).1 (waits_still old new s t u leaves (apart t (or_later (u == t) (is_among t list) among)) (apart u (or_first (u == u) (is_among u list) (itself u))) waits)),
  ordered_still old new s list leaves (λ t among. apart t (or_later (u == t) (is_among t list) among)) ordered.1,
)
  where
    or_later : (a b : Bool) → b ≡ true → (a || b) ≡ true
    or_later true b h = refl
    or_later false b h = h

    or_first : (a b : Bool) → a ≡ true → (a || b) ≡ true
    or_first true b h = refl
    or_first false b h = absurd (false≢true h)

-- once the first one's commit has ended, the others stand in turn
pub next_in_turn : (old new : Past) (s : ℕ) (left : List ℕ) → AreInTurn old (s ∷ left) → LeavesOtherSessions old new s → is_drawing new s ≡ false → AreInTurn new left
next_in_turn old new s left turns leaves idle = record {
  flying = λ t. by t (t == s) refl;
  ordered = ordered_still old new s left leaves apart turns.ordered.1;
}
  where
    apart : (t : ℕ) → is_among t left ≡ true → (t == s) ≡ false
    apart t among = (turns.ordered.0 t among).0

    turned : (a b : ℕ) → (b == a) ≡ false → (a == b) ≡ false
    turned a b h = grind (arith, nat_tests)

    by : (t : ℕ) (b : Bool) → (t == s) ≡ b → is_drawing new t ≡ is_among t left
    by t true same =
        subst (λ (n : ℕ). is_drawing new n ≡ false) (sym (equal t s same)) idle
        ∙ sym (out (is_among t left) refl)
      where
        out : (b : Bool) → is_among t left ≡ b → b ≡ false
        out true among = absurd (false≢true (sym (apart t among) ∙ same))
        out false among = refl
    by t false other = leaves.drawing t other ∙ (turns.flying t ∙ ap (λ b. b || is_among t left) (turned s t other))

-- ---- in a loop over them

pub in_turn_at : (past : Past) (xs : List ℕ) (i d s : ℕ) → i < length xs → s ≡ get_or xs i d → AreInTurn past (drop i xs) → AreInTurn past (s ∷ drop (i + 1) xs)
in_turn_at past xs i d s below is turns =
    subst (λ (n : ℕ). AreInTurn past (n ∷ drop (i + 1) xs)) (sym is) (subst (λ (l : List ℕ). AreInTurn past l) (drop_more xs i d below) turns)

-- behind the last one nothing is in flight
pub none_in_turn : (past : Past) (xs : List ℕ) (i : ℕ) → length xs ≤ i → AreInTurn past (drop i xs) → IsStill past
none_in_turn past xs i long turns t = (subst (λ (l : List ℕ). AreInTurn past l) (drop_all i xs long) turns).flying t
