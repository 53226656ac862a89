-- Tests that go over events, and what they decide of all revisions, checkpoints and sessions.
use Rattle.std.proofs.Common.{◌≡◌, ◌<◌, ◌≤◌, ℕ, ◌-◌, Bool, true, false, cond, not, ◌||◌, ◌⊎◌, inl, inr, Option, Some, None, List, [], ◌∷◌, ◌++◌, refl, sym, ap, subst, ◌∙◌, arith, reverse, take, drop, length, is_some}
use Rattle.std.specs.Prelude.{◌==◌}
use Rattle.std.specs.Bool.{Decides}
use Rattle.std.specs.Option.{option_map_or}
use Rattle.std.specs.Ordering.{is_eq}
use Rattle.std.proofs.Math.Seq.{drop-append_seam, take-length}
use Rattle.std.proofs.Math.ListN.{drop_of_length-le}
use Rattle.std.proofs.lemmas.Bool.{cases_lt, and_parts, and_from, or_left, or_right}
use Rattle.std.proofs.lemmas.Bool.Decides.{Decides-at, Decides-eqb}
use Rattle.std.proofs.lemmas.Cmp.{tied_itself}
use Rattle.std.proofs.lemmas.List.{reverse-append, length-reverse, length-drop, take-append-drop}
use mathlib.Core.Bool.{false≢true}
use Rattle.jr_path.specs.Lists.{Text}
use Rattle.jr_path.specs.Names.{name_cmp}
use Rattle.jr_path.proofs.Maps.{name_exact}
use Rattle.jr_rev.specs.declared.revision.Revision.{Revision}
use Rattle.jr_rev.specs.declared.vector.RevVec.{RevVec}
use Rattle.jr_rev.specs.Revisions.{is_same}
use Rattle.jr_rev.specs.Vectors.{is_below}
use Rattle.jr_rev.proofs.Order.{revision_total, same_revision}
use Rattle.oak_machine.specs.declared.event.Event.TheVariants as event
use Rattle.oak_machine.specs.declared.event.Event.{Event}
use Rattle.oak_machine.specs.History.{Begin, Past, history_of}
use Rattle.oak_machine.specs.declared.event.Journal.{Journal}
use Rattle.oak_machine.specs.Runs.{MayFollow, any_said, any_start, learned}
use Rattle.oak_machine.specs.Commits.{is_committed, is_in_base, are_clashing}
use Rattle.oak_machine.specs.Sessions.{base_of, is_attached, is_stopped_under, is_text, kept_checkpoint, last_checkpoint}
use Rattle.oak_machine.specs.Tests.{is_apart_among, is_below_kept_among, based_by, IsFreeBase, IsFreeBaseAmong}
use Rattle.oak_machine.proofs.Induction.{either}
use Rattle.basics.proofs.Orders.{equal_of}

-- ---- clashes

unless : (a b : Bool) → (a || not b) ≡ true → a ≡ false → b ≡ false
unless true b h k = absurd (false≢true (sym k))
unless false true h k = absurd (false≢true h)
unless false false h k = refl

passes : (a b : Bool) → (a ≡ false → b ≡ false) → (a || not b) ≡ true
passes true b h = refl
passes false b h = ap not (h refl)

apart_of : (now : Past) (r : Revision) (past : Past) → is_apart_among now r past ≡ true → (o : Revision) → is_committed past o ≡ true → is_in_base now r o ≡ false → are_clashing now r o ≡ false
apart_of now r [] h o c out = absurd (false≢true c)
apart_of now r (event.Commit q ∷ past) h o c out =
    let p = and_parts (is_in_base now r q || not (are_clashing now r q)) (is_apart_among now r past) h in
    either (is_same o q) (is_committed past o) c _
    (λ same. let t = subst (λ (x : Revision). (is_in_base now r x || not (are_clashing now r x)) ≡ true) (sym (same_revision o q same)) p.0 in unless (is_in_base now r o) (are_clashing now r o) t out)
    (λ rest. apart_of now r past p.1 o rest out)
apart_of now r (e ∷ past) h o c out = apart_of now r past h o c out

apart_from : (now : Past) (r : Revision) (past : Past) → ((o : Revision) → is_committed past o ≡ true → is_in_base now r o ≡ false → are_clashing now r o ≡ false) → is_apart_among now r past ≡ true
apart_from now r [] h = refl
apart_from now r (event.Commit q ∷ past) h =
    and_from (is_in_base now r q || not (are_clashing now r q)) (is_apart_among now r past)
    (passes (is_in_base now r q) (are_clashing now r q) (h q (or_left (is_same q q) (is_committed past q) (ap is_eq (tied_itself revision_total q)))))
    (apart_from now r past (λ o c. h o (or_right (is_same o q) (is_committed past o) c)))
apart_from now r (e ∷ past) h = apart_from now r past h

pub apart_decided : (past : Past) (r : Revision) → Decides (is_apart_among past r past) ((o : Revision) → is_committed past o ≡ true → is_in_base past r o ≡ false → are_clashing past r o ≡ false)
apart_decided past r = (apart_of past r past, apart_from past r past)

-- ---- checkpoints

-- a checkpoint of that id was made among some events
abbrev is_made : Past → Text → Bool
is_made [] id = false
is_made (event.Checkpoint other v ∷ past) id = is_text other id || is_made past id
is_made (_ ∷ past) id = is_made past id

kept_is_made : (past : Past) (id : Text) (v : RevVec) → kept_checkpoint past id ≡ Some v → is_made past id ≡ true
kept_is_made [] id v h = absurd (false≢true (ap is_some h))
kept_is_made (event.Checkpoint other w ∷ past) id v h = by (is_text other id) (kept_is_made past id v) h
  where
    by : (b : Bool) → (kept_checkpoint past id ≡ Some v → is_made past id ≡ true) → cond b (Some w) (kept_checkpoint past id) ≡ Some v → (b || is_made past id) ≡ true
    by true rest h = refl
    by false rest h = rest h
kept_is_made (event.Release other ∷ past) id v h = by (is_text other id) (kept_is_made past id v) h
  where
    by : (b : Bool) → (kept_checkpoint past id ≡ Some v → is_made past id ≡ true) → cond b None (kept_checkpoint past id) ≡ Some v → is_made past id ≡ true
    by true rest h = absurd (false≢true (ap is_some h))
    by false rest h = rest h
kept_is_made (e ∷ past) id v h = kept_is_made past id v h

below_some : (m : RevVec) (o : Option RevVec) (v : RevVec) → option_map_or (is_below m) o true ≡ true → o ≡ Some v → is_below m v ≡ true
below_some m o v h e = ap (λ (x : Option RevVec). option_map_or (is_below m) x true) (sym e) ∙ h

kept_of : (now : Past) (m : RevVec) (past : Past) → is_below_kept_among now m past ≡ true → (id : Text) (v : RevVec) → is_made past id ≡ true → kept_checkpoint now id ≡ Some v → is_below m v ≡ true
kept_of now m [] h id v made kept = absurd (false≢true made)
kept_of now m (event.Checkpoint other w ∷ past) h id v made kept =
    let p = and_parts (option_map_or (is_below m) (kept_checkpoint now other) true) (is_below_kept_among now m past) h in
    either (is_text other id) (is_made past id) made _
    (λ same. below_some m (kept_checkpoint now id) v (subst (λ (x : Text). option_map_or (is_below m) (kept_checkpoint now x) true ≡ true) (name_exact other id (equal_of (name_cmp other id) same)) p.0) kept)
    (λ rest. kept_of now m past p.1 id v rest kept)
kept_of now m (e ∷ past) h id v made kept = kept_of now m past h id v made kept

kept_from : (now : Past) (m : RevVec) (past : Past) → ((id : Text) (v : RevVec) → kept_checkpoint now id ≡ Some v → is_below m v ≡ true) → is_below_kept_among now m past ≡ true
kept_from now m [] h = refl
kept_from now m (event.Checkpoint other w ∷ past) h =
    and_from (option_map_or (is_below m) (kept_checkpoint now other) true) (is_below_kept_among now m past) (by (kept_checkpoint now other) (h other)) (kept_from now m past h)
  where
    by : (o : Option RevVec) → ((v : RevVec) → o ≡ Some v → is_below m v ≡ true) → option_map_or (is_below m) o true ≡ true
    by None h = refl
    by (Some v) h = h v refl
kept_from now m (e ∷ past) h = kept_from now m past h

pub kept_decided : (past : Past) (m : RevVec) → Decides (is_below_kept_among past m past) ((id : Text) (v : RevVec) → kept_checkpoint past id ≡ Some v → is_below m v ≡ true)
kept_decided past m = (λ h id v kept. kept_of past m past h id v (kept_is_made past id v kept) kept, kept_from past m past)

-- ---- bases of sessions

free_of : (sessions : List ℕ) (now : Past) (v : RevVec) (past : Past) → IsFreeBaseAmong sessions now v past → (s : ℕ) × IsFreeBase sessions now v (Some s)
free_of sessions now v [] f = absurd f
free_of sessions now v (e ∷ past) (inl f) = by (based_by e) f
  where
    by : (o : Option ℕ) → IsFreeBase sessions now v o → (s : ℕ) × IsFreeBase sessions now v (Some s)
    by None f = absurd f
    by (Some s) f = (s, f)
free_of sessions now v (e ∷ past) (inr f) = free_of sessions now v past f

-- the session of an event, or one of an earlier event
based_here : (sessions : List ℕ) (now : Past) (v : RevVec) (s : ℕ) (past : Past) (w : RevVec) → IsFreeBase sessions now v (Some s) → (base_of past s ≡ Some w → IsFreeBaseAmong sessions now v past)
    → (t : ℕ) (x : Option RevVec) (b : Bool) → (t == s) ≡ b → cond b x (base_of past s) ≡ Some w → IsFreeBase sessions now v (Some t) ⊎ IsFreeBaseAmong sessions now v past
based_here sessions now v s past w f rest t x true e h = inl (subst (λ (u : ℕ). IsFreeBase sessions now v (Some u)) (sym ((Decides-eqb t s).0 e)) f)
based_here sessions now v s past w f rest t x false e h = inr (rest h)

free_from : (sessions : List ℕ) (now : Past) (v : RevVec) (s : ℕ) → IsFreeBase sessions now v (Some s) → (past : Past) (w : RevVec) → base_of past s ≡ Some w → IsFreeBaseAmong sessions now v past
free_from sessions now v s f [] w h = absurd (false≢true (ap is_some h))
free_from sessions now v s f (event.Login t u ∷ past) w h = based_here sessions now v s past w f (free_from sessions now v s f past w) t (Some u) (t == s) refl h
free_from sessions now v s f (event.Refresh t u ∷ past) w h = based_here sessions now v s past w f (free_from sessions now v s f past w) t (Some u) (t == s) refl h
free_from sessions now v s f (event.Attach t id ∷ past) w h = based_here sessions now v s past w f (free_from sessions now v s f past w) t (last_checkpoint past id) (t == s) refl h
free_from sessions now v s f (e ∷ past) w h = inr (free_from sessions now v s f past w h)

pub free_decided : (sessions : List ℕ) (past : Past) (v : RevVec)
    → (IsFreeBaseAmong sessions past v past → (s : ℕ) × (base_of past s ≡ Some v) × (is_attached past s ≡ false) × (is_stopped_under sessions past s ≡ false))
    × ((s : ℕ) × (base_of past s ≡ Some v) × (is_attached past s ≡ false) × (is_stopped_under sessions past s ≡ false) → IsFreeBaseAmong sessions past v past)
free_decided sessions past v = (λ f. let p = free_of sessions past v past f in (p.0, p.1.0, p.1.1, p.1.2), λ p. free_from sessions past v p.0 (p.1, p.2, p.3) past v p.1)

-- ---- moments

within : {X : Type 0} (xs : List X) (at : ℕ) → at ≤ length xs → drop (length xs - at) (reverse xs) ≡ reverse (take at xs)
within xs at low =
    let parts : reverse xs ≡ reverse (drop at xs) ++ reverse (take at xs) = ap reverse (sym (take-append-drop at xs)) ∙ reverse-append (take at xs) (drop at xs) in
    let long : length xs - at ≡ length (reverse (drop at xs)) = sym (length-drop at xs) ∙ sym (length-reverse (drop at xs)) in
    ap (drop (length xs - at)) parts ∙ (ap (λ k. drop k (reverse (drop at xs) ++ reverse (take at xs))) long ∙ drop-append_seam (reverse (drop at xs)) (reverse (take at xs)))

-- the history some events ago is that of a first part of the events
pub moment : {X : Type 0} (xs : List X) (at : ℕ) → at ≤ length xs → reverse (take at xs) ≡ drop (length xs - at) (reverse xs)
moment xs at low = sym (within xs at low)

pub earlier : {X : Type 0} (xs : List X) (n : ℕ) → drop n (reverse xs) ≡ reverse (take (length xs - n) xs)
earlier xs n = elim (cases_lt (length xs) n) [
  | inl past ↦
      let none : length xs - n ≡ 0 = omega arith in
      let l = length-reverse xs in
      drop_of_length-le (reverse xs) (omega arith) ∙ sym (ap (λ k. reverse (take k xs)) none)
  | inr low ↦
      let back : length xs - (length xs - n) ≡ n = omega arith in
      ap (λ k. drop k (reverse xs)) (sym back) ∙ within xs (length xs - n) (omega arith)
]

-- what is learned from a first part of the events is learned from a moment
pub learned_then : (clusters : ℕ) (begin : Begin) (k : ℕ) (events xs : List Event) (at : ℕ) (v w : RevVec) → xs ≡ events → at < length xs → v ≡ w → w ≡ learned clusters begin (reverse xs) (reverse (take at xs)) k
    → v ≡ learned clusters begin (reverse events) (drop (length events - at) (reverse events)) k
learned_then clusters begin k events xs at v w e low p q =
    subst (λ (ys : List Event). v ≡ learned clusters begin (reverse ys) (drop (length ys - at) (reverse ys)) k) e
    (p ∙ (q ∙ ap (λ x. learned clusters begin (reverse xs) x k) (moment xs at (omega arith))))

pub learned_now : (clusters : ℕ) (begin : Begin) (k : ℕ) (events xs : List Event) (v w : RevVec) → xs ≡ events → v ≡ w → w ≡ learned clusters begin (reverse xs) (reverse xs) k → v ≡ learned clusters begin (reverse events) (reverse events) k
learned_now clusters begin k events xs v w e p q = subst (λ (ys : List Event). v ≡ learned clusters begin (reverse ys) (reverse ys) k) e (p ∙ q)

-- and what is learned from none of them but all is learned now
pub learned_last : (clusters : ℕ) (begin : Begin) (k : ℕ) (events xs : List Event) (at : ℕ) (v w : RevVec) (r : Bool) → xs ≡ events → length xs ≤ at → (v ≡ w → r ≡ true) → w ≡ learned clusters begin (reverse xs) (reverse xs) k
    → ((n : ℕ) → n < at → v ≡ learned clusters begin (reverse events) (reverse (take n events)) k → ⊥) → (n : ℕ) → v ≡ learned clusters begin (reverse events) (drop n (reverse events)) k → r ≡ true
learned_last clusters begin k events xs at v w r e high told now other n h =
    let same : v ≡ learned clusters begin (reverse events) (reverse (take (length events - n) events)) k = h ∙ ap (λ x. learned clusters begin (reverse events) x k) (earlier events n) in
    let l : length xs ≡ length events = ap length e in
    elim (cases_lt (length events - n) (length events)) [
      | inl less ↦ absurd (other (length events - n) (omega arith) same)
      | inr all ↦
          let m : length events - n ≡ length events = omega arith in
          let whole : reverse (take (length events - n) events) ≡ reverse events = ap (λ i. reverse (take i events)) m ∙ ap reverse (take-length events) in
          let last : w ≡ learned clusters begin (reverse events) (reverse events) k = subst (λ (ys : List Event). w ≡ learned clusters begin (reverse ys) (reverse ys) k) e now in
          told (same ∙ (ap (λ x. learned clusters begin (reverse events) x k) whole ∙ sym last))
    ]

-- the same of events that are read where they stand
pub kept_at : (events xs : List Event) (m : RevVec) (r : Bool) → xs ≡ events → r ≡ is_below_kept_among (reverse xs) m (reverse xs) → Decides r ((id : Text) (v : RevVec) → kept_checkpoint (reverse events) id ≡ Some v → is_below m v ≡ true)
kept_at events xs m r e is = subst (λ (ys : List Event). Decides r ((id : Text) (v : RevVec) → kept_checkpoint (reverse ys) id ≡ Some v → is_below m v ≡ true)) e (Decides-at r _ is (kept_decided (reverse xs) m))

-- what is decided of an event by its kind
pub at_kind : (j : Journal) (xs : List Event) (e x : Event) (r : Bool) → xs ≡ j.events.list → e ≡ x → Decides r (MayFollow any_start any_said (record { clusters = j.clusters; sessions = j.sessions; begin = j.start; past = reverse xs }) x)
    → Decides r (MayFollow any_start any_said (history_of j) e)
at_kind j xs e x r is kind d =
    subst (λ (y : Event). Decides r (MayFollow any_start any_said (history_of j) y)) (sym kind)
    (subst (λ (ys : List Event). Decides r (MayFollow any_start any_said (record { clusters = j.clusters; sessions = j.sessions; begin = j.start; past = reverse ys }) x)) is d)
