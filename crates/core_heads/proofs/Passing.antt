-- What a history says of a session stays as it is while events of others are added.
use Rattle.std.proofs.Common.{◌≡◌, ℕ, Bool, true, false, cond, ◌||◌, ◌&&◌, not, Some, List, [], ◌∷◌, ◌++◌, is_some, arith, refl, sym, ap, ◌∙◌, subst, None}
use Rattle.std.specs.Prelude.{◌==◌, ◌+◌}
use Rattle.std.specs.Option.{unwrap_or}
use Rattle.std.specs.List.{fold, list_any}
use mathlib.Core.Bool.{false≢true}
use Rattle.jr_rev.specs.declared.revision.Revision.{Revision}
use Rattle.jr_rev.specs.Revisions.{is_same}
use Rattle.jr_rev.proofs.Order.{same_revision}
use Rattle.oak_machine.specs.declared.event.Event.{Event}
use Rattle.oak_machine.specs.declared.event.Event.TheVariants as event
use Rattle.oak_machine.specs.History.{Begin, Past}
use Rattle.oak_machine.specs.Commits.{is_committed, is_drawn, is_ended, is_end_of, is_in_flight, refusal_of}
use Rattle.oak_machine.specs.Laws.{Starts, Says, is_event_of}
use Rattle.oak_machine.specs.Runs.{IsRunOf}
use Rattle.oak_machine.specs.Sessions.{drawn_among, drawn_since, is_drawing, is_drawing_among, is_login_of, is_reply_of, next_index, refreshed_among, refreshed_since, since}
use Rattle.oak_machine.proofs.Induction.{neither, other}
use Rattle.oak_machine.proofs.Stays.{any_later}

-- ---- replies

pub next_stays : (whole added past : Past) (s : ℕ) → list_any (is_event_of whole s) added ≡ false → next_index (added ++ past) s ≡ next_index past s
next_stays whole [] past s h = refl
next_stays whole (event.Said t i text ∷ added) past s h = let n = neither (t == s) _ h in ap (λ (b : Bool). fold (λ (a : ℕ) (x : Event). a + cond (is_reply_of s x) 1 0) (0 + cond b 1 0) (added ++ past)) n.0 ∙ next_stays whole added past s n.1
next_stays whole (e ∷ added) past s h = next_stays whole added past s (neither (is_event_of whole s e) _ h).1

-- one event more adds one reply, where it is one
pub next_more : (s : ℕ) (e : Event) (past : Past) → next_index (e ∷ past) s ≡ next_index past s + cond (is_reply_of s e) 1 0
next_more s e past = more past 0 (cond (is_reply_of s e) 1 0)
  where
    more : (past : Past) (b a : ℕ) → fold (λ (n : ℕ) (e : Event). n + cond (is_reply_of s e) 1 0) (b + a) past ≡ fold (λ (n : ℕ) (e : Event). n + cond (is_reply_of s e) 1 0) b past + a
    more [] b a = refl
    more (e ∷ past) b a =
        ap (λ (n : ℕ). fold (λ (n : ℕ) (e : Event). n + cond (is_reply_of s e) 1 0) n past) (turned b a (cond (is_reply_of s e) 1 0))
        ∙ more past (b + cond (is_reply_of s e) 1 0) a
      where
        turned : (b a c : ℕ) → b + a + c ≡ b + c + a
        turned b a c = omega arith

-- ---- since the last reply

-- events of others are no replies and no logins of s
since_others : {A : Type 0} (f : Past → A) (b : Bool) (e : Event) (rest : Past) → b ≡ false → f (cond b [] (e ∷ rest)) ≡ f (e ∷ rest)
since_others f b e rest h = ap (λ (c : Bool). f (cond c [] (e ∷ rest))) h

pub drawn_stays : (whole added past : Past) (s : ℕ) → list_any (is_event_of whole s) added ≡ false → drawn_since (added ++ past) s ≡ drawn_since past s
drawn_stays whole [] past s h = refl
drawn_stays whole (event.Login t v ∷ added) past s h = let n = neither (t == s) _ h in since_others (λ p. drawn_among p s) (t == s) (event.Login t v) (since (added ++ past) s) n.0 ∙ drawn_stays whole added past s n.1
drawn_stays whole (event.Said t i text ∷ added) past s h = let n = neither (t == s) _ h in since_others (λ p. drawn_among p s) (t == s || false) (event.Said t i text) (since (added ++ past) s) (ap (λ b. b || false) n.0) ∙ drawn_stays whole added past s n.1
drawn_stays whole (event.Draw d ∷ added) past s h = let n = neither (d.session == s) _ h in other (d.session == s) _ _ _ n.0 (drawn_stays whole added past s n.1)
drawn_stays whole (e ∷ added) past s h = drawn_stays whole added past s (neither (is_event_of whole s e) _ h).1

pub refreshed_stays : (whole added past : Past) (s : ℕ) → list_any (is_event_of whole s) added ≡ false → refreshed_since (added ++ past) s ≡ refreshed_since past s
refreshed_stays whole [] past s h = refl
refreshed_stays whole (event.Login t v ∷ added) past s h = let n = neither (t == s) _ h in since_others (λ p. refreshed_among p s) (t == s) (event.Login t v) (since (added ++ past) s) n.0 ∙ refreshed_stays whole added past s n.1
refreshed_stays whole (event.Said t i text ∷ added) past s h = let n = neither (t == s) _ h in since_others (λ p. refreshed_among p s) (t == s || false) (event.Said t i text) (since (added ++ past) s) (ap (λ b. b || false) n.0) ∙ refreshed_stays whole added past s n.1
refreshed_stays whole (event.Refresh t v ∷ added) past s h = let n = neither (t == s) _ h in other (t == s) _ _ _ n.0 (refreshed_stays whole added past s n.1)
refreshed_stays whole (e ∷ added) past s h = refreshed_stays whole added past s (neither (is_event_of whole s e) _ h).1

-- ---- revisions that have ended

-- what has ended isn't in flight
flies_not : {A : Type 0} (a b : Bool) → (a && not b) ≡ true → b ≡ true → A
flies_not true true h e = absurd (false≢true h)
flies_not true false h e = absurd (false≢true e)
flies_not false b h e = absurd (false≢true h)

module _ (starts : Starts) (says : Says) (clusters : ℕ) (sessions : List ℕ) (begin : Begin) (past : Past) (r : Revision) (ended : is_ended past r ≡ true) where
  -- an ended revision isn't in flight later
  lands : {A : Type 0} (added : Past) (q : Revision) → is_same r q ≡ true → is_in_flight (added ++ past) q ≡ true → A
  lands added q same flying = flies_not (is_drawn (added ++ past) q) (is_ended (added ++ past) q) flying (any_later (is_end_of q) added past (subst (λ (x : Revision). is_ended past x ≡ true) (same_revision r q same) ended))

  -- what has ended isn't committed later
  pub uncommitted_stays : (added : Past) → IsRunOf starts says clusters sessions begin (added ++ past) → is_committed past r ≡ false → is_committed (added ++ past) r ≡ false
  uncommitted_stays [] run h = h
  uncommitted_stays (event.Commit q ∷ added) run h = elim (is_same r q) as (λ b. is_same r q ≡ b → (b || is_committed (added ++ past) r) ≡ false) [
    | true ↦ λ same. lands added q same run.0.open_.in_flight
    | false ↦ λ same. uncommitted_stays added run.1 h
  ] refl
  uncommitted_stays (e ∷ added) run h = uncommitted_stays added run.1 h

  -- nor refused later
  pub refusal_stays : (added : Past) → IsRunOf starts says clusters sessions begin (added ++ past) → refusal_of (added ++ past) r ≡ refusal_of past r
  refusal_stays [] run = refl
  refusal_stays (event.Refuse q item o ∷ added) run = elim (is_same r q) as (λ b. is_same r q ≡ b → cond b (Some (item, o)) (refusal_of (added ++ past) r) ≡ refusal_of past r) [
    | true ↦ λ same. lands added q same run.0.open_.in_flight
    | false ↦ λ same. refusal_stays added run.1
  ] refl
  refusal_stays (e ∷ added) run = refusal_stays added run.1

-- ---- draws in flight

-- with more events, no draw of a list is in flight where none was
among_stays : (added past : Past) (s : ℕ) (list : Past) → is_drawing_among past list s ≡ false → is_drawing_among (added ++ past) list s ≡ false
among_stays added past s [] h = refl
among_stays added past s (event.Draw d ∷ list) h =
    let n = neither (d.session == s && not (is_ended past d.revision)) _ h in
    ap (λ b. b || is_drawing_among (added ++ past) list s) (still (d.session == s) (is_ended past d.revision) refl n.0) ∙ among_stays added past s list n.1
  where
    still : (a b : Bool) → is_ended past d.revision ≡ b → (a && not b) ≡ false → (a && not (is_ended (added ++ past) d.revision)) ≡ false
    still true true ended h = ap not (any_later (is_end_of d.revision) added past ended)
    still true false ended h = absurd (false≢true (sym h))
    still false b ended h = refl
among_stays added past s (e ∷ list) h = among_stays added past s list h

others_among : (whole now added list : Past) (s : ℕ) → list_any (is_event_of whole s) added ≡ false → is_drawing_among now list s ≡ false → is_drawing_among now (added ++ list) s ≡ false
others_among whole now [] list s others h = h
others_among whole now (event.Draw d ∷ added) list s others h =
    let n = neither (d.session == s) _ others in
    ap (λ b. (b && not (is_ended now d.revision)) || is_drawing_among now (added ++ list) s) n.0 ∙ others_among whole now added list s n.1 h
others_among whole now (e ∷ added) list s others h = others_among whole now added list s (neither (is_event_of whole s e) _ others).1 h

pub idle_stays : (whole added past : Past) (s : ℕ) → list_any (is_event_of whole s) added ≡ false → is_drawing past s ≡ false → is_drawing (added ++ past) s ≡ false
idle_stays whole added past s others h = others_among whole (added ++ past) added past s others (among_stays added past s past h)

-- a revision that an idle session drew since its last reply has ended
ended_among : (past list : Past) (s : ℕ) (r : Revision) → is_drawing_among past list s ≡ false → drawn_among (since list s) s ≡ Some r → is_ended past r ≡ true
ended_among past [] s r h is = absurd (false≢true (ap is_some is))
ended_among past (event.Draw d ∷ list) s r h is =
    let n = neither (d.session == s && not (is_ended past d.revision)) _ h in
    elim (d.session == s) as (λ b. (b && not (is_ended past d.revision)) ≡ false → cond b (Some d.revision) (drawn_among (since list s) s) ≡ Some r → is_ended past r ≡ true) [
      | true ↦ λ ended same. subst (λ (q : Revision). is_ended past q ≡ true) (some_is d.revision r same) (ends (is_ended past d.revision) ended)
      | false ↦ λ ended same. ended_among past list s r n.1 same
    ] n.0 is
  where
    ends : (b : Bool) → not b ≡ false → b ≡ true
    ends true h = refl
    ends false h = absurd (false≢true (sym h))

    some_is : (a b : Revision) → Some a ≡ Some b → a ≡ b
    some_is a b same = ap (λ o. unwrap_or o a) same
ended_among past (e ∷ list) s r h is = elim (is_reply_of s e || is_login_of s e) as (λ b. drawn_among (cond b [] (e ∷ since list s)) s ≡ Some r → is_ended past r ≡ true) [
  | true ↦ λ none. absurd (false≢true (ap is_some none))
  | false ↦ λ same. ended_among past list s r h same
] is

pub ended_since : (past : Past) (s : ℕ) (r : Revision) → is_drawing past s ≡ false → drawn_since past s ≡ Some r → is_ended past r ≡ true
ended_since past s r h is = ended_among past past s r h is

-- an event that ends nothing changes nothing of what is in flight
pub among_same : (now : Past) (e : Event) → ((r : Revision) → is_ended (e ∷ now) r ≡ is_ended now r) → (list : Past) (s : ℕ) → is_drawing_among (e ∷ now) list s ≡ is_drawing_among now list s
among_same now e ends [] s = refl
among_same now e ends (event.Draw d ∷ list) s = ap (λ b. (d.session == s && not b) || is_drawing_among (e ∷ now) list s) (ends d.revision) ∙ ap (λ b. (d.session == s && not (is_ended now d.revision)) || b) (among_same now e ends list s)
among_same now e ends (other_event ∷ list) s = among_same now e ends list s
