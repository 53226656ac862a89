-- The order of vectors, and the least and the greatest of two.
use Rattle.std.proofs.Common.{◌≡◌, ℕ, ◌-◌, zero, suc, Bool, true, false, cond, Option, Some, None, [], ◌∷◌, get_or, refl, arith}
use Rattle.std.specs.Prelude.{◌==◌, slice_get}
use Rattle.std.specs.Option.{option_flatten, option_map_or}
use Rattle.std.proofs.lemmas.Bool.Decides.{nat_tests}
use mathlib.Core.Bool.{false≢true}
use Rattle.jr_rev.specs.declared.revision.Revision.{Revision}
use Rattle.jr_rev.specs.Revisions.{is_at_most}
use Rattle.jr_rev.specs.Vectors.{Entries, entry, sees, is_entry_below, is_below, lesser_entry, least, greater_entry, greatest}
use Rattle.jr_rev.proofs.Order.{at_most_itself, at_most_trans, not_at_most}
use Rattle.jr_rev.proofs.Entries.{both, and_true, get_or-least, get_or-greatest}

flat_or : (v : Entries) (k : ℕ) → option_flatten (slice_get v k) ≡ get_or v k None
flat_or [] k = refl
flat_or (e ∷ v) zero = refl
flat_or (e ∷ v) (suc k) = flat_or v k

pub entry_at : (v : Entries) (k : ℕ) → entry v (suc k) ≡ get_or v k None
entry_at v k =
    let zeroth : (suc k == 0) ≡ false = grind (arith, nat_tests) in
    let less : suc k - 1 ≡ k = omega arith in
    rw (zeroth, less) (flat_or v k)

-- ---- entries

pub entry_itself : (e : Option Revision) → is_entry_below e e ≡ true
entry_itself None = refl
entry_itself (Some e) = at_most_itself e

pub entry_along : (e f g : Option Revision) → is_entry_below e f ≡ true → is_entry_below f g ≡ true → is_entry_below e g ≡ true
entry_along None f g h k = refl
entry_along (Some e) None g h k = absurd (false≢true h)
entry_along (Some e) (Some f) None h k = absurd (false≢true k)
entry_along (Some e) (Some f) (Some g) h k = at_most_trans e f g h k

lesser_left : (e f : Option Revision) → is_entry_below (lesser_entry e f) e ≡ true
lesser_left None f = refl
lesser_left (Some e) None = refl
lesser_left (Some e) (Some f) = by (is_at_most e f) refl
  where
    by : (b : Bool) → is_at_most e f ≡ b → is_at_most (cond b e f) e ≡ true
    by true h = at_most_itself e
    by false h = not_at_most e f h

lesser_right : (e f : Option Revision) → is_entry_below (lesser_entry e f) f ≡ true
lesser_right None f = refl
lesser_right (Some e) None = refl
lesser_right (Some e) (Some f) = by (is_at_most e f) refl
  where
    by : (b : Bool) → is_at_most e f ≡ b → is_at_most (cond b e f) f ≡ true
    by true h = h
    by false h = at_most_itself f

lesser_lower : (d e f : Option Revision) → is_entry_below d e ≡ true → is_entry_below d f ≡ true → is_entry_below d (lesser_entry e f) ≡ true
lesser_lower None e f h k = refl
lesser_lower (Some d) None f h k = absurd (false≢true h)
lesser_lower (Some d) (Some e) None h k = absurd (false≢true k)
lesser_lower (Some d) (Some e) (Some f) h k = by (is_at_most e f)
  where
    by : (b : Bool) → is_at_most d (cond b e f) ≡ true
    by true = h
    by false = k

greater_left : (e f : Option Revision) → is_entry_below e (greater_entry e f) ≡ true
greater_left None f = refl
greater_left (Some e) None = at_most_itself e
greater_left (Some e) (Some f) = by (is_at_most e f) refl
  where
    by : (b : Bool) → is_at_most e f ≡ b → is_at_most e (cond b f e) ≡ true
    by true h = h
    by false h = at_most_itself e

greater_right : (e f : Option Revision) → is_entry_below f (greater_entry e f) ≡ true
greater_right None f = entry_itself f
greater_right (Some e) None = refl
greater_right (Some e) (Some f) = by (is_at_most e f) refl
  where
    by : (b : Bool) → is_at_most e f ≡ b → is_at_most f (cond b f e) ≡ true
    by true h = at_most_itself f
    by false h = not_at_most e f h

greater_upper : (d e f : Option Revision) → is_entry_below e d ≡ true → is_entry_below f d ≡ true → is_entry_below (greater_entry e f) d ≡ true
greater_upper d None f h k = k
greater_upper d (Some e) None h k = h
greater_upper None (Some e) (Some f) h k = absurd (false≢true h)
greater_upper (Some d) (Some e) (Some f) h k = by (is_at_most e f)
  where
    by : (b : Bool) → is_at_most (cond b f e) d ≡ true
    by true = k
    by false = h

-- ---- vectors

-- each place of v is at most that of w
abbrev pub EachBelow : Entries → Entries → Type 0
EachBelow v w = (k : ℕ) → is_entry_below (get_or v k None) (get_or w k None) ≡ true

pub below_each : (v w : Entries) → is_below v w ≡ true → EachBelow v w
below_each [] w h k = refl
below_each (e ∷ v) [] h zero = (both (is_entry_below e None) _ h).0
below_each (e ∷ v) [] h (suc k) = below_each v [] (both (is_entry_below e None) _ h).1 k
below_each (e ∷ v) (f ∷ w) h zero = (both (is_entry_below e f) _ h).0
below_each (e ∷ v) (f ∷ w) h (suc k) = below_each v w (both (is_entry_below e f) _ h).1 k

pub each_below : (v w : Entries) → EachBelow v w → is_below v w ≡ true
each_below [] w h = refl
each_below (e ∷ v) [] h = and_true (is_entry_below e None) _ (h zero) (each_below v [] (λ k. h (suc k)))
each_below (e ∷ v) (f ∷ w) h = and_true (is_entry_below e f) _ (h zero) (each_below v w (λ k. h (suc k)))

pub below_entries : (v w : Entries) → is_below v w ≡ true → (k : ℕ) → is_entry_below (entry v k) (entry w k) ≡ true
below_entries v w h zero = refl
below_entries v w h (suc k) = rw (entry_at v k, entry_at w k) (below_each v w h k)

pub entries_below : (v w : Entries) → ((k : ℕ) → is_entry_below (entry v k) (entry w k) ≡ true) → is_below v w ≡ true
entries_below v w h = each_below v w (λ k. rw (entry_at v k, entry_at w k) at (h (suc k)))

pub below_itself : (v : Entries) → is_below v v ≡ true
below_itself v = each_below v v (λ k. entry_itself (get_or v k None))

pub below_along : (u v w : Entries) → is_below u v ≡ true → is_below v w ≡ true → is_below u w ≡ true
below_along u v w h i = each_below u w (λ k. entry_along (get_or u k None) (get_or v k None) (get_or w k None) (below_each u v h k) (below_each v w i k))

seen_entry : (r : Revision) (e f : Option Revision) → is_entry_below e f ≡ true → option_map_or (is_at_most r) e false ≡ true → option_map_or (is_at_most r) f false ≡ true
seen_entry r None f h s = absurd (false≢true s)
seen_entry r (Some e) None h s = absurd (false≢true h)
seen_entry r (Some e) (Some f) h s = at_most_trans r e f s h

-- what is below another sees no more
pub below_seen : (v w : Entries) (r : Revision) → is_below v w ≡ true → sees v r ≡ true → sees w r ≡ true
below_seen v w r h s = seen_entry r (entry v r.cluster) (entry w r.cluster) (below_entries v w h r.cluster) s

pub least_left : (v w : Entries) → is_below (least v w) v ≡ true
least_left v w = each_below (least v w) v (λ k. rw (get_or-least v w k) (lesser_left (get_or v k None) (get_or w k None)))

pub least_right : (v w : Entries) → is_below (least v w) w ≡ true
least_right v w = each_below (least v w) w (λ k. rw (get_or-least v w k) (lesser_right (get_or v k None) (get_or w k None)))

pub least_lower : (u v w : Entries) → is_below u v ≡ true → is_below u w ≡ true → is_below u (least v w) ≡ true
least_lower u v w h i = each_below u (least v w) (λ k. rw (get_or-least v w k) (lesser_lower (get_or u k None) (get_or v k None) (get_or w k None) (below_each u v h k) (below_each u w i k)))

pub greatest_left : (v w : Entries) → is_below v (greatest v w) ≡ true
greatest_left v w = each_below v (greatest v w) (λ k. rw (get_or-greatest v w k) (greater_left (get_or v k None) (get_or w k None)))

pub greatest_right : (v w : Entries) → is_below w (greatest v w) ≡ true
greatest_right v w = each_below w (greatest v w) (λ k. rw (get_or-greatest v w k) (greater_right (get_or v k None) (get_or w k None)))

pub greatest_upper : (u v w : Entries) → is_below v u ≡ true → is_below w u ≡ true → is_below (greatest v w) u ≡ true
greatest_upper u v w h i = each_below (greatest v w) u (λ k. rw (get_or-greatest v w k) (greater_upper (get_or u k None) (get_or v k None) (get_or w k None) (below_each v u h k) (below_each w u i k)))

entry-least : (v w : Entries) (k : ℕ) → entry (least v w) k ≡ lesser_entry (entry v k) (entry w k)
entry-least v w zero = refl
entry-least v w (suc k) = rw (entry_at (least v w) k, entry_at v k, entry_at w k) (get_or-least v w k)

lesser_seen : (r : Revision) (e f : Option Revision) → option_map_or (is_at_most r) e false ≡ true → option_map_or (is_at_most r) f false ≡ true → option_map_or (is_at_most r) (lesser_entry e f) false ≡ true
lesser_seen r None f h s = absurd (false≢true h)
lesser_seen r (Some e) None h s = absurd (false≢true s)
lesser_seen r (Some e) (Some f) h s = by (is_at_most e f)
  where
    by : (b : Bool) → is_at_most r (cond b e f) ≡ true
    by true = h
    by false = s

-- what both see, the least sees
pub least_seen : (v w : Entries) (r : Revision) → sees v r ≡ true → sees w r ≡ true → sees (least v w) r ≡ true
least_seen v w r h s = rw entry-least (lesser_seen r (entry v r.cluster) (entry w r.cluster) h s)
