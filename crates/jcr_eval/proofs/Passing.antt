-- What came since a command began: where some event came that passes a test, there is one that
-- does.
use Rattle.std.proofs.Common.{◌≡◌, ℕ, zero, suc, Bool, true, false, not, cond, ◌&&◌, ◌||◌, ◌⊎◌, inl, inr, List, [], ◌∷◌, refl, sym, ap, subst, ◌∙◌, arith}
use Rattle.std.specs.Prelude.{Contains}
use Rattle.std.proofs.lemmas.Bool.{true≢false}
use Rattle.std.proofs.lemmas.List.Elements.{Contains-append_cases, Contains-append_right}
use Rattle.oak_machine.specs.declared.event.Event.{Event}
use Rattle.oak_machine.specs.History.{Past}
use Rattle.oak_machine.specs.Sessions.{since}
use Rattle.jcr_law.specs.Since.{came, is_beginning}

-- the event came since the command of s began, and that lay behind it
abbrev pub CameAt : ℕ → Past → Past → Event → Type 0
CameAt s [] earlier e = ⊥
CameAt s (x ∷ past) earlier e =
    (is_beginning s x ≡ false) × (((past ≡ earlier) × (x ≡ e)) ⊎ CameAt s past earlier e)

no_both : (b : Bool) → (b ≡ false) → not b ≡ true
no_both b h = ap not h

pub false_of : (b : Bool) → not b ≡ true → b ≡ false
false_of true h = absurd (true≢false (sym h))
false_of false h = refl

pub and_parts : (a b : Bool) → (a && b) ≡ true → (a ≡ true) × (b ≡ true)
and_parts true b h = (refl, h)
and_parts false b h = absurd (true≢false (sym h))

pub and_whole : (a b : Bool) → a ≡ true → b ≡ true → (a && b) ≡ true
and_whole true b h k = k
and_whole false b h k = absurd (true≢false (sym h))

pub or_parts : (a b : Bool) → (a || b) ≡ true → (a ≡ true) ⊎ (b ≡ true)
or_parts true b h = inl refl
or_parts false b h = inr h

pub or_left : (a b : Bool) → a ≡ true → (a || b) ≡ true
or_left true b h = refl
or_left false b h = absurd (true≢false (sym h))

pub or_right : (a b : Bool) → b ≡ true → (a || b) ≡ true
or_right true b h = refl
or_right false b h = h

-- an event that passes
pub record Passed (s : ℕ) (test : Past → Event → Bool) (past : Past) : Type 0 where
  pub earlier : Past
  pub which : Event
  pub at : CameAt s past earlier which
  pub passes : test earlier which ≡ true

pub came_some : (s : ℕ) (test : Past → Event → Bool) (past : Past) → came s test past ≡ true
    → Passed s test past
came_some s test [] h = absurd (true≢false (sym h))
came_some s test (x ∷ past) h =
    let p = and_parts (not (is_beginning s x)) _ h in
    let free = false_of (is_beginning s x) p.0 in
    elim (or_parts (test past x) (came s test past) p.1) [
      | inl here ↦
          record { earlier = past; which = x; at = (free, inl (refl, refl)); passes = here }
      | inr there ↦ let q = came_some s test past there in
          record { earlier = q.earlier; which = q.which; at = (free, inr q.at); passes = q.passes }
    ]

pub some_came : (s : ℕ) (test : Past → Event → Bool) (past earlier : Past) (e : Event)
    → CameAt s past earlier e → test earlier e ≡ true → came s test past ≡ true
some_came s test [] earlier e at h = absurd at
some_came s test (x ∷ past) earlier e (free, inl (behind, same)) h =
    and_whole (not (is_beginning s x)) _ (no_both (is_beginning s x) free)
    (or_left (test past x) (came s test past)
    (ap (λ (p : Past). test p x) behind ∙ (ap (test earlier) same ∙ h)))
some_came s test (x ∷ past) earlier e (free, inr at) h =
    and_whole (not (is_beginning s x)) _ (no_both (is_beginning s x) free)
    (or_right (test past x) (came s test past) (some_came s test past earlier e at h))

-- what one test lets pass, another does
pub came_both : (s : ℕ) (test other : Past → Event → Bool) (past : Past)
    → ((earlier : Past) (e : Event) → test earlier e ≡ true → other earlier e ≡ true)
    → came s test past ≡ true → came s other past ≡ true
came_both s test other past h is = let p = came_some s test past is in
    some_came s other past p.earlier p.which p.at (h p.earlier p.which p.passes)

of_one : (x e : Event) → Contains (x ∷ []) e → x ≡ e
of_one x e (zero, less, is) = is
of_one x e (suc k, less, is) = absurd (omega arith)

first_of : (x : Event) (xs : List Event) → Contains (x ∷ xs) x
first_of x xs = (0, omega arith, refl)

-- what is among the events since came
pub came_contains : (s : ℕ) (past earlier : Past) (e : Event) → CameAt s past earlier e
    → Contains (since past s) e
came_contains s [] earlier e at = absurd at
came_contains s (x ∷ past) earlier e (free, inl (behind, same)) =
    subst (λ (b : Bool). Contains (cond b [] (x ∷ since past s)) e) (sym free)
    (subst (λ (y : Event). Contains (x ∷ since past s) y) same (first_of x (since past s)))
came_contains s (x ∷ past) earlier e (free, inr at) =
    subst (λ (b : Bool). Contains (cond b [] (x ∷ since past s)) e) (sym free)
    (Contains-append_right (x ∷ []) (since past s) e (came_contains s past earlier e at))

nothing_in : (e : Event) → Contains [] e → ⊥
nothing_in e (k, less, is) = omega arith

pub contains_came : (s : ℕ) (past : Past) (e : Event) → Contains (since past s) e
    → (earlier : Past) × CameAt s past earlier e
contains_came s [] e h = absurd (nothing_in e h)
contains_came s (x ∷ past) e h = by (is_beginning s x) refl h (contains_came s past e)
  where
    by : (b : Bool) → is_beginning s x ≡ b → Contains (cond b [] (x ∷ since past s)) e
        → (Contains (since past s) e → (earlier : Past) × CameAt s past earlier e)
        → (earlier : Past) × CameAt s (x ∷ past) earlier e
    by true is k rest = absurd (nothing_in e k)
    by false is k rest = elim (Contains-append_cases (x ∷ []) (since past s) e k) [
      | inl one ↦ (past, (is, inl (refl, of_one x e one)))
      | inr more ↦ let q = rest more in (q.0, (is, inr q.1))
    ]
