-- What may follow the characters of a name that are read, at each stage.
use Rattle.std.proofs.Common.{◌≡◌, ◌≢◌, ℕ, ◌≤◌, Bool, true, false, cond, List, None, Option, [], ◌∷◌, ◌++◌, length, refl, sym, ap, subst, ◌∙◌, append_assoc, inl, inr, ◌⊎◌, arith}
use Rattle.std.specs.Prelude.{IsTrue, MatchOption, Some, ◌==◌, ◌&&◌}
use Rattle.std.specs.List.{list_all}
use Rattle.std.proofs.lemmas.Bool.{eqb-true, eqb-false, false≢true}
use Rattle.std.proofs.lemmas.Bool.Decides.{nat_tests}
use Rattle.jr_path.specs.Grammar.{IsPrefixed, OneOrMore, is_plain, is_prefix_character}
use Rattle.jr_path.specs.Stages.{after_colon, after_prefix, after_space, missing, stage_after}
use Rattle.jr_path.specs.declared.name.Stage.{Stage}
use Rattle.jr_path.specs.declared.name.Stage.TheVariants.{Start, Prefix, Whole, Open}

-- plain characters, the last of which is no space
abbrev pub Rest : List ℕ → Type 0
Rest [] = Unit {0}
Rest (c ∷ cs) = IsTrue (is_plain c) × (c ≡ 32 → cs ≢ []) × Rest cs

-- what is left of a prefix, a colon, and such characters, one or more
pub record Ahead (cs : List ℕ) : Type 0 where
  pub prefix : List ℕ
  pub local : List ℕ
  pub split : cs ≡ prefix ++ 58 ∷ local
  pub is_prefix : IsTrue (list_all is_prefix_character prefix)
  pub some : local ≢ []
  pub rest : Rest local

pub record Plain (cs : List ℕ) : Type 0 where
  pub some : cs ≢ []
  pub first : (more : List ℕ) → cs ≢ 32 ∷ more
  pub rest : Rest cs

pub record Prefixed (cs : List ℕ) : Type 0 where
  pub ahead : Ahead cs
  pub some : ahead.prefix ≢ []

abbrev pub Follows : Stage → List ℕ → Type 0
Follows Start cs = Plain cs ⊎ Prefixed cs
Follows Prefix cs = Rest cs ⊎ Ahead cs
Follows Whole cs = Rest cs
Follows Open cs = (cs ≢ []) × Rest cs

abbrev Next : Option Stage → List ℕ → Type 0
Next o cs = MatchOption o ⊥ (λ t. Follows t cs)

-- characters that a prefix has are plain, and neither the colon nor the space
pub plain_from_prefix : (c : ℕ) → IsTrue (is_prefix_character c) → IsTrue (is_plain c)
plain_from_prefix c h = grind (arith, nat_tests)

colon_not_plain : IsTrue (is_plain 58) → ⊥
colon_not_plain h = cc

space_not_prefix : IsTrue (is_prefix_character 32) → ⊥
space_not_prefix h = cc

colon_not_prefix : IsTrue (is_prefix_character 58) → ⊥
colon_not_prefix h = cc

both : (a b : Bool) → IsTrue (a && b) → IsTrue a × IsTrue b
both true b h = (refl, h)
both false b h = absurd (let h' : false ≡ true = h in cc)

and : (a b : Bool) → IsTrue a → IsTrue b → IsTrue (a && b)
and true b h k = k
and false b h k = h

head_of : (c d : ℕ) (cs ds : List ℕ) → c ∷ cs ≡ d ∷ ds → (c ≡ d) × (cs ≡ ds)
head_of c d cs ds e = (cc, cc)

-- a prefix, or what is left of it, begins with the colon or with a character of its own
ahead_cases : (c : ℕ) (cs : List ℕ) → Ahead (c ∷ cs) → ((c ≡ 58) × (cs ≢ []) × Rest cs) ⊎ (IsTrue (is_prefix_character c) × Ahead cs)
ahead_cases c cs a = by a.prefix a.split a.is_prefix
  where
    by : (prefix : List ℕ) → c ∷ cs ≡ prefix ++ 58 ∷ a.local → IsTrue (list_all is_prefix_character prefix) → ((c ≡ 58) × (cs ≢ []) × Rest cs) ⊎ (IsTrue (is_prefix_character c) × Ahead cs)
    by [] e h = let p = head_of c 58 cs a.local e in inl (p.0, (λ none. a.some (sym p.1 ∙ none)), rw p.1 a.rest)
    by (d ∷ ds) e h =
        let p = head_of c d cs (ds ++ 58 ∷ a.local) e in
        let q = both (is_prefix_character d) (list_all is_prefix_character ds) h in
        inr (rw p.0 q.0, record { prefix = ds; local = a.local; split = p.1; is_prefix = q.1; some = a.some; rest = a.rest })

ahead_colon : (cs : List ℕ) → cs ≢ [] → Rest cs → Ahead (58 ∷ cs)
ahead_colon cs some rest = record { prefix = []; local = cs; split = refl; is_prefix = refl; some = some; rest = rest }

abbrev ahead_more : (c : ℕ) (cs : List ℕ) → IsTrue (is_prefix_character c) → Ahead cs → Ahead (c ∷ cs)
ahead_more c cs h a = record {
  prefix = c ∷ a.prefix;
  local = a.local;
  split = ap (λ xs. c ∷ xs) a.split;
  is_prefix = and (is_prefix_character c) (list_all is_prefix_character a.prefix) h a.is_prefix;
  some = a.some;
  rest = a.rest;
}

-- a prefix of one or more characters begins with one
prefixed_cases : (c : ℕ) (cs : List ℕ) → Prefixed (c ∷ cs) → IsTrue (is_prefix_character c) × Ahead cs
prefixed_cases c cs p = by p.ahead.prefix p.some p.ahead.split p.ahead.is_prefix
  where
    by : (prefix : List ℕ) → prefix ≢ [] → c ∷ cs ≡ prefix ++ 58 ∷ p.ahead.local → IsTrue (list_all is_prefix_character prefix) → IsTrue (is_prefix_character c) × Ahead cs
    by [] some e h = absurd (some refl)
    by (d ∷ ds) some e h =
        let q = head_of c d cs (ds ++ 58 ∷ p.ahead.local) e in
        let r = both (is_prefix_character d) (list_all is_prefix_character ds) h in
        (rw q.0 r.0, record { prefix = ds; local = p.ahead.local; split = q.1; is_prefix = r.1; some = p.ahead.some; rest = p.ahead.rest })

prefixed_more : (c : ℕ) (cs : List ℕ) → IsTrue (is_prefix_character c) → Ahead cs → Prefixed (c ∷ cs)
prefixed_more c cs h a = record { ahead = ahead_more c cs h a; some = λ e. cc }

not_space : (c : ℕ) → (c ≡ 32 → ⊥) → c ≡ 32 → {cs : List ℕ} → cs ≢ []
not_space c h e = absurd (h e)

plain_more : (c : ℕ) (cs : List ℕ) → IsTrue (is_plain c) → (c ≡ 32 → ⊥) → Rest cs → Plain (c ∷ cs)
plain_more c cs h apart rest = record { some = λ e. cc; first = λ more e. apart (head_of c 32 cs more e).0; rest = (h, (λ e. absurd (apart e)), rest) }

-- one character on, at each kind of character: from the stage to the next, and back
colon_into : (s : Stage) (cs : List ℕ) → Follows s (58 ∷ cs) → Next (after_colon s) cs
colon_into Start cs (inl p) = colon_not_plain p.rest.0
colon_into Start cs (inr p) = colon_not_prefix (prefixed_cases 58 cs p).0
colon_into Prefix cs (inl r) = absurd (colon_not_plain r.0)
colon_into Prefix cs (inr a) = elim (ahead_cases 58 cs a) [ inl x ↦ (x.1, x.2) | inr x ↦ absurd (colon_not_prefix x.0) ]
colon_into Whole cs r = colon_not_plain r.0
colon_into Open cs r = colon_not_plain r.1.0

space_into : (s : Stage) (cs : List ℕ) → Follows s (32 ∷ cs) → Next (after_space s) cs
space_into Start cs (inl p) = p.first cs refl
space_into Start cs (inr p) = space_not_prefix (prefixed_cases 32 cs p).0
space_into Prefix cs (inl r) = (r.1 refl, r.2)
space_into Prefix cs (inr a) = elim (ahead_cases 32 cs a) [ inl x ↦ absurd (let e : 32 ≡ 58 = x.0 in omega arith) | inr x ↦ absurd (space_not_prefix x.0) ]
space_into Whole cs r = (r.1 refl, r.2)
space_into Open cs r = (r.1.1 refl, r.1.2)

prefix_into : (s : Stage) (c : ℕ) (cs : List ℕ) → c ≢ 58 → Follows s (c ∷ cs) → Follows (after_prefix s) cs
prefix_into Start c cs apart (inl p) = inl p.rest.2
prefix_into Start c cs apart (inr p) = inr (prefixed_cases c cs p).1
prefix_into Prefix c cs apart (inl r) = inl r.2
prefix_into Prefix c cs apart (inr a) = elim (ahead_cases c cs a) [ inl x ↦ absurd (apart x.0) | inr x ↦ inr x.1 ]
prefix_into Whole c cs apart r = r.2
prefix_into Open c cs apart r = r.1.2

other_into : (s : Stage) (c : ℕ) (cs : List ℕ) → c ≢ 58 → (IsTrue (is_prefix_character c) → ⊥) → Follows s (c ∷ cs) → Rest cs
other_into Start c cs apart bad (inl p) = p.rest.2
other_into Start c cs apart bad (inr p) = absurd (bad (prefixed_cases c cs p).0)
other_into Prefix c cs apart bad (inl r) = r.2
other_into Prefix c cs apart bad (inr a) = elim (ahead_cases c cs a) [ inl x ↦ absurd (apart x.0) | inr x ↦ absurd (bad x.0) ]
other_into Whole c cs apart bad r = r.2
other_into Open c cs apart bad r = r.1.2

refused_into : (s : Stage) (c : ℕ) (cs : List ℕ) → c ≢ 58 → (IsTrue (is_plain c) → ⊥) → Follows s (c ∷ cs) → ⊥
refused_into Start c cs apart bad (inl p) = bad p.rest.0
refused_into Start c cs apart bad (inr p) = bad (plain_from_prefix c (prefixed_cases c cs p).0)
refused_into Prefix c cs apart bad (inl r) = bad r.0
refused_into Prefix c cs apart bad (inr a) = elim (ahead_cases c cs a) [ inl x ↦ apart x.0 | inr x ↦ bad (plain_from_prefix c x.0) ]
refused_into Whole c cs apart bad r = bad r.0
refused_into Open c cs apart bad r = bad r.1.0

back_colon : (s t : Stage) (cs : List ℕ) → after_colon s ≡ Some t → Follows t cs → Follows s (58 ∷ cs)
back_colon Prefix Open cs e f = inr (ahead_colon cs f.0 f.1)
back_colon Prefix Start cs e f = cc
back_colon Prefix Prefix cs e f = cc
back_colon Prefix Whole cs e f = cc
back_colon Start t cs e f = cc
back_colon Whole t cs e f = cc
back_colon Open t cs e f = cc

space_more : (cs : List ℕ) → (cs ≢ []) → Rest cs → Rest (32 ∷ cs)
space_more cs some rest = (refl, (λ _. some), rest)

back_space : (s t : Stage) (cs : List ℕ) → after_space s ≡ Some t → Follows t cs → Follows s (32 ∷ cs)
back_space Start t cs e f = cc
back_space s Start cs e f = cc
back_space s Prefix cs e f = cc
back_space s Whole cs e f = cc
back_space Prefix Open cs e f = inl (space_more cs f.0 f.1)
back_space Whole Open cs e f = space_more cs f.0 f.1
back_space Open Open cs e f = ((λ e'. cc), space_more cs f.0 f.1)

back_prefix : (s : Stage) (c : ℕ) (cs : List ℕ) → IsTrue (is_prefix_character c) → (c ≡ 32 → ⊥) → Follows (after_prefix s) cs → Follows s (c ∷ cs)
back_prefix Start c cs h apart (inl r) = inl (plain_more c cs (plain_from_prefix c h) apart r)
back_prefix Start c cs h apart (inr a) = inr (prefixed_more c cs h a)
back_prefix Prefix c cs h apart (inl r) = inl (plain_from_prefix c h, (λ e. absurd (apart e)), r)
back_prefix Prefix c cs h apart (inr a) = inr (ahead_more c cs h a)
back_prefix Whole c cs h apart r = (plain_from_prefix c h, (λ e. absurd (apart e)), r)
back_prefix Open c cs h apart r = ((λ e'. cc), (plain_from_prefix c h, (λ e. absurd (apart e)), r))

back_other : (s : Stage) (c : ℕ) (cs : List ℕ) → IsTrue (is_plain c) → (c ≡ 32 → ⊥) → Rest cs → Follows s (c ∷ cs)
back_other Start c cs h apart r = inl (plain_more c cs h apart r)
back_other Prefix c cs h apart r = inl (h, (λ e. absurd (apart e)), r)
back_other Whole c cs h apart r = (h, (λ e. absurd (apart e)), r)
back_other Open c cs h apart r = ((λ e'. cc), (h, (λ e. absurd (apart e)), r))

-- one character on
step_by : (s : Stage) (c : ℕ) (cs : List ℕ) (colon space plain prefix : Bool) → (c == 58) ≡ colon → (c == 32) ≡ space → is_plain c ≡ plain → is_prefix_character c ≡ prefix → Follows s (c ∷ cs)
    → Next (cond colon (after_colon s) (cond space (after_space s) (cond plain (cond prefix (Some (after_prefix s)) (Some Whole)) None))) cs
step_by s c cs true space plain prefix e f g h x = let is : c ≡ 58 = eqb-true c 58 e in colon_into s cs (rw is at x)
step_by s c cs false true plain prefix e f g h x = let is : c ≡ 32 = eqb-true c 32 f in space_into s cs (rw is at x)
step_by s c cs false false true true e f g h x = prefix_into s c cs (eqb-false c 58 e) x
step_by s c cs false false true false e f g h x = other_into s c cs (eqb-false c 58 e) (λ p. false≢true (sym h ∙ p)) x
step_by s c cs false false false prefix e f g h x = refused_into s c cs (eqb-false c 58 e) (λ p. false≢true (sym g ∙ p)) x

pub step_into : (s : Stage) (c : ℕ) (cs : List ℕ) → Follows s (c ∷ cs) → Next (stage_after s c) cs
step_into s c cs f = step_by s c cs (c == 58) (c == 32) (is_plain c) (is_prefix_character c) refl refl refl refl f

back_by : (s t : Stage) (c : ℕ) (cs : List ℕ) (colon space plain prefix : Bool) → (c == 58) ≡ colon → (c == 32) ≡ space → is_plain c ≡ plain → is_prefix_character c ≡ prefix
    → cond colon (after_colon s) (cond space (after_space s) (cond plain (cond prefix (Some (after_prefix s)) (Some Whole)) None)) ≡ Some t → Follows t cs → Follows s (c ∷ cs)
back_by s t c cs true space plain prefix e f g h is x = let here : c ≡ 58 = eqb-true c 58 e in rw here (back_colon s t cs is x)
back_by s t c cs false true plain prefix e f g h is x = let here : c ≡ 32 = eqb-true c 32 f in rw here (back_space s t cs is x)
back_by s t c cs false false true true e f g h is x = let here : after_prefix s ≡ t = cc in back_prefix s c cs h (eqb-false c 32 f) (rw here x)
back_by s t c cs false false true false e f g h is x = let here : Whole ≡ t = cc in back_other s c cs g (eqb-false c 32 f) (let P : Stage → Type 0 = λ u. Follows u cs in subst P (sym here) x)
back_by s t c cs false false false prefix e f g h is x = cc

pub step_back : (s t : Stage) (c : ℕ) (cs : List ℕ) → stage_after s c ≡ Some t → Follows t cs → Follows s (c ∷ cs)
step_back s t c cs is f = back_by s t c cs (c == 58) (c == 32) (is_plain c) (is_prefix_character c) refl refl refl refl is f

-- `a` and U+00A0 may always follow, and nothing may where nothing is missing
pub letter_follows : (s : Stage) → Follows s (97 ∷ [])
letter_follows s = back_other s 97 [] refl (λ e. cc) tt

pub wide_follows : (s : Stage) → Follows s (160 ∷ [])
wide_follows s = back_other s 160 [] refl (λ e. cc) tt

pub nothing_follows : (s : Stage) → missing s ≡ 0 → Follows s []
nothing_follows Start e = cc
nothing_follows Prefix e = inl tt
nothing_follows Whole e = tt
nothing_follows Open e = cc

some_left : (cs : List ℕ) → cs ≢ [] → 1 ≤ length cs
some_left [] some = absurd (some refl)
some_left (c ∷ cs) some = omega arith

pub missing_follows : (s : Stage) (cs : List ℕ) → Follows s cs → missing s ≤ length cs
missing_follows Start cs (inl p) = some_left cs p.some
missing_follows Start [] (inr p) = absurd (p.some (by p.ahead.prefix p.ahead.split))
  where
    by : (prefix : List ℕ) → [] ≡ prefix ++ 58 ∷ p.ahead.local → prefix ≡ []
    by [] e = refl
    by (d ∷ ds) e = cc
missing_follows Start (c ∷ cs) (inr p) = omega arith
missing_follows Prefix cs f = omega arith
missing_follows Whole cs f = omega arith
missing_follows Open cs f = some_left cs f.0

-- a character of two bytes or more leaves nothing missing
pub wide_leaves_none : (s t : Stage) (c : ℕ) → 128 ≤ c → stage_after s c ≡ Some t → missing t ≡ 0
wide_leaves_none s t c wide is = by (c == 58) (c == 32) (is_plain c) (is_prefix_character c) refl refl is
  where
    early : (s t : Stage) → after_prefix s ≡ t → missing t ≡ 0
    early Start t e = rw (← e) refl
    early Prefix t e = rw (← e) refl
    early Whole t e = rw (← e) refl
    early Open t e = rw (← e) refl

    by : (colon space plain prefix : Bool) → (c == 58) ≡ colon → (c == 32) ≡ space → cond colon (after_colon s) (cond space (after_space s) (cond plain (cond prefix (Some (after_prefix s)) (Some Whole)) None)) ≡ Some t → missing t ≡ 0
    by true space plain prefix e f is' = absurd (let here : c ≡ 58 = eqb-true c 58 e in omega arith)
    by false true plain prefix e f is' = absurd (let here : c ≡ 32 = eqb-true c 32 f in omega arith)
    by false false true true e f is' = early s t cc
    by false false true false e f is' = let here : Whole ≡ t = cc in rw (← here) refl
    by false false false prefix e f is' = cc

-- the characters of a name, and what follows at the start
rest_from : (cs : List ℕ) → IsTrue (list_all is_plain cs) → ((front : List ℕ) → cs ≢ front ++ 32 ∷ []) → Rest cs
rest_from [] h last = tt
rest_from (c ∷ cs) h last =
    let parts = both (is_plain c) (list_all is_plain cs) h in
    (parts.0, (λ e none. last [] (let e' : c ≡ 32 = e in let none' : cs ≡ [] = none in rw (e', none') refl)), rest_from cs parts.1 (λ front e. last (c ∷ front) (ap (λ xs. c ∷ xs) e)))

all_plain : (cs : List ℕ) → Rest cs → IsTrue (list_all is_plain cs)
all_plain [] r = refl
all_plain (c ∷ cs) r = and (is_plain c) (list_all is_plain cs) r.0 (all_plain cs r.2)

last_of_rest : (cs : List ℕ) → Rest cs → (front : List ℕ) → cs ≢ front ++ 32 ∷ []
last_of_rest [] r [] e = cc
last_of_rest [] r (f ∷ front) e = cc
last_of_rest (c ∷ cs) r [] e = r.1 (head_of c 32 cs [] e).0 (head_of c 32 cs [] e).1
last_of_rest (c ∷ cs) r (f ∷ front) e = last_of_rest cs r.2 front (head_of c f cs (front ++ 32 ∷ []) e).1

last_behind : (xs : List ℕ) (y : ℕ) (ys front : List ℕ) → xs ++ y ∷ ys ≡ front ++ 32 ∷ [] → (front' : List ℕ) × (y ∷ ys ≡ front' ++ 32 ∷ [])
last_behind [] y ys front e = (front, e)
last_behind (x ∷ xs) y ys [] e = absurd (by xs (head_of x 32 (xs ++ y ∷ ys) [] e).1)
  where
    by : (xs : List ℕ) → xs ++ y ∷ ys ≡ [] → ⊥
    by [] e = cc
    by (x ∷ xs) e = cc
last_behind (x ∷ xs) y ys (f ∷ front) e = last_behind xs y ys front (head_of x f (xs ++ y ∷ ys) (front ++ 32 ∷ []) e).1

-- what a name's characters are, but for their bytes
pub record Form (cs : List ℕ) : Type 0 where
  pub form : OneOrMore is_plain cs ⊎ IsPrefixed cs
  pub first : (more : List ℕ) → cs ≢ 32 ∷ more
  pub last : (front : List ℕ) → cs ≢ front ++ 32 ∷ []

pub follows_from_form : (cs : List ℕ) → Form cs → Follows Start cs
follows_from_form cs f = elim f.form [
  | inl plain ↦ inl (record { some = plain.0; first = f.first; rest = rest_from cs plain.1 f.last })
  | inr p ↦ inr (record {
    ahead = record {
      prefix = p.prefix;
      local = p.local;
      split = p.split;
      is_prefix = p.is_prefix.1;
      some = p.is_local.0;
      rest = rest_from p.local p.is_local.1 (λ front e. f.last (p.prefix ++ 58 ∷ front) (p.split ∙ ap (λ xs. p.prefix ++ 58 ∷ xs) e ∙ sym (append_assoc p.prefix (58 ∷ front) (32 ∷ []))));
    };
    some = p.is_prefix.0;
  })
]

no_space_first : (cs : List ℕ) → Prefixed cs → (more : List ℕ) → cs ≢ 32 ∷ more
no_space_first [] p more e = cc
no_space_first (c ∷ cs) p more e =
    let h = prefixed_cases c cs p in
    let is : c ≡ 32 = (head_of c 32 cs more e).0 in
    space_not_prefix (rw is at h.0)

no_space_behind : (c : ℕ) (local : List ℕ) → (c ≡ 32 → ⊥) → Rest local → (front : List ℕ) → c ∷ local ≢ front ++ 32 ∷ []
no_space_behind c local apart r [] e = apart (head_of c 32 local [] e).0
no_space_behind c local apart r (f ∷ front) e = last_of_rest local r front (head_of c f local (front ++ 32 ∷ []) e).1

colon_is_no_space : (c : ℕ) → c ≡ 58 → c ≡ 32 → ⊥
colon_is_no_space c e f = omega arith

no_space_last : (cs : List ℕ) → Ahead cs → (front : List ℕ) → cs ≢ front ++ 32 ∷ []
no_space_last cs a front e =
    let behind = last_behind a.prefix 58 a.local front (sym a.split ∙ e) in
    no_space_behind 58 a.local (colon_is_no_space 58 refl) a.rest behind.0 behind.1

prefixed_from : (cs : List ℕ) → Prefixed cs → IsPrefixed cs
prefixed_from cs p = record {
  prefix = p.ahead.prefix;
  local = p.ahead.local;
  split = p.ahead.split;
  is_prefix = (p.some, p.ahead.is_prefix);
  is_local = (p.ahead.some, all_plain p.ahead.local p.ahead.rest);
}

pub form_from_follows : (cs : List ℕ) → Follows Start cs → Form cs
form_from_follows cs (inl p) = record { form = inl (p.some, all_plain cs p.rest); first = p.first; last = last_of_rest cs p.rest }
form_from_follows cs (inr p) = record { form = inr (prefixed_from cs p); first = no_space_first cs p; last = no_space_last cs p.ahead }
