-- A name whose letters of ASCII change their case is a name.
use Rattle.std.proofs.Common.{◌≡◌, ◌≢◌, ℕ, ◌+◌, ◌<◌, ◌≤◌, Bool, true, false, List, [], ◌∷◌, ◌++◌, length, map, refl, sym, ap, ◌∙◌, inl, inr, ◌⊎◌, arith}
use Rattle.std.specs.Prelude.{◌==◌, ◌&&◌, ◌||◌, not, nat_lt}
use Rattle.std.specs.Char.{to_ascii_lowercase, to_ascii_uppercase}
use Rattle.std.specs.List.{AllByRecursion, list_all}
use Rattle.std.specs.Str.{all_scalars, encode_utf8_all}
use Rattle.std.proofs.lemmas.Bool.{agree_below, agree_below_at, and_from, and_parts, cases_lt, eq-eqb, eqb-true, false≢true}
use Rattle.std.proofs.lemmas.Bool.Decides.{nat_tests}
use Rattle.std.proofs.lemmas.List.{length-map, map-append}
use Rattle.std.proofs.lemmas.Str.{encode_ascii}
use Rattle.std.proofs.lemmas.Str.Ascii.{lowercase_is, uppercase_is}
use Rattle.std.proofs.str.Laws as laws
use lib.Utf8.{encode, scalar}
use Rattle.jr_path.specs.Grammar.{IsName, IsPrefixed, OneOrMore, is_plain, is_prefix_character}

-- what a change of letters keeps of a character of ASCII
abbrev keeps : (ℕ → ℕ) → ℕ → Bool
keeps f c = nat_lt (f c) 128 && ((not (is_plain c) || is_plain (f c)) && ((not (is_prefix_character c) || is_prefix_character (f c)) && ((not (f c == 32) || (c == 32)) && ((not (f c == 46) || (c == 46)) && scalar (f c)))))

-- it keeps these of each character of ASCII, the colon, and each other character
pub record KeepsNames (f : ℕ → ℕ) : Type 0 where
  pub ascii : agree_below (keeps f) (λ c. true) 128 ≡ true
  pub colon : f 58 ≡ 58
  pub other : (c : ℕ) → 128 ≤ c → f c ≡ c

pub lower_keeps : KeepsNames to_ascii_lowercase
lower_keeps = record { ascii = refl; colon = refl; other = λ c h. (lowercase_is c).2 (omega arith) }

pub upper_keeps : KeepsNames to_ascii_uppercase
upper_keeps = record { ascii = refl; colon = refl; other = λ c h. (uppercase_is c).2 (omega arith) }

implied : (a b : Bool) → (not a || b) ≡ true → a ≡ true → b ≡ true
implied true b h e = h
implied false b h e = absurd (false≢true e)

six : (a b c d e g : Bool) → (a && (b && (c && (d && (e && g))))) ≡ true → (a ≡ true) × (b ≡ true) × (c ≡ true) × (d ≡ true) × (e ≡ true) × (g ≡ true)
six a b c d e g h =
    let p = and_parts a (b && (c && (d && (e && g)))) h in
    let q = and_parts b (c && (d && (e && g))) p.1 in
    let r = and_parts c (d && (e && g)) q.1 in
    let s = and_parts d (e && g) r.1 in
    let t = and_parts e g s.1 in
    (p.0, q.0, r.0, s.0, t.0, t.1)

below : (n k : ℕ) → nat_lt n k ≡ true → n < k
below n k h = grind (arith, nat_tests)

-- all bytes are those of characters that aren't of ASCII
abbrev AllHigh : List ℕ → Type 0
AllHigh = AllByRecursion (λ b. 128 ≤ b)

high_bytes : (c : ℕ) → 128 ≤ c → AllHigh (encode c)
high_bytes c a = elim (cases_lt c 2048) [
  | inl b ↦ rw (laws.two c a b) (omega arith, (omega arith, tt))
  | inr b ↦ elim (cases_lt c 65536) [
    | inl d ↦ rw (laws.three c b d) (omega arith, (omega arith, (omega arith, tt)))
    | inr d ↦ rw (laws.four c d) (omega arith, (omega arith, (omega arith, (omega arith, tt))))
  ]
]

module _ (f : ℕ → ℕ) (is : KeepsNames f) where
  at : (c : ℕ) → c < 128 → (nat_lt (f c) 128 ≡ true) × ((not (is_plain c) || is_plain (f c)) ≡ true) × ((not (is_prefix_character c) || is_prefix_character (f c)) ≡ true)
      × ((not (f c == 32) || (c == 32)) ≡ true) × ((not (f c == 46) || (c == 46)) ≡ true) × (scalar (f c) ≡ true)
  at c low = six _ _ _ _ _ _ (agree_below_at (keeps f) (λ c. true) 128 c is.ascii low)

  low_kept : (c : ℕ) → c < 128 → f c < 128
  low_kept c low = below (f c) 128 (at c low).0

  plain_kept : (c : ℕ) → is_plain c ≡ true → is_plain (f c) ≡ true
  plain_kept c h = elim (cases_lt c 128) [
    | inl low ↦ implied (is_plain c) (is_plain (f c)) (at c low).1 h
    | inr high ↦ ap is_plain (is.other c high) ∙ h
  ]

  prefix_kept : (c : ℕ) → is_prefix_character c ≡ true → is_prefix_character (f c) ≡ true
  prefix_kept c h = elim (cases_lt c 128) [
    | inl low ↦ implied (is_prefix_character c) (is_prefix_character (f c)) (at c low).2 h
    | inr high ↦ ap is_prefix_character (is.other c high) ∙ h
  ]

  space_before : (c : ℕ) → f c ≡ 32 → c ≡ 32
  space_before c e = elim (cases_lt c 128) [
    | inl low ↦ eqb-true c 32 (implied (f c == 32) (c == 32) (at c low).3 (eq-eqb (f c) 32 e))
    | inr high ↦ sym (is.other c high) ∙ e
  ]

  dot_before : (c : ℕ) → f c ≡ 46 → c ≡ 46
  dot_before c e = elim (cases_lt c 128) [
    | inl low ↦ eqb-true c 46 (implied (f c == 46) (c == 46) (at c low).4 (eq-eqb (f c) 46 e))
    | inr high ↦ sym (is.other c high) ∙ e
  ]

  scalar_kept : (c : ℕ) → scalar c ≡ true → scalar (f c) ≡ true
  scalar_kept c h = elim (cases_lt c 128) [
    | inl low ↦ (at c low).5
    | inr high ↦ ap scalar (is.other c high) ∙ h
  ]

  scalars_kept : (cs : List ℕ) → all_scalars cs ≡ true → all_scalars (map f cs) ≡ true
  scalars_kept [] h = refl
  scalars_kept (c ∷ cs) h = let p = and_parts (scalar c) (all_scalars cs) h in and_from _ _ (scalar_kept c p.0) (scalars_kept cs p.1)

  bytes_kept : (bs : List ℕ) → AllHigh bs → map f bs ≡ bs
  bytes_kept [] h = refl
  bytes_kept (b ∷ bs) h = ap (λ (x : ℕ). x ∷ map f bs) (is.other b h.0) ∙ ap (λ (xs : List ℕ). b ∷ xs) (bytes_kept bs h.1)

  -- the bytes change as the characters do
  encoded : (c : ℕ) → map f (encode c) ≡ encode (f c)
  encoded c = elim (cases_lt c 128) [
    | inl low ↦ ap (map f) (encode_ascii c low) ∙ sym (encode_ascii (f c) (low_kept c low))
    | inr high ↦ bytes_kept (encode c) (high_bytes c high) ∙ ap encode (sym (is.other c high))
  ]

  all_encoded : (cs : List ℕ) → map f (encode_utf8_all cs) ≡ encode_utf8_all (map f cs)
  all_encoded [] = refl
  all_encoded (c ∷ cs) = map-append f (encode c) (encode_utf8_all cs) ∙ (ap (λ (bs : List ℕ). bs ++ map f (encode_utf8_all cs)) (encoded c) ∙ ap (λ (bs : List ℕ). encode (f c) ++ bs) (all_encoded cs))

  passing : (passes : ℕ → Bool) → ((c : ℕ) → passes c ≡ true → passes (f c) ≡ true) → (cs : List ℕ) → list_all passes cs ≡ true → list_all passes (map f cs) ≡ true
  passing passes kept [] h = refl
  passing passes kept (c ∷ cs) h = let p = and_parts (passes c) (list_all passes cs) h in and_from _ _ (kept c p.0) (passing passes kept cs p.1)

  some_kept : (cs : List ℕ) → cs ≢ [] → map f cs ≢ []
  some_kept [] h e = h refl
  some_kept (c ∷ cs) h e = grind arith

  form_kept : (cs : List ℕ) → OneOrMore is_plain cs ⊎ IsPrefixed cs → OneOrMore is_plain (map f cs) ⊎ IsPrefixed (map f cs)
  form_kept cs (inl plain) = inl (some_kept cs plain.0, passing is_plain plain_kept cs plain.1)
  form_kept cs (inr split) = inr (record {
    prefix = map f split.prefix;
    local = map f split.local;
    split = ap (map f) split.split ∙ (map-append f split.prefix (58 ∷ split.local) ∙ ap (λ (x : ℕ). map f split.prefix ++ x ∷ map f split.local) is.colon);
    is_prefix = (some_kept split.prefix split.is_prefix.0, passing is_prefix_character prefix_kept split.prefix split.is_prefix.1);
    is_local = (some_kept split.local split.is_local.0, passing is_plain plain_kept split.local split.is_local.1);
  })

  first_before : (cs more : List ℕ) → map f cs ≡ 32 ∷ more → (rest : List ℕ) × (cs ≡ 32 ∷ rest)
  first_before [] more e = absurd (grind arith)
  first_before (c ∷ cs) more e = let head : f c ≡ 32 = grind arith in (cs, ap (λ (x : ℕ). x ∷ cs) (space_before c head))

  last_before : (cs front : List ℕ) → map f cs ≡ front ++ 32 ∷ [] → (rest : List ℕ) × (cs ≡ rest ++ 32 ∷ [])
  last_before [] [] e = absurd (grind arith)
  last_before [] (x ∷ front) e = absurd (grind arith)
  last_before (c ∷ []) [] e = let head : f c ≡ 32 = grind arith in ([], ap (λ (x : ℕ). x ∷ []) (space_before c head))
  last_before (c ∷ d ∷ cs) [] e = absurd (grind arith)
  last_before (c ∷ cs) (x ∷ front) e = let tail : map f cs ≡ front ++ 32 ∷ [] = grind arith in let found = last_before cs front tail in (c ∷ found.0, ap (λ (xs : List ℕ). c ∷ xs) found.1)

  dot_alone : (text : List ℕ) → map f text ≡ 46 ∷ [] → text ≡ 46 ∷ []
  dot_alone [] e = absurd (grind arith)
  dot_alone (c ∷ []) e = let head : f c ≡ 46 = grind arith in ap (λ (x : ℕ). x ∷ []) (dot_before c head)
  dot_alone (c ∷ d ∷ cs) e = absurd (grind arith)

  dots_alone : (text : List ℕ) → map f text ≡ 46 ∷ 46 ∷ [] → text ≡ 46 ∷ 46 ∷ []
  dots_alone [] e = absurd (grind arith)
  dots_alone (c ∷ cs) e = let head : f c ≡ 46 = grind arith in let tail : map f cs ≡ 46 ∷ [] = grind arith in
      ap (λ (x : ℕ). x ∷ cs) (dot_before c head) ∙ ap (λ (xs : List ℕ). 46 ∷ xs) (dot_alone cs tail)

  pub name_kept : (text : List ℕ) → IsName text → IsName (map f text)
  name_kept text name = record {
    characters = map f name.characters;
    scalar = scalars_kept name.characters name.scalar;
    spelled = ap (map f) name.spelled ∙ all_encoded name.characters;
    form = form_kept name.characters name.form;
    size = let same : length (map f text) ≡ length text = length-map text f in let size : length text ≤ 255 = name.size in omega arith;
    first = λ more e. let found = first_before name.characters more e in name.first found.0 found.1;
    last = λ front e. let found = last_before name.characters front e in name.last found.0 found.1;
    no_dot = λ e. name.no_dot (dot_alone text e);
    no_dots = λ e. name.no_dots (dots_alone text e);
  }
