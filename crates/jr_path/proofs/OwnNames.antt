-- Texts of ASCII that are names, as the repository's own are: of `jcr:system`, what is asked here is computed.
use Rattle.std.proofs.Common.{◌≡◌, ℕ, ◌<◌, ◌≤◌, Bool, true, false, List, [], ◌∷◌, ◌++◌, length, refl, sym, ap, ◌∙◌, inl, inr, ◌⊎◌, arith}
use Rattle.std.specs.Prelude.{◌==◌, ◌&&◌, not, nat_le, nat_lt}
use Rattle.std.specs.List.{list_all}
use Rattle.std.specs.Str.{all_scalars, encode_utf8_all}
use Rattle.std.proofs.lemmas.Bool.{and_right, false≢true, and_parts}
use Rattle.std.proofs.lemmas.Bool.Decides.{nat_tests}
use Rattle.std.proofs.lemmas.Str.{encode_ascii}
use Rattle.jr_path.specs.Grammar.{IsName, IsPrefixed, OneOrMore, is_plain, is_prefix_character}

-- a character of ASCII that isn't the space
abbrev is_visible : ℕ → Bool
is_visible c = nat_lt c 128 && not (c == 32)

-- 1 to 255 such characters, of which a dot isn't the first
abbrev are_visible : List ℕ → Bool
are_visible [] = false
are_visible (c ∷ cs) = not (c == 46) && (list_all is_visible (c ∷ cs) && (all_scalars (c ∷ cs) && nat_le (length (c ∷ cs)) 255))

-- one or more characters that all pass
abbrev all_pass : (ℕ → Bool) → List ℕ → Bool
all_pass passes [] = false
all_pass passes (c ∷ cs) = list_all passes (c ∷ cs)

-- the text is visible, and plain throughout
abbrev pub is_plain_name : List ℕ → Bool
is_plain_name text = are_visible text && all_pass is_plain text

-- a prefix, a colon and plain characters, all visible
abbrev pub is_prefixed_name : List ℕ → List ℕ → Bool
is_prefixed_name prefix local = are_visible (prefix ++ 58 ∷ local) && (all_pass is_prefix_character prefix && all_pass is_plain local)

passed : (passes : ℕ → Bool) (cs : List ℕ) → all_pass passes cs ≡ true → OneOrMore passes cs
passed passes [] h = absurd (false≢true h)
passed passes (c ∷ cs) h = (λ e. absurd (false≢true (sym (ap (all_pass passes) e) ∙ h)), h)

ascii : (c : ℕ) → nat_lt c 128 ≡ true → c < 128
ascii c h = grind (arith, nat_tests)

short : (n : ℕ) → nat_le n 255 ≡ true → n ≤ 255
short n h = grind (arith, nat_tests)

spelled : (cs : List ℕ) → list_all is_visible cs ≡ true → encode_utf8_all cs ≡ cs
spelled [] h = refl
spelled (c ∷ cs) h =
    let p = and_parts (is_visible c) (list_all is_visible cs) h in
    let low = ascii c (and_parts (nat_lt c 128) (not (c == 32)) p.0).0 in
    ap (λ (bytes : List ℕ). bytes ++ encode_utf8_all cs) (encode_ascii c low) ∙ ap (λ (bytes : List ℕ). c ∷ bytes) (spelled cs p.1)

space_last : (front : List ℕ) → list_all is_visible (front ++ 32 ∷ []) ≡ false
space_last [] = refl
space_last (c ∷ front) = ap (λ b. is_visible c && b) (space_last front) ∙ and_right (is_visible c) false refl

name : (text : List ℕ) → are_visible text ≡ true → OneOrMore is_plain text ⊎ IsPrefixed text → IsName text
name [] h form = absurd (false≢true h)
name (c ∷ cs) h form =
    let all = (and_parts _ _ h).1 in
    let visible : list_all is_visible (c ∷ cs) ≡ true = (and_parts _ _ all).0 in
    let rest = and_parts (all_scalars (c ∷ cs)) (nat_le (length (c ∷ cs)) 255) (and_parts _ _ all).1 in
    record {
      characters = c ∷ cs;
      scalar = rest.0;
      spelled = sym (spelled (c ∷ cs) visible);
      form = form;
      size = short (length (c ∷ cs)) rest.1;
      first = λ more e. absurd (false≢true (sym (ap (list_all is_visible) e) ∙ visible));
      last = λ front e. absurd (false≢true (sym (space_last front) ∙ (sym (ap (list_all is_visible) e) ∙ visible)));
      no_dot = λ e. absurd (false≢true (sym (ap are_visible e) ∙ h));
      no_dots = λ e. absurd (false≢true (sym (ap are_visible e) ∙ h));
    }

-- a visible text that is plain throughout is a name: `plain_name (codes "node") refl`
pub plain_name : (text : List ℕ) → is_plain_name text ≡ true → IsName text
plain_name text h = let p = and_parts (are_visible text) (all_pass is_plain text) h in name text p.0 (inl (passed is_plain text p.1))

-- a visible text with a prefix is a name: `prefixed_name (codes "jcr") (codes "system") refl`
pub prefixed_name : (prefix local : List ℕ) → is_prefixed_name prefix local ≡ true → IsName (prefix ++ 58 ∷ local)
prefixed_name prefix local h =
    let p = and_parts (are_visible (prefix ++ 58 ∷ local)) (all_pass is_prefix_character prefix && all_pass is_plain local) h in
    let parts = and_parts (all_pass is_prefix_character prefix) (all_pass is_plain local) p.1 in
    name (prefix ++ 58 ∷ local) p.0 (inr (record { prefix = prefix; local = local; split = refl; is_prefix = passed is_prefix_character prefix parts.0; is_local = passed is_plain local parts.1 }))
