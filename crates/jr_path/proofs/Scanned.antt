-- A text of which some characters are read as a name's, and where it stops being one.
use Rattle.std.proofs.Common.{◌≡◌, ◌≢◌, ℕ, ◌+◌, ◌/◌, ◌^◌, ◌<◌, ◌≤◌, Bool, true, false, cond, List, None, Option, [], ◌∷◌, ◌++◌, length, take, get_or, refl, sym, ap, ◌∙◌, append_assoc, inl, inr, ◌⊎◌, arith, length-append}
use Rattle.std.specs.Prelude.{MatchOption, Result, Ok, Err, Some, codes, nat_le, nat_lt, ◌==◌}
use Rattle.std.specs.Char.{IsScalar, len_utf8}
use Rattle.std.specs.Str.{IsUtf8}
use Rattle.std.proofs.lemmas.Bool.{cases_lt, eqb-true, ltb-true, ltb-false, leb-true, leb-false, and_parts}
use Rattle.std.proofs.lemmas.Bool.Decides.{nat_tests}
use Rattle.std.proofs.lemmas.List.{nil_from_length, append-nil as append_nil}
use Rattle.std.proofs.lemmas.Str.{IsUtf8-past_char, cons_from_encodes, char_from_byte, encodes-append, length-encode, length-le-encodes, len_utf8_bounds, encode_ascii}
use Rattle.std.proofs.str.Laws as laws
use lib.Utf8.{encode, encodes, next, scalar, scalars}
use Rattle.jr_path.specs.Grammar.{Begins, IsFirstFault, IsName, is_plain, is_prefix_character}
use Rattle.jr_path.specs.Stages.{after_colon, after_prefix, after_space, missing, stage_after, step_of, step_with}
use Rattle.jr_path.specs.declared.name.Stage.{Stage}
use Rattle.jr_path.specs.declared.name.Stage.TheVariants.{Start, Whole}
use Rattle.jr_path.proofs.Follows.{Follows, follows_from_form, form_from_follows, letter_follows, missing_follows, nothing_follows, step_back, step_into, wide_follows, wide_leaves_none}

-- characters are read up to the offset, and what may follow them is what may follow at the stage
pub record Scanned (text : List ℕ) (s : Stage) (rest : List ℕ) (offset : ℕ) : Type 0 where
  pub front : List ℕ
  pub are_scalars : scalars front ≡ true
  pub split : text ≡ encodes front ++ rest
  pub size : offset ≡ length (encodes front)
  pub utf8 : IsUtf8 rest
  pub into : (cs : List ℕ) → Follows Start (front ++ cs) → Follows s cs
  pub out : (cs : List ℕ) → Follows s cs → Follows Start (front ++ cs)
  pub fits : offset + missing s ≤ 255

pub scan_starts : (text : List ℕ) → IsUtf8 text → Scanned text Start text 0
scan_starts text utf8 = record { front = []; are_scalars = refl; split = refl; size = refl; utf8 = utf8; into = λ cs f. f; out = λ cs f. f; fits = omega arith }

scalars-append : (cs ds : List ℕ) → scalars cs ≡ true → scalars ds ≡ true → scalars (cs ++ ds) ≡ true
scalars-append [] ds h k = k
scalars-append (c ∷ cs) ds h k = let p = and_parts (scalar c) (scalars cs) h in rw p.0 (scalars-append cs ds p.1 k)

-- a text's first character is a scalar value
first_scalar : (c : ℕ) (rest : List ℕ) → IsUtf8 (encode c ++ rest) → IsScalar c
first_scalar c rest u =
    let p = cons_from_encodes u.0 rest c u.1.1 in
    let all : scalars (c ∷ p.0) ≡ true = ap scalars (sym p.1) ∙ u.1.0 in
    (and_parts (scalar c) (scalars p.0) all).0

encodes_one : (c : ℕ) → encodes (c ∷ []) ≡ encode c
encodes_one c = append_nil (encode c)
  where
    append_nil : (xs : List ℕ) → xs ++ [] ≡ xs
    append_nil [] = refl
    append_nil (x ∷ xs) = ap (λ ys. x ∷ ys) (append_nil xs)

-- one more character is read
pub scan_moves : (text : List ℕ) (s t : Stage) (rest rest' : List ℕ) (offset c : ℕ) → Scanned text s rest offset → rest ≡ encode c ++ rest' → stage_after s c ≡ Some t → offset + len_utf8 c + missing t ≤ 255 → Scanned text t rest' (offset + length (encode c))
scan_moves text s t rest rest' offset c scan first is fits =
    let utf8 : IsUtf8 (encode c ++ rest') = rw first at scan.utf8 in
    let joined : encodes (scan.front ++ c ∷ []) ≡ encodes scan.front ++ encode c = encodes-append scan.front (c ∷ []) ∙ ap (λ xs. encodes scan.front ++ xs) (encodes_one c) in
    let len = length-encode c in
    record {
      front = scan.front ++ c ∷ [];
      are_scalars = scalars-append scan.front (c ∷ []) scan.are_scalars (rw (first_scalar c rest' utf8) refl);
      split = scan.split ∙ ap (λ xs. encodes scan.front ++ xs) first ∙ sym (append_assoc (encodes scan.front) (encode c) rest') ∙ ap (λ xs. xs ++ rest') (sym joined);
      size = sym (ap length joined ∙ length-append (encodes scan.front) (encode c) ∙ ap (λ n. n + length (encode c)) (sym scan.size));
      utf8 = IsUtf8-past_char (encode c ++ rest') rest' c utf8 refl;
      into = λ cs f. (let g : Follows s (c ∷ cs) = scan.into (c ∷ cs) (rw append_assoc at f) in let h : MatchOption (stage_after s c) ⊥ (λ t. Follows t cs) = step_into s c cs g in rw is at h);
      out = λ cs f. rw append_assoc (scan.out (c ∷ cs) (step_back s t c cs is f));
      fits = rw len (omega arith);
    }

-- ---- names that begin with the characters read

name_of : (cs text : List ℕ) → scalars cs ≡ true → text ≡ encodes cs → length text ≤ 255 → Follows Start cs → text ≢ codes "." → text ≢ codes ".." → IsName text
name_of cs text all spelled size follows dot dots =
    let form = form_from_follows cs follows in
    record { characters = cs; scalar = all; spelled = spelled; form = form.form; size = size; first = form.first; last = form.last; no_dot = dot; no_dots = dots }

cut_front : (front cs t : List ℕ) → encodes cs ≡ encodes front ++ t → (es : List ℕ) × (cs ≡ front ++ es) × (encodes es ≡ t)
cut_front [] cs t e = (cs, refl, e)
cut_front (f ∷ fs) cs t e =
    let p = cons_from_encodes cs (encodes fs ++ t) f (e ∙ append_assoc (encode f) (encodes fs) t) in
    let q = cut_front fs p.0 t p.2 in
    (q.0, p.1 ∙ ap (λ xs. f ∷ xs) q.1, q.2)

later_scalars : (cs ds : List ℕ) → scalars (cs ++ ds) ≡ true → scalars ds ≡ true
later_scalars [] ds h = h
later_scalars (c ∷ cs) ds h = later_scalars cs ds (and_parts (scalar c) (scalars (cs ++ ds)) h).1

-- what a name has behind the characters read
pub record Behind (s : Stage) (offset : ℕ) (t : List ℕ) : Type 0 where
  pub characters : List ℕ
  pub are_scalars : scalars characters ≡ true
  pub follows : Follows s characters
  pub spelled : encodes characters ≡ t
  pub size : offset + length t ≤ 255

behind : (text : List ℕ) (s : Stage) (rest : List ℕ) (offset : ℕ) (t : List ℕ) (scan : Scanned text s rest offset) → IsName (encodes scan.front ++ t) → Behind s offset t
behind text s rest offset t scan name =
    let cut = cut_front scan.front name.characters t (sym name.spelled) in
    let follows : Follows Start name.characters = follows_from_form name.characters (record { form = name.form; first = name.first; last = name.last }) in
    let whole : length (encodes scan.front ++ t) ≡ length (encodes scan.front) + length t = length-append (encodes scan.front) t in
    let size = scan.size in
    let most = name.size in
    record {
      characters = cut.0;
      are_scalars = later_scalars scan.front cut.0 (rw cut.1 at name.scalar);
      follows = scan.into cut.0 (rw cut.1 at follows);
      spelled = cut.2;
      size = omega arith;
    }

ends_apart : (xs ys : List ℕ) (a b : ℕ) → (a ≡ b → ⊥) → xs ++ a ∷ [] ≢ ys ++ b ∷ []
ends_apart [] [] a b apart e = apart (let h : a ≡ b = cc in h)
ends_apart [] (y ∷ ys) a b apart e = by ys (let h : [] ≡ ys ++ b ∷ [] = cc in h)
  where
    by : (ys : List ℕ) → [] ≡ ys ++ b ∷ [] → ⊥
    by [] e = cc
    by (y ∷ ys) e = cc
ends_apart (x ∷ xs) [] a b apart e = by xs (let h : xs ++ a ∷ [] ≡ [] = cc in h)
  where
    by : (xs : List ℕ) → xs ++ a ∷ [] ≡ [] → ⊥
    by [] e = cc
    by (x ∷ xs) e = cc
ends_apart (x ∷ xs) (y ∷ ys) a b apart e = ends_apart xs ys a b apart (let h : xs ++ a ∷ [] ≡ ys ++ b ∷ [] = cc in h)

-- one more character makes a name, if it may follow and there is room
name_with : (text : List ℕ) (s : Stage) (rest : List ℕ) (offset c b : ℕ) (bytes : List ℕ) (scan : Scanned text s rest offset) → scalar c ≡ true → encode c ≡ bytes ++ b ∷ [] → 46 < b → Follows s (c ∷ []) → offset + length (bytes ++ b ∷ []) ≤ 255
    → IsName (encodes scan.front ++ (bytes ++ b ∷ []))
name_with text s rest offset c b bytes scan is_scalar ends above follows size =
    let joined : encodes (scan.front ++ c ∷ []) ≡ encodes scan.front ++ (bytes ++ b ∷ []) = encodes-append scan.front (c ∷ []) ∙ ap (λ xs. encodes scan.front ++ xs) (encodes_one c ∙ ends) in
    let split : encodes scan.front ++ (bytes ++ b ∷ []) ≡ (encodes scan.front ++ bytes) ++ b ∷ [] = sym (append_assoc (encodes scan.front) bytes (b ∷ [])) in
    let len = length-append (encodes scan.front) (bytes ++ b ∷ []) in
    let start = scan.size in
    name_of (scan.front ++ c ∷ []) (encodes scan.front ++ (bytes ++ b ∷ []))
    (scalars-append scan.front (c ∷ []) scan.are_scalars (rw is_scalar refl))
    (sym joined) (omega arith) (scan.out (c ∷ []) follows)
    (λ e. ends_apart (encodes scan.front ++ bytes) [] b 46 (λ e'. omega arith) (sym split ∙ e))
    (λ e. ends_apart (encodes scan.front ++ bytes) (46 ∷ []) b 46 (λ e'. omega arith) (sym split ∙ e))

take_front : (xs ys : List ℕ) (n : ℕ) → n ≡ length xs → take n (xs ++ ys) ≡ xs
take_front xs ys n e = rw e (by xs)
  where
    by : (xs : List ℕ) → take (length xs) (xs ++ ys) ≡ xs
    by [] = refl
    by (x ∷ xs) = ap (λ zs. x ∷ zs) (by xs)

read_so_far : (text : List ℕ) (s : Stage) (rest : List ℕ) (offset : ℕ) (scan : Scanned text s rest offset) → take offset text ≡ encodes scan.front
read_so_far text s rest offset scan = ap (λ xs. take offset xs) scan.split ∙ take_front (encodes scan.front) rest offset scan.size

-- some name begins with the characters read
begins : (text : List ℕ) (s : Stage) (rest : List ℕ) (offset : ℕ) (scan : Scanned text s rest offset) → Begins IsName (encodes scan.front)
begins text s rest offset scan = elim (cases_lt offset 255) [
  | inl lt ↦ (97 ∷ [], name_with text s rest offset 97 97 [] scan refl (encode_ascii 97 (omega arith)) (omega arith) (letter_follows s) (omega arith))
  | inr ge ↦ (let fits = scan.fits in
      let none : missing s ≡ 0 = omega arith in
      let size = scan.size in
      let full : length (encodes scan.front) ≡ 255 = omega arith in
      let same = append_nil (encodes scan.front) in (
        [],
        rw same (name_of scan.front (encodes scan.front) scan.are_scalars refl (omega arith)
            (rw append_nil at (scan.out [] (nothing_follows s none)))
            (λ e. absurd (let l = ap length e in omega arith))
            (λ e. absurd (let l = ap length e in omega arith))),
      ))
]

-- ---- where no name goes on

-- two characters begin with one byte: they are one ASCII character, or have as many bytes
abbrev Alike : ℕ → ℕ → Type 0
Alike c d = (c ≡ d) ⊎ ((128 ≤ c) × (len_utf8 c ≡ len_utf8 d))

-- how many bytes the character has that begins with a byte
width : ℕ → ℕ
width b = cond (nat_lt b 128) 1 (cond (nat_lt b 224) 2 (cond (nat_lt b 240) 3 4))

first_byte : (c : ℕ) → scalar c ≡ true → (len_utf8 c ≡ width (get_or (encode c) 0 0)) × (128 ≤ c → 128 ≤ get_or (encode c) 0 0)
unfolding width
first_byte c is_scalar = elim (cases_lt c 128) [
  | inl a ↦ rw (laws.one c a) (grind (arith, nat_tests), λ h. omega arith)
  | inr a ↦ elim (cases_lt c 2048) [
    | inl b ↦ rw (laws.two c a b) (grind (arith, nat_tests), λ h. omega arith)
    | inr b ↦ elim (cases_lt c 65536) [
      | inl d ↦ rw (laws.three c b d) (grind (arith, nat_tests), λ h. omega arith)
      | inr d ↦ rw (laws.four c d) (grind (arith, nat_tests), λ h. omega arith)
    ]
  ]
]

head_of : (c d : ℕ) (cs ds : List ℕ) → c ∷ cs ≡ d ∷ ds → (c ≡ d) × (cs ≡ ds)
head_of c d cs ds e = (cc, cc)

first_of_append : (xs ys zs : List ℕ) (b : ℕ) → 1 ≤ length xs → xs ++ ys ≡ b ∷ zs → get_or xs 0 0 ≡ b
first_of_append [] ys zs b some e = absurd (omega arith)
first_of_append (x ∷ xs) ys zs b some e = (head_of x b (xs ++ ys) zs e).0

some_bytes : (c : ℕ) → 1 ≤ length (encode c)
some_bytes c = rw (length-encode c) (len_utf8_bounds c).0

alike : (c d b : ℕ) (r q x y : List ℕ) → scalar c ≡ true → scalar d ≡ true → encode c ++ r ≡ b ∷ x → encode d ++ q ≡ b ∷ y → Alike c d
alike c d b r q x y c_is d_is e f =
    let first : get_or (encode c) 0 0 ≡ b = first_of_append (encode c) r x b (some_bytes c) e in
    let first' : get_or (encode d) 0 0 ≡ b = first_of_append (encode d) q y b (some_bytes d) f in
    elim (cases_lt c 128) [
      | inl low ↦ inl (by_low first first' low)
      | inr wide ↦ inr (wide, (first_byte c c_is).0 ∙ ap width (first ∙ sym first') ∙ sym (first_byte d d_is).0)
    ]
  where
    low_byte : get_or (encode c) 0 0 ≡ b → c < 128 → b < 128
    low_byte first low = let one : encode c ≡ c ∷ [] = encode_ascii c low in let is : c ≡ b = rw one at first in omega arith

    by_low : get_or (encode c) 0 0 ≡ b → get_or (encode d) 0 0 ≡ b → c < 128 → c ≡ d
    by_low first first' low =
        let small : b < 128 = low_byte first low in
        char_from_byte (b ∷ x) r c (sym e) small (omega arith) ∙ sym (char_from_byte (b ∷ y) q d (sym f) small (omega arith))

some_rest : (c : ℕ) (rest rest' : List ℕ) → rest ≡ encode c ++ rest' → length rest ≡ len_utf8 c + length rest'
some_rest c rest rest' e = ap length e ∙ length-append (encode c) rest' ∙ ap (λ n. n + length rest') (length-encode c)

text_length : (text : List ℕ) (s : Stage) (rest : List ℕ) (offset : ℕ) (scan : Scanned text s rest offset) → length text ≡ offset + length rest
text_length text s rest offset scan = ap length scan.split ∙ length-append (encodes scan.front) rest ∙ ap (λ n. n + length rest) (sym scan.size)

take_more : (xs ys : List ℕ) (b : ℕ) (n : ℕ) → n ≡ length xs → take (n + 1) (xs ++ b ∷ ys) ≡ xs ++ b ∷ []
take_more xs ys b n e = ap (λ zs. take (n + 1) zs) (sym (append_assoc xs (b ∷ []) ys)) ∙ take_front (xs ++ b ∷ []) ys (n + 1) (rw e (sym (length-append xs (b ∷ []))))

-- at the offset, no name goes on that begins with the next byte
stops_here : (text : List ℕ) (s : Stage) (rest rest' : List ℕ) (offset c : ℕ) → Scanned text s rest offset → rest ≡ encode c ++ rest' → ((d : ℕ) (ds : List ℕ) → Follows s (d ∷ ds) → offset + (len_utf8 d + length (encodes ds)) ≤ 255 → Alike c d → ⊥)
    → IsFirstFault IsName text offset
stops_here text s rest rest' offset c scan first dead = record {
  within = (let l = text_length text s rest offset scan in omega arith);
  before = (let same = read_so_far text s rest offset scan in rw same (begins text s rest offset scan));
  there = λ lt b. by rest first scan b;
  at_end = λ e _. (let l = text_length text s rest offset scan in let r = some_rest c rest rest' first in let w = len_utf8_bounds c in omega arith);
}
  where
    by_characters : (b : ℕ) (more bs : List ℕ) → scalar c ≡ true → encode c ++ rest' ≡ b ∷ bs → (es : List ℕ) → scalars es ≡ true → Follows s es → encodes es ≡ b ∷ more → offset + length (b ∷ more) ≤ 255 → ⊥
    by_characters b more bs c_is e [] all f g size = let h : [] ≡ b ∷ more = g in cc
    by_characters b more bs c_is e (d ∷ ds) all f g size =
        let lengths : length (encode d) + length (encodes ds) ≡ length (b ∷ more) = sym (length-append (encode d) (encodes ds)) ∙ ap length g in
        let len = length-encode d in
        dead d ds f (omega arith) (alike c d b rest' (encodes ds) bs more c_is (and_parts (scalar d) (scalars ds) all).0 e g)

    by : (rest : List ℕ) → rest ≡ encode c ++ rest' → Scanned text s rest offset → Begins IsName (take (offset + 1) text) → ⊥
    by [] e scan b = (let r = some_rest c [] rest' e in let w = len_utf8_bounds c in omega arith)
    by (b ∷ bs) e scan begun =
        let utf8 : IsUtf8 (encode c ++ rest') = rw e at scan.utf8 in
        let so_far : take (offset + 1) text ≡ encodes scan.front ++ b ∷ [] = ap (λ xs. take (offset + 1) xs) scan.split ∙ take_more (encodes scan.front) bs b offset scan.size in
        let whole : take (offset + 1) text ++ begun.0 ≡ encodes scan.front ++ (b ∷ begun.0) = ap (λ xs. xs ++ begun.0) so_far ∙ append_assoc (encodes scan.front) (b ∷ []) begun.0 in
        let name : IsName (encodes scan.front ++ (b ∷ begun.0)) = rw whole at begun.1 in
        let rest_of = behind text s (b ∷ bs) offset (b ∷ begun.0) scan name in
        by_characters b begun.0 bs (first_scalar c rest' utf8) (sym e) rest_of.characters rest_of.are_scalars rest_of.follows rest_of.spelled rest_of.size

not_plain : (c : ℕ) → is_plain c ≡ false → 128 ≤ c → c < 160
not_plain c g wide = grind (arith, nat_tests)

-- a character of two bytes or more that no name has at the offset is a control character
control_from_refused : (s : Stage) (c : ℕ) → 128 ≤ c → stage_after s c ≡ None → c < 160
control_from_refused s c wide is = by (c == 58) (c == 32) (is_plain c) (is_prefix_character c) refl refl refl is
  where
    by : (colon space plain prefix : Bool) → (c == 58) ≡ colon → (c == 32) ≡ space → is_plain c ≡ plain → cond colon (after_colon s) (cond space (after_space s) (cond plain (cond prefix (Some (after_prefix s)) (Some Whole)) None)) ≡ None → c < 160
    by true space plain prefix e f g is' = absurd (let here : c ≡ 58 = eqb-true c 58 e in omega arith)
    by false true plain prefix e f g is' = absurd (let here : c ≡ 32 = eqb-true c 32 f in omega arith)
    by false false true true e f g is' = cc
    by false false true false e f g is' = cc
    by false false false prefix e f g is' = not_plain c g wide

control_bytes : (c : ℕ) → 128 ≤ c → c < 160 → (x : ℕ) × (encode c ≡ 194 ∷ x ∷ [])
control_bytes c wide small = (
  next c,
  laws.two c wide (omega arith) ∙ (let lead : 192 + c / 64 ≡ 194 = omega arith in rw lead refl),
)

no_break_space : encode 160 ≡ 194 ∷ 160 ∷ []
no_break_space = laws.two 160 (omega arith) (omega arith)

-- behind the first byte of a control character of two bytes, no name goes on
stops_inside : (text : List ℕ) (s : Stage) (rest rest' : List ℕ) (offset c : ℕ) → Scanned text s rest offset → rest ≡ encode c ++ rest' → 128 ≤ c → stage_after s c ≡ None → offset + len_utf8 c ≤ 255 → IsFirstFault IsName text (offset + 1)
stops_inside text s rest rest' offset c scan first wide is fits =
    let bytes = control_bytes c wide (control_from_refused s c wide is) in
    let len : length (encode c) ≡ 2 = ap length bytes.1 in
    let len' = length-encode c in
    let l = text_length text s rest offset scan in
    let r = some_rest c rest rest' first in
    let begun : take (offset + 1) text ≡ encodes scan.front ++ 194 ∷ [] =
    ap (λ xs. take (offset + 1) xs) (scan.split ∙ ap (λ xs. encodes scan.front ++ xs) (first ∙ ap (λ xs. xs ++ rest') bytes.1))
    ∙ take_more (encodes scan.front) (bytes.0 ∷ rest') 194 offset scan.size in
    let both_bytes : take (offset + 1 + 1) text ≡ encodes scan.front ++ encode c =
    ap (λ xs. take (offset + 1 + 1) xs) (scan.split ∙ ap (λ xs. encodes scan.front ++ xs) first ∙ sym (append_assoc (encodes scan.front) (encode c) rest'))
    ∙ take_front (encodes scan.front ++ encode c) rest' (offset + 1 + 1) (let joined = length-append (encodes scan.front) (encode c) in let size = scan.size in omega arith) in
    record {
      within = omega arith;
      before = (
        160 ∷ [],
        rw (begun, append_assoc (encodes scan.front) (194 ∷ []) (160 ∷ []))
            (name_with text s rest offset 160 160 (194 ∷ []) scan refl no_break_space (omega arith) (wide_follows s) (omega arith)),
      );
      there = λ lt b.
          (let name : IsName (encodes scan.front ++ (encode c ++ b.0)) = rw (both_bytes, append_assoc) at b.1 in
          let rest_of = behind text s rest offset (encode c ++ b.0) scan name in
          let p = cons_from_encodes rest_of.characters b.0 c rest_of.spelled in
          let follows : Follows s (c ∷ p.0) = rw p.1 at rest_of.follows in
          let none : MatchOption (stage_after s c) ⊥ (λ t. Follows t p.0) = step_into s c p.0 follows in
          rw is at none);
      at_end = λ e _. omega arith;
    }

refused_here : (text : List ℕ) (s : Stage) (rest rest' : List ℕ) (offset c : ℕ) → Scanned text s rest offset → rest ≡ encode c ++ rest' → stage_after s c ≡ None → (128 ≤ c → 255 < offset + len_utf8 c) → IsFirstFault IsName text offset
refused_here text s rest rest' offset c scan first is full = stops_here text s rest rest' offset c scan first
    (λ d ds follows size same. elim same [
      | inl e ↦ (let here : Follows s (c ∷ ds) = rw e follows in
          let none : MatchOption (stage_after s c) ⊥ (λ t. Follows t ds) = step_into s c ds here in
          rw is at none)
      | inr p ↦ (let over = full p.0 in let len = p.1 in omega arith)
    ])

full_here : (text : List ℕ) (s t : Stage) (rest rest' : List ℕ) (offset c : ℕ) → Scanned text s rest offset → rest ≡ encode c ++ rest' → stage_after s c ≡ Some t → 255 < offset + len_utf8 c + missing t → IsFirstFault IsName text offset
full_here text s t rest rest' offset c scan first is full = stops_here text s rest rest' offset c scan first
    (λ d ds follows size same. elim same [
      | inl e ↦ (let here : Follows s (c ∷ ds) = rw e follows in
          let more : MatchOption (stage_after s c) ⊥ (λ t. Follows t ds) = step_into s c ds here in
          let left = missing_follows t ds (rw is at more) in
          let bytes = length-le-encodes ds in
          let same_len : len_utf8 c ≡ len_utf8 d = ap len_utf8 e in
          omega arith)
      | inr p ↦ (let none = wide_leaves_none s t c p.0 is in let len = p.1 in omega arith)
    ])

-- a step that is made, and one at which the text stops
pub scan_goes_on : (text : List ℕ) (s t : Stage) (rest rest' : List ℕ) (offset c : ℕ) → Scanned text s rest offset → rest ≡ encode c ++ rest' → step_of s offset c ≡ Ok t → Scanned text t rest' (offset + length (encode c))
scan_goes_on text s t rest rest' offset c scan first step = by (stage_after s c) refl step
  where
    fits : (u : Stage) (b : Bool) → nat_le (offset + len_utf8 c + missing u) 255 ≡ b → cond {A = Result Stage ℕ} b (Ok u) (Err offset) ≡ Ok t → (u ≡ t) × (offset + len_utf8 c + missing u ≤ 255)
    fits u true e h = (cc, leb-true (offset + len_utf8 c + missing u) 255 e)
    fits u false e h = cc

    by : (o : Option Stage) → stage_after s c ≡ o → step_with offset c o ≡ Ok t → Scanned text t rest' (offset + length (encode c))
    by None is h = cc
    by (Some u) is h =
        let p = fits u (nat_le (offset + len_utf8 c + missing u) 255) refl h in
        scan_moves text s t rest rest' offset c scan first (is ∙ ap (λ x. Some x) p.0) (rw p.0 at p.1)

pub scan_stops : (text : List ℕ) (s : Stage) (rest rest' : List ℕ) (offset c k : ℕ) → Scanned text s rest offset → rest ≡ encode c ++ rest' → step_of s offset c ≡ Err k → IsFirstFault IsName text k
scan_stops text s rest rest' offset c k scan first step = by (stage_after s c) refl step
  where
    full : (u : Stage) → stage_after s c ≡ Some u → (b : Bool) → nat_le (offset + len_utf8 c + missing u) 255 ≡ b → cond {A = Result Stage ℕ} b (Ok u) (Err offset) ≡ Err k → IsFirstFault IsName text k
    full u is true e h = cc
    full u is false e h =
        let here : offset ≡ k = cc in
        rw (← here) (full_here text s u rest rest' offset c scan first is (leb-false (offset + len_utf8 c + missing u) 255 e))

    refused : stage_after s c ≡ None → (low fits : Bool) → nat_lt c 128 ≡ low → nat_le (offset + len_utf8 c) 255 ≡ fits → cond low offset (cond fits (offset + 1) offset) ≡ k → IsFirstFault IsName text k
    refused is true fits e f h =
        let small : c < 128 = ltb-true c 128 e in
        rw (← h) (refused_here text s rest rest' offset c scan first is (λ wide. omega arith))
    refused is false true e f h = rw (← h) (stops_inside text s rest rest' offset c scan first (ltb-false c 128 e) is (leb-true (offset + len_utf8 c) 255 f))
    refused is false false e f h = rw (← h) (refused_here text s rest rest' offset c scan first is (λ wide. leb-false (offset + len_utf8 c) 255 f))

    by : (o : Option Stage) → stage_after s c ≡ o → step_with offset c o ≡ Err k → IsFirstFault IsName text k
    by None is h = refused is (nat_lt c 128) (nat_le (offset + len_utf8 c) 255) refl refl (let e : cond (nat_lt c 128) offset (cond (nat_le (offset + len_utf8 c) 255) (offset + 1) offset) ≡ k = cc in e)
    by (Some u) is h = full u is (nat_le (offset + len_utf8 c + missing u) 255) refl h

-- ---- at the end of the text

pub scan_ends : (text : List ℕ) (s : Stage) (rest : List ℕ) (offset : ℕ) → Scanned text s rest offset → length rest ≡ 0 → missing s ≡ 0 → text ≢ codes "." → text ≢ codes ".." → IsName text
scan_ends text s rest offset scan none whole dot dots =
    let empty : rest ≡ [] = nil_from_length rest none in
    let spelled : text ≡ encodes scan.front = scan.split ∙ ap (λ xs. encodes scan.front ++ xs) empty ∙ append_nil (encodes scan.front) in
    let l = text_length text s rest offset scan in
    let fits = scan.fits in
    name_of scan.front text scan.are_scalars spelled (omega arith) (rw append_nil at (scan.out [] (nothing_follows s whole))) dot dots

end_stops : (text : List ℕ) (s : Stage) (rest : List ℕ) (offset : ℕ) → Scanned text s rest offset → length rest ≡ 0 → (IsName text → ⊥) → IsFirstFault IsName text (length text)
end_stops text s rest offset scan none bad =
    let l : length text ≡ offset = (let l = text_length text s rest offset scan in omega arith) in
    record {
      within = omega arith;
      before = (let same : take (length text) text ≡ encodes scan.front = ap (λ n. take n text) l ∙ read_so_far text s rest offset scan in rw same (begins text s rest offset scan));
      there = λ lt _. omega arith;
      at_end = λ _ name. bad name;
    }

nothing_left : (s : Stage) (cs : List ℕ) → Follows s cs → encodes cs ≡ [] → missing s ≡ 0
nothing_left s cs follows e =
    let left = missing_follows s cs follows in
    let bytes = length-le-encodes cs in
    let size : length (encodes cs) ≡ 0 = ap (λ (xs : List ℕ). length xs) e in
    omega arith

pub scan_ends_early : (text : List ℕ) (s : Stage) (rest : List ℕ) (offset : ℕ) → Scanned text s rest offset → length rest ≡ 0 → 0 < missing s → IsFirstFault IsName text (length text)
scan_ends_early text s rest offset scan none more = end_stops text s rest offset scan none
    (λ name. (let empty : rest ≡ [] = nil_from_length rest none in
    let named : IsName (encodes scan.front ++ []) = rw (scan.split, empty) at name in
    let rest_of = behind text s rest offset [] scan named in
    let left = nothing_left s rest_of.characters rest_of.follows rest_of.spelled in
    omega arith))

pub scan_ends_at_dots : (text : List ℕ) (s : Stage) (rest : List ℕ) (offset : ℕ) → Scanned text s rest offset → length rest ≡ 0 → (text ≡ codes ".") ⊎ (text ≡ codes "..") → IsFirstFault IsName text (length text)
scan_ends_at_dots text s rest offset scan none dots = end_stops text s rest offset scan none (λ name. elim dots [ inl e ↦ name.no_dot e | inr e ↦ name.no_dots e ])

-- what is left stays as short
pub scan_keeps_room : (rest rest' : List ℕ) (offset offset' c : ℕ) → offset + length rest < 2 ^ 64 → rest ≡ encode c ++ rest' → offset' ≡ offset + length (encode c) → offset' + length rest' < 2 ^ 64
scan_keeps_room rest rest' offset offset' c room first later =
    let r = some_rest c rest rest' first in
    let len = length-encode c in
    omega arith
