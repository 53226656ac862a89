-- The text of an id, cut at its first colon.
use Rattle.std.proofs.Common.{◌≡◌, ◌==◌, ◌+◌, ◌<◌, ◌≤◌, ◌^◌, ℕ, List, [], ◌∷◌, ◌++◌, length, take, drop, Option, None, Some, Bool, true, false, refl, sym, ap, subst, ◌∙◌, append_assoc, arith, cond, length-append}
use Rattle.std.specs.Prelude.{codes, Result, Ok}
use Rattle.std.specs.Char.{digit_value}
use Rattle.std.specs.Borrow.{Bor}
use Rattle.std.specs.Fmt.{decimal}
use Rattle.std.specs.Str.Pattern.{FindsChar, FindsCharPrefix, SplitsAtFirstByte, StripsPrefix}
use Rattle.std.specs.List.{AllByRecursion, after_first, before_first, position_or_len}
use Rattle.std.specs.Str.Parse.{AllDigits, IsNumeral, ParsesUnsigned, digits_value, without_leading_plus}
use lib.Utf8.{encode}
use Rattle.std.proofs.Math.Seq.{drop-append-add, take-append_seam}
use Rattle.std.proofs.lemmas.Bool.Decides.{nat_tests}
use Rattle.std.proofs.lemmas.Fmt.{decimal_is_IsNumeral, digits_is_IsNumeral}
use Rattle.std.proofs.lemmas.Result.{Ok-from_Ok_iff}
use Rattle.jr_docs_read.specs.Ranges.{IsIdInRange, IsPathInRange}
use Rattle.jr_docs_read.specs.Reading.{Obtains}
use Rattle.jr_docs_read.specs.declared.fault.DocFault.{DocFault}
use Rattle.jr_path.specs.Ids.{id_text, path_text}
use Rattle.jr_path.specs.declared.path.DocId.{DocId}
use Rattle.jr_path.specs.declared.path.DocId.TheVariants.{Node, Prev, Settings}
use Rattle.jr_path.specs.declared.path.Path.{Path}
use Rattle.jr_rev.specs.Texts.{hexadecimal}

abbrev HasNoColon : List ℕ → Type 0
HasNoColon ds = AllByRecursion (λ c. (c == 58) ≡ false) ds

colon_at : (ds rest : List ℕ) → HasNoColon ds → position_or_len (λ b. b == 58) (ds ++ 58 ∷ rest) ≡ length ds
colon_at [] rest h = refl
colon_at (d ∷ ds) rest h = let more = colon_at ds rest h.1 in rw h.0 (omega arith)

before_colon : (ds rest : List ℕ) → HasNoColon ds → before_first (λ b. b == 58) (ds ++ 58 ∷ rest) ≡ ds
before_colon ds rest h = ap (λ (k : ℕ). take k (ds ++ 58 ∷ rest)) (colon_at ds rest h) ∙ take-append_seam ds (58 ∷ rest)

after_colon : (ds rest : List ℕ) → HasNoColon ds → after_first (λ b. b == 58) (ds ++ 58 ∷ rest) ≡ rest
after_colon ds rest h = ap (λ (k : ℕ). drop (k + 1) (ds ++ 58 ∷ rest)) (colon_at ds rest h) ∙ drop-append-add ds (58 ∷ rest) 1

no_colon : (radix : ℕ) (ds : List ℕ) → radix ≤ 16 → AllDigits radix ds → HasNoColon ds
no_colon radix [] low h = tt
no_colon radix (d ∷ ds) low h = (by (d == 58) refl, no_colon radix ds low h.1)
  where
    by : (b : Bool) → (d == 58) ≡ b → (d == 58) ≡ false
    by true is = let same : d ≡ 58 = grind (arith, nat_tests) in let value : digit_value d ≡ 36 = ap digit_value same in absurd (omega (arith, h.0, value))
    by false is = is

-- a text that is cut at its first colon
pub record IsCut (text front path : List ℕ) : Type 0 where
  pub front_is : front ≡ before_first (λ b. b == 58) text
  pub path_is : path ≡ after_first (λ b. b == 58) text
  pub there : position_or_len (λ b. b == 58) text < length text

cut_parts : (ds rest text front path : List ℕ) → HasNoColon ds → ds ++ codes ":" ++ rest ≡ text → IsCut text front path → (ds ≡ front) × (rest ≡ path)
cut_parts ds rest text front path h is cut =
    let text_is : text ≡ ds ++ 58 ∷ rest = sym is ∙ append_assoc ds (codes ":") rest in
    (sym (cut.front_is ∙ (ap (before_first (λ b. b == 58)) text_is ∙ before_colon ds rest h)), sym (cut.path_is ∙ (ap (after_first (λ b. b == 58)) text_is ∙ after_colon ds rest h)))

pub node_parts : (p : Path) (text front path : List ℕ) → IsPathInRange p → id_text (Node p) ≡ text → IsCut text front path → (decimal (length p) ≡ front) × (path_text p ≡ path)
node_parts p text front path h is cut =
    let depth = h.depth in
    cut_parts (decimal (length p)) (path_text p) text front path (no_colon 10 (decimal (length p)) (omega arith) (decimal_is_IsNumeral (length p) depth).0.1) is cut

hex_numeral : (n : ℕ) → n < 2 ^ 64 → IsNumeral 16 (hexadecimal n) × (digits_value 16 (hexadecimal n) ≡ n)
hex_numeral n small = digits_is_IsNumeral 16 false (omega arith) (omega arith) n (omega (arith, small))

pub prev_parts : (n : ℕ) (p : Path) (text front path : List ℕ) → n < 2 ^ 64 → id_text (Prev n p) ≡ text → IsCut text front path → (codes "p" ++ hexadecimal n ≡ front) × (path_text p ≡ path)
prev_parts n p text front path small is cut =
    cut_parts (112 ∷ hexadecimal n) (path_text p) text front path (refl, no_colon 16 (hexadecimal n) (omega arith) (hex_numeral n small).0.1) is cut

pub settings_uncut : (text front path : List ℕ) → id_text Settings ≡ text → IsCut text front path → ⊥
settings_uncut text front path is cut =
    let there : position_or_len (λ b. b == 58) (id_text Settings) < length (id_text Settings) = subst (λ (t : List ℕ). position_or_len (λ b. b == 58) t < length t) (sym is) cut.there in
    omega (arith, there)

has_colon : (ds rest text : List ℕ) → HasNoColon ds → ds ++ codes ":" ++ rest ≡ text → position_or_len (λ b. b == 58) text ≡ length text → ⊥
has_colon ds rest text h is none =
    let text_is : text ≡ ds ++ 58 ∷ rest = sym is ∙ append_assoc ds (codes ":") rest in
    let at : position_or_len (λ b. b == 58) text ≡ length ds = ap (position_or_len (λ b. b == 58)) text_is ∙ colon_at ds rest h in
    let size : length text ≡ length ds + length (58 ∷ rest) = ap length text_is ∙ length-append ds (58 ∷ rest) in
    omega (arith, at, size, none)

-- a text without a colon is that of the settings alone
pub uncut_settings : (id : DocId) (text : List ℕ) → IsIdInRange id → id_text id ≡ text → position_or_len (λ b. b == 58) text ≡ length text → Settings ≡ id
uncut_settings (Node p) text h is none =
    let depth = h.depth in
    absurd (has_colon (decimal (length p)) (path_text p) text (no_colon 10 (decimal (length p)) (omega arith) (decimal_is_IsNumeral (length p) depth).0.1) is none)
uncut_settings (Prev n p) text h is none = absurd (has_colon (112 ∷ hexadecimal n) (path_text p) text (refl, no_colon 16 (hexadecimal n) (omega arith) (hex_numeral n h.0).0.1) is none)
uncut_settings Settings text h is none = refl

-- a depth doesn't begin as a number of a previous document does
pub depth_no_p : (k : ℕ) (rest : List ℕ) → k < 2 ^ 64 → decimal k ≡ 112 ∷ rest → ⊥
depth_no_p k rest small is =
    let digits : AllDigits 10 (112 ∷ rest) = subst (AllDigits 10) is (decimal_is_IsNumeral k small).0.1 in
    omega (arith, digits.0)

no_plus : (ds : List ℕ) → AllDigits 16 ds → 0 < length ds → without_leading_plus ds ≡ ds
no_plus [] h some = refl
no_plus (d ∷ ds) h some = by (d == 43) refl
  where
    by : (b : Bool) → (d == 43) ≡ b → drop (cond (d == 43) 1 0) (d ∷ ds) ≡ d ∷ ds
    by true is = let same : d ≡ 43 = grind (arith, nat_tests) in let value : digit_value d ≡ 36 = ap digit_value same in absurd (omega (arith, h.0, value))
    by false is = rw is refl

-- hexadecimal digits are read as their number
pub hexadecimal_read : {E : Type 0} (n : ℕ) (bs : List ℕ) (r : Result ℕ E) → n < 2 ^ 64 → hexadecimal n ≡ bs → ParsesUnsigned 64 16 bs r → r ≡ Ok n
hexadecimal_read n bs r small is parses =
    let numeral = hex_numeral n small in
    let plain : without_leading_plus bs ≡ hexadecimal n = ap without_leading_plus (sym is) ∙ no_plus (hexadecimal n) numeral.0.1 numeral.0.0 in
    let value : digits_value 16 (without_leading_plus bs) ≡ n = ap (digits_value 16) plain ∙ numeral.1 in
    Ok-from_Ok_iff r _ _ parses (subst (IsNumeral 16) (sym plain) numeral.0, subst (λ (k : ℕ). k < 2 ^ 64) (sym value) small) ∙ ap Ok value

-- what is left of a text behind a `p`
pub stripped : (front x : List ℕ) → StripsPrefix (FindsCharPrefix 112) front x → front ≡ 112 ∷ x
unfolding encode
stripped front x h = h.1.split ∙ ap (λ (r : List ℕ). 112 ∷ r) (sym h.2)

-- a text that is cut in two is cut at its first colon
pub cut_at : (r : Option (Bor (List ℕ) × Bor (List ℕ))) (text : List ℕ) (x : Bor (List ℕ) × Bor (List ℕ)) → r ≡ Some x → SplitsAtFirstByte (FindsChar 58) (Some 58) text r → IsCut text x.0.now x.1.now
cut_at r text x is splits =
    let h = subst (λ (q : Option (Bor (List ℕ) × Bor (List ℕ))). SplitsAtFirstByte (FindsChar 58) (Some 58) text q) is splits in
    let parts = h (omega arith) (λ w o f. f) in
    record { front_is = parts.0; path_is = parts.1; there = parts.2 }

pub uncut : (r : Option (Bor (List ℕ) × Bor (List ℕ))) (text : List ℕ) → r ≡ None → SplitsAtFirstByte (FindsChar 58) (Some 58) text r → position_or_len (λ b. b == 58) text ≡ length text
uncut r text is splits =
    let h = subst (λ (q : Option (Bor (List ℕ) × Bor (List ℕ))). SplitsAtFirstByte (FindsChar 58) (Some 58) text q) is splits in
    h (omega arith) (λ w o f. f)

-- what an id is read as, by what is read of its parts
pub read_parts : (result : Result DocId DocFault) (text front path : List ℕ) → ((p : Path) → IsPathInRange p → decimal (length p) ≡ front → path_text p ≡ path → Obtains (λ found. found ≡ Node p) result)
    → ((n : ℕ) (p : Path) → n < 2 ^ 64 → IsPathInRange p → codes "p" ++ hexadecimal n ≡ front → path_text p ≡ path → Obtains (λ found. found ≡ Prev n p) result)
    → (id : DocId) → IsIdInRange id → id_text id ≡ text → IsCut text front path → Obtains (λ found. found ≡ id) result
read_parts result text front path node prev (Node p) h is cut = let parts = node_parts p text front path h is cut in node p h parts.0 parts.1
read_parts result text front path node prev (Prev n p) h is cut = let parts = prev_parts n p text front path h.0 is cut in prev n p h.0 h.1 parts.0 parts.1
read_parts result text front path node prev Settings h is cut = absurd (settings_uncut text front path is cut)
