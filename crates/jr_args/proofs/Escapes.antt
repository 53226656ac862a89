-- The escapes of JSON Pointers, by bytes and by characters.
use Rattle.std.proofs.Common.{◌≡◌, ◌∙◌, ℕ, suc, ◌<◌, ◌==◌, Bool, true, false, List, [], ◌∷◌, ◌++◌, append_assoc, append-nil, ap, arith, eq-eqb, eqb-true, get_or, length, ne_eqb, refl, sym, subst}
use Rattle.std.proofs.lemmas.Bool.{true≢false}
use Rattle.std.specs.Char.{encode_utf8}
use Rattle.std.specs.List.{flat_map}
use Rattle.std.proofs.lemmas.Grind.{flat_map-append}
use Rattle.std.proofs.lemmas.Str.{encode_ascii, inside_one}
use Rattle.jr_args.specs.Pointers.{escaped_pointer, pointer_character}

plain_byte : (b : ℕ) (x y : Bool) → (b == 126) ≡ x → (b == 47) ≡ y → x ≡ false → y ≡ false → escaped_pointer b ≡ b ∷ []
plain_byte b x y p q r s = rw (p, r, q, s) refl

plain_bytes : (bs : List ℕ) → ((k : ℕ) → k < length bs → ((get_or bs k 0 == 126) ≡ false) × ((get_or bs k 0 == 47) ≡ false)) → flat_map escaped_pointer bs ≡ bs
plain_bytes [] h = refl
plain_bytes (b ∷ bs) h =
    let here = h 0 (omega arith) in
    let rest = plain_bytes bs (λ k lt. h (suc k) (omega (arith, lt))) in
    ap (λ (t : List ℕ). t ++ flat_map escaped_pointer bs) (plain_byte b _ _ refl refl here.0 here.1) ∙ ap (λ (t : List ℕ). b ∷ t) rest

-- a byte below 128 in a character's encoding is the character
no_byte : (c n k : ℕ) → n < 128 → (c == n) ≡ false → k < length (encode_utf8 c) → (get_or (encode_utf8 c) k 0 == n) ≡ false
no_byte c n k low other lt = ne_eqb _ _ (λ e.
    let is : c ≡ get_or (encode_utf8 c) k 0 = inside_one c [] (encode_utf8 c) k (sym (append-nil (encode_utf8 c))) lt (omega (arith, e, low)) in
    true≢false (sym (eq-eqb c n (is ∙ e)) ∙ other))

character_by : (c : ℕ) (x y : Bool) → (c == 126) ≡ x → (c == 47) ≡ y → pointer_character c ≡ flat_map escaped_pointer (encode_utf8 c)
character_by c true y p q = subst (λ d. pointer_character d ≡ flat_map escaped_pointer (encode_utf8 d)) (sym (eqb-true c 126 p)) (rw (encode_ascii 126 (omega arith)) refl)
character_by c false true p q = subst (λ d. pointer_character d ≡ flat_map escaped_pointer (encode_utf8 d)) (sym (eqb-true c 47 q)) (rw (encode_ascii 47 (omega arith)) refl)
character_by c false false p q =
    rw (p, q) (sym (plain_bytes (encode_utf8 c) (λ k lt. (no_byte c 126 k (omega arith) p lt, no_byte c 47 k (omega arith) q lt))))

character : (c : ℕ) → pointer_character c ≡ flat_map escaped_pointer (encode_utf8 c)
character c = character_by c (c == 126) (c == 47) refl refl

pub character_put : (text now start key : List ℕ) (all left : List ℕ) (c : ℕ) → text ++ flat_map escaped_pointer all ≡ start ++ flat_map escaped_pointer key → all ≡ encode_utf8 c ++ left → now ≡ text ++ pointer_character c → now ++ flat_map escaped_pointer left ≡ start ++ flat_map escaped_pointer key
character_put text now start key all left c so at put =
    rw (put, character c, append_assoc text (flat_map escaped_pointer (encode_utf8 c)) (flat_map escaped_pointer left), ← flat_map-append escaped_pointer (encode_utf8 c) left, ← at) so

pub key_put : (text start key all : List ℕ) → text ++ flat_map escaped_pointer all ≡ start ++ flat_map escaped_pointer key → length all ≡ 0 → text ≡ start ++ flat_map escaped_pointer key
key_put text start key [] so none = sym (append-nil text) ∙ so
key_put text start key (b ∷ all) so none = absurd (omega (arith, none))
