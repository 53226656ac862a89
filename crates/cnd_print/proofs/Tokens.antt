-- What is printed of a text or of a name is one token, that says it.
use Rattle.std.proofs.Common.{◌≡◌, ◌≢◌, ◌∙◌, ℕ, ◌+◌, ◌-◌, ◌==◌, Bool, true, false, List, [], ◌∷◌, ◌++◌, Some, ap, append_assoc, arith, eqb-true, length, length-append, refl, subst, sym, take}
use Rattle.std.specs.Prelude.{not, option_map, ◌&&◌}
use Rattle.std.proofs.Math.Seq.{take-append_seam}
use Rattle.std.proofs.lemmas.Bool.{true≢false}
use Rattle.std.specs.List.{flat_map, list_all}
use Rattle.cnd_pieces.specs.Pieces.{content, inner, unescaped}
use Rattle.cnd_print.specs.Printing.{escaped, is_bare_name, quoted}
use Rattle.cnd_pieces.specs.Tokens.{goes_on_bare, bare_from, begins_bare, first_token, is_bare, quote_from}
use Rattle.cnd_pieces.specs.declared.piece.TokenKind.TheVariants as token

-- ---- texts

plain_escaped : (b : ℕ) → (b == 39) ≡ false → (b == 92) ≡ false → escaped b ≡ b ∷ []
plain_escaped b p q = rw (p, q) refl

past_by : (b : ℕ) (x y : Bool) → (b == 39) ≡ x → (b == 92) ≡ y → (at : ℕ) (bs : List ℕ) → quote_from false at (escaped b ++ bs) ≡ quote_from false (at + length (escaped b)) bs
past_by b true y p q at bs = subst (λ d. quote_from false at (escaped d ++ bs) ≡ quote_from false (at + length (escaped d)) bs) (sym (eqb-true b 39 p)) (ap (λ n. quote_from false n bs) (omega arith))
past_by b false true p q at bs = subst (λ d. quote_from false at (escaped d ++ bs) ≡ quote_from false (at + length (escaped d)) bs) (sym (eqb-true b 92 q)) (ap (λ n. quote_from false n bs) (omega arith))
past_by b false false p q at bs = rw (plain_escaped b p q, p, q) refl

past : (b at : ℕ) (bs : List ℕ) → quote_from false at (escaped b ++ bs) ≡ quote_from false (at + length (escaped b)) bs
past b at bs = past_by b (b == 39) (b == 92) refl refl at bs

-- the text ends with the quote behind what is escaped
closed : (t rest : List ℕ) (at : ℕ) → quote_from false at (flat_map escaped t ++ 39 ∷ rest) ≡ Some (at + length (flat_map escaped t) + 1)
closed [] rest at = ap Some (omega arith)
closed (b ∷ t) rest at =
    ap (quote_from false at) (append_assoc (escaped b) (flat_map escaped t) (39 ∷ rest))
    ∙ past b at (flat_map escaped t ++ 39 ∷ rest)
    ∙ closed t rest (at + length (escaped b))
    ∙ ap Some (omega (arith, length-append (escaped b) (flat_map escaped t)))

unescape_by : (b : ℕ) (x y : Bool) → (b == 39) ≡ x → (b == 92) ≡ y → (bs : List ℕ) → unescaped false (escaped b ++ bs) ≡ b ∷ unescaped false bs
unescape_by b true y p q bs = subst (λ d. unescaped false (escaped d ++ bs) ≡ d ∷ unescaped false bs) (sym (eqb-true b 39 p)) refl
unescape_by b false true p q bs = subst (λ d. unescaped false (escaped d ++ bs) ≡ d ∷ unescaped false bs) (sym (eqb-true b 92 q)) refl
unescape_by b false false p q bs = rw (plain_escaped b p q, q) refl

unescape : (t : List ℕ) → unescaped false (flat_map escaped t) ≡ t
unescape [] = refl
unescape (b ∷ t) = unescape_by b (b == 39) (b == 92) refl refl (flat_map escaped t) ∙ ap (λ (u : List ℕ). b ∷ u) (unescape t)

-- behind the opening quote and before the closing one
inside : (bs : List ℕ) → inner (39 ∷ (bs ++ 39 ∷ [])) ≡ bs
inside bs =
    let size : length (39 ∷ (bs ++ 39 ∷ [])) - 2 ≡ length bs = omega (arith, length-append bs (39 ∷ [])) in
    ap (λ n. take n (bs ++ 39 ∷ [])) size ∙ take-append_seam bs (39 ∷ [])

pub text_token : (behind_less : Bool) (t rest : List ℕ) → first_token behind_less (quoted t ++ rest) ≡ Some (token.Quoted, length (quoted t))
text_token behind_less t rest =
    let E = flat_map escaped t in
    let size : 1 + length E + 1 ≡ length (quoted t) = omega (arith, length-append E (39 ∷ [])) in
    let ends : quote_from false 1 ((E ++ 39 ∷ []) ++ rest) ≡ Some (length (quoted t)) =
    ap (quote_from false 1) (append_assoc E (39 ∷ []) rest) ∙ closed t rest 1 ∙ ap Some size in
    ap (option_map (λ n. (token.Quoted, n))) ends

pub text_written : (t : List ℕ) → content token.Quoted (quoted t) ≡ t
text_written t = ap (unescaped false) (inside (flat_map escaped t)) ∙ unescape t

-- ---- names

both : (a b : Bool) → (a && b) ≡ true → (a ≡ true) × (b ≡ true)
both true b h = (refl, h)
both false b h = absurd (true≢false (sym h))

all_bare : (n rest : List ℕ) (at : ℕ) → list_all is_bare n ≡ true → goes_on_bare rest ≡ false → bare_from at (n ++ rest) ≡ at + length n
all_bare [] [] at h stop = omega arith
all_bare [] (b ∷ rest) at h stop = rw stop (omega arith)
all_bare (c ∷ n) rest at h stop =
    let parts = both (is_bare c) (list_all is_bare n) h in
    rw parts.0 (all_bare n rest (at + 1) parts.1 stop ∙ omega arith)

begins : (behind_less : Bool) (b : ℕ) → is_bare b ≡ true → not (b == 45) ≡ true → begins_bare behind_less b ≡ true
begins true b h g = rw h refl
begins false b h g = rw (h, g) refl

pub name_token : (behind_less : Bool) (n rest : List ℕ) → is_bare_name n ≡ true → goes_on_bare rest ≡ false → first_token behind_less (n ++ rest) ≡ Some (token.Bare, length n)
name_token behind_less [] rest h stop = absurd (true≢false (sym h))
name_token behind_less (b ∷ n) rest h stop =
    let parts = both (not (b == 45)) (list_all is_bare (b ∷ n)) h in
    let bare = both (is_bare b) (list_all is_bare n) parts.1 in
    rw (begins behind_less b bare.0 parts.0) (ap (λ k. Some (token.Bare, k)) (all_bare n rest 1 bare.1 stop ∙ omega arith))

-- ---- prefixes, behind `<`

begins_behind : (b : ℕ) → is_bare b ≡ true → begins_bare true b ≡ true
begins_behind b h = rw h refl

pub prefix_token : (n rest : List ℕ) → n ≢ [] → list_all is_bare n ≡ true → goes_on_bare rest ≡ false → first_token true (n ++ rest) ≡ Some (token.Bare, length n)
prefix_token [] rest some h stop = absurd (some refl)
prefix_token (b ∷ n) rest some h stop =
    let bare = both (is_bare b) (list_all is_bare n) h in
    rw (begins_behind b bare.0) (ap (λ k. Some (token.Bare, k)) (all_bare n rest 1 bare.1 stop ∙ omega arith))
