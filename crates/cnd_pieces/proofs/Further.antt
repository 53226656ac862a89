-- A further token of a text is read.
use Rattle.std.proofs.Common.{◌≡◌, ◌∙◌, ℕ, ◌+◌, ◌-◌, ◌≤◌, Bool, List, [], ◌∷◌, ◌++◌, Option, Some, length, take, drop, ap, refl, sym, subst, append_assoc, arith}
use Rattle.std.specs.Prelude.{MatchOption}
use Rattle.std.proofs.lemmas.List.{take_rest, length-drop}
use Rattle.cnd_pieces.specs.Pieces.{ArePieces, Means, content, context_after, is_behind_less, left_behind, place_behind}
use Rattle.cnd_pieces.specs.Tokens.{first_token, gap_size}
use Rattle.cnd_pieces.specs.declared.context.Context.{Context}
use Rattle.cnd_pieces.specs.declared.piece.Placed.{Placed}
use Rattle.cnd_pieces.specs.declared.piece.Says.{Says}
use Rattle.cnd_pieces.specs.declared.piece.Says.TheVariants as says
use Rattle.cnd_pieces.specs.declared.piece.TokenKind.{TokenKind}

-- what follows a piece, by what the token is
abbrev Follows : Context → ℕ → List ℕ → Says → List Placed → Option (TokenKind × ℕ) → Type 0
Follows c at bs s ps o = MatchOption o
    ((s ≡ says.Nothing) × (ps ≡ []) × (bs ≡ [] → ⊥))
    (λ t. Means c t.0 (content t.0 (take t.1 bs)) s
    × ArePieces (context_after c s) (place_behind at t.1 bs) (left_behind t.1 bs) ps)

-- what is left behind a token of so many bytes, with the white space that was found there
left_same : (size gap : ℕ) (bs more : List ℕ) → more ≡ drop size bs → gap ≡ gap_size more → take (length more - gap) (drop gap more) ≡ left_behind size bs
left_same size gap bs more m g = take_rest more gap ∙ ap (λ n. drop n more) g ∙ ap (λ l. drop (gap_size l) l) m

place_same : (at size gap : ℕ) (bs more : List ℕ) → more ≡ drop size bs → gap ≡ gap_size more → at + (size + gap) ≡ place_behind at size bs
place_same at size gap bs more m g = let e : gap ≡ gap_size (drop size bs) = g ∙ ap gap_size m in omega (arith, e)

-- the first token says this, and what is left behind it these pieces: the text says them all
first_said : (c : Context) (at : ℕ) (bs : List ℕ) (kind : TokenKind) (size : ℕ) (s : Says) (ps : List Placed)
    → first_token (is_behind_less c) bs ≡ Some (kind, size)
    → Means c kind (content kind (take size bs)) s
    → ArePieces (context_after c s) (place_behind at size bs) (left_behind size bs) ps
    → ArePieces c at bs (record { start = at; says = s } ∷ ps)
first_said c at bs kind size s ps token means left = (refl, subst (Follows c at bs s ps) (sym token) (means, left))

-- The pieces of a text go on by the first token of what is left: by the pieces before it, what the token is and what it says,
-- where it stands, what stands behind it, and the white space there.
pub read_on : (P : List Placed → Type 0) (c next : Context) (less : Bool) (at size gap : ℕ) (bs more : List ℕ) (kind : TokenKind) (s : Says) (before now : List Placed)
    → less ≡ is_behind_less c
    → Some (kind, size) ≡ first_token less bs
    → Means c kind (content kind (take size bs)) s
    → next ≡ context_after c s
    → now ≡ before ++ (record { start = at; says = s } ∷ [])
    → more ≡ drop size bs
    → gap ≡ gap_size more
    → ((q : List Placed) → ArePieces c at bs q → P (before ++ q))
    → (q : List Placed) → ArePieces next (at + (size + gap)) (take (length more - gap) (drop gap more)) q → P (now ++ q)
read_on P c next less at size gap bs more kind s before now is_less token means is_next pushed is_more is_gap pieces q left =
    let place = place_same at size gap bs more is_more is_gap in
    let rest = left_same size gap bs more is_more is_gap in
    let told : ArePieces (context_after c s) (place_behind at size bs) (left_behind size bs) q = subst (λ d. ArePieces d (place_behind at size bs) (left_behind size bs) q) is_next (subst (λ n. ArePieces next n (left_behind size bs) q) place (subst (λ l. ArePieces next (at + (size + gap)) l q) rest left)) in
    let all = pieces (record { start = at; says = s } ∷ q) (first_said c at bs kind size s q (sym (ap (λ b. first_token b bs) is_less) ∙ sym token) means told) in
    let same : before ++ (record { start = at; says = s } ∷ q) ≡ now ++ q = sym (append_assoc before (record { start = at; says = s } ∷ []) q) ∙ sym (ap (λ l. l ++ q) pushed) in
    subst P same all

-- as many bytes are left of the text as stand behind them
pub left_on : (at size gap whole : ℕ) (bs more : List ℕ) → at + length bs ≡ whole → size ≤ length bs → more ≡ drop size bs → gap ≤ length more → at + (size + gap) + length (take (length more - gap) (drop gap more)) ≡ whole
left_on at size gap whole bs more left within is_more gap_within =
    rw (take_rest more gap, length-drop gap more) (omega (arith, length-drop size bs, ap length is_more))
