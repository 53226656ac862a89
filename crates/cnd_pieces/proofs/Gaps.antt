-- White space and comments go on behind a byte.
use Rattle.std.proofs.Common.{◌≡◌, ◌∙◌, ℕ, ◌+◌, ◌-◌, ◌≤◌, Bool, true, false, List, [], ◌∷◌, Option, None, Some, if◌then◌else◌, length, get_or, take, drop, ◌==◌, ◌&&◌, ap, refl, sym, arith, subst}
use Rattle.std.specs.Prelude.{IfSome}
use Rattle.std.proofs.lemmas.List.{take_rest, length-drop}
use Rattle.cnd_pieces.specs.Tokens.{gap_after, gap_end, gap_from, is_space, next_is}
use Rattle.cnd_pieces.specs.declared.scan.Gap.{Gap}
use Rattle.cnd_pieces.specs.declared.scan.Gap.TheVariants as gap

-- where they go on behind the byte, they end behind it at most, if the text ends there
abbrev pub IsBegun : ℕ → Option Gap → Type 0
IsBegun at next = IfSome next (λ g. gap_end g (at + 1) ≤ at + 1)

either_begun : (at : ℕ) (test : Bool) (a b : Option Gap) → IsBegun at a → IsBegun at b → IsBegun at (if test then a else b)
either_begun at true a b h g = h
either_begun at false a b h g = g

begun_after : (g : Gap) (at b : ℕ) (bs : List ℕ) → gap_end g at ≤ at → IsBegun at (gap_after g at b bs)
begun_after gap.Space at b bs h =
    either_begun at (b == 47) _ _
    (either_begun at (next_is 47 bs) (Some gap.Line) _ (omega arith) (either_begun at (next_is 42 bs) (Some (gap.Opening at)) None (omega arith) tt))
    (either_begun at (is_space b) (Some gap.Space) None (omega arith) tt)
begun_after gap.Line at b bs h = either_begun at (b == 10) (Some gap.Space) (Some gap.Line) (omega arith) (omega arith)
begun_after (gap.Opening begun) at b bs h = omega arith
begun_after (gap.Block begun) at b bs h = either_begun at (b == 42 && next_is 47 bs) (Some gap.Closing) (Some (gap.Block begun)) (omega arith) (omega arith)
begun_after gap.Closing at b bs h = omega arith

-- a comment that goes on has begun before
pub begun_on : (g next : Gap) (at b : ℕ) (bs : List ℕ) → gap_end g at ≤ at → Some next ≡ gap_after g at b bs → gap_end next (at + 1) ≤ at + 1
begun_on g next at b bs h is = subst (IsBegun at) (sym is) (begun_after g at b bs h)

gap_step : (g next : Gap) (at b : ℕ) (bs : List ℕ) → Some next ≡ gap_after g at b bs → gap_from g at (b ∷ bs) ≡ gap_from next (at + 1) bs
gap_step g next at b bs is = rw (← is, gap_from) refl

-- where they go on behind the first byte, they have as many bytes as from there on
pub gap_on : (g next : Gap) (at : ℕ) (bs : List ℕ) → 1 ≤ length bs → Some next ≡ gap_after g at (get_or bs 0 0) (take (length bs - 1) (drop 1 bs)) → gap_from next (at + 1) (take (length bs - 1) (drop 1 bs)) ≡ gap_from g at bs
gap_on g next at [] some is = absurd (omega arith)
gap_on g next at (b ∷ bs) some is =
    let rest : take (length (b ∷ bs) - 1) (drop 1 (b ∷ bs)) ≡ bs = take_rest (b ∷ bs) 1 in
    ap (gap_from next (at + 1)) rest ∙ sym (gap_step g next at b bs (subst (λ r. Some next ≡ gap_after g at b r) rest is))

-- behind the first byte one is left less
pub left_on : (at size : ℕ) (bs : List ℕ) → 1 ≤ length bs → at + length bs ≡ size → at + 1 + length (take (length bs - 1) (drop 1 bs)) ≡ size
left_on at size bs some left = rw (take_rest bs 1, length-drop 1 bs) (omega arith)
