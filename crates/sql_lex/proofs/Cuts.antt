-- Tokens one behind another, with one more at the end.
use Rattle.std.proofs.Common.{◌≡◌, ℕ, ◌+◌, ◌-◌, ◌<◌, ◌≤◌, true, List, [], ◌∷◌, ◌++◌, length, get_or, take, drop, length-drop, sym, subst, inl, inr, arith}
use Rattle.std.proofs.lemmas.Bool.{cases_lt}
use Rattle.std.proofs.Math.Seq.{take-length}
use Rattle.sql_lex.specs.Tokens.{AreTokens, IsGap, IsToken, is_blank}
use Rattle.sql_lex.specs.declared.token.Token.{Token}

gap_grows : (text : List ℕ) (from to : ℕ) → IsGap text from to → to < length text → is_blank (get_or text to 0) ≡ true → IsGap text from (to + 1)
gap_grows text from to gap lt space = record {
  order = let o = gap.order in omega arith;
  within = omega arith;
  space = λ k low high. elim (cases_lt k to) [
    | inl before ↦ gap.space k low before
    | inr behind ↦ let same : k ≡ to = omega arith in subst (λ n. is_blank (get_or text n 0) ≡ true) (sym same) space
  ];
}

no_gap : (text : List ℕ) (at : ℕ) → at ≤ length text → IsGap text at at
no_gap text at within = record { order = omega arith; within = within; space = λ k low high. absurd (omega arith) }

-- white space behind the tokens
pub more_space : (text : List ℕ) (at : ℕ) (tokens : List Token) (stop : ℕ) → AreTokens text at tokens stop → stop < length text → is_blank (get_or text stop 0) ≡ true → AreTokens text at tokens (stop + 1)
more_space text at [] stop gap lt space = gap_grows text at stop gap lt space
more_space text at (t ∷ ts) stop all lt space = (all.0, all.1, more_space text t.end ts stop all.2 lt space)

-- a token behind the tokens
pub more_token : (text : List ℕ) (at : ℕ) (tokens : List Token) (token : Token) → AreTokens text at tokens token.start → IsToken text token → token.end ≤ length text → AreTokens text at (tokens ++ token ∷ []) token.end
more_token text at [] token gap is within = (gap, is, no_gap text token.end within)
more_token text at (t ∷ ts) token all is within = (all.0, all.1, more_token text t.end ts token all.2 is within)

-- a slice from an offset on is what is left there
pub rest_is : (bs : List ℕ) (at : ℕ) → take (length bs - at) (drop at bs) ≡ drop at bs
rest_is bs at = rw (← length-drop at bs) (take-length (drop at bs))
