-- A text is cut in one way.
use Rattle.std.proofs.Common.{◌≡◌, ℕ, suc, ◌<◌, Bool, true, false, List, [], ◌∷◌, length, get_or, drop, refl, sym, ap, subst, ◌∙◌, ◌⊎◌, inl, inr, arith}
use Rattle.std.specs.Prelude.{◌||◌, ◌==◌, Option, Some, None}
use Rattle.std.proofs.Math.Seq.{drop-cons}
use Rattle.std.proofs.lemmas.Bool.{cases_lt, eqb-true, true≢false}
use Rattle.std.proofs.lemmas.List.{drop_all}
use Rattle.sql_lex.specs.Tokens.{AreTokens, IsGap, IsToken, Stops, longest_token, is_blank}
use Rattle.sql_lex.specs.declared.token.Token.{Token}

either : (a b : Bool) → (a || b) ≡ true → (a ≡ true) ⊎ (b ≡ true)
either true b h = inl refl
either false b h = inr h

same_first : (b c : ℕ) (bs : List ℕ) → (b == c) ≡ true → longest_token (c ∷ bs) ≡ None → longest_token (b ∷ bs) ≡ None
same_first b c bs same none = let e : b ≡ c = eqb-true b c same in subst (λ x. longest_token (x ∷ bs) ≡ None) (sym e) none

-- no token begins with white space
space_begins_none : (b : ℕ) (bs : List ℕ) → is_blank b ≡ true → longest_token (b ∷ bs) ≡ None
space_begins_none b bs h = elim (either (b == 32 || b == 9 || b == 13) (b == 10) h) [
  | inr e ↦ same_first b 10 bs e refl
  | inl h' ↦ elim (either (b == 32 || b == 9) (b == 13) h') [
    | inr e ↦ same_first b 13 bs e refl
    | inl h'' ↦ elim (either (b == 32) (b == 9) h'') [
      | inr e ↦ same_first b 9 bs e refl
      | inl e ↦ same_first b 32 bs e refl
    ]
  ]
]

-- something other than white space stands at the offset, or the text ends there
pub record Ends (text : List ℕ) (at : ℕ) : Type 0 where
  pub no_space : at < length text → is_blank (get_or text at 0) ≡ true → ⊥

none_some : {X : Type 0} (o : Option X) (x : X) → o ≡ None → o ≡ Some x → ⊥
none_some o x h g = let e : None ≡ Some x = sym h ∙ g in cc

token_within : (text : List ℕ) (t : Token) → IsToken text t → t.start < length text
token_within text t is = elim (cases_lt t.start (length text)) [
  | inl within ↦ within
  | inr past ↦ absurd (none_some (longest_token (drop t.start text)) (t.kind, is.size) (ap longest_token (drop_all t.start text past)) is.is)
]

token_ends : (text : List ℕ) (t : Token) → IsToken text t → Ends text t.start
token_ends text t is = record {
  no_space = λ within space.
      let front : drop t.start text ≡ get_or text t.start 0 ∷ drop (suc t.start) text = drop-cons text t.start 0 within in
      none_some (longest_token (drop t.start text)) (t.kind, is.size) (ap longest_token front ∙ space_begins_none (get_or text t.start 0) (drop (suc t.start) text) space) is.is;
}

stop_ends : (text : List ℕ) (stop : ℕ) → Stops text stop → Ends text stop
stop_ends text stop stops = record { no_space = λ within space. true≢false (sym space ∙ (stops within).no_space) }

-- two gaps from one offset that both end before something other than white space end at one place
same_gap : (text : List ℕ) (at a b : ℕ) → IsGap text at a → Ends text a → IsGap text at b → Ends text b → a ≡ b
same_gap text at a b gap ends gap' ends' = elim (cases_lt a b) [
  | inl less ↦ absurd (ends.no_space (let w = gap'.within in omega arith) (gap'.space a gap.order less))
  | inr more ↦ elim (cases_lt b a) [
    | inl less ↦ absurd (ends'.no_space (let w = gap.within in omega arith) (gap.space b gap'.order less))
    | inr same ↦ omega arith
  ]
]

-- where the cut stops no token begins
no_token_there : (text : List ℕ) (stop : ℕ) (t : Token) → Stops text stop → IsToken text t → stop ≡ t.start → ⊥
no_token_there text stop t stops is same =
    let within : stop < length text = rw same (token_within text t is) in
    none_some (longest_token (drop t.start text)) (t.kind, is.size) (ap (λ n. longest_token (drop n text)) (sym same) ∙ (stops within).no_token) is.is

parts_of : {X Y : Type 0} (a b : X) (m n : Y) → ◌≡◌ {A = Option (X × Y)} (Some (a, m)) (Some (b, n)) → (a ≡ b) × (m ≡ n)
parts_of {X} {Y} a b m n e =
    let p : ◌≡◌ {A = X × Y} (a, m) (b, n) = cc in
    (ap (λ (q : X × Y). q.0) p, ap (λ (q : X × Y). q.1) p)

same_token : (t u : Token) → t.kind ≡ u.kind → t.start ≡ u.start → t.end ≡ u.end → t ≡ u
same_token t u k s e = λ i. record { kind = k i; start = s i; end = e i }

pub one_cut : (text : List ℕ) (at : ℕ) (ts us : List Token) (m n : ℕ) → AreTokens text at ts m → Stops text m → AreTokens text at us n → Stops text n → (ts ≡ us) × (m ≡ n)
one_cut text at [] [] m n a stops b stops' = (refl, same_gap text at m n a (stop_ends text m stops) b (stop_ends text n stops'))
one_cut text at [] (u ∷ us) m n a stops b stops' = absurd (no_token_there text m u stops b.1 (same_gap text at m u.start a (stop_ends text m stops) b.0 (token_ends text u b.1)))
one_cut text at (t ∷ ts) [] m n a stops b stops' = absurd (no_token_there text n t stops' a.1 (same_gap text at n t.start b (stop_ends text n stops') a.0 (token_ends text t a.1)))
one_cut text at (t ∷ ts) (u ∷ us) m n a stops b stops' =
    let start : t.start ≡ u.start = same_gap text at t.start u.start a.0 (token_ends text t a.1) b.0 (token_ends text u b.1) in
    let parts = parts_of t.kind u.kind a.1.size b.1.size (sym a.1.is ∙ ap (λ k. longest_token (drop k text)) start ∙ b.1.is) in
    let ends : t.end ≡ u.end = let e = a.1.end_is in let f = b.1.end_is in let s = parts.1 in omega arith in
    let rest = one_cut text u.end ts us m n (subst (λ k. AreTokens text k ts m) ends a.2) stops b.2 stops' in
    (cons _ _ _ _ (same_token t u parts.0 start ends) rest.0, rest.1)
  where
    cons : (x y : Token) (xs ys : List Token) → x ≡ y → xs ≡ ys → x ∷ xs ≡ y ∷ ys
    cons x y xs ys p q = cc
