-- What the pieces of a text say can be printed: names are names, texts are in UTF-8, and values are of the kind that stands there.
use Rattle.std.proofs.Common.{◌≡◌, ◌≢◌, ◌∙◌, ℕ, zero, suc, ◌+◌, ◌≤◌, ◌==◌, Bool, true, false, List, [], ◌∷◌, Option, None, Some, ap, arith, refl, subst, sym, take}
use Rattle.std.specs.Prelude.{if◌then◌else◌, IfSome, IsUtf8, MatchOption, option_map}
use Rattle.std.specs.Str.{is_utf8}
use Rattle.std.proofs.lemmas.Bool.{true≢false}
use Rattle.std.proofs.lemmas.Str.{IsUtf8-from_is_utf8, is_utf8-from_IsUtf8}
use Rattle.jr_path.specs.Grammar.{IsName}
use Rattle.jr_path.specs.declared.name.Name.{Name}
use Rattle.jr_value.specs.declared.value.Value.{Value}
use Rattle.cnd_pieces.specs.Pieces.{ArePieces, IsDefault, IsNameOrNone, IsSaid, Means, content, context_after, is_behind_less, left_behind, place_behind}
use Rattle.cnd_print.specs.Printable.{IsPrintableValue}
use Rattle.jr_cnd.specs.Reading.{behind, name_first, cnd_name_in, text_first, text_in}
use Rattle.cnd_pieces.specs.Tokens.{bare_from, begins_bare, first_token, is_bare, quote_from, sign_of}
use Rattle.cnd_pieces.specs.declared.context.Context.{Context}
use Rattle.cnd_pieces.specs.declared.context.Context.TheVariants as context
use Rattle.cnd_pieces.specs.declared.piece.Placed.{Placed}
use Rattle.cnd_pieces.specs.declared.piece.Says.{Says}
use Rattle.cnd_pieces.specs.declared.piece.Says.TheVariants as says
use Rattle.cnd_pieces.specs.declared.piece.Sign.{Sign}
use Rattle.cnd_pieces.specs.declared.piece.TokenKind.{TokenKind}
use Rattle.cnd_pieces.specs.declared.piece.TokenKind.TheVariants as token
use Rattle.cnd_print.proofs.Readable.{printable}

-- a value stands only where a default does, and is of its kind
abbrev pub ProperValue : Context → Option Value → Type 0
ProperValue c None = Unit {0}
ProperValue (context.Default k) (Some v) = IsPrintableValue k v
ProperValue c (Some v) = ⊥

abbrev pub ProperSays : Context → Says → Type 0
ProperSays c (says.Name n) = IsName n
ProperSays c (says.Bare t) = t ≢ []
ProperSays c (says.Quoted t n v) = IsUtf8 t × IfSome n IsName × ProperValue c v
ProperSays c u = Unit {0}

abbrev pub Proper : Context → List Placed → Type 0
Proper c [] = Unit {0}
Proper c (p ∷ ps) = ProperSays c p.says × Proper (context_after c p.says) ps

-- ---- a token

name_from : (t : List ℕ) (n : Option Name) → IsNameOrNone t n → IfSome n IsName
name_from t None h = tt
name_from t (Some m) h = subst IsName (sym h.1) h.0

value_from : (c : Context) (t : List ℕ) (v : Option Value) → IsUtf8 t → IsDefault c t v → ProperValue c v
value_from c t None utf8 h = tt
value_from (context.Default k) t (Some v) utf8 h = printable k t v utf8 h
value_from c t (Some v) utf8 h = let e : ◌≡◌ {A = Option Value} (Some v) None = h in cc

says_proper : (c : Context) (k : TokenKind) (t : List ℕ) (s : Says) → (k ≡ token.Bare → t ≢ []) → IsUtf8 t → IsSaid c k t s → ProperSays c s
says_proper c token.Bare t (says.Name n) some utf8 h = subst IsName (sym h.1) h.0
says_proper c token.Bare t (says.Bare x) some utf8 h = λ e. some refl (sym h.1 ∙ e)
says_proper c token.Quoted t (says.Quoted x n v) some utf8 h = (subst IsUtf8 (sym h.0) utf8, name_from t n h.1, value_from c t v utf8 h.2)
says_proper c (token.Sign a) t (says.Sign b) some utf8 h = tt
says_proper c k t s some utf8 h = absurd h

means_proper_by : (b : Bool) (c : Context) (k : TokenKind) (t : List ℕ) (s : Says) → is_utf8 t ≡ b → (k ≡ token.Bare → t ≢ []) → Means c k t s → ProperSays c s
means_proper_by true c k t s is some h = let utf8 = IsUtf8-from_is_utf8 t is in says_proper c k t s some utf8 (h.said utf8)
means_proper_by false c k t s is some h = subst (ProperSays c) (sym (h.no_text (λ utf8. true≢false (sym (is_utf8-from_IsUtf8 t utf8) ∙ is)))) tt

-- ---- a bare token isn't empty

bare_by : (x : Bool) (b at : ℕ) (bs : List ℕ) → ((at' : ℕ) → at' ≤ bare_from at' bs) → is_bare b ≡ x → at ≤ (if x then bare_from (at + 1) bs else at)
bare_by true b at bs more e = let h : at + 1 ≤ bare_from (at + 1) bs = more (at + 1) in omega arith
bare_by false b at bs more e = omega arith

bare_least : (bs : List ℕ) (at : ℕ) → at ≤ bare_from at bs
bare_least [] at = omega arith
bare_least (b ∷ bs) at = bare_by (is_bare b) b at bs (bare_least bs) refl

take_some : (n b : ℕ) (bs : List ℕ) → 1 ≤ n → take n (b ∷ bs) ≢ []
take_some zero b bs h = absurd (omega (arith, h))
take_some (suc n) b bs h = λ e. cc

abbrev kind_or : Option (TokenKind × ℕ) → TokenKind
kind_or None = token.Bare
kind_or (Some t) = t.0

abbrev size_or : Option (TokenKind × ℕ) → ℕ
size_or None = 0
size_or (Some t) = t.1

no_quote : (o : Option ℕ) (n : ℕ) → ◌≡◌ {A = Option (TokenKind × ℕ)} (option_map (λ m. (token.Quoted, m)) o) (Some (token.Bare, n)) → ⊥
no_quote None n e = cc
no_quote (Some m) n e = let k : token.Quoted ≡ token.Bare = ap kind_or e in cc

no_sign : (o : Option Sign) (n : ℕ) → ◌≡◌ {A = Option (TokenKind × ℕ)} (option_map (λ s. (token.Sign s, 1)) o) (Some (token.Bare, n)) → ⊥
no_sign None n e = cc
no_sign (Some m) n e = let k : token.Sign m ≡ token.Bare = ap kind_or e in cc

bare_some_by : (x y : Bool) (b n : ℕ) (bs : List ℕ) → ◌≡◌ {A = Option (TokenKind × ℕ)} (if x then Some (token.Bare, bare_from 1 bs) else (if y then option_map (λ m. (token.Quoted, m)) (quote_from false 1 bs) else option_map (λ s. (token.Sign s, 1)) (sign_of b))) (Some (token.Bare, n)) → take n (b ∷ bs) ≢ []
bare_some_by true y b n bs e =
    let size : bare_from 1 bs ≡ n = ap size_or e in
    take_some n b bs (subst (λ m. 1 ≤ m) size (bare_least bs 1))
bare_some_by false true b n bs e = absurd (no_quote (quote_from false 1 bs) n e)
bare_some_by false false b n bs e = absurd (no_sign (sign_of b) n e)

bare_some : (less : Bool) (n : ℕ) (bs : List ℕ) → first_token less bs ≡ Some (token.Bare, n) → take n bs ≢ []
bare_some less n [] e = cc
bare_some less n (b ∷ bs) e = bare_some_by (begins_bare less b) (b == 39) b n bs e

token_some : (less : Bool) (t : TokenKind × ℕ) (bs : List ℕ) → first_token less bs ≡ Some t → t.0 ≡ token.Bare → content t.0 (take t.1 bs) ≢ []
token_some less t bs e bare =
    let found : first_token less bs ≡ Some (token.Bare, t.1) = e ∙ ap (λ k. Some (k, t.1)) bare in
    subst (λ k. content k (take t.1 bs) ≢ []) (sym bare) (bare_some less t.1 bs found)

-- ---- all pieces

piece_by : (o : Option (TokenKind × ℕ)) (c : Context) (at : ℕ) (bs : List ℕ) (p : Placed) (ps : List Placed) → ((d : Context) (at' : ℕ) (bs' : List ℕ) → ArePieces d at' bs' ps → Proper d ps) → first_token (is_behind_less c) bs ≡ o → MatchOption o ((p.says ≡ says.Nothing) × (ps ≡ []) × (bs ≡ [] → ⊥)) (λ t. Means c t.0 (content t.0 (take t.1 bs)) p.says × ArePieces (context_after c p.says) (place_behind at t.1 bs) (left_behind t.1 bs) ps) → ProperSays c p.says × Proper (context_after c p.says) ps
piece_by None c at bs p ps more e h = (subst (ProperSays c) (sym h.0) tt, subst (Proper (context_after c p.says)) (sym h.1) tt)
piece_by (Some t) c at bs p ps more e h = (
  means_proper_by (is_utf8 (content t.0 (take t.1 bs))) c t.0 (content t.0 (take t.1 bs)) p.says refl (token_some (is_behind_less c) t bs e) h.0,
  more (context_after c p.says) (place_behind at t.1 bs) (left_behind t.1 bs) h.1,
)

pub proper_pieces : (ps : List Placed) (c : Context) (at : ℕ) (bs : List ℕ) → ArePieces c at bs ps → Proper c ps
proper_pieces [] c at bs h = tt
proper_pieces (p ∷ ps) c at bs h = piece_by (first_token (is_behind_less c) bs) c at bs p ps (proper_pieces ps) refl h.1

-- ---- the next token

-- the pieces are proper, in whatever context
abbrev pub SomeProper : List Placed → Type 0
SomeProper ps = (c : Context) × Proper c ps

pub proper_behind : (ps : List Placed) → SomeProper ps → SomeProper (behind ps)
proper_behind [] h = h
proper_behind (p ∷ ps) h = (context_after h.0 p.says, h.1.1)

name_said : (u : Says) (c : Context) (n : Name) → ProperSays c u → cnd_name_in u ≡ Some n → IsName n
name_said (says.Name m) c n h e = let same : m ≡ n = cc in subst IsName same h
name_said (says.Quoted t None v) c n h e = cc
name_said (says.Quoted t (Some m) v) c n h e = let same : m ≡ n = cc in subst IsName same h.1
name_said u c n h e = cc

pub name_proper : (ps : List Placed) (n : Name) → SomeProper ps → name_first ps ≡ Some n → IsName n
name_proper [] n h e = cc
name_proper (p ∷ ps) n h e = name_said p.says h.0 n h.1.0 e

text_said : (u : Says) (c : Context) (t : List ℕ) → ProperSays c u → text_in u ≡ Some t → IsUtf8 t
text_said (says.Quoted x n v) c t h e = let same : x ≡ t = cc in subst IsUtf8 same h.0
text_said u c t h e = cc

pub text_proper : (ps : List Placed) (t : List ℕ) → SomeProper ps → text_first ps ≡ Some t → IsUtf8 t
text_proper [] t h e = cc
text_proper (p ∷ ps) t h e = text_said p.says h.0 t h.1.0 e
