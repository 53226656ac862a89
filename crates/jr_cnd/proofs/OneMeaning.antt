-- A text has one meaning at most.
use Rattle.std.proofs.Common.{◌≡◌, ◌∙◌, ℕ, Bool, true, false, List, [], ◌∷◌, Option, None, Some, Ok, Result, ap, drop, length, refl, subst, sym, take}
use Rattle.std.specs.Prelude.{MatchOption, IsUtf8}
use Rattle.std.specs.Str.{is_utf8}
use Rattle.std.proofs.lemmas.Bool.{true≢false}
use Rattle.std.proofs.lemmas.Str.{IsUtf8-from_is_utf8, is_utf8-from_IsUtf8}
use Rattle.jr_path.specs.declared.name.Name.{Name}
use Rattle.jr_value.specs.declared.value.Kind.{Kind}
use Rattle.jr_value.specs.declared.value.Value.{Value}
use Rattle.jr_value.specs.Texts.{IsText}
use Rattle.jr_value.proofs.Texts.{found_one, text_one}
use Rattle.jr_cnd.specs.Meaning.{IsMeaning, meaning}
use Rattle.cnd_pieces.specs.Pieces.{ArePieces, IsDefault, IsNameOrNone, IsSaid, Means, content, context_after, is_behind_less, left_behind, place_behind}
use Rattle.cnd_pieces.specs.Tokens.{first_token, gap_size}
use Rattle.jr_cnd.specs.declared.cnd.Cnd.{Cnd}
use Rattle.cnd_pieces.specs.declared.context.Context.{Context}
use Rattle.cnd_pieces.specs.declared.context.Context.TheVariants as context
use Rattle.jr_cnd.specs.declared.fault.NoCnd.{NoCnd}
use Rattle.cnd_pieces.specs.declared.piece.Placed.{Placed}
use Rattle.cnd_pieces.specs.declared.piece.Says.{Says}
use Rattle.cnd_pieces.specs.declared.piece.Says.TheVariants as says
use Rattle.cnd_pieces.specs.declared.piece.TokenKind.{TokenKind}
use Rattle.cnd_pieces.specs.declared.piece.TokenKind.TheVariants as token

default_one : (c : Context) (t : List ℕ) (a b : Option Value) → IsDefault c t a → IsDefault c t b → a ≡ b
default_one (context.Default k) t a b h g = found_one (IsText k t) (text_one k t) a b h g
default_one context.Elsewhere t a b h g = h ∙ sym g
default_one context.BehindLess t a b h g = h ∙ sym g
default_one context.Opened t a b h g = h ∙ sym g
default_one (context.Named k) t a b h g = h ∙ sym g
default_one (context.Closed k) t a b h g = h ∙ sym g
default_one (context.Listed k) t a b h g = h ∙ sym g

name_one : (t : List ℕ) (a b : Option Name) → IsNameOrNone t a → IsNameOrNone t b → a ≡ b
name_one t None None h g = refl
name_one t None (Some n) h g = absurd (h g.0)
name_one t (Some n) None h g = absurd (g h.0)
name_one t (Some n) (Some m) h g = ap Some (h.1 ∙ sym g.1)

quoted_same : (t u : List ℕ) (n m : Option Name) (v w : Option Value) → t ≡ u → n ≡ m → v ≡ w → says.Quoted t n v ≡ says.Quoted u m w
quoted_same t u n m v w p q r = λ i. says.Quoted (p i) (q i) (r i)

said_one : (c : Context) (k : TokenKind) (t : List ℕ) (s u : Says) → IsSaid c k t s → IsSaid c k t u → s ≡ u
said_one c token.Bare t (says.Name n) (says.Name m) h g = ap says.Name (h.1 ∙ sym g.1)
said_one c token.Bare t (says.Name n) (says.Bare m) h g = absurd (g.0 h.0)
said_one c token.Bare t (says.Bare n) (says.Name m) h g = absurd (h.0 g.0)
said_one c token.Bare t (says.Bare n) (says.Bare m) h g = ap says.Bare (h.1 ∙ sym g.1)
said_one c token.Bare t (says.Name n) u h g = absurd g
said_one c token.Bare t (says.Bare n) u h g = absurd g
said_one c token.Bare t s u h g = absurd h
said_one c token.Quoted t (says.Quoted a n v) (says.Quoted b m w) h g =
    quoted_same a b n m v w (h.0 ∙ sym g.0) (name_one t n m h.1 g.1) (default_one c t v w h.2 g.2)
said_one c token.Quoted t (says.Quoted a n v) u h g = absurd g
said_one c token.Quoted t s u h g = absurd h
said_one c (token.Sign a) t (says.Sign x) (says.Sign y) h g = ap says.Sign (h ∙ sym g)
said_one c (token.Sign a) t (says.Sign x) u h g = absurd g
said_one c (token.Sign a) t s u h g = absurd h

means_by : (b : Bool) (c : Context) (k : TokenKind) (t : List ℕ) (s u : Says) → is_utf8 t ≡ b → Means c k t s → Means c k t u → s ≡ u
means_by true c k t s u is h g = let text = IsUtf8-from_is_utf8 t is in said_one c k t s u (h.said text) (g.said text)
means_by false c k t s u is h g =
    let none = λ (text : IsUtf8 t). true≢false (sym (is_utf8-from_IsUtf8 t text) ∙ is) in
    h.no_text none ∙ sym (g.no_text none)

placed_same : (p q : Placed) → p.start ≡ q.start → p.says ≡ q.says → p ≡ q
placed_same p q a b = λ i. record { start = a i; says = b i }

cons_same : (p q : Placed) (ps qs : List Placed) → p ≡ q → ps ≡ qs → p ∷ ps ≡ q ∷ qs
cons_same p q ps qs a b = cc

-- what follows a piece, by what the token is
abbrev Follows : Context → ℕ → List ℕ → Placed → List Placed → Option (TokenKind × ℕ) → Type 0
Follows c at bs p ps o = MatchOption o
    ((p.says ≡ says.Nothing) × (ps ≡ []) × (bs ≡ [] → ⊥))
    (λ t. Means c t.0 (content t.0 (take t.1 bs)) p.says
    × ArePieces (context_after c p.says) (place_behind at t.1 bs) (left_behind t.1 bs) ps)

no_token : (c : Context) (at : ℕ) (p : Placed) (ps : List Placed) → Follows c at [] p ps (first_token (is_behind_less c) []) → ⊥
no_token c at p ps h = h.2 refl

follows_one : (p q : Placed) (ps qs : List Placed) (c : Context) (at : ℕ) (bs : List ℕ) (o : Option (TokenKind × ℕ)) → ((d : Context) (at' : ℕ) (bs' : List ℕ) → ArePieces d at' bs' ps → ArePieces d at' bs' qs → ps ≡ qs) → Follows c at bs p ps o → Follows c at bs q qs o → (p.says ≡ q.says) × (ps ≡ qs)
follows_one p q ps qs c at bs None more h g = (h.0 ∙ sym g.0, h.1 ∙ sym g.1)
follows_one p q ps qs c at bs (Some t) more h g =
    let bytes = content t.0 (take t.1 bs) in
    let same : p.says ≡ q.says = means_by (is_utf8 bytes) c t.0 bytes p.says q.says refl h.0 g.0 in
    (same, more (context_after c q.says) (place_behind at t.1 bs) (left_behind t.1 bs) (subst (λ s. ArePieces (context_after c s) (place_behind at t.1 bs) (left_behind t.1 bs) ps) same h.1) g.1)

pieces_one : (ps qs : List Placed) (c : Context) (at : ℕ) (bs : List ℕ) → ArePieces c at bs ps → ArePieces c at bs qs → ps ≡ qs
pieces_one [] [] c at bs h g = refl
pieces_one [] (q ∷ qs) c at bs h g = absurd (no_token c at q qs (subst (λ b. Follows c at b q qs (first_token (is_behind_less c) b)) h g.1))
pieces_one (p ∷ ps) [] c at bs h g = absurd (no_token c at p ps (subst (λ b. Follows c at b p ps (first_token (is_behind_less c) b)) g h.1))
pieces_one (p ∷ ps) (q ∷ qs) c at bs h g =
    let both = follows_one p q ps qs c at bs (first_token (is_behind_less c) bs) (pieces_one ps qs) h.1 g.1 in
    cons_same p q ps qs (placed_same p q (h.0 ∙ sym g.0) both.0) both.1

pub one_meaning : (text : List ℕ) (a b : Result Cnd NoCnd) → IsMeaning text a → IsMeaning text b → a ≡ b
one_meaning text a b h g =
    sym h.2 ∙ ap (λ ps. meaning ps (length text)) (pieces_one h.0 g.0 context.Elsewhere (gap_size text) (drop (gap_size text) text) h.1 g.1) ∙ g.2

pub ok_same : (a b : Cnd) → ◌≡◌ {A = Result Cnd NoCnd} (Ok a) (Ok b) → a ≡ b
ok_same a b e = cc
