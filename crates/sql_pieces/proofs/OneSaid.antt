-- What a text says is one: each token says one thing.
use Rattle.std.proofs.Common.{◌≡◌, ℕ, Bool, true, false, List, [], ◌∷◌, ◌++◌, Option, None, Some, refl, sym, ap, subst, ◌∙◌}
use Rattle.std.specs.Prelude.{IsUtf8}
use Rattle.std.specs.Str.{is_utf8}
use Rattle.std.proofs.lemmas.Bool.{false≢true}
use Rattle.std.proofs.lemmas.Str.{IsUtf8-from_is_utf8, is_utf8-from_IsUtf8}
use Rattle.jr_value.specs.declared.value.Kind.{Kind}
use Rattle.jr_value.specs.declared.value.Value.{Value}
use Rattle.jr_value.specs.Texts.{IsPathWithin, IsText}
use Rattle.jr_value.proofs.Texts.{both_some, found_one, path_one, text_one}
use Rattle.sql_lex.specs.declared.token.Token.{Token}
use Rattle.sql_lex.specs.declared.token.TokenKind.{TokenKind}
use Rattle.sql_lex.specs.declared.token.TokenKind.TheVariants as token
use Rattle.sql_lex.proofs.OneCut.{one_cut}
use Rattle.sql_pieces.specs.Leaves.{sign_named, value_named}
use Rattle.sql_pieces.specs.Pieces.{AreSqlPieces, IsCast, IsPathOrNone, IsPiece, IsReadAsSql, IsSaidInSql, MeansInSql, cast_kind, token_content, rest_pieces, token_bytes}
use Rattle.sql_pieces.specs.declared.piece.Placed.{Placed}
use Rattle.sql_pieces.specs.declared.piece.Says.{Says}
use Rattle.sql_pieces.specs.declared.piece.Says.TheVariants as says

some_both : {X : Type 0} (x y : X) (o : Option X) → o ≡ Some x → o ≡ Some y → x ≡ y
some_both x y o h g = both_some x y o (sym h) (sym g)

some_none : {X : Type 0} {A : Type 0} (x : X) (o : Option X) → o ≡ Some x → o ≡ None → A
some_none x o h g = let e : Some x ≡ None = sym h ∙ g in cc

cast_one : (k : Option Kind) (t : List ℕ) (o p : Option Value) → IsCast k t o → IsCast k t p → o ≡ p
cast_one None t o p h g = h ∙ sym g
cast_one (Some k) t o p h g = found_one (IsText k t) (text_one k t) o p h g

path_within_one : (t : List ℕ) (p q : List (List ℕ)) → IsPathWithin t p → IsPathWithin t q → p ≡ q
path_within_one t p q h g = path_one t p q h.0 g.0

path_or_none_one : (t : List ℕ) (o p : Option (List (List ℕ))) → IsPathOrNone t o → IsPathOrNone t p → o ≡ p
path_or_none_one t None None h g = refl
path_or_none_one t None (Some q) h g = absurd (h q g)
path_or_none_one t (Some p) None h g = absurd (g p h)
path_or_none_one t (Some p) (Some q) h g = ap Some (path_within_one t p q h g)

-- what is written in a token of a kind says one thing
said_one : (vars : List (List ℕ × Value)) (cast : Option Kind) (k : TokenKind) (t : List ℕ) (a b : Says) → IsSaidInSql vars cast k t a → IsSaidInSql vars cast k t b → a ≡ b
said_one vars cast token.Word t (says.Word m) (says.Word n) h g = ap says.Word (h.1 ∙ sym g.1)
said_one vars cast token.Word t (says.Word m) says.Nothing h g = absurd (g h.0)
said_one vars cast token.Word t says.Nothing (says.Word n) h g = absurd (h g.0)
said_one vars cast token.Word t says.Nothing says.Nothing h g = refl
said_one vars cast token.Word t (says.Word m) b h g = absurd g
said_one vars cast token.Word t says.Nothing b h g = absurd g
said_one vars cast token.Bracketed t (says.Bracketed m) (says.Bracketed n) h g = ap says.Bracketed (h.1 ∙ sym g.1)
said_one vars cast token.Bracketed t (says.Bracketed m) (says.Path q) h g = absurd (g.0 h.0)
said_one vars cast token.Bracketed t (says.Bracketed m) says.Nothing h g = absurd (g.0 h.0)
said_one vars cast token.Bracketed t (says.Bracketed m) b h g = absurd g
said_one vars cast token.Bracketed t (says.Path p) (says.Bracketed n) h g = absurd (h.0 g.0)
said_one vars cast token.Bracketed t (says.Path p) (says.Path q) h g = ap says.Path (path_within_one t p q h.1 g.1)
said_one vars cast token.Bracketed t (says.Path p) says.Nothing h g = absurd (g.1 p h.1)
said_one vars cast token.Bracketed t (says.Path p) b h g = absurd g
said_one vars cast token.Bracketed t says.Nothing (says.Bracketed n) h g = absurd (h.0 g.0)
said_one vars cast token.Bracketed t says.Nothing (says.Path q) h g = absurd (h.1 q g.1)
said_one vars cast token.Bracketed t says.Nothing says.Nothing h g = refl
said_one vars cast token.Bracketed t says.Nothing b h g = absurd g
said_one vars cast token.Text t (says.Text m p v) (says.Text n q w) h g =
    λ i. says.Text ((h.0 ∙ sym g.0) i) (path_or_none_one t p q h.1 g.1 i) (cast_one cast t v w h.2 g.2 i)
said_one vars cast token.Text t (says.Text m p v) b h g = absurd g
said_one vars cast token.Number t (says.Number m) (says.Number n) h g = ap says.Number (h.is ∙ sym g.is)
said_one vars cast token.Number t (says.Number m) says.Nothing h g = absurd (g m h)
said_one vars cast token.Number t says.Nothing (says.Number n) h g = absurd (h n g)
said_one vars cast token.Number t says.Nothing says.Nothing h g = refl
said_one vars cast token.Number t (says.Number m) b h g = absurd g
said_one vars cast token.Number t says.Nothing b h g = absurd g
said_one vars cast token.Variable t (says.Variable v) (says.Variable w) h g = ap says.Variable (some_both v w (value_named vars t) h g)
said_one vars cast token.Variable t (says.Variable v) says.Nothing h g = some_none v (value_named vars t) h g
said_one vars cast token.Variable t says.Nothing (says.Variable w) h g = some_none w (value_named vars t) g h
said_one vars cast token.Variable t says.Nothing says.Nothing h g = refl
said_one vars cast token.Variable t (says.Variable v) b h g = absurd g
said_one vars cast token.Variable t says.Nothing b h g = absurd g
said_one vars cast token.Sign t (says.Sign c) (says.Sign d) h g = ap says.Sign (some_both c d (sign_named t) h g)
said_one vars cast token.Sign t (says.Sign c) says.Nothing h g = some_none c (sign_named t) h g
said_one vars cast token.Sign t says.Nothing (says.Sign d) h g = some_none d (sign_named t) g h
said_one vars cast token.Sign t says.Nothing says.Nothing h g = refl
said_one vars cast token.Sign t (says.Sign c) b h g = absurd g
said_one vars cast token.Sign t says.Nothing b h g = absurd g
said_one vars cast k t a b h g = absurd h

means_one : (vars : List (List ℕ × Value)) (cast : Option Kind) (k : TokenKind) (t : List ℕ) (a b : Says) → MeansInSql vars cast k t a → MeansInSql vars cast k t b → a ≡ b
means_one vars cast k t a b h g = by (is_utf8 t) refl
  where
    by : (r : Bool) → is_utf8 t ≡ r → a ≡ b
    by true is = let utf8 = IsUtf8-from_is_utf8 t is in said_one vars cast k t a b (h.said utf8) (g.said utf8)
    by false is = let bad : ¬ IsUtf8 t = λ u. false≢true (sym is ∙ is_utf8-from_IsUtf8 t u) in h.no_text bad ∙ sym (g.no_text bad)

piece_one : (text : List ℕ) (vars : List (List ℕ × Value)) (t : Token) (behind : List Token) (p q : Placed) → IsPiece text vars t behind p → IsPiece text vars t behind q → p ≡ q
piece_one text vars t behind p q h g =
    ap (λ (n : ℕ). record { start = n; says = p.says }) (h.start ∙ sym g.start)
    ∙ ap (λ (s : Says). record { start = q.start; says = s }) (means_one vars (cast_kind text behind) t.kind (token_content t.kind (token_bytes text t)) p.says q.says h.means g.means)

pieces_one : (text : List ℕ) (vars : List (List ℕ × Value)) (ts : List Token) (ps qs : List Placed) → AreSqlPieces text vars ts ps → AreSqlPieces text vars ts qs → ps ≡ qs
pieces_one text vars [] [] [] h g = refl
pieces_one text vars [] [] (q ∷ qs) h g = absurd g
pieces_one text vars [] (p ∷ ps) qs h g = absurd h
pieces_one text vars (t ∷ ts) [] qs h g = absurd h
pieces_one text vars (t ∷ ts) (p ∷ ps) [] h g = absurd g
pieces_one text vars (t ∷ ts) (p ∷ ps) (q ∷ qs) h g = λ i. piece_one text vars t ts p q h.0 g.0 i ∷ pieces_one text vars ts ps qs h.1 g.1 i

-- a text says one list of pieces
pub read_one : (text : List ℕ) (vars : List (List ℕ × Value)) (ps qs : List Placed) → IsReadAsSql text vars ps → IsReadAsSql text vars qs → ps ≡ qs
read_one text vars ps qs h g =
    let cut = one_cut text 0 h.tokens g.tokens h.stop g.stop h.are_tokens h.stuck g.are_tokens g.stuck in
    let front = pieces_one text vars g.tokens h.front g.front (subst (λ (ts : List Token). AreSqlPieces text vars ts h.front) cut.0 h.are_pieces) g.are_pieces in
    h.whole ∙ (ap (λ (fs : List Placed). fs ++ rest_pieces text h.stop) front ∙ (ap (λ (n : ℕ). g.front ++ rest_pieces text n) cut.1 ∙ sym g.whole))
