-- How a printed token is read: what it says, and what is left behind it.
use Rattle.std.proofs.Common.{◌≡◌, ◌≢◌, ◌∙◌, All, ℕ, ◌<◌, ◌==◌, Bool, true, false, List, [], ◌∷◌, ◌++◌, Option, None, Some, ap, arith, drop, eqb-true, length, refl, subst, sym}
use Rattle.std.specs.Prelude.{if◌then◌else◌, not, ◌&&◌, IsUtf8}
use Rattle.std.specs.List.{list_all}
use Rattle.std.proofs.Math.Seq.{drop-append_seam, take-append_seam}
use Rattle.std.proofs.lemmas.Bool.{and_from, false≢true, true≢false}
use Rattle.std.proofs.lemmas.Bool.Decides.{nat_tests}
use Rattle.std.proofs.lemmas.List.Elements.{All-nil, All-cons}
use Rattle.std.proofs.lemmas.Str.{IsUtf8-from_ascii}
use Rattle.std.proofs.lemmas.Str.Ascii.{IsAscii-from_all}
use Rattle.basics.proofs.Bools.{first_of_both, second_of_both}
use Rattle.jr_path.specs.Grammar.{IsName, OneOrMore, is_prefix_character}
use Rattle.jr_path.specs.declared.name.Name.{Name}
use Rattle.jr_value.specs.declared.value.Kind.{Kind}
use Rattle.jr_value.specs.declared.value.Value.{Value}
use Rattle.cnd_pieces.specs.Pieces.{ArePieces, IsDefault, IsNameOrNone, IsSaid, Means, after_text, after_word, content, context_after, is_behind_less, named_in, place_behind}
use Rattle.cnd_print.specs.Printing.{is_bare_name, name_text, quoted}
use Rattle.jr_cnd.specs.Reading.{State, bare_in, is_sign, cnd_name_in}
use Rattle.cnd_pieces.specs.Tokens.{first_token, gap_after, gap_from, gap_size, goes_on_bare, is_bare, is_space}
use Rattle.cnd_pieces.specs.Words.{cnd_kind_named}
use Rattle.cnd_pieces.specs.declared.context.Context.{Context}
use Rattle.cnd_pieces.specs.declared.context.Context.TheVariants as context
use Rattle.cnd_pieces.specs.declared.piece.Placed.{Placed}
use Rattle.cnd_pieces.specs.declared.piece.Says.{Says}
use Rattle.cnd_pieces.specs.declared.piece.Says.TheVariants as says
use Rattle.cnd_pieces.specs.declared.piece.Sign.{Sign}
use Rattle.cnd_pieces.specs.declared.piece.TokenKind.{TokenKind}
use Rattle.cnd_pieces.specs.declared.piece.TokenKind.TheVariants as token
use Rattle.cnd_pieces.specs.declared.scan.Gap.TheVariants as gap
use Rattle.cnd_print.proofs.Tokens.{name_token, prefix_token, text_token, text_written}

-- the state in which these pieces are left
abbrev pub left_of : List Placed → ℕ → State
left_of ps stop = record { pieces = ps; stop = stop }

-- the pieces are what the bytes say in this context, behind white space
abbrev pub Behind : Context → List ℕ → List Placed → Type 0
Behind c bs ps = (at : ℕ) × ArePieces c at (drop (gap_size bs) bs) ps

-- the pieces are what the bytes say, in a context that isn't right behind `<`
pub record Ready (bs : List ℕ) (ps : List Placed) : Type 0 where
  pub context : Context
  pub calm : is_behind_less context ≡ false
  pub behind : Behind context bs ps

-- ---- white space

-- no white space and no comment stands at the front
abbrev pub starts : List ℕ → Bool
starts [] = true
starts (b ∷ bs) = not (b == 47) && not (is_space b)

no : (x : Bool) → not x ≡ true → x ≡ false
no true h = absurd (false≢true h)
no false h = refl

no_slash : (at b : ℕ) (bs : List ℕ) → (b == 47) ≡ false → is_space b ≡ false → gap_after gap.Space at b bs ≡ None
no_slash at b bs slash space = rw (slash, space) refl

no_gap : (at : ℕ) (bs : List ℕ) → starts bs ≡ true → gap_from gap.Space at bs ≡ at
no_gap at [] h = refl
no_gap at (b ∷ bs) h =
    let slash = no (b == 47) (first_of_both (not (b == 47)) (not (is_space b)) h) in
    let space = no (is_space b) (second_of_both (not (b == 47)) (not (is_space b)) h) in
    rw (no_slash at b bs slash space, gap_from) refl

pub unspaced : (bs : List ℕ) → starts bs ≡ true → drop (gap_size bs) bs ≡ bs
unspaced bs h = ap (λ n. drop n bs) (no_gap 0 bs h)

pub spaced : (bs : List ℕ) → starts bs ≡ true → drop (gap_size (32 ∷ bs)) (32 ∷ bs) ≡ bs
spaced bs h = ap (λ n. drop n (32 ∷ bs)) (no_gap 1 bs h)

-- ---- one token

record Stepped (c : Context) (kind : TokenKind) (t bs : List ℕ) (ps : List Placed) : Type 0 where
  pub first : Placed
  pub more : List Placed
  pub is : ps ≡ first ∷ more
  pub means : Means c kind t first.says
  pub left : Behind (context_after c first.says) bs more

step : (c : Context) (kind : TokenKind) (tok bs : List ℕ) (at : ℕ) (ps : List Placed) → first_token (is_behind_less c) (tok ++ bs) ≡ Some (kind, length tok) → ArePieces c at (tok ++ bs) ps → Stepped c kind (content kind tok) bs ps
step c kind tok bs at [] found h =
    let none : ◌≡◌ {A = Option (TokenKind × ℕ)} None (Some (kind, length tok)) = sym (ap (first_token (is_behind_less c)) h) ∙ found in cc
step c kind tok bs at (p ∷ ps) found h =
    let r = rw found at h.1 in
    record {
      first = p;
      more = ps;
      is = refl;
      means = subst (λ t. Means c kind (content kind t) p.says) (take-append_seam tok bs) r.0;
      left = (place_behind at (length tok) (tok ++ bs), subst (λ m. ArePieces (context_after c p.says) (place_behind at (length tok) (tok ++ bs)) (drop (gap_size m) m) ps) (drop-append_seam tok bs) r.1);
    }

step_at : (c : Context) (kind : TokenKind) (all tok bs : List ℕ) (ps : List Placed) → first_token (is_behind_less c) (tok ++ bs) ≡ Some (kind, length tok) → drop (gap_size all) all ≡ tok ++ bs → Behind c all ps → Stepped c kind (content kind tok) bs ps
step_at c kind all tok bs ps found e h = step c kind tok bs h.0 ps found (subst (λ b. ArePieces c h.0 b ps) e h.1)

-- ---- signs

pub record SignRead (c : Context) (s : Sign) (bs : List ℕ) (ps : List Placed) : Type 0 where
  pub first : Placed
  pub more : List Placed
  pub is : ps ≡ first ∷ more
  pub said : first.says ≡ says.Sign s
  pub left : Behind (context_after c (says.Sign s)) bs more

sign_said : (c : Context) (s : Sign) (t : List ℕ) (u : Says) → IsSaid c (token.Sign s) t u → u ≡ says.Sign s
sign_said c s t (says.Sign x) h = ap says.Sign h
sign_said c s t u h = absurd h

pub ascii : (b : ℕ) → b < 128 → IsUtf8 (b ∷ [])
ascii b low = IsUtf8-from_ascii (b ∷ []) (IsAscii-from_all (b ∷ []) (All-cons (λ x. x < 128) b [] low (All-nil (λ x. x < 128))))

pub sign_step : (c : Context) (b : ℕ) (s : Sign) (all bs : List ℕ) (ps : List Placed) → first_token (is_behind_less c) (b ∷ bs) ≡ Some (token.Sign s, 1) → b < 128 → drop (gap_size all) all ≡ b ∷ bs → Behind c all ps → SignRead c s bs ps
sign_step c b s all bs ps found low e h =
    let r = step_at c (token.Sign s) all (b ∷ []) bs ps found e h in
    let said = sign_said c s (b ∷ []) r.first.says (r.means.said (ascii b low)) in
    record { first = r.first; more = r.more; is = r.is; said = said; left = subst (λ u. Behind (context_after c u) bs r.more) said r.left }

-- ---- texts

pub record TextRead (c : Context) (t bs : List ℕ) (ps : List Placed) : Type 0 where
  pub first : Placed
  pub more : List Placed
  pub is : ps ≡ first ∷ more
  pub name : Option Name
  pub value : Option Value
  pub said : first.says ≡ says.Quoted t name value
  pub is_name : IsNameOrNone t name
  pub is_value : IsDefault c t value
  pub left : Behind (after_text c) bs more

record TextSaid (c : Context) (t : List ℕ) (u : Says) : Type 0 where
  pub name : Option Name
  pub value : Option Value
  pub said : u ≡ says.Quoted t name value
  pub is_name : IsNameOrNone t name
  pub is_value : IsDefault c t value

text_said : (c : Context) (t : List ℕ) (u : Says) → IsSaid c token.Quoted t u → TextSaid c t u
text_said c t (says.Quoted a n v) h = record { name = n; value = v; said = ap (λ x. says.Quoted x n v) h.0; is_name = h.1; is_value = h.2 }
text_said c t u h = absurd h

pub text_step : (c : Context) (t all bs : List ℕ) (ps : List Placed) → IsUtf8 t → drop (gap_size all) all ≡ quoted t ++ bs → Behind c all ps → TextRead c t bs ps
text_step c t all bs ps utf8 e h =
    let r = step_at c token.Quoted all (quoted t) bs ps (text_token (is_behind_less c) t bs) e h in
    let u = text_said c t r.first.says ((subst (λ w. Means c token.Quoted w r.first.says) (text_written t) r.means).said utf8) in
    record {
      first = r.first;
      more = r.more;
      is = r.is;
      name = u.name;
      value = u.value;
      said = u.said;
      is_name = u.is_name;
      is_value = u.is_value;
      left = subst (λ w. Behind (context_after c w) bs r.more) u.said r.left;
    }

-- ---- words and names

pub record WordRead (c : Context) (w bs : List ℕ) (ps : List Placed) : Type 0 where
  pub first : Placed
  pub more : List Placed
  pub is : ps ≡ first ∷ more
  pub said : first.says ≡ says.Name w
  pub left : Behind (after_word c w) bs more

word_said : (c : Context) (w : List ℕ) (u : Says) → IsName w → IsSaid c token.Bare w u → u ≡ says.Name w
word_said c w (says.Name x) name h = ap says.Name h.1
word_said c w (says.Bare x) name h = absurd (h.0 name)
word_said c w u name h = absurd h

pub name_utf8 : (n : List ℕ) → IsName n → IsUtf8 n
name_utf8 n h = (h.characters, (h.scalar, sym h.spelled))

pub word_step : (c : Context) (w all bs : List ℕ) (ps : List Placed) → IsName w → is_bare_name w ≡ true → goes_on_bare bs ≡ false → drop (gap_size all) all ≡ w ++ bs → Behind c all ps → WordRead c w bs ps
word_step c w all bs ps name bare stop e h =
    let r = step_at c token.Bare all w bs ps (name_token (is_behind_less c) w bs bare stop) e h in
    let said = word_said c w r.first.says name (r.means.said (name_utf8 w name)) in
    record { first = r.first; more = r.more; is = r.is; said = said; left = subst (λ u. Behind (context_after c u) bs r.more) said r.left }

calm_named : (o : Option (Option Kind)) → is_behind_less (named_in o) ≡ false
calm_named None = refl
calm_named (Some k) = refl

pub calm_word : (c : Context) (w : List ℕ) → is_behind_less (after_word c w) ≡ false
calm_word context.Opened w = calm_named (cnd_kind_named w)
calm_word c w = refl

pub calm_text : (c : Context) → is_behind_less (after_text c) ≡ false
calm_text (context.Default k) = refl
calm_text c = refl

-- what a printed name is read as
pub record NameRead (n bs : List ℕ) (ps : List Placed) : Type 0 where
  pub first : Placed
  pub more : List Placed
  pub is : ps ≡ first ∷ more
  pub name : cnd_name_in first.says ≡ Some n
  pub no_sign : (s : Sign) → is_sign s first.says ≡ false
  pub left : Ready bs more

the_name : (n : List ℕ) (o : Option Name) → IsName n → IsNameOrNone n o → o ≡ Some n
the_name n None name h = absurd (h name)
the_name n (Some m) name h = ap Some h.1

name_by : (x : Bool) (c : Context) (n all bs : List ℕ) (ps : List Placed) → is_bare_name n ≡ x → IsName n → goes_on_bare bs ≡ false → drop (gap_size all) all ≡ (if x then n else quoted n) ++ bs → Behind c all ps → NameRead n bs ps
name_by true c n all bs ps bare name stop e h =
    let r = word_step c n all bs ps name bare stop e h in
    record {
      first = r.first;
      more = r.more;
      is = r.is;
      name = ap cnd_name_in r.said;
      no_sign = λ s. ap (is_sign s) r.said;
      left = record { context = after_word c n; calm = calm_word c n; behind = r.left };
    }
name_by false c n all bs ps bare name stop e h =
    let r = text_step c n all bs ps (name_utf8 n name) e h in
    record {
      first = r.first;
      more = r.more;
      is = r.is;
      name = ap cnd_name_in r.said ∙ the_name n r.name name r.is_name;
      no_sign = λ s. ap (is_sign s) r.said;
      left = record { context = after_text c; calm = calm_text c; behind = r.left };
    }

pub name_step : (c : Context) (n all bs : List ℕ) (ps : List Placed) → IsName n → goes_on_bare bs ≡ false → drop (gap_size all) all ≡ name_text n ++ bs → Behind c all ps → NameRead n bs ps
name_step c n all bs ps name stop e h = name_by (is_bare_name n) c n all bs ps refl name stop e h

-- ---- a printed name begins with no white space

other_than : (b k : ℕ) (x : Bool) → (b == k) ≡ x → is_bare k ≡ false → is_bare b ≡ true → x ≡ false
other_than b k true e no_bare h = absurd (false≢true (sym no_bare ∙ ap is_bare (sym (eqb-true b k e)) ∙ h))
other_than b k false e no_bare h = refl

-- a byte of a bare token begins no white space and no comment
bare_starts : (b : ℕ) (bs : List ℕ) → is_bare b ≡ true → starts (b ∷ bs) ≡ true
bare_starts b bs h =
    rw (other_than b 47 (b == 47) refl refl h, other_than b 32 (b == 32) refl refl h, other_than b 9 (b == 9) refl refl h, other_than b 13 (b == 13) refl refl h, other_than b 10 (b == 10) refl refl h) refl

prefix_starts : (t bs : List ℕ) → t ≢ [] → list_all is_bare t ≡ true → starts (t ++ bs) ≡ true
prefix_starts [] bs some h = absurd (some refl)
prefix_starts (b ∷ t) bs some h = bare_starts b (t ++ bs) (first_of_both (is_bare b) (list_all is_bare t) h)

pub bare_name_starts : (n bs : List ℕ) → is_bare_name n ≡ true → starts (n ++ bs) ≡ true
bare_name_starts [] bs bare = absurd (true≢false (sym bare))
bare_name_starts (b ∷ n) bs bare =
    let parts = second_of_both (not (b == 45)) (list_all is_bare (b ∷ n)) bare in
    bare_starts b (n ++ bs) (first_of_both (is_bare b) (list_all is_bare n) parts)

name_starts_by : (x : Bool) (n bs : List ℕ) → is_bare_name n ≡ x → IsName n → starts ((if x then n else quoted n) ++ bs) ≡ true
name_starts_by false n bs bare name = refl
name_starts_by true n bs bare name = bare_name_starts n bs bare

pub name_starts : (n bs : List ℕ) → IsName n → starts (name_text n ++ bs) ≡ true
name_starts n bs name = name_starts_by (is_bare_name n) n bs refl name

-- ---- prefixes

prefix_low : (c : ℕ) → is_prefix_character c ≡ true → c < 128
prefix_low c h = grind (arith, nat_tests)

prefix_bare : (c : ℕ) → is_prefix_character c ≡ true → is_bare c ≡ true
prefix_bare c h = grind (arith, nat_tests)

all_low : (t : List ℕ) → list_all is_prefix_character t ≡ true → All (λ x. x < 128) t
all_low [] h = All-nil (λ x. x < 128)
all_low (c ∷ t) h = All-cons (λ x. x < 128) c t (prefix_low c (first_of_both (is_prefix_character c) (list_all is_prefix_character t) h)) (all_low t (second_of_both (is_prefix_character c) (list_all is_prefix_character t) h))

all_bare : (t : List ℕ) → list_all is_prefix_character t ≡ true → list_all is_bare t ≡ true
all_bare [] h = refl
all_bare (c ∷ t) h = and_from (is_bare c) (list_all is_bare t) (prefix_bare c (first_of_both (is_prefix_character c) (list_all is_prefix_character t) h)) (all_bare t (second_of_both (is_prefix_character c) (list_all is_prefix_character t) h))

-- what a printed prefix is read as
pub record PrefixRead (t bs : List ℕ) (ps : List Placed) : Type 0 where
  pub first : Placed
  pub more : List Placed
  pub is : ps ≡ first ∷ more
  pub bare : bare_in first.says ≡ Some t
  pub left : Ready bs more

bare_said : (c : Context) (t : List ℕ) (u : Says) → IsSaid c token.Bare t u → bare_in u ≡ Some t
bare_said c t (says.Name n) h = ap Some h.1
bare_said c t (says.Bare n) h = ap Some h.1
bare_said c t u h = absurd h

calm_bare : (c : Context) (t : List ℕ) (u : Says) → IsSaid c token.Bare t u → is_behind_less (context_after c u) ≡ false
calm_bare c t (says.Name n) h = calm_word c n
calm_bare c t (says.Bare n) h = refl
calm_bare c t u h = absurd h

pub prefix_step : (t bs : List ℕ) (ps : List Placed) → OneOrMore is_prefix_character t → goes_on_bare bs ≡ false → Behind context.BehindLess (t ++ bs) ps → PrefixRead t bs ps
prefix_step t bs ps prefix stop h =
    let bare = all_bare t prefix.1 in
    let r = step_at context.BehindLess token.Bare (t ++ bs) t bs ps (prefix_token t bs prefix.0 bare stop) (unspaced (t ++ bs) (prefix_starts t bs prefix.0 bare)) h in
    let said = r.means.said (IsUtf8-from_ascii t (IsAscii-from_all t (all_low t prefix.1))) in
    record { first = r.first; more = r.more; is = r.is; bare = bare_said context.BehindLess t r.first.says said; left = record { context = _; calm = calm_bare context.BehindLess t r.first.says said; behind = r.left } }
