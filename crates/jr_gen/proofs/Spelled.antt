-- The text of JSON without floats is read back as that JSON, also where a line end stands behind it.
use Rattle.std.proofs.Common.{◌≡◌, ◌∙◌, ℕ, suc, ◌^◌, ◌<◌, ◌≤◌, Bool, true, false, cond, ◌&&◌, List, [], ◌∷◌, ◌++◌, Option, Some, option_and_then, option_map, decimal, IsUtf8, refl, sym, ap, ap₂, arith, append_assoc, append-nil}
use Rattle.std.proofs.lemmas.Fmt.{IsAscii-decimal}
use Rattle.std.proofs.lemmas.Str.{IsUtf8-append, IsUtf8-from_ascii, IsUtf8-nil}
use Rattle.json.specs.Token.{Token, begin_object, end_object, begin_array, end_array, key, string, number, boolean, null, bad}
use Rattle.json.specs.Word.{ends_word, word}
use Rattle.json.specs.Lex.{between, in_word, colon, comma, fresh, lex, punctuate, string_token, token, tokens}
use Rattle.json.specs.Print.{ArePrintable, IsPrintable, begins, ends, escape, print, print_from, quoted, separator, token_text}
use Rattle.json.specs.Json as json
use Rattle.json.specs.Tree as tree
use Rattle.json.proofs.Printed.Decimals.{IsNumber-decimal}
use Rattle.json.proofs.Printed.Numbers.{in_word-ended, lex-number}
use Rattle.json.proofs.Printed.Strings.{content-escape, lex-escape}
use Rattle.json.proofs.Printed.Tokens.{tokens-print}
use Rattle.json.proofs.Printed.Trees.{ArePrintable-json_tokens, value-json_tokens}
use Rattle.json.proofs.Printed.Utf8.{IsUtf8-are_ascii, IsUtf8-boolean, IsUtf8-quoted}
use Rattle.serde_json.specs.Data as data_of
use Rattle.serde_json.specs.Data.{Data, Items, Members, put, unsigned}
use Rattle.serde_json.specs.Read.{max_depth, of_items, of_json, of_members, read}
use Rattle.serde_json.specs.Written.{comma_if, compact_text, items_outline, items_text, members_outline, members_text, outline}
use Rattle.serde_json.proofs.Numbers.{number_of-decimal}
use Rattle.serde_json.proofs.Texts.{print-outline}

-- ---- a line end behind a text

-- a line end
abbrev line_end : List ℕ
line_end = 10 ∷ []

-- both texts end a word that stands before them, where the condition holds
abbrev AreEnds : Bool → List ℕ → List ℕ → Type 0
AreEnds b r s = b ≡ true → (ends_word r ≡ true) × (ends_word s ≡ true)

lex_quoted : (s r : List ℕ) → lex between (quoted s ++ r) ≡ token (string s) ∷ lex between r
unfolding lex
lex_quoted s r =
    ap (λ (l : List ℕ). lex between (34 ∷ l)) (append_assoc (escape s) (34 ∷ []) r)
    ∙ ap₂ (λ o l. token (string_token o) ∷ l) (content-escape s r) (lex-escape s r)

lex_key : (s r : List ℕ) → lex between ((quoted s ++ 58 ∷ []) ++ r) ≡ token (string s) ∷ (colon ∷ lex between r)
unfolding lex
lex_key s r = ap (lex between) (append_assoc (quoted s) (58 ∷ []) r) ∙ lex_quoted s (58 ∷ r)

both_end : (r s : List ℕ) → (ends_word r ≡ true) × (ends_word s ≡ true) → ends_word r ≡ ends_word s
both_end r s e = e.0 ∙ sym e.1

after_word : (r s : List ℕ) → (ends_word r ≡ true) × (ends_word s ≡ true) → lex between r ≡ lex between s
    → lex in_word r ≡ lex in_word s
after_word r s e same = in_word-ended r e.0 ∙ (same ∙ sym (in_word-ended s e.1))

-- one token before texts of the same lexemes
token_before : (t : Token) (r s : List ℕ) → IsPrintable t → AreEnds (ends t) r s
    → lex between r ≡ lex between s → lex between (token_text t ++ r) ≡ lex between (token_text t ++ s)
unfolding lex word
token_before begin_object r s h e same = ap (λ l. token begin_object ∷ l) same
token_before end_object r s h e same = ap (λ l. token end_object ∷ l) same
token_before begin_array r s h e same = ap (λ l. token begin_array ∷ l) same
token_before end_array r s h e same = ap (λ l. token end_array ∷ l) same
token_before (key k) r s h e same =
    lex_key k r ∙ (ap (λ l. token (string k) ∷ (colon ∷ l)) same ∙ sym (lex_key k s))
token_before (string k) r s h e same =
    lex_quoted k r ∙ (ap (λ l. token (string k) ∷ l) same ∙ sym (lex_quoted k s))
token_before (number k) r s h e same =
    lex-number k r h (e refl).0
    ∙ (ap (λ l. token (number k) ∷ l) same ∙ sym (lex-number k s h (e refl).1))
token_before (boolean true) r s h e same =
    ap₂ (λ b l. token (cond b (boolean true) bad) ∷ l) (both_end r s (e refl)) (after_word r s (e refl) same)
token_before (boolean false) r s h e same =
    ap₂ (λ b l. token (cond b (boolean false) bad) ∷ l) (both_end r s (e refl)) (after_word r s (e refl) same)
token_before null r s h e same =
    ap₂ (λ b l. token (cond b null bad) ∷ l) (both_end r s (e refl)) (after_word r s (e refl) same)
token_before bad r s h e same = absurd h

-- a comma, or none, before texts of the same lexemes
comma_before : (b : Bool) (r s : List ℕ) → lex between r ≡ lex between s
    → lex between (cond b (44 ∷ []) [] ++ r) ≡ lex between (cond b (44 ∷ []) [] ++ s)
unfolding lex
comma_before true r s same = ap (λ l. comma ∷ l) same
comma_before false r s same = same

-- what is printed behind a value ends the value's word
ends_behind : (ts : List Token) (r : List ℕ) → ends_word r ≡ true → ends_word (print_from true ts ++ r) ≡ true
unfolding print_from
ends_behind [] r h = h
ends_behind (begin_object ∷ ts) r h = refl
ends_behind (end_object ∷ ts) r h = refl
ends_behind (begin_array ∷ ts) r h = refl
ends_behind (end_array ∷ ts) r h = refl
ends_behind (key s ∷ ts) r h = refl
ends_behind (string s ∷ ts) r h = refl
ends_behind (number s ∷ ts) r h = refl
ends_behind (boolean b ∷ ts) r h = refl
ends_behind (null ∷ ts) r h = refl
ends_behind (bad ∷ ts) r h = refl

both_behind : (b : Bool) (ts : List Token) → AreEnds b (print_from b ts ++ line_end) (print_from b ts)
both_behind b ts is =
    let at = ap (λ (a : Bool). ends_word (print_from a ts ++ line_end)) is in
    let alone = ap (λ (a : Bool). ends_word (print_from a ts)) is in (
      at ∙ ends_behind ts line_end refl,
      alone ∙ (ap ends_word (sym (append-nil (print_from true ts))) ∙ ends_behind ts [] refl),
    )

-- a line end behind what is printed has no lexeme
line_ended : (c : Bool) (ts : List Token) → ArePrintable ts
    → lex between (print_from c ts ++ line_end) ≡ lex between (print_from c ts)
unfolding lex print_from ArePrintable
line_ended c [] h = refl
line_ended c (t ∷ ts) h =
    let rest = print_from (ends t) ts in
    ap (lex between)
    (append_assoc (separator c t) (token_text t ++ rest) line_end
    ∙ ap (λ (l : List ℕ). separator c t ++ l) (append_assoc (token_text t) rest line_end))
    ∙ comma_before (c && begins t) (token_text t ++ (rest ++ line_end)) (token_text t ++ rest)
    (token_before t (rest ++ line_end) rest h.0 (both_behind (ends t) ts) (line_ended (ends t) ts h.1))

line_tokens : (ts : List Token) → ArePrintable ts → tokens (print ts ++ line_end) ≡ ts
line_tokens ts h = ap (punctuate fresh) (line_ended false ts h) ∙ tokens-print ts h

-- ---- data whose text is read back

-- the JSON has numbers that can be written, is this data, and nests at most n deep, and its text is UTF-8
pub record IsReadBack (n : ℕ) (d : Data) : Type 0 where
  pub numbers : tree.HasNumbers (outline d)
  pub same : of_json (outline d) ≡ Some d
  pub shallow : tree.depth (outline d) ≤ n
  pub utf8 : IsUtf8 (compact_text d)

pub record AreReadBack (n : ℕ) (ds : Items) : Type 0 where
  pub numbers : tree.ItemsHaveNumbers (items_outline ds)
  pub same : of_items (items_outline ds) ≡ Some ds
  pub shallow : tree.items_depth (items_outline ds) ≤ n
  pub utf8 : (later : Bool) → IsUtf8 (items_text later ds)

-- these members put into others
abbrev pub put_all : Members → Members → Members
put_all data_of.no_members found = found
put_all (data_of.member k d ms) found = put_all ms (put k d found)

pub record HasReadBack (n : ℕ) (ms : Members) : Type 0 where
  pub numbers : tree.MembersHaveNumbers (members_outline ms)
  pub same : (found : Members) → of_members (members_outline ms) found ≡ Some (put_all ms found)
  pub shallow : tree.members_depth (members_outline ms) ≤ n
  pub utf8 : (later : Bool) → IsUtf8 (members_text later ms)

-- a text, a truth value, a number
pub string_back : (n : ℕ) (s : List ℕ) → IsUtf8 s → IsReadBack n (data_of.string s)
string_back n s h = record { numbers = tt; same = refl; shallow = omega arith; utf8 = IsUtf8-quoted s h }

pub boolean_back : (n : ℕ) (b : Bool) → IsReadBack n (data_of.boolean b)
boolean_back n b = record { numbers = tt; same = refl; shallow = omega arith; utf8 = IsUtf8-boolean b }

pub number_back : (n k : ℕ) → k < 2 ^ 64 → IsReadBack n (data_of.number (unsigned k))
number_back n k h = record {
  numbers = IsNumber-decimal k h;
  same = ap (option_map data_of.number) (number_of-decimal k h);
  shallow = omega arith;
  utf8 = IsUtf8-from_ascii (decimal k) (IsAscii-decimal k h);
}

-- ---- lists

comma_utf8 : (b : Bool) → IsUtf8 (comma_if b)
comma_utf8 true = IsUtf8-are_ascii (44 ∷ []) refl
comma_utf8 false = IsUtf8-nil

then_items : (j : json.Json) (js : json.Items) (d : Data) (ds : Items) → of_json j ≡ Some d → of_items js ≡ Some ds
    → of_items (json.item j js) ≡ Some (data_of.item d ds)
then_items j js d ds p q =
    ap (λ (o : Option Data). option_and_then (λ d. option_map (data_of.item d) (of_items js)) o) p
    ∙ ap (option_map (data_of.item d)) q

pub no_items_back : (n : ℕ) → AreReadBack n data_of.no_items
no_items_back n = record {
  numbers = tt;
  same = refl;
  shallow = omega arith;
  utf8 = λ later. IsUtf8-are_ascii (93 ∷ []) refl;
}

pub item_back : (n : ℕ) (d : Data) (ds : Items) → IsReadBack n d → AreReadBack n ds
    → AreReadBack n (data_of.item d ds)
item_back n d ds h k = record {
  numbers = (h.numbers, k.numbers);
  same = then_items (outline d) (items_outline ds) d ds h.same k.same;
  shallow = omega (arith, h.shallow, k.shallow);
  utf8 = λ later. IsUtf8-append (comma_if later) _ (comma_utf8 later) (IsUtf8-append (compact_text d) _ h.utf8 (k.utf8 true));
}

pub array_back : (n : ℕ) (ds : Items) → AreReadBack n ds → IsReadBack (suc n) (data_of.array ds)
array_back n ds h = record {
  numbers = h.numbers;
  same = ap (option_map data_of.array) h.same;
  shallow = omega (arith, h.shallow);
  utf8 = IsUtf8-append (91 ∷ []) (items_text false ds) (IsUtf8-are_ascii (91 ∷ []) refl) (h.utf8 false);
}

-- ---- objects

then_members : (k : List ℕ) (j : json.Json) (ms : json.Members) (d : Data) (found : Members) → of_json j ≡ Some d
    → of_members (json.member k j ms) found ≡ of_members ms (put k d found)
then_members k j ms d found p = ap (λ (o : Option Data). option_and_then (λ d. of_members ms (put k d found)) o) p

pub no_members_back : (n : ℕ) → HasReadBack n data_of.no_members
no_members_back n = record {
  numbers = tt;
  same = λ found. refl;
  shallow = omega arith;
  utf8 = λ later. IsUtf8-are_ascii (125 ∷ []) refl;
}

pub member_back : (n : ℕ) (k : List ℕ) (d : Data) (ms : Members) → IsUtf8 k → IsReadBack n d → HasReadBack n ms
    → HasReadBack n (data_of.member k d ms)
member_back n k d ms text h rest = record {
  numbers = (h.numbers, rest.numbers);
  same = λ found. then_members k (outline d) (members_outline ms) d found h.same ∙ rest.same (put k d found);
  shallow = omega (arith, h.shallow, rest.shallow);
  utf8 = λ later.
      IsUtf8-append (comma_if later) _ (comma_utf8 later)
      (IsUtf8-append (quoted k) _ (IsUtf8-quoted k text)
      (IsUtf8-append (58 ∷ []) _ (IsUtf8-are_ascii (58 ∷ []) refl)
      (IsUtf8-append (compact_text d) _ h.utf8 (rest.utf8 true))));
}

-- the keys are in order
pub object_back : (n : ℕ) (ms : Members) → put_all ms data_of.no_members ≡ ms → HasReadBack n ms
    → IsReadBack (suc n) (data_of.object ms)
object_back n ms ordered h = record {
  numbers = h.numbers;
  same = ap (option_map data_of.object) (h.same data_of.no_members ∙ ap Some ordered);
  shallow = omega (arith, h.shallow);
  utf8 = IsUtf8-append (123 ∷ []) (members_text false ms) (IsUtf8-are_ascii (123 ∷ []) refl) (h.utf8 false);
}

-- ---- a line

abbrev last_of : Option (json.Json × List Token) → Option Data
last_of o = option_and_then of_json (option_and_then (λ p. json.if_last p.0 p.1) o)

pub line_read : (n : ℕ) (d : Data) → n ≤ max_depth → IsReadBack n d → read (compact_text d ++ line_end) ≡ Some d
line_read n d low h =
    let j = outline d in
    let spelled = ap (λ (text : List ℕ). tokens (text ++ line_end)) (sym (print-outline d)) in
    let lexed = line_tokens (tree.json_tokens j) (ArePrintable-json_tokens j h.numbers) in
    let whole = spelled ∙ (lexed ∙ sym (append-nil (tree.json_tokens j))) in
    ap (λ (ts : List Token). last_of (json.value max_depth ts)) whole
    ∙ (ap last_of (value-json_tokens j max_depth [] (omega (arith, low, h.shallow))) ∙ h.same)

pub line_utf8 : (n : ℕ) (d : Data) → IsReadBack n d → IsUtf8 (compact_text d ++ line_end)
line_utf8 n d h = IsUtf8-append (compact_text d) line_end h.utf8 (IsUtf8-are_ascii (10 ∷ []) refl)
