-- A kind has its word, and an identifier its text.
use Rattle.std.proofs.Common.{◌≡◌, ℕ, zero, suc, ◌<◌, ◌^◌, List, [], ◌∷◌, Bool, true, false, Option, Some, All, refl, sym, ap, ◌∙◌, arith, cond, inl}
use Rattle.std.proofs.lemmas.List.Elements.{All-nil, All-cons}
use Rattle.std.specs.Prelude.{option_map, unwrap_or}
use Rattle.std.specs.Int.{from_be_bytes, to_be_bytes, byte_at, bytes_high_first, w128}
use Rattle.std.specs.Str.{bytes_eq}
use Rattle.std.specs.Cmp.Lexicographic.{bytes_decides}
use Rattle.uuid.specs.Text.{lower}
use Rattle.uuid.proofs.RoundTrips.{parses_hyphenated_text}
use Rattle.uuid.proofs.OrderLemmas.{from_be_bytes-to_be_bytes_16}
use Rattle.jr_value.specs.Words.{all_kinds, identifier_named, identifier_text, kind_named, kind_text}
use Rattle.jr_value.specs.declared.value.Kind.{Kind}
use Rattle.jr_value.specs.declared.value.Kind.TheVariants as kind

-- a kind that is found by a word has it, and each kind is found by its word
pub named_has : (ks : List Kind) (word : List ℕ) (k : Kind) → Some k ≡ kind_named ks word → kind_text k ≡ word
named_has [] word k h = cc
named_has (l ∷ ks) word k h = by (bytes_eq (kind_text l) word) refl h (named_has ks word k)
  where
    by : (b : Bool) → bytes_eq (kind_text l) word ≡ b → Some k ≡ cond b (Some l) (kind_named ks word) → (Some k ≡ kind_named ks word → kind_text k ≡ word) → kind_text k ≡ word
    by true is g later = ap (λ (o : Option Kind). kind_text (unwrap_or o k)) g ∙ (bytes_decides (kind_text l) word).0 is
    by false is g later = later g

pub named_own : (k : Kind) → kind_named all_kinds (kind_text k) ≡ Some k
named_own kind.Str = refl
named_own kind.Binary = refl
named_own kind.Long = refl
named_own kind.Date = refl
named_own kind.Boolean = refl
named_own kind.Name = refl
named_own kind.Path = refl
named_own kind.Reference = refl
named_own kind.WeakReference = refl
named_own kind.Uri = refl

small_byte : (k n : ℕ) → byte_at k n < 256
small_byte zero n = omega arith
small_byte (suc k) n = omega arith

low_bytes : (k n : ℕ) → All (λ b. b < 256) (bytes_high_first k n)
low_bytes zero n = All-nil (λ b. b < 256)
low_bytes (suc k) n = All-cons (λ b. b < 256) _ _ (small_byte k n) (low_bytes k n)

-- the text of an identifier names it
pub identifier_back : (id : ℕ) → id < 2 ^ 128 → identifier_named (identifier_text id) ≡ Some id
identifier_back id fits =
    let bytes = to_be_bytes w128 id in
    let read = parses_hyphenated_text lower bytes (inl refl) refl (low_bytes 16 id) in
    ap (option_map (from_be_bytes w128)) (sym read) ∙ ap Some (from_be_bytes-to_be_bytes_16 id fits)
