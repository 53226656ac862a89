-- The names, paths and values of a script are those of the grammar.
use Rattle.std.proofs.Common.{◌≡◌, ◌∙◌, ℕ, zero, suc, ◌<◌, ◌^◌, Bool, true, ◌&&◌, if◌then◌else◌, pos, List, [], ◌∷◌, ◌++◌, Some, None, option_map, IsUtf8, codes, decimal, inl, inr, refl, sym, ap, arith, append-nil, lt-ltb}
use Rattle.std.proofs.lemmas.Bool.{and_parts, cases_eq}
use Rattle.std.proofs.lemmas.List.Elements.{All-cons, All-nil}
use Rattle.std.proofs.lemmas.Str.{IsUtf8-append}
use Rattle.std.specs.Fmt.{digits}
use Rattle.json.proofs.Printed.Utf8.{IsUtf8-are_ascii}
use Rattle.serde_json.specs.Data.{number, unsigned}
use Rattle.jr_path.specs.Grammar.{IsName}
use Rattle.jr_path.specs.Paths.{IsPath}
use Rattle.jr_path.proofs.OwnNames.{is_plain_name, plain_name}
use Rattle.jr_json.specs.Reading.{IsPropertyJson}
use Rattle.jr_value.specs.declared.value.Property.TheVariants.{Single}
use Rattle.jr_value.specs.declared.value.Value.TheVariants as value
use Rattle.jr_gen.specs.Scripts.{session_node, property_name, property_path}

-- ---- what a test says of each number below another

abbrev all_below : (ℕ → Bool) → ℕ → Bool
all_below test zero = true
all_below test (suc n) = test n && all_below test n

one_below : (test : ℕ → Bool) (n : ℕ) → all_below test n ≡ true → (k : ℕ) → k < n → test k ≡ true
one_below test zero h k less = absurd (omega (arith, less))
one_below test (suc n) h k less =
    let p = and_parts (test n) (all_below test n) h in
    elim (cases_eq k n) [
      | inl same ↦ ap test same ∙ p.0
      | inr other ↦ one_below test n p.1 k (omega (arith, less, other))
    ]

-- ---- names

-- the name of the node of session s
abbrev pub node_name : ℕ → List ℕ
node_name s = codes "g" ++ decimal s

node_names : all_below (λ s. is_plain_name (node_name s)) 64 ≡ true
unfolding digits
node_names = refl

property_names : all_below (λ i. is_plain_name (property_name i)) 8 ≡ true
unfolding digits
property_names = refl

node_named : (s : ℕ) → s < 64 → IsName (node_name s)
node_named s less =
    plain_name (node_name s) (one_below (λ s. is_plain_name (node_name s)) 64 node_names s less)

pub property_named : (i : ℕ) → i < 8 → IsName (property_name i)
property_named i less =
    plain_name (property_name i) (one_below (λ i. is_plain_name (property_name i)) 8 property_names i less)

-- ---- paths

-- a name is text, and so is what names spell behind slashes
pub name_utf8 : (text : List ℕ) → IsName text → IsUtf8 text
name_utf8 text h = (h.characters, (h.scalar, sym h.spelled))

slash_utf8 : (text : List ℕ) → IsUtf8 text → IsUtf8 (codes "/" ++ text)
slash_utf8 text h = IsUtf8-append (codes "/") text (IsUtf8-are_ascii (codes "/") refl) h

pub node_utf8 : (s : ℕ) → s < 64 → IsUtf8 (session_node s)
node_utf8 s less = slash_utf8 (node_name s) (name_utf8 (node_name s) (node_named s less))

pub property_utf8 : (s i : ℕ) → s < 64 → i < 8 → IsUtf8 (property_path s i)
property_utf8 s i less few =
    IsUtf8-append (session_node s) (codes "/" ++ property_name i) (node_utf8 s less)
    (slash_utf8 (property_name i) (name_utf8 (property_name i) (property_named i few)))

pub node_is_path : (s : ℕ) → s < 64 → IsPath (session_node s) (node_name s ∷ [])
node_is_path s less = record {
  are_names = All-cons IsName (node_name s) [] (node_named s less) (All-nil IsName);
  spelled = sym (append-nil (session_node s));
}

pub property_is_path : (s i : ℕ) → s < 64 → i < 8 → IsPath (property_path s i) (node_name s ∷ property_name i ∷ [])
property_is_path s i less few = record {
  are_names =
      All-cons IsName (node_name s) (property_name i ∷ []) (node_named s less)
      (All-cons IsName (property_name i) [] (property_named i few) (All-nil IsName));
  spelled = ap (λ (text : List ℕ). session_node s ++ text) (sym (append-nil (codes "/" ++ property_name i)));
}

-- ---- values

-- a number below 2 ^ 63 is a LONG
pub number_is_long : (n : ℕ) → n < 2 ^ 63 → IsPropertyJson (number (unsigned n)) (Single (value.Long (pos n)))
number_is_long n less =
    sym (ap (λ (b : Bool). option_map value.Long (if b then Some (pos n) else None)) (lt-ltb n (2 ^ 63) less))
