-- The texts of names (JSR 283, 3.2 Names) in UTF-8, and where a text stops being one.
use Rattle.std.specs.Prelude.{◌≡◌, ◌≢◌, ℕ, ◌+◌, ◌<◌, ◌≤◌, Bool, true, ◌||◌, ◌==◌, not, List, [], ◌∷◌, ◌++◌, ◌⊎◌, IsTrue, length, take, codes}
use Rattle.std.specs.Char.{is_ascii_alphanumeric, is_control}
use Rattle.std.specs.List.{list_all, list_any}
use Rattle.std.specs.Str.{all_scalars, encode_utf8_all}
use Rattle.jr_path.specs.declared.fault.PathFault.{PathFault}
use Rattle.jr_path.specs.declared.fault.PathFault.TheVariants.{BadName, Memory}

-- a letter or a digit of ASCII, `_`, `-` or `.`
abbrev pub is_prefix_character : ℕ → Bool
is_prefix_character c = is_ascii_alphanumeric c || list_any (λ d. c == d) (codes "_-.")

-- no control character (Unicode's category Cc), and none of `/ : [ ] | *`
abbrev pub is_plain : ℕ → Bool
is_plain c = not (is_control c || list_any (λ d. c == d) (codes "/:[]|*"))

-- one or more characters that all pass
abbrev pub OneOrMore : (ℕ → Bool) → List ℕ → Type 0
OneOrMore passes cs = (cs ≢ []) × IsTrue (list_all passes cs)

-- a prefix, a colon (58) and plain characters
pub record IsPrefixed (cs : List ℕ) : Type 0 where
  pub prefix : List ℕ
  pub local : List ℕ
  pub split : cs ≡ prefix ++ 58 ∷ local
  pub is_prefix : OneOrMore is_prefix_character prefix
  pub is_local : OneOrMore is_plain local

-- a name has 1 to 255 bytes, a prefix before a colon or none, no space (32) at either end, and isn't `.` or `..`
pub record IsName (text : List ℕ) : Type 0 where
  pub characters : List ℕ
  pub scalar : all_scalars characters ≡ true
  pub spelled : text ≡ encode_utf8_all characters
  pub form : OneOrMore is_plain characters ⊎ IsPrefixed characters
  pub size : length text ≤ 255
  pub first : (more : List ℕ) → characters ≢ 32 ∷ more
  pub last : (front : List ℕ) → characters ≢ front ++ 32 ∷ []
  pub no_dot : text ≢ codes "."
  pub no_dots : text ≢ codes ".."

-- some text of the grammar begins so
abbrev pub Begins : (List ℕ → Type 0) → List ℕ → Type 0
Begins Grammar front = (more : List ℕ) × Grammar (front ++ more)

-- Up to the offset the text begins as a text of the grammar does, and with one more byte it doesn't;
-- or the offset is the text's end, and the whole isn't in the grammar.
pub record IsFirstFault (Grammar : List ℕ → Type 0) (text : List ℕ) (offset : ℕ) : Type 0 where
  pub within : offset ≤ length text
  pub before : Begins Grammar (take offset text)
  pub there : offset < length text → Begins Grammar (take (offset + 1) text) → ⊥
  pub at_end : offset ≡ length text → Grammar text → ⊥

-- what a text that isn't read as a name is answered with
abbrev pub RefusesName : List ℕ → PathFault → Type 0
RefusesName text (BadName offset) = IsFirstFault IsName text offset
RefusesName text Memory = Unit {0}
RefusesName text _ = ⊥

-- a text has one first fault at most, and none where it is in the grammar
pub record HasOneFault (Grammar : List ℕ → Type 0) : Type 0 where
  pub one : (text : List ℕ) (a b : ℕ) → IsFirstFault Grammar text a → IsFirstFault Grammar text b → a ≡ b
  pub none : (text : List ℕ) (a : ℕ) → IsFirstFault Grammar text a → Grammar text → ⊥
