-- What words say of kinds.
use Rattle.std.proofs.Common.{ℕ, Result, Option, Some, None, List, ◌≡◌, false, sym, ap, ◌∙◌, subst}
use Rattle.std.specs.Prelude.{codes}
use Rattle.std.specs.Str.{bytes_eq}
use Rattle.std.proofs.lemmas.Bool.{false≢true}
use Rattle.std.proofs.lemmas.Option.{none-some}
use Rattle.serde_json.specs.Data.{Data, null, boolean, number, string, array, object}
use Rattle.serde_json.specs.Find.{as_str}
use Rattle.jr_value.specs.Words.{all_kinds, kind_named, kind_text}
use Rattle.jr_value.specs.declared.value.Kind.{Kind}
use Rattle.jr_value.proofs.Named.{named_has, named_own}
use Rattle.jr_defs.specs.declared.reading.NoType.{NoType}
use Rattle.jr_defs.specs.Reading.{IsKindJson, Reads}

-- the text that JSON is, or what is left in its place
abbrev text_of : Data → List ℕ → List ℕ
text_of (string s) left = s
text_of _ left = left

-- a kind that a word names has it
pub kind_read : (word : List ℕ) (k : Kind) → Some k ≡ kind_named all_kinds word → string word ≡ string (kind_text k)
kind_read word k h = ap string (sym (named_has all_kinds word k h))

-- a word that names none is no kind's
pub no_kind : (word : List ℕ) → bytes_eq word (codes "undefined") ≡ false → None ≡ kind_named all_kinds word → (o : Option Kind) → IsKindJson (string word) o → ⊥
no_kind word other h None q = false≢true (sym (subst (λ w. bytes_eq w (codes "undefined") ≡ false) (ap (λ d. text_of d word) q) other))
no_kind word other h (Some k) q = none-some k (h ∙ (ap (λ d. kind_named all_kinds (text_of d word)) q ∙ named_own k))

-- the JSON is the word that is read in it
pub of_word : (d : Data) (word : List ℕ) (r : Result (Option Kind) NoType) → as_str d ≡ Some word → Reads (IsKindJson (string word)) r → Reads (IsKindJson d) r
of_word (string s) word r h g = subst (λ w. Reads (IsKindJson (string w)) r) (sym (ap (λ o. value o) h)) g
  where
    value : Option (List ℕ) → List ℕ
    value None = s
    value (Some w) = w
of_word null word r h g = absurd (none-some word h)
of_word (boolean b) word r h g = absurd (none-some word h)
of_word (number n) word r h g = absurd (none-some word h)
of_word (array ds) word r h g = absurd (none-some word h)
of_word (object ms) word r h g = absurd (none-some word h)
