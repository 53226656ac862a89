-- JSON Pointers (RFC 6901).
use Rattle.std.specs.Prelude.{ℕ, ◌==◌, List, ◌∷◌, [], cond, codes}
use Rattle.std.specs.Char.{encode_utf8}
use Rattle.std.specs.Fmt.{decimal}
use Rattle.std.specs.List.{flat_map}
use Rattle.jr_args.specs.declared.fault.Step.{Step}
use Rattle.jr_args.specs.declared.fault.Step.TheVariants.{Key, Index}

-- `~` (126) is written `~0`, and `/` (47) `~1`
abbrev pub escaped_pointer : ℕ → List ℕ
escaped_pointer byte = cond (byte == 126) (codes "~0") (cond (byte == 47) (codes "~1") (byte ∷ []))

-- the same of a character in UTF-8
abbrev pub pointer_character : ℕ → List ℕ
pointer_character c = cond (c == 126) (codes "~0") (cond (c == 47) (codes "~1") (encode_utf8 c))

-- a member by its key, and an item by its number in decimal digits
abbrev pub step_text : Step → List ℕ
step_text (Key key) = flat_map escaped_pointer key
step_text (Index index) = decimal index

-- each step after a `/`
abbrev pub pointer_text : List Step → List ℕ
pointer_text steps = flat_map (λ step. 47 ∷ step_text step) steps
