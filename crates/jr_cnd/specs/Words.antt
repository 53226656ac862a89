-- The attributes that words name, in any case of their letters.
use Rattle.std.specs.Prelude.{ℕ, Bool, ◌||◌, List, [], ◌∷◌, Option, None, Some, option_map, if◌then◌else◌, find, codes}
use Rattle.cnd_pieces.specs.Words.{is_a}
use Rattle.jr_types.specs.Attributes.{opv_text}
use Rattle.jr_types.specs.declared.OnParentVersion.{OnParentVersion}
use Rattle.jr_types.specs.declared.OnParentVersion.TheVariants as opv
use Rattle.jr_cnd.specs.declared.words.TypeWord.{TypeWord}
use Rattle.jr_cnd.specs.declared.words.TypeWord.TheVariants as type
use Rattle.jr_cnd.specs.declared.words.ItemWord.{ItemWord}
use Rattle.jr_cnd.specs.declared.words.ItemWord.TheVariants as item

-- the word, or its one letter
abbrev pub is_either : List ℕ → List ℕ → List ℕ → Bool
is_either whole short word = is_a whole word || is_a short word

-- the attributes of what a check-in of the parent does
abbrev pub all_opvs : List OnParentVersion
all_opvs = opv.Copy ∷ opv.Version ∷ opv.Initialize ∷ opv.Compute ∷ opv.Ignore ∷ opv.Abort ∷ []

-- the one of these that a word names
abbrev pub opv_named : List ℕ → Option OnParentVersion
opv_named word = find (λ o. is_a (opv_text o) word) all_opvs

-- the attribute of a type that a word names
abbrev pub type_word : List ℕ → Option TypeWord
type_word word =
    if is_either (codes "mixin") (codes "m") word then Some type.Mixin
    else (if is_either (codes "abstract") (codes "a") word then Some type.Abstract
    else (if is_either (codes "orderable") (codes "o") word then Some type.Orderable
    else (if is_a (codes "primaryitem") word then Some type.PrimaryItem else None)))

-- the attribute of an item that a word names
abbrev pub item_word : List ℕ → Option ItemWord
item_word word =
    if is_either (codes "mandatory") (codes "m") word then Some item.Mandatory
    else (if is_either (codes "autocreated") (codes "a") word then Some item.Autocreated
    else (if is_either (codes "protected") (codes "p") word then Some item.Protected
    else (if is_a (codes "multiple") word then Some item.Multiple
    else option_map item.Opv (opv_named word))))
