-- Texts of node types: what their bytes define, and the fault that they have.
use Rattle.std.specs.Prelude.{◌≡◌, ◌⊎◌, ℕ, List, Ok, IsUtf8}
use Rattle.std.specs.Str.{IsValidUpTo}
use Rattle.jr_cnd.specs.Meaning.{IsMeaning}
use Rattle.cnd_print.specs.Printing.{cnd_text}
use Rattle.jr_cnd.specs.declared.cnd.Cnd.{Cnd}
use Rattle.jr_script.specs.Types.{FailsAt}

-- the bytes are a text that defines these node types
abbrev pub Defines : List ℕ → Cnd → Type 0
Defines bytes cnd = IsUtf8 bytes × IsMeaning bytes (Ok cnd)

-- the canonical text of what the bytes define
abbrev pub IsCanonical : List ℕ → List ℕ → Type 0
IsCanonical bytes text = (cnd : Cnd) × Defines bytes cnd × (text ≡ cnd_text cnd)

-- the offset of the fault of the bytes: the first that isn't UTF-8; or else that of their text
abbrev pub FaultsAt : List ℕ → ℕ → Type 0
FaultsAt bytes at = IsValidUpTo bytes at ⊎ (IsUtf8 bytes × FailsAt bytes at)
