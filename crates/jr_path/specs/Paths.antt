-- The texts of paths (JSR 283, 3.4 Paths), and what reading one answers.
use Rattle.std.specs.Prelude.{◌≡◌, ℕ, ◌<◌, ◌≤◌, ◌⊎◌, All, IfErr, IfOk, List, Result, Ok, Err, length}
use Rattle.jr_path.specs.Grammar.{IsFirstFault, IsName, RefusesName}
use Rattle.jr_path.specs.Ids.{path_text}
use Rattle.jr_path.specs.declared.fault.PathFault.{PathFault}
use Rattle.jr_path.specs.declared.fault.PathFault.TheVariants as fault
use Rattle.jr_path.specs.declared.path.Path.{Path}
use Rattle.jr_path.specs.declared.path_text.PathText.{PathText}
use Rattle.jr_path.specs.declared.path_text.PathText.TheVariants.{Within, TooDeep, TooLong}

-- the text is `/`, or each of the names after a `/`
pub record IsPath (text : List ℕ) (names : Path) : Type 0 where
  pub are_names : All IsName names
  pub spelled : text ≡ path_text names

-- a text is the text of some path
abbrev pub IsPathText : List ℕ → Type 0
IsPathText text = (names : Path) × IsPath text names

-- the text of a path of so many names
abbrev pub HasDepth : List ℕ → ℕ → Type 0
HasDepth text depth = (names : Path) × IsPath text names × (depth ≡ length names)

-- what a path's text is by the limits of 64 names and 1,024 bytes: within both, or the first that it passes
abbrev pub Measures : List ℕ → PathText → Type 0
Measures text (Within path) = IsPath text path × (length path ≤ 64) × (length text ≤ 1024)
Measures text (TooDeep depth) = HasDepth text depth × (64 < depth)
Measures text (TooLong bytes) = ((depth : ℕ) × HasDepth text depth × (depth ≤ 64)) × (bytes ≡ length text) × (1024 < bytes)

-- what a text that isn't in the grammar is answered with
abbrev pub RefusesText : List ℕ → PathFault → Type 0
RefusesText text (fault.BadPath offset) = IsFirstFault IsPathText text offset
RefusesText text fault.Memory = Unit {0}
RefusesText text _ = ⊥

-- what a text that isn't a path within the limits is answered with
abbrev pub RefusesPath : List ℕ → PathFault → Type 0
RefusesPath text (fault.BadPath offset) = IsFirstFault IsPathText text offset
RefusesPath text (fault.TooDeep depth) = Measures text (TooDeep depth)
RefusesPath text (fault.TooLong bytes) = Measures text (TooLong bytes)
RefusesPath text fault.Memory = Unit {0}
RefusesPath text (fault.BadName offset) = ⊥

-- what reads a name by the grammar reads each name's text as that name, unless memory is refused
abbrev pub NamesReadBack : Type 0
NamesReadBack = (name : List ℕ) (result : Result (List ℕ) PathFault) → IsName name → IfOk result (λ read. read ≡ name) → IfErr result (RefusesName name) → (result ≡ Ok name) ⊎ (result ≡ Err fault.Memory)

-- the same of a path within the limits
abbrev pub PathsReadBack : Type 0
PathsReadBack = (path : Path) (result : Result Path PathFault) → All IsName path → length path ≤ 64 → length (path_text path) ≤ 1024
    → IfOk result (λ read. Measures (path_text path) (Within read)) → IfErr result (RefusesPath (path_text path)) → (result ≡ Ok path) ⊎ (result ≡ Err fault.Memory)
