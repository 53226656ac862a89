-- What a text of type definitions means.
use Rattle.std.specs.Prelude.{◌≡◌, ℕ, List, [], ◌∷◌, ◌++◌, Option, None, Some, is_some, true, Result, Ok, Err, if◌then◌else◌, length, map}
use Rattle.jr_builtin.specs.Builtin.{builtin}
use Rattle.jr_types.specs.Rules.{type_fault}
use Rattle.jr_types.specs.declared.TypeDef.{TypeDef}
use Rattle.jr_cnd.specs.Grammar.{file_at}
use Rattle.cnd_pieces.specs.Pieces.{IsReadAs}
use Rattle.jr_cnd.specs.declared.cnd.Cnd.{Cnd}
use Rattle.jr_cnd.specs.declared.fault.NoCnd.{NoCnd}
use Rattle.jr_cnd.specs.declared.fault.NoCnd.TheVariants as no
use Rattle.jr_cnd.specs.declared.file.File.{File}
use Rattle.jr_cnd.specs.declared.file.PlacedType.{PlacedType}
use Rattle.cnd_pieces.specs.declared.piece.Placed.{Placed}

-- the place of the first definition that breaks a rule of the registry, over the types there and the definitions before it
abbrev pub first_bad : List TypeDef → List PlacedType → Option ℕ
first_bad types [] = None
first_bad types (d ∷ ds) =
    if is_some (type_fault types d.definition) then Some d.start
    else first_bad (types ++ d.definition ∷ []) ds

-- what registering a definition is answered, and what it makes of the types
abbrev pub IsRegistering : List TypeDef → PlacedType → List TypeDef → Result (Unit {0}) NoCnd → Type 0
IsRegistering old d new (Ok u) =
    (type_fault old d.definition ≡ None) × (new ≡ old ++ d.definition ∷ [])
IsRegistering old d new (Err (no.BadDef start)) =
    (is_some (type_fault old d.definition) ≡ true) × (start ≡ d.start)
IsRegistering old d new (Err no.Memory) = Unit {0}
IsRegistering old d new (Err (no.Syntax offset)) = ⊥

-- what a search for the first bad definition is answered
abbrev pub IsJudged : Option ℕ → Result (Unit {0}) NoCnd → Type 0
IsJudged found (Ok u) = found ≡ None
IsJudged found (Err (no.BadDef start)) = found ≡ Some start
IsJudged found (Err no.Memory) = Unit {0}
IsJudged found (Err (no.Syntax offset)) = ⊥

-- the prefixes and the definitions of a file, without their places
abbrev pub cnd_of : File → Cnd
cnd_of file = record { prefixes = file.prefixes; definitions = map (λ d. d.definition) file.types }

-- what a file of the grammar means: its definitions keep the rules, over the built-in types; or the first that doesn't
abbrev pub judged_file : File → Result Cnd NoCnd
judged_file file = elim (first_bad builtin file.types) [
  | None ↦ Ok (cnd_of file)
  | Some start ↦ Err (no.BadDef start)
]

-- what pieces mean, in a text of a length: faults of the grammar come before those of the definitions
abbrev pub meaning : List Placed → ℕ → Result Cnd NoCnd
meaning pieces stop = elim (file_at (record { pieces = pieces; stop = stop })) [
  | Ok r ↦ judged_file r.0
  | Err offset ↦ Err (no.Syntax offset)
]

-- the answer is what is meant, unless memory is refused
abbrev pub IsAsMeant : Result Cnd NoCnd → Result Cnd NoCnd → Type 0
IsAsMeant (Err no.Memory) meant = Unit {0}
IsAsMeant result meant = meant ≡ result

-- what a text means
abbrev pub IsMeaning : List ℕ → Result Cnd NoCnd → Type 0
IsMeaning text result =
    (pieces : List Placed) × IsReadAs text pieces × (meaning pieces (length text) ≡ result)

-- what a text is answered: what it means, unless memory is refused
abbrev pub IsCndAnswer : List ℕ → Result Cnd NoCnd → Type 0
IsCndAnswer text (Err no.Memory) = Unit {0}
IsCndAnswer text result = IsMeaning text result
