-- The node types of a script.
use Rattle.std.specs.Prelude.{◌≡◌, ◌⊎◌, ℕ, ◌+◌, List, [], ◌∷◌, ◌++◌, None, Result, Ok, Err, ⊤}
use Rattle.serde_json.specs.Data.{Data, Items, array, string, no_items, item}
use Rattle.jr_tree.specs.Trees.{initial_tree}
use Rattle.jr_builtin.specs.Builtin.{builtin}
use Rattle.jr_defs.specs.Reading.{IsTypeJson}
use Rattle.jr_types.specs.Rules.{TypesOk, type_fault}
use Rattle.jr_types.specs.declared.TypeDef.{TypeDef}
use Rattle.jr_cnd.specs.Meaning.{IsMeaning}
use Rattle.cnd_print.specs.Printable.{KeepRules}
use Rattle.jr_cnd.specs.declared.cnd.Cnd.{Cnd}
use Rattle.jr_cnd.specs.declared.fault.NoCnd.TheVariants as no
use Rattle.jr_args.specs.declared.fault.Fault.{Fault}
use Rattle.jr_args.specs.declared.fault.Step.TheVariants.{Index}
use Rattle.jr_args.specs.Outcomes.{Answers, Means, Breaks, Reading, Then, is, judged, under}
use Rattle.jr_script.specs.declared.script.TextFault.{TextFault}

-- the JSON defines a type that may be added to these, and with it they are those
abbrev pub IsWith : List TypeDef → Data → List TypeDef → Type 0
IsWith types d more = (t : TypeDef) × IsTypeJson d t × (type_fault types t ≡ None)
    × (more ≡ types ++ t ∷ [])

-- one more type, else rule 9
abbrev pub with_type : List TypeDef → Data → Reading (List TypeDef)
with_type types d = judged (IsWith types d) 9

-- the types with each of a list added, in order; i is the number of the first
abbrev pub added : List TypeDef → ℕ → Items → Reading (List TypeDef)
added types i no_items = is (Means types)
added types i (item d ds) =
    Then (under (Index i) (with_type types d)) (λ more. added more (i + 1) ds)

-- types, or why their text has none
abbrev pub Types : Type 0
Types = Result (List TypeDef) TextFault

-- the built-in types with each of a list added
abbrev pub listed_of : Items → Reading Types
listed_of ds = Then (added builtin 0 ds) (λ types. is (Means (Ok types)))

-- the offset at which a text fails: by the grammar of type definitions, or by a definition that
-- can't be added
abbrev pub FailsAt : List ℕ → ℕ → Type 0
FailsAt text at = IsMeaning text (Err (no.Syntax at)) ⊎ IsMeaning text (Err (no.BadDef at))

-- the built-in types and those that a text defines
abbrev pub written_of : List ℕ → Reading Types
written_of text (Means (Ok types)) =
    (cnd : Cnd) × IsMeaning text (Ok cnd) × (types ≡ builtin ++ cnd.definitions)
written_of text (Means (Err fault)) = FailsAt text fault.offset
written_of text (Breaks rule steps) = ⊥

-- a list of definitions, or a text, else rule 9
abbrev pub types_read : Data → Reading Types
types_read (array ds) = listed_of ds
types_read (string text) = written_of text
types_read _ = is (Breaks 9 [])

-- the types are what the reading means, or the result is the rule that it breaks; or memory was
-- refused
abbrev pub GivesTypes : Reading (List TypeDef) → List TypeDef → Result ⊤ Fault → Type 0
GivesTypes M types (Ok u) = M (Means types)
GivesTypes M types (Err fault) = Answers M (Err fault)

-- the built-in types and more, of which each may be added to those before it; the initial tree
-- meets their rules
pub record AreTypes (types : List TypeDef) : Type 0 where
  pub more : List TypeDef
  pub begin : types ≡ builtin ++ more
  pub rules : KeepRules builtin more
  pub typed : TypesOk types initial_tree
