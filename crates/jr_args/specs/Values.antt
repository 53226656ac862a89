-- Names, paths and values, as arguments of commands.
use Rattle.std.specs.Prelude.{◌≡◌, ℕ, List, []}
use Rattle.serde_json.specs.Data.{Data}
use Rattle.jr_path.specs.Grammar.{IsName}
use Rattle.jr_path.specs.Paths.{IsPath}
use Rattle.jr_path.specs.declared.fault.PathFault.{PathFault}
use Rattle.jr_path.specs.declared.fault.PathFault.TheVariants as path_fault
use Rattle.jr_path.specs.declared.name.Name.{Name}
use Rattle.jr_path.specs.declared.path.Path.{Path}
use Rattle.jr_json.specs.Reading.{IsPropertyJson, IsValueJson}
use Rattle.jr_value.specs.declared.value.Property.{Property}
use Rattle.jr_value.specs.declared.value.Value.{Value}
use Rattle.jr_args.specs.declared.fault.Fault.{Fault}
use Rattle.jr_args.specs.declared.fault.Fault.TheVariants as fault
use Rattle.jr_args.specs.Outcomes.{Reading, judged}

-- a name of the grammar, else rule 6
abbrev pub name_of : List ℕ → Reading Name
name_of text = judged (λ name. IsName text × (name ≡ text)) 6

-- a path of the grammar, of any depth and length, else rule 6
abbrev pub path_of : List ℕ → Reading Path
path_of text = judged (IsPath text) 6

-- the fault where a text isn't read as a name or path
abbrev pub refused : PathFault → Fault
refused path_fault.Memory = fault.Memory
refused (path_fault.BadName offset) = fault.Bad 6 []
refused (path_fault.BadPath offset) = fault.Bad 6 []
refused (path_fault.TooDeep depth) = fault.Bad 6 []
refused (path_fault.TooLong bytes) = fault.Bad 6 []

-- the value or values of a property, else rule 7
abbrev pub property_read : Data → Reading Property
property_read d = judged (IsPropertyJson d) 7

-- one value, else rule 7
abbrev pub value_of : Data → Reading Value
value_of d = judged (IsValueJson d) 7
