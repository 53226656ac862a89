-- A name in one case is a name.
use Rattle.std.proofs.Common.{ℕ, List, map}
use Rattle.jr_path.specs.Grammar.{IsName}
use Rattle.jr_path.proofs.Cases.{lower_keeps, name_kept, upper_keeps}
use Rattle.sql_values.specs.declared.characters.Case.{Case}
use Rattle.sql_values.specs.declared.characters.Case.TheVariants.{Lower, Upper}
use Rattle.sql_values.specs.Texts.{cased}

pub cased_name : (case : Case) (text : List ℕ) → IsName text → IsName (map (cased case) text)
cased_name Lower text name = name_kept _ lower_keeps text name
cased_name Upper text name = name_kept _ upper_keeps text name
