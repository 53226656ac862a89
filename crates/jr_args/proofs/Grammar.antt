-- Texts that are no names or paths, and JSON that is no value.
use Rattle.std.proofs.Common.{◌≡◌, ℕ, List, Result, Ok, Err, refl}
use Rattle.std.specs.Result.{IsErrAnd}
use Rattle.serde_json.specs.Data.{Data}
use Rattle.jr_path.specs.Grammar.{IsName, RefusesName}
use Rattle.jr_path.specs.Paths.{IsPathText, RefusesText}
use Rattle.jr_path.specs.declared.fault.PathFault.{PathFault}
use Rattle.jr_path.specs.declared.fault.PathFault.TheVariants.{BadName, BadPath, TooDeep, TooLong, Memory}
use Rattle.jr_path.proofs.TextLaws.{one_fault}
use Rattle.jr_value.specs.declared.value.Property.TheVariants.{Single}
use Rattle.jr_value.specs.declared.value.Value.{Value}
use Rattle.jr_args.specs.declared.fault.Fault.{Fault}
use Rattle.jr_args.specs.declared.fault.Fault.TheVariants as fault
use Rattle.jr_args.specs.Outcomes.{Answers}
use Rattle.jr_args.specs.Values.{name_of, path_of, property_read, refused, value_of}

pub no_name : (text : List ℕ) (e : PathFault) → RefusesName text e → Answers (name_of text) (Err (refused e))
no_name text (BadName offset) h = (refl, refl, λ n g. (one_fault IsName).none text offset h g.0)
no_name text (BadPath offset) h = absurd h
no_name text (TooDeep depth) h = absurd h
no_name text (TooLong bytes) h = absurd h
no_name text Memory h = tt

pub no_path : (text : List ℕ) (e : PathFault) → RefusesText text e → Answers (path_of text) (Err (refused e))
no_path text (BadPath offset) h = (refl, refl, λ p g. (one_fault IsPathText).none text offset h (p, g))
no_path text (BadName offset) h = absurd h
no_path text (TooDeep depth) h = absurd h
no_path text (TooLong bytes) h = absurd h
no_path text Memory h = tt

-- what is no property is no value
pub no_value : (d : Data) (e : Fault) (r : Result Value Fault) → IsErrAnd r (λ f. f ≡ e) → Answers (property_read d) (Err e) → Answers (value_of d) r
no_value d e (Ok x) h g = absurd h
no_value d (fault.Bad rule steps) (Err f) h g = rw h (g.0, g.1, λ x i. g.2 (Single x) i)
no_value d fault.Memory (Err f) h g = rw h tt
