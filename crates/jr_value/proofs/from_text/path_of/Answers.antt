use Rattle.std.proofs.Common.{refl, None}
use Rattle.jr_value.specs.declared.value.Value.TheVariants.{Path}
use Rattle.jr_value.proofs.Texts.{path_refused}
use Rattle.jr_value.proofs.from_text.path_of.Goals as goal

pub returns-in_ok-refused-in-Err : goal.returns-in_ok-refused-in-Err
returns-in_ok-refused-in-Err c = λ path is. path_refused c.args.text.now c.in-Err.fault None c.in-Err.ensures.fault (refl, c.in_ok-refused-in-Err.ensures) (Path path) (path, is, refl)
