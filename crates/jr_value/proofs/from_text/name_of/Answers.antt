use Rattle.std.proofs.Common.{refl, None}
use Rattle.jr_value.specs.declared.value.Value.TheVariants.{Name}
use Rattle.jr_value.proofs.Texts.{name_refused}
use Rattle.jr_value.proofs.from_text.name_of.Goals as goal

pub returns-in_ok-refused-in-Err : goal.returns-in_ok-refused-in-Err
returns-in_ok-refused-in-Err c = λ is. name_refused c.args.text.now c.in-Err.fault None c.in-Err.ensures.fault (refl, c.in_ok-refused-in-Err.ensures) (Name c.args.text.now) (is, refl)
