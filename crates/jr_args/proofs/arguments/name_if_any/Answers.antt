use Rattle.std.proofs.Common.{sym}
use Rattle.jr_args.proofs.arguments.name_if_any.Goals as goal

pub returns-in-Some : goal.returns-in-Some
returns-in-Some c = rw (sym c.in-Some.ensures) c.some_name.ensures
