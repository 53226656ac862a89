use Rattle.jr_script.proofs.Adding.{defined_types}
use Rattle.jr_script.proofs.types.written.Goals as goal

pub defined-requires : goal.defined-requires
defined-requires c = (c.meanings_can_be_printed.ensures c.args.text.now _ c.in-Ok.ensures).rules

pub returns-in-Ok : goal.returns-in-Ok
returns-in-Ok c = defined_types c.args.text.now _ _ c.in-Ok.ensures c.defined.ensures
