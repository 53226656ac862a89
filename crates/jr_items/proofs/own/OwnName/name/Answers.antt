use Rattle.jr_items.proofs.OwnNames.{names_in_grammar}
use Rattle.jr_items.proofs.own.OwnName.name.Goals as goal

pub of-requires : goal.of-requires
of-requires c = rw c.as_str.ensures (names_in_grammar c.args.self)
