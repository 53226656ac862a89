use Rattle.std.proofs.Common.{subst}
use Rattle.jcr_trans.specs.declared.command.Command.{Command}
use Rattle.jcr_run.specs.Standing.{IsReadyFor}
use Rattle.jcr_session.proofs.Tidying.{split_told}
use Rattle.jcr_session.proofs.tidy.split_of.Goals as goal

pub next_split-requires : goal.next_split-requires
next_split-requires c = record { ready = subst (λ (m : Command). IsReadyFor c.args.run.now m) c.in-Split.is c.requires.ready }

pub unreachable-requires : goal.unreachable-requires
unreachable-requires c = c.in_default.not-Split c.requires.split.0 c.requires.split.1

pub returns : goal.returns
returns c = split_told c.args.run.now c.args.command.now c.in-Split.path c.next_split.result c.in-Split.is c.next_split.ensures
