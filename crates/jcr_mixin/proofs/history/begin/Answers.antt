use Rattle.std.proofs.Common.{subst}
use Rattle.jcr_ref.specs.Histories.{BeginsHistory}
use Rattle.jcr_mixin.proofs.Names.{identifier_named}
use Rattle.jcr_mixin.proofs.history.begin.Goals as goal

pub unreachable-requires : goal.unreachable-requires
unreachable-requires c = subst (BeginsHistory c.args.nodes c.args.path.now (record c.args.who.now { ids = c.args.ids.now })) c.in-Ok-None.field-0-is c.in-Ok-None.ensures (identifier_named c.args.nodes c.args.path.now c.requires)
