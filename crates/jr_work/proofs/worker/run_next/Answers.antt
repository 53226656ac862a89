use Rattle.std.proofs.Common.{refl}
use Rattle.jr_work.proofs.Dealing.{not_empty, own_taken}
use Rattle.jr_work.proofs.worker.run_next.Goals as goal

pub run_session-requires-clause-commands : goal.run_session-requires-clause-commands
run_session-requires-clause-commands g c = (own_taken c.args.crew.now.script.now.value c.args.crew.now.workers _ c.args.s c.args.hand.now c.requires.there c.requires.hand refl c.in-Some.commands c.next.new.self c.in-Some.ensures).0

pub unreachable-requires : goal.unreachable-requires
unreachable-requires g c = not_empty c.args.crew.now.script.now.value c.args.crew.now.workers _ c.args.s c.args.hand.now c.requires.there c.requires.hand refl c.in-None.ensures

pub returns-clause-hand : goal.returns-clause-hand
returns-clause-hand g c = (own_taken c.args.crew.now.script.now.value c.args.crew.now.workers _ c.args.s c.args.hand.now c.requires.there c.requires.hand refl c.in-Some.commands c.next.new.self c.in-Some.ensures).1
