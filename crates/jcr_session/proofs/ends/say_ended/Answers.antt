use Rattle.std.proofs.Common.{subst}
use Rattle.oak_commit.specs.declared.outcome.CommitEnd.{CommitEnd}
use Rattle.oak_commit.specs.declared.outcome.CommitEnd.TheVariants as commit
use Rattle.jcr_run.specs.declared.run.Phase.TheVariants as phase
use Rattle.jcr_run.specs.Standing.{Stands}
use Rattle.jcr_session.proofs.Ending.{clash_ended, end_room, memory_forgoes}
use Rattle.jcr_session.proofs.ends.say_ended.Goals as goal

pub say_committed-requires : goal.say_committed-requires
say_committed-requires g c = record { stands = subst (λ (e : CommitEnd). Stands (g.P.Port.law c.args.port.now) (g.P.Port.shown c.args.port.now) (record c.args.run.now { phase = phase.Committed e c.args.pledge })) c.in-Committed.is c.requires.stands }

pub say_clash-requires : goal.say_clash-requires
say_clash-requires g c = record { clash = clash_ended (g.P.Port.law c.args.port.now) (g.P.Port.shown c.args.port.now) c.args.run.now c.args.pledge c.in-Clash.item c.in-Clash.other (subst (λ (e : CommitEnd). Stands (g.P.Port.law c.args.port.now) (g.P.Port.shown c.args.port.now) (record c.args.run.now { phase = phase.Committed e c.args.pledge })) c.in-Clash.is c.requires.stands) }

pub forgo-requires-clause-forgoes : goal.forgo-requires-clause-forgoes
forgo-requires-clause-forgoes g c = memory_forgoes (g.P.Port.law c.args.port.now) (g.P.Port.shown c.args.port.now) c.args.run.now c.args.pledge (subst (λ (e : CommitEnd). Stands (g.P.Port.law c.args.port.now) (g.P.Port.shown c.args.port.now) (record c.args.run.now { phase = phase.Committed e c.args.pledge })) c.in-Memory.is c.requires.stands)

pub forgo-requires-clause-room : goal.forgo-requires-clause-room
forgo-requires-clause-room g c = end_room (g.P.Port.law c.args.port.now) (g.P.Port.shown c.args.port.now) c.args.run.now commit.Memory c.args.pledge (subst (λ (e : CommitEnd). Stands (g.P.Port.law c.args.port.now) (g.P.Port.shown c.args.port.now) (record c.args.run.now { phase = phase.Committed e c.args.pledge })) c.in-Memory.is c.requires.stands)
