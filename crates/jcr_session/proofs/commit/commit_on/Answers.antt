use Rattle.std.proofs.Common.{◌∙◌}
use Rattle.jcr_law.specs.Lasting.{says_of, starts_of}
use Rattle.jcr_run.proofs.Coming.{commit_comes, commits_by, memory_once}
use Rattle.jcr_session.proofs.Stepping.{commit_again, commit_busy, commit_once, memory_first, refused_busy, refused_stands}
use Rattle.jcr_run.specs.Nearing.{WorksSooner}
use Rattle.jcr_session.proofs.Nearer.{commit_nearer, once_nearer, once_reads, twice_nearer, twice_reads}
use Rattle.jcr_session.proofs.Undrawn.{draws_neither, step_undrawn}
use Rattle.jcr_session.proofs.commit.commit_on.Goals as goal

pub step-requires : goal.step-requires
step-requires g c = let a = commits_by c.args.run.now.phase c.requires.commits in record { busy = commit_busy (g.P.Port.law c.args.port.now) (g.P.Port.shown c.args.port.now) c.args.run.now a.0 c.requires.stands a.1 }

pub step-answer-requires : goal.step-answer-requires
step-answer-requires g c = let a = commits_by c.args.run.now.phase c.requires.commits in
    record { busy = refused_busy (g.P.Port.law c.args.port.now) (g.P.Port.shown c.args.port.now) (g.P.Port.shown c.step.new.self) c.args.run.now a.0 c.requires.stands a.1 (memory_first (g.P.Port.law c.args.port.now) (g.P.Port.shown c.args.port.now) (g.P.Port.shown c.step.new.self) c.step.result c.in-Memory.is c.step.ensures.steps) }

pub returns-in-Memory-clause-turned : goal.returns-in-Memory-clause-turned
returns-in-Memory-clause-turned g c = let a = commits_by c.args.run.now.phase c.requires.commits in
    commit_again (g.P.Port.law c.args.port.now) (g.P.Port.law c.step.new.self) c.step.ensures.law (g.P.Port.shown c.args.port.now) (g.P.Port.shown c.step.new.self) (g.P.Port.shown c.step-answer.new.self) c.step.result c.step-answer.result c.args.run.now c.committed_on.new.run c.committed_on.result a.0 c.requires.stands a.1 c.in-Memory.is c.step.ensures.steps c.step-answer.ensures.steps c.committed_on.ensures.run c.committed_on.ensures.turn

pub returns-in_default-clause-turned : goal.returns-in_default-clause-turned
returns-in_default-clause-turned g c = let a = commits_by c.args.run.now.phase c.requires.commits in
    commit_once (g.P.Port.law c.args.port.now) (g.P.Port.shown c.args.port.now) (g.P.Port.shown c.step.new.self) c.step.result c.args.run.now c.committed_on-in_default.new.run c.committed_on-in_default.result a.0 c.requires.stands a.1 c.step.ensures.steps c.committed_on-in_default.ensures.run c.committed_on-in_default.ensures.turn

pub returns-in_default-clause-law : goal.returns-in_default-clause-law
returns-in_default-clause-law g c = c.step.ensures.law

pub returns-in-Memory-clause-law : goal.returns-in-Memory-clause-law
returns-in-Memory-clause-law g c = c.step-answer.ensures.law ∙ c.step.ensures.law

-- only the first step may be refused memory
pub committed_on-requires-clause-answer : goal.committed_on-requires-clause-answer
committed_on-requires-clause-answer g c =
    let a = commits_by c.args.run.now.phase c.requires.commits in
    let mid = g.P.Port.shown c.step.new.self in
    let new = g.P.Port.shown c.step-answer.new.self in
    let later = g.P.Port.law c.step.new.self in
    let once = memory_first (g.P.Port.law c.args.port.now) (g.P.Port.shown c.args.port.now) mid c.step.result c.in-Memory.is c.step.ensures.steps in
    commit_comes (g.P.Port.law c.args.port.now) mid c.args.run.now a.0 (refused_stands (g.P.Port.law c.args.port.now) (g.P.Port.shown c.args.port.now) mid c.args.run.now a.0 c.requires.stands a.1 once) a.1 new (starts_of later) (says_of later) c.step-answer.result c.step-answer.ensures.steps
    (λ is. memory_once (g.P.Port.law c.args.port.now) (g.P.Port.shown c.args.port.now) c.args.run.now a.0 c.requires.stands a.1 mid new (starts_of (g.P.Port.law c.args.port.now)) (starts_of later) (says_of (g.P.Port.law c.args.port.now)) (says_of later) once (memory_first later mid new c.step-answer.result is c.step-answer.ensures.steps))

pub committed_on-requires-in_default-clause-answer : goal.committed_on-requires-in_default-clause-answer
committed_on-requires-in_default-clause-answer g c =
    let a = commits_by c.args.run.now.phase c.requires.commits in
    commit_comes (g.P.Port.law c.args.port.now) (g.P.Port.shown c.args.port.now) c.args.run.now a.0 c.requires.stands a.1 (g.P.Port.shown c.step.new.self) (starts_of (g.P.Port.law c.args.port.now)) (says_of (g.P.Port.law c.args.port.now)) c.step.result c.step.ensures.steps c.in_default.not-Memory

-- it comes nearer
pub returns-in-Memory-clause-nears : goal.returns-in-Memory-clause-nears
returns-in-Memory-clause-nears g c =
    let a = commits_by c.args.run.now.phase c.requires.commits in
    let law = g.P.Port.law c.args.port.now in
    let later = g.P.Port.law c.step.new.self in
    let old = g.P.Port.shown c.args.port.now in
    let mid = g.P.Port.shown c.step.new.self in
    let new = g.P.Port.shown c.step-answer.new.self in
    commit_nearer law old new c.args.run.now c.committed_on.new.run (WorksSooner (g.P.Port.left c.args.port.now) (g.P.Port.left c.step-answer.new.self) old c.args.run.now) c.committed_on.result c.requires.stands
    (commit_again law later c.step.ensures.law old mid new c.step.result c.step-answer.result c.args.run.now c.committed_on.new.run c.committed_on.result a.0 c.requires.stands a.1 c.in-Memory.is c.step.ensures.steps c.step-answer.ensures.steps c.committed_on.ensures.run c.committed_on.ensures.turn)
    (twice_nearer old new c.args.run.now c.committed_on.new.run a.0 a.1 (starts_of law) (says_of law) (starts_of later) (says_of later)
    (g.P.Port.left c.args.port.now) (g.P.Port.left c.step.new.self) (g.P.Port.left c.step-answer.new.self) mid c.step.result c.step-answer.result c.committed_on.result c.in-Memory.is
    c.step.ensures.steps c.step.ensures.lowers c.step-answer.ensures.steps c.step-answer.ensures.lowers c.committed_on.ensures.run c.committed_on.ensures.turn)

pub returns-in_default-clause-nears : goal.returns-in_default-clause-nears
returns-in_default-clause-nears g c =
    let a = commits_by c.args.run.now.phase c.requires.commits in
    let law = g.P.Port.law c.args.port.now in
    let old = g.P.Port.shown c.args.port.now in
    let new = g.P.Port.shown c.step.new.self in
    commit_nearer law old new c.args.run.now c.committed_on-in_default.new.run (WorksSooner (g.P.Port.left c.args.port.now) (g.P.Port.left c.step.new.self) old c.args.run.now) c.committed_on-in_default.result c.requires.stands
    (commit_once law old new c.step.result c.args.run.now c.committed_on-in_default.new.run c.committed_on-in_default.result a.0 c.requires.stands a.1 c.step.ensures.steps c.committed_on-in_default.ensures.run c.committed_on-in_default.ensures.turn)
    (once_nearer old new c.args.run.now c.committed_on-in_default.new.run a.0 a.1 (starts_of law) (says_of law) (g.P.Port.left c.args.port.now) (g.P.Port.left c.step.new.self)
    c.step.result c.committed_on-in_default.result c.step.ensures.steps c.step.ensures.lowers c.committed_on-in_default.ensures.run c.committed_on-in_default.ensures.turn)

-- a look ends sooner
pub returns-in-Memory-clause-reads : goal.returns-in-Memory-clause-reads
returns-in-Memory-clause-reads g c =
    let a = commits_by c.args.run.now.phase c.requires.commits in
    let law = g.P.Port.law c.args.port.now in
    let later = g.P.Port.law c.step.new.self in
    twice_reads (g.P.Port.shown c.args.port.now) (g.P.Port.shown c.step-answer.new.self) c.args.run.now c.committed_on.new.run a.0 a.1 (starts_of law) (says_of law) law (starts_of later) (says_of later)
    (g.P.Port.left c.args.port.now) (g.P.Port.left c.step.new.self) (g.P.Port.left c.step-answer.new.self) (g.P.Port.shown c.step.new.self) c.step.result c.step-answer.result c.committed_on.result c.in-Memory.is
    c.step.ensures.steps c.step.ensures.lowers c.step-answer.ensures.steps c.step-answer.ensures.lowers c.committed_on.ensures.run c.committed_on.ensures.turn

pub returns-in_default-clause-reads : goal.returns-in_default-clause-reads
returns-in_default-clause-reads g c =
    let a = commits_by c.args.run.now.phase c.requires.commits in
    let law = g.P.Port.law c.args.port.now in
    once_reads (g.P.Port.shown c.args.port.now) (g.P.Port.shown c.step.new.self) c.args.run.now c.committed_on-in_default.new.run a.0 a.1 (starts_of law) (says_of law) law (g.P.Port.left c.args.port.now) (g.P.Port.left c.step.new.self)
    c.step.result c.committed_on-in_default.result c.step.ensures.steps c.step.ensures.lowers c.committed_on-in_default.ensures.run c.committed_on-in_default.ensures.turn

-- it draws no other
pub returns-in-Memory-clause-draws : goal.returns-in-Memory-clause-draws
returns-in-Memory-clause-draws g c =
    let a = commits_by c.args.run.now.phase c.requires.commits in
    let law = g.P.Port.law c.args.port.now in
    let later = g.P.Port.law c.step.new.self in
    let old = g.P.Port.shown c.args.port.now in
    let mid = g.P.Port.shown c.step.new.self in
    let new = g.P.Port.shown c.step-answer.new.self in
    draws_neither old mid new
    (step_undrawn law old mid c.args.run.now a.0 c.requires.stands a.1 (starts_of law) (says_of law) c.step.result c.step.ensures.steps)
    (step_undrawn law mid new c.args.run.now a.0 (refused_stands law old mid c.args.run.now a.0 c.requires.stands a.1 (memory_first law old mid c.step.result c.in-Memory.is c.step.ensures.steps)) a.1 (starts_of later) (says_of later) c.step-answer.result c.step-answer.ensures.steps)

pub returns-in_default-clause-draws : goal.returns-in_default-clause-draws
returns-in_default-clause-draws g c =
    let a = commits_by c.args.run.now.phase c.requires.commits in
    let law = g.P.Port.law c.args.port.now in
    step_undrawn law (g.P.Port.shown c.args.port.now) (g.P.Port.shown c.step.new.self) c.args.run.now a.0 c.requires.stands a.1 (starts_of law) (says_of law) c.step.result c.step.ensures.steps
