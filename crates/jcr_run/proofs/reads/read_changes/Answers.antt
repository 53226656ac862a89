use Rattle.std.proofs.Common.{refl, sym, ◌∙◌}
use Rattle.jcr_law.specs.Lasting.{says_of, starts_of}
use Rattle.jcr_run.specs.Nearing.{EndsSooner}
use Rattle.jcr_run.proofs.Changing.{changes_found, changes_going, changes_is, changes_near, changes_refused, changes_stop}
use Rattle.jcr_run.proofs.Nearing.{changes_sooner}
use Rattle.jcr_run.proofs.reads.read_changes.Goals as goal

pub changes_came-requires : goal.changes_came-requires
changes_came-requires g c = changes_is (g.P.Port.law c.args.port.now) (g.P.Port.shown c.args.port.now) (g.P.Port.shown c.step.new.self)
    c.args.run.now c.args.since.now c.requires.stands c.requires.reads c.requires.none c.step.result c.step.ensures.steps

-- it goes on
pub returns-in-Going-clause-looked : goal.returns-in-Going-clause-looked
returns-in-Going-clause-looked g c = changes_going (g.P.Port.law c.args.port.now) (g.P.Port.shown c.args.port.now)
    (g.P.Port.shown c.step.new.self) c.args.run.now c.args.since.now c.requires.stands c.requires.reads c.requires.none c.step.result
    c.step.ensures.steps (sym c.changes_came.ensures ∙ c.in-Going.is)

pub returns-in-Going-clause-nears : goal.returns-in-Going-clause-nears
returns-in-Going-clause-nears g c = λ x called.
    (let law = g.P.Port.law c.args.port.now in (
      refl,
      changes_sooner (starts_of law) (says_of law) (g.P.Port.shown c.args.port.now) (g.P.Port.shown c.step.new.self) c.step.result
          c.step.ensures.steps (g.P.Port.left c.args.port.now) (g.P.Port.left c.step.new.self) c.step.ensures.lowers
          (sym c.changes_came.ensures ∙ c.in-Going.is),
    ))

-- it is read
pub returns-in-Commits-clause-looked : goal.returns-in-Commits-clause-looked
returns-in-Commits-clause-looked g c = changes_found (g.P.Port.law c.args.port.now) (g.P.Port.shown c.args.port.now)
    (g.P.Port.shown c.step.new.self) c.args.run.now c.args.since.now c.requires.stands c.requires.reads c.requires.none c.step.result
    c.step.ensures.steps c.in-Commits.commits (sym c.changes_came.ensures ∙ c.in-Commits.is)

pub returns-in-Commits-clause-nears : goal.returns-in-Commits-clause-nears
returns-in-Commits-clause-nears g c = changes_near (g.P.Port.law c.args.port.now) (g.P.Port.shown c.args.port.now)
    (g.P.Port.shown c.step.new.self) c.args.run.now c.args.since.now c.requires.stands c.requires.reads c.requires.none c.step.result
    c.step.ensures.steps c.in-Commits.commits (sym c.changes_came.ensures ∙ c.in-Commits.is)
    (EndsSooner (g.P.Port.left c.args.port.now) (g.P.Port.left c.step.new.self) (g.P.Port.shown c.args.port.now))

-- memory was refused
pub returns-in-Refused-clause-looked : goal.returns-in-Refused-clause-looked
returns-in-Refused-clause-looked g c = changes_stop (g.P.Port.law c.args.port.now) (g.P.Port.shown c.args.port.now)
    (g.P.Port.shown c.step.new.self) c.args.run.now c.args.since.now c.requires.stands c.requires.reads c.requires.none c.step.result
    c.step.ensures.steps (sym c.changes_came.ensures ∙ c.in-Refused.is)

pub returns-in-Refused-clause-err : goal.returns-in-Refused-clause-err
returns-in-Refused-clause-err g c = changes_refused (g.P.Port.law c.args.port.now) (g.P.Port.shown c.args.port.now)
    (g.P.Port.shown c.step.new.self) c.args.run.now c.args.since.now c.requires.stands c.requires.reads c.requires.none c.step.result
    c.step.ensures.steps (sym c.changes_came.ensures ∙ c.in-Refused.is)
