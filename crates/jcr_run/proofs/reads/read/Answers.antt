use Rattle.std.proofs.Common.{◌≡◌, Option, IfOk, true, subst, sym, ◌∙◌}
use Rattle.jcr_run.specs.declared.run.Fetch.{Fetch}
use Rattle.jcr_run.specs.Standing.{HasLooked, HasMadeReading, Stands}
use Rattle.jcr_run.proofs.Loads.{err_with, read_made}
use Rattle.jcr_run.specs.Nearing.{EndsSooner, HasNeared}
use Rattle.jcr_run.proofs.Calling.{made_if}
use Rattle.jcr_run.proofs.Nearing.{nears_sooner}
use Rattle.jcr_run.proofs.reads.read.Goals as goal

-- what is being read is known to be so
pub read_on-requires-clause-stands : goal.read_on-requires-clause-stands
read_on-requires-clause-stands g c =
    subst (λ (o : Option Fetch). Stands (g.P.Port.law c.args.port.now) (g.P.Port.shown c.args.port.now) (record c.args.run.now { fetch = o })) (sym c.in-Some.ensures.value) c.requires.stands

pub returns-in-Some-clause-looked : goal.returns-in-Some-clause-looked
returns-in-Some-clause-looked g c =
    subst (λ (o : Option Fetch). HasLooked (g.P.Port.law c.args.port.now) (g.P.Port.shown c.args.port.now) (g.P.Port.shown c.read_on.new.port) (record c.args.run.now { fetch = o }) c.read_on.new.run) c.in-Some.ensures.value c.read_on.ensures.looked

pub returns-in-Some-clause-read : goal.returns-in-Some-clause-read
returns-in-Some-clause-read g c = read_made c.read_on.result (g.P.Port.shown c.args.port.now) (g.P.Port.shown c.read_on.new.port) c.args.run.now c.read_on.new.run (sym c.may_read.ensures ∙ c.if-not-may_read.false) c.read_on.ensures.made

pub returns-in-Some-clause-err : goal.returns-in-Some-clause-err
returns-in-Some-clause-err g c = err_with c.read_on.result _ _ (sym c.may_read.ensures ∙ c.if-not-may_read.false) c.read_on.ensures.err

pub returns-in-None-clause-looked : goal.returns-in-None-clause-looked
returns-in-None-clause-looked g c =
    subst (λ (o : Option Fetch). HasLooked (g.P.Port.law c.args.port.now) (g.P.Port.shown c.args.port.now) (g.P.Port.shown c.read_next.new.port) (record c.args.run.now { fetch = o }) c.read_next.new.run) (c.in-None.ensures.after ∙ c.in-None.ensures.value) c.read_next.ensures.looked

pub returns-in-None-clause-read : goal.returns-in-None-clause-read
returns-in-None-clause-read g c =
    subst (λ (o : Option Fetch). Rattle.std.specs.Result.IfOk c.read_next.result (HasMadeReading (g.P.Port.shown c.args.port.now) (g.P.Port.shown c.read_next.new.port) (record c.args.run.now { fetch = o }) c.read_next.new.run)) (c.in-None.ensures.after ∙ c.in-None.ensures.value) c.read_next.ensures.read

-- what was being read comes nearer, or something begins to be read
pub returns-in-Some-clause-nears : goal.returns-in-Some-clause-nears
returns-in-Some-clause-nears g c =
    let p = g.P.Port.shown c.args.port.now in
    subst (λ (o : Option Fetch). IfOk c.read_on.result (λ made. made ≡ true → HasNeared (EndsSooner (g.P.Port.left c.args.port.now) (g.P.Port.left c.read_on.new.port) p) (g.P.Port.law c.args.port.now) p (record c.args.run.now { fetch = o }) c.read_on.new.run)) c.in-Some.ensures.value
    (made_if c.read_on.result _ _ (λ made near is. near) c.read_on.ensures.nears)

pub returns-in-None-clause-nears : goal.returns-in-None-clause-nears
returns-in-None-clause-nears g c =
    let p = g.P.Port.shown c.args.port.now in
    let sooner = EndsSooner (g.P.Port.left c.args.port.now) (g.P.Port.left c.read_next.new.port) p in
    subst (λ (o : Option Fetch). IfOk c.read_next.result (λ made. made ≡ true → HasNeared sooner (g.P.Port.law c.args.port.now) p (record c.args.run.now { fetch = o }) c.read_next.new.run)) (c.in-None.ensures.after ∙ c.in-None.ensures.value)
    (made_if c.read_next.result _ _ (λ made near is. nears_sooner sooner (g.P.Port.law c.args.port.now) p (record c.args.run.now { fetch = c.replace.new.dest }) c.read_next.new.run (near is)) c.read_next.ensures.nears)
