use Rattle.std.proofs.Common.{Option, refl, subst}
use mathlib.Core.Bool.{false≢true}
use Rattle.jcr_run.proofs.Loads.{held_looked, read_none, read_made}
use Rattle.jcr_run.proofs.Looking.{looked_both}
use Rattle.jcr_run.proofs.Calling.{made_if}
use Rattle.jcr_run.proofs.Nearing.{holds_called, next_nears}
use Rattle.jcr_run.specs.declared.run.Fetch.{Fetch}
use Rattle.jcr_run.specs.Standing.{IsWantedNext}
use Rattle.jcr_run.proofs.reads.read_next.Goals as goal

pub returns-in_err-fetch-clause-looked : goal.returns-in_err-fetch-clause-looked
returns-in_err-fetch-clause-looked g c = (held_looked (g.P.Port.law c.args.port.now) (g.P.Port.shown c.args.port.now) c.args.run.now c.requires.stands c.requires.reads c.next_fetch.new.run c.requires.none c.next_fetch.ensures.same c.next_fetch.ensures.holds).0

pub read_first-requires-clause-stands : goal.read_first-requires-clause-stands
read_first-requires-clause-stands g c = (held_looked (g.P.Port.law c.args.port.now) (g.P.Port.shown c.args.port.now) c.args.run.now c.requires.stands c.requires.reads c.next_fetch.new.run c.requires.none c.next_fetch.ensures.same c.next_fetch.ensures.holds).0.stands

pub returns-in-None-clause-looked : goal.returns-in-None-clause-looked
returns-in-None-clause-looked g c = (held_looked (g.P.Port.law c.args.port.now) (g.P.Port.shown c.args.port.now) c.args.run.now c.requires.stands c.requires.reads c.next_fetch.new.run c.requires.none c.next_fetch.ensures.same c.next_fetch.ensures.holds).0

pub returns-in-None-clause-read : goal.returns-in-None-clause-read
returns-in-None-clause-read g c =
    read_none (g.P.Port.shown c.args.port.now) c.args.run.now c.next_fetch.new.run (held_looked (g.P.Port.law c.args.port.now) (g.P.Port.shown c.args.port.now) c.args.run.now c.requires.stands c.requires.reads c.next_fetch.new.run c.requires.none c.next_fetch.ensures.same c.next_fetch.ensures.holds).1.unread (c.in_ok-fetch.ensures.ready c.in-None.is)

pub returns-in-Some-clause-looked : goal.returns-in-Some-clause-looked
returns-in-Some-clause-looked g c =
    looked_both (g.P.Port.law c.args.port.now) (g.P.Port.law c.args.port.now) (g.P.Port.shown c.args.port.now) (g.P.Port.shown c.args.port.now) (g.P.Port.shown c.read_first.new.port) c.args.run.now c.next_fetch.new.run c.read_first.new.run refl c.requires.stands.nodes
    (held_looked (g.P.Port.law c.args.port.now) (g.P.Port.shown c.args.port.now) c.args.run.now c.requires.stands c.requires.reads c.next_fetch.new.run c.requires.none c.next_fetch.ensures.same c.next_fetch.ensures.holds).0 c.read_first.ensures.looked

pub returns-in-Some-clause-read : goal.returns-in-Some-clause-read
returns-in-Some-clause-read g c = read_made c.read_first.result (g.P.Port.shown c.args.port.now) (g.P.Port.shown c.read_first.new.port) c.args.run.now c.read_first.new.run c.requires.reads c.read_first.ensures.made

-- what is to be read is wanted
pub read_first-requires-clause-wanted : goal.read_first-requires-clause-wanted
read_first-requires-clause-wanted g c = λ x called.
    subst (λ (o : Option Fetch). IsWantedNext x (record c.next_fetch.new.run { fetch = o })) c.in-Some.is
    (c.in_ok-fetch.ensures.wanted x (holds_called (g.P.Port.law c.args.port.now) (g.P.Port.shown c.args.port.now) c.args.run.now c.requires.stands c.requires.reads x called))

pub returns-in-Some-clause-nears : goal.returns-in-Some-clause-nears
returns-in-Some-clause-nears g c =
    let law = g.P.Port.law c.args.port.now in
    let p = g.P.Port.shown c.args.port.now in
    made_if c.read_first.result _ _ (λ made near is. next_nears law p c.args.run.now c.next_fetch.new.run c.read_first.new.run c.requires.none (held_looked law p c.args.run.now c.requires.stands c.requires.reads c.next_fetch.new.run c.requires.none c.next_fetch.ensures.same c.next_fetch.ensures.holds).1.unread
    (λ x called. c.next_fetch.ensures.fewer x (holds_called law p c.args.run.now c.requires.stands c.requires.reads x called)) near) c.read_first.ensures.nears

pub returns-in-None-clause-nears : goal.returns-in-None-clause-nears
returns-in-None-clause-nears g c = λ made. absurd (false≢true made)
