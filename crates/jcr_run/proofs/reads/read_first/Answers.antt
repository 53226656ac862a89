use Rattle.jcr_run.proofs.Lawful.{asks_of}
use Rattle.jcr_run.proofs.Fetching.{fetch_asked, fetch_begins}
use Rattle.jcr_run.proofs.Calling.{stands_law}
use Rattle.jcr_run.proofs.Loads.{begun_looked, unbegun_looked}
use Rattle.jcr_run.proofs.Looking.{looked_both}
use Rattle.jcr_run.proofs.Calling.{made_if}
use Rattle.jcr_run.proofs.Nearing.{begun_nears}
use Rattle.jcr_run.proofs.Waiting.{by_waits}
use Rattle.oak_port.specs.Ports.{Starting}
use Rattle.jcr_run.specs.Nearing.{EndsSooner}
use Rattle.jcr_run.proofs.reads.read_first.Goals as goal

pub start-requires-clause-may : goal.start-requires-clause-may
start-requires-clause-may g c = fetch_begins (g.P.Port.law c.args.port.now) (g.P.Port.shown c.args.port.now) c.args.run.now c.requires.stands c.requires.reads c.in_ok-task.task c.args.fetch c.in_ok-task.ensures c.requires.suits

pub start-requires-clause-asked : goal.start-requires-clause-asked
start-requires-clause-asked g c = fetch_asked (asks_of (g.P.Port.law c.args.port.now)) (g.P.Port.shown c.args.port.now).history (g.P.Port.shown c.args.port.now).session c.in_ok-task.task c.args.fetch c.in_ok-task.ensures

pub returns-in_err-start-clause-looked : goal.returns-in_err-start-clause-looked
returns-in_err-start-clause-looked g c = (unbegun_looked (g.P.Port.law c.args.port.now) (g.P.Port.shown c.args.port.now) c.args.run.now c.requires.stands c.requires.reads (g.P.Port.shown c.start.new.self) c.requires.none c.in_err-start.ensures.err).0

pub read_on-requires-clause-stands : goal.read_on-requires-clause-stands
read_on-requires-clause-stands g c =
    stands_law (g.P.Port.law c.args.port.now) (g.P.Port.law c.start.new.self) c.in_ok-start.ensures.law (g.P.Port.shown c.start.new.self) _
    (begun_looked (g.P.Port.law c.args.port.now) (g.P.Port.shown c.args.port.now) c.args.run.now c.requires.stands c.requires.reads (g.P.Port.shown c.start.new.self) c.in_ok-task.task c.args.fetch c.in_ok-start.ensures.ok c.in_ok-task.ensures c.requires.suits c.requires.wanted).stands

pub returns-clause-looked : goal.returns-clause-looked
returns-clause-looked g c =
    looked_both (g.P.Port.law c.args.port.now) (g.P.Port.law c.start.new.self) (g.P.Port.shown c.args.port.now) (g.P.Port.shown c.start.new.self) (g.P.Port.shown c.read_on.new.port) c.args.run.now _ c.read_on.new.run c.in_ok-start.ensures.law c.requires.stands.nodes
    (begun_looked (g.P.Port.law c.args.port.now) (g.P.Port.shown c.args.port.now) c.args.run.now c.requires.stands c.requires.reads (g.P.Port.shown c.start.new.self) c.in_ok-task.task c.args.fetch c.in_ok-start.ensures.ok c.in_ok-task.ensures c.requires.suits c.requires.wanted) c.read_on.ensures.looked

pub returns-clause-nears : goal.returns-clause-nears
returns-clause-nears g c =
    let law = g.P.Port.law c.args.port.now in
    let mid = g.P.Port.shown c.start.new.self in
    made_if c.read_on.result _ _ (λ made near. begun_nears (EndsSooner (g.P.Port.left c.start.new.self) (g.P.Port.left c.read_on.new.port) mid) law (g.P.Port.law c.start.new.self) (g.P.Port.shown c.args.port.now) mid c.args.run.now c.read_on.new.run c.args.fetch c.in_ok-start.ensures.law c.requires.stands.nodes
    (by_waits law (g.P.Port.shown c.args.port.now) mid (Starting c.in_ok-task.task) (g.P.Port.shown c.args.port.now).room c.in_ok-start.ensures.ok) c.requires.none near) c.read_on.ensures.nears
