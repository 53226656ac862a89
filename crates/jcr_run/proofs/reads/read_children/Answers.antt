use Rattle.std.proofs.Common.{refl, sym, subst, ◌∙◌}
use Rattle.jcr_run.proofs.Loads.{list_going, names_found, names_refused, names_rise}
use Rattle.jcr_held.specs.Holds.{Holds}
use Rattle.jcr_held.specs.declared.held.Held.{Held}
use Rattle.jcr_held.proofs.Unread.{children_read}
use Rattle.jcr_law.specs.Lasting.{says_of, starts_of}
use Rattle.jcr_run.proofs.Nearing.{found_nears, list_sooner}
use Rattle.jr_part.specs.Parts.{with_children}
use Rattle.jr_part.specs.declared.need.Need.TheVariants as need
use Rattle.jcr_run.specs.Nearing.{EndsSooner}
use Rattle.jcr_run.proofs.reads.read_children.Goals as goal

pub put_children-requires : goal.put_children-requires
put_children-requires g c = record { rising = names_rise (g.P.Port.law c.args.port.now) (g.P.Port.shown c.args.port.now) (g.P.Port.shown c.step.new.self) c.args.run.now c.args.path c.requires.stands c.requires.reads c.requires.none c.step.result c.step.ensures.steps c.in-Names.names (sym c.list_came.ensures ∙ c.in-Names.is) }

pub returns-in-Going-clause-looked : goal.returns-in-Going-clause-looked
returns-in-Going-clause-looked g c = list_going (g.P.Port.law c.args.port.now) (g.P.Port.shown c.args.port.now) (g.P.Port.shown c.step.new.self) c.args.run.now c.args.path c.requires.stands c.requires.reads c.requires.none c.step.result c.step.ensures.steps (sym c.list_came.ensures ∙ c.in-Going.is)

pub returns-in-Refused-clause-looked : goal.returns-in-Refused-clause-looked
returns-in-Refused-clause-looked g c = (names_refused (g.P.Port.law c.args.port.now) (g.P.Port.shown c.args.port.now) (g.P.Port.shown c.step.new.self) c.args.run.now c.args.path c.requires.stands c.requires.reads c.requires.none c.step.result c.step.ensures.steps (sym c.list_came.ensures ∙ c.in-Refused.is)).0

pub returns-in_err-put_children-in-Names-clause-looked : goal.returns-in_err-put_children-in-Names-clause-looked
returns-in_err-put_children-in-Names-clause-looked g c =
    (names_found (g.P.Port.law c.args.port.now) (g.P.Port.shown c.args.port.now) (g.P.Port.shown c.step.new.self) c.args.run.now c.args.path c.requires.stands c.requires.reads c.requires.none c.step.result c.step.ensures.steps c.in-Names.names c.put_children.new.self (sym c.list_came.ensures ∙ c.in-Names.is)
    (λ x holds is. subst (λ (h : Held). Holds x h) (sym c.in_err-put_children-in-Names.ensures.err) holds)).0

pub returns-in_ok-put_children-in-Names-clause-looked : goal.returns-in_ok-put_children-in-Names-clause-looked
returns-in_ok-put_children-in-Names-clause-looked g c =
    (names_found (g.P.Port.law c.args.port.now) (g.P.Port.shown c.args.port.now) (g.P.Port.shown c.step.new.self) c.args.run.now c.args.path c.requires.stands c.requires.reads c.requires.none c.step.result c.step.ensures.steps c.in-Names.names c.put_children.new.self (sym c.list_came.ensures ∙ c.in-Names.is)
    (λ x holds is. c.in_ok-put_children-in-Names.ensures.holds x holds is)).0

-- it comes nearer
pub returns-in-Going-clause-nears : goal.returns-in-Going-clause-nears
returns-in-Going-clause-nears g c = λ x called.
    (let law = g.P.Port.law c.args.port.now in
    (refl, list_sooner (starts_of law) (says_of law) (g.P.Port.shown c.args.port.now) (g.P.Port.shown c.step.new.self) c.step.result c.step.ensures.steps (g.P.Port.left c.args.port.now) (g.P.Port.left c.step.new.self) c.step.ensures.lowers (sym c.list_came.ensures ∙ c.in-Going.is)))

pub returns-in_ok-put_children-in-Names-clause-nears : goal.returns-in_ok-put_children-in-Names-clause-nears
returns-in_ok-put_children-in-Names-clause-nears g c =
    let held = c.args.run.now.held in
    found_nears (EndsSooner (g.P.Port.left c.args.port.now) (g.P.Port.left c.step.new.self) (g.P.Port.shown c.args.port.now)) (g.P.Port.law c.args.port.now) (g.P.Port.shown c.args.port.now) c.args.run.now (need.Children c.args.path) c.put_children.new.self (record held { part = with_children held.part c.args.path c.in-Names.names })
    c.requires.stands c.requires.reads c.requires.none c.in_ok-put_children-in-Names.ensures.ok (λ x m wanted. children_read x held m c.args.path c.in-Names.names wanted)
