use Rattle.jcr_session.proofs.Begun.{observed_answers, observes_next}
use Rattle.jcr_session.proofs.errand.tell_observed.Goals as goal

pub observe-requires : goal.observe-requires
observe-requires g c = observes_next (g.P.Port.law c.args.port.now) (g.P.Port.shown c.args.port.now) c.args.run.now c.args.filter c.requires.tells

pub say_kept-requires-clause-answer : goal.say_kept-requires-clause-answer
say_kept-requires-clause-answer g c = observed_answers (g.P.Port.law c.args.port.now) (g.P.Port.shown c.args.port.now) c.args.run.now
    c.observe.new.self c.args.filter c.requires.tells c.observe.ensures
