use Rattle.jcr_run.proofs.Lawful.{settle_answers}
use Rattle.jcr_session.proofs.errand.tell_text.Goals as goal

pub say_kept-requires-clause-answer : goal.say_kept-requires-clause-answer
say_kept-requires-clause-answer g c = settle_answers (g.P.Port.law c.args.port.now) (g.P.Port.shown c.args.port.now) c.args.run.now
    c.settle.new.self c.args.text.now c.requires.settles c.settle.ensures
