use Rattle.std.proofs.Common.{Some, length}
use Rattle.jcr_run.proofs.Calling.{may_behind, turned_behind_place}
use Rattle.jcr_run.proofs.run.SessionRun.say.Goals as goal

-- others may have added events while the place was kept
pub say_kept-requires-clause-answer : goal.say_kept-requires-clause-answer
say_kept-requires-clause-answer g c =
    may_behind (g.P.Port.law c.args.port.now) (g.P.Port.law c.reserve_say.new.self) c.in-Ok.ensures.law (g.P.Port.shown c.args.port.now) (g.P.Port.shown c.reserve_say.new.self) c.args.self.now c.args.text.now c.requires.answer (Some (length c.args.text.now)) c.in-Ok.ensures.ok

pub returns-clause-turned : goal.returns-clause-turned
returns-clause-turned g c =
    turned_behind_place (g.P.Port.law c.args.port.now) (g.P.Port.law c.reserve_say.new.self) c.in-Ok.ensures.law (g.P.Port.shown c.args.port.now) (g.P.Port.shown c.reserve_say.new.self) c.args.self.now c.args.text.now c.requires.answer (Some (length c.args.text.now)) c.in-Ok.ensures.ok
    (g.P.Port.shown c.say_kept.new.port) c.say_kept.new.self c.say_kept.result c.say_kept.ensures.turned
