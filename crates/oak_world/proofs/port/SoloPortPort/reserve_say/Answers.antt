use Rattle.std.proofs.Common.{Some}
use Rattle.std.proofs.lemmas.Result.{on_err_weaker, on_ok_weaker}
use Rattle.oak_world.proofs.Porting.{reserve_left, reserve_law, reserve_waits, same_waits, seat}
use Rattle.oak_world.proofs.port.SoloPortPort.reserve_say.Goals as goal

pub returns-clause-law : goal.returns-clause-law
returns-clause-law g c = reserve_law c.args.self.now.world.now c.reserve_say.new.self c.args.self.now.actor c.reserve_say.result (Some c.args.bytes) c.reserve_say.ensures.ok c.reserve_say.ensures.err

pub returns-clause-ok : goal.returns-clause-ok
returns-clause-ok g c = on_ok_weaker c.reserve_say.result (reserve_waits (g.L.Law.may_start c.args.self.now.world.now.law) (g.L.Law.may_say c.args.self.now.world.now.law) c.args.self.now.world.now c.args.self.now.actor c.args.self.now.there c.is_kept.ensures.run c.is_kept.ensures.seats c.args.self.now.world.ghost_name c.reserve_say.new.self (Some c.args.bytes)) c.reserve_say.ensures.ok

pub returns-clause-err : goal.returns-clause-err
returns-clause-err g c = on_err_weaker c.reserve_say.result (same_waits (g.L.Law.may_start c.args.self.now.world.now.law) (g.L.Law.may_say c.args.self.now.world.now.law) c.args.self.now.world.now c.args.self.now.actor c.args.self.now.there c.is_kept.ensures.run c.is_kept.ensures.seats c.args.self.now.world.ghost_name c.reserve_say.new.self) c.reserve_say.ensures.err

pub returns-clause-left : goal.returns-clause-left
returns-clause-left g c = λ same.
    reserve_left c.args.self.now.world.now c.reserve_say.new.self c.args.self.now.actor (seat (g.L.Law.may_start c.args.self.now.world.now.law) (g.L.Law.may_say c.args.self.now.world.now.law) c.args.self.now.world.now c.args.self.now.actor c.args.self.now.there c.is_kept.ensures.run c.is_kept.ensures.seats c.args.self.now.world.ghost_name)
    (Some c.args.bytes) c.reserve_say.result c.reserve_say.ensures.ok c.reserve_say.ensures.err
