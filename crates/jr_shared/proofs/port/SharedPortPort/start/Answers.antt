use Rattle.std.proofs.Common.{sym, subst, ◌∙◌}
use Rattle.atomic_table.specs.Seated.{TableId}
use Rattle.seat_lock.specs.Passes.{view_of}
use Rattle.std.proofs.lemmas.Result.{on_err_weaker, on_ok_weaker}
use Rattle.oak_port.specs.Ports.{IsAskedOf, MayBegin}
use Rattle.oak_world.proofs.Keeping.{idle_shown}
use Rattle.jr_shared.specs.Holds.{actor_by}
use Rattle.jr_shared.specs.Seen.{history_by}
use Rattle.jr_shared.proofs.Got.{law_has}
use Rattle.jr_shared.proofs.Through.{framed_new, has_new, law_stays, others_new, rest_new, starts_err, starts_ok, told_new, weight_new}
use Rattle.jr_shared.proofs.port.SharedPortPort.start.Goals as goal

pub start-requires-clause-idle : goal.start-requires-clause-idle
start-requires-clause-idle g c = idle_shown (actor_by (view_of c.args.self.now.pass.now) c.args.self.now.actor).work c.requires.idle

pub start-requires-clause-may : goal.start-requires-clause-may
start-requires-clause-may g c l has = subst (λ k. MayBegin (g.L.Law.may_start k) (history_by (view_of c.args.self.now.pass.now)) c.args.self.now.actor c.args.task) (law_has (view_of c.args.self.now.pass.now) c.args.self.now.framed l has) c.requires.may

pub start-requires-clause-asked : goal.start-requires-clause-asked
start-requires-clause-asked g c l has = subst (λ k. IsAskedOf (g.L.Law.asks k) (history_by (view_of c.args.self.now.pass.now)) c.args.self.now.actor c.args.task) (law_has (view_of c.args.self.now.pass.now) c.args.self.now.framed l has) c.requires.asked

pub invariant_of-self : goal.invariant_of-self
invariant_of-self g c = record {
  own = c.start.ensures.own;
  table = ◌∙◌ {A = TableId} c.start.ensures.own (◌∙◌ {A = TableId} (sym {A = TableId} c.args.self.now.own) c.args.self.now.table);
  rest = rest_new g.L.Law (view_of c.args.self.now.pass.now) (view_of c.start.new.pass) c.args.self.now.actor _ c.start.ensures.hold;
  weight = weight_new g.L.Law (view_of c.args.self.now.pass.now) (view_of c.start.new.pass) c.args.self.now.actor _ c.start.ensures.hold ∙ c.args.self.now.weight;
  others = λ q apart. others_new g.L.Law (view_of c.args.self.now.pass.now) (view_of c.start.new.pass) c.args.self.now.actor _ c.start.ensures.hold q apart ∙ c.args.self.now.others q apart;
  told = told_new g.L.Law (view_of c.args.self.now.pass.now) (view_of c.start.new.pass) c.args.self.now.actor _ c.start.ensures.hold;
  seat = has_new g.L.Law (view_of c.args.self.now.pass.now) (view_of c.start.new.pass) c.args.self.now.actor _ c.start.ensures.hold c.args.self.now.seat;
  framed = framed_new g.L.Law (view_of c.args.self.now.pass.now) (view_of c.start.new.pass) c.args.self.now.actor _ c.start.ensures.hold;
}

pub returns-clause-law : goal.returns-clause-law
returns-clause-law g c = law_stays g.L.Law (view_of c.args.self.now.pass.now) (view_of c.start.new.pass) c.args.self.now.actor _ c.start.ensures.hold c.args.self.now.framed _

pub returns-clause-ok : goal.returns-clause-ok
returns-clause-ok g c = on_ok_weaker c.start.result (λ b. starts_ok g.L.Law (view_of c.args.self.now.pass.now) (view_of c.start.new.pass) c.args.self.now.actor _ c.start.ensures.hold c.args.self.now.seat c.args.self.now.told c.args.self.now.framed c.args.self.now.pass.ghost_name c.args.task b (idle_shown (actor_by (view_of c.args.self.now.pass.now) c.args.self.now.actor).work c.requires.idle)) c.start.ensures.hold.made_is.ok

pub returns-clause-err : goal.returns-clause-err
returns-clause-err g c = on_err_weaker c.start.result (λ same. starts_err g.L.Law (view_of c.args.self.now.pass.now) (view_of c.start.new.pass) c.args.self.now.actor _ c.start.ensures.hold c.args.self.now.seat c.args.self.now.told c.args.self.now.framed c.args.self.now.pass.ghost_name same (idle_shown (actor_by (view_of c.args.self.now.pass.now) c.args.self.now.actor).work c.requires.idle)) c.start.ensures.hold.made_is.err
