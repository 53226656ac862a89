use Rattle.std.proofs.Common.{sym, ◌∙◌}
use Rattle.atomic_table.specs.Seated.{TableId}
use Rattle.seat_lock.specs.Passes.{view_of}
use Rattle.oak_world.proofs.Keeping.{shown_rest}
use Rattle.jr_shared.specs.Holds.{actor_by}
use Rattle.jr_shared.proofs.Through.{framed_new, has_new, law_stays, lowers, others_new, rest_new, steps, told_new, weight_new}
use Rattle.jr_shared.proofs.port.SharedPortPort.step.Goals as goal

pub step-requires-clause-busy : goal.step-requires-clause-busy
step-requires-clause-busy g c rests = c.requires.busy (shown_rest (actor_by (view_of c.args.self.now.pass.now) c.args.self.now.actor).work rests)

pub invariant_of-self : goal.invariant_of-self
invariant_of-self g c = record {
  own = c.step.ensures.own;
  table = ◌∙◌ {A = TableId} c.step.ensures.own (◌∙◌ {A = TableId} (sym {A = TableId} c.args.self.now.own) c.args.self.now.table);
  rest = rest_new g.L.Law (view_of c.args.self.now.pass.now) (view_of c.step.new.pass) c.args.self.now.actor _ c.step.ensures.hold;
  weight = weight_new g.L.Law (view_of c.args.self.now.pass.now) (view_of c.step.new.pass) c.args.self.now.actor _ c.step.ensures.hold ∙ c.args.self.now.weight;
  others = λ q apart. others_new g.L.Law (view_of c.args.self.now.pass.now) (view_of c.step.new.pass) c.args.self.now.actor _ c.step.ensures.hold q apart ∙ c.args.self.now.others q apart;
  told = told_new g.L.Law (view_of c.args.self.now.pass.now) (view_of c.step.new.pass) c.args.self.now.actor _ c.step.ensures.hold;
  seat = has_new g.L.Law (view_of c.args.self.now.pass.now) (view_of c.step.new.pass) c.args.self.now.actor _ c.step.ensures.hold c.args.self.now.seat;
  framed = framed_new g.L.Law (view_of c.args.self.now.pass.now) (view_of c.step.new.pass) c.args.self.now.actor _ c.step.ensures.hold;
}

pub returns-clause-law : goal.returns-clause-law
returns-clause-law g c = law_stays g.L.Law (view_of c.args.self.now.pass.now) (view_of c.step.new.pass) c.args.self.now.actor _ c.step.ensures.hold c.args.self.now.framed _

pub returns-clause-steps : goal.returns-clause-steps
returns-clause-steps g c = steps g.L.Law (view_of c.args.self.now.pass.now) (view_of c.step.new.pass) c.args.self.now.actor _ c.step.ensures.hold c.args.self.now.seat c.args.self.now.told c.args.self.now.framed c.args.self.now.pass.ghost_name c.step.result c.step.ensures.hold.made_is

pub returns-clause-lowers : goal.returns-clause-lowers
returns-clause-lowers g c = lowers g.L.Law (view_of c.args.self.now.pass.now) (view_of c.step.new.pass) c.args.self.now.actor _ c.step.ensures.hold c.args.self.now.seat c.args.self.now.told c.args.self.now.framed c.args.self.now.pass.ghost_name c.step.result c.step.ensures.hold.made_is
