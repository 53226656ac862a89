use Rattle.std.proofs.Common.{sym, ◌∙◌}
use Rattle.atomic_table.specs.Seated.{TableId}
use Rattle.seat_lock.specs.Passes.{view_of}
use Rattle.jr_shared.proofs.Through.{busy_is, due_is, framed_new, has_new, left_same, law_stays, others_new, over_is, rest_new, stays_so, told_new, weight_new}
use Rattle.jr_shared.proofs.port.SharedPortPort.due.Goals as goal

pub invariant_of-self : goal.invariant_of-self
invariant_of-self g c = record {
  own = c.due.ensures.own;
  table = ◌∙◌ {A = TableId} c.due.ensures.own (◌∙◌ {A = TableId} (sym {A = TableId} c.args.self.now.own) c.args.self.now.table);
  rest = rest_new g.L.Law (view_of c.args.self.now.pass.now) (view_of c.due.new.pass) c.args.self.now.actor _ c.due.ensures.hold;
  weight = weight_new g.L.Law (view_of c.args.self.now.pass.now) (view_of c.due.new.pass) c.args.self.now.actor _ c.due.ensures.hold ∙ c.args.self.now.weight;
  others = λ q apart. others_new g.L.Law (view_of c.args.self.now.pass.now) (view_of c.due.new.pass) c.args.self.now.actor _ c.due.ensures.hold q apart ∙ c.args.self.now.others q apart;
  told = told_new g.L.Law (view_of c.args.self.now.pass.now) (view_of c.due.new.pass) c.args.self.now.actor _ c.due.ensures.hold;
  seat = has_new g.L.Law (view_of c.args.self.now.pass.now) (view_of c.due.new.pass) c.args.self.now.actor _ c.due.ensures.hold c.args.self.now.seat;
  framed = framed_new g.L.Law (view_of c.args.self.now.pass.now) (view_of c.due.new.pass) c.args.self.now.actor _ c.due.ensures.hold;
}

pub returns-clause-law : goal.returns-clause-law
returns-clause-law g c = law_stays g.L.Law (view_of c.args.self.now.pass.now) (view_of c.due.new.pass) c.args.self.now.actor _ c.due.ensures.hold c.args.self.now.framed _

pub returns-clause-same : goal.returns-clause-same
returns-clause-same g c = stays_so g.L.Law (view_of c.args.self.now.pass.now) (view_of c.due.new.pass) c.args.self.now.actor _ c.due.ensures.hold c.args.self.now.seat c.args.self.now.told c.args.self.now.framed c.args.self.now.pass.ghost_name c.due.ensures.hold.made_is.same

pub returns-clause-due : goal.returns-clause-due
returns-clause-due g c = due_is g.L.Law (view_of c.args.self.now.pass.now) (view_of c.due.new.pass) c.args.self.now.actor _ c.due.ensures.hold c.args.self.now.seat c.due.result c.due.ensures.hold.made_is

pub returns-clause-busy : goal.returns-clause-busy
returns-clause-busy g c = busy_is g.L.Law (view_of c.args.self.now.pass.now) (view_of c.due.new.pass) c.args.self.now.actor _ c.due.ensures.hold c.args.self.now.seat c.due.result c.due.ensures.hold.made_is

pub returns-clause-left : goal.returns-clause-left
returns-clause-left g c = left_same g.L.Law (view_of c.args.self.now.pass.now) (view_of c.due.new.pass) c.args.self.now.actor _ c.due.ensures.hold c.args.self.now.seat c.args.self.now.told c.args.self.now.framed c.args.self.now.pass.ghost_name c.due.ensures.hold.made_is.same

pub returns-clause-over : goal.returns-clause-over
returns-clause-over g c = over_is g.L.Law (view_of c.args.self.now.pass.now) (view_of c.due.new.pass) c.args.self.now.actor _ c.due.ensures.hold c.args.self.now.seat c.due.result c.due.ensures.hold.made_is
