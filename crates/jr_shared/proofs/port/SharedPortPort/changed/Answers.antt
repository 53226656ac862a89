use Rattle.std.proofs.Common.{sym, ◌∙◌}
use Rattle.atomic_table.specs.Seated.{TableId}
use Rattle.seat_lock.specs.Passes.{view_of}
use Rattle.jr_shared.proofs.Through.{changes_are, framed_new, has_new, left_same, law_stays, others_new, rest_new, stays_so, told_new, weight_new}
use Rattle.jr_shared.proofs.port.SharedPortPort.changed.Goals as goal

pub invariant_of-self : goal.invariant_of-self
invariant_of-self g c = record {
  own = c.changed.ensures.own;
  table = ◌∙◌ {A = TableId} c.changed.ensures.own (◌∙◌ {A = TableId} (sym {A = TableId} c.args.self.now.own) c.args.self.now.table);
  rest = rest_new g.L.Law (view_of c.args.self.now.pass.now) (view_of c.changed.new.pass) c.args.self.now.actor _ c.changed.ensures.hold;
  weight = weight_new g.L.Law (view_of c.args.self.now.pass.now) (view_of c.changed.new.pass) c.args.self.now.actor _ c.changed.ensures.hold ∙ c.args.self.now.weight;
  others = λ q apart. others_new g.L.Law (view_of c.args.self.now.pass.now) (view_of c.changed.new.pass) c.args.self.now.actor _ c.changed.ensures.hold q apart ∙ c.args.self.now.others q apart;
  told = told_new g.L.Law (view_of c.args.self.now.pass.now) (view_of c.changed.new.pass) c.args.self.now.actor _ c.changed.ensures.hold;
  seat = has_new g.L.Law (view_of c.args.self.now.pass.now) (view_of c.changed.new.pass) c.args.self.now.actor _ c.changed.ensures.hold c.args.self.now.seat;
  framed = framed_new g.L.Law (view_of c.args.self.now.pass.now) (view_of c.changed.new.pass) c.args.self.now.actor _ c.changed.ensures.hold;
}

pub returns-clause-law : goal.returns-clause-law
returns-clause-law g c = law_stays g.L.Law (view_of c.args.self.now.pass.now) (view_of c.changed.new.pass) c.args.self.now.actor _ c.changed.ensures.hold c.args.self.now.framed _

pub returns-clause-same : goal.returns-clause-same
returns-clause-same g c = stays_so g.L.Law (view_of c.args.self.now.pass.now) (view_of c.changed.new.pass) c.args.self.now.actor _ c.changed.ensures.hold c.args.self.now.seat c.args.self.now.told c.args.self.now.framed c.args.self.now.pass.ghost_name c.changed.ensures.hold.made_is.same

pub returns-clause-told : goal.returns-clause-told
returns-clause-told g c = changes_are g.L.Law (view_of c.args.self.now.pass.now) (view_of c.changed.new.pass) c.args.self.now.actor _ c.changed.ensures.hold c.args.self.now.seat c.args.self.now.told c.args.self.now.framed c.args.self.now.pass.ghost_name c.args.since.now c.changed.result c.changed.ensures.hold.made_is

pub returns-clause-left : goal.returns-clause-left
returns-clause-left g c = left_same g.L.Law (view_of c.args.self.now.pass.now) (view_of c.changed.new.pass) c.args.self.now.actor _ c.changed.ensures.hold c.args.self.now.seat c.args.self.now.told c.args.self.now.framed c.args.self.now.pass.ghost_name c.changed.ensures.hold.made_is.same
