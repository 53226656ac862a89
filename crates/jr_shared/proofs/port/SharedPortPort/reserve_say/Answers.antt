use Rattle.std.proofs.Common.{sym, ◌∙◌}
use Rattle.atomic_table.specs.Seated.{TableId}
use Rattle.seat_lock.specs.Passes.{view_of}
use Rattle.std.proofs.lemmas.Result.{on_err_weaker, on_ok_weaker}
use Rattle.jr_shared.proofs.Through.{framed_new, has_new, law_stays, others_new, reserved_left, reserved_ok, rest_new, stays_so, told_new, weight_new}
use Rattle.jr_shared.proofs.port.SharedPortPort.reserve_say.Goals as goal

pub invariant_of-self : goal.invariant_of-self
invariant_of-self g c = record {
  own = c.reserve_say.ensures.own;
  table = ◌∙◌ {A = TableId} c.reserve_say.ensures.own (◌∙◌ {A = TableId} (sym {A = TableId} c.args.self.now.own) c.args.self.now.table);
  rest = rest_new g.L.Law (view_of c.args.self.now.pass.now) (view_of c.reserve_say.new.pass) c.args.self.now.actor _ c.reserve_say.ensures.hold;
  weight = weight_new g.L.Law (view_of c.args.self.now.pass.now) (view_of c.reserve_say.new.pass) c.args.self.now.actor _ c.reserve_say.ensures.hold ∙ c.args.self.now.weight;
  others = λ q apart. others_new g.L.Law (view_of c.args.self.now.pass.now) (view_of c.reserve_say.new.pass) c.args.self.now.actor _ c.reserve_say.ensures.hold q apart ∙ c.args.self.now.others q apart;
  told = told_new g.L.Law (view_of c.args.self.now.pass.now) (view_of c.reserve_say.new.pass) c.args.self.now.actor _ c.reserve_say.ensures.hold;
  seat = has_new g.L.Law (view_of c.args.self.now.pass.now) (view_of c.reserve_say.new.pass) c.args.self.now.actor _ c.reserve_say.ensures.hold c.args.self.now.seat;
  framed = framed_new g.L.Law (view_of c.args.self.now.pass.now) (view_of c.reserve_say.new.pass) c.args.self.now.actor _ c.reserve_say.ensures.hold;
}

pub returns-clause-law : goal.returns-clause-law
returns-clause-law g c = law_stays g.L.Law (view_of c.args.self.now.pass.now) (view_of c.reserve_say.new.pass) c.args.self.now.actor _ c.reserve_say.ensures.hold c.args.self.now.framed _

pub returns-clause-ok : goal.returns-clause-ok
returns-clause-ok g c = on_ok_weaker c.reserve_say.result (reserved_ok g.L.Law (view_of c.args.self.now.pass.now) (view_of c.reserve_say.new.pass) c.args.self.now.actor _ c.reserve_say.ensures.hold c.args.self.now.seat c.args.self.now.told c.args.self.now.framed c.args.self.now.pass.ghost_name c.args.bytes) c.reserve_say.ensures.hold.made_is.ok

pub returns-clause-err : goal.returns-clause-err
returns-clause-err g c = on_err_weaker c.reserve_say.result (stays_so g.L.Law (view_of c.args.self.now.pass.now) (view_of c.reserve_say.new.pass) c.args.self.now.actor _ c.reserve_say.ensures.hold c.args.self.now.seat c.args.self.now.told c.args.self.now.framed c.args.self.now.pass.ghost_name) c.reserve_say.ensures.hold.made_is.err

pub returns-clause-left : goal.returns-clause-left
returns-clause-left g c = reserved_left g.L.Law (view_of c.args.self.now.pass.now) (view_of c.reserve_say.new.pass) c.args.self.now.actor _ c.reserve_say.ensures.hold c.args.self.now.seat c.args.self.now.told c.args.self.now.framed c.args.self.now.pass.ghost_name c.args.bytes c.reserve_say.result c.reserve_say.ensures.hold.made_is
