use Rattle.std.proofs.Common.{◌≡◌, length, rules, subst}
use Rattle.seat_lock.specs.Passes.{view_of}
use Rattle.jr_work.proofs.Gathering.{IsGathering, gathered, gathering_ends}
use Rattle.jr_work.proofs.Orders.{given_last, given_rest, none_left, one_fewer}
use Rattle.jr_work.proofs.workers.gather.Goals as goal

pub join-requires-clause-own : goal.join-requires-clause-own
join-requires-clause-own g c =
    let last = given_last _ c.args.crew.now.script.now.value c.args.crew.now.workers c.args.crew.now.shared.now.lock c.passes.passes.items c.pop.new.self.items c.pop.result c.in-Some.pass c.pop.ensures.items c.in-Some.is c.passes.invariant.each c.in_ok-pass.field-0 c.in_ok-pass.was in
    (c.passes.invariant.own, last.0)

pub join-requires-clause-rest : goal.join-requires-clause-rest
join-requires-clause-rest g c =
    let last = given_last _ c.args.crew.now.script.now.value c.args.crew.now.workers c.args.crew.now.shared.now.lock c.passes.passes.items c.pop.new.self.items c.pop.result c.in-Some.pass c.pop.ensures.items c.in-Some.is c.passes.invariant.each c.in_ok-pass.field-0 c.in_ok-pass.was in
    last.1.rest

pub passes-preserved : goal.passes-preserved
passes-preserved g c =
    let script = c.args.crew.now.script.now.value in
    let workers = c.args.crew.now.workers in
    let last = given_last _ script workers c.args.crew.now.shared.now.lock c.passes.passes.items c.pop.new.self.items c.pop.result c.in-Some.pass c.pop.ensures.items c.in-Some.is c.passes.invariant.each c.in_ok-pass.field-0 c.in_ok-pass.was in
    let fewer = one_fewer c.passes.passes.items c.pop.new.self.items c.pop.result c.in-Some.pass c.pop.ensures.items c.in-Some.is in
    record {
      own = c.join.ensures.own;
      gathering = gathered script workers (length c.pop.new.self.items) (view_of c.passes.main) (view_of c.in_ok-pass.field-0) (view_of c.join.new.pass)
          (subst (λ n. IsGathering script workers n (view_of c.passes.main)) fewer c.passes.invariant.gathering) last.1 c.join.ensures.pass;
      each = given_rest _ script workers c.args.crew.now.shared.now.lock c.passes.passes.items c.pop.new.self.items c.pop.result c.in-Some.pass c.pop.ensures.items c.in-Some.is c.passes.invariant.each;
    }

pub returns-clause-all : goal.returns-clause-all
returns-clause-all g c =
    let script = c.args.crew.now.script.now.value in
    let workers = c.args.crew.now.workers in
    let none = none_left c.pop.result _ _ c.in_default.not-Some c.pop.ensures.cases in
    let empty : length c.passes.passes.items ≡ 0 = search rules in
    gathering_ends script workers (view_of c.passes.main) (subst (λ n. IsGathering script workers n (view_of c.passes.main)) empty c.passes.invariant.gathering)
