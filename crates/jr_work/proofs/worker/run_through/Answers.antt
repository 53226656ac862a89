use Rattle.std.proofs.Common.{ap, sym, subst, ◌∙◌}
use Rattle.atomic_table.specs.Seated.{TableId}
use Rattle.seat_lock.specs.Passes.{IsOf, view_of}
use Rattle.jr_shared.specs.Holds.{owned_by}
use Rattle.jr_work.specs.Workers.{HasRunOne}
use Rattle.jr_work.proofs.Turns.{on_ok_more, ran_through, stands_port}
use Rattle.jr_work.proofs.worker.run_through.Goals as goal

pub to_end-requires : goal.to_end-requires
to_end-requires g c =
    let port = c.port.result in
    record {
      stands = stands_port c.args.crew.now.script.now.value (view_of c.args.pass.now) (view_of port.pass.now) c.args.s port.actor port.pass.ghost_name c.args.run.now c.requires.knows c.requires.stands port.framed
          (ap (λ p. view_of p) c.port.ensures.pass) c.port.ensures.session;
    }

pub returns-clause-own : goal.returns-clause-own
returns-clause-own g c =
    let port = c.port.result in
    let left = c.to_end.new.port.port.port in
    on_ok_more c.to_end.result (λ ended.
    let ran = ran_through c.args.crew.now.script.now.value (view_of c.args.pass.now) (view_of port.pass.now) (view_of left.pass.now) c.args.s port.actor left.actor _ port.pass.ghost_name left.pass.ghost_name c.args.run.now c.to_end.new.run
    c.requires.knows c.requires.commands c.requires.stands port.framed (ap (λ p. view_of p) c.port.ensures.pass) c.port.ensures.session
    c.port.ensures.name left.framed c.to_end.ensures.law left.told left.rest left.seat (left.weight ∙ ap (λ v. v.weight) (sym c.requires.view)) (λ q apart. left.others q apart ∙ ap (λ v. owned_by v q) (sym c.requires.view)) ended in
    subst (λ p. IsOf c.args.crew.now.shared.now.lock p) (sym (c.pass-1.given.1 ran.0)) (◌∙◌ {A = TableId} left.table (◌∙◌ {A = TableId} (sym {A = TableId} c.requires.table) c.requires.own))) c.to_end.ensures.ended

pub returns-clause-ran : goal.returns-clause-ran
returns-clause-ran g c =
    let port = c.port.result in
    let left = c.to_end.new.port.port.port in
    on_ok_more c.to_end.result (λ ended.
    let ran = ran_through c.args.crew.now.script.now.value (view_of c.args.pass.now) (view_of port.pass.now) (view_of left.pass.now) c.args.s port.actor left.actor _ port.pass.ghost_name left.pass.ghost_name c.args.run.now c.to_end.new.run
    c.requires.knows c.requires.commands c.requires.stands port.framed (ap (λ p. view_of p) c.port.ensures.pass) c.port.ensures.session
    c.port.ensures.name left.framed c.to_end.ensures.law left.told left.rest left.seat (left.weight ∙ ap (λ v. v.weight) (sym c.requires.view)) (λ q apart. left.others q apart ∙ ap (λ v. owned_by v q) (sym c.requires.view)) ended in
    subst (λ p. HasRunOne c.args.crew.now.script.now.value (view_of c.args.pass.now) (view_of p) c.args.s) (sym (c.pass-1.given.1 ran.0)) ran.1) c.to_end.ensures.ended
