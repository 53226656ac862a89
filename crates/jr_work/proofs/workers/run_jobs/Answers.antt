use mathlib.Core.List.{[]}
use mir.Syntax.{erased}
use denote.Param.{param}
use denote.Param.Send.{sendable}
use Rattle.std.proofs.Common.{◌≡◌, ◌<◌, length, refl, subst, IfOk, arith, rules}
use Rattle.std.specs.Prelude.{slice_index_or}
use Rattle.std.proofs.Crossing.{crosses}
use Rattle.std.proofs.lemmas.Option.{get_or_from_slice_get, slice_get_read, slice_get_within}
use Rattle.seat_lock.specs.Passes.{IsOf, view_of}
use Rattle.jr_work.specs.Workers.{HasWorked, IsGivenBack}
use Rattle.jr_work.proofs.Sending.{closure_sync, job_send, pass_send}
use Rattle.jr_work.proofs.Turns.{if_ok_both}
use Rattle.jr_work.proofs.workers.run_jobs.Goals as goal

pub returns-clause-each : goal.returns-clause-each
returns-clause-each g c = if_ok_both c.map_vec.result (λ passes each long i pass at.
    let within = slice_get_within passes.items i pass at in
    let below : i < length c.args.jobs.items = search (arith, rules) in
    let given = (each i pass below).1 in
    let call = given.call in
    let back = slice_index_or passes.items i pass in
    let own : IfOk back (λ p. IsOf c.args.crew.now.shared.now.lock p) = search rules in
    let worked : IfOk back (λ p. HasWorked c.args.crew.now.script.now.value c.args.crew.now.workers given.job.worker (view_of p)) = search rules in
    let number : given.job.worker ≡ i = c.requires.order i given.job (slice_get_read c.args.jobs.items (length c.args.jobs.items) i given.job refl below given.job_read) in
    subst (λ r. IsGivenBack c.args.crew.now.script.now.value c.args.crew.now.workers c.args.crew.now.shared.now.lock i r) (get_or_from_slice_get passes.items i pass pass at)
    (if_ok_both back (λ p owns works. (owns, subst (λ n. HasWorked c.args.crew.now.script.now.value c.args.crew.now.workers n (view_of p)) number works)) own worked)) c.map_vec.ensures.each c.map_vec.ensures.len

pub map_vec-requires-send-J : goal.map_vec-requires-send-J
map_vec-requires-send-J g c κs within = search (job_send, sendable)

pub map_vec-requires-send-X : goal.map_vec-requires-send-X
map_vec-requires-send-X g c κs within = search (pass_send, crosses, sendable) depth 60 fits 20000

pub map_vec-requires-sync-F : goal.map_vec-requires-sync-F
map_vec-requires-sync-F g c κs within =
    record { shared = (closure_sync (record { mir = erased; lft = κs.1.1.1.1.1.1.1.1.0 }) (param 0 g.row.R) (param 1 g.row.G) [] (record { mir = erased; lft = κs.1.1.1.1.1.1.1.0 }) c.type_bounds.sync-R c.type_bounds.sync-G).shared }
