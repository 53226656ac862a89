use Rattle.seat_lock.specs.Passes.{view_of}
use Rattle.jr_work.proofs.worker.run_session.Given as goal

abbrev pub ghosts-run_through : goal.ghosts-run_through
ghosts-run_through g a = record { table = a.pass.now.seat.table_id; view = view_of a.pass.now }
