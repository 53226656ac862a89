use Rattle.seat_lock.proofs.lock.SeatLock.split.Given as goal

abbrev pub ghosts-split_by : goal.ghosts-split_by
ghosts-split_by g a = record { authors = a.authors.now }
