use Rattle.seat_lock.proofs.Clauses.{clauses_of}
use Rattle.seat_lock.proofs.Places.{contains_merged, contains_merged_left, contains_merged_right}
use Rattle.std.proofs.Common.{⊎_elim}
use Rattle.seat_lock.proofs.law.rule_gives_clauses.Goals as goal

pub returns-clause-clauses : goal.returns-clause-clauses
returns-clause-clauses g c s r = clauses_of g.T.Counted s r

pub returns-clause-places : goal.returns-clause-places
returns-clause-places g c ps qs p = (contains_merged ps qs p, ⊎_elim (contains_merged_left ps qs p) (contains_merged_right ps qs p))
