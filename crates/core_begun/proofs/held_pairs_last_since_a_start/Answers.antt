use Rattle.core_begun.proofs.Bounding.{bound_used}
use Rattle.core_begun.proofs.Events.{held_commit, held_draw, held_bound, held_else}
use Rattle.core_begun.proofs.held_pairs_last_since_a_start.Goals as goal

pub returns-clause-commit : goal.returns-clause-commit
returns-clause-commit c = λ start past r drawn v t told may is held. held_commit start past r drawn told may is v t held

pub returns-clause-draw : goal.returns-clause-draw
returns-clause-draw c = λ start past d v t told fresh unseen unswept held. held_draw start past d told fresh v t unseen unswept held

pub returns-clause-bound : goal.returns-clause-bound
returns-clause-bound c = λ start past m s v t below below_swept held. held_bound start past m s v t below below_swept held

pub returns-clause-others : goal.returns-clause-others
returns-clause-others c = held_else

pub returns-clause-read : goal.returns-clause-read
returns-clause-read c = bound_used
