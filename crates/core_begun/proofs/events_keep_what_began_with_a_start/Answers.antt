use Rattle.core_begun.proofs.Events.{kept_last, kept_draw, kept_end, kept_bound, kept_idle}
use Rattle.core_begun.proofs.events_keep_what_began_with_a_start.Goals as goal

pub returns-clause-last : goal.returns-clause-last
returns-clause-last c = λ start ds now past done r drawn op number world is may all at only main. kept_last start ds now past done world r drawn is may all op number at only main

pub returns-clause-draw : goal.returns-clause-draw
returns-clause-draw c = λ start ds past done d world fresh none told unbounded unswept. kept_draw start ds past done world d fresh none told unbounded unswept

pub returns-clause-ending : goal.returns-clause-ending
returns-clause-ending c = λ start ds past done r drawn world is flying none. kept_end start ds past done world r drawn is flying none

pub returns-clause-bound : goal.returns-clause-bound
returns-clause-bound c = λ start ds past done m t world used below. kept_bound start ds past done world m t used below

pub returns-clause-idle : goal.returns-clause-idle
returns-clause-idle c = kept_idle
