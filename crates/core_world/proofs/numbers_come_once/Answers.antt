use Rattle.core_world.proofs.Numbers.{first_listed, listed_numbers, numbered_on, put_step, removed_step, undo_step, update_step}
use Rattle.core_world.proofs.numbers_come_once.Goals as goal

pub returns-clause-put : goal.returns-clause-put
returns-clause-put c = put_step

pub returns-clause-update : goal.returns-clause-update
returns-clause-update c = update_step

pub returns-clause-undo : goal.returns-clause-undo
returns-clause-undo c = undo_step

pub returns-clause-removed : goal.returns-clause-removed
returns-clause-removed c = removed_step

pub returns-clause-numbered : goal.returns-clause-numbered
returns-clause-numbered c = λ t u formers step low are. numbered_on t u step formers low are

pub returns-clause-first : goal.returns-clause-first
returns-clause-first c = λ t formers p old are is. first_listed t formers are p old is

pub returns-clause-listed : goal.returns-clause-listed
returns-clause-listed c = λ t formers p old d f are is early number. listed_numbers t formers are p old d f is early number
