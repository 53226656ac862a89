use Rattle.core_world.proofs.Copying.{found_drops, found_is, found_now, found_on}
use Rattle.core_world.proofs.Numbers.{read_now, read_on}
use Rattle.core_world.proofs.collections_find_what_is_there.Goals as goal

pub returns-clause-finds : goal.returns-clause-finds
returns-clause-finds c = found_now

pub returns-clause-lasts : goal.returns-clause-lasts
returns-clause-lasts c = λ t u p old e found finds step stays. found_on t p old e found finds u step stays

pub returns-clause-there : goal.returns-clause-there
returns-clause-there c = λ t p old d e found finds is same. found_is t p old e found finds d is same

pub returns-clause-read : goal.returns-clause-read
returns-clause-read c = λ t formers i old are is. read_now t formers are i old is

pub returns-clause-reads : goal.returns-clause-reads
returns-clause-reads c = λ t u i old step read. read_on t u step i old read

pub returns-clause-drops : goal.returns-clause-drops
returns-clause-drops c = found_drops
