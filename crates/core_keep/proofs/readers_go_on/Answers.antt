use Rattle.core_keep.proofs.Readers.{reads_previous, reads_on}
use Rattle.core_keep.proofs.Formers.{reads_found, shown_copy}
use Rattle.core_keep.proofs.readers_go_on.Goals as goal

pub returns-clause-asks : goal.returns-clause-asks
returns-clause-asks c = reads_previous

pub returns-clause-lasts : goal.returns-clause-lasts
returns-clause-lasts c = λ ds now old later v t p copy asked look reads goes. reads_on ds now old later v t p copy asked look reads goes

pub returns-clause-finds : goal.returns-clause-finds
returns-clause-finds c = λ ds k v t p copy asked look j f reads held former copied shown way. reads_found ds k v t p copy asked look reads held j f former copied shown way

pub returns-clause-shows : goal.returns-clause-shows
returns-clause-shows c = λ ds k v t p copy f held is followed. shown_copy ds k v t p copy f held is followed
