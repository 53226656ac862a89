use Rattle.core_clash.proofs.Reach.{reached_sound}
use Rattle.core_clash.proofs.Shrinking.{stays_dead, undone_begins, undone_marks, undone_roots, undone_stays}
use Rattle.core_clash.proofs.what_is_undone_stays_undone.Goals as goal

pub returns-clause-dead : goal.returns-clause-dead
returns-clause-dead c = λ s t d one. stays_dead one d

pub returns-clause-begins : goal.returns-clause-begins
returns-clause-begins c = undone_begins

pub returns-clause-stays : goal.returns-clause-stays
returns-clause-stays c = λ s t d p one dead. undone_stays one d.revision p dead.stopped

pub returns-clause-marks : goal.returns-clause-marks
returns-clause-marks c = λ s d p m reached dead free. undone_marks s (reached_sound s reached) d dead p free m

pub returns-clause-roots : goal.returns-clause-roots
returns-clause-roots c = λ s d p reached dead. undone_roots s (reached_sound s reached) d dead p
