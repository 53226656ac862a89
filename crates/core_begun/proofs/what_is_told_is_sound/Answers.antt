use Rattle.core_begun.proofs.Sound.{closed_falling, sound_since}
use Rattle.jr_rev.specs.Vectors.{sees}
use Rattle.core_begun.proofs.what_is_told_is_sound.Goals as goal

pub returns-clause-sound : goal.returns-clause-sound
returns-clause-sound c = λ s past told. sound_since s past told

pub returns-clause-closed : goal.returns-clause-closed
returns-clause-closed c = λ s past v used. closed_falling past (sees v) used.closed
