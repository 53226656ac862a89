use Rattle.core_clash.proofs.Reach.{reached_sound}
use Rattle.core_clash.proofs.Shrinking.{status_is}
use Rattle.core_clash.proofs.statuses_can_be_trusted.Goals as goal

pub returns : goal.returns
returns c = λ s r reached. status_is s (reached_sound s reached) r
