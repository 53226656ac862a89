use Rattle.core_clash.proofs.Reach.{reached_sound}
use Rattle.core_clash.proofs.Steps.{found_root}
use Rattle.core_clash.proofs.who_is_met_is_told_with_its_commit_root.Goals as goal

pub returns : goal.returns
returns c = λ s d p rest f reached. found_root s d p rest f (reached_sound s reached)
