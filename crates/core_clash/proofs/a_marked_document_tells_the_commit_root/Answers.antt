use Rattle.core_clash.proofs.Reach.{reached_sound}
use Rattle.core_clash.proofs.Steps.{told_root}
use Rattle.core_clash.proofs.a_marked_document_tells_the_commit_root.Goals as goal

pub returns : goal.returns
returns c = λ s r p m reached. told_root s r p m (reached_sound s reached)
