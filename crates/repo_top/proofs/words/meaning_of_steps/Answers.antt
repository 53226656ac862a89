use Rattle.repo_top.proofs.Options.{steps_words}
use Rattle.repo_top.proofs.words.meaning_of_steps.Goals as goal

pub returns : goal.returns
returns c = steps_words
