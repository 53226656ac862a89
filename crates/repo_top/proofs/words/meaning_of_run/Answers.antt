use Rattle.repo_top.proofs.Options.{run_words}
use Rattle.repo_top.proofs.words.meaning_of_run.Goals as goal

pub returns : goal.returns
returns c = run_words
