use Rattle.repo_top.proofs.Options.{gen_words}
use Rattle.repo_top.proofs.words.meaning_of_gen.Goals as goal

pub returns : goal.returns
returns c = gen_words
