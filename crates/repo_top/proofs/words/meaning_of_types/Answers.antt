use Rattle.repo_top.proofs.Options.{types_alone}
use Rattle.repo_top.proofs.words.meaning_of_types.Goals as goal

pub returns : goal.returns
returns c = types_alone
