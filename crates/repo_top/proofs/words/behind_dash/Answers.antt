use Rattle.std.proofs.Common.{arith}
use Rattle.std.proofs.lemmas.Str.Pattern.{strip_prefix_char}
use Rattle.repo_top.proofs.words.behind_dash.Goals as goal

pub returns : goal.returns
returns c = strip_prefix_char 45 _ _ c.strip_prefix.ensures.cases (omega arith)
