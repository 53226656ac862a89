use Rattle.cnd_print.proofs.Tokens.{name_token}
use Rattle.cnd_print.proofs.laws.bare_names_are_tokens.Goals as goal

pub returns : goal.returns
returns c = name_token
