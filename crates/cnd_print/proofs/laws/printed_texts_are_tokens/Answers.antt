use Rattle.cnd_print.proofs.Tokens.{text_token, text_written}
use Rattle.cnd_print.proofs.laws.printed_texts_are_tokens.Goals as goal

pub returns : goal.returns
returns c = record { token = text_token; written = text_written }
