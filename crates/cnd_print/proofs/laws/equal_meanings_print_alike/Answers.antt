use Rattle.std.proofs.Common.{◌∙◌, Ok, ap}
use Rattle.cnd_print.specs.Printing.{cnd_text}
use Rattle.jr_cnd.proofs.OneMeaning.{one_meaning, ok_same}
use Rattle.cnd_print.proofs.laws.equal_meanings_print_alike.Goals as goal

pub returns : goal.returns
returns c = λ text other meant a b h g ha gb.
    ap cnd_text (ok_same a meant (one_meaning text (Ok a) (Ok meant) ha h) ∙ ok_same meant b (one_meaning other (Ok meant) (Ok b) g gb))
