use Rattle.std.proofs.Common.{List, ℕ, subst}
use Rattle.std.specs.String.{string_bytes}
use Rattle.repo_top.specs.Words.{AreGiven, table_row}
use Rattle.repo_top.proofs.Options.{rest_words}
use Rattle.repo_top.proofs.words.words_meant.Goals as goal

pub returns-in_err-row : goal.returns-in_err-row
returns-in_err-row c = rw c.from_residual.ensures (λ m means. c.in_err-row.ensures means.0 means.1 means.2)

pub returns : goal.returns
returns c =
    let spelled = c.in_ok-row.ensures in let row = table_row c.in_ok-row.row.now in
    let rest = rest_words string_bytes c.args.words.now row.command spelled.1.rest spelled.1.command in
    let all = subst (λ (w : List (List ℕ)). AreGiven row.options spelled.0 w) rest spelled.1.options.each in
    (row, spelled.0, spelled.1, c.meaning_of.ensures spelled.0 all)
