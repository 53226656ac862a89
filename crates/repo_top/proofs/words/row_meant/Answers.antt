use Rattle.std.proofs.Common.{◌≡◌, true}
use Rattle.std.specs.String.{string_bytes}
use Rattle.repo_top.proofs.Options.{head_words, is_row, no_row, not_row}
use Rattle.repo_top.proofs.words.row_meant.Goals as goal

pub returns-in_err-row : goal.returns-in_err-row
returns-in_err-row c =
    rw c.from_residual.ensures (no_row c.args.table.now _ _ _ (head_words string_bytes c.args.words.now c.command-item.result c.as_str.result.now c.command-item.is c.in-len1-up.len_at_least (cc)) c.in_err-row.ensures)

pub returns-then-spells : goal.returns-then-spells
returns-then-spells c =
    is_row c.args.table.now _ _ _ (head_words string_bytes c.args.words.now c.command-item.result c.as_str.result.now c.command-item.is c.in-len1-up.len_at_least (cc)) c.in_ok-row.row.now c.in_ok-row.ensures (c.spells.ensures.0 c.if-spells.true)

pub returns-else-spells : goal.returns-else-spells
returns-else-spells c =
    not_row c.args.table.now _ _ _ (head_words string_bytes c.args.words.now c.command-item.result c.as_str.result.now c.command-item.is c.in-len1-up.len_at_least (cc)) c.in_ok-row.row.now c.in_ok-row.ensures
    (λ s. let h : c.spells.result ≡ true = c.spells.ensures.1 s in cc)
