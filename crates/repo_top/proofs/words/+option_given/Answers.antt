use Rattle.std.proofs.Common.{map, sym}
use Rattle.std.specs.String.{string_bytes}
use Rattle.repo_top.specs.Words.{row_option}
use Rattle.repo_top.proofs.Options.{found_behind, found_first, found_none}
use Rattle.repo_top.proofs.words.+option_given.Goals as goal

pub returns-in_err-first : goal.returns-in_err-first
returns-in_err-first t c = rw c.from_residual.ensures (found_none (map row_option c.args.options.now) c.args.name.now (map string_bytes c.args.words.now) c.in_err-first.ensures)

pub returns-then-eq : goal.returns-then-eq
returns-then-eq t c =
    found_first (map row_option c.args.options.now) c.args.name.now c.in_ok-first.first.name.now c.in_ok-first.first.given (map string_bytes c.args.words.now) _ c.in_ok-first.ensures.0 c.in_ok-first.ensures.1 (sym c.if-eq.ensures)

pub returns-else-eq : goal.returns-else-eq
returns-else-eq t c =
    found_behind (map row_option c.args.options.now) c.args.name.now c.in_ok-first.first.name.now c.in_ok-first.first.given (map string_bytes c.args.words.now) _ c.in_ok-first.ensures.0 c.in_ok-first.ensures.1 (sym c.if-eq.ensures) c.option_given.result c.option_given.ensures
