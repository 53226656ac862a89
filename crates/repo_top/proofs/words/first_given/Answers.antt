use Rattle.std.proofs.Common.{option_map}
use Rattle.std.specs.String.{string_bytes}
use Rattle.repo_top.proofs.Options.{begins, head_words, is_option, no_given, no_option}
use Rattle.repo_top.proofs.words.first_given.Goals as goal

pub returns-in_err-option : goal.returns-in_err-option
returns-in_err-option c =
    let split = head_words string_bytes c.args.words.now c.word-item.result c.as_str.result.now c.word-item.is c.in-len1-up.len_at_least (cc) in
    rw c.from_residual-in_err-option.ensures (no_option c.args.options.now _ _ _ split c.in_ok-name.name.now (option_map (λ v. v.now) c.in_ok-name.value) c.in_ok-name.ensures.0 c.in_ok-name.ensures.1 c.in_err-option.ensures)

pub returns-in_err-given : goal.returns-in_err-given
returns-in_err-given c =
    let split = head_words string_bytes c.args.words.now c.word-item.result c.as_str.result.now c.word-item.is c.in-len1-up.len_at_least (cc) in
    rw c.from_residual-in_err-given.ensures (no_given c.args.options.now _ _ _ split c.in_ok-name.name.now (option_map (λ v. v.now) c.in_ok-name.value) c.in_ok-name.ensures.0 c.in_ok-name.ensures.1 c.in_ok-option.option.now c.in_ok-option.ensures c.in_err-given.ensures)

pub returns : goal.returns
returns c =
    let split = head_words string_bytes c.args.words.now c.word-item.result c.as_str.result.now c.word-item.is c.in-len1-up.len_at_least (cc) in (
      is_option c.args.options.now _ _ _ split c.in_ok-name.name.now (option_map (λ v. v.now) c.in_ok-name.value) c.in_ok-name.ensures.0 c.in_ok-name.ensures.1 c.in_ok-option.option.now c.in_ok-option.ensures c.in_ok-given.given c.in_ok-given.ensures.0,
      begins c.args.options.now _ _ _ split c.in_ok-name.name.now (option_map (λ v. v.now) c.in_ok-name.value) c.in_ok-name.ensures.0 c.in_ok-name.ensures.1 c.in_ok-given.given _ c.in_ok-given.ensures.1,
    )
