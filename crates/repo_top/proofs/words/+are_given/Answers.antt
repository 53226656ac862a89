use Rattle.std.proofs.Common.{[], map, refl, sym}
use Rattle.std.proofs.lemmas.Bool.{false≢true}
use Rattle.std.specs.List.{IsDistinct}
use Rattle.std.specs.String.{string_bytes}
use Rattle.repo_top.specs.Words.{row_option}
use Rattle.repo_top.proofs.Options.{no_words, none_given, once, some_words, twice}
use Rattle.repo_top.proofs.words.+are_given.Goals as goal

pub returns-then-is_empty : goal.returns-then-is_empty
unfolding IsDistinct
returns-then-is_empty t c = ((λ _. ([], no_words string_bytes c.args.words.now (sym c.if-is_empty.ensures), tt)), (λ _. refl))

pub returns-in_default : goal.returns-in_default
returns-in_default t c =
    ((λ h. absurd (false≢true h)), (λ k. absurd (none_given (map row_option c.args.options.now) (map string_bytes c.args.words.now) (some_words string_bytes c.args.words.now (sym c.if-is_empty.ensures)) c.in_default.ensures k)))

pub returns-then-is_some : goal.returns-then-is_some
returns-then-is_some t c = (
  (λ h. absurd (false≢true h)),
  (λ k. absurd (twice (map row_option c.args.options.now) c.in-Some.first.name.now c.in-Some.first.given (map string_bytes c.args.words.now) (map string_bytes c.in-Some.first.rest.now) c.in-Some.ensures.0 c.in-Some.ensures.1 c.option_given.result c.option_given.ensures (sym c.if-is_some.ensures) k)),
)

pub returns : goal.returns
returns t c =
    once (map row_option c.args.options.now) c.in-Some.first.name.now c.in-Some.first.given (map string_bytes c.args.words.now) (map string_bytes c.in-Some.first.rest.now) c.in-Some.ensures.0 c.in-Some.ensures.1 c.option_given.result c.option_given.ensures (sym c.if-is_some.ensures) c.are_given.result c.are_given.ensures
