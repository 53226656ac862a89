use Rattle.std.proofs.Common.{map, refl}
use Rattle.std.proofs.lemmas.Bool.{false≢true}
use Rattle.std.specs.String.{string_bytes}
use Rattle.repo_top.proofs.Options.{not_spelled, spelled}
use Rattle.repo_top.proofs.words.spells.Goals as goal

pub returns-then-not-is_met : goal.returns-then-not-is_met
returns-then-not-is_met c = (
  (λ h. absurd (false≢true h)),
  (λ s. absurd (not_spelled c.args.options.now (map string_bytes c.args.words.now) c.loop-option.option-index _ c.is_met.result c.loop-option-test.true c.if-not-is_met.true c.is_met.ensures s.0 s.1)),
)

pub returns : goal.returns
returns c = (
  (λ _. spelled c.args.options.now (map string_bytes c.args.words.now) c.loop-option.option-index c.loop-option-test.false (c.are_given.ensures.0 c.if-not-are_given.false) c.loop-option.invariant),
  (λ _. refl),
)
