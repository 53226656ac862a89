use Rattle.std.proofs.Common.{arith, Some, None}
use Rattle.std.proofs.lemmas.Str.Pattern.{split_parts}
use Rattle.repo_top.proofs.words.at_equals.Goals as goal

pub returns-in-Some-clause-plain : goal.returns-in-Some-clause-plain
returns-in-Some-clause-plain c = (split_parts 61 c.args.text.now (Some (c.in-Some.name, c.in-Some.value)) c.in-Some.ensures.cases (omega arith)).1

pub returns-in-None-clause-plain : goal.returns-in-None-clause-plain
returns-in-None-clause-plain c = split_parts 61 c.args.text.now None c.in-None.ensures.cases (omega arith)
