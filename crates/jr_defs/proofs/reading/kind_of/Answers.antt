use Rattle.std.proofs.Common.{rules, false, None, Some, ◌≡◌}
use Rattle.std.specs.Prelude.{codes}
use Rattle.std.specs.Str.{bytes_eq}
use Rattle.jr_value.specs.Words.{all_kinds, kind_named}
use Rattle.jr_defs.proofs.KindWords.{kind_read, no_kind}
use Rattle.jr_defs.proofs.reading.kind_of.Goals as goal

pub returns-in-Some : goal.returns-in-Some
returns-in-Some c =
    let found : Some c.in-Some.kind ≡ kind_named all_kinds c.args.word.now = search rules in
    kind_read c.args.word.now c.in-Some.kind found

pub returns-in-None : goal.returns-in-None
returns-in-None c =
    let other : bytes_eq c.args.word.now (codes "undefined") ≡ false = search rules in
    let none : None ≡ kind_named all_kinds c.args.word.now = search rules in
    no_kind c.args.word.now other none
