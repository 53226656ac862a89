use Rattle.std.proofs.Common.{◌≡◌, Some, None, map}
use Rattle.std.specs.String.{string_bytes}
use Rattle.repo_top.specs.Words.{row_option}
use Rattle.repo_top.specs.declared.words.Given.TheVariants as given
use Rattle.repo_top.proofs.Options.{number_is_given}
use Rattle.repo_top.proofs.words.number_given.Goals as goal

pub unreachable-requires : goal.unreachable-requires
unreachable-requires c =
    let spelled = c.requires.given in
    let n = number_is_given (map row_option c.args.options.now) c.args.name.now spelled.0 (map string_bytes c.args.words.now) (Some c.in-Some-Flag.field-0) c.requires.number spelled.1 (c.in-Some-Flag.ensures spelled.0 spelled.1.each) in
    let e : Some c.in-Some-Flag.field-0 ≡ Some (given.Number n.0) = n.1 in cc

pub unreachable-requires-in-None : goal.unreachable-requires-in-None
unreachable-requires-in-None c =
    let spelled = c.requires.given in
    let n = number_is_given (map row_option c.args.options.now) c.args.name.now spelled.0 (map string_bytes c.args.words.now) None c.requires.number spelled.1 (c.in-None.ensures spelled.0 spelled.1.each) in
    let e : None ≡ Some (given.Number n.0) = n.1 in cc
