use Rattle.std.proofs.Common.{rules, Some, ◌≡◌}
use Rattle.serde_json.specs.Find.{as_str}
use Rattle.serde_json.specs.View.{view}
use Rattle.jr_defs.proofs.KindWords.{of_word}
use Rattle.jr_defs.proofs.reading.kind_in.Goals as goal

pub returns-in-Some : goal.returns-in-Some
returns-in-Some c =
    let word : as_str (view c.args.json.now) ≡ Some c.in-Some.word.now = search rules in
    of_word (view c.args.json.now) c.in-Some.word.now c.kind_of.result word c.kind_of.ensures
