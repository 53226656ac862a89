use Rattle.std.proofs.Common.{rules}
use Rattle.serde_json.specs.View.{view}
use Rattle.jr_defs.proofs.ByParts.{other_read, star_read}
use Rattle.jr_defs.proofs.reading.item_name_in.Goals as goal

pub returns-then-is_star : goal.returns-then-is_star
returns-then-is_star c = star_read (view c.args.json.now) c.is_star.result c.is_star.ensures (search rules)

pub returns : goal.returns
returns c = other_read (view c.args.json.now) c.is_star.result c.some_name.result c.is_star.ensures (search rules) c.some_name.ensures
