use Rattle.std.proofs.Common.{sym, ◌∙◌}
use Rattle.jr_part.proofs.Puts.{absent_put}
use Rattle.jr_part.proofs.part.Part.put_absent.Goals as goal

pub returns-clause-ok : goal.returns-clause-ok
returns-clause-ok c =
    absent_put (record { nodes = c.self.inside.tree; absent = c.self.inside.absent; lists = c.self.inside.lists }) c.args.self.now c.args.path.now c.in_ok-copy.field-0 c.put.new.self c.put.result c.self.view_is c.in_ok-copy.ensures
    (sym c.has.ensures ∙ c.if-has.false) c.put.ensures.ok
