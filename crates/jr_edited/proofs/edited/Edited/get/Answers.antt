use Rattle.jr_edited.proofs.Made.{seen_changed, seen_unchanged}
use Rattle.jr_edited.proofs.edited.Edited.get.Goals as goal

pub returns-in-Some : goal.returns-in-Some
returns-in-Some c = seen_changed c.self.inside.tree.now c.self.inside.changes c.args.self.now c.args.path.now c.in-Some.change.now _ c.self.invariant.tree c.self.invariant.changes c.self.view_is c.in-Some.ensures c.as_ref.ensures.value

pub returns-in-None : goal.returns-in-None
returns-in-None c = seen_unchanged c.self.inside.tree.now c.self.inside.changes c.args.self.now c.args.path.now _ c.self.invariant.tree c.self.invariant.changes c.self.view_is c.in-None.ensures c.get.ensures
