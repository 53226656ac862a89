use Rattle.std.proofs.Common.{Some, refl}
use Rattle.jr_tree.specs.Edits.{applied}
use Rattle.jr_tree.proofs.Undated.{proper_tree}
use Rattle.jcr_law.specs.Calls.{call_moved}
use Rattle.jcr_held.specs.Alike.{moved_to}
use Rattle.jcr_held.proofs.Holding.{holds_alike, holds_moved_knowing, view_settled}
use Rattle.jcr_held.proofs.Referring.{references_dated}
use Rattle.jcr_held.specs.declared.references.References.TheVariants as references
use Rattle.jcr_held.proofs.held.Held.follow.Goals as goal

pub returns-clause-holds : goal.returns-clause-holds
returns-clause-holds c = λ d h settled proper refers.
    let tree = (view_settled d c.args.self.now settled h).0.tree in
    let after = proper_tree (Some c.args.by) d.base c.args.edit.now.writes proper in
    holds_alike (call_moved d c.args.base (applied (Some c.args.by) d.base c.args.edit.now.writes)) (record (moved_to c.args.self.now c.args.base) { part = c.follow.new.self; references = references.Named }) _ (record {
      types = refl;
      who = refl;
      part = refl;
      earlier = refl;
      pending = refl;
      is_kept = refl;
      references = refl;
      tokens = refl;
      cursor = refl;
    }) (holds_moved_knowing d c.args.self.now c.args.base (applied (Some c.args.by) d.base c.args.edit.now.writes) c.follow.new.self h settled after c.follow.ensures.order
    (λ agrees. c.follow.ensures.follows.agrees d.base tree proper agrees)
    (references_dated c.args.by d.base c.args.edit.now.writes refers))

pub returns-clause-whole : goal.returns-clause-whole
returns-clause-whole c = c.follow.ensures.follows.whole

pub returns-clause-nothing : goal.returns-clause-nothing
returns-clause-nothing c = c.follow.ensures.follows.nothing
