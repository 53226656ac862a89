use Rattle.std.proofs.Common.{refl, rules, subst}
use Rattle.std.specs.Prelude.{IfOk, IfSome}
use Rattle.jr_part.specs.Parts.{Knowledge}
use Rattle.jcr_held.specs.Looking.{IsMetFirst}
use Rattle.jcr_held.proofs.Unread.{loads_wanted}
use Rattle.jcr_held.proofs.held.Held.load_on.Goals as goal

pub returns-clause-wanted : goal.returns-clause-wanted
returns-clause-wanted c = λ d m h.
    loads_wanted d c.args.self.now _ m (record {
      types = refl;
      who = refl;
      part = refl;
      earlier = refl;
      pending = refl;
      is_kept = refl;
      references = refl;
      tokens = refl;
      cursor = refl;
    }) (search rules) h c.load_left.result
    (subst (λ (k : Knowledge). IfOk c.load_left.result (λ load. IfSome load (IsMetFirst k c.args.self.now.pending c.args.self.now.is_kept))) c.as_part.ensures c.load_left.ensures)
