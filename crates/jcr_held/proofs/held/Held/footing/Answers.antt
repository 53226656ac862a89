use Rattle.std.proofs.Common.{Bool, true, subst, sym}
use Rattle.jcr_call.specs.Footings.{RefusesAlike}
use Rattle.jcr_held.proofs.Holding.{base_tree, refused_alike}
use Rattle.jcr_held.proofs.held.Held.footing.Goals as goal

pub returns-clause-assured : goal.returns-clause-assured
returns-clause-assured c = λ d h typed. record {
  tree = λ known. base_tree d c.args.self.now h;
  alike =
      subst (λ (b : Bool). RefusesAlike (record { typed = true; referring = b }) d) (sym c.are_named.ensures)
      (refused_alike d c.args.self.now h c.requires.settled typed);
}
