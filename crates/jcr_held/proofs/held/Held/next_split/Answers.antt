use Rattle.std.proofs.Common.{[], ◌∷◌, refl}
use Rattle.jr_part.specs.declared.need.Need.TheVariants as need
use Rattle.jcr_held.proofs.Holding.{first_known}
use Rattle.jcr_held.proofs.held.Held.next_split.Goals as goal

pub check_split-requires : goal.check_split-requires
check_split-requires c = record {
  known = first_known c.args.self.now.part (need.Node c.args.path.now ∷ []) (need.Node c.args.path.now) refl c.requires.ready.known (need.Node c.args.path.now) refl;
}
