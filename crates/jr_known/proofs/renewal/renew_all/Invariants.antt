use Rattle.std.proofs.Common.{drop}
use Rattle.jr_tree.specs.Trees.{Nodes}
use Rattle.jr_part.specs.Parts.{AgreesWith}
use Rattle.jr_known.specs.Renewal.{AreListed, IsRenewedBut}
use Rattle.jr_known.proofs.renewal.renew_all.Given as goal

abbrev pub invariant-loop-path : goal.invariant-loop-path
invariant-loop-path l = record {
  renewed : (t : Nodes) → AgreesWith t l.fresh → IsRenewedBut t l.told l.initial.part → IsRenewedBut t (drop l.path-index l.told) l.part;
  listed : AreListed l.told l.initial.part → AreListed l.told l.part;
}
