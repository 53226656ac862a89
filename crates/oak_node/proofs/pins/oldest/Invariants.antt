use Rattle.std.proofs.Common.{◌≡◌, fold, filter, take}
use Rattle.std.specs.Ordering.{ord_min}
use Rattle.jr_rev.specs.Revisions.{revision_cmp}
use Rattle.jr_rev.specs.Vectors.{is_below, own_in}
use Rattle.oak_node.proofs.pins.oldest.Given as goal

-- the earliest so far
abbrev pub invariant-loop-pin : goal.invariant-loop-pin
invariant-loop-pin l = l.oldest ≡ fold (λ e pin. ord_min revision_cmp e (own_in l.cluster pin.1.base)) l.fn.own (filter (λ pin. is_below l.known pin.1.base) (take l.pin-index l.pins))
