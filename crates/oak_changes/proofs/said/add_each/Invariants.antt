use Rattle.std.proofs.Common.{◌≡◌, ◌++◌, List}
use Rattle.oak_changes.specs.declared.said.Said.{Said}
use Rattle.oak_changes.proofs.said.add_each.Given as goal

-- the changes so far, and those that are left; and they stand behind those that were there
abbrev pub invariant-loop-one : goal.invariant-loop-one
invariant-loop-one l = record {
  whole : l.said ++ l.one-iterator.rest.items ≡ l.initial.said ++ l.fn.more;
  front : (some : List Said) × (l.said ≡ l.initial.said ++ some);
}
