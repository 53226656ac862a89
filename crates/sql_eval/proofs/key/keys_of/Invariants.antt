use Rattle.std.proofs.Common.{◌≡◌, map, take}
use Rattle.sql_eval.specs.Keys.{key_of}
use Rattle.sql_eval.proofs.key.keys_of.Given as goal

-- the keys so far
abbrev pub invariant-loop-order : goal.invariant-loop-order
invariant-loop-order l = l.keys.items ≡ map (key_of l.tuple) (take l.order-index l.orders)
