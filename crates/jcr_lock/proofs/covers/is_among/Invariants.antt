use Rattle.std.proofs.Common.{◌≡◌, drop, map}
use Rattle.std.specs.List.{list_any}
use Rattle.std.specs.String.{string_bytes}
use Rattle.jr_value.specs.Values.{same_bytes}
use Rattle.jcr_lock.proofs.covers.is_among.Given as goal

-- what is left decides
abbrev pub invariant-loop-token : goal.invariant-loop-token
invariant-loop-token l = list_any (same_bytes l.owner) (map string_bytes (drop l.token-index l.tokens)) ≡ list_any (same_bytes l.owner) (map string_bytes l.tokens)
