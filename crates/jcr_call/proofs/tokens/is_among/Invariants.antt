use Rattle.std.proofs.Common.{◌≡◌, drop}
use Rattle.std.specs.List.{list_any}
use Rattle.jr_value.specs.Values.{same_bytes}
use Rattle.jcr_call.proofs.tokens.is_among.Given as goal

-- what is left decides
abbrev pub invariant-loop-other : goal.invariant-loop-other
invariant-loop-other l = list_any (same_bytes l.token) (drop l.other-index l.tokens)
    ≡ list_any (same_bytes l.token) l.tokens
