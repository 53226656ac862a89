use Rattle.std.proofs.Common.{◌≡◌, ◌∷◌, take}
use Rattle.jcr_call.proofs.tokens.put_first.Given as goal

abbrev pub invariant-loop-other : goal.invariant-loop-other
invariant-loop-other l = l.all ≡ l.token ∷ take l.other-index l.tokens
