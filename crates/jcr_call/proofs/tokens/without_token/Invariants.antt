use Rattle.std.proofs.Common.{◌≡◌, take}
use Rattle.jcr_law.specs.State.{without_token}
use Rattle.jcr_call.proofs.tokens.without_token.Given as goal

-- the others so far
abbrev pub invariant-loop-other : goal.invariant-loop-other
invariant-loop-other l = l.rest ≡ without_token (take l.other-index l.tokens) l.token
