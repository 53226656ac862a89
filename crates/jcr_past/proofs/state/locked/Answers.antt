use Rattle.std.proofs.Common.{◌≡◌, List, ℕ, subst}
use Rattle.std.specs.Prelude.{IfOk}
use Rattle.jcr_law.specs.State.{with_token}
use Rattle.jcr_past.proofs.state.locked.Goals as goal

pub returns : goal.returns
returns c = subst
    (λ (t : List ℕ). IfOk c.holding.result (λ state. state ≡ record c.args.call.state {
      tokens = with_token c.args.call.state.tokens t;
    })) c.in_ok-token.ensures c.holding.ensures
