use Rattle.std.proofs.Common.{map}
use Rattle.std.specs.String.{string_bytes}
use Rattle.jcr_call.proofs.Replying.{cause_alike, free_alike}
use Rattle.jcr_call.proofs.coming.planned.Goals as goal

pub returns-clause-accepted : goal.returns-clause-accepted
returns-clause-accepted c = λ on o alike.
    free_alike c.plan_of_change.result c.args.footing.now on (map string_bytes c.args.tokens.now) c.args.edit.writes o alike.alike c.plan_of_change.ensures.accepted

pub returns-clause-refused : goal.returns-clause-refused
returns-clause-refused c = λ on o alike.
    cause_alike c.plan_of_change.result c.args.footing.now on (map string_bytes c.args.tokens.now) c.args.edit.writes o alike.alike c.plan_of_change.ensures.refused
