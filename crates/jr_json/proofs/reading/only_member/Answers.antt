use Rattle.std.proofs.Common.{arith}
use Rattle.jr_json.proofs.Empties.{not_one}
use Rattle.jr_json.proofs.reading.only_member.Goals as goal

pub returns-then-len-ne1 : goal.returns-then-len-ne1
returns-then-len-ne1 c = not_one c.args.members.now.entries (λ e. absurd (omega (arith, c.if-len-ne1.true, c.len.ensures.len, e)))
