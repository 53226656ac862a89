use Rattle.core_clash.proofs.Begin.{may_begin}
use Rattle.core_clash.proofs.draws_may_begin.Goals as goal

pub returns : goal.returns
returns g c = λ clusters sessions begin s d left nodes known run covers once. may_begin clusters sessions nodes (g.L.Law.may_start c.args.law.now) (g.L.Law.may_say c.args.law.now) (g.L.Law.proper c.args.law.now) s begin d left known run covers once
