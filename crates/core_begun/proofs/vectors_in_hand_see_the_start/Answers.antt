use Rattle.core_begun.proofs.Runs.{hand_sees}
use Rattle.core_begun.proofs.vectors_in_hand_see_the_start.Goals as goal

pub returns : goal.returns
returns g c = λ h v o is hand seen. hand_sees (g.L.Law.may_start c.args.law.now) (g.L.Law.may_say c.args.law.now) h v is hand o seen
