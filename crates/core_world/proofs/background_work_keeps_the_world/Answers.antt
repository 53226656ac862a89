-- Each step by its lemma.
use Rattle.std.proofs.Common.{suc}
use Rattle.core_world.proofs.background_work_keeps_the_world.Goals as goal
use Rattle.core_world.proofs.Backs.{heard, own_entry_is, told_now}
use Rattle.core_world.proofs.Whole.{back_keeps, layers_of, learn_keeps, learn_swept_keeps, out_keeps, pending_keeps, sweep_keeps}

pub returns-clause-pending : goal.returns-clause-pending
returns-clause-pending g c = λ w s kept login stays. pending_keeps (g.L.Law.may_start c.args.law.now) (g.L.Law.may_say c.args.law.now) (g.L.Law.proper c.args.law.now) w kept s login stays

pub returns-clause-back : goal.returns-clause-back
returns-clause-back g c = λ w s p r kept login stays other. back_keeps (g.L.Law.may_start c.args.law.now) (g.L.Law.may_say c.args.law.now) (g.L.Law.proper c.args.law.now) w kept s login stays p r other

pub returns-clause-out : goal.returns-clause-out
returns-clause-out g c = λ w s r kept login of low. out_keeps (g.L.Law.may_start c.args.law.now) (g.L.Law.may_say c.args.law.now) (g.L.Law.proper c.args.law.now) w kept s login r of low

pub returns-clause-learn : goal.returns-clause-learn
returns-clause-learn g c = λ w s last sweep kept on login were. learn_keeps (g.L.Law.may_start c.args.law.now) (g.L.Law.may_say c.args.law.now) (g.L.Law.proper c.args.law.now) w kept s on login last sweep were

pub returns-clause-swept : goal.returns-clause-swept
returns-clause-swept g c = λ w s r kept login of low. sweep_keeps (g.L.Law.may_start c.args.law.now) (g.L.Law.may_say c.args.law.now) (g.L.Law.proper c.args.law.now) w kept s login r of low

pub returns-clause-told : goal.returns-clause-told
returns-clause-told g c = λ w d kept there. (0, told_now w.clusters w.begin w.past w.table kept.root d there)

pub returns-clause-lasts : goal.returns-clause-lasts
returns-clause-lasts g c = λ begin clusters e past last sweep were. (suc were.0, were.1)

pub returns-clause-own : goal.returns-clause-own
returns-clause-own g c = λ w s kept login. own_entry_is (g.L.Law.may_start c.args.law.now) (g.L.Law.may_say c.args.law.now) (g.L.Law.proper c.args.law.now) w (layers_of (g.L.Law.may_start c.args.law.now) (g.L.Law.may_say c.args.law.now) w kept) s login

pub returns-clause-published : goal.returns-clause-published
returns-clause-published g c = λ w d r kept there. (told_now w.clusters w.begin w.past w.table kept.root d there).public r

pub returns-clause-learn_swept : goal.returns-clause-learn_swept
returns-clause-learn_swept g c = λ w s r kept login stays of low. learn_swept_keeps (g.L.Law.may_start c.args.law.now) (g.L.Law.may_say c.args.law.now) (g.L.Law.proper c.args.law.now) w kept s login stays r of low

pub returns-clause-heard : goal.returns-clause-heard
returns-clause-heard g c = λ w s last sweep r kept login were seen. heard (g.L.Law.may_start c.args.law.now) (g.L.Law.may_say c.args.law.now) (g.L.Law.proper c.args.law.now) w (layers_of (g.L.Law.may_start c.args.law.now) (g.L.Law.may_say c.args.law.now) w kept) s login last sweep were r seen
