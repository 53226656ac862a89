-- By the steps' lemmas.
use Rattle.core_world.proofs.splits_keep_the_world.Goals as goal
use Rattle.core_world.proofs.Collected.{back_whole, copied_whole, split_whole}
use Rattle.core_world.proofs.Splitting.{back_rises, copied_rises, split_rises}
use Rattle.core_world.proofs.Whole.{layers_of}

pub returns-clause-copied : goal.returns-clause-copied
returns-clause-copied g c = λ w s p k x kept login stays none new. copied_whole (g.L.Law.may_start c.args.law.now) (g.L.Law.may_say c.args.law.now) (g.L.Law.proper c.args.law.now) w kept s login stays p k x none new

pub returns-clause-listed : goal.returns-clause-listed
returns-clause-listed g c = λ w s read pin p old e kept login stays may new. split_whole (g.L.Law.may_start c.args.law.now) (g.L.Law.may_say c.args.law.now) (g.L.Law.proper c.args.law.now) w kept s login stays read pin p old e may new

pub returns-clause-copied_holds : goal.returns-clause-copied_holds
returns-clause-copied_holds g c = λ w s p k x kept login stays none new. copied_rises (g.L.Law.may_start c.args.law.now) (g.L.Law.may_say c.args.law.now) (g.L.Law.proper c.args.law.now) w (layers_of (g.L.Law.may_start c.args.law.now) (g.L.Law.may_say c.args.law.now) w kept) s login stays p k x none new

pub returns-clause-listed_holds : goal.returns-clause-listed_holds
returns-clause-listed_holds g c = λ w s read pin p old e kept login stays may new. split_rises (g.L.Law.may_start c.args.law.now) (g.L.Law.may_say c.args.law.now) (g.L.Law.proper c.args.law.now) w (layers_of (g.L.Law.may_start c.args.law.now) (g.L.Law.may_say c.args.law.now) w kept) s login stays read pin p old e may new

pub returns-clause-undone : goal.returns-clause-undone
returns-clause-undone g c = λ w s p k kept login stays may. back_whole (g.L.Law.may_start c.args.law.now) (g.L.Law.may_say c.args.law.now) (g.L.Law.proper c.args.law.now) w kept s login stays p k may

pub returns-clause-undone_holds : goal.returns-clause-undone_holds
returns-clause-undone_holds g c = λ w s p k kept login stays may. back_rises (g.L.Law.may_start c.args.law.now) (g.L.Law.may_say c.args.law.now) (g.L.Law.proper c.args.law.now) w (layers_of (g.L.Law.may_start c.args.law.now) (g.L.Law.may_say c.args.law.now) w kept) s login stays p k may
