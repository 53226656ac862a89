-- By the steps' lemmas.
use Rattle.core_world.proofs.collections_keep_the_world.Goals as goal
use Rattle.core_world.proofs.Collected.{pruned_whole, removed_whole, unlisted_whole}
use Rattle.core_world.proofs.Splitting.{pruned_rises, removed_rises, unlisted_rises}
use Rattle.core_world.proofs.Whole.{layers_of}

pub returns-clause-pruned : goal.returns-clause-pruned
returns-clause-pruned g c = λ w s m t p old op kept login stays may. pruned_whole (g.L.Law.may_start c.args.law.now) (g.L.Law.may_say c.args.law.now) (g.L.Law.proper c.args.law.now) w kept s login stays m t p old op may

pub returns-clause-pruned_holds : goal.returns-clause-pruned_holds
returns-clause-pruned_holds g c = λ w s m t p old op kept login stays may. pruned_rises (g.L.Law.may_start c.args.law.now) (g.L.Law.may_say c.args.law.now) (g.L.Law.proper c.args.law.now) w (layers_of (g.L.Law.may_start c.args.law.now) (g.L.Law.may_say c.args.law.now) w kept) s login stays m t p old op may

pub returns-clause-removed : goal.returns-clause-removed
returns-clause-removed g c = λ w s m t p old kept login stays may. removed_whole (g.L.Law.may_start c.args.law.now) (g.L.Law.may_say c.args.law.now) (g.L.Law.proper c.args.law.now) w kept s login stays m t p old may

pub returns-clause-removed_holds : goal.returns-clause-removed_holds
returns-clause-removed_holds g c = λ w s m t p old kept login stays may. removed_rises (g.L.Law.may_start c.args.law.now) (g.L.Law.may_say c.args.law.now) (g.L.Law.proper c.args.law.now) w (layers_of (g.L.Law.may_start c.args.law.now) (g.L.Law.may_say c.args.law.now) w kept) s login stays m t p old may

pub returns-clause-unlisted : goal.returns-clause-unlisted
returns-clause-unlisted g c = λ w s p k kept login stays may. unlisted_whole (g.L.Law.may_start c.args.law.now) (g.L.Law.may_say c.args.law.now) (g.L.Law.proper c.args.law.now) w kept s login stays p k may

pub returns-clause-unlisted_holds : goal.returns-clause-unlisted_holds
returns-clause-unlisted_holds g c = λ w s p k kept login stays may. unlisted_rises (g.L.Law.may_start c.args.law.now) (g.L.Law.may_say c.args.law.now) (g.L.Law.proper c.args.law.now) w (layers_of (g.L.Law.may_start c.args.law.now) (g.L.Law.may_say c.args.law.now) w kept) s login stays p k may
