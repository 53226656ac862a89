use Rattle.core_world.proofs.Sweeps.{published_later, published_local, sweep_learned, target_is}
use Rattle.core_world.proofs.Whole.{layers_of}
use Rattle.core_world.proofs.sweeps_may_be_told.Goals as goal

pub returns-clause-reads : goal.returns-clause-reads
returns-clause-reads g c = λ w root k kept is. target_is (g.L.Law.may_start c.args.law.now) (g.L.Law.may_say c.args.law.now) w (layers_of (g.L.Law.may_start c.args.law.now) (g.L.Law.may_say c.args.law.now) w kept) root is k

pub returns-clause-lasts : goal.returns-clause-lasts
returns-clause-lasts g c = published_later

pub returns-clause-local : goal.returns-clause-local
returns-clause-local g c = λ w k r kept low. published_local (g.L.Law.may_start c.args.law.now) (g.L.Law.may_say c.args.law.now) w (layers_of (g.L.Law.may_start c.args.law.now) (g.L.Law.may_say c.args.law.now) w kept) k r low

pub returns-clause-learns : goal.returns-clause-learns
returns-clause-learns g c = λ w k v kept node. sweep_learned (g.L.Law.may_start c.args.law.now) (g.L.Law.may_say c.args.law.now) w (layers_of (g.L.Law.may_start c.args.law.now) (g.L.Law.may_say c.args.law.now) w kept) k node v
