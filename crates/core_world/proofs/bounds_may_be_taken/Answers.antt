use Rattle.core_world.proofs.Bounding.{all_can_on, bounding_begins, bounding_begun, bounding_node, bounding_on, bounding_skips, bounding_takes, start_can}
use Rattle.core_world.proofs.Whole.{layers_of}
use Rattle.core_world.proofs.bounds_may_be_taken.Goals as goal

pub returns-clause-starts : goal.returns-clause-starts
returns-clause-starts g c = start_can

pub returns-clause-begins : goal.returns-clause-begins
returns-clause-begins g c = λ w root kept is. bounding_begins (g.L.Law.may_start c.args.law.now) (g.L.Law.may_say c.args.law.now) (g.L.Law.proper c.args.law.now) w (layers_of (g.L.Law.may_start c.args.law.now) (g.L.Law.may_say c.args.law.now) w kept) kept.begun root is

pub returns-clause-node : goal.returns-clause-node
returns-clause-node g c = λ w k x kept all bounding node. bounding_node (g.L.Law.may_start c.args.law.now) (g.L.Law.may_say c.args.law.now) (g.L.Law.proper c.args.law.now) w (layers_of (g.L.Law.may_start c.args.law.now) (g.L.Law.may_say c.args.law.now) w kept) kept.begun all k x bounding node

pub returns-clause-skips : goal.returns-clause-skips
returns-clause-skips g c = λ w k x recovered bounding. bounding_skips w k x recovered bounding

pub returns-clause-takes : goal.returns-clause-takes
returns-clause-takes g c = λ w x kept all bounding. bounding_takes (g.L.Law.may_start c.args.law.now) (g.L.Law.may_say c.args.law.now) (g.L.Law.proper c.args.law.now) w (layers_of (g.L.Law.may_start c.args.law.now) (g.L.Law.may_say c.args.law.now) w kept) kept.begun all x bounding

pub returns-clause-begun : goal.returns-clause-begun
returns-clause-begun g c = λ w x kept all bounding. bounding_begun (g.L.Law.may_start c.args.law.now) (g.L.Law.may_say c.args.law.now) (g.L.Law.proper c.args.law.now) w (layers_of (g.L.Law.may_start c.args.law.now) (g.L.Law.may_say c.args.law.now) w kept) kept.begun all x bounding

pub returns-clause-lasts : goal.returns-clause-lasts
returns-clause-lasts g c = λ w u added k x kept then grown same its from step bounding. bounding_on (g.L.Law.may_start c.args.law.now) (g.L.Law.may_say c.args.law.now) (g.L.Law.proper c.args.law.now) w u added (layers_of (g.L.Law.may_start c.args.law.now) (g.L.Law.may_say c.args.law.now) w kept) kept.begun (layers_of (g.L.Law.may_start c.args.law.now) (g.L.Law.may_say c.args.law.now) u then) grown same its from step k x bounding

pub returns-clause-held : goal.returns-clause-held
returns-clause-held g c = λ w u added kept then grown same its from step all. all_can_on (g.L.Law.may_start c.args.law.now) (g.L.Law.may_say c.args.law.now) (g.L.Law.proper c.args.law.now) w u added (layers_of (g.L.Law.may_start c.args.law.now) (g.L.Law.may_say c.args.law.now) w kept) kept.begun (layers_of (g.L.Law.may_start c.args.law.now) (g.L.Law.may_say c.args.law.now) u then) grown same its from step all
