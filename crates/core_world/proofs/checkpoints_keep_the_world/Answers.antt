-- Each step by its lemma.
use Rattle.core_world.proofs.Lives.{node_alive, session_there}
use Rattle.core_world.proofs.checkpoints_keep_the_world.Goals as goal
use Rattle.core_world.proofs.Attaching.{actor_based, actor_pair}
use Rattle.core_world.proofs.Whole.{attach_keeps, attach_unfound_keeps, checkpoint_keeps, detach_keeps, layers_of, release_keeps, release_unfound_keeps}

pub returns-clause-checkpoint : goal.returns-clause-checkpoint
returns-clause-checkpoint g c = λ w s i pin kept on login stays detached has. checkpoint_keeps (g.L.Law.may_start c.args.law.now) (g.L.Law.may_say c.args.law.now) (g.L.Law.proper c.args.law.now) w kept s i pin on login stays detached has

pub returns-clause-release : goal.returns-clause-release
returns-clause-release g c = λ w i kept there. release_keeps (g.L.Law.may_start c.args.law.now) (g.L.Law.may_say c.args.law.now) (g.L.Law.proper c.args.law.now) w kept i there

pub returns-clause-kept : goal.returns-clause-kept
returns-clause-kept g c = λ w i kept. kept.settings.checkpoints i

pub returns-clause-attach : goal.returns-clause-attach
returns-clause-attach g c = λ w s i v kept on login stays detached unread there. attach_keeps (g.L.Law.may_start c.args.law.now) (g.L.Law.may_say c.args.law.now) (g.L.Law.proper c.args.law.now) w kept s on login stays i v detached unread there

pub returns-clause-detach : goal.returns-clause-detach
returns-clause-detach g c = λ w s kept login stays detached reads. detach_keeps (g.L.Law.may_start c.args.law.now) (g.L.Law.may_say c.args.law.now) (g.L.Law.proper c.args.law.now) w kept s login stays detached reads

pub returns-clause-reads : goal.returns-clause-reads
returns-clause-reads g c = λ w s pin kept on login stays has. (actor_based (g.L.Law.may_start c.args.law.now) (g.L.Law.may_say c.args.law.now) (g.L.Law.proper c.args.law.now) w (layers_of (g.L.Law.may_start c.args.law.now) (g.L.Law.may_say c.args.law.now) w kept) s login stays (node_alive (g.L.Law.may_start c.args.law.now) (g.L.Law.may_say c.args.law.now) (g.L.Law.proper c.args.law.now) w kept.sessions s (session_there (g.L.Law.may_start c.args.law.now) (g.L.Law.may_say c.args.law.now) (g.L.Law.proper c.args.law.now) w kept.sessions s login) on) pin has, actor_pair (g.L.Law.may_start c.args.law.now) (g.L.Law.may_say c.args.law.now) (g.L.Law.proper c.args.law.now) w (layers_of (g.L.Law.may_start c.args.law.now) (g.L.Law.may_say c.args.law.now) w kept) s login stays pin has)

pub returns-clause-attach_unfound : goal.returns-clause-attach_unfound
returns-clause-attach_unfound g c = λ w s i kept login stays none. attach_unfound_keeps (g.L.Law.may_start c.args.law.now) (g.L.Law.may_say c.args.law.now) (g.L.Law.proper c.args.law.now) w kept s login stays i none

pub returns-clause-release_unfound : goal.returns-clause-release_unfound
returns-clause-release_unfound g c = λ w s i kept login stays none. release_unfound_keeps (g.L.Law.may_start c.args.law.now) (g.L.Law.may_say c.args.law.now) (g.L.Law.proper c.args.law.now) w kept s login stays i none
