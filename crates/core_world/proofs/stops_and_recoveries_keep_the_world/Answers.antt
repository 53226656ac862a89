-- Each step by its lemma.
use Rattle.core_clash.proofs.Shrinking.{status_is}
use Rattle.core_world.proofs.stops_and_recoveries_keep_the_world.Goals as goal
use Rattle.core_world.proofs.Clearing.{clear_rises, clear_whole}
use Rattle.core_world.proofs.Deciding.{decided}
use Rattle.core_world.proofs.Dropping.{drop_rises, drop_whole}
use Rattle.core_world.proofs.Publishing.{publish_rises, publish_whole}
use Rattle.core_world.proofs.Recovered.{has_ended, none_in_flight, recover_rises, recover_whole}
use Rattle.core_world.proofs.Stopping.{stop_rises, stop_whole}
use Rattle.core_world.proofs.Truths.{leaves_nothing}
use Rattle.core_world.proofs.Whole.{layers_of}
use Rattle.core_world.specs.States.{core_in, origin}

pub returns-clause-stop : goal.returns-clause-stop
returns-clause-stop g c = λ w k kept node first. stop_whole (g.L.Law.may_start c.args.law.now) (g.L.Law.may_say c.args.law.now) (g.L.Law.proper c.args.law.now) w k node first kept

pub returns-clause-clear : goal.returns-clause-clear
returns-clause-clear g c = λ w s d p kept login stays dead. clear_whole (g.L.Law.may_start c.args.law.now) (g.L.Law.may_say c.args.law.now) (g.L.Law.proper c.args.law.now) w s login stays d dead p kept

pub returns-clause-recover : goal.returns-clause-recover
returns-clause-recover g c = λ w k kept node stopped clean. recover_whole (g.L.Law.may_start c.args.law.now) (g.L.Law.may_say c.args.law.now) (g.L.Law.proper c.args.law.now) w k node stopped clean kept

pub returns-clause-publish : goal.returns-clause-publish
returns-clause-publish g c = λ w k r kept node of low. publish_whole (g.L.Law.may_start c.args.law.now) (g.L.Law.may_say c.args.law.now) (g.L.Law.proper c.args.law.now) w k node r of low kept

pub returns-clause-drop : goal.returns-clause-drop
returns-clause-drop g c = λ w s ss kept login stays stopped. drop_whole (g.L.Law.may_start c.args.law.now) (g.L.Law.may_say c.args.law.now) (g.L.Law.proper c.args.law.now) w s login stays ss stopped kept

pub returns-clause-ended : goal.returns-clause-ended
returns-clause-ended g c = λ w k r kept recovered of. none_in_flight (g.L.Law.may_start c.args.law.now) (g.L.Law.may_say c.args.law.now) w kept.sessions k recovered r of

pub returns-clause-left : goal.returns-clause-left
returns-clause-left g c = λ w k r p d kept recovered of drawn uncommitted is. leaves_nothing (g.L.Law.may_start c.args.law.now) (g.L.Law.may_say c.args.law.now) (g.L.Law.proper c.args.law.now) w kept.sessions r (has_ended (g.L.Law.may_start c.args.law.now) (g.L.Law.may_say c.args.law.now) w kept.sessions k recovered r of drawn) uncommitted p d is

pub returns-clause-stop_holds : goal.returns-clause-stop_holds
returns-clause-stop_holds g c = λ w k kept node first. stop_rises (g.L.Law.may_start c.args.law.now) (g.L.Law.may_say c.args.law.now) (g.L.Law.proper c.args.law.now) w k node first (layers_of (g.L.Law.may_start c.args.law.now) (g.L.Law.may_say c.args.law.now) w kept)

pub returns-clause-clear_holds : goal.returns-clause-clear_holds
returns-clause-clear_holds g c = λ w s d p kept login stays dead. clear_rises (g.L.Law.may_start c.args.law.now) (g.L.Law.may_say c.args.law.now) (g.L.Law.proper c.args.law.now) w s login stays d dead p (layers_of (g.L.Law.may_start c.args.law.now) (g.L.Law.may_say c.args.law.now) w kept)

pub returns-clause-recover_holds : goal.returns-clause-recover_holds
returns-clause-recover_holds g c = λ w k kept node stopped clean. recover_rises (g.L.Law.may_start c.args.law.now) (g.L.Law.may_say c.args.law.now) (g.L.Law.proper c.args.law.now) w k node stopped clean (layers_of (g.L.Law.may_start c.args.law.now) (g.L.Law.may_say c.args.law.now) w kept)

pub returns-clause-publish_holds : goal.returns-clause-publish_holds
returns-clause-publish_holds g c = λ w k r kept node of low. publish_rises (g.L.Law.may_start c.args.law.now) (g.L.Law.may_say c.args.law.now) (g.L.Law.proper c.args.law.now) w k node r of low (layers_of (g.L.Law.may_start c.args.law.now) (g.L.Law.may_say c.args.law.now) w kept)

pub returns-clause-drop_holds : goal.returns-clause-drop_holds
returns-clause-drop_holds g c = λ w s ss kept login stays stopped. drop_rises (g.L.Law.may_start c.args.law.now) (g.L.Law.may_say c.args.law.now) (g.L.Law.proper c.args.law.now) w s login stays ss stopped (layers_of (g.L.Law.may_start c.args.law.now) (g.L.Law.may_say c.args.law.now) w kept)

pub returns-clause-decided : goal.returns-clause-decided
returns-clause-decided g c = λ w s pin p d r m kept there has is drawn later mark. decided (g.L.Law.may_start c.args.law.now) (g.L.Law.may_say c.args.law.now) (g.L.Law.proper c.args.law.now) w kept s there pin has p d is r drawn later m mark

pub returns-clause-status : goal.returns-clause-status
returns-clause-status g c = λ w r kept fresh later. status_is (core_in (origin w) w.past w.table kept.sessions.committing.writers) kept.sessions.committing.sound r fresh later
