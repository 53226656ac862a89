-- By the events of a run.
use Rattle.oak_node.proofs.Places.{insert_sorted, remove_sorted}
use Rattle.core_nodes.proofs.memories_follow_the_journal.Goals as goal
use Rattle.core_nodes.proofs.Learning.{learn_run}
use Rattle.core_nodes.proofs.Recovering.{flying_all, recovery_apart, recovery_run, stop_kept}
use Rattle.core_nodes.proofs.Events.{apart_run, begun_is, draw_run, drop_kept, end_flies, end_run, moved_run, next_is, note_kept, pins_kept}

pub returns-clause-begun : goal.returns-clause-begun
returns-clause-begun g c = λ begin clusters sessions k nodes begins node. begun_is begin clusters sessions nodes begins k node

pub returns-clause-next : goal.returns-clause-next
returns-clause-next g c = λ begin clusters past k s is. next_is begin clusters past k s is

pub returns-clause-drawn : goal.returns-clause-drawn
returns-clause-drawn g c = λ begin clusters sessions past d s nodes run is. draw_run begin (g.L.Law.may_start c.args.law.now) (g.L.Law.may_say c.args.law.now) clusters sessions nodes d past run s is

pub returns-clause-flies : goal.returns-clause-flies
returns-clause-flies g c = λ begin clusters sessions past r s nodes run is. end_flies begin (g.L.Law.may_start c.args.law.now) (g.L.Law.may_say c.args.law.now) clusters sessions nodes r past run s is

pub returns-clause-ended : goal.returns-clause-ended
returns-clause-ended g c = λ begin clusters sessions past r s nodes run is. end_run begin (g.L.Law.may_start c.args.law.now) (g.L.Law.may_say c.args.law.now) clusters sessions nodes r past run s is

pub returns-clause-moved : goal.returns-clause-moved
returns-clause-moved g c = λ begin clusters sessions past r s nodes run is. moved_run begin (g.L.Law.may_start c.args.law.now) (g.L.Law.may_say c.args.law.now) clusters sessions nodes r past run s is

pub returns-clause-told : goal.returns-clause-told
returns-clause-told g c = λ begin clusters sessions past k s run goes is. ((goes, is.head), run)

pub returns-clause-learned : goal.returns-clause-learned
returns-clause-learned g c = λ begin clusters sessions past k n s last sweep nodes run node goes is root. learn_run begin (g.L.Law.may_start c.args.law.now) (g.L.Law.may_say c.args.law.now) clusters sessions nodes past run k n node goes s is last sweep root

pub returns-clause-apart : goal.returns-clause-apart
returns-clause-apart g c = λ begin clusters sessions past e k s nodes run leaves is. apart_run begin (g.L.Law.may_start c.args.law.now) (g.L.Law.may_say c.args.law.now) clusters sessions nodes e past k s run leaves is

pub returns-clause-noted : goal.returns-clause-noted
returns-clause-noted g c = λ begin clusters past k s path r last is. note_kept begin clusters past k s path r last is

pub returns-clause-published : goal.returns-clause-published
returns-clause-published g c = drop_kept

pub returns-clause-pinned : goal.returns-clause-pinned
returns-clause-pinned g c = λ begin clusters past k s owner pin is. pins_kept begin clusters past k s _ is (insert_sorted owner pin s.pins is.memory.owners)

pub returns-clause-unpinned : goal.returns-clause-unpinned
returns-clause-unpinned g c = λ begin clusters past k s owner is. pins_kept begin clusters past k s _ is (remove_sorted owner s.pins is.memory.owners)

pub returns-clause-stopped : goal.returns-clause-stopped
returns-clause-stopped g c = stop_kept

pub returns-clause-in_flight : goal.returns-clause-in_flight
returns-clause-in_flight g c = λ begin clusters sessions past k s nodes run node is. flying_all begin (g.L.Law.may_start c.args.law.now) (g.L.Law.may_say c.args.law.now) clusters sessions nodes k node past s run is

pub returns-clause-recovered : goal.returns-clause-recovered
returns-clause-recovered g c = λ begin clusters sessions past k s nodes run node stopped is. recovery_run begin (g.L.Law.may_start c.args.law.now) (g.L.Law.may_say c.args.law.now) clusters sessions nodes k node past s run stopped is

pub returns-clause-recovered_apart : goal.returns-clause-recovered_apart
returns-clause-recovered_apart g c = λ begin clusters sessions past m k s nodes run other is. recovery_apart begin (g.L.Law.may_start c.args.law.now) (g.L.Law.may_say c.args.law.now) clusters sessions nodes past m k s run other is
