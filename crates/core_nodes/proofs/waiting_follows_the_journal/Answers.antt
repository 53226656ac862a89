-- By what a run keeps.
use Rattle.std.proofs.Common.{refl}
use Rattle.core_heads.proofs.Runs.{sound_run}
use Rattle.core_nodes.proofs.waiting_follows_the_journal.Goals as goal
use Rattle.core_nodes.proofs.Events.{node_of}
use Rattle.core_nodes.proofs.Pasts.{ended_was_drawn}
use Rattle.core_nodes.proofs.Waits.{above_is, awaited_is, flying_is, has_ended}

pub returns-clause-above : goal.returns-clause-above
returns-clause-above g c = λ begin clusters sessions past k s r e nodes run node is.
    above_is begin clusters sessions nodes past (sound_run clusters sessions nodes begin (g.L.Law.may_start c.args.law.now) (g.L.Law.may_say c.args.law.now) past run) k node s is r e

pub returns-clause-flying : goal.returns-clause-flying
returns-clause-flying g c = λ begin clusters sessions past k s r nodes run node is.
    flying_is begin clusters sessions nodes past (sound_run clusters sessions nodes begin (g.L.Law.may_start c.args.law.now) (g.L.Law.may_say c.args.law.now) past run) k node s is r

pub returns-clause-ended : goal.returns-clause-ended
returns-clause-ended g c = λ begin clusters sessions past r s nodes run is ended.
    let drawn = ended_was_drawn begin (g.L.Law.may_start c.args.law.now) (g.L.Law.may_say c.args.law.now) clusters sessions past run r ended in
    let node = node_of begin (g.L.Law.may_start c.args.law.now) (g.L.Law.may_say c.args.law.now) clusters sessions nodes past r run drawn in
    has_ended begin clusters sessions nodes past (sound_run clusters sessions nodes begin (g.L.Law.may_start c.args.law.now) (g.L.Law.may_say c.args.law.now) past run) r.cluster node s is r refl drawn ended

pub returns-clause-awaited : goal.returns-clause-awaited
returns-clause-awaited g c = λ begin clusters sessions past k s r answer nodes run node is.
    awaited_is begin clusters sessions nodes past (sound_run clusters sessions nodes begin (g.L.Law.may_start c.args.law.now) (g.L.Law.may_say c.args.law.now) past run) k node s is r answer
