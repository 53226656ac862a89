use Rattle.std.proofs.Common.{refl}
use Rattle.jcr_ref.specs.Histories.{version_names}
use Rattle.jcr_trans.specs.Answers.{ShowsNames}
use Rattle.jcr_read.proofs.Replied.{versions_refused, versions_shown}
use Rattle.jcr_read.proofs.reading.versions.Goals as goal

pub returns-in-Ok : goal.returns-in-Ok
returns-in-Ok c = versions_shown c.args.base.now c.args.base.now c.args.path.now _ _
    refl c.in-Ok.ensures.ok c.in-Ok.ensures.history
    (c.replied.ensures (ShowsNames (version_names c.args.base.now c.in-Ok.history)) c.versions_reply.ensures)

pub returns-in-Err : goal.returns-in-Err
returns-in-Err c = versions_refused c.args.base.now c.args.base.now c.args.path.now _
    refl c.in-Err.ensures.err
