use Rattle.std.proofs.Common.{◌≡◌, map, take}
use Rattle.oak_doc.specs.declared.update.Change.TheVariants as change
use Rattle.oak_checkpoint.proofs.settings.drop_readers.Given as goal

-- the sessions so far are detached
abbrev pub invariant-loop-session : goal.invariant-loop-session
invariant-loop-session l = l.changes ≡ map change.Detach (take l.session-index l.sessions)
