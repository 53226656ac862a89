use Rattle.std.proofs.Common.{◌∙◌, subst, sym}
use Rattle.jcr_held.specs.Holds.{Holds}
use Rattle.jcr_held.proofs.Dues.{whole_known}
use Rattle.jcr_held.proofs.held.Held.ask_before.Goals as goal
use Rattle.jcr_held.proofs.held.Held.ask_before.Goals.{then-commits+in_ok-ask_once, else-commits}

pub ask_once-requires-clause-known : goal.ask_once-requires-clause-known
ask_once-requires-clause-known c =
    whole_known c.args.self.now c.args.command.now (sym c.commits.ensures ∙ c.if-commits.true) c.requires.ready.known

pub returns-clause-holds : goal.returns-clause-holds
returns-clause-holds c = λ d h.
    elim c.if-commits.branch [
      | then-commits+in_ok-ask_once w ↦ subst (Holds d) (sym w.self-is) (w.ask_once.ensures.holds d h)
      | else-commits w ↦ subst (Holds d) (sym w.self-is) h
    ]
