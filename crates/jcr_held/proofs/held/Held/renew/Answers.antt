use Rattle.std.proofs.Common.{◌≡◌, ◌≤◌, rules, subst, sym, true, is_some}
use Rattle.jcr_held.specs.declared.held.Held.{Held}
use Rattle.jcr_held.specs.Unread.{unread}
use Rattle.jcr_held.proofs.Unread.{no_more_renewed, no_more_without}
use Rattle.jcr_held.proofs.held.Held.renew.Goals as goal
use Rattle.jcr_held.proofs.held.Held.renew.Goals.{in-Some+in_ok-renew, in_default}

pub returns-in_err-renew-clause-fewer : goal.returns-in_err-renew-clause-fewer
returns-in_err-renew-clause-fewer c = λ d m. no_more_without d c.args.self.now c.take.new.self m c.take.ensures.after

pub returns-clause-fewer : goal.returns-clause-fewer
returns-clause-fewer c = λ d m.
    elim c.match-take.branch [
      | in-Some+in_ok-renew w ↦ subst (λ (y : Held). unread d y m ≤ unread d c.args.self.now m) (sym w.self-is)
          (let is : is_some c.args.self.now.earlier ≡ true = search rules in
          no_more_renewed d c.args.self.now w.of.result c.take.new.self m is c.take.ensures.after)
      | in_default w ↦ subst (λ (y : Held). unread d y m ≤ unread d c.args.self.now m) (sym w.self-is)
          (no_more_without d c.args.self.now c.take.new.self m c.take.ensures.after)
    ]
