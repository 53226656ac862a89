use Rattle.std.proofs.Common.{false, subst, sym, ap, ◌∙◌}
use Rattle.jr_part.specs.Parts.{Knowledge}
use Rattle.jr_overlay.specs.Overlays.{Changed, edit_of}
use Rattle.jcr_view.specs.Rebases.{rebased}
use Rattle.jcr_held.specs.Holds.{Holds}
use Rattle.jcr_held.proofs.Holding.{holds_again}
use Rattle.jcr_held.proofs.Unread.{no_more_settled}
use Rattle.jcr_held.proofs.held.Held.make_again.Goals as goal

pub returns-clause-holds : goal.returns-clause-holds
returns-clause-holds c = λ d h.
    subst (λ (p : Changed). Holds d (record c.args.self.now { pending = p; is_kept = false })) (sym (c.in_ok-rebase.ensures.ok ∙ ap (λ (k : Knowledge). rebased k (edit_of c.args.self.now.pending)) c.as_part.ensures))
    (holds_again c.rebases_count.ensures.over c.rebases_count.ensures.view d c.args.self.now c.requires.kept c.requires.known h)

pub returns-clause-fewer : goal.returns-clause-fewer
returns-clause-fewer c = λ d m.
    no_more_settled d c.args.self.now c.rebase.new.self m
