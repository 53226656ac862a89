use Rattle.std.proofs.Common.{◌≡◌}
use Rattle.jr_overlay.specs.Drafts.{stepped}
use Rattle.jcr_view.proofs.whole.stepped.Given as goal

-- what is left completes what was done
abbrev pub invariant-loop-path : goal.invariant-loop-path
invariant-loop-path l = stepped l.base l.after l.path-iterator ≡ stepped l.base l.view l.steps
