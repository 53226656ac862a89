use Rattle.std.proofs.Common.{◌≡◌}
use Rattle.std.proofs.Common.{length}
use Rattle.std.specs.Prelude.{not, ◌==◌}
use Rattle.std.specs.List.{list_all}
use Rattle.oak_open.proofs.documents.have_values.Given as goal

-- what is left decides
abbrev pub invariant-loop-values : goal.invariant-loop-values
invariant-loop-values l =
    list_all (λ p. not (length p.1 == 0)) l.values-iterator
    ≡ list_all (λ p. not (length p.1 == 0)) l.props
