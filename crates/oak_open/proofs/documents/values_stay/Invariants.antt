use Rattle.std.proofs.Common.{◌≡◌}
use Rattle.std.specs.List.{flat_map, list_all}
use Rattle.std.specs.Map.{keys_of}
use Rattle.oak_open.specs.Opened.{stays_opened}
use Rattle.oak_open.proofs.documents.values_stay.Given as goal

-- what is left decides
abbrev pub invariant-loop-values : goal.invariant-loop-values
invariant-loop-values l =
    list_all (stays_opened l.opening.documents.now l.opening.pin.now l.document) (flat_map (λ p. keys_of p.1) l.values-iterator)
    ≡ list_all (stays_opened l.opening.documents.now l.opening.pin.now l.document) (flat_map (λ p. keys_of p.1) l.document.props)
