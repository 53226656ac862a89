use Rattle.std.proofs.Common.{◌∙◌}
use Rattle.std.specs.Cmp.Lexicographic.{texts_ties}
use Rattle.jr_value.proofs.equality.ValuePartialEq.eq.Goals as goal

pub returns-in-Binary-Binary : goal.returns-in-Binary-Binary
returns-in-Binary-Binary c = rw (c.in-Binary-Binary.is-0, c.in-Binary-Binary.is-1) (c.eq-in-Binary-Binary.ensures ∙ texts_ties c.in-Binary-Binary.a c.in-Binary-Binary.b)
