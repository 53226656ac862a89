-- Conditions with their depth.
use Rattle.sql_parse.specs.declared.depth.Nested.{Nested}
use Rattle.sql_query.specs.Trees.{Test, test_of}

-- what a condition with its depth asks
abbrev pub tested_in : Nested → Test
tested_in n = test_of n.condition
