-- Which answers refuse.
use Rattle.std.specs.Prelude.{Bool, false, true}
use Rattle.jcr_trans.specs.Answers.{Answer, Refused}

-- the answer refuses; each other one accepts
abbrev pub is_refusing : Answer → Bool
is_refusing (Refused n ds) = true
is_refusing _ = false
