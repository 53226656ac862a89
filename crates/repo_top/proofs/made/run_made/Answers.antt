use Rattle.std.proofs.Common.{inl, inr, refl}
use Rattle.repo_top.proofs.made.run_made.Goals as goal

pub returns-in-Ok : goal.returns-in-Ok
returns-in-Ok g c = record {
  does = λ source. inr (inl (record { script = c.in-Ok.script; given = (refl, c.in-Ok.ensures); ran = c.count_run.ensures.ran; prints = c.count_run.ensures.prints }));
}

pub count_run-requires-clause-within : goal.count_run-requires-clause-within
count_run-requires-clause-within g c = let spelled = c.in-Ok.ensures in c.scripts_are_within.ensures spelled.0 c.in-Ok.script spelled.2
