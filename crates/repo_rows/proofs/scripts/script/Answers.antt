use Rattle.repo_rows.proofs.scripts.script.Goals as goal

-- what JSON means keeps the bounds
pub returns-in-Ok : goal.returns-in-Ok
returns-in-Ok c = c.scripts_are_within.ensures c.in-Ok.ensures.ok.0 c.in-Ok.script c.in-Ok.ensures.ok.2
