use Rattle.std.proofs.Common.{◌≡◌, ◌*◌, ◌≤◌, take}
use Rattle.jr_gen.specs.Sizes.{commands_in}
use Rattle.repo_top.proofs.summary.commands_of.Given as goal

abbrev pub invariant-loop-session : goal.invariant-loop-session
invariant-loop-session l = (l.commands ≡ commands_in (take l.session-index l.session-items)) × (l.commands ≤ 10000 * l.session-index)
