use Rattle.std.proofs.Common.{rules}
use Rattle.oak_checkpoint.proofs.Keeping.{found_behind, found_here}
use Rattle.oak_checkpoint.proofs.settings.found.Goals as goal

pub returns-then-eq : goal.returns-then-eq
returns-then-eq c = found_here c.args.id.now c.in-Some.key.now c.in-Some.pin.now c.loop-key.key-iterator c.next.new.self _ (search rules) (search rules) c.loop-key.invariant

pub loop-key-preserved : goal.loop-key-preserved
loop-key-preserved c = found_behind c.args.id.now c.in-Some.key.now c.in-Some.pin.now c.loop-key.key-iterator c.next.new.self _ (search rules) (search rules) c.loop-key.invariant
