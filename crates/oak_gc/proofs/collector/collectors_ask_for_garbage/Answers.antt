use Rattle.oak_gc.proofs.Asking.{ask_for_garbage}
use Rattle.oak_gc.proofs.collector.collectors_ask_for_garbage.Goals as goal

pub returns : goal.returns
returns c = ask_for_garbage
