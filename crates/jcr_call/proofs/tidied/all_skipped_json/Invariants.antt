use Rattle.std.proofs.Common.{◌≡◌, map, take}
use Rattle.serde_json.specs.View.{view}
use Rattle.jcr_law.specs.Tasks.{skipped_data}
use Rattle.jcr_call.proofs.tidied.all_skipped_json.Given as goal

abbrev pub invariant-loop-one : goal.invariant-loop-one
invariant-loop-one l = map view l.items.items ≡ map skipped_data (take l.one-index l.skipped)
