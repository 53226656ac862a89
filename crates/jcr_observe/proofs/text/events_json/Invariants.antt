use Rattle.std.proofs.Common.{◌≡◌, take}
use Rattle.std.specs.Prelude.{map}
use Rattle.serde_json.specs.View.{view}
use Rattle.jcr_observe.specs.Texts.{event_data}
use Rattle.jcr_observe.proofs.text.events_json.Given as goal

abbrev pub invariant-loop-event : goal.invariant-loop-event
invariant-loop-event l = map view l.items.items ≡ map event_data (take l.event-index l.events)
