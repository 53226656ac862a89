-- The JSON of events has no float, so the text that is written for it is the compact one.
use Rattle.std.proofs.Common.{◌≡◌, Bool, false, ◌||◌, List, [], ◌∷◌, Option, None, Some, refl, ap, ◌∙◌}
use Rattle.serde_json.specs.Written.{has_float}
use Rattle.jr_path.specs.declared.path.Item.{Item}
use Rattle.jcr_observe.specs.declared.event.JcrEvent.{JcrEvent}
use Rattle.jcr_observe.specs.Texts.{item_data, event_data, events_data}

none_of : (a b : Bool) → a ≡ false → b ≡ false → (a || b) ≡ false
none_of a b p q = ap (λ (x : Bool). x || b) p ∙ q

item_plain : (i : Option Item) → has_float (item_data i) ≡ false
item_plain None = refl
item_plain (Some i) = refl

event_plain : (e : JcrEvent) → has_float (event_data e) ≡ false
event_plain e = none_of _ _ (item_plain e.item) refl

pub events_plain : (es : List JcrEvent) → has_float (events_data es) ≡ false
events_plain [] = refl
events_plain (e ∷ es) = none_of _ _ (event_plain e) (events_plain es)
