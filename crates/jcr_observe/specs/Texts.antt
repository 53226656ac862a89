-- The text of events: a JSON list with a list of the code and the path of the item for each.
use Rattle.std.specs.Prelude.{ℕ, List, [], ◌∷◌, map, Option}
use Rattle.std.specs.Option.{option_map_or}
use Rattle.serde_json.specs.Data.{Data, null, number, string, array, unsigned}
use Rattle.serde_json.specs.View.{items_of}
use Rattle.serde_json.specs.Written.{compact_text}
use Rattle.jr_path.specs.Ids.{path_text}
use Rattle.jr_path.specs.Names.{item_path}
use Rattle.jr_path.specs.declared.path.Item.{Item}
use Rattle.jcr_observe.specs.declared.event.JcrEvent.{JcrEvent}

-- the path of an item, which has a property's name last; null where there is no item
abbrev pub item_data : Option Item → Data
item_data item = option_map_or (λ i. string (path_text (item_path i))) item null

-- an event as JSON: the code, and the path of the item
abbrev pub event_data : JcrEvent → Data
event_data e = array (items_of (number (unsigned e.code) ∷ item_data e.item ∷ []))

-- events as JSON
abbrev pub events_data : List JcrEvent → Data
events_data es = array (items_of (map event_data es))

-- the text of that JSON
abbrev pub events_text : List JcrEvent → List ℕ
events_text es = compact_text (events_data es)
