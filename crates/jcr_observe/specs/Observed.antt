-- The events of commits, as a filter lets them pass.
use Rattle.std.specs.Prelude.{ℕ, ◌/◌, ◌%◌, Bool, false, cond, ◌&&◌, ◌==◌, List, [], ◌∷◌, ◌++◌, map, Option, None, Some}
use Rattle.std.specs.Option.{option_map_or}
use Rattle.std.specs.Ordering.{eq_by_cmp}
use Rattle.std.specs.List.{filter, flat_map}
use Rattle.jr_path.specs.Names.{path_cmp, parent_of, is_under}
use Rattle.jr_path.specs.declared.path.Path.{Path}
use Rattle.jr_path.specs.declared.path.Item.{Item}
use Rattle.jr_tree.specs.declared.shared.ItemChange.{ItemChange}
use Rattle.jr_tree.specs.declared.shared.CommitChanges.{CommitChanges}
use Rattle.jcr_observe.specs.declared.event.Filter.{Filter}
use Rattle.jcr_observe.specs.declared.event.JcrEvent.{JcrEvent}

-- the code of a change: a node is added 1 or removed 2; a property is added 4, removed 8 or changed 16
abbrev pub event_code : ItemChange → ℕ
event_code c = option_map_or (λ n. cond c.after (cond c.before 16 4) 8) c.item.name (cond c.after 1 2)

-- the code is one of the sum
abbrev pub is_in_mask : ℕ → ℕ → Bool
is_in_mask code mask = mask / code % 2 == 1

-- the path is the filter's, or for deep at or below the filter's
abbrev pub is_place_observed : Filter → Path → Bool
is_place_observed f p = cond f.deep (is_under p f.path) (eq_by_cmp path_cmp f.path p)

-- the node above an item is observed: the node of a property, the parent of a node
abbrev pub is_observed : Filter → Item → Bool
is_observed f i = option_map_or (λ n. is_place_observed f i.path) i.name (option_map_or (is_place_observed f) (parent_of i.path) false)

-- an event passes where its code is in the mask and the node above its item is observed
abbrev pub passes_filter : Filter → ItemChange → Bool
passes_filter f c = is_in_mask (event_code c) f.mask && is_observed f c.item

-- the event of the change of an item: its code, and the item
abbrev pub event_of : ItemChange → JcrEvent
event_of c = record { code = event_code c; item = Some c.item }

-- the event that ends those of a commit
abbrev pub commit_end : JcrEvent
commit_end = record { code = 64; item = None }

-- the events of the changes that pass
abbrev pub events_of_changes : Filter → List ItemChange → List JcrEvent
events_of_changes f cs = map event_of (filter (passes_filter f) cs)

-- events, with the end of their commit behind them, where there are some and the mask has that code
abbrev pub events_ended : ℕ → List JcrEvent → List JcrEvent
events_ended mask [] = []
events_ended mask (e ∷ es) = e ∷ es ++ cond (is_in_mask 64 mask) (commit_end ∷ []) []

-- the events of one commit
abbrev pub events_of_commit : Filter → List ItemChange → List JcrEvent
events_of_commit f cs = events_ended f.mask (events_of_changes f cs)

-- the events of some commits, in their order
abbrev pub observed_events : Filter → List CommitChanges → List JcrEvent
observed_events f commits = flat_map (λ c. events_of_commit f c.changes) commits
