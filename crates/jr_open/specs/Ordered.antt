-- Whether ids stand in store order.
use Rattle.std.specs.Prelude.{Bool, true, ◌&&◌, List, [], ◌∷◌, Option, Some}
use Rattle.std.specs.Ordering.{is_lt}
use Rattle.std.specs.Option.{option_map_or}
use Rattle.jr_path.specs.Ids.{id_cmp}
use Rattle.jr_path.specs.declared.path.DocId.{DocId}

-- each id is behind the one before, the first behind one that is told
abbrev pub rises_behind : Option DocId → List DocId → Bool
rises_behind last [] = true
rises_behind last (i ∷ is) =
    option_map_or (λ l. is_lt (id_cmp l i)) last true && rises_behind (Some i) is
