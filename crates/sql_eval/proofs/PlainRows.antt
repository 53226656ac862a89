-- The JSON of rows has no float, so the text that is written for it is the compact one.
use Rattle.std.proofs.Common.{◌≡◌, Bool, false, ◌||◌, List, [], ◌∷◌, map, refl, ap, ◌∙◌}
use Rattle.serde_json.specs.Data.{Data}
use Rattle.serde_json.specs.View.{items_of}
use Rattle.serde_json.specs.Written.{has_float, items_have_float}
use Rattle.jr_json.proofs.NoFloat.{property_plain}
use Rattle.sql_eval.specs.declared.row.Cell.{Cell}
use Rattle.sql_eval.specs.declared.row.Cell.TheVariants as cell
use Rattle.sql_eval.specs.declared.row.Row.{Row}
use Rattle.sql_eval.specs.RowTexts.{cell_data, row_data, rows_data}

none_of : (a b : Bool) → a ≡ false → b ≡ false → (a || b) ≡ false
none_of a b p q = ap (λ (x : Bool). x || b) p ∙ q

items_plain : {X : Type 0} (f : X → Data) → ((x : X) → has_float (f x) ≡ false) → (xs : List X) → items_have_float (items_of (map f xs)) ≡ false
items_plain f plain [] = refl
items_plain f plain (x ∷ xs) = none_of _ _ (plain x) (items_plain f plain xs)

cell_plain : (c : Cell) → has_float (cell_data c) ≡ false
cell_plain (cell.Node p) = refl
cell_plain (cell.Value v) = property_plain v
cell_plain cell.Null = refl

pub rows_plain : (rows : List Row) → has_float (rows_data rows) ≡ false
rows_plain rows = items_plain row_data (λ r. items_plain cell_data cell_plain r.cells) rows
