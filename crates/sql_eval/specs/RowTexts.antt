-- The JSON of rows.
use Rattle.std.specs.Prelude.{List, map}
use Rattle.serde_json.specs.Data.{Data, array, null, string}
use Rattle.serde_json.specs.View.{items_of}
use Rattle.jr_path.specs.Ids.{path_text}
use Rattle.jr_json.specs.Json.{property_data}
use Rattle.sql_eval.specs.declared.row.Cell.{Cell}
use Rattle.sql_eval.specs.declared.row.Cell.TheVariants as cell
use Rattle.sql_eval.specs.declared.row.Row.{Row}

-- the path of a node as a text, the JSON of a property, or null
abbrev pub cell_data : Cell → Data
cell_data (cell.Node p) = string (path_text p)
cell_data (cell.Value v) = property_data v
cell_data cell.Null = null

-- a list of its cells
abbrev pub row_data : Row → Data
row_data r = array (items_of (map cell_data r.cells))

-- a list of the rows
abbrev pub rows_data : List Row → Data
rows_data rows = array (items_of (map row_data rows))
