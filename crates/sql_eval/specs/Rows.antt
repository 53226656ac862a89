-- The rows of a query (JSR 283, 6.7 Abstract Query Model): all tuples of nodes of the selectors, joined, filtered,
-- stably ordered and projected.
use Rattle.std.specs.Prelude.{◌≡◌, List, [], ◌∷◌, Option, Some, None, map}
use Rattle.std.specs.List.{filter}
use Rattle.std.specs.List.Sorted.{IsPermutation, IsSorted, IsStable}
use Rattle.std.specs.Option.{option_cmp, option_map_or}
use Rattle.std.specs.Ordering.{on, ordering_then}
use Rattle.std.specs.Cmp.Lexicographic.{slice_cmp}
use Rattle.std.specs.declared.cmp.Ordering.{Ordering}
use Rattle.std.specs.declared.cmp.Ordering.TheVariants.{Equal}
use Rattle.jr_path.specs.Names.{path_cmp}
use Rattle.jr_path.specs.declared.name.Name.{Name}
use Rattle.jr_tree.specs.Trees.{Nodes}
use Rattle.sql_query.specs.declared.query.Column.{Column}
use Rattle.sql_query.specs.declared.query.Column.TheVariants as column
use Rattle.sql_query.specs.declared.query.Condition.{Condition}
use Rattle.sql_query.specs.declared.query.Order.{Order}
use Rattle.sql_query.specs.declared.query.Query.{Query}
use Rattle.sql_eval.specs.declared.row.Cell.{Cell}
use Rattle.sql_eval.specs.declared.row.Cell.TheVariants as cell
use Rattle.sql_eval.specs.declared.row.Row.{Row}
use Rattle.sql_values.specs.Values.{directed, missing_first}
use Rattle.sql_eval.specs.Conditions.{Tuple, spot_of, tuple_property, operand_of, holds}
use Rattle.sql_eval.specs.Joins.{tuples_of}

-- by the paths of the nodes in the order of the selectors, a missing node first
abbrev pub by_paths : Tuple → Tuple → Ordering
by_paths = slice_cmp (option_cmp (on (λ e. e.0) path_cmp))

-- by an order of the query, and by all of them, the first first
abbrev pub by_order : Order → Tuple → Tuple → Ordering
by_order o = on (λ t. operand_of t o.operand) (directed o.direction missing_first)

-- two tuples by all orders of a query, each of which decides where those before it tie
abbrev pub by_orders : List Order → Tuple → Tuple → Ordering
by_orders [] t u = Equal
by_orders (o ∷ os) t u = ordering_then (by_order o t u) (by_orders os t u)

-- the second list has the elements of the first in order, those that tie as they stood
pub record IsStablySorted {X : Type 0} (cmp : X → X → Ordering) (xs ys : List X) : Type 0 where
  pub elements : IsPermutation xs ys
  pub sorted : IsSorted cmp ys
  pub stable : IsStable cmp xs ys

-- what a column has in a tuple
abbrev pub cell_of : Tuple → Column → Cell
cell_of t (column.Node selector) = option_map_or (λ e. cell.Node e.0) (spot_of t selector) cell.Null
cell_of t (column.Property p) = option_map_or cell.Value (tuple_property t p) cell.Null

-- the row of a tuple: what each column has in it
abbrev pub row_of : List Column → Tuple → Row
row_of columns t = record { cells = map (cell_of t) columns }

-- those of which the condition holds, or all where none is asked
abbrev pub that_pass : Option Condition → List Tuple → List Tuple
that_pass None ts = ts
that_pass (Some c) ts = filter (λ t. holds t c) ts

-- the joined tuples that are as the query asks
abbrev pub filtered : Query → List (List Name) → Nodes → List Tuple
filtered q sets tree = that_pass q.filter (tuples_of tree q.joins sets)

-- the tuples by their paths, then by the orders of the query, each as a row
pub record AreRowsOf (q : Query) (found : List Tuple) (rows : List Row) : Type 0 where
  pub by_path : List Tuple
  pub tuples : List Tuple
  pub paths : IsStablySorted by_paths found by_path
  pub orders : IsStablySorted (by_orders q.orders) by_path tuples
  pub rows_are : rows ≡ map (row_of q.columns) tuples

-- the rows of a query, where the names of the types of each selector are given
abbrev pub AreRows : Query → List (List Name) → Nodes → List Row → Type 0
AreRows q sets tree rows = AreRowsOf q (filtered q sets tree) rows
