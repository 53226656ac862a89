-- Queries without where their parts lie in memory.
use Rattle.std.specs.Prelude.{ℕ, Bool, true, false, List, Option, option_map, map}
use Rattle.jr_value.specs.declared.value.Value.{Value}
use Rattle.sql_query.specs.declared.query.Query.{Query}
use Rattle.sql_query.specs.declared.query.Join.{Join}
use Rattle.sql_query.specs.declared.query.PropertyOf.{PropertyOf}
use Rattle.sql_query.specs.declared.query.Column.{Column}
use Rattle.sql_query.specs.declared.query.Condition.{Condition}
use Rattle.sql_query.specs.declared.query.Condition.TheVariants as condition
use Rattle.sql_query.specs.declared.query.Operator.{Operator}
use Rattle.sql_query.specs.declared.query.Operand.{Operand}
use Rattle.sql_query.specs.declared.query.Operand.TheVariants as operand
use Rattle.sql_query.specs.declared.query.Order.{Order}
use Rattle.sql_query.specs.declared.query.Direction.{Direction}

-- an operand
pub data Look : Type 0 where
  Property : PropertyOf → Look
  Length : PropertyOf → Look
  Name : (selector : ℕ) → Look
  LocalName : (selector : ℕ) → Look
  Lower : Look → Look
  Upper : Look → Look

-- a condition
pub data Test : Type 0 where
  Not : Test → Test
  And : (left right : Test) → Test
  Or : (left right : Test) → Test
  Has : PropertyOf → Test
  Compare : Look → Operator → Value → Test
  Same : (selector : ℕ) (path : List (List ℕ)) → Test
  Child : (selector : ℕ) (path : List (List ℕ)) → Test
  Descendant : (selector : ℕ) (path : List (List ℕ)) → Test

-- an order
pub record By : Type 0 where
  pub look : Look
  pub direction : Direction

-- a query
pub record AskedQuery : Type 0 where
  pub types : List (List ℕ)
  pub joins : List Join
  pub columns : List Column
  pub filter : Option Test
  pub orders : List By

-- an operand of a query, without where its parts lie in memory
abbrev pub look_of : Operand → Look
look_of (operand.Property p) = Property p
look_of (operand.Length p) = Length p
look_of (operand.Name selector) = Name selector
look_of (operand.LocalName selector) = LocalName selector
look_of (operand.Lower' _ o) = Lower (look_of o)
look_of (operand.Upper' _ o) = Upper (look_of o)

-- the operand is a property itself
abbrev pub is_property_look : Look → Bool
is_property_look (Property _) = true
is_property_look _ = false

-- a condition of a query, without where its parts lie in memory
abbrev pub test_of : Condition → Test
test_of (condition.Not' _ c) = Not (test_of c)
test_of (condition.And' _ c _ d) = And (test_of c) (test_of d)
test_of (condition.Or' _ c _ d) = Or (test_of c) (test_of d)
test_of (condition.Has p) = Has p
test_of (condition.Compare o operator v) = Compare (look_of o) operator v
test_of (condition.Same selector path) = Same selector path
test_of (condition.Child selector path) = Child selector path
test_of (condition.Descendant selector path) = Descendant selector path

-- one ordering of a query, without where its operand lies in memory
abbrev pub by_of : Order → By
by_of o = record { look = look_of o.operand; direction = o.direction }

-- what is asked of rows, and their orders
abbrev pub rest_of : Option Condition × List Order → Option Test × List By
rest_of (filter, orders) = (option_map test_of filter, map by_of orders)

-- what a query asks, without where its parts lie in memory
abbrev pub asked_of : Query → AskedQuery
asked_of q = record { types = q.types; joins = q.joins; columns = q.columns; filter = option_map test_of q.filter; orders = map by_of q.orders }
