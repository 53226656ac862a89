-- What nodes and tuples are found by.
use Rattle.std.specs.Prelude.{ℕ, Bool, Option, Some, None}
use Rattle.std.specs.Option.{option_cmp}
use Rattle.std.specs.Ordering.{eq_by_cmp, on, then_cmp}
use Rattle.std.specs.declared.cmp.Ordering.{Ordering}
use Rattle.jr_path.specs.Names.{path_cmp}
use Rattle.jr_path.specs.declared.path.Path.{Path as PathOf}
use Rattle.jr_value.specs.declared.value.Value.{Value as ValueOf}
use Rattle.sql_values.specs.Values.{kinds_first}
use Rattle.sql_plan.specs.declared.index.Key.{Key}
use Rattle.sql_plan.specs.declared.index.Key.TheVariants as key
use Rattle.sql_plan.specs.declared.index.Entry.{Entry}

-- nothing, a value, or a path
pub data Sought : Type 0 where
  Any : Sought
  Value : ValueOf → Sought
  Path : PathOf → Sought

-- a key, without where it lies in memory
abbrev pub sought : Key → Sought
sought key.Any = Any
sought (key.Value x) = Value x.now
sought (key.Path p) = Path p.now

-- the value that is sought, if it is one
abbrev pub sought_value : Sought → Option ValueOf
sought_value (Value x) = Some x
sought_value _ = None

-- the path that is sought, if it is one
abbrev pub path_in : Sought → Option PathOf
path_in (Path p) = Some p
path_in _ = None

-- values by their kinds and within one kind by their order, paths name by name
abbrev pub key_cmp : Sought → Sought → Ordering
key_cmp = then_cmp (on sought_value (option_cmp kinds_first)) (on path_in (option_cmp path_cmp))

-- two keys are equal in their order
abbrev pub is_same_key : Sought → Sought → Bool
is_same_key = eq_by_cmp key_cmp

-- a key and a place
abbrev pub placed_key : Entry → Sought × ℕ
placed_key e = (sought e.key, e.place)

-- the entries of an index by their keys alone
abbrev pub by_key : Entry → Entry → Ordering
by_key = on (λ e. sought e.key) key_cmp
