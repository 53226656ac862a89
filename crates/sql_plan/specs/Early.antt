-- What a condition asks of one selector alone.
use Rattle.std.specs.Prelude.{ℕ, ◌+◌, ◌==◌, Bool, true, false, ◌&&◌, ◌||◌, List, [], ◌∷◌, ◌++◌, Option, Some, None, if◌then◌else◌, map}
use Rattle.std.specs.List.{filter, list_all, list_any, repeat}
use Rattle.std.specs.Option.{option_map_or}
use Rattle.jr_path.specs.Names.{is_under}
use Rattle.jr_path.specs.declared.path.Path.{Path}
use Rattle.sql_query.specs.declared.query.Condition.{Condition}
use Rattle.sql_query.specs.declared.query.Condition.TheVariants as condition
use Rattle.sql_query.specs.declared.query.Operand.{Operand}
use Rattle.sql_query.specs.declared.query.Operand.TheVariants as operand
use Rattle.sql_query.specs.declared.query.Join.{Join}
use Rattle.sql_query.specs.declared.query.JoinKind.{JoinKind}
use Rattle.sql_query.specs.declared.query.JoinKind.TheVariants.{Inner, LeftOuter, RightOuter}
use Rattle.jr_path.specs.declared.name.Name.{Name}
use Rattle.jr_tree.specs.Trees.{Nodes}
use Rattle.sql_eval.specs.Conditions.{Spot, Tuple, holds}
use Rattle.sql_eval.specs.Joins.{joined_tuples, nodes_of_type}

-- two kinds of joins are equal
abbrev pub kind_is : JoinKind → JoinKind → Bool
kind_is Inner Inner = true
kind_is LeftOuter LeftOuter = true
kind_is RightOuter RightOuter = true
kind_is _ _ = false

-- an operand looks at this selector
abbrev pub looks_only : ℕ → Operand → Bool
looks_only s (operand.Property p) = p.selector == s
looks_only s (operand.Length p) = p.selector == s
looks_only s (operand.Name selector) = selector == s
looks_only s (operand.LocalName selector) = selector == s
looks_only s (operand.Lower' b o) = looks_only s o
looks_only s (operand.Upper' b o) = looks_only s o

-- a condition asks of this selector alone
abbrev pub asks_only : ℕ → Condition → Bool
asks_only s (condition.Not' b c) = asks_only s c
asks_only s (condition.And' b c d e) = asks_only s c && asks_only s e
asks_only s (condition.Or' b c d e) = asks_only s c && asks_only s e
asks_only s (condition.Has p) = p.selector == s
asks_only s (condition.Compare o operator x) = looks_only s o
asks_only s (condition.Same selector q) = selector == s
asks_only s (condition.Child selector q) = selector == s
asks_only s (condition.Descendant selector q) = selector == s

-- the condition, where it asks of this selector alone
abbrev pub only_asked : ℕ → Condition → List Condition
only_asked s c = if asks_only s c then c ∷ [] else []

-- the parts that a condition joins by AND and that ask of this selector alone
abbrev pub asked_in : ℕ → Condition → List Condition
asked_in s (condition.And' b c d e) = asked_in s c ++ asked_in s e
asked_in s c = only_asked s c

-- the join is a right outer one
abbrev pub is_right_outer : Join → Bool
is_right_outer j = kind_is RightOuter j.kind

-- what may be asked of a selector before the join: nothing where an outer join may put a tuple without a node in the
-- place of one that is refused
abbrev pub asked_early : Option Condition → ℕ → Bool → List Join → List Condition
asked_early asks s is_outer later = if is_outer || list_any is_right_outer later then [] else option_map_or (asked_in s) asks []

-- a node behind so many missing ones
abbrev pub alone : ℕ → Spot → Tuple
alone s e = repeat s (None ∷ []) ++ Some e ∷ []

-- all parts hold of a node of this selector
abbrev pub passes : List Condition → ℕ → Spot → Bool
passes parts s e = list_all (holds (alone s e)) parts

-- the nodes of a selector of which what is asked early holds, in path order
abbrev pub early_nodes : Nodes → List Name → List Condition → ℕ → List Spot
early_nodes tree set parts s = filter (passes parts s) (nodes_of_type tree set)

-- tuples of n selectors joined with those of all others, from left to right, each selector asked early
abbrev pub joined_early : Option Condition → Nodes → ℕ → List Tuple → List Join → List (List Name) → List Tuple
joined_early asks tree n ls [] sets = ls
joined_early asks tree n ls (j ∷ js) [] = ls
joined_early asks tree n ls (j ∷ js) (set ∷ sets) =
    joined_early asks tree (n + 1) (joined_tuples j n ls (early_nodes tree set (asked_early asks n (kind_is LeftOuter j.kind) js) n)) js sets

-- the tuples of all selectors, each asked early
abbrev pub tuples_early : Option Condition → Nodes → List Join → List (List Name) → List Tuple
tuples_early asks tree js [] = []
tuples_early asks tree js (set ∷ sets) =
    joined_early asks tree 1 (map (λ e. Some e ∷ []) (early_nodes tree set (asked_early asks 0 false js) 0)) js sets

-- the path at or below which a condition asks for a node
abbrev pub path_in : Condition → Option Path
path_in (condition.Same selector q) = Some q
path_in (condition.Child selector q) = Some q
path_in (condition.Descendant selector q) = Some q
path_in _ = None

-- where a condition asks for a node at or below a path, this path is so
abbrev pub is_within : Path → Condition → Bool
is_within p c = option_map_or (is_under p) (path_in c) true
