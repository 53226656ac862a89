-- Refusals: each cause with its number and what it names.
use Rattle.std.specs.Prelude.{◌≡◌, ℕ, ◌+◌, Bool, cond, ◌==◌, nat_lt, List, [], ◌∷◌, length, sum_by, codes, Option, None, Some, is_none, Result, Ok, Err}
use Rattle.std.specs.Option.{option_map_or}
use Rattle.jr_path.specs.Names.{is_under}
use Rattle.jr_path.specs.declared.name.Name.{Name}
use Rattle.jr_path.specs.declared.path.Path.{Path}
use Rattle.jr_path.specs.declared.path.Item.{Item}
use Rattle.jr_rev.specs.declared.revision.Revision.{Revision}
use Rattle.jr_value.specs.declared.value.Kind.{Kind}
use Rattle.jr_tree.specs.declared.shared.Datum.{Datum}
use Rattle.jr_tree.specs.declared.shared.Datum.TheVariants as datum
use Rattle.jr_tree.specs.declared.shared.Refusal.{Refusal}
use Rattle.jr_tree.specs.Trees.{Nodes, node_at}
use Rattle.jr_items.specs.Names.{system}
use Rattle.jr_items.specs.Items.{first_some}

-- a number, with what it names
abbrev pub refusal : ℕ → List Datum → Refusal
refusal n named = record { number = n; parts = named }

-- a refusal that names a path
abbrev pub refusal_at : ℕ → Path → Refusal
refusal_at n p = refusal n (datum.Path p ∷ [])

-- 1: there is no such item
abbrev pub no_item : Path → Refusal
no_item p = refusal_at 1 p

-- 2: a node stands there, or has that identifier
abbrev pub taken : Path → Refusal
taken p = refusal_at 2 p

-- 3: nobody registered the type
abbrev pub no_type : Name → Refusal
no_type n = refusal 3 (datum.Name n ∷ [])

-- 4: a rule of the node's types fails, at one of its items; rule 0 is a command's own
abbrev pub breaks_rule : ℕ → Path → Option Name → Refusal
breaks_rule rule p item = refusal 4 (datum.Number rule ∷ datum.Path p ∷ option_map_or datum.Name item datum.Null ∷ [])

-- 4, rule 0, of a node
abbrev pub own_rule : Path → Refusal
own_rule p = breaks_rule 0 p None

-- 4, rule 0, of an item of a node
abbrev pub own_item_rule : Path → Name → Refusal
own_item_rule p n = breaks_rule 0 p (Some n)

-- 5: a value of the first kind is asked for, and one of the second is given
abbrev pub wrong_kind : Kind → Kind → Refusal
wrong_kind asked given = refusal 5 (datum.Kind asked ∷ datum.Kind given ∷ [])

-- 6: nothing has that identifier
abbrev pub no_identifier : List ℕ → Refusal
no_identifier id = refusal 6 (datum.Text id ∷ [])

-- 7: a lock, whose token is not held
abbrev pub locked : Path → Refusal
locked p = refusal_at 7 p

-- 8: a node is checked in, or a version's item stands in the way
abbrev pub checked_in : Path → Refusal
checked_in p = refusal_at 8 p

-- 9: a reference names no node
abbrev pub dangling_refusal : Item → Refusal
dangling_refusal item = refusal 9 (datum.Item item ∷ [])

-- 10: another commit, made or under way, clashes in the item
abbrev pub clash_refusal : Item → Revision → Refusal
clash_refusal item other = refusal 10 (datum.Item item ∷ datum.Revision other ∷ [])

-- 11: the text is no query from that byte on
abbrev pub no_query : ℕ → Refusal
no_query offset = refusal 11 (datum.Number offset ∷ [])

-- 12: the command has not what it needs
abbrev pub unsupported : List ℕ → Refusal
unsupported command = refusal 12 (datum.Text command ∷ [])

-- 13: there is no such checkpoint
abbrev pub no_checkpoint : List ℕ → Refusal
no_checkpoint id = refusal 13 (datum.Text id ∷ [])

-- 15: a quantity would pass its limit
abbrev pub over_limit : List ℕ → ℕ → Refusal
over_limit what most = refusal 15 (datum.Text what ∷ datum.Number most ∷ [])

-- 16: memory was refused
abbrev pub out_of_memory : Refusal
out_of_memory = refusal 16 []

-- the refusal is this one, unless memory was refused
abbrev pub IsOrMemory : Refusal → Refusal → Type 0
IsOrMemory cause r = ¬ (r ≡ out_of_memory) → r ≡ cause

-- the refusal is the one that must come, unless memory was refused
abbrev pub IsTheRefusal : Option Refusal → Refusal → Type 0
IsTheRefusal due r = ¬ (r ≡ out_of_memory) → due ≡ Some r

-- refused where the test holds
abbrev pub when : Bool → Refusal → Option Refusal
when test r = cond test (Some r) None

-- refused, or else this answer
abbrev pub or_else : {A : Type 0} → Option Refusal → A → Result A Refusal
or_else None a = Ok a
or_else (Some r) a = Err r

-- the bytes of a path's text
abbrev pub text_length : Path → ℕ
text_length p = cond (length p == 0) 1 (sum_by (λ n. length n + 1) p)

-- a path has at most 64 names
abbrev pub too_deep : Path → Option Refusal
too_deep p = when (nat_lt 64 (length p)) (over_limit (codes "depth") 64)

-- a path's text has at most 1,024 bytes
abbrev pub too_long : Path → Option Refusal
too_long p = when (nat_lt 1024 (text_length p)) (over_limit (codes "path") 1024)

-- the first limit that a path passes
abbrev pub limit_refusal : Path → Option Refusal
limit_refusal p = first_some (too_deep p ∷ too_long p ∷ [])

-- the repository's own nodes are changed by no such command
abbrev pub in_system : Path → Option Refusal
in_system p = when (is_under p system) (own_rule p)

-- there is no node there
abbrev pub no_node : Nodes → Path → Option Refusal
no_node t p = when (is_none (node_at t p)) (no_item p)

-- what a lock or version command asks of its path, in order
abbrev pub bad_place : Nodes → Path → List (Option Refusal)
bad_place t p = too_deep p ∷ too_long p ∷ in_system p ∷ no_node t p ∷ []

-- the first of what a lock or version command asks of its path that fails
abbrev pub place_refusal : Nodes → Path → Option Refusal
place_refusal t p = first_some (bad_place t p)
