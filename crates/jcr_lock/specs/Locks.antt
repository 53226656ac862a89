-- Which lock or checked-in node covers a path, and the edits of lock and unlock.
use Rattle.std.specs.Prelude.{◌≡◌, Ok, Err, Bool, true, false, cond, not, ◌&&◌, ◌||◌, List, [], ◌∷◌, ◌++◌, Option, None, Some, is_some, option_map, option_and_then, codes, ℕ, Result}
use Rattle.std.specs.List.{find, list_any}
use Rattle.std.specs.Map.{keys_of}
use Rattle.std.specs.Option.{option_map_or, option_or}
use Rattle.jr_path.specs.Names.{is_under}
use Rattle.jr_path.specs.declared.path.Path.{Path}
use Rattle.jr_value.specs.declared.value.Property.TheVariants.{Single}
use Rattle.jr_value.specs.declared.value.Value.TheVariants as value
use Rattle.jr_value.specs.Values.{same_bytes}
use Rattle.jr_tree.specs.declared.shared.Refusal.{Refusal}
use Rattle.jr_tree.specs.declared.edit.Edit.{Edit}
use Rattle.jr_tree.specs.declared.edit.Write.{Write}
use Rattle.jr_tree.specs.declared.edit.Write.TheVariants.{Put, Unset}
use Rattle.jr_tree.specs.Trees.{Nodes, property_at, subtree_of}
use Rattle.jr_items.specs.Names.{lock_owner, lock_is_deep, lockable}
use Rattle.jr_items.specs.Items.{same_path, first_some, one_text, is_flag, has_mixin, upward, is_versionable, is_checked_in, needed_writes}
use Rattle.jr_items.specs.Refusals.{when, or_else, out_of_memory, place_refusal, no_item, locked, unsupported}

-- a lock is a node with an owner
abbrev pub is_lock : Nodes → Path → Bool
is_lock t q = is_some (property_at t q lock_owner)

-- a lock that covers what is below it too
abbrev pub is_deep_lock : Nodes → Path → Bool
is_deep_lock t q = is_lock t q && is_flag true (property_at t q lock_is_deep)

-- a shallow lock covers its node, a deep one the subtree
abbrev pub lock_covers : Nodes → Path → Path → Bool
lock_covers t q p = is_lock t q && (same_path q p || is_flag true (property_at t q lock_is_deep) && is_under p q)

-- one of the tokens is the lock's owner
abbrev pub is_held : Nodes → List (List ℕ) → Path → Bool
is_held t tokens q = option_map_or (λ owner. list_any (same_bytes owner) tokens) (one_text (property_at t q lock_owner)) false

-- a lock covers the path, and its owner is not among the tokens
abbrev pub bars : Nodes → Path → List (List ℕ) → Path → Bool
bars t p tokens q = lock_covers t q p && not (is_held t tokens q)

-- the nearest lock that covers a path and whose owner is not among the tokens
abbrev pub locked_by : Nodes → Path → List (List ℕ) → Option Path
locked_by t p tokens = find (bars t p tokens) (upward p)

-- the nearest versionable node at or above a path, where it is checked in
abbrev pub frozen_by : Nodes → Path → Option Path
frozen_by t p = option_and_then (λ q. cond (is_checked_in t q) (Some q) None) (find (is_versionable t) (upward p))

-- the first lock at or below a path
abbrev pub first_lock : Nodes → Path → Option Path
first_lock t p = find (is_lock t) (keys_of (subtree_of t p))

-- the lock in the way of a new one: the nearest that covers the path, or else, where the new one is deep, the first below
abbrev pub lock_in_way : Nodes → Path → (deep : Bool) → Option Path
lock_in_way t p deep = option_or (find (λ q. lock_covers t q p) (upward p)) (cond deep (first_lock t p) None)

-- the node can't be locked
abbrev pub unlockable : Nodes → Path → Option Refusal
unlockable t p = when (not (has_mixin t lockable p)) (unsupported (codes "lock"))

-- why a node can't be locked
abbrev pub lock_refusal : Nodes → Path → (deep : Bool) → Option Refusal
lock_refusal t p deep = first_some (place_refusal t p ∷ unlockable t p ∷ option_map locked (lock_in_way t p deep) ∷ [])

-- a new lock: the owner is its token
abbrev pub lock_writes : Path → (deep : Bool) → (token : List ℕ) → List Write
lock_writes p deep token = Put p lock_is_deep (Single (value.Boolean deep)) ∷ Put p lock_owner (Single (value.Str token)) ∷ []

-- the edit that locks a node with a token
abbrev pub lock_edit : Nodes → Path → (deep : Bool) → (token : List ℕ) → Result (List Write) Refusal
lock_edit t p deep token = or_else (lock_refusal t p deep) (needed_writes t (lock_writes p deep token))

-- the node holds no lock, or no token is its owner
abbrev pub owner_refusal : Nodes → Path → (tokens : List (List ℕ)) → Option Refusal
owner_refusal t p tokens = first_some (when (not (is_lock t p)) (no_item (p ++ lock_owner ∷ [])) ∷ when (not (is_held t tokens p)) (locked p) ∷ [])

-- why a node can't be unlocked
abbrev pub unlock_refusal : Nodes → Path → (tokens : List (List ℕ)) → Option Refusal
unlock_refusal t p tokens = first_some (place_refusal t p ∷ owner_refusal t p tokens ∷ [])

-- an unlocking takes both properties away
abbrev pub unlock_writes : Path → List Write
unlock_writes p = Unset p lock_is_deep ∷ Unset p lock_owner ∷ []

-- the edit that unlocks a node
abbrev pub unlock_edit : Nodes → Path → (tokens : List (List ℕ)) → Result (List Write) Refusal
unlock_edit t p tokens = or_else (unlock_refusal t p tokens) (needed_writes t (unlock_writes p))

-- an edit is the one that is due
abbrev pub IsDue : Result (List Write) Refusal → Edit → Type 0
IsDue due edit = due ≡ Ok edit.writes

-- a refusal is the one that is due, unless memory was refused
abbrev pub IsDueRefusal : Result (List Write) Refusal → Refusal → Type 0
IsDueRefusal due r = ¬ (r ≡ out_of_memory) → due ≡ Err r
