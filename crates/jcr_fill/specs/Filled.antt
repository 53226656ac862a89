-- Properties that are made of themselves.
use Rattle.std.specs.Prelude.{ℕ, ◌+◌, Bool, cond, ◌||◌, List, [], ◌∷◌, ◌++◌, Option, None, Some, is_some, codes, Result, Ok}
use Rattle.std.specs.Option.{option_and_then}
use Rattle.std.specs.Fmt.{decimal}
use Rattle.jr_path.specs.declared.name.Name.{Name}
use Rattle.jr_value.specs.declared.value.Value.{Value}
use Rattle.jr_value.specs.declared.value.Value.TheVariants as value
use Rattle.jr_value.specs.declared.value.Property.{Property}
use Rattle.jr_value.specs.declared.value.Property.TheVariants.{Single, Many}
use Rattle.jr_value.specs.Values.{kind_of}
use Rattle.jr_tree.specs.declared.shared.Refusal.{Refusal}
use Rattle.jr_tree.specs.declared.shared.Who.{Who}
use Rattle.jr_tree.specs.declared.tree.Node.{Node}
use Rattle.jr_items.specs.Items.{property_of, same_name}
use Rattle.jr_items.specs.Names.{created, created_by, last_modified, last_modified_by, uuid}
use Rattle.jr_types.specs.declared.PropDef.{PropDef}
use Rattle.jcr_ref.specs.Drawn.{latest_date, too_many_ids}
use Rattle.jcr_ref.specs.References.{identifier}
use Rattle.jcr_write.specs.Places.{unless_refused, with_property}
use Rattle.jcr_fill.specs.declared.fill.Filling.{Filling}
use Rattle.jcr_fill.specs.Steps.{each}

-- the property that default values make: all of them, or the first
abbrev pub by_default : (multiple : Bool) → List Value → Option Property
by_default multiple [] = None
by_default multiple (x ∷ xs) = Some (cond multiple (Many (kind_of x) (x ∷ xs)) (Single x))

-- the property is a date of the repository's own
abbrev pub is_date : Name → Bool
is_date n = same_name created n || same_name last_modified n

-- the property is a user of the repository's own
abbrev pub is_user : Name → Bool
is_user n = same_name created_by n || same_name last_modified_by n

-- a session as a user: `s` and its number
abbrev pub user_name : Who → List ℕ
user_name who = codes "s" ++ decimal who.session

-- what an autocreated property is that draws no identifier: the latest date, the session as a user,
-- or its default values
abbrev pub given : Who → Name → PropDef → Option Property
given who n d =
    cond (is_date n) (Some (Single (value.Date (latest_date who.base))))
    (cond (is_user n) (Some (Single (value.Str (user_name who))))
    (by_default d.multiple d.defaults))

-- the name of a property that is made of itself, where the node lacks it
abbrev pub lacking : Node → PropDef → Option Name
lacking node d = cond d.autocreated
    (option_and_then (λ n. cond (is_some (property_of node n)) None (Some n)) d.name) None

-- a node with the property, where it is one
abbrev pub with_given : Name → Option Property → Filling → Filling
with_given n None f = f
with_given n (Some x) f = record f { node = with_property f.node n x }

-- the text of the session's next identifier
abbrev pub next_text : Who → (ids : ℕ) → List ℕ
next_text who ids = identifier (who.session + who.earlier) (ids + 1)

-- the session's next identifier
abbrev pub next_identifier : Who → (ids : ℕ) → Property
next_identifier who ids = Single (value.Str (next_text who ids))

-- a node with the session's next identifier, which then counts as drawn
abbrev pub identified : Who → Name → Filling → Result Filling Refusal
identified who n f = unless_refused (too_many_ids (f.ids + 1))
    (Ok (record { node = with_property f.node n (next_identifier who f.ids); ids = f.ids + 1 }))

-- a node with an autocreated property of that name
abbrev pub with_made : Who → PropDef → Name → Filling → Result Filling Refusal
with_made who d n f =
    cond (same_name uuid n) (identified who n f) (Ok (with_given n (given who n d) f))

-- a node with the property that a definition makes of itself, where it lacks it
abbrev pub with_own_property : Who → PropDef → Filling → Result Filling Refusal
with_own_property who d f = elim (lacking f.node d) [ None ↦ Ok f | Some n ↦ with_made who d n f ]

-- a node with each property that these definitions make of themselves
abbrev pub filled : Who → List PropDef → Filling → Result Filling Refusal
filled who = each (with_own_property who)
