-- Locks and checked-in nodes, computed.
use Rattle.std.proofs.Common.{◌≡◌, ℕ, Bool, true, false, Some, None, List, [], ◌∷◌, ◌++◌, refl}
use Rattle.std.specs.Prelude.{codes, Ok, Err}
use Rattle.jr_path.specs.declared.name.Name.{Name}
use Rattle.jr_path.specs.declared.path.Path.{Path}
use Rattle.jr_value.specs.declared.value.Kind.TheVariants as kind
use Rattle.jr_value.specs.declared.value.Property.{Property}
use Rattle.jr_value.specs.declared.value.Property.TheVariants.{Single, Many}
use Rattle.jr_value.specs.declared.value.Value.TheVariants as value
use Rattle.jr_tree.specs.declared.shared.Datum.TheVariants as datum
use Rattle.jr_tree.specs.declared.tree.Node.{Node}
use Rattle.jr_tree.specs.declared.edit.Write.TheVariants.{Put, Unset}
use Rattle.jr_tree.specs.Trees.{Nodes}
use Rattle.jr_tree.specs.Edits.{applied}
use Rattle.jcr_lock.specs.Locks.{locked_by, frozen_by, lock_edit, unlock_edit}

abbrev mixed : Name → List (Name × Property) → Node
mixed m more = record { props = more ++ (codes "jcr:mixinTypes", Many kind.Name (value.Name m ∷ [])) ∷ (codes "jcr:primaryType", Single (value.Name (codes "nt:unstructured"))) ∷ []; born = None }

abbrev plain : Node
plain = record { props = (codes "jcr:primaryType", Single (value.Name (codes "nt:unstructured"))) ∷ []; born = None }

abbrev a : Path
a = codes "a" ∷ []

abbrev b : Path
b = a ++ codes "b" ∷ []

abbrev c : Path
c = b ++ codes "c" ∷ []

abbrev d : Path
d = c ++ codes "d" ∷ []

abbrev token : List ℕ
token = codes "t"

-- /a that can be locked, /a/b and /a/b/c
abbrev start : Nodes
start = ([], plain) ∷ (a, mixed (codes "mix:lockable") []) ∷ (b, plain) ∷ (c, plain) ∷ []

deep_lock : lock_edit start a true token ≡ Ok (Put a (codes "jcr:lockIsDeep") (Single (value.Boolean true)) ∷ Put a (codes "jcr:lockOwner") (Single (value.Str token)) ∷ [])
deep_lock = refl

abbrev deep : Nodes
deep = applied None start (Put a (codes "jcr:lockIsDeep") (Single (value.Boolean true)) ∷ Put a (codes "jcr:lockOwner") (Single (value.Str token)) ∷ [])

abbrev shallow : Nodes
shallow = applied None start (Put a (codes "jcr:lockIsDeep") (Single (value.Boolean false)) ∷ Put a (codes "jcr:lockOwner") (Single (value.Str token)) ∷ [])

-- a deep lock covers what is below, also a node that isn't there yet
covers : locked_by deep d [] ≡ Some a
covers = refl

held : locked_by deep d (codes "u" ∷ token ∷ []) ≡ None
held = refl

own_node : locked_by shallow a [] ≡ Some a
own_node = refl

not_below : locked_by shallow b [] ≡ None
not_below = refl

-- a lock stands in the way of another, also of its own
again : lock_edit deep a true (codes "u") ≡ Err (record { number = 7; parts = datum.Path a ∷ [] })
again = refl

-- a node without the mixin can't be locked
no_mixin : lock_edit start b true token ≡ Err (record { number = 12; parts = datum.Text (codes "lock") ∷ [] })
no_mixin = refl

absent : lock_edit start d true token ≡ Err (record { number = 1; parts = datum.Path d ∷ [] })
absent = refl

abbrev lock_of : List ℕ → List (Name × Property)
lock_of owner = (codes "jcr:lockIsDeep", Single (value.Boolean true)) ∷ (codes "jcr:lockOwner", Single (value.Str owner)) ∷ []

-- of two locks over a node the nearest is in the way
nearest : lock_edit (([], plain) ∷ (a, mixed (codes "mix:title") (lock_of (codes "u"))) ∷ (b, mixed (codes "mix:title") (lock_of (codes "v"))) ∷ (c, mixed (codes "mix:lockable") []) ∷ []) c true token ≡ Err (record { number = 7; parts = datum.Path b ∷ [] })
nearest = refl

-- a lock below is in the way of a deep one
below : lock_edit (([], plain) ∷ (a, mixed (codes "mix:lockable") []) ∷ (b, plain) ∷ (c, mixed (codes "mix:title") (lock_of (codes "v"))) ∷ []) a true token ≡ Err (record { number = 7; parts = datum.Path c ∷ [] })
below = refl

unlocked : unlock_edit deep a (token ∷ []) ≡ Ok (Unset a (codes "jcr:lockIsDeep") ∷ Unset a (codes "jcr:lockOwner") ∷ [])
unlocked = refl

no_token : unlock_edit deep a [] ≡ Err (record { number = 7; parts = datum.Path a ∷ [] })
no_token = refl

no_lock : unlock_edit start a [] ≡ Err (record { number = 1; parts = datum.Path (a ++ codes "jcr:lockOwner" ∷ []) ∷ [] })
no_lock = refl

abbrev versionable : Bool → Node
versionable out = mixed (codes "mix:versionable") ((codes "jcr:isCheckedOut", Single (value.Boolean out)) ∷ [])

-- /a is checked in; /a/b/c is versionable and checked out
abbrev checked_in : Nodes
checked_in = ([], plain) ∷ (a, versionable false) ∷ (b, plain) ∷ (c, versionable true) ∷ []

frozen : frozen_by checked_in b ≡ Some a
frozen = refl

up_to_versionable : frozen_by checked_in d ≡ None
up_to_versionable = refl

not_above : frozen_by checked_in [] ≡ None
not_above = refl
