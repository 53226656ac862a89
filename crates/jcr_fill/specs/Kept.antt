-- What making a node whole leaves as it was: what was made at other places, and the identifier.
use Rattle.std.specs.Prelude.{◌≡◌, ◌⊎◌, ℕ, Option, None, Some}
use Rattle.jr_path.specs.declared.path.Path.{Path}
use Rattle.jr_value.specs.declared.value.Property.{Property}
use Rattle.jr_tree.specs.declared.shared.Who.{Who}
use Rattle.jr_tree.specs.declared.tree.Node.{Node}
use Rattle.jr_items.specs.Items.{property_of}
use Rattle.jr_items.specs.Names.{uuid}
use Rattle.jr_overlay.specs.Views.{step_at}
use Rattle.jcr_fill.specs.Filled.{next_identifier}
use Rattle.jcr_fill.specs.Makings.{Making}

-- what was made at p is as it was
abbrev pub IsAsBefore : Path → (old new : Making) → Type 0
IsAsBefore p old new = step_at new.steps p ≡ step_at old.steps p

-- an identifier is the one that was there; where there was none, it is none or the session's next
abbrev pub IsOwnOrNext : Who → (ids : ℕ) → (old new : Option Property) → Type 0
IsOwnOrNext who ids (Some x) new = new ≡ Some x
IsOwnOrNext who ids None new = (new ≡ None) ⊎ (new ≡ Some (next_identifier who ids))

-- a node was put at p, and its identifier is the one that was there, none or the next
abbrev pub IsPutWith : Who → (ids : ℕ) → (old : Option Property) → Path → Making → Type 0
IsPutWith who ids old p m = (node : Node) × (step_at m.steps p ≡ Some (Some node))
    × IsOwnOrNext who ids old (property_of node uuid)
