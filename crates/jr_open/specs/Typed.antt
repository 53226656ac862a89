-- Which documents a repository of these node types can be opened from: the five rules of documents,
-- and a sixth, that of node types.
use Rattle.std.specs.Prelude.{◌≡◌, ℕ, Bool, true, cond, List, [], ◌∷◌, ◌++◌, Option, None, is_some}
use Rattle.jr_path.specs.declared.path.DocId.{DocId}
use Rattle.jr_path.specs.declared.path.DocId.TheVariants.{Node}
use Rattle.jr_items.specs.Items.{is_empty}
use Rattle.jr_tree.specs.Trees.{Nodes, node_at}
use Rattle.jr_types.specs.declared.TypeDef.{TypeDef}
use Rattle.jr_types.specs.Rules.{TypesOk}
use Rattle.jr_rules.specs.Violations.{violations_at}
use Rattle.oak_sound.specs.Meant.{ById, opened_tree}
use Rattle.oak_sound.specs.Sound.{first_broken_of, rules}
use Rattle.oak_open.specs.Opening.{IsOpened}
use Rattle.oak_open.specs.declared.open.Opened.{Opened}

-- the node of a document, where the tree has it, breaks no rule of its types
abbrev pub keeps_types : List TypeDef → Nodes → DocId → Bool
keeps_types types t (Node p) =
    cond (is_some (node_at t p)) (is_empty (violations_at types t p)) true
keeps_types types t id = true

-- the first of the six rules that is broken, with the first document that breaks it
abbrev pub first_broken_with_types : ℕ → List TypeDef → ById → Option (ℕ × ℕ)
first_broken_with_types clusters types ds =
    first_broken_of (rules clusters ds
    ++ (6, λ before e. keeps_types types (opened_tree clusters ds) e.0) ∷ []) ds

-- what a repository of these node types begins with that is opened from documents
pub record IsOpenedWithTypes (clusters sessions : ℕ) (types : List TypeDef) (ds : ById)
    (begun : Opened) : Type 0 where
  -- it is what they are opened with
  pub opened : IsOpened clusters sessions ds begun
  -- none of the six rules is broken
  pub sound : first_broken_with_types clusters types ds ≡ None
  -- its tree meets the rules of its types
  pub typed : TypesOk types begun.tree
