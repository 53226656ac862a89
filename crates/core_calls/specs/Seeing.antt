-- Where sessions see trees.
use Rattle.std.specs.Prelude.{◌≡◌, ℕ, List, Some}
use Rattle.jr_rev.specs.declared.vector.RevVec.{RevVec}
use Rattle.jr_tree.specs.Trees.{IsTree}
use Rattle.oak_machine.specs.Commits.{tree_at}
use Rattle.oak_machine.specs.History.{Begin, Past}
use Rattle.oak_machine.specs.Runs.{IsRunOf}
use Rattle.oak_machine.specs.Sessions.{base_of}
use Rattle.jr_types.specs.Rules.{TypesOk}
use Rattle.jcr_law.specs.declared.law.JcrLaw.{JcrLaw}
use Rattle.jcr_law.specs.Lasting.{says_of, starts_of}

-- in each run of the law that begins so, a session sees a tree at its base
abbrev pub SeesTrees : JcrLaw → (clusters : ℕ) → (sessions : List ℕ) → Begin → Type 0
SeesTrees law clusters sessions begin = (past : Past)
    → IsRunOf (starts_of law) (says_of law) clusters sessions begin past → (s : ℕ) (v : RevVec)
    → base_of past s ≡ Some v → IsTree (tree_at begin past v)

-- in each run of the law that begins so, the tree that a session sees at its base meets the rules
-- of the law's types
abbrev pub SeesTyped : JcrLaw → (clusters : ℕ) → (sessions : List ℕ) → Begin → Type 0
SeesTyped law clusters sessions begin = (past : Past)
    → IsRunOf (starts_of law) (says_of law) clusters sessions begin past → (s : ℕ) (v : RevVec)
    → base_of past s ≡ Some v → TypesOk law.types (tree_at begin past v)
