-- What is known of a tree once its base moved by an edit.
use Rattle.std.specs.Prelude.{◌≡◌, Bool, Err, IfOk, List, Ok, OnErr, Result, Some, false, IsFalse, IsTrue}
use Rattle.std.specs.declared.alloc.AllocError.{AllocError}
use Rattle.jr_rev.specs.declared.revision.Revision.{Revision}
use Rattle.jr_tree.specs.declared.edit.Write.{Write}
use Rattle.jr_tree.specs.Edits.{IsProper, applied}
use Rattle.jr_tree.specs.Trees.{IsTree, Nodes}
use Rattle.jr_part.specs.Parts.{AgreesWith, Knowledge, LacksNothing, nothing_known}
use Rattle.jr_part.specs.declared.need.Need.TheVariants as need

-- what is known follows an edit by a revision: the whole tree is known still, or nothing is
pub record FollowsEdit (old new : Knowledge) (by : Revision) (ws : List Write)
    (is_whole : Bool) : Type 0 where
  pub whole : IsTrue is_whole → LacksNothing new need.All
  pub nothing : IsFalse is_whole → new ≡ nothing_known
  pub agrees : (t : Nodes) → IsTree t → IsProper t ws → AgreesWith t old
      → AgreesWith (applied (Some by) t ws) new

-- the same, and where the whole tree was known it is forgotten only where memory was refused
pub record FollowsOrLacks (old new : Knowledge) (by : Revision) (ws : List Write)
    (result : Result Bool AllocError) : Type 0 where
  pub whole : IfOk result (λ is_whole. IsTrue is_whole → LacksNothing new need.All)
  pub nothing : IfOk result (λ is_whole. IsFalse is_whole → new ≡ nothing_known)
  pub kept : IfOk result (λ is_whole. LacksNothing old need.All → IsTrue is_whole)
  pub refused : OnErr result (new ≡ nothing_known)
  pub agrees : (t : Nodes) → IsTree t → IsProper t ws → AgreesWith t old
      → AgreesWith (applied (Some by) t ws) new

-- the whole tree is known still
abbrev pub is_known_still : Result Bool AllocError → Bool
is_known_still (Ok is_whole) = is_whole
is_known_still (Err e) = false
