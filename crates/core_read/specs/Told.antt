-- What a draw marks and begins from, that documents can be read, and the vectors that are in use.
use Rattle.std.specs.Prelude.{◌≡◌, ◌⊎◌, None, List, [], ◌∷◌, Some, is_some, IsTrue, IsFalse}
use Rattle.jr_path.specs.declared.name.Name.{Name}
use Rattle.jr_path.specs.declared.path.Path.{Path}
use Rattle.jr_rev.specs.declared.revision.Revision.{Revision}
use Rattle.jr_rev.specs.declared.vector.RevVec.{RevVec}
use Rattle.jr_rev.specs.Revisions.{is_before}
use Rattle.jr_rev.specs.Vectors.{sees}
use Rattle.jr_tree.specs.declared.edit.Write.{Write}
use Rattle.oak_clash.specs.declared.mark.Mark.TheVariants.{Exists, Prop}
use Rattle.oak_clash.specs.declared.mark.MarkAt.{MarkAt}
use Rattle.oak_machine.specs.declared.event.Draw.{Draw}
use Rattle.oak_machine.specs.History.{Past}
use Rattle.oak_machine.specs.Commits.{draw_of, is_in_flight, is_in_base}
use Rattle.jr_tree.specs.Items.{here_of, put_of, written}
use Rattle.core_read.specs.Holds.{the_start}

-- k is one of the list
abbrev pub IsIn : {X : Type 0} → X → List X → Type 0
IsIn k [] = ⊥
IsIn k (x ∷ xs) = (x ≡ k) ⊎ IsIn k xs

-- the marks have an Exists for each node, and a Prop for each property that is written
pub record Covers (ms : List MarkAt) (ws : List Write) : Type 0 where
  pub node : (p : Path) → IsTrue (is_some (written (here_of p) ws))
      → IsIn (record { path = p; mark = Exists }) ms
  pub prop : (p : Path) (n : Name) → IsTrue (is_some (written (put_of p n) ws))
      → IsIn (record { path = p; mark = Prop n }) ms

-- a vector in use sees nothing that is in flight, with each drawn revision all that its base sees,
-- and the start
pub record IsInUse (past : Past) (v : RevVec) : Type 0 where
  pub settled : (o : Revision) → IsTrue (is_in_flight past o) → IsFalse (sees v o)
  pub closed : (o : Revision) → IsTrue (sees v o) → (q : Revision) → IsTrue (is_in_base past o q)
      → IsTrue (sees v q)
  pub begun : IsTrue (sees v the_start)

-- what the heads give at a draw: its revision is new, its base is in use and sees only earlier
-- ones, and no earlier base sees it
pub record IsFreshDraw (past : Past) (d : Draw) : Type 0 where
  pub fresh : draw_of past d.revision ≡ None
  pub base : IsInUse past d.base
  pub rises : (o : Revision) → IsTrue (sees d.base o) → IsTrue (is_before o d.revision)
  pub hidden : (q : Revision) (e : Draw) → draw_of past q ≡ Some e
      → IsFalse (is_in_base past q d.revision)
