-- What a session holds when it begins.
use Rattle.std.specs.Prelude.{◌≡◌, false, [], None}
use Rattle.jr_rev.specs.declared.vector.RevVec.{RevVec}
use Rattle.jr_tree.specs.Trees.{IsTree}
use Rattle.jr_part.specs.Parts.{nothing_known}
use Rattle.jcr_law.specs.State.{Call}
use Rattle.jcr_held.specs.declared.held.Held.{Held}

-- nothing is known, nothing is pending, no lock token is held, no cursor is set, and no identifier
-- was drawn
pub record IsNewHeld (x : Held) : Type 0 where
  pub ids : x.who.ids ≡ 0
  pub known : x.part ≡ nothing_known
  pub earlier : x.earlier ≡ None
  pub pending : x.pending ≡ []
  pub settled : x.is_kept ≡ false
  pub tokens : x.tokens ≡ []
  pub cursor : x.cursor ≡ None

-- a session's first command is run so, with its base at a vector: the view is the tree there
pub record IsFirstCall (x : Held) (v : RevVec) (c : Call) : Type 0 where
  pub types : c.types ≡ x.types
  pub who : c.who ≡ record x.who { base = v }
  pub tree : IsTree c.base
  pub view : c.state.view ≡ c.base
  pub tokens : c.state.tokens ≡ []
  pub cursor : c.state.cursor ≡ None
  pub ids : c.state.ids ≡ 0
