-- What is held, whatever is left to be looked at by loading.
use Rattle.std.specs.Prelude.{◌≡◌, ◌⊎◌, ℕ, ◌+◌, None, IsTrue, is_some, min, true}
use Rattle.jr_rev.specs.declared.vector.RevVec.{RevVec}
use Rattle.jr_part.specs.Parts.{LacksNothing, nothing_known}
use Rattle.jr_part.specs.declared.need.Need.TheVariants as need
use Rattle.jcr_held.specs.References.{are_asked}
use Rattle.jcr_held.specs.declared.held.Held.{Held}
use Rattle.jcr_held.specs.declared.references.References.TheVariants as references

-- both hold the same; only what loading still has to look at may differ
pub record AreAlike (x y : Held) : Type 0 where
  pub types : y.types ≡ x.types
  pub who : y.who ≡ x.who
  pub part : y.part ≡ x.part
  pub earlier : y.earlier ≡ x.earlier
  pub pending : y.pending ≡ x.pending
  pub is_kept : y.is_kept ≡ x.is_kept
  pub references : y.references ≡ x.references
  pub tokens : y.tokens ≡ x.tokens
  pub cursor : y.cursor ≡ x.cursor

-- only what is pending changes, and whether it is kept from an earlier base; of the references of
-- the tree at the base it may be asked, where it wasn't yet
pub record MakesAgain (old new : Held) : Type 0 where
  pub types : new.types ≡ old.types
  pub who : new.who ≡ old.who
  pub part : new.part ≡ old.part
  pub earlier : new.earlier ≡ old.earlier
  pub references : IsTrue (are_asked old.references) → new.references ≡ old.references
  pub tokens : new.tokens ≡ old.tokens
  pub cursor : new.cursor ≡ old.cursor

-- what is made again changes, as above; and the earlier tree may go, of which what is known of the
-- tree at the base is made then
pub record Readies (old new : Held) : Type 0 where
  pub types : new.types ≡ old.types
  pub who : new.who ≡ old.who
  pub part : new.earlier ≡ old.earlier → new.part ≡ old.part
  pub earlier : (new.earlier ≡ None) ⊎ (new.earlier ≡ old.earlier)
  pub references : IsTrue (are_asked old.references) → new.references ≡ old.references
  pub tokens : new.tokens ≡ old.tokens
  pub cursor : new.cursor ≡ old.cursor

-- the earlier tree may go, and what is known of the tree at the base is made of it then
pub record CatchesUp (old new : Held) : Type 0 where
  pub same : AreAlike (record old { part = new.part; earlier = new.earlier }) new
  pub part : new.earlier ≡ old.earlier → new.part ≡ old.part
  pub earlier : (new.earlier ≡ None) ⊎ (new.earlier ≡ old.earlier)

-- if the earlier tree went, nothing lacks of the tree at the base
abbrev pub IsWholeBehind : (old new : Held) → Type 0
IsWholeBehind old new =
    IsTrue (is_some old.earlier) → new.earlier ≡ None → LacksNothing new.part need.All

-- the base is at a vector, of whose tree nothing is known, nor of its references, nor of one at an
-- earlier base; what is pending is kept
abbrev pub moved_to : Held → RevVec → Held
moved_to x v = record x {
  who = record x.who { base = v };
  part = nothing_known;
  earlier = None;
  is_kept = true;
  references = references.Unasked;
}

-- what is held where the session has drawn a number of identifiers more, up to the limit
abbrev pub with_drawn : Held → ℕ → Held
with_drawn x n = record x { who = record x.who { ids = min (x.who.ids + n) 16777215 } }
