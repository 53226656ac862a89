-- The head's own entry, where there is one.
use Rattle.std.proofs.Common.{◌≡◌, cond, is_some, Some, None, List, [], ◌∷◌, refl}
use Rattle.jr_rev.specs.declared.revision.Revision.{Revision}
use Rattle.oak_machine.specs.Heads.{greatest_revision, greatest_of}

pub head_is_local : (first : Revision) (rs : List Revision) → greatest_of first rs ≡ cond (is_some (greatest_of first rs)) (Some (greatest_revision first rs)) None
head_is_local first [] = refl
head_is_local first (r ∷ rs) = refl
