-- What is known follows an edit, where memory is refused too.
use Rattle.std.specs.Prelude.{Bool, Err, List, Ok, Result}
use Rattle.std.specs.declared.alloc.AllocError.{AllocError}
use Rattle.std.proofs.lemmas.Bool.{false≢true}
use Rattle.jr_rev.specs.declared.revision.Revision.{Revision}
use Rattle.jr_tree.specs.declared.edit.Write.{Write}
use Rattle.jr_part.specs.Parts.{Knowledge}
use Rattle.jr_known.specs.Follows.{FollowsEdit, FollowsOrLacks, is_known_still}

pub follows_known : (old new : Knowledge) (by : Revision) (ws : List Write) (r : Result Bool AllocError) → FollowsOrLacks old new by ws r → FollowsEdit old new by ws (is_known_still r)
follows_known old new by ws (Ok is_whole) h = record { whole = h.whole; nothing = h.nothing; agrees = h.agrees }
follows_known old new by ws (Err e) h = record { whole = λ is. absurd (false≢true is); nothing = λ is. h.refused; agrees = h.agrees }
