-- Tests of entries by their revisions.
use Rattle.std.proofs.Common.{◌≡◌, Bool, ◌&&◌, List, [], ◌∷◌, refl, ap}
use Rattle.std.specs.List.{list_all}
use Rattle.std.specs.Map.{keys_of}
use Rattle.jr_rev.specs.declared.revision.Revision.{Revision}

-- each of a list that a document keeps is tested by its revision
pub by_revision : {X : Type 0} (test : Revision → Bool) (es : List (Revision × X)) → list_all test (keys_of es) ≡ list_all (λ e. test e.0) es
by_revision test [] = refl
by_revision test (e ∷ es) = ap (λ b. test e.0 && b) (by_revision test es)
