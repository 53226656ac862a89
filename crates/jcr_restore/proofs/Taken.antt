-- No node has one of no identifiers.
use Rattle.std.proofs.Common.{◌≡◌, ℕ, Bool, false, cond, Option, None, Some, List, [], ◌∷◌, refl, sym, ap, subst, ◌∙◌}
use Rattle.std.specs.List.{find}
use Rattle.std.specs.Map.{keys_of}
use Rattle.std.proofs.lemmas.Bool.{and_right}
use Rattle.jr_path.specs.Names.{is_under}
use Rattle.jr_path.specs.declared.path.Path.{Path}
use Rattle.std.specs.Prelude.{not}
use Rattle.jr_tree.specs.Trees.{Nodes}
use Rattle.jcr_restore.specs.Edits.{first_taken, is_id_among, is_taken}

is_none_of : (id : Option (List ℕ)) → is_id_among [] id ≡ false
is_none_of None = refl
is_none_of (Some id) = refl

never : (t : Nodes) (p : Path) (qs : List Path) → find (is_taken [] t p) qs ≡ None
never t p [] = refl
never t p (q ∷ qs) = ap (λ b. cond b (Some q) (find (is_taken [] t p) qs)) (and_right (not (is_under q p)) _ (is_none_of _)) ∙ never t p qs

pub none_taken : (ids : List (List ℕ × Bool)) (t : Nodes) (p : Path) → ids ≡ [] → first_taken ids t p ≡ None
none_taken ids t p h = subst (λ (is : List (List ℕ × Bool)). first_taken is t p ≡ None) (sym h) (never t p (keys_of t))
