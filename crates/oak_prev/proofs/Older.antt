-- All but the last of some entries.
use Rattle.std.proofs.Common.{◌≡◌, Bool, List, [], ◌∷◌, ◌++◌, Option, None, Some, map, refl, sym, ap, ◌∙◌, append-nil, append_assoc}
use Rattle.std.specs.Prelude.{option_to_list}
use Rattle.std.specs.List.{filter}
use Rattle.jr_rev.specs.declared.revision.Revision.{Revision}
use Rattle.jr_path.specs.declared.name.Name.{Name}
use Rattle.jr_value.specs.declared.value.Property.{Property}
use Rattle.oak_prev.specs.Moving.{Entry, entries_of, entry_of}
use Rattle.oak_prev.specs.Splits.{older}
use Rattle.oak_prev.specs.declared.moving.Moved.{Moved}

-- all but the last of what is made of each
pub older_map : {X Y : Type 0} (f : X → Y) (xs : List X) → older (map f xs) ≡ map f (older xs)
older_map f [] = refl
older_map f (x ∷ []) = refl
older_map f (x ∷ y ∷ xs) = ap (λ ys. f x ∷ ys) (older_map f (y ∷ xs))

-- of the latest alone nothing moves
pub nothing_older : (o : Option Moved) → older (map entry_of (option_to_list o) ++ []) ≡ []
nothing_older None = refl
nothing_older (Some m) = refl

-- one more entry counts: the latest so far moves
pub older_taken : (before after : List Entry) (o : Option Moved) (e : Entry) (rest : List Entry) → after ≡ before ++ map entry_of (option_to_list o) → after ++ older (e ∷ rest) ≡ before ++ older (map entry_of (option_to_list o) ++ e ∷ rest)
older_taken before after None e rest is = ap (λ es. es ++ older (e ∷ rest)) (is ∙ append-nil before)
older_taken before after (Some m) e rest is = ap (λ es. es ++ older (e ∷ rest)) is ∙ append_assoc before (entry_of m ∷ []) (older (e ∷ rest))

-- at the end what moved is all but the last
pub older_end : (before after : List Entry) (o : Option Moved) (n : Name) (es : List (Revision × Option Property)) → after ++ older (map entry_of (option_to_list o) ++ []) ≡ before ++ older (entries_of n es) → after ≡ before ++ entries_of n (older es)
older_end before after o n es is =
    sym (append-nil after)
    ∙ ap (λ ys. after ++ ys) (sym (nothing_older o))
    ∙ is
    ∙ ap (λ ys. before ++ ys) (older_map (λ e. (n, e.0, e.1)) es)

-- no entry is left
pub older_left : (p : Revision × Option Property → Bool) (before after : List Entry) (o : Option Moved) (n : Name) (rest es : List (Revision × Option Property)) → rest ≡ [] → after ++ older (map entry_of (option_to_list o) ++ entries_of n (filter p rest)) ≡ before ++ older (entries_of n (filter p es)) → after ≡ before ++ entries_of n (older (filter p es))
older_left p before after o n rest es none is = older_end before after o n (filter p es) (rw none at is)
