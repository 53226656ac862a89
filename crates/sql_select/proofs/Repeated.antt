-- One turn of a repetition.
use Rattle.std.proofs.Common.{◌≡◌, ◌-◌, ◌≤◌, List, [], ◌∷◌, Bool, true, length, take, drop, refl, sym, ap, ◌∙◌, arith}
use Rattle.std.specs.Prelude.{Ok}
use Rattle.std.proofs.lemmas.List.{take_all}
use Rattle.sql_pieces.specs.Reading.{Read, State, many}
use Rattle.sql_pieces.specs.declared.piece.Placed.{Placed}

-- where another begins and is read, the repetition goes on behind it
pub goes_on : {X : Type 0} (begins : List Placed → Bool) (next : X → State → Read X) (turns : List Placed) (x y : X) (s t : State) (all : Read X)
    → 1 ≤ length turns
    → begins s.pieces ≡ true
    → next x s ≡ Ok (y, t)
    → many begins next turns x s ≡ all
    → many begins next (take (length turns - 1) (drop 1 turns)) y t ≡ all
goes_on begins next [] x y s t all some h g same = absurd (omega arith)
goes_on begins next (turn ∷ turns) x y s t all some h g same =
    let turned : many begins next (turn ∷ turns) x s ≡ many begins next turns y t = rw (h, g) refl in
    ap (λ more. many begins next more y t) (take_all (length (turn ∷ turns) - 1) turns (omega arith)) ∙ (sym turned ∙ same)
