-- How a repetition goes on, turn by turn.
use Rattle.std.proofs.Common.{◌≡◌, ◌∙◌, ℕ, ◌≤◌, Bool, true, false, List, [], ◌∷◌, Ok, ap, arith, length, refl}
use Rattle.jr_cnd.specs.Reading.{State, Read, many}
use Rattle.cnd_pieces.specs.declared.piece.Placed.{Placed}
use Rattle.cnd_print.proofs.ReadLists.{IsRead, stopped, turned}
use Rattle.cnd_print.proofs.Steps.{left_of}

-- From these pieces the repetition comes to another thing, with other pieces left, and goes on.
pub record Turned {X : Type 0} (begins : X → List Placed → Bool) (next : X → State → Read X) (turns ps : List Placed) (old new : X) (Left : List Placed → Type 0) : Type 0 where
  pub turns_left : List Placed
  pub more : List Placed
  pub goes : (stop : ℕ) → many begins next turns old (left_of ps stop) ≡ many begins next turns_left new (left_of more stop)
  pub enough : length more ≤ length turns_left
  pub fewer : length more ≤ length ps
  pub left : Left more

pub unturned : {X : Type 0} (begins : X → List Placed → Bool) (next : X → State → Read X) (turns ps : List Placed) (x : X) (L : List Placed → Type 0) → length ps ≤ length turns → L ps → Turned begins next turns ps x x L
unturned begins next turns ps x L enough h = record { turns_left = turns; more = ps; goes = λ stop. refl; enough = enough; fewer = omega arith; left = h }

pub one_turn : {X : Type 0} (begins : X → List Placed → Bool) (next : X → State → Read X) (turns ps : List Placed) (old new : X) (p : Placed) (rest more : List Placed) (L : List Placed → Type 0) → ps ≡ p ∷ rest → begins old (p ∷ rest) ≡ true → ((stop : ℕ) → next old (left_of (p ∷ rest) stop) ≡ Ok (new, left_of more stop)) → length more ≤ length rest → length ps ≤ length turns → L more → Turned begins next turns ps old new L
one_turn begins next [] ps old new p rest more L is b e fewer enough h =
    let size : length ps ≡ length (p ∷ rest) = ap length is in
    absurd (omega (arith, size, enough))
one_turn begins next (t ∷ turns) ps old new p rest more L is b e fewer enough h =
    let size : length ps ≡ length (p ∷ rest) = ap length is in
    record {
      turns_left = turns;
      more = more;
      goes = λ stop. ap (λ (q : List Placed). many begins next (t ∷ turns) old (left_of q stop)) is ∙ turned begins next t turns old new (left_of (p ∷ rest) stop) (left_of more stop) b (e stop);
      enough = omega arith;
      fewer = omega arith;
      left = h;
    }

pub then_turned : {X : Type 0} (begins : X → List Placed → Bool) (next : X → State → Read X) (turns ps : List Placed) (old mid new : X) (L M : List Placed → Type 0) → Turned begins next turns ps old mid L → ((later more : List Placed) → length more ≤ length later → L more → Turned begins next later more mid new M) → Turned begins next turns ps old new M
then_turned begins next turns ps old mid new L M a f =
    let b = f a.turns_left a.more a.enough a.left in
    let one : length a.more ≤ length ps = a.fewer in
    let two : length b.more ≤ length a.more = b.fewer in
    record {
      turns_left = b.turns_left;
      more = b.more;
      goes = λ stop. a.goes stop ∙ b.goes stop;
      enough = b.enough;
      fewer = omega arith;
      left = b.left;
    }

pub ended : {X : Type 0} (begins : X → List Placed → Bool) (next : X → State → Read X) (turns ps : List Placed) (old new : X) (L : List Placed → Type 0) → Turned begins next turns ps old new L → ((more : List Placed) → L more → begins new more ≡ false) → IsRead (many begins next turns old) new 0 ps L
ended begins next turns ps old new L a ends =
    let one : length a.more ≤ length ps = a.fewer in
    record {
      more = a.more;
      reads = λ stop. a.goes stop ∙ stopped begins next a.turns_left new (left_of a.more stop) (ends a.more a.left);
      fewer = omega arith;
      left = a.left;
    }
