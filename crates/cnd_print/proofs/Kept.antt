-- What a reading keeps: from what holds of the pieces to what holds of the thing that is read.
use Rattle.std.proofs.Common.{◌≡◌, ◌≢◌, ℕ, Bool, true, false, List, [], ◌∷◌, ◌++◌, Option, None, Some, Ok, Err, Result, ap, refl, subst}
use Rattle.std.specs.Prelude.{if◌then◌else◌}
use Rattle.std.specs.List.{AllByRecursion}
use Rattle.jr_cnd.specs.Grammar.{comma_first}
use Rattle.jr_cnd.specs.Reading.{◌>>=◌, State, Read, after, many, place, required, sign_first}
use Rattle.cnd_pieces.specs.declared.piece.Placed.{Placed}
use Rattle.cnd_pieces.specs.declared.piece.Sign.TheVariants as sign
use Rattle.cnd_print.proofs.ReadLists.{first_of, list_of, more_of}

-- the thing in an answer
value_or : {X : Type 0} → Result X ℕ → X → X
value_or (Ok x) d = x
value_or (Err e) d = d

pub ok_is : {X : Type 0} (x y : X) → ◌≡◌ {A = Result X ℕ} (Ok x) (Ok y) → x ≡ y
unfolding value_or
ok_is x y e = ap (λ r. value_or r x) e

-- what is returned with its state has what the thing and the state have
pub done : {Y : Type 0} (L : Y → State → Type 0) (v y : Y) (u w : State) → L v u → ◌≡◌ {A = Result (Y × State) ℕ} (Ok (v, u)) (Ok (y, w)) → L y w
done L v y u w h e = subst (λ r. L r.0 r.1) (ok_is (v, u) (y, w) e) h

-- one reading behind another
pub then_kept : {X Y : Type 0} (r : Read X) (g : X × State → Read Y) (K : X → State → Type 0) (L : Y → State → Type 0) (y : Y) (w : State) → ((x : X) (u : State) → r ≡ Ok (x, u) → K x u) → ((x : X) (u : State) → K x u → g (x, u) ≡ Ok (y, w) → L y w) → (r >>= g) ≡ Ok (y, w) → L y w
then_kept (Ok x) g K L y w first onward e = onward x.0 x.1 (first x.0 x.1 refl) e
then_kept (Err n) g K L y w first onward e = cc

got : {X : Type 0} (o : Option X) (at : ℕ) (x : X) → required o at ≡ Ok x → o ≡ Some x
got None at x e = cc
got (Some y) at x e = ap Some (ok_is y x e)

-- one token
abbrev pub token_of : {X : Type 0} → Option X → State → Read X
token_of o s = do
  y ← required o (place s)
  Ok (y, after s)

pub token_kept : {X : Type 0} (o : Option X) (K : X → State → Type 0) (s u : State) (x : X) → ((y : X) → o ≡ Some y → K y (after s)) → token_of o s ≡ Ok (x, u) → K x u
token_kept None K s u x f e = cc
token_kept (Some y) K s u x f e = done K y x (after s) u (f y refl) e

many_by : {X : Type 0} (b : Bool) (begins : X → List Placed → Bool) (next : X → State → Read X) (I : X → State → Type 0) (turns : List Placed) (x y : X) (s w : State) → ((z : X) (u : State) → begins x s.pieces ≡ true → next x s ≡ Ok (z, u) → I z u) → ((z : X) (u : State) → I z u → many begins next turns z u ≡ Ok (y, w) → I y w) → begins x s.pieces ≡ b → I x s → ◌≡◌ {A = Read X} (if b then (next x s >>= λ r. many begins next turns r.0 r.1) else Ok (x, s)) (Ok (y, w)) → I y w
many_by true begins next I turns x y s w step rest e i h = then_kept (next x s) (λ r. many begins next turns r.0 r.1) I I y w (λ z u k. step z u e k) rest h
many_by false begins next I turns x y s w step rest e i h = done I x y s w i h

-- repetition
pub many_kept : {X : Type 0} (begins : X → List Placed → Bool) (next : X → State → Read X) (I : X → State → Type 0) (turns : List Placed) (x y : X) (s w : State) → ((z v : X) (t u : State) → I z t → begins z t.pieces ≡ true → next z t ≡ Ok (v, u) → I v u) → I x s → many begins next turns x s ≡ Ok (y, w) → I y w
many_kept begins next I [] x y s w step i h = done I x y s w i h
many_kept begins next I (t ∷ turns) x y s w step i h =
    many_by (begins x s.pieces) begins next I turns x y s w (λ z u e k. step x z s u i e k) (λ z u k e. many_kept begins next I turns z y u w step k e) refl i h

-- ---- lists

pub all_more : {X : Type 0} (P : X → Type 0) (xs : List X) (x : X) → AllByRecursion P xs → P x → AllByRecursion P (xs ++ x ∷ [])
all_more P [] x h p = (p, tt)
all_more P (y ∷ ys) x h p = (h.0, all_more P ys x h.1 p)

some_more : {X : Type 0} (xs : List X) (x : X) → xs ++ x ∷ [] ≢ []
some_more [] x e = cc
some_more (y ∷ ys) x e = cc

-- each of some, one or more, has this, and the state that
pub record AllRead {X : Type 0} (P : X → Type 0) (Done : State → Type 0) (xs : List X) (s : State) : Type 0 where
  pub all : AllByRecursion P xs
  pub some : xs ≢ []
  pub left : Done s

pub list_kept : {X : Type 0} (one : State → Read X) (P : X → Type 0) (Before Done : State → Type 0) → ((s u : State) (x : X) → Before s → one s ≡ Ok (x, u) → P x × Done u) → ((s : State) → Done s → sign_first sign.Comma s.pieces ≡ true → Before (after s)) → (s w : State) (xs : List X) → Before s → list_of one s ≡ Ok (xs, w) → AllRead P Done xs w
list_kept one P Before Done item comma s w xs before h =
    then_kept (first_of one s) (λ n. many comma_first (more_of one) n.1.pieces n.0 n.1) (AllRead P Done) (AllRead P Done) xs w
    (λ ys u e. then_kept (one s) (λ n. Ok (n.0 ∷ [], n.1)) (λ x t. P x × Done t) (AllRead P Done) ys u
    (λ x t k. item s t x before k)
    (λ x t k i. done (AllRead P Done) (x ∷ []) ys t u (record { all = (k.0, tt); some = λ none. some_more [] x none; left = k.1 }) i) e)
    (λ ys u k e. many_kept comma_first (more_of one) (AllRead P Done) u.pieces ys xs u w
    (λ zs vs t v i first more.
    then_kept (one (after t)) (λ n. Ok (zs ++ n.0 ∷ [], n.1)) (λ x q. P x × Done q) (AllRead P Done) vs v
    (λ x q m. item (after t) q x (comma t i.left first) m)
    (λ x q m j. done (AllRead P Done) (zs ++ x ∷ []) vs q v (record { all = all_more P zs x i.all m.0; some = some_more zs x; left = m.1 }) j) more)
    k e) h
