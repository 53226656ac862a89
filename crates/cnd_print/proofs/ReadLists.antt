-- How reading goes on from what is printed: one token, and lists with commas between.
use Rattle.std.proofs.Common.{◌≡◌, ◌∙◌, ℕ, ◌+◌, ◌≤◌, Bool, true, false, List, [], ◌∷◌, ◌++◌, Some, Ok, ap, append_assoc, append-nil, arith, drop, length, refl, sym, map}
use Rattle.std.specs.List.{AllByRecursion}
use Rattle.jr_path.specs.declared.name.Name.{Name}
use Rattle.jr_cnd.specs.Grammar.{comma_first}
use Rattle.cnd_print.specs.Printing.{continued, with_commas}
use Rattle.jr_cnd.specs.Reading.{◌>>=◌, State, Read, after, is_sign, many, name_at, cnd_name_in, sign_at, text_at, text_in}
use Rattle.cnd_pieces.specs.Tokens.{gap_size, goes_on_bare}
use Rattle.cnd_pieces.specs.declared.piece.Placed.{Placed}
use Rattle.cnd_pieces.specs.declared.piece.Sign.{Sign}
use Rattle.cnd_pieces.specs.declared.piece.Sign.TheVariants as sign
use Rattle.cnd_pieces.specs.declared.piece.Says.TheVariants as says
use Rattle.cnd_print.proofs.Steps.{left_of, starts, spaced}

-- Of these pieces the thing is read, with so many at least, and what is left has this.
pub record IsRead {X : Type 0} (read : State → Read X) (x : X) (used : ℕ) (ps : List Placed) (Left : List Placed → Type 0) : Type 0 where
  pub more : List Placed
  pub reads : (stop : ℕ) → read (left_of ps stop) ≡ Ok (x, left_of more stop)
  pub fewer : used + length more ≤ length ps
  pub left : Left more

pub weaker : {X : Type 0} (read : State → Read X) (x : X) (used : ℕ) (ps : List Placed) (L M : List Placed → Type 0) → ((more : List Placed) → L more → M more) → IsRead read x used ps L → IsRead read x used ps M
weaker read x used ps L M f r = record { more = r.more; reads = r.reads; fewer = r.fewer; left = f r.more r.left }

-- ---- one token

pub name_got : (p : Placed) (ps : List Placed) (n : Name) (stop : ℕ) → cnd_name_in p.says ≡ Some n → name_at (left_of (p ∷ ps) stop) ≡ Ok (n, left_of ps stop)
name_got p ps n stop e = rw e refl

pub text_got : (p : Placed) (ps : List Placed) (t : List ℕ) (stop : ℕ) → text_in p.says ≡ Some t → text_at (left_of (p ∷ ps) stop) ≡ Ok (t, left_of ps stop)
text_got p ps t stop e = rw e refl

pub sign_got : (w : Sign) (p : Placed) (ps : List Placed) (stop : ℕ) → is_sign w p.says ≡ true → sign_at w (left_of (p ∷ ps) stop) ≡ Ok (tt, left_of ps stop)
sign_got w p ps stop e = rw e refl

-- ---- repetition

pub turned : {X : Type 0} (begins : X → List Placed → Bool) (next : X → State → Read X) (t : Placed) (turns : List Placed) (x y : X) (s u : State) → begins x s.pieces ≡ true → next x s ≡ Ok (y, u) → many begins next (t ∷ turns) x s ≡ many begins next turns y u
turned begins next t turns x y s u b e = rw (b, e) refl

pub stopped : {X : Type 0} (begins : X → List Placed → Bool) (next : X → State → Read X) (turns : List Placed) (x : X) (s : State) → begins x s.pieces ≡ false → many begins next turns x s ≡ Ok (x, s)
stopped begins next [] x s b = refl
stopped begins next (t ∷ turns) x s b = rw b refl

-- ---- lists

-- one more, behind its comma
abbrev pub more_of : {X : Type 0} → (State → Read X) → List X → State → Read (List X)
more_of one xs s = do
  n ← one (after s)
  Ok (xs ++ n.0 ∷ [], n.1)

-- one, as a list
abbrev pub first_of : {X : Type 0} → (State → Read X) → State → Read (List X)
first_of one s = do
  n ← one s
  Ok (n.0 ∷ [], n.1)

-- one, and more behind commas
abbrev pub list_of : {X : Type 0} → (State → Read X) → State → Read (List X)
list_of one s = do
  n ← first_of one s
  many comma_first (more_of one) n.1.pieces n.0 n.1

-- a comma is read
pub record CommaRead (ps : List Placed) (Left : List Placed → Type 0) : Type 0 where
  pub first : Placed
  pub more : List Placed
  pub is : ps ≡ first ∷ more
  pub said : first.says ≡ says.Sign sign.Comma
  pub left : Left more

-- how things are printed, and read where they stand in a list
pub record Listing (X : Type 0) : Type 1 where
  pub print : X → List ℕ
  pub one : State → Read X
  pub Good : X → Type 0
  pub Before : List ℕ → List Placed → Type 0
  pub Done : List ℕ → List Placed → Type 0
  pub begun : (x : X) (bs : List ℕ) → Good x → starts (print x ++ bs) ≡ true
  pub item : (x : X) (all bs : List ℕ) (ps : List Placed) → Good x → goes_on_bare bs ≡ false → drop (gap_size all) all ≡ print x ++ bs → Before all ps → IsRead one x 1 ps (Done bs)
  pub comma : (bs : List ℕ) (ps : List Placed) → Done (44 ∷ bs) ps → CommaRead ps (Before bs)

no_bare : {X : Type 0} (print : X → List ℕ) (xs : List X) (bs : List ℕ) → goes_on_bare bs ≡ false → goes_on_bare (continued (map print xs) ++ bs) ≡ false
no_bare print [] bs h = h
no_bare print (x ∷ xs) bs h = refl

more_got : {X : Type 0} (one : State → Read X) (xs : List X) (x : X) (p : Placed) (ps more : List Placed) (stop : ℕ) → one (left_of ps stop) ≡ Ok (x, left_of more stop) → more_of one xs (left_of (p ∷ ps) stop) ≡ Ok (xs ++ x ∷ [], left_of more stop)
more_got one xs x p ps more stop e = rw e refl

comma_got : {X : Type 0} (xs : List X) (p : Placed) (ps : List Placed) → p.says ≡ says.Sign sign.Comma → comma_first xs (p ∷ ps) ≡ true
comma_got xs p ps e = ap (is_sign sign.Comma) e

pub more_read : {X : Type 0} (L : Listing X) (xs old : List X) (bs : List ℕ) (turns ps : List Placed) → AllByRecursion L.Good xs → goes_on_bare bs ≡ false → ((more : List Placed) → L.Done bs more → comma_first xs more ≡ false) → length ps ≤ length turns → L.Done (continued (map L.print xs) ++ bs) ps → IsRead (many comma_first (more_of L.one) turns old) (old ++ xs) 0 ps (L.Done bs)
more_read L [] old bs turns ps good bare ends enough h =
    record {
      more = ps;
      reads = λ stop. stopped comma_first (more_of L.one) turns old (left_of ps stop) (ends ps h) ∙ ap (λ v. Ok (v, left_of ps stop)) (sym (append-nil old));
      fewer = omega arith;
      left = h;
    }
more_read L (x ∷ xs) old bs [] ps good bare ends enough h =
    let r = L.comma _ ps h in
    let size : length ps ≡ length (r.first ∷ r.more) = ap length r.is in
    absurd (omega (arith, size, enough))
more_read L (x ∷ xs) old bs (t ∷ turns) ps good bare ends enough h =
    let rest = continued (map L.print xs) ++ bs in
    let r = L.comma (32 ∷ (L.print x ++ continued (map L.print xs)) ++ bs) ps h in
    let placed = ap (λ (b : List ℕ). drop (gap_size (32 ∷ b)) (32 ∷ b)) (append_assoc (L.print x) (continued (map L.print xs)) bs) ∙ spaced (L.print x ++ rest) (L.begun x rest good.0) in
    let s = L.item x (32 ∷ (L.print x ++ continued (map L.print xs)) ++ bs) rest r.more good.0 (no_bare L.print xs bs bare) placed r.left in
    let size : length ps ≡ length (r.first ∷ r.more) = ap length r.is in
    let fewer : 1 + length s.more ≤ length r.more = s.fewer in
    let all = more_read L xs (old ++ x ∷ []) bs turns s.more good.1 bare ends (omega arith) s.left in
    let last : 0 + length all.more ≤ length s.more = all.fewer in
    record {
      more = all.more;
      reads = λ stop.
          ap (λ (q : List Placed). many comma_first (more_of L.one) (t ∷ turns) old (left_of q stop)) r.is
          ∙ turned comma_first (more_of L.one) t turns old (old ++ x ∷ []) (left_of (r.first ∷ r.more) stop) (left_of s.more stop) (comma_got old r.first r.more r.said) (more_got L.one old x r.first r.more s.more stop (s.reads stop))
          ∙ all.reads stop
          ∙ ap (λ v. Ok (v, left_of all.more stop)) (append_assoc old (x ∷ []) xs);
      fewer = omega arith;
      left = all.left;
    }

list_got : {X : Type 0} (one : State → Read X) (x : X) (s u : State) (r : Read (List X)) → one s ≡ Ok (x, u) → many comma_first (more_of one) u.pieces (x ∷ []) u ≡ r → list_of one s ≡ r
list_got one x s u r e h = rw e h

pub listed_read : {X : Type 0} (L : Listing X) (x : X) (xs : List X) (all bs : List ℕ) (ps : List Placed) → AllByRecursion L.Good (x ∷ xs) → goes_on_bare bs ≡ false → ((more : List Placed) → L.Done bs more → comma_first (x ∷ xs) more ≡ false) → drop (gap_size all) all ≡ with_commas (map L.print (x ∷ xs)) ++ bs → L.Before all ps → IsRead (list_of L.one) (x ∷ xs) 1 ps (L.Done bs)
listed_read L x xs all bs ps good bare ends e h =
    let rest = continued (map L.print xs) ++ bs in
    let r = L.item x all rest ps good.0 (no_bare L.print xs bs bare) (e ∙ append_assoc (L.print x) (continued (map L.print xs)) bs) h in
    let s = more_read L xs (x ∷ []) bs r.more r.more good.1 bare ends (omega arith) r.left in
    let one : 1 + length r.more ≤ length ps = r.fewer in
    let two : 0 + length s.more ≤ length r.more = s.fewer in
    record {
      more = s.more;
      reads = λ stop. list_got L.one x (left_of ps stop) (left_of r.more stop) (Ok (x ∷ xs, left_of s.more stop)) (r.reads stop) (s.reads stop);
      fewer = omega arith;
      left = s.left;
    }
