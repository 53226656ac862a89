-- The text of a path, a name at a time.
use Rattle.std.proofs.Common.{arith, ◌≡◌, ◌<◌, ◌+◌, ℕ, Option, None, Some, add-one, drop-cons, get_or, Bool, true, false, ◌&&◌, nat_eq, List, [], ◌∷◌, ◌++◌, ◌-◌, length, take, drop, refl, sym, ap, ◌∙◌, slice_index_or}
use Rattle.std.specs.Prelude.{MatchOption}
use Rattle.std.specs.Str.{bytes_eq}
use Rattle.std.proofs.lemmas.Cmp.{nat_list_eq_equiv}
use Rattle.std.proofs.lemmas.Map.Text.{is_eq-slice_cmp}
use Rattle.std.proofs.Math.Seq.{take-length}
use Rattle.jr_path.specs.declared.name.Name.{Name}
use Rattle.jr_path.specs.Ids.{joined}
use Rattle.jr_value.specs.Values.{same_bytes}

-- bytes are the same both ways
pub agree : (n m : List ℕ) → bytes_eq n m ≡ same_bytes m n
agree n m = nat_list_eq_equiv.symm n m ∙ sym (is_eq-slice_cmp m n)

both : (a b c d : Bool) → b ≡ (c && d) → (a && b) ≡ ((a && c) && d)
both true b c d h = h
both false b c d h = refl

-- a text begins with another, and goes on with a third
front : (f more text : List ℕ) → bytes_eq text (f ++ more) ≡ (bytes_eq (take (length f) text) f && bytes_eq (drop (length f) text) more)
front [] more text = refl
front (c ∷ f) more [] = refl
front (c ∷ f) more (d ∷ text) = both (nat_eq d c) _ _ _ (front f more text)

-- a list whose first element is known
pub behind : {X : Type 0} (x : X) (xs : List X) → xs ≡ x ∷ drop 1 xs → xs ≡ x ∷ take (length xs - 1) (drop 1 xs)
behind x [] h = h
behind x (y ∷ ys) h = h ∙ ap (λ zs. x ∷ zs) (sym (ap (λ n. take n ys) (let e : length (y ∷ ys) - 1 ≡ length ys = omega arith in e) ∙ take-length ys))

-- a text behind a `/`, and a name with a text behind it
parts : (f rest more : List ℕ) → same_bytes (47 ∷ (f ++ more)) (47 ∷ rest) ≡ (bytes_eq (take (length f) rest) f && bytes_eq (drop (length f) rest) more)
parts f rest more = sym (agree (47 ∷ rest) (47 ∷ (f ++ more))) ∙ front f more rest

goes_on : (f rest x more : List ℕ) → bytes_eq (take (length f) rest) f ≡ true → x ≡ drop (length f) rest → same_bytes (47 ∷ (f ++ more)) (47 ∷ rest) ≡ same_bytes more x
goes_on f rest x more first left =
    parts f rest more ∙ (ap (λ b. b && bytes_eq (drop (length f) rest) more) first ∙ (ap (λ y. bytes_eq y more) (sym left) ∙ agree x more))

-- what stands behind a `/` and a name, where a prefix of the text behind the `/` was looked for
pub behind_name : {R : Type 0} (now : R → List ℕ) (o : Option R) (text f rest : List ℕ) → text ≡ 47 ∷ rest
    → MatchOption o (bytes_eq (take (length f) rest) f ≡ false) (λ x. (bytes_eq (take (length f) rest) f ≡ true) × (now x ≡ drop (length f) rest) × (length (now x) + length f ≡ length rest))
    → MatchOption o ((more : List ℕ) → same_bytes (47 ∷ (f ++ more)) text ≡ false) (λ x. (more : List ℕ) → same_bytes (47 ∷ (f ++ more)) text ≡ same_bytes more (now x))
behind_name now None text f rest is h = λ more. ap (same_bytes (47 ∷ (f ++ more))) is ∙ (parts f rest more ∙ ap (λ b. b && bytes_eq (drop (length f) rest) more) h)
behind_name now (Some x) text f rest is h = λ more. ap (same_bytes (47 ∷ (f ++ more))) is ∙ goes_on f rest (now x) more h.0 h.1

pub no_text : (text : List ℕ) → length text < 1 → (more : List ℕ) → same_bytes (47 ∷ more) text ≡ false
no_text [] s more = refl
no_text (c ∷ text) s more = grind arith

pub no_slash : (text : List ℕ) → nat_eq (slice_index_or text 0 0) 47 ≡ false → (more : List ℕ) → same_bytes (47 ∷ more) text ≡ false
no_slash [] s more = refl
no_slash (c ∷ text) s more = sym (agree (c ∷ text) (47 ∷ more)) ∙ ap (λ b. b && bytes_eq text more) s

-- one name more is behind
pub name_behind : (names : List Name) (i : ℕ) (name : Name) (text rest : List ℕ) (b : Bool) → i < length names → name ≡ get_or names i name → same_bytes (joined (drop i names)) rest ≡ same_bytes (joined names) text
    → same_bytes (47 ∷ (name ++ joined (drop (i + 1) names))) rest ≡ b → b ≡ same_bytes (joined names) text
name_behind names i name text rest b within is before h =
    let left : drop i names ≡ name ∷ drop (i + 1) names = rw (drop-cons names i name within, ← is, add-one) refl in
    sym h ∙ (ap (λ (ns : List Name). same_bytes (joined ns) rest) (sym left) ∙ before)
