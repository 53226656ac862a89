-- Places, one key or one element more.
use Rattle.std.proofs.Common.{◌≡◌, ℕ, suc, zero, ◌+◌, ◌<◌, ◌≤◌, Bool, true, false, cond, ◌||◌, List, [], ◌∷◌, ◌++◌, map, length, get_or, take, refl, sym, ap, ◌∙◌, subst, append_assoc, ◌⊎◌, inl, inr, arith}
use Rattle.std.specs.List.{Contains, filter, list_any}
use Rattle.std.proofs.lemmas.Bool.{false≢true}
use Rattle.std.proofs.lemmas.List.{map-append, take_more, take_all}
use Rattle.std.proofs.lemmas.List.Elements.{All-contains, All-contains_itself, All-filter, Contains-append_cases, Contains-append_left, Contains-append_right, filter_passes}
use Rattle.sql_plan.specs.Index.{Sought, Path}
use Rattle.sql_plan.specs.Links.{paths_above}
use Rattle.jr_path.specs.declared.path.Path.{Path as PathOf}
use Rattle.sql_plan.proofs.Found.{contains_map_back}
use Rattle.sql_plan.proofs.Meets.{contains_map}

-- ---- the places of one more key

any_more : {X : Type 0} (p : X → Bool) (xs : List X) (x : X) → list_any p (xs ++ x ∷ []) ≡ true → (list_any p xs ≡ true) ⊎ (p x ≡ true)
any_more p [] x h = by (p x) h
  where
    by : (b : Bool) → (b || false) ≡ true → (false ≡ true) ⊎ (b ≡ true)
    by true e = inr refl
    by false e = inl e
any_more p (y ∷ ys) x h = by (p y) (any_more p ys x) h
  where
    by : (b : Bool) → (list_any p (ys ++ x ∷ []) ≡ true → (list_any p ys ≡ true) ⊎ (p x ≡ true)) → (b || list_any p (ys ++ x ∷ [])) ≡ true → ((b || list_any p ys) ≡ true) ⊎ (p x ≡ true)
    by true rest e = inl refl
    by false rest e = rest e

any_left : {X : Type 0} (p : X → Bool) (xs : List X) (x : X) → list_any p xs ≡ true → list_any p (xs ++ x ∷ []) ≡ true
any_left p [] x h = absurd (false≢true h)
any_left p (y ∷ ys) x h = by (p y) (any_left p ys x) h
  where
    by : (b : Bool) → (list_any p ys ≡ true → list_any p (ys ++ x ∷ []) ≡ true) → (b || list_any p ys) ≡ true → (b || list_any p (ys ++ x ∷ [])) ≡ true
    by true rest e = refl
    by false rest e = rest e

any_right : {X : Type 0} (p : X → Bool) (xs : List X) (x : X) → p x ≡ true → list_any p (xs ++ x ∷ []) ≡ true
any_right p [] x h = ap (λ b. b || false) h
any_right p (y ∷ ys) x h = by (p y) (any_right p ys x h)
  where
    by : (b : Bool) → list_any p (ys ++ x ∷ []) ≡ true → (b || list_any p (ys ++ x ∷ [])) ≡ true
    by true e = refl
    by false e = e

-- an element that passes is kept
kept : {X : Type 0} (p : X → Bool) (xs : List X) (x : X) → Contains xs x → p x ≡ true → Contains (filter p xs) x
kept p [] x c e = absurd (omega (arith, c.1))
kept p (y ∷ ys) x (zero, within, is) e = subst (λ b. Contains (cond b (y ∷ filter p ys) (filter p ys)) x) (sym (ap p is ∙ e)) (zero, omega arith, is)
kept p (y ∷ ys) x (suc k, within, is) e = by (p y) (kept p ys x (k, omega (arith, within), is) e)
  where
    by : (b : Bool) → Contains (filter p ys) x → Contains (cond b (y ∷ filter p ys) (filter p ys)) x
    by true c = Contains-append_right (y ∷ []) (filter p ys) x c
    by false c = c

pub more_places : {K E : Type 0} (sought : K → Sought) (same : Sought → Sought → Bool) (holds : List (Sought × ℕ)) (entry : E → Sought × ℕ) (place : E → ℕ) (keys : List K) (i : ℕ) (key : K) (old new : List ℕ) (es : List E)
    → ((e : E) → place e ≡ (entry e).1) → i < length keys → key ≡ get_or keys i key
    → ((s : Sought) (n : ℕ) → Contains holds (s, n) → list_any (λ k. same k s) (map sought (take i keys)) ≡ true → Contains old n)
    → map entry es ≡ filter (λ e. same (sought key) e.0) holds
    → new ≡ old ++ map place es
    → (s : Sought) (n : ℕ) → Contains holds (s, n) → list_any (λ k. same k s) (map sought (take (i + 1) keys)) ≡ true → Contains new n
more_places {K = K} {E = E} sought same holds entry place keys i key old new es places within at before here made s n c any =
    let more : map sought (take (i + 1) keys) ≡ map sought (take i keys) ++ sought key ∷ [] =
    ap (map sought) (take_more keys i key within ∙ ap (λ y. take i keys ++ y ∷ []) (sym at)) ∙ map-append sought (take i keys) (key ∷ [])
    in
    subst (λ ns. Contains ns n) (sym made)
    (elim (any_more (λ k. same k s) (map sought (take i keys)) (sought key) (subst (λ ks. list_any (λ k. same k s) ks ≡ true) more any)) [
      | inl h ↦ Contains-append_left old (map place es) n (before s n c h)
      | inr h ↦ Contains-append_right old (map place es) n (subst (λ ns. Contains ns n) (of es) (contains_map (λ (p : Sought × ℕ). p.1) (map entry es) (s, n) (subst (λ ps. Contains ps (s, n)) (sym here) (kept (λ e. same (sought key) e.0) holds (s, n) c h))))
    ])
  where
    of : (es : List E) → map (λ (p : Sought × ℕ). p.1) (map entry es) ≡ map place es
    of [] = refl
    of (e ∷ es) = λ i. sym (places e) i ∷ of es i

-- where each place so far is of one of the keys, it is so of one key more
pub only_more : {K E : Type 0} (sought : K → Sought) (same : Sought → Sought → Bool) (holds : List (Sought × ℕ)) (entry : E → Sought × ℕ) (place : E → ℕ) (keys : List K) (i : ℕ) (key : K) (old new : List ℕ) (es : List E)
    → ((e : E) → place e ≡ (entry e).1) → i < length keys → key ≡ get_or keys i key
    → ((n : ℕ) → Contains old n → (s : Sought) × Contains holds (s, n) × (list_any (λ k. same k s) (map sought (take i keys)) ≡ true))
    → map entry es ≡ filter (λ e. same (sought key) e.0) holds
    → new ≡ old ++ map place es
    → (n : ℕ) → Contains new n → (s : Sought) × Contains holds (s, n) × (list_any (λ k. same k s) (map sought (take (i + 1) keys)) ≡ true)
only_more {K = K} {E = E} sought same holds entry place keys i key old new es places within at before here made n c =
    elim (Contains-append_cases old (map place es) n (subst (λ ns. Contains ns n) made c)) [
      | inl h ↦ let b = before n h in (b.0, b.1, subst (λ ks. list_any (λ k. same k b.0) ks ≡ true) (sym more) (any_left (λ k. same k b.0) (map sought (take i keys)) (sought key) b.2))
      | inr h ↦ one (contains_map_back place es n h)
    ]
  where
    more : map sought (take (i + 1) keys) ≡ map sought (take i keys) ++ sought key ∷ []
    more = ap (map sought) (take_more keys i key within ∙ ap (λ y. take i keys ++ y ∷ []) (sym at)) ∙ map-append sought (take i keys) (key ∷ [])

    one : (e : E) × Contains es e × (place e ≡ n) → (s : Sought) × Contains holds (s, n) × (list_any (λ k. same k s) (map sought (take (i + 1) keys)) ≡ true)
    one (e, c, is) =
        let among : Contains (filter (λ e. same (sought key) e.0) holds) (entry e) = subst (λ ps. Contains ps (entry e)) here (contains_map entry es e c) in
        let at_n : (entry e).1 ≡ n = sym (places e) ∙ is in (
          (entry e).0,
          subst (λ (m : ℕ). Contains holds ((entry e).0, m)) at_n (All-contains (Contains holds) _ (entry e) (All-filter (λ e. same (sought key) e.0) (Contains holds) holds (All-contains_itself holds)) among),
          subst (λ ks. list_any (λ k. same k (entry e).0) ks ≡ true) (sym more)
              (any_right (λ k. same k (entry e).0) (map sought (take i keys)) (sought key) (All-contains (λ e. same (sought key) e.0 ≡ true) _ (entry e) (filter_passes (λ e. same (sought key) e.0) holds) among)),
        )

-- ---- the paths above one, one more

length_above : (p : PathOf) → length (paths_above p) ≡ length p
length_above [] = refl
length_above (n ∷ p) = ap suc (length_map (paths_above p) ∙ length_above p)
  where
    length_map : (ps : List PathOf) → length (map (λ q. n ∷ q) ps) ≡ length ps
    length_map [] = refl
    length_map (q ∷ ps) = ap suc (length_map ps)

take_above : (p : PathOf) (d : ℕ) → d < length p → take (suc d) (paths_above p) ≡ take d (paths_above p) ++ take d p ∷ []
take_above [] d h = absurd (omega (arith, h))
take_above (n ∷ p) zero h = refl
take_above (n ∷ p) (suc d) h =
    ap (λ ps. [] ∷ ps) (take_map (suc d) (paths_above p) ∙ ap (map (λ q. n ∷ q)) (take_above p d (omega (arith, h))) ∙ map-append (λ q. n ∷ q) (take d (paths_above p)) (take d p ∷ []) ∙ ap (λ ps. ps ++ (n ∷ take d p) ∷ []) (sym (take_map d (paths_above p))))
  where
    take_map : (k : ℕ) (ps : List PathOf) → take k (map (λ q. n ∷ q) ps) ≡ map (λ q. n ∷ q) (take k ps)
    take_map zero ps = refl
    take_map (suc k) [] = refl
    take_map (suc k) (q ∷ ps) = ap (λ r. (n ∷ q) ∷ r) (take_map k ps)

pub above_more : {K : Type 0} (sought : K → Sought) (p : PathOf) (d : ℕ) (first old new : List K) (key : K) → d < length p → map sought old ≡ map sought first ++ map Path (take d (paths_above p)) → new ≡ old ++ key ∷ [] → sought key ≡ Path (take d p)
    → map sought new ≡ map sought first ++ map Path (take (d + 1) (paths_above p))
above_more sought p d first old new key within before pushed is =
    let next : d + 1 ≡ suc d = omega arith in
    ap (map sought) pushed
    ∙ map-append sought old (key ∷ [])
    ∙ (λ i. before i ++ is i ∷ [])
    ∙ append_assoc (map sought first) (map Path (take d (paths_above p))) (Path (take d p) ∷ [])
    ∙ ap (λ ks. map sought first ++ ks) (sym (map-append Path (take d (paths_above p)) (take d p ∷ [])) ∙ ap (map Path) (sym (take_above p d within) ∙ ap (λ k. take k (paths_above p)) (sym next)))

pub above_all : {K : Type 0} (sought : K → Sought) (p : PathOf) (d : ℕ) (first last : List K) → length p ≤ d → map sought last ≡ map sought first ++ map Path (take d (paths_above p)) → map sought last ≡ map sought first ++ map Path (paths_above p)
above_all sought p d first last end h = h ∙ ap (λ ps. map sought first ++ map Path ps) (take_all d (paths_above p) (omega (arith, length_above p, end)))
