-- How many documents a background write tells at most.
use Rattle.std.proofs.Common.{◌≡◌, ◌⊎◌, inl, inr, ℕ, zero, suc, ◌+◌, ◌<◌, ◌≤◌, Bool, true, false, cond, ◌||◌, List, [], ◌∷◌, ◌++◌, length, length-append, map, get_or, refl, sym, ap, subst, ◌∙◌, arith}
use Rattle.std.specs.Prelude.{◌==◌, Contains}
use Rattle.std.proofs.lemmas.Bool.{eqb-true}
use Rattle.std.specs.List.{AllByRecursion, list_any}
use Rattle.std.specs.List.Sorted.{IsStrictlySortedBy}
use Rattle.std.specs.Ordering.{eq_by_cmp, is_eq}
use Rattle.std.specs.declared.cmp.Ordering.{Ordering}
use Rattle.std.specs.declared.cmp.Ordering.TheVariants.{Less}
use Rattle.std.proofs.lemmas.List.{length-map}
use Rattle.std.proofs.lemmas.List.Elements.{Contains-append_left, Contains-append_right}
use mathlib.Core.Bool.{false≢true}
use Rattle.jr_path.specs.Names.{is_under, path_cmp}
use Rattle.jr_path.specs.declared.path.Path.{Path}
use Rattle.jr_path.proofs.Parts.{below_is_prefix}
use Rattle.jr_tree.proofs.Pointwise.{same_path}
use Rattle.oak_node.specs.declared.pending.Pending.{Pending}
use Rattle.oak_node.specs.Memory.{NodeState}
use Rattle.oak_node.specs.Notes.{IsPending}
use Rattle.oak_node.specs.Seen.{seen_paths}
use Rattle.oak_sync.specs.Upward.{AreUpward, backward_cmp, is_upward}
use Rattle.oak_sync.proofs.Ending.{not_before_itself}
use Rattle.core_world.proofs.Tables.{path_itself}
use Rattle.oak_world.specs.Left.{names_in}

-- ---- members

contains_cases : (x z : Path) (xs : List Path) → Contains (x ∷ xs) z → (x ≡ z) ⊎ Contains xs z
contains_cases x z xs there = at there.0 there.1 there.2
  where
    at : (k : ℕ) → k < suc (length xs) → get_or (x ∷ xs) k z ≡ z → (x ≡ z) ⊎ Contains xs z
    at zero l e = inl e
    at (suc k) l e = inr (k, omega (arith, l), e)

contains_none : (z : Path) → Contains [] z → ⊥
contains_none z there = omega (arith, there.1)

contains_first : (x z : Path) (xs : List Path) → x ≡ z → Contains (x ∷ xs) z
contains_first x z xs e = (0, omega arith, e)

contains_behind : (x z : Path) (xs : List Path) → Contains xs z → Contains (x ∷ xs) z
contains_behind x z xs there = (suc there.0, omega (arith, there.1), there.2)

-- ---- one path less

abbrev without : Path → List Path → List Path
without p [] = []
without p (y ∷ ys) = cond (eq_by_cmp path_cmp p y) ys (y ∷ without p ys)

one_behind : (l y a b : ℕ) → a ≡ l + b → y + a ≡ l + (y + b)
one_behind l y a b h = omega (arith, h)

-- what all the paths weigh
abbrev total : (Path → ℕ) → List Path → ℕ
total f [] = 0
total f (p ∷ ps) = f p + total f ps

without_total : (f : Path → ℕ) (p : Path) (ys : List Path) → Contains ys p → total f ys ≡ f p + total f (without p ys)
without_total f p [] there = absurd (contains_none p there)
without_total f p (y ∷ ys) there = by (eq_by_cmp path_cmp p y) refl (contains_cases y p ys there) (without_total f p ys)
  where
    by : (b : Bool) → eq_by_cmp path_cmp p y ≡ b → (y ≡ p) ⊎ Contains ys p → (Contains ys p → total f ys ≡ f p + total f (without p ys)) → f y + total f ys ≡ f p + total f (cond b ys (y ∷ without p ys))
    by true e c rest = ap (λ (q : Path). f q + total f ys) (sym (same_path p y e))
    by false e (inl same) rest = absurd (false≢true (sym e ∙ (ap (eq_by_cmp path_cmp p) same ∙ path_itself p)))
    by false e (inr c) rest = one_behind (f p) (f y) (total f ys) (total f (without p ys)) (rest c)

without_has : (p q : Path) (ys : List Path) → Contains ys q → eq_by_cmp path_cmp p q ≡ false → Contains (without p ys) q
without_has p q [] there apart = absurd (contains_none q there)
without_has p q (y ∷ ys) there apart = by (eq_by_cmp path_cmp p y) refl (contains_cases y q ys there) (λ c. without_has p q ys c apart)
  where
    by : (b : Bool) → eq_by_cmp path_cmp p y ≡ b → (y ≡ q) ⊎ Contains ys q → (Contains ys q → Contains (without p ys) q) → Contains (cond b ys (y ∷ without p ys)) q
    by true e (inl same) rest = absurd (false≢true (sym apart ∙ (ap (eq_by_cmp path_cmp p) (sym same) ∙ e)))
    by true e (inr c) rest = c
    by false e (inl same) rest = contains_first y q (without p ys) same
    by false e (inr c) rest = contains_behind y q (without p ys) (rest c)

-- an order that tells paths apart
abbrev TellsApart : (Path → Path → Ordering) → Type 0
TellsApart order = (x y : Path) → order x y ≡ Less → eq_by_cmp path_cmp x y ≡ false

above_all : (order : Path → Path → Ordering) → TellsApart order → (x p : Path) (xs : List Path) → AllByRecursion (λ y. order x y ≡ Less) xs → Contains xs p → eq_by_cmp path_cmp x p ≡ false
above_all order apart x p [] all there = absurd (contains_none p there)
above_all order apart x p (y ∷ ys) all there = by (contains_cases y p ys there) (above_all order apart x p ys all.1)
  where
    by : (y ≡ p) ⊎ Contains ys p → (Contains ys p → eq_by_cmp path_cmp x p ≡ false) → eq_by_cmp path_cmp x p ≡ false
    by (inl same) rest = ap (λ (q : Path). eq_by_cmp path_cmp x q) (sym same) ∙ apart x y all.0
    by (inr c) rest = rest c

none_least : (n : ℕ) → 0 ≤ n
none_least n = omega arith

more_least : (l a b c : ℕ) → a ≤ b → c ≡ l + b → l + a ≤ c
more_least l a b c h k = omega (arith, h, k)

-- paths that are each once among others weigh no more
fewer : (order : Path → Path → Ordering) → TellsApart order → (f : Path → ℕ) (xs ys : List Path) → IsStrictlySortedBy order xs → ((p : Path) → Contains xs p → Contains ys p) → total f xs ≤ total f ys
unfolding IsStrictlySortedBy
fewer order apart f [] ys sorted among = none_least (total f ys)
fewer order apart f (x ∷ xs) ys sorted among =
    more_least (f x) (total f xs) (total f (without x ys)) (total f ys)
    (fewer order apart f xs (without x ys) sorted.1 (λ p c. without_has x p ys (among p (contains_behind x p xs c)) (above_all order apart x p xs sorted.0 c)))
    (without_total f x ys (among x (contains_first x x xs refl)))

names_total : (ps : List Path) → total (λ p. length p) ps ≡ names_in ps
names_total [] = refl
names_total (p ∷ ps) = ap (λ (n : ℕ). length p + n) (names_total ps)

count_total : (ps : List Path) → total (λ p. 1) ps ≡ length ps
count_total [] = refl
count_total (p ∷ ps) = one_each (total (λ q. 1) ps) (length ps) (count_total ps)
  where
    one_each : (a b : ℕ) → a ≡ b → 1 + a ≡ suc b
    one_each a b h = omega (arith, h)

-- ---- the paths above others

-- the paths above one, below the root, with itself
abbrev firsts : Path → List Path
firsts [] = []
firsts (n ∷ p) = (n ∷ []) ∷ map (λ (q : Path). n ∷ q) (firsts p)

firsts_count : (p : Path) → length (firsts p) ≡ length p
firsts_count [] = refl
firsts_count (n ∷ p) = ap suc (length-map (firsts p) (λ (q : Path). n ∷ q) ∙ firsts_count p)

behind_name : (n : List ℕ) (q : Path) (ps : List Path) → Contains ps q → Contains (map (λ (r : Path). n ∷ r) ps) (n ∷ q)
behind_name n q [] c = absurd (contains_none q c)
behind_name n q (p ∷ ps) c = by (contains_cases p q ps c) (behind_name n q ps)
  where
    by : (p ≡ q) ⊎ Contains ps q → (Contains ps q → Contains (map (λ (r : Path). n ∷ r) ps) (n ∷ q)) → Contains (map (λ (r : Path). n ∷ r) (p ∷ ps)) (n ∷ q)
    by (inl same) rest = contains_first (n ∷ p) (n ∷ q) (map (λ (r : Path). n ∷ r) ps) (ap (λ (r : Path). n ∷ r) same)
    by (inr c) rest = contains_behind (n ∷ p) (n ∷ q) (map (λ (r : Path). n ∷ r) ps) (rest c)

among_firsts : (n : List ℕ) (q more : Path) → Contains (firsts ((n ∷ q) ++ more)) (n ∷ q)
among_firsts n [] more = contains_first (n ∷ []) (n ∷ []) (map (λ (r : Path). n ∷ r) (firsts more)) refl
among_firsts n (m ∷ q) more = contains_behind (n ∷ []) (n ∷ m ∷ q) (map (λ (r : Path). n ∷ r) (firsts ((m ∷ q) ++ more))) (behind_name n (m ∷ q) (firsts ((m ∷ q) ++ more)) (among_firsts m q more))

-- the paths above some, below the root, with themselves
abbrev all_firsts : List Path → List Path
all_firsts [] = []
all_firsts (p ∷ ps) = firsts p ++ all_firsts ps

all_count : (ps : List Path) → length (all_firsts ps) ≡ names_in ps
all_count [] = refl
all_count (p ∷ ps) = length-append (firsts p) (all_firsts ps) ∙ (ap (λ (n : ℕ). n + length (all_firsts ps)) (firsts_count p) ∙ ap (λ (n : ℕ). length p + n) (all_count ps))

among_all : (n : List ℕ) (q : Path) (ps : List Path) → list_any (λ (r : Path). is_under r (n ∷ q)) ps ≡ true → Contains (all_firsts ps) (n ∷ q)
among_all n q [] h = absurd (false≢true h)
among_all n q (p ∷ ps) h = by (is_under p (n ∷ q)) refl h (among_all n q ps)
  where
    here : (more : Path) → p ≡ (n ∷ q) ++ more → Contains (firsts p) (n ∷ q)
    here more is = subst (λ (r : Path). Contains (firsts r) (n ∷ q)) (sym is) (among_firsts n q more)

    by : (b : Bool) → is_under p (n ∷ q) ≡ b → (b || list_any (λ (r : Path). is_under r (n ∷ q)) ps) ≡ true → (list_any (λ (r : Path). is_under r (n ∷ q)) ps ≡ true → Contains (all_firsts ps) (n ∷ q)) → Contains (firsts p ++ all_firsts ps) (n ∷ q)
    by true e k rest = let more = (below_is_prefix p (n ∷ q)).0 e in Contains-append_left (firsts p) (all_firsts ps) (n ∷ q) (here more.0 more.1)
    by false e k rest = Contains-append_right (firsts p) (all_firsts ps) (n ∷ q) (rest k)

upward_among : (paths : List Path) (p : Path) → is_upward paths p ≡ true → Contains ([] ∷ all_firsts paths) p
upward_among paths [] h = contains_first [] [] (all_firsts paths) refl
upward_among paths (n ∷ q) h =
    contains_behind [] (n ∷ q) (all_firsts paths) (among_all n q paths (second (length (n ∷ q) == 0) (list_any (λ (r : Path). is_under r (n ∷ q)) paths) h (λ k. absurd (omega (arith, eqb-true (length (n ∷ q)) 0 k)))))
  where
    second : (c d : Bool) → (c || d) ≡ true → (c ≡ true → ⊥) → d ≡ true
    second true d h none = absurd (none refl)
    second false d h none = h

backward_apart : TellsApart backward_cmp
backward_apart x y less = by (eq_by_cmp path_cmp x y) refl
  where
    by : (b : Bool) → eq_by_cmp path_cmp x y ≡ b → eq_by_cmp path_cmp x y ≡ false
    by true e = absurd (not_before_itself x (subst (λ (z : Path). backward_cmp x z ≡ Less) (sym (same_path x y e)) less))
    by false e = e

path_apart : TellsApart path_cmp
path_apart x y less = ap is_eq less

-- ---- a background write

-- its documents are no more than the root's and one for each name
pub upward_few : (paths up : List Path) → AreUpward paths up → length up ≤ suc (names_in paths)
upward_few paths up are =
    along (length up) (total (λ p. 1) up) (total (λ p. 1) ([] ∷ all_firsts paths)) (length (all_firsts paths)) (names_in paths)
    (count_total up) (fewer backward_cmp backward_apart (λ p. 1) up ([] ∷ all_firsts paths) are.ordered (λ p c. upward_among paths p ((are.which p).0 c)))
    (count_total ([] ∷ all_firsts paths)) (all_count paths)
  where
    along : (l t a f n : ℕ) → t ≡ l → t ≤ a → a ≡ suc f → f ≡ n → l ≤ suc n
    along l t a f n h k e g = omega (arith, h, k, e, g)

-- the notes that are taken have no more names than those that are there
pub noted_few : (m : NodeState) (n : Pending) → IsPending m n → names_in n.paths ≤ names_in (seen_paths m.head m.notes)
noted_few m n pending =
    along (names_in n.paths) (total (λ p. length p) n.paths) (total (λ p. length p) (seen_paths m.head m.notes)) (names_in (seen_paths m.head m.notes))
    (names_total n.paths) (fewer path_cmp path_apart (λ p. length p) n.paths (seen_paths m.head m.notes) pending.ordered (λ p c. (pending.noted p).0 c))
    (names_total (seen_paths m.head m.notes))
  where
    along : (a t u b : ℕ) → t ≡ a → t ≤ u → u ≡ b → a ≤ b
    along a t u b h k e = omega (arith, h, k, e)
