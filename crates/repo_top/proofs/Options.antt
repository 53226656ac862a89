-- Words are read in one way.
use Rattle.std.proofs.Common.{codes, eq-eqb, is_some, ◌==◌, ◌≡◌, ◌<◌, ◌≤◌, ◌-◌, ℕ, zero, suc, Bool, true, false, cond, List, [], ◌∷◌, ◌++◌, append-nil, Option, Some, None, IsTrue, IsSome, ◌↔◌, length, map, take, drop, get_or, option_map, bytes_eq, refl, sym, ap, subst, ◌∙◌, ◌⊎◌, inl, inr, arith}
use Rattle.std.specs.List.{AllByRecursion, IsDistinct, find}
use Rattle.std.proofs.lemmas.Bool.{eqb-true, false≢true}
use Rattle.std.proofs.lemmas.Slice.Eq.{bytes_eq-Decides}
use Rattle.std.proofs.lemmas.Grind.{common_steps}
use Rattle.std.specs.Map.{keys_of, lookup}
use Rattle.std.specs.Str.Parse.{digits_value}
use Rattle.repo_top.specs.Words.{AreGenWords, AreGiven, AreBoth, AreRunWords, AreSpelled, IsGenOption, Begins, FitsOption, IsGivenBy, GivesNumber, IsInRange, IsNumber, IsNumberOption, IsOption, HasNoEquals, IsRequiredNumber, IsRow, MakesMeaning, TableRow, WordsMean, RowOption, AreOptions, documents_option, documents_words, gen_row, is_given, run_option, run_row, steps_row, types_row, verb_row, rows, seed_option, sessions_option, table_row, row_option, option_word, workers_option}
use Rattle.repo_top.specs.declared.words.Given.{Given}
use Rattle.repo_top.specs.declared.words.Given.TheVariants as given
use Rattle.repo_top.specs.declared.words.Row.{Row}
use Rattle.repo_top.specs.declared.words.Takes.{Takes}
use Rattle.repo_top.specs.declared.words.Takes.TheVariants as takes
use Rattle.repo_top.specs.declared.words.WordOption.{WordOption}
use Rattle.repo_top.specs.declared.words.Words.{Words}
use Rattle.repo_top.specs.declared.words.Words.TheVariants.{Gen, Run, Steps, Types}
use Rattle.repo_top.specs.declared.words.Verb.{Verb}
use Rattle.repo_top.specs.declared.words.Verb.TheVariants as verb

-- ---- a word is of one option

plain_rest : (x : ℕ) (a : List ℕ) → HasNoEquals (x ∷ a) → HasNoEquals a
plain_rest x a plain k h = plain (suc k) (omega (arith, h))

not_plain : (a b : List ℕ) (y : List ℕ) → HasNoEquals a → a ≡ b ++ (61 ∷ y) → ⊥
not_plain [] [] y plain e = cc
not_plain [] (z ∷ b) y plain e = cc
not_plain (x ∷ a) [] y plain e = let h : x ≡ 61 = cc in plain 0 (omega arith) h
not_plain (x ∷ a) (z ∷ b) y plain e = let t : a ≡ b ++ (61 ∷ y) = cc in not_plain a b y (plain_rest x a plain) t

plain_same : (a b x y : List ℕ) → HasNoEquals a → HasNoEquals b → a ++ (61 ∷ x) ≡ b ++ (61 ∷ y) → (a ≡ b) × (x ≡ y)
plain_same [] [] x y p q e = (refl, cc)
plain_same [] (w ∷ b) x y p q e = let h : w ≡ 61 = cc in absurd (q 0 (omega arith) h)
plain_same (z ∷ a) [] x y p q e = let h : z ≡ 61 = cc in absurd (p 0 (omega arith) h)
plain_same (z ∷ a) (w ∷ b) x y p q e =
    let t : a ++ (61 ∷ x) ≡ b ++ (61 ∷ y) = cc in let h : z ≡ w = cc in
    let r = plain_same a b x y (plain_rest z a p) (plain_rest w b q) t in let s : a ≡ b = r.0 in (cc, r.1)

pub same_word : (a b : List ℕ) (v u : Option (List ℕ)) → HasNoEquals a → HasNoEquals b → option_word a v ≡ option_word b u → (a ≡ b) × (v ≡ u)
same_word a b None None p q e = (cc, refl)
same_word a b None (Some y) p q e = let t : a ≡ b ++ (61 ∷ y) = cc in absurd (not_plain a b y p t)
same_word a b (Some x) None p q e = let t : b ≡ a ++ (61 ∷ x) = cc in absurd (not_plain b a x q t)
same_word a b (Some x) (Some y) p q e =
    let t : a ++ (61 ∷ x) ≡ b ++ (61 ∷ y) = cc in let r = plain_same a b x y p q t in (r.0, ap (λ (d : List ℕ). Some d) r.1)

-- ---- an option is given in one way

same_number : (n m : ℕ) (digits more : List ℕ) → IsNumber digits n → IsNumber more m → digits ≡ more → n ≡ m
same_number n m digits more p q e = p.value ∙ ap (digits_value 10) e ∙ sym q.value

same_given : (t : Takes) (g h : Given) (v : Option (List ℕ)) (words r s : List (List ℕ)) → FitsOption t g → FitsOption t h → IsGivenBy g v words r → IsGivenBy h v words s → (g ≡ h) × (r ≡ s)
same_given takes.Nothing given.Flag given.Flag None words r s f k a b = (refl, cc)
same_given takes.Nothing given.Flag given.Flag (Some v) words r s f k a b = absurd a
same_given takes.Nothing given.Flag (given.Number m) v words r s f k a b = absurd k
same_given takes.Nothing (given.Number n) h v words r s f k a b = absurd f
same_given (takes.Number least most) given.Flag h v words r s f k a b = absurd f
same_given (takes.Number least most) (given.Number n) given.Flag v words r s f k a b = absurd k
same_given (takes.Number least most) (given.Number n) (given.Number m) None words r s f k a b =
    let p : words ≡ a.0 ∷ r = a.2 in let q : words ≡ b.0 ∷ s = b.2 in
    let e : a.0 ≡ b.0 = cc in (ap given.Number (same_number n m a.0 b.0 a.1 b.1 e), cc)
same_given (takes.Number least most) (given.Number n) (given.Number m) (Some v) words r s f k a b =
    let p : words ≡ r = a.1 in let q : words ≡ s = b.1 in (ap given.Number (same_number n m v v a.0 b.0 refl), cc)

pub same_first : (options : List RowOption) (a b : List ℕ) (g h : Given) (words r s : List (List ℕ)) → IsOption options a g → IsOption options b h → Begins a g words r → Begins b h words s → (a ≡ b) × (g ≡ h) × (r ≡ s)
same_first options a b g h words r s p q x y =
    let e : words ≡ option_word a x.0 ∷ x.1 = x.2 in let f : words ≡ option_word b y.0 ∷ y.1 = y.2 in
    let w : option_word a x.0 ≡ option_word b y.0 = cc in let t : x.1 ≡ y.1 = cc in
    let k = same_word a b x.0 y.0 p.plain q.plain w in
    let o : Some p.option ≡ Some q.option = sym p.named ∙ ap (λ (n : List ℕ). find (λ (o : RowOption). bytes_eq o.name n) options) k.0 ∙ q.named in
    let oo : p.option ≡ q.option = cc in
    let fits : FitsOption p.option.takes h = subst (λ (i : RowOption). FitsOption i.takes h) (sym oo) q.fits in
    let gives : IsGivenBy h x.0 x.1 s = subst (λ (v : Option (List ℕ)). IsGivenBy h v x.1 s) (sym k.1) (subst (λ (b : List (List ℕ)). IsGivenBy h y.0 b s) (sym t) y.3) in
    let z = same_given p.option.takes g h x.0 x.1 r s p.fits fits x.3 gives in
    (k.0, z.0, z.1)

-- ---- the option at the head

pub find_map : {A B : Type 0} (f : A → B) (p : B → Bool) (xs : List A) → find p (map f xs) ≡ option_map f (find (λ x. p (f x)) xs)
find_map f p [] = refl
find_map f p (x ∷ xs) = at (find_map f p xs) (p (f x))
  where
    at : (find p (map f xs) ≡ option_map f (find (λ x. p (f x)) xs)) → (b : Bool) → cond b (Some (f x)) (find p (map f xs)) ≡ option_map f (cond b (Some x) (find (λ x. p (f x)) xs))
    at more true = refl
    at more false = more

find_option : (name : List ℕ) (options : List WordOption) → find (λ (o : RowOption). bytes_eq o.name name) (map row_option options) ≡ option_map row_option (find (λ (o : WordOption). bytes_eq o.name.now name) options)
find_option name options = find_map row_option (λ (o : RowOption). bytes_eq o.name name) options

find_passes : {A : Type 0} (p : A → Bool) (xs : List A) (x : A) → find p xs ≡ Some x → p x ≡ true
find_passes p [] x f = absurd (cc f)
find_passes p (y ∷ xs) x f = at (find_passes p xs x) (p y) refl f
  where
    at : (find p xs ≡ Some x → p x ≡ true) → (b : Bool) → p y ≡ b → cond b (Some y) (find p xs) ≡ Some x → p x ≡ true
    at more true e f = let h : y ≡ x = cc in ap p (sym h) ∙ e
    at more false e f = more f

bytes_eq-true : (xs ys : List ℕ) → bytes_eq xs ys ≡ true → xs ≡ ys
bytes_eq-true xs ys e = (bytes_eq-Decides xs ys).0 e

find_row : (command : List ℕ) (table : List Row) → find (λ (r : TableRow). bytes_eq r.command command) (map table_row table) ≡ option_map table_row (find (λ (r : Row). bytes_eq r.command.now command) table)
find_row command table = find_map table_row (λ (r : TableRow). bytes_eq r.command command) table

module _ (options : List WordOption) (words : List (List ℕ)) (word : List ℕ) (behind : List (List ℕ)) (is : words ≡ word ∷ behind) (name : List ℕ) (value : Option (List ℕ)) (plain : HasNoEquals name) (spelled : word ≡ option_word name value) where
  head : (b : List ℕ) (h : Given) (s : List (List ℕ)) → IsOption (map row_option options) b h → (x : Begins b h words s) → (name ≡ b) × (value ≡ x.0) × (behind ≡ x.1)
  head b h s q x =
      let e : words ≡ option_word b x.0 ∷ x.1 = x.2 in
      let w : option_word name value ≡ option_word b x.0 = cc in let t : behind ≡ x.1 = cc in
      let k = same_word name b value x.0 plain q.plain w in (k.0, k.1, t)

  found : (o : Option WordOption) → o ≡ find (λ (o : WordOption). bytes_eq o.name.now name) options → (b : List ℕ) (h : Given) (q : IsOption (map row_option options) b h) → name ≡ b → Some q.option ≡ option_map row_option o
  found o f b h q e = sym q.named ∙ ap (λ (n : List ℕ). find (λ (o : RowOption). bytes_eq o.name n) (map row_option options)) (sym e) ∙ find_option name options ∙ ap (option_map row_option) (sym f)

  pub no_option : None ≡ find (λ (o : WordOption). bytes_eq o.name.now name) options → (b : List ℕ) (h : Given) (s : List (List ℕ)) → IsOption (map row_option options) b h → Begins b h words s → ⊥
  no_option none b h s q x = let r : Some q.option ≡ None = found None none b h q (head b h s q x).0 in cc

  pub no_given : (o : WordOption) → Some o ≡ find (λ (o : WordOption). bytes_eq o.name.now name) options → ((h : Given) (s : List (List ℕ)) → FitsOption o.takes h → IsGivenBy h value behind s → ⊥) → (b : List ℕ) (h : Given) (s : List (List ℕ)) → IsOption (map row_option options) b h → Begins b h words s → ⊥
  no_given o is none b h s q x =
      let k = head b h s q x in
      let r : Some q.option ≡ Some (row_option o) = found (Some o) is b h q k.0 in
      let e : q.option ≡ row_option o = cc in
      none h s (subst (λ (i : RowOption). FitsOption i.takes h) e q.fits)
      (subst (λ (v : Option (List ℕ)). IsGivenBy h v behind s) (sym k.1) (subst (λ (b : List (List ℕ)). IsGivenBy h x.0 b s) (sym k.2) x.3))

  pub is_option : (o : WordOption) → Some o ≡ find (λ (o : WordOption). bytes_eq o.name.now name) options → (g : Given) → FitsOption o.takes g → IsOption (map row_option options) name g
  is_option o f g fits = record { option = row_option o; named = find_option name options ∙ ap (option_map row_option) (sym f); plain = plain; fits = fits }

  pub begins : (g : Given) (s : List (List ℕ)) → IsGivenBy g value behind s → Begins name g words s
  begins g s gives = (value, behind, is ∙ ap (λ (w : List ℕ). w ∷ behind) spelled, gives)

-- ---- the given options

-- options begin with the one at the head
pub first_is : (options : List RowOption) (name : List ℕ) (g : Given) (words rest : List (List ℕ)) → IsOption options name g → Begins name g words rest → (given : List (List ℕ × Given)) → AreGiven options given words → (more : List (List ℕ × Given)) × (given ≡ (name, g) ∷ more) × AreGiven options more rest
first_is options name g words rest p x [] are = let e : words ≡ option_word name x.0 ∷ x.1 = x.2 in absurd (cc are)
first_is options name g words rest p x (h ∷ more) are =
    let k = same_first options name h.0 g h.1 words rest are.0 p are.1 x are.2 in
    let n : name ≡ h.0 = k.0 in let t : g ≡ h.1 = k.1 in
    let e : h ≡ (name, g) = sym (ap (λ (a : List ℕ). let p : List ℕ × Given = (a, g) in p) n ∙ ap (λ (g : Given). let p : List ℕ × Given = (h.0, g) in p) t) in
    (more, ap (λ (i : List ℕ × Given). i ∷ more) e, subst (λ (r : List (List ℕ)). AreGiven options more r) (sym k.2) are.3)

-- no option is at the head
pub none_is : (options : List RowOption) (words : List (List ℕ)) → ((b : List ℕ) (h : Given) (s : List (List ℕ)) → IsOption options b h → Begins b h words s → ⊥) → (given : List (List ℕ × Given)) → AreGiven options given words → given ≡ []
none_is options words none [] are = refl
none_is options words none (h ∷ more) are = absurd (none h.0 h.1 are.0 are.1 are.2)

-- no option of this name is given
pub apart : (name : List ℕ) (given : List (List ℕ × Given)) → lookup (bytes_eq name) given ≡ None → AllByRecursion (λ y. bytes_eq name y ≡ false) (keys_of given)
apart name [] none = tt
apart name (g ∷ given) none = at (apart name given) (bytes_eq name g.0) refl
  where
    at : (lookup (bytes_eq name) given ≡ None → AllByRecursion (λ y. bytes_eq name y ≡ false) (keys_of given)) → (b : Bool) → bytes_eq name g.0 ≡ b → AllByRecursion (λ y. bytes_eq name y ≡ false) (keys_of (g ∷ given))
    at more true e = let r : Some g.1 ≡ None = ap (λ b. cond b (Some g.1) (lookup (bytes_eq name) given)) (sym e) ∙ none in absurd (cc r)
    at more false e = (e, more (ap (λ b. cond b (Some g.1) (lookup (bytes_eq name) given)) (sym e) ∙ none))

pub not_found : (name : List ℕ) (given : List (List ℕ × Given)) → AllByRecursion (λ y. bytes_eq name y ≡ false) (keys_of given) → lookup (bytes_eq name) given ≡ None
not_found name [] all = refl
not_found name (g ∷ given) all = ap (λ b. cond b (Some g.1) (lookup (bytes_eq name) given)) all.0 ∙ not_found name given all.1

-- ---- the words as they are read

pub head_words : {A : Type 0} (f : A → List ℕ) (ws : List A) (w : A) (s : List ℕ) → w ≡ get_or ws 0 w → 1 ≤ length ws → f w ≡ s → map f ws ≡ s ∷ map f (take (length ws - 1) (drop 1 ws))
head_words f [] w s at some e = absurd (omega (arith, some))
head_words f (x ∷ ws) w s at some e =
    let k : take (length (x ∷ ws) - 1) (drop 1 (x ∷ ws)) ≡ ws = grind (arith, common_steps) in
    ap (λ y. f y ∷ map f ws) (sym at) ∙ ap (λ y. y ∷ map f ws) e ∙ ap (λ ys. s ∷ map f ys) (sym k)

pub rest_words : {A : Type 0} (f : A → List ℕ) (ws : List A) (w : List ℕ) (rest : List (List ℕ)) → map f ws ≡ w ∷ rest → rest ≡ map f (take (length ws - 1) (drop 1 ws))
rest_words f [] w rest e = absurd (cc e)
rest_words f (x ∷ ws) w rest e =
    let k : take (length (x ∷ ws) - 1) (drop 1 (x ∷ ws)) ≡ ws = grind (arith, common_steps) in
    let t : map f ws ≡ rest = cc in sym t ∙ ap (λ ys. map f ys) (sym k)

pub no_words : {A : Type 0} (f : A → List ℕ) (ws : List A) → (length ws == 0) ≡ true → map f ws ≡ []
no_words f [] e = refl
no_words f (x ∷ ws) e = let h : length (x ∷ ws) ≡ 0 = eqb-true _ _ e in absurd (omega (arith, h))

pub some_words : {A : Type 0} (f : A → List ℕ) (ws : List A) → (length ws == 0) ≡ false → map f ws ≡ [] → ⊥
some_words f [] e h = false≢true (sym e)
some_words f (x ∷ ws) e h = absurd (cc h)

-- ---- options, one after the other, and none twice

is_none : (r : Option Given) → is_some r ≡ false → r ≡ None
is_none None e = refl
is_none (Some x) e = absurd (cc e)

abbrev AreOnce : List RowOption → List (List ℕ) → Type 0
AreOnce options words = (given : List (List ℕ × Given)) × AreGiven options given words × IsDistinct bytes_eq (keys_of given)

pub none_given : (options : List RowOption) (words : List (List ℕ)) → (words ≡ [] → ⊥) → ((b : List ℕ) (h : Given) (s : List (List ℕ)) → IsOption options b h → Begins b h words s → ⊥) → AreOnce options words → ⊥
none_given options words some none k = some (subst (λ (g : List (List ℕ × Given)). AreGiven options g words) (none_is options words none k.0 k.1) k.1)

module _ (options : List RowOption) (name : List ℕ) (g : Given) (words rest : List (List ℕ)) (p : IsOption options name g) (x : Begins name g words rest) (r : Option Given) (says : (given : List (List ℕ × Given)) → AreGiven options given rest → r ≡ lookup (bytes_eq name) given) where
  -- what is given behind the first
  behind : (k : AreOnce options words) → (more : List (List ℕ × Given)) × AreGiven options more rest × AllByRecursion (λ y. bytes_eq name y ≡ false) (keys_of more) × IsDistinct bytes_eq (keys_of more)
  unfolding IsDistinct
  behind k =
      let f = first_is options name g words rest p x k.0 k.1 in
      let d : IsDistinct bytes_eq (keys_of ((name, g) ∷ f.0)) = subst (λ (h : List (List ℕ × Given)). IsDistinct bytes_eq (keys_of h)) f.1 k.2 in
      (f.0, f.2, d.0, d.1)

  pub twice : is_some r ≡ true → AreOnce options words → ⊥
  twice some k =
      let b = behind k in
      let e : r ≡ None = says b.0 b.1 ∙ not_found name b.0 b.2 in
      let h : is_some r ≡ false = ap (λ (o : Option Given). is_some o) e in cc

  pub once : is_some r ≡ false → (b : Bool) → IsTrue b ↔ AreOnce options rest → IsTrue b ↔ AreOnce options words
  unfolding IsDistinct
  once none b k = (
    λ t. let m = k.0 t in ((name, g) ∷ m.0, (rest, p, x, m.1), (apart name m.0 (sym (says m.0 m.1) ∙ is_none r none), m.2)),
    λ w. let m = behind w in k.1 (m.0, m.1, m.3),
  )

-- ---- what words give

pub found_first : (options : List RowOption) (name first : List ℕ) (g : Given) (words rest : List (List ℕ)) → IsOption options first g → Begins first g words rest → bytes_eq name first ≡ true → (given : List (List ℕ × Given)) → AreGiven options given words → Some g ≡ lookup (bytes_eq name) given
found_first options name first g words rest p x is given are =
    let f = first_is options first g words rest p x given are in
    ap (λ b. cond b (Some g) (lookup (bytes_eq name) f.0)) (sym is) ∙ ap (lookup (bytes_eq name)) (sym f.1)

pub found_behind : (options : List RowOption) (name first : List ℕ) (g : Given) (words rest : List (List ℕ)) → IsOption options first g → Begins first g words rest → bytes_eq name first ≡ false → (r : Option Given) → ((given : List (List ℕ × Given)) → AreGiven options given rest → r ≡ lookup (bytes_eq name) given) → (given : List (List ℕ × Given)) → AreGiven options given words → r ≡ lookup (bytes_eq name) given
found_behind options name first g words rest p x is r says given are =
    let f = first_is options first g words rest p x given are in
    says f.0 f.2 ∙ ap (λ b. cond b (Some g) (lookup (bytes_eq name) f.0)) (sym is) ∙ ap (lookup (bytes_eq name)) (sym f.1)

pub found_none : (options : List RowOption) (name : List ℕ) (words : List (List ℕ)) → ((b : List ℕ) (h : Given) (s : List (List ℕ)) → IsOption options b h → Begins b h words s → ⊥) → (given : List (List ℕ × Given)) → AreGiven options given words → None ≡ lookup (bytes_eq name) given
found_none options name words none given are = ap (lookup (bytes_eq name)) (sym (none_is options words none given are))

-- ---- the required options

pub all_met : (P : RowOption → Type 0) (options : List WordOption) → ((k : ℕ) (d : WordOption) → k < length options → P (row_option (get_or options k d))) → AllByRecursion P (map row_option options)
all_met P [] h = tt
all_met P (o ∷ options) h = (h 0 o (omega arith), all_met P options (λ k d l. h (suc k) d (omega (arith, l))))

pub met_at : (P : RowOption → Type 0) (options : List WordOption) → AllByRecursion P (map row_option options) → (k : ℕ) (d : WordOption) → k < length options → P (row_option (get_or options k d))
met_at P [] all k d h = absurd (omega (arith, h))
met_at P (o ∷ options) all zero d h = all.0
met_at P (o ∷ options) all (suc k) d h = met_at P options all.1 k d (omega (arith, h))

module _ (options : List WordOption) (words : List (List ℕ)) where
  -- each required option is given, however the words are read
  abbrev Met : ℕ → Type 0
  Met n = (given : List (List ℕ × Given)) → AreGiven (map row_option options) given words → (k : ℕ) (d : WordOption) → k < n → IsTrue (get_or options k d).required → IsSome (lookup (bytes_eq (get_or options k d).name.now) given)

  pub spelled : (n : ℕ) → length options ≤ n → AreOnce (map row_option options) words → Met n → (given : List (List ℕ × Given)) × AreOptions (map row_option options) given words
  spelled n is k met = (
    k.0,
    record {
      each = k.1;
      once = k.2;
      needed = all_met (λ (o : RowOption). IsTrue o.required → IsSome (lookup (bytes_eq o.name) k.0)) options (λ j d h. met k.0 k.1 j d (omega (arith, h, is)));
    },
  )

  pub not_spelled : (k : ℕ) (d : WordOption) (b : Bool) → k < length options → b ≡ false → ((given : List (List ℕ × Given)) → AreGiven (map row_option options) given words → IsTrue b ↔ (IsTrue (get_or options k d).required → IsSome (lookup (bytes_eq (get_or options k d).name.now) given))) → (given : List (List ℕ × Given)) → AreOptions (map row_option options) given words → ⊥
  not_spelled k d b h is says given s =
      let t : b ≡ true = (says given s.each).1 (met_at (λ (o : RowOption). IsTrue o.required → IsSome (lookup (bytes_eq o.name) given)) options s.needed k d h) in false≢true (sym is ∙ t)

-- ---- the row

module _ (table : List Row) (words : List (List ℕ)) (command : List ℕ) (behind : List (List ℕ)) (is : words ≡ command ∷ behind) where
  row_is : (o : Option Row) → o ≡ find (λ (r : Row). bytes_eq r.command.now command) table → (row : TableRow) (given : List (List ℕ × Given)) → IsRow (map table_row table) row given words → Some row ≡ option_map table_row o
  row_is o f row given r =
      let e : words ≡ row.command ∷ r.rest = r.command in let same : command ≡ row.command = cc in
      sym r.first ∙ ap (λ (c : List ℕ). find (λ (r : TableRow). bytes_eq r.command c) (map table_row table)) (sym same) ∙ find_row command table ∙ ap (option_map table_row) (sym f)

  pub no_row : None ≡ find (λ (r : Row). bytes_eq r.command.now command) table → (row : TableRow) (given : List (List ℕ × Given)) → IsRow (map table_row table) row given words → ⊥
  no_row none row given r = let h : Some row ≡ None = row_is None none row given r in absurd (cc h)

  pub not_row : (o : Row) → Some o ≡ find (λ (r : Row). bytes_eq r.command.now command) table → (((given : List (List ℕ × Given)) × AreOptions (map row_option o.options.now) given behind) → ⊥) → (row : TableRow) (given : List (List ℕ × Given)) → IsRow (map table_row table) row given words → ⊥
  not_row o f none row given r =
      let h : Some row ≡ Some (table_row o) = row_is (Some o) f row given r in let same : row ≡ table_row o = cc in
      let e : words ≡ row.command ∷ r.rest = r.command in let rest : r.rest ≡ behind = cc in
      let s : AreOptions (table_row o).options given r.rest = subst (λ (l : TableRow). AreOptions l.options given r.rest) same r.options in
      none (given, subst (λ (w : List (List ℕ)). AreOptions (map row_option o.options.now) given w) rest s)

  pub is_row : (o : Row) → Some o ≡ find (λ (r : Row). bytes_eq r.command.now command) table → ((given : List (List ℕ × Given)) × AreOptions (map row_option o.options.now) given behind) → (given : List (List ℕ × Given)) × IsRow (map table_row table) (table_row o) given words
  is_row o f s = let e : command ≡ o.command.now = sym (bytes_eq-true _ _ (find_passes (λ (r : Row). bytes_eq r.command.now command) table o (sym f))) in (
    s.0,
    record {
      rest = behind;
      command = is ∙ ap (λ (c : List ℕ). c ∷ behind) e;
      first = ap (λ (c : List ℕ). find (λ (r : TableRow). bytes_eq r.command c) (map table_row table)) (sym e) ∙ find_row command table ∙ ap (option_map table_row) (sym f);
      options = s.1;
    },
  )

-- ---- what is given is an option

pub given_option : (options : List RowOption) (name : List ℕ) (g : Given) (given : List (List ℕ × Given)) (words : List (List ℕ)) → AreGiven options given words → lookup (bytes_eq name) given ≡ Some g → IsOption options name g
given_option options name g [] words are e = absurd (cc e)
given_option options name g (h ∷ more) words are e = at (given_option options name g more are.0 are.3) (bytes_eq name h.0) refl e
  where
    at : (lookup (bytes_eq name) more ≡ Some g → IsOption options name g) → (b : Bool) → bytes_eq name h.0 ≡ b → cond b (Some h.1) (lookup (bytes_eq name) more) ≡ Some g → IsOption options name g
    at later true is e =
        let n : name ≡ h.0 = bytes_eq-true name h.0 is in let k : h.1 ≡ g = cc in
        subst (λ (n : List ℕ). IsOption options n g) (sym n) (subst (λ (g : Given). IsOption options h.0 g) k are.1)
    at later false is e = later e

found_all : (P : RowOption → Type 0) (p : RowOption → Bool) (options : List RowOption) (o : RowOption) → AllByRecursion P options → find p options ≡ Some o → P o
found_all P p [] o all e = absurd (cc e)
found_all P p (x ∷ options) o all e = at (found_all P p options o all.1) (p x) e
  where
    at : (find p options ≡ Some o → P o) → (b : Bool) → cond b (Some x) (find p options) ≡ Some o → P o
    at later true e = let h : x ≡ o = cc in subst P h all.0
    at later false e = later e

-- an option that takes a number is given as one
number_fits : (t : Takes) (least most : ℕ) (g : Given) → t ≡ takes.Number least most → FitsOption t g → (n : ℕ) × (g ≡ given.Number n) × (least ≤ n) × (n ≤ most)
number_fits takes.Nothing least most g e fits = absurd (cc e)
number_fits (takes.Number l m) least most given.Flag e fits = absurd fits
number_fits (takes.Number l m) least most (given.Number n) e fits =
    let a : l ≡ least = cc in let b : m ≡ most = cc in (n, refl, omega (arith, a, fits.0), omega (arith, b, fits.1))

-- what is given by the name of an option is that option's
same_option : (options : List RowOption) (name : List ℕ) (o : RowOption) (g : Given) → find (λ (o : RowOption). bytes_eq o.name name) options ≡ Some o → IsOption options name g → FitsOption o.takes g
same_option options name o g e is =
    let h : Some is.option ≡ Some o = sym is.named ∙ e in let k : is.option ≡ o = cc in
    subst (λ (o : RowOption). FitsOption o.takes g) k is.fits

-- the option of a name that takes a number is given as one in its range
pub number_in_range : (options : List RowOption) (name : List ℕ) (o : RowOption) (least most : ℕ) → find (λ (o : RowOption). bytes_eq o.name name) options ≡ Some o → o.takes ≡ takes.Number least most → (gs : List (List ℕ × Given)) (words : List (List ℕ)) → AreGiven options gs words → (n : ℕ) → GivesNumber gs name n → (least ≤ n) × (n ≤ most)
number_in_range options name o least most found is_number gs words are n gives =
    let f = number_fits o.takes least most (given.Number n) is_number (same_option options name o (given.Number n) found (given_option options name (given.Number n) gs words are gives)) in
    let e : n ≡ f.0 = cc in (omega (arith, e, f.2), omega (arith, e, f.3))

-- a required number is given
pub number_is_given : (options : List RowOption) (name : List ℕ) (gs : List (List ℕ × Given)) (words : List (List ℕ)) (r : Option Given) → IsRequiredNumber options name → AreOptions options gs words → r ≡ lookup (bytes_eq name) gs → (n : ℕ) × (r ≡ Some (given.Number n))
number_is_given options name gs words r q are e =
    let needs : IsTrue q.0.required → IsSome (lookup (bytes_eq q.0.name) gs) = found_all (λ (o : RowOption). IsTrue o.required → IsSome (lookup (bytes_eq o.name) gs)) (λ (o : RowOption). bytes_eq o.name name) options q.0 are.needed q.1 in
    let n : q.0.name ≡ name = bytes_eq-true q.0.name name (find_passes (λ (o : RowOption). bytes_eq o.name name) options q.0 q.1) in
    let some : IsSome (lookup (bytes_eq name) gs) = subst (λ (n : List ℕ). IsSome (lookup (bytes_eq n) gs)) n (needs q.2.0) in
    at r e (subst (λ (o : Option Given). IsSome o) (sym e) some)
  where
    at : (r : Option Given) → r ≡ lookup (bytes_eq name) gs → IsSome r → (n : ℕ) × (r ≡ Some (given.Number n))
    at None e some = absurd (false≢true some)
    at (Some g) e some =
        let f = number_fits q.0.takes q.2.1.0 q.2.1.1 g q.2.1.2 (same_option options name q.0 g q.1 (given_option options name g gs words are.each (sym e))) in
        (f.0, ap (λ (g : Given). Some g) f.1)

-- options are given in one way
pub one_reading : (options : List RowOption) (a b : List (List ℕ × Given)) (words : List (List ℕ)) → AreGiven options a words → AreGiven options b words → a ≡ b
one_reading options [] b words p q =
    sym (none_is options words (λ name g rest is begins. let e : words ≡ option_word name begins.0 ∷ begins.1 = begins.2 in absurd (cc p)) b q)
one_reading options (g ∷ more) b words p q =
    let f = first_is options g.0 g.1 words p.0 p.1 p.2 b q in
    ap (λ (m : List (List ℕ × Given)). g ∷ m) (one_reading options more f.0 p.0 p.3 f.2) ∙ sym f.1

-- ---- the program's table

-- a row that is found is that of its command
row_found : (a b c d : Bool) (row : TableRow) → cond a (Some steps_row) (cond b (Some types_row) (cond c (Some run_row) (cond d (Some gen_row) None))) ≡ Some row → row ≡ verb_row row.verb
row_found true b c d row e = let h : steps_row ≡ row = cc in subst (λ (r : TableRow). r ≡ verb_row r.verb) h refl
row_found false true c d row e = let h : types_row ≡ row = cc in subst (λ (r : TableRow). r ≡ verb_row r.verb) h refl
row_found false false true d row e = let h : run_row ≡ row = cc in subst (λ (r : TableRow). r ≡ verb_row r.verb) h refl
row_found false false false true row e = let h : gen_row ≡ row = cc in subst (λ (r : TableRow). r ≡ verb_row r.verb) h refl
row_found false false false false row e = absurd (cc e)

pub row_known : (row : TableRow) (given : List (List ℕ × Given)) (words : List (List ℕ)) → IsRow rows row given words → row ≡ verb_row row.verb
row_known row given words r =
    row_found (bytes_eq (codes "steps") row.command) (bytes_eq (codes "types") row.command) (bytes_eq (codes "run") row.command) (bytes_eq (codes "gen") row.command) row r.first

-- words spell one row, and give its options in one way
one_row : (row other : TableRow) (given more : List (List ℕ × Given)) (words : List (List ℕ)) → IsRow rows row given words → IsRow rows other more words → (row ≡ other) × (given ≡ more)
one_row row other given more words a b =
    let p : words ≡ row.command ∷ a.rest = a.command in let q : words ≡ other.command ∷ b.rest = b.command in
    let same : row.command ≡ other.command = cc in let rest : b.rest ≡ a.rest = cc in
    let s : Some row ≡ Some other = sym a.first ∙ ap (λ (c : List ℕ). find (λ (r : TableRow). bytes_eq r.command c) rows) same ∙ b.first in
    let r : row ≡ other = cc in
    (r, one_reading row.options given more a.rest a.options.each (subst (λ (w : List (List ℕ)). AreGiven row.options more w) rest (subst (λ (o : TableRow). AreGiven o.options more b.rest) (sym r) b.options.each)))

one_number : (gs : List (List ℕ × Given)) (name : List ℕ) (n m : ℕ) → GivesNumber gs name n → GivesNumber gs name m → n ≡ m
one_number gs name n m a b = let e : Some (given.Number n) ≡ Some (given.Number m) = sym a ∙ b in cc

-- a command with its options makes one meaning
one_made : (verb : Verb) (given : List (List ℕ × Given)) (a b : Words) → MakesMeaning verb given a → MakesMeaning verb given b → a ≡ b
one_made verb.Steps given a b p q = p ∙ sym q
one_made verb.Types given a b p q = p ∙ sym q
one_made verb.Run given (Run n d) (Run m e) p q =
    let a : n ≡ m = one_number given (codes "workers") n m p.0 q.0 in
    let b : d ≡ e = p.1 ∙ sym q.1 in cc
one_made verb.Run given (Run n d) (Steps e) p q = absurd q
one_made verb.Run given (Run n d) Types p q = absurd q
one_made verb.Run given (Run n d) (Gen x y z) p q = absurd q
one_made verb.Run given (Steps d) b p q = absurd p
one_made verb.Run given Types b p q = absurd p
one_made verb.Run given (Gen x y z) b p q = absurd p
one_made verb.Gen given (Gen x y z) (Gen u v w) p q =
    let a : x ≡ u = one_number given (codes "seed") x u p.0 q.0 in
    let b : y ≡ v = one_number given (codes "sessions") y v p.1 q.1 in
    let c : z ≡ w = p.2 ∙ sym q.2 in cc
one_made verb.Gen given (Gen x y z) (Steps d) p q = absurd q
one_made verb.Gen given (Gen x y z) Types p q = absurd q
one_made verb.Gen given (Gen x y z) (Run n d) p q = absurd q
one_made verb.Gen given (Steps d) b p q = absurd p
one_made verb.Gen given Types b p q = absurd p
one_made verb.Gen given (Run n d) b p q = absurd p

-- words have one meaning at most
pub one_meaning : (words : List (List ℕ)) (a b : Words) → WordsMean words a → WordsMean words b → a ≡ b
one_meaning words a b m n =
    let r = one_row m.0 n.0 m.1 n.1 words m.2 n.2 in
    one_made m.0.verb m.1 a b m.3 (subst (λ (g : List (List ℕ × Given)). MakesMeaning m.0.verb g b) (sym r.1) (subst (λ (o : TableRow). MakesMeaning o.verb n.1 b) (sym r.0) n.3))

-- ---- numbers in their ranges

made_in_range : (verb : Verb) (row : TableRow) (given : List (List ℕ × Given)) (words : List (List ℕ)) (meaning : Words) → row ≡ verb_row verb → AreGiven row.options given words → MakesMeaning verb given meaning → IsInRange meaning
made_in_range verb.Steps row given words meaning is are makes = subst IsInRange (sym makes) tt
made_in_range verb.Types row given words meaning is are makes = subst IsInRange (sym makes) tt
made_in_range verb.Run row given words (Run n d) is are makes =
    number_in_range run_row.options (codes "workers") workers_option 1 16 refl refl given words (subst (λ (r : TableRow). AreGiven r.options given words) is are) n makes.0
made_in_range verb.Run row given words (Steps d) is are makes = absurd makes
made_in_range verb.Run row given words Types is are makes = absurd makes
made_in_range verb.Run row given words (Gen x y z) is are makes = absurd makes
made_in_range verb.Gen row given words (Gen seed sessions runs) is are makes =
    let all : AreGiven gen_row.options given words = subst (λ (r : TableRow). AreGiven r.options given words) is are in
    let a = number_in_range gen_row.options (codes "seed") seed_option 0 18446744073709551615 refl refl given words all seed makes.0 in
    let b = number_in_range gen_row.options (codes "sessions") sessions_option 1 64 refl refl given words all sessions makes.1 in
    (omega (arith, a.1), b.0, b.1)
made_in_range verb.Gen row given words (Steps d) is are makes = absurd makes
made_in_range verb.Gen row given words Types is are makes = absurd makes
made_in_range verb.Gen row given words (Run n d) is are makes = absurd makes

pub meant_in_range : (words : List (List ℕ)) (meaning : Words) → WordsMean words meaning → IsInRange meaning
meant_in_range words meaning m = made_in_range m.0.verb m.0 m.1 m.2.rest meaning (row_known m.0 m.1 words m.2) m.2.options.each m.3

-- the options of a row are those of its command
row_options : (r : TableRow) (v : Verb) → r ≡ verb_row r.verb → r.verb ≡ v → r.options ≡ (verb_row v).options
row_options r v known is = ap (λ (r : TableRow). r.options) (known ∙ ap verb_row is)

module _ (r : TableRow) (known : r ≡ verb_row r.verb) where
  pub workers_needed : r.verb ≡ verb.Run → IsRequiredNumber r.options (codes "workers")
  workers_needed is =
      subst (λ (os : List RowOption). IsRequiredNumber os (codes "workers")) (sym (row_options r verb.Run known is))
      (workers_option, refl, (refl, (1, 16, refl)))

  pub seed_needed : r.verb ≡ verb.Gen → IsRequiredNumber r.options (codes "seed")
  seed_needed is =
      subst (λ (os : List RowOption). IsRequiredNumber os (codes "seed")) (sym (row_options r verb.Gen known is))
      (seed_option, refl, (refl, (0, 18446744073709551615, refl)))

  pub sessions_needed : r.verb ≡ verb.Gen → IsRequiredNumber r.options (codes "sessions")
  sessions_needed is =
      subst (λ (os : List RowOption). IsRequiredNumber os (codes "sessions")) (sym (row_options r verb.Gen known is))
      (sessions_option, refl, (refl, (1, 64, refl)))

  pub workers_fit : r.verb ≡ verb.Run → (given : List (List ℕ × Given)) (words : List (List ℕ)) → AreGiven r.options given words → (n : ℕ) → GivesNumber given (codes "workers") n → n ≤ 16
  workers_fit is given words are n gives =
      let range = number_in_range run_row.options (codes "workers") workers_option 1 16 refl refl given words (subst (λ (os : List RowOption). AreGiven os given words) (row_options r verb.Run known is) are) n gives in
      range.1

  pub sessions_fit : r.verb ≡ verb.Gen → (given : List (List ℕ × Given)) (words : List (List ℕ)) → AreGiven r.options given words → (n : ℕ) → GivesNumber given (codes "sessions") n → n ≤ 64
  sessions_fit is given words are n gives =
      let range = number_in_range gen_row.options (codes "sessions") sessions_option 1 64 refl refl given words (subst (λ (os : List RowOption). AreGiven os given words) (row_options r verb.Gen known is) are) n gives in
      range.1

-- ---- commands without options

nothing_given : (given : List (List ℕ × Given)) (words : List (List ℕ)) → AreGiven [] given words → words ≡ []
nothing_given [] words are = are
nothing_given (g ∷ more) words are = absurd (cc are.1.named)

alone : (row : TableRow) → row.options ≡ [] → (r given : _) (words : List (List ℕ)) → IsRow rows r given words → r ≡ row → words ≡ row.command ∷ []
alone row none r given words m is =
    let o : AreOptions [] given m.rest = subst (λ (os : List RowOption). AreOptions os given m.rest) (ap (λ (i : TableRow). i.options) is ∙ none) m.options in
    m.command ∙ (ap (λ (i : TableRow). i.command ∷ m.rest) is ∙ ap (λ (rest : List (List ℕ)). row.command ∷ rest) (nothing_given given m.rest o.each))

-- the command of a meaning
abbrev verb_of : Words → Verb
verb_of (Steps d) = verb.Steps
verb_of Types = verb.Types
verb_of (Run n d) = verb.Run
verb_of (Gen x y z) = verb.Gen

made_by : (verb : Verb) (given : List (List ℕ × Given)) (meaning : Words) → MakesMeaning verb given meaning → verb ≡ verb_of meaning
made_by verb.Steps given meaning makes = ap verb_of (sym makes)
made_by verb.Types given meaning makes = ap verb_of (sym makes)
made_by verb.Run given (Run n d) makes = refl
made_by verb.Run given (Steps d) makes = absurd makes
made_by verb.Run given Types makes = absurd makes
made_by verb.Run given (Gen x y z) makes = absurd makes
made_by verb.Gen given (Gen x y z) makes = refl
made_by verb.Gen given (Steps d) makes = absurd makes
made_by verb.Gen given Types makes = absurd makes
made_by verb.Gen given (Run n d) makes = absurd makes

-- words of a meaning spell the row of its command
pub row_meant_by : (words : List (List ℕ)) (meaning : Words) (m : WordsMean words meaning) → m.0 ≡ verb_row (verb_of meaning)
row_meant_by words meaning m = row_known m.0 m.1 words m.2 ∙ ap verb_row (made_by m.0.verb m.1 meaning m.3)

no_options : (row : TableRow) → row.options ≡ [] → AreOptions row.options [] []
unfolding IsDistinct
no_options row none = subst (λ (os : List RowOption). AreOptions os [] []) (sym none) (record { each = refl; once = tt; needed = tt })

pub types_alone : (words : List (List ℕ)) → WordsMean words Types ↔ (words ≡ codes "types" ∷ [])
types_alone words = (
  λ m. alone types_row refl m.0 m.1 words m.2 (row_meant_by words Types m),
  λ e. (types_row, [], record { rest = []; command = e; first = refl; options = no_options types_row refl }, refl),
)

-- ---- the words of options

bytes_eq-same : (xs ys : List ℕ) → xs ≡ ys → bytes_eq xs ys ≡ true
bytes_eq-same xs ys e = (bytes_eq-Decides xs ys).1 e

-- a name that is no word with a value
abbrev pub has_no_equals : List ℕ → Bool
has_no_equals [] = true
has_no_equals (x ∷ a) = cond (x == 61) false (has_no_equals a)

plain_name : (a : List ℕ) → has_no_equals a ≡ true → HasNoEquals a
plain_name [] h k l e = absurd (omega (arith, l))
plain_name (x ∷ a) h zero l e =
    absurd (false≢true (ap (λ b. cond b false (has_no_equals a)) (sym (eq-eqb x 61 e)) ∙ h))
plain_name (x ∷ a) h (suc k) l e = at (λ t. plain_name a t k (omega (arith, l)) e) (x == 61) h
  where
    at : (has_no_equals a ≡ true → ⊥) → (b : Bool) → cond b false (has_no_equals a) ≡ true → ⊥
    at later true h = false≢true h
    at later false h = later h

-- an option that takes a number is one word or two, in front of the others
number_words : (name : List ℕ) (n : ℕ) (words rest : List (List ℕ)) → Begins name (given.Number n) words rest → (digits : List ℕ) × IsNumber digits n × (option : List (List ℕ)) × IsNumberOption name digits option × (words ≡ option ++ rest)
number_words name n words rest (None, behind, is, gives) =
    (gives.0, gives.1, option_word name None ∷ (gives.0 ∷ []), inl refl, is ∙ ap (λ (b : List (List ℕ)). option_word name None ∷ b) gives.2)
number_words name n words rest (Some value, behind, is, gives) =
    (value, gives.0, option_word name (Some value) ∷ [], inr refl, is ∙ ap (λ (b : List (List ℕ)). option_word name (Some value) ∷ b) gives.1)

-- words begin with the words of an option that takes a number
number_begins : (name digits : List ℕ) (n : ℕ) (words option rest : List (List ℕ)) → IsNumber digits n → IsNumberOption name digits option → words ≡ option ++ rest → Begins name (given.Number n) words rest
number_begins name digits n words option rest number (inl e) is =
    (None, digits ∷ rest, is ∙ ap (λ (o : List (List ℕ)). o ++ rest) e, (digits, number, refl))
number_begins name digits n words option rest number (inr e) is =
    (Some digits, rest, is ∙ ap (λ (o : List (List ℕ)). o ++ rest) e, (number, refl))

-- a flag is one word, in front of the others
flag_words : (name : List ℕ) (words rest : List (List ℕ)) → Begins name given.Flag words rest → words ≡ option_word name None ∷ rest
flag_words name words rest (None, behind, is, gives) =
    is ∙ ap (λ (b : List (List ℕ)). option_word name None ∷ b) gives
flag_words name words rest (Some value, behind, is, gives) = absurd gives

-- ---- `steps`

same_value : (m n : ℕ) → (let a : Option Given = Some (given.Number m) in let b : Option Given = Some (given.Number n) in a ≡ b) → m ≡ n
same_value m n e = let f : Some (given.Number m) ≡ Some (given.Number n) = e in cc

-- the name under which `steps` and `run` take what is given, with it
abbrev under_name : Given → List ℕ × Given
under_name given.Flag = (codes "documents", given.Flag)
under_name (given.Number n) = (codes "workers", given.Number n)

abbrev under_names : List (List ℕ × Given) → List (List ℕ × Given)
under_names gs = map under_name (map (λ (g : List ℕ × Given). g.1) gs)

named_so : (name is : List ℕ) (g : Given) → is ≡ name → let a : List ℕ × Given = (name, g) in let b : List ℕ × Given = (is, g) in a ≡ b
named_so name is g e = ap (λ (n : List ℕ). let p : List ℕ × Given = (n, g) in p) (sym e)

documents_named : (name : List ℕ) (g : Given) → codes "documents" ≡ name → FitsOption documents_option.takes g → let a : List ℕ × Given = (name, g) in a ≡ under_name g
documents_named name given.Flag e fits = named_so name (codes "documents") given.Flag e
documents_named name (given.Number n) e fits = absurd fits

workers_named : (name : List ℕ) (g : Given) → codes "workers" ≡ name → FitsOption workers_option.takes g → let a : List ℕ × Given = (name, g) in a ≡ under_name g
workers_named name given.Flag e fits = absurd fits
workers_named name (given.Number n) e fits = named_so name (codes "workers") (given.Number n) e

-- the one option is found
one_option : (a : Bool) (o : RowOption) → cond a (Some documents_option) None ≡ Some o → (o ≡ documents_option) × (a ≡ true)
one_option true o e = let h : documents_option ≡ o = cc in (sym h, refl)
one_option false o e = absurd (cc e)

steps_named : (gs : List (List ℕ × Given)) (words : List (List ℕ)) → AreGiven steps_row.options gs words → gs ≡ under_names gs
steps_named [] words are = refl
steps_named (g ∷ more) words are =
    let e = one_option (bytes_eq (codes "documents") g.0) are.1.option are.1.named in
    let named : g ≡ under_name g.1 = documents_named g.0 g.1 (bytes_eq-true (codes "documents") g.0 e.1) (subst (λ (o : RowOption). FitsOption o.takes g.1) e.0 are.1.fits) in
    ap (λ (h : List ℕ × Given). h ∷ more) named ∙ ap (λ (hs : List (List ℕ × Given)). under_name g.1 ∷ hs) (steps_named more are.0 are.3)

-- the words behind `steps` are the flag, or none
steps_given : (gs : List Given) (rest : List (List ℕ)) → AreOptions steps_row.options (map under_name gs) rest → rest ≡ documents_words (is_given (map under_name gs) (codes "documents"))
unfolding IsDistinct
steps_given [] rest are = are.each
steps_given (given.Number n ∷ more) rest are = absurd (cc are.each.1.named)
steps_given (given.Flag ∷ []) rest are =
    flag_words (codes "documents") rest are.each.0 are.each.2 ∙ ap (λ (r : List (List ℕ)). option_word (codes "documents") None ∷ r) are.each.3
steps_given (given.Flag ∷ (given.Number n ∷ more)) rest are = absurd (cc are.each.3.1.named)
steps_given (given.Flag ∷ (given.Flag ∷ more)) rest are = absurd (false≢true (sym are.once.0.0))

steps_meant : (words : List (List ℕ)) (documents : Bool) → words ≡ codes "steps" ∷ documents_words documents → WordsMean words (Steps documents)
unfolding IsDistinct
steps_meant words false e = (
  steps_row,
  [],
  record { rest = []; command = e; first = refl; options = record { each = refl; once = tt; needed = (λ h. absurd (false≢true h), tt) } },
  refl,
)
steps_meant words true e = (
  steps_row,
  (codes "documents", given.Flag) ∷ [],
  record {
    rest = documents_words true;
    command = e;
    first = refl;
    options = record {
      each = ([], record { option = documents_option; named = refl; plain = plain_name (codes "documents") refl; fits = tt }, (None, [], refl, refl), refl);
      once = (tt, tt);
      needed = (λ h. absurd (false≢true h), tt);
    };
  },
  refl,
)

pub steps_words : (words : List (List ℕ)) (documents : Bool) → WordsMean words (Steps documents) ↔ (words ≡ codes "steps" ∷ documents_words documents)
steps_words words documents = (
  λ m. let row = row_meant_by words (Steps documents) m in
      let options : AreOptions steps_row.options m.1 m.2.rest = subst (λ (r : TableRow). AreOptions r.options m.1 m.2.rest) row m.2.options in
      let makes : Steps documents ≡ Steps (is_given m.1 (codes "documents")) = subst (λ (r : TableRow). MakesMeaning r.verb m.1 (Steps documents)) row m.3 in
      let same : is_given m.1 (codes "documents") ≡ documents = cc in
      let named = steps_named m.1 m.2.rest options.each in
      let rest : m.2.rest ≡ documents_words (is_given (under_names m.1) (codes "documents")) = steps_given (map (λ (g : List ℕ × Given). g.1) m.1) m.2.rest (subst (λ (gs : List (List ℕ × Given)). AreOptions steps_row.options gs m.2.rest) named options) in
      m.2.command ∙ ap (λ (r : TableRow). r.command ∷ m.2.rest) row
      ∙ ap (λ (ws : List (List ℕ)). codes "steps" ∷ ws) (rest ∙ ap (λ (gs : List (List ℕ × Given)). documents_words (is_given gs (codes "documents"))) (sym named) ∙ ap documents_words same),
  λ e. steps_meant words documents e,
)

-- ---- `run`

-- one of two options is found
two_options : (a b : Bool) (o : RowOption) → cond a (Some workers_option) (cond b (Some documents_option) None) ≡ Some o → (o ≡ workers_option) × (a ≡ true) ⊎ ((o ≡ documents_option) × (b ≡ true))
two_options true b o e = let h : workers_option ≡ o = cc in inl (sym h, refl)
two_options false true o e = let h : documents_option ≡ o = cc in inr (sym h, refl)
two_options false false o e = absurd (cc e)

run_option_named : (name : List ℕ) (g : Given) → IsOption run_row.options name g → let a : List ℕ × Given = (name, g) in a ≡ under_name g
run_option_named name g is =
    elim (two_options (bytes_eq (codes "workers") name) (bytes_eq (codes "documents") name) is.option is.named) [
      | inl e ↦ workers_named name g (bytes_eq-true (codes "workers") name e.1) (subst (λ (o : RowOption). FitsOption o.takes g) e.0 is.fits)
      | inr e ↦ documents_named name g (bytes_eq-true (codes "documents") name e.1) (subst (λ (o : RowOption). FitsOption o.takes g) e.0 is.fits)
    ]

run_named : (gs : List (List ℕ × Given)) (words : List (List ℕ)) → AreGiven run_row.options gs words → gs ≡ under_names gs
run_named [] words are = refl
run_named (g ∷ more) words are =
    let named : g ≡ under_name g.1 = run_option_named g.0 g.1 are.1 in
    ap (λ (h : List ℕ × Given). h ∷ more) named ∙ ap (λ (hs : List (List ℕ × Given)). under_name g.1 ∷ hs) (run_named more are.0 are.3)

-- what the words behind `run` are
record RunGiven (gs : List (List ℕ × Given)) (rest : List (List ℕ)) (workers : ℕ) : Type 0 where
  digits : List ℕ
  number : IsNumber digits workers
  option : List (List ℕ)
  workers_are : IsNumberOption (codes "workers") digits option
  both : AreBoth option (documents_words (is_given gs (codes "documents"))) rest

-- the number of workers and no flag
only_workers : (m n : ℕ) (rest behind : List (List ℕ)) → m ≡ n → Begins (codes "workers") (given.Number m) rest behind → behind ≡ [] → RunGiven (under_name (given.Number m) ∷ []) rest n
only_workers m n rest behind is begins end =
    let w = number_words (codes "workers") m rest behind begins in
    record {
      digits = w.0;
      number = subst (λ (k : ℕ). IsNumber w.0 k) is w.1;
      option = w.2;
      workers_are = w.3;
      both = inl (w.4 ∙ ap (λ (b : List (List ℕ)). w.2 ++ b) end);
    }

-- the number of workers, and then the flag
flag_behind : (m n : ℕ) (rest behind end : List (List ℕ)) → m ≡ n → Begins (codes "workers") (given.Number m) rest behind → Begins (codes "documents") given.Flag behind end → end ≡ [] → RunGiven (under_name (given.Number m) ∷ (under_name given.Flag ∷ [])) rest n
flag_behind m n rest behind end is begins flag none =
    let w = number_words (codes "workers") m rest behind begins in
    record {
      digits = w.0;
      number = subst (λ (k : ℕ). IsNumber w.0 k) is w.1;
      option = w.2;
      workers_are = w.3;
      both = inl (w.4 ∙ ap (λ (b : List (List ℕ)). w.2 ++ b) (flag_words (codes "documents") behind end flag ∙ ap (λ (b : List (List ℕ)). option_word (codes "documents") None ∷ b) none));
    }

-- the flag, and then the number of workers
flag_first : (m n : ℕ) (rest behind end : List (List ℕ)) → m ≡ n → Begins (codes "documents") given.Flag rest behind → Begins (codes "workers") (given.Number m) behind end → end ≡ [] → RunGiven (under_name given.Flag ∷ (under_name (given.Number m) ∷ [])) rest n
flag_first m n rest behind end is flag begins none =
    let w = number_words (codes "workers") m behind end begins in
    record {
      digits = w.0;
      number = subst (λ (k : ℕ). IsNumber w.0 k) is w.1;
      option = w.2;
      workers_are = w.3;
      both = inr (flag_words (codes "documents") rest behind flag ∙ ap (λ (b : List (List ℕ)). option_word (codes "documents") None ∷ b) (w.4 ∙ (ap (λ (b : List (List ℕ)). w.2 ++ b) none ∙ append-nil w.2)));
    }

workers_given : (gs : List Given) (rest : List (List ℕ)) (n : ℕ) → AreOptions run_row.options (map under_name gs) rest → GivesNumber (map under_name gs) (codes "workers") n → RunGiven (map under_name gs) rest n
unfolding IsDistinct
workers_given [] rest n are gives = absurd (cc gives)
workers_given (given.Flag ∷ []) rest n are gives = absurd (cc gives)
workers_given (given.Number m ∷ []) rest n are gives =
    let is : m ≡ n = same_value m n gives in only_workers m n rest are.each.0 is are.each.2 are.each.3
workers_given (given.Flag ∷ (given.Flag ∷ more)) rest n are gives = absurd (false≢true (sym are.once.0.0))
workers_given (given.Number m ∷ (given.Number k ∷ more)) rest n are gives = absurd (false≢true (sym are.once.0.0))
workers_given (given.Number m ∷ (given.Flag ∷ [])) rest n are gives =
    flag_behind m n rest are.each.0 are.each.3.0 (same_value m n gives) are.each.2 are.each.3.2 are.each.3.3
workers_given (given.Flag ∷ (given.Number m ∷ [])) rest n are gives =
    flag_first m n rest are.each.0 are.each.3.0 (same_value m n gives) are.each.2 are.each.3.2 are.each.3.3
workers_given (given.Number m ∷ (given.Flag ∷ (given.Number k ∷ more))) rest n are gives = absurd (false≢true (sym are.once.0.1.0))
workers_given (given.Number m ∷ (given.Flag ∷ (given.Flag ∷ more))) rest n are gives = absurd (false≢true (sym are.once.1.0.0))
workers_given (given.Flag ∷ (given.Number m ∷ (given.Flag ∷ more))) rest n are gives = absurd (false≢true (sym are.once.0.1.0))
workers_given (given.Flag ∷ (given.Number m ∷ (given.Number k ∷ more))) rest n are gives = absurd (false≢true (sym are.once.1.0.0))

-- the options that say how many workers there are, and that the documents are asked for
workers_is : (n : ℕ) → 1 ≤ n → n ≤ 16 → IsOption run_row.options (codes "workers") (given.Number n)
workers_is n some few = record { option = workers_option; named = refl; plain = plain_name (codes "workers") refl; fits = (some, few) }

documents_is : IsOption run_row.options (codes "documents") given.Flag
documents_is = record { option = documents_option; named = refl; plain = plain_name (codes "documents") refl; fits = tt }

run_meant : (words : List (List ℕ)) (workers : ℕ) (documents : Bool) → (a : AreRunWords words workers documents) → AreBoth a.option (documents_words documents) a.options → WordsMean words (Run workers documents)
unfolding IsDistinct
run_meant words workers false a (inl e) = (
  run_row,
  under_name (given.Number workers) ∷ [],
  record {
    rest = a.options;
    command = a.words_are;
    first = refl;
    options = record {
      each = ([], workers_is workers a.some a.few, number_begins (codes "workers") a.digits workers a.options a.option [] a.number a.workers_are e, refl);
      once = (tt, tt);
      needed = (λ _. refl, (λ h. absurd (false≢true h), tt));
    };
  },
  (refl, refl),
)
run_meant words workers false a (inr e) = (
  run_row,
  under_name (given.Number workers) ∷ [],
  record {
    rest = a.options;
    command = a.words_are;
    first = refl;
    options = record {
      each = ([], workers_is workers a.some a.few, number_begins (codes "workers") a.digits workers a.options a.option [] a.number a.workers_are (e ∙ sym (append-nil a.option)), refl);
      once = (tt, tt);
      needed = (λ _. refl, (λ h. absurd (false≢true h), tt));
    };
  },
  (refl, refl),
)
run_meant words workers true a (inl e) = (
  run_row,
  under_name (given.Number workers) ∷ (under_name given.Flag ∷ []),
  record {
    rest = a.options;
    command = a.words_are;
    first = refl;
    options = record {
      each = (documents_words true, workers_is workers a.some a.few, number_begins (codes "workers") a.digits workers a.options a.option (documents_words true) a.number a.workers_are e, ([], documents_is, (None, [], refl, refl), refl));
      once = ((refl, tt), (tt, tt));
      needed = (λ _. refl, (λ h. absurd (false≢true h), tt));
    };
  },
  (refl, refl),
)
run_meant words workers true a (inr e) = (
  run_row,
  under_name given.Flag ∷ (under_name (given.Number workers) ∷ []),
  record {
    rest = a.options;
    command = a.words_are;
    first = refl;
    options = record {
      each = (a.option, documents_is, (None, a.option, e, refl), ([], workers_is workers a.some a.few, number_begins (codes "workers") a.digits workers a.option a.option [] a.number a.workers_are (sym (append-nil a.option)), refl));
      once = ((refl, tt), (tt, tt));
      needed = (λ _. refl, (λ h. absurd (false≢true h), tt));
    };
  },
  (refl, refl),
)

pub run_words : (words : List (List ℕ)) (workers : ℕ) (documents : Bool) → WordsMean words (Run workers documents) ↔ AreRunWords words workers documents
run_words words workers documents = (
  λ m. let row = row_meant_by words (Run workers documents) m in
      let range = meant_in_range words (Run workers documents) m in
      let options : AreOptions run_row.options m.1 m.2.rest = subst (λ (r : TableRow). AreOptions r.options m.1 m.2.rest) row m.2.options in
      let makes : GivesNumber m.1 (codes "workers") workers × (documents ≡ is_given m.1 (codes "documents")) = subst (λ (r : TableRow). MakesMeaning r.verb m.1 (Run workers documents)) row m.3 in
      let named = run_named m.1 m.2.rest options.each in
      let g : RunGiven m.1 m.2.rest workers = subst (λ (gs : List (List ℕ × Given)). RunGiven gs m.2.rest workers) (sym named) (workers_given (map (λ (g : List ℕ × Given). g.1) m.1) m.2.rest workers (subst (λ (gs : List (List ℕ × Given)). AreOptions run_row.options gs m.2.rest) named options) (subst (λ (gs : List (List ℕ × Given)). GivesNumber gs (codes "workers") workers) named makes.0)) in
      record {
        some = range.0;
        few = range.1;
        digits = g.digits;
        number = g.number;
        option = g.option;
        workers_are = g.workers_are;
        options = m.2.rest;
        both = subst (λ (d : Bool). AreBoth g.option (documents_words d) m.2.rest) (sym makes.1) g.both;
        words_are = m.2.command ∙ ap (λ (r : TableRow). r.command ∷ m.2.rest) row;
      },
  λ a. run_meant words workers documents a a.both,
)

-- ---- `gen`

-- one of three options is found
three_options : (a b c : Bool) (o : RowOption) → cond a (Some seed_option) (cond b (Some sessions_option) (cond c (Some run_option) None)) ≡ Some o → (o ≡ seed_option) × (a ≡ true) ⊎ ((o ≡ sessions_option) × (b ≡ true) ⊎ ((o ≡ run_option) × (c ≡ true)))
three_options true b c o e = let h : seed_option ≡ o = cc in inl (sym h, refl)
three_options false true c o e = let h : sessions_option ≡ o = cc in inr (inl (sym h, refl))
three_options false false true o e = let h : run_option ≡ o = cc in inr (inr (sym h, refl))
three_options false false false o e = absurd (cc e)

module _ (name : List ℕ) where
  seed_given : (g : Given) → codes "seed" ≡ name → FitsOption seed_option.takes g → IsGenOption name g
  seed_given given.Flag e fits = absurd fits
  seed_given (given.Number n) e fits = inl (sym e, omega (arith, fits.1))

  sessions_given : (g : Given) → codes "sessions" ≡ name → FitsOption sessions_option.takes g → IsGenOption name g
  sessions_given given.Flag e fits = absurd fits
  sessions_given (given.Number n) e fits = inr (sym e, fits.0, fits.1)

  run_given : (g : Given) → codes "run" ≡ name → FitsOption run_option.takes g → IsGenOption name g
  run_given given.Flag e fits = sym e
  run_given (given.Number n) e fits = absurd fits

-- an option of the row is one of these, and the other way round
gen_option : (name : List ℕ) (g : Given) → IsOption gen_row.options name g → IsGenOption name g
gen_option name g is =
    elim (three_options (bytes_eq (codes "seed") name) (bytes_eq (codes "sessions") name) (bytes_eq (codes "run") name) is.option is.named) [
      | inl e ↦ seed_given name g (bytes_eq-true (codes "seed") name e.1) (subst (λ (o : RowOption). FitsOption o.takes g) e.0 is.fits)
      | inr (inl e) ↦ sessions_given name g (bytes_eq-true (codes "sessions") name e.1) (subst (λ (o : RowOption). FitsOption o.takes g) e.0 is.fits)
      | inr (inr e) ↦ run_given name g (bytes_eq-true (codes "run") name e.1) (subst (λ (o : RowOption). FitsOption o.takes g) e.0 is.fits)
    ]

option_of_gen : (name : List ℕ) (g : Given) → IsGenOption name g → IsOption gen_row.options name g
option_of_gen name given.Flag e =
    subst (λ (m : List ℕ). IsOption gen_row.options m given.Flag) (sym e)
    (record { option = run_option; named = refl; plain = plain_name (codes "run") refl; fits = tt })
option_of_gen name (given.Number n) (inl e) =
    subst (λ (m : List ℕ). IsOption gen_row.options m (given.Number n)) (sym e.0)
    (record { option = seed_option; named = refl; plain = plain_name (codes "seed") refl; fits = (omega arith, omega (arith, e.1)) })
option_of_gen name (given.Number n) (inr e) =
    subst (λ (m : List ℕ). IsOption gen_row.options m (given.Number n)) (sym e.0)
    (record { option = sessions_option; named = refl; plain = plain_name (codes "sessions") refl; fits = (e.1, e.2) })

each_of_gen : (all : List (List ℕ × Given)) (words : List (List ℕ)) → AreGiven gen_row.options all words → AllByRecursion (λ g. IsGenOption g.0 g.1) all × AreSpelled all words
each_of_gen [] words are = (tt, are)
each_of_gen (g ∷ more) words are =
    let rest = each_of_gen more are.0 are.3 in
    ((gen_option g.0 g.1 are.1, rest.0), (are.0, are.2, rest.1))

gen_of_each : (all : List (List ℕ × Given)) (words : List (List ℕ)) → AllByRecursion (λ g. IsGenOption g.0 g.1) all → AreSpelled all words → AreGiven gen_row.options all words
gen_of_each [] words each spelled = spelled
gen_of_each (g ∷ more) words each spelled = (spelled.0, option_of_gen g.0 g.1 each.0, spelled.1, gen_of_each more spelled.0 each.1 spelled.2)

-- what is given is there
given_there : (all : List (List ℕ × Given)) (name : List ℕ) (n : ℕ) → GivesNumber all name n → IsSome (lookup (bytes_eq name) all)
given_there all name n gives = subst (λ (o : Option Given). IsSome o) (sym gives) refl

pub gen_words : (words : List (List ℕ)) (seed sessions : ℕ) (runs : Bool) → WordsMean words (Gen seed sessions runs) ↔ AreGenWords words seed sessions runs
gen_words words seed sessions runs = (
  λ m. let row = row_meant_by words (Gen seed sessions runs) m in
      let options : AreOptions gen_row.options m.1 m.2.rest = subst (λ (r : TableRow). AreOptions r.options m.1 m.2.rest) row m.2.options in
      let makes : MakesMeaning verb.Gen m.1 (Gen seed sessions runs) = subst (λ (r : TableRow). MakesMeaning r.verb m.1 (Gen seed sessions runs)) row m.3 in
      let each = each_of_gen m.1 m.2.rest options.each in
      record {
        all = m.1;
        each = each.0;
        once = options.once;
        seed_is = makes.0;
        sessions_are = makes.1;
        run_is = makes.2;
        options = m.2.rest;
        spelled = each.1;
        words_are = m.2.command ∙ ap (λ (r : TableRow). r.command ∷ m.2.rest) row;
      },
  λ a. (
    gen_row,
    a.all,
    record {
      rest = a.options;
      command = a.words_are;
      first = refl;
      options = record {
        each = gen_of_each a.all a.options a.each a.spelled;
        once = a.once;
        needed = (λ _. given_there a.all (codes "seed") seed a.seed_is, (λ _. given_there a.all (codes "sessions") sessions a.sessions_are, (λ h. absurd (false≢true h), tt)));
      };
    },
    (a.seed_is, a.sessions_are, a.run_is),
  ),
)
