-- Previous documents by their numbers, in the order of these.
use Rattle.std.proofs.Common.{◌≡◌, ◌⊎◌, inl, inr, ℕ, Bool, true, false, cond, ◌||◌, Option, Some, None, List, [], ◌∷◌, map, is_some, refl, sym, ap, ◌∙◌, subst, arith}
use Rattle.std.specs.Prelude.{◌==◌}
use Rattle.std.specs.BTreeMap.{insert_entry, is_at}
use Rattle.std.specs.FinMap.{is_sorted, nat_cmp-IsAntisymmetric}
use Rattle.std.specs.List.{AllByRecursion, filter}
use Rattle.std.specs.Map.{lookup}
use Rattle.std.specs.Ordering.{is_eq, match_ordering, nat_cmp}
use Rattle.std.specs.declared.cmp.Ordering.{Ordering}
use Rattle.std.specs.declared.cmp.Ordering.TheVariants.{Less, Equal, Greater}
use Rattle.std.proofs.lemmas.Bool.Decides.{nat_tests}
use Rattle.std.proofs.lemmas.Cmp.{tied_itself}
use Rattle.std.specs.Cmp.{IsTotalOrder}
use mathlib.Core.Bool.{false≢true}
use Rattle.jr_path.specs.Ids.{id_cmp}
use Rattle.jr_path.specs.declared.path.DocId.{DocId}
use Rattle.jr_path.proofs.Orders.{id_total}
use Rattle.jr_rev.proofs.Entries.{number_same}
use Rattle.oak_doc.specs.declared.document.Document.{Document}
use Rattle.oak_doc.specs.declared.document.PrevEntry.{PrevEntry}
use Rattle.oak_gc.specs.Collecting.{Previous, last_of}
use Rattle.core_keep.specs.Dropping.{is_number_of}
use Rattle.core_read.specs.Told.{IsIn}
use Rattle.core_read.proofs.Entries.{first, none_below, second}

-- ---- entries

nat_exact : (a b : ℕ) → nat_cmp a b ≡ Equal → a ≡ b
nat_exact a b h = nat_cmp-IsAntisymmetric a b h

-- what stands among entries in order is found under its key
pub in_found : {K X : Type 0} (R : K → K → Ordering) → IsTotalOrder R → (k : K) (v : X) (es : List (K × X)) → is_sorted R es ≡ true → IsIn (k, v) es → lookup (is_at (R k)) es ≡ Some v
in_found R total k v [] s i = absurd i
in_found R total k v (e ∷ es) s (inl one) = subst (λ (f : _ × _). lookup (is_at (R f.0)) (e ∷ es) ≡ Some f.1) one (ap (λ o. cond (is_eq o) (Some e.1) (lookup (is_at (R e.0)) es)) (tied_itself total e.0))
in_found R total k v (e ∷ es) s (inr i) = by (R k e.0) refl (in_found R total k v es (second _ _ s) i)
  where
    by : (o : Ordering) → R k e.0 ≡ o → lookup (is_at (R k)) es ≡ Some v → lookup (is_at (R k)) (e ∷ es) ≡ Some v
    by Less h rest = ap (λ o. cond (is_eq o) (Some e.1) (lookup (is_at (R k)) es)) h ∙ rest
    by Greater h rest = ap (λ o. cond (is_eq o) (Some e.1) (lookup (is_at (R k)) es)) h ∙ rest
    by Equal h rest = absurd (false≢true (ap is_some (sym (none_below R total k e.0 h es (first _ _ s)) ∙ rest)))

-- and what is found under a key stands among them, under a key that is tied to it
pub found_in_list : {K X : Type 0} (R : K → K → Ordering) → ((a b : K) → R a b ≡ Equal → a ≡ b) → (k : K) (v : X) (es : List (K × X)) → lookup (is_at (R k)) es ≡ Some v → IsIn (k, v) es
found_in_list R exact k v [] h = absurd (false≢true (ap is_some h))
found_in_list {K} {X} R exact k v (e ∷ es) h = by (R k e.0) refl h (λ g. found_in_list R exact k v es g)
  where
    by : (o : Ordering) → R k e.0 ≡ o → cond (is_eq o) (Some e.1) (lookup (is_at (R k)) es) ≡ Some v → (lookup (is_at (R k)) es ≡ Some v → IsIn (k, v) es) → IsIn (k, v) (e ∷ es)
    by Less m g rest = inr (rest g)
    by Greater m g rest = inr (rest g)
    by Equal m g rest = inl (pair e.0 k e.1 v (sym (exact k e.0 m)) g)
      where
        pair : (a b : K) (x y : X) → a ≡ b → ◌≡◌ {A = Option X} (Some x) (Some y) → ◌≡◌ {A = K × X} (a, x) (b, y)
        pair a b x y p q = cc

-- an entry that stands among some after one was put is that one, or stood there
pub in_put : {X : Type 0} (n : ℕ) (v : X) (es : List (ℕ × X)) (f : ℕ × X) → IsIn f (insert_entry nat_cmp es n v) → ((n, v) ≡ f) ⊎ IsIn f es
in_put n v [] f i = elim i [ inl one ↦ inl one | inr j ↦ absurd j ]
in_put n v (e ∷ es) f i = by (nat_cmp n e.0) refl (in_put n v es f) i
  where
    by : (o : Ordering) → nat_cmp n e.0 ≡ o → (IsIn f (insert_entry nat_cmp es n v) → ((n, v) ≡ f) ⊎ IsIn f es) → IsIn f (match_ordering o ((n, v) ∷ e ∷ es) ((e.0, v) ∷ es) (e ∷ insert_entry nat_cmp es n v)) → ((n, v) ≡ f) ⊎ IsIn f (e ∷ es)
    by Less m rest (inl one) = inl one
    by Less m rest (inr i) = inr i
    by Equal m rest (inl one) = inl (ap (λ (k : ℕ). (k, v)) (nat_exact n e.0 m) ∙ one)
    by Equal m rest (inr i) = inr (inr i)
    by Greater m rest (inl one) = inr (inl one)
    by Greater m rest (inr i) = elim (rest i) [ inl one ↦ inl one | inr j ↦ inr (inr j) ]

-- the last of some, and those before it, stand among them
pub last_in : (ps : Previous) (l : (ℕ × Document) × Previous) → last_of ps ≡ Some l → IsIn l.0 ps × ((f : ℕ × Document) → IsIn f l.1 → IsIn f ps)
last_in [] l h = absurd (false≢true (ap is_some h))
last_in (e ∷ ps) l h = by (last_of ps) refl (λ m is. last_in ps m is) h
  where
    at : Option ((ℕ × Document) × Previous) → (ℕ × Document) × Previous
    at None = (e, [])
    at (Some m) = (m.0, e ∷ m.1)

    same : (a b : (ℕ × Document) × Previous) → ◌≡◌ {A = Option ((ℕ × Document) × Previous)} (Some a) (Some b) → a ≡ b
    same a b g = cc

    by : (o : Option ((ℕ × Document) × Previous)) → last_of ps ≡ o → ((m : (ℕ × Document) × Previous) → last_of ps ≡ Some m → IsIn m.0 ps × ((f : ℕ × Document) → IsIn f m.1 → IsIn f ps)) → ◌≡◌ {A = Option ((ℕ × Document) × Previous)} (Some (at o)) (Some l)
        → IsIn l.0 (e ∷ ps) × ((f : ℕ × Document) → IsIn f l.1 → IsIn f (e ∷ ps))
    by None is rest g = subst (λ (m : (ℕ × Document) × Previous). IsIn m.0 (e ∷ ps) × ((f : ℕ × Document) → IsIn f m.1 → IsIn f (e ∷ ps))) (same (e, []) l g) (inl refl, λ f i. absurd i)
    by (Some m) is rest g =
        let r = rest m is in
        subst (λ (m : (ℕ × Document) × Previous). IsIn m.0 (e ∷ ps) × ((f : ℕ × Document) → IsIn f m.1 → IsIn f (e ∷ ps))) (same (m.0, e ∷ m.1) l g) (inr r.0, λ f i. elim i [ inl one ↦ inl one | inr j ↦ inr (r.1 f j) ])

-- ---- numbers

-- a number that is among some
pub number_among : (ns : List ℕ) (e : PrevEntry) (n : ℕ) → IsIn n ns → e.number ≡ n → is_number_of ns e ≡ true
number_among [] e n i same = absurd i
number_among (m ∷ ns) e n (inl one) same = ap (λ b. b || is_number_of ns e) (ap (λ (k : ℕ). k == m) (same ∙ sym one) ∙ number_own m)
  where
    number_own : (k : ℕ) → (k == k) ≡ true
    number_own k = grind (arith, nat_tests)
number_among (m ∷ ns) e n (inr i) same = right (e.number == m) (is_number_of ns e) (number_among ns e n i same)
  where
    right : (a b : Bool) → b ≡ true → (a || b) ≡ true
    right true b h = refl
    right false b h = h

-- the number of an entry is among theirs
pub entry_among : (es : List PrevEntry) (e : PrevEntry) → IsIn e es → is_number_of (map (λ (e : PrevEntry). e.number) es) e ≡ true
entry_among es e i = number_among (map (λ (e : PrevEntry). e.number) es) e e.number (mapped es i) refl
  where
    mapped : (es : List PrevEntry) → IsIn e es → IsIn e.number (map (λ (e : PrevEntry). e.number) es)
    mapped [] i = absurd i
    mapped (f ∷ es) (inl one) = inl (ap (λ (g : PrevEntry). g.number) one)
    mapped (f ∷ es) (inr i) = inr (mapped es i)

-- each number of a list of entries is one of them
pub number_of_one : (es : List PrevEntry) (n : ℕ) → IsIn n (map (λ (e : PrevEntry). e.number) es) → (e : PrevEntry) × IsIn e es × (e.number ≡ n)
number_of_one [] n i = absurd i
number_of_one (f ∷ es) n (inl one) = (f, inl refl, one)
number_of_one (f ∷ es) n (inr i) = let r = number_of_one es n i in (r.0, inr r.1, r.2)

-- where the number of an entry is among those that pass a test, one of them has it
pub passing_number : (test : PrevEntry → Bool) (es : List PrevEntry) (e : PrevEntry) → is_number_of (map (λ (e : PrevEntry). e.number) (filter test es)) e ≡ true → (f : PrevEntry) × IsIn f es × (test f ≡ true) × (e.number ≡ f.number)
passing_number test [] e h = absurd (false≢true h)
passing_number test (f ∷ es) e h = by (test f) refl h (λ g. passing_number test es e g)
  where
    at : (b : Bool) → (e.number == f.number) ≡ b → (b || is_number_of (map (λ (e : PrevEntry). e.number) (filter test es)) e) ≡ true → test f ≡ true → (is_number_of (map (λ (e : PrevEntry). e.number) (filter test es)) e ≡ true → (f : PrevEntry) × IsIn f es × (test f ≡ true) × (e.number ≡ f.number)) → (g : PrevEntry) × IsIn g (f ∷ es) × (test g ≡ true) × (e.number ≡ g.number)
    at true m g passes rest = (f, inl refl, passes, number_same e.number f.number m)
    at false m g passes rest = let r = rest g in (r.0, inr r.1, r.2, r.3)

    by : (b : Bool) → test f ≡ b → is_number_of (map (λ (e : PrevEntry). e.number) (cond b (f ∷ filter test es) (filter test es))) e ≡ true → (is_number_of (map (λ (e : PrevEntry). e.number) (filter test es)) e ≡ true → (f : PrevEntry) × IsIn f es × (test f ≡ true) × (e.number ≡ f.number)) → (g : PrevEntry) × IsIn g (f ∷ es) × (test g ≡ true) × (e.number ≡ g.number)
    by true passes g rest = at (e.number == f.number) refl g passes rest
    by false passes g rest = let r = rest g in (r.0, inr r.1, r.2, r.3)

-- what passes a test is among those that pass
pub in_passing : {A : Type 0} (test : A → Bool) (es : List A) (e : A) → IsIn e es → test e ≡ true → IsIn e (filter test es)
in_passing test [] e i h = absurd i
in_passing test (f ∷ es) e i h = by (test f) refl i (λ j. in_passing test es e j h)
  where
    by : (b : Bool) → test f ≡ b → IsIn e (f ∷ es) → (IsIn e es → IsIn e (filter test es)) → IsIn e (cond b (f ∷ filter test es) (filter test es))
    by true m (inl one) rest = inl one
    by true m (inr j) rest = inr (rest j)
    by false m (inl one) rest = absurd (false≢true (sym m ∙ (ap test one ∙ h)))
    by false m (inr j) rest = rest j

-- and what is among those that pass stood there and passes
pub of_passing : {A : Type 0} (test : A → Bool) (es : List A) (e : A) → IsIn e (filter test es) → IsIn e es × (test e ≡ true)
of_passing test [] e i = absurd i
of_passing test (f ∷ es) e i = by (test f) refl i (λ j. of_passing test es e j)
  where
    by : (b : Bool) → test f ≡ b → IsIn e (cond b (f ∷ filter test es) (filter test es)) → (IsIn e (filter test es) → IsIn e es × (test e ≡ true)) → IsIn e (f ∷ es) × (test e ≡ true)
    by true m (inl one) rest = (inl one, ap test (sym one) ∙ m)
    by true m (inr j) rest = let r = rest j in (inr r.0, r.1)
    by false m j rest = let r = rest j in (inr r.0, r.1)

-- ---- a table

-- each document of a table in order is found under its id
pub each_there : (es : List (DocId × Document)) → is_sorted id_cmp es ≡ true → AllByRecursion (λ (e : DocId × Document). lookup (is_at (id_cmp e.0)) es ≡ Some e.1) es
each_there es sorted = over es es (λ e i. i) sorted
  where
    over : (fs all : List (DocId × Document)) → ((e : DocId × Document) → IsIn e fs → IsIn e all) → is_sorted id_cmp all ≡ true → AllByRecursion (λ (e : DocId × Document). lookup (is_at (id_cmp e.0)) all ≡ Some e.1) fs
    over [] all within s = tt
    over (f ∷ fs) all within s = (in_found id_cmp id_total f.0 f.1 all s (within f (inl refl)), over fs all (λ e i. within e (inr i)) s)
