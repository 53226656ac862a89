-- What is read of JSON, by what is read of its parts.
use Rattle.std.proofs.Common.{arith, ◌<◌, ◌≤◌, ◌+◌, zero, suc, length, take, ◌++◌, get_or, ◌≡◌, ℕ, Bool, true, false, Result, Ok, Err, Option, Some, None, List, [], ◌∷◌, refl, sym, ap, ◌∙◌, subst}
use Rattle.std.specs.Result.{IsErrAnd}
use Rattle.std.specs.Prelude.{codes}
use Rattle.std.specs.Option.{option_map_or}
use Rattle.std.specs.Str.{bytes_eq}
use Rattle.std.proofs.lemmas.Bool.{false≢true}
use Rattle.std.proofs.lemmas.Slice.Eq.{bytes_eq-Decides}
use Rattle.jr_json.specs.Reading.{IsPropertyJson, IsValueFault}
use Rattle.jr_json.specs.declared.fault.ValueFault.{ValueFault}
use Rattle.jr_json.specs.declared.fault.ValueFault.TheVariants as values
use Rattle.jr_json.specs.declared.fault.ValueFault.TheVariants.{ValueFormat}
use Rattle.jr_value.specs.declared.value.Kind.{Kind}
use Rattle.jr_value.specs.declared.value.Property.TheVariants.{Many}
use Rattle.jr_value.specs.declared.value.Value.{Value as Val}
use Rattle.std.proofs.lemmas.Option.{none-some}
use Rattle.std.proofs.lemmas.List.{take_more}
use Rattle.serde_json.specs.View.{items_view, view}
use Rattle.serde_json.specs.declared.value.Value.{Value}
use Rattle.serde_json.specs.Data.{Data, Items, Members, item, no_items, null, boolean, number, string, array, object}
use Rattle.serde_json.specs.Find.{as_array, as_bool, as_object, as_str}
use Rattle.jr_path.specs.Grammar.{IsName, RefusesName}
use Rattle.jr_path.specs.declared.name.Name.{Name}
use Rattle.jr_path.specs.declared.fault.PathFault.{PathFault}
use Rattle.jr_path.specs.declared.fault.PathFault.TheVariants.{BadName, Memory}
use Rattle.jr_value.proofs.Texts.{fault_refuses}
use Rattle.jr_defs.specs.declared.reading.NoType.{NoType}
use Rattle.jr_defs.specs.declared.reading.NoType.TheVariants as no
use Rattle.jr_defs.specs.Reading.{AreDefaultsJson, AreRead, IsItemNameJson, IsNameJson, unread_values, IsOr, IsSomeNameJson, IsThere, Reads, have_keys, is_object_of, refused}

-- a part can't be read, so the whole can't
pub exits : {X Y : Type 0} (P : X → Type 0) (Q : Y → Type 0) (f : NoType) (r : Result Y NoType) → IsErrAnd r (λ e. e ≡ f) → Reads P (Err f) → ((y : Y) → Q y → (x : X) × P x) → Reads Q r
exits P Q f (Ok y) h g k = absurd h
exits P Q no.NoDefinition (Err e) h g k = subst (λ e. Reads Q (Err e)) (sym h) (λ y q. let x = k y q in g x.0 x.1)
exits P Q no.Memory (Err e) h g k = subst (λ e. Reads Q (Err e)) (sym h) tt

-- the JSON is a truth value, a text or a list, where it is read as one
pub is_truth : (d : Data) (b : Bool) → as_bool d ≡ Some b → d ≡ boolean b
is_truth null b h = absurd (none-some b h)
is_truth (boolean a) b h = ap (λ o. boolean (value o)) h
  where
    value : Option Bool → Bool
    value None = a
    value (Some c) = c
is_truth (number n) b h = absurd (none-some b h)
is_truth (string s) b h = absurd (none-some b h)
is_truth (array ds) b h = absurd (none-some b h)
is_truth (object ms) b h = absurd (none-some b h)

pub no_name : (text : List ℕ) (e : PathFault) → RefusesName text e → Reads (λ (n : List ℕ). (n ≡ text) × IsName text) (Err (refused e))
no_name text (BadName offset) h = λ n g. fault_refuses IsName text offset h g.1
no_name text Memory h = tt
no_name text e h = absurd h

-- ---- lists

-- one item more
read_one : {X : Type 0} (IsRead : Data → X → Type 0) (us : List Value) (xs : List X) (v : Value) (x : X) → AreRead IsRead (items_view us) xs → IsRead (view v) x → AreRead IsRead (items_view (us ++ v ∷ [])) (xs ++ x ∷ [])
read_one IsRead [] [] v x h g = (g, tt)
read_one IsRead [] (y ∷ xs) v x h g = absurd h
read_one IsRead (u ∷ us) [] v x h g = absurd h
read_one IsRead (u ∷ us) (y ∷ xs) v x h g = (h.0, read_one IsRead us xs v x h.1 g)

pub read_more : {X : Type 0} (IsRead : Data → X → Type 0) (vs : List Value) (i : ℕ) (v : Value) (old new : List X) (x : X) → i < length vs → v ≡ get_or vs i v
    → AreRead IsRead (items_view (take i vs)) old → IsRead (view v) x → new ≡ old ++ x ∷ [] → AreRead IsRead (items_view (take (i + 1) vs)) new
read_more IsRead vs i v old new x l at h g put = subst (λ us. AreRead IsRead (items_view us) new) (sym (take_more vs i v l ∙ ap (λ w. take i vs ++ w ∷ []) (sym at)))
    (subst (λ xs. AreRead IsRead (items_view (take i vs ++ v ∷ [])) xs) (sym put) (read_one IsRead (take i vs) old v x h g))

past : {X : Type 0} (vs : List X) (i : ℕ) → length vs ≤ i → take i vs ≡ vs
past [] zero l = refl
past [] (suc i) l = refl
past (v ∷ vs) zero l = absurd (none l)
  where
    none : length (v ∷ vs) ≤ 0 → ⊥
    none l = omega arith
past (v ∷ vs) (suc i) l = ap (λ us. v ∷ us) (past vs i (let m : length vs ≤ i = omega arith in m))

pub read_all : {X : Type 0} (IsRead : Data → X → Type 0) (vs : List Value) (i : ℕ) (xs : List X) → length vs ≤ i → AreRead IsRead (items_view (take i vs)) xs → AreRead IsRead (items_view vs) xs
read_all IsRead vs i xs l h = subst (λ us. AreRead IsRead (items_view us) xs) (past vs i l) h

-- what is read of an item
read_at : {X : Type 0} (IsRead : Data → X → Type 0) (vs : List Value) (xs : List X) (i : ℕ) (v : Value) → AreRead IsRead (items_view vs) xs → i < length vs → v ≡ get_or vs i v → (x : X) × IsRead (view v) x
read_at IsRead [] xs i v h l at = absurd (none l)
  where
    none : i < 0 → ⊥
    none l = omega arith
read_at IsRead (u ∷ vs) [] i v h l at = absurd h
read_at IsRead (u ∷ vs) (y ∷ xs) zero v h l at = (y, subst (λ w. IsRead (view w) y) (sym at) h.0)
read_at IsRead (u ∷ vs) (y ∷ xs) (suc i) v h l at = read_at IsRead vs xs i v h.1 (let m : i < length vs = omega arith in m) at

pub read_stop : {X : Type 0} (IsRead : Data → X → Type 0) (vs : List Value) (i : ℕ) (v : Value) (f : NoType) (r : Result (List X) NoType) → i < length vs → v ≡ get_or vs i v
    → IsErrAnd r (λ e. e ≡ f) → Reads (IsRead (view v)) (Err f) → Reads (AreRead IsRead (items_view vs)) r
read_stop IsRead vs i v f r l at h g = exits (IsRead (view v)) (AreRead IsRead (items_view vs)) f r h g (λ xs a. read_at IsRead vs xs i v a l at)

-- ---- members

-- a member that is there
pub member_there : {X : Type 0} (IsRead : Data → X → Type 0) (d : Data) (o : Option Data) (r : Result X NoType) → Some d ≡ o → Reads (IsRead d) r → Reads (IsThere IsRead o) r
member_there IsRead d o r e h = subst (λ o. Reads (IsThere IsRead o) r) e h

pub member_given : {X : Type 0} (left : X) (IsRead : Data → X → Type 0) (d : Data) (o : Option Data) (r : Result X NoType) → Some d ≡ o → Reads (IsRead d) r → Reads (IsOr left IsRead o) r
member_given left IsRead d o r e h = subst (λ o. Reads (IsOr left IsRead o) r) e h

pub some_is_name : (d : Data) (o : Option Name) → IsSomeNameJson d o → (n : Name) × IsNameJson d n
some_is_name d None h = absurd h
some_is_name d (Some n) h = (n, h)

same_members : (a b : Members) → Some a ≡ Some b → a ≡ b
same_members a b h = ap (λ o. value o) h
  where
    value : Option Members → Members
    value None = a
    value (Some m) = m

pub of_object : (keys : List (List ℕ)) (d : Data) (ms : Members) (r : Result (Unit {0}) NoType) → as_object d ≡ Some ms → Reads (λ u. have_keys keys ms ≡ true) r → Reads (λ u. is_object_of keys d ≡ true) r
of_object keys null ms r h g = absurd (none-some ms h)
of_object keys (boolean a) ms r h g = absurd (none-some ms h)
of_object keys (number n) ms r h g = absurd (none-some ms h)
of_object keys (string s) ms r h g = absurd (none-some ms h)
of_object keys (array ds) ms r h g = absurd (none-some ms h)
of_object keys (object mine) ms r h g = subst (λ m. Reads (λ u. have_keys keys m ≡ true) r) (sym (same_members mine ms h)) g

-- ---- names of items

star_is : (d : Data) → option_map_or (λ text. bytes_eq text (codes "*")) (as_str d) false ≡ true → d ≡ string (codes "*")
star_is null h = absurd (false≢true h)
star_is (boolean b) h = absurd (false≢true h)
star_is (number n) h = absurd (false≢true h)
star_is (string s) h = ap string ((bytes_eq-Decides s (codes "*")).0 h)
star_is (array ds) h = absurd (false≢true h)
star_is (object ms) h = absurd (false≢true h)

pub star_read : (d : Data) (b : Bool) → b ≡ option_map_or (λ text. bytes_eq text (codes "*")) (as_str d) false → b ≡ true → IsItemNameJson d None
star_read d b e h = star_is d (sym e ∙ h)

pub other_read : (d : Data) (b : Bool) (r : Result (Option Name) NoType) → b ≡ option_map_or (λ text. bytes_eq text (codes "*")) (as_str d) false → b ≡ false → Reads (IsSomeNameJson d) r → Reads (IsItemNameJson d) r
other_read d b (Ok None) e h g = absurd g
other_read d b (Ok (Some n)) e h g = g
other_read d b (Err no.Memory) e h g = tt
other_read d b (Err no.NoDefinition) e h g = by
  where
    star : d ≡ string (codes "*") → ⊥
    star q = false≢true (sym h ∙ (e ∙ ap (λ x. option_map_or (λ text. bytes_eq text (codes "*")) (as_str x) false) q))

    by : (o : Option Name) → IsItemNameJson d o → ⊥
    by None q = star q
    by (Some n) q = g (Some n) q

-- ---- default values

pub values_fault : (d : Data) (e : ValueFault) → IsValueFault d e → Reads (λ (xs : List Val). (k : Kind) × IsPropertyJson d (Many k xs)) (Err (unread_values e))
values_fault d (ValueFormat required found) h = λ xs q. h.0 (Many q.0 xs) q.1
values_fault d values.Memory h = tt

abbrev is_list : Data → Bool
is_list (array ds) = true
is_list _ = false

abbrev has_items : Items → Bool
has_items no_items = false
has_items (item d ds) = true

abbrev items_of_array : Data → Items
items_of_array (array ds) = ds
items_of_array _ = no_items

some_defaults : (ds : Items) (r : Result (List Val) NoType) → has_items ds ≡ true → Reads (λ (xs : List Val). (k : Kind) × IsPropertyJson (array ds) (Many k xs)) r → Reads (AreDefaultsJson (array ds)) r
some_defaults ds (Ok []) h g = absurd (false≢true (sym (ap is_list g.1)))
some_defaults ds (Ok (x ∷ xs)) h g = g
some_defaults ds (Err no.Memory) h g = tt
some_defaults ds (Err no.NoDefinition) h g = by
  where
    by : (xs : List Val) → AreDefaultsJson (array ds) xs → ⊥
    by [] q = false≢true (sym (ap (λ x. has_items (items_of_array x)) q) ∙ h)
    by (x ∷ xs) q = g (x ∷ xs) q

same_items : (a b : Items) → Some a ≡ Some b → a ≡ b
same_items a b h = ap (λ o. value o) h
  where
    value : Option Items → Items
    value None = a
    value (Some m) = m

pub defaults_read : (d : Data) (vs : List Value) (r : Result (List Val) NoType) → as_array d ≡ Some (items_view vs) → 0 < length vs → Reads (λ (xs : List Val). (k : Kind) × IsPropertyJson d (Many k xs)) r → Reads (AreDefaultsJson d) r
defaults_read null vs r e l g = absurd (none-some (items_view vs) e)
defaults_read (boolean b) vs r e l g = absurd (none-some (items_view vs) e)
defaults_read (number n) vs r e l g = absurd (none-some (items_view vs) e)
defaults_read (string s) vs r e l g = absurd (none-some (items_view vs) e)
defaults_read (object ms) vs r e l g = absurd (none-some (items_view vs) e)
defaults_read (array ds) vs r e l g = some_defaults ds r (ap has_items (same_items ds (items_view vs) e) ∙ some vs l) g
  where
    some : (vs : List Value) → 0 < length vs → has_items (items_view vs) ≡ true
    some [] l = grind arith
    some (v ∷ vs) l = refl
