-- Which entry JSON is, by its parts.
use Rattle.std.proofs.Common.{◌≡◌, ◌≢◌, ◌∙◌, ℕ, ◌-◌, ◌<◌, ◌≤◌, Bool, true, false, cond, List, [], ◌∷◌, Option, Some, None, ap, arith, bytes_eq, codes, drop, length, refl, sym, take}
use Rattle.serde_json.specs.Data.{Data, Items, null, number, string, array, no_items, item, unsigned}
use Rattle.serde_json.specs.Events.{items_len}
use Rattle.serde_json.specs.View.{items_view}
use Rattle.serde_json.specs.declared.value.Value as json
use Rattle.jr_script.specs.Schedules.{IsEntry, json_of}
use Rattle.jr_script.specs.declared.script.Entry.{Entry}
use Rattle.jr_script.specs.declared.script.Entry.TheVariants as entry
use Rattle.jr_script.proofs.Sessions.{as_many}
use mathlib.Core.Bool.{false≢true}

-- ---- parts of JSON

-- the number, if it is a whole one
abbrev pub number_in : Data → ℕ
number_in (number (unsigned n)) = n
number_in _ = 0

abbrev is_list : Data → Bool
is_list (array ds) = true
is_list _ = false

abbrev items_in : Data → Items
items_in (array ds) = ds
items_in _ = no_items

abbrev first_in : Items → Data
first_in (item d ds) = d
first_in no_items = null

abbrev rest_in : Items → Items
rest_in (item d ds) = ds
rest_in no_items = no_items

-- ---- the entry of a word

abbrev plain : ℕ → List ℕ → Option Entry
plain s w = cond (bytes_eq w (codes "draw")) (Some (entry.Draw s)) (cond (bytes_eq w (codes "last")) (Some (entry.Last s)) (cond (bytes_eq w (codes "read")) (Some (entry.Read s)) None))

abbrev repeated : ℕ → List ℕ → ℕ → Option Entry
repeated s w n = cond (bytes_eq w (codes "say")) (Some (entry.Say s n)) (cond (bytes_eq w (codes "write")) (Some (entry.Write s n)) None)

abbrev word_in : Data → List ℕ
word_in (string w) = w
word_in _ = []

-- the entry that JSON is, if it is one
abbrev back_more : ℕ → List ℕ → Items → Option Entry
back_more s w no_items = plain s w
back_more s w (item d ds) = repeated s w (number_in d)

abbrev back : Data → Option Entry
back (array ds) = back_more (number_in (first_in ds)) (word_in (first_in (rest_in ds))) (rest_in (rest_in ds))
back d = Some (entry.Turn (number_in d))

back_json : (e : Entry) → back (json_of e) ≡ Some e
back_json (entry.Turn s) = refl
back_json (entry.Say s n) = refl
back_json (entry.Draw s) = refl
back_json (entry.Write s n) = refl
back_json (entry.Last s) = refl
back_json (entry.Read s) = refl

abbrev or_else : {X : Type 0} → X → Option X → X
or_else x None = x
or_else x (Some y) = y

pub one_entry : (sessions : ℕ) (d : Data) (e f : Entry) → IsEntry sessions d e → IsEntry sessions d f → e ≡ f
one_entry sessions d e f h g = ap (or_else e) (sym (back_json e) ∙ ap back (sym h.0 ∙ g.0) ∙ back_json f)

-- ---- JSON that is no entry

pub other_length : (sessions : ℕ) (ds : Items) → items_len ds ≢ 2 → items_len ds ≢ 3 → (e : Entry) → IsEntry sessions (array ds) e → ⊥
other_length sessions ds two three (entry.Turn s) p = absurd (false≢true (sym (ap is_list p.0)))
other_length sessions ds two three (entry.Say s k) p = three (ap (λ d. items_len (items_in d)) p.0)
other_length sessions ds two three (entry.Draw s) p = two (ap (λ d. items_len (items_in d)) p.0)
other_length sessions ds two three (entry.Write s k) p = three (ap (λ d. items_len (items_in d)) p.0)
other_length sessions ds two three (entry.Last s) p = two (ap (λ d. items_len (items_in d)) p.0)
other_length sessions ds two three (entry.Read s) p = two (ap (λ d. items_len (items_in d)) p.0)

not_two : (n m : ℕ) → n ≡ m → m < 2 → n ≢ 2
not_two n m same short is = omega (arith, same, short, is)

not_three : (n m : ℕ) → n ≡ m → m < 2 → n ≢ 3
not_three n m same short is = omega (arith, same, short, is)

-- a list of less than two items, or of more than three
pub short_list : (sessions : ℕ) (vs : List json.Value) → length vs < 2 → (e : Entry) → IsEntry sessions (array (items_view vs)) e → ⊥
short_list sessions vs short = other_length sessions (items_view vs) (not_two _ _ (as_many vs) short) (not_three _ _ (as_many vs) short)

past_two : (n m : ℕ) → n ≡ m → 4 ≤ m → n ≢ 2
past_two n m same long is = omega (arith, same, long, is)

past_three : (n m : ℕ) → n ≡ m → 4 ≤ m → n ≢ 3
past_three n m same long is = omega (arith, same, long, is)

-- at least two items behind the first two
long_rest : (vs : List json.Value) → 2 ≤ length (take (length vs - 2) (drop 2 vs)) → 4 ≤ length vs
long_rest [] h = absurd (omega (arith, h))
long_rest (u ∷ []) h = absurd (omega (arith, h))
long_rest (u ∷ v ∷ []) h = absurd (omega (arith, h))
long_rest (u ∷ v ∷ w ∷ []) h = absurd (omega (arith, h))
long_rest (u ∷ v ∷ w ∷ x ∷ vs) h = omega arith

pub long_list : (sessions : ℕ) (vs : List json.Value) → 2 ≤ length (take (length vs - 2) (drop 2 vs)) → (e : Entry) → IsEntry sessions (array (items_view vs)) e → ⊥
long_list sessions vs long = other_length sessions (items_view vs) (past_two _ _ (as_many vs) (long_rest vs long)) (past_three _ _ (as_many vs) (long_rest vs long))
