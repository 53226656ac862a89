-- The keys by which rows are ordered, and that all the orders are total.
use Rattle.std.specs.Prelude.{◌≡◌, ℕ, ℤ, pos, Bool, false, List, [], Option, map}
use Rattle.std.proofs.Common.{ap, refl, sym, subst, true≢false}
use Rattle.std.specs.Ordering.{bool_cmp, int_cmp, is_gt, is_lt, nat_cmp, on, ordering_reverse, ordering_then, then_cmp}
use Rattle.std.specs.Option.{option_map}
use Rattle.std.specs.Cmp.{IsTotalOrder, back_total, bool_cmp_total, int_cmp_total, nat_cmp_total, on_total, then_total}
use Rattle.std.specs.Cmp.Lexicographic.{lists_total, nat_list_cmp_total, options_total, slice_cmp}
use Rattle.std.specs.declared.cmp.Ordering.{Ordering}
use Rattle.std.specs.declared.cmp.Ordering.TheVariants.{Less, Equal, Greater}
use Rattle.jr_path.specs.Ids.{path_text}
use Rattle.jr_path.specs.Names.{name_cmp}
use Rattle.jr_value.specs.Values.{kind_of, kind_number}
use Rattle.jr_value.specs.declared.value.Value.{Value}
use Rattle.jr_value.specs.declared.value.Value.TheVariants as value
use Rattle.jr_value.specs.declared.value.Property.{Property}
use Rattle.sql_query.specs.declared.query.Direction.{Direction}
use Rattle.sql_query.specs.declared.query.Direction.TheVariants.{Ascending, Descending}
use Rattle.sql_query.specs.declared.query.Order.{Order}
use Rattle.sql_eval.specs.declared.key.Key.{Key}
use Rattle.sql_eval.specs.declared.key.Key.TheVariants.{Rising, Falling}
use Rattle.sql_eval.specs.declared.key.Ranked.{Ranked}
use Rattle.sql_values.specs.Values.{kinds_first, missing_first, values_of}
use Rattle.sql_eval.specs.Conditions.{Spot, Tuple, operand_of}
use Rattle.sql_eval.specs.Rows.{by_paths}

-- what an order looks at in a tuple, in its direction
abbrev pub key_in : Direction → Option Property → Key
key_in Ascending o = Rising o
key_in Descending o = Falling o

-- the key of a tuple by one order of a query, in the direction of that order
abbrev pub key_of : Tuple → Order → Key
key_of t o = key_in o.direction (operand_of t o.operand)

-- a tuple with its keys by all orders of a query
abbrev pub ranked_of : List Order → Tuple → Ranked
ranked_of orders t = record { keys = map (key_of t) orders; tuple = t }

-- keys of one direction in this direction; those of two directions, which no query compares, the rising first
abbrev pub order_cmp : Key → Key → Ordering
order_cmp (Rising a) (Rising b) = missing_first a b
order_cmp (Falling a) (Falling b) = missing_first b a
order_cmp (Rising a) (Falling b) = Less
order_cmp (Falling a) (Rising b) = Greater

-- by the keys, the first first
abbrev pub ranked_cmp : Ranked → Ranked → Ordering
ranked_cmp = on (λ r. r.keys) (slice_cmp order_cmp)

-- what a value has of each sort, by which values of one kind are ordered
abbrev number_in : Value → ℤ
number_in (value.Long n) = n
number_in (value.Date n) = n
number_in _ = pos 0

abbrev truth_in : Value → Bool
truth_in (value.Boolean b) = b
truth_in _ = false

abbrev identifier_in : Value → ℕ
identifier_in (value.Reference id) = id
identifier_in (value.WeakReference id) = id
identifier_in _ = 0

abbrev bytes_in : Value → List ℕ
bytes_in (value.Str t) = t
bytes_in (value.Binary bytes) = bytes
bytes_in (value.Name n) = n
bytes_in (value.Path p) = path_text p
bytes_in (value.Uri t) = t
bytes_in _ = []

abbrev kind_in : Value → ℕ
kind_in x = kind_number (kind_of x)

abbrev sorts_cmp : Value → Value → Ordering
sorts_cmp = then_cmp (on kind_in nat_cmp) (then_cmp (on number_in int_cmp) (then_cmp (on truth_in bool_cmp) (then_cmp (on identifier_in nat_cmp) (on bytes_in name_cmp))))

sorts_total : IsTotalOrder sorts_cmp
sorts_total =
    then_total (on_total kind_in nat_cmp_total)
    (then_total (on_total number_in int_cmp_total) (then_total (on_total truth_in bool_cmp_total) (then_total (on_total identifier_in nat_cmp_total) (on_total bytes_in nat_list_cmp_total))))

then_equal : (o : Ordering) → ordering_then o Equal ≡ o
then_equal Less = refl
then_equal Equal = refl
then_equal Greater = refl

same : (x y : Value) → sorts_cmp x y ≡ kinds_first x y
same (value.Str a) (value.Str b) = refl
same (value.Binary a) (value.Binary b) = refl
same (value.Name a) (value.Name b) = refl
same (value.Path a) (value.Path b) = refl
same (value.Uri a) (value.Uri b) = refl
same (value.Long a) (value.Long b) = then_equal (int_cmp a b)
same (value.Date a) (value.Date b) = then_equal (int_cmp a b)
same (value.Boolean a) (value.Boolean b) = then_equal (bool_cmp a b)
same (value.Reference a) (value.Reference b) = then_equal (nat_cmp a b)
same (value.WeakReference a) (value.WeakReference b) = then_equal (nat_cmp a b)
same _ _ = refl

-- the order of values by their kinds, and within a kind by what they are, is total
pub kinds_first_total : IsTotalOrder kinds_first
kinds_first_total = subst IsTotalOrder (λ i x y. same x y i) sorts_total

-- the order of properties that has a missing one first is total
pub missing_first_total : IsTotalOrder missing_first
missing_first_total = on_total (option_map values_of) (options_total (lists_total kinds_first_total))

-- the order of tuples by the paths of their nodes is total
pub by_paths_total : IsTotalOrder by_paths
by_paths_total = lists_total (options_total (on_total (λ (e : Spot). e.0) (lists_total nat_list_cmp_total)))

keys_antisymm : (x y : Key) → order_cmp x y ≡ ordering_reverse (order_cmp y x)
keys_antisymm (Rising a) (Rising b) = missing_first_total.antisymm a b
keys_antisymm (Falling a) (Falling b) = missing_first_total.antisymm b a
keys_antisymm (Rising a) (Falling b) = refl
keys_antisymm (Falling a) (Rising b) = refl

not_less : {X : Type 0} → Greater ≡ Less → X
not_less h = absurd (true≢false (sym (ap is_lt h)))

keys_trans : (x y z : Key) → order_cmp x y ≡ Less → order_cmp y z ≡ Less → order_cmp x z ≡ Less
keys_trans (Rising a) (Rising b) (Rising c) p q = missing_first_total.trans a b c p q
keys_trans (Falling a) (Falling b) (Falling c) p q = missing_first_total.trans c b a q p
keys_trans (Rising a) (Rising b) (Falling c) p q = refl
keys_trans (Rising a) (Falling b) (Falling c) p q = refl
keys_trans (Rising a) (Falling b) (Rising c) p q = not_less q
keys_trans (Falling a) (Rising b) z p q = not_less p
keys_trans (Falling a) (Falling b) (Rising c) p q = not_less q

keys_congr : (x y z : Key) → order_cmp x y ≡ Equal → order_cmp x z ≡ order_cmp y z
keys_congr (Rising a) (Rising b) (Rising c) p = missing_first_total.congr a b c p
keys_congr (Falling a) (Falling b) (Falling c) p = (back_total missing_first_total).congr a b c p
keys_congr (Rising a) (Rising b) (Falling c) p = refl
keys_congr (Falling a) (Falling b) (Rising c) p = refl
keys_congr (Rising a) (Falling b) z p = absurd (true≢false (ap is_lt p))
keys_congr (Falling a) (Rising b) z p = absurd (true≢false (ap is_gt p))

-- the order of keys is total
pub key_cmp_total : IsTotalOrder order_cmp
key_cmp_total = record { antisymm = keys_antisymm; trans = keys_trans; congr = keys_congr }

-- the order of tuples by their keys is total
pub ranked_cmp_total : IsTotalOrder ranked_cmp
ranked_cmp_total = on_total (λ r. r.keys) (lists_total key_cmp_total)
