-- Constraints on values: ranges of numbers, and literal texts.
use Rattle.std.specs.Prelude.{ℕ, ◌+◌, ◌-◌, ◌^◌, Bool, true, false, cond, not, ◌&&◌, ◌||◌, ◌==◌, nat_le, List, [], ◌∷◌, length, take, drop, slice_index, slice_range, position, Option, None, Some, is_some, option_map, option_and_then, codes, ℤ, pos, negsuc, int_lt, int_le}
use Rattle.std.specs.List.{list_any, list_all}
use Rattle.std.specs.Option.{option_map_or}
use Rattle.std.specs.Str.Parse.{signed_digits_value}
use Rattle.jr_path.specs.Ids.{path_text}
use Rattle.jr_value.specs.declared.value.Kind.{Kind}
use Rattle.jr_value.specs.declared.value.Kind.TheVariants as kind
use Rattle.jr_value.specs.declared.value.Value.{Value}
use Rattle.jr_value.specs.declared.value.Value.TheVariants as value
use Rattle.jr_value.specs.Values.{same_bytes}
use Rattle.jr_constraint.specs.declared.ranges.Range.{Range}

-- the text has a byte
abbrev pub has_bytes : List ℕ → Bool
has_bytes [] = false
has_bytes (c ∷ cs) = true

-- one or more decimal digits
abbrev pub are_digits : List ℕ → Bool
are_digits bs = has_bytes bs && list_all (λ c. nat_le 48 c && nat_le c 57) bs

-- the bytes behind a minus sign
abbrev pub without_minus : List ℕ → List ℕ
without_minus [] = []
without_minus (c ∷ cs) = cond (c == 45) cs (c ∷ cs)

-- the number has 64 bits
abbrev pub is_in_64_bits : ℤ → Bool
is_in_64_bits z = int_le (negsuc (2 ^ 63 - 1)) z && int_le z (pos (2 ^ 63 - 1))

-- a whole number of 64 bits, as digits behind an optional minus sign
abbrev pub number_in : List ℕ → Option ℤ
number_in bs = cond (are_digits (without_minus bs) && is_in_64_bits (signed_digits_value 10 bs))
    (Some (signed_digits_value 10 bs)) None

-- what stands at an end of a range: nothing, or a number
abbrev pub bound_in : List ℕ → Option (Option ℤ)
bound_in [] = Some None
bound_in (c ∷ cs) = option_map Some (number_in (c ∷ cs))

-- the range between two brackets, its ends parted by a comma
abbrev pub range_between : Bool → List ℕ → Bool → Option Range
range_between low_open inner high_open =
    option_and_then (λ comma.
    option_and_then (λ low. option_map
    (λ high. record { low_open = low_open; low = low; high = high; high_open = high_open })
    (bound_in (drop (comma + 1) inner))) (bound_in (take comma inner)))
    (position (λ c. c == 44) inner)

-- the range that a text is: `[` or `(`, an end, a comma, an end, `]` or `)`
abbrev pub range_in : List ℕ → Option Range
range_in bs =
    let first = slice_index bs 0 in
    let last = slice_index bs (length bs - 1) in
    cond ((first == 91 || first == 40) && (last == 93 || last == 41))
    (range_between (first == 40) (slice_range bs 1 (length bs - 1)) (last == 41)) None

-- the number stands in the range
abbrev pub is_in_range : Range → ℤ → Bool
is_in_range r z =
    option_map_or (λ a. cond r.low_open (int_lt a z) (int_le a z)) r.low true
    && option_map_or (λ b. cond r.high_open (int_lt z b) (int_le z b)) r.high true

-- the text is a range in which the number stands
abbrev pub ranges_over : List ℕ → ℤ → Bool
ranges_over c z = option_map_or (λ r. is_in_range r z) (range_in c) false

-- a value meets a constraint: a range for numbers and for a binary's length, the printed text for
-- others, and none for references
abbrev pub meets : Value → List ℕ → Bool
meets (value.Long z) c = ranges_over c z
meets (value.Date z) c = ranges_over c z
meets (value.Binary bs) c = ranges_over c (pos (length bs))
meets (value.Str s) c = same_bytes s c
meets (value.Boolean b) c = same_bytes (cond b (codes "true") (codes "false")) c
meets (value.Name n) c = same_bytes n c
meets (value.Path p) c = same_bytes (path_text p) c
meets (value.Uri s) c = same_bytes s c
meets (value.Reference id) c = false
meets (value.WeakReference id) c = false

-- a literal text has none of `. * + ? [ ] ( ) { } | ^ $ \`
abbrev pub is_literal : List ℕ → Bool
is_literal c = list_all (λ b. not (list_any (λ special. special == b) (codes ".*+?[](){}|^$\\"))) c

-- a definition of that kind may have the constraint
abbrev pub is_constraint : Option Kind → List ℕ → Bool
is_constraint None c = true
is_constraint (Some kind.Long) c = is_some (range_in c)
is_constraint (Some kind.Date) c = is_some (range_in c)
is_constraint (Some kind.Binary) c = is_some (range_in c)
is_constraint (Some kind.Str) c = is_literal c
is_constraint (Some kind.Reference) c = false
is_constraint (Some kind.WeakReference) c = false
is_constraint (Some _) c = true
