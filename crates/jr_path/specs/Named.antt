-- Whether a text is a name, as a test.
use Rattle.std.specs.Prelude.{ℕ, Bool, false, cond, not, ◌&&◌, ◌||◌, ◌==◌, nat_le, List, [], ◌∷◌, Option, None, Some, length, codes}
use Rattle.std.specs.List.{list_all}
use Rattle.std.specs.Option.{option_map, option_map_or}
use Rattle.std.specs.Str.{bytes_eq, chars, is_utf8}
use Rattle.jr_path.specs.Grammar.{is_plain, is_prefix_character}

-- the characters before the first colon (58), and those behind it
abbrev pub at_colon : List ℕ → Option (List ℕ × List ℕ)
at_colon [] = None
at_colon (c ∷ cs) = cond (c == 58) (Some ([], cs)) (option_map (λ e. (c ∷ e.0, e.1)) (at_colon cs))

-- one or more characters that all pass
abbrev pub is_run_of : (ℕ → Bool) → List ℕ → Bool
is_run_of passes [] = false
is_run_of passes (c ∷ cs) = list_all passes (c ∷ cs)

-- a prefix, a colon and plain characters
abbrev pub is_prefixed : List ℕ → Bool
is_prefixed cs = option_map_or
    (λ e. is_run_of is_prefix_character e.0 && is_run_of is_plain e.1) (at_colon cs) false

-- the first character is a space (32)
abbrev pub begins_with_space : List ℕ → Bool
begins_with_space [] = false
begins_with_space (c ∷ cs) = c == 32

-- the last character is a space
abbrev pub ends_with_space : List ℕ → Bool
ends_with_space [] = false
ends_with_space (c ∷ []) = c == 32
ends_with_space (c ∷ d ∷ cs) = ends_with_space (d ∷ cs)

-- the characters are plain, or a prefix, a colon and plain ones
abbrev pub is_formed : List ℕ → Bool
is_formed cs = is_run_of is_plain cs || is_prefixed cs

-- no character at either end is a space
abbrev pub is_trimmed : List ℕ → Bool
is_trimmed cs = not (begins_with_space cs) && not (ends_with_space cs)

-- the text is neither `.` nor `..`
abbrev pub is_no_dots : List ℕ → Bool
is_no_dots text = not (bytes_eq text (codes ".")) && not (bytes_eq text (codes ".."))

-- a text in UTF-8 of at most 255 bytes whose characters a name may have
unfoldable pub is_name : List ℕ → Bool
is_name text = is_utf8 text && (is_formed (chars text)
    && (is_trimmed (chars text) && (nat_le (length text) 255 && is_no_dots text)))
