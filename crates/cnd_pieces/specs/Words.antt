-- What words mean by themselves, in any case of their letters.
use Rattle.std.specs.Prelude.{ℕ, Bool, List, Option, None, Some, option_map, if◌then◌else◌, find, codes}
use Rattle.std.specs.List.{list_all}
use Rattle.std.specs.Str.{str_eq_ignore_ascii_case}
use Rattle.jr_path.specs.Grammar.{is_prefix_character}
use Rattle.jr_value.specs.Words.{all_kinds, kind_text}
use Rattle.jr_value.specs.declared.value.Kind.{Kind}

-- two words that differ at most in the case of their letters
abbrev pub is_a : List ℕ → List ℕ → Bool
is_a = str_eq_ignore_ascii_case

-- the kind that a word names; `undefined` is none
abbrev pub cnd_kind_named : List ℕ → Option (Option Kind)
cnd_kind_named word =
    if is_a (codes "undefined") word then Some None
    else option_map Some (find (λ k. is_a (kind_text k) word) all_kinds)

-- letters, digits, `_`, `-` and `.`
abbrev pub is_prefix : List ℕ → Bool
is_prefix = list_all is_prefix_character
