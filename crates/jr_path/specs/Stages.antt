-- How a name is read, character by character.
use Rattle.std.specs.Prelude.{ℕ, ◌+◌, ◌==◌, cond, nat_le, nat_lt, Option, None, Some, Result, Ok, Err}
use Rattle.std.specs.Char.{len_utf8}
use Rattle.jr_path.specs.Grammar.{is_plain, is_prefix_character}
use Rattle.jr_path.specs.declared.name.Stage.{Stage}
use Rattle.jr_path.specs.declared.name.Stage.TheVariants.{Start, Prefix, Whole, Open}

-- the stage behind a colon, which stands once, behind a prefix
abbrev pub after_colon : Stage → Option Stage
after_colon Prefix = Some Open
after_colon _ = None

-- the stage behind a space, with which no name begins
abbrev pub after_space : Stage → Option Stage
after_space Start = None
after_space _ = Some Open

-- the stage behind a character that a prefix may have: a prefix stays one
abbrev pub after_prefix : Stage → Stage
after_prefix Start = Prefix
after_prefix Prefix = Prefix
after_prefix _ = Whole

-- the stage behind one more character, if a name can have it there
abbrev pub stage_after : Stage → ℕ → Option Stage
stage_after s c =
    cond (c == 58) (after_colon s) (cond (c == 32) (after_space s) (cond (is_plain c) (cond (is_prefix_character c) (Some (after_prefix s)) (Some Whole)) None))

-- how many bytes must still follow at least
abbrev pub missing : Stage → ℕ
missing Start = 1
missing Prefix = 0
missing Whole = 0
missing Open = 1

-- with a character at an offset: the stage behind it, or where the first fault is. A character of two bytes
-- or more begins like others that a name may have there.
abbrev pub step_with : ℕ → ℕ → Option Stage → Result Stage ℕ
step_with offset c None = Err (cond (nat_lt c 128) offset (cond (nat_le (offset + len_utf8 c) 255) (offset + 1) offset))
step_with offset c (Some t) = cond (nat_le (offset + len_utf8 c + missing t) 255) (Ok t) (Err offset)

-- what a further character comes to: the next stage, or the offset of the fault
abbrev pub step_of : Stage → ℕ → ℕ → Result Stage ℕ
step_of s offset c = step_with offset c (stage_after s c)
