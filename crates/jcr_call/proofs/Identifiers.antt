-- The text of an identifier by the last bits of its numbers.
use Rattle.std.proofs.Common.{◌≡◌, ℕ, ◌+◌, ◌*◌, ◌%◌, ◌^◌, sym, ap, ◌∙◌}
use Rattle.jr_value.specs.Words.{identifier_text}
use Rattle.jcr_ref.specs.References.{identifier, identifier_number}

-- an identifier has the last 24 bits of its session's number and of its count
pub same_bits : ((s c : ℕ) → identifier_text (identifier_number s c) ≡ identifier s c)
    → (a b c d : ℕ) → a % 2 ^ 24 ≡ c % 2 ^ 24 → b % 2 ^ 24 ≡ d % 2 ^ 24
    → identifier a b ≡ identifier c d
same_bits printed a b c d h k =
    sym (printed a b)
    ∙ (ap (λ x. identifier_text (0x40008000 * 2 ^ 48 + x * 2 ^ 24 + b % 2 ^ 24)) h
    ∙ (ap (λ x. identifier_text (0x40008000 * 2 ^ 48 + c % 2 ^ 24 * 2 ^ 24 + x)) k ∙ printed c d))
