-- The text of an identifier by the number of its session.
use Rattle.std.proofs.Common.{◌≡◌, ℕ, ◌+◌, ◌*◌, ◌%◌, ◌^◌, sym, ap, ◌∙◌}
use Rattle.jr_value.specs.Words.{identifier_text}
use Rattle.jr_tree.specs.declared.shared.Who.{Who}
use Rattle.jcr_ref.specs.References.{identifier, identifier_number, uuid_text}
use Rattle.jcr_frozen.specs.Histories.{drawn_id}

-- sessions whose last 24 bits are the same have the same identifiers
same_text : ((s c : ℕ) → identifier_text (identifier_number s c) ≡ identifier s c) → ((n : ℕ) → identifier_text n ≡ uuid_text n) → (a b c : ℕ) → a % 2 ^ 24 ≡ b % 2 ^ 24
    → identifier a c ≡ uuid_text (identifier_number b c)
same_text printed texts a b c h = sym (printed a c) ∙ (texts (identifier_number a c) ∙ ap (λ k. uuid_text (0x40008000 * 2 ^ 48 + k * 2 ^ 24 + c % 2 ^ 24)) h)

pub drawn_text : ((s c : ℕ) → identifier_text (identifier_number s c) ≡ identifier s c) → ((n : ℕ) → identifier_text n ≡ uuid_text n) → (a : ℕ) (who : Who) → a % 2 ^ 24 ≡ (who.session + who.earlier) % 2 ^ 24
    → identifier a (who.ids + 1) ≡ drawn_id who
unfolding drawn_id
drawn_text printed texts a who h = same_text printed texts a (who.session + who.earlier) (who.ids + 1) h
