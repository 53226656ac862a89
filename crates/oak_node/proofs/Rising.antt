-- Revisions in their order, and lists of them that rise.
use Rattle.std.proofs.Common.{◌≡◌, ℕ, ◌<◌, true, false, ◌&&◌, inl, inr, refl, sym, ap, subst, ◌∙◌, arith}
use Rattle.std.specs.Prelude.{◌==◌, ◌⊎◌}
use Rattle.std.specs.Ordering.{nat_cmp, is_eq, is_lt, is_le, ordering_reverse, ordering_then}
use Rattle.std.specs.declared.cmp.Ordering.{Ordering}
use Rattle.std.specs.declared.cmp.Ordering.TheVariants.{Less, Equal, Greater}
use Rattle.std.proofs.lemmas.Cmp.{tied_itself}
use Rattle.std.proofs.lemmas.Bool.{false≢true}
use Rattle.std.proofs.lemmas.Bool.Decides.{nat_tests}
use Rattle.jr_rev.specs.declared.revision.Revision.{Revision}
use Rattle.jr_rev.specs.Revisions.{revision_cmp, is_same, is_before, is_at_most}
use Rattle.jr_rev.proofs.Order.{revision_total, revision_exact}

is_less : (o : Ordering) → is_lt o ≡ true → o ≡ Less
is_less Less h = refl
is_less Equal h = absurd (false≢true h)
is_less Greater h = absurd (false≢true h)

pub before_less : (a b : Revision) → is_before a b ≡ true → revision_cmp a b ≡ Less
before_less a b h = is_less (revision_cmp a b) h

pub less_before : (a b : Revision) → revision_cmp a b ≡ Less → is_before a b ≡ true
less_before a b h = ap is_lt h

pub not_before_itself : (a : Revision) → is_before a a ≡ false
not_before_itself a = ap is_lt (tied_itself revision_total a)

pub before_along : (a b c : Revision) → is_before a b ≡ true → is_before b c ≡ true → is_before a c ≡ true
before_along a b c h k = less_before a c (revision_total.trans a b c (before_less a b h) (before_less b c k))

-- none is before another that is before it
pub not_before_back : (a b : Revision) → is_before a b ≡ true → is_before b a ≡ false
not_before_back a b h = ap is_lt (revision_total.antisymm b a ∙ ap ordering_reverse (before_less a b h))

by_order : (o : Ordering) → is_lt o ≡ false → is_lt (ordering_reverse o) ≡ false → o ≡ Equal
by_order Less h k = absurd (false≢true (sym h))
by_order Equal h k = refl
by_order Greater h k = absurd (false≢true (sym k))

-- where neither of two is before the other, they are the same
pub same_revision : (a b : Revision) → is_before a b ≡ false → is_before b a ≡ false → a ≡ b
same_revision a b h k = revision_exact a b (by_order (revision_cmp a b) h (ap is_lt (sym (revision_total.antisymm b a)) ∙ k))

eq_then : (o p : Ordering) → is_eq (ordering_then o p) ≡ (is_eq o && is_eq p)
eq_then Less p = refl
eq_then Equal p = refl
eq_then Greater p = refl

eq_numbers : (a b : ℕ) → is_eq (nat_cmp a b) ≡ (a == b)
eq_numbers a b = grind (arith, nat_tests)

-- `==` on revisions, field by field
pub same_fields : (a b : Revision) → is_same a b ≡ ((a.time == b.time) && ((a.counter == b.counter) && (a.cluster == b.cluster)))
same_fields a b = rw (eq_then, eq_then, eq_numbers a.time b.time, eq_numbers a.counter b.counter, eq_numbers a.cluster b.cluster) refl

less_time : (a b : ℕ) → a < b → nat_cmp a b ≡ Less
less_time a b h = grind arith

-- a later time decides
pub time_before : (a b : Revision) → a.time < b.time → is_before a b ≡ true
time_before a b h = rw (less_time a.time b.time h) refl

pub at_most_less : (o : Ordering) → is_le o ≡ true → (o ≡ Less) ⊎ (o ≡ Equal)
at_most_less Less h = inl refl
at_most_less Equal h = inr refl
at_most_less Greater h = absurd (false≢true h)

-- before one that is at most a third
pub before_at_most : (a b c : Revision) → is_before a b ≡ true → is_at_most b c ≡ true → is_before a c ≡ true
before_at_most a b c h k =
    elim (at_most_less (revision_cmp b c) k) [
      | inl less ↦ before_along a b c h (less_before b c less)
      | inr same ↦ subst (λ (x : Revision). is_before a x ≡ true) (revision_exact b c same) h
    ]

flipped : (o : Ordering) → is_lt o ≡ false → is_le (ordering_reverse o) ≡ true
flipped Less h = absurd (false≢true (sym h))
flipped Equal h = refl
flipped Greater h = refl

pub not_before_at_most : (a b : Revision) → is_before a b ≡ false → is_at_most b a ≡ true
not_before_at_most a b h = ap is_le (revision_total.antisymm b a) ∙ flipped (revision_cmp a b) h
