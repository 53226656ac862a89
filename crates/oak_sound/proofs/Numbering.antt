-- The numbers of the documents so far.
use Rattle.std.proofs.Common.{◌≡◌, ℕ, ◌+◌, Bool, true, false, cond, List, [], ◌∷◌, ◌++◌, Option, None, Some, take, refl, sym, ap, ◌∙◌, arith}
use Rattle.std.specs.Prelude.{◌&&◌, ◌||◌, ◌==◌, ◌^◌, not, is_some, nat_le, nat_lt}
use Rattle.std.specs.BTreeMap.{insert_entry, is_at}
use Rattle.std.specs.List.{list_any}
use Rattle.std.specs.Map.{lookup}
use Rattle.std.specs.Ordering.{eq_by_cmp, is_eq, nat_cmp}
use Rattle.std.proofs.lemmas.Bool.Decides.{nat_tests}
use Rattle.std.proofs.lemmas.Cmp.{nat_cmp_total}
use Rattle.std.proofs.lemmas.List.Folds.{list_any-append}
use Rattle.jr_path.specs.declared.path.DocId.{DocId}
use Rattle.jr_path.proofs.Maps.{lookup-insert_entry}
use Rattle.oak_doc.specs.declared.document.Document.{Document}
use Rattle.oak_sound.specs.Meant.{ById}
use Rattle.oak_sound.specs.Sound.{DocumentRule, first_breaking, keeps_numbers}
use Rattle.oak_sound.proofs.Breaking.{IsSoFar, breaks, goes_on, is_at_place}

abbrev pub Numbers : Type 0
Numbers = List (ℕ × Unit {0})

abbrev pub numbers_rule : DocumentRule
numbers_rule = λ before e. keeps_numbers before e.1

abbrev pub has_number : Numbers → ℕ → Bool
has_number ns n = is_some (lookup (is_at (nat_cmp n)) ns)

abbrev pub is_taken : ById → ℕ → Bool
is_taken before n = list_any (λ e. e.1.mod_count == n) before

-- so far each document keeps the rule, and its number is known
pub record AreNumbered (ds : ById) (at : ℕ) (rest : ById) (ns : Numbers) : Type 0 where
  pub so_far : IsSoFar numbers_rule ds at rest
  pub known : (n : ℕ) → has_number ns n ≡ is_taken (take at ds) n

number_is : (q s : ℕ) → (s == q) ≡ true → is_eq (nat_cmp q s) ≡ true
number_is q s h = grind (arith, nat_tests)

number_other : (q s : ℕ) → (s == q) ≡ false → is_eq (nat_cmp q s) ≡ false
number_other q s h = grind (arith, nat_tests)

number_test : (q s : ℕ) → eq_by_cmp nat_cmp q s ≡ (s == q)
number_test q s = by (s == q) refl
  where
    by : (b : Bool) → (s == q) ≡ b → eq_by_cmp nat_cmp q s ≡ b
    by true h = number_is q s h
    by false h = number_other q s h

some_by : (b : Bool) (o : Option (Unit {0})) → is_some (cond b (Some tt) o) ≡ (is_some o || (b || false))
some_by true None = refl
some_by true (Some x) = refl
some_by false None = refl
some_by false (Some x) = refl

-- with one more number
known_more : (ns new : Numbers) (before : ById) (e : DocId × Document) (n : ℕ) → new ≡ insert_entry nat_cmp ns e.1.mod_count tt → has_number ns n ≡ is_taken before n → has_number new n ≡ is_taken (before ++ e ∷ []) n
known_more ns new before e n put known =
    ap (λ xs. has_number xs n) put
    ∙ ap is_some (lookup-insert_entry nat_cmp nat_cmp_total n e.1.mod_count tt ns)
    ∙ ap (λ b. is_some (cond b (Some tt) (lookup (is_at (nat_cmp n)) ns))) (number_test n e.1.mod_count)
    ∙ some_by (e.1.mod_count == n) (lookup (is_at (nat_cmp n)) ns)
    ∙ ap (λ b. b || ((e.1.mod_count == n) || false)) known
    ∙ sym (list_any-append (λ e. e.1.mod_count == n) before (e ∷ []))

-- what is asked of the known numbers is the rule
pub asked_is : (ds : ById) (at : ℕ) (rest : ById) (ns : Numbers) (d : Document) (b : Bool) → b ≡ (nat_lt d.mod_count (2 ^ 63) && not (has_number ns d.mod_count) && nat_le d.sessions 16777152) → AreNumbered ds at rest ns → b ≡ keeps_numbers (take at ds) d
asked_is ds at rest ns d b is so_far = is ∙ ap (λ h. nat_lt d.mod_count (2 ^ 63) && not h && nat_le d.sessions 16777152) (so_far.known d.mod_count)

-- one more document keeps the rule
pub numbered_on : (ds : ById) (at : ℕ) (rest more : ById) (id : DocId) (d : Document) (ns new : Numbers) (b : Bool) → rest ≡ (id, d) ∷ more → b ≡ (nat_lt d.mod_count (2 ^ 63) && not (has_number ns d.mod_count) && nat_le d.sessions 16777152) → b ≡ true → new ≡ insert_entry nat_cmp ns d.mod_count tt → AreNumbered ds at rest ns → AreNumbered ds (at + 1) more new
numbered_on ds at rest more id d ns new b first is keeps put so_far =
    let place = is_at_place ds at (id, d) more (sym so_far.so_far.behind ∙ first) in
    record {
      so_far = goes_on numbers_rule ds at rest (id, d) more first (sym (asked_is ds at rest ns d b is so_far) ∙ keeps) so_far.so_far;
      known = λ n. known_more ns new (take at ds) (id, d) n put (so_far.known n) ∙ ap (λ b. is_taken b n) (sym place.taken);
    }

-- one document breaks it
pub numbered_breaks : (ds : ById) (at : ℕ) (rest more : ById) (id : DocId) (d : Document) (ns : Numbers) (b : Bool) → rest ≡ (id, d) ∷ more → b ≡ (nat_lt d.mod_count (2 ^ 63) && not (has_number ns d.mod_count) && nat_le d.sessions 16777152) → b ≡ false → AreNumbered ds at rest ns → Some at ≡ first_breaking numbers_rule [] ds
numbered_breaks ds at rest more id d ns b first is broken so_far =
    breaks numbers_rule ds at rest (id, d) more first (sym (asked_is ds at rest ns d b is so_far) ∙ broken) so_far.so_far
