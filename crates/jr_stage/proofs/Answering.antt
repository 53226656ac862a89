-- In a run the replies of a session have the indexes from 0 on, in order.
use Rattle.std.proofs.Common.{◌≡◌, ℕ, zero, suc, ◌+◌, true, false, cond, Some, None, List, [], ◌∷◌, ◌++◌, refl, sym, ap, ◌∙◌, arith}
use Rattle.std.specs.Prelude.{◌==◌, reverse}
use Rattle.std.specs.List.{cons_option, filter_map, fold, range_with_len}
use Rattle.std.proofs.lemmas.Bool.Decides.{nat_tests}
use Rattle.std.proofs.lemmas.List.{reverse-append}
use Rattle.std.proofs.lemmas.List.Elements.{filter_map-append}
use Rattle.oak_machine.specs.declared.event.Event.TheVariants as event
use Rattle.oak_machine.specs.History.{Past}
use Rattle.oak_machine.specs.Laws.{Says, Starts}
use Rattle.oak_machine.specs.Runs.{IsRunOf}
use Rattle.oak_machine.specs.Sessions.{is_reply_of, next_index}
use Rattle.jr_stage.specs.Runs.{index_said}

append_nil : {X : Type 0} (a : List X) → a ++ [] ≡ a
append_nil [] = refl
append_nil (x ∷ a) = ap (λ l. x ∷ l) (append_nil a)

equal : (a b : ℕ) → (a == b) ≡ true → a ≡ b
equal a b h = grind (arith, nat_tests)

moved : (a n : ℕ) → a + 1 + n ≡ a + suc n
moved a n = omega arith

one_more : (n : ℕ) → suc n + 1 ≡ suc (n + 1)
one_more n = omega arith

nothing_more : (a : ℕ) → a ≡ a + 0
nothing_more a = omega arith

range_from : (a n : ℕ) → range_with_len a (n + 1) ≡ range_with_len a n ++ (a + n) ∷ []
range_from a zero = ap (λ b. b ∷ []) (nothing_more a)
range_from a (suc n) =
    ap (range_with_len a) (one_more n)
    ∙ ap (λ l. a ∷ l) (range_from (a + 1) n ∙ ap (λ b. range_with_len (a + 1) n ++ b ∷ []) (moved a n))

-- the numbers below one more
pub range_more : (n : ℕ) → range_with_len 0 (n + 1) ≡ range_with_len 0 n ++ n ∷ []
range_more n = range_from 0 n ∙ ap (λ b. range_with_len 0 n ++ b ∷ []) (none_more n)
  where
    none_more : (n : ℕ) → 0 + n ≡ n
    none_more n = omega arith

-- a reply counts
counts : (s : ℕ) (list : Past) (n : ℕ) → fold (λ n x. n + cond (is_reply_of s x) 1 0) (n + 1) list ≡ fold (λ n x. n + cond (is_reply_of s x) 1 0) n list + 1
counts s [] n = refl
counts s (e ∷ list) n = ap (λ m. fold (λ n x. n + cond (is_reply_of s x) 1 0) m list) (turned n (cond (is_reply_of s e) 1 0)) ∙ counts s list (n + cond (is_reply_of s e) 1 0)
  where
    turned : (n m : ℕ) → n + 1 + m ≡ n + m + 1
    turned n m = omega arith

module _ (clusters : ℕ) (sessions : List ℕ) (starts : Starts) (says : Says) (s : ℕ) where
  -- the replies so far
  pub said_so_far : (past : Past) → IsRunOf starts says clusters sessions None past → filter_map (index_said s) (reverse past) ≡ range_with_len 0 (next_index past s)
  said_so_far [] run = refl
  said_so_far (event.Said t i text ∷ past) run =
      ap (filter_map (index_said s)) (reverse-append (event.Said t i text ∷ []) past)
      ∙ (filter_map-append (index_said s) (reverse past) (event.Said t i text ∷ [])
      ∙ elim (t == s) as (λ b. (t == s) ≡ b → filter_map (index_said s) (reverse past) ++ cons_option (cond b (Some i) None) [] ≡ range_with_len 0 (fold (λ n x. n + cond (is_reply_of s x) 1 0) (0 + cond b 1 0) past)) [
        | true ↦ λ same.
            let index : i ≡ next_index past s = run.0.0 ∙ ap (next_index past) (equal t s same) in
            ap (λ l. l ++ i ∷ []) (said_so_far past run.1)
            ∙ (ap (λ j. range_with_len 0 (next_index past s) ++ j ∷ []) index
            ∙ (sym (range_more (next_index past s)) ∙ ap (range_with_len 0) (sym (counts s past 0))))
        | false ↦ λ apart. append_nil (filter_map (index_said s) (reverse past)) ∙ said_so_far past run.1
      ] refl)
  said_so_far (e ∷ past) run =
      ap (filter_map (index_said s)) (reverse-append (e ∷ []) past)
      ∙ (filter_map-append (index_said s) (reverse past) (e ∷ []) ∙ (append_nil (filter_map (index_said s) (reverse past)) ∙ said_so_far past run.1))
