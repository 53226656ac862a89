-- The names of versions are in the grammar of names, and no other text is the name of a node.
use Rattle.std.proofs.Common.{◌≡◌, ℕ, zero, suc, ◌+◌, ◌^◌, ◌<◌, ◌≤◌, ◌%◌, Bool, true, false, cond, Some, List, [], ◌∷◌, ◌++◌, All, length, refl, sym, subst, ◌∙◌, arith}
use Rattle.std.specs.Prelude.{◌&&◌, ◌==◌, not, nat_le, nat_lt}
use Rattle.std.specs.List.{AllByRecursion, list_all}
use Rattle.std.specs.Fmt.{decimal}
use Rattle.std.specs.Str.{all_scalars}
use Rattle.std.specs.declared.cmp.Ordering.{Ordering}
use Rattle.std.specs.declared.cmp.Ordering.TheVariants.{Less, Equal, Greater}
use Rattle.std.specs.Ordering.{is_eq}
use Rattle.std.specs.BTreeMap.{is_at}
use Rattle.std.proofs.lemmas.Bool.{and_from, and_parts, false≢true}
use Rattle.std.proofs.lemmas.Bool.Decides.{nat_tests}
use Rattle.std.proofs.lemmas.Fmt.{decimal_by_steps, length-decimal-le}
use Rattle.std.proofs.lemmas.List.Folds.{list_all-append}
use Rattle.jr_path.specs.Grammar.{IsName, is_plain}
use Rattle.jr_path.specs.Names.{path_cmp}
use Rattle.jr_path.specs.declared.name.Name.{Name}
use Rattle.jr_path.specs.declared.path.Path.{Path}
use Rattle.jr_path.proofs.Maps.{path_exact}
use Rattle.jr_path.proofs.OwnNames.{plain_name}
use Rattle.jr_path.proofs.Pieces.{names_from_all}
use Rattle.jr_tree.specs.declared.tree.Node.{Node}
use Rattle.jr_tree.specs.Trees.{Nodes, node_at}
use Rattle.jr_items.specs.Items.{child_path}
use Rattle.jcr_frozen.specs.Histories.{version_name}

-- a test that each digit passes
ten : (f : ℕ → Bool) → f 48 ≡ true → f 49 ≡ true → f 50 ≡ true → f 51 ≡ true → f 52 ≡ true → f 53 ≡ true → f 54 ≡ true → f 55 ≡ true → f 56 ≡ true → f 57 ≡ true → (d : ℕ) → d < 10 → f (48 + d) ≡ true
ten f is0 is1 is2 is3 is4 is5 is6 is7 is8 is9 zero l = is0
ten f is0 is1 is2 is3 is4 is5 is6 is7 is8 is9 (suc zero) l = is1
ten f is0 is1 is2 is3 is4 is5 is6 is7 is8 is9 (suc (suc zero)) l = is2
ten f is0 is1 is2 is3 is4 is5 is6 is7 is8 is9 (suc (suc (suc zero))) l = is3
ten f is0 is1 is2 is3 is4 is5 is6 is7 is8 is9 (suc (suc (suc (suc zero)))) l = is4
ten f is0 is1 is2 is3 is4 is5 is6 is7 is8 is9 (suc (suc (suc (suc (suc zero))))) l = is5
ten f is0 is1 is2 is3 is4 is5 is6 is7 is8 is9 (suc (suc (suc (suc (suc (suc zero)))))) l = is6
ten f is0 is1 is2 is3 is4 is5 is6 is7 is8 is9 (suc (suc (suc (suc (suc (suc (suc zero))))))) l = is7
ten f is0 is1 is2 is3 is4 is5 is6 is7 is8 is9 (suc (suc (suc (suc (suc (suc (suc (suc zero)))))))) l = is8
ten f is0 is1 is2 is3 is4 is5 is6 is7 is8 is9 (suc (suc (suc (suc (suc (suc (suc (suc (suc zero))))))))) l = is9
ten f is0 is1 is2 is3 is4 is5 is6 is7 is8 is9 (suc (suc (suc (suc (suc (suc (suc (suc (suc (suc d)))))))))) l = absurd (omega arith)

-- each digit of a number passes
digits_pass : (f : ℕ → Bool) → ((d : ℕ) → d < 10 → f (48 + d) ≡ true) → (n : ℕ) → n < 2 ^ 64 → list_all f (decimal n) ≡ true
digits_pass f each = decimal_by_steps (λ n ds. list_all f ds ≡ true)
    (λ n h. and_from (f (48 + n)) true (each n h) refl)
    (λ n ds h all. list_all-append f ds ((48 + n % 10) ∷ []) ∙ and_from (list_all f ds) _ all (and_from (f (48 + n % 10)) true (each (n % 10) (omega arith)) refl))

scalars_more : (cs ds : List ℕ) → all_scalars cs ≡ true → all_scalars ds ≡ true → all_scalars (cs ++ ds) ≡ true
scalars_more [] ds h k = k
scalars_more (c ∷ cs) ds h k = let p = and_parts _ _ h in and_from _ _ p.0 (scalars_more cs ds p.1 k)

abbrev scalar : ℕ → Bool
scalar c = all_scalars (c ∷ [])

are_scalars : (n : ℕ) → n < 2 ^ 64 → all_scalars (decimal n) ≡ true
are_scalars = decimal_by_steps (λ n ds. all_scalars ds ≡ true)
    (λ n h. ten scalar refl refl refl refl refl refl refl refl refl refl n h)
    (λ n ds h all. scalars_more ds ((48 + n % 10) ∷ []) all (ten scalar refl refl refl refl refl refl refl refl refl refl (n % 10) (omega arith)))

abbrev visible : ℕ → Bool
visible c = nat_lt c 128 && not (c == 32)

short : (k : ℕ) → k ≤ 20 → nat_le (suc k) 255 ≡ true
short k h = grind (arith, nat_tests)

pub version_named : (n : ℕ) → n < 2 ^ 64 → IsName (version_name n)
version_named n h = plain_name (version_name n)
    (and_from _ _
    (and_from (list_all visible (version_name n)) _ (digits_pass visible (ten visible refl refl refl refl refl refl refl refl refl refl) n h)
    (and_from (all_scalars (version_name n)) _ (are_scalars n h)
    (short (length (decimal n)) (length-decimal-le 20 n (omega arith) (omega arith) h))))
    (digits_pass is_plain (ten is_plain refl refl refl refl refl refl refl refl refl refl) n h))

-- the last name of a path of names is a name
last_named : (p : Path) (n : Name) → All IsName (p ++ n ∷ []) → IsName n
last_named p n all = by p (names_from_all (p ++ n ∷ []) all)
  where
    by : (p : Path) → AllByRecursion IsName (p ++ n ∷ []) → IsName n
    by [] h = h.0
    by (m ∷ p) h = by p h.1

equal_of : (o : Ordering) → is_eq o ≡ true → o ≡ Equal
equal_of Less h = absurd (false≢true h)
equal_of Equal h = refl
equal_of Greater h = absurd (false≢true h)

-- a node of another path is passed over
pub passed_over : (p : Path) (n : Name) (q : Path) (node : Node) (t : Nodes) → ¬ (IsName n) → All IsName q → node_at ((q, node) ∷ t) (child_path p n) ≡ node_at t (child_path p n)
passed_over p n q node t never all = by (is_at (path_cmp (child_path p n)) q) refl
  where
    by : (b : Bool) → is_at (path_cmp (child_path p n)) q ≡ b → cond b (Some node) (node_at t (child_path p n)) ≡ node_at t (child_path p n)
    by false e = refl
    by true e = absurd (never (last_named p n (subst (All IsName) (sym (path_exact _ _ (equal_of _ e))) all)))
