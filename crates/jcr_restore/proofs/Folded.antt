-- What is found at a key in a list that is made entry by entry.
use Rattle.std.proofs.Common.{◌≡◌, Bool, true, false, cond, Some, None, Option, List, [], ◌∷◌, refl, sym, ap, ◌∙◌}
use Rattle.std.specs.declared.cmp.Ordering.{Ordering}
use Rattle.std.specs.declared.cmp.Ordering.TheVariants.{Equal}
use Rattle.std.specs.Ordering.{eq_by_cmp}
use Rattle.std.specs.Cmp.{IsTotalOrder}
use Rattle.std.specs.Option.{option_and_then, option_or}
use Rattle.std.specs.List.{cons_option, fold, list_all, filter_map}
use Rattle.std.specs.Map.{lookup}
use Rattle.std.specs.BTreeMap.{is_at, insert_entry}
use Rattle.std.specs.FinMap.{is_sorted}
use Rattle.jr_path.proofs.Maps.{lookup-insert_entry}
use Rattle.jr_tree.proofs.Entries.{exactly, first, second, none_below}

-- one entry more under its new key, if it passes the test
abbrev pub with_entry : {J K X Y : Type 0} → (K → K → Ordering) → (J × X → Bool) → (J → K) → (J × X → Y) → List (K × Y) → J × X → List (K × Y)
with_entry R test key value u e = cond (test e) (insert_entry R u (key e.0) (value e)) u

-- what comes of the value of an entry that passes the test
abbrev pub if_passed : {J X Y : Type 0} → (J × X → Bool) → (J × X → Y) → J → Option X → Option Y
if_passed test value j o = option_and_then (λ x. cond (test (j, x)) (Some (value (j, x))) None) o

module _ {J K X Y : Type 0} (S : J → J → Ordering) (R : K → K → Ordering) (s : IsTotalOrder S) (r : IsTotalOrder R) (exact : (x y : J) → S x y ≡ Equal → x ≡ y)
    (test : J × X → Bool) (key : J → K) (value : J × X → Y) (q : K) (j : J) (ok : J × X → Bool)
    (alike : (e : J × X) → ok e ≡ true → eq_by_cmp R q (key e.0) ≡ eq_by_cmp S j e.0) where
  -- where keys that differ stay different
  pub found_folded : (es : List (J × X)) (u : List (K × Y)) → is_sorted S es ≡ true → list_all ok es ≡ true
      → lookup (is_at (R q)) (fold (with_entry R test key value) u es) ≡ option_or (if_passed test value j (lookup (is_at (S j)) es)) (lookup (is_at (R q)) u)
  found_folded [] u sorted all = refl
  found_folded (e ∷ es) u sorted all =
      found_folded es (with_entry R test key value u e) (second _ _ sorted) (second _ _ all) ∙ by (eq_by_cmp S j e.0) refl (test e) refl
    where
      put : lookup (is_at (R q)) (insert_entry R u (key e.0) (value e)) ≡ cond (eq_by_cmp S j e.0) (Some (value e)) (lookup (is_at (R q)) u)
      put = lookup-insert_entry R r q (key e.0) (value e) u ∙ ap (λ b. cond b (Some (value e)) (lookup (is_at (R q)) u)) (alike e (first _ _ all))

      here : j ≡ e.0 → (c : Bool) → test e ≡ c → eq_by_cmp S j e.0 ≡ true
          → lookup (is_at (R q)) (cond c (insert_entry R u (key e.0) (value e)) u) ≡ option_or (cond (test e) (Some (value e)) None) (lookup (is_at (R q)) u)
      here same true t h = put ∙ (ap (λ b. cond b (Some (value e)) (lookup (is_at (R q)) u)) h ∙ sym (ap (λ b. option_or (cond b (Some (value e)) None) (lookup (is_at (R q)) u)) t))
      here same false t h = sym (ap (λ b. option_or (cond b (Some (value e)) None) (lookup (is_at (R q)) u)) t)

      by : (b : Bool) → eq_by_cmp S j e.0 ≡ b → (c : Bool) → test e ≡ c
          → option_or (if_passed test value j (lookup (is_at (S j)) es)) (lookup (is_at (R q)) (cond c (insert_entry R u (key e.0) (value e)) u))
          ≡ option_or (if_passed test value j (cond b (Some e.1) (lookup (is_at (S j)) es))) (lookup (is_at (R q)) u)
      by true h c t =
          let same : j ≡ e.0 = exact j e.0 (exactly _ h) in
          ap (λ (o : Option X). option_or (if_passed test value j o) (lookup (is_at (R q)) (cond c (insert_entry R u (key e.0) (value e)) u))) (none_below S s j e.0 (exactly _ h) es (first _ _ sorted))
          ∙ (here same c t h ∙ sym (ap (λ (i : J). option_or (cond (test (i, e.1)) (Some (value (i, e.1))) None) (lookup (is_at (R q)) u)) same))
      by false h true t = ap (option_or (if_passed test value j (lookup (is_at (S j)) es))) (put ∙ ap (λ b. cond b (Some (value e)) (lookup (is_at (R q)) u)) h)
      by false h false t = refl

  -- the same of the entries that pass the test, one behind another
  pub found_mapped : (es : List (J × X)) → is_sorted S es ≡ true → list_all ok es ≡ true
      → lookup (is_at (R q)) (filter_map (λ e. cond (test e) (Some (key e.0, value e)) None) es) ≡ if_passed test value j (lookup (is_at (S j)) es)
  found_mapped [] sorted all = refl
  found_mapped (e ∷ es) sorted all = by (eq_by_cmp S j e.0) refl (test e) refl (found_mapped es (second _ _ sorted) (second _ _ all))
    where
      rest : List (K × Y)
      rest = filter_map (λ e. cond (test e) (Some (key e.0, value e)) None) es

      at_key : eq_by_cmp R q (key e.0) ≡ eq_by_cmp S j e.0
      at_key = alike e (first _ _ all)

      turned : j ≡ e.0 → (c : Bool) → test e ≡ c → cond c (Some (value e)) None ≡ cond (test (j, e.1)) (Some (value (j, e.1))) None
      turned same c t = ap (λ b. cond b (Some (value e)) None) (sym t) ∙ sym (ap (λ (i : J). cond (test (i, e.1)) (Some (value (i, e.1))) None) same)

      by : (b : Bool) → eq_by_cmp S j e.0 ≡ b → (c : Bool) → test e ≡ c → lookup (is_at (R q)) rest ≡ if_passed test value j (lookup (is_at (S j)) es)
          → lookup (is_at (R q)) (cons_option (cond c (Some (key e.0, value e)) None) rest) ≡ if_passed test value j (cond b (Some e.1) (lookup (is_at (S j)) es))
      by true h true t more = ap (λ b. cond b (Some (value e)) (lookup (is_at (R q)) rest)) (at_key ∙ h) ∙ turned (exact j e.0 (exactly _ h)) true t
      by true h false t more =
          more ∙ (ap (if_passed test value j) (none_below S s j e.0 (exactly _ h) es (first _ _ sorted)) ∙ turned (exact j e.0 (exactly _ h)) false t)
      by false h true t more = ap (λ b. cond b (Some (value e)) (lookup (is_at (R q)) rest)) (at_key ∙ h) ∙ more
      by false h false t more = more
