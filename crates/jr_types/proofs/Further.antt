-- The types of a node, put together a line at a time.
use Rattle.std.proofs.Common.{◌≡◌, ◌<◌, ◌+◌, ℕ, Option, None, Some, List, [], ◌∷◌, ◌++◌, length, map, take, refl, sym, ap, ◌∙◌, subst, append_assoc}
use Rattle.std.specs.Prelude.{option_to_list, slice_get, slice_index_or}
use Rattle.std.specs.List.{cons_option, filter_map, find, flat_map}
use Rattle.std.proofs.lemmas.List.{append-nil, take_more}
use Rattle.std.proofs.lemmas.List.Elements.{filter_map-append}
use Rattle.std.proofs.lemmas.Grind.{flat_map-append}
use denote.Ref.{Bor}
use Rattle.jr_path.specs.declared.name.Name.{Name}
use Rattle.jr_value.specs.declared.value.Value.{Value}
use Rattle.jr_items.specs.Items.{name_in}
use Rattle.jr_types.specs.declared.TypeDef.{TypeDef}
use Rattle.jr_types.specs.Registered.{IsAlike, IsFurther, types_at}
use Rattle.jr_types.specs.Types.{lineage}
use Rattle.jr_types.proofs.Alike.{append-alike}

-- what a list gives with one element more
pub gives_more : {X Y : Type 0} (f : X → Option Y) (xs : List X) (i : ℕ) (d : X) → i < length xs → filter_map f (take (i + 1) xs) ≡ filter_map f (take i xs) ++ cons_option (f (slice_index_or xs i d)) []
gives_more f xs i d l = ap (filter_map f) (take_more xs i d l) ∙ filter_map-append f (take i xs) (slice_index_or xs i d ∷ [])

-- an element is put behind others, as they are seen
pub pushed : {X Y : Type 0} (f : X → Y) (old new : List X) (x : X) (o : Option Y) → new ≡ old ++ x ∷ [] → Some (f x) ≡ o → map f new ≡ map f old ++ cons_option o []
pushed f old new x o put same = ap (map f) put ∙ (behind old ∙ ap (λ o. map f old ++ cons_option o []) same)
  where
    behind : (ys : List _) → map f (ys ++ x ∷ []) ≡ map f ys ++ f x ∷ []
    behind [] = refl
    behind (y ∷ ys) = ap (λ zs. f y ∷ zs) (behind ys)

pub seen_behind : {X Y : Type 0} (f : X → Y) (xs : List X) (x : X) → map f (xs ++ x ∷ []) ≡ map f xs ++ f x ∷ []
seen_behind f [] x = refl
seen_behind f (y ∷ ys) x = ap (λ zs. f y ∷ zs) (seen_behind f ys x)

-- what lent definitions give, with one more
pub given_more : {X Y : Type 0} (g : X → Option Y) (xs : List (Bor X)) (i : ℕ) (d : Bor X) (init old new : List Y) → i < length xs → old ≡ init ++ filter_map g (map (λ x. x.now) (take i xs))
    → new ≡ old ++ cons_option (g ((slice_index_or xs i d).now)) [] → new ≡ init ++ filter_map g (map (λ x. x.now) (take (i + 1) xs))
given_more g xs i d init old new l so_far put =
    let x = slice_index_or xs i d in
    let front = map (λ b. b.now) (take i xs) in
    let more : filter_map g (map (λ b. b.now) (take (i + 1) xs)) ≡ filter_map g front ++ cons_option (g x.now) [] =
    ap (λ ys. filter_map g (map (λ b. b.now) ys)) (take_more xs i d l) ∙ (ap (filter_map g) (seen_behind (λ b. b.now) (take i xs) x) ∙ filter_map-append g front (x.now ∷ [])) in
    put ∙ (ap (λ ys. ys ++ cons_option (g x.now) []) so_far ∙ (append_assoc init (filter_map g front) (cons_option (g x.now) []) ∙ ap (λ ys. init ++ ys) (sym more)))

module _ (types : List TypeDef) where
  -- a line behind others
  pub further_line : (old more new : List TypeDef) (n m : Name) → new ≡ old ++ more → m ≡ n → IsAlike more (lineage types m) → IsFurther types old (n ∷ []) new
  further_line old more new n m put same h names before test =
      ap (find test) put
      ∙ (append-alike old (flat_map (lineage types) names) more (lineage types n) before (subst (λ k. IsAlike more (lineage types k)) same h) test
      ∙ ap (find test) (sym (flat_map-append (lineage types) names (n ∷ []) ∙ ap (λ xs. flat_map (lineage types) names ++ xs) (append-nil (lineage types n)))))

  pub further_none : (old : List TypeDef) → IsFurther types old [] old
  further_none old before h = subst (λ ns. IsAlike old (flat_map (lineage types) ns)) (sym (append-nil before)) h

  pub further_more : (old mid new : List TypeDef) (names more : List Name) → IsFurther types old names mid → IsFurther types mid more new → IsFurther types old (names ++ more) new
  further_more old mid new names more a b before h = subst (λ ns. IsAlike new (flat_map (lineage types) ns)) (append_assoc before names more) (b (before ++ names) (a before h))

  -- one place more
  pub at_step : (places : List ℕ) (i d : ℕ) (init old new : List TypeDef) → i < length places → old ≡ init ++ types_at types (take i places)
      → new ≡ old ++ cons_option (slice_get types (slice_index_or places i d)) [] → new ≡ init ++ types_at types (take (i + 1) places)
  at_step places i d init old new l so_far put = put
      ∙ (ap (λ xs. xs ++ cons_option (slice_get types (slice_index_or places i d)) []) so_far
      ∙ (append_assoc init (types_at types (take i places)) (cons_option (slice_get types (slice_index_or places i d)) [])
      ∙ ap (λ xs. init ++ xs) (sym (gives_more (slice_get types) places i d l))))

  pub further_given : (o : Option Name) (n : Name) (mid new new' : List TypeDef) → Some n ≡ o → new ≡ new' → IsFurther types mid (n ∷ []) new' → IsFurther types mid (cons_option o []) new
  further_given o n mid new new' given same h = subst (λ ds. IsFurther types mid (cons_option o []) ds) (sym same) (subst (λ o. IsFurther types mid (cons_option o []) new') given h)

  pub further_not : (o : Option Name) (mid new : List TypeDef) → None ≡ o → new ≡ mid → IsFurther types mid (cons_option o []) new
  further_not o mid new none same = subst (λ ds. IsFurther types mid (cons_option o []) ds) (sym same) (subst (λ o. IsFurther types mid (cons_option o []) mid) none (further_none mid))

  -- one value more
  pub value_step : (values : List Value) (i : ℕ) (d : Value) (old mid new : List TypeDef) → i < length values → IsFurther types old (filter_map name_in (take i values)) mid
      → IsFurther types mid (cons_option (name_in (slice_index_or values i d)) []) new → IsFurther types old (filter_map name_in (take (i + 1) values)) new
  value_step values i d old mid new l a b = subst (λ ns. IsFurther types old ns new) (sym (gives_more name_in values i d l)) (further_more old mid new _ _ a b)

  pub first_line : (o : Option Name) (n : Name) (old new new' : List TypeDef) → Some n ≡ o → old ≡ [] → new ≡ new' → IsFurther types old (n ∷ []) new' → IsAlike new (flat_map (lineage types) (option_to_list o))
  first_line o n old new new' given empty same h = subst (λ o. IsAlike new (flat_map (lineage types) (option_to_list o))) given
      (subst (λ ds. IsAlike ds (flat_map (lineage types) (n ∷ []))) (sym same) (h [] (λ test. ap (find test) empty)))

  pub no_line : (o : Option Name) (new : List TypeDef) → None ≡ o → new ≡ [] → IsAlike new (flat_map (lineage types) (option_to_list o))
  no_line o new none empty = subst (λ o. IsAlike new (flat_map (lineage types) (option_to_list o))) none (λ test. ap (find test) empty)
