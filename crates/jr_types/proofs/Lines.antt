-- The line of a new type: places that come behind others, each once.
use Rattle.std.proofs.Common.{arith, zero, suc, take, ◌≤◌, ◌≡◌, ◌<◌, ◌==◌, ℕ, ◌+◌, Bool, true, false, cond, ◌||◌, Option, None, Some, List, [], ◌∷◌, ◌++◌, length, fold, refl, sym, ap, ◌∙◌, subst}
use Rattle.std.specs.Prelude.{slice_get, Result, Ok, Err, OnOk}
use Rattle.std.specs.Option.{option_or}
use Rattle.std.specs.List.{cons_option, find, flat_map, list_any}
use Rattle.std.proofs.lemmas.Bool.{eqb-true}
use Rattle.std.proofs.Math.Seq.{take-suc}
use lib.ListN.{get_or}
use Rattle.std.proofs.lemmas.List.{append_assoc}
use Rattle.std.proofs.lemmas.List.Elements.{All-head, All-tail, All-append, All-cons, All-nil}
use Rattle.std.proofs.lemmas.List.Folds.{find-append}
use mathlib.Core.Bool.{false≢true}
use Rattle.jr_path.specs.declared.name.Name.{Name}
use Rattle.jr_types.specs.declared.TypeDef.{TypeDef}
use Rattle.jr_types.specs.Registered.{AreAbove, AreWithin, IsAlike, types_at, with_place}
use Rattle.jr_types.specs.Types.{lineage, supertypes_of}
use Rattle.jr_items.specs.Names.{base_type}
use Rattle.jr_types.proofs.Alike.{append-alike}

pub on_ok : {A E P Q : Type 0} (r : Result A E) → (P → Q) → OnOk r P → OnOk r Q
on_ok (Ok x) f h = f h
on_ok (Err e) f h = tt

nothing_more : {X : Type 0} (o : Option X) → option_or o None ≡ o
nothing_more None = refl
nothing_more (Some x) = refl

module _ (types : List TypeDef) where
  abbrev here : ℕ → List TypeDef
  here k = types_at types (k ∷ [])

  types_at-append : (js ks : List ℕ) → types_at types (js ++ ks) ≡ types_at types js ++ types_at types ks
  types_at-append [] ks = refl
  types_at-append (j ∷ js) ks = by (slice_get types j) (types_at-append js ks)
    where
      by : (o : Option TypeDef) → types_at types (js ++ ks) ≡ types_at types js ++ types_at types ks → cons_option o (types_at types (js ++ ks)) ≡ cons_option o (types_at types js) ++ types_at types ks
      by None h = h
      by (Some d) h = ap (λ ds. d ∷ ds) h

  -- a place that is there finds nothing new
  among : (test : TypeDef → Bool) (js : List ℕ) (k : ℕ) → list_any (λ j. j == k) js ≡ true → option_or (find test (types_at types js)) (find test (here k)) ≡ find test (types_at types js)
  among test [] k h = absurd (false≢true h)
  among test (j ∷ js) k h = by (slice_get types j) refl (j == k) refl h (among test js k)
    where
      at_first : (o : Option TypeDef) → slice_get types j ≡ o → j ≡ k → here k ≡ cons_option o []
      at_first o p same = ap here (sym same) ∙ ap (λ o. cons_option o []) p

      found : (d : TypeDef) (b : Bool) → test d ≡ b → (o : Option TypeDef) → (b ≡ false → option_or (find test (types_at types js)) o ≡ find test (types_at types js))
          → option_or (cond b (Some d) (find test (types_at types js))) o ≡ cond b (Some d) (find test (types_at types js))
      found d true p o rest = refl
      found d false p o rest = rest refl

      by : (o : Option TypeDef) → slice_get types j ≡ o → (b : Bool) → (j == k) ≡ b → (b || list_any (λ j. j == k) js) ≡ true
          → (list_any (λ j. j == k) js ≡ true → option_or (find test (types_at types js)) (find test (here k)) ≡ find test (types_at types js))
          → option_or (find test (cons_option o (types_at types js))) (find test (here k)) ≡ find test (cons_option o (types_at types js))
      by None p true q h rest = ap (λ ds. option_or (find test (types_at types js)) (find test ds)) (at_first None p (eqb-true j k q)) ∙ nothing_more (find test (types_at types js))
      by None p false q h rest = rest h
      by (Some d) p true q h rest = found d (test d) refl (find test (here k)) (λ f.
          ap (λ ds. option_or (find test (types_at types js)) (find test ds)) (at_first (Some d) p (eqb-true j k q))
          ∙ (ap (λ b. option_or (find test (types_at types js)) (cond b (Some d) None)) f ∙ nothing_more (find test (types_at types js))))
      by (Some d) p false q h rest = found d (test d) refl (find test (here k)) (λ f. rest h)

  one_alike : (js : List ℕ) (k : ℕ) → IsAlike (types_at types (with_place js k)) (types_at types js ++ here k)
  one_alike js k test = by (list_any (λ j. j == k) js) refl
    where
      by : (b : Bool) → list_any (λ j. j == k) js ≡ b → find test (types_at types (cond b js (js ++ k ∷ []))) ≡ find test (types_at types js ++ here k)
      by true h = sym (find-append test (types_at types js) (here k) ∙ among test js k h)
      by false h = ap (find test) (types_at-append js (k ∷ []))

  all_alike : (js ks : List ℕ) → IsAlike (types_at types (fold with_place js ks)) (types_at types js ++ types_at types ks)
  all_alike js [] test = sym (find-append test (types_at types js) [] ∙ nothing_more (find test (types_at types js)))
  all_alike js (k ∷ ks) test = all_alike (with_place js k) ks test
      ∙ (append-alike (types_at types (with_place js k)) (types_at types js ++ here k) (types_at types ks) (types_at types ks) (one_alike js k) (λ t. refl) test
      ∙ ap (find test) (append_assoc (types_at types js) (here k) (types_at types ks) ∙ ap (λ ds. types_at types js ++ ds) (sym (types_at-append (k ∷ []) ks))))

  one_within : (js : List ℕ) (k : ℕ) → AreWithin types js → k < length types → AreWithin types (with_place js k)
  one_within js k h l = by (list_any (λ j. j == k) js)
    where
      by : (b : Bool) → AreWithin types (cond b js (js ++ k ∷ []))
      by true = h
      by false = All-append (λ k. k < length types) js (k ∷ []) h (All-cons (λ k. k < length types) k [] l (All-nil (λ k. k < length types)))

  all_within : (js ks : List ℕ) → AreWithin types js → AreWithin types ks → AreWithin types (fold with_place js ks)
  all_within js [] h l = h
  all_within js (k ∷ ks) h l = all_within (with_place js k) ks (one_within js k h (All-head (λ k. k < length types) k ks l)) (All-tail (λ k. k < length types) k ks l)

  flat_map-append : (ns ms : List Name) → flat_map (lineage types) (ns ++ ms) ≡ flat_map (lineage types) ns ++ flat_map (lineage types) ms
  flat_map-append [] ms = refl
  flat_map-append (n ∷ ns) ms = ap (λ ds. lineage types n ++ ds) (flat_map-append ns ms) ∙ sym (append_assoc (lineage types n) (flat_map (lineage types) ns) (flat_map (lineage types) ms))

  flat_map-one : (n : Name) → flat_map (lineage types) (n ∷ []) ≡ lineage types n
  flat_map-one n = by (lineage types n)
    where
      by : (ds : List TypeDef) → ds ++ [] ≡ ds
      by [] = refl
      by (d ∷ ds) = ap (λ ds. d ∷ ds) (by ds)

  pub above_more : (old places new : List ℕ) (n : Name) → AreWithin types places → IsAlike (types_at types places) (lineage types n) → new ≡ fold with_place old places
      → (names : List Name) → AreAbove types names old → AreAbove types (names ++ n ∷ []) new
  above_more old places new n w a e names h = subst (λ new. AreAbove types (names ++ n ∷ []) new) (sym e) (record {
    within = all_within old places h.within w;
    alike = λ test. all_alike old places test
        ∙ (append-alike (types_at types old) (flat_map (lineage types) names) (types_at types places) (lineage types n) h.alike a test
        ∙ ap (find test) (sym (flat_map-append names (n ∷ []) ∙ ap (λ ds. flat_map (lineage types) names ++ ds) (flat_map-one n))));
  })

  pub above_step : (names : List Name) (i : ℕ) (n m : Name) (old new : List ℕ) → i < length names → m ≡ n → n ≡ get_or names i n → AreAbove types (take i names) old
      → ((ns : List Name) → AreAbove types ns old → AreAbove types (ns ++ m ∷ []) new) → AreAbove types (take (i + 1) names) new
  above_step names i n m old new l same at h step = subst (λ ns. AreAbove types ns new) e (step (take i names) h)
    where
      j : suc i ≡ i + 1
      j = omega arith

      e : take i names ++ m ∷ [] ≡ take (i + 1) names
      e = ap (λ n. take i names ++ n ∷ []) (same ∙ at) ∙ (sym (take-suc names i n l) ∙ ap (λ k. take k names) j)

  pub above_base : (d : TypeDef) (m : Name) (old new : List ℕ) → d.mixin ≡ false → m ≡ base_type → AreAbove types d.supertypes old
      → ((ns : List Name) → AreAbove types ns old → AreAbove types (ns ++ m ∷ []) new) → AreAbove types (supertypes_of d) new
  above_base d m old new mix same h step = subst (λ ns. AreAbove types ns new)
      (ap (λ n. d.supertypes ++ n ∷ []) same ∙ ap (λ b. d.supertypes ++ cond b [] (base_type ∷ [])) (sym mix)) (step d.supertypes h)

  pub take_all : {X : Type 0} (xs : List X) (i : ℕ) → length xs ≤ i → take i xs ≡ xs
  take_all [] zero l = refl
  take_all [] (suc i) l = refl
  take_all (x ∷ xs) zero l = absurd (omega arith)
  take_all (x ∷ xs) (suc i) l = ap (λ ys. x ∷ ys) (take_all xs i (omega arith))

  pub above_all : (d : TypeDef) (names : List Name) (i : ℕ) (old : List ℕ) → names ≡ d.supertypes → length names ≤ i → AreAbove types (take i names) old → AreAbove types d.supertypes old
  above_all d names i old is l h = subst (λ ns. AreAbove types ns old) (take_all names i l ∙ is) h
