-- What the registry keeps stays kept when a type comes in.
use Rattle.std.proofs.Common.{arith, ◌≡◌, ◌<◌, ◌+◌, ℕ, zero, suc, Bool, true, false, cond, Option, None, Some, List, [], ◌∷◌, ◌++◌, All, length, refl, sym, ap, ◌∙◌, subst, is_some, option_map, reverse}
use Rattle.std.specs.Prelude.{slice_get}
use Rattle.std.specs.BTreeMap.{insert_entry, is_at}
use Rattle.std.specs.List.{cons_option, find, flat_map}
use Rattle.std.specs.Map.{lookup}
use Rattle.std.proofs.lemmas.Cmp.{nat_list_cmp_total}
use Rattle.std.proofs.lemmas.List.{length-append, reverse-append}
use Rattle.std.proofs.lemmas.Option.{none-some}
use Rattle.std.proofs.lemmas.List.Elements.{All-head, All-tail, All-append, All-cons, All-nil}
use mathlib.Core.Bool.{false≢true}
use Rattle.jr_path.specs.Names.{name_cmp}
use Rattle.jr_path.specs.declared.name.Name.{Name}
use Rattle.jr_path.proofs.Maps.{lookup-insert_entry}
use Rattle.jr_items.specs.Items.{same_name}
use Rattle.jr_types.specs.declared.TypeDef.{TypeDef}
use Rattle.jr_types.specs.declared.registry.Registered.{Registered}
use Rattle.jr_types.specs.Registered.{AreAbove, ArePlaces, AreWithin, IsAlike, IsRegistered, definitions, place_of_type, types_at}
use Rattle.jr_types.specs.Types.{type_named, lineage, lineage_among, supertypes_of}
use Rattle.jr_types.specs.Rules.{type_fault}
use Rattle.jr_types.proofs.Added.{lineage-added, named-added}
use Rattle.jr_types.proofs.Same.{itself, same}

get_front : (ts us : List TypeDef) (k : ℕ) → k < length ts → slice_get (ts ++ us) k ≡ slice_get ts k
get_front [] us k l = grind arith
get_front (t ∷ ts) us zero l = refl
get_front (t ∷ ts) us (suc k) l = get_front ts us k (omega arith)

get_end : (ts : List TypeDef) (d : TypeDef) → slice_get (ts ++ d ∷ []) (length ts) ≡ Some d
get_end [] d = refl
get_end (t ∷ ts) d = get_end ts d

types_at-front : (ts us : List TypeDef) (ks : List ℕ) → AreWithin ts ks → types_at (ts ++ us) ks ≡ types_at ts ks
types_at-front ts us [] h = refl
types_at-front ts us (k ∷ ks) h = ap (λ o. cons_option o (types_at (ts ++ us) ks)) (get_front ts us k (All-head (λ k. k < length ts) k ks h))
    ∙ ap (cons_option (slice_get ts k)) (types_at-front ts us ks (All-tail (λ k. k < length ts) k ks h))

longer : (ts us : List TypeDef) (ks : List ℕ) → AreWithin ts ks → AreWithin (ts ++ us) ks
longer ts us [] h = All-nil (λ k. k < length (ts ++ us))
longer ts us (k ∷ ks) h = All-cons (λ k. k < length (ts ++ us)) k ks
    (let l : k < length ts = All-head (λ k. k < length ts) k ks h in let e : length (ts ++ us) ≡ length ts + length us = length-append ts us in omega arith)
    (longer ts us ks (All-tail (λ k. k < length ts) k ks h))

module _ (ts : List TypeDef) (d : TypeDef) (new : type_named ts d.name ≡ None) where
  abbrev more : List TypeDef
  more = ts ++ d ∷ []

  old_kept : (r : Registered) → IsRegistered ts r → IsRegistered more r
  old_kept r h = record {
    known = ap is_some (named-added ts d new r.definition.name h.known) ∙ h.known;
    within = longer ts (d ∷ []) r.line h.within;
    line = λ test. ap (find test) (types_at-front ts (d ∷ []) r.line h.within)
        ∙ (h.line test ∙ ap (find test) (sym (lineage-added ts d new r.definition.name h.known)));
  }

  all_kept : (rs : List Registered) → All (IsRegistered ts) rs → All (IsRegistered more) rs
  all_kept [] h = All-nil (IsRegistered more)
  all_kept (r ∷ rs) h = All-cons (IsRegistered more) r rs (old_kept r (All-head (IsRegistered ts) r rs h)) (all_kept rs (All-tail (IsRegistered ts) r rs h))

  named_last : (us : List TypeDef) → find (λ (t : TypeDef). same_name t.name d.name) us ≡ None → find (λ (t : TypeDef). same_name t.name d.name) (us ++ d ∷ []) ≡ Some d
  named_last [] h = ap (λ b. cond b (Some d) None) (itself d.name)
  named_last (u ∷ us) h = by (same_name u.name d.name) h (named_last us)
    where
      by : (b : Bool) → cond b (Some u) (find (λ (t : TypeDef). same_name t.name d.name) us) ≡ None
          → (find (λ (t : TypeDef). same_name t.name d.name) us ≡ None → find (λ (t : TypeDef). same_name t.name d.name) (us ++ d ∷ []) ≡ Some d)
          → cond b (Some u) (find (λ (t : TypeDef). same_name t.name d.name) (us ++ d ∷ [])) ≡ Some d
      by true k rest = absurd (none-some u (sym k))
      by false k rest = rest k

  lineage_last : lineage more d.name ≡ d ∷ flat_map (lineage ts) (supertypes_of d)
  lineage_last = ap (λ us. lineage_among us d.name) (reverse-append ts (d ∷ [])) ∙ chosen (same_name d.name d.name) (itself d.name)
    where
      chosen : (b : Bool) → b ≡ true → (elim b as (λ b. List TypeDef) [ true ↦ d ∷ flat_map (lineage_among (reverse ts)) (supertypes_of d) | false ↦ lineage_among (reverse ts) d.name ]) ≡ d ∷ flat_map (lineage ts) (supertypes_of d)
      chosen true k = refl
      chosen false k = absurd (false≢true k)

  cons-alike : (xs ys : List TypeDef) → IsAlike xs ys → IsAlike (d ∷ xs) (d ∷ ys)
  cons-alike xs ys h test = ap (λ o. cond (test d) (Some d) o) (h test)

  new_kept : (r : Registered) (above : List ℕ) → r.definition ≡ d → r.line ≡ length ts ∷ above → AreAbove ts (supertypes_of d) above → IsRegistered more r
  new_kept r above same line h = record {
    known = ap (λ (t : TypeDef). is_some (type_named more t.name)) same ∙ ap is_some (named_last ts new);
    within = subst (AreWithin more) (sym line) (All-cons (λ k. k < length more) (length ts) above (let e : length more ≡ length ts + 1 = length-append ts (d ∷ []) in omega arith) (longer ts (d ∷ []) above h.within));
    line = λ test. ap (λ ks. find test (types_at more ks)) line
        ∙ (ap (λ o. find test (cons_option o (types_at more above))) (get_end ts d)
        ∙ (ap (λ us. find test (d ∷ us)) (types_at-front ts (d ∷ []) above h.within)
        ∙ (cons-alike (types_at ts above) (flat_map (lineage ts) (supertypes_of d)) h.alike test
        ∙ ap (find test) (sym (ap (λ (t : TypeDef). lineage more t.name) same ∙ lineage_last)))));
  }

  pub kept_more : (rs : List Registered) → definitions rs ≡ ts → All (IsRegistered (definitions rs)) rs → (r : Registered) (above : List ℕ)
      → r.definition ≡ d → r.line ≡ length ts ∷ above → AreAbove ts (supertypes_of d) above
      → All (IsRegistered more) (rs ++ r ∷ [])
  kept_more rs view h r above same line a = All-append (IsRegistered more) rs (r ∷ [])
      (all_kept rs (subst (λ us. All (IsRegistered us) rs) view h))
      (All-cons (IsRegistered more) r [] (new_kept r above same line a) (All-nil (IsRegistered more)))

  -- ---- the places

  place_kept : (us : List TypeDef) (n : Name) (k : ℕ) → place_of_type us n ≡ Some k → place_of_type (us ++ d ∷ []) n ≡ Some k
  place_kept [] n k h = absurd (none-some k h)
  place_kept (u ∷ us) n k h = by (same_name u.name n) h (place_of_type us n) refl (place_kept us n)
    where
      by : (b : Bool) → cond b (Some 0) (option_map suc (place_of_type us n)) ≡ Some k → (o : Option ℕ) → place_of_type us n ≡ o
          → ((j : ℕ) → place_of_type us n ≡ Some j → place_of_type (us ++ d ∷ []) n ≡ Some j)
          → cond b (Some 0) (option_map suc (place_of_type (us ++ d ∷ []) n)) ≡ Some k
      by true e o is rest = e
      by false e None is rest = absurd (none-some k (sym (ap (option_map suc) is) ∙ e))
      by false e (Some j) is rest = ap (option_map suc) (rest j is ∙ sym is) ∙ e

  place_last : (us : List TypeDef) (n : Name) → place_of_type us n ≡ None → place_of_type (us ++ d ∷ []) n ≡ cond (same_name d.name n) (Some (length us)) None
  place_last [] n h = refl
  place_last (u ∷ us) n h = by (same_name u.name n) h (place_last us n)
    where
      one_more : (b : Bool) → option_map suc (cond b (Some (length us)) None) ≡ cond b (Some (suc (length us))) None
      one_more true = refl
      one_more false = refl

      unplaced : (o : Option ℕ) → option_map suc o ≡ None → o ≡ None
      unplaced None e = refl
      unplaced (Some j) e = absurd (none-some (suc j) (sym e))

      by : (b : Bool) → cond b (Some 0) (option_map suc (place_of_type us n)) ≡ None
          → (place_of_type us n ≡ None → place_of_type (us ++ d ∷ []) n ≡ cond (same_name d.name n) (Some (length us)) None)
          → cond b (Some 0) (option_map suc (place_of_type (us ++ d ∷ []) n)) ≡ cond (same_name d.name n) (Some (suc (length us))) None
      by true e rest = absurd (none-some 0 (sym e))
      by false e rest = ap (option_map suc) (rest (unplaced (place_of_type us n) e)) ∙ one_more (same_name d.name n)

  unplaced_new : (us : List TypeDef) (n : Name) → type_named us n ≡ None → place_of_type us n ≡ None
  unplaced_new [] n h = refl
  unplaced_new (u ∷ us) n h = by (same_name u.name n) h (unplaced_new us n)
    where
      by : (b : Bool) → cond b (Some u) (type_named us n) ≡ None → (type_named us n ≡ None → place_of_type us n ≡ None) → cond b (Some 0) (option_map suc (place_of_type us n)) ≡ None
      by true e rest = absurd (none-some u (sym e))
      by false e rest = ap (option_map suc) (rest e)

  other_name : (n : Name) → same_name n d.name ≡ false → (b : Bool) → same_name d.name n ≡ b → b ≡ false
  other_name n h true e = absurd (false≢true (sym h ∙ (ap (same_name n) (same d.name n e) ∙ itself n)))
  other_name n h false e = refl

  at_new : (n : Name) → n ≡ d.name → Some (length ts) ≡ place_of_type more n
  at_new n e = sym (ap (place_of_type more) e ∙ (place_last ts d.name (unplaced_new ts d.name new) ∙ ap (λ b. cond b (Some (length ts)) None) (itself d.name)))

  elsewhere : (n : Name) → same_name n d.name ≡ false → (o : Option ℕ) → place_of_type ts n ≡ o → place_of_type ts n ≡ place_of_type more n
  elsewhere n h None e = e ∙ sym (place_last ts n e ∙ ap (λ b. cond b (Some (length ts)) None) (other_name n h (same_name d.name n) refl))
  elsewhere n h (Some k) e = e ∙ sym (place_kept ts n k e)

  pub placed_more : (places : List (Name × ℕ)) → ArePlaces ts places → ArePlaces more (insert_entry name_cmp places d.name (length ts))
  placed_more places h n = lookup-insert_entry name_cmp nat_list_cmp_total n d.name (length ts) places ∙ by (same_name n d.name) refl
    where
      by : (b : Bool) → same_name n d.name ≡ b → cond b (Some (length ts)) (lookup (is_at (name_cmp n)) places) ≡ place_of_type more n
      by true k = at_new n (same n d.name k)
      by false k = h n ∙ elsewhere n k (place_of_type ts n) refl

is_new : (types : List TypeDef) (d : TypeDef) → type_fault types d ≡ None → type_named types d.name ≡ None
is_new types d h = by (type_named types d.name) _ h
  where
    by : (o : Option TypeDef) (p : Option ℕ) → cond (is_some o) (Some 1) p ≡ None → o ≡ None
    by None p k = refl
    by (Some x) p k = absurd (none-some 1 (sym k))

definitions-more : (rs : List Registered) (r : Registered) → definitions (rs ++ r ∷ []) ≡ definitions rs ++ r.definition ∷ []
definitions-more [] r = refl
definitions-more (x ∷ rs) r = ap (λ ds. x.definition ∷ ds) (definitions-more rs r)

as_many : (rs : List Registered) → length (definitions rs) ≡ length rs
as_many [] = refl
as_many (x ∷ rs) = ap suc (as_many rs)

module _ (rs : List Registered) (places : List (Name × ℕ)) (types : List TypeDef) (d : TypeDef) (view : definitions rs ≡ types) (fault : None ≡ type_fault types d) where
  module _ (line above : List ℕ) (new : List Registered) (is : line ≡ length types ∷ above) (a : AreAbove types (supertypes_of d) above)
      (put : new ≡ rs ++ (record { definition = d; line = line }) ∷ []) where
    abbrev entry : Registered
    entry = record { definition = d; line = line }

    pub added_view : definitions new ≡ types ++ d ∷ []
    added_view = ap definitions put ∙ (definitions-more rs entry ∙ ap (λ ts. ts ++ d ∷ []) view)

    pub added_kept : All (IsRegistered (definitions rs)) rs → All (IsRegistered (definitions new)) new
    added_kept h = subst (λ ts. All (IsRegistered ts) new) (sym added_view)
        (subst (All (IsRegistered (types ++ d ∷ []))) (sym put) (kept_more types d (is_new types d (sym fault)) rs view h entry above refl is a))

    pub added_places : (n : Name) (new_places : List (Name × ℕ)) → n ≡ d.name → new_places ≡ insert_entry name_cmp places n (length rs) → ArePlaces (definitions rs) places → ArePlaces (definitions new) new_places
    added_places n new_places named placed h =
        let count : length rs ≡ length types = sym (as_many rs) ∙ ap length view in
        let here : new_places ≡ insert_entry name_cmp places d.name (length types) = placed ∙ (ap (λ m. insert_entry name_cmp places m (length rs)) named ∙ ap (insert_entry name_cmp places d.name) count) in
        subst (λ ts. ArePlaces ts new_places) (sym added_view)
        (subst (ArePlaces (types ++ d ∷ [])) (sym here) (placed_more types d (is_new types d (sym fault)) places (subst (λ ts. ArePlaces ts places) view h)))
