-- What the registry finds under a name.
use Rattle.std.proofs.Common.{◌≡◌, ℕ, zero, suc, ◌<◌, ◌≤◌, length, get_or, Bool, true, false, cond, ◌||◌, Option, None, Some, List, [], ◌∷◌, All, refl, sym, ap, ◌∙◌, subst, option_map, reverse}
use Rattle.std.specs.Prelude.{IfSome, MatchOption, option_and_then, slice_get, unwrap_or}
use Rattle.std.specs.BTreeMap.{is_at}
use Rattle.std.specs.List.{find, flat_map, list_any}
use Rattle.std.specs.Map.{lookup}
use Rattle.std.proofs.lemmas.List.{reverse-append}
use Rattle.std.proofs.lemmas.List.Elements.{All-head, All-tail}
use Rattle.std.proofs.lemmas.List.Folds.{list_any-append}
use Rattle.std.proofs.lemmas.Option.{none-some, slice_get-get_or, slice_get-map, slice_get_past}
use mathlib.Core.Bool.{false≢true}
use Rattle.jr_path.specs.Names.{name_cmp}
use Rattle.jr_path.specs.declared.name.Name.{Name}
use Rattle.jr_items.specs.Items.{same_name}
use Rattle.jr_types.specs.declared.TypeDef.{TypeDef}
use Rattle.jr_types.specs.declared.registry.Registered.{Registered}
use Rattle.jr_types.specs.Registered.{ArePlaces, IsAlike, IsRegistered, IsRegisteredUnder, definitions, place_of_type, types_at}
use Rattle.jr_types.specs.Types.{type_named, lineage, lineage_among, supertypes_of}
use Rattle.jr_types.proofs.Same.{same}

-- the type of a name stands at its place
at_place : (types : List TypeDef) (n : Name) → option_and_then (slice_get types) (place_of_type types n) ≡ type_named types n
at_place [] n = refl
at_place (d ∷ ds) n = by (same_name d.name n) (at_place ds n)
  where
    behind : (o : Option ℕ) → option_and_then (slice_get (d ∷ ds)) (option_map suc o) ≡ option_and_then (slice_get ds) o
    behind None = refl
    behind (Some k) = refl

    by : (b : Bool) → option_and_then (slice_get ds) (place_of_type ds n) ≡ type_named ds n → option_and_then (slice_get (d ∷ ds)) (cond b (Some 0) (option_map suc (place_of_type ds n))) ≡ cond b (Some d) (type_named ds n)
    by true h = refl
    by false h = behind (place_of_type ds n) ∙ h

-- a type has the name under which it is found
named : (types : List TypeDef) (n : Name) (d : TypeDef) → type_named types n ≡ Some d → d.name ≡ n
named [] n d h = absurd (none-some d h)
named (t ∷ ts) n d h = by (same_name t.name n) refl h (named ts n d)
  where
    name_of : Option TypeDef → Name
    name_of None = n
    name_of (Some x) = x.name

    by : (b : Bool) → same_name t.name n ≡ b → cond b (Some t) (type_named ts n) ≡ Some d → (type_named ts n ≡ Some d → d.name ≡ n) → d.name ≡ n
    by true k e rest = sym (ap name_of e) ∙ same t.name n k
    by false k e rest = rest e

-- what holds of each holds of the one at a place
each : (P : Registered → Type 0) (rs : List Registered) → All P rs → (k : ℕ) (r : Registered) → slice_get rs k ≡ Some r → P r
each P [] h zero r e = absurd (none-some r e)
each P [] h (suc k) r e = absurd (none-some r e)
each P (x ∷ rs) h zero r e = subst P (ap (λ (o : Option Registered). unwrap_or o x) e) (All-head P x rs h)
each P (x ∷ rs) h (suc k) r e = each P rs (All-tail P x rs h) k r e

-- ---- a type that nobody registered has no lineage

no_type : (n : Name) (ts : List TypeDef) → list_any (λ d. same_name d.name n) ts ≡ false → lineage_among ts n ≡ []
no_type n [] h = refl
no_type n (d ∷ ts) h = by (same_name d.name n) h (no_type n ts)
  where
    by : (b : Bool) → (b || list_any (λ d. same_name d.name n) ts) ≡ false → (list_any (λ d. same_name d.name n) ts ≡ false → lineage_among ts n ≡ [])
        → (elim b as (λ b. List TypeDef) [ true ↦ d ∷ flat_map (lineage_among ts) (supertypes_of d) | false ↦ lineage_among ts n ]) ≡ []
    by true k rest = absurd (false≢true (sym k))
    by false k rest = rest k

any-reverse : {X : Type 0} (p : X → Bool) (xs : List X) → list_any p (reverse xs) ≡ list_any p xs
any-reverse p [] = refl
any-reverse p (x ∷ xs) = ap (list_any p) (reverse-append (x ∷ []) xs) ∙ (list_any-append p (reverse xs) (x ∷ []) ∙ (ap (λ b. b || list_any p (x ∷ [])) (any-reverse p xs) ∙ turned (list_any p xs) (p x)))
  where
    turned : (a b : Bool) → (a || (b || false)) ≡ (b || a)
    turned true true = refl
    turned true false = refl
    turned false true = refl
    turned false false = refl

none_passes : {X : Type 0} (p : X → Bool) (xs : List X) → find p xs ≡ None → list_any p xs ≡ false
none_passes p [] h = refl
none_passes p (x ∷ xs) h = by (p x) h (none_passes p xs)
  where
    by : (b : Bool) → cond b (Some x) (find p xs) ≡ None → (find p xs ≡ None → list_any p xs ≡ false) → (b || list_any p xs) ≡ false
    by true k rest = absurd (none-some x (sym k))
    by false k rest = rest k

pub unregistered : (types : List TypeDef) (n : Name) → type_named types n ≡ None → lineage types n ≡ []
unregistered types n h = no_type n (reverse types) (any-reverse _ types ∙ none_passes _ types h)

-- ---- as the calls need it

abbrev definition : Registered → TypeDef
definition r = r.definition

-- what stands at a place, and that nothing does
pub got : (rs : List Registered) (k : ℕ) (r : Registered) → r ≡ get_or rs k r → k < length rs → Some r ≡ slice_get rs k
got rs k r e l = ap Some e ∙ sym (slice_get-get_or rs k r l)

pub missed : (rs : List Registered) (k : ℕ) → length rs ≤ k → None ≡ slice_get rs k
missed rs k l = sym (slice_get_past rs k l)

-- what a list gives at a place is what stands there
pub stands : {B : Type 0} (H : B → Type 0) (now : B → Registered) (rs : List Registered) (k : ℕ) (o : Option B) → IfSome o (λ x. now x ≡ get_or rs k (now x))
    → MatchOption o (length rs ≤ k) (λ x. (k < length rs) × H x) → option_map now o ≡ slice_get rs k
stands H now rs k None e l = missed rs k l
stands H now rs k (Some x) e l = got rs k (now x) e l.0

-- the definition at a place
pub defined_at : (rs : List Registered) (types : List TypeDef) (k : ℕ) (o : Option Registered) → definitions rs ≡ types → o ≡ slice_get rs k → option_map definition o ≡ slice_get types k
defined_at rs types k o view e = ap (option_map definition) e ∙ (sym (slice_get-map definition rs k) ∙ ap (λ ts. slice_get ts k) view)

module _ (rs : List Registered) (places : List (Name × ℕ)) (types : List TypeDef) (n : Name) (view : definitions rs ≡ types) (h : All (IsRegistered (definitions rs)) rs) (p : ArePlaces (definitions rs) places) where
  told : option_and_then (slice_get (definitions rs)) (lookup (is_at (name_cmp n)) places) ≡ type_named types n
  told = ap (option_and_then (slice_get (definitions rs))) (p n) ∙ (at_place (definitions rs) n ∙ ap (λ ts. type_named ts n) view)

  at : (k : ℕ) → Some k ≡ lookup (is_at (name_cmp n)) places → option_map definition (slice_get rs k) ≡ type_named types n
  at k e = sym (slice_get-map definition rs k) ∙ (ap (option_and_then (slice_get (definitions rs))) e ∙ told)

  pub under : (k : ℕ) (o : Option Registered) → Some k ≡ lookup (is_at (name_cmp n)) places → o ≡ slice_get rs k → MatchOption o (type_named types n ≡ None) (IsRegisteredUnder types n)
  under k None e g = sym (ap (option_map definition) g ∙ at k e)
  under k (Some r) e g =
      let is : Some r.definition ≡ type_named types n = ap (option_map definition) g ∙ at k e in
      let kept : IsRegistered types r = subst (λ ts. IsRegistered ts r) view (each (IsRegistered (definitions rs)) rs h k r (sym g)) in
      record {
        definition = is;
        within = kept.within;
        line = subst (λ m. IsAlike (types_at types r.line) (lineage types m)) (named types n r.definition (sym is)) kept.line;
      }

  pub nothing : None ≡ lookup (is_at (name_cmp n)) places → type_named types n ≡ None
  nothing e = sym (ap (option_and_then (slice_get (definitions rs))) e ∙ told)

-- a name without a type has no lineage
pub line_none : (types : List TypeDef) (n : Name) → type_named types n ≡ None → IsAlike [] (lineage types n)
line_none types n e test = ap (find test) (sym (unregistered types n e))
