-- The index of a tree's identifiers.
use Rattle.std.proofs.Common.{◌≡◌, ℕ, Bool, true, false, cond, not, ◌||◌, Option, None, Some, is_some, is_none, List, ◌∷◌, refl, sym, ap, ◌∙◌}
use Rattle.std.specs.List.{find}
use Rattle.std.specs.Map.{lookup}
use Rattle.std.specs.BTreeMap.{is_at}
use Rattle.std.specs.Option.{option_map_or}
use Rattle.std.specs.Cmp.Lexicographic.{nat_list_cmp_total}
use Rattle.jr_path.specs.Names.{name_cmp}
use Rattle.jr_path.specs.declared.path.Path.{Path}
use Rattle.jr_path.proofs.Maps.{lookup-insert_entry}
use Rattle.jr_value.specs.Values.{same_bytes}
use Rattle.jcr_ref.specs.References.{with_identifier}

-- whether an identifier is in an index
abbrev pub is_in : List (List ℕ × Bool) → List ℕ → Bool
is_in index id = is_some (lookup (is_at (name_cmp id)) index)

noted : (index : List (List ℕ × Bool)) (o : Option (List ℕ)) (id : List ℕ) → is_in (with_identifier index o) id ≡ (is_in index id || option_map_or (same_bytes id) o false)
noted index None id = or_false (is_in index id)
  where
    or_false : (b : Bool) → b ≡ (b || false)
    or_false true = refl
    or_false false = refl
noted index (Some text) id = ap is_some (lookup-insert_entry name_cmp nat_list_cmp_total id text true index) ∙ by (same_bytes id text) (lookup (is_at (name_cmp id)) index)
  where
    by : (b : Bool) (o : Option Bool) → is_some (cond b (Some true) o) ≡ (is_some o || b)
    by true None = refl
    by true (Some x) = refl
    by false None = refl
    by false (Some x) = refl

-- one node more is noted
pub noted_more : (index new : List (List ℕ × Bool)) (o : Option (List ℕ)) (test : Path → Bool) (p : Path) (rest : List Path) (id : List ℕ) (all : Bool) → new ≡ with_identifier index o → test p ≡ option_map_or (same_bytes id) o false
    → (is_in index id || is_some (find test (p ∷ rest))) ≡ all → (is_in new id || is_some (find test rest)) ≡ all
noted_more index new o test p rest id all made is so_far =
    ap (λ (b : Bool). b || is_some (find test rest)) (ap (λ (m : List (List ℕ × Bool)). is_in m id) made ∙ noted index o id)
    ∙ (by (is_in index id) (option_map_or (same_bytes id) o false) (find test rest) ∙ (ap (λ (b : Bool). is_in index id || is_some (cond b (Some p) (find test rest))) (sym is) ∙ so_far))
  where
    by : (a b : Bool) (r : Option Path) → ((a || b) || is_some r) ≡ (a || is_some (cond b (Some p) r))
    by true b r = refl
    by false true r = refl
    by false false r = refl

-- what isn't in the index names no node
pub lacks : (here : Bool) (target : Option Path) → here ≡ is_some target → not here ≡ is_none target
lacks here None h = ap not h
lacks here (Some p) h = ap not h
