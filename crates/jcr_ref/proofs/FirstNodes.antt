-- The index of the first nodes of identifiers, and what is found in it.
use Rattle.std.proofs.Common.{◌≡◌, ℕ, ◌+◌, ◌<◌, Bool, true, false, cond, Option, None, Some, is_some, List, [], ◌∷◌, ◌++◌, length, take, get_or, refl, sym, ap, ◌∙◌}
use Rattle.std.proofs.lemmas.List.{take_more}
use Rattle.std.proofs.lemmas.List.Elements.{filter_map-append}
use Rattle.std.specs.List.{cons_option, filter_map, find}
use Rattle.std.specs.Map.{lookup}
use Rattle.std.specs.BTreeMap.{is_at, insert_entry}
use Rattle.std.specs.Cmp.{Equal-is}
use Rattle.std.specs.Option.{option_map_or, option_or}
use Rattle.std.specs.Cmp.Lexicographic.{nat_list_cmp_total}
use Rattle.std.specs.FinMap.{nat_cmp-IsAntisymmetric, slice_cmp-IsAntisymmetric}
use Rattle.jr_path.specs.Names.{name_cmp}
use Rattle.jr_path.specs.declared.path.Path.{Path}
use Rattle.jr_path.proofs.Maps.{lookup-insert_entry}
use Rattle.jr_value.specs.Values.{same_bytes}
use Rattle.jcr_ref.specs.References.{uuid_text}
use Rattle.jcr_ref.specs.Targets.{node_by_text, with_first}

or_none : (o : Option Path) → option_or o None ≡ o
or_none None = refl
or_none (Some p) = refl

same_text : (x y : List ℕ) → same_bytes x y ≡ true → x ≡ y
same_text x y h = slice_cmp-IsAntisymmetric nat_cmp-IsAntisymmetric x y ((Equal-is (name_cmp x y)).0 h)

-- the node of a text, or else the one that is noted, where the text is its own
noted : (index : List (List ℕ × Path)) (o : Option (List ℕ)) (p : Path) (id : List ℕ)
    → lookup (is_at (name_cmp id)) (with_first index o p) ≡ option_or (lookup (is_at (name_cmp id)) index) (cond (option_map_or (same_bytes id) o false) (Some p) None)
noted index None p id = sym (or_none (lookup (is_at (name_cmp id)) index))
noted index (Some text) p id = by (lookup (is_at (name_cmp text)) index) refl (same_bytes id text) refl
  where
    by : (o : Option Path) → lookup (is_at (name_cmp text)) index ≡ o → (b : Bool) → same_bytes id text ≡ b
        → lookup (is_at (name_cmp id)) (cond (is_some o) index (insert_entry name_cmp index text p)) ≡ option_or (lookup (is_at (name_cmp id)) index) (cond b (Some p) None)
    by (Some q) h true e =
        let at : lookup (is_at (name_cmp id)) index ≡ Some q = ap (λ (k : List ℕ). lookup (is_at (name_cmp k)) index) (same_text id text e) ∙ h in
        at ∙ sym (ap (λ (o : Option Path). option_or o (Some p)) at)
    by (Some q) h false e = sym (or_none (lookup (is_at (name_cmp id)) index))
    by None h true e =
        let at : lookup (is_at (name_cmp id)) index ≡ None = ap (λ (k : List ℕ). lookup (is_at (name_cmp k)) index) (same_text id text e) ∙ h in
        lookup-insert_entry name_cmp nat_list_cmp_total id text p index
        ∙ (ap (λ (b : Bool). cond b (Some p) (lookup (is_at (name_cmp id)) index)) e ∙ sym (ap (λ (o : Option Path). option_or o (Some p)) at))
    by None h false e =
        lookup-insert_entry name_cmp nat_list_cmp_total id text p index
        ∙ (ap (λ (b : Bool). cond b (Some p) (lookup (is_at (name_cmp id)) index)) e ∙ sym (or_none (lookup (is_at (name_cmp id)) index)))

joined : (o : Option Path) (b : Bool) (p : Path) (rest : Option Path) → option_or (option_or o (cond b (Some p) None)) rest ≡ option_or o (cond b (Some p) rest)
joined (Some q) b p rest = refl
joined None true p rest = refl
joined None false p rest = refl

-- one node more is noted
pub first_more : (index new : List (List ℕ × Path)) (o : Option (List ℕ)) (test : Path → Bool) (p : Path) (rest : List Path) (id : ℕ) (all : Option Path) → new ≡ with_first index o p → test p ≡ option_map_or (same_bytes (uuid_text id)) o false
    → option_or (node_by_text index id) (find test (p ∷ rest)) ≡ all → option_or (node_by_text new id) (find test rest) ≡ all
first_more index new o test p rest id all made is so_far =
    ap (λ (m : List (List ℕ × Path)). option_or (node_by_text m id) (find test rest)) made
    ∙ (ap (λ (found : Option Path). option_or found (find test rest)) (noted index o p (uuid_text id))
    ∙ (joined (node_by_text index id) (option_map_or (same_bytes (uuid_text id)) o false) p (find test rest)
    ∙ (ap (λ (b : Bool). option_or (node_by_text index id) (cond b (Some p) (find test rest))) (sym is) ∙ so_far)))

-- what a loop has put behind, with one item more
pub found_more : {X Y : Type 0} (f : X → Option Y) (xs : List X) (i : ℕ) (x : X) (old new : List Y) → i < length xs → x ≡ get_or xs i x → old ≡ filter_map f (take i xs) → new ≡ old ++ cons_option (f x) [] → new ≡ filter_map f (take (i + 1) xs)
found_more f xs i x old new below at so_far pushed =
    pushed
    ∙ (ap (λ ys. ys ++ filter_map f (x ∷ [])) so_far
    ∙ (sym (filter_map-append f (take i xs) (x ∷ [])) ∙ ap (filter_map f) (ap (λ y. take i xs ++ y ∷ []) at ∙ sym (take_more xs i x below))))
