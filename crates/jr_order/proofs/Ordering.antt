-- Children put in order, one after the other.
use Rattle.std.proofs.Common.{◌≡◌, ℕ, ◌+◌, ◌<◌, Bool, true, false, cond, get_or, map, List, [], ◌∷◌, ◌++◌, length, take, drop, Option, None, Some, refl, sym, ap, ◌∙◌, append_assoc, append-nil}
use Rattle.std.specs.Map.{remove_entry}
use Rattle.std.specs.BTreeMap.{is_at}
use Rattle.std.specs.List.{cons_option, filter_map}
use Rattle.std.proofs.lemmas.List.{map-append, take_more}
use Rattle.std.proofs.lemmas.List.Elements.{filter_map-append}
use denote.Ref.{Bor}
use Rattle.basics.proofs.Lists.{drop_next}
use Rattle.jr_path.specs.Names.{name_cmp}
use Rattle.jr_path.specs.declared.name.Name.{Name}
use Rattle.jr_value.specs.declared.value.Value.{Value}
use Rattle.jr_items.specs.Items.{name_in}
use Rattle.jr_part.specs.Parts.{ChildNames, has_name}
use Rattle.jr_order.specs.Order.{in_order}

-- a listed name comes next, where it is a child's
next : (b : Bool) (names : List Name) (n : Name) (ns : List Name) (there gone : ChildNames)
    → cond b (names ++ n ∷ []) names ++ in_order ns (cond b gone there)
    ≡ names ++ cond b (n ∷ in_order ns gone) (in_order ns there)
next true names n ns there gone = append_assoc names (n ∷ []) (in_order ns gone)
next false names n ns there gone = refl

pub order_more : (xs : List (Bor Name)) (i : ℕ) (x : Bor Name) (names more : List Name)
    (rest less : ChildNames) (whole : List Name) → i < length xs → x ≡ get_or xs i x
    → names ++ in_order (map (λ n. n.now) (drop i xs)) rest ≡ whole
    → more ≡ cond (has_name rest x.now) (names ++ x.now ∷ []) names
    → less ≡ cond (has_name rest x.now) (remove_entry (is_at (name_cmp x.now)) rest) rest
    → more ++ in_order (map (λ n. n.now) (drop (i + 1) xs)) less ≡ whole
order_more xs i x names more rest less whole below at so_far put took =
    ap (λ (ns : List Name). ns ++ in_order (map (λ (n : Bor Name). n.now) (drop (i + 1) xs)) less) put
    ∙ (ap (λ (r : ChildNames). cond (has_name rest x.now) (names ++ x.now ∷ []) names ++ in_order (map (λ (n : Bor Name). n.now) (drop (i + 1) xs)) r) took
    ∙ (next (has_name rest x.now) names x.now (map (λ (n : Bor Name). n.now) (drop (i + 1) xs)) rest (remove_entry (is_at (name_cmp x.now)) rest)
    ∙ (ap (λ (ys : List (Bor Name)). names ++ in_order (map (λ (n : Bor Name). n.now) ys) rest) (sym (drop_next xs i x below at)) ∙ so_far)))

-- one more name, where the value is one
pub one_name : (old new : List (Bor Name)) (n : Bor Name) (o : Option Name) → new ≡ old ++ n ∷ []
    → Some n.now ≡ o → map (λ n. n.now) new ≡ map (λ n. n.now) old ++ cons_option o []
one_name old new n o pushed is = ap (map (λ (n : Bor Name). n.now)) pushed
    ∙ (map-append (λ (n : Bor Name). n.now) old (n ∷ [])
    ∙ ap (λ (p : Option Name). map (λ (n : Bor Name). n.now) old ++ cons_option p []) is)

pub none_name : (old new : List (Bor Name)) (o : Option Name) → new ≡ old → None ≡ o
    → map (λ n. n.now) new ≡ map (λ n. n.now) old ++ cons_option o []
none_name old new o same is = ap (map (λ (n : Bor Name). n.now)) same
    ∙ (sym (append-nil (map (λ (n : Bor Name). n.now) old))
    ∙ ap (λ (p : Option Name). map (λ (n : Bor Name). n.now) old ++ cons_option p []) is)

pub names_more : (xs : List Value) (i : ℕ) (x : Value) (old new : List Name) → i < length xs
    → x ≡ get_or xs i x → old ≡ filter_map name_in (take i xs)
    → new ≡ old ++ cons_option (name_in x) [] → new ≡ filter_map name_in (take (i + 1) xs)
names_more xs i x old new below at so_far step =
    let more : take (i + 1) xs ≡ take i xs ++ x ∷ [] =
    take_more xs i x below ∙ ap (λ y. take i xs ++ y ∷ []) (sym at) in
    step ∙ (ap (λ (ns : List Name). ns ++ cons_option (name_in x) []) so_far
    ∙ (sym (filter_map-append name_in (take i xs) (x ∷ [])) ∙ ap (filter_map name_in) (sym more)))
