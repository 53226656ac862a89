-- One of the drawn revisions is ended.
use Rattle.std.proofs.Common.{◌≡◌, ℕ, ◌+◌, ◌<◌, Bool, true, false, cond, ◌&&◌, List, [], ◌∷◌, ◌++◌, length, get_or, set, take, drop, map, sym, ap, ◌∙◌, append_assoc, arith}
use Rattle.std.specs.Prelude.{◌==◌}
use Rattle.std.proofs.lemmas.List.{drop_more, map_more, length-map, length-take-le, get_or_at, set_at, take_at}
use Rattle.std.proofs.lemmas.Bool.{cond-true, cond-false}
use Rattle.jr_rev.specs.declared.revision.Revision.{Revision}
use Rattle.jr_rev.specs.Revisions.{is_same}
use Rattle.oak_node.specs.declared.drawn.Drawn.{Drawn}
use Rattle.oak_node.specs.Heads.{with_end}
use Rattle.oak_node.proofs.Rising.{same_fields}

end_step : (r : Revision) (ds now : List Drawn) (i : ℕ) (d : Drawn) → i < length ds → now ≡ with_end (take i ds) r ++ drop i ds → set now i (cond (is_same (get_or now i d).revision r) (record { revision = (get_or now i d).revision; ended = true }) (get_or now i d)) ≡ with_end (take (i + 1) ds) r ++ drop (i + 1) ds
end_step r ds now i d h is =
    let x : Drawn = get_or ds i d in
    let f : Drawn → Drawn = λ e. cond (is_same e.revision r) (record { revision = e.revision; ended = true }) e in
    let front : List Drawn = map f (take i ds) in
    let rest : List Drawn = drop (i + 1) ds in
    let long : length front ≡ i = length-map (take i ds) f ∙ length-take-le i ds (omega arith) in
    let split : now ≡ front ++ x ∷ rest = is ∙ ap (λ ys. front ++ ys) (drop_more ds i d h) in
    let read : get_or now i d ≡ x = ap (λ ys. get_or ys i d) split ∙ get_or_at front x rest d i long in
    let wrote : set now i (f (get_or now i d)) ≡ front ++ f x ∷ rest = ap (λ ys. set ys i (f (get_or now i d))) split ∙ (ap (λ e. set (front ++ x ∷ rest) i (f e)) read ∙ set_at front x rest (f x) i long) in
    wrote ∙ (sym (append_assoc front (f x ∷ []) rest) ∙ ap (λ ys. ys ++ rest) (sym (map_more f ds i d h)))

-- what `==` says of the revision at i, field by field
abbrev pub Tests : List Drawn → ℕ → Drawn → Revision → Bool → Type 0
Tests now i d r b =
    (((get_or now i d).revision.time == r.time) && (((get_or now i d).revision.counter == r.counter) && ((get_or now i d).revision.cluster == r.cluster))) ≡ b

pub end_here : (r : Revision) (ds now : List Drawn) (i : ℕ) (d : Drawn) → i < length ds → now ≡ with_end (take i ds) r ++ drop i ds → Tests now i d r true → set now i (record { revision = (get_or now i d).revision; ended = true }) ≡ with_end (take (i + 1) ds) r ++ drop (i + 1) ds
end_here r ds now i d h is same =
    ap (λ e. set now i e) (sym (cond-true (is_same (get_or now i d).revision r) _ _ (same_fields (get_or now i d).revision r ∙ same))) ∙ end_step r ds now i d h is

pub end_other : (r : Revision) (ds now : List Drawn) (i : ℕ) (d : Drawn) → i < length ds → now ≡ with_end (take i ds) r ++ drop i ds → Tests now i d r false → set now i (get_or now i d) ≡ with_end (take (i + 1) ds) r ++ drop (i + 1) ds
end_other r ds now i d h is other =
    ap (λ e. set now i e) (sym (cond-false (is_same (get_or now i d).revision r) _ _ (same_fields (get_or now i d).revision r ∙ other))) ∙ end_step r ds now i d h is

-- a vector whose slice was written whole
pub whole : {X : Type 0} (n : ℕ) (xs old : List X) → length xs ≡ n → take n (xs ++ drop (length xs) old) ≡ xs
whole n xs old long = take_at xs (drop (length xs) old) n long
