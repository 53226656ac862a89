-- What is gathered document by document, and entry by entry.
use Rattle.std.proofs.Common.{◌≡◌, ℕ, ◌+◌, ◌<◌, ◌≤◌, Bool, true, false, cond, List, [], ◌∷◌, ◌++◌, Option, Some, length, take, get_or, map, refl, sym, ap, ◌∙◌, append-nil, append_assoc}
use Rattle.std.specs.Prelude.{not, option_to_list}
use Rattle.std.specs.Map.{keys_of}
use Rattle.jr_path.specs.declared.path.Item.{Item}
use Rattle.jr_rev.specs.declared.vector.RevVec.{RevVec}
use Rattle.jr_rev.specs.Vectors.{sees}
use Rattle.oak_changes.specs.Saying.{new_said, said_of, States}
use Rattle.oak_changes.specs.declared.said.Said.{Said}
use Rattle.std.specs.Option.{option_or}
use Rattle.std.specs.Ordering.{eq_by_cmp}
use Rattle.std.specs.List.{filter, flat_map}
use Rattle.std.proofs.lemmas.List.{get_or_default, take_all, take_more, map-append}
use Rattle.std.proofs.lemmas.List.Concat.{flat_map-append}
use Rattle.std.proofs.lemmas.List.Elements.{filter-append}
use Rattle.jr_rev.specs.declared.revision.Revision.{Revision}
use Rattle.jr_rev.specs.Revisions.{revision_cmp}
use Rattle.oak_doc.specs.Updates.{of_revision}
use Rattle.oak_read.specs.Meaning.{latest}
use Rattle.oak_read.proofs.Entries.{latest-append}

-- what one more item gives joins what those before gave
pub gathered_more : {A D E S : Type 0} (c : D → List E) (g : E → S) (f : A → D) (xs : List A) (i : ℕ) (x : A) (old new : List S) → i < length xs → x ≡ get_or xs i x → old ≡ map g (flat_map c (map f (take i xs))) → new ≡ old ++ map g (c (f x)) → new ≡ map g (flat_map c (map f (take (i + 1) xs)))
gathered_more {A} c g f xs i x old new within is so_far more =
    let taken : take (i + 1) xs ≡ take i xs ++ x ∷ [] = take_more xs i x within ∙ ap (λ y. take i xs ++ y ∷ []) (sym is) in
    let mapped : map f (take (i + 1) xs) ≡ map f (take i xs) ++ f x ∷ [] = ap (map f) taken ∙ map-append f (take i xs) (x ∷ []) in
    more
    ∙ ap (λ ys. ys ++ map g (c (f x))) so_far
    ∙ sym (map-append g (flat_map c (map f (take i xs))) (c (f x)))
    ∙ ap (λ ys. map g (flat_map c (map f (take i xs)) ++ ys)) (sym (append-nil (c (f x))))
    ∙ ap (map g) (sym (flat_map-append c (map f (take i xs)) (f x ∷ [])))
    ∙ ap (λ ds. map g (flat_map c ds)) (sym mapped)

-- what the items give joins what was there
pub joined_more : {A D E : Type 0} (c : D → List E) (f : A → D) (xs : List A) (i : ℕ) (x : A) (start old new : List E) → i < length xs → x ≡ get_or xs i x → old ≡ start ++ flat_map c (map f (take i xs)) → new ≡ old ++ c (f x) → new ≡ start ++ flat_map c (map f (take (i + 1) xs))
joined_more {A} c f xs i x start old new within is so_far more =
    let taken : take (i + 1) xs ≡ take i xs ++ x ∷ [] = take_more xs i x within ∙ ap (λ y. take i xs ++ y ∷ []) (sym is) in
    let mapped : map f (take (i + 1) xs) ≡ map f (take i xs) ++ f x ∷ [] = ap (map f) taken ∙ map-append f (take i xs) (x ∷ []) in
    more
    ∙ ap (λ ys. ys ++ c (f x)) so_far
    ∙ append_assoc start (flat_map c (map f (take i xs))) (c (f x))
    ∙ ap (λ ys. start ++ (flat_map c (map f (take i xs)) ++ ys)) (sym (append-nil (c (f x))))
    ∙ ap (λ ys. start ++ ys) (sym (flat_map-append c (map f (take i xs)) (f x ∷ [])))
    ∙ ap (λ ds. start ++ flat_map c ds) (sym mapped)

-- the latest of the entries that pass, with one more
pub latest_taken : {X : Type 0} (p : Revision × X → Bool) (xs : List (Revision × X)) (i : ℕ) (x : Revision × X) (best next : Option (Revision × X)) → i < length xs → x ≡ get_or xs i x → best ≡ latest (filter p (take i xs)) → next ≡ latest (option_to_list best ++ filter p (x ∷ [])) → next ≡ latest (filter p (take (i + 1) xs))
latest_taken {X} p xs i x best next within is so_far more =
    let taken : take (i + 1) xs ≡ take i xs ++ x ∷ [] = take_more xs i x within ∙ ap (λ y. take i xs ++ y ∷ []) (sym is) in
    more
    ∙ ap (λ o. latest (option_to_list o ++ filter p (x ∷ []))) so_far
    ∙ latest-append (filter p (take i xs)) (filter p (x ∷ []))
    ∙ ap latest (sym (filter-append p (take i xs) (x ∷ [])))
    ∙ ap (λ (ys : List (Revision × X)). latest (filter p ys)) (sym taken)

found_append : {X : Type 0} (xs ys : List (Revision × X)) (r : Revision) → of_revision (xs ++ ys) r ≡ option_or (of_revision xs r) (of_revision ys r)
found_append [] ys r = refl
found_append (e ∷ xs) ys r = ap (cond (eq_by_cmp revision_cmp r e.0) (Some e.1)) (found_append xs ys r) ∙ by (eq_by_cmp revision_cmp r e.0)
  where
    by : (b : Bool) → cond b (Some e.1) (option_or (of_revision xs r) (of_revision ys r)) ≡ option_or (cond b (Some e.1) (of_revision xs r)) (of_revision ys r)
    by true = refl
    by false = refl

-- what is found among one more
pub found_taken : {X : Type 0} (xs : List (Revision × X)) (r : Revision) (i : ℕ) (x : Revision × X) (found next : Option X) → i < length xs → x ≡ get_or xs i x → found ≡ of_revision (take i xs) r → next ≡ option_or found (of_revision (x ∷ []) r) → next ≡ of_revision (take (i + 1) xs) r
found_taken {X} xs r i x found next within is so_far more =
    let taken : take (i + 1) xs ≡ take i xs ++ x ∷ [] = take_more xs i x within ∙ ap (λ y. take i xs ++ y ∷ []) (sym is) in
    more
    ∙ ap (λ o. option_or o (of_revision (x ∷ []) r)) so_far
    ∙ sym (found_append (take i xs) (x ∷ []) r)
    ∙ ap (λ (ys : List (Revision × X)). of_revision ys r) (sym taken)

-- the changes of an item by one commit more
pub said_taken : (from : RevVec) (item : Item) (states : States) (i : ℕ) (x : Revision × Bool) (start old new : List Said) → i < length states → x ≡ get_or states i x → old ≡ start ++ map (said_of from item states) (filter (λ r. not (sees from r)) (keys_of (take i states))) → new ≡ old ++ new_said from item states x.0
    → new ≡ start ++ map (said_of from item states) (filter (λ r. not (sees from r)) (keys_of (take (i + 1) states)))
said_taken from item states i x start old new within is so_far more =
    let taken : take (i + 1) states ≡ take i states ++ x ∷ [] = take_more states i x within ∙ ap (λ y. take i states ++ y ∷ []) (sym is) in
    more
    ∙ ap (λ ys. ys ++ new_said from item states x.0) so_far
    ∙ append_assoc start (map (said_of from item states) (filter (λ r. not (sees from r)) (keys_of (take i states)))) (new_said from item states x.0)
    ∙ ap (λ ys. start ++ (map (said_of from item states) (filter (λ r. not (sees from r)) (keys_of (take i states))) ++ ys)) (one (sees from x.0) refl)
    ∙ ap (λ ys. start ++ ys) (sym (map-append (said_of from item states) (filter (λ r. not (sees from r)) (keys_of (take i states))) (filter (λ r. not (sees from r)) (x.0 ∷ []))))
    ∙ ap (λ ys. start ++ map (said_of from item states) ys) (sym (filter-append (λ r. not (sees from r)) (keys_of (take i states)) (x.0 ∷ [])))
    ∙ ap (λ ys. start ++ map (said_of from item states) (filter (λ r. not (sees from r)) ys)) (sym (map-append (λ (e : Revision × Bool). e.0) (take i states) (x ∷ [])))
    ∙ ap (λ (ys : States). start ++ map (said_of from item states) (filter (λ r. not (sees from r)) (keys_of ys))) (sym taken)
  where
    one : (b : Bool) → sees from x.0 ≡ b → new_said from item states x.0 ≡ map (said_of from item states) (filter (λ r. not (sees from r)) (x.0 ∷ []))
    one b h = ap (λ s. cond s [] (said_of from item states x.0 ∷ [])) h ∙ (at b ∙ sym (ap (λ s. map (said_of from item states) (cond (not s) (x.0 ∷ []) [])) h))
      where
        at : (b : Bool) → cond b [] (said_of from item states x.0 ∷ []) ≡ map (said_of from item states) (cond (not b) (x.0 ∷ []) [])
        at true = refl
        at false = refl

-- what each of the lists gives is what all of them give
pub all_joined : {D E S : Type 0} (g : E → List S) (c : D → List E) (ds : List D) → flat_map (λ d. flat_map g (c d)) ds ≡ flat_map g (flat_map c ds)
all_joined g c [] = refl
all_joined g c (d ∷ ds) = ap (λ ys. flat_map g (c d) ++ ys) (all_joined g c ds) ∙ sym (flat_map-append g (c d) (flat_map c ds))

-- what one entry gives that counts, before those that are left
pub counted_step : {X : Type 0} (test : Revision → Bool) (show : X → Bool) (r : Revision) (x : X) (before rest : List (Revision × X)) (old new whole : States) → before ≡ (r, x) ∷ rest → new ≡ old ++ filter (λ e. test e.0) ((r, show x) ∷ [])
    → old ++ map (λ e. (e.0, show e.1)) (filter (λ e. test e.0) before) ≡ whole → new ++ map (λ e. (e.0, show e.1)) (filter (λ e. test e.0) rest) ≡ whole
counted_step {X} test show r x before rest old new whole first more all_is =
    ap (λ ys. ys ++ map (λ e. (e.0, show e.1)) (filter (λ e. test e.0) rest)) more
    ∙ append_assoc old (filter (λ e. test e.0) ((r, show x) ∷ [])) (map (λ e. (e.0, show e.1)) (filter (λ e. test e.0) rest))
    ∙ ap (λ ys. old ++ ys) (by (test r) refl)
    ∙ ap (λ (es : List (Revision × X)). old ++ map (λ e. (e.0, show e.1)) (filter (λ e. test e.0) es)) (sym first)
    ∙ all_is
  where
    left : States
    left = map (λ e. (e.0, show e.1)) (filter (λ e. test e.0) rest)

    by : (b : Bool) → test r ≡ b → cond (test r) ((r, show x) ∷ []) [] ++ left ≡ map (λ e. (e.0, show e.1)) (cond (test r) ((r, x) ∷ filter (λ e. test e.0) rest) (filter (λ e. test e.0) rest))
    by b h = ap (λ s. cond s ((r, show x) ∷ []) [] ++ left) h ∙ (at b ∙ sym (ap (λ s. map (λ (e : Revision × X). (e.0, show e.1)) (cond s ((r, x) ∷ filter (λ e. test e.0) rest) (filter (λ e. test e.0) rest))) h))
      where
        at : (b : Bool) → cond b ((r, show x) ∷ []) [] ++ left ≡ map (λ (e : Revision × X). (e.0, show e.1)) (cond b ((r, x) ∷ filter (λ e. test e.0) rest) (filter (λ e. test e.0) rest))
        at true = refl
        at false = refl

-- at the end all items are in
pub joined_all : {A D E S : Type 0} (g : E → List S) (c : D → List E) (f : A → D) (xs : List A) (i : ℕ) (start new : List S) → length xs ≤ i → new ≡ start ++ flat_map (λ d. flat_map g (c d)) (map f (take i xs)) → new ≡ start ++ flat_map g (flat_map c (map f xs))
joined_all {A} {D} {E} {S} g c f xs i start new over so_far =
    so_far
    ∙ ap (λ (ys : List A). start ++ flat_map (λ d. flat_map g (c d)) (map f ys)) (take_all i xs over)
    ∙ ap (λ (ys : List S). start ++ ys) (all_joined g c (map f xs))

-- the state at a place
abbrev pub state_at : States → ℕ → Revision × Bool
state_at states i = get_or states i (record { time = 0; counter = 0; cluster = 0 }, false)

pub state_is : (states : States) (i : ℕ) → i < length states → state_at states i ≡ get_or states i (state_at states i)
state_is states i within = get_or_default states i (record { time = 0; counter = 0; cluster = 0 }, false) (state_at states i) within

-- one more goes over to those so far
pub one_over : {X : Type 0} (so_far before rest now whole : List X) (x : X) → before ≡ x ∷ rest → now ≡ so_far ++ x ∷ [] → so_far ++ before ≡ whole → now ++ rest ≡ whole
one_over {X} so_far before rest now whole x first more all_is = ap (λ (ys : List X). ys ++ rest) more ∙ append_assoc so_far (x ∷ []) rest ∙ ap (λ (ys : List X). so_far ++ ys) (sym first) ∙ all_is

pub one_behind : {X : Type 0} (start so_far now some : List X) (x : X) → so_far ≡ start ++ some → now ≡ so_far ++ x ∷ [] → (more : List X) × (now ≡ start ++ more)
one_behind {X} start so_far now some x is more = (some ++ x ∷ [], more ∙ ap (λ (ys : List X). ys ++ x ∷ []) is ∙ append_assoc start some (x ∷ []))
