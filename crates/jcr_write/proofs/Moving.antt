-- Nodes that go or move, one after the other.
use Rattle.std.proofs.Common.{◌≡◌, ℕ, ◌+◌, ◌<◌, ◌≤◌, get_or, map, List, [], ◌∷◌, ◌++◌, length, take, drop, Option, None, refl, sym, ap, ◌∙◌, subst}
use Rattle.std.specs.Prelude.{IfErr, IfOk, OnOk, Result, Ok, Err}
use Rattle.std.specs.Result.{is_ok}
use Rattle.std.specs.List.{fold}
use Rattle.std.proofs.lemmas.Bool.{false≢true}
use Rattle.std.proofs.lemmas.List.{drop_all, map-append, take_all, take_more}
use Rattle.std.proofs.lemmas.List.Sums.{fold-append}
use Rattle.basics.proofs.Lists.{drop_next}
use Rattle.jr_tree.specs.declared.shared.Refusal.{Refusal}
use Rattle.jr_tree.specs.Trees.{Nodes}
use Rattle.jr_items.specs.Items.{first_some}
use Rattle.jr_items.specs.Refusals.{IsTheRefusal, out_of_memory}
use Rattle.jr_overlay.specs.Drafts.{Steps}
use Rattle.jcr_write.specs.Places.{unless_refused}
use Rattle.jcr_write.proofs.Due.{first_here, passed_ok}

-- one more of those that were gone through
pub fold_more : {X A B : Type 0} (g : B → A → B) (f : X → A) (start now new : B) (xs : List X) (i : ℕ)
    (x : X) → i < length xs → x ≡ get_or xs i x → now ≡ fold g start (map f (take i xs))
    → new ≡ g now (f x) → new ≡ fold g start (map f (take (i + 1) xs))
fold_more {X = X} g f start now new xs i x below at so_far step =
    let more : take (i + 1) xs ≡ take i xs ++ x ∷ [] =
    take_more xs i x below ∙ ap (λ y. take i xs ++ y ∷ []) (sym at) in
    step ∙ (ap (λ b. g b (f x)) so_far
    ∙ (sym (fold-append g start (map f (take i xs)) (f x ∷ []))
    ∙ (ap (fold g start) (sym (map-append f (take i xs) (x ∷ [])))
    ∙ ap (λ (ys : List X). fold g start (map f ys)) (sym more))))

-- all were gone through
pub fold_all : {X A B : Type 0} (g : B → A → B) (f : X → A) (start now : B) (xs : List X) (i : ℕ)
    → length xs ≤ i → now ≡ fold g start (map f (take i xs)) → now ≡ fold g start (map f xs)
fold_all {X = X} g f start now xs i end so_far =
    so_far ∙ ap (λ (ys : List X). fold g start (map f ys)) (take_all i xs end)

-- the first that passes no test, among those that are left
pub limit_more : {X : Type 0} (lim : X → Option Refusal) (all : Option Refusal) (xs : List X) (i : ℕ)
    (x : X) → i < length xs → x ≡ get_or xs i x → all ≡ first_some (map lim (drop i xs))
    → lim x ≡ None → all ≡ first_some (map lim (drop (i + 1) xs))
limit_more {X = X} lim all xs i x below at so_far none =
    so_far ∙ (ap (λ (ys : List X). first_some (map lim ys)) (drop_next xs i x below at)
    ∙ ap (λ (o : Option Refusal). first_some (o ∷ map lim (drop (i + 1) xs))) none)

pub limit_here : {X : Type 0} (lim : X → Option Refusal) (all : Option Refusal) (xs : List X) (i : ℕ)
    (x : X) (r : Refusal) → i < length xs → x ≡ get_or xs i x
    → all ≡ first_some (map lim (drop i xs)) → IsTheRefusal (lim x) r → IsTheRefusal all r
limit_here {X = X} lim all xs i x r below at so_far is m =
    so_far ∙ (ap (λ (ys : List X). first_some (map lim ys)) (drop_next xs i x below at)
    ∙ first_here (lim x) (map lim (drop (i + 1) xs)) r is m)

pub limit_none : {X : Type 0} (lim : X → Option Refusal) (all : Option Refusal) (xs : List X) (i : ℕ)
    → length xs ≤ i → all ≡ first_some (map lim (drop i xs)) → all ≡ None
limit_none {X = X} lim all xs i end so_far =
    so_far ∙ ap (λ (ys : List X). first_some (map lim ys)) (drop_all i xs end)

-- of nodes with their paths
pub map_twice : {X A B : Type 0} (f : X → A) (g : A → B) (xs : List X)
    → map g (map f xs) ≡ map (λ x. g (f x)) xs
map_twice f g [] = refl
map_twice f g (x ∷ xs) = ap (λ ys. g (f x) ∷ ys) (map_twice f g xs)

-- what was made is what is due, and else memory was refused
pub of_made : {A E : Type 0} (P : A → Type 0) (result : Result A Refusal) (made : Result A E)
    → IfOk made P → IfOk result (λ x. made ≡ Ok x) → IfOk result P
of_made P (Err r) made is same = same
of_made P (Ok x) (Err e) is same = absurd (false≢true (ap is_ok same))
of_made P (Ok x) (Ok y) is same =
    subst P (ap (λ (r : Result _ _). elim r [ Ok z ↦ z | Err e ↦ x ]) same) is

-- the steps that were made are those that are due
pub steps_ok : {A E : Type 0} (result : Result A Refusal) (made : Result A E) (o : Option Refusal)
    (new : Steps) (f : Nodes → Steps) (ns ms : Nodes) → o ≡ None → ns ≡ ms
    → OnOk made (new ≡ f ns) → IfOk result (λ x. made ≡ Ok x)
    → OnOk result (unless_refused o (Ok (f ms)) ≡ Ok new)
steps_ok (Err r) made o new f ns ms h e is same = same
steps_ok (Ok x) (Err y) o new f ns ms h e is same = absurd (false≢true (ap is_ok same))
steps_ok (Ok x) (Ok y) o new f ns ms h e is same =
    passed_ok o (Ok (f ms)) new h (ap Ok (ap f (sym e) ∙ sym is))

-- what holds, holds of an answer
pub on_any : {A E P : Type 0} (result : Result A E) → P → OnOk result P
on_any (Ok x) h = h
on_any (Err e) h = tt

-- where memory is refused any refusal may come
pub memory_any : {A : Type 0} (result : Result A Refusal) (o : Option Refusal)
    → IfErr result (λ r. r ≡ out_of_memory) → IfErr result (IsTheRefusal o)
memory_any (Ok x) o is = is
memory_any (Err r) o is = λ m. absurd (m is)

-- of the nodes that were lent
pub limit_ok : {A : Type 0} (result : Result A Refusal) (f : Nodes → Option Refusal) (ns ms : Nodes)
    → ns ≡ ms → OnOk result (f ns ≡ None) → OnOk result (f ms ≡ None)
limit_ok result f ns ms e is = subst (λ (x : Nodes). OnOk result (f x ≡ None)) e is

pub limit_err : {A : Type 0} (result : Result A Refusal) (f : Nodes → Option Refusal) (ns ms : Nodes)
    → ns ≡ ms → IfErr result (IsTheRefusal (f ns)) → IfErr result (IsTheRefusal (f ms))
limit_err result f ns ms e is = subst (λ (x : Nodes). IfErr result (IsTheRefusal (f x))) e is

pub same_nodes : {V X E : Type 0} (result : Result V E) (items : V → List X) (f : List X → Nodes)
    (xs : List X) (ms : Nodes) → f xs ≡ ms → IfOk result (λ v. items v ≡ xs)
    → IfOk result (λ v. f (items v) ≡ ms)
same_nodes (Ok v) items f xs ms e is = ap f is ∙ e
same_nodes (Err r) items f xs ms e is = is
