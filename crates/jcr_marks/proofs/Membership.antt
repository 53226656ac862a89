-- Which marks are among those of an edit.
use Rattle.std.proofs.Common.{◌≡◌, ◌⊎◌, inl, inr, Bool, true, false, cond, Some, None, Option, List, [], ◌∷◌, ◌++◌, refl, sym, ap, ◌∙◌, subst, is_some}
use Rattle.std.specs.declared.cmp.Ordering.{Ordering}
use Rattle.std.specs.declared.cmp.Ordering.TheVariants.{Less, Equal, Greater}
use Rattle.std.specs.Option.{option_or}
use Rattle.std.specs.List.{cons_option, filter, filter_map, flat_map, fold}
use Rattle.std.specs.Map.{keys_of}
use Rattle.std.specs.BTreeMap.{insert_entry}
use Rattle.std.specs.Ordering.{is_eq, match_ordering, ordering_then}
use mathlib.Core.Bool.{false≢true}
use Rattle.jr_path.specs.Names.{path_cmp, parent_of}
use Rattle.jr_path.specs.declared.name.Name.{Name}
use Rattle.jr_path.specs.declared.path.Path.{Path}
use Rattle.jr_path.proofs.Maps.{path_exact, name_exact}
use Rattle.jr_tree.specs.declared.edit.Write.{Write}
use Rattle.jr_tree.specs.declared.edit.Write.TheVariants.{Here, Gone, Put, Unset}
use Rattle.jr_tree.specs.Trees.{Nodes}
use Rattle.jr_tree.specs.Edits.{applied}
use Rattle.jr_tree.specs.Items.{here_of, written}
use Rattle.jr_tree.proofs.Pointwise.{same_path}
use Rattle.jcr_ref.specs.References.{target_of}
use Rattle.oak_clash.specs.declared.mark.Mark.{Mark}
use Rattle.oak_clash.specs.declared.mark.Mark.TheVariants.{Exists, Guard, Touch, Prop}
use Rattle.oak_clash.specs.declared.mark.MarkAt.{MarkAt}
use Rattle.oak_machine.specs.Marks.{mark_cmp, mark_at_cmp}
use Rattle.jcr_marks.specs.Marks.{mark_each, moved_by, prop_marks, retyped, newly_covered, new_references, marks_of}

-- one of the list
abbrev pub IsIn : {X : Type 0} → X → List X → Type 0
IsIn k [] = ⊥
IsIn k (x ∷ xs) = (x ≡ k) ⊎ IsIn k xs

-- that mark of the node at p
abbrev pub Has : Path → Mark → List MarkAt → Type 0
Has p m ms = IsIn (record { path = p; mark = m }) ms

-- ---- lists

pub in_first : {X : Type 0} (k : X) (xs ys : List X) → IsIn k xs → IsIn k (xs ++ ys)
in_first k [] ys h = absurd h
in_first k (x ∷ xs) ys h = elim h [ inl e ↦ inl e | inr i ↦ inr (in_first k xs ys i) ]

pub in_second : {X : Type 0} (k : X) (xs ys : List X) → IsIn k ys → IsIn k (xs ++ ys)
in_second k [] ys h = h
in_second k (x ∷ xs) ys h = inr (in_second k xs ys h)

pub in_flat : {X Y : Type 0} (f : X → List Y) (x : X) (k : Y) (xs : List X) → IsIn x xs → IsIn k (f x) → IsIn k (flat_map f xs)
in_flat f x k [] i j = absurd i
in_flat f x k (y ∷ xs) i j = elim i [ inl e ↦ in_first k (f y) _ (subst (λ z. IsIn k (f z)) (sym e) j) | inr h ↦ in_second k (f y) _ (in_flat f x k xs h j) ]

pub in_filter : {X : Type 0} (test : X → Bool) (k : X) (xs : List X) → IsIn k xs → test k ≡ true → IsIn k (filter test xs)
in_filter test k [] h t = absurd h
in_filter test k (x ∷ xs) h t =
    elim (test x) as (λ b. test x ≡ b → IsIn k (cond b (x ∷ filter test xs) (filter test xs))) [
      | true ↦ λ p. elim h [ inl e ↦ inl e | inr i ↦ inr (in_filter test k xs i t) ]
      | false ↦ λ p. elim h [ inl e ↦ absurd (false≢true (sym p ∙ (ap test e ∙ t))) | inr i ↦ in_filter test k xs i t ]
    ] refl

pub in_option : {Y : Type 0} (y : Y) (o : Option Y) (ys : List Y) → IsIn y ys → IsIn y (cons_option o ys)
in_option y None ys i = i
in_option y (Some z) ys i = inr i

pub in_filter_map : {X Y : Type 0} (f : X → Option Y) (x : X) (y : Y) (xs : List X) → IsIn x xs → f x ≡ Some y → IsIn y (filter_map f xs)
in_filter_map f x y [] i h = absurd i
in_filter_map f x y (z ∷ xs) i h = elim i [
  | inl e ↦ subst (λ o. IsIn y (cons_option o (filter_map f xs))) (sym (ap f e ∙ h)) (inl refl)
  | inr j ↦ in_option y (f z) (filter_map f xs) (in_filter_map f x y xs j h)
]

pub in_map : (m : Mark) (p : Path) (ps : List Path) → IsIn p ps → Has p m (mark_each m ps)
in_map m p [] i = absurd i
in_map m p (q ∷ ps) i = elim i [ inl e ↦ inl (ap (λ (r : Path). record { path = r; mark = m }) e) | inr j ↦ inr (in_map m p ps j) ]

-- ---- marks in their order

pub unlike : (o : Ordering) (G : Type 0) → is_eq o ≡ false → o ≡ Equal → G
unlike o G h k = absurd (false≢true (sym h ∙ ap is_eq k))

pub mark_exact : (a b : Mark) → mark_cmp a b ≡ Equal → a ≡ b
mark_exact Exists Exists h = refl
mark_exact Exists Guard h = unlike Less _ refl h
mark_exact Exists Touch h = unlike Less _ refl h
mark_exact Exists (Prop n) h = unlike Less _ refl h
mark_exact Guard Exists h = unlike Greater _ refl h
mark_exact Guard Guard h = refl
mark_exact Guard Touch h = unlike Less _ refl h
mark_exact Guard (Prop n) h = unlike Less _ refl h
mark_exact Touch Exists h = unlike Greater _ refl h
mark_exact Touch Guard h = unlike Greater _ refl h
mark_exact Touch Touch h = refl
mark_exact Touch (Prop n) h = unlike Less _ refl h
mark_exact (Prop m) Exists h = unlike Greater _ refl h
mark_exact (Prop m) Guard h = unlike Greater _ refl h
mark_exact (Prop m) Touch h = unlike Greater _ refl h
mark_exact (Prop m) (Prop n) h = ap (λ (x : Name). Prop x) (name_exact m n h)

pub mark_at_exact : (a b : MarkAt) → mark_at_cmp a b ≡ Equal → a ≡ b
mark_at_exact a b h = by (path_cmp a.path b.path) refl h
  where
    by : (o : Ordering) → path_cmp a.path b.path ≡ o → ordering_then o (mark_cmp a.mark b.mark) ≡ Equal → a ≡ b
    by Equal e k = ap (λ (p : Path). record { path = p; mark = a.mark }) (path_exact a.path b.path e) ∙ ap (λ (m : Mark). record { path = b.path; mark = m }) (mark_exact a.mark b.mark k)
    by Less e k = unlike Less _ refl k
    by Greater e k = unlike Greater _ refl k

abbrev marks_in : List (MarkAt × Bool) → List MarkAt
marks_in es = keys_of es

pub in_insert : (k m : MarkAt) (es : List (MarkAt × Bool)) → (m ≡ k) ⊎ IsIn k (marks_in es) → IsIn k (marks_in (insert_entry mark_at_cmp es m true))
in_insert k m [] h = h
in_insert k m (e ∷ es) h =
    elim (mark_at_cmp m e.0) as (λ o. mark_at_cmp m e.0 ≡ o → IsIn k (marks_in (match_ordering o ((m, true) ∷ e ∷ es) ((e.0, true) ∷ es) (e ∷ insert_entry mark_at_cmp es m true)))) [
      | Less ↦ λ p. h
      | Equal ↦ λ p. elim h [ inl x ↦ inl (sym (mark_at_exact m e.0 p) ∙ x) | inr i ↦ i ]
      | Greater ↦ λ p. elim h [ inl x ↦ inr (in_insert k m es (inl x)) | inr i ↦ elim i [ inl y ↦ inl y | inr z ↦ inr (in_insert k m es (inr z)) ] ]
    ] refl

pub in_order : (k : MarkAt) (ms : List MarkAt) (es : List (MarkAt × Bool)) → IsIn k ms ⊎ IsIn k (marks_in es) → IsIn k (marks_in (fold (λ es m. insert_entry mark_at_cmp es m true) es ms))
in_order k [] es h = elim h [ inl x ↦ absurd x | inr i ↦ i ]
in_order k (m ∷ ms) es h = in_order k ms (insert_entry mark_at_cmp es m true)
    (elim h [ inl x ↦ elim x [ inl e ↦ inr (in_insert k m es (inl e)) | inr i ↦ inl i ] | inr i ↦ inr (in_insert k m es (inr i)) ])

-- what is written is so by one of the writes
pub by_write : {X : Type 0} (f : Write → Option X) (ws : List Write) (x : X) → written f ws ≡ Some x → (w : Write) × IsIn w ws × (f w ≡ Some x)
by_write f [] x h = absurd (false≢true (ap is_some h))
by_write f (w ∷ ws) x h =
    (elim (written f ws) as (λ o. (o ≡ Some x → (v : Write) × IsIn v ws × (f v ≡ Some x)) → option_or o (f w) ≡ Some x → (v : Write) × IsIn v (w ∷ ws) × (f v ≡ Some x)) [
      | None ↦ λ rest k. (w, inl refl, k)
      | Some y ↦ λ rest k. let it = rest k in (it.0, inr it.1, it.2)
    ]) (λ k. by_write f ws x k) h

pub passes : {X : Type 0} (b : Bool) (x y : X) → cond b (Some x) None ≡ Some y → b ≡ true
passes true x y h = refl
passes false x y h = absurd (false≢true (ap is_some h))

pub some_of : {X : Type 0} (o : Option X) → is_some o ≡ true → (x : X) × (o ≡ Some x)
some_of None h = absurd (false≢true h)
some_of (Some x) h = (x, refl)

pub moves : (p : Path) (b : Bool) (w : Write) → here_of p w ≡ Some b → IsIn p (moved_by w)
moves p b (Here q) h = inl (sym (same_path p q (passes _ true b h)))
moves p b (Gone q) h = inl (sym (same_path p q (passes _ false b h)))
moves p b (Put q m x) h = absurd (false≢true (ap is_some h))
moves p b (Unset q m) h = absurd (false≢true (ap is_some h))

-- the parent of a node that is added or removed is touched
pub parents_touched : (t : Nodes) (ws : List Write) (p q : Path) → parent_of p ≡ Some q → is_some (written (here_of p) ws) ≡ true → Has q Touch (marks_of t ws)
parents_touched t ws p q up h =
    let moved = flat_map moved_by ws in
    let types = retyped t (applied None t ws) ws in
    let b = some_of _ h in
    let w = by_write (here_of p) ws b.0 b.1 in
    in_order _ _ [] (inl (in_first _ (mark_each Exists moved ++ mark_each Guard (types ++ newly_covered t (applied None t ws)) ++ mark_each Touch (filter_map parent_of (moved ++ types) ++ filter_map (target_of (applied None t ws)) (flat_map (new_references t) ws))) (flat_map prop_marks ws)
    (in_second _ (mark_each Exists moved ++ mark_each Guard (types ++ newly_covered t (applied None t ws))) _
    (in_map Touch q _ (in_first q _ (filter_map (target_of (applied None t ws)) (flat_map (new_references t) ws)) (in_filter_map parent_of p q (moved ++ types) (in_first p moved types (in_flat moved_by w.0 p ws w.1 (moves p b.0 w.0 w.2))) up))))))
