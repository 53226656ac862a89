-- Names of children, put one after another.
use Rattle.std.proofs.Common.{◌≡◌, ℕ, suc, ◌<◌, ◌≤◌, ◌+◌, Bool, true, false, cond, List, [], ◌∷◌, ◌++◌, Option, take, drop, length, get_or, map, refl, sym, ap, ◌∙◌, append_assoc, arith}
use Rattle.std.specs.List.{fold}
use Rattle.std.specs.FinMap.{is_sorted}
use Rattle.std.specs.BTreeMap.{insert_entry}
use Rattle.std.proofs.lemmas.Bool.{false≢true, and_parts}
use Rattle.std.proofs.lemmas.Cmp.{nat_list_cmp_total}
use Rattle.std.proofs.lemmas.List.{take_more, take_all, take-append-drop}
use Rattle.jr_path.specs.Names.{name_cmp, is_under}
use Rattle.jr_path.specs.declared.name.Name.{Name}
use Rattle.jr_path.specs.declared.path.Path.{Path}
use Rattle.jr_path.proofs.Entries.{insert_entry_last}
use Rattle.jr_rev.specs.declared.revision.Revision.{Revision}
use Rattle.jr_tree.specs.Trees.{is_child_of}
use Rattle.jr_tree.proofs.Entries.{rising}
use Rattle.jr_tree.proofs.Under.{child_is}
use Rattle.jr_part.specs.Parts.{ChildNames}
use Rattle.jr_overlay.specs.declared.overlay.Change.{Change}
use Rattle.jr_overlay.specs.Overlays.{Changed, with_child}
use Rattle.jr_overlay.specs.Merging.{changes_under}

-- what is put behind all others is one more name of the list
pub name_more : (names : ChildNames) (i : ℕ) (x : Name × Option Revision) (old new : ChildNames) (copy : Name) → i < length names → x ≡ get_or names i x → is_sorted name_cmp names ≡ true
    → old ≡ take i names → new ≡ insert_entry name_cmp old copy x.1 → copy ≡ x.0 → new ≡ take (i + 1) names
name_more names i x old new copy below at sorted so_far put same =
    let more : take (i + 1) names ≡ take i names ++ x ∷ [] = take_more names i x below ∙ ap (λ y. take i names ++ y ∷ []) (sym at) in
    let whole : take i names ++ x ∷ drop (i + 1) names ≡ names =
    sym (append_assoc (take i names) (x ∷ []) (drop (i + 1) names))
    ∙ (ap (λ (front : ChildNames). front ++ drop (i + 1) names) (sym more) ∙ take-append-drop (i + 1) names) in
    put
    ∙ (ap (λ n. insert_entry name_cmp old n x.1) same
    ∙ (ap (λ (front : ChildNames). insert_entry name_cmp front x.0 x.1) so_far
    ∙ (insert_entry_last name_cmp nat_list_cmp_total (take i names) x.0 x.1 (drop (i + 1) names) (rw whole (rising name_cmp names sorted))
    ∙ sym more)))

child_under : (p q : Path) → is_child_of p q ≡ true → is_under q p ≡ true
child_under p [] h = absurd (false≢true h)
child_under p (n ∷ q) h = (and_parts _ _ (sym (child_is p (n ∷ q) (λ e. nonzero (length q) e)) ∙ h)).0
  where
    nonzero : (k : ℕ) → suc k ≡ 0 → ⊥
    nonzero k e = absurd (omega arith)

-- a change elsewhere is of no child
no_child : (p : Path) (names : ChildNames) (e : Path × Change) → is_under e.0 p ≡ false → with_child p names e ≡ names
no_child p names e h = by (is_child_of p e.0) refl
  where
    by : (b : Bool) → is_child_of p e.0 ≡ b → with_child p names e ≡ names
    by true c = absurd (false≢true (sym h ∙ child_under p e.0 c))
    by false c = rw c refl

-- the changes at or below p give the children
pub children_below : (p : Path) (names : ChildNames) (c : Changed) → fold (with_child p) names (changes_under c p) ≡ fold (with_child p) names c
children_below p names [] = refl
children_below p names (e ∷ c) = by (is_under e.0 p) refl (children_below p (with_child p names e) c)
  where
    by : (b : Bool) → is_under e.0 p ≡ b → fold (with_child p) (with_child p names e) (changes_under c p) ≡ fold (with_child p) (with_child p names e) c
        → fold (with_child p) names (cond b (e ∷ changes_under c p) (changes_under c p)) ≡ fold (with_child p) (with_child p names e) c
    by true h rest = rest
    by false h rest = ap (λ (ns : ChildNames). fold (with_child p) ns (changes_under c p)) (sym (no_child p names e h)) ∙ rest

-- all touched nodes were named
pub names_done : {A : Type 0} (f : A → Path × Change) (p : Path) (c : Changed) (xs ys : List A) (i : ℕ) (begun known names : ChildNames) → names ≡ fold (with_child p) begun (map f (take i xs)) → length xs ≤ i → xs ≡ ys → map f ys ≡ changes_under c p → begun ≡ known
    → names ≡ fold (with_child p) known c
names_done f p c xs ys i begun known names so_far end same all first =
    so_far
    ∙ (ap (λ (zs : List _). fold (with_child p) begun (map f zs)) (take_all i xs end ∙ same)
    ∙ (ap (λ (es : Changed). fold (with_child p) begun es) all
    ∙ (ap (λ (ns : ChildNames). fold (with_child p) ns (changes_under c p)) first ∙ children_below p known c)))
