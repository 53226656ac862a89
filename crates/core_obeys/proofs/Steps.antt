-- What each commit has to do with those before it.
use Rattle.std.proofs.Common.{◌≡◌, inl, inr, Bool, true, false, ◌&&◌, not, Some, None, Option, List, [], ◌∷◌, refl, sym, ◌∙◌, subst, is_some}
use Rattle.std.specs.List.{list_any}
use mathlib.Core.Bool.{false≢true}
use Rattle.jr_path.specs.declared.name.Name.{Name}
use Rattle.jr_path.specs.declared.path.Path.{Path}
use Rattle.jr_value.specs.declared.value.Property.{Property}
use Rattle.jr_tree.specs.declared.edit.Write.{Write}
use Rattle.jr_tree.specs.Items.{here_of, put_of, written}
use Rattle.jr_items.specs.Names.{primary_type, mixin_types, lock_owner, lock_is_deep, is_checked_out, versionable}
use Rattle.jr_items.specs.Items.{child_path, is_flag, many_names, same_name}
use Rattle.oak_clash.specs.declared.mark.Mark.TheVariants.{Prop}
use Rattle.oak_clash.specs.declared.mark.MarkAt.{MarkAt}
use Rattle.oak_clash.specs.Clashes.{clashing}
use Rattle.oak_machine.specs.declared.event.Draw.{Draw}
use Rattle.jcr_marks.proofs.Membership.{Has}
use Rattle.core_obeys.proofs.Views.Series.{Over, Then}
use Rattle.core_obeys.proofs.Views.{IsOne, Series, View, Sight, IsStill, IsKept, all, base, seen, after, none_unless}
use Rattle.core_obeys.proofs.Clash.{IsStrong, IsMarked, strong_marked, marked_strong, same_prop_marks, strong_is_marked}

-- what the marks of an edit are, whatever tree it is of
pub record Covers (ws : List Write) (ms : List MarkAt) : Type 0 where
  pub node : (p : Path) → is_some (written (here_of p) ws) ≡ true → IsStrong p ms
  pub above : (p : Path) (n : Name) → is_some (written (here_of (child_path p n)) ws) ≡ true → IsMarked p ms
  pub primary : (p : Path) → is_some (written (put_of p primary_type) ws) ≡ true → IsStrong p ms
  pub mixins : (p : Path) → is_some (written (put_of p mixin_types) ws) ≡ true → IsStrong p ms
  pub primary_above : (p : Path) (n : Name) → is_some (written (put_of (child_path p n) primary_type) ws) ≡ true → IsMarked p ms
  pub mixins_above : (p : Path) (n : Name) → is_some (written (put_of (child_path p n) mixin_types) ws) ≡ true → IsMarked p ms
  pub prop : (p : Path) (n : Name) → is_some (written (put_of p n) ws) ≡ true → Has p (Prop n) ms
  pub owner : (p : Path) (x : Property) → written (put_of p lock_owner) ws ≡ Some (Some x) → IsStrong p ms

-- a view of a tree: the parent of each node is there, and what isn't there has no properties
pub record IsWhole (v : View) : Type 0 where
  pub parent : (p : Path) (n : Name) → v.has (child_path p n) ≡ true → v.has p ≡ true
  pub bare : (p : Path) (n : Name) → v.has p ≡ false → v.prop p n ≡ None

-- each write changes its item
pub record IsChange (v : View) (ws : List Write) : Type 0 where
  pub node : (p : Path) (b : Bool) → written (here_of p) ws ≡ Some b → v.has p ≡ b → ⊥
  pub prop : (p : Path) (n : Name) (o : Option Property) → written (put_of p n) ws ≡ Some o → v.prop p n ≡ o → ⊥

-- an edit of a tree that gives a tree
pub record IsFit (v : View) (ws : List Write) : Type 0 where
  pub before : IsWhole v
  pub later : IsWhole (after v ws)
  pub change : IsChange v ws

-- the path below another, by some names, the last one first
abbrev pub below : Path → List Name → Path
below a [] = a
below a (n ∷ rest) = child_path (below a rest) n

-- the node has this lock, and it covers what is below it too
abbrev pub is_deep : View → Path → Bool
is_deep v a = is_flag true (v.prop a lock_is_deep)

-- what the lock at a with that owner covers
abbrev pub IsLocked : View → Path → Property → List Name → Type 0
IsLocked v a x [] = v.prop a lock_owner ≡ Some x
IsLocked v a x (n ∷ rest) = (v.prop a lock_owner ≡ Some x) × (is_deep v a ≡ true)

abbrev pub is_versioned : View → Path → Bool
is_versioned v q = list_any (same_name versionable) (many_names (v.prop q mixin_types))

-- the checked-in node at a covers what is below it, down to where nodes are versionable themselves
abbrev pub is_frozen : View → Path → List Name → Bool
is_frozen v a [] = is_versioned v a && is_flag false (v.prop a is_checked_out)
is_frozen v a (n ∷ rest) = is_frozen v a rest && not (is_versioned v (below a (n ∷ rest)))

-- the marks of the nodes that stay and are covered anew, where an edit leads from one view to another
pub record Guards (v w : View) (ms : List MarkAt) : Type 0 where
  pub locked : (a : Path) (x : Property) (rest : List Name) → v.has (below a rest) ≡ true → w.has (below a rest) ≡ true → IsLocked w a x rest → (IsLocked v a x rest → ⊥) → IsStrong (below a rest) ms
  pub deepened : (a : Path) (x : Property) → v.has a ≡ true → w.has a ≡ true → w.prop a lock_owner ≡ Some x → is_deep w a ≡ true → is_deep v a ≡ false → IsStrong a ms
  pub frozen : (a : Path) (rest : List Name) → v.has (below a rest) ≡ true → w.has (below a rest) ≡ true → is_frozen w a rest ≡ true → is_frozen v a rest ≡ false → IsStrong (below a rest) ms

-- a commit on those before it
pub record IsStep (d : Draw) (ds : Series) : Type 0 where
  pub covers : Covers d.edit.writes d.marks
  pub guards : Guards (seen (base d) ds) (after (seen (base d) ds) d.edit.writes) d.marks
  pub fits_base : IsFit (seen (base d) ds) d.edit.writes
  pub fits : IsFit (seen all ds) d.edit.writes
  pub apart : (e : Draw) → IsOne e ds → base d e.revision ≡ false → clashing d.marks e.marks ≡ false
  pub closed : (e f : Draw) → IsOne e ds → IsOne f ds → base d e.revision ≡ true → base e f.revision ≡ true → base d f.revision ≡ true

abbrev pub AreSteps : Series → Type 0
AreSteps (Over v) = Unit {0}
AreSteps (Then d ds) = IsStep d ds × AreSteps ds

-- all commits cover their edits
pub covering : (ds : Series) → AreSteps ds → (e : Draw) → IsOne e ds → Covers e.edit.writes e.marks
covering (Over v) steps e i = absurd i
covering (Then d ds) steps e i = elim i [ inl k ↦ subst (λ (x : Draw). Covers x.edit.writes x.marks) k steps.0.covers | inr j ↦ covering ds steps.1 e j ]

-- no commit that isn't seen has an Exists or Guard of the node at p
abbrev pub IsClear : Sight → Series → Path → Type 0
IsClear s ds p = (e : Draw) → IsOne e ds → s e.revision ≡ false → IsStrong p e.marks → ⊥

-- no commit that isn't seen has a mark of the node at p
abbrev pub IsUnmarked : Sight → Series → Path → Type 0
IsUnmarked s ds p = (e : Draw) → IsOne e ds → s e.revision ≡ false → IsMarked p e.marks → ⊥

-- all that a sight sees of a list is seen by another
abbrev pub IsWithin : Sight → Sight → Series → Type 0
IsWithin s t ds = (e : Draw) → IsOne e ds → s e.revision ≡ true → t e.revision ≡ true

-- a sight sees with each commit what its base sees
abbrev pub IsClosed : Sight → Series → Type 0
IsClosed s ds = (e f : Draw) → IsOne e ds → IsOne f ds → s e.revision ≡ true → base e f.revision ≡ true → s f.revision ≡ true

pub within_itself : (s : Sight) (ds : Series) → IsWithin s s ds
within_itself s ds e i h = h

pub unseen : (s t : Sight) (ds : Series) → IsWithin s t ds → (e : Draw) → IsOne e ds → t e.revision ≡ false → s e.revision ≡ false
unseen s t ds within e i h = by (s e.revision) refl
  where
    by : (b : Bool) → s e.revision ≡ b → b ≡ false
    by true k = absurd (false≢true (sym h ∙ within e i k))
    by false k = refl

module _ (d : Draw) (ds : Series) (step : IsStep d ds) (steps : AreSteps ds) (s : Sight) (within : IsWithin (base d) s ds) where
  -- a marked node is clear, and a strongly marked one is unmarked
  pub marked_clear : (p : Path) → IsMarked p d.marks → IsClear s ds p
  marked_clear p m e i h k = false≢true (sym (step.apart e i (unseen (base d) s ds within e i h)) ∙ marked_strong d.marks e.marks p m k)

  pub strong_unmarked : (p : Path) → IsStrong p d.marks → IsUnmarked s ds p
  strong_unmarked p m e i h k = false≢true (sym (step.apart e i (unseen (base d) s ds within e i h)) ∙ strong_marked d.marks e.marks p m k)

  -- a written property isn't written by an unseen commit
  pub written_kept : (p : Path) (n : Name) → is_some (written (put_of p n) d.edit.writes) ≡ true → IsKept s ds p n
  written_kept p n w e i h = none_unless _ (λ k. false≢true (sym (step.apart e i (unseen (base d) s ds within e i h)) ∙ same_prop_marks d.marks e.marks p n (step.covers.prop p n w) ((covering ds steps e i).prop p n k)))

module _ (ds : Series) (steps : AreSteps ds) (s : Sight) where
  -- of a clear node, its being there and its types are left alone
  pub clear_still : (p : Path) → IsClear s ds p → IsStill s ds p
  clear_still p clear e i h = none_unless _ (λ k. clear e i h ((covering ds steps e i).node p k))

  pub clear_primary : (p : Path) → IsClear s ds p → IsKept s ds p primary_type
  clear_primary p clear e i h = none_unless _ (λ k. clear e i h ((covering ds steps e i).primary p k))

  pub clear_mixins : (p : Path) → IsClear s ds p → IsKept s ds p mixin_types
  clear_mixins p clear e i h = none_unless _ (λ k. clear e i h ((covering ds steps e i).mixins p k))

  -- of an unmarked node all properties are left alone, and which children it has, and their types
  pub unmarked_clear : (p : Path) → IsUnmarked s ds p → IsClear s ds p
  unmarked_clear p un e i h k = un e i h (strong_is_marked e.marks p k)

  pub unmarked_kept : (p : Path) (n : Name) → IsUnmarked s ds p → IsKept s ds p n
  unmarked_kept p n un e i h = none_unless _ (λ k. un e i h (Prop n, (covering ds steps e i).prop p n k))

  pub unmarked_child : (p : Path) (n : Name) → IsUnmarked s ds p → IsStill s ds (child_path p n)
  unmarked_child p n un e i h = none_unless _ (λ k. un e i h ((covering ds steps e i).above p n k))

  pub unmarked_child_primary : (p : Path) (n : Name) → IsUnmarked s ds p → IsKept s ds (child_path p n) primary_type
  unmarked_child_primary p n un e i h = none_unless _ (λ k. un e i h ((covering ds steps e i).primary_above p n k))

  pub unmarked_child_mixins : (p : Path) (n : Name) → IsUnmarked s ds p → IsKept s ds (child_path p n) mixin_types
  unmarked_child_mixins p n un e i h = none_unless _ (λ k. un e i h ((covering ds steps e i).mixins_above p n k))
