-- Each commit finds its changed nodes covered by no checked-in node, where its base does: who comes to be covered has an Exists or Guard.
use Rattle.std.proofs.Common.{◌≡◌, ◌⊎◌, inl, inr, Bool, true, false, cond, ◌&&◌, not, Some, None, Option, List, [], ◌∷◌, refl, sym, ap, ◌∙◌, is_some}
use Rattle.std.specs.Option.{unwrap_or}
use Rattle.std.specs.List.{list_any}
use mathlib.Core.Bool.{false≢true}
use Rattle.jr_path.specs.declared.name.Name.{Name}
use Rattle.jr_path.specs.declared.path.Path.{Path}
use Rattle.jr_value.specs.declared.value.Value.TheVariants as value
use Rattle.jr_value.specs.declared.value.Property.{Property}
use Rattle.jr_value.specs.declared.value.Property.TheVariants.{Single, Many}
use Rattle.jr_tree.specs.declared.edit.Write.{Write}
use Rattle.jr_tree.specs.Items.{here_of, put_of, written}
use Rattle.jr_items.specs.Names.{mixin_types, is_checked_out, versionable}
use Rattle.jr_items.specs.Items.{child_path, is_flag, many_names, same_name}
use Rattle.oak_machine.specs.declared.event.Draw.{Draw}
use Rattle.core_obeys.proofs.Views.Series.{Over, Then}
use Rattle.core_obeys.proofs.Views.{Series, View, Sight, all, base, seen, after, same_has, same_prop, same_has_after, same_prop_after, has_stays, prop_stays, prop_written, some_or_none, none_unless}
use Rattle.core_obeys.proofs.Clash.{IsStrong, IsMarked}
use Rattle.core_obeys.proofs.Steps.{IsStep, AreSteps, IsClear, IsWithin, IsClosed, below, is_versioned, is_frozen, within_itself, strong_unmarked, marked_clear, clear_mixins, unmarked_kept, unmarked_child, unmarked_child_mixins}
use Rattle.core_obeys.proofs.Locks.{carry, true_or_false}

first : (a b : Bool) → (a && b) ≡ true → a ≡ true
first true b h = refl
first false b h = h

second : (a b : Bool) → (a && b) ≡ true → b ≡ true
second true b h = h
second false b h = absurd (false≢true h)

both : (a b : Bool) → a ≡ true → b ≡ true → (a && b) ≡ true
both true b h k = k
both false b h k = absurd (false≢true h)

not_false : (b : Bool) → not b ≡ true → b ≡ false
not_false false h = refl
not_false true h = sym h

not_of : (b : Bool) → b ≡ false → not b ≡ true
not_of b h = ap not h

-- the flag that is cleared
flag_cleared : (x : Property) → is_flag false (Some x) ≡ true → x ≡ Single (value.Boolean false)
flag_cleared (Single (value.Boolean false)) h = refl
flag_cleared (Single (value.Boolean true)) h = absurd (false≢true h)
flag_cleared (Single (value.Str a)) h = absurd (false≢true h)
flag_cleared (Single (value.Binary a)) h = absurd (false≢true h)
flag_cleared (Single (value.Long a)) h = absurd (false≢true h)
flag_cleared (Single (value.Date a)) h = absurd (false≢true h)
flag_cleared (Single (value.Name a)) h = absurd (false≢true h)
flag_cleared (Single (value.Path a)) h = absurd (false≢true h)
flag_cleared (Single (value.Reference a)) h = absurd (false≢true h)
flag_cleared (Single (value.WeakReference a)) h = absurd (false≢true h)
flag_cleared (Single (value.Uri a)) h = absurd (false≢true h)
flag_cleared (Many k xs) h = absurd (false≢true h)

cleared_flag : (o : Option Property) → is_flag false o ≡ true → o ≡ Some (Single (value.Boolean false))
cleared_flag None h = absurd (false≢true h)
cleared_flag (Some x) h = ap Some (flag_cleared x h)

abbrev is_checked_in : View → Path → Bool
is_checked_in v a = is_flag false (v.prop a is_checked_out)

-- whether a property makes a node versionable
abbrev versions : Option Property → Bool
versions o = list_any (same_name versionable) (many_names o)

-- a versionable node is there
versioned_there : (v : View) → ((p : Path) (n : Name) → v.has p ≡ false → v.prop p n ≡ None) → (q : Path) → is_versioned v q ≡ true → v.has q ≡ true
versioned_there v bare q h = elim (true_or_false (v.has q)) [ inl e ↦ e | inr e ↦ absurd (false≢true (sym (ap versions (bare q mixin_types e)) ∙ h)) ]

-- the node that covers is versionable
top_versioned : (v : View) (a : Path) (rest : List Name) → is_frozen v a rest ≡ true → is_versioned v a ≡ true
top_versioned v a [] h = first _ _ h
top_versioned v a (n ∷ rest) h = top_versioned v a rest (first _ _ h)

-- a node that is covered from above isn't versionable
unversioned : (v : View) (a : Path) (n : Name) (rest : List Name) → is_frozen v a (n ∷ rest) ≡ true → not (versions (v.prop (below a (n ∷ rest)) mixin_types)) ≡ true
unversioned v a n rest h = second (is_frozen v a rest) _ h

module _ (d : Draw) (ds : Series) (step : IsStep d ds) (steps : AreSteps ds) (a : Path) where
  abbrev now : View
  now = seen all ds

  abbrev before : View
  before = seen (base d) ds

  abbrev ws : List Write
  ws = d.edit.writes

  mixins_strong : (t : Sight) → IsWithin (base d) t ds → (q : Path) → IsStrong q d.marks → now.prop q mixin_types ≡ (seen t ds).prop q mixin_types
  mixins_strong t in_t q m = same_prop t ds q mixin_types (unmarked_kept ds steps t q mixin_types (strong_unmarked d ds step steps t in_t q m))

  -- covered at the base before and after, and now after: so now before too
  was_frozen : (rest : List Name) → is_frozen before a rest ≡ true → is_frozen (after before ws) a rest ≡ true → is_frozen (after now ws) a rest ≡ true → is_frozen now a rest ≡ true
  was_frozen [] b c t = both _ _ (by (some_or_none (written (put_of a mixin_types) ws))) (at_flag (written (put_of a is_checked_out) ws) refl (second _ _ t))
    where
      by : (is_some (written (put_of a mixin_types) ws) ≡ true) ⊎ (written (put_of a mixin_types) ws ≡ None) → is_versioned now a ≡ true
      by (inl w) = ap versions (mixins_strong (base d) (within_itself (base d) ds) a (step.covers.mixins a w)) ∙ first _ _ b
      by (inr w) = ap versions (sym (prop_stays now ws a mixin_types w)) ∙ first _ _ t

      at_flag : (o : Option (Option Property)) → written (put_of a is_checked_out) ws ≡ o → is_flag false (unwrap_or o (now.prop a is_checked_out)) ≡ true → is_checked_in now a ≡ true
      at_flag None w h = h
      at_flag (Some o) w h = absurd (step.fits_base.change.prop a is_checked_out o w (cleared_flag _ (second _ _ b) ∙ sym (cleared_flag o h)))
  was_frozen (n ∷ rest) b c t = both _ _ (was_frozen rest (first _ _ b) (first _ _ c) (first _ _ t)) (by (some_or_none (written (put_of (below a (n ∷ rest)) mixin_types) ws)))
    where
      by : (is_some (written (put_of (below a (n ∷ rest)) mixin_types) ws) ≡ true) ⊎ (written (put_of (below a (n ∷ rest)) mixin_types) ws ≡ None) → not (is_versioned now (below a (n ∷ rest))) ≡ true
      by (inl w) = ap (λ o. not (versions o)) (mixins_strong (base d) (within_itself (base d) ds) (below a (n ∷ rest)) (step.covers.mixins (below a (n ∷ rest)) w)) ∙ second _ _ b
      by (inr w) = ap (λ o. not (versions o)) (sym (prop_stays now ws (below a (n ∷ rest)) mixin_types w)) ∙ second _ _ t

  -- covered now after, and in what is seen before: so there after
  frozen_carried : (s : Sight) (rest : List Name) → is_frozen (after now ws) a rest ≡ true → is_frozen (seen s ds) a rest ≡ true → is_frozen (after (seen s ds) ws) a rest ≡ true
  frozen_carried s [] t k = both _ _ (carry (λ o. versions o ≡ true) now (seen s ds) ws a mixin_types (first _ _ t) (first _ _ k)) (carry (λ o. is_flag false o ≡ true) now (seen s ds) ws a is_checked_out (second _ _ t) (second _ _ k))
  frozen_carried s (n ∷ rest) t k = both _ _ (frozen_carried s rest (first _ _ t) (first _ _ k)) (carry (λ o. not (versions o) ≡ true) now (seen s ds) ws (below a (n ∷ rest)) mixin_types (second _ _ t) (second _ _ k))

  -- ---- the top: a node that comes to be checked in

  -- either its mixins are written, or it was versionable and its flag is written
  top_either : is_frozen (after now ws) a [] ≡ true → is_frozen now a [] ≡ false
      → (is_some (written (put_of a mixin_types) ws) ≡ true) ⊎ ((written (put_of a mixin_types) ws ≡ None) × (is_some (written (put_of a is_checked_out) ws) ≡ true))
  top_either t f = elim (some_or_none (written (put_of a mixin_types) ws)) [
    | inl w ↦ inl w
    | inr w ↦ elim (some_or_none (written (put_of a is_checked_out) ws)) [
      | inl o ↦ inr (w, o)
      | inr o ↦ absurd (false≢true (sym f ∙ both _ _ (ap versions (sym (prop_stays now ws a mixin_types w)) ∙ first _ _ t) (ap (is_flag false) (sym (prop_stays now ws a is_checked_out o)) ∙ second _ _ t)))
    ]
  ]

  top_there : (s : Sight) → IsWithin (base d) s ds → is_frozen (after now ws) a [] ≡ true → is_frozen now a [] ≡ false → is_frozen (after (seen s ds) ws) a [] ≡ true
  top_there s within t f = elim (top_either t f) [
    | inl w ↦
        let un = strong_unmarked d ds step steps s within a (step.covers.mixins a w) in
        both _ _ (ap versions (sym (prop_written now (seen s ds) ws a mixin_types w)) ∙ first _ _ t)
        (ap (is_flag false) (sym (same_prop_after now (seen s ds) ws a is_checked_out (same_prop s ds a is_checked_out (unmarked_kept ds steps s a is_checked_out un)))) ∙ second _ _ t)
    | inr m ↦
        let cl = marked_clear d ds step steps s within a (_, step.covers.prop a is_checked_out m.1) in
        both _ _ (ap versions (sym (same_prop_after now (seen s ds) ws a mixin_types (same_prop s ds a mixin_types (clear_mixins ds steps s a cl)))) ∙ first _ _ t)
        (ap (is_flag false) (sym (prop_written now (seen s ds) ws a is_checked_out m.1)) ∙ second _ _ t)
  ]

  top_strong : is_frozen (after now ws) a [] ≡ true → is_frozen now a [] ≡ false → IsStrong a d.marks
  top_strong t f = elim (top_either t f) [
    | inl w ↦ step.covers.mixins a w
    | inr m ↦
        let based : is_frozen (after before ws) a [] ≡ true = top_there (base d) (within_itself (base d) ds) t f in
        let versioned : is_versioned before a ≡ true = ap versions (sym (prop_stays before ws a mixin_types m.0)) ∙ first _ _ based in
        step.guards.frozen a [] (versioned_there before step.fits_base.before.bare a versioned) (versioned_there (after before ws) step.fits_base.later.bare a (first _ _ based)) based
        (elim (true_or_false (is_frozen before a [])) [ inr e ↦ e | inl e ↦ absurd (by (written (put_of a is_checked_out) ws) refl m.1 (cleared_flag _ (second _ _ t)) (cleared_flag _ (second _ _ e))) ])
  ]
    where
      by : (o : Option (Option Property)) → written (put_of a is_checked_out) ws ≡ o → is_some o ≡ true → unwrap_or o (now.prop a is_checked_out) ≡ Some (Single (value.Boolean false)) → before.prop a is_checked_out ≡ Some (Single (value.Boolean false)) → ⊥
      by None w i k l = false≢true i
      by (Some o) w i k l = step.fits_base.change.prop a is_checked_out o w (l ∙ sym k)

  -- ---- below it

  -- who came to be covered through the node above has the types that it has at the base
  child_mixins : (s : Sight) → IsWithin (base d) s ds → (p : Path) (n : Name) → IsStrong p d.marks → (after now ws).prop (child_path p n) mixin_types ≡ (after (seen s ds) ws).prop (child_path p n) mixin_types
  child_mixins s within p n m = same_prop_after now (seen s ds) ws (child_path p n) mixin_types (same_prop s ds (child_path p n) mixin_types (unmarked_child_mixins ds steps s p n (strong_unmarked d ds step steps s within p m)))

  -- what was seen earlier: what is covered, and not strongly marked by what isn't seen, is seen to be covered
  abbrev IsEarlier : Sight → Type 0
  IsEarlier s = (rest : List Name) → IsClear s ds (below a rest) → now.has (below a rest) ≡ true → is_frozen now a rest ≡ true → is_frozen (seen s ds) a rest ≡ true

  -- a node that was versionable, below a covered one, and isn't any more
  record IsFreed (n : Name) (rest : List Name) : Type 0 where
    above : is_frozen now a rest ≡ true
    written : is_some (written (put_of (below a (n ∷ rest)) mixin_types) ws) ≡ true
    there : now.has (below a rest) ≡ true

  freed : (n : Name) (rest : List Name) → is_frozen (after now ws) a (n ∷ rest) ≡ true → is_frozen now a (n ∷ rest) ≡ false → is_frozen now a rest ≡ true → IsFreed n rest
  freed n rest t f k = by (true_or_false (is_versioned now (below a (n ∷ rest))))
    where
      by : (is_versioned now (below a (n ∷ rest)) ≡ true) ⊎ (is_versioned now (below a (n ∷ rest)) ≡ false) → IsFreed n rest
      by (inr e) = absurd (false≢true (sym f ∙ both _ _ k (not_of _ e)))
      by (inl e) = record {
        above = k;
        written = elim (some_or_none (written (put_of (below a (n ∷ rest)) mixin_types) ws)) [ inl w ↦ w | inr w ↦ absurd (false≢true (sym (not_false _ (second _ _ t)) ∙ (ap versions (prop_stays now ws (below a (n ∷ rest)) mixin_types w) ∙ e))) ];
        there = step.fits.before.parent (below a rest) n (versioned_there now step.fits.before.bare (below a (n ∷ rest)) e);
      }

  -- it is covered in what is seen, too
  freed_there : (s : Sight) → IsWithin (base d) s ds → IsEarlier s → (n : Name) (rest : List Name) → is_frozen (after now ws) a (n ∷ rest) ≡ true → IsFreed n rest → is_frozen (after (seen s ds) ws) a (n ∷ rest) ≡ true
  freed_there s within earlier n rest t g = both _ _
      (frozen_carried s rest (first _ _ t) (earlier rest (marked_clear d ds step steps s within (below a rest) (step.covers.mixins_above (below a rest) n g.written)) g.there g.above))
      (ap (λ o. not (versions o)) (sym (prop_written now (seen s ds) ws (below a (n ∷ rest)) mixin_types g.written)) ∙ second _ _ t)

  -- who comes to be covered has a strong mark, and is covered at the base too
  gained_base : IsEarlier (base d) → (rest : List Name) → is_frozen (after now ws) a rest ≡ true → is_frozen now a rest ≡ false → (after now ws).has (below a rest) ≡ true → IsStrong (below a rest) d.marks × (is_frozen (after before ws) a rest ≡ true)
  gained_base earlier [] t f h = (top_strong t f, top_there (base d) (within_itself (base d) ds) t f)
  gained_base earlier (n ∷ rest) t f h = by (true_or_false (is_frozen now a rest)) (λ g. gained_base earlier rest (first _ _ t) g (step.fits.later.parent (below a rest) n h))
    where
      q : Path
      q = below a (n ∷ rest)

      newly : IsStrong (below a rest) d.marks → is_frozen now a rest ≡ false → is_frozen (after before ws) a rest ≡ true → IsStrong (below a (n ∷ rest)) d.marks × (is_frozen (after before ws) a (n ∷ rest) ≡ true)
      newly m g c =
          let covered : is_frozen (after before ws) a (n ∷ rest) ≡ true = both _ _ c (ap (λ o. not (versions o)) (sym (child_mixins (base d) (within_itself (base d) ds) (below a rest) n m)) ∙ unversioned (after now ws) a n rest t) in
          let un = strong_unmarked d ds step steps (base d) (within_itself (base d) ds) (below a rest) m in
          let there : (after before ws).has (below a (n ∷ rest)) ≡ true = sym (same_has_after now before ws (below a (n ∷ rest)) (same_has (base d) ds (below a (n ∷ rest)) (unmarked_child ds steps (base d) (below a rest) n un))) ∙ h in (
            elim (true_or_false (before.has (below a (n ∷ rest)))) [
              | inr e ↦ elim (some_or_none (written (here_of (below a (n ∷ rest))) ws)) [ inl w ↦ step.covers.node (below a (n ∷ rest)) w | inr w ↦ absurd (false≢true (sym e ∙ (sym (has_stays before ws (below a (n ∷ rest)) w) ∙ there))) ]
              | inl e ↦ step.guards.frozen a (n ∷ rest) e there covered (elim (true_or_false (is_frozen before a (n ∷ rest))) [
                | inr x ↦ x
                | inl x ↦ absurd (false≢true (sym g ∙ was_frozen rest (first _ _ x) c (first _ _ t)))
              ])
            ],
            covered,
          )

      by : (is_frozen now a rest ≡ true) ⊎ (is_frozen now a rest ≡ false) → (is_frozen now a rest ≡ false → IsStrong (below a rest) d.marks × (is_frozen (after before ws) a rest ≡ true)) → IsStrong (below a (n ∷ rest)) d.marks × (is_frozen (after before ws) a (n ∷ rest) ≡ true)
      by (inl g) above = let e = freed n rest t f g in (step.covers.mixins (below a (n ∷ rest)) e.written, freed_there (base d) (within_itself (base d) ds) earlier n rest t e)
      by (inr g) above = let m = above g in newly m.0 g m.1

  -- and in what is seen
  gained_there : IsEarlier (base d) → (s : Sight) → IsWithin (base d) s ds → IsEarlier s → (rest : List Name) → is_frozen (after now ws) a rest ≡ true → is_frozen now a rest ≡ false → (after now ws).has (below a rest) ≡ true → is_frozen (after (seen s ds) ws) a rest ≡ true
  gained_there based s within earlier [] t f h = top_there s within t f
  gained_there based s within earlier (n ∷ rest) t f h = by (true_or_false (is_frozen now a rest)) (λ g. gained_there based s within earlier rest (first _ _ t) g (step.fits.later.parent (below a rest) n h))
    where
      by : (is_frozen now a rest ≡ true) ⊎ (is_frozen now a rest ≡ false) → (is_frozen now a rest ≡ false → is_frozen (after (seen s ds) ws) a rest ≡ true) → is_frozen (after (seen s ds) ws) a (n ∷ rest) ≡ true
      by (inl g) above = freed_there s within earlier n rest t (freed n rest t f g)
      by (inr g) above = both _ _ (above g)
          (ap (λ o. not (versions o)) (sym (child_mixins s within (below a rest) n (gained_base based rest (first _ _ t) g (step.fits.later.parent (below a rest) n h)).0)) ∙ second _ _ t)

  -- where d is seen too
  frozen_seen : IsEarlier (base d) → (s : Sight) → IsWithin (base d) s ds → IsEarlier s → (rest : List Name) → IsClear s ds (below a rest) → (after now ws).has (below a rest) ≡ true → is_frozen (after now ws) a rest ≡ true → is_frozen (after (seen s ds) ws) a rest ≡ true
  frozen_seen based s within earlier [] clear h t = elim (true_or_false (is_frozen now a [])) [
    | inl e ↦ frozen_carried s [] t (earlier [] clear (versioned_there now step.fits.before.bare a (first _ _ e)) e)
    | inr e ↦ gained_there based s within earlier [] t e h
  ]
  frozen_seen based s within earlier (n ∷ rest) clear h t = by (true_or_false (is_frozen now a (n ∷ rest))) (true_or_false (now.has (below a (n ∷ rest))))
      (λ m. frozen_seen based s within earlier rest (marked_clear d ds step steps s within (below a rest) m) (step.fits.later.parent (below a rest) n h) (first _ _ t))
    where
      by : (is_frozen now a (n ∷ rest) ≡ true) ⊎ (is_frozen now a (n ∷ rest) ≡ false) → (now.has (below a (n ∷ rest)) ≡ true) ⊎ (now.has (below a (n ∷ rest)) ≡ false)
          → (IsMarked (below a rest) d.marks → is_frozen (after (seen s ds) ws) a rest ≡ true) → is_frozen (after (seen s ds) ws) a (n ∷ rest) ≡ true
      by (inr e) o above = gained_there based s within earlier (n ∷ rest) t e h
      by (inl e) (inl o) above = frozen_carried s (n ∷ rest) t (earlier (n ∷ rest) clear o e)
      by (inl e) (inr o) above = elim (some_or_none (written (here_of (below a (n ∷ rest))) ws)) [
        | inl w ↦ both _ _ (above (step.covers.above (below a rest) n w))
            (ap (λ o. not (versions o)) (sym (same_prop_after now (seen s ds) ws (below a (n ∷ rest)) mixin_types (mixins_strong s within (below a (n ∷ rest)) (step.covers.node (below a (n ∷ rest)) w)))) ∙ second _ _ t)
        | inr w ↦ absurd (false≢true (sym o ∙ (sym (has_stays now ws (below a (n ∷ rest)) w) ∙ h)))
      ]

-- ---- all commits

-- a checked-in node over a node that no unseen commit marks strongly is seen
pub frozen_within : (ds : Series) → AreSteps ds → (s : Sight) → IsClosed s ds → (a : Path) (rest : List Name) → IsClear s ds (below a rest)
    → (seen all ds).has (below a rest) ≡ true → is_frozen (seen all ds) a rest ≡ true → is_frozen (seen s ds) a rest ≡ true
frozen_within (Over v) steps s closed a rest clear h k = k
frozen_within (Then d ds) steps s closed a rest clear h k =
    by (s d.revision) refl (λ t t_closed rest clear h k. frozen_within ds steps.1 t t_closed a rest clear h k)
  where
    by : (b : Bool) → s d.revision ≡ b → ((t : Sight) → IsClosed t ds → (rest : List Name) → IsClear t ds (below a rest) → (seen all ds).has (below a rest) ≡ true → is_frozen (seen all ds) a rest ≡ true → is_frozen (seen t ds) a rest ≡ true)
        → is_frozen (cond b (after (seen s ds) d.edit.writes) (seen s ds)) a rest ≡ true
    by true e earlier = frozen_seen d ds steps.0 steps.1 a (earlier (base d) steps.0.closed) s (λ f i based. closed d f (inl refl) (inr i) e based)
        (earlier s (λ e f i j. closed e f (inr i) (inr j))) rest (λ f i. clear f (inr i)) h k
    by false e earlier =
        let weak = clear d (inl refl) e in
        let here : (seen all ds).has (below a rest) ≡ true = sym (has_stays (seen all ds) d.edit.writes (below a rest) (none_unless _ (λ w. weak (steps.0.covers.node (below a rest) w)))) ∙ h in
        elim (true_or_false (is_frozen (seen all ds) a rest)) [
          | inl f ↦ earlier s (λ e f i j. closed e f (inr i) (inr j)) rest (λ f i. clear f (inr i)) here f
          | inr f ↦ absurd (weak (gained_base d ds steps.0 steps.1 a (earlier (base d) steps.0.closed) rest k f h).0)
        ]

-- ---- a commit's changed nodes

module _ (d : Draw) (ds : Series) (step : IsStep d ds) (steps : AreSteps ds) (a : Path) where
  -- a checked-in node over a marked node that is there before or after is one at the base
  pub frozen_at_base : (rest : List Name) → IsMarked (below a rest) d.marks → ((seen all ds).has (below a rest) ≡ true) ⊎ ((after (seen all ds) d.edit.writes).has (below a rest) ≡ true) → is_frozen (seen all ds) a rest ≡ true → is_frozen (seen (base d) ds) a rest ≡ true
  frozen_at_base rest m h k = by rest m (true_or_false ((seen all ds).has (below a rest))) (elim h [ inl e ↦ inl e | inr e ↦ inr e ]) k
    where
      old : (rest : List Name) → IsMarked (below a rest) d.marks → (seen all ds).has (below a rest) ≡ true → is_frozen (seen all ds) a rest ≡ true → is_frozen (seen (base d) ds) a rest ≡ true
      old rest m e k = frozen_within ds steps (base d) step.closed a rest (marked_clear d ds step steps (base d) (within_itself (base d) ds) (below a rest) m) e k

      by : (rest : List Name) → IsMarked (below a rest) d.marks → ((seen all ds).has (below a rest) ≡ true) ⊎ ((seen all ds).has (below a rest) ≡ false)
          → ((seen all ds).has (below a rest) ≡ true) ⊎ ((after (seen all ds) d.edit.writes).has (below a rest) ≡ true) → is_frozen (seen all ds) a rest ≡ true → is_frozen (seen (base d) ds) a rest ≡ true
      by rest m (inl e) h k = old rest m e k
      by [] m (inr e) h k = absurd (false≢true (sym e ∙ versioned_there (seen all ds) step.fits.before.bare a (first _ _ k)))
      by (n ∷ rest) m (inr e) (inl h) k = old (n ∷ rest) m h k
      by (n ∷ rest) m (inr e) (inr h) k = elim (some_or_none (written (here_of (below a (n ∷ rest))) d.edit.writes)) [
        | inl w ↦ both _ _ (by rest (step.covers.above (below a rest) n w) (true_or_false ((seen all ds).has (below a rest))) (inr (step.fits.later.parent (below a rest) n h)) (first _ _ k)) (added w)
        | inr w ↦ absurd (false≢true (sym e ∙ (sym (has_stays (seen all ds) d.edit.writes (below a (n ∷ rest)) w) ∙ h)))
      ]
        where
          added : is_some (written (here_of (below a (n ∷ rest))) d.edit.writes) ≡ true → not (is_versioned (seen (base d) ds) (below a (n ∷ rest))) ≡ true
          added w = ap (λ o. not (versions o)) (sym (mixins_strong d ds step steps a (base d) (within_itself (base d) ds) (below a (n ∷ rest)) (step.covers.node (below a (n ∷ rest)) w))) ∙ unversioned (seen all ds) a n rest k
