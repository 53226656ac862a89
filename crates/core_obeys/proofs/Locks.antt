-- Each commit finds its changed nodes unlocked, where its base does: who comes to be covered by a lock has an Exists or Guard.
use Rattle.std.proofs.Common.{◌≡◌, ◌⊎◌, inl, inr, Bool, true, false, cond, Some, None, Option, List, [], ◌∷◌, refl, sym, ap, ◌∙◌, is_some}
use Rattle.std.specs.Option.{unwrap_or}
use mathlib.Core.Bool.{false≢true}
use Rattle.jr_path.specs.declared.name.Name.{Name}
use Rattle.jr_path.specs.declared.path.Path.{Path}
use Rattle.jr_value.specs.declared.value.Value.TheVariants as value
use Rattle.jr_value.specs.declared.value.Property.{Property}
use Rattle.jr_value.specs.declared.value.Property.TheVariants.{Single, Many}
use Rattle.jr_tree.specs.declared.edit.Write.{Write}
use Rattle.jr_tree.specs.Items.{here_of, put_of, written}
use Rattle.jr_items.specs.Names.{lock_owner, lock_is_deep}
use Rattle.jr_items.specs.Items.{is_flag}
use Rattle.oak_machine.specs.declared.event.Draw.{Draw}
use Rattle.core_obeys.proofs.Views.Series.{Over, Then}
use Rattle.core_obeys.proofs.Views.{IsOne, Series, View, Sight, all, base, seen, after, same_has, same_prop, same_has_after, same_prop_after, has_stays, prop_stays, prop_written, some_or_none, none_unless}
use Rattle.core_obeys.proofs.Clash.{IsStrong, IsMarked}
use Rattle.core_obeys.proofs.Steps.{IsStep, AreSteps, IsClear, IsWithin, IsClosed, IsLocked, below, is_deep, covering, within_itself, strong_unmarked, marked_clear, unmarked_kept, unmarked_child}

-- ---- one property

-- what holds of a property on one view after an edit, and of it on another before, holds of it there after
pub carry : (Q : Option Property → Type 0) (v w : View) (ws : List Write) (p : Path) (n : Name) → Q ((after v ws).prop p n) → Q (w.prop p n) → Q ((after w ws).prop p n)
carry Q v w ws p n h k = by (written (put_of p n) ws) h
  where
    by : (o : Option (Option Property)) → Q (unwrap_or o (v.prop p n)) → Q (unwrap_or o (w.prop p n))
    by None h = k
    by (Some x) h = h

-- a property that no unseen commit puts is seen where it is there
pub put_kept : (s : Sight) (ds : Series) (p : Path) (n : Name) (x : Property) → ((e : Draw) (y : Property) → IsOne e ds → s e.revision ≡ false → written (put_of p n) e.edit.writes ≡ Some (Some y) → ⊥)
    → (seen all ds).prop p n ≡ Some x → (seen s ds).prop p n ≡ Some x
put_kept s (Over v) p n x none h = h
put_kept s (Then d ds) p n x none h = by (s d.revision) refl (written (put_of p n) d.edit.writes) refl h (put_kept s ds p n x (λ e y i k. none e y (inr i) k))
  where
    by : (b : Bool) → s d.revision ≡ b → (o : Option (Option Property)) → written (put_of p n) d.edit.writes ≡ o → unwrap_or o ((seen all ds).prop p n) ≡ Some x
        → ((seen all ds).prop p n ≡ Some x → (seen s ds).prop p n ≡ Some x) → (cond b (after (seen s ds) d.edit.writes) (seen s ds)).prop p n ≡ Some x
    by true e None w h rest = ap (λ o. unwrap_or o ((seen s ds).prop p n)) w ∙ rest h
    by true e (Some o) w h rest = ap (λ o. unwrap_or o ((seen s ds).prop p n)) w ∙ h
    by false e None w h rest = rest h
    by false e (Some None) w h rest = absurd (false≢true (ap is_some h))
    by false e (Some (Some y)) w h rest = absurd (none d y (inl refl) e w)

-- the flag that is set
pub flag_set : (x : Property) → is_flag true (Some x) ≡ true → x ≡ Single (value.Boolean true)
flag_set (Single (value.Boolean b)) h = ap (λ b. Single (value.Boolean b)) h
flag_set (Single (value.Str a)) h = absurd (false≢true h)
flag_set (Single (value.Binary a)) h = absurd (false≢true h)
flag_set (Single (value.Long a)) h = absurd (false≢true h)
flag_set (Single (value.Date a)) h = absurd (false≢true h)
flag_set (Single (value.Name a)) h = absurd (false≢true h)
flag_set (Single (value.Path a)) h = absurd (false≢true h)
flag_set (Single (value.Reference a)) h = absurd (false≢true h)
flag_set (Single (value.WeakReference a)) h = absurd (false≢true h)
flag_set (Single (value.Uri a)) h = absurd (false≢true h)
flag_set (Many k xs) h = absurd (false≢true h)

pub set_flag : (o : Option Property) → is_flag true o ≡ true → o ≡ Some (Single (value.Boolean true))
set_flag None h = absurd (false≢true h)
set_flag (Some x) h = ap Some (flag_set x h)

pub true_or_false : (b : Bool) → (b ≡ true) ⊎ (b ≡ false)
true_or_false true = inl refl
true_or_false false = inr refl

-- ---- a lock that is gained

-- the node at a has a deep lock with that owner
abbrev pub IsDeepLock : View → Path → Property → Type 0
IsDeepLock v a x = (v.prop a lock_owner ≡ Some x) × (is_deep v a ≡ true)

module _ (d : Draw) (ds : Series) (step : IsStep d ds) (steps : AreSteps ds) (s : Sight) (within : IsWithin (base d) s ds) (a : Path) (x : Property) where
  abbrev now : View
  now = seen all ds

  abbrev before : View
  before = seen (base d) ds

  abbrev some_seen : View
  some_seen = seen s ds

  abbrev ws : List Write
  ws = d.edit.writes

  -- a lock stands, or is gained by its owner's being written, or by becoming deep
  deep_or_not : IsDeepLock (after now ws) a x → IsDeepLock now a x ⊎ ((written (put_of a lock_owner) ws ≡ Some (Some x)) ⊎ ((now.prop a lock_owner ≡ Some x) × (written (put_of a lock_owner) ws ≡ None) × (is_deep now a ≡ false)))
  deep_or_not h = by (written (put_of a lock_owner) ws) refl h.0 (true_or_false (is_deep now a))
    where
      by : (o : Option (Option Property)) → written (put_of a lock_owner) ws ≡ o → unwrap_or o (now.prop a lock_owner) ≡ Some x → (is_deep now a ≡ true) ⊎ (is_deep now a ≡ false)
          → IsDeepLock now a x ⊎ ((written (put_of a lock_owner) ws ≡ Some (Some x)) ⊎ ((now.prop a lock_owner ≡ Some x) × (written (put_of a lock_owner) ws ≡ None) × (is_deep now a ≡ false)))
      by (Some o) w k c = inr (inl (w ∙ ap Some k))
      by None w k (inl c) = inl (k, c)
      by None w k (inr c) = inr (inr (k, w, c))

  -- what a gained lock has: the node is marked strongly, its lock isn't at the base and is after it, and in what is seen
  record IsGained : Type 0 where
    strong : IsStrong a d.marks
    new : IsDeepLock before a x → ⊥
    based : IsDeepLock (after before ws) a x
    there : IsDeepLock (after some_seen ws) a x

  by_owner : IsDeepLock (after now ws) a x → written (put_of a lock_owner) ws ≡ Some (Some x) → IsGained
  by_owner h w = record {
    strong = strong;
    new = λ k. step.fits_base.change.prop a lock_owner (Some x) w k.0;
    based = here (base d) (within_itself (base d) ds);
    there = here s within;
  }
    where
      strong : IsStrong a d.marks
      strong = step.covers.owner a x w

      here : (t : Sight) → IsWithin (base d) t ds → IsDeepLock (after (seen t ds) ws) a x
      here t in_t =
          let un = strong_unmarked d ds step steps t in_t a strong in (
            sym (same_prop_after now (seen t ds) ws a lock_owner (same_prop t ds a lock_owner (unmarked_kept ds steps t a lock_owner un))) ∙ h.0,
            ap (is_flag true) (sym (same_prop_after now (seen t ds) ws a lock_is_deep (same_prop t ds a lock_is_deep (unmarked_kept ds steps t a lock_is_deep un)))) ∙ h.1,
          )

  by_depth : IsDeepLock (after now ws) a x → now.prop a lock_owner ≡ Some x → written (put_of a lock_owner) ws ≡ None → is_deep now a ≡ false → IsGained
  by_depth h owned silent shallow = record {
    strong = step.guards.deepened a x (is_there before step.fits_base.before.bare (owner_at (base d) (within_itself (base d) ds))) (is_there (after before ws) step.fits_base.later.bare (based).0) (based).0 (based).1 flat;
    new = λ k. false≢true (sym flat ∙ k.1);
    based = based;
    there = here s within;
  }
    where
      deep_written : is_some (written (put_of a lock_is_deep) ws) ≡ true
      deep_written = elim (some_or_none (written (put_of a lock_is_deep) ws)) [ inl w ↦ w | inr w ↦ absurd (false≢true (sym shallow ∙ (ap (is_flag true) (sym (prop_stays now ws a lock_is_deep w)) ∙ h.1))) ]

      owner_at : (t : Sight) → IsWithin (base d) t ds → (seen t ds).prop a lock_owner ≡ Some x
      owner_at t in_t = put_kept t ds a lock_owner x
          (λ e y i k w. marked_clear d ds step steps t in_t a (_, step.covers.prop a lock_is_deep deep_written) e i k ((covering ds steps e i).owner a y w)) owned

      here : (t : Sight) → IsWithin (base d) t ds → IsDeepLock (after (seen t ds) ws) a x
      here t in_t = (prop_stays (seen t ds) ws a lock_owner silent ∙ owner_at t in_t, ap (is_flag true) (sym (prop_written now (seen t ds) ws a lock_is_deep deep_written)) ∙ h.1)

      based : IsDeepLock (after before ws) a x
      based = here (base d) (within_itself (base d) ds)

      is_there : (v : View) → ((p : Path) (n : Name) → v.has p ≡ false → v.prop p n ≡ None) → v.prop a lock_owner ≡ Some x → v.has a ≡ true
      is_there v bare k = elim (true_or_false (v.has a)) [ inl e ↦ e | inr e ↦ absurd (false≢true (sym (ap is_some (bare a lock_owner e)) ∙ ap is_some k)) ]

      -- a deep lock isn't made deep
      flat : is_deep before a ≡ false
      flat = elim (true_or_false (is_deep before a)) [
        | inr e ↦ e
        | inl e ↦ absurd (by (written (put_of a lock_is_deep) ws) refl deep_written (set_flag _ h.1) (set_flag _ e))
      ]
        where
          by : (o : Option (Option Property)) → written (put_of a lock_is_deep) ws ≡ o → is_some o ≡ true → unwrap_or o (now.prop a lock_is_deep) ≡ Some (Single (value.Boolean true)) → before.prop a lock_is_deep ≡ Some (Single (value.Boolean true)) → ⊥
          by None w i k l = false≢true i
          by (Some o) w i k l = step.fits_base.change.prop a lock_is_deep o w (l ∙ sym k)

  gained : IsDeepLock (after now ws) a x → IsDeepLock now a x ⊎ IsGained
  gained h = elim (deep_or_not h) [ inl k ↦ inl k | inr k ↦ inr (elim k [ inl w ↦ by_owner h w | inr m ↦ by_depth h m.0 m.1 m.2 ]) ]

  -- all that is below is marked strongly
  strong_below : IsGained → (rest : List Name) → (after now ws).has (below a rest) ≡ true → IsStrong (below a rest) d.marks
  strong_below g [] h = g.strong
  strong_below g (n ∷ rest) h = by (strong_below g rest (step.fits.later.parent (below a rest) n h)) (true_or_false (before.has (below a (n ∷ rest))))
    where
      by : IsStrong (below a rest) d.marks → (before.has (below a (n ∷ rest)) ≡ true) ⊎ (before.has (below a (n ∷ rest)) ≡ false) → IsStrong (below a (n ∷ rest)) d.marks
      by above e =
          let un = strong_unmarked d ds step steps (base d) (within_itself (base d) ds) (below a rest) above in
          let there : (after before ws).has (below a (n ∷ rest)) ≡ true = sym (same_has_after now before ws (below a (n ∷ rest)) (same_has (base d) ds (below a (n ∷ rest)) (unmarked_child ds steps (base d) (below a rest) n un))) ∙ h in
          elim e [
            | inl k ↦ step.guards.locked a x (n ∷ rest) k there g.based g.new
            | inr k ↦ elim (some_or_none (written (here_of (below a (n ∷ rest))) ws)) [ inl w ↦ step.covers.node (below a (n ∷ rest)) w | inr w ↦ absurd (false≢true (sym k ∙ (sym (has_stays before ws (below a (n ∷ rest)) w) ∙ there))) ]
          ]

  -- a lock that stays, seen
  pub deep_carried : IsDeepLock (after now ws) a x → IsDeepLock some_seen a x → IsDeepLock (after some_seen ws) a x
  deep_carried h k = (carry (λ o. o ≡ Some x) now some_seen ws a lock_owner h.0 k.0, carry (λ o. is_flag true o ≡ true) now some_seen ws a lock_is_deep h.1 k.1)

  -- where d is seen too
  deep_seen : ((rest : List Name) → IsClear s ds (below a rest) → now.has (below a rest) ≡ true → IsDeepLock now a x → IsDeepLock some_seen a x)
      → (rest : List Name) → IsClear s ds (below a rest) → (after now ws).has (below a rest) ≡ true → IsDeepLock (after now ws) a x → IsDeepLock (after some_seen ws) a x
  deep_seen earlier rest clear h k = elim (gained k) [ inr g ↦ g.there | inl old ↦ by rest clear h old ]
    where
      by : (rest : List Name) → IsClear s ds (below a rest) → (after now ws).has (below a rest) ≡ true → IsDeepLock now a x → IsDeepLock (after some_seen ws) a x
      by [] clear h old = elim (true_or_false (now.has a)) [
        | inl e ↦ deep_carried k (earlier [] clear e old)
        | inr e ↦ absurd (false≢true (sym (ap is_some (step.fits.before.bare a lock_owner e)) ∙ ap is_some old.0))
      ]
      by (n ∷ rest) clear h old = added (by rest)
        where
          added : (IsClear s ds (below a rest) → (after now ws).has (below a rest) ≡ true → IsDeepLock now a x → IsDeepLock (after some_seen ws) a x) → IsDeepLock (after some_seen ws) a x
          added above = elim (true_or_false (now.has (below a (n ∷ rest)))) [
            | inl e ↦ deep_carried k (earlier (n ∷ rest) clear e old)
            | inr e ↦ elim (some_or_none (written (here_of (below a (n ∷ rest))) ws)) [
              | inl w ↦ above (marked_clear d ds step steps s within (below a rest) (step.covers.above (below a rest) n w)) (step.fits.later.parent (below a rest) n h) old
              | inr w ↦ absurd (false≢true (sym e ∙ (sym (has_stays now ws (below a (n ∷ rest)) w) ∙ h)))
            ]
          ]

-- ---- all commits

-- with which an unseen commit leaves it
deep_unseen : (d : Draw) (ds : Series) → IsStep d ds → AreSteps ds → (a : Path) (x : Property) (rest : List Name) → (IsStrong (below a rest) d.marks → ⊥)
    → (after (seen all ds) d.edit.writes).has (below a rest) ≡ true → IsDeepLock (after (seen all ds) d.edit.writes) a x → IsDeepLock (seen all ds) a x
deep_unseen d ds step steps a x rest weak h k = elim (gained d ds step steps (base d) (within_itself (base d) ds) a x k) [
  | inl old ↦ old
  | inr g ↦ absurd (weak (strong_below d ds step steps (base d) (within_itself (base d) ds) a x g rest h))
]

-- a deep lock over a node that no unseen commit marks strongly is seen
pub deep_within : (ds : Series) → AreSteps ds → (s : Sight) → IsClosed s ds → (a : Path) (x : Property) (rest : List Name) → IsClear s ds (below a rest)
    → (seen all ds).has (below a rest) ≡ true → IsDeepLock (seen all ds) a x → IsDeepLock (seen s ds) a x
deep_within (Over v) steps s closed a x rest clear h k = k
deep_within (Then d ds) steps s closed a x rest clear h k =
    by (s d.revision) refl (λ rest clear h k. deep_within ds steps.1 s (λ e f i j. closed e f (inr i) (inr j)) a x rest clear h k)
  where
    by : (b : Bool) → s d.revision ≡ b → ((rest : List Name) → IsClear s ds (below a rest) → (seen all ds).has (below a rest) ≡ true → IsDeepLock (seen all ds) a x → IsDeepLock (seen s ds) a x)
        → IsDeepLock (cond b (after (seen s ds) d.edit.writes) (seen s ds)) a x
    by true e earlier = deep_seen d ds steps.0 steps.1 s (λ f i based. closed d f (inl refl) (inr i) e based) a x earlier rest (λ f i. clear f (inr i)) h k
    by false e earlier =
        let weak = clear d (inl refl) e in
        let here : (seen all ds).has (below a rest) ≡ true = sym (has_stays (seen all ds) d.edit.writes (below a rest) (none_unless _ (λ w. weak (steps.0.covers.node (below a rest) w)))) ∙ h in
        earlier rest (λ f i. clear f (inr i)) here (deep_unseen d ds steps.0 steps.1 a x rest weak h k)

-- and a lock of such a node
pub owner_within : (ds : Series) → AreSteps ds → (s : Sight) → (a : Path) (x : Property) → IsClear s ds a → (seen all ds).prop a lock_owner ≡ Some x → (seen s ds).prop a lock_owner ≡ Some x
owner_within ds steps s a x clear h = put_kept s ds a lock_owner x (λ e y i k w. clear e i k ((covering ds steps e i).owner a y w)) h

-- ---- a commit's changed nodes

module _ (d : Draw) (ds : Series) (step : IsStep d ds) (steps : AreSteps ds) (a : Path) (x : Property) where
  -- a deep lock over a marked node that is there before or after
  pub deep_at_base : (rest : List Name) → IsMarked (below a rest) d.marks → ((seen all ds).has (below a rest) ≡ true) ⊎ ((after (seen all ds) d.edit.writes).has (below a rest) ≡ true) → IsDeepLock (seen all ds) a x → IsDeepLock (seen (base d) ds) a x
  deep_at_base rest m h k = by rest m (true_or_false ((seen all ds).has (below a rest))) (elim h [ inl e ↦ inl e | inr e ↦ inr e ])
    where
      old : (rest : List Name) → IsMarked (below a rest) d.marks → (seen all ds).has (below a rest) ≡ true → IsDeepLock (seen (base d) ds) a x
      old rest m e = deep_within ds steps (base d) step.closed a x rest (marked_clear d ds step steps (base d) (within_itself (base d) ds) (below a rest) m) e k

      by : (rest : List Name) → IsMarked (below a rest) d.marks → ((seen all ds).has (below a rest) ≡ true) ⊎ ((seen all ds).has (below a rest) ≡ false)
          → ((seen all ds).has (below a rest) ≡ true) ⊎ ((after (seen all ds) d.edit.writes).has (below a rest) ≡ true) → IsDeepLock (seen (base d) ds) a x
      by rest m (inl e) h = old rest m e
      by [] m (inr e) h = absurd (false≢true (sym (ap is_some (step.fits.before.bare a lock_owner e)) ∙ ap is_some k.0))
      by (n ∷ rest) m (inr e) (inl h) = old (n ∷ rest) m h
      by (n ∷ rest) m (inr e) (inr h) = elim (some_or_none (written (here_of (below a (n ∷ rest))) d.edit.writes)) [
        | inl w ↦ by rest (step.covers.above (below a rest) n w) (true_or_false ((seen all ds).has (below a rest))) (inr (step.fits.later.parent (below a rest) n h))
        | inr w ↦ absurd (false≢true (sym e ∙ (sym (has_stays (seen all ds) d.edit.writes (below a (n ∷ rest)) w) ∙ h)))
      ]

  -- a lock over a marked node that is there before or after is one at the base
  pub locked_at_base : (rest : List Name) → IsMarked (below a rest) d.marks → ((seen all ds).has (below a rest) ≡ true) ⊎ ((after (seen all ds) d.edit.writes).has (below a rest) ≡ true) → IsLocked (seen all ds) a x rest → IsLocked (seen (base d) ds) a x rest
  locked_at_base [] m h k = owner_within ds steps (base d) a x (marked_clear d ds step steps (base d) (within_itself (base d) ds) a m) k
  locked_at_base (n ∷ rest) m h k = deep_at_base (n ∷ rest) m h k
