-- Each commit keeps the references, where identifiers stand once and are written under a strong mark.
use Rattle.std.proofs.Common.{◌≡◌, ◌⊎◌, inl, inr, ℕ, Bool, true, false, cond, ◌==◌, None, Option, List, [], refl, sym, ap, ◌∙◌, subst, is_some}
use Rattle.std.specs.Option.{option_map_or}
use Rattle.std.specs.List.{list_any, filter_map}
use mathlib.Core.Bool.{false≢true}
use Rattle.jr_path.specs.declared.name.Name.{Name}
use Rattle.jr_path.specs.declared.path.Path.{Path}
use Rattle.jr_value.specs.declared.value.Property.{Property}
use Rattle.jr_value.specs.Values.{same_bytes}
use Rattle.jr_tree.specs.declared.edit.Write.{Write}
use Rattle.jr_tree.specs.Items.{put_of, written}
use Rattle.jr_items.specs.Names.{primary_type, frozen_type, uuid}
use Rattle.jr_items.specs.Items.{values_in, reference_in, one_name, one_text, same_name}
use Rattle.jcr_ref.specs.References.{uuid_text}
use Rattle.oak_machine.specs.declared.event.Draw.{Draw}
use Rattle.core_obeys.proofs.Views.Series.{Over, Then}
use Rattle.core_obeys.proofs.Views.{IsOne, Series, View, Sight, all, base, seen, after, same_has, same_prop, same_has_after, same_prop_after, prop_stays, prop_written, some_or_none, none_unless}
use Rattle.core_obeys.proofs.Clash.{IsStrong, IsMarked, strong_is_marked}
use Rattle.core_obeys.proofs.Steps.{IsStep, AreSteps, IsUnmarked, IsWithin, IsClosed, within_itself, strong_unmarked, marked_clear, written_kept, clear_still, clear_primary, unmarked_kept}
use Rattle.core_obeys.proofs.Locks.{true_or_false}

-- whether a property has that reference
abbrev pub refers : ℕ → Option Property → Bool
refers id o = list_any (λ k. k == id) (option_map_or (λ x. filter_map reference_in (values_in x)) o [])

-- whether a primary type is `nt:frozenNode`
abbrev pub is_frozen_type : Option Property → Bool
is_frozen_type o = option_map_or (same_name frozen_type) (one_name o) false

-- whether an identifier is that of a reference
abbrev pub is_named : ℕ → Option Property → Bool
is_named id o = option_map_or (same_bytes (uuid_text id)) (one_text o) false

-- a reference that has to name a node
abbrev pub IsReference : View → Path → Name → ℕ → Type 0
IsReference v p n id = (refers id (v.prop p n) ≡ true) × (is_frozen_type (v.prop p primary_type) ≡ false)

-- it names the node at t
abbrev pub IsTarget : View → ℕ → Path → Type 0
IsTarget v id t = is_named id (v.prop t uuid) ≡ true

-- each reference names a node
abbrev pub Refer : View → Type 0
Refer v = (p : Path) (n : Name) (id : ℕ) → IsReference v p n id → (t : Path) × IsTarget v id t

-- no two nodes have one identifier
abbrev pub AreDistinct : View → Type 0
AreDistinct v = (id : ℕ) (p q : Path) → IsTarget v id p → IsTarget v id q → p ≡ q

-- a commit that keeps identifiers apart
pub record IsTidy (d : Draw) (ds : Series) : Type 0 where
  pub at_base : AreDistinct (seen (base d) ds)
  pub distinct : AreDistinct (after (seen all ds) d.edit.writes)
  pub marked : (p : Path) → is_some (written (put_of p uuid) d.edit.writes) ≡ true → IsStrong p d.marks
  pub frozen : (p : Path) → (seen (base d) ds).has p ≡ true → (after (seen (base d) ds) d.edit.writes).has p ≡ true
      → is_frozen_type ((seen (base d) ds).prop p primary_type) ≡ true → is_frozen_type ((after (seen (base d) ds) d.edit.writes).prop p primary_type) ≡ true

-- the references at its base name nodes, and the target of a new one is marked
pub record IsReferring (d : Draw) (ds : Series) : Type 0 where
  pub referring : Refer (after (seen (base d) ds) d.edit.writes)
  pub targets : (p : Path) (n : Name) (id : ℕ) → refers id ((after (seen (base d) ds) d.edit.writes).prop p n) ≡ true → refers id ((seen (base d) ds).prop p n) ≡ false
      → (t : Path) → IsTarget (after (seen (base d) ds) d.edit.writes) id t → (t : Path) × IsTarget (after (seen (base d) ds) d.edit.writes) id t × IsMarked t d.marks

abbrev pub AllRefer : Series → Type 0
AllRefer (Over v) = Refer v
AllRefer (Then d ds) = IsTidy d ds × IsReferring d ds × AllRefer ds

-- the identifier of a node that no unseen commit marks strongly is left alone
uuid_kept : (ds : Series) → AreSteps ds → AllRefer ds → (e : Draw) → IsOne e ds → (p : Path) → is_some (written (put_of p uuid) e.edit.writes) ≡ true → IsStrong p e.marks
uuid_kept (Over v) steps tidy e i p w = absurd i
uuid_kept (Then d ds) steps tidy e i p w = elim i [
  | inl k ↦ subst (λ (x : Draw). IsStrong p x.marks) k (tidy.0.marked p (subst (λ (x : Draw). is_some (written (put_of p uuid) x.edit.writes) ≡ true) (sym k) w))
  | inr j ↦ uuid_kept ds steps.1 tidy.2 e j p w
]

module _ (d : Draw) (ds : Series) (step : IsStep d ds) (steps : AreSteps ds) (tidy : IsTidy d ds) (referring : IsReferring d ds) (others : AllRefer ds) where
  abbrev now : View
  now = seen all ds

  abbrev before : View
  before = seen (base d) ds

  abbrev ws : List Write
  ws = d.edit.writes

  module _ (s : Sight) (within : IsWithin (base d) s ds) where
    abbrev some_seen : View
    some_seen = seen s ds

    same_type : (p : Path) → IsMarked p d.marks → (after now ws).prop p primary_type ≡ (after some_seen ws).prop p primary_type
    same_type p m = same_prop_after now some_seen ws p primary_type (same_prop s ds p primary_type (clear_primary ds steps s p (marked_clear d ds step steps s within p m)))

    same_at : (p : Path) (n : Name) → IsStrong p d.marks → now.prop p n ≡ some_seen.prop p n
    same_at p n m = same_prop s ds p n (unmarked_kept ds steps s p n (strong_unmarked d ds step steps s within p m))

    same_uuid : (p : Path) → IsMarked p d.marks → (after now ws).prop p uuid ≡ (after some_seen ws).prop p uuid
    same_uuid p m = same_prop_after now some_seen ws p uuid (same_prop s ds p uuid (λ e i h. none_unless _ (λ w. marked_clear d ds step steps s within p m e i h (uuid_kept ds steps others e i p w))))

    -- a reference after the edit is one in what is seen after it, where it isn't one from before
    reference_there : (p : Path) (n : Name) (id : ℕ) → IsReference (after now ws) p n id → (IsReference now p n id → IsReference some_seen p n id) → IsReference (after some_seen ws) p n id
    reference_there p n id r old = by (some_or_none (written (put_of p n) ws)) (some_or_none (written (put_of p primary_type) ws))
      where
        by : (is_some (written (put_of p n) ws) ≡ true) ⊎ (written (put_of p n) ws ≡ None) → (is_some (written (put_of p primary_type) ws) ≡ true) ⊎ (written (put_of p primary_type) ws ≡ None) → IsReference (after some_seen ws) p n id
        by (inl w) t = (ap (refers id) (sym (prop_written now some_seen ws p n w)) ∙ r.0, ap is_frozen_type (sym (same_type p (_, step.covers.prop p n w))) ∙ r.1)
        by (inr w) (inl t) =
            let m = step.covers.primary p t in
            (ap (refers id) (sym (same_prop_after now some_seen ws p n (same_at p n m))) ∙ r.0, ap is_frozen_type (sym (same_type p (strong_is_marked d.marks p m))) ∙ r.1)
        by (inr w) (inr t) =
            let k = old (ap (refers id) (sym (prop_stays now ws p n w)) ∙ r.0, ap is_frozen_type (sym (prop_stays now ws p primary_type t)) ∙ r.1) in
            (ap (refers id) (prop_stays some_seen ws p n w) ∙ k.0, ap is_frozen_type (prop_stays some_seen ws p primary_type t) ∙ k.1)

  abbrev itself : IsWithin (base d) (base d) ds
  itself = within_itself (base d) ds

  -- the target of a new reference
  abbrev NewTarget : ℕ → Type 0
  NewTarget id = (t : Path) × IsTarget (after now ws) id t × IsMarked t d.marks

  -- a node that was an `nt:frozenNode` at the base isn't any more
  thaws : (p : Path) (n : Name) (id : ℕ) → IsReference (after now ws) p n id → IsMarked p d.marks → is_frozen_type (now.prop p primary_type) ≡ true → ⊥
  thaws p n id r m f =
      let cl = marked_clear d ds step steps (base d) itself p m in
      let was : is_frozen_type (before.prop p primary_type) ≡ true = ap is_frozen_type (sym (same_prop (base d) ds p primary_type (clear_primary ds steps (base d) p cl))) ∙ f in
      let there : before.has p ≡ true = elim (true_or_false (before.has p)) [ inl e ↦ e | inr e ↦ absurd (false≢true (sym (ap is_frozen_type (step.fits_base.before.bare p primary_type e)) ∙ was)) ] in
      let stands : (after now ws).has p ≡ true = elim (true_or_false ((after now ws).has p)) [ inl e ↦ e | inr e ↦ absurd (false≢true (sym (ap (refers id) (step.fits.later.bare p n e)) ∙ r.0)) ] in
      let stays : (after before ws).has p ≡ true = sym (same_has_after now before ws p (same_has (base d) ds p (clear_still ds steps (base d) p cl))) ∙ stands in
      false≢true (sym r.1 ∙ (ap is_frozen_type (same_type (base d) itself p m) ∙ tidy.frozen p there stays was))

  -- a reference was there, or its target is marked
  origin : (p : Path) (n : Name) (id : ℕ) → IsReference (after now ws) p n id → IsReference now p n id ⊎ NewTarget id
  origin p n id r = by (some_or_none (written (put_of p n) ws)) (some_or_none (written (put_of p primary_type) ws)) (true_or_false (refers id (before.prop p n))) (true_or_false (is_frozen_type (now.prop p primary_type)))
    where
      new : is_some (written (put_of p n) ws) ≡ true → refers id (before.prop p n) ≡ false → NewTarget id
      new w k =
          let there : IsReference (after before ws) p n id = (ap (refers id) (sym (prop_written now before ws p n w)) ∙ r.0, ap is_frozen_type (sym (same_type (base d) itself p (_, step.covers.prop p n w))) ∙ r.1) in
          let some = referring.referring p n id there in
          let t = referring.targets p n id there.0 k some.0 some.1 in
          (t.0, ap (is_named id) (same_uuid (base d) itself t.0 t.2) ∙ t.1, t.2)

      by : (is_some (written (put_of p n) ws) ≡ true) ⊎ (written (put_of p n) ws ≡ None) → (is_some (written (put_of p primary_type) ws) ≡ true) ⊎ (written (put_of p primary_type) ws ≡ None)
          → (refers id (before.prop p n) ≡ true) ⊎ (refers id (before.prop p n) ≡ false) → (is_frozen_type (now.prop p primary_type) ≡ true) ⊎ (is_frozen_type (now.prop p primary_type) ≡ false)
          → IsReference now p n id ⊎ NewTarget id
      by (inl w) t (inr k) f = inr (new w k)
      by (inl w) t (inl k) (inl f) = absurd (thaws p n id r (_, step.covers.prop p n w) f)
      by (inl w) t (inl k) (inr f) = inl (ap (refers id) (same_prop (base d) ds p n (written_kept d ds step steps (base d) itself p n w)) ∙ k, f)
      by (inr w) (inl t) k (inl f) = absurd (thaws p n id r (strong_is_marked d.marks p (step.covers.primary p t)) f)
      by (inr w) (inl t) k (inr f) = inl (ap (refers id) (sym (prop_stays now ws p n w)) ∙ r.0, f)
      by (inr w) (inr t) k f = inl (ap (refers id) (sym (prop_stays now ws p n w)) ∙ r.0, ap is_frozen_type (sym (prop_stays now ws p primary_type t)) ∙ r.1)

  -- what a sight sees of references whose target no unseen commit marks
  abbrev IsEarlier : Sight → Type 0
  IsEarlier s = (t p : Path) (n : Name) (id : ℕ) → IsUnmarked s ds t → IsTarget now id t → IsReference now p n id → IsReference (seen s ds) p n id

  -- where d isn't seen
  unseen_reference : (s : Sight) → IsEarlier s → (t p : Path) (n : Name) (id : ℕ) → IsUnmarked s ds t → (IsMarked t d.marks → ⊥) → IsTarget (after now ws) id t → IsReference (after now ws) p n id → IsReference (seen s ds) p n id
  unseen_reference s earlier t p n id un no_mark is r = elim (origin p n id r) [
    | inl k ↦ earlier t p n id un (ap (is_named id) (sym (prop_stays now ws t uuid (none_unless _ (λ w. no_mark (strong_is_marked d.marks t (tidy.marked t w)))))) ∙ is) k
    | inr k ↦ absurd (no_mark (subst (λ (x : Path). IsMarked x d.marks) (tidy.distinct id k.0 t k.1 is) k.2))
  ]

  -- where d is seen too
  seen_reference : Refer now → (s : Sight) → IsWithin (base d) s ds → IsEarlier s → (t p : Path) (n : Name) (id : ℕ) → IsUnmarked s ds t → IsTarget (after now ws) id t → IsReference (after now ws) p n id → IsReference (after (seen s ds) ws) p n id
  seen_reference refer s within earlier t p n id un is r = reference_there s within p n id r (λ old. by old (refer p n id old))
    where
      by : IsReference now p n id → (t : Path) × IsTarget now id t → IsReference (seen s ds) p n id
      by old it = elim (some_or_none (written (put_of it.0 uuid) ws)) [
        | inl w ↦ earlier it.0 p n id (strong_unmarked d ds step steps s within it.0 (tidy.marked it.0 w)) it.1 old
        | inr w ↦ earlier it.0 p n id (subst (λ (x : Path). IsUnmarked s ds x) (tidy.distinct id t it.0 is (ap (is_named id) (prop_stays now ws it.0 uuid w) ∙ it.1)) un) it.1 old
      ]

  -- the references after the edit
  refer_step : Refer now → IsEarlier (base d) → Refer (after now ws)
  refer_step refer earlier p n id r = elim (origin p n id r) [
    | inr k ↦ (k.0, k.1)
    | inl old ↦ by old (refer p n id old)
  ]
    where
      by : IsReference now p n id → (t : Path) × IsTarget now id t → (t : Path) × IsTarget (after now ws) id t
      by old it = elim (some_or_none (written (put_of it.0 uuid) ws)) [
        | inr w ↦ (it.0, ap (is_named id) (prop_stays now ws it.0 uuid w) ∙ it.1)
        | inl w ↦
            let m = tidy.marked it.0 w in
            let there : IsReference (after before ws) p n id = reference_there (base d) itself p n id r (λ old. earlier it.0 p n id (strong_unmarked d ds step steps (base d) itself it.0 m) it.1 old) in
            moved w m (referring.referring p n id there)
      ]
        where
          moved : is_some (written (put_of it.0 uuid) ws) ≡ true → IsStrong it.0 d.marks → (t : Path) × IsTarget (after before ws) id t → (t : Path) × IsTarget (after now ws) id t
          moved w m to = elim (some_or_none (written (put_of to.0 uuid) ws)) [
            | inl k ↦ (to.0, ap (is_named id) (prop_written now before ws to.0 uuid k) ∙ to.1)
            | inr k ↦
                let same : to.0 ≡ it.0 = tidy.at_base id to.0 it.0 (ap (is_named id) (sym (prop_stays before ws to.0 uuid k)) ∙ to.1) (ap (is_named id) (sym (same_at (base d) itself it.0 uuid m)) ∙ it.1) in
                absurd (false≢true (sym (ap is_some k) ∙ subst (λ (x : Path). is_some (written (put_of x uuid) ws) ≡ true) (sym same) w))
          ]

-- ---- all commits

abbrev IsSeen : Series → Type 0
IsSeen ds = (s : Sight) → IsClosed s ds → (t p : Path) (n : Name) (id : ℕ) → IsUnmarked s ds t → IsTarget (seen all ds) id t → IsReference (seen all ds) p n id → IsReference (seen s ds) p n id

refer_seen : (ds : Series) → AreSteps ds → AllRefer ds → Refer (seen all ds) × IsSeen ds
refer_seen (Over v) steps each = (each, λ s closed t p n id un is r. r)
refer_seen (Then d ds) steps each = by (refer_seen ds steps.1 each.2)
  where
    by : Refer (seen all ds) × IsSeen ds → Refer (seen all (Then d ds)) × IsSeen (Then d ds)
    by old = (
      refer_step d ds steps.0 steps.1 each.0 each.1 each.2 old.0 (old.1 (base d) steps.0.closed),
      λ s closed t p n id un is r. at s closed t p n id un is r (s d.revision) refl,
    )
      where
        at : (s : Sight) → IsClosed s (Then d ds) → (t p : Path) (n : Name) (id : ℕ) → IsUnmarked s (Then d ds) t → IsTarget (seen all (Then d ds)) id t → IsReference (seen all (Then d ds)) p n id
            → (b : Bool) → s d.revision ≡ b → IsReference (cond b (after (seen s ds) d.edit.writes) (seen s ds)) p n id
        at s closed t p n id un is r true e = seen_reference d ds steps.0 steps.1 each.0 each.1 each.2 old.0 s (λ f i based. closed d f (inl refl) (inr i) e based) (old.1 s (λ e f i j. closed e f (inr i) (inr j))) t p n id (λ f i. un f (inr i)) is r
        at s closed t p n id un is r false e = unseen_reference d ds steps.0 steps.1 each.0 each.1 each.2 s (old.1 s (λ e f i j. closed e f (inr i) (inr j))) t p n id (λ f i. un f (inr i)) (un d (inl refl) e) is r

-- each reference names a node
pub refer : (ds : Series) → AreSteps ds → AllRefer ds → Refer (seen all ds)
refer ds steps each = (refer_seen ds steps each).0
