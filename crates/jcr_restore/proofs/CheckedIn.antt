-- A restore brings back what a check-in kept, if nothing happened to the version's frozen nodes.
use Rattle.std.proofs.Common.{◌≡◌, ℕ, ◌+◌, Bool, true, false, cond, ◌++◌, length, Some, None, Option, List, [], ◌∷◌, map, refl, sym, ap, ◌∙◌, subst, append_assoc}
use Rattle.std.specs.Prelude.{◌&&◌, not, Result, Ok, Err, codes, is_ok}
use Rattle.std.specs.Ordering.{eq_by_cmp}
use Rattle.std.specs.List.{filter, list_all}
use Rattle.std.proofs.lemmas.Bool.{and_from, and_parts, false≢true}
use Rattle.std.proofs.lemmas.Option.{none-some}
use Rattle.basics.proofs.Lists.{all_joined}
use Rattle.jr_path.specs.Names.{is_under, name_cmp, path_cmp}
use Rattle.jr_path.specs.declared.name.Name.{Name}
use Rattle.jr_path.specs.declared.path.Path.{Path}
use Rattle.jr_path.proofs.Parts.{below_is_prefix}
use Rattle.jr_rev.specs.declared.revision.Revision.{Revision}
use Rattle.jr_tree.specs.declared.edit.Write.{Write}
use Rattle.jr_tree.specs.declared.shared.Refusal.{Refusal}
use Rattle.jr_tree.specs.declared.shared.Who.{Who}
use Rattle.jr_tree.specs.Edits.{applied}
use Rattle.jr_tree.specs.Trees.{Nodes, subtree_of, undated}
use Rattle.jr_tree.proofs.LastWrites.{apart_greater}
use Rattle.jr_tree.proofs.Pointwise.{same_path}
use Rattle.jr_items.specs.Items.{child_path, first_some, is_checked_in}
use Rattle.jr_items.specs.Names.{system, version_storage, version_storage_name}
use Rattle.jr_items.specs.Refusals.{in_system, no_node, or_else, own_rule, place_refusal, too_deep, too_long}
use Rattle.jr_types.specs.declared.TypeDef.{TypeDef}
use Rattle.jcr_lock.specs.Needed.{is_needed}
use Rattle.jcr_ref.specs.Drawn.{latest_date}
use Rattle.jcr_ref.specs.Histories.{version_history_of, number_by, version_names}
use Rattle.jcr_ref.specs.References.{identifier_of}
use Rattle.jcr_version.specs.Edits.{checked_in_writes, checkin_due, checkin_edit, checkin_own, checkin_refusal, checkin_writes, new_version, succeed, unless_refused}
use Rattle.jcr_version.specs.Limits.{added_limit, within_limits}
use Rattle.jcr_frozen.specs.Frozen.{frozen_tree}
use Rattle.jcr_frozen.specs.Histories.{drawn_id, no_versions, predecessors_of, unversioned, version_name, versions_of}
use Rattle.jcr_restore.specs.BroughtBack.{IsBack}
use Rattle.jcr_restore.specs.CheckedIn.{IsCheckIn, IsUntouchedSince, made_version}
use Rattle.jcr_restore.specs.Edits.{frozen_of}
use Rattle.jcr_restore.proofs.Added.{is_elsewhere}
use Rattle.jcr_restore.proofs.ComingBack.{comes_back}
use Rattle.jcr_restore.proofs.Free.{none_of}
use Rattle.jcr_restore.proofs.FrozenStays.{frozen_stays}
use Rattle.jcr_restore.proofs.Standing.{same_front}

-- ---- what an accepted check-in writes

first_passed : {X : Type 0} (o : Option X) (os : List (Option X)) → first_some (o ∷ os) ≡ None
    → (o ≡ None) × (first_some os ≡ None)
first_passed None os h = (refl, h)
first_passed (Some x) os h = absurd (none-some x (sym h))

not_refused : (r : Option Refusal) (due : Result (List Write) Refusal) (ws : List Write)
    → unless_refused r due ≡ Ok ws → (r ≡ None) × (due ≡ Ok ws)
not_refused None due ws h = (refl, h)
not_refused (Some r) due ws h = absurd (false≢true (ap is_ok h))

not_or_else : (r : Option Refusal) (due ws : List Write) → or_else r due ≡ Ok ws → due ≡ ws
not_or_else None due ws h = ap (λ x. elim x [ Ok us ↦ us | Err e ↦ [] ]) h
not_or_else (Some r) due ws h = absurd (false≢true (ap is_ok h))

third_passed : {X : Type 0} (a b c d : Option X) → first_some (a ∷ b ∷ c ∷ d ∷ []) ≡ None → c ≡ None
third_passed None None None d h = refl
third_passed None None (Some x) d h = absurd (none-some x (sym h))
third_passed None (Some x) c d h = absurd (none-some x (sym h))
third_passed (Some x) b c d h = absurd (none-some x (sym h))

-- no command checks a node of the repository's own in
not_in_system : (t : Nodes) (p : Path) → place_refusal t p ≡ None → is_under p system ≡ false
not_in_system t p h =
    none_of (is_under p system) (own_rule p)
    (sym (third_passed (too_deep p) (too_long p) (in_system p) (no_node t p) h))

placed : (t : Nodes) (p : Path) → no_versions (codes "checkin") t p ≡ None
    → is_under p system ≡ false
placed t p h =
    not_in_system t p
    (first_passed (place_refusal t p) (unversioned (codes "checkin") t p ∷ []) h).0

pub accepted : (types : List TypeDef) (t : Nodes) (p : Path) (who : Who) (ws : List Write)
    → is_checked_in t p ≡ false → checkin_edit types t p who ≡ Ok ws
    → (is_under p system ≡ false) × (filter (is_needed t) (checkin_writes types t p who) ≡ ws)
accepted types t p who ws out h =
    let passed = not_refused (no_versions (codes "checkin") t p) (checkin_own types t p who) ws h in (
      placed t p passed.0,
      not_or_else (added_limit due) due ws
          (not_refused (checkin_refusal types t p who) (within_limits due) ws
          (sym (ap (λ b. cond b (Ok []) (checkin_due types t p who)) out) ∙ passed.1)).1,
    )
  where
    due : List Write
    due = filter (is_needed t) (checkin_writes types t p who)

-- ---- the other writes are elsewhere

-- what is deeper than a child of h is no child of h
deeper : (h : Path) (m n k : Name) (ns : List Name)
    → eq_by_cmp path_cmp ((h ++ m ∷ []) ++ n ∷ ns) (h ++ k ∷ []) ≡ false
deeper h m n k ns =
    ap (λ (r : Path). eq_by_cmp path_cmp r (h ++ k ∷ [])) (append_assoc h (m ∷ []) (n ∷ ns))
    ∙ (same_front h (m ∷ n ∷ ns) (k ∷ []) ∙ sym (apart_greater (name_cmp m k)))

pub filtered : {X : Type 0} (test ok : X → Bool) (xs : List X) → list_all ok xs ≡ true
    → list_all ok (filter test xs) ≡ true
filtered test ok [] all = refl
filtered test ok (x ∷ xs) all = by (test x) (filtered test ok xs (and_parts _ _ all).1)
  where
    by : (b : Bool) → list_all ok (filter test xs) ≡ true
        → list_all ok (cond b (x ∷ filter test xs) (filter test xs)) ≡ true
    by true rest = and_from _ _ (and_parts _ _ all).0 rest
    by false rest = rest

abbrev is_other : Path → Path → Bool
is_other q r = not (eq_by_cmp path_cmp q r)

children_other : (q h : Path) → ((n : Name) → eq_by_cmp path_cmp q (h ++ n ∷ []) ≡ false)
    → (ns : List Name) → list_all (is_other q) (map (child_path h) ns) ≡ true
children_other q h apart [] = refl
children_other q h apart (n ∷ ns) = and_from _ _ (ap not (apart n)) (children_other q h apart ns)

succeed_other : (t : Nodes) (id : ℕ) (q : Path) (rs : List Path) → list_all (is_other q) rs ≡ true
    → list_all (is_elsewhere q) (map (succeed t id) rs) ≡ true
succeed_other t id q [] all = refl
succeed_other t id q (r ∷ rs) all =
    and_from _ _ (and_parts _ _ all).0 (succeed_other t id q rs (and_parts _ _ all).1)

checked_in_other : (p : Path) (id : ℕ) (q : Path) → eq_by_cmp path_cmp q p ≡ false
    → list_all (is_elsewhere q) (checked_in_writes p id) ≡ true
checked_in_other p id q h = ap (λ b. not b && (not b && (not b && true))) h

-- below the version storage nothing is outside the repository's own nodes
outside_storage : (i m n : Name) (ns : List Name) (p : Path) → is_under p system ≡ false
    → eq_by_cmp path_cmp (((version_storage ++ i ∷ []) ++ m ∷ []) ++ n ∷ ns) p ≡ false
outside_storage i m n ns p out = by (eq_by_cmp path_cmp q p) refl
  where
    q : Path
    q = ((version_storage ++ i ∷ []) ++ m ∷ []) ++ n ∷ ns

    inside : is_under q system ≡ true
    inside = (below_is_prefix q system).1 (version_storage_name ∷ i ∷ m ∷ n ∷ ns, refl)

    by : (b : Bool) → eq_by_cmp path_cmp q p ≡ b → b ≡ false
    by false h = refl
    by true h =
        absurd (false≢true (sym out
        ∙ subst (λ (r : Path). is_under r system ≡ true) (same_path q p h) inside))

module _ (t : Nodes) (p : Path) (id : ℕ) (out : is_under p system ≡ false) (m n : Name)
    (ns : List Name) where
  abbrev deep : Path
  deep = (version_history_of t p ++ m ∷ []) ++ n ∷ ns

  rest_elsewhere : list_all (is_elsewhere deep)
      (map (succeed t id) (predecessors_of t p) ++ checked_in_writes p id) ≡ true
  rest_elsewhere =
      all_joined (is_elsewhere deep) (map (succeed t id) (predecessors_of t p))
      (checked_in_writes p id)
      (succeed_other t id deep (predecessors_of t p)
      (filtered _ (is_other deep) (versions_of t (version_history_of t p))
      (children_other deep (version_history_of t p) (λ k. deeper (version_history_of t p) m n k ns)
      (version_names t (version_history_of t p)))))
      (checked_in_other p id deep (outside_storage (identifier_of t p) m n ns p out))

-- ---- a check-in, and a restore

module _ (types : List TypeDef) (born : Option Revision) (old : Nodes) (p : Path) (who : Who)
    (ws : List Write) (checkin : IsCheckIn types old p who ws) where
  -- after the check-in the version's frozen nodes are there
  frozen_there : undated (subtree_of (applied born old ws) (frozen_of (made_version old p)))
      ≡ frozen_tree types old p (frozen_of (made_version old p))
  frozen_there =
      let due = accepted types old p who ws checkin.out checkin.due in
      ap (λ (us : List Write).
      undated (subtree_of (applied born old us) (frozen_of (made_version old p)))) (sym due.1)
      ∙ frozen_stays types born old checkin.was p (made_version old p)
      (new_version old p (drawn_id who) (latest_date who.base))
      (map (succeed old (number_by who (who.ids + 1))) (predecessors_of old p)
      ++ checked_in_writes p (number_by who (who.ids + 1)))
      checkin.free
      (λ n ns. rest_elsewhere old p (number_by who (who.ids + 1)) due.0
      (version_name (length (version_names old (version_history_of old p)))) n ns)

  -- a restore of the version brings back what stood there before the check-in
  pub brings_back : (new : Nodes)
      → IsUntouchedSince types old (applied born old ws) new p (made_version old p)
      → IsBack types old new p (made_version old p)
  brings_back new alone =
      comes_back types old new p (made_version old p)
      (record {
        was = checkin.was;
        is = alone.is;
        frozen = alone.frozen ∙ frozen_there;
        others = alone.others;
      })
