-- A plan that is free at its base is so on the tree of all commits.
use Rattle.std.proofs.Common.{◌≡◌, ◌⊎◌, inl, inr, ℕ, Bool, true, false, cond, ◌&&◌, ◌||◌, not, Some, None, Option, List, [], ◌∷◌, ◌++◌, map, refl, sym, ap, ◌∙◌, subst, is_some}
use Rattle.std.specs.Prelude.{option_to_list}
use Rattle.std.specs.Option.{option_map_or, option_or, unwrap_or}
use Rattle.std.specs.Cmp.{tied_itself}
use Rattle.std.specs.Ordering.{is_eq, eq_by_cmp}
use Rattle.std.proofs.lemmas.Cmp.{nat_list_cmp_total}
use Rattle.std.specs.List.{filter, find, list_any}
use mathlib.Core.Bool.{false≢true}
use Rattle.jr_path.specs.Names.{name_cmp, path_cmp, parent_of, last_name}
use Rattle.jr_path.specs.declared.name.Name.{Name}
use Rattle.jr_path.specs.declared.path.Path.{Path}
use Rattle.jr_path.proofs.Maps.{path_total}
use Rattle.jr_path.proofs.Parts.{parent_of-child, last_name-child, below_is_prefix}
use Rattle.jr_value.specs.declared.value.Property.{Property}
use Rattle.jr_value.specs.Values.{same_bytes}
use Rattle.jr_tree.specs.declared.edit.Write.{Write}
use Rattle.jr_tree.specs.declared.edit.Write.TheVariants.{Here, Gone, Put, Unset}
use Rattle.jr_tree.specs.Trees.{Nodes}
use Rattle.jr_tree.specs.Edits.{applied}
use Rattle.jr_tree.specs.Items.{here_of, put_of, written}
use Rattle.jr_tree.proofs.Pointwise.{same_path as path_same}
use Rattle.jr_items.specs.Names.{lock_owner, primary_type, mixin_types}
use Rattle.jr_items.specs.Items.{same_path, one_text, child_path, upward}
use Rattle.jr_types.specs.declared.OnParentVersion.TheVariants as opv
use Rattle.jr_types.specs.declared.TypeDef.{TypeDef}
use Rattle.jr_types.specs.Types.{is_opv}
use Rattle.jr_types.specs.Attributes.{child_passes, property_passes}
use Rattle.jcr_lock.specs.Locks.{lock_covers, is_held, locked_by, frozen_by}
use Rattle.jcr_marks.proofs.Membership.{IsIn}
use Rattle.jcr_plan.specs.Plans.{IsFree, changed_by, is_changed, heeded, is_ignored, is_ignored_child}
use Rattle.oak_machine.specs.declared.event.Draw.{Draw}
use Rattle.core_obeys.proofs.Views.{IsOne, Series, View, view_of, all, base, seen, after, same_has, same_prop}
use Rattle.core_obeys.proofs.Clash.{IsMarked, IsStrong, strong_is_marked}
use Rattle.core_obeys.proofs.Steps.{IsStep, AreSteps, IsLocked, is_frozen, below, within_itself, marked_clear, strong_unmarked, written_kept, clear_still, clear_primary, clear_mixins, unmarked_clear, unmarked_kept}
use Rattle.core_obeys.proofs.Types.{AgreeOnProperty, AgreeOnChild, types_in, child_in, property_written, child_written}
use Rattle.core_obeys.proofs.Locks.{true_or_false, locked_at_base}
use Rattle.core_obeys.proofs.Frozen.{frozen_at_base}
use Rattle.core_obeys.proofs.Paths.{in_upward, under_below}
use Rattle.core_obeys.proofs.Covering.{covers, covered, frozen_is, frozen_back, frozen_above}

-- ---- lists

pub any_of : {X : Type 0} (test : X → Bool) (xs : List X) → list_any test xs ≡ true → (x : X) × IsIn x xs × (test x ≡ true)
any_of test [] h = absurd (false≢true h)
any_of test (x ∷ xs) h = by (test x) refl h (λ k. any_of test xs k)
  where
    by : (b : Bool) → test x ≡ b → (b || list_any test xs) ≡ true → (list_any test xs ≡ true → (y : _) × IsIn y xs × (test y ≡ true)) → (y : _) × IsIn y (x ∷ xs) × (test y ≡ true)
    by true e k rest = (x, inl refl, e)
    by false e k rest = let it = rest k in (it.0, inr it.1, it.2)

find_none : (test : Path → Bool) (ps : List Path) → ((p : Path) → test p ≡ false) → find test ps ≡ None
find_none test [] none = refl
find_none test (p ∷ ps) none = ap (λ b. cond b (Some p) (find test ps)) (none p) ∙ find_none test ps none

none_found : (test : Path → Bool) (ps : List Path) → find test ps ≡ None → (p : Path) → IsIn p ps → test p ≡ false
none_found test [] h p i = absurd i
none_found test (q ∷ ps) h p i = by (test q) refl h (λ k j. none_found test ps k p j)
  where
    by : (b : Bool) → test q ≡ b → cond b (Some q) (find test ps) ≡ None → (find test ps ≡ None → IsIn p ps → test p ≡ false) → test p ≡ false
    by true e k rest = absurd (false≢true (sym (ap is_some k)))
    by false e k rest = elim i [ inl same ↦ ap test (sym same) ∙ e | inr j ↦ rest k j ]

same_filter : (f g : Write → Bool) (ws : List Write) → ((w : Write) → IsIn w ws → f w ≡ g w) → filter f ws ≡ filter g ws
same_filter f g [] same = refl
same_filter f g (w ∷ ws) same = ap (λ b. cond b (w ∷ filter f ws) (filter f ws)) (same w (inl refl)) ∙ ap (λ (rest : List Write). cond (g w) (w ∷ rest) rest) (same_filter f g ws (λ v i. same v (inr i)))

from_filter : {X : Type 0} (test : X → Bool) (k : X) (xs : List X) → IsIn k (filter test xs) → IsIn k xs
from_filter test k [] h = h
from_filter test k (x ∷ xs) h =
    (elim (test x) as (λ b. IsIn k (cond b (x ∷ filter test xs) (filter test xs)) → (x ≡ k) ⊎ IsIn k xs) [
      | true ↦ λ i. elim i [ inl e ↦ inl e | inr j ↦ inr (from_filter test k xs j) ]
      | false ↦ λ i. inr (from_filter test k xs i)
    ]) h

in_list : (p : Path) (o : Option Path) → IsIn p (option_to_list o) → o ≡ Some p
in_list p None i = absurd i
in_list p (Some q) i = elim i [ inl e ↦ ap Some e | inr j ↦ absurd j ]

-- ---- paths

-- a path is the root, or that of a child
ends : (q : Path) → (q ≡ []) ⊎ ((p : Path) × (n : Name) × (q ≡ child_path p n))
ends [] = inl refl
ends (m ∷ q) = by (ends q)
  where
    by : (q ≡ []) ⊎ ((p : Path) × (n : Name) × (q ≡ child_path p n)) → ((m ∷ q) ≡ []) ⊎ ((p : Path) × (n : Name) × ((m ∷ q) ≡ child_path p n))
    by (inl e) = inr ([], m, ap (λ r. m ∷ r) e)
    by (inr it) = inr (m ∷ it.0, it.1, ap (λ r. m ∷ r) it.2)

child_of : (q p : Path) → parent_of q ≡ Some p → (n : Name) × (q ≡ child_path p n)
child_of q p h = elim (ends q) [
  | inl e ↦ absurd (false≢true (ap is_some (sym (ap parent_of e) ∙ h)))
  | inr it ↦
      let same : it.0 ≡ p = ap (λ (o : Option Path). unwrap_or o p) (sym (parent_of-child it.0 it.1) ∙ (sym (ap parent_of it.2) ∙ h)) in
      (it.1, it.2 ∙ ap (λ r. child_path r it.1) same)
]

mapped : (n : Name) (ps : List Path) (a : Path) → IsIn a (map (λ r. n ∷ r) ps ++ [] ∷ []) → (a ≡ []) ⊎ ((b : Path) × IsIn b ps × (a ≡ n ∷ b))
mapped n [] a i = elim i [ inl e ↦ inl (sym e) | inr j ↦ absurd j ]
mapped n (p ∷ ps) a i = elim i [
  | inl e ↦ inr (p, inl refl, sym e)
  | inr j ↦ elim (mapped n ps a j) [ inl e ↦ inl e | inr it ↦ inr (it.0, inr it.1, it.2) ]
]

upward_prefix : (p a : Path) → IsIn a (upward p) → (more : Path) × (p ≡ a ++ more)
upward_prefix [] a i = elim i [ inl e ↦ ([], ap (λ r. r ++ []) e) | inr j ↦ absurd j ]
upward_prefix (n ∷ p) a i = by (mapped n (upward p) a i) (upward_prefix p)
  where
    by : (a ≡ []) ⊎ ((b : Path) × IsIn b (upward p) × (a ≡ n ∷ b)) → ((b : Path) → IsIn b (upward p) → (more : Path) × (p ≡ b ++ more)) → (more : Path) × ((n ∷ p) ≡ a ++ more)
    by (inl e) rest = (n ∷ p, ap (λ r. r ++ n ∷ p) (sym e))
    by (inr it) rest = let more = rest it.0 it.1 in (more.0, ap (λ r. n ∷ r) more.1 ∙ ap (λ r. r ++ more.0) (sym it.2))

upward_below : (p a : Path) → IsIn a (upward p) → (rest : List Name) × (below a rest ≡ p)
upward_below p a i = under_below p a ((below_is_prefix p a).1 (upward_prefix p a i))

-- ---- the writes

some_or : {X : Type 0} (a b : Option X) → is_some b ≡ true → is_some (option_or a b) ≡ true
some_or None b h = h
some_or (Some x) b h = refl

or_some : {X : Type 0} (a b : Option X) → is_some a ≡ true → is_some (option_or a b) ≡ true
or_some None b h = absurd (false≢true h)
or_some (Some x) b h = refl

passes : {X : Type 0} (b : Bool) (x : X) → b ≡ true → is_some (cond b (Some x) None) ≡ true
passes true x h = refl
passes false x h = absurd (false≢true h)

-- an item of one of the writes is written
is_written : {X : Type 0} (f : Write → Option X) (w : Write) (ws : List Write) → IsIn w ws → is_some (f w) ≡ true → is_some (written f ws) ≡ true
is_written f w [] i h = absurd i
is_written f w (x ∷ ws) i h = elim i [ inl e ↦ some_or (written f ws) (f x) (ap (λ (y : Write). is_some (f y)) e ∙ h) | inr j ↦ or_some (written f ws) (f x) (is_written f w ws j h) ]

itself : (p : Path) → eq_by_cmp path_cmp p p ≡ true
itself p = ap is_eq (tied_itself path_total p)

named_itself : (n : Name) → eq_by_cmp name_cmp n n ≡ true
named_itself n = ap is_eq (tied_itself nat_list_cmp_total n)

both : (a b : Bool) → a ≡ true → b ≡ true → (a && b) ≡ true
both true b h k = k
both false b h k = absurd (false≢true h)

here_written : (p : Path) (ws : List Write) → IsIn (Here p) ws → is_some (written (here_of p) ws) ≡ true
here_written p ws i = is_written (here_of p) (Here p) ws i (passes _ true (itself p))

gone_written : (p : Path) (ws : List Write) → IsIn (Gone p) ws → is_some (written (here_of p) ws) ≡ true
gone_written p ws i = is_written (here_of p) (Gone p) ws i (passes _ false (itself p))

put_written : (p : Path) (n : Name) (x : Property) (ws : List Write) → IsIn (Put p n x) ws → is_some (written (put_of p n) ws) ≡ true
put_written p n x ws i = is_written (put_of p n) (Put p n x) ws i (passes _ (Some x) (both _ _ (itself p) (named_itself n)))

unset_written : (p : Path) (n : Name) (ws : List Write) → IsIn (Unset p n) ws → is_some (written (put_of p n) ws) ≡ true
unset_written p n ws i = is_written (put_of p n) (Unset p n) ws i (passes _ None (both _ _ (itself p) (named_itself n)))

-- ---- what IGNORE looks at

module _ (types : List TypeDef) where
  abbrev ignores_property : View → Path → Name → Bool
  ignores_property v p n = property_passes (is_opv opv.Ignore) types (types_in v p) n (v.prop p n)

  abbrev ignores_child : View → Path → Name → Bool
  ignores_child v p n = child_passes (is_opv opv.Ignore) types (types_in v p) n (child_in v p n)

  same_property_look : (v w : View) (p : Path) (n : Name) → AgreeOnProperty v w p n → ignores_property v p n ≡ ignores_property w p n
  same_property_look v w p n a = rw (a.primary, a.mixins, a.property) refl

  same_child_look : (v w : View) (p : Path) (n : Name) → AgreeOnChild v w p n → ignores_child v p n ≡ ignores_child w p n
  same_child_look v w p n a = rw (a.primary, a.mixins, a.child, a.type) refl

  child_look : (t : Nodes) (p : Path) (n : Name) → is_ignored_child types t (child_path p n) ≡ ignores_child (view_of t) p n
  child_look t p n =
      ap (λ (o : Option Path). option_map_or (λ q. option_map_or (λ n. ignores_child (view_of t) q n) (last_name (child_path p n)) false) o false) (parent_of-child p n)
      ∙ ap (λ (o : Option Name). option_map_or (λ n. ignores_child (view_of t) p n) o false) (last_name-child p n)

  root_look : (t u : Nodes) (p : Path) → p ≡ [] → is_ignored_child types t p ≡ is_ignored_child types u p
  root_look t u p e = subst (λ (q : Path). is_ignored_child types t q ≡ is_ignored_child types u q) (sym e) refl

-- ---- one commit

module _ (types : List TypeDef) (d : Draw) (ds : Series) (step : IsStep d ds) (steps : AreSteps ds) where
  abbrev now : View
  now = seen all ds

  abbrev before : View
  before = seen (base d) ds

  abbrev ws : List Write
  ws = d.edit.writes

  -- a node that is marked, and is there before or after
  abbrev IsTouched : Path → Type 0
  IsTouched p = IsMarked p d.marks × ((now.has p ≡ true) ⊎ ((after now ws).has p ≡ true))

  node_touched : (p : Path) → is_some (written (here_of p) ws) ≡ true → IsTouched p
  node_touched p h = (strong_is_marked d.marks p (step.covers.node p h), by (written (here_of p) ws) refl h)
    where
      by : (o : Option Bool) → written (here_of p) ws ≡ o → is_some o ≡ true → (now.has p ≡ true) ⊎ (unwrap_or o (now.has p) ≡ true)
      by None w k = absurd (false≢true k)
      by (Some true) w k = inr refl
      by (Some false) w k = inl (elim (true_or_false (now.has p)) [ inl e ↦ e | inr e ↦ absurd (step.fits.change.node p false w e) ])

  above_touched : (p : Path) (n : Name) → is_some (written (here_of (child_path p n)) ws) ≡ true → IsTouched p
  above_touched p n h = (step.covers.above p n h, elim (node_touched (child_path p n) h).1 [ inl e ↦ inl (step.fits.before.parent p n e) | inr e ↦ inr (step.fits.later.parent p n e) ])

  prop_touched : (p : Path) (n : Name) → is_some (written (put_of p n) ws) ≡ true → IsTouched p
  prop_touched p n h = ((_, step.covers.prop p n h), by (written (put_of p n) ws) refl h)
    where
      stood : (v : View) → ((p : Path) (n : Name) → v.has p ≡ false → v.prop p n ≡ None) → (x : Property) → v.prop p n ≡ Some x → v.has p ≡ true
      stood v bare x k = elim (true_or_false (v.has p)) [ inl e ↦ e | inr e ↦ absurd (false≢true (sym (ap is_some (bare p n e)) ∙ ap is_some k)) ]

      had : (o : Option Property) → now.prop p n ≡ o → (o ≡ None → ⊥) → now.has p ≡ true
      had None k some = absurd (some refl)
      had (Some x) k some = stood now step.fits.before.bare x k

      by : (o : Option (Option Property)) → written (put_of p n) ws ≡ o → is_some o ≡ true → (now.has p ≡ true) ⊎ ((after now ws).has p ≡ true)
      by None w k = absurd (false≢true k)
      by (Some (Some x)) w k = inr (stood (after now ws) step.fits.later.bare x (ap (λ (o : Option (Option Property)). unwrap_or o (now.prop p n)) w))
      by (Some None) w k = inl (had (now.prop p n) refl (λ e. step.fits.change.prop p n None w e))

  write_touched : (p : Path) (w : Write) → IsIn w ws → IsIn p (changed_by w) → IsTouched p
  write_touched p (Here q) i j = elim j [
    | inl e ↦ subst (λ (r : Path). IsTouched r) e (node_touched q (here_written q ws i))
    | inr k ↦ let it = child_of q p (in_list p (parent_of q) k) in above_touched p it.0 (subst (λ (r : Path). is_some (written (here_of r) ws) ≡ true) it.1 (here_written q ws i))
  ]
  write_touched p (Gone q) i j = elim j [
    | inl e ↦ subst (λ (r : Path). IsTouched r) e (node_touched q (gone_written q ws i))
    | inr k ↦ let it = child_of q p (in_list p (parent_of q) k) in above_touched p it.0 (subst (λ (r : Path). is_some (written (here_of r) ws) ≡ true) it.1 (gone_written q ws i))
  ]
  write_touched p (Put q n x) i j = elim j [ inl e ↦ subst (λ (r : Path). IsTouched r) e (prop_touched q n (put_written q n x ws i)) | inr k ↦ absurd k ]
  write_touched p (Unset q n) i j = elim j [ inl e ↦ subst (λ (r : Path). IsTouched r) e (prop_touched q n (unset_written q n ws i)) | inr k ↦ absurd k ]

  changed_touched : (vs : List Write) → ((w : Write) → IsIn w vs → IsIn w ws) → (p : Path) → is_changed vs p ≡ true → IsTouched p
  changed_touched vs part p h =
      let w = any_of (λ w. list_any (same_path p) (changed_by w)) vs h in
      let q = any_of (same_path p) (changed_by w.0) w.2 in
      write_touched p w.0 (part w.0 w.1) (subst (λ (r : Path). IsIn r (changed_by w.0)) (sym (path_same p q.0 q.2)) q.1)

  -- ---- what IGNORE looks at is as at the base

  clear : (p : Path) → IsMarked p d.marks → (e : Draw) → IsOne e ds → base d e.revision ≡ false → IsStrong p e.marks → ⊥
  clear p m = marked_clear d ds step steps (base d) (within_itself (base d) ds) p m

  property_before : (p : Path) (n : Name) → is_some (written (put_of p n) ws) ≡ true → AgreeOnProperty now before p n
  property_before p n w = let cl = clear p (_, step.covers.prop p n w) in record {
    node = same_has (base d) ds p (clear_still ds steps (base d) p cl);
    primary = same_prop (base d) ds p primary_type (clear_primary ds steps (base d) p cl);
    mixins = same_prop (base d) ds p mixin_types (clear_mixins ds steps (base d) p cl);
    property = same_prop (base d) ds p n (written_kept d ds step steps (base d) (within_itself (base d) ds) p n w);
  }

  child_before : (p : Path) (n : Name) → IsMarked p d.marks → IsStrong (child_path p n) d.marks → AgreeOnChild now before p n
  child_before p n m k = let cl = clear p m in let un = strong_unmarked d ds step steps (base d) (within_itself (base d) ds) (child_path p n) k in record {
    node = same_has (base d) ds p (clear_still ds steps (base d) p cl);
    primary = same_prop (base d) ds p primary_type (clear_primary ds steps (base d) p cl);
    mixins = same_prop (base d) ds p mixin_types (clear_mixins ds steps (base d) p cl);
    child = same_has (base d) ds (child_path p n) (clear_still ds steps (base d) (child_path p n) (unmarked_clear ds steps (base d) (child_path p n) un));
    type = same_prop (base d) ds (child_path p n) primary_type (unmarked_kept ds steps (base d) (child_path p n) primary_type un);
  }

  module _ (t b : Nodes) (of_t : view_of t ≡ now) (of_b : view_of b ≡ before) (after_t : view_of (applied None t ws) ≡ after now ws) (after_b : view_of (applied None b ws) ≡ after before ws) where
    same_ignored : (w : Write) → IsIn w ws → is_ignored types t (applied None t ws) w ≡ is_ignored types b (applied None b ws) w
    same_ignored (Here p) i = by (ends p)
      where
        by : (p ≡ []) ⊎ ((q : Path) × (n : Name) × (p ≡ child_path q n)) → is_ignored_child types (applied None t ws) p ≡ is_ignored_child types (applied None b ws) p
        by (inl e) = root_look types (applied None t ws) (applied None b ws) p e
        by (inr it) =
            let w : is_some (written (here_of (child_path it.0 it.1)) ws) ≡ true = subst (λ (r : Path). is_some (written (here_of r) ws) ≡ true) it.2 (here_written p ws i) in
            subst (λ (r : Path). is_ignored_child types (applied None t ws) r ≡ is_ignored_child types (applied None b ws) r) (sym it.2)
            (child_look types (applied None t ws) it.0 it.1
            ∙ (ap (λ (v : View). ignores_child types v it.0 it.1) after_t
            ∙ (same_child_look types (after now ws) (after before ws) it.0 it.1 (child_written d ds step steps all (λ e i h. refl) it.0 it.1 (step.covers.above it.0 it.1 w) (step.covers.node (child_path it.0 it.1) w))
            ∙ (ap (λ (v : View). ignores_child types v it.0 it.1) (sym after_b)
            ∙ sym (child_look types (applied None b ws) it.0 it.1)))))
    same_ignored (Gone p) i = by (ends p)
      where
        by : (p ≡ []) ⊎ ((q : Path) × (n : Name) × (p ≡ child_path q n)) → is_ignored_child types t p ≡ is_ignored_child types b p
        by (inl e) = root_look types t b p e
        by (inr it) =
            let w : is_some (written (here_of (child_path it.0 it.1)) ws) ≡ true = subst (λ (r : Path). is_some (written (here_of r) ws) ≡ true) it.2 (gone_written p ws i) in
            subst (λ (r : Path). is_ignored_child types t r ≡ is_ignored_child types b r) (sym it.2)
            (child_look types t it.0 it.1
            ∙ (ap (λ (v : View). ignores_child types v it.0 it.1) of_t
            ∙ (same_child_look types now before it.0 it.1 (child_before it.0 it.1 (step.covers.above it.0 it.1 w) (step.covers.node (child_path it.0 it.1) w))
            ∙ (ap (λ (v : View). ignores_child types v it.0 it.1) (sym of_b)
            ∙ sym (child_look types b it.0 it.1)))))
    same_ignored (Put p n x) i =
        ap (λ (v : View). ignores_property types v p n) after_t
        ∙ (same_property_look types (after now ws) (after before ws) p n (property_written d ds step steps all (λ e i h. refl) p n (put_written p n x ws i))
        ∙ ap (λ (v : View). ignores_property types v p n) (sym after_b))
    same_ignored (Unset p n) i =
        ap (λ (v : View). ignores_property types v p n) of_t
        ∙ (same_property_look types now before p n (property_before p n (unset_written p n ws i))
        ∙ ap (λ (v : View). ignores_property types v p n) (sym of_b))

    same_heeded : heeded types t ws ≡ heeded types b ws
    same_heeded = same_filter (λ w. not (is_ignored types t (applied None t ws) w)) (λ w. not (is_ignored types b (applied None b ws) w)) ws (λ w i. ap not (same_ignored w i))

    -- ---- who covers a changed node does so at the base

    owner_of : (v : View) (a : Path) (x : Property) (rest : List Name) → IsLocked v a x rest → v.prop a lock_owner ≡ Some x
    owner_of v a x [] h = h
    owner_of v a x (n ∷ rest) h = h.0

    unlocked : (tokens : List (List ℕ)) (p : Path) → IsTouched p → locked_by b p tokens ≡ None → locked_by t p tokens ≡ None
    unlocked tokens p touched none = find_none (λ q. lock_covers t q p && not (is_held t tokens q)) (upward p) (λ q. by q (true_or_false (lock_covers t q p)))
      where
        held : (q : Path) → lock_covers t q p ≡ true → is_held t tokens q ≡ true
        held q h =
            let it = covered t q p h in
            let x = it.1 in
            let there : IsLocked now q x it.0 = subst (λ (v : View). IsLocked v q x it.0) of_t it.3 in
            let based : IsLocked before q x it.0 = locked_at_base d ds step steps q x it.0 (subst (λ (r : Path). IsMarked r d.marks) (sym it.2) touched.0)
            (subst (λ (r : Path). (now.has r ≡ true) ⊎ ((after now ws).has r ≡ true)) (sym it.2) touched.1) there in
            let at_base : IsLocked (view_of b) q x it.0 = subst (λ (v : View). IsLocked v q x it.0) (sym of_b) based in
            let covering : lock_covers b q p ≡ true = subst (λ (r : Path). lock_covers b q r ≡ true) it.2 (covers b q x it.0 at_base) in
            let above : IsIn q (upward p) = subst (λ (r : Path). IsIn q (upward r)) it.2 (in_upward q it.0) in
            let free = none_found (λ q. lock_covers b q p && not (is_held b tokens q)) (upward p) none q above in
            ap (λ (o : Option Property). option_map_or (λ owner. list_any (same_bytes owner) tokens) (one_text o) false) (owner_of (view_of t) q x it.0 it.3 ∙ sym (owner_of (view_of b) q x it.0 at_base))
            ∙ must (lock_covers b q p) (is_held b tokens q) covering free
          where
            must : (c k : Bool) → c ≡ true → (c && not k) ≡ false → k ≡ true
            must true true h f = refl
            must true false h f = absurd (false≢true (sym f))
            must false k h f = absurd (false≢true h)

        by : (q : Path) → (lock_covers t q p ≡ true) ⊎ (lock_covers t q p ≡ false) → (lock_covers t q p && not (is_held t tokens q)) ≡ false
        by q (inr e) = ap (λ c. c && not (is_held t tokens q)) e
        by q (inl e) = ap (λ c. c && not (is_held t tokens q)) e ∙ ap not (held q e)

    thawed : (p : Path) → IsTouched p → frozen_by b p ≡ None → frozen_by t p ≡ None
    thawed p touched none = by (frozen_by t p) refl
      where
        frozen : (a : Path) → frozen_by t p ≡ Some a → ⊥
        frozen a h =
            let above = by_path a h in
            let there = subst (λ (v : View). is_frozen v a above.0 ≡ true) of_t (frozen_back t a above.0 (ap (frozen_by t) above.1 ∙ h)) in
            let based = frozen_at_base d ds step steps a above.0 (subst (λ (r : Path). IsMarked r d.marks) (sym above.1) touched.0)
            (subst (λ (r : Path). (now.has r ≡ true) ⊎ ((after now ws).has r ≡ true)) (sym above.1) touched.1) there in
            let at_base = subst (λ (v : View). is_frozen v a above.0 ≡ true) (sym of_b) based in
            false≢true (ap is_some (sym none ∙ (ap (frozen_by b) (sym above.1) ∙ frozen_is b a above.0 at_base)))
          where
            by_path : (a : Path) → frozen_by t p ≡ Some a → (rest : List Name) × (below a rest ≡ p)
            by_path a h = upward_below p a (frozen_above t p a h)

        by : (o : Option Path) → frozen_by t p ≡ o → o ≡ None
        by None e = refl
        by (Some a) e = absurd (frozen a e)

    pub free : (tokens : List (List ℕ)) → IsFree types b tokens ws → IsFree types t tokens ws
    free tokens ok = record {
      unlocked = λ p h. unlocked tokens p (changed_touched ws (λ w i. i) p h) (ok.unlocked p h);
      checked_out = λ p h. thawed p (changed_touched (heeded types t ws) (λ w i. from_filter (λ w. not (is_ignored types t (applied None t ws) w)) w ws i) p h)
          (ok.checked_out p (subst (λ (vs : List Write). is_changed vs p ≡ true) same_heeded h));
    }
