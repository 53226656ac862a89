-- Each commit keeps the rules of node types: what a rule looks at is written by the commit alone, or by none of those that it doesn't see.
use Rattle.std.proofs.Common.{◌≡◌, ◌⊎◌, inl, inr, Bool, true, false, cond, Some, None, Option, List, [], sym, ◌∙◌, is_some, refl}
use Rattle.jr_path.specs.declared.name.Name.{Name}
use Rattle.jr_path.specs.declared.path.Path.{Path}
use Rattle.jr_tree.specs.declared.edit.Write.{Write}
use Rattle.jr_tree.specs.Items.{here_of, put_of, written}
use Rattle.jr_items.specs.Names.{primary_type, mixin_types}
use Rattle.jr_items.specs.Items.{child_path}
use Rattle.jr_types.specs.declared.TypeDef.{TypeDef}
use Rattle.jr_types.specs.Types.{NodeTypes}
use Rattle.jr_types.specs.Rules.{PresentChild, property_faults, child_faults}
use Rattle.oak_machine.specs.declared.event.Draw.{Draw}
use Rattle.core_obeys.proofs.Views.Series.{Over, Then}
use Rattle.core_obeys.proofs.Views.{IsOne, Series, View, Sight, IsStill, IsKept, base, seen, after, same_has, same_prop, same_has_after, same_prop_after, has_stays, prop_stays, some_or_none}
use Rattle.core_obeys.proofs.Clash.{IsStrong, IsMarked}
use Rattle.core_obeys.proofs.Steps.{IsStep, AreSteps, within_itself, strong_unmarked, marked_clear, written_kept, clear_still, clear_primary, clear_mixins, unmarked_clear, unmarked_kept, unmarked_child, unmarked_child_primary, IsWithin, IsClosed, unseen}

abbrev pub types_in : View → Path → NodeTypes
types_in v p = record { primary = v.prop p primary_type; mixins = v.prop p mixin_types }

abbrev pub child_in : View → Path → Name → Option PresentChild
child_in v p n = cond (v.has (child_path p n)) (Some (v.prop (child_path p n) primary_type)) None

-- no rule fails
pub record AreTyped (types : List TypeDef) (v : View) : Type 0 where
  pub properties : (p : Path) (n : Name) → v.has p ≡ true → property_faults types (types_in v p) n (v.prop p n) ≡ []
  pub children : (p : Path) (n : Name) → v.has p ≡ true → child_faults types (types_in v p) n (child_in v p n) ≡ []

-- two views agree on what the rules of properties look at
pub record AgreeOnProperty (v w : View) (p : Path) (n : Name) : Type 0 where
  pub node : v.has p ≡ w.has p
  pub primary : v.prop p primary_type ≡ w.prop p primary_type
  pub mixins : v.prop p mixin_types ≡ w.prop p mixin_types
  pub property : v.prop p n ≡ w.prop p n

-- two views agree on what the rules of children look at
pub record AgreeOnChild (v w : View) (p : Path) (n : Name) : Type 0 where
  pub node : v.has p ≡ w.has p
  pub primary : v.prop p primary_type ≡ w.prop p primary_type
  pub mixins : v.prop p mixin_types ≡ w.prop p mixin_types
  pub child : v.has (child_path p n) ≡ w.has (child_path p n)
  pub type : v.prop (child_path p n) primary_type ≡ w.prop (child_path p n) primary_type

pub properties_agree : (types : List TypeDef) (v w : View) (p : Path) (n : Name) → AgreeOnProperty v w p n
    → (w.has p ≡ true → property_faults types (types_in w p) n (w.prop p n) ≡ []) → v.has p ≡ true → property_faults types (types_in v p) n (v.prop p n) ≡ []
properties_agree types v w p n a holds h = rw (a.primary, a.mixins, a.property) (holds (sym a.node ∙ h))

pub children_agree : (types : List TypeDef) (v w : View) (p : Path) (n : Name) → AgreeOnChild v w p n
    → (w.has p ≡ true → child_faults types (types_in w p) n (child_in w p n) ≡ []) → v.has p ≡ true → child_faults types (types_in v p) n (child_in v p n) ≡ []
children_agree types v w p n a holds h = rw (a.primary, a.mixins, a.child, a.type) (holds (sym a.node ∙ h))

module _ (d : Draw) (ds : Series) (step : IsStep d ds) (steps : AreSteps ds) (s : Sight) (within : IsWithin (base d) s ds) where
  abbrev now : View
  now = seen s ds

  abbrev before : View
  before = seen (base d) ds

  abbrev ws : List Write
  ws = d.edit.writes

  node_same : (p : Path) → IsStill (base d) ds p → (after now ws).has p ≡ (after before ws).has p
  node_same p still = same_has_after now before ws p (sym (same_has s ds p (λ e i h. still e i (unseen (base d) s ds within e i h))) ∙ same_has (base d) ds p still)

  prop_same : (p : Path) (n : Name) → IsKept (base d) ds p n → (after now ws).prop p n ≡ (after before ws).prop p n
  prop_same p n kept = same_prop_after now before ws p n (sym (same_prop s ds p n (λ e i h. kept e i (unseen (base d) s ds within e i h))) ∙ same_prop (base d) ds p n kept)

  unmarked : (p : Path) → IsStrong p d.marks → (e : Draw) → IsOne e ds → base d e.revision ≡ false → IsMarked p e.marks → ⊥
  unmarked p m = strong_unmarked d ds step steps (base d) (within_itself (base d) ds) p m

  clear : (p : Path) → IsMarked p d.marks → (e : Draw) → IsOne e ds → base d e.revision ≡ false → IsStrong p e.marks → ⊥
  clear p m = marked_clear d ds step steps (base d) (within_itself (base d) ds) p m

  -- a strongly marked node is as it is at the base
  property_strong : (p : Path) (n : Name) → IsStrong p d.marks → AgreeOnProperty (after now ws) (after before ws) p n
  property_strong p n m = let un = unmarked p m in record {
    node = node_same p (clear_still ds steps (base d) p (unmarked_clear ds steps (base d) p un));
    primary = prop_same p primary_type (unmarked_kept ds steps (base d) p primary_type un);
    mixins = prop_same p mixin_types (unmarked_kept ds steps (base d) p mixin_types un);
    property = prop_same p n (unmarked_kept ds steps (base d) p n un);
  }

  pub property_written : (p : Path) (n : Name) → is_some (written (put_of p n) ws) ≡ true → AgreeOnProperty (after now ws) (after before ws) p n
  property_written p n w = let cl = clear p (_, step.covers.prop p n w) in record {
    node = node_same p (clear_still ds steps (base d) p cl);
    primary = prop_same p primary_type (clear_primary ds steps (base d) p cl);
    mixins = prop_same p mixin_types (clear_mixins ds steps (base d) p cl);
    property = prop_same p n (written_kept d ds step steps (base d) (within_itself (base d) ds) p n w);
  }

  -- what rules of a property look at: as it was, or as it is at the base
  property_either : (p : Path) (n : Name) → AgreeOnProperty (after now ws) now p n ⊎ AgreeOnProperty (after now ws) (after before ws) p n
  property_either p n = by (some_or_none (written (here_of p) ws)) (some_or_none (written (put_of p primary_type) ws)) (some_or_none (written (put_of p mixin_types) ws)) (some_or_none (written (put_of p n) ws))
    where
      by : (is_some (written (here_of p) ws) ≡ true) ⊎ (written (here_of p) ws ≡ None)
          → (is_some (written (put_of p primary_type) ws) ≡ true) ⊎ (written (put_of p primary_type) ws ≡ None)
          → (is_some (written (put_of p mixin_types) ws) ≡ true) ⊎ (written (put_of p mixin_types) ws ≡ None)
          → (is_some (written (put_of p n) ws) ≡ true) ⊎ (written (put_of p n) ws ≡ None)
          → AgreeOnProperty (after now ws) now p n ⊎ AgreeOnProperty (after now ws) (after before ws) p n
      by (inl a) b c e = inr (property_strong p n (step.covers.node p a))
      by (inr a) (inl b) c e = inr (property_strong p n (step.covers.primary p b))
      by (inr a) (inr b) (inl c) e = inr (property_strong p n (step.covers.mixins p c))
      by (inr a) (inr b) (inr c) (inl e) = inr (property_written p n e)
      by (inr a) (inr b) (inr c) (inr e) = inl (record { node = has_stays now ws p a; primary = prop_stays now ws p primary_type b; mixins = prop_stays now ws p mixin_types c; property = prop_stays now ws p n e })

  child_strong : (p : Path) (n : Name) → IsStrong p d.marks → AgreeOnChild (after now ws) (after before ws) p n
  child_strong p n m = let un = unmarked p m in record {
    node = node_same p (clear_still ds steps (base d) p (unmarked_clear ds steps (base d) p un));
    primary = prop_same p primary_type (unmarked_kept ds steps (base d) p primary_type un);
    mixins = prop_same p mixin_types (unmarked_kept ds steps (base d) p mixin_types un);
    child = node_same (child_path p n) (unmarked_child ds steps (base d) p n un);
    type = prop_same (child_path p n) primary_type (unmarked_child_primary ds steps (base d) p n un);
  }

  pub child_written : (p : Path) (n : Name) → IsMarked p d.marks → IsStrong (child_path p n) d.marks → AgreeOnChild (after now ws) (after before ws) p n
  child_written p n m k = let cl = clear p m in let un = unmarked (child_path p n) k in record {
    node = node_same p (clear_still ds steps (base d) p cl);
    primary = prop_same p primary_type (clear_primary ds steps (base d) p cl);
    mixins = prop_same p mixin_types (clear_mixins ds steps (base d) p cl);
    child = node_same (child_path p n) (clear_still ds steps (base d) (child_path p n) (unmarked_clear ds steps (base d) (child_path p n) un));
    type = prop_same (child_path p n) primary_type (unmarked_kept ds steps (base d) (child_path p n) primary_type un);
  }

  child_either : (p : Path) (n : Name) → AgreeOnChild (after now ws) now p n ⊎ AgreeOnChild (after now ws) (after before ws) p n
  child_either p n = by (some_or_none (written (here_of p) ws)) (some_or_none (written (put_of p primary_type) ws)) (some_or_none (written (put_of p mixin_types) ws))
      (some_or_none (written (here_of (child_path p n)) ws)) (some_or_none (written (put_of (child_path p n) primary_type) ws))
    where
      by : (is_some (written (here_of p) ws) ≡ true) ⊎ (written (here_of p) ws ≡ None)
          → (is_some (written (put_of p primary_type) ws) ≡ true) ⊎ (written (put_of p primary_type) ws ≡ None)
          → (is_some (written (put_of p mixin_types) ws) ≡ true) ⊎ (written (put_of p mixin_types) ws ≡ None)
          → (is_some (written (here_of (child_path p n)) ws) ≡ true) ⊎ (written (here_of (child_path p n)) ws ≡ None)
          → (is_some (written (put_of (child_path p n) primary_type) ws) ≡ true) ⊎ (written (put_of (child_path p n) primary_type) ws ≡ None)
          → AgreeOnChild (after now ws) now p n ⊎ AgreeOnChild (after now ws) (after before ws) p n
      by (inl a) b c e f = inr (child_strong p n (step.covers.node p a))
      by (inr a) (inl b) c e f = inr (child_strong p n (step.covers.primary p b))
      by (inr a) (inr b) (inl c) e f = inr (child_strong p n (step.covers.mixins p c))
      by (inr a) (inr b) (inr c) (inl e) f = inr (child_written p n (step.covers.above p n e) (step.covers.node (child_path p n) e))
      by (inr a) (inr b) (inr c) (inr e) (inl f) = inr (child_written p n (step.covers.primary_above p n f) (step.covers.primary (child_path p n) f))
      by (inr a) (inr b) (inr c) (inr e) (inr f) = inl (record {
        node = has_stays now ws p a;
        primary = prop_stays now ws p primary_type b;
        mixins = prop_stays now ws p mixin_types c;
        child = has_stays now ws (child_path p n) e;
        type = prop_stays now ws (child_path p n) primary_type f;
      })

  typed_step : (types : List TypeDef) → AreTyped types now → AreTyped types (after before ws) → AreTyped types (after now ws)
  typed_step types was at_base = record {
    properties = λ p n h. elim (property_either p n) [
      | inl a ↦ properties_agree types (after now ws) now p n a (was.properties p n) h
      | inr a ↦ properties_agree types (after now ws) (after before ws) p n a (at_base.properties p n) h
    ];
    children = λ p n h. elim (child_either p n) [
      | inl a ↦ children_agree types (after now ws) now p n a (was.children p n) h
      | inr a ↦ children_agree types (after now ws) (after before ws) p n a (at_base.children p n) h
    ];
  }

-- each edit keeps the rules at its base
abbrev pub AllTyped : List TypeDef → Series → Type 0
AllTyped types (Over v) = AreTyped types v
AllTyped types (Then d ds) = AreTyped types (after (seen (base d) ds) d.edit.writes) × AllTyped types ds

-- so all that are seen together do, where with each commit what its base sees is seen
pub typed : (types : List TypeDef) (ds : Series) → AreSteps ds → AllTyped types ds → (s : Sight) → IsClosed s ds → AreTyped types (seen s ds)
typed types (Over v) steps each s closed = each
typed types (Then d ds) steps each s closed = by (s d.revision) refl (typed types ds steps.1 each.1 s (λ e f i j. closed e f (inr i) (inr j)))
  where
    by : (b : Bool) → s d.revision ≡ b → AreTyped types (seen s ds) → AreTyped types (cond b (after (seen s ds) d.edit.writes) (seen s ds))
    by true h was = typed_step d ds steps.0 steps.1 s (λ f i based. closed d f (inl refl) (inr i) h based) types was each.0
    by false h was = was
