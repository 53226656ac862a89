-- Steps that count make of the view what they make of a tree.
use Rattle.std.proofs.Common.{◌≡◌, ◌⊎◌, inl, inr, Bool, true, false, cond, ◌||◌, Some, None, Option, [], ◌∷◌, is_some, refl, sym, ap, ◌∙◌, subst}
use Rattle.std.specs.Option.{option_map, option_map_or, unwrap_or}
use Rattle.std.specs.Ordering.{eq_by_cmp, is_eq}
use Rattle.std.proofs.lemmas.Cmp.{tied_itself}
use mathlib.Core.Bool.{false≢true}
use Rattle.jr_path.specs.Names.{path_cmp}
use Rattle.jr_path.specs.declared.path.Path.{Path}
use Rattle.jr_path.proofs.Maps.{path_exact, path_total, lookup-insert_entry}
use Rattle.jr_tree.specs.declared.tree.Node.{Node}
use Rattle.jr_tree.specs.Trees.{Nodes, node_at}
use Rattle.jr_tree.proofs.AtPath.{InOrder}
use Rattle.jr_tree.proofs.Entries.{same_lists, sorted_insert}
use Rattle.jr_tree.proofs.Pointwise.{same_path}
use Rattle.jr_part.specs.Parts.{AgreesWith, Knowledge, is_absent, known_at}
use Rattle.jr_overlay.specs.declared.overlay.Change.{Change}
use Rattle.jr_overlay.specs.Overlays.{AreOver, Changed, IsChangeOf, base_at, change_at, dated_as, seen, view_of, with_node_at}
use Rattle.jr_overlay.specs.Drafts.{Steps, stepped, with_change, with_steps}
use Rattle.jr_overlay.specs.Views.{AreAt, is_known, step_at}
use Rattle.jr_overlay.proofs.Views.{node_at-view, node_at-with, sorted-view, sorted-with}

pub nothing_over : (t : Nodes) → AreOver t []
nothing_over t = record { paths = refl; kept = λ p x h. absurd (false≢true (ap is_some h)) }

-- ---- what is known at the base

-- a change keeps what the tree has
pub touched_base : (t known : Nodes) (c : Changed) → AreOver t c → (p : Path) (x : Change) → change_at c p ≡ Some x → base_at known c p ≡ node_at t p
touched_base t known c over p x is = ap (λ (o : Option Change). option_map_or (λ x. x.old) o (node_at known p)) is ∙ (over.kept p x is).old

pub known_base : (t : Nodes) (k : Knowledge) (c : Changed) (p : Path) → AgreesWith t k → AreOver t c → is_known k c p ≡ true → base_at k.nodes c p ≡ node_at t p
known_base t k c p agrees over known = by (change_at c p) refl known
  where
    answered : (o : Option Node) → node_at k.nodes p ≡ o → (b : Bool) → is_absent k p ≡ b → is_some (cond (is_some o) (Some o) (cond b (Some None) None)) ≡ true → o ≡ node_at t p
    answered (Some node) here b gone some = agrees.nodes p (Some node) (ap (λ (o : Option Node). cond (is_some o) (Some o) (cond (is_absent k p) (Some None) None)) here)
    answered None here true gone some = agrees.nodes p None (ap (λ (o : Option Node). cond (is_some o) (Some o) (cond (is_absent k p) (Some None) None)) here ∙ ap (λ b. cond b (Some None) None) gone)
    answered None here false gone some = absurd (false≢true some)

    by : (o : Option Change) → change_at c p ≡ o → (is_some o || is_some (known_at k p)) ≡ true → base_at k.nodes c p ≡ node_at t p
    by (Some x) is some = touched_base t k.nodes c over p x is
    by None is some = ap (λ (o : Option Change). option_map_or (λ x. x.old) o (node_at k.nodes p)) is ∙ answered (node_at k.nodes p) refl (is_absent k p) refl some

-- what is seen is what the tree's view has
pub known_seen : (t : Nodes) (k : Knowledge) (c : Changed) (p : Path) → AgreesWith t k → AreOver t c → is_known k c p ≡ true → seen k.nodes c p ≡ seen t c p
known_seen t k c p agrees over known = by (change_at c p) refl (known_base t k c p agrees over known)
  where
    by : (o : Option Change) → change_at c p ≡ o → option_map_or (λ x. x.old) o (node_at k.nodes p) ≡ node_at t p → option_map_or (λ x. x.new) o (node_at k.nodes p) ≡ option_map_or (λ x. x.new) o (node_at t p)
    by (Some x) is same = refl
    by None is same = same

-- ---- one step

dated_once : (old node : Option Node) → option_map (dated_as old) (option_map (dated_as old) node) ≡ option_map (dated_as old) node
dated_once old None = refl
dated_once old (Some node) = refl

module _ (t known : Nodes) where
  -- what stands at the base stays
  same_base : (c : Changed) (e : Path × Option Node) (p : Path) → base_at known (with_change known c e) p ≡ base_at known c p
  same_base c e p =
      ap (λ (o : Option Change). option_map_or (λ x. x.old) o (node_at known p)) (lookup-insert_entry path_cmp path_total p e.0 _ c)
      ∙ by (eq_by_cmp path_cmp p e.0) refl
    where
      by : (b : Bool) → eq_by_cmp path_cmp p e.0 ≡ b
          → option_map_or (λ x. x.old) (cond b (Some (record { old = base_at known c e.0; new = option_map (dated_as (base_at known c e.0)) e.1 })) (change_at c p)) (node_at known p) ≡ base_at known c p
      by true h = ap (base_at known c) (sym (same_path p e.0 h))
      by false h = refl

  module _ (c : Changed) (e : Path × Option Node) (base : base_at known c e.0 ≡ node_at t e.0) where
    abbrev put : Change
    put = record { old = base_at known c e.0; new = option_map (dated_as (base_at known c e.0)) e.1 }

    over_step : AreOver t c → AreOver t (with_change known c e)
    over_step over = record {
      paths = sorted_insert path_cmp path_total e.0 put c over.paths;
      kept = λ p x h. by p x (eq_by_cmp path_cmp p e.0) refl (sym (lookup-insert_entry path_cmp path_total p e.0 put c) ∙ h);
    }
      where
        here : IsChangeOf t (e.0, put)
        here = record { old = base; new = dated_once (base_at known c e.0) e.1 }

        by : (p : Path) (x : Change) (b : Bool) → eq_by_cmp path_cmp p e.0 ≡ b → cond b (Some put) (change_at c p) ≡ Some x → IsChangeOf t (p, x)
        by p x true h is =
            let at : put ≡ x = ap (λ (o : Option Change). unwrap_or o put) is in
            subst (λ (q : Path). IsChangeOf t (q, x)) (sym (same_path p e.0 h)) (subst (λ (y : Change). IsChangeOf t (e.0, y)) at here)
        by p x false h is = over.kept p x is

    view_step : InOrder t → AreOver t c → view_of t (with_change known c e) ≡ with_node_at (view_of t c) e.0 (option_map (dated_as (node_at t e.0)) e.1)
    view_step s over =
        same_lists path_cmp path_total path_exact (view_of t (with_change known c e)) (with_node_at (view_of t c) e.0 (option_map (dated_as (node_at t e.0)) e.1))
        (sorted-view t (with_change known c e) s)
        (sorted-with (view_of t c) (sorted-view t c s) e.0 _)
        (λ p. node_at-view t (with_change known c e) s (over_step over).paths p
        ∙ (ap (λ (o : Option Change). option_map_or (λ x. x.new) o (node_at t p)) (lookup-insert_entry path_cmp path_total p e.0 put c)
        ∙ (by p (eq_by_cmp path_cmp p e.0)
        ∙ sym (node_at-with (view_of t c) (sorted-view t c s) p e.0 (option_map (dated_as (node_at t e.0)) e.1)))))
      where
        by : (p : Path) (b : Bool) → option_map_or (λ x. x.new) (cond b (Some put) (change_at c p)) (node_at t p) ≡ cond b (option_map (dated_as (node_at t e.0)) e.1) (node_at (view_of t c) p)
        by p true = ap (λ (o : Option Node). option_map (dated_as o) e.1) base
        by p false = sym (node_at-view t c s over.paths p)

  -- ---- all steps

  abbrev pub Based : Changed → Steps → Type 0
  Based c steps = AreAt (λ p. base_at known c p ≡ node_at t p) steps

  based_first : (c : Changed) (e : Path × Option Node) (steps : Steps) → Based c (e ∷ steps) → base_at known c e.0 ≡ node_at t e.0
  based_first c e steps based = based e.0 (ap (λ o. is_some (cond (is_eq o) (Some e.1) (step_at steps e.0))) (tied_itself path_total e.0))

  based_rest : (c : Changed) (e : Path × Option Node) (steps : Steps) → Based c (e ∷ steps) → Based (with_change known c e) steps
  based_rest c e steps based p h = same_base c e p ∙ based p (more (eq_by_cmp path_cmp p e.0))
    where
      more : (b : Bool) → is_some (cond b (Some e.1) (step_at steps p)) ≡ true
      more true = refl
      more false = h

  pub over_steps : (c : Changed) (steps : Steps) → AreOver t c → Based c steps → AreOver t (with_steps known c steps)
  over_steps c [] over based = over
  over_steps c (e ∷ steps) over based = over_steps (with_change known c e) steps (over_step c e (based_first c e steps based) over) (based_rest c e steps based)

  pub view_steps : (c : Changed) (steps : Steps) → InOrder t → AreOver t c → Based c steps → view_of t (with_steps known c steps) ≡ stepped t (view_of t c) steps
  view_steps c [] s over based = refl
  view_steps c (e ∷ steps) s over based =
      view_steps (with_change known c e) steps s (over_step c e (based_first c e steps based) over) (based_rest c e steps based)
      ∙ ap (λ (v : Nodes). stepped t v steps) (view_step c e (based_first c e steps based) s over)

-- ---- what is known stays known, and so is what was stepped

module _ (k : Knowledge) where
  stays_known : (c : Changed) (e : Path × Option Node) (p : Path) → is_known k c p ≡ true → is_known k (with_change k.nodes c e) p ≡ true
  stays_known c e p known = ap (λ (o : Option Change). is_some o || is_some (known_at k p)) (lookup-insert_entry path_cmp path_total p e.0 _ c) ∙ by (eq_by_cmp path_cmp p e.0)
    where
      by : (b : Bool) → (is_some (cond b (Some (record { old = base_at k.nodes c e.0; new = option_map (dated_as (base_at k.nodes c e.0)) e.1 })) (change_at c p)) || is_some (known_at k p)) ≡ true
      by true = refl
      by false = known

  comes_known : (c : Changed) (e : Path × Option Node) (p : Path) → eq_by_cmp path_cmp p e.0 ≡ true → is_known k (with_change k.nodes c e) p ≡ true
  comes_known c e p here =
      ap (λ (o : Option Change). is_some o || is_some (known_at k p)) (lookup-insert_entry path_cmp path_total p e.0 _ c)
      ∙ ap (λ b. is_some (cond b (Some (record { old = base_at k.nodes c e.0; new = option_map (dated_as (base_at k.nodes c e.0)) e.1 })) (change_at c p)) || is_some (known_at k p)) here

  stay_known : (c : Changed) (steps : Steps) (p : Path) → is_known k c p ≡ true → is_known k (with_steps k.nodes c steps) p ≡ true
  stay_known c [] p known = known
  stay_known c (e ∷ steps) p known = stay_known (with_change k.nodes c e) steps p (stays_known c e p known)

  either_way : (a b : Bool) → (a || b) ≡ true → (a ≡ true) ⊎ (b ≡ true)
  either_way true b h = inl refl
  either_way false b h = inr h

  come_known : (c : Changed) (steps : Steps) (p : Path) → is_some (step_at steps p) ≡ true → is_known k (with_steps k.nodes c steps) p ≡ true
  come_known c [] p h = absurd (false≢true h)
  come_known c (e ∷ steps) p h = by (eq_by_cmp path_cmp p e.0) refl h (come_known (with_change k.nodes c e) steps p)
    where
      by : (b : Bool) → eq_by_cmp path_cmp p e.0 ≡ b → is_some (cond b (Some e.1) (step_at steps p)) ≡ true
          → (is_some (step_at steps p) ≡ true → is_known k (with_steps k.nodes (with_change k.nodes c e) steps) p ≡ true)
          → is_known k (with_steps k.nodes (with_change k.nodes c e) steps) p ≡ true
      by true here is rest = stay_known (with_change k.nodes c e) steps p (comes_known c e p here)
      by false here is rest = rest is

  pub known_steps : (c : Changed) (steps : Steps) (p : Path) → (is_known k c p || is_some (step_at steps p)) ≡ true → is_known k (with_steps k.nodes c steps) p ≡ true
  known_steps c steps p h = elim (either_way (is_known k c p) (is_some (step_at steps p)) h) [ inl known ↦ stay_known c steps p known | inr is ↦ come_known c steps p is ]
