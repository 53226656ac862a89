-- A plan has no reason to be none, and what is refused for an edit is such a reason.
use Rattle.std.proofs.Common.{◌≡◌, ℕ, Bool, true, false, cond, not, ◌||◌, Option, None, Some, is_some, List, [], ◌∷◌, ◌++◌, map, refl, sym, ap, ◌∙◌, subst}
use Rattle.std.proofs.lemmas.Bool.{false≢true}
use Rattle.std.proofs.lemmas.Option.{none-some, same_Some}
use Rattle.std.specs.Prelude.{◌==◌, codes, option_map, Ok}
use Rattle.std.specs.List.{cons_option, filter, filter_map, flat_map, list_any}
use Rattle.std.specs.Cmp.{tied_itself}
use Rattle.std.specs.Ordering.{eq_by_cmp, is_eq}
use Rattle.std.proofs.lemmas.List.Folds.{list_any-append}
use Rattle.jr_path.specs.Names.{path_cmp}
use Rattle.jr_path.specs.declared.name.Name.{Name}
use Rattle.jr_path.specs.declared.path.Path.{Path}
use Rattle.jr_path.proofs.Maps.{path_total}
use Rattle.jr_tree.specs.declared.edit.Write.{Write}
use Rattle.jr_tree.specs.declared.shared.Datum.TheVariants as datum
use Rattle.jr_tree.specs.declared.shared.Refusal.{Refusal}
use Rattle.jr_tree.specs.Edits.{applied}
use Rattle.jr_tree.specs.declared.tree.Node.{Node}
use Rattle.jr_tree.specs.Trees.{IsTree, Nodes, node_at, property_at}
use Rattle.jr_items.specs.Items.{first_of, first_some, in_path_order, same_path}
use Rattle.jr_items.specs.Names.{version_storage}
use Rattle.jr_items.specs.Refusals.{over_limit, own_rule, refusal, refusal_at, when}
use Rattle.jr_types.specs.declared.TypeDef.{TypeDef}
use Rattle.jr_types.specs.Rules.{TypesOk, child_at, child_faults, node_types, property_faults}
use Rattle.jr_rules.specs.Violations.{Violation, child_names, failing_at, first_violation, property_names, violations_at}
use Rattle.jcr_lock.specs.Locks.{frozen_by, locked_by}
use Rattle.jcr_ref.specs.References.{ReferencesOk, dangling}
use Rattle.oak_clash.specs.declared.mark.MarkAt.{MarkAt}
use Rattle.jcr_plan.specs.Plans.{PlanOk, changed_by, has_few_nodes, heeded, is_changed}
use Rattle.jcr_plan.specs.Refusals.{frozen_over, locked_over, plan_refusal, type_refusal}
use Rattle.jcr_law.specs.Commits.{refusal_of_due}
use Rattle.jcr_law.specs.Proper.{is_proper}
use Rattle.jcr_law.specs.State.{Call}
use Rattle.jcr_law.proofs.Proper.{proper_is}
use Rattle.core_obeys.specs.NoPlans.{NoPlan, frozen, barred, rule_broken, reference_lost, too_many, improper}

-- ---- a plan changes nothing that is covered

any_flat : {X Y : Type 0} (test : Y → Bool) (f : X → List Y) (xs : List X) → list_any test (flat_map f xs) ≡ list_any (λ x. list_any test (f x)) xs
any_flat test f [] = refl
any_flat test f (x ∷ xs) = list_any-append test (f x) (flat_map f xs) ∙ ap (λ b. list_any test (f x) || b) (any_flat test f xs)

or_right : (a b : Bool) → b ≡ true → (a || b) ≡ true
or_right true b h = refl
or_right false b h = h

none_mapped : (f : Path → Option Path) (ps : List Path) → ((p : Path) → list_any (same_path p) ps ≡ true → f p ≡ None) → filter_map f ps ≡ []
none_mapped f [] none = refl
none_mapped f (p ∷ ps) none =
    ap (λ (o : Option Path). cons_option o (filter_map f ps)) (none p (ap (λ b. b || list_any (same_path p) ps) (ap is_eq (tied_itself path_total p))))
    ∙ none_mapped f ps (λ q there. none q (or_right (same_path q p) _ there))

none_over : (f : Path → Option Path) (ws : List Write) → ((p : Path) → is_changed ws p ≡ true → f p ≡ None) → first_of (in_path_order (filter_map f (flat_map changed_by ws))) ≡ None
none_over f ws none = ap (λ (ps : List Path). first_of (in_path_order ps)) (none_mapped f (flat_map changed_by ws) (λ p there. none p (sym (any_flat (same_path p) changed_by ws) ∙ there)))

-- ---- where the rules of types hold nothing is listed

none_passes : {X : Type 0} (test : X → Bool) (xs : List X) → ((x : X) → test x ≡ false) → filter test xs ≡ []
none_passes test [] none = refl
none_passes test (x ∷ xs) none = ap (λ b. cond b (x ∷ filter test xs) (filter test xs)) (none x) ∙ none_passes test xs none

none_flat : {X : Type 0} (f : ℕ → List X) (ks : List ℕ) → ((k : ℕ) → f k ≡ []) → flat_map f ks ≡ []
none_flat f [] none = refl
none_flat f (k ∷ ks) none = ap (λ xs. xs ++ flat_map f ks) (none k) ∙ none_flat f ks none

-- a node is found at its path
found : (b : Bool) (x : Node) (o : Option Node) → is_some o ≡ true → is_some (cond b (Some x) o) ≡ true
found true x o h = refl
found false x o h = h

among : (before after : Nodes) (e : Path × Node) → is_some (node_at (before ++ e ∷ after) e.0) ≡ true
among [] after e = ap (λ b. is_some (cond b (Some e.1) (node_at after e.0))) (ap is_eq (tied_itself path_total e.0))
among (x ∷ before) after e = found (eq_by_cmp path_cmp e.0 x.0) x.1 (node_at (before ++ e ∷ after) e.0) (among before after e)

moved : (before after : Nodes) (e : Path × Node) → before ++ e ∷ after ≡ (before ++ e ∷ []) ++ after
moved [] after e = refl
moved (x ∷ before) after e = ap (λ (es : Nodes). x ∷ es) (moved before after e)

abbrev violation : Path → ℕ → Name → Violation
violation p rule n = record { node = p; rule = rule; item = n }

module _ (types : List TypeDef) (t : Nodes) (typed : TypesOk types t) where
  none_failing : (p : Path) → is_some (node_at t p) ≡ true → (rule : ℕ) → failing_at types t p rule ≡ []
  none_failing p there rule =
      ap (λ (ns : List Name). ns ++ filter (λ n. list_any (λ r. r == rule) (child_faults types (node_types t p) n (child_at t p n))) (child_names types t p))
      (none_passes (λ n. list_any (λ r. r == rule) (property_faults types (node_types t p) n (property_at t p n))) (property_names types t p)
      (λ n. ap (list_any (λ r. r == rule)) (typed.properties p n there)))
      ∙ none_passes (λ n. list_any (λ r. r == rule) (child_faults types (node_types t p) n (child_at t p n))) (child_names types t p)
      (λ n. ap (list_any (λ r. r == rule)) (typed.children p n there))

  none_at : (p : Path) → is_some (node_at t p) ≡ true → violations_at types t p ≡ []
  none_at p there = none_flat (λ rule. map (violation p rule) (failing_at types t p rule)) (1 ∷ 2 ∷ 3 ∷ 4 ∷ 5 ∷ 6 ∷ 7 ∷ 8 ∷ 9 ∷ []) (λ rule. ap (map (violation p rule)) (none_failing p there rule))

  none_among : (before after : Nodes) → t ≡ before ++ after → flat_map (λ e. violations_at types t e.0) after ≡ []
  none_among before [] is = refl
  none_among before (e ∷ after) is =
      ap (λ (vs : List Violation). vs ++ flat_map (λ e. violations_at types t e.0) after)
      (none_at e.0 (ap (λ (es : Nodes). is_some (node_at es e.0)) is ∙ among before after e))
      ∙ none_among (before ++ e ∷ []) after (is ∙ moved before after e)

  no_violation : first_violation types t ≡ None
  no_violation = ap first_of (none_among [] t refl)

-- ---- a plan has no reason to be none

-- each REFERENCE of a tree names a node where it is said so, as jcr_plan has it
abbrev pub NoneDangles : Type 0
NoneDangles = (t : Nodes) → IsTree t → ReferencesOk t → dangling t ≡ None

pub never_both : {A : Type 0} (none_dangles : NoneDangles) (types : List TypeDef) (t : Nodes) (tokens : List (List ℕ)) (ws : List Write) (marks : List MarkAt) (r : Refusal)
    → PlanOk types t tokens ws marks → NoPlan types t tokens ws r → A
never_both none_dangles types t tokens ws marks _ plan (frozen q is) = absurd (none-some q (sym (none_over (frozen_by t) (heeded types t ws) plan.free.checked_out) ∙ is))
never_both none_dangles types t tokens ws marks _ plan (barred q is) = absurd (none-some q (sym (none_over (λ p. locked_by t p tokens) ws plan.free.unlocked) ∙ is))
never_both none_dangles types t tokens ws marks _ plan (rule_broken v is) = absurd (none-some v (sym (no_violation types (applied None t ws) plan.typed) ∙ is))
never_both none_dangles types t tokens ws marks _ plan (reference_lost item is) = absurd (none-some item (sym (none_dangles (applied None t ws) plan.proper.tree plan.referring) ∙ is))
never_both none_dangles types t tokens ws marks _ plan (too_many many) = absurd (false≢true (sym many ∙ plan.few))
never_both none_dangles types t tokens ws marks _ plan (improper not_proper) = absurd (false≢true (sym not_proper ∙ proper_is t ws plan.proper))

-- ---- what is refused for an edit is such a reason

module _ (types : List TypeDef) (t : Nodes) (tokens : List (List ℕ)) (ws : List Write) where
  abbrev Why : Refusal → Type 0
  Why r = NoPlan types t tokens ws r

  first_why : (o : Option Refusal) (os : List (Option Refusal)) (r : Refusal) → ((x : Refusal) → o ≡ Some x → Why x) → (first_some os ≡ Some r → Why r) → first_some (o ∷ os) ≡ Some r → Why r
  first_why None os r here rest is = rest is
  first_why (Some x) os r here rest is = subst (λ (y : Refusal). Why y) (same_Some x r is) (here x refl)

  mapped_why : {X : Type 0} (f : X → Refusal) (o : Option X) → ((y : X) → o ≡ Some y → Why (f y)) → (x : Refusal) → option_map f o ≡ Some x → Why x
  mapped_why f None each x is = absurd (none-some x is)
  mapped_why f (Some y) each x is = subst (λ (z : Refusal). Why z) (same_Some (f y) x is) (each y refl)

  many_why : (b : Bool) → has_few_nodes (applied None t ws) ≡ b → (x : Refusal) → when (not b) (over_limit (codes "nodes") 100000) ≡ Some x → Why x
  many_why true few x is = absurd (none-some x is)
  many_why false many x is = subst (λ (y : Refusal). Why y) (same_Some (over_limit (codes "nodes") 100000) x is) (too_many many)

  plan_why : (r : Refusal) → plan_refusal types t tokens ws ≡ Some r → Why r
  plan_why r =
      first_why (option_map (refusal_at 8) (first_of (frozen_over types t ws))) _ r (mapped_why (refusal_at 8) (first_of (frozen_over types t ws)) (λ q is. frozen q is))
      (first_why (option_map (refusal_at 7) (first_of (locked_over t tokens ws))) _ r (mapped_why (refusal_at 7) (first_of (locked_over t tokens ws)) (λ q is. barred q is))
      (first_why (option_map type_refusal (first_violation types (applied None t ws))) _ r (mapped_why type_refusal (first_violation types (applied None t ws)) (λ v is. rule_broken v is))
      (first_why (option_map (λ item. refusal 9 (datum.Item item ∷ [])) (dangling (applied None t ws))) _ r (mapped_why (λ item. refusal 9 (datum.Item item ∷ [])) (dangling (applied None t ws)) (λ item is. reference_lost item is))
      (first_why (when (not (has_few_nodes (applied None t ws))) (over_limit (codes "nodes") 100000)) [] r (many_why (has_few_nodes (applied None t ws)) refl) (λ is. absurd (none-some r is))))))

pub due_why : (c : Call) (ws : List Write) (r : Refusal) → refusal_of_due c (Ok ws) ≡ Some r → NoPlan c.types c.base c.state.tokens ws r
due_why c [] r is = absurd (none-some r is)
due_why c (w ∷ ws) r is = by (is_proper c.base (w ∷ ws)) refl is
  where
    by : (b : Bool) → is_proper c.base (w ∷ ws) ≡ b → cond b (plan_refusal c.types c.base c.state.tokens (w ∷ ws)) (Some (own_rule version_storage)) ≡ Some r
        → NoPlan c.types c.base c.state.tokens (w ∷ ws) r
    by true proper k = plan_why c.types c.base c.state.tokens (w ∷ ws) r k
    by false not_proper k = subst (λ (y : Refusal). NoPlan c.types c.base c.state.tokens (w ∷ ws) y) (same_Some (own_rule version_storage) r k) (improper not_proper)
