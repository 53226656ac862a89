-- The first of several causes, and the first in a list of findings.
use Rattle.std.proofs.Common.{Result, Ok, Err, ◌≡◌, ℕ, Bool, true, false, cond, not, Option, None, Some, is_some, List, [], ◌∷◌, ◌++◌, map, refl, sym, ap, ◌∙◌, subst}
use Rattle.std.proofs.lemmas.Bool.{and_from}
use Rattle.std.proofs.lemmas.Option.{none-some}
use Rattle.std.specs.Prelude.{IfOk, codes, option_map}
use Rattle.std.specs.Cmp.{eq_by_cmp_equiv}
use Rattle.std.specs.List.{list_all}
use Rattle.std.specs.Map.{keys_of}
use Rattle.std.specs.BTreeMap.{insert_entry}
use Rattle.std.specs.Ordering.{is_lt, eq_by_cmp, match_ordering}
use Rattle.std.specs.declared.cmp.Ordering.TheVariants.{Less, Equal, Greater}
use Rattle.jr_path.specs.Names.{path_cmp}
use Rattle.jr_path.specs.declared.path.Path.{Path}
use Rattle.jr_path.proofs.Maps.{path_total}
use Rattle.jr_tree.specs.declared.shared.Refusal.{Refusal}
use Rattle.jr_tree.specs.declared.tree.Node.{Node}
use Rattle.jr_tree.specs.Trees.{Nodes, node_at}
use Rattle.jr_tree.specs.Edits.{IsProper, applied}
use Rattle.jr_tree.specs.declared.edit.Write.{Write}
use Rattle.jr_items.specs.Items.{first_of, first_some, in_path_order}
use Rattle.jr_items.specs.Refusals.{IsTheRefusal, checked_in, dangling_refusal as dangling_refusal, locked, over_limit, when}
use Rattle.jr_types.specs.declared.TypeDef.{TypeDef}
use Rattle.oak_clash.specs.declared.mark.MarkAt.{MarkAt}
use Rattle.jcr_marks.specs.Marks.{marks_of}
use Rattle.jcr_plan.specs.declared.causes.Assured.{Assured}
use Rattle.jcr_plan.specs.First.{sooner}
use Rattle.jcr_plan.specs.Checked.{dangling_by, refusal_between, refusal_by, violations_by}
use Rattle.jcr_plan.specs.Plans.{PlanOk, has_few_nodes}
use Rattle.jcr_plan.specs.Refusals.{frozen_over, locked_over, plan_refusal, type_refusal}
use Rattle.jcr_plan.proofs.Accepted.{accepted}

-- what must come of the first cause must come
pub due_here : (a : Option Refusal) (rest : List (Option Refusal)) (r : Refusal) → IsTheRefusal a r → IsTheRefusal (first_some (a ∷ rest)) r
due_here (Some x) rest r due = due
due_here None rest r due = λ m. absurd (none-some r (due m))

-- and of the others, where the first does not come
pub due_later : (a : Option Refusal) (rest : List (Option Refusal)) (r : Refusal) → a ≡ None → IsTheRefusal (first_some rest) r → IsTheRefusal (first_some (a ∷ rest)) r
due_later None rest r h due = due
due_later (Some x) rest r h due = absurd (none-some x (sym h))

-- nothing comes of several causes, where nothing comes of the first and nothing of the others
none_here : (a : Option Refusal) (rest : List (Option Refusal)) → a ≡ None → first_some rest ≡ None → first_some (a ∷ rest) ≡ None
none_here None rest h k = k
none_here (Some x) rest h k = absurd (none-some x (sym h))

module _ (assured : Assured) (types : List TypeDef) (t u : Nodes) (tokens : List (List ℕ)) (ws : List Write) (is : u ≡ applied None t ws) (frozen : option_map checked_in (first_of (frozen_over types t ws)) ≡ None) (locks : option_map locked (first_of (locked_over t tokens ws)) ≡ None) (typed : option_map type_refusal (first_of (violations_by assured types u ws)) ≡ None) where
  carried : (r : Refusal) → IsTheRefusal (refusal_between assured types t u tokens ws) r → IsTheRefusal (refusal_by assured types t tokens ws) r
  carried r = subst (λ (v : Nodes). IsTheRefusal (refusal_between assured types t v tokens ws) r) is

  -- nothing comes where no cause does
  pub by_none : option_map dangling_refusal (dangling_by assured t u ws) ≡ None → when (not (has_few_nodes u)) (over_limit (codes "nodes") 100000) ≡ None → refusal_by assured types t tokens ws ≡ None
  by_none referring few = subst (λ (v : Nodes). refusal_between assured types t v tokens ws ≡ None) is (none_here _ _ frozen (none_here _ _ locks (none_here _ _ typed (none_here _ _ referring (none_here _ [] few refl)))))

  -- a reference that names no node, where nothing else comes first
  pub by_reference : (r : Refusal) → IsTheRefusal (option_map dangling_refusal (dangling_by assured t u ws)) r → IsTheRefusal (refusal_by assured types t tokens ws) r
  by_reference r due = carried r (due_later _ _ r frozen (due_later _ _ r locks (due_later _ _ r typed (due_here _ _ r due))))

  -- too many nodes, where nothing else comes first
  pub by_size : option_map dangling_refusal (dangling_by assured t u ws) ≡ None → (r : Refusal) → IsTheRefusal (when (not (has_few_nodes u)) (over_limit (codes "nodes") 100000)) r → IsTheRefusal (refusal_by assured types t tokens ws) r
  by_size referring r due = carried r (due_later _ _ r frozen (due_later _ _ r locks (due_later _ _ r typed (due_later _ _ r referring (due_here _ _ r due)))))

-- a node that breaks a rule of its types, where nothing else comes first
pub by_types : (assured : Assured) (types : List TypeDef) (t u : Nodes) (tokens : List (List ℕ)) (ws : List Write) → u ≡ applied None t ws → option_map checked_in (first_of (frozen_over types t ws)) ≡ None → option_map locked (first_of (locked_over t tokens ws)) ≡ None
    → (r : Refusal) → IsTheRefusal (option_map type_refusal (first_of (violations_by assured types u ws))) r → IsTheRefusal (refusal_by assured types t tokens ws) r
by_types assured types t u tokens ws is frozen locks r due =
    subst (λ (v : Nodes). IsTheRefusal (refusal_between assured types t v tokens ws) r) is (due_later _ _ r frozen (due_later _ _ r locks (due_here _ _ r due)))

-- what must come of the first part of a list of findings must come of the list
pub first_here : {X : Type 0} (refused : X → Refusal) (xs ys : List X) (r : Refusal) → IsTheRefusal (option_map refused (first_of xs)) r → IsTheRefusal (option_map refused (first_of (xs ++ ys))) r
first_here refused [] ys r due = λ m. absurd (none-some r (due m))
first_here refused (x ∷ xs) ys r due = due

-- each node of a tree is found at its path
there : (t : Nodes) (p : Path) (before after : Nodes) (node : Node) → t ≡ before ++ (p, node) ∷ after → is_some (node_at t p) ≡ true
there t p before after node is = ap (λ (es : Nodes). is_some (node_at es p)) is ∙ at before
  where
    passed : (c : Bool) (x : Node) (o : Option Node) → is_some o ≡ true → is_some (cond c (Some x) o) ≡ true
    passed true x o h = refl
    passed false x o h = h

    at : (before : Nodes) → is_some (node_at (before ++ (p, node) ∷ after) p) ≡ true
    at [] = ap (λ b. is_some (cond b (Some node) (node_at after p))) ((eq_by_cmp_equiv path_total).refl p)
    at (e ∷ before) = passed (eq_by_cmp path_cmp p e.0) e.1 (node_at (before ++ (p, node) ∷ after) p) (at before)

from_there : (t before after : Nodes) → t ≡ before ++ after → list_all (λ e. is_some (node_at t e.0)) after ≡ true
from_there t before [] is = refl
from_there t before (e ∷ after) is = and_from _ _ (there t e.0 before after e.1 is) (from_there t (before ++ e ∷ []) after (is ∙ moved before))
  where
    moved : (before : Nodes) → before ++ e ∷ after ≡ (before ++ e ∷ []) ++ after
    moved [] = refl
    moved (x ∷ before) = ap (λ (es : Nodes). x ∷ es) (moved before)

pub all_there : (t : Nodes) → list_all (λ e. is_some (node_at t e.0)) t ≡ true
all_there t = from_there t [] t refl

-- ---- the first of paths in their order

pub first_more : (p : Path) (ps : List Path) → first_of (in_path_order (p ∷ ps)) ≡ sooner p (first_of (in_path_order ps))
first_more p ps = by (in_path_order ps)
  where
    by : (qs : List Path) → first_of (keys_of (insert_entry path_cmp (map (λ q. (q, true)) qs) p true)) ≡ sooner p (first_of qs)
    by [] = refl
    by (q ∷ qs) = order (path_cmp p q)
      where
        order : (o : _) → first_of (keys_of (match_ordering o ((p, true) ∷ (q, true) ∷ map (λ q. (q, true)) qs) ((q, true) ∷ map (λ q. (q, true)) qs) ((q, true) ∷ insert_entry path_cmp (map (λ q. (q, true)) qs) p true))) ≡ cond (is_lt o) (Some p) (Some q)
        order Less = refl
        order Equal = refl
        order Greater = refl

-- what holds anyway holds where there is an answer
pub if_ok : {X E P : Type 0} (result : Result X E) → P → IfOk result (λ x. P)
if_ok (Ok x) h = h
if_ok (Err e) h = tt

-- ---- a plan

pub planned : (types : List TypeDef) (t : Nodes) (tokens : List (List ℕ)) (ws : List Write) (marks : List MarkAt) → marks ≡ marks_of t ws → plan_refusal types t tokens ws ≡ None → IsProper t ws → PlanOk types t tokens ws marks
planned types t tokens ws marks is free proper = subst (PlanOk types t tokens ws) (sym is) (accepted types t tokens ws proper free)
