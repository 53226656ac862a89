-- The bound that a collection reads node by node, the settings last, is at most all that is held then and later.
use Rattle.std.proofs.Common.{◌≡◌, inl, inr, ℕ, false, List, [], ◌∷◌, ◌++◌, sym, ◌∙◌, subst}
use Rattle.std.specs.List.{fold, flat_map}
use mathlib.Core.Bool.{false≢true}
use Rattle.jr_rev.specs.declared.vector.Pin.{Pin}
use Rattle.jr_rev.proofs.Bounds.{below_along, below_itself, least_left, least_right}
use Rattle.oak_doc.specs.declared.document.Document.{Document}
use Rattle.core_read.specs.Told.{IsIn}
use Rattle.core_keep.specs.Bounds.{Told, lesser_pair, root_pair, bounding_pairs, kept_pairs, bound_of}
use Rattle.core_keep.specs.Holding.{Holding, IsPairBelow, IsHoldingStep, Leads, IsBoundRead, IsBelowAll}
use Rattle.core_keep.proofs.Item.{not_true}

pair_along : (a b c : Pin) → IsPairBelow a b → IsPairBelow b c → IsPairBelow a c
pair_along a b c h k = (below_along a.base b.base c.base h.0 k.0, below_along a.sweep b.sweep c.sweep h.1 k.1)

-- ---- over steps

was_there : (k : ℕ) (a b : Holding) → IsHoldingStep a b → b.gone k ≡ false → a.gone k ≡ false
was_there k a b step h = not_true (a.gone k) (λ g. false≢true (sym h ∙ step.gone k g))

module _ (bound : Pin) where
  -- at a moment the bound is at most the head and the pins of a node
  record IsBelowNode (k : ℕ) (h : Holding) : Type 0 where
    head : h.gone k ≡ false → IsPairBelow bound (h.heads k)
    pins : h.gone k ≡ false → (x : Pin) → IsIn x (h.pins k) → IsPairBelow bound x

  node_step : (k : ℕ) (a b : Holding) → IsHoldingStep a b → IsBelowNode k a → IsBelowNode k b
  node_step k a b step below = record {
    head = λ h. pair_along bound (a.heads k) (b.heads k) (below.head (was_there k a b step h)) (step.heads k);
    pins = λ h x i. elim (step.pins k x h i) [
      | inl j ↦ below.pins (was_there k a b step h) x j
      | inr one ↦ subst (λ (y : Pin). IsPairBelow bound y) (sym one) (below.head (was_there k a b step h))
    ];
  }

  node_leads : (k : ℕ) (way : List Holding) (a b : Holding) → Leads way a b → IsBelowNode k a → IsBelowNode k b
  node_leads k [] a b leads below = subst (λ (h : Holding). IsBelowNode k h) leads below
  node_leads k (x ∷ way) a b leads below = node_leads k way x b leads.1 (node_step k a x leads.0 below)

  all_step : (a b : Holding) → IsHoldingStep a b → IsBelowAll bound a → IsBelowAll bound b
  all_step a b step below = record {
    head = λ k. (node k).head;
    pins = λ k. (node k).pins;
    kept = λ x i. elim (step.kept x i) [ inl j ↦ below.kept x j | inr j ↦ below.pins j.0 j.1 x j.2 ];
  }
    where
      node : (k : ℕ) → IsBelowNode k b
      node k = node_step k a b step (record { head = below.head k; pins = below.pins k })

  all_leads : (way : List Holding) (a b : Holding) → Leads way a b → IsBelowAll bound a → IsBelowAll bound b
  all_leads [] a b leads below = subst (λ (h : Holding). IsBelowAll bound h) leads below
  all_leads (x ∷ way) a b leads below = all_leads way x b leads.1 (all_step a x leads.0 below)

  pub read_below : (last : Holding) → IsBoundRead bound last → IsBelowAll bound last
  read_below last read = record { head = λ k. (node k).head; pins = λ k. (node k).pins; kept = read.kept }
    where
      node : (k : ℕ) → IsBelowNode k last
      node k = node_leads k (read.way k) (read.at k) last (read.leads k) (record { head = read.head k; pins = read.pins k })

  -- then and later
  pub bound_below : (last now : Holding) (way : List Holding) → IsBoundRead bound last → Leads way last now → IsBelowAll bound now
  bound_below last now way read leads = all_leads way last now leads (read_below last read)

-- ---- the least of the pairs that were read

fold_below : (first : Pin) (xs : List Pin) → IsPairBelow (fold lesser_pair first xs) first
fold_below first [] = (below_itself first.base, below_itself first.sweep)
fold_below first (x ∷ xs) = pair_along _ (lesser_pair first x) first (fold_below (lesser_pair first x) xs) (least_left first.base x.base, least_left first.sweep x.sweep)

fold_each : (first : Pin) (xs : List Pin) (x : Pin) → IsIn x xs → IsPairBelow (fold lesser_pair first xs) x
fold_each first [] x i = absurd i
fold_each first (y ∷ xs) x (inl one) = subst (λ (z : Pin). IsPairBelow (fold lesser_pair (lesser_pair first y) xs) z) one (pair_along _ (lesser_pair first y) y (fold_below (lesser_pair first y) xs) (least_right first.base y.base, least_right first.sweep y.sweep))
fold_each first (y ∷ xs) x (inr i) = fold_each (lesser_pair first y) xs x i

-- it is at most what the root has published, and each pair that was read
pub bound_root : (root : Document) (nodes : List Told) (settings : Document) → IsPairBelow (bound_of root nodes settings) (root_pair root)
bound_root root nodes settings = fold_below (root_pair root) (bounding_pairs nodes settings)

pub bound_each : (root : Document) (nodes : List Told) (settings : Document) (x : Pin) → IsIn x (bounding_pairs nodes settings) → IsPairBelow (bound_of root nodes settings) x
bound_each root nodes settings x i = fold_each (root_pair root) (bounding_pairs nodes settings) x i

in_first : {X : Type 0} (k : X) (xs ys : List X) → IsIn k xs → IsIn k (xs ++ ys)
in_first k [] ys h = absurd h
in_first k (x ∷ xs) ys (inl e) = inl e
in_first k (x ∷ xs) ys (inr i) = inr (in_first k xs ys i)

in_second : {X : Type 0} (k : X) (xs ys : List X) → IsIn k ys → IsIn k (xs ++ ys)
in_second k [] ys h = h
in_second k (x ∷ xs) ys h = inr (in_second k xs ys h)

told_in : (nodes : List Told) (n : Told) (x : Pin) → IsIn n nodes → IsIn x (n.head ∷ n.pins) → IsIn x (flat_map (λ (n : Told). n.head ∷ n.pins) nodes)
told_in [] n x i j = absurd i
told_in (m ∷ nodes) n x (inl one) j = in_first x (m.head ∷ m.pins) (flat_map (λ (n : Told). n.head ∷ n.pins) nodes) (subst (λ (n : Told). IsIn x (n.head ∷ n.pins)) (sym one) j)
told_in (m ∷ nodes) n x (inr i) j = in_second x (m.head ∷ m.pins) (flat_map (λ (n : Told). n.head ∷ n.pins) nodes) (told_in nodes n x i j)

-- what each node told, and what the settings kept, bounds
pub told_bounds : (root : Document) (nodes : List Told) (settings : Document) (n : Told) (x : Pin) → IsIn n nodes → IsIn x (n.head ∷ n.pins) → IsPairBelow (bound_of root nodes settings) x
told_bounds root nodes settings n x i j = bound_each root nodes settings x (in_first x _ (kept_pairs settings) (told_in nodes n x i j))

pub kept_bounds : (root : Document) (nodes : List Told) (settings : Document) (x : Pin) → IsIn x (kept_pairs settings) → IsPairBelow (bound_of root nodes settings) x
kept_bounds root nodes settings x i = bound_each root nodes settings x (in_second x _ (kept_pairs settings) i)
