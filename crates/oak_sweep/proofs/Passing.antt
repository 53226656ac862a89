-- A sweep of documents at rest passes every node's document.
use Rattle.std.proofs.Common.{◌≡◌, ◌≢◌, ℕ, suc, Bool, true, false, cond, List, [], ◌∷◌, ◌++◌, Option, Some, None, refl, sym, ap, subst, ◌∙◌, append_assoc}
use Rattle.std.specs.Prelude.{◌&&◌, not, slice_get}
use Rattle.std.specs.Option.{option_map, option_map_or}
use Rattle.std.specs.List.{AllByRecursion, cons_option}
use Rattle.std.specs.List.Sorted.{IsStrictlySortedBy}
use Rattle.std.specs.Map.{keys_of}
use Rattle.std.specs.Ordering.{is_lt, ordering_reverse}
use Rattle.std.specs.declared.alloc.Global.{Global}
use Rattle.std.specs.declared.cmp.Ordering.{Ordering}
use Rattle.std.specs.declared.cmp.Ordering.TheVariants.{Less, Equal, Greater}
use Rattle.std.specs.declared.ops.Bound.TheVariants.{Excluded, Unbounded}
use Rattle.std.specs.BTreeMap.Range.{entries_between, range_contains}
use Rattle.std.proofs.lemmas.Cmp.{tied_itself}
use Rattle.std.proofs.lemmas.List.Elements.{recursion_from_All}
use Rattle.jr_path.specs.Ids.{id_cmp, node_path}
use Rattle.jr_path.specs.declared.path.Path.{Path}
use Rattle.jr_path.specs.declared.path.DocId.{DocId}
use Rattle.jr_path.specs.declared.path.DocId.TheVariants as id
use Rattle.jr_path.proofs.Orders.{id_total}
use Rattle.jr_rev.specs.declared.revision.Revision.{Revision}
use Rattle.oak_doc.specs.declared.document.Document.{Document}
use Rattle.oak_doc.specs.declared.asks.Ask.{Ask}
use Rattle.oak_doc.specs.declared.asks.Ask.TheVariants as ask
use Rattle.oak_doc.specs.declared.asks.Reply.TheVariants as reply
use Rattle.oak_read.specs.Meaning.{documents_in}
use Rattle.oak_read.specs.Reading.{IsTable}
use Rattle.oak_sweep.specs.Sweeping.{begun, due, fed, node_found, node_passed, sweep_op, target_in}
use Rattle.oak_sweep.specs.Ending.{SweepsAll, sweeper_after, sweeper_answer, asked_first, asks_behind, nodes_of}
use Rattle.oak_sweep.specs.declared.sweeper.Sweeper.{Sweeper}
use Rattle.oak_sweep.specs.declared.sweeper.Step.{Step}
use Rattle.oak_sweep.specs.declared.sweeper.Step.TheVariants as step

abbrev pub Entries : Type 0
Entries = List (DocId × Document)

-- ---- what stands behind an id

abbrev pub behind : DocId → Entries → Entries
behind x es = entries_between id_cmp (Excluded x) Unbounded es

abbrev pub passes : DocId → DocId → Bool
passes x y = range_contains id_cmp (Excluded x) Unbounded y

pub passes_if : (o : Ordering) → o ≡ Less → (is_lt o && not false) ≡ true
passes_if Less e = refl
passes_if Equal e = cc
passes_if Greater e = cc

passes_not : (o : Ordering) → o ≢ Less → (is_lt o && not false) ≡ false
passes_not Less e = absurd (e refl)
passes_not Equal e = refl
passes_not Greater e = refl

all_pass : (x : DocId) (es : Entries) → AllByRecursion (λ y. id_cmp x y ≡ Less) (keys_of es) → behind x es ≡ es
all_pass x [] h = refl
all_pass x (e ∷ es) h = ap (λ b. cond b (e ∷ behind x es) (behind x es)) (passes_if (id_cmp x e.0) h.0) ∙ ap (λ (rest : Entries). e ∷ rest) (all_pass x es h.1)

below_member : (x : DocId) (front more : Entries) (e : DocId × Document) → AllByRecursion (λ y. id_cmp x y ≡ Less) (keys_of (front ++ e ∷ more)) → id_cmp x e.0 ≡ Less
below_member x [] more e h = h.0
below_member x (f ∷ front) more e h = below_member x front more e h.1

-- behind an entry of documents in store order stand the others behind it
behind_front : (front more : Entries) (e : DocId × Document) → IsStrictlySortedBy id_cmp (keys_of (front ++ e ∷ more)) → behind e.0 (front ++ e ∷ more) ≡ more
unfolding IsStrictlySortedBy
behind_front [] more e h =
    ap (λ b. cond b (e ∷ behind e.0 more) (behind e.0 more)) (passes_not (id_cmp e.0 e.0) (λ l. let k : Less ≡ Equal = sym l ∙ tied_itself id_total e.0 in cc))
    ∙ all_pass e.0 more h.0
behind_front (f ∷ front) more e h =
    ap (λ b. cond b (f ∷ behind e.0 (front ++ e ∷ more)) (behind e.0 (front ++ e ∷ more)))
    (passes_not (id_cmp e.0 f.0) (λ l. let k : Less ≡ Greater = sym l ∙ (id_total.antisymm e.0 f.0 ∙ ap ordering_reverse (below_member f.0 front more e h.0)) in cc))
    ∙ behind_front front more e h.1

-- ---- no node stands behind another document

none_after : (x : DocId) → node_path x ≡ None → (es : Entries) → AllByRecursion (λ y. id_cmp x y ≡ Less) (keys_of es) → nodes_of es ≡ []
none_after x other [] h = refl
none_after x other (e ∷ es) h = ap (λ o. cons_option o (nodes_of es)) (by x e.0 other h.0) ∙ none_after x other es h.1
  where
    by : (x y : DocId) → node_path x ≡ None → id_cmp x y ≡ Less → node_path y ≡ None
    by (id.Node p) y e less = cc
    by (id.Prev n p) (id.Node q) e less = cc
    by (id.Prev n p) (id.Prev m q) e less = refl
    by (id.Prev n p) id.Settings e less = refl
    by id.Settings (id.Node q) e less = cc
    by id.Settings (id.Prev m q) e less = refl
    by id.Settings id.Settings e less = refl

-- ---- the sweep

module _ (table : Entries) (is : IsTable table) (a : Global) (cluster : ℕ) where
  abbrev target : Revision
  target = target_in cluster (documents_in table (id.Node []))

  abbrev at : Step → Sweeper
  at s = record { alloc = a; cluster = cluster; target = target; step = s }

  -- it asks for these, and ends
  abbrev Walks : Sweeper → List Ask → Type 0
  Walks s asks = (n : ℕ) × (asked_first table n s ≡ asks) × (due (sweeper_after table n s) ≡ ask.Done) × ((sweeper_after table n s).target ≡ target)

  one_more : (s e : Sweeper) (asks : List Ask) → fed s (sweeper_answer table (due s)) ≡ e → Walks e asks → Walks s (due s ∷ asks)
  one_more s e asks is w =
      let v : Walks (fed s (sweeper_answer table (due s))) asks = subst (λ e. Walks e asks) (sym is) w in
      (suc v.0, ap (λ (rest : List Ask). due s ∷ rest) v.1, v.2, v.3)

  tells : fed (at step.Publish) (sweeper_answer table (ask.Update (sweep_op target))) ≡ at step.Learn
  tells = by (documents_in table (id.Node []))
    where
      by : (o : Option Document) → fed (at step.Publish) (option_map_or (λ d. reply.Updated (Some d)) o reply.Absent) ≡ at step.Learn
      by None = refl
      by (Some d) = refl

  ends : Walks (at step.Publish) (asks_behind target [])
  ends = one_more (at step.Publish) (at step.Learn) _ tells (one_more (at step.Learn) (at step.Done) [] refl (0, refl, refl, refl))

  abbrev first_found : Entries → Option Document
  first_found es = option_map (λ e. e.1) (slice_get es 0)

  named_in : (front more : Entries) (e : DocId × Document) → table ≡ front ++ e ∷ more → e.1.id ≡ e.0
  named_in front more e split = by front (subst (AllByRecursion (λ e. e.1.id ≡ e.0)) split (recursion_from_All (λ e. e.1.id ≡ e.0) table is.named))
    where
      by : (front : Entries) → AllByRecursion (λ e. e.1.id ≡ e.0) (front ++ e ∷ more) → e.1.id ≡ e.0
      by [] h = h.0
      by (f ∷ front) h = by front h.1

  sorted_from : (front more : Entries) → table ≡ front ++ more → IsStrictlySortedBy id_cmp (keys_of more)
  unfolding IsStrictlySortedBy
  sorted_from front more split = by front (subst (λ (es : Entries). IsStrictlySortedBy id_cmp (keys_of es)) split is.ordered)
    where
      by : (front : Entries) → IsStrictlySortedBy id_cmp (keys_of (front ++ more)) → IsStrictlySortedBy id_cmp (keys_of more)
      by [] h = h
      by (f ∷ front) h = by front h.1

  step_behind : (q : Path) (d : Document) (front more : Entries) → table ≡ front ++ (id.Node q, d) ∷ more → fed (at (step.Behind q)) (sweeper_answer table (ask.NextAfter (Some (id.Node q)))) ≡ node_passed (at (step.Behind q)) (node_found (first_found more))
  step_behind q d front more split = ap (λ (es : Entries). node_passed (at (step.Behind q)) (node_found (first_found es))) (subst (λ (es : Entries). behind (id.Node q) es ≡ more) (sym split) (behind_front front more (id.Node q, d) (subst (λ (es : Entries). IsStrictlySortedBy id_cmp (keys_of es)) split is.ordered)))

  -- behind the last node's document
  no_more : (x : DocId) (d : Document) (more front : Entries) (s : Step) → node_path x ≡ None → table ≡ front ++ (x, d) ∷ more → fed (at s) (sweeper_answer table (due (at s))) ≡ node_passed (at s) (node_found (Some d)) → Walks (at s) (due (at s) ∷ asks_behind target (nodes_of more))
  unfolding IsStrictlySortedBy
  no_more x d more front s other split fed_is =
      subst (λ ps. Walks (at s) (due (at s) ∷ asks_behind target ps)) (sym (none_after x other more (rest_above (sorted_from front ((x, d) ∷ more) split))))
      (one_more (at s) (at step.Publish) (asks_behind target []) (fed_is ∙ ap (node_passed (at s)) (ap node_path (named_in front more (x, d) split) ∙ other)) ends)
    where
      rest_above : IsStrictlySortedBy id_cmp (keys_of ((x, d) ∷ more)) → AllByRecursion (λ y. id_cmp x y ≡ Less) (keys_of more)
      rest_above h = h.0

  -- from a step at which these documents are left
  from : (more front : Entries) (s : Step) → table ≡ front ++ more → fed (at s) (sweeper_answer table (due (at s))) ≡ node_passed (at s) (node_found (first_found more)) → Walks (at s) (due (at s) ∷ asks_behind target (nodes_of more))
  from [] front s split fed_is = one_more (at s) (at step.Publish) (asks_behind target []) fed_is ends
  from ((id.Node q, d) ∷ more) front s split fed_is =
      one_more (at s) (at (step.Behind q)) _ (fed_is ∙ ap (λ x. node_passed (at s) (node_path x)) (named_in front more (id.Node q, d) split))
      (from more (front ++ (id.Node q, d) ∷ []) (step.Behind q) (split ∙ sym (append_assoc front ((id.Node q, d) ∷ []) more)) (step_behind q d front more split))
  from ((id.Prev n q, d) ∷ more) front s split fed_is = no_more (id.Prev n q) d more front s refl split fed_is
  from ((id.Settings, d) ∷ more) front s split fed_is = no_more id.Settings d more front s refl split fed_is

  walks : Walks (begun a cluster) (ask.Find (id.Node []) ∷ ask.NextAfter None ∷ asks_behind target (nodes_of table))
  walks = one_more (begun a cluster) (at step.First) _ refl (from table [] step.First refl refl)

pub sweeps_all : SweepsAll
sweeps_all table a cluster is = walks table is a cluster
