-- What a sweep asks and is answered, how far it goes, and what its cluster node learns.
use Rattle.std.proofs.Common.{◌≡◌, ◌⊎◌, inl, inr, ℕ, ◌+◌, ◌<◌, true, false, Option, Some, None, [], ◌∷◌, ◌++◌, length, is_some, refl, sym, ap, subst, ◌∙◌, arith}
use Rattle.std.specs.Prelude.{All, slice_get}
use Rattle.std.specs.List.{filter}
use Rattle.std.specs.Map.{keys_of}
use Rattle.std.specs.Option.{option_map, option_map_or, unwrap_or}
use Rattle.std.specs.Ordering.{is_lt}
use Rattle.std.specs.declared.alloc.Global.{Global}
use Rattle.std.specs.declared.cmp.Ordering.TheVariants.{Less}
use Rattle.std.proofs.lemmas.List.Elements.{recursion_from_All}
use mathlib.Core.Bool.{false≢true}
use Rattle.jr_path.specs.Ids.{id_cmp, node_path}
use Rattle.jr_path.specs.declared.path.DocId.{DocId}
use Rattle.jr_path.specs.declared.path.DocId.TheVariants as id
use Rattle.jr_path.specs.declared.path.Path.{Path}
use Rattle.jr_rev.specs.declared.revision.Revision.{Revision}
use Rattle.jr_rev.specs.declared.vector.RevVec.{RevVec}
use Rattle.jr_rev.specs.Revisions.{is_at_most}
use Rattle.jr_rev.specs.Vectors.{entry, no_entries, raised, start_of}
use Rattle.oak_doc.specs.declared.asks.Ask.TheVariants as ask
use Rattle.oak_doc.specs.declared.document.Document.{Document}
use Rattle.oak_doc.specs.Updates.{updated}
use Rattle.oak_machine.specs.declared.event.Event.TheVariants as event
use Rattle.oak_machine.specs.declared.event.StepKind.TheVariants as kind
use Rattle.oak_machine.specs.Heads.{published}
use Rattle.oak_machine.specs.History.{Begin, Past}
use Rattle.oak_machine.specs.Laws.{Says, Starts}
use Rattle.oak_machine.specs.Runs.{IsNode}
use Rattle.oak_node.specs.Heads.{learned}
use Rattle.oak_read.specs.Meaning.{documents_in}
use Rattle.oak_read.specs.Reading.{IsTable}
use Rattle.oak_store.specs.Tables.{Table, found, next_number}
use Rattle.oak_sweep.specs.Sweeping.{due, fed, node_found, node_passed, stage_of, sweep_op, target_in}
use Rattle.oak_sweep.specs.declared.stage.Stage.{Stage}
use Rattle.oak_sweep.specs.declared.stage.Stage.TheVariants as stage
use Rattle.oak_sweep.specs.declared.sweeper.Sweeper.{Sweeper}
use Rattle.oak_sweep.specs.declared.sweeper.Step.{Step}
use Rattle.oak_sweep.specs.declared.sweeper.Step.TheVariants as step
use Rattle.oak_sweep.proofs.Teaching.{teaches_one}
use Rattle.core_heads.proofs.Later.{published_is}
use Rattle.core_heads.proofs.Orders.{at_most_itself}
use Rattle.core_heads.proofs.Runs.{sound_run}
use Rattle.core_nodes.specs.Nodes.{IsOnRoot}
use Rattle.core_read.proofs.Latest.{at_most_both}
use Rattle.core_watch.proofs.Behind.{Entries, IsNext, behind, each_found, next_is}
use Rattle.core_watch.proofs.Finite.{fewer_behind}
use Rattle.core_world.specs.Kept.{IsKept}
use Rattle.core_world.specs.States.{State, memory_at, nodes_in}
use Rattle.core_world.specs.Steps.{swept_to}
use Rattle.core_world.specs.Sweeping.{swept_target}
use Rattle.core_world.proofs.Backs.{told_now}
use Rattle.core_world.proofs.Sweeps.{published_later, sweep_learned, target_is}
use Rattle.core_world.proofs.Whole.{layers_of}
use Rattle.oak_step.specs.Parts.{after_ask, replied, sweep_event, swept_on}
use Rattle.oak_world.specs.Left.{documents_behind, passes_left}
use Rattle.oak_world.proofs.Observing.{behind_first}
use Rattle.oak_world.proofs.Reading.{ids_known}

-- a sweep of these fields
abbrev sweeper : Global → ℕ → Revision → Step → Sweeper
sweeper a k r y = record { alloc = a; cluster = k; target = r; step = y }

-- a document is looked for
abbrev pub IsLookingFor : Stage → Type 0
IsLookingFor stage.Root = Unit {0}
IsLookingFor stage.Document = Unit {0}
IsLookingFor _ = ⊥

-- what is so of both stages is so of the one that it is
pub either_stage : (z : Stage) → (z ≡ stage.Document) ⊎ (z ≡ stage.Publish) → (R : Stage → Type 0) → R stage.Document → R stage.Publish → R z
either_stage z (inl is) R d p = subst R (sym is) d
either_stage z (inr is) R d p = subst R (sym is) p

-- ---- what it asks

-- a sweep that passes over a document, or finds none
passed : (x : Sweeper) (o : Option Path) → ((stage_of (node_passed x o) ≡ stage.Document) ⊎ (stage_of (node_passed x o) ≡ stage.Publish)) × ((node_passed x o).target ≡ x.target)
passed x None = (inr refl, refl)
passed x (Some p) = (inl refl, refl)

-- the update that is due of a sweep that tells the root
pub root_told : (x : Sweeper) → stage_of x ≡ stage.Publish → due x ≡ ask.Update (sweep_op x.target)
root_told x = by x.alloc x.cluster x.target x.step
  where
    by : (a : Global) (k : ℕ) (r : Revision) (y : Step) → stage_of (sweeper a k r y) ≡ stage.Publish → due (sweeper a k r y) ≡ ask.Update (sweep_op r)
    by a k r step.Publish at = refl
    by a k r step.Root at = cc
    by a k r step.First at = cc
    by a k r (step.Behind p) at = cc
    by a k r step.Learn at = cc
    by a k r step.Done at = cc

module _ (t : Table) where
  -- the document that a sweep finds behind that of a path, and the first of all
  abbrev found_behind : Path → Option Document
  found_behind p = option_map (λ e. e.1) (slice_get (behind (id.Node p) t.documents) 0)

  abbrev found_first : Option Document
  found_first = option_map (λ e. e.1) (slice_get t.documents 0)

  -- a look leaves the documents, and is no more than a step
  pub looks_stay : (s m : ℕ) (x : Sweeper) → IsLookingFor (stage_of x) → (after_ask t (due x) ≡ t) × (sweep_event s m x (due x) ≡ event.Went s kind.Sweep)
  looks_stay s m x = by x.alloc x.cluster x.target x.step
    where
      by : (a : Global) (k : ℕ) (r : Revision) (y : Step) → IsLookingFor (stage_of (sweeper a k r y)) → (after_ask t (due (sweeper a k r y)) ≡ t) × (sweep_event s m (sweeper a k r y) (due (sweeper a k r y)) ≡ event.Went s kind.Sweep)
      by a k r step.Root h = (refl, refl)
      by a k r step.First h = (refl, refl)
      by a k r (step.Behind p) h = (refl, refl)
      by a k r step.Publish h = absurd h
      by a k r step.Learn h = absurd h
      by a k r step.Done h = absurd h

  -- the root is read: it tells how far the sweep goes
  pub root_read : (x : Sweeper) → stage_of x ≡ stage.Root → (stage_of (swept_on t x) ≡ stage.Document) × ((swept_on t x).target ≡ target_in x.cluster (found t (id.Node [])))
  root_read x = by x.alloc x.cluster x.target x.step
    where
      by : (a : Global) (k : ℕ) (r : Revision) (y : Step) → stage_of (sweeper a k r y) ≡ stage.Root → (stage_of (swept_on t (sweeper a k r y)) ≡ stage.Document) × ((swept_on t (sweeper a k r y)).target ≡ target_in k (found t (id.Node [])))
      by a k r step.Root at = (refl, refl)
      by a k r step.First at = cc
      by a k r (step.Behind p) at = cc
      by a k r step.Publish at = cc
      by a k r step.Learn at = cc
      by a k r step.Done at = cc

  -- a document is passed, and further ones or the root are due
  pub document_passed : (x : Sweeper) → stage_of x ≡ stage.Document → ((stage_of (swept_on t x) ≡ stage.Document) ⊎ (stage_of (swept_on t x) ≡ stage.Publish)) × ((swept_on t x).target ≡ x.target)
  document_passed x = by x.alloc x.cluster x.target x.step
    where
      by : (a : Global) (k : ℕ) (r : Revision) (y : Step) → stage_of (sweeper a k r y) ≡ stage.Document → ((stage_of (swept_on t (sweeper a k r y)) ≡ stage.Document) ⊎ (stage_of (swept_on t (sweeper a k r y)) ≡ stage.Publish)) × ((swept_on t (sweeper a k r y)).target ≡ r)
      by a k r step.First at = passed (sweeper a k r step.First) (node_found found_first)
      by a k r (step.Behind p) at = passed (sweeper a k r (step.Behind p)) (node_found (found_behind p))
      by a k r step.Root at = cc
      by a k r step.Publish at = cc
      by a k r step.Learn at = cc
      by a k r step.Done at = cc

  -- the root is told, and the memory is to learn
  pub sweep_told : (x : Sweeper) → stage_of x ≡ stage.Publish → (stage_of (swept_on t x) ≡ stage.Learn) × ((swept_on t x).target ≡ x.target)
  sweep_told x = by x.alloc x.cluster x.target x.step
    where
      by : (a : Global) (k : ℕ) (r : Revision) (y : Step) → stage_of (sweeper a k r y) ≡ stage.Publish → (stage_of (swept_on t (sweeper a k r y)) ≡ stage.Learn) × ((swept_on t (sweeper a k r y)).target ≡ r)
      by a k r step.Publish at = told (found t (id.Node []))
        where
          told : (o : Option Document) → (stage_of (fed (sweeper a k r step.Publish) (replied o (updated o (sweep_op r) (next_number t)))) ≡ stage.Learn) × ((fed (sweeper a k r step.Publish) (replied o (updated o (sweep_op r) (next_number t)))).target ≡ r)
          told None = (refl, refl)
          told (Some d) = (refl, refl)
      by a k r step.Root at = cc
      by a k r step.First at = cc
      by a k r (step.Behind p) at = cc
      by a k r step.Learn at = cc
      by a k r step.Done at = cc

-- ---- how many steps are left

-- the id of a node's document
path_is : (x : DocId) (p : Path) → node_path x ≡ Some p → x ≡ id.Node p
path_is (id.Node q) p h = let k : Some q ≡ Some p = h in cc
path_is (id.Prev n q) p h = absurd (false≢true (ap is_some h))
path_is id.Settings p h = absurd (false≢true (ap is_some h))

module _ (t : Table) (table : IsTable t.documents) where
  -- behind the first of all there are fewer than all
  first_fewer : (q : Path) → node_found (found_first t) ≡ Some q → documents_behind t q < length t.documents
  first_fewer q = by t.documents refl
    where
      by : (es : Entries) → t.documents ≡ es → node_found (option_map (λ e. e.1) (slice_get es 0)) ≡ Some q → documents_behind t q < length t.documents
      by [] none h = absurd (false≢true (ap is_some h))
      by (e ∷ more) is h =
          let id_is : e.1.id ≡ e.0 = (recursion_from_All (λ e. e.1.id ≡ e.0) (e ∷ more) (subst (λ (es : Entries). All (λ e. e.1.id ≡ e.0) es) is table.named)).0 in
          subst (λ (es : Entries). length (filter (λ x. is_lt (id_cmp (id.Node q) x)) (keys_of es)) < length es) (sym is) (behind_first e more q (sym id_is ∙ path_is e.1.id q h))

  -- behind the next one there are fewer
  next_fewer : (p q : Path) → node_found (found_behind t p) ≡ Some q → documents_behind t q < documents_behind t p
  next_fewer p q = by (behind (id.Node p) t.documents) refl
    where
      by : (es : Entries) → behind (id.Node p) t.documents ≡ es → node_found (option_map (λ e. e.1) (slice_get es 0)) ≡ Some q → documents_behind t q < documents_behind t p
      by [] none h = absurd (false≢true (ap is_some h))
      by (e ∷ more) is h =
          let next : IsNext (id.Node p) t.documents e = next_is (id.Node p) t.documents e more table.ordered is in
          let id_is : e.1.id ≡ e.0 = each_found (λ x d. d.id ≡ x) t.documents (recursion_from_All (λ e. e.1.id ≡ e.0) t.documents table.named) e.0 e.1 next.found in
          let at : e.0 ≡ id.Node q = sym id_is ∙ path_is e.1.id q h in
          let less : id_cmp (id.Node p) (id.Node q) ≡ Less = subst (λ (x : DocId). id_cmp (id.Node p) x ≡ Less) at next.above in
          let there : is_some (documents_in t.documents (id.Node q)) ≡ true = subst (λ (x : DocId). is_some (documents_in t.documents x) ≡ true) at (ap is_some next.found) in
          fewer_behind (id.Node p) (id.Node q) less (keys_of t.documents) (ids_known t.documents (id.Node q) there)

  -- a sweep that finds a document, with fewer behind it, or none
  lowered : (x : Sweeper) (n : ℕ) (o : Option Path) → ((q : Path) → o ≡ Some q → documents_behind t q < n) → passes_left t (node_passed x o) < n + 3
  lowered x n None few = let z : passes_left t (node_passed x None) ≡ 2 = refl in omega (arith, z)
  lowered x n (Some q) few =
      let z : passes_left t (node_passed x (Some q)) ≡ documents_behind t q + 3 = refl in
      let less = few q refl in
      omega (arith, z, less)

  -- a look lowers the number
  pub look_lowers : (x : Sweeper) → IsLookingFor (stage_of x) → passes_left t (swept_on t x) < passes_left t x
  look_lowers x = by x.alloc x.cluster x.target x.step
    where
      by : (a : Global) (k : ℕ) (r : Revision) (y : Step) → IsLookingFor (stage_of (sweeper a k r y)) → passes_left t (swept_on t (sweeper a k r y)) < passes_left t (sweeper a k r y)
      by a k r step.Root h =
          let z : passes_left t (swept_on t (sweeper a k r step.Root)) ≡ length t.documents + 3 = refl in
          let was : passes_left t (sweeper a k r step.Root) ≡ length t.documents + 4 = refl in
          omega (arith, z, was)
      by a k r step.First h = lowered (sweeper a k r step.First) (length t.documents) (node_found (found_first t)) first_fewer
      by a k r (step.Behind p) h = lowered (sweeper a k r (step.Behind p)) (documents_behind t p) (node_found (found_behind t p)) (next_fewer p)
      by a k r step.Publish h = absurd h
      by a k r step.Learn h = absurd h
      by a k r step.Done h = absurd h

-- two steps are left of a sweep that tells the root, and one of one whose memory is to learn
pub publish_left : (t : Table) (x : Sweeper) → stage_of x ≡ stage.Publish → passes_left t x ≡ 2
publish_left t x = by x.alloc x.cluster x.target x.step
  where
    by : (a : Global) (k : ℕ) (r : Revision) (y : Step) → stage_of (sweeper a k r y) ≡ stage.Publish → passes_left t (sweeper a k r y) ≡ 2
    by a k r step.Publish at = refl
    by a k r step.Root at = cc
    by a k r step.First at = cc
    by a k r (step.Behind p) at = cc
    by a k r step.Learn at = cc
    by a k r step.Done at = cc

pub learn_left_one : (t : Table) (x : Sweeper) → stage_of x ≡ stage.Learn → passes_left t x ≡ 1
learn_left_one t x = by x.alloc x.cluster x.target x.step
  where
    by : (a : Global) (k : ℕ) (r : Revision) (y : Step) → stage_of (sweeper a k r y) ≡ stage.Learn → passes_left t (sweeper a k r y) ≡ 1
    by a k r step.Learn at = refl
    by a k r step.Root at = cc
    by a k r step.First at = cc
    by a k r (step.Behind p) at = cc
    by a k r step.Publish at = cc
    by a k r step.Done at = cc

-- some step is left
pub some_passes_left : (t : Table) (x : Sweeper) → 0 < passes_left t x
some_passes_left t x = by x.alloc x.cluster x.target x.step
  where
    by : (a : Global) (k : ℕ) (r : Revision) (y : Step) → 0 < passes_left t (sweeper a k r y)
    by a k r step.Root = omega arith
    by a k r step.First = omega arith
    by a k r (step.Behind p) = omega arith
    by a k r step.Publish = omega arith
    by a k r step.Learn = omega arith
    by a k r step.Done = omega arith

-- ---- how far it goes

-- what is published once is published
pub published_lasts : (begin : Begin) (own before : Past) (k : ℕ) (r : Revision) → is_at_most r (published begin before k) ≡ true → is_at_most r (published begin (own ++ before) k) ≡ true
published_lasts begin [] before k r low = low
published_lasts begin (e ∷ own) before k r low = published_later begin e (own ++ before) k r (published_lasts begin own before k r low)

module _ (starts : Starts) (says : Says) (w : State) (kept : IsKept starts says w) (k : ℕ) (node : IsNode w.clusters k) where
  -- its memory learns of a sweep that alone
  pub learns_alone : (r : Revision) → learned (memory_at w.memories k) no_entries (raised no_entries r) ≡ swept_to (memory_at w.memories k) r
  learns_alone r =
      sweep_learned starts says w (layers_of starts says w kept) k node (raised no_entries r)
      ∙ ap (λ (v : RevVec). record (memory_at w.memories k) { sweep = v }) (teaches_one (memory_at w.memories k).sweep r (kept.sessions.memories.memory k node).sweep.vector)

  abbrev root : Document
  root = kept.root.document

  abbrev public : Revision
  public = published w.begin w.past k

  target_of_root : target_in k (nodes_in w.table []) ≡ swept_target root k
  target_of_root = ap (target_in k) kept.root.there

  its : ((swept_target root k).cluster ≡ k) × (is_at_most (swept_target root k) public ≡ true)
  its = target_is starts says w (layers_of starts says w kept) root kept.root.there k

  -- what the root tells to be published is that
  public_seen : is_at_most public (swept_target root k) ≡ true
  public_seen = by (entry root.last_rev k) refl (subst (λ (n : ℕ). option_map_or (is_at_most public) (entry root.last_rev n) false ≡ true) of_node ((told.public public).1 (subst (λ (n : ℕ). IsNode w.clusters n) (sym of_node) node, subst (λ (n : ℕ). is_at_most public (published w.begin w.past n) ≡ true) (sym of_node) (at_most_itself public))))
    where
      told : IsOnRoot w.begin w.clusters w.past root.last_rev root.sweep_rev
      told = told_now w.clusters w.begin w.past w.table kept.root root kept.root.there

      of_node : public.cluster ≡ k
      of_node = (published_is w.clusters w.sessions kept.sessions.nodes w.begin w.past (sound_run w.clusters w.sessions kept.sessions.nodes w.begin starts says w.past kept.sessions.run) k).0

      by : (o : Option Revision) → entry root.last_rev k ≡ o → option_map_or (is_at_most public) o false ≡ true → is_at_most public (unwrap_or (entry root.last_rev k) (start_of k)) ≡ true
      by None is h = absurd (false≢true h)
      by (Some e) is h = ap (λ (o : Option Revision). is_at_most public (unwrap_or o (start_of k))) is ∙ h

  -- a sweep goes up to what is published
  pub target_published : target_in k (nodes_in w.table []) ≡ published w.begin w.past k
  target_published = target_of_root ∙ at_most_both (swept_target root k) public its.1 public_seen

  -- which is the node's own
  pub target_own : ((target_in k (nodes_in w.table [])).cluster ≡ k) × (is_at_most (target_in k (nodes_in w.table [])) (published w.begin w.past k) ≡ true)
  target_own = subst (λ (r : Revision). (r.cluster ≡ k) × (is_at_most r (published w.begin w.past k) ≡ true)) (sym target_of_root) its
