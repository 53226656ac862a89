-- What a sweep reads of the root it may tell at any later moment.
use Rattle.std.proofs.Common.{arith, ◌≡◌, ◌+◌, ◌-◌, ℕ, ◌≤◌, zero, suc, Bool, true, false, cond, inr, Option, Some, None, [], ◌∷◌, is_some, length, refl, sym, ap, ◌∙◌, subst}
use Rattle.std.specs.Prelude.{◌==◌, slice_get, slice_set}
use Rattle.std.specs.List.{AllByRecursion, fold}
use Rattle.std.specs.Option.{option_map_or, unwrap_or}
use mathlib.Core.Bool.{false≢true}
use Rattle.jr_rev.specs.declared.revision.Revision.{Revision}
use Rattle.jr_rev.specs.Revisions.{is_at_most}
use Rattle.jr_rev.specs.declared.vector.RevVec.{RevVec}
use Rattle.jr_rev.specs.Vectors.{Entries, entry, greater_entry, greatest, no_entries, sees, stands_from, start_of, with_entry}
use Rattle.oak_doc.specs.declared.document.Document.{Document}
use Rattle.oak_machine.specs.declared.event.Event.{Event}
use Rattle.oak_machine.specs.declared.event.Event.TheVariants as event
use Rattle.oak_machine.specs.History.{Past, Begin, begin_of}
use Rattle.oak_machine.specs.Heads.{greater_of, last_in, local, outs_of, published}
use Rattle.oak_machine.specs.Laws.{Says, Starts}
use Rattle.oak_machine.specs.Runs.{IsNode}
use Rattle.oak_node.specs.Heads.{learned}
use Rattle.oak_node.specs.Memory.{IsMemory, NodeState, own_entry}
use Rattle.core_heads.proofs.Below.{stands_at}
use Rattle.core_heads.proofs.Entries.{entry_at, flat, set_length}
use Rattle.core_heads.proofs.Later.{published_is}
use Rattle.core_heads.proofs.Orders.{at_most_itself, fold_each, fold_first, fold_has}
use Rattle.core_heads.proofs.Runs.{sound_run}
use Rattle.core_nodes.specs.Nodes.{IsMemoryOf, IsOnRoot}
use Rattle.core_read.proofs.Latest.{at_most_trans}
use Rattle.core_world.specs.Kept.{AreLayersKept}
use Rattle.core_world.specs.States.{State, memory_at, nodes_in}
use Rattle.core_world.specs.Sweeping.{swept_target}
use Rattle.core_world.proofs.Backs.{told_now}
use Rattle.std.proofs.lemmas.Bool.Decides.{nat_tests}

-- the start of a node is the least of it
start_least : (r : Revision) → is_at_most (start_of r.cluster) r ≡ true
start_least r = grind (arith, nat_tests)

-- an entry is of the cluster node at which it stands
entry_of_node : (v : Entries) (k : ℕ) (e : Revision) → stands_from 1 v ≡ true → entry v k ≡ Some e → e.cluster ≡ k
entry_of_node v zero e stands is = absurd (false≢true (ap is_some is))
entry_of_node v (suc k) e stands is = let of : e.cluster ≡ 1 + k = stands_at v 1 k e stands (flat (slice_get v k) e (sym (entry_at v k) ∙ is)) in omega arith

entry_is_seen : (v : Entries) (k : ℕ) (e : Revision) → stands_from 1 v ≡ true → entry v k ≡ Some e → sees v e ≡ true
entry_is_seen v k e stands is =
    subst (λ (n : ℕ). option_map_or (is_at_most e) (entry v n) false ≡ true) (sym (entry_of_node v k e stands is)) (ap (λ (o : Option Revision). option_map_or (is_at_most e) o false) is ∙ at_most_itself e)

-- ---- published

-- what is published rises
published_rises : (begin : Begin) (e : Event) (past : Past) (k : ℕ) → is_at_most (published begin past k) (published begin (e ∷ past) k) ≡ true
published_rises begin (event.Out m r) past k = by (m == k)
  where
    by : (b : Bool) → is_at_most (fold greater_of (begin_of begin k) (outs_of past k)) (fold greater_of (begin_of begin k) (cond b (r ∷ outs_of past k) (outs_of past k))) ≡ true
    by true = fold_has (λ x. is_at_most x (fold greater_of (begin_of begin k) (r ∷ outs_of past k)) ≡ true) (begin_of begin k) (outs_of past k) (fold_first (begin_of begin k) (r ∷ outs_of past k)) (λ q i. fold_each (begin_of begin k) (r ∷ outs_of past k) q (inr i))
    by false = at_most_itself (fold greater_of (begin_of begin k) (outs_of past k))
published_rises begin e past k = at_most_itself (published begin past k)

pub published_later : (begin : Begin) (e : Event) (past : Past) (k : ℕ) (r : Revision) → is_at_most r (published begin past k) ≡ true → is_at_most r (published begin (e ∷ past) k) ≡ true
published_later begin e past k r low = at_most_trans r (published begin past k) (published begin (e ∷ past) k) low (published_rises begin e past k)

-- ---- the root

target_at : (clusters : ℕ) (begin : Begin) (past : Past) (root : Document) (k : ℕ) → ((published begin past k).cluster ≡ k) → IsOnRoot begin clusters past root.last_rev root.sweep_rev → (o : Option Revision) → entry root.last_rev k ≡ o → ((unwrap_or o (start_of k)).cluster ≡ k) × (is_at_most (unwrap_or o (start_of k)) (published begin past k) ≡ true)
target_at clusters begin past root k its on None is = (refl, subst (λ (j : ℕ). is_at_most (start_of j) (published begin past k) ≡ true) its (start_least (published begin past k)))
target_at clusters begin past root k its on (Some e) is =
    let of = entry_of_node root.last_rev k e on.vector.stands is in
    (of, subst (λ (j : ℕ). is_at_most e (published begin past j) ≡ true) of ((on.public e).0 (entry_is_seen root.last_rev k e on.vector.stands is)).1)

module _ (starts : Starts) (says : Says) (w : State) (kept : AreLayersKept starts says w) where
  -- what is read is of the cluster node, and published
  pub target_is : (root : Document) → nodes_in w.table [] ≡ Some root → (k : ℕ) → ((swept_target root k).cluster ≡ k) × (is_at_most (swept_target root k) (published w.begin w.past k) ≡ true)
  target_is root is k = target_at w.clusters w.begin w.past root k (published_is w.clusters w.sessions kept.sessions.nodes w.begin w.past (sound_run w.clusters w.sessions kept.sessions.nodes w.begin starts says w.past kept.sessions.run) k).0 (told_now w.clusters w.begin w.past w.table kept.root root is) (entry root.last_rev k) refl

  -- and what is published is at most the local revision
  pub published_local : (k : ℕ) (r : Revision) → is_at_most r (published w.begin w.past k) ≡ true → is_at_most r (local w.begin w.past k) ≡ true
  published_local k r low = at_most_trans r (published w.begin w.past k) (local w.begin w.past k) low
      (published_is w.clusters w.sessions kept.sessions.nodes w.begin w.past (sound_run w.clusters w.sessions kept.sessions.nodes w.begin starts says w.past kept.sessions.run) k).1

-- ---- the memory

abbrev IsNone : Option Revision → Type 0
IsNone e = e ≡ None

greater_none : (e : Option Revision) → greater_entry e None ≡ e
greater_none None = refl
greater_none (Some r) = refl

-- with no entries nothing is raised
greatest_none : (v w : Entries) → length v ≡ length w → AllByRecursion IsNone w → greatest v w ≡ v
greatest_none [] [] same none = refl
greatest_none [] (f ∷ w) same none = absurd (omega (arith, same))
greatest_none (e ∷ v) [] same none = refl
greatest_none (e ∷ v) (f ∷ w) same none =
    ap (λ (g : Option Revision). greater_entry e g ∷ greatest v w) none.0
    ∙ (ap (λ (g : Option Revision). g ∷ greatest v w) (greater_none e) ∙ ap (λ (u : Entries). e ∷ u) (greatest_none v w (omega (arith, same)) none.1))

kept_entry : (v : Entries) (i : ℕ) (x : Option Revision) → slice_get v i ≡ Some x → slice_set v i x ≡ v
kept_entry [] i x h = absurd (false≢true (ap is_some h))
kept_entry (y ∷ ys) zero x h = ap (λ (o : Option (Option Revision)). unwrap_or o x ∷ ys) (sym h)
kept_entry (y ∷ ys) (suc i) x h = ap (λ (zs : Entries). y ∷ zs) (kept_entry ys i x h)

own_stays : (v : Entries) (r : Revision) (k : ℕ) → 1 ≤ k → r.cluster ≡ k → entry v k ≡ Some r → with_entry v r ≡ v
own_stays v r zero low of is = absurd (omega (arith, low))
own_stays v r (suc i) low of is =
    let at : r.cluster - 1 ≡ i = omega (arith, of) in
    ap (λ (n : ℕ). slice_set v n (Some r)) at ∙ kept_entry v i (Some r) (flat (slice_get v i) r (sym (entry_at v i) ∙ is))

learned_alone : (m : NodeState) (v : Entries) → length m.head ≡ 8 → IsMemory m → learned m no_entries v ≡ record m { sweep = greatest m.sweep v }
learned_alone m v eight is =
    ap (λ (h : Entries). record m { head = with_entry h (own_entry m); sweep = greatest m.sweep v }) (greatest_none m.head no_entries eight (refl, (refl, (refl, (refl, (refl, (refl, (refl, (refl, tt)))))))))
    ∙ ap (λ (h : Entries). record m { head = h; sweep = greatest m.sweep v }) (own_stays m.head (own_entry m) m.cluster is.low is.own_node is.own)

module _ (starts : Starts) (says : Says) (w : State) (kept : AreLayersKept starts says w) where
  -- what a memory learns of a sweep alone leaves its head
  pub sweep_learned : (k : ℕ) → IsNode w.clusters k → (v : RevVec) → learned (memory_at w.memories k) no_entries v ≡ record (memory_at w.memories k) { sweep = greatest (memory_at w.memories k).sweep v }
  sweep_learned k node v = learned_alone (memory_at w.memories k) v eight is.memory
    where
      is : IsMemoryOf w.begin w.clusters w.past k (memory_at w.memories k)
      is = kept.sessions.memories.memory k node

      eight : length (memory_at w.memories k).head ≡ 8
      eight = ap length is.head ∙ (set_length (last_in w.clusters w.begin w.past k) ((local w.begin w.past k).cluster - 1) (Some (local w.begin w.past k)) ∙ ((sound_run w.clusters w.sessions kept.sessions.nodes w.begin starts says w.past kept.sessions.run).ins k node).eight)
