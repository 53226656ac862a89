-- The world before any step is kept.
use Rattle.std.proofs.Math.Path.{fun_ext}
use Rattle.std.proofs.Common.{filter_map, Option, Some, None}
use Rattle.std.specs.Option.{option_map_or}
use Rattle.jr_path.specs.declared.path.DocId.TheVariants as id
use Rattle.jr_path.specs.declared.path.Path.{Path}
use Rattle.oak_doc.specs.declared.document.Document.{Document}
use Rattle.core_read.specs.Told.{IsIn}
use Rattle.core_clash.specs.Sound.{Sound}
use Rattle.core_world.specs.States.{listed_at, moved_in}
use Rattle.core_begun.proofs.Beginning.{kept_start}
use Rattle.core_begun.specs.Told.{start_in}
use Rattle.oak_read.specs.Meaning.{documents_in}
use Rattle.std.proofs.Common.{◌≡◌, ℕ, zero, suc, ◌+◌, ◌-◌, ◌<◌, false, List, [], length, map, is_some, refl, sym, ap, subst, ◌∙◌, arith}
use Rattle.std.proofs.Math.ListN.{get_or}
use Rattle.std.proofs.lemmas.List.FromFn.{length-map-range_with_len}
use Rattle.std.specs.List.{range_with_len}
use mathlib.Core.Bool.{false≢true}
use Rattle.jr_rev.specs.Vectors.{no_entries, start, sees}
use Rattle.oak_machine.specs.Laws.{Says, Starts}
use Rattle.oak_machine.specs.Runs.{AreNodes, IsNode}
use Rattle.oak_node.specs.Memory.{NodeState, begun}
use Rattle.core_clash.specs.Steps.{Reached}
use Rattle.core_clash.proofs.Reach.{reached_sound}
use Rattle.core_nodes.specs.Nodes.{ArePinsOf, IsMemoryOf}
use Rattle.core_nodes.proofs.Changes.{begun_changes}
use Rattle.core_nodes.proofs.Events.{begun_is, begun_pins}
use Rattle.core_world.specs.Kept.{AreSessionsKept}
use Rattle.core_world.specs.Start.{start_state, start_table}
use Rattle.core_world.specs.States.{memory_at, nodes_in}
use Rattle.core_world.proofs.Begins.{lists_none, shows_start, start_is}
use Rattle.core_world.proofs.Memories.{read_at}
use Rattle.core_heads.proofs.Entries.{start_begun}

-- the memories of the start
abbrev all_begun : ℕ → ℕ → ℕ → List NodeState
all_begun clusters first count = map (λ k. begun k (start clusters)) (range_with_len first count)

place : (clusters first count i : ℕ) (d : NodeState) → i < count → get_or (all_begun clusters first count) i d ≡ begun (first + i) (start clusters)
place clusters first zero i d h = absurd (none i h)
  where
    none : (i : ℕ) → i < 0 → ⊥
    none i h = omega arith
place clusters first (suc count) zero d h = ap (λ k. begun k (start clusters)) (omega arith)
place clusters first (suc count) (suc i) d h = place clusters (first + 1) count i d (omega arith) ∙ ap (λ k. begun k (start clusters)) (omega arith)

pub begun_at : (clusters k : ℕ) → IsNode clusters k → memory_at (all_begun clusters 1 clusters) k ≡ begun k (start clusters)
begun_at clusters k node = read_at (all_begun clusters 1 clusters) k ∙ (place clusters 1 clusters (k - 1) (begun k no_entries) (let a = node.0 in let b = node.1 in omega arith) ∙ ap (λ j. begun j (start clusters)) (let a = node.0 in omega arith))

-- its documents list no previous ones
pub start_lists : (c n : ℕ) → listed_at (start_table c n) ≡ (λ p. [])
start_lists c n = fun_ext (λ p. by p (nodes_in (start_table c n) p) refl)
  where
    by : (p : Path) (o : Option Document) → nodes_in (start_table c n) p ≡ o → option_map_or (λ d. d.prev) o [] ≡ []
    by p None h = refl
    by p (Some d) h = lists_none c n p d h

pub start_moved : (c n : ℕ) → moved_in (start_table c n) ≡ (λ p. [])
start_moved c n = fun_ext (λ p. by p (nodes_in (start_table c n) p) refl)
  where
    by : (p : Path) (o : Option Document) → nodes_in (start_table c n) p ≡ o → option_map_or (λ d. filter_map (λ e. documents_in (start_table c n).documents (id.Prev e.number p)) d.prev) o [] ≡ []
    by p None h = refl
    by p (Some d) h = ap (filter_map (λ e. documents_in (start_table c n).documents (id.Prev e.number p))) (lists_none c n p d h)

pub start_kept : (starts : Starts) (says : Says) (clusters : ℕ) (sessions : List ℕ) → AreNodes clusters sessions → AreSessionsKept starts says (start_state clusters sessions)
start_kept starts says clusters sessions nodes = record {
  nodes = nodes;
  run = tt;
  committing = record {
    writers = λ r. record { paths = []; left = []; written = []; due = []; undoing = false; wants = false };
    sound = subst (λ (moved : Path → List Document). Sound (record { old = sees (start clusters); number = 4; docs = nodes_in (start_table clusters (length sessions)); moved = moved; past = []; writers = λ r. record { paths = []; left = []; written = []; due = []; undoing = false; wants = false } }))
        (sym (start_moved clusters (length sessions)))
        (reached_sound _ (Rattle.core_clash.specs.Steps.begun (sees (start clusters)) 4 (nodes_in (start_table clusters (length sessions))) (λ p. []) (start_is clusters (length sessions) (sees (start clusters)) (start_begun clusters nodes.some))));
    theirs = λ s x h. absurd (false≢true (ap is_some h));
    listed = λ s x h. absurd (false≢true (ap is_some h));
    kept = kept_start (start_in clusters None) (documents_in (start_table clusters (length sessions)).documents) _ (shows_start clusters (length sessions) nodes.some);
    unstopped = λ s x h. absurd (false≢true (ap is_some h));
  };
  working = record { idle = λ s h on. refl; stays = λ s x h. absurd (false≢true (ap is_some h)); goes = λ s x h. absurd (false≢true (ap is_some h)); reads = λ s r h. absurd (false≢true (ap is_some h)); halted = λ s stopped h. absurd (false≢true h) };
  memories = record {
    counted = length-map-range_with_len (λ k. begun k (start clusters)) 1 clusters;
    memory = λ k node. subst (λ (m : NodeState). IsMemoryOf None clusters [] k m) (sym (begun_at clusters k node)) (begun_is None clusters sessions nodes tt k node);
    pins = λ k node. subst (λ (m : NodeState). ArePinsOf sessions [] k m) (sym (begun_at clusters k node)) (begun_pins None clusters sessions k);
    changes = λ k node. begun_changes k (memory_at (all_begun clusters 1 clusters) k);
  };
  readers = record { told = record { listed = λ p d h e i. absurd (subst (λ l. IsIn e l) (lists_none clusters (length sessions) p d h) i); former = λ p k f h. absurd (false≢true (ap is_some h)); there = λ p d h e i f had. absurd (false≢true (ap is_some had)); copies = λ p k f x h there. absurd (false≢true (ap is_some h)) }; above = λ s r h. absurd (false≢true (ap is_some h)); reads = λ s r h. absurd (false≢true (ap is_some h)); at_base = λ s r h. absurd (false≢true (ap is_some h)); pairs = λ s r h. absurd (false≢true (ap is_some h)) };
  observers = record { goes = λ s r h. absurd (false≢true (ap is_some h)); apart = λ s r h. absurd (false≢true (ap is_some h)); between = λ s r h. absurd (false≢true (ap is_some h)); tells = λ s r h. absurd (false≢true (ap is_some h)) };
}
