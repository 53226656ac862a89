-- Why the parents have to be marked: without it two commits, each of a proper edit with its other marks, leave a node without its parent. And a run in which two commits are merged.
use Rattle.std.proofs.Common.{◌≡◌, ℕ, zero, suc, true, false, Some, List, [], ◌∷◌, is_some, refl, sym, ap, ◌∙◌, subst, arith, None}
use Rattle.std.specs.Prelude.{codes, slice_get}
use Rattle.std.specs.Option.{option_map_or, unwrap_or}
use mathlib.Core.Bool.{false≢true}
use Rattle.jr_path.specs.declared.path.Path.{Path}
use Rattle.jr_rev.specs.declared.revision.Revision.{Revision}
use Rattle.jr_rev.specs.Vectors.{Entries, start, with_entry}
use Rattle.jr_tree.specs.declared.edit.Write.{Write}
use Rattle.jr_tree.specs.declared.edit.Write.TheVariants.{Here, Gone}
use Rattle.jr_tree.specs.Trees.{Nodes, initial_tree, node_at, IsTree}
use Rattle.jr_tree.specs.Edits.{IsProper}
use Rattle.oak_clash.specs.declared.mark.Mark.TheVariants.{Exists, Touch}
use Rattle.oak_clash.specs.declared.mark.MarkAt.{MarkAt}
use Rattle.oak_machine.specs.declared.event.Draw.{Draw}
use Rattle.oak_machine.specs.declared.event.Event.TheVariants as event
use Rattle.oak_machine.specs.History.{Begin, History, Past}
use Rattle.oak_machine.specs.Commits.{tree_at, IsClosed}
use Rattle.oak_machine.specs.Heads.{head_of}
use Rattle.oak_machine.specs.Laws.{Starts, StartsProper, AreOfWrites}
use Rattle.oak_machine.specs.Marks.{marks_for}
use Rattle.oak_machine.specs.Runs.{IsRunOf, AreNodes, IsNode, any_said}
use Rattle.oak_machine.specs.Sessions.{base_of}
use Rattle.oak_machine.proofs.Deciding.{apart_decided}
use Rattle.core_heads.proofs.Runs.{closed_run, head_run}
use Rattle.core_merge.specs.Independent.{MarkParents, StartsMarkingParents, IsMergingRun}
use Rattle.core_merge.specs.Orders.{tree_by_commits}
use Rattle.core_merge.proofs.Marks.{marks_for_parents}

abbrev at : ℕ → Revision
at t = record { time = t; counter = 0; cluster = 1 }

abbrev vector : ℕ → Entries
vector t = with_entry (start 1) (at t)

abbrev a : Path
a = codes "a" ∷ []

abbrev ab : Path
ab = codes "a" ∷ codes "b" ∷ []

-- the tree at the base of s
abbrev base_tree : Past → ℕ → Nodes
base_tree past s = option_map_or (tree_at None past) (base_of past s) initial_tree

-- the law that lets each proper edit start with the Exists and Props of its writes
abbrev starts : Starts
starts h s edit marks = (h.begin ≡ None) × IsProper (base_tree h.past s) edit.writes × AreOfWrites (base_tree h.past s) edit marks

starts_proper : StartsProper starts
starts_proper h s edit marks v base lawful =
    let same : base_tree h.past s ≡ tree_at h.begin h.past v = ap (λ o. option_map_or (tree_at None h.past) o initial_tree) base ∙ ap (λ (b : Begin). tree_at b h.past v) (sym lawful.0) in
    (subst (λ (t : Nodes). IsProper t edit.writes) same lawful.1, subst (λ (t : Nodes). AreOfWrites t edit marks) same lawful.2)

-- a write of the node at p, with its Exists and no mark of the parent
abbrev draw : ℕ → ℕ → ℕ → Write → Path → Draw
draw t s seen w p = record { revision = at t; session = s; base = vector seen; edit = record { writes = w ∷ [] }; marks = record { path = p; mark = Exists } ∷ [] }

-- a session is to add /a
abbrev begun : Past
begun = event.Draw (draw 1 0 0 (Here a) a) ∷ event.Login 0 (vector 0) ∷ []

-- one session is to remove /a, and another to add /a/b
abbrev drawn : Past
drawn =
    event.Draw (draw 3 1 1 (Here ab) ab)
    ∷ event.Draw (draw 2 0 1 (Gone a) a)
    ∷ event.Login 1 (vector 1)
    ∷ event.Refresh 0 (vector 1)
    ∷ event.End (at 1)
    ∷ event.Commit (at 1)
    ∷ begun

-- both do
abbrev past : Past
past = event.End (at 3) ∷ event.End (at 2) ∷ event.Commit (at 3) ∷ event.Commit (at 2) ∷ drawn

is_run : IsRunOf starts any_said 1 (1 ∷ 1 ∷ []) None past
is_run = (
  refl,
  (
    refl,
    (
      record { open_ = record { running = refl; in_flight = refl; not_committed = refl; not_refused = refl }; apart = (apart_decided (event.Commit (at 2) ∷ drawn) (at 3)).0 refl },
      (
        record { open_ = record { running = refl; in_flight = refl; not_committed = refl; not_refused = refl }; apart = (apart_decided drawn (at 2)).0 refl },
        (
          record {
            running = refl;
            login = refl;
            detached = refl;
            idle = refl;
            base = refl;
            cluster = refl;
            next = refl;
            lawful = (refl, record { tree = record { paths = refl; names = refl; root = refl; parents = refl }; once = refl; changing = refl; emptied = refl }, refl);
          },
          (
            record {
              running = refl;
              login = refl;
              detached = refl;
              idle = refl;
              base = refl;
              cluster = refl;
              next = refl;
              lawful = (refl, record { tree = record { paths = refl; names = refl; root = refl; parents = refl }; once = refl; changing = refl; emptied = refl }, refl);
            },
            (
              record { running = refl; first = refl; head = (1, refl, refl) },
              (
                record { running = refl; login = refl; idle = refl; head = (1, refl, refl) },
                (
                  refl,
                  (
                    record { open_ = record { running = refl; in_flight = refl; not_committed = refl; not_refused = refl }; apart = (apart_decided begun (at 1)).0 refl },
                    (
                      record {
                        running = refl;
                        login = refl;
                        detached = refl;
                        idle = refl;
                        base = refl;
                        cluster = refl;
                        next = refl;
                        lawful = (refl, record { tree = record { paths = refl; names = refl; root = refl; parents = refl }; once = refl; changing = refl; emptied = refl }, refl);
                      },
                      (record { running = refl; first = refl; head = (1, refl, refl) }, tt),
                    ),
                  ),
                ),
              ),
            ),
          ),
        ),
      ),
    ),
  ),
)

one_node : AreNodes 1 (1 ∷ 1 ∷ [])
one_node = record { eight = omega arith; some = omega arith; node = each }
  where
    each : (s k : ℕ) → slice_get (1 ∷ 1 ∷ []) s ≡ Some k → IsNode 1 k
    each zero k h = let e : 1 ≡ k = ap (λ o. unwrap_or o 1) h in (omega arith, omega arith)
    each (suc zero) k h = let e : 1 ≡ k = ap (λ o. unwrap_or o 1) h in (omega arith, omega arith)
    each (suc (suc s)) k h = absurd (false≢true (ap is_some h))

head_is : head_of 1 None past 1 ≡ vector 3
head_is = refl

head_closed : IsClosed past (vector 3)
head_closed = closed_run 1 (1 ∷ 1 ∷ []) one_node None starts any_said past is_run (vector 3) (head_run 1 (1 ∷ 1 ∷ []) one_node None starts any_said past is_run 1 (omega arith, omega arith))

-- the head shows /a/b and not /a
orphan : (is_some (node_at (tree_at None past (vector 3)) ab) ≡ true) × (is_some (node_at (tree_at None past (vector 3)) a) ≡ false)
orphan = (refl, refl)

no_tree : IsTree (tree_at None past (vector 3)) → ⊥
no_tree tree = false≢true tree.parents

-- ---- with the parents marked

-- the law that lets each proper edit start with all marks of its writes
abbrev marking : Starts
marking h s edit marks = IsProper (base_tree h.past s) edit.writes × (marks_for (base_tree h.past s) edit.writes ≡ marks)

marks_parents : StartsMarkingParents marking
marks_parents h s edit marks lawful = subst (λ (ms : List MarkAt). MarkParents ms edit.writes) lawful.1 (marks_for_parents (base_tree h.past s) edit.writes)

abbrev b : Path
b = codes "b" ∷ []

abbrev added : ℕ → ℕ → Path → Draw
added t s p = record { revision = at t; session = s; base = vector 0; edit = record { writes = Here p ∷ [] }; marks = record { path = []; mark = Touch } ∷ record { path = p; mark = Exists } ∷ [] }

-- two sessions are to add nodes of one parent
abbrev adding : Past
adding = event.Draw (added 2 1 b) ∷ event.Draw (added 1 0 a) ∷ event.Login 1 (vector 0) ∷ event.Login 0 (vector 0) ∷ []

-- the greater revision is committed first
abbrev merging : History
merging = record { clusters = 1; sessions = 1 ∷ 1 ∷ []; begin = None; past = event.End (at 2) ∷ event.End (at 1) ∷ event.Commit (at 1) ∷ event.Commit (at 2) ∷ adding }

is_merging : IsMergingRun marking any_said merging
is_merging = record {
  nodes = one_node;
  run = (
    refl,
    (
      refl,
      (
        record { open_ = record { running = refl; in_flight = refl; not_committed = refl; not_refused = refl }; apart = (apart_decided (event.Commit (at 2) ∷ adding) (at 1)).0 refl },
        (
          record { open_ = record { running = refl; in_flight = refl; not_committed = refl; not_refused = refl }; apart = (apart_decided adding (at 2)).0 refl },
          (
            record {
              running = refl;
              login = refl;
              detached = refl;
              idle = refl;
              base = refl;
              cluster = refl;
              next = refl;
              lawful = (record { tree = record { paths = refl; names = refl; root = refl; parents = refl }; once = refl; changing = refl; emptied = refl }, refl);
            },
            (
              record {
                running = refl;
                login = refl;
                detached = refl;
                idle = refl;
                base = refl;
                cluster = refl;
                next = refl;
                lawful = (record { tree = record { paths = refl; names = refl; root = refl; parents = refl }; once = refl; changing = refl; emptied = refl }, refl);
              },
              (record { running = refl; first = refl; head = (1, refl, refl) }, (record { running = refl; first = refl; head = (1, refl, refl) }, tt)),
            ),
          ),
        ),
      ),
    ),
  );
  marking = marks_parents;
}

-- the head shows both, as they were committed
both_there : (is_some (node_at (tree_at None merging.past (vector 2)) a) ≡ true) × (is_some (node_at (tree_at None merging.past (vector 2)) b) ≡ true)
both_there = (refl, refl)

in_either_order : tree_at None merging.past (vector 2) ≡ tree_by_commits None merging.past
in_either_order = refl
