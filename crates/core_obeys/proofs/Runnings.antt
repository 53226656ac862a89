-- A run in which two plans are committed side by side: the theorems have something to speak of.
use Rattle.std.proofs.Common.{◌≡◌, ℕ, zero, suc, Bool, true, false, cond, None, Some, List, [], ◌∷◌, is_some, refl, sym, ap, subst, arith}
use Rattle.std.specs.Prelude.{codes, slice_get}
use Rattle.std.specs.Option.{unwrap_or}
use mathlib.Core.Bool.{false≢true}
use Rattle.jr_path.specs.declared.path.Path.{Path}
use Rattle.jr_value.specs.declared.value.Property.TheVariants.{Single}
use Rattle.jr_value.specs.declared.value.Value.TheVariants as value
use Rattle.jr_rev.specs.declared.revision.Revision.{Revision}
use Rattle.jr_rev.specs.Revisions.{is_same}
use Rattle.jr_rev.specs.Vectors.{Entries, start, with_entry}
use Rattle.jr_rev.proofs.Order.{same_revision}
use Rattle.jr_tree.specs.declared.edit.Write.{Write}
use Rattle.jr_tree.specs.declared.edit.Write.TheVariants.{Here, Put}
use Rattle.jr_tree.specs.Trees.{initial_tree}
use Rattle.jr_items.specs.Names.{primary_type, lock_owner}
use Rattle.jr_builtin.specs.Builtin.{builtin}
use Rattle.jr_types.specs.Rules.{TypesOk}
use Rattle.jr_rules.proofs.Rows.{initial_meets_rules}
use Rattle.jcr_marks.specs.Marks.{marks_of}
use Rattle.jcr_plan.specs.Plans.{PlanOk}
use Rattle.jcr_plan.proofs.Accepted.{accepted}
use Rattle.oak_machine.specs.declared.event.Draw.{Draw}
use Rattle.oak_machine.specs.declared.event.Event.TheVariants as event
use Rattle.oak_machine.specs.Commits.{are_clashing}
use Rattle.oak_machine.specs.History.{History, Past}
use Rattle.oak_machine.specs.Laws.{Starts}
use Rattle.oak_machine.specs.Runs.{AreNodes, IsNode, any_said}
use Rattle.oak_machine.proofs.Deciding.{apart_decided}
use Rattle.core_merge.specs.Orders.{tree_by_commits}
use Rattle.core_obeys.specs.Plans.{base_tree, Tokens, IsObeyingRun}
use Rattle.core_clash.specs.Unclashing.{IsUnclashing}
use Rattle.core_obeys.proofs.Obeys.{types_obeyed}
use Rattle.core_obeys.proofs.Starting.{plans_proper}

abbrev at : ℕ → Revision
at t = record { time = t; counter = 0; cluster = 1 }

abbrev vector : ℕ → Entries
vector t = with_entry (start 1) (at t)

-- nobody holds a token
abbrev tokens : Tokens
tokens h s = []

abbrev starts : Starts
starts h s edit marks = PlanOk builtin (base_tree h s) [] edit.writes marks

-- a node of type nt:unstructured with a lock, added by hand
abbrev adding : Path → List Write
adding p = Here p ∷ Put p lock_owner (Single (value.Str (codes "t"))) ∷ Put p primary_type (Single (value.Name (codes "nt:unstructured"))) ∷ []

abbrev added : ℕ → ℕ → Path → Draw
added t s p = record { revision = at t; session = s; base = vector 0; edit = record { writes = adding p }; marks = marks_of initial_tree (adding p) }

abbrev drawn : Past
drawn = event.Draw (added 2 1 (codes "b" ∷ [])) ∷ event.Draw (added 1 0 (codes "a" ∷ [])) ∷ event.Login 1 (vector 0) ∷ event.Login 0 (vector 0) ∷ []

-- the first clashes with no other draw
unclashing : IsUnclashing drawn (at 1)
unclashing o other there outside = by (is_same o (at 2)) (is_same o (at 1)) refl refl there
  where
    by : (b c : Bool) → is_same o (at 2) ≡ b → is_same o (at 1) ≡ c → is_some (cond b (Some (added 2 1 (codes "b" ∷ []))) (cond c (Some (added 1 0 (codes "a" ∷ []))) None)) ≡ true → are_clashing drawn (at 1) o ≡ false
    by true c same k h = subst (λ (x : Revision). are_clashing drawn (at 1) x ≡ false) (sym (same_revision o (at 2) same)) refl
    by false true k same h = absurd (other (sym (same_revision o (at 1) same)))
    by false false k l h = absurd (false≢true h)

-- the greater revision is committed first
abbrev history : History
history = record { clusters = 1; sessions = 1 ∷ 1 ∷ []; begin = None; past = event.End (at 2) ∷ event.End (at 1) ∷ event.Commit (at 1) ∷ event.Commit (at 2) ∷ drawn }

one_node : AreNodes 1 (1 ∷ 1 ∷ [])
one_node = record { eight = omega arith; some = omega arith; node = each }
  where
    each : (s k : ℕ) → slice_get (1 ∷ 1 ∷ []) s ≡ Some k → IsNode 1 k
    each zero k h = let e : 1 ≡ k = ap (λ o. unwrap_or o 1) h in (omega arith, omega arith)
    each (suc zero) k h = let e : 1 ≡ k = ap (λ o. unwrap_or o 1) h in (omega arith, omega arith)
    each (suc (suc s)) k h = absurd (false≢true (ap is_some h))

plan_a : PlanOk builtin initial_tree [] (adding (codes "a" ∷ [])) (marks_of initial_tree (adding (codes "a" ∷ [])))
plan_a = accepted builtin initial_tree [] (adding (codes "a" ∷ [])) (record { tree = record { paths = refl; names = refl; root = refl; parents = refl }; once = refl; changing = refl; emptied = refl }) refl

plan_b : PlanOk builtin initial_tree [] (adding (codes "b" ∷ [])) (marks_of initial_tree (adding (codes "b" ∷ [])))
plan_b = accepted builtin initial_tree [] (adding (codes "b" ∷ [])) (record { tree = record { paths = refl; names = refl; root = refl; parents = refl }; once = refl; changing = refl; emptied = refl }) refl

is_obeying : IsObeyingRun builtin tokens starts any_said history
is_obeying = record {
  nodes = one_node;
  run = (
    refl,
    (
      refl,
      (
        record { open_ = record { running = refl; in_flight = refl; not_committed = refl; not_refused = refl }; apart = (apart_decided (event.Commit (at 2) ∷ drawn) (at 1)).0 refl },
        (
          record { open_ = record { running = refl; in_flight = refl; not_committed = refl; not_refused = refl }; apart = (apart_decided drawn (at 2)).0 refl },
          (
            record { running = refl; login = refl; detached = refl; idle = refl; base = refl; cluster = refl; next = refl; lawful = plan_b },
            (
              record { running = refl; login = refl; detached = refl; idle = refl; base = refl; cluster = refl; next = refl; lawful = plan_a },
              (record { running = refl; first = refl; head = (1, refl, refl) }, (record { running = refl; first = refl; head = (1, refl, refl) }, tt)),
            ),
          ),
        ),
      ),
    ),
  );
  plans = λ h s edit marks lawful. lawful;
  typed = initial_meets_rules;
}

-- both commits together meet the rules
both_obey : TypesOk builtin (tree_by_commits None history.past)
both_obey = types_obeyed 1 (1 ∷ 1 ∷ []) one_node None starts any_said (plans_proper builtin tokens starts (λ h s edit marks lawful. lawful)) builtin tokens (λ h s edit marks lawful. lawful) initial_meets_rules history.past is_obeying.run
