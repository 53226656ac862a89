-- The nodes of a tree, as they are put behind those before.
use Rattle.std.proofs.Common.{◌≡◌, ◌∙◌, true, false, ℕ, List, [], ◌∷◌, ◌++◌, Result, Ok, Err, append_assoc, append-nil, bytes_eq, codes, refl, sym, subst}
use Rattle.std.specs.Prelude.{⊤}
use Rattle.std.specs.Result.{IsErrAnd}
use Rattle.serde_json.specs.Data.{Data, Members, null, boolean, number, string, array, object, no_members, member}
use Rattle.jr_path.specs.declared.path.Path.{Path}
use Rattle.jcr_trans.specs.declared.command.TreeNode.{TreeNode}
use Rattle.jr_args.specs.declared.fault.Fault.{Fault}
use Rattle.jr_args.specs.declared.fault.Fault.TheVariants as fault
use Rattle.jr_args.specs.declared.fault.Step.TheVariants.{Key}
use Rattle.jr_args.specs.Outcomes.{Outcome, Means, Breaks, Reading, Answers, AnswersOnto, IsRaised, Then, is, under}
use Rattle.jr_args.specs.Trees.{below_of, child_of, children_of, is_object, members_in, node_of, nodes_of, tree_of}
use Rattle.jr_args.specs.Values.{name_of}
use Rattle.jr_args.proofs.Lists.{behind, behind_more, behind_none}
use Rattle.jr_args.proofs.Readings.{raised}
use mathlib.Core.Bool.{false≢true}

pub onto_exits : {X Y : Type 0} (M : Reading X) (f : X → Reading (List Y)) (fault : Fault) (before after : List Y) (result : Result ⊤ Fault) → IsErrAnd result (λ e. e ≡ fault) → Answers M (Err fault) → AnswersOnto (Then M f) before after result
onto_exits M f fault before after (Ok y) h g = absurd h
onto_exits M f (fault.Bad rule steps) before after (Err e) h g = rw h (record { first = Breaks rule steps; is_first = g; rest = refl })
onto_exits M f fault.Memory before after (Err e) h g = rw h tt

pub onto_goes : {X Y : Type 0} (M : Reading X) (f : X → Reading (List Y)) (x : X) (before after : List Y) (result : Result ⊤ Fault) → M (Means x) → AnswersOnto (f x) before after result → AnswersOnto (Then M f) before after result
onto_goes M f x before after (Ok u) h g = (g.0, g.1, record { first = Means x; is_first = h; rest = g.2 })
onto_goes M f x before after (Err (fault.Bad rule steps)) h g = record { first = Means x; is_first = h; rest = g }
onto_goes M f x before after (Err fault.Memory) h g = tt

-- ---- children

-- some members are read: what they are is behind the nodes before, and what the rest comes to the whole does behind it
pub record AreReadTo (path : Path) (all rest : Members) (before now : List TreeNode) : Type 0 where
  pub added : List TreeNode
  pub grown : now ≡ before ++ added
  pub next : (o : Outcome (List TreeNode)) → children_of path rest o → children_of path all (behind added o)

pub children_none : (path : Path) (all : Members) (before : List TreeNode) → AreReadTo path all all before before
children_none path all before = record { added = []; grown = sym (append-nil before); next = λ o h. rw (behind_none o) h }

child_before : (path : Path) (key : List ℕ) (d : Data) (left : Members) (xs : List TreeNode) (o : Outcome (List TreeNode)) → child_of path key d (Means xs) → children_of path left o → children_of path (member key d left) (behind xs o)
child_before path key d left xs (Means ys) g h = record { first = Means xs; is_first = g; rest = record { first = Means ys; is_first = h; rest = refl } }
child_before path key d left xs (Breaks rule steps) g h = record { first = Means xs; is_first = g; rest = record { first = Breaks rule steps; is_first = h; rest = refl } }

pub children_more : (path : Path) (all rest left : Members) (before now after : List TreeNode) (key read : List ℕ) (d : Data) (u : ⊤) → AreReadTo path all rest before now → rest ≡ member key d left → read ≡ key
    → AnswersOnto (child_of path read d) now after (Ok u) → AreReadTo path all left before after
children_more path all rest left before now after key read d u so at is h = record {
  added = so.added ++ h.0;
  grown = h.1 ∙ rw (so.grown, append_assoc before so.added h.0) refl;
  next = λ o g. rw (← behind_more so.added h.0 o) (so.next (behind h.0 o) (rw at (child_before path key d left h.0 o (subst (λ k. child_of path k d (Means h.0)) is h.2) g)));
}

pub children_stop : (path : Path) (all rest left : Members) (before now after : List TreeNode) (key read step : List ℕ) (d : Data) (below above : Fault) → AreReadTo path all rest before now → rest ≡ member key d left
    → read ≡ key → step ≡ key → IsRaised (Key step) below above → AnswersOnto (child_of path read d) now after (Err below) → AnswersOnto (children_of path all) before after (Err above)
children_stop path all rest left before now after key read step d (fault.Bad rule steps) (fault.Bad broken more) so at is same up bad =
    let good : child_of path key d (Breaks rule steps) = subst (λ k. child_of path k d (Breaks rule steps)) is bad in
    let here = raised (Key key) (child_of path key d) (fault.Bad rule steps) (fault.Bad broken more) (subst (λ k. IsRaised (Key k) (fault.Bad rule steps) (fault.Bad broken more)) same up) good in
    so.next (Breaks broken more) (rw at (record { first = Breaks broken more; is_first = here; rest = refl }))
children_stop path all rest left before now after key read step d (fault.Bad rule steps) fault.Memory so at is same up bad = tt
children_stop path all rest left before now after key read step d fault.Memory (fault.Bad broken more) so at is same up bad = absurd up
children_stop path all rest left before now after key read step d fault.Memory fault.Memory so at is same up bad = tt

pub children_all : (path : Path) (all rest : Members) (before now : List TreeNode) (u : ⊤) → AreReadTo path all rest before now → rest ≡ no_members → AnswersOnto (children_of path all) before now (Ok u)
children_all path all rest before now u so at = (so.added, so.grown, rw (append-nil so.added) at (so.next (Means []) (rw at refl)))

-- the nodes below are the children, by the members of an object
pub below_answers : (path : Path) (d : Data) (before after : List TreeNode) (r : Result ⊤ Fault) → AnswersOnto (children_of path (members_in d)) before after r → AnswersOnto (below_of path d) before after r
below_answers path null before after r h = h
below_answers path (boolean b) before after r h = h
below_answers path (number n) before after r h = h
below_answers path (string t) before after r h = h
below_answers path (array ds) before after r h = h
below_answers path (object ms) before after r h = h

-- ---- the field `nodes`

-- none of the fields so far is `nodes`
pub record NotSoFar (path : Path) (all rest : Members) : Type 0 where
  pub next : (o : Outcome (List TreeNode)) → nodes_of path rest o → nodes_of path all o

pub fields_none : (path : Path) (all : Members) → NotSoFar path all all
fields_none path all = record { next = λ o h. h }

pub fields_more : (path : Path) (all rest left : Members) (key read : List ℕ) (d : Data) → NotSoFar path all rest → rest ≡ member key d left → read ≡ key → bytes_eq read (codes "nodes") ≡ false → NotSoFar path all left
fields_more path all rest left key read d so at is other = record {
  next = λ o h. so.next o (rw at (rw (subst (λ k. bytes_eq k (codes "nodes") ≡ false) is other) h));
}

-- the field is found
found : (path : Path) (all rest left : Members) (key read : List ℕ) (d : Data) → NotSoFar path all rest → rest ≡ member key d left → read ≡ key → bytes_eq read (codes "nodes") ≡ true
    → (o : Outcome (List TreeNode)) → under (Key key) (below_of path d) o → nodes_of path all o
found path all rest left key read d so at is same o h = so.next o (rw at (rw (subst (λ k. bytes_eq k (codes "nodes") ≡ true) is same) h))

pub field_read : (path : Path) (all rest left : Members) (key read : List ℕ) (d : Data) (before after : List TreeNode) (u : ⊤) → NotSoFar path all rest → rest ≡ member key d left → read ≡ key → bytes_eq read (codes "nodes") ≡ true
    → AnswersOnto (below_of path d) before after (Ok u) → AnswersOnto (nodes_of path all) before after (Ok u)
field_read path all rest left key read d before after u so at is same h = (h.0, h.1, found path all rest left key read d so at is same (Means h.0) h.2)

pub field_stops : (path : Path) (all rest left : Members) (key read step : List ℕ) (d : Data) (before after : List TreeNode) (below above : Fault) → NotSoFar path all rest → rest ≡ member key d left → read ≡ key → step ≡ key → bytes_eq read (codes "nodes") ≡ true
    → IsRaised (Key step) below above → AnswersOnto (below_of path d) before after (Err below) → AnswersOnto (nodes_of path all) before after (Err above)
field_stops path all rest left key read step d before after (fault.Bad rule steps) (fault.Bad broken more) so at is written same up bad =
    let here = raised (Key key) (below_of path d) (fault.Bad rule steps) (fault.Bad broken more) (subst (λ k. IsRaised (Key k) (fault.Bad rule steps) (fault.Bad broken more)) written up) bad in
    found path all rest left key read d so at is same (Breaks broken more) here
field_stops path all rest left key read step d before after (fault.Bad rule steps) fault.Memory so at is written same up bad = tt
field_stops path all rest left key read step d before after fault.Memory (fault.Bad broken more) so at is written same up bad = absurd up
field_stops path all rest left key read step d before after fault.Memory fault.Memory so at is written same up bad = tt

pub no_field : (path : Path) (all rest : Members) (before after : List TreeNode) (u : ⊤) → NotSoFar path all rest → rest ≡ no_members → after ≡ before → AnswersOnto (nodes_of path all) before after (Ok u)
no_field path all rest before after u so at same = ([], same ∙ sym (append-nil before), so.next (Means []) (rw at refl))

-- ---- a node and all below

whole : (path : Path) (d : Data) → is_object d ≡ true → (o : Outcome (List TreeNode)) → Then (node_of path d) (λ node. Then (nodes_of path (members_in d)) (λ nodes. is (Means (node ∷ nodes)))) o → tree_of path d o
whole path null is o h = absurd (false≢true is)
whole path (boolean b) is o h = absurd (false≢true is)
whole path (number n) is o h = absurd (false≢true is)
whole path (string t) is o h = absurd (false≢true is)
whole path (array ds) is o h = absurd (false≢true is)
whole path (object ms) is o h = h

pub no_tree : (path : Path) (d : Data) (before after : List TreeNode) (u : ⊤) → is_object d ≡ false → after ≡ before → AnswersOnto (tree_of path d) before after (Ok u)
no_tree path null before after u is same = ([], same ∙ sym (append-nil before), refl)
no_tree path (boolean b) before after u is same = ([], same ∙ sym (append-nil before), refl)
no_tree path (number n) before after u is same = ([], same ∙ sym (append-nil before), refl)
no_tree path (string t) before after u is same = ([], same ∙ sym (append-nil before), refl)
no_tree path (array ds) before after u is same = ([], same ∙ sym (append-nil before), refl)
no_tree path (object ms) before after u is same = absurd (false≢true (sym is))

pub node_stops : (path copy : Path) (d : Data) (before after : List TreeNode) (fault : Fault) (result : Result ⊤ Fault) → is_object d ≡ true → copy ≡ path → IsErrAnd result (λ e. e ≡ fault) → Answers (node_of copy d) (Err fault) → AnswersOnto (tree_of path d) before after result
node_stops path copy d before after fault (Ok u) is same h g = absurd h
node_stops path copy d before after (fault.Bad rule steps) (Err e) is same h g =
    rw h (whole path d is (Breaks rule steps) (record { first = Breaks rule steps; is_first = subst (λ p. node_of p d (Breaks rule steps)) same g; rest = refl }))
node_stops path copy d before after fault.Memory (Err e) is same h g = rw h tt

pub tree_whole : (path copy : Path) (d : Data) (node : TreeNode) (before now after : List TreeNode) (r : Result ⊤ Fault) → is_object d ≡ true → copy ≡ path → node_of copy d (Means node) → now ≡ before ++ node ∷ []
    → AnswersOnto (nodes_of path (members_in d)) now after r → AnswersOnto (tree_of path d) before after r
tree_whole path copy d node before now after (Ok u) is same own put h = (
  node ∷ h.0,
  h.1 ∙ rw (put, append_assoc before (node ∷ []) h.0) refl,
  whole path d is (Means (node ∷ h.0)) (record { first = Means node; is_first = subst (λ p. node_of p d (Means node)) same own; rest = record { first = Means h.0; is_first = h.2; rest = refl } }),
)
tree_whole path copy d node before now after (Err (fault.Bad rule steps)) is same own put h =
    whole path d is (Breaks rule steps) (record { first = Means node; is_first = subst (λ p. node_of p d (Means node)) same own; rest = record { first = Breaks rule steps; is_first = h; rest = refl } })
tree_whole path copy d node before now after (Err fault.Memory) is same own put h = tt

pub child_tree : (path child : Path) (name : List ℕ) (key : List ℕ) (d : Data) (before after : List TreeNode) (r : Result ⊤ Fault) → name_of key (Means name) → child ≡ path ++ name ∷ []
    → AnswersOnto (tree_of child d) before after r → AnswersOnto (child_of path key d) before after r
child_tree path child name key d before after r good is h =
    onto_goes (name_of key) (λ n. tree_of (path ++ n ∷ []) d) name before after r good (subst (λ p. AnswersOnto (tree_of p d) before after r) is h)
