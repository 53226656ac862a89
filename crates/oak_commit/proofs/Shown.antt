-- What a committer is seen as, step by step.
use Rattle.std.proofs.Common.{subst, ◌≡◌, ℕ, zero, suc, ◌+◌, ◌<◌, ◌≤◌, Bool, true, false, cond, List, [], ◌∷◌, ◌++◌, length, take, drop, get_or, map, fold, Option, Some, None, refl, sym, ap, ◌∙◌, arith, All}
use Rattle.std.specs.Prelude.{IfOk, IsTrue, OnErr, OnOk, slice_get, Result, Ok, Err}
use Rattle.std.specs.declared.alloc.AllocError.{AllocError}
use Rattle.std.specs.Option.{option_map}
use Rattle.std.proofs.Math.ListN.{drop_of_length-le}
use Rattle.std.proofs.lemmas.List.{take_more, drop-append-le, get_or-map, get_or-take, length-drop, length-map, length-take, length-take-le}
use Rattle.std.proofs.lemmas.List.Elements.{All-get_or, All-nil}
use Rattle.std.proofs.lemmas.Map.Views.{All-keys-insert_entry}
use Rattle.std.specs.Map.{keys_of}
use Rattle.std.specs.BTreeMap.{insert_entry}
use Rattle.jr_rev.specs.declared.revision.Revision.{Revision}
use Rattle.jr_rev.specs.declared.vector.RevVec.{RevVec}
use Rattle.oak_doc.specs.declared.asks.Ask.TheVariants as ask
use Rattle.oak_doc.specs.declared.asks.MemoryAsk.TheVariants as memory
use Rattle.oak_doc.specs.declared.asks.Reply.TheVariants as reply
use Rattle.jr_path.specs.Ids.{id_cmp, names_of}
use Rattle.jr_path.specs.declared.path.Path.{Path}
use Rattle.jr_path.specs.declared.path.DocId.{DocId}
use Rattle.jr_path.specs.declared.path.DocId.TheVariants as id
use Rattle.oak_clash.specs.declared.mark.MarkAt.{MarkAt}
use Rattle.oak_doc.specs.declared.document.Document.{Document}
use Rattle.oak_commit.specs.Clashing.{Met, found}
use Rattle.oak_commit.specs.Committing.{Committing, fed_look, looking_on, look_due, wrote, meeting, asks_undo, due_by, due_of, ended_by, mark_due, roots_in, looks_at, undo_due, wanting, with_undone, write_due, written_by, written_paths}
use Rattle.oak_commit.specs.Kept.{SettlesLook, met_by, shown, with_look}
use Rattle.oak_commit.specs.Looking.{looked_at, looked_before, with_found}
use Rattle.oak_read.specs.Wanted.{listed}
use Rattle.oak_commit.specs.Places.{Planned}
use Rattle.oak_commit.specs.Stages.{undo_stage}
use Rattle.oak_commit.specs.Writing.{write_op, written_ids}
use Rattle.oak_commit.specs.declared.outcome.CommitEnd.{CommitEnd}
use Rattle.oak_commit.specs.declared.outcome.CommitEnd.TheVariants as end
use Rattle.oak_commit.specs.Meeting.{dues_in, root_in}
use Rattle.oak_commit.specs.declared.look.Look.{Look}
use Rattle.oak_commit.specs.declared.look.Looked.{Looked}
use Rattle.oak_commit.specs.declared.met.Due.{Due}
use Rattle.oak_commit.specs.declared.stage.Stage.TheVariants as stage

dropped : {X : Type 0} (xs : List X) (i : ℕ) (d : X) → i < length xs → drop i xs ≡ get_or xs i d ∷ drop (i + 1) xs
dropped [] i d h = absurd (omega arith)
dropped (x ∷ xs) zero d h = refl
dropped (x ∷ xs) (suc i) d h = let p : suc i + 1 ≡ suc (i + 1) = omega arith in rw p (dropped xs i d (omega arith))

-- an item at a place of a list
pub record IsAt (ids : List DocId) (k : ℕ) (x : DocId) : Type 0 where
  pub within : k < length ids
  pub is : x ≡ get_or ids k x

pub at_of : (ids all : List DocId) (k : ℕ) (x : DocId) → ids ≡ all → k < length ids → x ≡ get_or ids k x → IsAt all k x
at_of ids all k x same within is = subst (λ xs. IsAt xs k x) same (record { within = within; is = is })

-- the next document
pub left_first : (ids : List DocId) (k : ℕ) (x : DocId) → IsAt ids k x → drop k (map names_of ids) ≡ names_of x ∷ drop (k + 1) (map names_of ids)
left_first ids k x at =
    dropped (map names_of ids) k [] (omega (arith, length-map ids names_of, at.within))
    ∙ ap (λ p. p ∷ drop (k + 1) (map names_of ids)) (get_or-map names_of ids k x [] at.within ∙ ap names_of (sym at.is))

pub left_none : (ids : List DocId) (k : ℕ) → length ids ≤ k → drop k (map names_of ids) ≡ []
left_none ids k none = drop_of_length-le (map names_of ids) (omega (arith, length-map ids names_of, none))

-- one more document is written
pub written_more : (ids : List DocId) (undone k : ℕ) (x : DocId) → undone ≤ k → IsAt ids k x → drop undone (take (k + 1) (map names_of ids)) ≡ drop undone (take k (map names_of ids)) ++ names_of x ∷ []
written_more ids undone k x low at =
    let within : k < length (map names_of ids) = omega (arith, length-map ids names_of, at.within) in
    ap (drop undone) (take_more (map names_of ids) k [] within ∙ ap (λ p. take k (map names_of ids) ++ p ∷ []) (get_or-map names_of ids k x [] at.within ∙ ap names_of (sym at.is)))
    ∙ drop-append-le undone (take k (map names_of ids)) (names_of x ∷ []) (let long : length (take k (map names_of ids)) ≡ k = length-take-le k (map names_of ids) (omega (arith, within)) in omega (arith, long, low))

-- ---- undoing

undone_first : (ps : List Path) (written undone : ℕ) → undone < written → written ≤ length ps → drop undone (take written ps) ≡ get_or (take written ps) undone [] ∷ drop (undone + 1) (take written ps)
undone_first ps written undone low high =
    let long : length (take written ps) ≡ written = length-take-le written ps high in
    dropped (take written ps) undone [] (omega (arith, long, low))

undone_none : (ps : List Path) (written undone : ℕ) → written ≤ undone → drop undone (take written ps) ≡ []
undone_none ps written undone low = drop_of_length-le (take written ps) (omega (arith, length-take written ps, low))

not_ended : (c : Committing) (b : Bool) → asks_undo (cond b ask.Done (ask.Memory (memory.Finish c.revision))) ≡ true → ⊥
not_ended c true h = cc
not_ended c false h = cc

not_writing : (c : Committing) (ps : List Path) → asks_undo (write_due c ps) ≡ true → ⊥
not_writing c [] h = cc
not_writing c (p ∷ ps) h = cc

not_marking : (c : Committing) (fs : List Met) → asks_undo (mark_due c fs) ≡ true → ⊥
not_marking c [] h = not_writing c c.writer.left h
not_marking c (f ∷ fs) h = cc

not_looking : (c : Committing) (k : Option Look) → asks_undo (look_due c k) ≡ true → ⊥
not_looking c None h = not_marking c c.writer.due h
not_looking c (Some k) h = cc

some_undone : (c : Committing) (ps : List Path) → asks_undo (undo_due c ps) ≡ true → 0 < length ps
some_undone c [] h = absurd (not_ended c c.ended h)
some_undone c (p ∷ ps) h = omega arith

some_due : (c : Committing) (o : Option CommitEnd) → asks_undo (due_by c o) ≡ true → 0 < length c.writer.written
some_due c None h = absurd (not_looking c c.looking h)
some_due c (Some (end.Committed r)) h = absurd (not_ended c c.ended h)
some_due c (Some (end.Clash item o)) h = some_undone c c.writer.written h
some_due c (Some end.Memory) h = some_undone c c.writer.written h

-- the ids of a commit's documents are of nodes
node_keys : (ms : List MarkAt) (es : List (DocId × Bool)) → All (λ x. id.Node (names_of x) ≡ x) (keys_of es) → All (λ x. id.Node (names_of x) ≡ x) (keys_of (fold (λ es m. insert_entry id_cmp es (id.Node m.path) true) es ms))
node_keys [] es all = all
node_keys (m ∷ ms) es all = node_keys ms (insert_entry id_cmp es (id.Node m.path) true) (All-keys-insert_entry id_cmp (id.Node m.path) true (λ x. id.Node (names_of x) ≡ x) es all refl)

pub nodes : (ms : List MarkAt) → All (λ x. id.Node (names_of x) ≡ x) (written_ids ms)
nodes ms = node_keys ms [] (All-nil (λ x. id.Node (names_of x) ≡ x))

-- the id of the first of them is lent
pub lent : (ms : List MarkAt) (written undone : ℕ) (x : DocId) → undone < written → written ≤ length (written_paths ms) → x ≡ get_or (written_ids ms) undone x → option_map id.Node (slice_get (drop undone (take written (written_paths ms))) 0) ≡ Some x
lent ms written undone x low high is =
    let within : undone < length (written_ids ms) = omega (arith, low, high, length-map (written_ids ms) names_of) in
    ap (λ ps. option_map id.Node (slice_get ps 0)) (undone_first (written_paths ms) written undone low high)
    ∙ ap (λ p. Some (id.Node p)) (get_or-take written (written_paths ms) undone [] low ∙ get_or-map names_of (written_ids ms) undone x [] within)
    ∙ ap Some (All-get_or (λ y. id.Node (names_of y) ≡ y) (written_ids ms) undone x within (nodes ms) ∙ sym is)

-- ---- going on

-- what was found, and the commit roots
pub dues_met : (before : Option Document) (fs : List Met) → (before ≡ None → fs ≡ []) → map met_by (dues_in before fs) ≡ fs
dues_met None fs none = sym (none refl)
dues_met (Some d) [] none = refl
dues_met (Some d) (f ∷ fs) none = ap (λ gs. f ∷ gs) (dues_met (Some d) fs (λ e. cc))

pub dues_roots : (before : Option Document) (fs : List Met) → map (λ d. d.root) (dues_in before fs) ≡ roots_in before fs
dues_roots None fs = refl
dues_roots (Some d) [] = refl
dues_roots (Some d) (f ∷ fs) = ap (λ (ps : List Path). root_in d f.other ∷ ps) (dues_roots (Some d) fs)

-- ---- a committer as its fields say

-- a look is kept as the definition says
looked_settled : (c : Committing) (p : Path) (d : Document) (ids : List DocId) → c.looking ≡ None → with_look c (looked_at c.base c.revision c.marks p d ids) ≡ looking_on c p d ids
looked_settled c p d [] none =
    ap {A = List Met} {B = Committing} (λ fs. record c { writer = record c.writer { due = fs }; roots = map (λ e. e.root) (dues_in (Some d) met) }) (dues_met (Some d) met (λ e. cc))
    ∙ ap {A = List Path} {B = Committing} (λ ps. record c { writer = record c.writer { due = met }; roots = ps }) (dues_roots (Some d) met)
    ∙ ap {A = Option Look} {B = Committing} (λ k. record c { writer = record c.writer { due = met }; roots = roots_in (Some d) met; looking = k }) none
  where
    met : List Met
    met = found c.base c.revision p c.marks (Some d)
looked_settled c p d (i ∷ is) none = refl

module _ (r : Revision) (base : RevVec) (plan : Planned) (written undone : ℕ) (outcome : Option CommitEnd) (ended : Bool) (dues : List Due) (looking : Option Look) where
  abbrev paths : List Path
  paths = written_paths plan.marks

  abbrev c : Committing
  c = shown r base plan written undone dues looking outcome ended

  abbrev with_writer : List Path → List Path → List Met → List Path → Committing
  with_writer left ws fs roots = record c { writer = record c.writer { left = left; written = ws; due = fs }; roots = roots }

  -- how many documents are written, where one is to be undone
  pub undoing_within : asks_undo (due_of c) ≡ true → undone < written
  undoing_within h =
      let some : 0 < length (drop undone (take written paths)) = some_due c outcome h in
      omega (arith, some, length-drop undone (take written paths), length-take written paths)

  pub undo_shown : undone < written → written ≤ length paths → ask.Undo r ≡ undo_due c c.writer.written
  undo_shown low high = rw (undone_first paths written undone low high) refl

  pub undo_stage_shown : undone < written → written ≤ length paths → stage.Undo ≡ undo_stage c
  undo_stage_shown low high = rw (undone_first paths written undone low high) refl

  pub count_shown : undone < written → written ≤ length paths → shown r base plan written (undone + 1) dues looking outcome ended ≡ with_undone c
  count_shown low high =
      ap {A = List Path} {B = Committing} (λ ps. record c { writer = record c.writer { written = ps } })
      (sym (ap (drop 1) (undone_first paths written undone low high)))

  pub ended_not : undone < written → written ≤ length paths → c ≡ ended_by c c.writer.written
  ended_not low high = rw (undone_first paths written undone low high) refl

  -- a document is to be written
  pub write_shown : (x : DocId) → length dues ≤ 0 → IsAt (written_ids plan.marks) written x → ask.Update (write_op r plan.edit.writes plan.marks (names_of x)) ≡ mark_due c c.writer.due
  write_shown x none at = by dues none
    where
      by : (ds : List Due) → length ds ≤ 0 → ask.Update (write_op r plan.edit.writes plan.marks (names_of x)) ≡ mark_due c (map met_by ds)
      by [] none = rw (left_first (written_ids plan.marks) written x at) refl
      by (d ∷ ds) none = absurd (omega arith)

  abbrev next : Committing
  next = shown r base plan (written + 1) undone dues looking outcome ended

  -- one more document is written
  wrote_shown : (x : DocId) → undone ≤ written → IsAt (written_ids plan.marks) written x → next ≡ wrote c (names_of x) (drop (written + 1) paths)
  wrote_shown x low at = ap {A = List Path} {B = Committing} (λ ws. with_writer (drop (written + 1) paths) ws c.writer.due c.roots) (written_more (written_ids plan.marks) undone written x low at)

  -- a look at it, as it was before
  pub written_shown : (now : Looked) (before : Option Document) (x : DocId) → looking ≡ None → undone ≤ written → IsAt (written_ids plan.marks) written x → now ≡ looked_before base r plan.marks (names_of x) before → with_look next now ≡ written_by c c.writer.left before
  written_shown now before x none low at is =
      ap {A = Looked} {B = Committing} (with_look next) is
      ∙ ap {A = Committing} {B = Committing} (λ d. with_look d (looked_before base r plan.marks (names_of x) before)) (wrote_shown x low at)
      ∙ by before
      ∙ ap {A = List Path} {B = Committing} (λ left. written_by c left before) (sym (left_first (written_ids plan.marks) written x at))
    where
      by : (b : Option Document) → with_look (wrote c (names_of x) (drop (written + 1) paths)) (looked_before base r plan.marks (names_of x) b) ≡ written_by c (names_of x ∷ drop (written + 1) paths) b
      by None = ap {A = Option Look} {B = Committing} (λ k. record (meeting (wrote c (names_of x) (drop (written + 1) paths)) (names_of x) None) { looking = k }) none
      by (Some d) = looked_settled (wrote c (names_of x) (drop (written + 1) paths)) (names_of x) d (listed (names_of x) d) none

  -- it is written, but memory is wanted for the look
  pub wanting_shown : (before : Option Document) (x : DocId) → undone ≤ written → IsAt (written_ids plan.marks) written x → wanting next ≡ wanting (written_by c c.writer.left before)
  wanting_shown before x low at =
      ap {A = Committing} {B = Committing} wanting (wrote_shown x low at)
      ∙ by before
      ∙ ap {A = List Path} {B = Committing} (λ left. wanting (written_by c left before)) (sym (left_first (written_ids plan.marks) written x at))
    where
      ends : (d : Document) (ids : List DocId) → wanting (wrote c (names_of x) (drop (written + 1) paths)) ≡ wanting (looking_on (wrote c (names_of x) (drop (written + 1) paths)) (names_of x) d ids)
      ends d [] = refl
      ends d (i ∷ is) = refl

      by : (b : Option Document) → wanting (wrote c (names_of x) (drop (written + 1) paths)) ≡ wanting (written_by c (names_of x ∷ drop (written + 1) paths) b)
      by None = refl
      by (Some d) = ends d (listed (names_of x) d)

-- the reply tells of a document that is looked at
pub tells : (c : Committing) (before : Option Document) (p : Path) (ps : List Path) → c.outcome ≡ None → c.looking ≡ None → c.writer.due ≡ [] → c.writer.left ≡ p ∷ ps → looks_at c (reply.Updated before) ≡ true
tells c before p ps going looked none left = rw (going, looked, none, left) refl

pub tells_previous : (c : Committing) (k : Look) (previous : Option Document) → c.outcome ≡ None → c.looking ≡ Some k → looks_at c (reply.Found previous) ≡ true
tells_previous c k previous going looking = rw (going, looking) refl

-- ---- what a look has come to

pub settles_ok : (l : Result Looked AllocError) (c d end_ : Committing) (m : Looked) (r : Result Unit AllocError) → SettlesLook l c d r → IfOk l (λ k. k ≡ m) → with_look c m ≡ end_ → OnOk r (d ≡ end_)
settles_ok (Ok k) c d end_ m (Ok u) h is comes = h ∙ ap {A = Looked} {B = Committing} (with_look c) is ∙ comes
settles_ok (Ok k) c d end_ m (Err f) h is comes = tt
settles_ok (Err e) c d end_ m (Ok u) h is comes = absurd h
settles_ok (Err e) c d end_ m (Err f) h is comes = tt

pub settles_err : (l : Result Looked AllocError) (c d end_ : Committing) (r : Result Unit AllocError) → SettlesLook l c d r → wanting c ≡ end_ → OnErr r (d ≡ end_)
settles_err (Ok k) c d end_ (Ok u) h comes = tt
settles_err (Ok k) c d end_ (Err f) h comes = absurd h
settles_err (Err e) c d end_ (Ok u) h comes = tt
settles_err (Err e) c d end_ (Err f) h comes = h ∙ comes

pub only_err : (r : Result Unit AllocError) (b : Bool) → b ≡ true → OnErr r (IsTrue b)
only_err (Ok u) b h = tt
only_err (Err e) b h = h

-- a look goes on at a previous document
pub look_goes : (c : Committing) (k : Look) (previous : Option Document) → c.looking ≡ None → with_look c (looked_at c.base c.revision c.marks (names_of k.first) (with_found k.document previous) k.rest) ≡ fed_look (record c { looking = Some k }) k (reply.Found previous)
look_goes c k previous none = looked_settled c (names_of k.first) (with_found k.document previous) k.rest none ∙ by k.rest
  where
    by : (ids : List DocId) → looking_on c (names_of k.first) (with_found k.document previous) ids ≡ looking_on (record c { looking = Some k }) (names_of k.first) (with_found k.document previous) ids
    by [] = refl
    by (i ∷ is) = refl

pub look_wants : (c : Committing) (k : Look) (previous : Option Document) → wanting c ≡ wanting (fed_look (record c { looking = Some k }) k (reply.Found previous))
look_wants c k previous = by k.rest
  where
    by : (ids : List DocId) → wanting c ≡ wanting (looking_on (record c { looking = Some k }) (names_of k.first) (with_found k.document previous) ids)
    by [] = refl
    by (i ∷ is) = refl
