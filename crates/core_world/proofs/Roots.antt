-- The root's document, after a step.
use Rattle.std.proofs.Common.{◌≡◌, ℕ, ◌≤◌, Bool, true, false, cond, not, ◌&&◌, ◌⊎◌, inl, inr, Option, Some, None, List, [], ◌∷◌, fold, is_none, refl, sym, ap, subst, ◌∙◌, arith}
use Rattle.std.specs.Prelude.{◌==◌, Result, Ok, Err}
use Rattle.std.specs.List.{flat_map, list_all}
use Rattle.std.specs.Ordering.{eq_by_cmp}
use Rattle.std.specs.Option.{option_map_or}
use mathlib.Core.Bool.{false≢true}
use Rattle.jr_path.specs.Names.{path_cmp}
use Rattle.jr_path.specs.declared.path.Path.{Path}
use Rattle.jr_path.specs.declared.path.DocId.TheVariants as id
use Rattle.jr_rev.specs.declared.revision.Revision.{Revision}
use Rattle.jr_rev.specs.declared.vector.RevVec.{RevVec}
use Rattle.jr_rev.specs.Revisions.{is_at_most}
use Rattle.jr_rev.specs.Vectors.{sees, start, start_of, raised}
use Rattle.jr_tree.specs.declared.edit.Write.{Write}
use Rattle.jr_tree.specs.declared.edit.Write.TheVariants.{Here, Gone, Put, Unset}
use Rattle.oak_clash.specs.Clashes.{commit_root, marks_at}
use Rattle.oak_clash.specs.declared.mark.Mark.{Mark}
use Rattle.oak_clash.specs.declared.mark.Mark.TheVariants.{Exists, Guard, Touch, Prop}
use Rattle.oak_clash.specs.declared.mark.MarkAt.{MarkAt}
use Rattle.oak_commit.specs.Writing.{entries_at, entry_of, marking_of, rooting, write_op}
use Rattle.oak_doc.specs.declared.document.Document.{Document}
use Rattle.oak_doc.specs.declared.update.Change.{Change}
use Rattle.oak_doc.specs.declared.update.Change.TheVariants as change
use Rattle.oak_doc.specs.declared.update.EntryKey.{EntryKey}
use Rattle.oak_doc.specs.declared.update.Field.{Field}
use Rattle.oak_doc.specs.declared.update.Field.TheVariants as field
use Rattle.oak_doc.specs.declared.update.OpFault.{OpFault}
use Rattle.oak_doc.specs.declared.update.OpFault.TheVariants as fault
use Rattle.oak_doc.specs.declared.update.UpdateOp.{UpdateOp}
use Rattle.oak_doc.specs.Updates.{after_changes, changed, is_met, pruned, update_refusal, undone}
use Rattle.oak_machine.specs.declared.event.Event.{Event}
use Rattle.oak_machine.specs.declared.event.Event.TheVariants as event
use Rattle.oak_machine.specs.History.{Past, Begin, begin_of}
use Rattle.oak_machine.specs.Heads.{greater_of, outs_of, published}
use Rattle.oak_machine.specs.Runs.{IsNode}
use Rattle.oak_store.specs.Tables.{Table, after_undo, found, next_number, with_document}
use Rattle.core_read.proofs.Latest.{at_most_trans}
use Rattle.core_heads.specs.Sound.{IsIn, Public}
use Rattle.core_heads.proofs.Below.{raised_stands, start_stands}
use Rattle.core_heads.proofs.Entries.{raised_length, raised_own, raised_sees, seen_raised, start_begun, start_sees}
use Rattle.core_heads.proofs.Orders.{at_most_itself, fold_each, fold_first, fold_has, same_itself, same_number}
use Rattle.core_nodes.specs.Nodes.{IsOnRoot}
use Rattle.core_world.specs.Kept.{IsRootKept, SeesStarts}
use Rattle.core_world.specs.States.{nodes_in}
use Rattle.core_world.specs.Steps.{after_update, with_result}
use Rattle.core_world.proofs.Tables.{put_is, undo_at, undo_none, same_node}
use Rattle.core_world.proofs.Writing.{all_append, all_flat}

-- ---- what is public

-- an event that publishes nothing
abbrev pub publishes : Event → Bool
publishes (event.Out k r) = true
publishes _ = false

quiet_outs : (e : Event) (past : Past) (k : ℕ) → publishes e ≡ false → outs_of (e ∷ past) k ≡ outs_of past k
quiet_outs (event.Out m r) past k h = absurd (false≢true (sym h))
quiet_outs e past k h = refl

quiet_published : (begin : Begin) (e : Event) (past : Past) (k : ℕ) → publishes e ≡ false → published begin (e ∷ past) k ≡ published begin past k
quiet_published begin e past k h = ap (λ (rs : List Revision). fold greater_of (begin_of begin k) rs) (quiet_outs e past k h)

-- leaves what the root told
pub on_root_quiet : (clusters : ℕ) (begin : Begin) (past : Past) (e : Event) (last sweep : RevVec) → publishes e ≡ false → IsOnRoot begin clusters past last sweep → IsOnRoot begin clusters (e ∷ past) last sweep
on_root_quiet clusters begin past e last sweep h root = record {
  vector = root.vector;
  public = λ x. (
    λ s. let p = (root.public x).0 s in (p.0, subst (λ (r : Revision). is_at_most x r ≡ true) (sym (quiet_published begin e past x.cluster h)) p.1),
    λ p. (root.public x).1 (p.0, subst (λ (r : Revision). is_at_most x r ≡ true) (quiet_published begin e past x.cluster h) p.1),
  );
  pair = root.pair;
}

pub root_quiet : (clusters : ℕ) (begin : Begin) (past : Past) (t : Table) (e : Event) → publishes e ≡ false → IsRootKept begin clusters past t → IsRootKept begin clusters (e ∷ past) t
root_quiet clusters begin past t e h root = record { document = root.document; there = root.there; tells = on_root_quiet clusters begin past e root.document.last_rev root.document.sweep_rev h root.tells; begun = root.begun }

-- what the root tells at the start
pub root_start : (clusters : ℕ) → clusters ≤ 8 → 1 ≤ clusters → IsOnRoot None clusters [] (start clusters) (start clusters)
root_start clusters eight some = record {
  vector = record { eight = refl; stands = start_stands clusters };
  public = λ x. (λ s. start_sees clusters x s, λ p. start_public clusters x eight p.0 p.1);
  pair = record { vector = record { eight = refl; stands = start_stands clusters }; begun = start_begun clusters some; below = λ x h. h };
}
  where
    start_public : (clusters : ℕ) (x : Revision) → clusters ≤ 8 → IsNode clusters x.cluster → is_at_most x (start_of x.cluster) ≡ true → sees (start clusters) x ≡ true
    start_public clusters x eight node h = ap (λ o. option_map_or (is_at_most x) o false) (Rattle.core_nodes.proofs.Events.start_entry clusters x.cluster eight node) ∙ h

-- ---- what is published and swept

module _ (clusters : ℕ) (begin : Begin) (eight : clusters ≤ 8) (past : Past) (last sweep : RevVec) (root : IsOnRoot begin clusters past last sweep) (k : ℕ) (node : IsNode clusters k) (r : Revision) (of : r.cluster ≡ k) where
  later : Past
  later = event.Out k r ∷ past

  -- at most what k has published then: at most r, or at most what it had published
  split : (x : Revision) → is_at_most x (fold greater_of (begin_of begin k) (r ∷ outs_of past k)) ≡ true → (is_at_most x r ≡ true) ⊎ (is_at_most x (published begin past k) ≡ true)
  split x h = fold_has (λ q. is_at_most x q ≡ true → (is_at_most x r ≡ true) ⊎ (is_at_most x (published begin past k) ≡ true)) (begin_of begin k) (r ∷ outs_of past k)
      (λ a. inr (at_most_trans x (begin_of begin k) (published begin past k) a (fold_first (begin_of begin k) (outs_of past k))))
      each h
    where
      each : (q : Revision) → IsIn q (r ∷ outs_of past k) → is_at_most x q ≡ true → (is_at_most x r ≡ true) ⊎ (is_at_most x (published begin past k) ≡ true)
      each q (inl e) a = inl (subst (λ (y : Revision). is_at_most x y ≡ true) (sym e) a)
      each q (inr i) a = inr (at_most_trans x q (published begin past k) a (fold_each (begin_of begin k) (outs_of past k) q i))

  out_is : published begin (event.Out k r ∷ past) k ≡ fold greater_of (begin_of begin k) (r ∷ outs_of past k)
  out_is = ap (λ b. fold greater_of (begin_of begin k) (cond b (r ∷ outs_of past k) (outs_of past k))) (same_itself k)

  grows : (j : ℕ) → is_at_most (published begin past j) (published begin (event.Out k r ∷ past) j) ≡ true
  grows j = by (k == j)
    where
      by : (b : Bool) → is_at_most (fold greater_of (begin_of begin j) (outs_of past j)) (fold greater_of (begin_of begin j) (cond b (r ∷ outs_of past j) (outs_of past j))) ≡ true
      by false = at_most_itself (published begin past j)
      by true = fold_has (λ x. is_at_most x (fold greater_of (begin_of begin j) (r ∷ outs_of past j)) ≡ true) (begin_of begin j) (outs_of past j) (fold_first (begin_of begin j) (r ∷ outs_of past j)) (λ q i. fold_each (begin_of begin j) (r ∷ outs_of past j) q (inr i))

  to_public : (x : Revision) → sees (raised last r) x ≡ true → Public clusters begin (event.Out k r ∷ past) x
  to_public x h = by (seen_raised last r x h)
    where
      by : (sees last x ≡ true) ⊎ ((x.cluster ≡ r.cluster) × (is_at_most x r ≡ true)) → Public clusters begin (event.Out k r ∷ past) x
      by (inl s) = let p = (root.public x).0 s in (p.0, at_most_trans x (published begin past x.cluster) (published begin (event.Out k r ∷ past) x.cluster) p.1 (grows x.cluster))
      by (inr p) = subst (λ (j : ℕ). IsNode clusters j × (is_at_most x (published begin (event.Out k r ∷ past) j) ≡ true)) (sym (p.0 ∙ of))
          (node, at_most_trans x r (published begin (event.Out k r ∷ past) k) p.1 (subst (λ (y : Revision). is_at_most r y ≡ true) (sym out_is) (fold_each (begin_of begin k) (r ∷ outs_of past k) r (inl refl))))

  from_public : (x : Revision) → Public clusters begin (event.Out k r ∷ past) x → sees (raised last r) x ≡ true
  from_public x p = by (k == x.cluster) refl
    where
      from : x.cluster ≡ k → (is_at_most x r ≡ true) ⊎ (is_at_most x (published begin past k) ≡ true) → sees (raised last r) x ≡ true
      from same (inl a) =
          let n = node.1 in
          raised_own last r x (subst (λ (j : ℕ). 1 ≤ j) (sym of) node.0) (subst (λ (j : ℕ). j ≤ 8) (sym of) (omega arith)) root.vector.eight (same ∙ sym of) a
      from same (inr a) = raised_sees last r x ((root.public x).1 (p.0, subst (λ (j : ℕ). is_at_most x (published begin past j) ≡ true) (sym same) a))

      by : (b : Bool) → (k == x.cluster) ≡ b → sees (raised last r) x ≡ true
      by false h = raised_sees last r x ((root.public x).1 (p.0, subst (λ (b : Bool). is_at_most x (fold greater_of (begin_of begin x.cluster) (cond b (r ∷ outs_of past x.cluster) (outs_of past x.cluster))) ≡ true) h p.1))
      by true h =
          let same : x.cluster ≡ k = sym (same_number k x.cluster h) in
          from same (split x (subst (λ (y : Revision). is_at_most x y ≡ true) out_is (subst (λ (j : ℕ). is_at_most x (published begin (event.Out k r ∷ past) j) ≡ true) same p.1)))

  pub root_out : IsOnRoot begin clusters (event.Out k r ∷ past) (raised last r) sweep
  root_out = record {
    vector = record { eight = raised_length last r ∙ root.vector.eight; stands = raised_stands last r root.vector.stands };
    public = λ x. (to_public x, from_public x);
    pair = record { vector = root.pair.vector; begun = root.pair.begun; below = λ x h. raised_sees last r x (root.pair.below x h) };
  }

  -- r is public then
  pub out_now : is_at_most r (published begin (event.Out k r ∷ past) k) ≡ true
  out_now = subst (λ (y : Revision). is_at_most r y ≡ true) (sym out_is) (fold_each (begin_of begin k) (r ∷ outs_of past k) r (inl refl))

  -- r is public, and is swept now
  pub root_swept : is_at_most r (published begin past k) ≡ true → IsOnRoot begin clusters past last (raised sweep r)
  root_swept low = record {
    vector = root.vector;
    public = root.public;
    pair = record {
      vector = record { eight = raised_length sweep r ∙ root.pair.vector.eight; stands = raised_stands sweep r root.pair.vector.stands };
      begun = raised_sees sweep r (start_of 1) root.pair.begun;
      below = λ x h. by x (seen_raised sweep r x h);
    };
  }
    where
      by : (x : Revision) → (sees sweep x ≡ true) ⊎ ((x.cluster ≡ r.cluster) × (is_at_most x r ≡ true)) → sees last x ≡ true
      by x (inl s) = root.pair.below x s
      by x (inr p) = (root.public x).1 (subst (λ (j : ℕ). IsNode clusters j × (is_at_most x (published begin past j) ≡ true)) (sym (p.0 ∙ of)) (node, at_most_trans x r (published begin past k) p.1 low))

-- ---- changes that leave both vectors

abbrev pub leaves_vectors : Change → Bool
leaves_vectors (change.LastRev r) = false
leaves_vectors (change.SweepRev r) = false
leaves_vectors _ = true

-- both vectors of a document
abbrev pub vectors_of : Document → RevVec × RevVec
vectors_of d = (d.last_rev, d.sweep_rev)

pruned_vectors : (keys : List EntryKey) (d : Document) → vectors_of (fold pruned d keys) ≡ vectors_of d
pruned_vectors [] d = refl
pruned_vectors (k ∷ ks) d = pruned_vectors ks (pruned d k) ∙ one k.field
  where
    one : (f : Field) → vectors_of (pruned d (record k { field = f })) ≡ vectors_of d
    one field.Deleted = refl
    one field.CommitRoot = refl
    one field.Revisions = refl
    one field.Collisions = refl
    one field.Touched = refl
    one field.Guard = refl
    one (field.Prop n) = refl

changed_vectors : (c : Change) (d : Document) → leaves_vectors c ≡ true → vectors_of (changed d c) ≡ vectors_of d
changed_vectors (change.LastRev r) d h = absurd (false≢true h)
changed_vectors (change.SweepRev r) d h = absurd (false≢true h)
changed_vectors (change.Prune keys) d h = pruned_vectors keys d
changed_vectors c d h = refl

both : (a b : Bool) → (a && b) ≡ true → (a ≡ true) × (b ≡ true)
both true b h = (refl, h)
both false b h = absurd (false≢true h)

folded_vectors : (cs : List Change) (d : Document) → list_all leaves_vectors cs ≡ true → vectors_of (fold changed d cs) ≡ vectors_of d
folded_vectors [] d h = refl
folded_vectors (c ∷ cs) d h = let b = both (leaves_vectors c) (list_all leaves_vectors cs) h in folded_vectors cs (changed d c) b.1 ∙ changed_vectors c d b.0

-- ---- tables

module _ (clusters : ℕ) (begin : Begin) (past : Past) (t : Table) (root : IsRootKept begin clusters past t) where
  same_vectors : (u : Table) (d : Document) → nodes_in u [] ≡ Some d → vectors_of d ≡ vectors_of root.document → IsRootKept begin clusters past u
  same_vectors u d there same = record { document = d; there = there; tells = subst (λ (p : RevVec × RevVec). IsOnRoot begin clusters past p.0 p.1) (sym same) root.tells; begun = subst (λ (p : RevVec × RevVec). SeesStarts clusters p.1) (sym same) root.begun }

  put_root : (p : Path) (d : Document) (n : ℕ) → ((e : Document) → nodes_in t p ≡ Some e → vectors_of d ≡ vectors_of e) → IsRootKept begin clusters past (with_document t (id.Node p) d n)
  put_root p d n same = by (eq_by_cmp path_cmp [] p) refl
    where
      at : nodes_in (with_document t (id.Node p) d n) [] ≡ cond (eq_by_cmp path_cmp [] p) (Some d) (nodes_in t [])
      at = put_is t (id.Node p) d n (id.Node []) ∙ ap (λ b. cond b (Some d) (nodes_in t [])) (same_node [] p)

      by : (b : Bool) → eq_by_cmp path_cmp [] p ≡ b → IsRootKept begin clusters past (with_document t (id.Node p) d n)
      by true h = same_vectors (with_document t (id.Node p) d n) d (at ∙ ap (λ b. cond b (Some d) (nodes_in t [])) h)
          (same root.document (ap (nodes_in t) (sym (Rattle.core_clash.proofs.Basics.same_path [] p h)) ∙ root.there))
      by false h = same_vectors (with_document t (id.Node p) d n) root.document (at ∙ (ap (λ b. cond b (Some d) (nodes_in t [])) h ∙ root.there)) refl

  -- an update that leaves both vectors
  pub update_root : (p : Path) (op : UpdateOp) → op.id ≡ id.Node p → list_all leaves_vectors op.changes ≡ true → IsRootKept begin clusters past (after_update t op)
  update_root p op at all = by (is_none (found t op.id) && not op.create) (is_met (found t op.id) op.cond) (update_refusal (found t op.id) op.cond)
    where
      made : Document
      made = after_changes (found t op.id) op (next_number t)

      same : (e : Document) → found t op.id ≡ Some e → vectors_of made ≡ vectors_of e
      same e there = ap (λ (o : Option Document). vectors_of (after_changes o op (next_number t))) there ∙ folded_vectors op.changes e all

      by : (a b : Bool) (g : OpFault) → IsRootKept begin clusters past (with_result t op.id (cond a (Err fault.Absent) (cond b (Ok made) (Err g))))
      by true b g = root
      by false true g = subst (λ i. IsRootKept begin clusters past (with_document t i made (next_number t))) (sym at) (put_root p made (next_number t) (λ e there. same e (ap (found t) at ∙ there)))
      by false false g = root

  -- an update of another document
  pub update_elsewhere : (p : Path) (op : UpdateOp) → op.id ≡ id.Node p → eq_by_cmp path_cmp [] p ≡ false → IsRootKept begin clusters past (after_update t op)
  update_elsewhere p op at other = by (is_none (found t op.id) && not op.create) (is_met (found t op.id) op.cond) (update_refusal (found t op.id) op.cond)
    where
      made : Document
      made = after_changes (found t op.id) op (next_number t)

      by : (a b : Bool) (g : OpFault) → IsRootKept begin clusters past (with_result t op.id (cond a (Err fault.Absent) (cond b (Ok made) (Err g))))
      by true b g = root
      by false true g = subst (λ i. IsRootKept begin clusters past (with_document t i made (next_number t))) (sym at)
          (same_vectors (with_document t (id.Node p) made (next_number t)) root.document (put_is t (id.Node p) made (next_number t) (id.Node []) ∙ (ap (λ b. cond b (Some made) (nodes_in t [])) (same_node [] p ∙ other) ∙ root.there)) refl)
      by false false g = root

  pub undo_root : (p : Path) (r : Revision) → IsRootKept begin clusters past (after_undo t (id.Node p) r)
  undo_root p r = by (found t (id.Node p)) refl
    where
      by : (o : Option Document) → found t (id.Node p) ≡ o → IsRootKept begin clusters past (after_undo t (id.Node p) r)
      by None is = same_vectors (after_undo t (id.Node p) r) root.document (ap (λ es. Rattle.oak_read.specs.Meaning.documents_in es (id.Node [])) (undo_none t p r is) ∙ root.there) refl
      by (Some d) is = at (eq_by_cmp path_cmp [] p) refl
        where
          now : nodes_in (after_undo t (id.Node p) r) [] ≡ cond (eq_by_cmp path_cmp [] p) (Some (undone d r (next_number t))) (nodes_in t [])
          now = undo_at t p r d is (id.Node []) ∙ ap (λ b. cond b (Some (undone d r (next_number t))) (nodes_in t [])) (same_node [] p)

          one : Document → Option Document → Document
          one e (Some f) = f
          one e None = e

          at : (b : Bool) → eq_by_cmp path_cmp [] p ≡ b → IsRootKept begin clusters past (after_undo t (id.Node p) r)
          at true h = same_vectors (after_undo t (id.Node p) r) (undone d r (next_number t)) (now ∙ ap (λ b. cond b (Some (undone d r (next_number t))) (nodes_in t [])) h)
              (ap (λ (o : Option Document). vectors_of (one d o)) (sym is ∙ (ap (nodes_in t) (sym (Rattle.core_clash.proofs.Basics.same_path [] p h)) ∙ root.there)))
          at false h = same_vectors (after_undo t (id.Node p) r) root.document (now ∙ (ap (λ b. cond b (Some (undone d r (next_number t))) (nodes_in t [])) h ∙ root.there)) refl

-- a committer's write leaves both vectors
pub write_leaves : (r : Revision) (ws : List Write) (ms : List MarkAt) (p : Path) → list_all leaves_vectors (write_op r ws ms p).changes ≡ true
write_leaves r ws ms p =
    all_append leaves_vectors (entries_at r p ws) _ (all_flat leaves_vectors (entry_of r p) entry ws)
    (all_append leaves_vectors (rooting r p (commit_root ms)) _ (rooted (eq_by_cmp path_cmp p (commit_root ms))) (all_flat leaves_vectors (marking_of r) marking (marks_at p ms)))
  where
    when : (b : Bool) (c : Change) → leaves_vectors c ≡ true → list_all leaves_vectors (cond b (c ∷ []) []) ≡ true
    when true c h = ap (λ b. b && true) h
    when false c h = refl

    entry : (w : Write) → list_all leaves_vectors (entry_of r p w) ≡ true
    entry (Here q) = when (eq_by_cmp path_cmp p q) (change.Deleted r false) refl
    entry (Gone q) = when (eq_by_cmp path_cmp p q) (change.Deleted r true) refl
    entry (Put q m x) = when (eq_by_cmp path_cmp p q) (change.Prop m r (Some x)) refl
    entry (Unset q m) = when (eq_by_cmp path_cmp p q) (change.Prop m r None) refl

    rooted : (b : Bool) → list_all leaves_vectors (cond b [] (change.CommitRoot r (Rattle.std.specs.Prelude.length (commit_root ms)) ∷ [])) ≡ true
    rooted true = refl
    rooted false = refl

    marking : (m : Mark) → list_all leaves_vectors (marking_of r m) ≡ true
    marking Exists = refl
    marking Guard = refl
    marking Touch = refl
    marking (Prop n) = refl

-- ---- starts

-- the start sees each
pub starts_seen : (clusters : ℕ) → clusters ≤ 8 → SeesStarts clusters (start clusters)
starts_seen clusters eight k node = ap (λ o. option_map_or (is_at_most (start_of k)) o false) (Rattle.core_nodes.proofs.Events.start_entry clusters k eight node) ∙ at_most_itself (start_of k)

-- a vector that is raised sees what it saw
pub starts_raised : (clusters : ℕ) (begin : Begin) (v : RevVec) (r : Revision) → SeesStarts clusters v → SeesStarts clusters (raised v r)
starts_raised clusters begin v r begun k node = raised_sees v r (start_of k) (begun k node)
