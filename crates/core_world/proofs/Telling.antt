-- The vectors of a document are raised: in background work and sweeps.
use Rattle.std.proofs.Common.{◌≡◌, ℕ, Bool, true, false, cond, ◌||◌, ◌⊎◌, [], inl, inr, Option, Some, is_some, refl, sym, ap, subst, ◌∙◌, List, filter_map}
use Rattle.std.specs.List.{list_all}
use Rattle.std.proofs.Math.Path.{fun_ext}
use Rattle.std.specs.Option.{option_map, option_map_or}
use Rattle.std.specs.Ordering.{eq_by_cmp}
use Rattle.jr_path.specs.Names.{path_cmp}
use Rattle.jr_path.specs.declared.path.Path.{Path}
use Rattle.jr_path.specs.declared.path.DocId.TheVariants as id
use Rattle.jr_rev.specs.declared.revision.Revision.{Revision}
use Rattle.jr_rev.specs.declared.vector.RevVec.{RevVec}
use Rattle.oak_commit.specs.Clashing.{collision, marked, noted}
use Rattle.oak_doc.specs.declared.document.Document.{Document}
use Rattle.oak_doc.specs.declared.update.UpdateOp.{UpdateOp}
use Rattle.oak_doc.specs.Updates.{after_changes}
use Rattle.oak_machine.specs.History.{Past}
use Rattle.oak_read.specs.Meaning.{commit_root_of, documents_in}
use Rattle.oak_store.specs.Tables.{Table, next_number, with_document}
use Rattle.core_read.specs.Committing.{is_marking}
use Rattle.core_read.specs.Holds.{root_entry}
use Rattle.core_keep.specs.Steps.{IsMainAt}
use Rattle.core_watch.proofs.GoingOn.{on_mark, on_others}
use Rattle.core_watch.proofs.StayingOn.{formers_mark, formers_others}
use Rattle.core_world.proofs.Letting.{LetsRead, lets_change}
use Rattle.core_clash.specs.Core.{Core, Docs, root_of}
use Rattle.core_clash.specs.Sessions.{Running}
use Rattle.std.specs.List.{list_any}
use Rattle.core_clash.specs.Sound.{Noticed, Sound, has_moved, marked_in}
use Rattle.core_clash.specs.Views.{AreOrdered}
use Rattle.core_clash.proofs.Basics.{at_document, same_path}
use Rattle.core_world.specs.Kept.{AreCommitting}
use Rattle.core_world.specs.States.{core_in, moved_in, nodes_in, origin}
use Rattle.core_world.proofs.Tables.{moved_stays, put_main, put_node}
use Rattle.core_world.proofs.Working.{world_of}
use Rattle.oak_machine.specs.declared.event.Start.{Start}
use Rattle.core_begun.proofs.World.{kept_mark_op, kept_settings}
use Rattle.core_begun.specs.Kept.{IsKeptSince}
use Rattle.core_begun.specs.Told.{IsToldSince}
use Rattle.jr_rev.specs.Vectors.{sees}

-- what a document shows that has other vectors is what it showed
same_shown : {X : Type 0} (F : Option Document → X) (docs : Docs) (p : Path) (d : Document) → F (Some d) ≡ F (docs p) → (q : Path) → F (Rattle.core_clash.specs.Core.with_document docs p d q) ≡ F (docs q)
same_shown F docs p d same q = by (eq_by_cmp path_cmp q p) refl
  where
    by : (b : Bool) → eq_by_cmp path_cmp q p ≡ b → F (cond b (Some d) (docs q)) ≡ F (docs q)
    by true h = same ∙ ap (λ (x : Path). F (docs x)) (sym (same_path q p h))
    by false h = refl

-- a document with other vectors and another number
abbrev pub revectored : Document → RevVec → RevVec → ℕ → Document
revectored d l v n = record d { last_rev = l; sweep_rev = v; mod_count = n }

module _ (k : Core) (sound : Sound k) (p : Path) (d : Document) (there : k.docs p ≡ Some d) (l v : RevVec) (n : ℕ) where
  abbrev now : Docs
  now = Rattle.core_clash.specs.Core.with_document k.docs p (revectored d l v n)

  shown : {X : Type 0} (F : Option Document → X) → F (Some (revectored d l v n)) ≡ F (Some d) → (q : Path) → F (Rattle.core_clash.specs.Core.with_document k.docs p (revectored d l v n) q) ≡ F (k.docs q)
  shown F same q = same_shown F k.docs p (revectored d l v n) (same ∙ ap F (sym there)) q

  ordered : (q : Path) → AreOrdered q (Rattle.core_clash.specs.Core.with_document k.docs p (revectored d l v n) q)
  ordered q = at_document AreOrdered k.docs p (revectored d l v n) q
      (let o = subst (λ (o : Option Document). AreOrdered p o) there (sound.ordered p) in (o.0, record { names = o.1.names }))
      (sound.ordered q)

  notices : (r o : Revision) → Noticed k r o → Noticed (record k { number = n; docs = now }) r o
  notices r o (inl a) = inl a
  notices r o (inr (inl a)) = inr (inl a)
  notices r o (inr (inr a)) = inr (inr (shown (λ x. is_some (collision x o)) refl (root_of k.past o) ∙ a))

  either : (r o : Revision) → Noticed k r o ⊎ Noticed k o r → Noticed (record k { number = n; docs = now }) r o ⊎ Noticed (record k { number = n; docs = now }) o r
  either r o (inl a) = inl (notices r o a)
  either r o (inr a) = inr (notices o r a)

  same_marks : (r : Revision) (q : Path) (m : Rattle.oak_clash.specs.declared.mark.Mark.Mark) → marked_in (Rattle.core_clash.specs.Core.with_document k.docs p (revectored d l v n) q) (k.moved q) r m ≡ marked_in (k.docs q) (k.moved q) r m
  same_marks r q m = ap (λ b. b || list_any (has_moved r m) (k.moved q)) (shown (λ x. marked x r m) refl q)

  pub vectors_sound : Sound (record k { number = n; docs = Rattle.core_clash.specs.Core.with_document k.docs p (revectored d l v n) })
  vectors_sound = record {
    ordered = ordered;
    edits = sound.edits;
    committed_drawn = sound.committed_drawn;
    refused_drawn = sound.refused_drawn;
    ended_drawn = sound.ended_drawn;
    settled = sound.settled;
    start = sound.start;
    new = sound.new;
    bounds = sound.bounds;
    moved = sound.moved;
    entries = λ r q m free w i. same_marks r q m ∙ sound.entries r q m free w i;
    origin = λ r q m h. sound.origin r q m (sym (same_marks r q m) ∙ h);
    rooted = λ r q m fresh other h. shown (λ x. option_map (λ d. commit_root_of d r) x) refl q ∙ sound.rooted r q m fresh other (sym (same_marks r q m) ∙ h);
    unrooted = λ r q h. sound.unrooted r q (sym (shown (λ x. is_some (root_entry x r)) refl q) ∙ h);
    listed = sound.listed;
    once = sound.once;
    covered = sound.covered;
    refused = sound.refused;
    ended = sound.ended;
    stopped = sound.stopped;
    refusal = sound.refusal;
    due = sound.due;
    caused = λ q r o item h. sound.caused q r o item (sym (shown (λ x. collision x r) refl q) ∙ h);
    status = λ r fresh h. shown (λ x. noted x r) refl (root_of k.past r) ∙ sound.status r fresh h;
    only_committed = λ q r h. sound.only_committed q r (sym (shown (λ x. noted x r) refl q) ∙ h);
    whole = sound.whole;
    unmarked = λ r h. shown (λ x. is_some (collision x r)) refl (root_of k.past r) ∙ sound.unmarked r h;
    noticed = λ r o q a b apart i j c. either r o (sound.noticed r o q a b apart (record { written = i.written; going = i.going; mark = i.mark }) (record { written = j.written; going = j.going; mark = j.mark }) c);
  }

-- the number of the last update is no matter
pub numbered_sound : (k : Core) → Sound k → (n : ℕ) → Sound (record k { number = n })
numbered_sound k sound n = record {
  ordered = sound.ordered;
  edits = sound.edits;
  committed_drawn = sound.committed_drawn;
  refused_drawn = sound.refused_drawn;
  ended_drawn = sound.ended_drawn;
  settled = sound.settled;
  start = sound.start;
  new = sound.new;
  bounds = sound.bounds;
  moved = sound.moved;
  entries = sound.entries;
  origin = sound.origin;
  rooted = sound.rooted;
  unrooted = sound.unrooted;
  listed = sound.listed;
  once = sound.once;
  covered = sound.covered;
  refused = sound.refused;
  ended = sound.ended;
  stopped = sound.stopped;
  refusal = sound.refusal;
  due = sound.due;
  caused = sound.caused;
  status = sound.status;
  only_committed = sound.only_committed;
  whole = sound.whole;
  unmarked = sound.unmarked;
  noticed = λ r o q a b apart i j c. sound.noticed r o q a b apart (record { written = i.written; going = i.going; mark = i.mark }) (record { written = j.written; going = j.going; mark = j.mark }) c;
}

-- a table with the same documents of nodes
module _ (start : Start) (past : Past) (t u : Table) (running : ℕ → Option Running) (a : AreCommitting start past t running) (told : IsToldSince start past) (same : (p : Path) → nodes_in u p ≡ nodes_in t p) (previous : (k : ℕ) (p : Path) → documents_in u.documents (id.Prev k p) ≡ documents_in t.documents (id.Prev k p)) where
  pub same_world : IsKeptSince start (documents_in u.documents) past (λ r. Rattle.core_world.specs.Kept.has_written (a.writers r))
  same_world = kept_settings start (documents_in t.documents) (documents_in u.documents) past _ (world_of start past t running a told) same previous

  -- what documents list stays
  same_moved : moved_in u ≡ moved_in t
  same_moved = fun_ext (λ p.
      ap (λ (f : ℕ → Option Document). option_map_or (λ d. filter_map (λ e. f e.number) d.prev) (nodes_in u p) []) (fun_ext (λ k. previous k p))
      ∙ ap (λ (o : Option Document). option_map_or (λ d. filter_map (λ e. documents_in t.documents (id.Prev e.number p)) d.prev) o []) (same p))

  -- readers read on
  pub nodes_let : LetsRead start t u past past
  nodes_let = lets_change start t u past told (λ pin held. on_others start pin (documents_in t.documents) (documents_in u.documents) past _ (world_of start past t running a told) held same previous)
      (λ formers l. formers_others start (documents_in t.documents) (documents_in u.documents) past _ (world_of start past t running a told) same previous formers l)

  pub nodes_commit : AreCommitting start past u running
  nodes_commit = record {
    writers = a.writers;
    sound = subst (λ (docs : Docs). Sound (record { old = sees start.at; number = u.number; docs = docs; moved = moved_in u; past = past; writers = a.writers })) (sym (fun_ext same))
        (subst (λ (moved : Path → List Document). Sound (record { old = sees start.at; number = u.number; docs = nodes_in t; moved = moved; past = past; writers = a.writers })) (sym same_moved) (numbered_sound (core_in start past t a.writers) a.sound u.number));
    theirs = a.theirs;
    listed = a.listed;
    kept = same_world;
    unstopped = a.unstopped;
  }

module _ (start : Start) (past : Past) (t : Table) (running : ℕ → Option Running) (a : AreCommitting start past t running) (told : IsToldSince start past) (p : Path) (d : Document) (there : nodes_in t p ≡ Some d) (op : UpdateOp) (at : op.id ≡ id.Node p) (all : list_all is_marking op.changes ≡ true)
    (l v : RevVec) (is : after_changes (Some d) op (next_number t) ≡ revectored d l v (next_number t)) where
  abbrev n : ℕ
  n = next_number t

  abbrev after : Table
  after = with_document t (id.Node p) (revectored d l v (next_number t)) (next_number t)

  made : after_changes (nodes_in t p) op (next_number t) ≡ revectored d l v (next_number t)
  made = ap (λ (o : Option Document). after_changes o op (next_number t)) there ∙ is

  main : IsMainAt (documents_in t.documents) (documents_in after.documents) p (after_changes (nodes_in t p) op n)
  main = subst (λ (x : Document). IsMainAt (documents_in t.documents) (documents_in after.documents) p x) (sym made) (put_main t p (revectored d l v n) n)

  -- it lists what it listed
  same_prev : (revectored d l v n).prev ≡ option_map_or (λ d. d.prev) (nodes_in t p) []
  same_prev = sym (ap (λ (o : Option Document). option_map_or (λ d. d.prev) o []) there)

  world : IsKeptSince start (documents_in after.documents) past (λ r. Rattle.core_world.specs.Kept.has_written (a.writers r))
  world = kept_mark_op start (documents_in t.documents) (documents_in after.documents) past _ (world_of start past t running a told) p op n at all main

  -- the committers are as they were
  pub vectors_commit : AreCommitting start past (with_document t (id.Node p) (revectored d l v (next_number t)) (next_number t)) running
  vectors_commit = record {
    writers = a.writers;
    sound = subst (λ (docs : Docs). Sound (record { old = sees start.at; number = n; docs = docs; moved = moved_in after; past = past; writers = a.writers })) (sym (put_node t p (revectored d l v n) n))
        (subst (λ (moved : Path → List Document). Sound (record { old = sees start.at; number = n; docs = Rattle.core_clash.specs.Core.with_document (nodes_in t) p (revectored d l v n); moved = moved; past = past; writers = a.writers }))
        (sym (moved_stays t after p (revectored d l v n) (put_main t p (revectored d l v n) n) same_prev)) (vectors_sound (core_in start past t a.writers) a.sound p d there l v n));
    theirs = a.theirs;
    listed = a.listed;
    kept = world;
    unstopped = a.unstopped;
  }

  -- readers read on
  pub vectors_let : LetsRead start t (with_document t (id.Node p) (revectored d l v (next_number t)) (next_number t)) past past
  vectors_let = lets_change start t after past told (λ pin held. on_mark start pin (documents_in t.documents) (documents_in after.documents) past _ (world_of start past t running a told) held p op n at all main)
      (λ formers k. formers_mark start (documents_in t.documents) (documents_in after.documents) past _ (world_of start past t running a told) p op n at all main formers k)
