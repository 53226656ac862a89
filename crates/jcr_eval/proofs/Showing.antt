-- What an event is that shows a text, and that such an event shows it.
use Rattle.std.proofs.Common.{◌≡◌, ℕ, true, ◌&&◌, ◌==◌, List, refl, sym, ap, subst, ◌∙◌}
use Rattle.std.specs.Ordering.{eq_by_cmp, is_eq}
use Rattle.std.proofs.lemmas.Bool.{true≢false}
use Rattle.std.proofs.lemmas.Bool.Decides.{Decides-eqb}
use Rattle.std.proofs.lemmas.Cmp.{nat_list_cmp_total, tied_itself}
use Rattle.std.proofs.lemmas.Slice.Eq.{bytes_eq-Decides}
use Rattle.jr_path.specs.Names.{path_cmp}
use Rattle.jr_path.specs.declared.path.Path.{Path}
use Rattle.jr_path.specs.Lists.{Text}
use Rattle.jr_path.proofs.Maps.{name_exact, path_exact, path_total}
use Rattle.jr_path.proofs.Orders.{tested}
use Rattle.jr_rev.specs.declared.revision.Revision.{Revision}
use Rattle.jr_rev.specs.declared.vector.RevVec.{RevVec}
use Rattle.jr_rev.specs.Revisions.{is_at_most, is_same}
use Rattle.jr_rev.proofs.Order.{revision_total, same_revision}
use Rattle.oak_doc.specs.declared.asks.Collected.{Collected}
use Rattle.oak_doc.specs.declared.asks.SplitEnd.{SplitEnd}
use Rattle.oak_machine.specs.declared.event.Event.{Event}
use Rattle.oak_machine.specs.declared.event.Event.TheVariants as event
use Rattle.oak_machine.specs.History.{Begin, Past}
use Rattle.oak_machine.specs.Sessions.{is_recovered, is_text}
use Rattle.oak_past.proofs.Equal.{same_vectors}
use Rattle.jcr_trans.specs.Answers.{Answer, ShowsRevision, ShowsVector}
use Rattle.jcr_trans.specs.Texts.{answer_text, ok_text}
use Rattle.jcr_law.specs.Tasks.{collected_data, is_out, is_recovering, is_sweep, knows_published, split_data}
use Rattle.jcr_eval.proofs.Passing.{and_parts, and_whole}
use Rattle.jcr_past.specs.Shown.{attaches, is_answer, keeps, releases, same_vector, shows_collection, shows_in, shows_out, shows_recovery, shows_split, shows_sweep}

same_itself : (r : Revision) → is_same r r ≡ true
same_itself r = ap is_eq (tied_itself revision_total r)

-- the text of an answer that is shown
pub is_shown : (text : List ℕ) (a : Answer) → is_answer text a ≡ true → text ≡ answer_text a
is_shown text a h = (bytes_eq-Decides text (answer_text a)).0 h

pub shown_is : (text : List ℕ) (a : Answer) → text ≡ answer_text a → is_answer text a ≡ true
shown_is text a h = (bytes_eq-Decides text (answer_text a)).1 h

same_text : (a b : Text) → is_text a b ≡ true → a ≡ b
same_text a b h = (tested nat_list_cmp_total name_exact a b).0 h

text_same : (a b : Text) → a ≡ b → is_text a b ≡ true
text_same a b h = (tested nat_list_cmp_total name_exact a b).1 h

same_path : (a b : Path) → eq_by_cmp path_cmp a b ≡ true → a ≡ b
same_path a b h = (tested path_total path_exact a b).0 h

path_same : (a b : Path) → a ≡ b → eq_by_cmp path_cmp a b ≡ true
path_same a b h = (tested path_total path_exact a b).1 h

number_same : (m k : ℕ) → (m == k) ≡ true → m ≡ k
number_same m k h = (Decides-eqb m k).0 h

number_itself : (k : ℕ) → (k == k) ≡ true
number_itself k = (Decides-eqb k k).1 refl

pub vector_same : (w v : RevVec) → same_vector w v ≡ true → w ≡ v
vector_same w v h = (same_vectors w v (same_vector w v) refl).0 h

pub vector_itself : (v : RevVec) → same_vector v v ≡ true
vector_itself v = (same_vectors v v (same_vector v v) refl).1 refl

module _ (k : ℕ) (least : Revision) (text : List ℕ) where
  pub record ShownOut (e : Event) : Type 0 where
    pub r : Revision
    pub out : is_out k r e ≡ true
    pub low : is_at_most least r ≡ true
    pub shown : text ≡ answer_text (ShowsRevision r)

  pub out_is : (e : Event) → shows_out k least text e ≡ true → ShownOut e
  out_is (event.Out m r) h =
      let p = and_parts (m == k) _ h in
      let q = and_parts (is_at_most least r) _ p.1 in
      record {
        r = r;
        out = and_whole (m == k) (is_same r r) p.0 (same_itself r);
        low = q.0;
        shown = is_shown text (ShowsRevision r) q.1;
      }
  out_is e h = absurd (true≢false (sym h))

  pub out_shown : (e : Event) (r : Revision) → is_out k r e ≡ true → is_at_most least r ≡ true
      → text ≡ answer_text (ShowsRevision r) → shows_out k least text e ≡ true
  out_shown (event.Out m q) r h low is =
      let p = and_parts (m == k) _ h in
      let same : r ≡ q = same_revision r q p.1 in
      and_whole (m == k) _ p.0
      (and_whole (is_at_most least q) _
      (subst (λ (x : Revision). is_at_most least x ≡ true) same low)
      (shown_is text (ShowsRevision q)
      (subst (λ (x : Revision). text ≡ answer_text (ShowsRevision x)) same is)))
  out_shown e r h low is = absurd (true≢false (sym h))

  pub record ShownSweep (e : Event) : Type 0 where
    pub r : Revision
    pub sweep : is_sweep k r e ≡ true
    pub low : is_at_most least r ≡ true
    pub shown : text ≡ answer_text (ShowsRevision r)

  pub sweep_is : (e : Event) → shows_sweep k least text e ≡ true → ShownSweep e
  sweep_is (event.Sweep m r) h =
      let p = and_parts (m == k) _ h in
      let q = and_parts (is_at_most least r) _ p.1 in
      record {
        r = r;
        sweep = and_whole (m == k) (is_same r r) p.0 (same_itself r);
        low = q.0;
        shown = is_shown text (ShowsRevision r) q.1;
      }
  sweep_is e h = absurd (true≢false (sym h))

  pub sweep_shown : (e : Event) (r : Revision) → is_sweep k r e ≡ true → is_at_most least r ≡ true
      → text ≡ answer_text (ShowsRevision r) → shows_sweep k least text e ≡ true
  sweep_shown (event.Sweep m q) r h low is =
      let p = and_parts (m == k) _ h in
      let same : r ≡ q = same_revision r q p.1 in
      and_whole (m == k) _ p.0
      (and_whole (is_at_most least q) _
      (subst (λ (x : Revision). is_at_most least x ≡ true) same low)
      (shown_is text (ShowsRevision q)
      (subst (λ (x : Revision). text ≡ answer_text (ShowsRevision x)) same is)))
  sweep_shown e r h low is = absurd (true≢false (sym h))

module _ (k : ℕ) (text : List ℕ) (earlier : Past) where
  pub record ShownRecovery (e : Event) : Type 0 where
    pub r : Revision
    pub recovering : is_recovering k r earlier e ≡ true
    pub shown : text ≡ answer_text (ShowsRevision r)

  pub recovery_is : (e : Event) → shows_recovery k text earlier e ≡ true → ShownRecovery e
  recovery_is (event.Out m r) h =
      let p = and_parts (m == k) _ h in
      let q = and_parts (is_recovered earlier m) _ p.1 in
      record {
        r = r;
        recovering =
            and_whole ((m == k) && is_same r r) _
            (and_whole (m == k) (is_same r r) p.0 (same_itself r))
            (subst (λ (n : ℕ). is_recovered earlier n ≡ true) (number_same m k p.0) q.0);
        shown = is_shown text (ShowsRevision r) q.1;
      }
  recovery_is e h = absurd (true≢false (sym h))

  pub recovery_shown : (e : Event) (r : Revision) → is_recovering k r earlier e ≡ true
      → text ≡ answer_text (ShowsRevision r) → shows_recovery k text earlier e ≡ true
  recovery_shown (event.Out m q) r h is =
      let all = and_parts ((m == k) && is_same r q) _ h in
      let p = and_parts (m == k) _ all.0 in
      let same : r ≡ q = same_revision r q p.1 in
      and_whole (m == k) _ p.0
      (and_whole (is_recovered earlier m) _
      (subst (λ (n : ℕ). is_recovered earlier n ≡ true) (sym (number_same m k p.0)) all.1)
      (shown_is text (ShowsRevision q)
      (subst (λ (x : Revision). text ≡ answer_text (ShowsRevision x)) same is)))
  recovery_shown e r h is = absurd (true≢false (sym h))

module _ (clusters : ℕ) (begin : Begin) (before : Past) (k : ℕ) (text : List ℕ) where
  pub record ShownIn (e : Event) : Type 0 where
    pub v : RevVec
    pub which : e ≡ event.In k v
    pub known : knows_published clusters begin before k v ≡ true
    pub shown : text ≡ answer_text (ShowsVector v)

  pub in_is : (e : Event) → shows_in clusters begin before k text e ≡ true → ShownIn e
  in_is (event.In m v) h =
      let p = and_parts (m == k) _ h in
      let q = and_parts (knows_published clusters begin before k v) _ p.1 in
      record {
        v = v;
        which = ap (λ (n : ℕ). event.In n v) (number_same m k p.0);
        known = q.0;
        shown = is_shown text (ShowsVector v) q.1;
      }
  in_is e h = absurd (true≢false (sym h))

  pub in_shown : (v : RevVec) → knows_published clusters begin before k v ≡ true
      → text ≡ answer_text (ShowsVector v)
      → shows_in clusters begin before k text (event.In k v) ≡ true
  in_shown v known is =
      and_whole (k == k) _ (number_itself k)
      (and_whole (knows_published clusters begin before k v) _ known
      (shown_is text (ShowsVector v) is))

module _ (s : ℕ) (p : Path) (text : List ℕ) where
  pub record ShownSplit (e : Event) : Type 0 where
    pub end : SplitEnd
    pub which : e ≡ event.Split s p end
    pub shown : text ≡ ok_text (split_data end)

  pub split_is : (e : Event) → shows_split s p text e ≡ true → ShownSplit e
  split_is (event.Split t q end) h =
      let x = and_parts (t == s) _ h in
      let y = and_parts (eq_by_cmp path_cmp q p) _ x.1 in
      record {
        end = end;
        which = ap (λ (n : ℕ). event.Split n q end) (number_same t s x.0)
            ∙ ap (λ (o : Path). event.Split s o end) (same_path q p y.0);
        shown = (bytes_eq-Decides text (ok_text (split_data end))).0 y.1;
      }
  split_is e h = absurd (true≢false (sym h))

  pub split_shown : (end : SplitEnd) → text ≡ ok_text (split_data end)
      → shows_split s p text (event.Split s p end) ≡ true
  split_shown end is =
      and_whole (s == s) _ (number_itself s)
      (and_whole (eq_by_cmp path_cmp p p) _ (path_same p p refl)
      ((bytes_eq-Decides text (ok_text (split_data end))).1 is))

module _ (s : ℕ) (text : List ℕ) where
  pub record ShownCollection (e : Event) : Type 0 where
    pub done : Collected
    pub which : e ≡ event.Collected s done
    pub shown : text ≡ ok_text (collected_data done)

  pub collection_is : (e : Event) → shows_collection s text e ≡ true → ShownCollection e
  collection_is (event.Collected t done) h =
      let x = and_parts (t == s) _ h in
      record {
        done = done;
        which = ap (λ (n : ℕ). event.Collected n done) (number_same t s x.0);
        shown = (bytes_eq-Decides text (ok_text (collected_data done))).0 x.1;
      }
  collection_is e h = absurd (true≢false (sym h))

  pub collection_shown : (done : Collected) → text ≡ ok_text (collected_data done)
      → shows_collection s text (event.Collected s done) ≡ true
  collection_shown done is =
      and_whole (s == s) _ (number_itself s)
      ((bytes_eq-Decides text (ok_text (collected_data done))).1 is)

pub attach_is : (s : ℕ) (id : Text) (e : Event) → attaches s id e ≡ true → e ≡ event.Attach s id
attach_is s id (event.Attach t other) h =
    let x = and_parts (t == s) _ h in
    ap (λ (n : ℕ). event.Attach n other) (number_same t s x.0)
    ∙ ap (event.Attach s) (same_text other id x.1)
attach_is s id e h = absurd (true≢false (sym h))

pub attach_passes : (s : ℕ) (id : Text) → attaches s id (event.Attach s id) ≡ true
attach_passes s id = and_whole (s == s) _ (number_itself s) (text_same id id refl)

pub release_is : (id : Text) (e : Event) → releases id e ≡ true → e ≡ event.Release id
release_is id (event.Release other) h = ap event.Release (same_text other id h)
release_is id e h = absurd (true≢false (sym h))

pub release_passes : (id : Text) → releases id (event.Release id) ≡ true
release_passes id = text_same id id refl

pub keep_is : (id : Text) (v : RevVec) (e : Event) → keeps id v e ≡ true → e ≡ event.Checkpoint id v
keep_is id v (event.Checkpoint other w) h =
    let x = and_parts (is_text other id) _ h in
    ap (λ (t : Text). event.Checkpoint t w) (same_text other id x.0)
    ∙ ap (event.Checkpoint id) (vector_same w v x.1)
keep_is id v e h = absurd (true≢false (sym h))

pub keep_passes : (id : Text) (v : RevVec) → keeps id v (event.Checkpoint id v) ≡ true
keep_passes id v = and_whole (is_text id id) _ (text_same id id refl) (vector_itself v)
