-- Splits beside one another: no two have written a previous document of the number that the node's document has, so what one lists is as it wrote it.
use Rattle.std.proofs.Common.{◌≡◌, ◌⊎◌, inl, inr, ℕ, ◌<◌, ◌≤◌, Bool, true, false, cond, Some, None, Option, List, [], ◌∷◌, refl, sym, ap, ◌∙◌, subst, is_some}
use Rattle.std.specs.Prelude.{◌==◌}
use Rattle.std.specs.List.{filter}
use Rattle.std.specs.Option.{option_map_or, unwrap_or}
use Rattle.std.specs.Ordering.{eq_by_cmp}
use mathlib.Core.Bool.{false≢true}
use Rattle.jr_path.specs.Names.{path_cmp}
use Rattle.jr_path.specs.declared.path.DocId.TheVariants as id
use Rattle.jr_path.specs.declared.path.Path.{Path}
use Rattle.jr_rev.specs.declared.vector.RevVec.{RevVec}
use Rattle.jr_rev.proofs.Entries.{number_same}
use Rattle.jr_tree.proofs.Pointwise.{same_path}
use Rattle.oak_doc.specs.declared.document.Document.{Document}
use Rattle.oak_doc.specs.declared.document.PrevEntry.{PrevEntry}
use Rattle.oak_read.specs.Meaning.{Documents, documents_in}
use Rattle.oak_store.specs.Tables.{Table, next_number, with_document}
use Rattle.core_clash.specs.Collecting.{IsBoundOf}
use Rattle.core_keep.specs.Dropping.{is_number_of}
use Rattle.core_keep.specs.Garbage.{garbage_in, is_garbage_previous, pruning}
use Rattle.core_keep.specs.Formers.{AreFormers, Former, Formers}
use Rattle.core_keep.specs.Keeps.{Course}
use Rattle.core_keep.specs.Readers.{IsListed}
use Rattle.core_keep.specs.Steps.{IsChangeAt, IsMainAt, IsPreviousAt, IsUnlisted}
use Rattle.core_keep.proofs.Going.{itself}
use Rattle.core_keep.proofs.Listing.{listed_garbage}
use Rattle.core_keep.proofs.Staying.{missing_unlisted}
use Rattle.core_read.specs.Told.{IsIn}
use Rattle.core_read.specs.Writes.{IsOrderedDocument}
use Rattle.core_world.specs.Collecting.{MayPrune}
use Rattle.core_world.specs.Copying.{IsCopied, IsFoundIn, LetsCopy}
use Rattle.core_world.specs.Numbers.{last_number, IsNumberStep, IsPassed, IsReadIn}
use Rattle.core_world.specs.States.{nodes_in, State}
use Rattle.core_world.proofs.Numbers.{along, new_above, next_least, read_on, value}
use Rattle.core_world.proofs.Splitting.{previous_from}
use Rattle.core_world.proofs.Tables.{id_itself, put_is}

-- ---- a split writes its previous document where there is none

module _ (t : Table) (c : Course) (formers : Formers) (are : AreFormers (documents_in t.documents) c formers) (p : Path) (k : ℕ) (x : Document) (numbered : (f : Former) → formers p k ≡ Some f → f.document.mod_count ≡ k) (none : documents_in t.documents (id.Prev k p) ≡ None) (early : k < last_number) (low : t.number ≤ last_number) (within : k ≤ t.number) where
  put : IsPreviousAt (documents_in t.documents) (documents_in (with_document t (id.Prev k p) x (next_number t)).documents) p k
  put = previous_from (documents_in t.documents) (documents_in (with_document t (id.Prev k p) x (next_number t)).documents) p k (Some x) (put_is t (id.Prev k p) x (next_number t))

  pub copied_now : IsCopied (with_document t (id.Prev k p) x (next_number t)) p k x
  copied_now = record {
    early = early;
    within = along k t.number (next_number t) within (next_least t.number low);
    unlisted = λ d is e i same. missing_unlisted (documents_in t.documents) c formers are p k numbered none d (sym (put.node p) ∙ is) e i same;
    there = λ d is same. put_is t (id.Prev k p) x (next_number t) (id.Prev k p) ∙ ap (λ b. cond b (Some x) (documents_in t.documents (id.Prev k p))) (id_itself (id.Prev k p));
  }

-- ---- what it tells

module _ (t : Table) (p : Path) (k : ℕ) (x : Document) (copied : IsCopied t p k x) where
  -- where there is none, and another may write it, the number is behind
  pub copied_apart : documents_in t.documents (id.Prev k p) ≡ None → IsPassed t p k
  copied_apart none = record { early = copied.early; within = copied.within; other = λ d is same. false≢true (ap is_some (sym none ∙ copied.there d is same)) }

  -- so it is where the document has another number
  pub copied_passed : (d : Document) → nodes_in t p ≡ Some d → (d.mod_count ≡ k → ⊥) → IsPassed t p k
  copied_passed d is other = record { early = copied.early; within = copied.within; other = λ c was same. other (ap (λ (z : Document). z.mod_count) (value d c (nodes_in t p) is was) ∙ same) }

  -- or where there is no document
  pub copied_absent : nodes_in t p ≡ None → IsPassed t p k
  copied_absent none = record { early = copied.early; within = copied.within; other = λ c was same. false≢true (ap is_some (sym none ∙ was)) }

  -- it stays so
  pub copied_on : (u : Table) → IsNumberStep t u → LetsCopy t u p k → IsCopied u p k x
  copied_on u step lets = record {
    early = copied.early;
    within = along k t.number u.number copied.within step.rises;
    unlisted = λ d is e i same. let l = lets.lists d is e i same in copied.unlisted l.0 l.1 (l.2).0 (l.2).1 (l.2).2;
    there = λ d is same. elim (step.new (id.Node p) d is) [
      | inr new ↦ absurd (new_above t u step k copied.within copied.early d.mod_count new.0 same)
      | inl was ↦ elim lets.stays [ inl one ↦ one ∙ copied.there d was same | inr passed ↦ absurd (passed.other d was same) ]
    ];
  }

-- ---- what others let be

module _ (t u : Table) (p : Path) (k : ℕ) where
  abbrev ds : Documents
  ds = documents_in t.documents

  abbrev now : Documents
  now = documents_in u.documents

  -- a document changes
  main_lets : (at : Path) (d : Document) → IsMainAt ds now at d → ((e : PrevEntry) → IsIn e d.prev → p ≡ at → e.number ≡ k → IsListed ds p k) → LetsCopy t u p k
  main_lets at d main lists = record {
    lists = λ c is e i same. by c is e i same (eq_by_cmp path_cmp p at) refl;
    stays = inl (still (eq_by_cmp path_cmp p at) refl);
  }
    where
      still : (b : Bool) → eq_by_cmp path_cmp p at ≡ b → now (id.Prev k p) ≡ ds (id.Prev k p)
      still false h = main.elsewhere.previous k p h
      still true h = subst (λ (z : Path). now (id.Prev k z) ≡ ds (id.Prev k z)) (sym (same_path p at h)) (main.previous_here k)

      by : (c : Document) → now (id.Node p) ≡ Some c → (e : PrevEntry) → IsIn e c.prev → e.number ≡ k → (b : Bool) → eq_by_cmp path_cmp p at ≡ b → IsListed ds p k
      by c is e i same false m = (c, sym (main.elsewhere.node p m) ∙ is, (e, i, same))
      by c is e i same true m =
          let one : p ≡ at = same_path p at m in
          lists e (subst (λ (z : Document). IsIn e z.prev) (ap (λ o. unwrap_or o c) (sym is ∙ (ap (λ (z : Path). now (id.Node z)) one ∙ main.at))) i) one same

  -- it lists what it listed
  pub same_lets : (at : Path) (d : Document) → IsMainAt ds now at d → d.prev ≡ option_map_or (λ d. d.prev) (ds (id.Node at)) [] → LetsCopy t u p k
  same_lets at d main whole = main_lets at d main (λ e i one same. of (ds (id.Node p)) refl e (subst (λ l. IsIn e l) (whole ∙ ap (λ (z : Path). option_map_or (λ (d : Document). d.prev) (ds (id.Node z)) []) (sym one)) i) same)
    where
      of : (o : Option Document) → ds (id.Node p) ≡ o → (e : PrevEntry) → IsIn e (option_map_or (λ d. d.prev) o []) → e.number ≡ k → IsListed ds p k
      of None is e i same = absurd i
      of (Some c) is e i same = (c, is, (e, i, same))

  -- a split lists another number, or at another node
  pub moved_lets : (at : Path) (old d : Document) (e : PrevEntry) → ds (id.Node at) ≡ Some old → IsMainAt ds now at d → d.prev ≡ e ∷ old.prev → (at ≡ p → e.number ≡ k → ⊥) → LetsCopy t u p k
  moved_lets at old d e is main prev apart = main_lets at d main (λ f i one same. by f (subst (λ l. IsIn f l) prev i) one same)
    where
      by : (f : PrevEntry) → IsIn f (e ∷ old.prev) → p ≡ at → f.number ≡ k → IsListed ds p k
      by f (inl its) one same = absurd (apart (sym one) (ap (λ (g : PrevEntry). g.number) its ∙ same))
      by f (inr i) one same = (old, ap (λ (z : Path). ds (id.Node z)) one ∙ is, (f, i, same))

  -- garbage goes
  pub pruned_lets : (at : Path) (old d : Document) (keep : PrevEntry → Bool) → ds (id.Node at) ≡ Some old → IsMainAt ds now at d → d.prev ≡ filter keep old.prev → LetsCopy t u p k
  pruned_lets at old d keep is main prev = main_lets at d main (λ f i one same. (old, ap (λ (z : Path). ds (id.Node z)) one ∙ is, (f, from old.prev f (subst (λ l. IsIn f l) prev i), same)))
    where
      from : (es : List PrevEntry) (f : PrevEntry) → IsIn f (filter keep es) → IsIn f es
      from [] f i = i
      from (e ∷ es) f i = by (keep e) i (from es f)
        where
          by : (b : Bool) → IsIn f (cond b (e ∷ filter keep es) (filter keep es)) → (IsIn f (filter keep es) → IsIn f es) → IsIn f (e ∷ es)
          by false j rest = inr (rest j)
          by true (inl one) rest = inl one
          by true (inr j) rest = inr (rest j)

  -- a document goes
  pub removed_lets : (at : Path) → IsChangeAt ds now at → now (id.Node at) ≡ None → ((j : ℕ) (q : Path) → now (id.Prev j q) ≡ ds (id.Prev j q)) → LetsCopy t u p k
  removed_lets at elsewhere gone stay = record {
    lists = λ c is e i same. by c is e i same (eq_by_cmp path_cmp p at) refl;
    stays = inl (stay k p);
  }
    where
      by : (c : Document) → now (id.Node p) ≡ Some c → (e : PrevEntry) → IsIn e c.prev → e.number ≡ k → (b : Bool) → eq_by_cmp path_cmp p at ≡ b → IsListed ds p k
      by c is e i same false m = (c, sym (elsewhere.node p m) ∙ is, (e, i, same))
      by c is e i same true m = absurd (false≢true (ap is_some (sym (ap (λ (z : Path). now (id.Node z)) (same_path p at m) ∙ gone) ∙ is)))

  -- a previous document comes or goes: another one, or of a number behind
  pub previous_lets : (at : Path) (j : ℕ) → IsPreviousAt ds now at j → (at ≡ p → j ≡ k → IsPassed t p k) → LetsCopy t u p k
  previous_lets at j change behind = record {
    lists = λ c is e i same. (c, sym (change.node p) ∙ is, (e, i, same));
    stays = by (eq_by_cmp path_cmp p at) refl (k == j) refl;
  }
    where
      unlike : (k == j) ≡ false → k ≡ j → ⊥
      unlike h e = false≢true (sym h ∙ (ap (λ (i : ℕ). k == i) (sym e) ∙ itself k))

      by : (b : Bool) → eq_by_cmp path_cmp p at ≡ b → (a : Bool) → (k == j) ≡ a → (now (id.Prev k p) ≡ ds (id.Prev k p)) ⊎ IsPassed t p k
      by false h a m = inl (change.elsewhere k p h)
      by true h false m = inl (subst (λ (z : Path). now (id.Prev k z) ≡ ds (id.Prev k z)) (sym (same_path p at h)) (change.other k (unlike m)))
      by true h true m = inr (behind (sym (same_path p at h)) (sym (number_same k j m)))

  -- no document of a node changes
  pub others_let : ((q : Path) → now (id.Node q) ≡ ds (id.Node q)) → ((j : ℕ) (q : Path) → now (id.Prev j q) ≡ ds (id.Prev j q)) → LetsCopy t u p k
  others_let node previous = record { lists = λ c is e i same. (c, sym (node p) ∙ is, (e, i, same)); stays = inl (previous k p) }

-- ---- what nobody lists, of a number behind

pub dropped_copied : (t : Table) (p : Path) (k : ℕ) (x : Document) → IsPassed t p k → IsUnlisted (documents_in t.documents) p k → IsCopied t p k x
dropped_copied t p k x passed unlisted = record { early = passed.early; within = passed.within; unlisted = unlisted; there = λ d is same. absurd (passed.other d is same) }

-- ---- what a document that was read lists

pub found_now : (t : Table) (p : Path) (old : Document) (e : PrevEntry) → old.mod_count < last_number → IsReadIn t (id.Node p) old → IsIn e old.prev → IsFoundIn t p old e (documents_in t.documents (id.Prev e.number p))
found_now t p old e early read listed = record { early = early; read = read; listed = listed; there = λ d is same. refl }

module _ (t : Table) (p : Path) (old : Document) (e : PrevEntry) (found : Option Document) (finds : IsFoundIn t p old e found) where
  pub found_on : (u : Table) → IsNumberStep t u → (documents_in u.documents (id.Prev e.number p) ≡ documents_in t.documents (id.Prev e.number p)) ⊎ IsUnlisted (documents_in t.documents) p e.number → IsFoundIn u p old e found
  found_on u step stays = record {
    early = finds.early;
    read = read_on t u step (id.Node p) old finds.read;
    listed = finds.listed;
    there = λ d is same. elim (step.new (id.Node p) d is) [
      | inr new ↦ absurd (new_above t u step old.mod_count finds.read.within finds.early d.mod_count new.0 same)
      | inl was ↦ elim stays [
        | inl one ↦ one ∙ finds.there d was same
        | inr none ↦ absurd (none d was e (subst (λ (z : Document). IsIn e z.prev) (sym (finds.read.same finds.early d was same)) finds.listed) refl)
      ]
    ];
  }

  pub found_is : (d : Document) → nodes_in t p ≡ Some d → d.mod_count ≡ old.mod_count → (d ≡ old) × (documents_in t.documents (id.Prev e.number p) ≡ found)
  found_is d is same = (finds.read.same finds.early d is same, finds.there d is same)

-- so a collection may drop what it found to be garbage
pub found_drops : (w : State) (m s : RevVec) (p : Path) (old d : Document) (ns : List ℕ) (found : ℕ → Option Document) → IsBoundOf w.past m s → IsOrderedDocument old → old.mod_count < last_number → IsReadIn w.table (id.Node p) old
    → ((e : PrevEntry) → IsIn e old.prev → is_number_of ns e ≡ true → IsFoundIn w.table p old e (found e.number) × ((x : Document) → found e.number ≡ Some x → is_garbage_previous m s old x ≡ true))
    → nodes_in w.table p ≡ Some d → d.mod_count ≡ old.mod_count → MayPrune w m s p old (pruning m s old ns)
found_drops w m s p old d ns found bound ordered early read finds is same = record {
  bound = bound;
  there = is ∙ ap Some (read.same early d is same);
  order = ordered;
  keys = garbage_in m s old;
  numbers = ns;
  garbage = record {
    changes = refl;
    entries = listed_garbage m s old ordered;
    previous = λ e i one x there. let f = finds e i one in f.1 x (sym (f.0.there d is same) ∙ there);
  };
}
