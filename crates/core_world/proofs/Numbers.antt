-- Numbers of documents come once below the last one.
use Rattle.std.proofs.Common.{arith, ◌≡◌, ◌≤◌, ◌<◌, ◌+◌, ◌-◌, ◌^◌, ◌⊎◌, inl, inr, ℕ, Bool, true, false, cond, min, ◌&&◌, Some, None, Option, List, refl, sym, ap, ◌∙◌, subst, is_some}
use Rattle.std.specs.Prelude.{◌==◌, Result, Ok, Err}
use Rattle.std.specs.Option.{option_map_or, unwrap_or}
use Rattle.std.specs.Ordering.{eq_by_cmp}
use Rattle.std.specs.FinMap.{is_sorted}
use mathlib.Core.Bool.{false≢true}
use Rattle.jr_path.specs.Ids.{id_cmp}
use Rattle.jr_path.specs.Names.{path_cmp}
use Rattle.jr_path.specs.declared.path.DocId.{DocId}
use Rattle.jr_path.specs.declared.path.DocId.TheVariants as id
use Rattle.jr_path.specs.declared.path.Path.{Path}
use Rattle.jr_rev.specs.declared.revision.Revision.{Revision}
use Rattle.jr_rev.proofs.Entries.{number_same}
use Rattle.jr_tree.proofs.Pointwise.{same_path}
use Rattle.oak_doc.specs.declared.document.Document.{Document}
use Rattle.oak_doc.specs.declared.update.OpFault.{OpFault}
use Rattle.oak_doc.specs.declared.update.UpdateOp.{UpdateOp}
use Rattle.oak_doc.specs.Updates.{updated, after_changes, undone, is_met, update_refusal}
use Rattle.oak_read.specs.Meaning.{documents_in}
use Rattle.oak_store.specs.Tables.{Table, after_undo, found, next_number, with_document}
use Rattle.core_keep.specs.Formers.{Former, Formers, with_former}
use Rattle.core_world.specs.Collecting.{without}
use Rattle.core_world.specs.Numbers.{last_number, AreNumbered, IsNumberStep, IsPassed, IsReadIn}
use Rattle.core_world.specs.States.{nodes_in}
use Rattle.core_world.specs.Steps.{after_update, with_result}
use Rattle.core_world.proofs.Collects.{taken_is}
use Rattle.core_world.proofs.Tables.{put_is, undo_at}

-- ---- numbers

next_above : (k n : ℕ) → k ≤ n → k < 2 ^ 64 - 1 → k < min (n + 1) (2 ^ 64 - 1)
next_above k n h e = omega arith

pub next_least : (n : ℕ) → n ≤ 2 ^ 64 - 1 → n ≤ min (n + 1) (2 ^ 64 - 1)
next_least n h = omega arith

next_low : (n : ℕ) → min (n + 1) (2 ^ 64 - 1) ≤ 2 ^ 64 - 1
next_low n = omega arith

not_itself : (k n m : ℕ) → k < n → m ≡ n → m ≡ k → ⊥
not_itself k n m lt e f = omega (arith, lt, e, f)

pub along : (a b c : ℕ) → a ≤ b → b ≤ c → a ≤ c
along a b c h k = omega (arith, h, k)

at_most_itself : (a b : ℕ) → a ≡ b → a ≤ b
at_most_itself a b h = omega (arith, h)

pub value : (d e : Document) (o : Option Document) → o ≡ Some d → o ≡ Some e → d ≡ e
value d e o h k = ap (λ x. unwrap_or x d) (sym h ∙ k)

-- ---- steps of tables

pub still_step : (t : Table) → IsNumberStep t t
still_step t = record { rises = at_most_itself t.number t.number refl; new = λ i d h. inl h }

pub put_step : (t : Table) (i : DocId) (d : Document) → t.number ≤ last_number → d.mod_count ≡ next_number t → IsNumberStep t (with_document t i d (next_number t))
put_step t i d low number = record { rises = next_least t.number low; new = λ j e h. by j e (eq_by_cmp id_cmp j i) refl h }
  where
    by : (j : DocId) (e : Document) (b : Bool) → eq_by_cmp id_cmp j i ≡ b → documents_in (with_document t i d (next_number t)).documents j ≡ Some e → (documents_in t.documents j ≡ Some e) ⊎ ((e.mod_count ≡ next_number t) × ((with_document t i d (next_number t)).number ≡ next_number t))
    by j e false m h = inl (sym (put_is t i d (next_number t) j ∙ ap (λ b. cond b (Some d) (documents_in t.documents j)) m) ∙ h)
    by j e true m h = inr (ap (λ (x : Document). x.mod_count) (sym (value d e _ (put_is t i d (next_number t) j ∙ ap (λ b. cond b (Some d) (documents_in t.documents j)) m) h)) ∙ number, refl)

pub update_step : (t : Table) (op : UpdateOp) → t.number ≤ last_number → IsNumberStep t (after_update t op)
update_step t op low = by (updated (found t op.id) op (next_number t)) refl
  where
    counted : (d : Document) → updated (found t op.id) op (next_number t) ≡ Ok d → d.mod_count ≡ next_number t
    counted d h = of (Rattle.std.specs.Prelude.is_none (found t op.id) && Rattle.std.specs.Prelude.not op.create) (is_met (found t op.id) op.cond) h
      where
        of : (a b : Bool) → cond a (Err Rattle.oak_doc.specs.declared.update.OpFault.TheVariants.Absent) (cond b (Ok (after_changes (found t op.id) op (next_number t))) (Err (update_refusal (found t op.id) op.cond))) ≡ Ok d → d.mod_count ≡ next_number t
        of true b h = cc
        of false true h = ap (λ (r : Result Document OpFault). number_of r) (sym h)
          where
            number_of : Result Document OpFault → ℕ
            number_of (Ok x) = x.mod_count
            number_of (Err f) = next_number t
        of false false h = cc

    by : (r : Result Document OpFault) → updated (found t op.id) op (next_number t) ≡ r → IsNumberStep t (with_result t op.id r)
    by (Ok d) h = put_step t op.id d low (counted d h)
    by (Err f) h = still_step t

pub undo_step : (t : Table) (p : Path) (r : Revision) → t.number ≤ last_number → IsNumberStep t (after_undo t (id.Node p) r)
undo_step t p r low = record { rises = next_least t.number low; new = λ j e h. by j e (found t (id.Node p)) refl h }
  where
    at : (j : DocId) (e d : Document) → found t (id.Node p) ≡ Some d → (b : Bool) → eq_by_cmp id_cmp j (id.Node p) ≡ b → documents_in (after_undo t (id.Node p) r).documents j ≡ Some e → (documents_in t.documents j ≡ Some e) ⊎ ((e.mod_count ≡ next_number t) × ((after_undo t (id.Node p) r).number ≡ next_number t))
    at j e d is false m h = inl (sym (undo_at t p r d is j ∙ ap (λ b. cond b (Some (undone d r (next_number t))) (documents_in t.documents j)) m) ∙ h)
    at j e d is true m h = inr (ap (λ (x : Document). x.mod_count) (sym (value (undone d r (next_number t)) e _ (undo_at t p r d is j ∙ ap (λ b. cond b (Some (undone d r (next_number t))) (documents_in t.documents j)) m) h)), refl)

    by : (j : DocId) (e : Document) (o : Option Document) → found t (id.Node p) ≡ o → documents_in (after_undo t (id.Node p) r).documents j ≡ Some e → (documents_in t.documents j ≡ Some e) ⊎ ((e.mod_count ≡ next_number t) × ((after_undo t (id.Node p) r).number ≡ next_number t))
    by j e None is h = inl (ap (λ (es : List (DocId × Document)). documents_in es j) (sym (Rattle.core_world.proofs.Tables.undo_none t p r is)) ∙ h)
    by j e (Some d) is h = at j e d is (eq_by_cmp id_cmp j (id.Node p)) refl h

pub removed_step : (t : Table) (i : DocId) → is_sorted id_cmp t.documents ≡ true → IsNumberStep t (without t i)
removed_step t i sorted = record { rises = at_most_itself t.number t.number refl; new = λ j e h. by j e (eq_by_cmp id_cmp j i) refl h }
  where
    by : (j : DocId) (e : Document) (b : Bool) → eq_by_cmp id_cmp j i ≡ b → documents_in (without t i).documents j ≡ Some e → (documents_in t.documents j ≡ Some e) ⊎ ((e.mod_count ≡ next_number t) × ((without t i).number ≡ next_number t))
    by j e false m h = inl (sym (taken_is t i j sorted ∙ ap (λ b. cond b None (documents_in t.documents j)) m) ∙ h)
    by j e true m h = absurd (false≢true (ap is_some (sym (taken_is t i j sorted ∙ ap (λ b. cond b None (documents_in t.documents j)) m) ∙ h)))

-- ---- what such steps keep

module _ (t u : Table) (step : IsNumberStep t u) where
  pub new_above : (k : ℕ) → k ≤ t.number → k < last_number → (m : ℕ) → m ≡ next_number t → m ≡ k → ⊥
  new_above k within early m number same = not_itself k (next_number t) m (next_above k t.number within early) number same

  pub passed_on : (p : Path) (k : ℕ) → IsPassed t p k → IsPassed u p k
  passed_on p k passed = record {
    early = passed.early;
    within = along k t.number u.number passed.within step.rises;
    other = λ d h same. elim (step.new (id.Node p) d h) [
      | inl was ↦ passed.other d was same
      | inr new ↦ new_above k passed.within passed.early d.mod_count new.0 same
    ];
  }

  pub numbered_on : (formers : Formers) → u.number ≤ last_number → AreNumbered t formers → AreNumbered u formers
  numbered_on formers low are = record {
    low = low;
    within = λ i d h. elim (step.new i d h) [
      | inl was ↦ along d.mod_count t.number u.number (are.within i d was) step.rises
      | inr new ↦ at_most_itself d.mod_count u.number (new.0 ∙ sym new.1)
    ];
    passed = λ p k f h. passed_on p k (are.passed p k f h);
  }

  pub read_on : (i : DocId) (old : Document) → IsReadIn t i old → IsReadIn u i old
  read_on i old read = record {
    within = along old.mod_count t.number u.number read.within step.rises;
    same = λ early d h same. elim (step.new i d h) [
      | inl was ↦ read.same early d was same
      | inr new ↦ absurd (new_above old.mod_count read.within early d.mod_count new.0 same)
    ];
  }

-- a document that is there is read
pub read_now : (t : Table) (formers : Formers) → AreNumbered t formers → (i : DocId) (old : Document) → documents_in t.documents i ≡ Some old → IsReadIn t i old
read_now t formers are i old h = record { within = are.within i old h; same = λ early d k same. value d old (documents_in t.documents i) k h }

-- no previous document was listed of the number that a node's document has now
pub first_listed : (t : Table) (formers : Formers) → AreNumbered t formers → (p : Path) (old : Document) → nodes_in t p ≡ Some old → formers p old.mod_count ≡ None
first_listed t formers are p old h = by (formers p old.mod_count) refl
  where
    by : (o : Option Former) → formers p old.mod_count ≡ o → o ≡ None
    by None e = refl
    by (Some f) e = absurd ((are.passed p old.mod_count f e).other old h refl)

-- a document that lists a previous one of its number has another number then
pub listed_numbers : (t : Table) (formers : Formers) → AreNumbered t formers → (p : Path) (old d : Document) (f : Former) → nodes_in t p ≡ Some old → old.mod_count < last_number → d.mod_count ≡ next_number t
    → AreNumbered (with_document t (id.Node p) d (next_number t)) (with_former formers p old.mod_count f)
listed_numbers t formers are p old d f is early number = record {
  low = then.low;
  within = then.within;
  passed = λ q k g h. by q k g h (eq_by_cmp path_cmp q p) refl (k == old.mod_count) refl;
}
  where
    u : Table
    u = with_document t (id.Node p) d (next_number t)

    step : IsNumberStep t (with_document t (id.Node p) d (next_number t))
    step = put_step t (id.Node p) d are.low number

    then : AreNumbered (with_document t (id.Node p) d (next_number t)) formers
    then = numbered_on t (with_document t (id.Node p) d (next_number t)) step formers (next_low t.number) are

    here : (e : Document) → documents_in (with_document t (id.Node p) d (next_number t)).documents (id.Node p) ≡ Some e → e ≡ d
    here e h = value e d _ h (put_is t (id.Node p) d (next_number t) (id.Node p) ∙ ap (λ b. cond b (Some d) (documents_in t.documents (id.Node p))) (Rattle.core_world.proofs.Tables.id_itself (id.Node p)))

    passed_here : IsPassed (with_document t (id.Node p) d (next_number t)) p old.mod_count
    passed_here = record {
      early = early;
      within = along old.mod_count t.number (next_number t) (are.within (id.Node p) old is) (next_least t.number are.low);
      other = λ e h same. not_itself old.mod_count (next_number t) e.mod_count (next_above old.mod_count t.number (are.within (id.Node p) old is) early) (ap (λ (x : Document). x.mod_count) (here e h) ∙ number) same;
    }

    by : (q : Path) (k : ℕ) (g : Former) → with_former formers p old.mod_count f q k ≡ Some g → (a : Bool) → eq_by_cmp path_cmp q p ≡ a → (b : Bool) → (k == old.mod_count) ≡ b → IsPassed (with_document t (id.Node p) d (next_number t)) q k
    by q k g h false m b n = then.passed q k g (sym (ap (λ c. cond (c && (k == old.mod_count)) (Some f) (formers q k)) m) ∙ h)
    by q k g h true m false n = then.passed q k g (sym (ap (λ c. cond (c && (k == old.mod_count)) (Some f) (formers q k)) m ∙ ap (λ c. cond c (Some f) (formers q k)) n) ∙ h)
    by q k g h true m true n = subst (λ (z : Path). IsPassed (with_document t (id.Node p) d (next_number t)) z k) (sym (same_path q p m)) (subst (λ (j : ℕ). IsPassed (with_document t (id.Node p) d (next_number t)) p j) (sym (number_same k old.mod_count n)) passed_here)
