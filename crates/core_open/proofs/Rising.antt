-- The numbers of opened documents are at most the last, and no lower than they were.
use Rattle.std.proofs.Common.{◌≡◌, ◌≤◌, ℕ, List, Option, None, Some, All, refl, sym, ap, ◌∙◌, subst, is_some}
use Rattle.std.specs.Map.{values_of}
use Rattle.std.specs.Option.{unwrap_or}
use Rattle.std.proofs.lemmas.Bool.{false≢true}
use Rattle.jr_path.specs.declared.path.DocId.{DocId}
use Rattle.jr_rev.specs.declared.vector.Pin.{Pin}
use Rattle.oak_doc.specs.declared.document.Document.{Document}
use Rattle.oak_read.specs.Meaning.{documents_in}
use Rattle.oak_store.specs.Tables.{by_id}
use Rattle.oak_sound.specs.Meant.{greatest_number, opened_pin}
use Rattle.oak_open.specs.Opened.{opened_from}
use Rattle.oak_open.specs.Opening.{opened_table}
use Rattle.oak_open.proofs.Numbered.{all_below, drawn_from, values_by_id}
use Rattle.core_open.specs.Starting.{begun_documents}
use Rattle.core_open.proofs.Lookups.{IsOpenedAs, Opens, found_among, found_opened}
use Rattle.core_open.proofs.Numbers.{one_of}

pub at_most_last : (clusters sessions : ℕ) (items : List Document) (i : DocId) (d : Document)
    → begun_documents clusters sessions items i ≡ Some d → d.mod_count ≤ (opened_table clusters sessions (by_id items)).number
at_most_last clusters sessions items i d h =
    one_of (λ x. x.mod_count ≤ (opened_table clusters sessions (by_id items)).number) made d
    (drawn_from (by_id items) pin sessions (greatest_number (by_id items)) (values_of (by_id items)) (all_below 0 (by_id items)))
    (found_among made i d h)
  where
    pin : Pin
    pin = opened_pin clusters (by_id items)

    made : List Document
    made = (opened_from (by_id items) pin sessions (greatest_number (by_id items)) (values_of (by_id items))).0

pub opens_each : (clusters sessions : ℕ) (items : List Document) (i : DocId)
    → Opens (by_id items) (opened_pin clusters (by_id items)) sessions (documents_in (by_id items) i) (begun_documents clusters sessions items i)
opens_each clusters sessions items i =
    subst (λ all. Opens (by_id items) pin sessions (documents_in (by_id items) i)
    (documents_in (by_id (opened_from (by_id items) pin sessions (greatest_number (by_id items)) all).0) i)) (sym (values_by_id items))
    (found_opened (by_id items) pin sessions (greatest_number (by_id items)) items i
    (subst (λ all. All (λ d. d.mod_count ≤ greatest_number (by_id items)) all) (values_by_id items) (all_below 0 (by_id items))))
  where
    pin : Pin
    pin = opened_pin clusters (by_id items)

pub no_lower : (clusters sessions : ℕ) (items : List Document) (i : DocId) (old new : Document) → documents_in (by_id items) i ≡ Some old
    → begun_documents clusters sessions items i ≡ Some new → old.mod_count ≤ new.mod_count
no_lower clusters sessions items i old new h k =
    by (documents_in (by_id items) i) refl (opens_each clusters sessions items i)
  where
    pin : Pin
    pin = opened_pin clusters (by_id items)

    by : (o : Option Document) → documents_in (by_id items) i ≡ o → Opens (by_id items) pin sessions o (begun_documents clusters sessions items i)
        → old.mod_count ≤ new.mod_count
    by None j is = absurd (false≢true (ap is_some (sym j ∙ h)))
    by (Some d) j is =
        let one : d ≡ old = ap (λ o. unwrap_or o old) (sym j ∙ h) in
        let two : is.0 ≡ new = ap (λ o. unwrap_or o new) (sym is.1 ∙ k) in
        subst (λ (x : Document). old.mod_count ≤ x.mod_count) two (subst (λ (x : Document). x.mod_count ≤ is.0.mod_count) one is.2.higher)
