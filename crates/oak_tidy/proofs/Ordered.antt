-- A removal leaves the documents in store order, each under its id, with names by the grammar.
use Rattle.std.proofs.Common.{◌≡◌, Bool, true, false, cond, All, List, [], ◌∷◌}
use Rattle.std.specs.List.{AllByRecursion}
use Rattle.std.specs.List.Sorted.{IsStrictlySortedBy}
use Rattle.std.specs.Map.{keys_of, remove_entry}
use Rattle.std.specs.BTreeMap.{is_at}
use Rattle.std.specs.declared.cmp.Ordering.TheVariants.{Less}
use Rattle.std.proofs.lemmas.List.Elements.{All-from_recursion, recursion_from_All}
use Rattle.jr_path.specs.Grammar.{IsName}
use Rattle.jr_path.specs.Ids.{id_cmp}
use Rattle.jr_path.specs.declared.path.DocId.{DocId}
use Rattle.oak_doc.specs.declared.asks.RemoveOut.{RemoveOut}
use Rattle.oak_doc.specs.declared.asks.RemoveOut.TheVariants as removal
use Rattle.oak_doc.specs.declared.document.Document.{Document}
use Rattle.oak_read.specs.Meaning.{path_of}
use Rattle.oak_read.specs.Reading.{IsTable}
use Rattle.oak_store.specs.Tables.{Table, after_removal}

module _ (test : DocId → Bool) where
  -- what holds of each entry holds of each that is left
  each_left : (P : DocId × Document → Type 0) (es : List (DocId × Document)) → AllByRecursion P es → AllByRecursion P (remove_entry test es)
  each_left P [] all = tt
  each_left P (e ∷ es) all = by (test e.0) (each_left P es all.1)
    where
      by : (b : Bool) → AllByRecursion P (remove_entry test es) → AllByRecursion P (cond b es (e ∷ remove_entry test es))
      by true rest = all.1
      by false rest = (all.0, rest)

  keys_left : (P : DocId → Type 0) (es : List (DocId × Document)) → AllByRecursion P (keys_of es) → AllByRecursion P (keys_of (remove_entry test es))
  keys_left P [] all = tt
  keys_left P (e ∷ es) all = by (test e.0) (keys_left P es all.1)
    where
      by : (b : Bool) → AllByRecursion P (keys_of (remove_entry test es)) → AllByRecursion P (keys_of (cond b es (e ∷ remove_entry test es)))
      by true rest = all.1
      by false rest = (all.0, rest)

  sorted_left : (es : List (DocId × Document)) → IsStrictlySortedBy id_cmp (keys_of es) → IsStrictlySortedBy id_cmp (keys_of (remove_entry test es))
  unfolding IsStrictlySortedBy
  sorted_left [] sorted = tt
  sorted_left (e ∷ es) sorted = by (test e.0) (sorted_left es sorted.1)
    where
      by : (b : Bool) → IsStrictlySortedBy id_cmp (keys_of (remove_entry test es)) → IsStrictlySortedBy id_cmp (keys_of (cond b es (e ∷ remove_entry test es)))
      by true rest = sorted.1
      by false rest = (keys_left (λ y. id_cmp e.0 y ≡ Less) es sorted.0, rest)

  left_in_order : (es : List (DocId × Document)) → IsTable es → IsTable (remove_entry test es)
  left_in_order es is = record {
    ordered = sorted_left es is.ordered;
    named = All-from_recursion (λ e. e.1.id ≡ e.0) _ (each_left (λ e. e.1.id ≡ e.0) es (recursion_from_All (λ e. e.1.id ≡ e.0) es is.named));
    lawful = All-from_recursion (λ e. All IsName (path_of e.0)) _ (each_left (λ e. All IsName (path_of e.0)) es (recursion_from_All (λ e. All IsName (path_of e.0)) es is.lawful));
  }

pub removal_in_order : (t : Table) (i : DocId) (o : RemoveOut) → IsTable t.documents → IsTable (after_removal t i o).documents
removal_in_order t i removal.Removed is = left_in_order (is_at (id_cmp i)) t.documents is
removal_in_order t i (removal.Changed n) is = is
removal_in_order t i removal.Absent is = is
