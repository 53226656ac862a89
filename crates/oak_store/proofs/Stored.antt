-- Documents by their ids.
use Rattle.std.proofs.Common.{◌≡◌, ℕ, List, [], ◌∷◌, map, refl, sym, ap, subst}
use Rattle.std.specs.List.Sorted.{IsStrictlySortedBy}
use Rattle.std.specs.Map.{keys_of}
use Rattle.jr_path.specs.Ids.{id_cmp}
use Rattle.oak_doc.specs.declared.document.Document.{Document}
use Rattle.oak_store.specs.Tables.{AreStored, by_id}

keys_by_id : (ds : List Document) → map (λ d. d.id) ds ≡ keys_of (by_id ds)
keys_by_id [] = refl
keys_by_id (d ∷ ds) = ap (λ ids. d.id ∷ ids) (keys_by_id ds)

pub ordered_by_id : (ds : List Document) (number : ℕ) → AreStored ds number → IsStrictlySortedBy id_cmp (keys_of (by_id ds))
ordered_by_id ds number stored = subst (IsStrictlySortedBy id_cmp) (keys_by_id ds) stored.ordered
