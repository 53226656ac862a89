-- The bound that a collection reads can be used, where what it reads can be.
use Rattle.std.proofs.Common.{◌≡◌, true, inl, inr, List, [], ◌∷◌, refl, sym, ◌∙◌}
use Rattle.std.specs.List.{fold}
use mathlib.Core.Bool.{false≢true}
use Rattle.jr_rev.specs.declared.revision.Revision.{Revision}
use Rattle.jr_rev.specs.declared.vector.RevVec.{RevVec}
use Rattle.jr_rev.specs.declared.vector.Pin.{Pin}
use Rattle.jr_rev.specs.Vectors.{least, sees}
use Rattle.jr_rev.proofs.Bounds.{below_seen, least_left, least_right, least_seen}
use Rattle.oak_doc.specs.declared.document.Document.{Document}
use Rattle.oak_machine.specs.History.{Past}
use Rattle.core_read.specs.Told.{IsIn}
use Rattle.core_keep.specs.Bounds.{Told, lesser_pair, root_pair, bounding_pairs, bound_of}
use Rattle.core_keep.proofs.Item.{not_true}
use Rattle.core_begun.specs.Kept.{IsUsedSince}

least_sees : (v w : RevVec) (r : Revision) → sees (least v w) r ≡ true → (sees v r ≡ true) × (sees w r ≡ true)
least_sees v w r h = (below_seen (least v w) v r (least_left v w) h, below_seen (least v w) w r (least_right v w) h)

-- the least of vectors that are settled and closed is settled and closed
least_used : (past : Past) (v w : RevVec) → IsUsedSince past (sees v) → IsUsedSince past (sees w) → IsUsedSince past (sees (least v w))
least_used past v w a b = record {
  settled = λ o f. not_true _ (λ h. false≢true (sym (a.settled o f) ∙ (least_sees v w o h).0));
  closed = λ o us e s q h. let k = least_sees v w o s in least_seen v w q (a.closed o us e k.0 q h) (b.closed o us e k.1 q h);
}

fold_used : (past : Past) (first : Pin) (xs : List Pin) → IsUsedSince past (sees first.base)
    → ((x : Pin) → IsIn x xs → IsUsedSince past (sees x.base)) → IsUsedSince past (sees (fold lesser_pair first xs).base)
fold_used past first [] a each = a
fold_used past first (x ∷ xs) a each =
    fold_used past (lesser_pair first x) xs (least_used past first.base x.base a (each x (inl refl))) (λ y i. each y (inr i))

pub bound_used : (past : Past) (root : Document) (nodes : List Told) (settings : Document) → IsUsedSince past (sees root.last_rev)
    → ((x : Pin) → IsIn x (bounding_pairs nodes settings) → IsUsedSince past (sees x.base))
    → IsUsedSince past (sees (bound_of root nodes settings).base)
bound_used past root nodes settings a each = fold_used past (root_pair root) (bounding_pairs nodes settings) a each
