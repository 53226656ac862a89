-- The JSON of splits and collections has no float, so the text that is written for it is the
-- compact one.
use Rattle.std.proofs.Common.{◌≡◌, ℕ, Bool, false, ◌||◌, List, [], ◌∷◌, map, refl, ap}
use Rattle.serde_json.specs.Data.{array}
use Rattle.serde_json.specs.View.{items_of}
use Rattle.serde_json.specs.Written.{has_float}
use Rattle.jr_path.specs.declared.path.DocId.{DocId}
use Rattle.oak_doc.specs.declared.asks.Collected.{Collected}
use Rattle.oak_doc.specs.declared.asks.SplitEnd.{SplitEnd}
use Rattle.oak_doc.specs.declared.asks.SplitEnd.TheVariants as split
use Rattle.jcr_law.specs.Tasks.{collected_data, skipped_data, split_data}

pub split_plain : (e : SplitEnd) → has_float (split_data e) ≡ false
split_plain (split.Split n) = refl
split_plain (split.Skipped read found) = refl

skipped_plain : (xs : List (DocId × ℕ × ℕ))
    → has_float (array (items_of (map skipped_data xs))) ≡ false
skipped_plain [] = refl
skipped_plain (x ∷ xs) = skipped_plain xs

pub collected_plain : (c : Collected) → has_float (collected_data c) ≡ false
collected_plain c = ap (λ (b : Bool). b || false) (skipped_plain c.skipped)
