-- What writes made again ask for: nothing is lost where a node is named once.
use Rattle.std.proofs.Common.{◌≡◌, ◌⊎◌, ◌∙◌, ◌++◌, ◌-◌, ◌<◌, ◌≤◌, inl, inr, Bool, true, false, cond, get_or, length, List, [], ◌∷◌, Option, None, Some, refl, sym, ap, subst}
use Rattle.std.specs.Prelude.{slice_get}
use Rattle.std.specs.List.{All, fold}
use Rattle.std.specs.Option.{option_map_or}
use Rattle.std.proofs.lemmas.List.Elements.{All-cons, All-get_or, All-head, All-nil, All-tail}
use Rattle.std.proofs.lemmas.Option.{slice_get_cases}
use mathlib.Core.Bool.{false≢true}
use Rattle.jr_path.specs.declared.path.Path.{Path}
use Rattle.jr_tree.specs.declared.edit.Write.{Write}
use Rattle.jr_tree.specs.declared.edit.Write.TheVariants.{Here, Gone, Put, Unset}
use Rattle.jr_tree.proofs.Pointwise.{same_path}
use Rattle.jr_part.specs.Parts.{Knowledge, LacksNothing}
use Rattle.jr_part.specs.declared.need.Need.{Need}
use Rattle.jr_part.specs.declared.need.Need.TheVariants as need
use Rattle.jcr_write.specs.Places.{above}
use Rattle.jcr_view.specs.Needs.{and_again, and_node, ends_at, is_node_at, needs_to_rebase}

-- nothing lacks of what a write made again reads
abbrev pub IsMet : Knowledge → Write → Type 0
IsMet k (Here p) = LacksNothing k (need.Node (above p)) × LacksNothing k (need.Node p)
IsMet k (Gone p) = LacksNothing k (need.Subtree p)
IsMet k (Put p n x) = LacksNothing k (need.Node p)
IsMet k (Unset p n) = LacksNothing k (need.Node p)

same_need : (p : Path) (n : Need) → is_node_at p n ≡ true → need.Node p ≡ n
same_need p (need.Node q) h = ap (λ (r : Path). need.Node r) (same_path p q h)
same_need p (need.Children q) h = absurd (false≢true h)
same_need p (need.Subtree q) h = absurd (false≢true h)
same_need p need.All h = absurd (false≢true h)

module _ (P : Need → Type 0) where
  -- what all needs and one more have, those and the one have
  both_have : (needs : List Need) (n : Need) → All P (needs ++ n ∷ []) → All P needs × P n
  both_have [] n all = (All-nil P, All-head P n [] all)
  both_have (m ∷ needs) n all =
      let rest = both_have needs n (All-tail P m (needs ++ n ∷ []) all) in
      (All-cons P m needs (All-head P m (needs ++ n ∷ []) all) rest.0, rest.1)

  last_has : (needs : List Need) (p : Path) → All P needs → ends_at needs p ≡ true → P (need.Node p)
  last_has needs p all h = by (slice_get_cases needs (length needs - 1)).1
    where
      by : ((x : Need) × (length needs - 1 < length needs) × (slice_get needs (length needs - 1) ≡ Some x)
          × (get_or needs (length needs - 1) x ≡ x)) ⊎ ((length needs ≤ length needs - 1) × (slice_get needs (length needs - 1) ≡ None))
          → P (need.Node p)
      by (inl c) =
          let same : need.Node p ≡ c.0 =
          same_need p c.0 (ap (λ (o : Option Need). option_map_or (is_node_at p) o false) (sym c.2) ∙ h) in
          subst P (sym same) (subst P c.3 (All-get_or P needs (length needs - 1) c.0 c.1 all))
      by (inr c) = absurd (false≢true (ap (λ (o : Option Need). option_map_or (is_node_at p) o false) (sym c.1) ∙ h))

  node_has : (needs : List Need) (p : Path) → All P (and_node needs p) → All P needs × P (need.Node p)
  node_has needs p all = by (ends_at needs p) refl all
    where
      by : (b : Bool) → ends_at needs p ≡ b → All P (cond b needs (needs ++ need.Node p ∷ [])) → All P needs × P (need.Node p)
      by true h all = (all, last_has needs p all h)
      by false h all = both_have needs (need.Node p) all

module _ (k : Knowledge) where
  write_met : (needs : List Need) (w : Write) → All (LacksNothing k) (and_again needs w)
      → All (LacksNothing k) needs × IsMet k w
  write_met needs (Here p) all =
      let here = node_has (LacksNothing k) (and_node needs (above p)) p all in
      let up = node_has (LacksNothing k) needs (above p) here.0 in
      (up.0, (up.1, here.1))
  write_met needs (Gone p) all = both_have (LacksNothing k) needs (need.Subtree p) all
  write_met needs (Put p n x) all = node_has (LacksNothing k) needs p all
  write_met needs (Unset p n) all = node_has (LacksNothing k) needs p all

  writes_met : (ws : List Write) (needs : List Need) → All (LacksNothing k) (fold and_again needs ws)
      → All (LacksNothing k) needs × All (IsMet k) ws
  writes_met [] needs all = (all, All-nil (IsMet k))
  writes_met (w ∷ ws) needs all =
      let rest = writes_met ws (and_again needs w) all in
      let first = write_met needs w rest.0 in
      (first.0, All-cons (IsMet k) w ws first.1 rest.1)

  pub all_met : (ws : List Write) → All (LacksNothing k) (needs_to_rebase ws) → All (IsMet k) ws
  all_met ws all = (writes_met ws [] all).1
