-- The greatest time of a vector, one cluster node after another.
use Rattle.std.proofs.Common.{◌≡◌, ℕ, ◌+◌, ◌<◌, max, Some, None, List, [], ◌∷◌, length, get_or, take, fold, refl, sym, ap, ◌∙◌, arith}
use Rattle.std.specs.Option.{option_map_or}
use Rattle.std.specs.Ordering.{nat_cmp, ord_max}
use Rattle.std.proofs.lemmas.Bool.Decides.{nat_tests}
use Rattle.std.proofs.lemmas.List.Sums.{fold_more}
use Rattle.jr_rev.specs.declared.revision.Revision.{Revision}
use Rattle.jr_rev.specs.Vectors.{Entries, entry}
use Rattle.oak_node.specs.Heads.{latest_time}

pub ord_max-nat : (a b : ℕ) → ord_max nat_cmp a b ≡ max a b
ord_max-nat a b = grind (arith, nat_tests)

-- the greatest time among the entries of these cluster nodes
abbrev pub time_among : Entries → List ℕ → ℕ
time_among v ks = fold (λ time k. max time (option_map_or (λ r. r.time) (entry v k) 0)) 0 ks

pub time_some : (v : Entries) (ks : List ℕ) (i t u : ℕ) (r : Revision) → i < length ks → t ≡ time_among v (take i ks) → Some r ≡ entry v (get_or ks i 0) → u ≡ ord_max nat_cmp t r.time → u ≡ time_among v (take (i + 1) ks)
time_some v ks i t u r h is there now =
    now ∙ (ord_max-nat t r.time ∙ (ap (λ x. max x r.time) is ∙ (ap (λ o. max (time_among v (take i ks)) (option_map_or (λ q. q.time) o 0)) there ∙ sym (fold_more (λ time k. max time (option_map_or (λ q. q.time) (entry v k) 0)) 0 ks i 0 h))))

pub time_none : (v : Entries) (ks : List ℕ) (i t u : ℕ) → i < length ks → t ≡ time_among v (take i ks) → None ≡ entry v (get_or ks i 0) → u ≡ t → u ≡ time_among v (take (i + 1) ks)
time_none v ks i t u h is there now =
    let same : t ≡ max t 0 = omega arith in
    now ∙ (same ∙ (ap (λ x. max x 0) is ∙ (ap (λ o. max (time_among v (take i ks)) (option_map_or (λ q. q.time) o 0)) there ∙ sym (fold_more (λ time k. max time (option_map_or (λ q. q.time) (entry v k) 0)) 0 ks i 0 h))))

-- the greatest time of a vector with eight entries, entry by entry
pub times_of_eight : (v : Entries) → length v ≡ 8 → latest_time v ≡ fold (λ time e. max time (option_map_or (λ r. r.time) e 0)) 0 v
times_of_eight (a ∷ b ∷ c ∷ d ∷ e ∷ f ∷ g ∷ h ∷ []) eight = refl
times_of_eight _ eight = absurd (omega (arith, eight))
