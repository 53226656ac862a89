-- The vector at which documents open has an entry for each cluster node, and for no other.
use Rattle.std.proofs.Common.{◌≡◌, ◌≤◌, ◌<◌, ℕ, zero, suc, ◌+◌, ◌-◌, Bool, true, false, cond, not, ◌&&◌, ◌||◌, List, [], ◌∷◌, ◌++◌, Option, None, Some, fold, length, refl, sym, ap, ◌∙◌, subst, is_some, arith}
use Rattle.std.specs.Prelude.{◌==◌, nat_le, slice_get, slice_set}
use Rattle.std.specs.List.{flat_map, list_all}
use Rattle.std.specs.Map.{keys_of}
use Rattle.std.specs.Option.{option_flatten}
use Rattle.std.proofs.lemmas.Bool.{false≢true}
use Rattle.std.proofs.lemmas.Bool.Decides.{nat_tests}
use Rattle.jr_path.specs.declared.path.DocId.{DocId}
use Rattle.jr_rev.specs.declared.revision.Revision.{Revision}
use Rattle.jr_rev.specs.declared.vector.RevVec.{RevVec}
use Rattle.jr_rev.specs.Vectors.{Entries, entry, raised, sees, start, start_of, with_entry}
use Rattle.oak_doc.specs.declared.document.Document.{Document}
use Rattle.oak_machine.specs.History.{has_entry}
use Rattle.oak_read.specs.Meaning.{documents_in, is_committed}
use Rattle.oak_sound.specs.Meant.{ById, committed_entries, committed_entries_in, entry_revisions, opened_at, swept}
use Rattle.oak_sound.specs.Sound.{is_drawable, keeps_revisions}
use Rattle.core_read.proofs.Entries.{both, first, second}
use Rattle.core_heads.proofs.Entries.{set_length}
use Rattle.core_open.proofs.Filtered.{all_passing}
use Rattle.core_open.proofs.Seen.{drawn_by, kept_entries, raised_size}

-- from cluster node j on there is an entry exactly for those up to so many
abbrev placed : ℕ → ℕ → Entries → Bool
placed clusters j [] = true
placed clusters j (e ∷ v) = has_entry (nat_le j clusters) e && placed clusters (j + 1) v

there : (k clusters : ℕ) (r : Revision) → k ≤ clusters → has_entry (nat_le k clusters) (Some r) ≡ true
there k clusters r low = by (nat_le k clusters) (within k clusters low)
  where
    within : (k n : ℕ) → k ≤ n → nat_le k n ≡ true
    within k n h = grind (arith, nat_tests)

    by : (b : Bool) → b ≡ true → has_entry b (Some r) ≡ true
    by true h = refl
    by false h = absurd (false≢true h)

set_placed : (clusters j i : ℕ) (v : Entries) (r : Revision) → j + i ≤ clusters → placed clusters j v ≡ true
    → placed clusters j (slice_set v i (Some r)) ≡ true
set_placed clusters j i [] r low h = refl
set_placed clusters j zero (e ∷ v) r low h = both _ _ (there j clusters r (omega arith)) (second (has_entry (nat_le j clusters) e) _ h)
set_placed clusters j (suc i) (e ∷ v) r low h =
    both _ _ (first (has_entry (nat_le j clusters) e) _ h)
    (set_placed clusters (j + 1) i v r (omega arith) (second (has_entry (nat_le j clusters) e) _ h))

raised_placed : (clusters : ℕ) (v : RevVec) (r : Revision) → 1 ≤ r.cluster → r.cluster ≤ clusters → placed clusters 1 v ≡ true
    → placed clusters 1 (raised v r) ≡ true
raised_placed clusters v r low high h = by (r.cluster == 0 || not (nat_le r.cluster 8) || sees v r)
  where
    by : (b : Bool) → placed clusters 1 (cond b v (with_entry v r)) ≡ true
    by true = h
    by false = set_placed clusters 1 (r.cluster - 1) v r (omega (arith, low, high)) h

all_placed : (clusters : ℕ) (rs : List Revision) (v : RevVec) → list_all (is_drawable clusters) rs ≡ true → placed clusters 1 v ≡ true
    → placed clusters 1 (fold raised v rs) ≡ true
all_placed clusters [] v drawable h = h
all_placed clusters (r ∷ rs) v drawable h =
    let node = drawn_by clusters r (first _ _ drawable) in
    all_placed clusters rs (raised v r) (second _ _ drawable) (raised_placed clusters v r node.0 node.1 h)

start_placed : (clusters : ℕ) → placed clusters 1 (start clusters) ≡ true
start_placed clusters =
    both _ _ (own 1) (both _ _ (own 2) (both _ _ (own 3) (both _ _ (own 4) (both _ _ (own 5) (both _ _ (own 6) (both _ _ (own 7) (both _ _ (own 8) refl)))))))
  where
    own : (k : ℕ) → has_entry (nat_le k clusters) (cond (nat_le k clusters) (Some (start_of k)) None) ≡ true
    own k = by (nat_le k clusters)
      where
        by : (b : Bool) → has_entry b (cond b (Some (start_of k)) None) ≡ true
        by true = refl
        by false = refl

-- of eight entries, by cluster node
by_node : (clusters : ℕ) (v : Entries) → length v ≡ 8 → placed clusters 1 v ≡ true
    → list_all (λ k. has_entry (nat_le k clusters) (entry v k)) (1 ∷ 2 ∷ 3 ∷ 4 ∷ 5 ∷ 6 ∷ 7 ∷ 8 ∷ []) ≡ true
by_node clusters [] size h = absurd (omega (arith, size))
by_node clusters (a ∷ []) size h = absurd (omega (arith, size))
by_node clusters (a ∷ b ∷ []) size h = absurd (omega (arith, size))
by_node clusters (a ∷ b ∷ c ∷ []) size h = absurd (omega (arith, size))
by_node clusters (a ∷ b ∷ c ∷ d ∷ []) size h = absurd (omega (arith, size))
by_node clusters (a ∷ b ∷ c ∷ d ∷ e ∷ []) size h = absurd (omega (arith, size))
by_node clusters (a ∷ b ∷ c ∷ d ∷ e ∷ f ∷ []) size h = absurd (omega (arith, size))
by_node clusters (a ∷ b ∷ c ∷ d ∷ e ∷ f ∷ g ∷ []) size h = absurd (omega (arith, size))
by_node clusters (a ∷ b ∷ c ∷ d ∷ e ∷ f ∷ g ∷ x ∷ []) size h = h
by_node clusters (a ∷ b ∷ c ∷ d ∷ e ∷ f ∷ g ∷ x ∷ y ∷ v) size h = absurd (omega (arith, size))

module _ (clusters : ℕ) (ds : ById) (drawable : list_all (λ e. keeps_revisions clusters e.1) ds ≡ true) where
  abbrev t : RevVec
  t = swept ds

  committed_drawable : (es : ById) → list_all (λ (e : DocId × Document). keeps_revisions clusters e.1) es ≡ true
      → list_all (is_drawable clusters) (flat_map (λ e. committed_entries_in ds t e.1) es) ≡ true
  committed_drawable [] all = refl
  committed_drawable (e ∷ es) all =
      joined (committed_entries_in ds t e.1) (flat_map (λ e. committed_entries_in ds t e.1) es)
      (all_passing (is_drawable clusters) (is_committed (documents_in ds) t e.1) (entry_revisions e.1)
      (kept_entries (is_drawable clusters) e.1 (first _ _ (first _ _ all))))
      (committed_drawable es (second _ _ all))
    where
      joined : (xs ys : List Revision) → list_all (is_drawable clusters) xs ≡ true → list_all (is_drawable clusters) ys ≡ true
          → list_all (is_drawable clusters) (xs ++ ys) ≡ true
      joined [] ys k l = l
      joined (x ∷ xs) ys k l = both _ _ (first _ _ k) (joined xs ys (second _ _ k) l)

  -- just these cluster nodes have one
  pub opened_nodes : list_all (λ k. has_entry (nat_le k clusters) (entry (opened_at clusters ds) k)) (1 ∷ 2 ∷ 3 ∷ 4 ∷ 5 ∷ 6 ∷ 7 ∷ 8 ∷ []) ≡ true
  opened_nodes =
      by_node clusters (opened_at clusters ds) (raised_size (committed_entries ds t) (start clusters) refl)
      (all_placed clusters (committed_entries ds t) (start clusters) (committed_drawable ds drawable) (start_placed clusters))
