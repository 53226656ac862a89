-- No time is greater than the number of draws.
use Rattle.std.proofs.Common.{◌≡◌, ℕ, zero, suc, ◌+◌, ◌≤◌, max, Bool, true, false, cond, ◌⊎◌, inl, inr, Option, Some, None, List, [], ◌∷◌, length, fold, is_some, refl, sym, ap, subst, ◌∙◌, arith}
use Rattle.std.specs.Prelude.{◌==◌, slice_get}
use Rattle.std.specs.Option.{option_flatten, option_map_or}
use Rattle.std.proofs.lemmas.List.Sums.{count_by-le-length, sum_by-cons}
use mathlib.Core.Bool.{false≢true}
use Rattle.jr_rev.specs.declared.revision.Revision.{Revision}
use Rattle.jr_rev.specs.Revisions.{is_at_most}
use Rattle.jr_rev.specs.Vectors.{Entries, IsVector, entry, sees, stands_from, start_of}
use Rattle.oak_machine.specs.declared.event.Event.TheVariants as event
use Rattle.oak_machine.specs.declared.event.Start.{Start}
use Rattle.oak_machine.specs.History.{Begin, IsBegun, Past, begin_of}
use Rattle.oak_machine.specs.Heads.{greatest_time, head_of, last_draw_time, last_in, local, published}
use Rattle.oak_machine.specs.Laws.{Says, Starts}
use Rattle.oak_machine.specs.Runs.{AreNodes, IsNode, IsRunOf}
use Rattle.oak_node.specs.Heads.{known_time}
use Rattle.oak_node.specs.Memory.{NodeState}
use Rattle.core_read.proofs.Latest.{at_most_trans}
use Rattle.core_heads.specs.Sound.{IsSound, Public}
use Rattle.core_heads.proofs.Entries.{entry_at, seen_time}
use Rattle.core_heads.proofs.Later.{head_stands, head_told, published_is}
use Rattle.core_heads.proofs.Locals.{head_seen}
use Rattle.core_heads.proofs.Orders.{and_both, at_most_itself, at_most_time, same_number}
use Rattle.core_heads.proofs.Runs.{sound_run}
use Rattle.core_nodes.specs.Nodes.{IsMemoryOf, begin_time, draws_made, is_draw}
use Rattle.core_nodes.proofs.Pasts.{local_time}

module _ (begin : Begin) where
  -- ---- vectors

  -- an entry is of the node at which it stands
  stands_at : (v : Entries) (j i : ℕ) (e : Revision) → stands_from j v ≡ true → option_flatten (slice_get v i) ≡ Some e → e.cluster ≡ j + i
  stands_at [] j i e h k = absurd (false≢true (ap is_some k))
  stands_at (None ∷ v) j zero e h k = absurd (false≢true (ap is_some k))
  stands_at (Some q ∷ v) j zero e h k =
      let a = same_number q.cluster j (and_both (q.cluster == j) _ h).0 in
      let b : q.cluster ≡ e.cluster = ap (λ (o : Option Revision). option_map_or (λ (r : Revision). r.cluster) o 0) k in
      omega arith
  stands_at (None ∷ v) j (suc i) e h k = let r = stands_at v (j + 1) i e h k in omega arith
  stands_at (Some q ∷ v) j (suc i) e h k = let r = stands_at v (j + 1) i e (and_both (q.cluster == j) _ h).1 k in omega arith

  -- so a vector sees its entries
  entry_seen : (v : Entries) (k : ℕ) (e : Revision) → stands_from 1 v ≡ true → entry v k ≡ Some e → sees v e ≡ true
  entry_seen v zero e stands h = absurd (false≢true (ap is_some h))
  entry_seen v (suc i) e stands h =
      let c : e.cluster ≡ 1 + i = stands_at v 1 i e stands (sym (entry_at v i) ∙ h) in
      let d : e.cluster ≡ suc i = omega arith in
      subst (λ (n : ℕ). option_map_or (is_at_most e) (entry v n) false ≡ true) (sym d) (ap (λ (o : Option Revision). option_map_or (is_at_most e) o false) h ∙ at_most_itself e)

  most : (f : ℕ → ℕ) (n a : ℕ) (ks : List ℕ) → a ≤ n → ((k : ℕ) → f k ≤ n) → fold (λ t k. max t (f k)) a ks ≤ n
  most f n a [] h each = h
  most f n a (k ∷ ks) h each = let b = each k in most f n (max a (f k)) ks (omega arith) each

  -- where nothing later is seen, the greatest time is no greater
  pub time_most : (v : Entries) (n : ℕ) → stands_from 1 v ≡ true → ((x : Revision) → sees v x ≡ true → x.time ≤ n) → greatest_time v ≤ n
  time_most v n stands h = most (λ k. option_map_or (λ (r : Revision). r.time) (entry v k) 0) n 0 (1 ∷ 2 ∷ 3 ∷ 4 ∷ 5 ∷ 6 ∷ 7 ∷ 8 ∷ []) (omega arith) (λ k. by k (entry v k) refl)
    where
      by : (k : ℕ) (o : Option Revision) → entry v k ≡ o → option_map_or (λ (r : Revision). r.time) (entry v k) 0 ≤ n
      by k None e = let z : option_map_or (λ (r : Revision). r.time) (entry v k) 0 ≡ 0 = ap (λ (o : Option Revision). option_map_or (λ (r : Revision). r.time) o 0) e in omega arith
      by k (Some q) e =
          let z : option_map_or (λ (r : Revision). r.time) (entry v k) 0 ≡ q.time = ap (λ (o : Option Revision). option_map_or (λ (r : Revision). r.time) o 0) e in
          let t = h q (entry_seen v k q stands e) in
          omega arith

  -- ---- heads

  module _ (clusters : ℕ) (sessions : List ℕ) (nodes : AreNodes clusters sessions) where
    module _ (past : Past) (sound : IsSound clusters sessions begin past) (n : ℕ) (first : (k : ℕ) → (begin_of begin k).time ≤ n) (last : (k : ℕ) → last_draw_time past k ≤ n) where
      local_most : (k : ℕ) (x : Revision) → is_at_most x (local begin past k) ≡ true → x.time ≤ n
      local_most k x h =
          let a = at_most_time x (local begin past k) h in
          let b = local_time begin clusters sessions nodes past sound k n (first k) (last k) in
          omega arith

      head_most : (k : ℕ) → IsNode clusters k → greatest_time (head_of clusters begin past k) ≤ n
      head_most k node = time_most (head_of clusters begin past k) n (head_stands clusters sessions nodes begin past sound k node) (λ x h. by x h (head_told clusters sessions nodes begin past sound k node x h))
        where
          own : (x : Revision) → x.cluster ≡ k → (sees (last_in clusters begin past k) x ≡ true) ⊎ ((x.cluster ≡ k) × (is_at_most x (local begin past k) ≡ true)) → x.time ≤ n
          own x same (inl h) = local_most k x ((sound.ins k node).own x h same)
          own x same (inr h) = local_most k x h.1

          by : (x : Revision) → sees (head_of clusters begin past k) x ≡ true → (x.cluster ≡ k) ⊎ Public clusters begin past x → x.time ≤ n
          by x h (inl same) = own x same (head_seen clusters begin past k x node.0 h)
          by x h (inr p) = local_most x.cluster x (at_most_trans x (published begin past x.cluster) (local begin past x.cluster) p.1 (published_is clusters sessions nodes begin past sound x.cluster).1)

    -- ---- what a run begins with

    first_time : IsBegun clusters begin → (k : ℕ) → (begin_of begin k).time ≤ begin_time begin
    first_time begun k = by begin begun
      where
        at : (s : Start) → IsVector s.at → (o : Option Revision) → entry s.at k ≡ o → (option_map_or {T = Revision} (λ r. record r { cluster = k }) o (start_of k)).time ≤ greatest_time s.at
        at s is None e = omega arith
        at s is (Some r) e = seen_time s.at r is.eight (entry_seen s.at k r is.stands e)

        by : (b : Begin) → IsBegun clusters b → (begin_of b k).time ≤ begin_time b
        by None is = omega arith
        by (Some s) is = at s is.vector (entry s.at k) refl

    module _ (starts : Starts) (says : Says) where
      begun_of : (past : Past) → IsRunOf starts says clusters sessions begin past → IsBegun clusters begin
      begun_of [] run = run
      begun_of (e ∷ past) run = begun_of past run.1

      -- no draw is later than there are draws, behind the greatest time that the run begins with
      pub last_most : (past : Past) → IsRunOf starts says clusters sessions begin past → (k : ℕ) → last_draw_time past k ≤ begin_time begin + draws_made past
      last_most [] run k = omega arith
      last_most (event.Draw d ∷ past) run k = subst (λ (n : ℕ). last_draw_time (event.Draw d ∷ past) k ≤ begin_time begin + n) (sym (sum_by-cons (λ x. cond (is_draw x) 1 0) (event.Draw d) past)) (by (last_most past run.1) (d.revision.cluster == k))
        where
          node : IsNode clusters d.revision.cluster
          node = nodes.node d.session d.revision.cluster run.0.cluster

          low : (j : ℕ) → (begin_of begin j).time ≤ begin_time begin + draws_made past
          low j = let f = first_time (begun_of past run.1) j in omega arith

          new : ((j : ℕ) → last_draw_time past j ≤ begin_time begin + draws_made past) → d.revision.time ≤ begin_time begin + (1 + draws_made past)
          new before =
              let t : d.revision.time ≡ max (greatest_time (head_of clusters begin past d.revision.cluster)) (last_draw_time past d.revision.cluster) + 1 = ap (λ (x : Revision). x.time) run.0.next in
              let a = head_most past (sound_run clusters sessions nodes begin starts says past run.1) (begin_time begin + draws_made past) low before d.revision.cluster node in
              let b = before d.revision.cluster in
              omega arith

          by : ((j : ℕ) → last_draw_time past j ≤ begin_time begin + draws_made past) → (b : Bool) → cond b d.revision.time (last_draw_time past k) ≤ begin_time begin + (1 + draws_made past)
          by before true = new before
          by before false = let b = before k in omega arith
      last_most (e ∷ past) run k = last_most past run.1 k

      -- no node knows a time that is greater
      pub known_most : (past : Past) → IsRunOf starts says clusters sessions begin past → (k : ℕ) (s : NodeState) → IsNode clusters k → IsMemoryOf begin clusters past k s → known_time s ≤ begin_time begin + draws_made past
      known_most past run k s node is =
          let sound = sound_run clusters sessions nodes begin starts says past run in
          let a = head_most past sound (begin_time begin + draws_made past) (λ j. let f = first_time (begun_of past run) j in omega arith) (last_most past run) k node in
          let b = last_most past run k in
          let h : greatest_time s.head ≡ greatest_time (head_of clusters begin past k) = ap greatest_time is.head in
          let l = is.last in
          omega arith

      -- nor one that is greater than the number of events behind it
      pub known_events : (past : Past) → IsRunOf starts says clusters sessions begin past → (k : ℕ) (s : NodeState) → IsNode clusters k → IsMemoryOf begin clusters past k s → known_time s ≤ begin_time begin + length past
      known_events past run k s node is =
          let a = known_most past run k s node is in
          let b : draws_made past ≤ length past = count_by-le-length is_draw past in
          omega arith
