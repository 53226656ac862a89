-- Each event leaves each memory that of the past.
use Rattle.std.proofs.Common.{◌≡◌, ℕ, ◌+◌, ◌-◌, ◌<◌, ◌≤◌, Bool, true, false, cond, not, ◌&&◌, ◌||◌, ◌⊎◌, inl, inr, Option, Some, List, [], ◌∷◌, ◌++◌, map, filter, fold, reverse, refl, sym, ap, subst, ◌∙◌, arith}
use Rattle.std.specs.Prelude.{◌==◌, unwrap_or}
use Rattle.std.specs.List.{list_all}
use mathlib.Core.Bool.{false≢true}
use mathlib.Core.List.{reverse-cons}
use Rattle.std.proofs.lemmas.List.{map-append}
use Rattle.std.proofs.lemmas.List.Elements.{filter-append}
use Rattle.jr_rev.specs.declared.revision.Revision.{Revision}
use Rattle.jr_rev.specs.declared.vector.RevVec.{RevVec}
use Rattle.jr_rev.specs.Revisions.{is_at_most, is_before, is_same}
use Rattle.jr_rev.specs.Vectors.{entry, sees, start_of, with_entry}
use Rattle.oak_machine.specs.declared.event.Draw.{Draw}
use Rattle.oak_machine.specs.declared.event.Event.TheVariants as event
use Rattle.oak_machine.specs.History.{Begin, Past, begin_of}
use Rattle.oak_machine.specs.Commits.{is_drawn, is_ended}
use Rattle.oak_machine.specs.Heads.{draws_by, greatest_time, greater_of, head_of, last_draw_time, last_in, local}
use Rattle.oak_machine.specs.Runs.{AreNodes, IsNode}
use Rattle.oak_node.specs.declared.drawn.Drawn.{Drawn}
use Rattle.oak_node.specs.Heads.{finished, known_time, local_from, next_draw, with_draw, with_end}
use Rattle.oak_node.specs.Memory.{NodeState, own_entry, revisions_in}
use Rattle.oak_node.proofs.Kept.{draw_memory, finish_memory}
use Rattle.core_read.proofs.Latest.{at_most_both, at_most_trans, not_before, same_revision}
use Rattle.core_read.proofs.Vectors.{time_before}
use Rattle.core_heads.specs.Sound.{IsIn, IsSound}
use Rattle.core_heads.proofs.Later.{IsLater}
use Rattle.core_heads.proofs.Locals.{IsSettledDraw, head_own, local_cluster, local_each, local_first, local_is}
use Rattle.core_heads.proofs.Entries.{seen_time, set_length}
use Rattle.core_heads.proofs.Orders.{all_in, and_both, and_true, at_most_itself, filter_in, fold_each, fold_first, fold_has, in_all, in_filter, same_itself}
use Rattle.core_heads.proofs.Steps.{later_end}
use Rattle.core_nodes.specs.Nodes.{IsMemoryOf, as_drawn, drawn_above, revisions_above}
use Rattle.core_nodes.proofs.Lists.{ended_drawn, filter_drawn, filter_twice, flying_of_drawn, revisions_of_drawn, same_drawn}
use Rattle.core_nodes.proofs.Pasts.{above_in, at_most_before, drawn_local, ended_local, in_above, local_before}
use Rattle.core_nodes.proofs.Vectors.{entry_set, pair_grows, with_again}

module _ (begin : Begin) where
  module _ (clusters : ℕ) (sessions : List ℕ) (nodes : AreNodes clusters sessions) (past : Past) (sound : IsSound clusters sessions begin past) where
    -- ---- what a memory of the past has

    module _ (k : ℕ) (node : IsNode clusters k) where
      -- the head's own entry is the local revision
      pub head_entry : entry (head_of clusters begin past k) k ≡ Some (local begin past k)
      head_entry = let n = nodes.eight in let m = node.1 in let l = (sound.ins k node).eight in entry_set (last_in clusters begin past k) (local begin past k) k (local_cluster begin past k) node.0 (omega arith)

      pub own_is : (s : NodeState) → IsMemoryOf begin clusters past k s → own_entry s ≡ local begin past k
      own_is s is =
          ap (λ (v : RevVec). unwrap_or (entry v s.cluster) (start_of s.cluster)) is.head
          ∙ (ap (λ (j : ℕ). unwrap_or (entry (head_of clusters begin past k) j) (start_of j)) is.cluster
          ∙ ap (λ (o : Option Revision). unwrap_or o (start_of k)) head_entry)

    -- ---- an end

    module _ (r : Revision) (k : ℕ) where
      abbrev later : Past
      later = event.End r ∷ past

      -- those above that are in flight after it
      abbrev fliers : List Revision
      fliers = filter (λ q. not (is_ended later q)) (revisions_above begin past k)

      flew : (a b c : Bool) → (a && not (b || c)) ≡ true → (a && not c) ≡ true
      flew true true c h = absurd (false≢true h)
      flew true false c h = h
      flew false b c h = h

      settled_in : (q : Revision) → IsIn q (filter (λ x. list_all (is_before x) fliers) (revisions_above begin past k)) → IsSettledDraw later k q
      settled_in q i =
          let p = filter_in (λ x. list_all (is_before x) fliers) (revisions_above begin past k) q i in
          let d = above_in begin past k q p.0 in
          record {
            drawn = d.0;
            cluster = d.1;
            below = λ o flies same.
                let f = and_both (is_drawn past o) _ flies in
                let above = local_before begin clusters sessions nodes past sound k o (flew (is_drawn past o) (is_same o r) (is_ended past o) flies) same in
                all_in (is_before q) fliers p.1 o (in_filter (λ x. not (is_ended later x)) (revisions_above begin past k) o (in_above begin past k o f.0 same above) f.1);
          }

      in_settled : (q : Revision) → IsSettledDraw later k q → is_before (local begin past k) q ≡ true → IsIn q (filter (λ x. list_all (is_before x) fliers) (revisions_above begin past k))
      in_settled q s above =
          in_filter (λ x. list_all (is_before x) fliers) (revisions_above begin past k) q (in_above begin past k q s.drawn s.cluster above)
          (in_all (is_before q) fliers (λ o i.
          let p = filter_in (λ x. not (is_ended later x)) (revisions_above begin past k) o i in
          let d = above_in begin past k o p.0 in
          s.below o (and_true (is_drawn past o) _ d.0 p.1) d.1))

      abbrev found : Revision
      found = fold greater_of (local begin past k) (filter (λ x. list_all (is_before x) fliers) (revisions_above begin past k))

      grown : IsLater clusters begin past later
      grown = later_end clusters sessions nodes begin past sound r

      found_low : is_at_most found (local begin later k) ≡ true
      found_low = fold_has (λ x. is_at_most x (local begin later k) ≡ true) (local begin past k) (filter (λ x. list_all (is_before x) fliers) (revisions_above begin past k)) (grown.locals k)
          (λ q i. local_each begin later k q (settled_in q i))

      found_high : is_at_most (local begin later k) found ≡ true
      found_high = by (local_is begin later k)
        where
          first : is_at_most (local begin past k) found ≡ true
          first = fold_first (local begin past k) (filter (λ x. list_all (is_before x) fliers) (revisions_above begin past k))

          above : IsSettledDraw later k (local begin later k) → (b : Bool) → is_before (local begin past k) (local begin later k) ≡ b → is_at_most (local begin later k) found ≡ true
          above s true h = fold_each (local begin past k) (filter (λ x. list_all (is_before x) fliers) (revisions_above begin past k)) (local begin later k) (in_settled (local begin later k) s h)
          above s false h = at_most_trans (local begin later k) (local begin past k) found (not_before (local begin past k) (local begin later k) h) first

          by : (local begin later k ≡ begin_of begin k) ⊎ IsSettledDraw later k (local begin later k) → is_at_most (local begin later k) found ≡ true
          by (inl e) = at_most_trans (local begin later k) (local begin past k) found (subst (λ (x : Revision). is_at_most x (local begin past k) ≡ true) (sym e) (local_first begin past k)) first
          by (inr s) = above s (is_before (local begin past k) (local begin later k)) refl

      -- the memory finds the local revision
      found_is : local_from (local begin past k) (map (as_drawn later) (revisions_above begin past k)) ≡ local begin later k
      found_is =
          ap (λ (fs : List Revision). fold greater_of (local begin past k) (filter (λ x. list_all (is_before x) fs) (revisions_in (map (as_drawn later) (revisions_above begin past k))))) (flying_of_drawn later (revisions_above begin past k))
          ∙ (ap (λ (qs : List Revision). fold greater_of (local begin past k) (filter (λ x. list_all (is_before x) fliers) qs)) (revisions_of_drawn later (revisions_above begin past k))
          ∙ at_most_both found (local begin later k) found_low found_high)

      module _ (node : IsNode clusters k) (s : NodeState) (is : IsMemoryOf begin clusters past k s) where
        abbrev moved : Revision
        moved = local_from (own_entry s) (with_end s.above r)

        with_end_is : with_end s.above r ≡ map (as_drawn later) (revisions_above begin past k)
        with_end_is = ap (λ (ds : List Drawn). with_end ds r) is.above ∙ ended_drawn past r (revisions_above begin past k)

        moved_is : moved ≡ local begin later k
        moved_is = ap (λ e. local_from e (with_end s.above r)) (own_is k node s is) ∙ (ap (local_from (local begin past k)) with_end_is ∙ found_is)

        above_is : filter (λ d. is_before moved d.revision) (with_end s.above r) ≡ drawn_above begin later k
        above_is =
            ap (filter (λ d. is_before moved d.revision)) with_end_is
            ∙ (filter_drawn later (is_before moved) (revisions_above begin past k)
            ∙ (ap (λ x. map (as_drawn later) (filter (is_before x) (revisions_above begin past k))) moved_is
            ∙ ap (map (as_drawn later)) (filter_twice (is_before (local begin past k)) (is_before (local begin later k)) (reverse (draws_by past k)) (λ q h. at_most_before (local begin past k) (local begin later k) q (grown.locals k) h))))

        head_is : with_entry s.head moved ≡ head_of clusters begin later k
        head_is = ap (λ (v : RevVec). with_entry v moved) is.head ∙ (ap (with_entry (head_of clusters begin past k)) moved_is ∙ with_again (last_in clusters begin past k) (local begin past k) (local begin later k) (local_cluster begin past k ∙ sym (local_cluster begin later k)))

        -- after an end of a revision in flight
        pub end_kept : IsMemoryOf begin clusters later k (finished s r)
        end_kept = record {
          cluster = is.cluster;
          head = head_is;
          sweep = pair_grows s.head (with_entry s.head moved) s.sweep (λ x h. subst (λ (v : RevVec). sees v x ≡ true) (sym head_is) (grown.heads k node x (subst (λ (v : RevVec). sees v x ≡ true) is.head h))) is.sweep;
          last = is.last;
          above = above_is;
          stopped = is.stopped;
          recovered = is.recovered;
          memory = finish_memory s r moved (with_entry s.head moved) (filter (λ d. is_before moved d.revision) (with_end s.above r)) is.memory refl refl refl;
        }

    -- the head of a node knows the time of its local revision
    local_seen : (k : ℕ) → IsNode clusters k → (local begin past k).time ≤ greatest_time (head_of clusters begin past k)
    local_seen k node =
        let high = node.1 in
        let most = nodes.eight in
        seen_time (head_of clusters begin past k) (local begin past k)
        (set_length (last_in clusters begin past k) ((local begin past k).cluster - 1) (Some (local begin past k)) ∙ (sound.ins k node).eight)
        (head_own clusters begin past k (local begin past k) node.0 (omega arith) (sound.ins k node).eight (local_cluster begin past k) (at_most_itself (local begin past k)))

    -- ---- a draw

    module _ (d : Draw) (node : IsNode clusters d.revision.cluster) (grown : IsLater clusters begin past (event.Draw d ∷ past)) (unended : is_ended past d.revision ≡ false) where
      abbrev n : ℕ
      n = d.revision.cluster

      module _ (s : NodeState) (is : IsMemoryOf begin clusters past n s) (next : d.revision ≡ next_draw s) where
        late : known_time s < d.revision.time
        late = let t : d.revision.time ≡ known_time s + 1 = ap (λ (x : Revision). x.time) next in omega arith

        new_above : is_before (local begin past n) d.revision ≡ true
        new_above =
            let a = local_seen n node in
            let b : greatest_time s.head ≡ greatest_time (head_of clusters begin past n) = ap greatest_time is.head in
            let c = late in
            time_before (local begin past n) d.revision (omega arith)

        pushed_is : drawn_above begin (event.Draw d ∷ past) n ≡ drawn_above begin past n ++ record { revision = d.revision; ended = false } ∷ []
        pushed_is =
            ap (λ b. map (as_drawn past) (filter (is_before (local begin (event.Draw d ∷ past) n)) (reverse (cond b (d.revision ∷ draws_by past n) (draws_by past n))))) (same_itself n)
            ∙ (ap (λ x. map (as_drawn past) (filter (is_before x) (reverse (d.revision ∷ draws_by past n)))) (drawn_local begin clusters past d grown unended n)
            ∙ (ap (λ (l : List Revision). map (as_drawn past) (filter (is_before (local begin past n)) l)) (reverse-cons d.revision (draws_by past n))
            ∙ (ap (map (as_drawn past)) (filter-append (is_before (local begin past n)) (reverse (draws_by past n)) (d.revision ∷ []))
            ∙ (ap (λ b. map (as_drawn past) (revisions_above begin past n ++ cond b (d.revision ∷ []) [])) new_above
            ∙ (map-append (as_drawn past) (revisions_above begin past n) (d.revision ∷ [])
            ∙ ap (λ (b : Bool). drawn_above begin past n ++ record { revision = d.revision; ended = b } ∷ []) unended)))))

        -- the memory of the node that draws
        pub draw_kept : IsMemoryOf begin clusters (event.Draw d ∷ past) n (with_draw s d.revision)
        draw_kept = record {
          cluster = is.cluster;
          head = is.head ∙ sym (ap (with_entry (last_in clusters begin past n)) (drawn_local begin clusters past d grown unended n));
          sweep = is.sweep;
          last = sym (ap (λ b. cond b d.revision.time (last_draw_time past n)) (same_itself n));
          above = ap (λ (ds : List Drawn). ds ++ record { revision = d.revision; ended = false } ∷ []) is.above ∙ sym pushed_is;
          stopped = is.stopped;
          recovered = is.recovered;
          memory = draw_memory s d.revision (with_draw s d.revision).above is.memory late (sym is.cluster) refl;
        }

      -- the memory of another
      pub draw_apart : (k : ℕ) (s : NodeState) → (n == k) ≡ false → IsMemoryOf begin clusters past k s → IsMemoryOf begin clusters (event.Draw d ∷ past) k s
      draw_apart k s other is = record {
        cluster = is.cluster;
        head = is.head ∙ sym (ap (with_entry (last_in clusters begin past k)) (drawn_local begin clusters past d grown unended k));
        sweep = is.sweep;
        last = is.last ∙ sym (ap (λ b. cond b d.revision.time (last_draw_time past k)) other);
        above = is.above ∙ sym
            (ap (λ b. map (as_drawn past) (filter (is_before (local begin (event.Draw d ∷ past) k)) (reverse (cond b (d.revision ∷ draws_by past k) (draws_by past k))))) other
            ∙ ap (λ x. map (as_drawn past) (filter (is_before x) (reverse (draws_by past k)))) (drawn_local begin clusters past d grown unended k));
        stopped = is.stopped;
        recovered = is.recovered;
        memory = is.memory;
      }

    -- ---- other events

    pub end_apart : (r : Revision) (k : ℕ) (s : NodeState) → (r.cluster ≡ k → ⊥) → IsMemoryOf begin clusters past k s → IsMemoryOf begin clusters (event.End r ∷ past) k s
    end_apart r k s other is =
        let same : local begin (event.End r ∷ past) k ≡ local begin past k = ended_local begin clusters past r (later_end clusters sessions nodes begin past sound r) k other in
        record {
          cluster = is.cluster;
          head = is.head ∙ sym (ap (with_entry (last_in clusters begin past k)) same);
          sweep = is.sweep;
          last = is.last;
          above = is.above ∙ sym
              (ap (λ x. map (as_drawn (event.End r ∷ past)) (filter (is_before x) (reverse (draws_by past k)))) same
              ∙ same_drawn past (event.End r ∷ past) (revisions_above begin past k) (λ q i. by q (above_in begin past k q i).1 (is_same q r) refl));
          stopped = is.stopped;
          recovered = is.recovered;
          memory = is.memory;
        }
      where
        by : (q : Revision) → q.cluster ≡ k → (b : Bool) → is_same q r ≡ b → (b || is_ended past q) ≡ is_ended past q
        by q same true e = absurd (other (ap (λ (x : Revision). x.cluster) (sym (same_revision q r e)) ∙ same))
        by q same false e = refl

    pub in_apart : (m : ℕ) (v : RevVec) (k : ℕ) (s : NodeState) → (m == k) ≡ false → IsMemoryOf begin clusters past k s → IsMemoryOf begin clusters (event.In m v ∷ past) k s
    in_apart m v k s other is = record {
      cluster = is.cluster;
      head = is.head ∙ sym (ap (λ b. with_entry (cond b v (last_in clusters begin past k)) (local begin past k)) other);
      sweep = is.sweep;
      last = is.last;
      above = is.above;
      stopped = is.stopped;
      recovered = is.recovered;
      memory = is.memory;
    }
