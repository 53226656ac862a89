-- Where reading the text of a vector stops.
use Rattle.std.proofs.Common.{◌≡◌, ◌≢◌, ℕ, ◌+◌, ◌-◌, ◌<◌, ◌≤◌, ◌⊎◌, List, [], ◌∷◌, ◌++◌, length, take, drop, get_or, suc, arith, refl, inl, inr, sym, ap, ◌∙◌, append_assoc, length-drop, add-zero}
use Rattle.std.proofs.lemmas.List.{get_or-drop}
use Rattle.std.specs.Str.Parse.{digits_value}
use Rattle.jr_rev.specs.Grammar.{IsTextFault}
use Rattle.jr_rev.specs.Listed.{IsBehind, AreListedRevisions, MissesList, TakesCluster, MissesCluster}
use Rattle.jr_rev.specs.Scan.{TakesMoment, MissesMoment}
use Rattle.jr_rev.specs.declared.revision.Revision.{Revision}
use Rattle.jr_rev.proofs.Faults.{ByteThen, same_faults, byte_stops, byte_then, front_of, add-zero'}
use Rattle.jr_rev.proofs.Grammar.{missed_above, Moment, moment_missed, moment_then}
use Rattle.jr_rev.proofs.Hexadecimal.{cluster_spells, cluster_digit}

-- the digit of a cluster node, from k to 8, and what may stand behind it
pub record ClusterThen (k : ℕ) (K : ℕ → List ℕ → Type 0) (text : List ℕ) : Type 0 where
  pub cluster : ℕ
  pub low : k ≤ cluster
  pub high : cluster ≤ 8
  pub rest : List ℕ
  pub split : text ≡ (48 + cluster) ∷ rest
  pub then' : K (cluster + 1) rest

-- the end, or a comma and revisions of cluster nodes from k on
abbrev pub Rest : ℕ → List ℕ → Type 0
Rest k text = (text ≡ []) ⊎ ByteThen 44 (AreListedRevisions k) text

-- ---- the digit

cluster_some : (k : ℕ) → k ≤ 8 → ClusterThen k Rest ((48 + k) ∷ [])
cluster_some k high = record { cluster = k; low = omega arith; high = high; rest = []; split = refl; then' = inl refl }

cluster_stops : (k : ℕ) (text : List ℕ) → k ≤ 8 → (0 < length text → (c : ℕ) → k ≤ c → c ≤ 8 → get_or text 0 0 ≢ 48 + c) → IsTextFault (ClusterThen k Rest) text 0
cluster_stops k [] high other = record {
  within = omega arith;
  before = ((48 + k) ∷ [], cluster_some k high);
  there = λ lt. absurd (omega (arith, lt));
  at_end = λ _ t. let e = t.split in cc;
}
cluster_stops k (b ∷ bs) high other = record {
  within = omega arith;
  before = ((48 + k) ∷ [], cluster_some k high);
  there = λ _ s. other (omega arith) s.1.cluster s.1.low s.1.high (let e = s.1.split in cc);
  at_end = λ e. absurd (omega (arith, e));
}

-- what stands behind the digit of c
behind_digit : (k c : ℕ) (text : List ℕ) → (t : ClusterThen k Rest ((48 + c) ∷ text)) → Rest (c + 1) text
behind_digit k c text t =
    let e = t.split in
    let digit : 48 + c ≡ 48 + t.cluster = cc in
    let rest : text ≡ t.rest = cc in
    let same : c + 1 ≡ t.cluster + 1 = omega arith in
    rw (same, rest) t.then'

cluster_then : (k c : ℕ) (rest : List ℕ) (j : ℕ) → k ≤ c → c ≤ 8 → IsTextFault (Rest (c + 1)) rest j → IsTextFault (ClusterThen k Rest) ((48 + c) ∷ rest) (suc j)
cluster_then k c rest j low high s = record {
  within = omega (arith, s.within);
  before = (s.before.0, record { cluster = c; low = low; high = high; rest = take j rest ++ s.before.0; split = refl; then' = s.before.1 });
  there = λ lt b. s.there (omega (arith, lt)) (b.0, behind_digit k c (take (j + 1) rest ++ b.0) (let p : suc j + 1 ≡ suc (j + 1) = omega arith in rw p at b.1));
  at_end = λ e b. s.at_end (omega (arith, e)) (behind_digit k c rest b);
}

-- ---- what is behind it

rest_stops : (k : ℕ) (text : List ℕ) → 0 < length text → (get_or text 0 0 ≡ 44 → 8 < k) → IsTextFault (Rest k) text 0
rest_stops k [] some past = absurd (omega (arith, some))
rest_stops k (b ∷ bs) some past = record {
  within = omega arith;
  before = ([], inl refl);
  there = λ _ s. elim s.1 [
    | inl e ↦ cc
    | inr t ↦
        (let e = t.split in
        let comma : b ≡ 44 = cc in
        let after = past comma in
        let low = t.then'.2.low in
        let high = t.then'.2.high in
        omega arith)
  ];
  at_end = λ e. absurd (omega (arith, e));
}

some_byte : (more : List ℕ) → 44 ∷ more ≡ [] → ⊥
some_byte more e = cc

rest_then : (k : ℕ) (rest : List ℕ) (j : ℕ) → IsTextFault (AreListedRevisions k) rest j → IsTextFault (Rest k) (44 ∷ rest) (suc j)
rest_then k rest j s =
    let c = byte_then (AreListedRevisions k) 44 rest j s in
    record {
      within = c.within;
      before = (c.before.0, inr c.before.1);
      there = λ lt b. elim b.1 [ inl e ↦ (let p : suc j + 1 ≡ suc (j + 1) = omega arith in some_byte (take (j + 1) rest ++ b.0) (rw p at e)) | inr t ↦ c.there lt (b.0, t) ];
      at_end = λ e b. elim b [ inl n ↦ some_byte rest n | inr t ↦ c.at_end e t ];
    }

-- ---- a list of revisions is a time, a counter, a cluster node and the rest

rest_behind : (k : ℕ) (text : List ℕ) → Rest k text → (rs : List Revision) × IsBehind k rs text
rest_behind k text t = elim t [ inl e ↦ ([], e) | inr b ↦ (b.then'.0 ∷ b.then'.1, (b.rest, b.split, b.then'.2)) ]

behind_rest : (k : ℕ) (rs : List Revision) (text : List ℕ) → IsBehind k rs text → Rest k text
behind_rest k [] text b = inl b
behind_rest k (r ∷ rs) text b = inr (record { rest = b.0; split = b.1; then' = (r, rs, b.2) })

split_parts : (text piece rest time counter cluster : List ℕ) (digit : ℕ) → text ≡ piece ++ rest → piece ≡ 114 ∷ (time ++ (45 ∷ (counter ++ (45 ∷ cluster)))) → cluster ≡ digit ∷ [] → text ≡ 114 ∷ (time ++ (45 ∷ (counter ++ (45 ∷ (digit ∷ rest)))))
split_parts text piece rest time counter cluster digit e f g =
    rw (e, f, g) (ap (λ xs. 114 ∷ xs) (append_assoc time (45 ∷ (counter ++ (45 ∷ digit ∷ []))) rest ∙ ap (λ xs. time ++ (45 ∷ xs)) (append_assoc counter (45 ∷ digit ∷ []) rest)))

list_parts : (k : ℕ) (text : List ℕ) → AreListedRevisions k text → Moment (ClusterThen k Rest) text
list_parts k text t =
    let r = t.0 in
    let l = t.2 in
    let is = l.is in
    let digit = cluster_digit r.cluster is.cluster l.high is.is_cluster in
    record {
      rest = is.time ++ (45 ∷ (is.counter ++ (45 ∷ ((48 + r.cluster) ∷ l.rest))));
      split = split_parts text l.piece l.rest is.time is.counter is.cluster (48 + r.cluster) l.split is.spelled digit;
      then' = record {
        digits = is.time;
        rest = 45 ∷ (is.counter ++ (45 ∷ ((48 + r.cluster) ∷ l.rest)));
        numeral = is.is_time.numeral;
        split = refl;
        then' = record {
          rest = is.counter ++ (45 ∷ ((48 + r.cluster) ∷ l.rest));
          split = refl;
          then' = record {
            digits = is.counter;
            rest = 45 ∷ ((48 + r.cluster) ∷ l.rest);
            numeral = is.is_counter.numeral;
            split = refl;
            then' = record {
              rest = (48 + r.cluster) ∷ l.rest;
              split = refl;
              then' = record { cluster = r.cluster; low = l.low; high = l.high; rest = l.rest; split = refl; then' = behind_rest (r.cluster + 1) t.1 l.rest l.behind };
            };
          };
        };
      };
    }

parts_list : (k : ℕ) (text : List ℕ) → Moment (ClusterThen k Rest) text → AreListedRevisions k text
parts_list k text w =
    let a = w.then' in
    let b = a.then'.then' in
    let c = b.then'.then' in
    let rs = rest_behind (c.cluster + 1) c.rest c.then' in (
      record { time = digits_value 16 a.digits; counter = digits_value 16 b.digits; cluster = c.cluster },
      rs.0,
      record {
        low = c.low;
        high = c.high;
        piece = 114 ∷ (a.digits ++ (45 ∷ (b.digits ++ (45 ∷ ((48 + c.cluster) ∷ [])))));
        rest = c.rest;
        is = record {
          time = a.digits;
          counter = b.digits;
          cluster = (48 + c.cluster) ∷ [];
          is_time = record { numeral = a.numeral; value = refl };
          is_counter = record { numeral = b.numeral; value = refl };
          is_cluster = cluster_spells c.cluster c.high;
          spelled = refl;
        };
        split = rw (w.split, a.split, a.then'.split, b.split, b.then'.split, c.split) (simp append_assoc);
        behind = rs.1;
      },
    )

list_fault : (k : ℕ) (text : List ℕ) (offset : ℕ) → IsTextFault (Moment (ClusterThen k Rest)) text offset → IsTextFault (AreListedRevisions k) text offset
list_fault k text offset s = same_faults (Moment (ClusterThen k Rest)) (AreListedRevisions k) text offset (parts_list k) (list_parts k) s

-- ---- from the place at which the list begins

-- the time and the counter are there, and what is behind them stops
behind_moment : (k : ℕ) (text : List ℕ) (at time counter dash j : ℕ) → TakesMoment text at time counter dash → IsTextFault (ByteThen 45 (ClusterThen k Rest)) (drop dash text) j → IsTextFault (AreListedRevisions k) (drop at text) (dash - at + j)
behind_moment k text at time counter dash j taken s = list_fault k (drop at text) (dash - at + j) (moment_then (ClusterThen k Rest) text at time counter dash j taken s)

dash_after : (text : List ℕ) (at time counter dash : ℕ) → TakesMoment text at time counter dash → at ≤ dash
dash_after text at time counter dash taken = omega (arith, taken.is_time.some, taken.is_counter.some)

pub no_moment : (k : ℕ) (text : List ℕ) (at offset : ℕ) → k ≤ 8 → at ≤ length text → MissesMoment text at offset → MissesList k text at offset
no_moment k text at offset high within missed = (
  elim missed [ inl a ↦ missed_above 114 text at offset a | inr m ↦ (let b = missed_above 45 text m.1 offset m.3 in let c = m.2.some in omega arith) ],
  list_fault k (drop at text) (offset - at) (moment_missed (ClusterThen k Rest) _ text at offset (cluster_some k high) within missed),
)

cluster_missed : (k : ℕ) (text : List ℕ) (dash offset : ℕ) → k ≤ 8 → dash ≤ length text → MissesCluster k text dash offset → IsTextFault (ByteThen 45 (ClusterThen k Rest)) (drop dash text) (offset - dash)
cluster_missed k text dash offset high within missed =
    let size : length (drop dash text) ≡ length text - dash = length-drop dash text in
    let size' : length (drop (dash + 1) text) ≡ length text - (dash + 1) = length-drop (dash + 1) text in
    elim missed [
      | inl no_dash ↦
          (let here : offset - dash ≡ 0 = omega (arith, no_dash.0) in
          rw here (byte_stops (ClusterThen k Rest) 45 (drop dash text) _ (cluster_some k high)
          (λ lt e. no_dash.1 (omega arith) (ap (λ i. get_or text i 0) (add-zero' dash) ∙ sym (get_or-drop dash text 0 0) ∙ e))))
      | inr no_digit ↦
          (let here : offset - dash ≡ suc 0 = omega (arith, no_digit.0) in
          rw (here, front_of 45 dash text no_digit.1 no_digit.2)
          (byte_then (ClusterThen k Rest) 45 (drop (dash + 1) text) 0
          (cluster_stops k (drop (dash + 1) text) high
          (λ lt c low high e. no_digit.3 (omega arith) c low high (rw (get_or-drop (dash + 1) text 0 0, add-zero) at e)))))
    ]

pub no_cluster : (k : ℕ) (text : List ℕ) (at time counter dash offset : ℕ) → k ≤ 8 → dash ≤ length text → TakesMoment text at time counter dash → MissesCluster k text dash offset → MissesList k text at offset
no_cluster k text at time counter dash offset high within taken missed =
    let after = dash_after text at time counter dash taken in
    let above : dash ≤ offset = elim missed [ inl a ↦ omega (arith, a.0) | inr b ↦ omega (arith, b.0) ] in
    let place : dash - at + (offset - dash) ≡ offset - at = omega arith in
    (omega arith, rw place at (behind_moment k text at time counter dash (offset - dash) taken (cluster_missed k text dash offset high within missed)))

-- the dash and the digit, and what is behind them
pub digit_front : (k : ℕ) (text : List ℕ) (dash cluster : ℕ) → TakesCluster k text dash cluster → drop dash text ≡ 45 ∷ ((48 + cluster) ∷ drop (dash + 2) text)
digit_front k text dash cluster taken =
    let within = taken.within in
    let next : dash + 1 + 1 ≡ dash + 2 = omega arith in
    front_of 45 dash text (omega arith) taken.dash ∙ ap (λ more. 45 ∷ more) (front_of (48 + cluster) (dash + 1) text within taken.digit ∙ ap (λ n. (48 + cluster) ∷ drop n text) next)

-- the cluster node is there too, and what is behind it stops
behind_cluster : (k : ℕ) (text : List ℕ) (at time counter dash cluster j : ℕ) → TakesMoment text at time counter dash → TakesCluster k text dash cluster → IsTextFault (Rest (cluster + 1)) (drop (dash + 2) text) j → IsTextFault (AreListedRevisions k) (drop at text) (dash + 2 + j - at)
behind_cluster k text at time counter dash cluster j moment taken s =
    let after = dash_after text at time counter dash moment in
    let place : dash - at + suc (suc j) ≡ dash + 2 + j - at = omega arith in
    rw place at (behind_moment k text at time counter dash (suc (suc j)) moment
    (rw (digit_front k text dash cluster taken) (byte_then (ClusterThen k Rest) 45 ((48 + cluster) ∷ drop (dash + 2) text) (suc j)
    (cluster_then k cluster (drop (dash + 2) text) j taken.low taken.high s))))

pub no_rest : (k : ℕ) (text : List ℕ) (at time counter dash cluster : ℕ) → TakesMoment text at time counter dash → TakesCluster k text dash cluster → dash + 2 < length text → (get_or text (dash + 2) 0 ≡ 44 → 8 ≤ cluster) → MissesList k text at (dash + 2)
no_rest k text at time counter dash cluster moment taken more past =
    let after = dash_after text at time counter dash moment in
    let place : dash + 2 + 0 ≡ dash + 2 = omega arith in (
      omega arith,
      rw place at (behind_cluster k text at time counter dash cluster 0 moment taken
          (rest_stops (cluster + 1) (drop (dash + 2) text) (omega (arith, length-drop (dash + 2) text))
          (λ e. let there : get_or text (dash + 2) 0 ≡ 44 = rw (get_or-drop (dash + 2) text 0 0, add-zero) at e in let p = past there in omega arith))),
    )

pub no_more : (k : ℕ) (text : List ℕ) (at time counter dash cluster offset : ℕ) → TakesMoment text at time counter dash → TakesCluster k text dash cluster → dash + 2 < length text → get_or text (dash + 2) 0 ≡ 44 → MissesList (cluster + 1) text (dash + 2 + 1) offset → MissesList k text at offset
no_more k text at time counter dash cluster offset moment taken more comma missed =
    let after = dash_after text at time counter dash moment in
    let above = missed.0 in
    let place : dash + 2 + suc (offset - (dash + 2 + 1)) - at ≡ offset - at = omega arith in (
      omega arith,
      rw place at (behind_cluster k text at time counter dash cluster (suc (offset - (dash + 2 + 1))) moment taken
          (rw (front_of 44 (dash + 2) text more comma) (rest_then (cluster + 1) (drop (dash + 2 + 1) text) (offset - (dash + 2 + 1)) missed.1))),
    )
