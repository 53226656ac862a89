-- The texts of vectors as lists of revisions, and the vectors that have them.
use Rattle.std.proofs.Common.{◌≡◌, ◌≢◌, ℕ, ◌+◌, ◌-◌, ◌<◌, ◌≤◌, ◌⊎◌, List, Option, Some, None, [], ◌∷◌, ◌++◌, length, drop, get_or, replicate, zero, suc, Bool, true, false, arith, refl, inl, inr, sym, ap, ◌∙◌, append_assoc, get_or-set_other}
use Rattle.std.specs.Prelude.{◌==◌, slice_set}
use Rattle.std.specs.List.{AllZip, join_with_byte}
use Rattle.std.proofs.lemmas.List.{drop_all, length-append, length-take}
use Rattle.std.proofs.lemmas.Bool.Decides.{nat_tests}
use Rattle.jr_rev.specs.Grammar.{IsRevisionText, IsVectorText, IsSomeVectorText, IsTextFault}
use Rattle.jr_rev.specs.Listed.{Listed, IsBehind, AreListedRevisions, IsClear, Reads, TakesCluster, MissesList}
use Rattle.jr_rev.specs.Scan.{TakesMoment}
use Rattle.jr_rev.specs.Vectors.{Entries, IsVector, stands_from, with_entry, no_entries, revisions_of}
use Rattle.jr_rev.specs.declared.revision.Revision.{Revision}
use Rattle.jr_rev.proofs.Clusters.{digit_front}
use Rattle.jr_rev.proofs.Entries.{both, number_same, set_vector}
use Rattle.jr_rev.proofs.Faults.{front_of}
use Rattle.jr_rev.proofs.Grammar.{moment_part}
use Rattle.jr_rev.proofs.Hexadecimal.{cluster_spells}
use Rattle.jr_rev.proofs.Joined.{behind_texts, joined_texts}

-- ---- a vector with one revision more, of a lower cluster node than all others

put_first : (v : Entries) (n : ℕ) (r : Revision) → n < length v → ((i : ℕ) → i ≤ n → get_or v i None ≡ None) → revisions_of (slice_set v n (Some r)) ≡ r ∷ revisions_of v
put_first [] n r lt clear = absurd (omega (arith, lt))
put_first (None ∷ v) zero r lt clear = refl
put_first (Some e ∷ v) zero r lt clear = let none = clear zero (omega arith) in cc
put_first (None ∷ v) (suc n) r lt clear = put_first v n r (omega (arith, lt)) (λ i le. clear (suc i) (omega (arith, le)))
put_first (Some e ∷ v) (suc n) r lt clear = let none = clear zero (omega arith) in cc

-- the rest of a text, and a vector that has its revisions
pub record ReadsRest (k : ℕ) (text : List ℕ) (v : Entries) : Type 0 where
  pub vector : IsVector v
  pub clear : IsClear k v
  pub behind : IsBehind k (revisions_of v) text

no_vector : IsVector no_entries
no_vector = record { eight = refl; stands = refl }

nothing_at : (n i : ℕ) → get_or (replicate {A = Option Revision} n None) i None ≡ None
nothing_at zero i = refl
nothing_at (suc n) zero = refl
nothing_at (suc n) (suc i) = nothing_at n i

no_entry : (i : ℕ) → get_or no_entries i None ≡ None
no_entry i = nothing_at 8 i

pub reads_end : (k : ℕ) (text : List ℕ) → text ≡ [] → ReadsRest k text no_entries
reads_end k text e = record { vector = no_vector; clear = λ i _. no_entry i; behind = e }

pub reads_more : (k : ℕ) (text more : List ℕ) (v : Entries) → text ≡ 44 ∷ more → Reads k more v → ReadsRest k text v
reads_more k text more v e reads = record {
  vector = reads.vector;
  clear = reads.clear;
  behind = (let b : IsBehind k (reads.first ∷ reads.others) text = (more, e, reads.listed) in rw reads.revisions b);
}

pub reads_one : (k : ℕ) (text rest : List ℕ) (r : Revision) (v : Entries) → 1 ≤ k → ReadsRest (r.cluster + 1) rest v → Listed k r (IsBehind (r.cluster + 1) (revisions_of v)) text → Reads k text (with_entry v r)
reads_one k text rest r v positive reads listed =
    let low = listed.low in
    let high = listed.high in
    let eight = reads.vector.eight in
    record {
      vector = set_vector v r reads.vector (omega arith);
      clear = λ i lt. (let other : i ≢ r.cluster - 1 = omega arith in rw get_or-set_other (reads.clear i (omega arith)));
      first = r;
      others = revisions_of v;
      revisions = put_first v (r.cluster - 1) r (omega arith) (λ i le. reads.clear i (omega arith));
      listed = listed;
    }

-- the revision whose parts are read at a place
pub listed_at : (k : ℕ) (text : List ℕ) (at time counter dash cluster : ℕ) (rs : List Revision) → TakesMoment text at time counter dash → TakesCluster k text dash cluster → IsBehind (cluster + 1) rs (drop (dash + 2) text)
    → Listed k (record { time = time; counter = counter; cluster = cluster }) (IsBehind (cluster + 1) rs) (drop at text)
listed_at k text at time counter dash cluster rs moment taken behind =
    let m = moment_part text at time counter dash moment in
    record {
      low = taken.low;
      high = taken.high;
      piece = 114 ∷ (m.0 ++ (45 ∷ (m.1 ++ (45 ∷ ((48 + cluster) ∷ [])))));
      rest = drop (dash + 2) text;
      is = record {
        time = m.0;
        counter = m.1;
        cluster = (48 + cluster) ∷ [];
        is_time = m.2;
        is_counter = m.3;
        is_cluster = cluster_spells cluster taken.high;
        spelled = refl;
      };
      split = split_at (drop at text) (drop dash text) (drop (dash + 2) text) m.0 m.1 (48 + cluster) m.4 (digit_front k text dash cluster taken);
      behind = behind;
    }
  where
    split_at : (text more rest time counter : List ℕ) (digit : ℕ) → text ≡ 114 ∷ (time ++ (45 ∷ (counter ++ more))) → more ≡ 45 ∷ (digit ∷ rest) → text ≡ (114 ∷ (time ++ (45 ∷ (counter ++ (45 ∷ (digit ∷ [])))))) ++ rest
    split_at text more rest time counter digit e f =
        e ∙ ap (λ xs. 114 ∷ (time ++ (45 ∷ (counter ++ xs)))) f ∙ sym (ap (λ xs. 114 ∷ xs) (append_assoc time (45 ∷ (counter ++ (45 ∷ digit ∷ []))) rest ∙ ap (λ xs. time ++ (45 ∷ xs)) (append_assoc counter (45 ∷ digit ∷ []) rest)))

pub found_end : (k : ℕ) (text : List ℕ) (at time counter dash cluster : ℕ) → 1 ≤ k → TakesMoment text at time counter dash → TakesCluster k text dash cluster → dash + 2 ≡ length text
    → Reads k (drop at text) (with_entry no_entries (record { time = time; counter = counter; cluster = cluster }))
found_end k text at time counter dash cluster positive moment taken end =
    let none : drop (dash + 2) text ≡ [] = drop_all (dash + 2) text (omega arith) in
    reads_one k (drop at text) (drop (dash + 2) text) (record { time = time; counter = counter; cluster = cluster }) no_entries positive (reads_end (cluster + 1) (drop (dash + 2) text) none) (listed_at k text at time counter dash cluster [] moment taken none)

pub found_more : (k : ℕ) (text : List ℕ) (at time counter dash cluster : ℕ) (v : Entries) → 1 ≤ k → TakesMoment text at time counter dash → TakesCluster k text dash cluster → dash + 2 < length text → get_or text (dash + 2) 0 ≡ 44
    → Reads (cluster + 1) (drop (dash + 2 + 1) text) v → Reads k (drop at text) (with_entry v (record { time = time; counter = counter; cluster = cluster }))
found_more k text at time counter dash cluster v positive moment taken more comma reads =
    let rest : ReadsRest (cluster + 1) (drop (dash + 2) text) v = reads_more (cluster + 1) (drop (dash + 2) text) (drop (dash + 2 + 1) text) v (front_of 44 (dash + 2) text more comma) reads in
    reads_one k (drop at text) (drop (dash + 2) text) (record { time = time; counter = counter; cluster = cluster }) v positive rest (listed_at k text at time counter dash cluster (revisions_of v) moment taken rest.behind)

-- ---- from the list to a vector's text

-- the texts of the revisions
texts_behind : (k : ℕ) (rs : List Revision) (text : List ℕ) → IsBehind k rs text → (texts : List (List ℕ)) × AllZip IsRevisionText texts rs × (text ≡ behind_texts texts)
texts_behind k [] text b = ([], tt, b)
texts_behind k (r ∷ rs) text b =
    let l = b.2 in
    let rest = texts_behind (r.cluster + 1) rs l.rest l.behind in
    (l.piece ∷ rest.0, (l.is, rest.1), b.1 ∙ ap (λ xs. 44 ∷ xs) (l.split ∙ ap (λ more. l.piece ++ more) rest.2))

text_of_list : (text : List ℕ) (v : Entries) (r : Revision) (rs : List Revision) → IsVector v → revisions_of v ≡ r ∷ rs → Listed 1 r (IsBehind (r.cluster + 1) rs) text → IsVectorText text v
text_of_list text v r rs vector e l =
    let rest = texts_behind (r.cluster + 1) rs l.rest l.behind in
    record {
      vector = vector;
      texts = l.piece ∷ rest.0;
      each = (let both' : AllZip IsRevisionText (l.piece ∷ rest.0) (r ∷ rs) = (l.is, rest.1) in rw e both');
      joined = l.split ∙ ap (λ more. l.piece ++ more) rest.2 ∙ sym (joined_texts l.piece rest.0);
    }

pub text_of_reads : (text : List ℕ) (v : Entries) → Reads 1 text v → IsVectorText text v
text_of_reads text v reads = text_of_list text v reads.first reads.others reads.vector reads.revisions reads.listed

text_of_none : IsVectorText [] no_entries
text_of_none = record { vector = no_vector; texts = []; each = tt; joined = refl }

pub text_of_empty : (text : List ℕ) (b : Bool) → b ≡ (length text == 0) → b ≡ true → IsVectorText text no_entries
text_of_empty [] b e f = text_of_none
text_of_empty (c ∷ cs) b e f = absurd (grind (arith, nat_tests))

pub not_empty : (n : ℕ) (b : Bool) → b ≡ (n == 0) → b ≡ false → 0 < n
not_empty n b e f = grind (arith, nat_tests)

-- the vector of the revisions
vector_behind : (k : ℕ) (rs : List Revision) (text : List ℕ) → 1 ≤ k → IsBehind k rs text → (v : Entries) × ReadsRest k text v
vector_behind k [] text positive b = (no_entries, reads_end k text b)
vector_behind k (r ∷ rs) text positive b =
    let l = b.2 in
    let rest = vector_behind (r.cluster + 1) rs l.rest (omega arith) l.behind in
    (with_entry rest.0 r, reads_more k text b.0 (with_entry rest.0 r) b.1 (reads_one k b.0 l.rest r rest.0 positive rest.1 (record { low = l.low; high = l.high; piece = l.piece; rest = l.rest; is = l.is; split = l.split; behind = rest.1.behind })))

list_vector : (text : List ℕ) → AreListedRevisions 1 text → IsSomeVectorText text
list_vector text t =
    let r = t.0 in
    let l = t.2 in
    let rest = vector_behind (r.cluster + 1) t.1 l.rest (omega arith) l.behind in
    (with_entry rest.0 r, text_of_reads text (with_entry rest.0 r) (reads_one 1 text l.rest r rest.0 (omega arith) rest.1 (record { low = l.low; high = l.high; piece = l.piece; rest = l.rest; is = l.is; split = l.split; behind = rest.1.behind })))

-- ---- from a vector's text to the list

behind_entries : (k j : ℕ) (es : Entries) (texts : List (List ℕ)) → k ≤ j → length es + j ≤ 9 → stands_from j es ≡ true → AllZip IsRevisionText texts (revisions_of es) → IsBehind k (revisions_of es) (behind_texts texts)
behind_entries k j [] [] le fits stands each = refl
behind_entries k j [] (t ∷ ts) le fits stands each = absurd each
behind_entries k j (None ∷ es) texts le fits stands each = behind_entries k (j + 1) es texts (omega arith) (omega (arith, fits)) stands each
behind_entries k j (Some r ∷ es) [] le fits stands each = absurd each
behind_entries k j (Some r ∷ es) (t ∷ ts) le fits stands each =
    let s = both (r.cluster == j) _ stands in
    let node = number_same r.cluster j s.0 in
    let here : length es + 1 + j ≤ 9 = omega (arith, fits) in (
      t ++ behind_texts ts,
      refl,
      record {
        low = omega arith;
        high = omega arith;
        piece = t;
        rest = behind_texts ts;
        is = each.0;
        split = refl;
        behind = behind_entries (r.cluster + 1) (j + 1) es ts (omega arith) (omega arith) s.1 each.1;
      },
    )

list_of_behind : (rs : List Revision) (text : List ℕ) (texts : List (List ℕ)) → text ≡ join_with_byte 44 texts → IsBehind 1 rs (behind_texts texts) → (text ≡ []) ⊎ AreListedRevisions 1 text
list_of_behind rs text [] e b = inl e
list_of_behind [] text (t ∷ ts) e b = let none : 44 ∷ (t ++ behind_texts ts) ≡ [] = b in cc
list_of_behind (r ∷ rs) text (t ∷ ts) e b =
    let first : 44 ∷ (t ++ behind_texts ts) ≡ 44 ∷ b.0 = b.1 in
    let same : text ≡ b.0 = e ∙ joined_texts t ts ∙ cc in
    inr (r, rs, rw same b.2)

vector_list : (text : List ℕ) (v : Entries) → IsVectorText text v → (text ≡ []) ⊎ AreListedRevisions 1 text
vector_list text v t = list_of_behind (revisions_of v) text t.texts t.joined (behind_entries 1 1 v t.texts (omega arith) (omega (arith, t.vector.eight)) t.vector.stands t.each)

-- ---- the whole text

pub no_list : (text : List ℕ) (offset : ℕ) → 0 < length text → MissesList 1 text 0 offset → IsTextFault IsSomeVectorText text offset
no_list text offset some missed =
    let place : offset - 0 ≡ offset = omega arith in
    let s : IsTextFault (AreListedRevisions 1) text offset = rw place at missed.1 in
    record {
      within = s.within;
      before = (s.before.0, list_vector _ s.before.1);
      there = λ lt b. elim (vector_list _ b.1.0 b.1.1) [ inl e ↦ absurd (omega (arith, simp (length-append, length-take) at (ap length e))) | inr l ↦ s.there lt (b.0, l) ];
      at_end = λ e t. elim (vector_list text t.0 t.1) [ inl n ↦ absurd (omega (arith, ap length n)) | inr l ↦ s.at_end e l ];
    }
