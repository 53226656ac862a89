-- Names each after a slash: one list of names for each text, and where a text stops being such.
use Rattle.std.proofs.Common.{◌≡◌, ◌≢◌, ℕ, ◌+◌, ◌<◌, ◌≤◌, Bool, true, false, cond, List, [], ◌∷◌, ◌++◌, length, take, get_or, suc, zero, refl, sym, ap, ◌∙◌, append_assoc, inl, inr, ◌⊎◌, arith, length-append}
use Rattle.std.specs.Prelude.{IsTrue, All, ◌==◌}
use Rattle.std.specs.List.{AllByRecursion, list_all, onto_first, slice_split}
use Rattle.std.proofs.lemmas.Bool.{cases_lt, eqb-true, eqb-false, false≢true, and_parts}
use Rattle.std.proofs.lemmas.List.{length-take-le, nil_from_length, take-append-le, take_more, append-nil}
use Rattle.std.proofs.lemmas.List.Elements.{All-head, All-tail, All-cons, All-nil}
use Rattle.std.proofs.lemmas.Str.{length-le-encodes}
use Rattle.std.proofs.str.Laws as laws
use lib.Utf8.{encode, encodes}
use Rattle.jr_path.specs.Grammar.{Begins, IsFirstFault, IsName, IsPrefixed, OneOrMore, is_plain, is_prefix_character}
use Rattle.jr_path.specs.Ids.{joined, path_text}
use Rattle.jr_path.specs.Paths.{HasDepth, IsPath, IsPathText}
use Rattle.jr_path.proofs.Follows.{plain_from_prefix}

-- ---- a name has bytes, and no slash

abbrev pub NoSlash : List ℕ → Type 0
NoSlash = AllByRecursion (λ b. b ≢ 47)

no_slash-append : (xs ys : List ℕ) → NoSlash xs → NoSlash ys → NoSlash (xs ++ ys)
no_slash-append [] ys h k = k
no_slash-append (x ∷ xs) ys h k = (h.0, no_slash-append xs ys h.1 k)

no_slash_encode : (c : ℕ) → c ≢ 47 → NoSlash (encode c)
no_slash_encode c apart = elim (cases_lt c 128) [
  | inl a ↦ rw (laws.one c a) (apart, tt)
  | inr a ↦ elim (cases_lt c 2048) [
    | inl b ↦ rw (laws.two c a b) ((λ e. omega arith), ((λ e. omega arith), tt))
    | inr b ↦ elim (cases_lt c 65536) [
      | inl d ↦ rw (laws.three c b d) ((λ e. omega arith), ((λ e. omega arith), ((λ e. omega arith), tt)))
      | inr d ↦ rw (laws.four c d) ((λ e. omega arith), ((λ e. omega arith), ((λ e. omega arith), ((λ e. omega arith), tt))))
    ]
  ]
]

no_slash_encodes : (cs : List ℕ) → NoSlash cs → NoSlash (encodes cs)
no_slash_encodes [] h = tt
no_slash_encodes (c ∷ cs) h = no_slash-append (encode c) (encodes cs) (no_slash_encode c h.0) (no_slash_encodes cs h.1)

plain_no_slash : (c : ℕ) → IsTrue (is_plain c) → c ≢ 47
plain_no_slash c h e = let h' : IsTrue (is_plain 47) = rw e at h in false≢true h'

no_slash_plain : (cs : List ℕ) → IsTrue (list_all is_plain cs) → NoSlash cs
no_slash_plain [] h = tt
no_slash_plain (c ∷ cs) h = let p = and_parts (is_plain c) (list_all is_plain cs) h in (plain_no_slash c p.0, no_slash_plain cs p.1)

no_slash_prefix : (cs : List ℕ) → IsTrue (list_all is_prefix_character cs) → NoSlash cs
no_slash_prefix [] h = tt
no_slash_prefix (c ∷ cs) h = let p = and_parts (is_prefix_character c) (list_all is_prefix_character cs) h in (plain_no_slash c (plain_from_prefix c p.0), no_slash_prefix cs p.1)

pub name_no_slash : (text : List ℕ) → IsName text → NoSlash text
name_no_slash text name = rw name.spelled (no_slash_encodes name.characters (elim name.form [
  | inl plain ↦ no_slash_plain name.characters plain.1
  | inr p ↦ rw p.split (no_slash-append p.prefix (58 ∷ p.local) (no_slash_prefix p.prefix p.is_prefix.1) ((λ e. omega arith), no_slash_plain p.local p.is_local.1))
]))

not_empty : (xs ys : List ℕ) (y : ℕ) → xs ++ y ∷ ys ≢ []
not_empty [] ys y e = cc
not_empty (x ∷ xs) ys y e = cc

no_characters : (cs : List ℕ) → cs ≡ [] → OneOrMore is_plain cs ⊎ IsPrefixed cs → ⊥
no_characters cs e (inl plain) = plain.0 e
no_characters cs e (inr p) = not_empty p.prefix p.local 58 (sym p.split ∙ e)

pub name_some : (text : List ℕ) → IsName text → text ≢ []
name_some text name e =
    let size = length-le-encodes name.characters in
    let none : length (encodes name.characters) ≡ 0 = ap (λ (xs : List ℕ). length xs) (sym name.spelled ∙ e) in
    no_characters name.characters (nil_from_length name.characters (omega arith)) name.form

-- ---- texts cut at slashes

-- nothing, or a slash and more
abbrev Slashed : List ℕ → Type 0
Slashed a = (a ≡ []) ⊎ ((t : List ℕ) × (a ≡ 47 ∷ t))

joined_slashed : (names : List (List ℕ)) → Slashed (joined names)
joined_slashed [] = inl refl
joined_slashed (n ∷ ns) = inr (n ++ joined ns, refl)

head_of : (c d : ℕ) (cs ds : List ℕ) → c ∷ cs ≡ d ∷ ds → (c ≡ d) × (cs ≡ ds)
head_of c d cs ds e = (cc, cc)

same_cons : (x y : ℕ) (xs ys : List ℕ) → x ≡ y → xs ≡ ys → x ∷ xs ≡ y ∷ ys
same_cons x y xs ys e f = cc

-- a name before a slash begins with all that is read of it
cut : (n a q b : List ℕ) → NoSlash q → Slashed a → n ++ a ≡ q ++ b → (m : List ℕ) × (n ≡ q ++ m) × (m ++ a ≡ b)
cut n a [] b apart slashed e = (n, refl, e)
cut [] a (x ∷ q) b apart (inl none) e = absurd (let h : [] ≡ x ∷ (q ++ b) = sym none ∙ e in cc)
cut [] a (x ∷ q) b apart (inr more) e =
    let h : 47 ∷ more.0 ≡ x ∷ (q ++ b) = sym more.1 ∙ e in
    absurd (apart.0 (sym (head_of 47 x more.0 (q ++ b) h).0))
cut (y ∷ n) a (x ∷ q) b apart slashed e =
    let h = head_of y x (n ++ a) (q ++ b) e in
    let rest = cut n a q b apart.1 slashed h.1 in
    (rest.0, same_cons y x n (q ++ rest.0) h.0 rest.1, rest.2)

slash_apart : (m a b : List ℕ) → NoSlash m → m ++ a ≡ 47 ∷ b → (m ≡ [])
slash_apart [] a b h e = refl
slash_apart (x ∷ m) a b h e = absurd (h.0 (head_of x 47 (m ++ a) b e).0)

no_slash_behind : (q m : List ℕ) → NoSlash (q ++ m) → NoSlash m
no_slash_behind [] m h = h
no_slash_behind (x ∷ q) m h = no_slash_behind q m h.1

-- a name that ends where a slash stands, or where the text ends, is what was read
cut_whole : (n a q b : List ℕ) → NoSlash n → NoSlash q → Slashed a → Slashed b → n ++ a ≡ q ++ b → (n ≡ q) × (a ≡ b)
cut_whole n a q b n_apart q_apart a_slashed b_slashed e =
    let p = cut n a q b q_apart a_slashed e in
    let m_apart : NoSlash p.0 = no_slash_behind q p.0 (rw p.1 at n_apart) in
    let none : p.0 ≡ [] = by p.0 m_apart p.2 b_slashed in
    (p.1 ∙ ap (λ xs. q ++ xs) none ∙ append-nil q, sym (ap (λ xs. xs ++ a) none) ∙ p.2)
  where
    nothing : (m : List ℕ) → m ++ a ≡ [] → m ≡ []
    nothing [] e = refl
    nothing (x ∷ m) e = cc

    by : (m : List ℕ) → NoSlash m → m ++ a ≡ b → Slashed b → m ≡ []
    by m h e (inl none) = nothing m (e ∙ none)
    by m h e (inr more) = slash_apart m a more.0 h (e ∙ more.1)

-- names that are cut so
abbrev pub AllNoSlash : List (List ℕ) → Type 0
AllNoSlash = AllByRecursion NoSlash

pub one_list : (a b : List (List ℕ)) → AllNoSlash a → AllNoSlash b → joined a ≡ joined b → a ≡ b
one_list [] [] h k e = refl
one_list [] (y ∷ ys) h k e = cc
one_list (x ∷ xs) [] h k e = cc
one_list (x ∷ xs) (y ∷ ys) h k e =
    let rest = (head_of 47 47 (x ++ joined xs) (y ++ joined ys) e).1 in
    let p = cut_whole x (joined xs) y (joined ys) h.0 k.0 (joined_slashed xs) (joined_slashed ys) rest in
    rw p.0 (ap (λ zs. y ∷ zs) (one_list xs ys h.1 k.1 p.1))

abbrev pub pieces : List ℕ → List (List ℕ)
pieces xs = slice_split (λ b. b == 47) xs

joined_onto : (x : ℕ) (parts : List (List ℕ)) (xs : List ℕ) → joined parts ≡ 47 ∷ xs → joined (onto_first x parts) ≡ 47 ∷ x ∷ xs
joined_onto x [] xs e = cc
joined_onto x (p ∷ ps) xs e = ap (λ ys. 47 ∷ x ∷ ys) (head_of 47 47 (p ++ joined ps) xs e).1

-- the pieces, each after a slash, are the text behind its first slash
pub joined-pieces : (xs : List ℕ) → joined (pieces xs) ≡ 47 ∷ xs
joined-pieces [] = refl
joined-pieces (x ∷ xs) = by (x == 47) refl (joined-pieces xs)
  where
    by : (b : Bool) → (x == 47) ≡ b → joined (pieces xs) ≡ 47 ∷ xs → joined (cond b ([] ∷ pieces xs) (onto_first x (pieces xs))) ≡ 47 ∷ x ∷ xs
    by true e rest = let is : x ≡ 47 = eqb-true x 47 e in rw is (ap (λ ys. 47 ∷ ys) rest)
    by false e rest = joined_onto x (pieces xs) xs rest

onto_no_slash : (x : ℕ) (parts : List (List ℕ)) → x ≢ 47 → AllNoSlash parts → AllNoSlash (onto_first x parts)
onto_no_slash x [] apart h = ((apart, tt), tt)
onto_no_slash x (p ∷ ps) apart h = ((apart, h.0), h.1)

pub pieces_no_slash : (xs : List ℕ) → AllNoSlash (pieces xs)
pieces_no_slash [] = (tt, tt)
pieces_no_slash (x ∷ xs) = by (x == 47) refl (pieces_no_slash xs)
  where
    by : (b : Bool) → (x == 47) ≡ b → AllNoSlash (pieces xs) → AllNoSlash (cond b ([] ∷ pieces xs) (onto_first x (pieces xs)))
    by true e rest = (tt, rest)
    by false e rest = onto_no_slash x (pieces xs) (eqb-false x 47 e) rest

-- ---- where a text stops being names each after a slash

abbrev pub AllNames : List (List ℕ) → Type 0
AllNames = AllByRecursion IsName

pub all_no_slash : (names : List (List ℕ)) → AllNames names → AllNoSlash names
all_no_slash [] h = tt
all_no_slash (n ∷ ns) h = (name_no_slash n h.0, all_no_slash ns h.1)

-- one or more names, each after a slash
pub record Chain (text : List ℕ) : Type 0 where
  pub first : List ℕ
  pub others : List (List ℕ)
  pub is_first : IsName first
  pub are_names : AllNames others
  pub spelled : text ≡ 47 ∷ (first ++ joined others)

abbrev StopsAt : List ℕ → ℕ → Type 0
StopsAt = IsFirstFault Chain

no_slash_take : (k : ℕ) (xs : List ℕ) → NoSlash xs → NoSlash (take k xs)
no_slash_take zero xs h = tt
no_slash_take (suc k) [] h = tt
no_slash_take (suc k) (x ∷ xs) h = (h.0, no_slash_take k xs h.1)

take_all : (xs : List ℕ) → take (length xs) xs ≡ xs
take_all [] = refl
take_all (x ∷ xs) = ap (λ ys. x ∷ ys) (take_all xs)

take_front : (xs ys : List ℕ) (k : ℕ) → take (length xs + k) (xs ++ ys) ≡ xs ++ take k ys
take_front [] ys k = ap (λ n. take n ys) (omega arith)
take_front (x ∷ xs) ys k = (let e : length (x ∷ xs) + k ≡ suc (length xs + k) = omega arith in rw e (ap (λ zs. x ∷ zs) (take_front xs ys k)))

slash_behind : (p t : List ℕ) (o : ℕ) → o ≡ length p → take (suc o + 1) (47 ∷ (p ++ 47 ∷ t)) ≡ 47 ∷ (p ++ 47 ∷ [])
slash_behind p t o here =
    let count : suc o + 1 ≡ suc (length p + 1) = omega arith in
    rw count (ap (λ xs. 47 ∷ xs) (take_front p (47 ∷ t) 1))

-- where a slash or the end stands behind what is read, the name is what is read, and the other names stand behind it
behind_name : (n : List ℕ) (ns : List (List ℕ)) (p b : List ℕ) → IsName n → NoSlash p → Slashed b → p ++ b ≡ n ++ joined ns → joined ns ≡ b
behind_name n ns p b name apart slashed e = (cut_whole n (joined ns) p b (name_no_slash n name) apart (joined_slashed ns) slashed (sym e)).1

chain_from : (ns : List (List ℕ)) (text t : List ℕ) → AllNames ns → text ≡ 47 ∷ t → joined ns ≡ text → Chain text
chain_from [] text t all starts e = absurd (let h : [] ≡ 47 ∷ t = e ∙ starts in cc)
chain_from (n ∷ ns) text t all starts e = record { first = n; others = ns; is_first = all.0; are_names = all.1; spelled = sym e }

-- the first piece isn't a name
first_stops : (p tail : List ℕ) (o : ℕ) → NoSlash p → Slashed tail → IsFirstFault IsName p o → StopsAt (47 ∷ (p ++ tail)) (suc o)
first_stops p tail o apart slashed fault =
    let within = fault.within in
    let whole = length-append p tail in
    record {
      within = omega arith;
      before = (
        fault.before.0,
        record {
          first = take o p ++ fault.before.0;
          others = [];
          is_first = fault.before.1;
          are_names = tt;
          spelled = (let cut_here : take o (p ++ tail) ≡ take o p = take-append-le o p tail within in rw cut_here (ap (λ xs. 47 ∷ xs) (sym (append-nil (take o p ++ fault.before.0)))));
        },
      );
      there = λ lt b. elim (cases_lt o (length p)) [
        | inl inside ↦ inside_piece inside b
        | inr past ↦ past_piece (omega arith) (omega arith) slashed b
      ];
      at_end = λ e c. whole_text (omega arith) (omega arith) c;
    }
  where
    named : (n : List ℕ) (ns : List (List ℕ)) (b : List ℕ) → IsName n → Slashed b → p ++ b ≡ n ++ joined ns → IsName p
    named n ns b name b_slashed e = let q = cut_whole n (joined ns) p b (name_no_slash n name) apart (joined_slashed ns) b_slashed (sym e) in rw q.0 at name

    inside_piece : o < length p → Begins Chain (take (suc o + 1) (47 ∷ (p ++ tail))) → ⊥
    inside_piece inside b =
        let chain = b.1 in
        let count : suc o + 1 ≡ suc (o + 1) = omega arith in
        let begun : take (o + 1) (p ++ tail) ≡ take (o + 1) p = take-append-le (o + 1) p tail (omega arith) in
        let spelled : take (suc o + 1) (47 ∷ (p ++ tail)) ++ b.0 ≡ 47 ∷ (chain.first ++ joined chain.others) = chain.spelled in
        let spelled' : 47 ∷ (take (o + 1) p ++ b.0) ≡ 47 ∷ (chain.first ++ joined chain.others) = rw (count, begun) at spelled in
        let p' = cut chain.first (joined chain.others) (take (o + 1) p) b.0 (no_slash_take (o + 1) p apart) (joined_slashed chain.others) (sym (head_of 47 47 _ _ spelled').1) in
        fault.there inside (p'.0, rw p'.1 at chain.is_first)

    past_piece : o ≡ length p → 0 < length tail → Slashed tail → Begins Chain (take (suc o + 1) (47 ∷ (p ++ tail))) → ⊥
    past_piece here some (inl none) b = (let l : length tail ≡ 0 = ap (λ (xs : List ℕ). length xs) none in omega arith)
    past_piece here some (inr more) b =
        let chain = b.1 in
        let begun : take (suc o + 1) (47 ∷ (p ++ tail)) ≡ 47 ∷ (p ++ 47 ∷ []) = ap (λ xs. take (suc o + 1) (47 ∷ (p ++ xs))) more.1 ∙ slash_behind p more.0 o here in
        let spelled : take (suc o + 1) (47 ∷ (p ++ tail)) ++ b.0 ≡ 47 ∷ (chain.first ++ joined chain.others) = chain.spelled in
        let spelled' : 47 ∷ (p ++ 47 ∷ b.0) ≡ 47 ∷ (chain.first ++ joined chain.others) = ap (λ xs. 47 ∷ xs) (sym (append_assoc p (47 ∷ []) b.0)) ∙ rw begun at spelled in
        fault.at_end here (named chain.first chain.others (47 ∷ b.0) chain.is_first (inr (b.0, refl)) (head_of 47 47 _ _ spelled').1)

    whole_text : o ≡ length p → length tail ≡ 0 → Chain (47 ∷ (p ++ tail)) → ⊥
    whole_text here none chain = fault.at_end here (named chain.first chain.others tail chain.is_first (inl (nil_from_length tail none)) (head_of 47 47 _ _ chain.spelled).1)

-- a name, and what is behind it stops
next_stops : (p tail : List ℕ) (k : ℕ) → IsName p → ((t : List ℕ) × (tail ≡ 47 ∷ t)) → StopsAt tail k → StopsAt (47 ∷ (p ++ tail)) (suc (length p + k))
next_stops p tail k name slashed stops =
    let within = stops.within in
    let whole = length-append p tail in
    let apart = name_no_slash p name in
    record {
      within = omega arith;
      before = (
        stops.before.0,
        (let chain = stops.before.1 in
            let begun : take (length p + k) (p ++ tail) ≡ p ++ take k tail = take_front p tail k in
            let spelled : take k tail ++ stops.before.0 ≡ joined (chain.first ∷ chain.others) = chain.spelled in
            record {
              first = p;
              others = chain.first ∷ chain.others;
              is_first = name;
              are_names = (chain.is_first, chain.are_names);
              spelled = rw begun (ap (λ xs. 47 ∷ xs) (append_assoc p (take k tail) stops.before.0 ∙ ap (λ xs. p ++ xs) spelled));
            }),
      );
      there = λ lt b.
          (let chain = b.1 in
          let count : suc (length p + k) + 1 ≡ suc (length p + suc k) = omega arith in
          let begun : take (suc (length p + k) + 1) (47 ∷ (p ++ tail)) ≡ 47 ∷ (p ++ take (suc k) tail) = rw count (ap (λ xs. 47 ∷ xs) (take_front p tail (suc k))) in
          let spelled : take (suc (length p + k) + 1) (47 ∷ (p ++ tail)) ++ b.0 ≡ 47 ∷ (chain.first ++ joined chain.others) = chain.spelled in
          let spelled' : 47 ∷ (p ++ (take (suc k) tail ++ b.0)) ≡ 47 ∷ (chain.first ++ joined chain.others) = ap (λ xs. 47 ∷ xs) (sym (append_assoc p (take (suc k) tail) b.0)) ∙ rw begun at spelled in
          let starts : take (suc k) tail ++ b.0 ≡ 47 ∷ (take k slashed.0 ++ b.0) = ap (λ xs. take (suc k) xs ++ b.0) slashed.1 in
          let behind = behind_name chain.first chain.others p (take (suc k) tail ++ b.0) chain.is_first apart (inr (take k slashed.0 ++ b.0, starts)) (head_of 47 47 _ _ spelled').1 in
          let one : k + 1 ≡ suc k = omega arith in
          stops.there (omega arith) (rw one (b.0, chain_from chain.others (take (suc k) tail ++ b.0) (take k slashed.0 ++ b.0) chain.are_names starts behind)));
      at_end = λ e chain.
          (let behind = behind_name chain.first chain.others p tail chain.is_first apart (inr slashed) (head_of 47 47 _ _ chain.spelled).1 in
          stops.at_end (omega arith) (chain_from chain.others tail slashed.0 chain.are_names slashed.1 behind));
    }

chain_starts : (q : List ℕ) (qs : List (List ℕ)) (n : ℕ) → n < length qs → (t : List ℕ) × (joined qs ≡ 47 ∷ t)
chain_starts q [] n lt = absurd (omega arith)
chain_starts q (x ∷ xs) n lt = (x ++ joined xs, refl)

-- behind some names, the first piece that isn't one
pub fault_at : (ps : List (List ℕ)) (n : ℕ) (p : List ℕ) (o : ℕ) → AllNoSlash ps → AllNames (take n ps) → n < length ps → p ≡ get_or ps n p → IsFirstFault IsName p o → StopsAt (joined ps) (length (joined (take n ps)) + suc o)
fault_at [] n p o apart names lt e fault = absurd (omega arith)
fault_at (q ∷ qs) zero p o apart names lt e fault =
    let here : 0 + suc o ≡ suc o = omega arith in
    rw here (first_stops q (joined qs) o apart.0 (joined_slashed qs) (rw e at fault))
fault_at (q ∷ qs) (suc n) p o apart names lt e fault =
    let rest = fault_at qs n p o apart.1 names.1 (omega arith) e fault in
    let whole = length-append q (joined (take n qs)) in
    let here : suc (length (q ++ joined (take n qs))) + suc o ≡ suc (length q + (length (joined (take n qs)) + suc o)) = omega arith in
    rw here (next_stops q (joined qs) (length (joined (take n qs)) + suc o) names.0 (chain_starts q qs n (omega arith)) rest)

-- how far the first pieces reach
pub pieces_reach : (ps : List (List ℕ)) (n : ℕ) (p : List ℕ) → n < length ps → p ≡ get_or ps n p
    → (length (joined (take n ps)) + suc (length p) ≤ length (joined ps)) × (length (joined (take (suc n) ps)) ≡ length (joined (take n ps)) + suc (length p)) × (n ≤ length (joined (take n ps)))
pieces_reach [] n p lt e = absurd (omega arith)
pieces_reach (q ∷ qs) zero p lt e =
    let same = ap (λ (xs : List ℕ). length xs) e in
    let whole = length-append q (joined qs) in
    let only = length-append q [] in
    (omega arith, omega arith, omega arith)
pieces_reach (q ∷ qs) (suc n) p lt e =
    let rest = pieces_reach qs n p (omega arith) e in
    let whole = length-append q (joined qs) in
    let front = length-append q (joined (take n qs)) in
    let more = length-append q (joined (take (suc n) qs)) in
    (omega (arith, rest.0), omega (arith, rest.1), omega (arith, rest.2))

pub names_more : (ps : List (List ℕ)) (n : ℕ) (p : List ℕ) → AllNames (take n ps) → n < length ps → p ≡ get_or ps n p → IsName p → AllNames (take (suc n) ps)
names_more [] n p names lt e name = absurd (omega arith)
names_more (q ∷ qs) zero p names lt e name = (rw e at name, tt)
names_more (q ∷ qs) (suc n) p names lt e name = (names.0, names_more qs n p names.1 (omega arith) e name)

-- ---- paths' texts

pub all_from_names : (names : List (List ℕ)) → AllNames names → All IsName names
all_from_names [] h = All-nil IsName
all_from_names (n ∷ ns) h = All-cons IsName n ns h.0 (all_from_names ns h.1)

pub names_from_all : (names : List (List ℕ)) → All IsName names → AllNames names
names_from_all [] h = tt
names_from_all (n ∷ ns) h = (All-head IsName n ns h, names_from_all ns (All-tail IsName n ns h))

apart_numbers : (m n : ℕ) → m < n → m ≡ n → ⊥
apart_numbers m n lt e = omega arith

letter_name : IsName (97 ∷ [])
letter_name = record {
  characters = 97 ∷ [];
  scalar = refl;
  spelled = sym (append-nil (encode 97) ∙ laws.one 97 (omega arith));
  form = inl ((λ e. cc), refl);
  size = omega arith;
  first = λ more e. apart_numbers 32 97 (omega arith) (sym (head_of 97 32 [] more e).0);
  last = λ front e. by front e;
  no_dot = λ e. apart_numbers 46 97 (omega arith) (sym (head_of 97 46 [] [] e).0);
  no_dots = λ e. apart_numbers 46 97 (omega arith) (sym (head_of 97 46 [] (46 ∷ []) e).0);
}
  where
    by : (front : List ℕ) → 97 ∷ [] ≢ front ++ 32 ∷ []
    by [] e = apart_numbers 32 97 (omega arith) (sym (head_of 97 32 [] [] e).0)
    by (f ∷ front) e = not_empty front [] 32 (sym (head_of 97 f [] (front ++ 32 ∷ []) e).1)

path_from_chain : (text : List ℕ) → Chain text → IsPathText text
path_from_chain text chain = (chain.first ∷ chain.others, record { are_names = all_from_names (chain.first ∷ chain.others) (chain.is_first, chain.are_names); spelled = chain.spelled })

chain_from_path : (text : List ℕ) (names : List (List ℕ)) → IsPath text names → (text ≡ 47 ∷ []) ⊎ Chain text
chain_from_path text [] path = inl path.spelled
chain_from_path text (n ∷ ns) path =
    let all = names_from_all (n ∷ ns) path.are_names in
    inr (record { first = n; others = ns; is_first = all.0; are_names = all.1; spelled = path.spelled })

some_append : (xs ys : List ℕ) → xs ++ ys ≡ 47 ∷ [] → 0 < length xs → xs ≡ 47 ∷ []
some_append [] ys e lt = absurd (omega arith)
some_append (x ∷ xs) ys e lt = same_cons x 47 xs [] (head_of x 47 (xs ++ ys) [] e).0 (nothing xs (head_of x 47 (xs ++ ys) [] e).1)
  where
    nothing : (xs : List ℕ) → xs ++ ys ≡ [] → xs ≡ []
    nothing [] e = refl
    nothing (x ∷ xs) e = cc

-- a text that isn't `/` stops as a path's where it stops as names each after a slash
pub path_stops : (text : List ℕ) (o : ℕ) → text ≢ 47 ∷ [] → StopsAt text o → IsFirstFault IsPathText text o
path_stops text o apart stops = record {
  within = stops.within;
  before = (stops.before.0, path_from_chain _ stops.before.1);
  there = λ lt b. by_cases lt b (chain_from_path _ b.1.0 b.1.1);
  at_end = λ e path. elim (chain_from_path text path.0 path.1) [ inl root ↦ apart root | inr chain ↦ stops.at_end e chain ];
}
  where
    by_cases : o < length text → (b : Begins IsPathText (take (o + 1) text)) → (take (o + 1) text ++ b.0 ≡ 47 ∷ []) ⊎ Chain (take (o + 1) text ++ b.0) → ⊥
    by_cases lt b (inl root) =
        let size : length (take (o + 1) text) ≡ o + 1 = length-take-le (o + 1) text (omega arith) in
        let begun : take (o + 1) text ≡ 47 ∷ [] = some_append (take (o + 1) text) b.0 root (omega arith) in
        stops.there lt (97 ∷ [], rw begun (record { first = 97 ∷ []; others = []; is_first = letter_name; are_names = tt; spelled = refl }))
    by_cases lt b (inr chain) = stops.there lt (b.0, chain)

-- a path's text begins with a slash
pub no_slash_stops : (text : List ℕ) → ((more : List ℕ) → text ≢ 47 ∷ more) → IsFirstFault IsPathText text 0
no_slash_stops text apart = record {
  within = omega arith;
  before = (47 ∷ [], ([], record { are_names = All-nil IsName; spelled = refl }));
  there = λ lt b. by text apart lt b;
  at_end = λ e path. starts text path.0 path.1 apart;
}
  where
    starts : (text : List ℕ) (names : List (List ℕ)) → IsPath text names → ((more : List ℕ) → text ≢ 47 ∷ more) → ⊥
    starts text [] path apart = apart [] path.spelled
    starts text (n ∷ ns) path apart = apart (n ++ joined ns) path.spelled

    first : (x : ℕ) (more : List ℕ) (names : List (List ℕ)) → IsPath (x ∷ more) names → x ≡ 47
    first x more [] path = (head_of x 47 more [] path.spelled).0
    first x more (n ∷ ns) path = (head_of x 47 more (n ++ joined ns) path.spelled).0

    by : (text : List ℕ) → ((more : List ℕ) → text ≢ 47 ∷ more) → 0 < length text → Begins IsPathText (take 1 text) → ⊥
    by [] apart lt b = omega arith
    by (x ∷ xs) apart lt b = apart xs (same_cons x 47 xs xs (first x b.0 b.1.0 b.1.1) refl)

-- one path for each text
pub one_path : (p q : List (List ℕ)) → AllNames p → AllNames q → path_text p ≡ path_text q → p ≡ q
one_path [] [] h k e = refl
one_path [] (y ∷ ys) h k e = absurd (name_some y k.0 (by y (head_of 47 47 [] (y ++ joined ys) e).1))
  where
    by : (y : List ℕ) → [] ≡ y ++ joined ys → y ≡ []
    by [] e = refl
    by (b ∷ bs) e = cc
one_path (x ∷ xs) [] h k e = absurd (name_some x h.0 (by x (head_of 47 47 (x ++ joined xs) [] e).1))
  where
    by : (x : List ℕ) → x ++ joined xs ≡ [] → x ≡ []
    by [] e = refl
    by (b ∷ bs) e = cc
one_path (x ∷ xs) (y ∷ ys) h k e = one_list (x ∷ xs) (y ∷ ys) (all_no_slash (x ∷ xs) h) (all_no_slash (y ∷ ys) k) e

-- ---- one piece after another of what stands behind a slash

pub record Turn (behind : List ℕ) (n start : ℕ) (p : List ℕ) : Type 0 where
  pub within : n < length (pieces behind)
  pub piece : p ≡ get_or (pieces behind) n p
  pub from : start ≡ length (joined (take n (pieces behind)))
  pub names : AllNames (take n (pieces behind))

pub turn : (behind : List ℕ) (n m start : ℕ) (p : List ℕ) → n ≡ m → (m < length (pieces behind)) × (p ≡ get_or (pieces behind) m p) → start ≡ length (joined (take n (pieces behind))) → AllNames (take n (pieces behind)) → Turn behind n start p
turn behind n m start p same place from names = record { within = rw same place.0; piece = rw same place.1; from = from; names = names }

pub turn_reaches : (behind : List ℕ) (n start : ℕ) (p : List ℕ) → Turn behind n start p → start + suc (length p) ≤ suc (length behind)
turn_reaches behind n start p t =
    let reach = pieces_reach (pieces behind) n p t.within t.piece in
    let whole : length (joined (pieces behind)) ≡ suc (length behind) = ap (λ (xs : List ℕ). length xs) (joined-pieces behind) in
    let from = t.from in
    omega (arith, reach.0)

pub turn_stops : (behind : List ℕ) (n start : ℕ) (p : List ℕ) (o : ℕ) → behind ≢ [] → Turn behind n start p → IsFirstFault IsName p o → IsFirstFault IsPathText (47 ∷ behind) (start + 1 + o)
turn_stops behind n start p o some t fault =
    let stops = fault_at (pieces behind) n p o (pieces_no_slash behind) t.names t.within t.piece fault in
    let here : length (joined (take n (pieces behind))) + suc o ≡ start + 1 + o = (let from = t.from in omega arith) in
    path_stops (47 ∷ behind) (start + 1 + o) (λ e. some (head_of 47 47 behind [] e).1) (rw (joined-pieces behind, here) at stops)

pub turn_moves : (behind : List ℕ) (n start : ℕ) (p : List ℕ) → Turn behind n start p → IsName p → (start + (1 + length p) ≡ length (joined (take (n + 1) (pieces behind)))) × AllNames (take (n + 1) (pieces behind))
turn_moves behind n start p t name =
    let reach = pieces_reach (pieces behind) n p t.within t.piece in
    let one : n + 1 ≡ suc n = omega arith in
    let from = t.from in
    rw one ((omega (arith, reach.1)), names_more (pieces behind) n p t.names t.within t.piece name)

text_from_joined : (names : List (List ℕ)) (t : List ℕ) → joined names ≡ 47 ∷ t → 47 ∷ t ≡ path_text names
text_from_joined [] t e = cc
text_from_joined (n ∷ ns) t e = sym e

take_whole : (xs : List (List ℕ)) (n : ℕ) → n ≡ length xs → take n xs ≡ xs
take_whole xs n e = rw e (by xs)
  where
    by : (xs : List (List ℕ)) → take (length xs) xs ≡ xs
    by [] = refl
    by (x ∷ xs) = ap (λ ys. x ∷ ys) (by xs)

pub turns_end : (behind : List ℕ) (n m : ℕ) → n ≡ m → m ≡ length (pieces behind) → AllNames (take n (pieces behind)) → HasDepth (47 ∷ behind) n
turns_end behind n m same all names =
    let whole : take n (pieces behind) ≡ pieces behind = take_whole (pieces behind) n (same ∙ all) in
    (pieces behind, record { are_names = all_from_names (pieces behind) (rw whole at names); spelled = text_from_joined (pieces behind) behind (joined-pieces behind) }, same ∙ all)

-- the pieces of a path's text are its names
pieces_are_names : (behind : List ℕ) → behind ≢ [] → (names : List (List ℕ)) → IsPath (47 ∷ behind) names → pieces behind ≡ names
pieces_are_names behind some [] path = absurd (some (head_of 47 47 behind [] path.spelled).1)
pieces_are_names behind some (n ∷ ns) path =
    one_list (pieces behind) (n ∷ ns) (pieces_no_slash behind) (all_no_slash (n ∷ ns) (names_from_all (n ∷ ns) path.are_names)) (joined-pieces behind ∙ path.spelled)

pub piece_is_name : (behind : List ℕ) (n : ℕ) (p : List ℕ) → behind ≢ [] → IsPathText (47 ∷ behind) → (n < length (pieces behind)) × (p ≡ get_or (pieces behind) n p) → IsName p
piece_is_name behind n p some path place =
    let same = pieces_are_names behind some path.0 path.1 in
    let all : All IsName (pieces behind) = rw same path.1.are_names in
    rw place.1 (all n p place.0)

pub one_more_piece : (behind : List ℕ) (n m : ℕ) (p q : List ℕ) (before after : List (List ℕ)) → m ≡ n + 1 → before ≡ take n (pieces behind) → after ≡ before ++ q ∷ [] → q ≡ p → (n < length (pieces behind)) × (p ≡ get_or (pieces behind) n p) → after ≡ take m (pieces behind)
one_more_piece behind n m p q before after more so_far put same place =
    put ∙ ap (λ x. before ++ x ∷ []) (same ∙ place.1) ∙ ap (λ xs. xs ++ get_or (pieces behind) n p ∷ []) so_far ∙ sym (take_more (pieces behind) n p place.0) ∙ ap (λ k. take k (pieces behind)) (sym more)

pub all_pieces : (behind : List ℕ) (n : ℕ) (path : List (List ℕ)) → behind ≢ [] → IsPathText (47 ∷ behind) → n ≡ length (pieces behind) → path ≡ take n (pieces behind) → IsPath (47 ∷ behind) path
all_pieces behind n path some text all so_far =
    let same = pieces_are_names behind some text.0 text.1 in
    let whole : path ≡ text.0 = so_far ∙ take_whole (pieces behind) n all ∙ same in
    rw whole text.1

-- a path has as many names as its text says
pub depth_is : (text : List ℕ) (depth : ℕ) (path : List (List ℕ)) → HasDepth text depth → IsPath text path → depth ≡ length path
depth_is text depth path has path_is =
    let same = one_path has.0 path (names_from_all has.0 has.1.are_names) (names_from_all path path_is.are_names) (sym has.1.spelled ∙ path_is.spelled) in
    has.2 ∙ ap (λ (xs : List (List ℕ)). length xs) same
