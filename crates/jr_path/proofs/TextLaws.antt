-- One text for each name, path and id, and one first fault for each other text.
use Rattle.std.proofs.Common.{◌≡◌, ℕ, ◌+◌, ◌^◌, ◌<◌, ◌≤◌, false, List, [], ◌∷◌, ◌++◌, length, take, drop, refl, sym, ap, ◌∙◌, append_assoc, inl, inr, arith}
use Rattle.std.specs.Prelude.{All, Err, Ok, codes}
use Rattle.std.specs.Fmt.{decimal, digits}
use Rattle.std.specs.Char.{digit_value}
use Rattle.std.specs.Str.Parse.{AllDigits, IsNumeral, digits_value}
use Rattle.std.proofs.lemmas.Bool.{cases_lt}
use Rattle.std.proofs.lemmas.Fmt.{digits_is_IsNumeral}
use Rattle.std.proofs.lemmas.List.{take-append-drop, take-take}
use Rattle.jr_path.specs.Grammar.{Begins, HasOneFault, IsFirstFault, IsName}
use Rattle.jr_path.specs.Ids.{id_text, names_of, number_of, path_text}
use Rattle.jr_path.specs.Paths.{IsPath, IsPathText, NamesReadBack, PathsReadBack}
use Rattle.jr_path.specs.declared.fault.PathFault.TheVariants as fault
use Rattle.jr_path.specs.declared.path.Path.{Path}
use Rattle.jr_path.specs.declared.path.DocId.{DocId}
use Rattle.jr_path.specs.declared.path.DocId.TheVariants.{Node, Prev, Settings}
use Rattle.jr_path.proofs.Pieces.{depth_is, names_from_all, one_path}

-- what begins with a longer text begins with a shorter one of it
begins_sooner : (Grammar : List ℕ → Type 0) (m n : ℕ) (text : List ℕ) → m ≤ n → Begins Grammar (take n text) → Begins Grammar (take m text)
begins_sooner Grammar m n text le b =
    let split : take n text ≡ take m text ++ drop m (take n text) = sym (take-append-drop m (take n text)) ∙ ap (λ xs. xs ++ drop m (take n text)) (take-take m n text le) in
    let whole : take n text ++ b.0 ≡ take m text ++ (drop m (take n text) ++ b.0) = ap (λ xs. xs ++ b.0) split ∙ append_assoc (take m text) (drop m (take n text)) b.0 in
    (drop m (take n text) ++ b.0, rw whole at b.1)

not_later : (Grammar : List ℕ → Type 0) (text : List ℕ) (a b : ℕ) → IsFirstFault Grammar text a → IsFirstFault Grammar text b → a < b → ⊥
not_later Grammar text a b first later lt = first.there (let within = later.within in omega arith) (begins_sooner Grammar (a + 1) b text (omega arith) later.before)

pub one_fault : (Grammar : List ℕ → Type 0) → HasOneFault Grammar
one_fault Grammar = record {
  one = λ text a b first second. elim (cases_lt a b) [
    | inl lt ↦ absurd (not_later Grammar text a b first second lt)
    | inr le ↦ elim (cases_lt b a) [ inl lt ↦ absurd (not_later Grammar text b a second first lt) | inr ge ↦ omega arith ]
  ];
  none = λ text a fault whole. elim (cases_lt a (length text)) [
    | inl lt ↦ fault.there lt (drop (a + 1) text, (let e = take-append-drop (a + 1) text in rw e whole))
    | inr ge ↦ fault.at_end (let within = fault.within in omega arith) whole
  ];
}

pub names_read_back : NamesReadBack
names_read_back name (Ok read) is_name same fault = inl (ap (λ x. Ok x) same)
names_read_back name (Err (fault.BadName offset)) is_name same fault' = absurd ((one_fault IsName).none name offset fault' is_name)
names_read_back name (Err (fault.BadPath offset)) is_name same fault' = absurd fault'
names_read_back name (Err (fault.TooDeep depth)) is_name same fault' = absurd fault'
names_read_back name (Err (fault.TooLong bytes)) is_name same fault' = absurd fault'
names_read_back name (Err fault.Memory) is_name same fault' = inr refl

its_path : (path : Path) → All IsName path → IsPath (path_text path) path
its_path path all = record { are_names = all; spelled = refl }

pub paths_read_back : PathsReadBack
paths_read_back path (Ok read) all deep long same fault' = inl (ap (λ x. Ok x) (one_path read path (names_from_all read same.0.are_names) (names_from_all path all) (sym same.0.spelled)))
paths_read_back path (Err (fault.BadName offset)) all deep long same fault' = absurd fault'
paths_read_back path (Err (fault.BadPath offset)) all deep long same fault' = absurd ((one_fault IsPathText).none (path_text path) offset fault' (path, its_path path all))
paths_read_back path (Err (fault.TooDeep depth)) all deep long same fault' = absurd (let d = depth_is (path_text path) depth path fault'.0 (its_path path all) in let over = fault'.1 in omega arith)
paths_read_back path (Err (fault.TooLong bytes)) all deep long same fault' = absurd (let e = fault'.1 in let over = fault'.2 in omega arith)
paths_read_back path (Err fault.Memory) all deep long same fault' = inr refl

-- ---- texts of ids

head_of : (c d : ℕ) (cs ds : List ℕ) → c ∷ cs ≡ d ∷ ds → (c ≡ d) × (cs ≡ ds)
head_of c d cs ds e = (cc, cc)

-- digits hold no colon (58), so they end where it stands
digit_no_colon : (base c : ℕ) → base ≤ 16 → digit_value c < base → c ≡ 58 → ⊥
digit_no_colon base c low h e = let h' : digit_value 58 < base = rw e at h in omega arith

cut_at_colon : (base : ℕ) → base ≤ 16 → (xs ys a b : List ℕ) → AllDigits base xs → AllDigits base ys → xs ++ 58 ∷ a ≡ ys ++ 58 ∷ b → (xs ≡ ys) × (a ≡ b)
cut_at_colon base low [] [] a b h k e = (refl, (head_of 58 58 a b e).1)
cut_at_colon base low [] (y ∷ ys) a b h k e = absurd (digit_no_colon base y low k.0 (sym (head_of 58 y a (ys ++ 58 ∷ b) e).0))
cut_at_colon base low (x ∷ xs) [] a b h k e = absurd (digit_no_colon base x low h.0 (head_of x 58 (xs ++ 58 ∷ a) b e).0)
cut_at_colon base low (x ∷ xs) (y ∷ ys) a b h k e =
    let p = head_of x y (xs ++ 58 ∷ a) (ys ++ 58 ∷ b) e in
    let rest = cut_at_colon base low xs ys a b h.1 k.1 p.1 in
    (by p.0 rest.0, rest.1)
  where
    by : x ≡ y → xs ≡ ys → x ∷ xs ≡ y ∷ ys
    by e f = cc

apart_numbers : (m n : ℕ) → m < n → m ≡ n → ⊥
apart_numbers m n lt e = omega arith

-- a text that begins with a digit begins with no letter
no_letter : (letter : ℕ) → 10 ≤ digit_value letter → (xs a b : List ℕ) → IsNumeral 10 xs → xs ++ a ≡ letter ∷ b → ⊥
no_letter letter high [] a b n e = (let some = n.0 in omega arith)
no_letter letter high (x ∷ xs) a b n e =
    let is : x ≡ letter = (head_of x letter (xs ++ a) b e).0 in
    let digit : digit_value letter < 10 = rw is at n.1.0 in
    omega arith

number_of_nodes : (n : ℕ) → n < 2 ^ 64 → IsNumeral 10 (decimal n)
number_of_nodes n small = (digits_is_IsNumeral 10 false (omega arith) (omega arith) n (omega arith)).0

node_text : (p : Path) → id_text (Node p) ≡ decimal (length p) ++ 58 ∷ path_text p
node_text p = append_assoc (decimal (length p)) (58 ∷ []) (path_text p)

prev_text : (n : ℕ) (p : Path) → id_text (Prev n p) ≡ 112 ∷ (digits 16 false n ++ 58 ∷ path_text p)
prev_text n p = ap (λ xs. 112 ∷ xs) (append_assoc (digits 16 false n) (58 ∷ []) (path_text p))

same_path : (p q : Path) → All IsName p → All IsName q → path_text p ≡ path_text q → p ≡ q
same_path p q h k e = one_path p q (names_from_all p h) (names_from_all q k) e

same_nodes : (p q : Path) → All IsName p → All IsName q → length p < 2 ^ 64 → length q < 2 ^ 64 → id_text (Node p) ≡ id_text (Node q) → p ≡ q
same_nodes p q h k hs ks e =
    let e' = sym (node_text p) ∙ e ∙ node_text q in
    let cut = cut_at_colon 10 (omega arith) (decimal (length p)) (decimal (length q)) (path_text p) (path_text q) (number_of_nodes (length p) hs).1 (number_of_nodes (length q) ks).1 e' in
    same_path p q h k cut.1

same_prevs : (m n : ℕ) (p q : Path) → All IsName p → All IsName q → m < 2 ^ 64 → n < 2 ^ 64 → id_text (Prev m p) ≡ id_text (Prev n q) → (m ≡ n) × (p ≡ q)
same_prevs m n p q h k ms ns e =
    let e' = sym (prev_text m p) ∙ e ∙ prev_text n q in
    let behind = (head_of 112 112 (digits 16 false m ++ 58 ∷ path_text p) (digits 16 false n ++ 58 ∷ path_text q) e').1 in
    let first = digits_is_IsNumeral 16 false (omega arith) (omega arith) m (omega arith) in
    let second = digits_is_IsNumeral 16 false (omega arith) (omega arith) n (omega arith) in
    let cut = cut_at_colon 16 (omega arith) (digits 16 false m) (digits 16 false n) (path_text p) (path_text q) first.0.1 second.0.1 behind in
    (sym first.1 ∙ ap (digits_value 16) cut.0 ∙ second.1, same_path p q h k cut.1)

node_is_no_prev : (p : Path) (n : ℕ) (q : Path) → length p < 2 ^ 64 → id_text (Node p) ≡ id_text (Prev n q) → ⊥
node_is_no_prev p n q small e = no_letter 112 (omega arith) (decimal (length p)) (58 ∷ path_text p) (digits 16 false n ++ 58 ∷ path_text q) (number_of_nodes (length p) small) (sym (node_text p) ∙ e ∙ prev_text n q)

node_is_no_settings : (p : Path) → length p < 2 ^ 64 → id_text (Node p) ≡ codes "settings" → ⊥
node_is_no_settings p small e = no_letter 115 (omega arith) (decimal (length p)) (58 ∷ path_text p) (codes "ettings") (number_of_nodes (length p) small) (sym (node_text p) ∙ e)

prev_is_no_settings : (n : ℕ) (p : Path) → id_text (Prev n p) ≡ codes "settings" → ⊥
prev_is_no_settings n p e = apart_numbers 112 115 (omega arith) (head_of 112 115 (digits 16 false n ++ 58 ∷ path_text p) (codes "ettings") (sym (prev_text n p) ∙ e)).0

pub same_ids : (a b : DocId) → All IsName (names_of a) → All IsName (names_of b) → length (names_of a) < 2 ^ 64 → length (names_of b) < 2 ^ 64 → number_of a < 2 ^ 64 → number_of b < 2 ^ 64 → id_text a ≡ id_text b → a ≡ b
same_ids (Node p) (Node q) h k hs ks ms ns e = ap (λ x. Node x) (same_nodes p q h k hs ks e)
same_ids (Node p) (Prev n q) h k hs ks ms ns e = absurd (node_is_no_prev p n q hs e)
same_ids (Node p) Settings h k hs ks ms ns e = absurd (node_is_no_settings p hs e)
same_ids (Prev m p) (Node q) h k hs ks ms ns e = absurd (node_is_no_prev q m p ks (sym e))
same_ids (Prev m p) (Prev n q) h k hs ks ms ns e = let same = same_prevs m n p q h k ms ns e in ap (λ x. Prev x p) same.0 ∙ ap (λ x. Prev n x) same.1
same_ids (Prev m p) Settings h k hs ks ms ns e = absurd (prev_is_no_settings m p e)
same_ids Settings (Node q) h k hs ks ms ns e = absurd (node_is_no_settings q ks (sym e))
same_ids Settings (Prev n q) h k hs ks ms ns e = absurd (prev_is_no_settings n q (sym e))
same_ids Settings Settings h k hs ks ms ns e = refl
