-- The documents of a node's children stand together in store order, the least possible name first.
use Rattle.std.proofs.Common.{◌≡◌, ◌≢◌, ℕ, ◌+◌, ◌≤◌, true, ◌⊎◌, inl, inr, List, [], ◌∷◌, ◌++◌, length, take, refl, sym, ap, ◌∙◌, subst, arith, append_assoc}
use Rattle.std.specs.Prelude.{codes}
use Rattle.std.specs.List.{list_all}
use Rattle.std.specs.declared.cmp.Ordering.{Ordering}
use Rattle.std.specs.declared.cmp.Ordering.TheVariants.{Less, Equal, Greater}
use Rattle.std.specs.Ordering.{nat_cmp, ordering_then, ordering_reverse}
use Rattle.std.specs.Cmp.Lexicographic.{slice_cmp}
use Rattle.std.specs.FinMap.{nat_cmp-IsAntisymmetric}
use Rattle.std.proofs.Math.Seq.{take-append_seam}
use Rattle.std.proofs.lemmas.Bool.{cases_lt, and_parts}
use Rattle.std.proofs.lemmas.Cmp.{nat_cmp_total, tied_itself}
use Rattle.std.proofs.lemmas.List.Concat.{flat_map-append}
use Rattle.std.proofs.str.Laws as laws
use lib.Utf8.{encode, encodes}
use Rattle.jr_path.specs.Grammar.{IsName, IsPrefixed, OneOrMore, is_plain, is_prefix_character}
use Rattle.jr_path.specs.Ids.{id_cmp, joined}
use Rattle.jr_path.specs.Names.{name_cmp}
use Rattle.jr_path.specs.declared.name.Name.{Name}
use Rattle.jr_path.specs.declared.path.Path.{Path}
use Rattle.jr_path.specs.declared.path.DocId.{DocId}
use Rattle.jr_path.specs.declared.path.DocId.TheVariants as id
use Rattle.jr_path.proofs.Follows.{plain_from_prefix}
use Rattle.jr_path.proofs.Pieces.{AllNoSlash, joined-pieces, name_some, one_list, pieces, pieces_no_slash}
use Rattle.jr_tree.specs.Trees.{is_child_of}
use Rattle.oak_read.specs.Meaning.{path_of}
use Rattle.oak_read.proofs.Below.{joined-child, long_child, longer}

-- ---- no name is before `!`

-- the first byte is above those of the space and the control characters
abbrev BeginsHigh : List ℕ → Type 0
BeginsHigh xs = (b : ℕ) × (more : List ℕ) × (xs ≡ b ∷ more) × (33 ≤ b)

high_encode : (c : ℕ) → 33 ≤ c → BeginsHigh (encode c)
high_encode c high = elim (cases_lt c 128) [
  | inl a ↦ rw (laws.one c a) (c, [], refl, high)
  | inr a ↦ elim (cases_lt c 2048) [
    | inl b ↦ rw (laws.two c a b) (_, _, refl, omega arith)
    | inr b ↦ elim (cases_lt c 65536) [
      | inl d ↦ rw (laws.three c b d) (_, _, refl, omega arith)
      | inr d ↦ rw (laws.four c d) (_, _, refl, omega arith)
    ]
  ]
]

plain_is_high : (c : ℕ) → is_plain c ≡ true → c ≢ 32 → 33 ≤ c
plain_is_high c plain apart = grind arith

high_front : (xs ys : List ℕ) → BeginsHigh xs → BeginsHigh (xs ++ ys)
high_front xs ys h = (h.0, h.1 ++ ys, ap (λ zs. zs ++ ys) h.2, h.3)

plain_first : (c : ℕ) (cs : List ℕ) → OneOrMore is_plain (c ∷ cs) ⊎ IsPrefixed (c ∷ cs) → is_plain c ≡ true
plain_first c cs (inl plain) = (and_parts (is_plain c) (list_all is_plain cs) plain.1).0
plain_first c cs (inr p) = by p.prefix p.local p.split p.is_prefix
  where
    by : (prefix local : List ℕ) → c ∷ cs ≡ prefix ++ 58 ∷ local → OneOrMore is_prefix_character prefix → is_plain c ≡ true
    by [] local e some = absurd (some.0 refl)
    by (d ∷ prefix) local e some = let same : c ≡ d = cc in rw same (plain_from_prefix d (and_parts (is_prefix_character d) (list_all is_prefix_character prefix) some.1).0)

name_is_high : (n : Name) → IsName n → BeginsHigh n
name_is_high n name = by name.characters name.spelled name.form name.first
  where
    by : (cs : List ℕ) → n ≡ encodes cs → OneOrMore is_plain cs ⊎ IsPrefixed cs → ((more : List ℕ) → cs ≢ 32 ∷ more) → BeginsHigh n
    by [] spelled form first = absurd (name_some n name spelled)
    by (c ∷ cs) spelled form first = rw spelled (high_front (encode c) (encodes cs) (high_encode c (plain_is_high c (plain_first c cs form) (λ e. first cs (ap (λ d. d ∷ cs) e)))))

pub none_before : (n : Name) → IsName n → name_cmp n (codes "!") ≢ Less
none_before n name h = by n (name_is_high n name) h
  where
    by : (n : Name) → BeginsHigh n → name_cmp n (codes "!") ≡ Less → ⊥
    by [] high less = let e : [] ≡ high.0 ∷ high.1 = high.2 in cc
    by (b ∷ bs) high less =
        let first : b ≡ high.0 = (let e : b ∷ bs ≡ high.0 ∷ high.1 = high.2 in cc) in
        let above : 33 ≤ b = omega (arith, high.3, first) in
        behind bs (nat_cmp b 33) (at_least b above) less
      where
        at_least : (b : ℕ) → 33 ≤ b → nat_cmp b 33 ≢ Less
        at_least b above e = grind arith

        behind : (bs : List ℕ) (o : Ordering) → o ≢ Less → ordering_then o (slice_cmp nat_cmp bs []) ≡ Less → ⊥
        behind bs Less apart e = apart refl
        behind [] Equal apart e = cc
        behind (b ∷ bs) Equal apart e = cc
        behind bs Greater apart e = cc

-- ---- what stands between two children

-- what stands between texts of one front has that front
front_between : (f a b x : List ℕ) → slice_cmp nat_cmp (f ++ a) x ≢ Greater → slice_cmp nat_cmp x (f ++ b) ≢ Greater → (z : List ℕ) × (x ≡ f ++ z)
front_between [] a b x above below = (x, refl)
front_between (c ∷ f) a b [] above below = absurd (above refl)
front_between (c ∷ f) a b (e ∷ x) above below = by (nat_cmp c e) refl above (λ g. below (ap (λ o. ordering_then o (slice_cmp nat_cmp x (f ++ b))) (nat_cmp_total.antisymm e c) ∙ g)) (λ h k. front_between f a b x h k)
  where
    by : (o : Ordering) → nat_cmp c e ≡ o → ordering_then o (slice_cmp nat_cmp (f ++ a) x) ≢ Greater → ordering_then (ordering_reverse (nat_cmp c e)) (slice_cmp nat_cmp x (f ++ b)) ≢ Greater
        → (slice_cmp nat_cmp (f ++ a) x ≢ Greater → slice_cmp nat_cmp x (f ++ b) ≢ Greater → (z : List ℕ) × (x ≡ f ++ z)) → (z : List ℕ) × (e ∷ x ≡ c ∷ (f ++ z))
    by Less is above' below' go = absurd (below' (ap (λ o. ordering_then (ordering_reverse o) (slice_cmp nat_cmp x (f ++ b))) is))
    by Equal is above' below' go =
        let rest = go above' (λ g. below' (ap (λ o. ordering_then (ordering_reverse o) (slice_cmp nat_cmp x (f ++ b))) is ∙ g)) in
        (rest.0, ap (λ y. y ∷ x) (sym (nat_cmp-IsAntisymmetric c e is)) ∙ ap (λ y. c ∷ y) rest.1)
    by Greater is above' below' go = absurd (above' refl)

no_slash_both : (p q : List (List ℕ)) → AllNoSlash p → AllNoSlash q → AllNoSlash (p ++ q)
no_slash_both [] q h k = k
no_slash_both (n ∷ p) q h k = (h.0, no_slash_both p q h.1 k)

child_by_text : (p q : Path) (z : List ℕ) → AllNoSlash p → AllNoSlash q → length q ≡ length p + 1 → joined q ≡ joined p ++ (47 ∷ z) → is_child_of p q ≡ true
child_by_text p q z p_names q_names long text =
    let same : q ≡ p ++ pieces z =
    one_list q (p ++ pieces z) q_names (no_slash_both p (pieces z) p_names (pieces_no_slash z))
    (text ∙ ap (λ y. joined p ++ y) (sym (joined-pieces z)) ∙ sym (flat_map-append (λ name. codes "/" ++ name) p (pieces z))) in
    long_child p q (length p) long (ap (take (length p)) same ∙ take-append_seam p (pieces z))

not_greater_then : (o o' : Ordering) → ordering_then o o' ≡ Less → o ≢ Greater
not_greater_then Less o' h = λ g. cc
not_greater_then Equal o' h = λ g. cc
not_greater_then Greater o' h = λ g. cc

then_second : (o o' : Ordering) → o ≡ Equal → ordering_then o o' ≡ Less → o' ≡ Less
then_second o o' same h = rw same at h

between_numbers : (a b : ℕ) → nat_cmp a b ≢ Greater → nat_cmp b a ≢ Greater → a ≡ b
between_numbers a b h k = by (nat_cmp a b) refl h (λ g. k (nat_cmp_total.antisymm b a ∙ g))
  where
    by : (o : Ordering) → nat_cmp a b ≡ o → o ≢ Greater → ordering_reverse (nat_cmp a b) ≢ Greater → a ≡ b
    by Less is h' k' = absurd (k' (ap ordering_reverse is))
    by Equal is h' k' = nat_cmp-IsAntisymmetric a b is
    by Greater is h' k' = absurd (h' refl)

tied : (a : ℕ) → nat_cmp a a ≡ Equal
tied a = tied_itself nat_cmp_total a

-- a document between those of two children is that of a child
pub child_between : (p : Path) (a b : Name) (x : DocId) → AllNoSlash p → AllNoSlash (path_of x) → id_cmp (id.Node (p ++ a ∷ [])) x ≡ Less → id_cmp x (id.Node (p ++ b ∷ [])) ≡ Less → (q : Path) × (x ≡ id.Node q) × (is_child_of p q ≡ true)
child_between p a b (id.Prev n q) p_names q_names above below = cc
child_between p a b id.Settings p_names q_names above below = cc
child_between p a b (id.Node q) p_names q_names above below =
    let long : length q ≡ length p + 1 = sym (between_numbers (length p + 1) (length q)
    (subst (λ k. nat_cmp k (length q) ≢ Greater) (longer p a) (not_greater_then (nat_cmp (length (p ++ a ∷ [])) (length q)) _ above))
    (subst (λ k. nat_cmp (length q) k ≢ Greater) (longer p b) (not_greater_then (nat_cmp (length q) (length (p ++ b ∷ []))) _ below))) in
    let text_above : name_cmp (joined (p ++ a ∷ [])) (joined q) ≢ Greater = not_greater_then _ _ (then_second (nat_cmp (length (p ++ a ∷ [])) (length q)) _ (rw (longer p a, long) (tied (length p + 1))) above) in
    let text_below : name_cmp (joined q) (joined (p ++ b ∷ [])) ≢ Greater = not_greater_then _ _ (then_second (nat_cmp (length q) (length (p ++ b ∷ []))) _ (rw (longer p b, long) (tied (length p + 1))) below) in
    let front : (z : List ℕ) × (joined q ≡ (joined p ++ codes "/") ++ z) =
    front_between (joined p ++ codes "/") a b (joined q)
    (λ g. text_above (ap (λ y. name_cmp y (joined q)) (joined-child p a ∙ sym (append_assoc (joined p) (codes "/") a)) ∙ g))
    (λ g. text_below (ap (name_cmp (joined q)) (joined-child p b ∙ sym (append_assoc (joined p) (codes "/") b)) ∙ g)) in
    (q, refl, child_by_text p q front.0 p_names q_names long (front.1 ∙ append_assoc (joined p) (codes "/") front.0))
