-- The greatest committed revision of a document, whatever the order in which they were found.
use Rattle.std.proofs.Common.{◌≡◌, ◌≢◌, ℕ, Bool, true, false, cond, not, ◌||◌, ◌⊎◌, inl, inr, List, [], ◌∷◌, ◌++◌, fold, map, Option, None, Some, is_some, refl, sym, ap, subst, ◌∙◌}
use Rattle.std.specs.List.{filter}
use Rattle.std.specs.Map.{keys_of}
use Rattle.std.specs.Option.{option_map_or}
use Rattle.std.specs.Ordering.{is_lt, ordering_reverse}
use Rattle.std.specs.declared.cmp.Ordering.{Ordering}
use Rattle.std.specs.declared.cmp.Ordering.TheVariants.{Less, Equal, Greater}
use Rattle.std.proofs.lemmas.Cmp.{tied_itself}
use mathlib.Core.Bool.{false≢true}
use Rattle.jr_path.specs.declared.path.DocId.{DocId}
use Rattle.jr_rev.specs.declared.revision.Revision.{Revision}
use Rattle.jr_rev.specs.declared.vector.RevVec.{RevVec}
use Rattle.jr_rev.specs.Revisions.{is_before, revision_cmp}
use Rattle.jr_rev.specs.Vectors.{sees}
use Rattle.jr_rev.proofs.Order.{revision_exact, revision_total}
use Rattle.oak_doc.specs.declared.document.Document.{Document}
use Rattle.oak_doc.specs.Updates.{of_revision}
use Rattle.oak_read.specs.Meaning.{Documents, commit_root_of, is_committed}
use Rattle.oak_read.specs.Wanted.{Ids}
use Rattle.oak_recover.specs.Dead.{committed_in, revisions_after}
use Rattle.oak_recover.specs.Ending.{greatest_found}
use Rattle.oak_recover.specs.Reading.{Doubts, doubts_in, is_confirmed, read_of, with_later}
use Rattle.oak_recover.specs.declared.reading.Reading.{Reading}
use Rattle.oak_recover.proofs.Asking.{In, any_confirms, asking, asks_all, confirmed, doubts_are, in_filter, never, revisions_ascend, left_finds, root_answers_for}

-- ---- the greatest

not_itself : (r : Revision) → is_before r r ≡ false
not_itself r = ap is_lt (tied_itself revision_total r)

-- of two neither of which is before the other is the other
tied : (q r : Revision) → is_before q r ≡ false → is_before r q ≡ false → q ≡ r
tied q r h k = by (revision_cmp q r) refl h
  where
    by : (o : Ordering) → revision_cmp q r ≡ o → is_lt o ≡ false → q ≡ r
    by Less e i = never (sym i)
    by Equal e i = revision_exact q r e
    by Greater e i = never (sym k ∙ ap is_lt (revision_total.antisymm r q ∙ ap ordering_reverse e))

-- one of these, and none is behind it; where there is one
IsTop : Option Revision → List Revision → Option Revision → Type 0
IsTop start rs None = (start ≡ None) × (rs ≡ [])
IsTop start rs (Some g) = ((start ≡ Some g) ⊎ In g rs) × (((q : Revision) → start ≡ Some q → is_before g q ≡ false) × ((q : Revision) → In q rs → is_before g q ≡ false))

top : (rs : List Revision) (start : Option Revision) → IsTop start rs (fold with_later start rs)
unfolding IsTop
top [] None = (refl, refl)
top [] (Some g) = (inl refl, ((λ q e. subst (λ (x : Revision). is_before g x ≡ false) (same e) (not_itself g)), (λ q i. absurd i)))
  where
    same : {x y : Revision} → Some x ≡ Some y → x ≡ y
    same e = cc
top (r ∷ rs) start = by start (fold with_later (with_later start r) rs) (top rs (with_later start r))
  where
    same : {x y : Revision} → Some x ≡ Some y → x ≡ y
    same e = cc

    later : (g q : Revision) (b : Bool) → is_before q r ≡ b → ((x : Revision) → Some (cond b r q) ≡ Some x → is_before g x ≡ false) → (is_before g q ≡ false) × (is_before g r ≡ false)
    later g q true e h = (back (is_before g q) refl, h r refl)
      where
        from_lt : (o : Ordering) → is_lt o ≡ true → o ≡ Less
        from_lt Less i = refl
        from_lt Equal i = never i
        from_lt Greater i = never i

        back : (c : Bool) → is_before g q ≡ c → c ≡ false
        back false f = refl
        back true f = never (sym (h r refl) ∙ ap is_lt (revision_total.trans g q r (from_lt (revision_cmp g q) f) (from_lt (revision_cmp q r) e)))
    later g q false e h = (h q refl, back (is_before g r) refl)
      where
        from_lt : (o : Ordering) → is_lt o ≡ true → o ≡ Less
        from_lt Less i = refl
        from_lt Equal i = never i
        from_lt Greater i = never i

        not_behind : (o : Ordering) → is_lt o ≡ false → o ≢ Less
        not_behind Less i k = never (sym i)
        not_behind Equal i k = cc
        not_behind Greater i k = cc

        -- g before r, and r not behind q: so g before q
        back : (c : Bool) → is_before g r ≡ c → c ≡ false
        back false f = refl
        back true f = at (revision_cmp r q) refl
          where
            at : (o : Ordering) → revision_cmp r q ≡ o → true ≡ false
            at Less k = never (sym (h q refl) ∙ ap is_lt (revision_total.trans g r q (from_lt (revision_cmp g r) f) k))
            at Equal k = never (sym (h q refl) ∙ subst (λ (x : Revision). is_before g x ≡ true) (revision_exact r q k) f)
            at Greater k = never (sym e ∙ ap is_lt (revision_total.antisymm q r ∙ ap ordering_reverse k))

    by : (start : Option Revision) (o : Option Revision) → IsTop (with_later start r) rs o → IsTop start (r ∷ rs) o
    by None None t = absurd (false≢true (sym (ap is_some t.0)))
    by (Some q) None t = absurd (false≢true (sym (ap is_some t.0)))
    by None (Some g) t = (inr (one t.0), ((λ x e. absurd (false≢true (ap is_some e))), each))
      where
        one : (Some r ≡ Some g) ⊎ In g rs → In g (r ∷ rs)
        one (inl e) = inl (same e)
        one (inr i) = inr i

        each : (x : Revision) → In x (r ∷ rs) → is_before g x ≡ false
        each x (inl e) = t.1.0 x (ap Some e)
        each x (inr i) = t.1.1 x i
    by (Some q) (Some g) t = (one (is_before q r) t.0, ((λ x e. subst (λ (y : Revision). is_before g y ≡ false) (same e) l.0), each))
      where
        l : (is_before g q ≡ false) × (is_before g r ≡ false)
        l = later g q (is_before q r) refl t.1.0

        one : (b : Bool) → (Some (cond b r q) ≡ Some g) ⊎ In g rs → (Some q ≡ Some g) ⊎ In g (r ∷ rs)
        one true (inl e) = inr (inl (same e))
        one false (inl e) = inl e
        one b (inr i) = inr (inr i)

        each : (x : Revision) → In x (r ∷ rs) → is_before g x ≡ false
        each x (inl e) = subst (λ (y : Revision). is_before g y ≡ false) e l.1
        each x (inr i) = t.1.1 x i

-- the same revisions, in whatever order, have the same greatest
pub same_greatest : (xs ys : List Revision) → ((r : Revision) → In r xs → In r ys) → ((r : Revision) → In r ys → In r xs) → greatest_found xs ≡ greatest_found ys
unfolding IsTop
same_greatest xs ys to from = by (fold with_later None xs) (fold with_later None ys) (top xs None) (top ys None)
  where
    there : (g : Revision) (rs : List Revision) → (None ≡ Some g) ⊎ In g rs → In g rs
    there g rs (inl e) = absurd (false≢true (ap is_some e))
    there g rs (inr i) = i

    by : (o p : Option Revision) → IsTop None xs o → IsTop None ys p → o ≡ p
    by None None t u = refl
    by None (Some h) t u = absurd (subst (In h) t.1 (from h (there h ys u.0)))
    by (Some g) None t u = absurd (subst (In g) u.1 (to g (there g xs t.0)))
    by (Some g) (Some h) t u = ap Some (tied g h (t.1.1 h (from h (there h ys u.0))) (u.1.1 g (to g (there g xs t.0))))

-- ---- what was found

in_front : {X : Type 0} (x : X) (xs ys : List X) → In x xs → In x (xs ++ ys)
in_front x [] ys i = absurd i
in_front x (y ∷ xs) ys (inl e) = inl e
in_front x (y ∷ xs) ys (inr i) = inr (in_front x xs ys i)

in_back : {X : Type 0} (x : X) (xs ys : List X) → In x ys → In x (xs ++ ys)
in_back x [] ys i = i
in_back x (y ∷ xs) ys i = inr (in_back x xs ys i)

in_either : {X : Type 0} (x : X) (xs ys : List X) → In x (xs ++ ys) → In x xs ⊎ In x ys
in_either x [] ys i = inr i
in_either x (y ∷ xs) ys (inl e) = inl (inl e)
in_either x (y ∷ xs) ys (inr i) = elim (in_either x xs ys i) [ inl j ↦ inl (inr j) | inr j ↦ inr j ]

out_filter : {X : Type 0} (p : X → Bool) (xs : List X) (x : X) → In x (filter p xs) → In x xs × (p x ≡ true)
out_filter p [] x i = absurd i
out_filter {X} p (y ∷ xs) x i = by (p y) refl i (out_filter p xs x)
  where
    by : (b : Bool) → p y ≡ b → In x (cond b (y ∷ filter p xs) (filter p xs)) → (In x (filter p xs) → In x xs × (p x ≡ true)) → In x (y ∷ xs) × (p x ≡ true)
    by true e (inl same) rest = (inl same, ap p (sym same) ∙ e)
    by true e (inr j) rest = let r = rest j in (inr r.0, r.1)
    by false e j rest = let r = rest j in (inr r.0, r.1)

key_out : (es : Doubts) (r : Revision) → In r (keys_of es) → (e : Revision × DocId) × In e es × (e.0 ≡ r)
key_out [] r i = absurd i
key_out (e ∷ es) r (inl same) = (e, inl refl, same)
key_out (e ∷ es) r (inr i) = let k = key_out es r i in (k.0, inr k.1, k.2)

key_in : (es : Doubts) (e : Revision × DocId) → In e es → In e.0 (keys_of es)
key_in [] e i = absurd i
key_in (f ∷ es) e (inl same) = inl (ap (λ (x : Revision × DocId). x.0) same)
key_in (f ∷ es) e (inr i) = inr (key_in es e i)

-- a pair made of a key
abbrev pair_of : (Revision → DocId) → Revision → Revision × DocId
pair_of f r = (r, f r)

made_out : (f : Revision → DocId) (rs : List Revision) (e : Revision × DocId) → In e (map (λ r. (r, f r)) rs) → In e.0 rs × (e.1 ≡ f e.0)
made_out f [] e i = absurd i
made_out f (r ∷ rs) e (inl same) = (inl (ap (λ (x : Revision × DocId). x.0) same), sym (subst (λ (x : Revision × DocId). f x.0 ≡ x.1) same refl))
made_out f (r ∷ rs) e (inr i) = let m = made_out f rs e i in (inr m.0, m.1)

made_in : (f : Revision → DocId) (rs : List Revision) (r : Revision) → In r rs → In (pair_of f r) (map (λ r. (r, f r)) rs)
made_in f [] r i = absurd i
made_in f (q ∷ rs) r (inl same) = inl (ap (pair_of f) same)
made_in f (q ∷ rs) r (inr i) = inr (made_in f rs r i)

fold_append : (o : Option Revision) (xs ys : List Revision) → fold with_later (fold with_later o xs) ys ≡ fold with_later o (xs ++ ys)
fold_append o [] ys = refl
fold_append o (x ∷ xs) ys = fold_append (with_later o x) xs ys

module _ (ds : Documents) where
  -- what is found, commit root by commit root
  found : Ids → Doubts → List Revision
  found [] es = []
  found (x ∷ xs) es = keys_of (filter (is_confirmed x.0 (ds x.0)) es) ++ found xs (filter (λ e. not (is_confirmed x.0 (ds x.0) e)) es)

  asked_committed : (xs : Ids) (s : Reading) → (fold (asking ds) s xs).committed ≡ fold with_later s.committed (found xs s.doubts)
  unfolding found
  asked_committed [] s = refl
  asked_committed (x ∷ xs) s = asked_committed xs (asking ds s x) ∙ fold_append s.committed (keys_of (filter (is_confirmed x.0 (ds x.0)) s.doubts)) (found xs (filter (λ e. not (is_confirmed x.0 (ds x.0) e)) s.doubts))

  -- it is one of those in doubt that some of these has
  found_out : (xs : Ids) (es : Doubts) (r : Revision) → In r (found xs es) → (e : Revision × DocId) × In e es × (e.0 ≡ r) × (any_confirms ds xs e ≡ true)
  unfolding found
  found_out [] es r i = absurd i
  found_out (x ∷ xs) es r i = by (in_either r (keys_of (filter (is_confirmed x.0 (ds x.0)) es)) (found xs (filter (λ e. not (is_confirmed x.0 (ds x.0) e)) es)) i) (found_out xs (filter (λ e. not (is_confirmed x.0 (ds x.0) e)) es) r)
    where
      or_last : (a b : Bool) → b ≡ true → (a || b) ≡ true
      or_last true b h = refl
      or_last false b h = h

      by : In r (keys_of (filter (is_confirmed x.0 (ds x.0)) es)) ⊎ In r (found xs (filter (λ e. not (is_confirmed x.0 (ds x.0) e)) es)) → (In r (found xs (filter (λ e. not (is_confirmed x.0 (ds x.0) e)) es)) → (e : Revision × DocId) × In e (filter (λ e. not (is_confirmed x.0 (ds x.0) e)) es) × (e.0 ≡ r) × (any_confirms ds xs e ≡ true))
          → (e : Revision × DocId) × In e es × (e.0 ≡ r) × (any_confirms ds (x ∷ xs) e ≡ true)
      by (inl j) rest = let k = key_out (filter (is_confirmed x.0 (ds x.0)) es) r j in let o = out_filter (is_confirmed x.0 (ds x.0)) es k.0 k.1 in (k.0, o.0, k.2, ap (λ b. b || any_confirms ds xs k.0) o.1)
      by (inr j) rest = let k = rest j in let o = out_filter (λ e. not (is_confirmed x.0 (ds x.0) e)) es k.0 k.1 in (k.0, o.0, k.2, or_last (is_confirmed x.0 (ds x.0) k.0) (any_confirms ds xs k.0) k.3)

  found_in : (xs : Ids) (es : Doubts) (e : Revision × DocId) → In e es → any_confirms ds xs e ≡ true → In e.0 (found xs es)
  unfolding found
  found_in [] es e i h = never h
  found_in (x ∷ xs) es e i h = by (is_confirmed x.0 (ds x.0) e) refl h (found_in xs (filter (λ e. not (is_confirmed x.0 (ds x.0) e)) es) e)
    where
      by : (b : Bool) → is_confirmed x.0 (ds x.0) e ≡ b → (b || any_confirms ds xs e) ≡ true → (In e (filter (λ e. not (is_confirmed x.0 (ds x.0) e)) es) → any_confirms ds xs e ≡ true → In e.0 (found xs (filter (λ e. not (is_confirmed x.0 (ds x.0) e)) es)))
          → In e.0 (keys_of (filter (is_confirmed x.0 (ds x.0)) es) ++ found xs (filter (λ e. not (is_confirmed x.0 (ds x.0) e)) es))
      by true c k rest = in_front e.0 (keys_of (filter (is_confirmed x.0 (ds x.0)) es)) _ (key_in (filter (is_confirmed x.0 (ds x.0)) es) e (in_filter (is_confirmed x.0 (ds x.0)) es e i c))
      by false c k rest = in_back e.0 (keys_of (filter (is_confirmed x.0 (ds x.0)) es)) _ (rest (in_filter (λ e. not (is_confirmed x.0 (ds x.0) e)) es e i (ap not c)) k)

  module _ (t : RevVec) (d : Document) (there : ds d.id ≡ Some d) (k : ℕ) (l : Revision) where
    abbrev all : List Revision
    all = keys_of (revisions_after k l d)

    abbrev es : Doubts
    es = doubts_in t d (keys_of (revisions_after k l d))

    abbrev own : Revision × DocId → Bool
    own e = is_confirmed d.id (Some d) e

    abbrev left : Doubts
    left = filter (λ e. not (is_confirmed d.id (Some d) e)) (doubts_in t d (keys_of (revisions_after k l d)))

    abbrev found_all : List Revision
    found_all = (filter (sees t) all ++ keys_of (filter own es)) ++ found (read_of t k l d).left left

    made_of : (e : Revision × DocId) → In e es → In e.0 all × ((sees t e.0 ≡ false) × (e.1 ≡ commit_root_of d e.0))
    made_of e i =
        let m = made_out (commit_root_of d) (filter (λ r. not (sees t r)) all) e (subst (λ (xs : Doubts). In e xs) (doubts_are t d all (revisions_ascend k l d)) i) in
        let o = out_filter (λ r. not (sees t r)) all e.0 m.0 in
        (o.0, (flip (sees t e.0) o.1, m.1))
      where
        flip : (b : Bool) → not b ≡ true → b ≡ false
        flip true h = never h
        flip false h = refl

    -- what its commit root has is committed
    is_so : (e : Revision × DocId) → In e es → confirmed ds e ≡ true → In e.0 (committed_in ds t k l d)
    is_so e i c =
        let m = made_of e i in
        in_filter (is_committed ds t d) all e.0 m.0 (sym (root_answers_for ds t d there k l e.0 m.1.0) ∙ subst (λ (x : DocId). is_confirmed x (ds x) (e.0, x) ≡ true) m.1.1 c)

    to : (r : Revision) → In r found_all → In r (committed_in ds t k l d)
    to r i = by (in_either r (filter (sees t) all ++ keys_of (filter own es)) (found (read_of t k l d).left left) i)
      where
        seen : In r (filter (sees t) all) → In r (committed_in ds t k l d)
        seen j = let o = out_filter (sees t) all r j in in_filter (is_committed ds t d) all r o.0 (ap (λ b. b || option_map_or (λ root. is_some (of_revision root.revisions r)) (ds (commit_root_of d r)) false) o.1)

        by_own : In r (keys_of (filter own es)) → In r (committed_in ds t k l d)
        by_own j = let e = key_out (filter own es) r j in let o = out_filter own es e.0 e.1 in subst (λ (x : Revision). In x (committed_in ds t k l d)) e.2 (is_so e.0 o.0 (asks_all ds t d there e.0 (inl o.1)))

        by_root : In r (found (read_of t k l d).left left) → In r (committed_in ds t k l d)
        by_root j = let e = found_out (read_of t k l d).left left r j in let o = out_filter (λ e. not (own e)) es e.0 e.1 in subst (λ (x : Revision). In x (committed_in ds t k l d)) e.2 (is_so e.0 o.0 (asks_all ds t d there e.0 (inr ((read_of t k l d).left, e.3))))

        by : In r (filter (sees t) all ++ keys_of (filter own es)) ⊎ In r (found (read_of t k l d).left left) → In r (committed_in ds t k l d)
        by (inl j) = elim (in_either r (filter (sees t) all) (keys_of (filter own es)) j) [ inl h ↦ seen h | inr h ↦ by_own h ]
        by (inr j) = by_root j

    from : (r : Revision) → In r (committed_in ds t k l d) → In r found_all
    from r i = by (sees t r) refl
      where
        out : In r all × (is_committed ds t d r ≡ true)
        out = out_filter (is_committed ds t d) all r i

        e : Revision × DocId
        e = pair_of (commit_root_of d) r

        in_doubt : sees t r ≡ false → In e es
        in_doubt h = subst (λ (xs : Doubts). In e xs) (sym (doubts_are t d all (revisions_ascend k l d))) (made_in (commit_root_of d) (filter (λ r. not (sees t r)) all) r (in_filter (λ r. not (sees t r)) all r out.0 (ap not h)))

        at_root : sees t r ≡ false → (b : Bool) → own e ≡ b → In r found_all
        at_root h true o = in_front r (filter (sees t) all ++ keys_of (filter own es)) _ (in_back r (filter (sees t) all) _ (key_in (filter own es) e (in_filter own es e (in_doubt h) o)))
        at_root h false o = in_back r (filter (sees t) all ++ keys_of (filter own es)) _ (found_in (read_of t k l d).left left e (in_filter (λ e. not (own e)) es e (in_doubt h) (ap not o)) (left_finds ds t d there es e (in_doubt h) o (root_answers_for ds t d there k l r h ∙ out.1)))

        by : (b : Bool) → sees t r ≡ b → In r found_all
        by true h = in_front r (filter (sees t) all ++ keys_of (filter own es)) _ (in_front r (filter (sees t) all) _ (in_filter (sees t) all r out.0 h))
        by false h = at_root h (own e) refl

    -- what the reading knows to be committed in the end
    pub committed_is : (fold (asking ds) (read_of t k l d) (read_of t k l d).left).committed ≡ greatest_found (committed_in ds t k l d)
    committed_is =
        asked_committed (read_of t k l d).left (read_of t k l d)
        ∙ (ap (λ o. fold with_later o (found (read_of t k l d).left left)) (fold_append None (filter (sees t) all) (keys_of (filter own es)))
        ∙ (fold_append None (filter (sees t) all ++ keys_of (filter own es)) (found (read_of t k l d).left left)
        ∙ same_greatest found_all (committed_in ds t k l d) to from))
