-- The members of an object that are left to be read, and the map that reading them comes to.
use Rattle.std.proofs.Common.{◌≡◌, Bool, true, false, List, [], ◌∷◌, None, Some, refl, sym, ap, subst, ◌∙◌}
use Rattle.std.specs.Prelude.{ℕ, String, fold, string_bytes}
use Rattle.std.proofs.lemmas.Cmp.{nat_list_cmp_total, tied_itself}
use Rattle.std.proofs.lemmas.Map.Keys.{sorted_head, sorted_tail}
use Rattle.std.specs.declared.cmp.Ordering.{Ordering}
use Rattle.std.specs.declared.cmp.Ordering.TheVariants.{Less, Equal, Greater}
use Rattle.std.specs.Ordering.{match_ordering, nat_cmp}
use Rattle.std.specs.Cmp.{IsTotalOrder}
use Rattle.std.specs.Cmp.Lexicographic.{slice_cmp}
use Rattle.std.specs.FinMap.{IsAntisymmetric, slice_cmp-IsAntisymmetric, nat_cmp-IsAntisymmetric}
use Rattle.std.specs.List.{AllByRecursion}
use Rattle.std.specs.List.Sorted.{IsStrictlySortedBy}
use Rattle.std.specs.Map.{keys_of}
use Rattle.serde_json.specs.Data.{Data, Members, no_members, member, put}
use Rattle.serde_json.specs.Find.{get_member}
use Rattle.serde_json.specs.View.{members_view, view}
use Rattle.serde_json.specs.declared.value.Value.{Value}
use Rattle.serde_json.proofs.Views.{Entry, get_member-put_other}
use Rattle.std.specs.declared.alloc.Global.{Global}
use Rattle.jr_docs.specs.Members.{members_of_map, put_all}
use Rattle.jr_docs_read.proofs.Inserts.{into, either_first, first_or_last, put_in_order}

-- A where the test passes, and else B
abbrev pub Whether : Bool → Type 0 → Type 0 → Type 0
Whether true A B = A
Whether false A B = B

passes : (b : Bool) (A B : Type 0) → b ≡ true → A → Whether b A B
passes true A B is a = a
passes false A B is a = cc

fails : (b : Bool) (A B : Type 0) → b ≡ false → B → Whether b A B
fails true A B is x = cc
fails false A B is x = x

either_way : (b : Bool) (A B C D : Type 0) → (A → C) → (B → D) → Whether b A B → Whether b C D
either_way true A B C D f g x = f x
either_way false A B C D f g x = g x

-- two texts that aren't tied differ
apart : (k l : List ℕ) (r : Ordering) → slice_cmp nat_cmp k l ≡ r → (r ≡ Equal → ⊥) → k ≡ l → ⊥
apart k l r is other same = other (sym is ∙ (ap (λ (t : List ℕ). slice_cmp nat_cmp t l) same ∙ tied_itself nat_list_cmp_total l))

greater_other : Greater ≡ Equal → ⊥
greater_other e = cc

-- what is found among members of other names is nothing
module _ (ours : List ℕ → Bool) where
  -- no member's name passes
  abbrev pub NoneOurs : Members → Type 0
  NoneOurs no_members = Unit {0}
  NoneOurs (member n d ms) = (ours n ≡ false) × NoneOurs ms

  pub none_ours_put : (k : List ℕ) (d : Data) (ms : Members) → ours k ≡ false → NoneOurs ms → NoneOurs (put k d ms)
  none_ours_put k d no_members other none = (other, tt)
  none_ours_put k d (member l e ms) other none = by (slice_cmp nat_cmp k l) (none_ours_put k d ms other none.1)
    where
      by : (r : Ordering) → NoneOurs (put k d ms) → NoneOurs (match_ordering r (member k d (member l e ms)) (member l d ms) (member l e (put k d ms)))
      by Less more = (other, none)
      by Equal more = (none.0, none.1)
      by Greater more = (none.0, more)

  none_found : (q : List ℕ) (ms : Members) → ours q ≡ true → NoneOurs ms → get_member q ms ≡ None
  none_found q no_members mine none = refl
  none_found q (member l d ms) mine none = by (slice_cmp nat_cmp q l) refl (none_found q ms mine none.1)
    where
      by : (r : Ordering) → slice_cmp nat_cmp q l ≡ r → get_member q ms ≡ None → match_ordering r (get_member q ms) (Some d) (get_member q ms) ≡ None
      by Less is rest = rest
      by Equal is rest = let same : q ≡ l = slice_cmp-IsAntisymmetric nat_cmp-IsAntisymmetric q l is in let other : ours q ≡ false = ap ours same ∙ none.0 in cc
      by Greater is rest = rest

-- how the entries of a map stand in an object: which members are theirs, and which entries are in range
pub record Entered (K V : Type 0) : Type 1 where
  pub ours : List ℕ → Bool
  pub text : K → List ℕ
  pub shown : V → Data
  pub Fits : K × V → Type 0
  pub cmp : K → K → Ordering

-- what holds of them: each key's text is that of a member, and no other key's; the order is total
pub record IsEntered {K V : Type 0} (E : Entered K V) : Type 0 where
  pub mine : (k : K) → E.ours (E.text k) ≡ true
  pub one : (a b : K × V) → E.Fits a → E.Fits b → E.text a.0 ≡ E.text b.0 → a.0 ≡ b.0
  pub total : IsTotalOrder E.cmp
  pub exact : IsAntisymmetric E.cmp

module _ {K V : Type 0} (E : Entered K V) where
  -- the member of an entry
  abbrev pub IsOf : List ℕ → Data → K × V → Type 0
  IsOf name d e = E.Fits e × (E.text e.0 ≡ name) × (E.shown e.1 ≡ d)

  -- the members that are left to be read, and entries so far, come to the map
  abbrev pub Left : Members → List (K × V) → List (K × V) → Type 0
  Left no_members acc out = acc ≡ out
  Left (member n d ms) acc out = Whether (E.ours n) ((e : K × V) × IsOf n d e × Left ms (into E.cmp acc e) out) (Left ms acc out)

  -- members of other names are passed over
  pub passed_over : (ms : Members) (acc out : List (K × V)) → NoneOurs E.ours ms → acc ≡ out → Left ms acc out
  passed_over no_members acc out none is = is
  passed_over (member n d ms) acc out none is = fails (E.ours n) _ _ none.0 (passed_over ms acc out none.1 is)

  module _ (h : IsEntered E) where
    -- a member that is put among those left comes to what it does first
    pub put_left : (ms : Members) (acc out : List (K × V)) (e : K × V) → E.Fits e → get_member (E.text e.0) ms ≡ None → Left ms (into E.cmp acc e) out → Left (put (E.text e.0) (E.shown e.1) ms) acc out
    put_left no_members acc out e fits none left = passes (E.ours (E.text e.0)) _ _ (h.mine e.0) (e, (fits, refl, refl), left)
    put_left (member l d ms) acc out e fits none left = by (slice_cmp nat_cmp (E.text e.0) l) refl none left (λ acc' none' left'. put_left ms acc' out e fits none' left')
      where
        by : (r : Ordering) → slice_cmp nat_cmp (E.text e.0) l ≡ r → match_ordering r (get_member (E.text e.0) ms) (Some d) (get_member (E.text e.0) ms) ≡ None → Left (member l d ms) (into E.cmp acc e) out
            → ((acc' : List (K × V)) → get_member (E.text e.0) ms ≡ None → Left ms (into E.cmp acc' e) out → Left (put (E.text e.0) (E.shown e.1) ms) acc' out)
            → Left (match_ordering r (member (E.text e.0) (E.shown e.1) (member l d ms)) (member l (E.shown e.1) ms) (member l d (put (E.text e.0) (E.shown e.1) ms))) acc out
        by Less is none left more = passes (E.ours (E.text e.0)) _ _ (h.mine e.0) (e, (fits, refl, refl), left)
        by Equal is none left more = cc
        by Greater is none left more =
            either_way (E.ours l) _ _ _ _
            (λ (x : (f : K × V) × IsOf l d f × Left ms (into E.cmp (into E.cmp acc e) f) out).
            let tied : E.cmp e.0 x.0.0 ≡ Equal → ⊥ = λ t. apart (E.text e.0) l Greater is greater_other (ap E.text (h.exact e.0 x.0.0 t) ∙ x.1.1) in
            (x.0, x.1, more (into E.cmp acc x.0) none (subst (λ (es : List (K × V)). Left ms es out) (either_first E.cmp h.total acc e x.0 tied) x.2)))
            (λ (x : Left ms (into E.cmp acc e) out). more acc none x) left

    -- entries whose keys rise are put among the members left, where none of these has their texts
    pub put_all_left : (es : List (K × V)) (ms : Members) (acc out : List (K × V)) → IsStrictlySortedBy E.cmp (keys_of es) → AllByRecursion E.Fits es → AllByRecursion (λ e. get_member (E.text e.0) ms ≡ None) es → Left ms (fold (into E.cmp) acc es) out → Left (put_all ms (members_of_map E.text E.shown es)) acc out
    put_all_left [] ms acc out rise fit none left = left
    put_all_left (e ∷ es) ms acc out rise fit none left =
        let below = sorted_head E.cmp e.0 (keys_of es) rise in
        put_all_left es (put (E.text e.0) (E.shown e.1) ms) acc out (sorted_tail E.cmp e.0 (keys_of es) rise) fit.1 (still es below fit.0 fit.1 none.1)
        (put_left ms (fold (into E.cmp) acc es) out e fit.0 none.0 (subst (λ (xs : List (K × V)). Left ms xs out) (first_or_last E.cmp h.total es acc e below) left))
      where
        less_other : (k : K) → E.cmp e.0 k ≡ Less → e.0 ≡ k → ⊥
        less_other k less same = let tied : E.cmp e.0 k ≡ Equal = ap (E.cmp e.0) (sym same) ∙ tied_itself h.total e.0 in cc

        still : (xs : List (K × V)) → AllByRecursion (λ k. E.cmp e.0 k ≡ Less) (keys_of xs) → E.Fits e → AllByRecursion E.Fits xs → AllByRecursion (λ x. get_member (E.text x.0) ms ≡ None) xs → AllByRecursion (λ x. get_member (E.text x.0) (put (E.text e.0) (E.shown e.1) ms) ≡ None) xs
        still [] below is_fit fit none = tt
        still (x ∷ xs) below is_fit fit none =
            (get_member-put_other (E.text x.0) (E.text e.0) (E.shown e.1) ms (λ same. less_other x.0 below.0 (h.one e x is_fit fit.0 (sym same))) ∙ none.0, still xs below.1 is_fit fit.1 none.1)

    all_none : (es : List (K × V)) (ms : Members) → NoneOurs E.ours ms → AllByRecursion (λ e. get_member (E.text e.0) ms ≡ None) es
    all_none [] ms none = tt
    all_none (e ∷ es) ms none = (none_found E.ours (E.text e.0) ms (h.mine e.0) none, all_none es ms none)

    -- the members of a map, put to others, come to the map
    pub map_left : (es : List (K × V)) (ms : Members) → IsStrictlySortedBy E.cmp (keys_of es) → AllByRecursion E.Fits es → NoneOurs E.ours ms → Left (put_all ms (members_of_map E.text E.shown es)) [] es
    map_left es ms rise fit none = put_all_left es ms [] es rise fit (all_none es ms none) (passed_over ms (fold (into E.cmp) [] es) es none (put_in_order E.cmp h.total es rise))

-- a member that is an entry's is one of the entries
taken : (b : Bool) (A B : Type 0) → b ≡ true → Whether b A B → A
taken true A B is x = x
taken false A B is x = cc

not_taken : (b : Bool) (A B : Type 0) → b ≡ false → Whether b A B → B
not_taken true A B is x = cc
not_taken false A B is x = x

module _ {K V : Type 0} (E : Entered K V) where
  -- what is left begins with this member
  first_left : (es rest : List Entry) (name : String Global) (value : Value) (acc out : List (K × V)) → es ≡ (name, value) ∷ rest → Left E (members_view es) acc out → Left E (members_view ((name, value) ∷ rest)) acc out
  first_left es rest name value acc out is left = subst (λ (xs : List Entry). Left E (members_view xs) acc out) is left

  -- the entry of the first member that is left
  pub first_entry : (es rest : List Entry) (name : String Global) (value : Value) (acc out : List (K × V)) → es ≡ (name, value) ∷ rest → Left E (members_view es) acc out → E.ours (string_bytes name) ≡ true → (e : K × V) × IsOf E (string_bytes name) (view value) e × Left E (members_view rest) (into E.cmp acc e) out
  first_entry es rest name value acc out is left mine = taken (E.ours (string_bytes name)) _ _ mine (first_left es rest name value acc out is left)

  -- once it is put, the others are left
  pub next_left : (es rest : List Entry) (name : String Global) (value : Value) (acc new out : List (K × V)) → es ≡ (name, value) ∷ rest → Left E (members_view es) acc out → E.ours (string_bytes name) ≡ true → ((e : K × V) → IsOf E (string_bytes name) (view value) e → new ≡ into E.cmp acc e) → Left E (members_view rest) new out
  next_left es rest name value acc new out is left mine put =
      let x = first_entry es rest name value acc out is left mine in
      subst (λ (xs : List (K × V)). Left E (members_view rest) xs out) (sym (put x.0 x.1)) x.2

  -- a member of another name is passed over
  pub others_left : (es rest : List Entry) (name : String Global) (value : Value) (acc new out : List (K × V)) → es ≡ (name, value) ∷ rest → Left E (members_view es) acc out → E.ours (string_bytes name) ≡ false → new ≡ acc → Left E (members_view rest) new out
  others_left es rest name value acc new out is left other same =
      subst (λ (xs : List (K × V)). Left E (members_view rest) xs out) (sym same) (not_taken (E.ours (string_bytes name)) _ _ other (first_left es rest name value acc out is left))
