-- What is found at a name among members that are put one after the other.
use Rattle.std.proofs.Common.{◌≡◌, Bool, true, false, cond, List, [], ◌∷◌, Option, None, Some, refl, ap, ◌∙◌}
use Rattle.std.specs.Prelude.{ℕ, map}
use Rattle.std.proofs.lemmas.Cmp.{nat_list_cmp_total, tied_itself}
use Rattle.std.specs.Ordering.{is_eq, nat_cmp}
use Rattle.std.specs.declared.cmp.Ordering.{Ordering}
use Rattle.std.specs.declared.cmp.Ordering.TheVariants.{Less, Equal, Greater}
use Rattle.std.specs.Cmp.Lexicographic.{slice_cmp}
use Rattle.std.specs.FinMap.{slice_cmp-IsAntisymmetric, nat_cmp-IsAntisymmetric}
use Rattle.serde_json.specs.Data.{Data, Members, put}
use Rattle.serde_json.specs.Find.{get_member}
use Rattle.serde_json.proofs.Views.{get_member-put, get_member-put_other}
use Rattle.jr_docs.specs.Members.{Field, put_field, put_fields}

-- a field's value, or else what is there
abbrev pub over : Option Data → Option Data → Option Data
over None old = old
over (Some d) old = Some d

pub over_none : (o : Option Data) → over o None ≡ o
over_none None = refl
over_none (Some d) = refl

-- what is found at a name once fields are put to what is there
abbrev pub found : List ℕ → List Field → Option Data → Option Data
found q [] old = old
found q (f ∷ fs) old = found q fs (cond (is_eq (slice_cmp nat_cmp q f.0)) (over f.1 old) old)

one_way : {X : Type 0} (b : Bool) (x : X) → x ≡ cond b x x
one_way true x = refl
one_way false x = refl

equal_is : (r : Ordering) → is_eq r ≡ true → r ≡ Equal
equal_is Less h = cc
equal_is Equal h = refl
equal_is Greater h = cc

field_found : (q k : List ℕ) (o : Option Data) (ms : Members) → get_member q (put_field ms (k, o)) ≡ cond (is_eq (slice_cmp nat_cmp q k)) (over o (get_member q ms)) (get_member q ms)
field_found q k None ms = one_way (is_eq (slice_cmp nat_cmp q k)) (get_member q ms)
field_found q k (Some d) ms = by (is_eq (slice_cmp nat_cmp q k)) refl
  where
    by : (b : Bool) → is_eq (slice_cmp nat_cmp q k) ≡ b → get_member q (put k d ms) ≡ cond b (Some d) (get_member q ms)
    by true is =
        let same : q ≡ k = slice_cmp-IsAntisymmetric nat_cmp-IsAntisymmetric q k (equal_is (slice_cmp nat_cmp q k) is) in
        ap (λ (n : List ℕ). get_member n (put k d ms)) same ∙ get_member-put k d ms
    by false is = get_member-put_other q k d ms (λ same. let tied : is_eq (slice_cmp nat_cmp q k) ≡ true = ap (λ (n : List ℕ). is_eq (slice_cmp nat_cmp n k)) same ∙ ap is_eq (tied_itself nat_list_cmp_total k) in cc)

-- what is found among fields that are put
pub fields_found : (q : List ℕ) (fs : List Field) (ms : Members) → get_member q (put_fields ms fs) ≡ found q fs (get_member q ms)
fields_found q [] ms = refl
fields_found q (f ∷ fs) ms = fields_found q fs (put_field ms f) ∙ ap (found q fs) (field_found q f.0 f.1 ms)

-- fields of other names change nothing
pub others_found : {X : Type 0} (q : List ℕ) (field_of : X → Field) → ((x : X) → is_eq (slice_cmp nat_cmp q (field_of x).0) ≡ false) → (xs : List X) (old : Option Data) → found q (map field_of xs) old ≡ old
others_found q field_of other [] old = refl
others_found q field_of other (x ∷ xs) old = others_found q field_of other xs (cond (is_eq (slice_cmp nat_cmp q (field_of x).0)) (over (field_of x).1 old) old) ∙ ap (λ (b : Bool). cond b (over (field_of x).1 old) old) (other x)
