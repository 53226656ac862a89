-- A JSON value is at most one property.
use Rattle.std.proofs.Common.{◌≡◌, ℕ, List, [], ◌∷◌, Option, None, Some, refl, sym, ap, ◌∙◌}
use Rattle.std.specs.Prelude.{MatchOption}
use Rattle.serde_json.specs.Data.{Data, Items, null, boolean, number, string, array, object, no_items, item}
use Rattle.jr_value.specs.declared.value.Kind.{Kind}
use Rattle.jr_value.specs.declared.value.Kind.TheVariants as kind
use Rattle.jr_value.specs.declared.value.Value.{Value}
use Rattle.jr_value.specs.declared.value.Value.TheVariants as value
use Rattle.jr_value.specs.declared.value.Property.{Property}
use Rattle.jr_value.specs.declared.value.Property.TheVariants.{Single, Many}
use Rattle.jr_value.specs.Values.{kind_of}
use Rattle.jr_value.specs.Words.{all_kinds, kind_named, kind_text}
use Rattle.jr_value.proofs.Texts.{both_some, text_one}
use Rattle.jr_value.proofs.Named.{named_own}
use Rattle.jr_json.specs.Json.{no_values}
use Rattle.jr_json.specs.Reading.{tagged_kinds, only_member, IsTagged, IsMember, IsValueJson, AreValuesJson, IsPropertyJson}

tagged_one : (k : Kind) (d : Data) (x y : Value) → IsTagged k d x → IsTagged k d y → x ≡ y
tagged_one kind.Date (number n) x y h g = both_some x y _ h g
tagged_one kind.Binary (string t) x y h g = text_one kind.Binary t x y h g
tagged_one kind.Name (string t) x y h g = text_one kind.Name t x y h g
tagged_one kind.Path (string t) x y h g = text_one kind.Path t x y h g
tagged_one kind.Reference (string t) x y h g = text_one kind.Reference t x y h g
tagged_one kind.WeakReference (string t) x y h g = text_one kind.WeakReference t x y h g
tagged_one kind.Uri (string t) x y h g = text_one kind.Uri t x y h g
tagged_one k d x y h g = absurd h

named_one : (o : Option Kind) (d : Data) (x y : Value) → MatchOption o ⊥ (λ k. IsTagged k d x) → MatchOption o ⊥ (λ k. IsTagged k d y) → x ≡ y
named_one None d x y h g = absurd h
named_one (Some k) d x y h g = tagged_one k d x y h g

member_one : (o : Option (List ℕ × Data)) (x y : Value) → IsMember o x → IsMember o y → x ≡ y
member_one None x y h g = absurd h
member_one (Some m) x y h g = named_one (kind_named tagged_kinds m.0) m.1 x y h g

value_one : (d : Data) (x y : Value) → IsValueJson d x → IsValueJson d y → x ≡ y
value_one null x y h g = absurd h
value_one (boolean b) x y h g = h ∙ sym g
value_one (number n) x y h g = both_some x y _ h g
value_one (string t) x y h g = h ∙ sym g
value_one (array ds) x y h g = absurd h
value_one (object ms) x y h g = member_one (only_member ms) x y h g

values_one : (ds : Items) (k l : Kind) (xs ys : List Value) → AreValuesJson ds k xs → AreValuesJson ds l ys → xs ≡ ys
values_one no_items k l [] [] h g = refl
values_one no_items k l [] (y ∷ ys) h g = absurd g
values_one no_items k l (x ∷ xs) ys h g = absurd h
values_one (item d ds) k l [] ys h g = absurd h
values_one (item d ds) k l (x ∷ xs) [] h g = absurd g
values_one (item d ds) k l (x ∷ xs) (y ∷ ys) h g = λ i. value_one d x y h.0 g.0 i ∷ values_one ds k l xs ys h.2 g.2 i

-- no value has the form of no values
no_value : (d : Data) (k : Kind) (x : Value) → d ≡ no_values k → IsValueJson d x → ⊥
no_value d k x is h = rw is at h

kind_one : (k l : Kind) → no_values k ≡ no_values l → k ≡ l
kind_one k l h =
    let word : kind_text k ≡ kind_text l = cc in
    let found : Some k ≡ Some l = sym (named_own k) ∙ ap (kind_named all_kinds) word ∙ named_own l in cc

many_kind : (d : Data) (ds : Items) (k l : Kind) (x y : Value) (xs ys : List Value) → AreValuesJson (item d ds) k (x ∷ xs) → AreValuesJson (item d ds) l (y ∷ ys) → k ≡ l
many_kind d ds k l x y xs ys h g = sym h.1 ∙ ap kind_of (value_one d x y h.0 g.0) ∙ g.1

pub property_one : (d : Data) (p q : Property) → IsPropertyJson d p → IsPropertyJson d q → p ≡ q
property_one d (Single x) (Single y) h g = ap Single (value_one d x y h g)
property_one d (Single x) (Many l []) h g = absurd (no_value d l x g h)
property_one (array ds) (Single x) (Many l (y ∷ ys)) h g = absurd h
property_one d (Many k []) (Single y) h g = absurd (no_value d k y h g)
property_one (array ds) (Many k (x ∷ xs)) (Single y) h g = absurd g
property_one d (Many k []) (Many l []) h g = ap (λ m. Many m []) (kind_one k l (sym h ∙ g))
property_one (array ds) (Many k []) (Many l (y ∷ ys)) h g = cc
property_one (array ds) (Many k (x ∷ xs)) (Many l []) h g = cc
property_one (array (item d ds)) (Many k (x ∷ xs)) (Many l (y ∷ ys)) h g =
    λ i. Many (many_kind d ds k l x y xs ys h g i) (values_one (item d ds) k l (x ∷ xs) (y ∷ ys) h g i)
property_one (array no_items) (Many k (x ∷ xs)) q h g = absurd h
property_one d (Many k (x ∷ xs)) q h g = absurd h
property_one d p q h g = absurd g
