-- Which JSON says that a property of a kind has no values.
use Rattle.std.proofs.Common.{◌≡◌, ℕ, List, [], ◌∷◌, Option, None, Some, length, refl, sym, ap, ◌∙◌, rules, String, string_bytes}
use Rattle.std.specs.Prelude.{codes, unwrap_or, MatchOption}
use Rattle.serde_json.specs.Data.{Data, Members, string, object, no_members, member}
use Rattle.serde_json.specs.View.{members_view, view}
use Rattle.serde_json.specs.declared.value.Value.{the_lemmas}
use Rattle.serde_json.specs.declared.value.Value as json
use Rattle.std.specs.declared.alloc.Global.{Global}
use Rattle.jr_value.specs.declared.value.Kind.{Kind}
use Rattle.jr_value.specs.Words.{all_kinds, kind_named, kind_text}
use Rattle.jr_value.proofs.Named.{named_has, named_own}
use Rattle.jr_json.specs.Json.{no_values}
use Rattle.jr_json.specs.Reading.{only_member}

pub view-String : (s : String Global) → view (json.String s) ≡ string (string_bytes s)
view-String s = search (rules, the_lemmas)

-- an object of no or of more members has no one member
pub not_one : (ms : List (String Global × json.Value)) → (length ms ≡ 1 → ⊥) → None ≡ only_member (members_view ms)
not_one [] h = refl
not_one (m ∷ []) h = absurd (h refl)
not_one (m ∷ n ∷ ms) h = refl

-- an object is its one member
only_is : (ms : Members) (m : List ℕ × Data) → Some m ≡ only_member ms → ms ≡ member m.0 m.1 no_members
only_is no_members m h = cc
only_is (member k d no_members) m h = let same : m ≡ (k, d) = ap (λ (o : Option (List ℕ × Data)). unwrap_or o m) h in λ i. member ((sym same) i).0 ((sym same) i).1 no_members
only_is (member k d (member l e ms)) m h = cc

-- the member that such an object has
tag_of : (ms : Members) (m : List ℕ × Data) (k : Kind) → Some m ≡ only_member ms → object ms ≡ no_values k → m ≡ (codes "empty", string (kind_text k))
tag_of no_members m k h e = cc
tag_of (member l d no_members) m k h e = cc
tag_of (member l d (member l' d' ms)) m k h e = cc

pub word_found : (ms : Members) (m : List ℕ × Data) (word : List ℕ) (o : Option Kind) → Some m ≡ only_member ms → m.0 ≡ codes "empty" → m.1 ≡ string word → o ≡ kind_named all_kinds word → MatchOption o ((k : Kind) → object ms ≡ no_values k → ⊥) (λ k. object ms ≡ no_values k)
word_found ms m word None h tag is found = λ k e.
    let word_is : string word ≡ string (kind_text k) = sym is ∙ ap (λ (p : List ℕ × Data). p.1) (tag_of ms m k h e) in
    let same : word ≡ kind_text k = cc in
    let none : None ≡ Some k = found ∙ ap (kind_named all_kinds) same ∙ named_own k in cc
word_found ms m word (Some k) h tag is found =
    let has : kind_text k ≡ word = named_has all_kinds word k found in
    ap object (only_is ms m h) ∙ (λ i. object (member (tag i) ((is ∙ ap string (sym has)) i) no_members))
