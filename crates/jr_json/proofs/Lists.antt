-- The kinds of values and of their JSON, and lists of values.
use Rattle.std.proofs.Common.{◌≡◌, ◌≢◌, Option, None, Some, List, [], ◌∷◌, refl, sym, ap, ◌∙◌, subst, ◌++◌, append_assoc, append-nil, Bool, true, false, true≢false, eq-eqb, ◌+◌, ◌<◌, ◌≤◌, length, get_or, drop, drop-cons, take, add-one, arith}
use Rattle.std.proofs.lemmas.List.{drop_all, map_push, take_more}
use Rattle.std.specs.Prelude.{ℕ, ◌==◌, map, MatchBool, MatchOption, unwrap_or, option_map}
use Rattle.serde_json.specs.Data.{Data, Items, null, boolean, number, string, array, object, no_items, item}
use Rattle.serde_json.specs.Find.{as_i64}
use Rattle.serde_json.specs.View.{view, items_view}
use Rattle.serde_json.specs.declared.value.Value as json
use Rattle.jr_value.specs.declared.value.Kind.{Kind}
use Rattle.jr_value.specs.declared.value.Kind.TheVariants as kind
use Rattle.jr_value.specs.declared.value.Value.{Value}
use Rattle.jr_value.specs.declared.value.Value.TheVariants as value
use Rattle.jr_value.specs.declared.value.Property.{Property}
use Rattle.jr_value.specs.declared.value.Property.TheVariants.{Single, Many}
use Rattle.jr_json.specs.declared.fault.ValueFault.TheVariants.{ValueFormat}
use Rattle.jr_value.specs.Equality.{kind_exact}
use Rattle.jr_value.specs.Values.{kind_of, kind_number}
use Rattle.jr_value.specs.Texts.{IsFound, IsText}
use Rattle.jr_value.specs.Words.{identifier_named, kind_named}
use Rattle.jr_json.specs.Json.{value_data}
use Rattle.jr_json.specs.Reading.{tagged_kinds, only_member, kind_of_member, form_begun, first_other, IsTagged, IsMember, IsValueJson, AreValuesJson, IsPropertyJson, IsValueFault, kinds_named}

-- what is made of something has one kind
made_kind : {X : Type 0} (make : X → Value) (k : Kind) → ((y : X) → kind_of (make y) ≡ k) → (o : Option X) (x : Value) → Some x ≡ option_map make o → kind_of x ≡ k
made_kind make k same None x h = cc
made_kind make k same (Some y) x h = ap (λ (p : Option Value). kind_of (unwrap_or p (make y))) h ∙ same y

tagged_kind : (k : Kind) (d : Data) (x : Value) → IsTagged k d x → kind_of x ≡ k
tagged_kind kind.Binary (string t) x h = ap kind_of h.3
tagged_kind kind.Date (number n) x h = made_kind value.Date kind.Date (λ y. refl) (as_i64 n) x h
tagged_kind kind.Name (string t) x h = ap kind_of h.1
tagged_kind kind.Path (string t) x h = ap kind_of h.2
tagged_kind kind.Reference (string t) x h = made_kind value.Reference kind.Reference (λ y. refl) (identifier_named t) x h
tagged_kind kind.WeakReference (string t) x h = made_kind value.WeakReference kind.WeakReference (λ y. refl) (identifier_named t) x h
tagged_kind kind.Uri (string t) x h = ap kind_of h
tagged_kind k d x h = absurd h

named_kind : (o : Option Kind) (d : Data) (x : Value) → MatchOption o ⊥ (λ k. IsTagged k d x) → kind_of x ≡ unwrap_or o kind.Str
named_kind None d x h = absurd h
named_kind (Some k) d x h = tagged_kind k d x h

member_kind : (o : Option (List ℕ × Data)) (x : Value) → IsMember o x → kind_of x ≡ kind_of_member o
member_kind None x h = absurd h
member_kind (Some m) x h = named_kind (kind_named tagged_kinds m.0) m.1 x h

-- a value's kind is the one whose form its JSON begins
pub value_kind : (d : Data) (x : Value) → IsValueJson d x → kind_of x ≡ form_begun d
value_kind null x h = absurd h
value_kind (boolean b) x h = ap kind_of h
value_kind (number n) x h = made_kind value.Long kind.Long (λ y. refl) (as_i64 n) x h
value_kind (string t) x h = ap kind_of h
value_kind (array ds) x h = absurd h
value_kind (object ms) x h = member_kind (only_member ms) x h

-- a list that begins with a form has values of its kind alone
pub list_of_kind : (d : Data) (ds : Items) (p : Property) → ((xs : List Value) → AreValuesJson (item d ds) (form_begun d) xs → ⊥) → IsPropertyJson (array (item d ds)) p → ⊥
list_of_kind d ds (Single x) none h = h
list_of_kind d ds (Many k []) none h = cc
list_of_kind d ds (Many k (x ∷ xs)) none h =
    let same : k ≡ form_begun d = sym h.1 ∙ value_kind d x h.0 in
    none (x ∷ xs) (subst (λ l. AreValuesJson (item d ds) l (x ∷ xs)) same h)

-- no list is empty
pub no_empty_list : (p : Property) → IsPropertyJson (array no_items) p → ⊥
no_empty_list (Single x) h = h
no_empty_list (Many k []) h = cc
no_empty_list (Many k (x ∷ xs)) h = h

pub list_of_values : (d : Data) (ds : Items) (k : Kind) (xs : List Value) → AreValuesJson (item d ds) k xs → IsPropertyJson (array (item d ds)) (Many k xs)
list_of_values d ds k [] h = absurd h
list_of_values d ds k (x ∷ xs) h = h

-- So far these values are read of the list, and these items are left: any values of theirs are the list's next,
-- and where they have none the list has none.
pub record IsReadTo (all rest : Items) (k : Kind) (front : List Value) : Type 0 where
  pub next : (xs : List Value) → AreValuesJson rest k xs → AreValuesJson all k (front ++ xs)
  pub has : (xs : List Value) → AreValuesJson all k xs → (ys : List Value) × AreValuesJson rest k ys

pub read_none : (all : Items) (k : Kind) → IsReadTo all all k []
read_none all k = record { next = λ xs h. h; has = λ xs h. (xs, h) }

tail : (d : Data) (ds : Items) (k : Kind) (xs : List Value) → AreValuesJson (item d ds) k xs → (ys : List Value) × AreValuesJson ds k ys
tail d ds k [] h = absurd h
tail d ds k (x ∷ xs) h = (xs, h.2)

pub read_more : (all rest left : Items) (k : Kind) (front more : List Value) (d : Data) (x : Value) → IsReadTo all rest k front → rest ≡ item d left → more ≡ front ++ x ∷ [] → IsValueJson d x → kind_of x ≡ k → IsReadTo all left k more
read_more all rest left k front more d x read is put good same = record {
  next = λ xs h. rw (put, append_assoc front (x ∷ []) xs) (read.next (x ∷ xs) (rw is (good, same, h)));
  has = λ xs h. let rest_has = read.has xs h in tail d left k rest_has.0 (rw is at rest_has.1);
}

-- an item that is no value of the kind leaves the list without values
pub read_stop : (all rest left : Items) (k : Kind) (front : List Value) (d : Data) → IsReadTo all rest k front → rest ≡ item d left → ((x : Value) → (IsValueJson d x × (kind_of x ≡ k)) → ⊥) → (xs : List Value) → AreValuesJson all k xs → ⊥
read_stop all rest left k front d read is bad xs h = let rest_has = read.has xs h in no_head rest_has.0 (rw is at rest_has.1)
  where
    no_head : (ys : List Value) → AreValuesJson (item d left) k ys → ⊥
    no_head [] g = g
    no_head (y ∷ ys) g = bad y (g.0, g.1)

-- so it is by what is said of whether the next item is a value of the kind
pub item_read : (all rest left : Items) (k : Kind) (front more : List Value) (d : Data) (found : Bool) → IsReadTo all rest k front → rest ≡ item d left → MatchBool found ((x : Value) × (more ≡ front ++ x ∷ []) × IsValueJson d x × (kind_of x ≡ k)) ((x : Value) → (IsValueJson d x × (kind_of x ≡ k)) → ⊥) → found ≡ true → IsReadTo all left k more
item_read all rest left k front more d true read is h same = read_more all rest left k front more d h.0 read is h.1 h.2 h.3
item_read all rest left k front more d false read is h same = absurd (true≢false (sym same))

pub item_missed : (all rest left : Items) (k : Kind) (front more : List Value) (d : Data) (found : Bool) → IsReadTo all rest k front → rest ≡ item d left → MatchBool found ((x : Value) × (more ≡ front ++ x ∷ []) × IsValueJson d x × (kind_of x ≡ k)) ((x : Value) → (IsValueJson d x × (kind_of x ≡ k)) → ⊥) → found ≡ false → (xs : List Value) → AreValuesJson all k xs → ⊥
item_missed all rest left k front more d true read is h same = absurd (true≢false same)
item_missed all rest left k front more d false read is h same = read_stop all rest left k front d read is h

pub read_all : (all rest : Items) (k : Kind) (front : List Value) → IsReadTo all rest k front → rest ≡ no_items → AreValuesJson all k front
read_all all rest k front read is = rw append-nil at (read.next [] (rw is tt))

-- a value of another kind than the form begun isn't there
pub other_kind : (d : Data) (k : Kind) → (kind_number (form_begun d) == kind_number k) ≡ false → (x : Value) → IsValueJson d x × (kind_of x ≡ k) → ⊥
other_kind d k differs x h =
    let same : form_begun d ≡ k = sym (value_kind d x h.0) ∙ h.1 in
    true≢false (sym (eq-eqb _ _ (ap kind_number same)) ∙ differs)

-- a value is of the kind of the form begun
pub own_kind : (d : Data) (k : Kind) → (kind_number (form_begun d) == kind_number k) ≡ true → (o : Option Value) → IsFound (IsValueJson d) o → IsFound (λ x. IsValueJson d x × (kind_of x ≡ k)) o
own_kind d k same None h = λ x g. h x g.0
own_kind d k same (Some x) h = (h, value_kind d x h ∙ kind_exact (form_begun d) k same)

pub other_here : (all rest left : Items) (k : Kind) (d : Data) → first_other k all ≡ first_other k rest → rest ≡ item d left → (kind_number (form_begun d) == kind_number k) ≡ false → form_begun d ≡ first_other k all
other_here all rest left k d far is differs = sym (far ∙ ap (first_other k) is ∙ rw differs refl)

pub other_past : (all rest left : Items) (k : Kind) (d : Data) → first_other k all ≡ first_other k rest → rest ≡ item d left → (kind_number (form_begun d) == kind_number k) ≡ true → first_other k all ≡ first_other k left
other_past all rest left k d far is same = far ∙ ap (first_other k) is ∙ rw same refl

-- the items from a place on
pub rest_more : (vs : List json.Value) (i : ℕ) (v : json.Value) → i < length vs → v ≡ get_or vs i v → items_view (drop i vs) ≡ item (view v) (items_view (drop (i + 1) vs))
rest_more vs i v within is = rw (drop-cons vs i v within, ← is, add-one) refl

pub rest_all : (vs : List json.Value) (i : ℕ) → length vs ≤ i → items_view (drop i vs) ≡ no_items
rest_all vs i past = rw (drop_all i vs past) refl

-- the kinds of a list that isn't one of values of one kind
pub list_fault : (vs : List json.Value) (v : json.Value) (k other : Kind) → 1 ≤ length vs → v ≡ get_or vs 0 v → k ≡ form_begun (view v) → other ≡ first_other k (items_view vs) → ((xs : List Value) → AreValuesJson (items_view vs) k xs → ⊥) → IsValueFault (array (items_view vs)) (ValueFormat k other)
list_fault [] v k other some is begun found none = absurd (omega arith)
list_fault (w ∷ ws) v k other some is begun found none =
    let kind_is : k ≡ form_begun (view w) = begun ∙ ap (λ u. form_begun (view u)) is in
    let kinds : (k, other) ≡ kinds_named (array (items_view (w ∷ ws))) = λ i. (kind_is i, (found ∙ ap (λ l. first_other l (items_view (w ∷ ws))) kind_is) i) in
    (λ p. list_of_kind (view w) (items_view ws) p (subst (λ l. (xs : List Value) → AreValuesJson (items_view (w ∷ ws)) l xs → ⊥) kind_is none), kinds)

-- a text behind the word of a kind is read as the text by itself is
pub tagged_found : (k : Kind) (text : List ℕ) (o : Option Value) → k ≢ kind.Str → k ≢ kind.Long → k ≢ kind.Date → k ≢ kind.Boolean → IsFound (IsText k text) o → IsFound (IsTagged k (string text)) o
tagged_found kind.Str text o a b c d h = absurd (a refl)
tagged_found kind.Long text o a b c d h = absurd (b refl)
tagged_found kind.Date text o a b c d h = absurd (c refl)
tagged_found kind.Boolean text o a b c d h = absurd (d refl)
tagged_found kind.Binary text o a b c d h = h
tagged_found kind.Name text o a b c d h = h
tagged_found kind.Path text o a b c d h = h
tagged_found kind.Reference text o a b c d h = h
tagged_found kind.WeakReference text o a b c d h = h
tagged_found kind.Uri text o a b c d h = h

-- the JSON of one value more
pub data_more : (vs : List Value) (i : ℕ) (v : Value) (ds more : List Data) → i < length vs → v ≡ get_or vs i v → ds ≡ map value_data (take i vs) → more ≡ ds ++ value_data v ∷ [] → more ≡ map value_data (take (i + 1) vs)
data_more vs i v ds more within is before put =
    let taken : take (i + 1) vs ≡ take i vs ++ v ∷ [] = take_more vs i v within ∙ ap (λ (x : Value). take i vs ++ x ∷ []) (sym is) in
    put ∙ (ap (λ (es : List Data). es ++ value_data v ∷ []) before ∙ sym (ap (map value_data) taken ∙ map_push value_data (take i vs) v))
