-- What is read is in its range.
use Rattle.std.proofs.Common.{◌≡◌, ◌<◌, ◌^◌, ℕ, List, [], ◌∷◌, Option, None, Some, refl, sym, ap, subst, arith, ◌∙◌}
use Rattle.std.specs.Prelude.{All, MatchOption, OnOk, Result, Ok, Err, option_map}
use Rattle.std.proofs.lemmas.List.Elements.{All-cons, All-head, All-nil, All-tail}
use Rattle.std.specs.BTreeMap.{insert_entry}
use Rattle.std.specs.Cmp.{IsTotalOrder}
use Rattle.std.specs.List.{AllByRecursion, AllZip}
use Rattle.std.specs.List.Sorted.{IsStrictlySortedBy}
use Rattle.std.specs.Map.{keys_of}
use Rattle.std.specs.Ordering.{match_ordering, ordering_reverse}
use Rattle.std.specs.declared.cmp.Ordering.{Ordering}
use Rattle.std.specs.declared.cmp.Ordering.TheVariants.{Less, Equal, Greater}
use Rattle.serde_json.specs.Data.{Data, Items, null, boolean, number, string, array, object, no_items, item}
use Rattle.jr_docs_read.specs.Printed.{node_item}
use Rattle.jr_docs_read.specs.Ranges.{AreTyped, IsListedInRange, IsMapOf, IsNodeCollision, IsPathInRange, IsPinInRange}
use Rattle.jr_docs_read.specs.Ranges.{IsTyped, IsVectorInRange}
use Rattle.jr_json.specs.Reading.{tagged_kinds, only_member, IsTagged, IsMember, IsValueJson, AreValuesJson, IsPropertyJson}
use Rattle.jr_path.specs.declared.path.Path.{Path}
use Rattle.jr_rev.proofs.Digits.{value_most}
use Rattle.jr_rev.specs.Digits.{Spells}
use Rattle.jr_rev.specs.Grammar.{FitsFields, IsRevisionText, IsVectorText}
use Rattle.jr_rev.specs.Vectors.{Entries, revisions_of}
use Rattle.jr_rev.specs.declared.revision.Revision.{Revision}
use Rattle.jr_value.specs.Ranges.{AreOfKind, IsReadable, IsReadableProperty}
use Rattle.jr_value.specs.Texts.{IsPathWithin}
use Rattle.jr_value.specs.Words.{identifier_named, kind_named}
use Rattle.jr_value.specs.declared.value.Kind.{Kind}
use Rattle.jr_value.specs.declared.value.Kind.TheVariants as kind
use Rattle.jr_value.specs.declared.value.Property.{Property}
use Rattle.jr_value.specs.declared.value.Property.TheVariants.{Single, Many}
use Rattle.jr_value.specs.declared.value.Value.{Value}
use Rattle.jr_value.specs.declared.value.Value.TheVariants as value

-- what holds after success has what follows from it
pub on_ok : {T E A B : Type 0} (r : Result T E) → (A → B) → OnOk r A → OnOk r B
on_ok (Ok x) f h = f h
on_ok (Err e) f h = tt

-- ---- revisions and vectors

spelled_16 : (digits : List ℕ) (n : ℕ) → Spells 16 digits n → n < 2 ^ 64
spelled_16 digits n h =
    let lt = value_most 16 digits h.numeral.hex h.numeral.fits in
    let is = h.value in
    omega arith

spelled_8 : (digits : List ℕ) (n : ℕ) → Spells 8 digits n → n < 2 ^ 32
spelled_8 digits n h =
    let lt = value_most 8 digits h.numeral.hex h.numeral.fits in
    let is = h.value in
    omega arith

pub revision_fits : (text : List ℕ) (r : Revision) → IsRevisionText text r → FitsFields r
revision_fits text r h = record {
  time = spelled_16 h.time r.time h.is_time;
  counter = spelled_8 h.counter r.counter h.is_counter;
  cluster = spelled_8 h.cluster r.cluster h.is_cluster;
}

revisions_fit : (texts : List (List ℕ)) (rs : List Revision) → AllZip IsRevisionText texts rs → All FitsFields rs
revisions_fit [] [] h = All-nil FitsFields
revisions_fit [] (r ∷ rs) h = absurd h
revisions_fit (t ∷ ts) [] h = absurd h
revisions_fit (t ∷ ts) (r ∷ rs) h = All-cons FitsFields r rs (revision_fits t r h.0) (revisions_fit ts rs h.1)

pub vector_fits : (text : List ℕ) (v : Entries) → IsVectorText text v → IsVectorInRange v
vector_fits text v h = record { vector = h.vector; fits = revisions_fit h.texts (revisions_of v) h.each }

pub pin_fits : (base sweep : Entries) → IsVectorInRange base → IsVectorInRange sweep → IsPinInRange (record { base = base; sweep = sweep })
pin_fits base sweep p q = record { base = p; sweep = q }

pub listed_fits : (n : ℕ) (high low : Revision) → n < 2 ^ 64 → FitsFields high → FitsFields low → IsListedInRange (record { number = n; high = high; low = low })
listed_fits n high low small p q = record { number = small; high = p; low = q }

pub node_fits : (r : Revision) (p : Path) → FitsFields r → IsPathInRange p → IsNodeCollision (r, node_item p)
node_fits r p h k = record { in_range = record { revision = h; names = k.names }; node = refl }

-- ---- properties

-- bytes, names and paths are well formed
abbrev IsFormed : Value → Type 0
IsFormed (value.Long n) = Unit {0}
IsFormed (value.Date n) = Unit {0}
IsFormed (value.Reference id) = Unit {0}
IsFormed (value.WeakReference id) = Unit {0}
IsFormed x = IsReadable x

formed_some : {T : Type 0} (x : Value) (of : T → Value) (o : Option T) → ((t : T) → IsFormed (of t)) → Some x ≡ option_map of o → IsFormed x
formed_some x of None formed h = cc
formed_some x of (Some t) formed h = let is : x ≡ of t = cc in subst IsFormed (sym is) (formed t)

tagged_formed : (k : Kind) (d : Data) (x : Value) → IsTagged k d x → IsFormed x
tagged_formed kind.Date (number n) x h = formed_some x value.Date _ (λ t. tt) h
tagged_formed kind.Binary (string t) x h = subst IsFormed (sym h.3) h.1
tagged_formed kind.Name (string t) x h = subst IsFormed (sym h.1) h.0
tagged_formed kind.Path (string t) x h =
    subst IsFormed (sym h.2) (subst (λ (text : List ℕ). IsPathWithin text h.0) h.1.0.spelled h.1)
tagged_formed kind.Reference (string t) x h = formed_some x value.Reference (identifier_named t) (λ t. tt) h
tagged_formed kind.WeakReference (string t) x h = formed_some x value.WeakReference (identifier_named t) (λ t. tt) h
tagged_formed kind.Uri (string t) x h = subst IsFormed (sym h) tt
tagged_formed k d x h = absurd h

named_formed : (o : Option Kind) (d : Data) (x : Value) → MatchOption o ⊥ (λ k. IsTagged k d x) → IsFormed x
named_formed None d x h = absurd h
named_formed (Some k) d x h = tagged_formed k d x h

member_formed : (o : Option (List ℕ × Data)) (x : Value) → IsMember o x → IsFormed x
member_formed None x h = absurd h
member_formed (Some m) x h = named_formed (kind_named tagged_kinds m.0) m.1 x h

value_formed : (d : Data) (x : Value) → IsValueJson d x → IsFormed x
value_formed null x h = absurd h
value_formed (boolean b) x h = subst IsFormed (sym h) tt
value_formed (number n) x h = formed_some x value.Long _ (λ t. tt) h
value_formed (string t) x h = subst IsFormed (sym h) tt
value_formed (array ds) x h = absurd h
value_formed (object ms) x h = member_formed (only_member ms) x h

readable : (x : Value) → IsFormed x → IsTyped x → IsReadable x
readable (value.Str t) formed typed = tt
readable (value.Binary bytes) formed typed = formed
readable (value.Long n) formed typed = typed
readable (value.Date n) formed typed = typed
readable (value.Boolean b) formed typed = tt
readable (value.Name n) formed typed = formed
readable (value.Path p) formed typed = formed
readable (value.Reference id) formed typed = typed
readable (value.WeakReference id) formed typed = typed
readable (value.Uri t) formed typed = tt

values_readable : (ds : Items) (k : Kind) (xs : List Value) → AreValuesJson ds k xs → All IsTyped xs → AreOfKind k xs
values_readable ds k [] h typed = tt
values_readable no_items k (x ∷ xs) h typed = absurd h
values_readable (item d ds) k (x ∷ xs) h typed =
    (readable x (value_formed d x h.0) (All-head IsTyped x xs typed), h.1, values_readable ds k xs h.2 (All-tail IsTyped x xs typed))

pub property_readable : (d : Data) (p : Property) → IsPropertyJson d p → AreTyped p → IsReadableProperty p
property_readable d (Single x) h typed = readable x (value_formed d x h) typed
property_readable d (Many k []) h typed = tt
property_readable (array ds) (Many k (x ∷ xs)) h typed = values_readable ds k (x ∷ xs) h typed
property_readable d (Many k (x ∷ xs)) h typed = absurd h

-- ---- maps

through : {K : Type 0} (P Q : K → Type 0) → ((k : K) → P k → Q k) → (ks : List K) → AllByRecursion P ks → AllByRecursion Q ks
through P Q f [] h = tt
through P Q f (k ∷ ks) h = (f k h.0, through P Q f ks h.1)

module _ {K V : Type 0} (cmp : K → K → Ordering) (total : IsTotalOrder cmp) (k : K) (v : V) where
  below_put : (P : K → Type 0) (es : List (K × V)) → P k → AllByRecursion P (keys_of es) → AllByRecursion P (keys_of (insert_entry cmp es k v))
  below_put P [] mine h = (mine, tt)
  below_put P (e ∷ es) mine h = by (cmp k e.0) (below_put P es mine h.1)
    where
      by : (r : Ordering) → AllByRecursion P (keys_of (insert_entry cmp es k v)) → AllByRecursion P (keys_of (match_ordering r ((k, v) ∷ e ∷ es) ((e.0, v) ∷ es) (e ∷ insert_entry cmp es k v)))
      by Less rest = (mine, h)
      by Equal rest = h
      by Greater rest = (h.0, rest)

  rise_put : (es : List (K × V)) → IsStrictlySortedBy cmp (keys_of es) → IsStrictlySortedBy cmp (keys_of (insert_entry cmp es k v))
  unfolding IsStrictlySortedBy
  rise_put [] s = (tt, tt)
  rise_put (e ∷ es) s = by (cmp k e.0) refl (rise_put es s.1)
    where
      by : (r : Ordering) → cmp k e.0 ≡ r → IsStrictlySortedBy cmp (keys_of (insert_entry cmp es k v)) → IsStrictlySortedBy cmp (keys_of (match_ordering r ((k, v) ∷ e ∷ es) ((e.0, v) ∷ es) (e ∷ insert_entry cmp es k v)))
      by Less is rest = ((is, through (λ y. cmp e.0 y ≡ Less) (λ y. cmp k y ≡ Less) (λ y h. total.trans k e.0 y is h) (keys_of es) s.0), s)
      by Equal is rest = s
      by Greater is rest = (below_put (λ y. cmp e.0 y ≡ Less) es (total.antisymm e.0 k ∙ ap ordering_reverse is) s.0, rest)

  each_put : (A : K → Type 0) (B : V → Type 0) (es : List (K × V)) → A k → B v → All (λ e. A e.0 × B e.1) es → All (λ e. A e.0 × B e.1) (insert_entry cmp es k v)
  each_put A B [] a b h = All-cons (λ e. A e.0 × B e.1) (k, v) [] (a, b) h
  each_put A B (e ∷ es) a b h = by (cmp k e.0) (each_put A B es a b (All-tail (λ e. A e.0 × B e.1) e es h))
    where
      by : (r : Ordering) → All (λ e. A e.0 × B e.1) (insert_entry cmp es k v) → All (λ e. A e.0 × B e.1) (match_ordering r ((k, v) ∷ e ∷ es) ((e.0, v) ∷ es) (e ∷ insert_entry cmp es k v))
      by Less rest = All-cons (λ e. A e.0 × B e.1) (k, v) (e ∷ es) (a, b) h
      by Equal rest = All-cons (λ e. A e.0 × B e.1) (e.0, v) es ((All-head (λ e. A e.0 × B e.1) e es h).0, b) (All-tail (λ e. A e.0 × B e.1) e es h)
      by Greater rest = All-cons (λ e. A e.0 × B e.1) e (insert_entry cmp es k v) (All-head (λ e. A e.0 × B e.1) e es h) rest

  -- a map with one more entry
  pub map_put : (A : K → Type 0) (B : V → Type 0) (es : List (K × V)) → IsMapOf cmp A B es → A k → B v → IsMapOf cmp A B (insert_entry cmp es k v)
  map_put A B es h a b = record { rise = rise_put es h.rise; each = each_put A B es a b h.each }

pub no_map : {K V : Type 0} (cmp : K → K → Ordering) (A : K → Type 0) (B : V → Type 0) → IsMapOf cmp A B []
unfolding IsStrictlySortedBy
no_map cmp A B = record { rise = tt; each = All-nil (λ e. A e.0 × B e.1) }
