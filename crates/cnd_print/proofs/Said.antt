-- What a text of the grammar says can be printed.
use Rattle.std.proofs.Common.{◌≡◌, ◌∙◌, ℕ, ◌==◌, Bool, true, false, List, [], ◌∷◌, Option, None, Some, Ok, Err, ap, eqb-true, refl, subst, sym}
use Rattle.std.specs.Prelude.{if◌then◌else◌, IfSome, IsUtf8, codes}
use Rattle.std.specs.List.{AllByRecursion}
use Rattle.jr_path.proofs.OwnNames.{prefixed_name}
use Rattle.jr_path.specs.Grammar.{IsName}
use Rattle.jr_path.specs.declared.name.Name.{Name}
use Rattle.jr_value.specs.declared.value.Kind.{Kind}
use Rattle.jr_value.specs.declared.value.Kind.TheVariants as kind
use Rattle.jr_value.specs.declared.value.Value.{Value}
use Rattle.jr_items.specs.Names.{base_type}
use Rattle.jr_types.specs.declared.ChildDef.{ChildDef}
use Rattle.jr_types.specs.declared.PropDef.{PropDef}
use Rattle.jr_cnd.specs.Grammar.{read_child, constraints_at, constraints_first, default_type_at, defaults_at, item_attribute_first, item_attribute_more, item_attributes_at, item_name_at, item_word_first, kind_at, kind_first, kind_in, kind_inside, names_at, no_item_attributes, prop_at, texts_at, read_types, types_inside, value_at, value_first, value_in, values_at, with_item_word}
use Rattle.cnd_pieces.specs.Pieces.{after_equal, context_after, default_kind, named_in}
use Rattle.cnd_print.specs.Printable.{IsPrintableChild, IsPrintableProp, IsPrintableValue}
use Rattle.jr_cnd.specs.Reading.{◌>>=◌, State, Read, after, behind, is_sign, name_at, name_first, cnd_name_in, place, required, sign_at, sign_first, sign_number, text_at, text_first}
use Rattle.jr_cnd.specs.declared.attributes.ItemAttributes.{ItemAttributes}
use Rattle.cnd_pieces.specs.declared.context.Context.{Context}
use Rattle.cnd_pieces.specs.declared.context.Context.TheVariants as context
use Rattle.cnd_pieces.specs.declared.piece.Placed.{Placed}
use Rattle.cnd_pieces.specs.declared.piece.Says.{Says}
use Rattle.cnd_pieces.specs.declared.piece.Says.TheVariants as says
use Rattle.cnd_pieces.specs.declared.piece.Sign.{Sign}
use Rattle.cnd_pieces.specs.declared.piece.Sign.TheVariants as sign
use Rattle.cnd_print.proofs.Kept.{AllRead, done, list_kept, many_kept, ok_is, then_kept, token_kept}
use Rattle.cnd_print.proofs.Proper.{Proper, ProperSays, SomeProper, name_proper, proper_behind, text_proper}

-- the pieces that are left are proper, in whatever context
abbrev pub Left : State → Type 0
Left s = SomeProper s.pieces

-- ---- signs

sign_back : ℕ → Sign
sign_back n =
    if n == 0 then sign.Less else (if n == 1 then sign.Greater else (if n == 2 then sign.Equal else (if n == 3 then sign.Comma
    else (if n == 4 then sign.Open else (if n == 5 then sign.Close else (if n == 6 then sign.OpenSquare else (if n == 7 then sign.CloseSquare
    else (if n == 8 then sign.Minus else (if n == 9 then sign.Plus else (if n == 10 then sign.Star else sign.Bang))))))))))

number_back : (a : Sign) → sign_back (sign_number a) ≡ a
unfolding sign_back
number_back sign.Less = refl
number_back sign.Greater = refl
number_back sign.Equal = refl
number_back sign.Comma = refl
number_back sign.Open = refl
number_back sign.Close = refl
number_back sign.OpenSquare = refl
number_back sign.CloseSquare = refl
number_back sign.Minus = refl
number_back sign.Plus = refl
number_back sign.Star = refl
number_back sign.Bang = refl

sign_is : (w : Sign) (u : Says) → is_sign w u ≡ true → u ≡ says.Sign w
sign_is w (says.Sign a) e = ap says.Sign (sym (number_back a) ∙ ap sign_back (eqb-true (sign_number a) (sign_number w) e) ∙ number_back w)
sign_is w u e = cc

pub sign_next : (w : Sign) (c : Context) (ps : List Placed) → sign_first w ps ≡ true → Proper c ps → Proper (context_after c (says.Sign w)) (behind ps)
sign_next w c [] e h = cc
sign_next w c (p ∷ ps) e h = subst (λ u. Proper (context_after c u) ps) (sign_is w p.says e) h.1

sign_by : (b : Bool) (s u : State) (x : Unit {0}) → ◌≡◌ {A = Read (Unit {0})} (if b then Ok (tt, after s) else Err (place s)) (Ok (x, u)) → (b ≡ true) × (after s ≡ u)
sign_by true s u x e = (refl, ap (λ (r : Unit {0} × State). r.1) (ok_is (tt, after s) (x, u) e))
sign_by false s u x e = cc

pub sign_kept : (w : Sign) (c : Context) (s u : State) (x : Unit {0}) → Proper c s.pieces → sign_at w s ≡ Ok (x, u) → Proper (context_after c (says.Sign w)) u.pieces
sign_kept w c s u x h e =
    let r = sign_by (sign_first w s.pieces) s u x e in
    subst (λ (t : State). Proper (context_after c (says.Sign w)) t.pieces) r.1 (sign_next w c s.pieces r.0 h)

pub sign_left : (w : Sign) (s u : State) (x : Unit {0}) → Left s → sign_at w s ≡ Ok (x, u) → Left u
sign_left w s u x h e = (context_after h.0 (says.Sign w), sign_kept w h.0 s u x h.1 e)

-- what may be left out
pub if_kept : {X : Type 0} (b : Bool) (K : X → State → Type 0) (r : Read X) (d x : X) (s u : State) → (b ≡ true → r ≡ Ok (x, u) → K x u) → (b ≡ false → K d s) → (if b then r else Ok (d, s)) ≡ Ok (x, u) → K x u
if_kept true K r d x s u f g e = f refl e
if_kept false K r d x s u f g e = done K d x s u (g refl) e

-- ---- names and texts

pub name_kept : (s u : State) (n : Name) → Left s → name_at s ≡ Ok (n, u) → IsName n × Left u
name_kept s u n h e = token_kept (name_first s.pieces) (λ x t. IsName x × Left t) s u n (λ y k. (name_proper s.pieces y h k, proper_behind s.pieces h)) e

pub text_kept : (s u : State) (t : List ℕ) → Left s → text_at s ≡ Ok (t, u) → IsUtf8 t × Left u
text_kept s u t h e = token_kept (text_first s.pieces) (λ x v. IsUtf8 x × Left v) s u t (λ y k. (text_proper s.pieces y h k, proper_behind s.pieces h)) e

any_comma : (s : State) → Left s → sign_first sign.Comma s.pieces ≡ true → Left (after s)
any_comma s h e = proper_behind s.pieces h

pub names_kept : (s u : State) (ns : List Name) → Left s → names_at s ≡ Ok (ns, u) → AllRead IsName Left ns u
names_kept s u ns h e = list_kept name_at IsName Left Left name_kept any_comma s u ns h e

texts_kept : (s u : State) (ts : List (List ℕ)) → Left s → texts_at s ≡ Ok (ts, u) → AllRead IsUtf8 Left ts u
texts_kept s u ts h e = list_kept text_at IsUtf8 Left Left text_kept any_comma s u ts h e

-- ---- the name of an item, right behind its sign

name_next_by : (u : Says) (ps : List Placed) (n : Name) → ProperSays context.Elsewhere u → Proper (context_after context.Elsewhere u) ps → cnd_name_in u ≡ Some n → IsName n × Proper context.Elsewhere ps
name_next_by (says.Name m) ps n h k e = let same : m ≡ n = cc in (subst IsName same h, k)
name_next_by (says.Quoted t None v) ps n h k e = cc
name_next_by (says.Quoted t (Some m) v) ps n h k e = let same : m ≡ n = cc in (subst IsName same h.1, k)
name_next_by u ps n h k e = cc

name_next : (ps : List Placed) (n : Name) → Proper context.Elsewhere ps → name_first ps ≡ Some n → IsName n × Proper context.Elsewhere (behind ps)
name_next [] n h e = cc
name_next (p ∷ ps) n h e = name_next_by p.says ps n h.0 h.1 e

-- a name or none, and what is left stands behind it
abbrev Named : Option Name → State → Type 0
Named o s = IfSome o IsName × Proper context.Elsewhere s.pieces

-- a name, as that of an item
abbrev some_name : State → Read (Option Name)
some_name s = do
  n ← name_at s
  Ok (Some n.0, n.1)

item_name_by : (b : Bool) (s u : State) (o : Option Name) → sign_first sign.Star s.pieces ≡ b → Proper context.Elsewhere s.pieces → ◌≡◌ {A = Read (Option Name)} (if b then Ok (None, after s) else some_name s) (Ok (o, u)) → Named o u
item_name_by true s u o is h e = done Named None o (after s) u (tt, sign_next sign.Star context.Elsewhere s.pieces is h) e
item_name_by false s u o is h e =
    then_kept (name_at s) _ (λ n t. IsName n × Proper context.Elsewhere t.pieces) Named o u
    (λ n t k. token_kept (name_first s.pieces) (λ x v. IsName x × Proper context.Elsewhere v.pieces) s t n (λ y j. name_next s.pieces y h j) k)
    (λ n t k j. done Named (Some n) o t u k j) e

item_name_kept : (s u : State) (o : Option Name) → Proper context.Elsewhere s.pieces → item_name_at s ≡ Ok (o, u) → Named o u
item_name_kept s u o h e = item_name_by (sign_first sign.Star s.pieces) s u o refl h e

-- ---- the kind of a property

-- what is left stands where defaults of the kind may
abbrev Kinded : Option Kind → State → Type 0
Kinded k s = (c : Context) × Proper c s.pieces × (after_equal c ≡ context.Default (default_kind k))

kind_next_by : (u : Says) (ps : List Placed) (k : Option Kind) → Proper (context_after context.Opened u) ps → kind_in u ≡ Some k → Proper (context.Named (default_kind k)) ps
kind_next_by (says.Name w) ps k h e = subst (λ o. Proper (named_in o) ps) e h
kind_next_by (says.Sign sign.Star) ps k h e = let same : ◌≡◌ {A = Option Kind} None k = cc in subst (λ o. Proper (context.Named (default_kind o)) ps) same h
kind_next_by u ps k h e = cc

kind_next : (ps : List Placed) (k : Option Kind) → Proper context.Opened ps → kind_first ps ≡ Some k → Proper (context.Named (default_kind k)) (behind ps)
kind_next [] k h e = cc
kind_next (p ∷ ps) k h e = kind_next_by p.says ps k h.1 e

-- a kind, and `)`
abbrev kind_of_word : Option (Option Kind) → State → Read (Option Kind)
kind_of_word o s = do
  j ← required o (place s)
  c ← sign_at sign.Close (after s)
  Ok (j, c.1)

kind_inside_by : (o : Option (Option Kind)) (s u : State) (k : Option Kind) → ((j : Option Kind) → o ≡ Some j → Proper (context.Named (default_kind j)) (behind s.pieces)) → kind_of_word o s ≡ Ok (k, u) → Kinded k u
kind_inside_by None s u k f e = cc
kind_inside_by (Some j) s u k f e =
    then_kept (sign_at sign.Close (after s)) _ (λ x t. Proper (context.Closed (default_kind j)) t.pieces) Kinded k u
    (λ x t i. sign_kept sign.Close (context.Named (default_kind j)) (after s) t x (f j refl) i)
    (λ x t i l. done Kinded j k t u (context.Closed (default_kind j), i, refl) l) e

kind_kept : (s u : State) (k : Option Kind) → Proper context.Elsewhere s.pieces → kind_at s ≡ Ok (k, u) → Kinded k u
kind_kept s u k h e =
    if_kept (sign_first sign.Open s.pieces) Kinded (kind_inside (after s)) (Some kind.Str) k s u
    (λ is i. kind_inside_by (kind_first (behind s.pieces)) (after s) u k (λ j l. kind_next (behind s.pieces) j (sign_next sign.Open context.Elsewhere s.pieces is h) l) i)
    (λ is. (context.Elsewhere, h, refl)) e

-- ---- the defaults of a property

value_next_by : (k : Kind) (u : Says) (ps : List Placed) (v : Value) → ProperSays (context.Default k) u → Proper (context_after (context.Default k) u) ps → value_in u ≡ Some v → IsPrintableValue k v × Proper (context.Listed k) ps
value_next_by k (says.Quoted t n None) ps v h l e = cc
value_next_by k (says.Quoted t n (Some w)) ps v h l e = let same : w ≡ v = cc in (subst (IsPrintableValue k) same h.2, l)
value_next_by k u ps v h l e = cc

value_next : (k : Kind) (ps : List Placed) (v : Value) → Proper (context.Default k) ps → value_first ps ≡ Some v → IsPrintableValue k v × Proper (context.Listed k) (behind ps)
value_next k [] v h e = cc
value_next k (p ∷ ps) v h e = value_next_by k p.says ps v h.0 h.1 e

value_kept : (k : Kind) (s u : State) (v : Value) → Proper (context.Default k) s.pieces → value_at s ≡ Ok (v, u) → IsPrintableValue k v × Proper (context.Listed k) u.pieces
value_kept k s u v h e = token_kept (value_first s.pieces) (λ x t. IsPrintableValue k x × Proper (context.Listed k) t.pieces) s u v (λ y j. value_next k s.pieces y h j) e

values_kept : (k : Kind) (s u : State) (vs : List Value) → Proper (context.Default k) s.pieces → values_at s ≡ Ok (vs, u) → AllRead (IsPrintableValue k) (λ t. Proper (context.Listed k) t.pieces) vs u
values_kept k s u vs h e = list_kept value_at (IsPrintableValue k) (λ t. Proper (context.Default k) t.pieces) (λ t. Proper (context.Listed k) t.pieces) (value_kept k) (λ t i is. sign_next sign.Comma (context.Listed k) t.pieces is i) s u vs h e

abbrev Defaulted : Option Kind → List Value → State → Type 0
Defaulted k vs s = AllByRecursion (IsPrintableValue (default_kind k)) vs × Left s

defaults_kept : (k : Option Kind) (s u : State) (vs : List Value) → Kinded k s → defaults_at s ≡ Ok (vs, u) → Defaulted k vs u
defaults_kept k s u vs h e =
    if_kept (sign_first sign.Equal s.pieces) (Defaulted k) (values_at (after s)) [] vs s u
    (λ is i.
    let r = values_kept (default_kind k) (after s) u vs (subst (λ c. Proper c (behind s.pieces)) h.2 (sign_next sign.Equal h.0 s.pieces is h.1)) i in
    (r.all, (context.Listed (default_kind k), r.left)))
    (λ is. (tt, (h.0, h.1))) e

-- ---- attributes and constraints

-- what a word makes of what was read
abbrev made_of : {X W : Type 0} → Option W → (W → X) → State → Read X
made_of o f s = do
  w ← required o (place s)
  Ok (f w, after s)

word_kept : {X W : Type 0} (o : Option W) (f : W → X) (s u : State) (x : X) → Left s → made_of o f s ≡ Ok (x, u) → Left u
word_kept None f s u x h e = cc
word_kept (Some w) f s u x h e = done (λ y t. Left t) (f w) x (after s) u (proper_behind s.pieces h) e

item_attributes_kept : (of_property : Bool) (s u : State) (a : ItemAttributes) → Left s → item_attributes_at of_property s ≡ Ok (a, u) → Left u
item_attributes_kept of_property s u a h e =
    many_kept (item_attribute_first of_property) (item_attribute_more of_property) (λ x t. Left t) s.pieces no_item_attributes a s u
    (λ x y t v i first more. word_kept (item_word_first of_property x t.pieces) (λ w. with_item_word x w) t v y i more) h e

abbrev Constrained : List (List ℕ) → State → Type 0
Constrained ts s = AllByRecursion IsUtf8 ts × Left s

constraints_kept : (s u : State) (ts : List (List ℕ)) → Left s → constraints_at s ≡ Ok (ts, u) → Constrained ts u
constraints_kept s u ts h e =
    if_kept (constraints_first s.pieces) Constrained (texts_at (after s)) [] ts s u
    (λ is i. let r = texts_kept (after s) u ts (proper_behind s.pieces h) i in (r.all, r.left))
    (λ is. (tt, h)) e

-- ---- a property

abbrev pub PropRead : PropDef → State → Type 0
PropRead p s = IsPrintableProp p × Left s

pub prop_kept : (s w : State) (p : PropDef) → Proper context.Elsewhere s.pieces → prop_at s ≡ Ok (p, w) → PropRead p w
prop_kept s w p h e =
    then_kept (item_name_at s) _ Named PropRead p w (λ n s1 i. item_name_kept s s1 n h i)
    (λ n s1 named e1.
    then_kept (kind_at s1) _ Kinded PropRead p w (λ k s2 i. kind_kept s1 s2 k named.1 i)
    (λ k s2 kinded e2.
    then_kept (defaults_at s2) _ (Defaulted k) PropRead p w (λ vs s3 i. defaults_kept k s2 s3 vs kinded i)
    (λ vs s3 defaulted e3.
    then_kept (item_attributes_at true s3) _ (λ a t. Left t) PropRead p w (λ a s4 i. item_attributes_kept true s3 s4 a defaulted.1 i)
    (λ a s4 left e4.
    then_kept (constraints_at s4) _ Constrained PropRead p w (λ ts s5 i. constraints_kept s4 s5 ts left i)
    (λ ts s5 constrained e5.
    done PropRead _ p s5 w (record { name = named.0; defaults = defaulted.0; constraints = constrained.0 }, constrained.1) e5) e4) e3) e2) e1) e

-- ---- a child

base_name : IsName base_type
base_name = prefixed_name (codes "nt") (codes "base") refl

abbrev Typed : List Name → State → Type 0
Typed ns s = AllRead IsName Left ns s

types_inside_kept : (s u : State) (ns : List Name) → Left s → types_inside s ≡ Ok (ns, u) → Typed ns u
types_inside_kept s u ns h e =
    then_kept (names_at s) _ Typed Typed ns u (λ ms t i. names_kept s t ms h i)
    (λ ms t k i.
    then_kept (sign_at sign.Close t) _ (λ x v. Left v) Typed ns u (λ x v j. sign_left sign.Close t v x k.left j)
    (λ x v l j. done Typed ms ns v u (record { all = k.all; some = k.some; left = l }) j) i) e

types_kept : (s u : State) (ns : List Name) → Left s → read_types s ≡ Ok (ns, u) → Typed ns u
types_kept s u ns h e =
    if_kept (sign_first sign.Open s.pieces) Typed (types_inside (after s)) (base_type ∷ []) ns s u
    (λ is i. types_inside_kept (after s) u ns (proper_behind s.pieces h) i)
    (λ is. record { all = (base_name, tt); some = λ none. cc; left = h }) e

abbrev pub MayBeNamed : Option Name → State → Type 0
MayBeNamed o s = IfSome o IsName × Left s

default_type_kept : (s u : State) (o : Option Name) → Left s → default_type_at s ≡ Ok (o, u) → MayBeNamed o u
default_type_kept s u o h e =
    if_kept (sign_first sign.Equal s.pieces) MayBeNamed (some_name (after s)) None o s u
    (λ is i. then_kept (name_at (after s)) _ (λ n t. IsName n × Left t) MayBeNamed o u
    (λ n t j. name_kept (after s) t n (proper_behind s.pieces h) j)
    (λ n t k j. done MayBeNamed (Some n) o t u k j) i)
    (λ is. (tt, h)) e

abbrev pub ChildRead : ChildDef → State → Type 0
ChildRead c s = IsPrintableChild c × Left s

pub child_kept : (s w : State) (c : ChildDef) → Proper context.Elsewhere s.pieces → read_child s ≡ Ok (c, w) → ChildRead c w
child_kept s w c h e =
    then_kept (item_name_at s) _ Named ChildRead c w (λ n s1 i. item_name_kept s s1 n h i)
    (λ n s1 named e1.
    then_kept (read_types s1) _ Typed ChildRead c w (λ ns s2 i. types_kept s1 s2 ns (context.Elsewhere, named.1) i)
    (λ ns s2 typed e2.
    then_kept (default_type_at s2) _ MayBeNamed ChildRead c w (λ o s3 i. default_type_kept s2 s3 o typed.left i)
    (λ o s3 default e3.
    then_kept (item_attributes_at false s3) _ (λ a t. Left t) ChildRead c w (λ a s4 i. item_attributes_kept false s3 s4 a default.1 i)
    (λ a s4 left e4.
    done ChildRead _ c s4 w (record { name = named.0; some_type = typed.some; types = typed.all; default_type = default.0 }, left) e4) e3) e2) e1) e
