-- What a whole text of the grammar says can be printed.
use Rattle.std.proofs.Common.{◌≡◌, ◌≢◌, ℕ, Bool, true, false, List, [], ◌∷◌, ◌++◌, Option, None, Some, Ok, Err, Result, drop, length, map, refl, subst}
use Rattle.std.specs.Prelude.{◌||◌, if◌then◌else◌, IfSome, IsUtf8, is_some, not}
use Rattle.std.specs.List.{AllByRecursion, filter}
use Rattle.jr_path.proofs.Pieces.{name_some}
use Rattle.jr_path.specs.Grammar.{IsName, OneOrMore, is_prefix_character}
use Rattle.jr_path.specs.declared.name.Name.{Name}
use Rattle.jr_items.specs.Items.{same_name}
use Rattle.jr_items.specs.Names.{base_type}
use Rattle.jr_builtin.specs.Builtin.{builtin}
use Rattle.jr_types.specs.Rules.{type_fault}
use Rattle.jr_types.specs.declared.TypeDef.{TypeDef}
use Rattle.jr_cnd.specs.Grammar.{read_child, child_more, file_at, file_more, has_more, item_first, item_more, read_items, kept_supertypes, names_at, no_type_attributes, prefix_at, prefix_more, prefix_name_at, prefix_token, prop_at, prop_more, supertypes_at, type_at, type_attribute_first, type_attribute_more, type_attributes_at, type_more, type_name_at, type_word_first, with_type_word}
use Rattle.jr_cnd.specs.Meaning.{IsMeaning, cnd_of, first_bad, judged_file}
use Rattle.cnd_print.specs.Printable.{IsPrintable, IsPrintableChild, IsPrintablePrefix, IsPrintableProp, IsPrintableType, KeepRules}
use Rattle.jr_cnd.specs.Reading.{◌>>=◌, State, Read, after, bare_first, bare_in, name_at, place, required, sign_at, sign_first, text_at}
use Rattle.cnd_pieces.specs.Tokens.{gap_size}
use Rattle.cnd_pieces.specs.Words.{is_prefix}
use Rattle.jr_cnd.specs.declared.cnd.Cnd.{Cnd}
use Rattle.jr_cnd.specs.declared.cnd.Prefix.{Prefix}
use Rattle.cnd_pieces.specs.declared.context.Context.{Context}
use Rattle.cnd_pieces.specs.declared.context.Context.TheVariants as context
use Rattle.jr_cnd.specs.declared.fault.NoCnd.{NoCnd}
use Rattle.jr_cnd.specs.declared.fault.NoCnd.TheVariants as no
use Rattle.jr_cnd.specs.declared.file.File.{File}
use Rattle.jr_cnd.specs.declared.file.PlacedType.{PlacedType}
use Rattle.cnd_pieces.specs.declared.piece.Placed.{Placed}
use Rattle.cnd_pieces.specs.declared.piece.Says.{Says}
use Rattle.cnd_pieces.specs.declared.piece.Says.TheVariants as says
use Rattle.cnd_pieces.specs.declared.piece.Sign.TheVariants as sign
use Rattle.jr_cnd.specs.declared.types.Items.{Items}
use Rattle.jr_cnd.specs.declared.types.TypeAttributes.{TypeAttributes}
use Rattle.jr_cnd.specs.declared.words.TypeWord.{TypeWord}
use Rattle.jr_cnd.specs.declared.words.TypeWord.TheVariants as type
use Rattle.cnd_print.proofs.Kept.{all_more, done, many_kept, then_kept, token_kept}
use Rattle.cnd_print.proofs.Proper.{ProperSays, SomeProper, proper_behind, proper_pieces}
use Rattle.cnd_print.proofs.Said.{ChildRead, Left, PropRead, child_kept, if_kept, name_kept, names_kept, prop_kept, sign_left, sign_next, text_kept}

-- ---- items

abbrev ItemsRead : Items → State → Type 0
ItemsRead i s = AllByRecursion IsPrintableProp i.props × AllByRecursion IsPrintableChild i.children × Left s

second : (a b : Bool) → a ≡ false → (a || b) ≡ true → b ≡ true
second true b e h = cc
second false b e h = h

item_by : (b : Bool) (items new : Items) (s u : State) → sign_first sign.Minus s.pieces ≡ b → ItemsRead items s → item_first items s.pieces ≡ true → ◌≡◌ {A = Read Items} (if b then prop_more items s else child_more items s) (Ok (new, u)) → ItemsRead new u
item_by true items new s u is h first e =
    then_kept (prop_at (after s)) _ PropRead ItemsRead new u
    (λ p t i. prop_kept (after s) t p (sign_next sign.Minus h.2.0 s.pieces is h.2.1) i)
    (λ p t k i. done ItemsRead (record { props = items.props ++ p ∷ []; children = items.children }) new t u (all_more IsPrintableProp items.props p h.0 k.0, h.1, k.1) i) e
item_by false items new s u is h first e =
    let plus = second (sign_first sign.Minus s.pieces) (sign_first sign.Plus s.pieces) is first in
    then_kept (read_child (after s)) _ ChildRead ItemsRead new u
    (λ c t i. child_kept (after s) t c (sign_next sign.Plus h.2.0 s.pieces plus h.2.1) i)
    (λ c t k i. done ItemsRead (record { props = items.props; children = items.children ++ c ∷ [] }) new t u (h.0, all_more IsPrintableChild items.children c h.1 k.0, k.1) i) e

items_kept : (s u : State) (i : Items) → Left s → read_items s ≡ Ok (i, u) → ItemsRead i u
items_kept s u i h e =
    many_kept item_first item_more ItemsRead s.pieces (record { props = []; children = [] }) i s u
    (λ old new t v r first more. item_by (sign_first sign.Minus t.pieces) old new t v refl r first more) (tt, tt, h) e

-- ---- the name, the supertypes and the attributes of a type

abbrev Named : Name → State → Type 0
Named n s = IsName n × Left s

type_name_kept : (s u : State) (n : Name) → Left s → type_name_at s ≡ Ok (n, u) → Named n u
type_name_kept s u n h e =
    then_kept (sign_at sign.OpenSquare s) _ (λ x t. Left t) Named n u (λ x t i. sign_left sign.OpenSquare s t x h i)
    (λ x t l e1.
    then_kept (name_at t) _ Named Named n u (λ m v i. name_kept t v m l i)
    (λ m v k e2.
    then_kept (sign_at sign.CloseSquare v) _ (λ y w. Left w) Named n u (λ y w i. sign_left sign.CloseSquare v w y k.1 i)
    (λ y w j e3. done Named m n w u (k.0, j) e3) e2) e1) e

abbrev NamesRead : List Name → State → Type 0
NamesRead ns s = AllByRecursion IsName ns × Left s

supertypes_kept : (s u : State) (ns : List Name) → Left s → supertypes_at s ≡ Ok (ns, u) → NamesRead ns u
supertypes_kept s u ns h e =
    if_kept (sign_first sign.Greater s.pieces) NamesRead (names_at (after s)) [] ns s u
    (λ is i. let r = names_kept (after s) u ns (proper_behind s.pieces h) i in (r.all, r.left))
    (λ is. (tt, h)) e

abbrev AttributesRead : TypeAttributes → State → Type 0
AttributesRead a s = IfSome a.primary_item IsName × Left s

with_kept : (a new : TypeAttributes) (w : TypeWord) (s u : State) → AttributesRead a s → with_type_word a w s ≡ Ok (new, u) → AttributesRead new u
with_kept a new type.Mixin s u h e = done AttributesRead (record a { mixin = true }) new s u h e
with_kept a new type.Abstract s u h e = done AttributesRead (record a { is_abstract = true }) new s u h e
with_kept a new type.Orderable s u h e = done AttributesRead (record a { orderable = true }) new s u h e
with_kept a new type.PrimaryItem s u h e =
    then_kept (name_at s) _ Named AttributesRead new u (λ n t i. name_kept s t n h.1 i)
    (λ n t k i. done AttributesRead (record a { primary_item = Some n }) new t u k i) e

-- what an attribute makes of those that were read
abbrev type_more_of : TypeAttributes → Option TypeWord → State → Read TypeAttributes
type_more_of a o s = do
  w ← required o (place s)
  with_type_word a w (after s)

word_kept : (o : Option TypeWord) (a new : TypeAttributes) (s u : State) → AttributesRead a s → type_more_of a o s ≡ Ok (new, u) → AttributesRead new u
word_kept None a new s u h e = cc
word_kept (Some w) a new s u h e = with_kept a new w (after s) u (h.0, proper_behind s.pieces h.1) e

type_attributes_kept : (s u : State) (a : TypeAttributes) → Left s → type_attributes_at s ≡ Ok (a, u) → AttributesRead a u
type_attributes_kept s u a h e =
    many_kept type_attribute_first type_attribute_more AttributesRead s.pieces no_type_attributes a s u
    (λ old new t v r first more. word_kept (type_word_first old t.pieces) old new t v r more) (tt, h) e

-- ---- the supertypes that are kept

filtered : (b : Bool) (n : Name) (ns : List Name) → IsName n → AllByRecursion IsName ns → AllByRecursion IsName (if b then n ∷ ns else ns)
filtered true n ns h k = (h, k)
filtered false n ns h k = k

names_filtered : (test : Name → Bool) (ns : List Name) → AllByRecursion IsName ns → AllByRecursion IsName (filter test ns)
names_filtered test [] h = tt
names_filtered test (n ∷ ns) h = filtered (test n) n (filter test ns) h.0 (names_filtered test ns h.1)

others_by : (b : Bool) (n : Name) (ns : List Name) → same_name n base_type ≡ b → AllByRecursion (λ m. same_name m base_type ≡ false) ns → AllByRecursion (λ m. same_name m base_type ≡ false) (if not b then n ∷ ns else ns)
others_by true n ns e h = h
others_by false n ns e h = (e, h)

others : (ns : List Name) → AllByRecursion (λ m. same_name m base_type ≡ false) (filter (λ m. not (same_name m base_type)) ns)
others [] = tt
others (n ∷ ns) = others_by (same_name n base_type) n (filter (λ m. not (same_name m base_type)) ns) refl (others ns)

kept_names : (mixin : Bool) (ns : List Name) → AllByRecursion IsName ns → AllByRecursion IsName (kept_supertypes mixin ns)
kept_names true ns h = h
kept_names false ns h = names_filtered (λ m. not (same_name m base_type)) ns h

kept_others : (mixin : Bool) (ns : List Name) → mixin ≡ false → AllByRecursion (λ m. same_name m base_type ≡ false) (kept_supertypes mixin ns)
kept_others true ns e = cc
kept_others false ns e = others ns

-- ---- a type

abbrev TypeRead : TypeDef → State → Type 0
TypeRead d s = IsPrintableType d × Left s

type_kept : (s w : State) (d : TypeDef) → Left s → type_at s ≡ Ok (d, w) → TypeRead d w
type_kept s w d h e =
    then_kept (type_name_at s) _ Named TypeRead d w (λ n s1 i. type_name_kept s s1 n h i)
    (λ n s1 named e1.
    then_kept (supertypes_at s1) _ NamesRead TypeRead d w (λ ns s2 i. supertypes_kept s1 s2 ns named.1 i)
    (λ ns s2 above e2.
    then_kept (type_attributes_at s2) _ AttributesRead TypeRead d w (λ a s3 i. type_attributes_kept s2 s3 a above.1 i)
    (λ a s3 attributes e3.
    then_kept (read_items s3) _ ItemsRead TypeRead d w (λ i s4 j. items_kept s3 s4 i attributes.1 j)
    (λ i s4 items e4.
    done TypeRead _ d s4 w (record { name = named.0; supertypes = kept_names a.mixin ns above.0; no_base = λ is. kept_others a.mixin ns is; primary_item = attributes.0; props = items.0; children = items.1 }, items.2) e4) e3) e2) e1) e

-- ---- a prefix

prefix_by : (b : Bool) (n t : List ℕ) → is_prefix n ≡ b → n ≢ [] → (if b then Some n else None) ≡ Some t → OneOrMore is_prefix_character t
prefix_by true n t is some e = let same : n ≡ t = cc in subst (OneOrMore is_prefix_character) same (some, is)
prefix_by false n t is some e = cc

prefix_said : (u : Says) (c : Context) (t : List ℕ) → ProperSays c u → prefix_token (bare_in u) ≡ Some t → OneOrMore is_prefix_character t
prefix_said (says.Name n) c t h e = prefix_by (is_prefix n) n t refl (name_some n h) e
prefix_said (says.Bare n) c t h e = prefix_by (is_prefix n) n t refl h e
prefix_said u c t h e = cc

prefix_proper : (ps : List Placed) (t : List ℕ) → SomeProper ps → prefix_token (bare_first ps) ≡ Some t → OneOrMore is_prefix_character t
prefix_proper [] t h e = cc
prefix_proper (p ∷ ps) t h e = prefix_said p.says h.0 t h.1.0 e

abbrev PrefixNamed : List ℕ → State → Type 0
PrefixNamed t s = OneOrMore is_prefix_character t × Left s

abbrev TextRead : List ℕ → State → Type 0
TextRead t s = IsUtf8 t × Left s

abbrev PrefixRead : Prefix → State → Type 0
PrefixRead p s = IsPrintablePrefix p × Left s

prefix_name_kept : (s u : State) (t : List ℕ) → Left s → prefix_name_at s ≡ Ok (t, u) → PrefixNamed t u
prefix_name_kept s u t h e = token_kept (prefix_token (bare_first s.pieces)) PrefixNamed s u t (λ y k. (prefix_proper s.pieces y h k, proper_behind s.pieces h)) e

prefix_kept : (s w : State) (p : Prefix) → Left s → prefix_at s ≡ Ok (p, w) → PrefixRead p w
prefix_kept s w p h e =
    then_kept (prefix_name_at s) _ PrefixNamed PrefixRead p w (λ t s1 i. prefix_name_kept s s1 t h i)
    (λ t s1 named e1.
    then_kept (sign_at sign.Equal s1) _ (λ x v. Left v) PrefixRead p w (λ x s2 i. sign_left sign.Equal s1 s2 x named.1 i)
    (λ x s2 l e2.
    then_kept (text_at s2) _ TextRead PrefixRead p w (λ u s3 i. text_kept s2 s3 u l i)
    (λ u s3 text e3.
    then_kept (sign_at sign.Greater s3) _ (λ y v. Left v) PrefixRead p w (λ y s4 i. sign_left sign.Greater s3 s4 y text.1 i)
    (λ y s4 m e4. done PrefixRead (record { prefix = t; uri = u }) p s4 w (record { prefix = named.0; uri = text.0 }, m) e4) e3) e2) e1) e

-- ---- the whole text

abbrev FileRead : File → State → Type 0
FileRead f s = AllByRecursion IsPrintablePrefix f.prefixes × AllByRecursion (λ d. IsPrintableType d.definition) f.types × Left s

file_by : (b : Bool) (f new : File) (s u : State) → FileRead f s → ◌≡◌ {A = Read File} (if b then prefix_more f s else type_more f s) (Ok (new, u)) → FileRead new u
file_by true f new s u h e =
    then_kept (prefix_at (after s)) _ PrefixRead FileRead new u (λ p t i. prefix_kept (after s) t p (proper_behind s.pieces h.2) i)
    (λ p t k i. done FileRead (record { prefixes = f.prefixes ++ p ∷ []; types = f.types }) new t u (all_more IsPrintablePrefix f.prefixes p h.0 k.0, h.1, k.1) i) e
file_by false f new s u h e =
    then_kept (type_at s) _ TypeRead FileRead new u (λ d t i. type_kept s t d h.2 i)
    (λ d t k i. done FileRead (record { prefixes = f.prefixes; types = f.types ++ record { start = place s; definition = d } ∷ [] }) new t u (h.0, all_more (λ (x : PlacedType). IsPrintableType x.definition) f.types (record { start = place s; definition = d }) h.1 k.0, k.1) i) e

file_kept : (s u : State) (f : File) → Left s → file_at s ≡ Ok (f, u) → FileRead f u
file_kept s u f h e =
    many_kept has_more file_more FileRead s.pieces (record { prefixes = []; types = [] }) f s u
    (λ old new t v r first more. file_by (sign_first sign.Less t.pieces) old new t v r more) (tt, tt, h) e

types_printable : (ds : List PlacedType) → AllByRecursion (λ d. IsPrintableType d.definition) ds → AllByRecursion IsPrintableType (map (λ d. d.definition) ds)
types_printable [] h = tt
types_printable (d ∷ ds) h = (h.0, types_printable ds h.1)

rules_by : (o : Option ℕ) (start : ℕ) (rest : Option ℕ) → (if is_some o then Some start else rest) ≡ None → (o ≡ None) × (rest ≡ None)
rules_by None start rest e = (refl, e)
rules_by (Some n) start rest e = cc

rules_kept : (types : List TypeDef) (ds : List PlacedType) → first_bad types ds ≡ None → KeepRules types (map (λ d. d.definition) ds)
rules_kept types [] e = tt
rules_kept types (d ∷ ds) e =
    let r = rules_by (type_fault types d.definition) d.start (first_bad (types ++ d.definition ∷ []) ds) e in
    (r.0, rules_kept (types ++ d.definition ∷ []) ds r.1)

judged_by : (o : Option ℕ) (f : File) (c : Cnd) → ◌≡◌ {A = Result Cnd NoCnd} (elim o [ None ↦ Ok (cnd_of f) | Some start ↦ Err (no.BadDef start) ]) (Ok c) → (o ≡ None) × (cnd_of f ≡ c)
judged_by None f c e = (refl, cc)
judged_by (Some start) f c e = cc

-- a file was read, and its definitions keep the rules
record FileMeant (r : Read File) (c : Cnd) : Type 0 where
  pub file : File
  pub state : State
  pub read : r ≡ Ok (file, state)
  pub meant : judged_file file ≡ Ok c

meant_by : (r : Read File) (c : Cnd) → ◌≡◌ {A = Result Cnd NoCnd} (elim r [ Ok x ↦ judged_file x.0 | Err offset ↦ Err (no.Syntax offset) ]) (Ok c) → FileMeant r c
meant_by (Ok x) c e = record { file = x.0; state = x.1; read = refl; meant = e }
meant_by (Err offset) c e = cc

pub said_printable : (text : List ℕ) (c : Cnd) → IsMeaning text (Ok c) → IsPrintable c
said_printable text c h =
    let start : State = record { pieces = h.0; stop = length text } in
    let m = meant_by (file_at start) c h.2 in
    let f = file_kept start m.state m.file (context.Elsewhere, proper_pieces h.0 context.Elsewhere (gap_size text) (drop (gap_size text) text) h.1) m.read in
    let j = judged_by (first_bad builtin m.file.types) m.file c m.meant in
    let all : IsPrintable (cnd_of m.file) = record { prefixes = f.0; definitions = types_printable m.file.types f.1; rules = rules_kept builtin m.file.types j.0 } in
    subst IsPrintable j.1 all
