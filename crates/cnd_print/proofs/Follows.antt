-- What stands behind the parts of a line: no comma, `=` or `>`, and at its end a further line, or nothing.
use Rattle.std.proofs.Common.{◌≡◌, ◌∙◌, ℕ, ◌⊎◌, inl, inr, Bool, true, false, List, [], ◌∷◌, ◌++◌, Option, None, Some, ap, append_assoc, arith, refl, subst, sym}
use Rattle.std.specs.Prelude.{codes, is_some, map}
use Rattle.jr_path.proofs.OwnNames.{plain_name}
use Rattle.jr_path.specs.Grammar.{IsName}
use Rattle.jr_path.specs.declared.name.Name.{Name}
use Rattle.jr_types.specs.declared.OnParentVersion.{OnParentVersion}
use Rattle.jr_types.specs.declared.OnParentVersion.TheVariants as opv
use Rattle.jr_cnd.specs.Grammar.{addable, item_attribute_first, item_word_in, where_lacking, type_attribute_first, type_word_in}
use Rattle.cnd_pieces.specs.Pieces.{ArePieces}
use Rattle.cnd_print.specs.Printing.{is_bare_name, list_behind, with_commas, name_behind, name_text, opv_part, quoted, word_if}
use Rattle.jr_cnd.specs.Reading.{is_sign, sign_first}
use Rattle.cnd_pieces.specs.Tokens.{first_token, goes_on_bare}
use Rattle.jr_cnd.specs.declared.attributes.ItemAttributes.{ItemAttributes}
use Rattle.cnd_pieces.specs.declared.context.Context.{Context}
use Rattle.cnd_pieces.specs.declared.piece.Placed.{Placed}
use Rattle.cnd_pieces.specs.declared.piece.Says.{Says}
use Rattle.cnd_pieces.specs.declared.piece.Says.TheVariants as says
use Rattle.cnd_pieces.specs.declared.piece.Sign.{Sign}
use Rattle.cnd_pieces.specs.declared.piece.Sign.TheVariants as sign
use Rattle.cnd_pieces.specs.declared.piece.TokenKind.TheVariants as token
use Rattle.jr_cnd.specs.declared.types.TypeAttributes.{TypeAttributes}
use Rattle.cnd_print.proofs.ReadAttributes.{attributes_then, bare_if, bare_opv, bare_primary, behind_protected, type_attributes_then}
use Rattle.cnd_print.proofs.Steps.{Ready, bare_name_starts, sign_step, spaced, word_step}

-- ---- the end of a line

-- the bytes are none, or begin with `-`, `+` or `[`
abbrev pub BeginsLine : List ℕ → Type 0
BeginsLine bs = (bs ≡ []) ⊎ (((more : List ℕ) × (bs ≡ 45 ∷ more)) ⊎ (((more : List ℕ) × (bs ≡ 43 ∷ more)) ⊎ ((more : List ℕ) × (bs ≡ 91 ∷ more))))

-- the token begins a line
abbrev pub IsLineSign : Says → Type 0
IsLineSign u = (u ≡ says.Sign sign.Minus) ⊎ ((u ≡ says.Sign sign.Plus) ⊎ (u ≡ says.Sign sign.OpenSquare))

-- a line begins, or nothing is left
abbrev pub AtLine : List Placed → Type 0
AtLine [] = Unit {0}
AtLine (p ∷ ps) = IsLineSign p.says

pub at_end : (c : Context) (at : ℕ) (ps : List Placed) → ArePieces c at [] ps → ps ≡ []
at_end c at [] h = refl
at_end c at (p ∷ ps) h = absurd (h.1.2 refl)

pub nothing : (ps : List Placed) → Ready (10 ∷ []) ps → ps ≡ []
nothing ps h = at_end h.context h.behind.0 ps h.behind.1

pub minus_token : (x : Bool) (bs : List ℕ) → x ≡ false → first_token x (45 ∷ bs) ≡ Some (token.Sign sign.Minus, 1)
minus_token true bs h = cc
minus_token false bs h = refl

at_minus : (bs : List ℕ) (ps : List Placed) → Ready (10 ∷ 45 ∷ bs) ps → AtLine ps
at_minus bs ps h =
    let r = sign_step h.context 45 sign.Minus (10 ∷ 45 ∷ bs) bs ps (minus_token _ bs h.calm) (omega arith) refl h.behind in
    subst AtLine (sym r.is) (inl r.said)

at_plus : (bs : List ℕ) (ps : List Placed) → Ready (10 ∷ 43 ∷ bs) ps → AtLine ps
at_plus bs ps h =
    let r = sign_step h.context 43 sign.Plus (10 ∷ 43 ∷ bs) bs ps refl (omega arith) refl h.behind in
    subst AtLine (sym r.is) (inr (inl r.said))

at_square : (bs : List ℕ) (ps : List Placed) → Ready (10 ∷ 91 ∷ bs) ps → AtLine ps
at_square bs ps h =
    let r = sign_step h.context 91 sign.OpenSquare (10 ∷ 91 ∷ bs) bs ps refl (omega arith) refl h.behind in
    subst AtLine (sym r.is) (inr (inr r.said))

pub at_line : (bs : List ℕ) (ps : List Placed) → BeginsLine bs → Ready (10 ∷ bs) ps → AtLine ps
at_line bs ps (inl e) h = subst AtLine (sym (nothing ps (subst (λ (b : List ℕ). Ready (10 ∷ b) ps) e h))) tt
at_line bs ps (inr (inl (more, e))) h = at_minus more ps (subst (λ (b : List ℕ). Ready (10 ∷ b) ps) e h)
at_line bs ps (inr (inr (inl (more, e)))) h = at_plus more ps (subst (λ (b : List ℕ). Ready (10 ∷ b) ps) e h)
at_line bs ps (inr (inr (inr (more, e)))) h = at_square more ps (subst (λ (b : List ℕ). Ready (10 ∷ b) ps) e h)

pub line_no_sign : (w : Sign) (ps : List Placed) → is_sign w (says.Sign sign.Minus) ≡ false → is_sign w (says.Sign sign.Plus) ≡ false → is_sign w (says.Sign sign.OpenSquare) ≡ false → AtLine ps → sign_first w ps ≡ false
line_no_sign w [] a b c h = refl
line_no_sign w (p ∷ ps) a b c (inl e) = ap (is_sign w) e ∙ a
line_no_sign w (p ∷ ps) a b c (inr (inl e)) = ap (is_sign w) e ∙ b
line_no_sign w (p ∷ ps) a b c (inr (inr e)) = ap (is_sign w) e ∙ c

pub line_no_attribute : (of_property : Bool) (a : ItemAttributes) (ps : List Placed) → AtLine ps → item_attribute_first of_property a ps ≡ false
line_no_attribute of_property a [] h = refl
line_no_attribute of_property a (p ∷ ps) (inl e) = ap (λ u. is_some (addable of_property a (item_word_in u))) e
line_no_attribute of_property a (p ∷ ps) (inr (inl e)) = ap (λ u. is_some (addable of_property a (item_word_in u))) e
line_no_attribute of_property a (p ∷ ps) (inr (inr e)) = ap (λ u. is_some (addable of_property a (item_word_in u))) e

pub line_no_type_attribute : (a : TypeAttributes) (ps : List Placed) → AtLine ps → type_attribute_first a ps ≡ false
line_no_type_attribute a [] h = refl
line_no_type_attribute a (p ∷ ps) (inl e) = ap (λ u. is_some (where_lacking a (type_word_in u))) e
line_no_type_attribute a (p ∷ ps) (inr (inl e)) = ap (λ u. is_some (where_lacking a (type_word_in u))) e
line_no_type_attribute a (p ∷ ps) (inr (inr e)) = ap (λ u. is_some (where_lacking a (type_word_in u))) e

-- ---- within a line

-- a list, a default and supertypes don't go on
pub record Parted (ps : List Placed) : Type 0 where
  pub no_comma : sign_first sign.Comma ps ≡ false
  pub no_equal : sign_first sign.Equal ps ≡ false
  pub no_greater : sign_first sign.Greater ps ≡ false

pub line_parted : (ps : List Placed) → AtLine ps → Parted ps
line_parted ps h = record { no_comma = line_no_sign sign.Comma ps refl refl refl h; no_equal = line_no_sign sign.Equal ps refl refl refl h; no_greater = line_no_sign sign.Greater ps refl refl refl h }

parted_by : (u : Says) (p : Placed) (ps : List Placed) → is_sign sign.Comma u ≡ false → is_sign sign.Equal u ≡ false → is_sign sign.Greater u ≡ false → p.says ≡ u → Parted (p ∷ ps)
parted_by u p ps a b c e = record { no_comma = ap (is_sign sign.Comma) e ∙ a; no_equal = ap (is_sign sign.Equal) e ∙ b; no_greater = ap (is_sign sign.Greater) e ∙ c }

word_parted : (w bs : List ℕ) (ps : List Placed) → IsName w → is_bare_name w ≡ true → goes_on_bare bs ≡ false → Ready (32 ∷ (w ++ bs)) ps → Parted ps
word_parted w bs ps name bare stop h =
    let r = word_step h.context w (32 ∷ (w ++ bs)) bs ps name bare stop (spaced (w ++ bs) (bare_name_starts w bs bare)) h.behind in
    subst Parted (sym r.is) (parted_by (says.Name w) r.first r.more refl refl refl r.said)

if_parted : (b : Bool) (w bs : List ℕ) (ps : List Placed) → IsName w → is_bare_name w ≡ true → goes_on_bare bs ≡ false → ((qs : List Placed) → Ready bs qs → Parted qs) → Ready (word_if b (32 ∷ w) ++ bs) ps → Parted ps
if_parted true w bs ps name bare stop f h = word_parted w bs ps name bare stop h
if_parted false w bs ps name bare stop f h = f ps h

opv_parted : (o : OnParentVersion) (bs : List ℕ) (ps : List Placed) → goes_on_bare bs ≡ false → ((qs : List Placed) → Ready bs qs → Parted qs) → Ready (opv_part o ++ bs) ps → Parted ps
opv_parted opv.Copy bs ps stop f h = f ps h
opv_parted opv.Version bs ps stop f h = word_parted (codes "VERSION") bs ps (plain_name (codes "VERSION") refl) refl stop h
opv_parted opv.Initialize bs ps stop f h = word_parted (codes "INITIALIZE") bs ps (plain_name (codes "INITIALIZE") refl) refl stop h
opv_parted opv.Compute bs ps stop f h = word_parted (codes "COMPUTE") bs ps (plain_name (codes "COMPUTE") refl) refl stop h
opv_parted opv.Ignore bs ps stop f h = word_parted (codes "IGNORE") bs ps (plain_name (codes "IGNORE") refl) refl stop h
opv_parted opv.Abort bs ps stop f h = word_parted (codes "ABORT") bs ps (plain_name (codes "ABORT") refl) refl stop h

pub attributes_parted : (m a p x : Bool) (o : OnParentVersion) (bs : List ℕ) (ps : List Placed) → goes_on_bare bs ≡ false → ((qs : List Placed) → Ready bs qs → Parted qs) → Ready (attributes_then m a p x o bs) ps → Parted ps
attributes_parted m a p x o bs ps stop f h =
    let bare_last : goes_on_bare (opv_part o ++ bs) ≡ false = bare_opv o bs stop in
    let bare_x : goes_on_bare (behind_protected x o bs) ≡ false = bare_if x (codes "multiple") (opv_part o ++ bs) bare_last in
    let bare_p : goes_on_bare (word_if p (codes " protected") ++ behind_protected x o bs) ≡ false = bare_if p (codes "protected") (behind_protected x o bs) bare_x in
    let bare_a : goes_on_bare (word_if a (codes " autocreated") ++ (word_if p (codes " protected") ++ behind_protected x o bs)) ≡ false = bare_if a (codes "autocreated") (word_if p (codes " protected") ++ behind_protected x o bs) bare_p in
    if_parted m (codes "mandatory") _ ps (plain_name (codes "mandatory") refl) refl bare_a
    (λ q i. if_parted a (codes "autocreated") _ q (plain_name (codes "autocreated") refl) refl bare_p
    (λ r j. if_parted p (codes "protected") _ r (plain_name (codes "protected") refl) refl bare_x
    (λ s k. if_parted x (codes "multiple") _ s (plain_name (codes "multiple") refl) refl bare_last
    (λ t l. opv_parted o bs t stop f l) k) j) i) h

primary_parted : (n : Option Name) (bs : List ℕ) (ps : List Placed) → ((qs : List Placed) → Ready bs qs → Parted qs) → Ready (name_behind (codes " primaryitem ") n ++ bs) ps → Parted ps
primary_parted None bs ps f h = f ps h
primary_parted (Some n) bs ps f h =
    word_parted (codes "primaryitem") (32 ∷ (name_text n ++ bs)) ps (plain_name (codes "primaryitem") refl) refl refl (subst (λ (t : List ℕ). Ready t ps) (append_assoc (codes " primaryitem ") (name_text n) bs) h)

pub type_attributes_parted : (m a o : Bool) (n : Option Name) (bs : List ℕ) (ps : List Placed) → goes_on_bare bs ≡ false → ((qs : List Placed) → Ready bs qs → Parted qs) → Ready (type_attributes_then m a o n bs) ps → Parted ps
type_attributes_parted m a o n bs ps stop f h =
    let bare_n : goes_on_bare (name_behind (codes " primaryitem ") n ++ bs) ≡ false = bare_primary n bs stop in
    let bare_o : goes_on_bare (word_if o (codes " orderable") ++ (name_behind (codes " primaryitem ") n ++ bs)) ≡ false = bare_if o (codes "orderable") (name_behind (codes " primaryitem ") n ++ bs) bare_n in
    let bare_a : goes_on_bare (word_if a (codes " abstract") ++ (word_if o (codes " orderable") ++ (name_behind (codes " primaryitem ") n ++ bs))) ≡ false = bare_if a (codes "abstract") _ bare_o in
    if_parted m (codes "mixin") _ ps (plain_name (codes "mixin") refl) refl bare_a
    (λ q i. if_parted a (codes "abstract") _ q (plain_name (codes "abstract") refl) refl bare_o
    (λ r j. if_parted o (codes "orderable") _ r (plain_name (codes "orderable") refl) refl bare_n
    (λ s k. primary_parted n bs s f k) j) i) h

-- ---- constraints

-- what follows the attributes of a property: its constraints, and the end of its line
abbrev pub constraints_then : List (List ℕ) → List ℕ → List ℕ
constraints_then ts bs = list_behind (codes " < ") (map quoted ts) ++ 10 ∷ bs

-- constraints begin, or the line ends
abbrev pub AtConstraints : List Placed → Type 0
AtConstraints [] = Unit {0}
AtConstraints (p ∷ ps) = (p.says ≡ says.Sign sign.Less) ⊎ IsLineSign p.says

line_is : (ps : List Placed) → AtLine ps → AtConstraints ps
line_is [] h = tt
line_is (p ∷ ps) h = inr h

pub at_constraints : (ts : List (List ℕ)) (bs : List ℕ) (ps : List Placed) → BeginsLine bs → Ready (constraints_then ts bs) ps → AtConstraints ps
at_constraints [] bs ps line h = line_is ps (at_line bs ps line h)
at_constraints (t ∷ ts) bs ps line h =
    let r = sign_step h.context 60 sign.Less (32 ∷ 60 ∷ 32 ∷ (with_commas (map quoted (t ∷ ts)) ++ (10 ∷ bs))) (32 ∷ (with_commas (map quoted (t ∷ ts)) ++ (10 ∷ bs))) ps refl (omega arith) refl h.behind in
    subst AtConstraints (sym r.is) (inl r.said)

pub constraints_parted : (ps : List Placed) → AtConstraints ps → Parted ps
constraints_parted [] h = line_parted [] tt
constraints_parted (p ∷ ps) (inl e) = parted_by (says.Sign sign.Less) p ps refl refl refl e
constraints_parted (p ∷ ps) (inr h) = line_parted (p ∷ ps) h

pub constraints_no_attribute : (of_property : Bool) (a : ItemAttributes) (ps : List Placed) → AtConstraints ps → item_attribute_first of_property a ps ≡ false
constraints_no_attribute of_property a [] h = refl
constraints_no_attribute of_property a (p ∷ ps) (inl e) = ap (λ u. is_some (addable of_property a (item_word_in u))) e
constraints_no_attribute of_property a (p ∷ ps) (inr h) = line_no_attribute of_property a (p ∷ ps) h

pub bare_constraints : (ts : List (List ℕ)) (bs : List ℕ) → goes_on_bare (constraints_then ts bs) ≡ false
bare_constraints [] bs = refl
bare_constraints (t ∷ ts) bs = refl
