-- A text is one value of a kind, and one that is refused as a name or as a path is none.
use Rattle.std.proofs.Common.{◌≡◌, ◌≢◌, ◌+◌, ℕ, List, length, drop, inl, inr, Ok, Option, None, Some, refl, sym, ap, ◌∙◌, arith, subst}
use Rattle.std.specs.Prelude.{unwrap_or}
use Rattle.std.proofs.lemmas.Bool.{cases_lt}
use Rattle.std.proofs.lemmas.List.{take-append-drop}
use Rattle.base64.specs.Engines.{standard}
use Rattle.base64.specs.GeneralPurpose.{encode_of, decode_of, IsBytes}
use Rattle.base64.proofs.EngineFacts.{decode_of-encode_of}
use Rattle.jr_path.specs.declared.fault.PathFault.{PathFault}
use Rattle.jr_path.specs.declared.fault.PathFault.TheVariants.{BadName, BadPath, TooDeep, TooLong, Memory}
use Rattle.jr_path.specs.Grammar.{IsFirstFault, IsName, RefusesName}
use Rattle.jr_path.specs.Paths.{IsPath, IsPathText, RefusesPath}
use Rattle.jr_path.proofs.Pieces.{one_path, names_from_all}
use Rattle.jr_value.specs.declared.value.Kind.{Kind}
use Rattle.jr_value.specs.declared.value.Kind.TheVariants as kind
use Rattle.jr_value.specs.declared.value.Value.{Value}
use Rattle.jr_value.specs.declared.value.Value.TheVariants as value
use Rattle.jr_value.specs.Texts.{IsFound, IsPathWithin, IsText}

-- a text with a first fault is not in the grammar
pub fault_refuses : (Grammar : List ℕ → Type 0) (text : List ℕ) (offset : ℕ) → IsFirstFault Grammar text offset → Grammar text → ⊥
fault_refuses Grammar text offset fault is =
    elim (cases_lt offset (length text)) [
      | inl inside ↦ fault.there inside (drop (offset + 1) text, subst Grammar (sym (take-append-drop (offset + 1) text)) is)
      | inr past ↦ let within = fault.within in fault.at_end (omega arith) is
    ]

no_name : (text : List ℕ) (e : PathFault) → RefusesName text e → e ≢ Memory → IsName text → ⊥
no_name text (BadName offset) h other is = fault_refuses IsName text offset h is
no_name text Memory h other is = other refl
no_name text e h other is = h

pub name_refused : (text : List ℕ) (e : PathFault) (o : Option Value) → RefusesName text e → (o ≡ None) × (e ≢ Memory) → IsFound (IsText kind.Name text) o
name_refused text e o refused h = rw h.0 (λ x g. no_name text e refused h.1 g.0)

-- a text is that of one path
pub path_one : (text : List ℕ) (p q : List (List ℕ)) → IsPath text p → IsPath text q → p ≡ q
path_one text p q h g = one_path p q (names_from_all p h.are_names) (names_from_all q g.are_names) (sym h.spelled ∙ g.spelled)

no_path : (text : List ℕ) (e : PathFault) (path : List (List ℕ)) → RefusesPath text e → e ≢ Memory → IsPathWithin text path → ⊥
no_path text (BadPath offset) path h other is = fault_refuses IsPathText text offset h (path, is.0)
no_path text (TooDeep depth) path h other is =
    let same : length h.0.0 ≡ length path = ap (λ (p : List (List ℕ)). length p) (path_one text h.0.0 path h.0.1 is.0) in
    let most = is.1 in
    let depth_is = h.0.2 in
    let over = h.1 in
    absurd (omega arith)
no_path text (TooLong bytes) path h other is =
    let bytes_are = h.1 in
    let over = h.2 in
    let most = is.2 in
    absurd (omega arith)
no_path text Memory path h other is = other refl
no_path text (BadName offset) path h other is = h

pub path_refused : (text : List ℕ) (e : PathFault) (o : Option Value) → RefusesPath text e → (o ≡ None) × (e ≢ Memory) → IsFound (IsText kind.Path text) o
path_refused text e o refused h = rw h.0 (λ x g. no_path text e g.0 refused h.1 g.1)

pub both_some : {X : Type 0} (x y : X) (o : Option X) → Some x ≡ o → Some y ≡ o → x ≡ y
both_some x y o h g = ap (λ (p : Option _). unwrap_or p x) (h ∙ sym g)

-- bytes are known by their text
bytes_one : (a b : List ℕ) → IsBytes a → IsBytes b → encode_of standard a ≡ encode_of standard b → a ≡ b
bytes_one a b ha hb same =
    let read : Ok a ≡ Ok b = sym (decode_of-encode_of standard a refl ha) ∙ ap (decode_of standard) same ∙ decode_of-encode_of standard b refl hb in cc

-- a text is at most one value of a kind
pub text_one : (k : Kind) (t : List ℕ) (x y : Value) → IsText k t x → IsText k t y → x ≡ y
text_one kind.Str t x y h g = h ∙ sym g
text_one kind.Long t x y h g = h.2 ∙ ap value.Long (h.1.is ∙ sym g.1.is) ∙ sym g.2
text_one kind.Date t x y h g = h.2 ∙ ap value.Date (h.1.is ∙ sym g.1.is) ∙ sym g.2
text_one kind.Boolean t x y h g = both_some x y _ h g
text_one kind.Binary t x y h g = h.3 ∙ ap value.Binary (bytes_one h.0 g.0 h.1 g.1 (sym h.2 ∙ g.2)) ∙ sym g.3
text_one kind.Name t x y h g = h.1 ∙ sym g.1
text_one kind.Path t x y h g = h.2 ∙ ap value.Path (path_one t h.0 g.0 h.1.0 g.1.0) ∙ sym g.2
text_one kind.Reference t x y h g = both_some x y _ h g
text_one kind.WeakReference t x y h g = both_some x y _ h g
text_one kind.Uri t x y h g = h ∙ sym g

-- where at most one value is such, the one that is found is the same
pub found_one : (P : Value → Type 0) → ((x y : Value) → P x → P y → x ≡ y) → (o p : Option Value) → IsFound P o → IsFound P p → o ≡ p
found_one P one None None h g = refl
found_one P one None (Some y) h g = absurd (h y g)
found_one P one (Some x) None h g = absurd (g x h)
found_one P one (Some x) (Some y) h g = ap Some (one x y h g)
