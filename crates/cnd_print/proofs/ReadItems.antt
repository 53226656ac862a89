-- The lines of properties and of children are read back.
use Rattle.std.proofs.Common.{◌≡◌, ◌≢◌, ◌∙◌, ℕ, ◌+◌, ◌≤◌, true, false, List, [], ◌∷◌, ◌++◌, Option, None, Some, Ok, ap, append_assoc, arith, length, refl, subst, sym}
use Rattle.std.specs.Prelude.{IfSome, IsUtf8, codes, map}
use Rattle.std.specs.List.{AllByRecursion}
use Rattle.jr_path.proofs.OwnNames.{plain_name}
use Rattle.jr_path.specs.Grammar.{IsName}
use Rattle.jr_path.specs.declared.name.Name.{Name}
use Rattle.jr_value.specs.declared.value.Kind.{Kind}
use Rattle.jr_value.specs.declared.value.Kind.TheVariants as kind
use Rattle.jr_value.specs.declared.value.Value.{Value}
use Rattle.jr_types.specs.declared.ChildDef.{ChildDef}
use Rattle.jr_types.specs.declared.OnParentVersion.{OnParentVersion}
use Rattle.jr_types.specs.declared.PropDef.{PropDef}
use Rattle.jr_cnd.specs.Grammar.{read_child, comma_first, constraints_at, default_type_at, defaults_at, item_attributes_at, item_name_at, kind_at, kind_in, opv_of, prop_at, read_types, types_inside}
use Rattle.cnd_pieces.specs.Pieces.{after_close, after_equal, after_star, default_kind, is_behind_less, named_in}
use Rattle.cnd_print.specs.Printable.{IsPrintableChild, IsPrintableProp, IsPrintableValue}
use Rattle.cnd_print.specs.Printing.{child_attributes, child_head, child_text, continued, default_texts, is_bare_name, item_name_text, kind_word, list_behind, with_commas, name_behind, name_text, opv_part, prop_attributes, prop_head, prop_text, quoted, word_if}
use Rattle.jr_cnd.specs.Reading.{State, bare_in, is_sign, name_at, cnd_name_in, sign_first}
use Rattle.cnd_pieces.specs.Tokens.{goes_on_bare}
use Rattle.cnd_pieces.specs.Words.{cnd_kind_named}
use Rattle.jr_cnd.specs.declared.attributes.ItemAttributes.{ItemAttributes}
use Rattle.cnd_pieces.specs.declared.context.Context.{Context}
use Rattle.cnd_pieces.specs.declared.context.Context.TheVariants as context
use Rattle.cnd_pieces.specs.declared.piece.Placed.{Placed}
use Rattle.cnd_pieces.specs.declared.piece.Says.TheVariants as says
use Rattle.cnd_pieces.specs.declared.piece.Sign.TheVariants as sign
use Rattle.cnd_print.proofs.Follows.{BeginsLine, Parted, at_constraints, at_line, attributes_parted, bare_constraints, constraints_no_attribute, constraints_parted, constraints_then, line_no_attribute, line_no_sign, line_parted}
use Rattle.cnd_print.proofs.Listed.{name_read, names, texts, values}
use Rattle.cnd_print.proofs.ReadAttributes.{attributes, attributes_then, bare_attributes, item_attributes_read, opv_back, written_opv}
use Rattle.cnd_print.proofs.ReadLists.{IsRead, list_of, listed_read}
use Rattle.cnd_print.proofs.Steps.{Behind, Ready, bare_name_starts, left_of, name_starts, name_step, sign_step, spaced, starts, text_step, unspaced, word_step}

-- ---- texts behind one another

pub three : (a b c rest : List ℕ) → ((a ++ b) ++ c) ++ rest ≡ a ++ (b ++ (c ++ rest))
three a b c rest = simp append_assoc

pub four : (a b c d rest : List ℕ) → (((a ++ b) ++ c) ++ d) ++ rest ≡ a ++ (b ++ (c ++ (d ++ rest)))
four a b c d rest = simp append_assoc

pub five : (a b c d e rest : List ℕ) → ((((a ++ b) ++ c) ++ d) ++ e) ++ rest ≡ a ++ (b ++ (c ++ (d ++ (e ++ rest))))
five a b c d e rest = simp append_assoc

-- ---- the name of an item

calm_star : (c : Context) → is_behind_less (after_star c) ≡ false
calm_star context.Opened = refl
calm_star c = refl

star_got : (p : Placed) (rest : List Placed) (stop : ℕ) → p.says ≡ says.Sign sign.Star → item_name_at (left_of (p ∷ rest) stop) ≡ Ok (None, left_of rest stop)
star_got p rest stop e = rw e refl

item_name_got : (n : Name) (p : Placed) (rest : List Placed) (stop : ℕ) → is_sign sign.Star p.says ≡ false → cnd_name_in p.says ≡ Some n → item_name_at (left_of (p ∷ rest) stop) ≡ Ok (Some n, left_of rest stop)
item_name_got n p rest stop no_star is = rw (no_star, is) refl

item_name_read : (o : Option Name) (bs : List ℕ) (ps : List Placed) → IfSome o IsName → goes_on_bare bs ≡ false → Ready (32 ∷ (item_name_text o ++ bs)) ps → IsRead item_name_at o 1 ps (Ready bs)
item_name_read None bs ps name bare h =
    let r = sign_step h.context 42 sign.Star (32 ∷ 42 ∷ bs) bs ps refl (omega arith) refl h.behind in
    let size : length ps ≡ length (r.first ∷ r.more) = ap length r.is in
    record {
      more = r.more;
      reads = λ stop. ap (λ (q : List Placed). item_name_at (left_of q stop)) r.is ∙ star_got r.first r.more stop r.said;
      fewer = omega arith;
      left = record { context = _; calm = calm_star h.context; behind = r.left };
    }
item_name_read (Some n) bs ps name bare h =
    let r = name_step h.context n (32 ∷ (name_text n ++ bs)) bs ps name bare (spaced (name_text n ++ bs) (name_starts n bs name)) h.behind in
    let size : length ps ≡ length (r.first ∷ r.more) = ap length r.is in
    record {
      more = r.more;
      reads = λ stop. ap (λ (q : List Placed). item_name_at (left_of q stop)) r.is ∙ item_name_got n r.first r.more stop (r.no_sign sign.Star) r.name;
      fewer = omega arith;
      left = r.left;
    }

-- ---- the kind of a property

kind_name : (k : Option Kind) → IsName (kind_word k)
kind_name None = plain_name (codes "undefined") refl
kind_name (Some kind.Str) = plain_name (codes "STRING") refl
kind_name (Some kind.Binary) = plain_name (codes "BINARY") refl
kind_name (Some kind.Long) = plain_name (codes "LONG") refl
kind_name (Some kind.Date) = plain_name (codes "DATE") refl
kind_name (Some kind.Boolean) = plain_name (codes "BOOLEAN") refl
kind_name (Some kind.Name) = plain_name (codes "NAME") refl
kind_name (Some kind.Path) = plain_name (codes "PATH") refl
kind_name (Some kind.Reference) = plain_name (codes "REFERENCE") refl
kind_name (Some kind.WeakReference) = plain_name (codes "WEAKREFERENCE") refl
kind_name (Some kind.Uri) = plain_name (codes "URI") refl

kind_bare : (k : Option Kind) → is_bare_name (kind_word k) ≡ true
kind_bare None = refl
kind_bare (Some kind.Str) = refl
kind_bare (Some kind.Binary) = refl
kind_bare (Some kind.Long) = refl
kind_bare (Some kind.Date) = refl
kind_bare (Some kind.Boolean) = refl
kind_bare (Some kind.Name) = refl
kind_bare (Some kind.Path) = refl
kind_bare (Some kind.Reference) = refl
kind_bare (Some kind.WeakReference) = refl
kind_bare (Some kind.Uri) = refl

-- a kind's word names it
pub kind_back : (k : Option Kind) → cnd_kind_named (kind_word k) ≡ Some k
kind_back None = refl
kind_back (Some kind.Str) = refl
kind_back (Some kind.Binary) = refl
kind_back (Some kind.Long) = refl
kind_back (Some kind.Date) = refl
kind_back (Some kind.Boolean) = refl
kind_back (Some kind.Name) = refl
kind_back (Some kind.Path) = refl
kind_back (Some kind.Reference) = refl
kind_back (Some kind.WeakReference) = refl
kind_back (Some kind.Uri) = refl

kind_got : (k : Option Kind) (o w c : Placed) (rest : List Placed) (stop : ℕ) → o.says ≡ says.Sign sign.Open → kind_in w.says ≡ Some k → c.says ≡ says.Sign sign.Close → kind_at (left_of (o ∷ w ∷ c ∷ rest) stop) ≡ Ok (k, left_of rest stop)
kind_got k o w c rest stop opens is closes = rw (opens, is, closes) refl

kind_read : (k : Option Kind) (bs : List ℕ) (ps : List Placed) → Ready (32 ∷ 40 ∷ (kind_word k ++ (41 ∷ bs))) ps → IsRead kind_at k 3 ps (Behind (context.Closed (default_kind k)) bs)
kind_read k bs ps h =
    let inside = kind_word k ++ (41 ∷ bs) in
    let o = sign_step h.context 40 sign.Open (32 ∷ 40 ∷ inside) inside ps refl (omega arith) refl h.behind in
    let w = word_step context.Opened (kind_word k) inside (41 ∷ bs) o.more (kind_name k) (kind_bare k) refl (unspaced inside (bare_name_starts (kind_word k) (41 ∷ bs) (kind_bare k))) o.left in
    let named = subst (λ c. Behind (named_in c) (41 ∷ bs) w.more) (kind_back k) w.left in
    let c = sign_step (context.Named (default_kind k)) 41 sign.Close (41 ∷ bs) bs w.more refl (omega arith) refl named in
    let is : ps ≡ o.first ∷ w.first ∷ c.first ∷ c.more = o.is ∙ ap (λ (q : List Placed). o.first ∷ q) (w.is ∙ ap (λ (q : List Placed). w.first ∷ q) c.is) in
    let size : length ps ≡ length (o.first ∷ w.first ∷ c.first ∷ c.more) = ap length is in
    record {
      more = c.more;
      reads = λ stop. ap (λ (q : List Placed). kind_at (left_of q stop)) is ∙ kind_got k o.first w.first c.first c.more stop o.said (ap kind_in w.said ∙ kind_back k) c.said;
      fewer = omega arith;
      left = c.left;
    }

-- ---- the defaults of a property

no_defaults : (s : State) → sign_first sign.Equal s.pieces ≡ false → defaults_at s ≡ Ok ([], s)
no_defaults s e = rw e refl

some_defaults : (p : Placed) (rest more : List Placed) (vs : List Value) (stop : ℕ) → p.says ≡ says.Sign sign.Equal → list_of (values kind.Str).one (left_of rest stop) ≡ Ok (vs, left_of more stop) → defaults_at (left_of (p ∷ rest) stop) ≡ Ok (vs, left_of more stop)
some_defaults p rest more vs stop e h = rw e h

closed_ready : (k : Kind) (bs : List ℕ) (ps : List Placed) → Behind (context.Closed k) bs ps → Ready bs ps
closed_ready k bs ps h = record { context = context.Closed k; calm = refl; behind = h }

listed_ready : (k : Kind) (bs : List ℕ) (ps : List Placed) → Behind (context.Listed k) bs ps → Ready bs ps
listed_ready k bs ps h = record { context = context.Listed k; calm = refl; behind = h }

defaults_read : (k : Kind) (vs : List Value) (bs : List ℕ) (ps : List Placed) → AllByRecursion (IsPrintableValue k) vs → goes_on_bare bs ≡ false → ((more : List Placed) → Ready bs more → Parted more) → Behind (context.Closed k) (list_behind (codes " = ") (default_texts vs) ++ bs) ps → IsRead defaults_at vs 0 ps (Ready bs)
defaults_read k [] bs ps good bare parted h =
    let ready = closed_ready k bs ps h in
    let apart = parted ps ready in
    record { more = ps; reads = λ stop. no_defaults (left_of ps stop) apart.no_equal; fewer = omega arith; left = ready }
defaults_read k (v ∷ vs) bs ps good bare parted h =
    let inside = with_commas (default_texts (v ∷ vs)) ++ bs in
    let e = sign_step (context.Closed k) 61 sign.Equal (32 ∷ 61 ∷ 32 ∷ inside) (32 ∷ inside) ps refl (omega arith) refl h in
    let r = listed_read (values k) v vs (32 ∷ inside) bs e.more good bare (λ more l. (parted more (listed_ready k bs more l)).no_comma) refl e.left in
    let size : length ps ≡ length (e.first ∷ e.more) = ap length e.is in
    let fewer : 1 + length r.more ≤ length e.more = r.fewer in
    record {
      more = r.more;
      reads = λ stop. ap (λ (q : List Placed). defaults_at (left_of q stop)) e.is ∙ some_defaults e.first e.more r.more (v ∷ vs) stop e.said (r.reads stop);
      fewer = omega arith;
      left = listed_ready k bs r.more r.left;
    }

-- ---- the constraints of a property

no_constraints : (s : State) → sign_first sign.Less s.pieces ≡ false → constraints_at s ≡ Ok ([], s)
no_constraints s e = rw e refl

some_constraints : (p q : Placed) (rest more : List Placed) (ts : List (List ℕ)) (stop : ℕ) → p.says ≡ says.Sign sign.Less → bare_in q.says ≡ None → list_of texts.one (left_of (q ∷ rest) stop) ≡ Ok (ts, left_of more stop) → constraints_at (left_of (p ∷ q ∷ rest) stop) ≡ Ok (ts, left_of more stop)
some_constraints p q rest more ts stop less bare h = rw (less, bare) h

constraints_read : (ts : List (List ℕ)) (bs : List ℕ) (ps : List Placed) → AllByRecursion IsUtf8 ts → BeginsLine bs → Ready (constraints_then ts bs) ps → IsRead constraints_at ts 0 ps (Ready (10 ∷ bs))
constraints_read [] bs ps good line h =
    let none = line_no_sign sign.Less ps refl refl refl (at_line bs ps line h) in
    record { more = ps; reads = λ stop. no_constraints (left_of ps stop) none; fewer = omega arith; left = h }
constraints_read (t ∷ ts) bs ps good line h =
    let inside = with_commas (map quoted (t ∷ ts)) ++ (10 ∷ bs) in
    let e = sign_step h.context 60 sign.Less (32 ∷ 60 ∷ 32 ∷ inside) (32 ∷ inside) ps refl (omega arith) refl h.behind in
    let q = text_step context.BehindLess t (32 ∷ inside) (continued (map quoted ts) ++ (10 ∷ bs)) e.more good.0 (append_assoc (quoted t) (continued (map quoted ts)) (10 ∷ bs)) e.left in
    let r = listed_read texts t ts (32 ∷ inside) (10 ∷ bs) e.more good refl (λ more l. (line_parted more (at_line bs more line l)).no_comma) refl (context.BehindLess, e.left) in
    let is : ps ≡ e.first ∷ q.first ∷ q.more = e.is ∙ ap (λ (m : List Placed). e.first ∷ m) q.is in
    let size : length ps ≡ length (e.first ∷ e.more) = ap length e.is in
    let fewer : 1 + length r.more ≤ length e.more = r.fewer in
    record {
      more = r.more;
      reads = λ stop. ap (λ (m : List Placed). constraints_at (left_of m stop)) is
          ∙ some_constraints e.first q.first q.more r.more (t ∷ ts) stop e.said (ap bare_in q.said) (ap (λ (m : List Placed). list_of texts.one (left_of m stop)) (sym q.is) ∙ r.reads stop);
      fewer = omega arith;
      left = r.left;
    }

-- ---- a property

-- a property's line behind its `-`, with what follows the line
abbrev pub prop_then : PropDef → List ℕ → List ℕ
prop_then p bs =
    32 ∷ (item_name_text p.name ++ (32 ∷ 40 ∷ (kind_word p.kind ++ (41 ∷ (list_behind (codes " = ") (default_texts p.defaults) ++ attributes_then p.mandatory p.autocreated p.protected p.multiple p.opv (constraints_then p.constraints bs))))))

pub prop_line : (p : PropDef) (bs : List ℕ) → prop_text p ++ bs ≡ 45 ∷ prop_then p bs
prop_line p bs =
    let defaults = list_behind (codes " = ") (default_texts p.defaults) in
    let limits = list_behind (codes " < ") (map quoted p.constraints) in
    five (prop_head p) defaults (prop_attributes p) limits (codes "\n") bs
    ∙ five (codes "- ") (item_name_text p.name) (codes " (") (kind_word p.kind) (codes ")") (defaults ++ (prop_attributes p ++ (limits ++ (10 ∷ bs))))
    ∙ ap (λ (t : List ℕ). codes "- " ++ (item_name_text p.name ++ (codes " (" ++ (kind_word p.kind ++ (codes ")" ++ (defaults ++ t))))))
    (five (word_if p.mandatory (codes " mandatory")) (word_if p.autocreated (codes " autocreated")) (word_if p.protected (codes " protected")) (word_if p.multiple (codes " multiple")) (opv_part p.opv) (limits ++ (10 ∷ bs)))

prop_got : (n : Option Name) (k : Option Kind) (vs : List Value) (a : ItemAttributes) (ts : List (List ℕ)) (s s1 s2 s3 s4 s5 : State) → item_name_at s ≡ Ok (n, s1) → kind_at s1 ≡ Ok (k, s2) → defaults_at s2 ≡ Ok (vs, s3) → item_attributes_at true s3 ≡ Ok (a, s4) → constraints_at s4 ≡ Ok (ts, s5) → prop_at s ≡ Ok (record { name = n; kind = k; mandatory = a.mandatory; autocreated = a.autocreated; protected = a.protected; multiple = a.multiple; defaults = vs; constraints = ts; opv = opv_of a }, s5)
prop_got n k vs a ts s s1 s2 s3 s4 s5 en ek ed ea et = rw (en, ek, ed, ea, et) refl

pub prop_read : (p : PropDef) (bs : List ℕ) (ps : List Placed) → IsPrintableProp p → BeginsLine bs → Ready (prop_then p bs) ps → IsRead prop_at p 1 ps (Ready (10 ∷ bs))
prop_read p bs ps good line h =
    let cs = constraints_then p.constraints bs in
    let attrs = attributes_then p.mandatory p.autocreated p.protected p.multiple p.opv cs in
    let bare_attrs : goes_on_bare attrs ≡ false = bare_attributes p.mandatory p.autocreated p.protected p.multiple p.opv cs (bare_constraints p.constraints bs) in
    let n = item_name_read p.name (32 ∷ 40 ∷ (kind_word p.kind ++ (41 ∷ (list_behind (codes " = ") (default_texts p.defaults) ++ attrs)))) ps good.name refl h in
    let k = kind_read p.kind (list_behind (codes " = ") (default_texts p.defaults) ++ attrs) n.more n.left in
    let d = defaults_read (default_kind p.kind) p.defaults attrs k.more good.defaults bare_attrs (λ more l. attributes_parted p.mandatory p.autocreated p.protected p.multiple p.opv cs more (bare_constraints p.constraints bs) (λ qs i. constraints_parted qs (at_constraints p.constraints bs qs line i)) l) k.left in
    let a = item_attributes_read true p.mandatory p.autocreated p.protected p.multiple p.opv cs d.more (λ e. refl) (bare_constraints p.constraints bs) (λ more l. constraints_no_attribute true (attributes p.mandatory p.autocreated p.protected p.multiple (written_opv p.opv)) more (at_constraints p.constraints bs more line l)) d.left in
    let c = constraints_read p.constraints bs a.more good.constraints line a.left in
    let f1 : 1 + length n.more ≤ length ps = n.fewer in
    let f2 : 3 + length k.more ≤ length n.more = k.fewer in
    let f3 : 0 + length d.more ≤ length k.more = d.fewer in
    let f4 : 0 + length a.more ≤ length d.more = a.fewer in
    let f5 : 0 + length c.more ≤ length a.more = c.fewer in
    record {
      more = c.more;
      reads = λ stop.
          prop_got p.name p.kind p.defaults (attributes p.mandatory p.autocreated p.protected p.multiple (written_opv p.opv)) p.constraints (left_of ps stop) (left_of n.more stop) (left_of k.more stop) (left_of d.more stop) (left_of a.more stop) (left_of c.more stop) (n.reads stop) (k.reads stop) (d.reads stop) (a.reads stop) (c.reads stop)
          ∙ ap (λ (o : OnParentVersion). Ok (record { name = p.name; kind = p.kind; mandatory = p.mandatory; autocreated = p.autocreated; protected = p.protected; multiple = p.multiple; defaults = p.defaults; constraints = p.constraints; opv = o }, left_of c.more stop)) (opv_back p.opv);
      fewer = omega arith;
      left = c.left;
    }

-- ---- the types of a child

calm_close : (c : Context) → is_behind_less (after_close c) ≡ false
calm_close (context.Named k) = refl
calm_close c = refl

calm_equal : (c : Context) → is_behind_less (after_equal c) ≡ false
calm_equal (context.Closed k) = refl
calm_equal c = refl

closing : (xs : List Name) (bs : List ℕ) (ps : List Placed) → Ready (41 ∷ bs) ps → comma_first xs ps ≡ false
closing xs bs ps h =
    let r = sign_step h.context 41 sign.Close (41 ∷ bs) bs ps refl (omega arith) refl h.behind in
    ap (λ (q : List Placed). comma_first xs q) r.is ∙ ap (is_sign sign.Comma) r.said

types_got : (o c : Placed) (rest more : List Placed) (ns : List Name) (stop : ℕ) → o.says ≡ says.Sign sign.Open → list_of names.one (left_of rest stop) ≡ Ok (ns, left_of (c ∷ more) stop) → c.says ≡ says.Sign sign.Close → read_types (left_of (o ∷ rest) stop) ≡ Ok (ns, left_of more stop)
types_got o c rest more ns stop opens h closes = rw (opens, h, types_inside, closes) refl

types_read : (n : Name) (ns : List Name) (bs : List ℕ) (ps : List Placed) → AllByRecursion IsName (n ∷ ns) → Ready (32 ∷ 40 ∷ (with_commas (map name_text (n ∷ ns)) ++ (41 ∷ bs))) ps → IsRead read_types (n ∷ ns) 0 ps (Ready bs)
types_read n ns bs ps good h =
    let inside = with_commas (map name_text (n ∷ ns)) ++ (41 ∷ bs) in
    let o = sign_step h.context 40 sign.Open (32 ∷ 40 ∷ inside) inside ps refl (omega arith) refl h.behind in
    let apart = append_assoc (name_text n) (continued (map name_text ns)) (41 ∷ bs) in
    let begun = ap starts apart ∙ name_starts n (continued (map name_text ns) ++ (41 ∷ bs)) good.0 in
    let r = listed_read names n ns inside (41 ∷ bs) o.more good refl (λ more l. closing (n ∷ ns) bs more l) (unspaced inside begun) (record { context = context.Opened; calm = refl; behind = o.left }) in
    let c = sign_step r.left.context 41 sign.Close (41 ∷ bs) bs r.more refl (omega arith) refl r.left.behind in
    let size : length ps ≡ length (o.first ∷ o.more) = ap length o.is in
    let size_more : length r.more ≡ length (c.first ∷ c.more) = ap length c.is in
    let fewer : 1 + length r.more ≤ length o.more = r.fewer in
    record {
      more = c.more;
      reads = λ stop. ap (λ (q : List Placed). read_types (left_of q stop)) o.is
          ∙ types_got o.first c.first o.more c.more (n ∷ ns) stop o.said (r.reads stop ∙ ap (λ (q : List Placed). Ok (n ∷ ns, left_of q stop)) c.is) c.said;
      fewer = omega arith;
      left = record { context = _; calm = calm_close r.left.context; behind = c.left };
    }

some_types : (ns : List Name) (bs : List ℕ) (ps : List Placed) → ns ≢ [] → AllByRecursion IsName ns → Ready (32 ∷ 40 ∷ (with_commas (map name_text ns) ++ (41 ∷ bs))) ps → IsRead read_types ns 0 ps (Ready bs)
some_types [] bs ps some good h = absurd (some refl)
some_types (n ∷ ns) bs ps some good h = types_read n ns bs ps good h

-- ---- the default type of a child

no_type : (s : State) → sign_first sign.Equal s.pieces ≡ false → default_type_at s ≡ Ok (None, s)
no_type s e = rw e refl

a_type : (p : Placed) (rest more : List Placed) (n : Name) (stop : ℕ) → p.says ≡ says.Sign sign.Equal → name_at (left_of rest stop) ≡ Ok (n, left_of more stop) → default_type_at (left_of (p ∷ rest) stop) ≡ Ok (Some n, left_of more stop)
a_type p rest more n stop e h = rw (e, h) refl

default_type_read : (o : Option Name) (bs : List ℕ) (ps : List Placed) → IfSome o IsName → goes_on_bare bs ≡ false → ((more : List Placed) → Ready bs more → Parted more) → Ready (name_behind (codes " = ") o ++ bs) ps → IsRead default_type_at o 0 ps (Ready bs)
default_type_read None bs ps name bare parted h =
    let apart = parted ps h in
    record { more = ps; reads = λ stop. no_type (left_of ps stop) apart.no_equal; fewer = omega arith; left = h }
default_type_read (Some n) bs ps name bare parted h =
    let inside = name_text n ++ bs in
    let at = subst (λ (t : List ℕ). Ready t ps) (append_assoc (codes " = ") (name_text n) bs) h in
    let e = sign_step at.context 61 sign.Equal (32 ∷ 61 ∷ 32 ∷ inside) (32 ∷ inside) ps refl (omega arith) refl at.behind in
    let r = name_read n (32 ∷ inside) bs e.more name bare (spaced inside (name_starts n bs name)) (record { context = _; calm = calm_equal at.context; behind = e.left }) in
    let size : length ps ≡ length (e.first ∷ e.more) = ap length e.is in
    let fewer : 1 + length r.more ≤ length e.more = r.fewer in
    record {
      more = r.more;
      reads = λ stop. ap (λ (q : List Placed). default_type_at (left_of q stop)) e.is ∙ a_type e.first e.more r.more n stop e.said (r.reads stop);
      fewer = omega arith;
      left = r.left;
    }

-- ---- a child

-- a child's line behind its `+`, with what follows the line
abbrev pub child_then : ChildDef → List ℕ → List ℕ
child_then c bs =
    32 ∷ (item_name_text c.name ++ (32 ∷ 40 ∷ (with_commas (map name_text c.types) ++ (41 ∷ (name_behind (codes " = ") c.default_type ++ attributes_then c.mandatory c.autocreated c.protected false c.opv (10 ∷ bs))))))

pub child_line : (c : ChildDef) (bs : List ℕ) → child_text c ++ bs ≡ 43 ∷ child_then c bs
child_line c bs =
    let default = name_behind (codes " = ") c.default_type in
    four (child_head c) default (child_attributes c) (codes "\n") bs
    ∙ five (codes "+ ") (item_name_text c.name) (codes " (") (with_commas (map name_text c.types)) (codes ")") (default ++ (child_attributes c ++ (10 ∷ bs)))
    ∙ ap (λ (t : List ℕ). codes "+ " ++ (item_name_text c.name ++ (codes " (" ++ (with_commas (map name_text c.types) ++ (codes ")" ++ (default ++ t))))))
    (four (word_if c.mandatory (codes " mandatory")) (word_if c.autocreated (codes " autocreated")) (word_if c.protected (codes " protected")) (opv_part c.opv) (10 ∷ bs))

child_got : (n : Option Name) (ts : List Name) (o : Option Name) (a : ItemAttributes) (s s1 s2 s3 s4 : State) → item_name_at s ≡ Ok (n, s1) → read_types s1 ≡ Ok (ts, s2) → default_type_at s2 ≡ Ok (o, s3) → item_attributes_at false s3 ≡ Ok (a, s4) → read_child s ≡ Ok (record { name = n; types = ts; default_type = o; mandatory = a.mandatory; autocreated = a.autocreated; protected = a.protected; opv = opv_of a }, s4)
child_got n ts o a s s1 s2 s3 s4 en et eo ea = rw (en, et, eo, ea) refl

pub child_read : (c : ChildDef) (bs : List ℕ) (ps : List Placed) → IsPrintableChild c → BeginsLine bs → Ready (child_then c bs) ps → IsRead read_child c 1 ps (Ready (10 ∷ bs))
child_read c bs ps good line h =
    let attrs = attributes_then c.mandatory c.autocreated c.protected false c.opv (10 ∷ bs) in
    let bare_attrs : goes_on_bare attrs ≡ false = bare_attributes c.mandatory c.autocreated c.protected false c.opv (10 ∷ bs) refl in
    let n = item_name_read c.name (32 ∷ 40 ∷ (with_commas (map name_text c.types) ++ (41 ∷ (name_behind (codes " = ") c.default_type ++ attrs)))) ps good.name refl h in
    let t = some_types c.types (name_behind (codes " = ") c.default_type ++ attrs) n.more good.some_type good.types n.left in
    let d = default_type_read c.default_type attrs t.more good.default_type bare_attrs (λ more l. attributes_parted c.mandatory c.autocreated c.protected false c.opv (10 ∷ bs) more refl (λ qs i. line_parted qs (at_line bs qs line i)) l) t.left in
    let a = item_attributes_read false c.mandatory c.autocreated c.protected false c.opv (10 ∷ bs) d.more (λ e. e) refl (λ more l. line_no_attribute false (attributes c.mandatory c.autocreated c.protected false (written_opv c.opv)) more (at_line bs more line l)) d.left in
    let f1 : 1 + length n.more ≤ length ps = n.fewer in
    let f2 : 0 + length t.more ≤ length n.more = t.fewer in
    let f3 : 0 + length d.more ≤ length t.more = d.fewer in
    let f4 : 0 + length a.more ≤ length d.more = a.fewer in
    record {
      more = a.more;
      reads = λ stop.
          child_got c.name c.types c.default_type (attributes c.mandatory c.autocreated c.protected false (written_opv c.opv)) (left_of ps stop) (left_of n.more stop) (left_of t.more stop) (left_of d.more stop) (left_of a.more stop) (n.reads stop) (t.reads stop) (d.reads stop) (a.reads stop)
          ∙ ap (λ (o : OnParentVersion). Ok (record { name = c.name; types = c.types; default_type = c.default_type; mandatory = c.mandatory; autocreated = c.autocreated; protected = c.protected; opv = o }, left_of a.more stop)) (opv_back c.opv);
      fewer = omega arith;
      left = a.left;
    }
