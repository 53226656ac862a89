-- Types, with their lines of properties and children, are read back.
use Rattle.std.proofs.Common.{◌≡◌, ◌∙◌, ℕ, ◌+◌, ◌≤◌, ◌⊎◌, inl, inr, Bool, true, false, List, [], ◌∷◌, ◌++◌, Some, Ok, ap, append_assoc, append-nil, arith, drop, length, refl, subst, sym}
use Rattle.std.specs.Prelude.{◌||◌, codes, map, not}
use Rattle.std.specs.List.{AllByRecursion, filter, flat_map}
use Rattle.jr_path.specs.Grammar.{IsName}
use Rattle.jr_path.specs.declared.name.Name.{Name}
use Rattle.jr_items.specs.Items.{same_name}
use Rattle.jr_items.specs.Names.{base_type}
use Rattle.jr_types.specs.declared.ChildDef.{ChildDef}
use Rattle.jr_types.specs.declared.PropDef.{PropDef}
use Rattle.jr_types.specs.declared.TypeDef.{TypeDef}
use Rattle.jr_cnd.specs.Grammar.{read_child, item_first, item_more, read_items, kept_supertypes, prop_at, supertypes_at, type_at, type_attributes_at, type_name_at}
use Rattle.cnd_print.specs.Printable.{IsPrintableChild, IsPrintableProp, IsPrintableType}
use Rattle.cnd_print.specs.Printing.{child_text, continued, list_behind, with_commas, name_behind, name_text, prop_text, type_attributes, type_head, type_line, type_text, word_if}
use Rattle.jr_cnd.specs.Reading.{State, is_sign, cnd_name_in, sign_first}
use Rattle.cnd_pieces.specs.Tokens.{gap_size, goes_on_bare}
use Rattle.cnd_pieces.specs.declared.context.Context.TheVariants as context
use Rattle.cnd_pieces.specs.declared.piece.Placed.{Placed}
use Rattle.cnd_pieces.specs.declared.piece.Says.TheVariants as says
use Rattle.cnd_pieces.specs.declared.piece.Sign.TheVariants as sign
use Rattle.jr_cnd.specs.declared.types.Items.{Items}
use Rattle.jr_cnd.specs.declared.types.TypeAttributes.{TypeAttributes}
use Rattle.cnd_print.proofs.Follows.{BeginsLine, Parted, at_line, line_no_type_attribute, line_parted, minus_token, nothing, type_attributes_parted}
use Rattle.cnd_print.proofs.Listed.{names}
use Rattle.cnd_print.proofs.ReadAttributes.{attributes_of_type, bare_type_attributes, type_attributes_read, type_attributes_then}
use Rattle.cnd_print.proofs.ReadItems.{child_line, child_read, child_then, four, prop_line, prop_read, prop_then, three}
use Rattle.cnd_print.proofs.ReadLists.{IsRead, list_of, listed_read}
use Rattle.cnd_print.proofs.Steps.{Ready, left_of, name_starts, name_step, sign_step, spaced, unspaced}
use Rattle.cnd_print.proofs.Turns.{Turned, ended, one_turn, then_turned, unturned}

-- ---- lines of items

pub line_props : (ds : List PropDef) (bs : List ℕ) → BeginsLine bs → BeginsLine (flat_map prop_text ds ++ bs)
line_props [] bs h = h
line_props (d ∷ ds) bs h = inr (inl (prop_then d (flat_map prop_text ds ++ bs), append_assoc (prop_text d) (flat_map prop_text ds) bs ∙ prop_line d (flat_map prop_text ds ++ bs)))

pub line_children : (ds : List ChildDef) (bs : List ℕ) → BeginsLine bs → BeginsLine (flat_map child_text ds ++ bs)
line_children [] bs h = h
line_children (d ∷ ds) bs h = inr (inr (inl (child_then d (flat_map child_text ds ++ bs), append_assoc (child_text d) (flat_map child_text ds) bs ∙ child_line d (flat_map child_text ds ++ bs))))

prop_got : (props : List PropDef) (children : List ChildDef) (d : PropDef) (p : Placed) (rest more : List Placed) (stop : ℕ) → p.says ≡ says.Sign sign.Minus → prop_at (left_of rest stop) ≡ Ok (d, left_of more stop) → item_more (record { props = props; children = children }) (left_of (p ∷ rest) stop) ≡ Ok (record { props = props ++ d ∷ []; children = children }, left_of more stop)
prop_got props children d p rest more stop e h = rw (e, h) refl

child_got : (props : List PropDef) (children : List ChildDef) (d : ChildDef) (p : Placed) (rest more : List Placed) (stop : ℕ) → p.says ≡ says.Sign sign.Plus → read_child (left_of rest stop) ≡ Ok (d, left_of more stop) → item_more (record { props = props; children = children }) (left_of (p ∷ rest) stop) ≡ Ok (record { props = props; children = children ++ d ∷ [] }, left_of more stop)
child_got props children d p rest more stop e h = rw (e, h) refl

-- the repetition of items
abbrev pub ItemsTurned : List Placed → List Placed → Items → Items → List ℕ → Type 0
ItemsTurned turns ps old new bs = Turned item_first item_more turns ps old new (Ready bs)

props_turned : (ds props : List PropDef) (children : List ChildDef) (bs : List ℕ) (turns ps : List Placed) → AllByRecursion IsPrintableProp ds → BeginsLine bs → length ps ≤ length turns → Ready (10 ∷ (flat_map prop_text ds ++ bs)) ps → ItemsTurned turns ps (record { props = props; children = children }) (record { props = props ++ ds; children = children }) (10 ∷ bs)
props_turned [] props children bs turns ps good line enough h =
    subst (λ (l : List PropDef). ItemsTurned turns ps (record { props = props; children = children }) (record { props = l; children = children }) (10 ∷ bs)) (sym (append-nil props))
    (unturned item_first item_more turns ps (record { props = props; children = children }) (Ready (10 ∷ bs)) enough h)
props_turned (d ∷ ds) props children bs turns ps good line enough h =
    let rest = flat_map prop_text ds ++ bs in
    let at = subst (λ (t : List ℕ). Ready (10 ∷ t) ps) (append_assoc (prop_text d) (flat_map prop_text ds) bs ∙ prop_line d rest) h in
    let m = sign_step at.context 45 sign.Minus (10 ∷ 45 ∷ prop_then d rest) (prop_then d rest) ps (minus_token _ (prop_then d rest) at.calm) (omega arith) refl at.behind in
    let r = prop_read d rest m.more good.0 (line_props ds bs line) (record { context = context.Elsewhere; calm = refl; behind = m.left }) in
    let fewer : 1 + length r.more ≤ length m.more = r.fewer in
    let one = one_turn item_first item_more turns ps (record { props = props; children = children }) (record { props = props ++ d ∷ []; children = children }) m.first m.more r.more (Ready (10 ∷ rest)) m.is
    (ap (λ u. is_sign sign.Minus u || is_sign sign.Plus u) m.said) (λ stop. prop_got props children d m.first m.more r.more stop m.said (r.reads stop)) (omega arith) enough r.left in
    let all = then_turned item_first item_more turns ps (record { props = props; children = children }) (record { props = props ++ d ∷ []; children = children }) (record { props = (props ++ d ∷ []) ++ ds; children = children }) (Ready (10 ∷ rest)) (Ready (10 ∷ bs)) one
    (λ later more k l. props_turned ds (props ++ d ∷ []) children bs later more good.1 line k l) in
    subst (λ (l : List PropDef). ItemsTurned turns ps (record { props = props; children = children }) (record { props = l; children = children }) (10 ∷ bs)) (append_assoc props (d ∷ []) ds) all

children_turned : (ds : List ChildDef) (props : List PropDef) (children : List ChildDef) (bs : List ℕ) (turns ps : List Placed) → AllByRecursion IsPrintableChild ds → BeginsLine bs → length ps ≤ length turns → Ready (10 ∷ (flat_map child_text ds ++ bs)) ps → ItemsTurned turns ps (record { props = props; children = children }) (record { props = props; children = children ++ ds }) (10 ∷ bs)
children_turned [] props children bs turns ps good line enough h =
    subst (λ (l : List ChildDef). ItemsTurned turns ps (record { props = props; children = children }) (record { props = props; children = l }) (10 ∷ bs)) (sym (append-nil children))
    (unturned item_first item_more turns ps (record { props = props; children = children }) (Ready (10 ∷ bs)) enough h)
children_turned (d ∷ ds) props children bs turns ps good line enough h =
    let rest = flat_map child_text ds ++ bs in
    let at = subst (λ (t : List ℕ). Ready (10 ∷ t) ps) (append_assoc (child_text d) (flat_map child_text ds) bs ∙ child_line d rest) h in
    let m = sign_step at.context 43 sign.Plus (10 ∷ 43 ∷ child_then d rest) (child_then d rest) ps refl (omega arith) refl at.behind in
    let r = child_read d rest m.more good.0 (line_children ds bs line) (record { context = context.Elsewhere; calm = refl; behind = m.left }) in
    let fewer : 1 + length r.more ≤ length m.more = r.fewer in
    let one = one_turn item_first item_more turns ps (record { props = props; children = children }) (record { props = props; children = children ++ d ∷ [] }) m.first m.more r.more (Ready (10 ∷ rest)) m.is
    (ap (λ u. is_sign sign.Minus u || is_sign sign.Plus u) m.said) (λ stop. child_got props children d m.first m.more r.more stop m.said (r.reads stop)) (omega arith) enough r.left in
    let all = then_turned item_first item_more turns ps (record { props = props; children = children }) (record { props = props; children = children ++ d ∷ [] }) (record { props = props; children = (children ++ d ∷ []) ++ ds }) (Ready (10 ∷ rest)) (Ready (10 ∷ bs)) one
    (λ later more k l. children_turned ds props (children ++ d ∷ []) bs later more good.1 line k l) in
    subst (λ (l : List ChildDef). ItemsTurned turns ps (record { props = props; children = children }) (record { props = props; children = l }) (10 ∷ bs)) (append_assoc children (d ∷ []) ds) all

-- the bytes are none, or begin with `[`
abbrev pub BeginsType : List ℕ → Type 0
BeginsType bs = (bs ≡ []) ⊎ ((more : List ℕ) × (bs ≡ 91 ∷ more))

pub line_type : (bs : List ℕ) → BeginsType bs → BeginsLine bs
line_type bs (inl e) = inl e
line_type bs (inr h) = inr (inr (inr h))

no_item : (items : Items) (bs : List ℕ) (ps : List Placed) → BeginsType bs → Ready (10 ∷ bs) ps → item_first items ps ≡ false
no_item items bs ps (inl e) h = ap (λ (q : List Placed). item_first items q) (nothing ps (subst (λ (b : List ℕ). Ready (10 ∷ b) ps) e h))
no_item items bs ps (inr (more, e)) h =
    let at = subst (λ (b : List ℕ). Ready (10 ∷ b) ps) e h in
    let r = sign_step at.context 91 sign.OpenSquare (10 ∷ 91 ∷ more) more ps refl (omega arith) refl at.behind in
    ap (λ (q : List Placed). item_first items q) r.is ∙ ap (λ u. is_sign sign.Minus u || is_sign sign.Plus u) r.said

items_read : (props : List PropDef) (children : List ChildDef) (bs : List ℕ) (ps : List Placed) → AllByRecursion IsPrintableProp props → AllByRecursion IsPrintableChild children → BeginsType bs → Ready (10 ∷ (flat_map prop_text props ++ (flat_map child_text children ++ bs))) ps → IsRead read_items (record { props = props; children = children }) 0 ps (Ready (10 ∷ bs))
items_read props children bs ps good_props good_children begun h =
    let line = line_type bs begun in
    let tail = flat_map child_text children ++ bs in
    let all = then_turned item_first item_more ps ps (record { props = []; children = [] }) (record { props = props; children = [] }) (record { props = props; children = children }) (Ready (10 ∷ tail)) (Ready (10 ∷ bs))
    (props_turned props [] [] tail ps ps good_props (line_children children bs line) (omega arith) h)
    (λ later more k l. children_turned children props [] bs later more good_children line k l) in
    let r = ended item_first item_more ps ps (record { props = []; children = [] }) (record { props = props; children = children }) (Ready (10 ∷ bs)) all (λ more l. no_item (record { props = props; children = children }) bs more begun l) in
    record { more = r.more; reads = r.reads; fewer = r.fewer; left = r.left }

-- ---- supertypes

no_supertypes : (s : State) → sign_first sign.Greater s.pieces ≡ false → supertypes_at s ≡ Ok ([], s)
no_supertypes s e = rw e refl

some_supertypes : (p : Placed) (rest more : List Placed) (ns : List Name) (stop : ℕ) → p.says ≡ says.Sign sign.Greater → list_of names.one (left_of rest stop) ≡ Ok (ns, left_of more stop) → supertypes_at (left_of (p ∷ rest) stop) ≡ Ok (ns, left_of more stop)
some_supertypes p rest more ns stop e h = rw e h

supertypes_read : (ns : List Name) (bs : List ℕ) (ps : List Placed) → AllByRecursion IsName ns → goes_on_bare bs ≡ false → ((more : List Placed) → Ready bs more → Parted more) → Ready (list_behind (codes " > ") (map name_text ns) ++ bs) ps → IsRead supertypes_at ns 0 ps (Ready bs)
supertypes_read [] bs ps good bare parted h =
    let apart = parted ps h in
    record { more = ps; reads = λ stop. no_supertypes (left_of ps stop) apart.no_greater; fewer = omega arith; left = h }
supertypes_read (n ∷ ns) bs ps good bare parted h =
    let inside = with_commas (map name_text (n ∷ ns)) ++ bs in
    let apart = append_assoc (name_text n) (continued (map name_text ns)) bs in
    let placed = ap (λ (b : List ℕ). drop (gap_size (32 ∷ b)) (32 ∷ b)) apart ∙ spaced (name_text n ++ (continued (map name_text ns) ++ bs)) (name_starts n (continued (map name_text ns) ++ bs) good.0) ∙ sym apart in
    let g = sign_step h.context 62 sign.Greater (32 ∷ 62 ∷ 32 ∷ inside) (32 ∷ inside) ps refl (omega arith) refl h.behind in
    let r = listed_read names n ns (32 ∷ inside) bs g.more good bare (λ more l. (parted more l).no_comma) placed (record { context = context.Elsewhere; calm = refl; behind = g.left }) in
    let size : length ps ≡ length (g.first ∷ g.more) = ap length g.is in
    let fewer : 1 + length r.more ≤ length g.more = r.fewer in
    record {
      more = r.more;
      reads = λ stop. ap (λ (q : List Placed). supertypes_at (left_of q stop)) g.is ∙ some_supertypes g.first g.more r.more (n ∷ ns) stop g.said (r.reads stop);
      fewer = omega arith;
      left = r.left;
    }

-- what names no `nt:base` loses nothing
others_kept : (ns : List Name) → AllByRecursion (λ n. same_name n base_type ≡ false) ns → filter (λ n. not (same_name n base_type)) ns ≡ ns
others_kept [] h = refl
others_kept (n ∷ ns) h = rw h.0 (ap (λ (l : List Name). n ∷ l) (others_kept ns h.1))

all_kept : (mixin : Bool) (ns : List Name) → (mixin ≡ false → AllByRecursion (λ n. same_name n base_type ≡ false) ns) → kept_supertypes mixin ns ≡ ns
all_kept true ns h = refl
all_kept false ns h = others_kept ns (h refl)

-- ---- a type

type_name_got : (n : Name) (o p c : Placed) (rest : List Placed) (stop : ℕ) → o.says ≡ says.Sign sign.OpenSquare → cnd_name_in p.says ≡ Some n → c.says ≡ says.Sign sign.CloseSquare → type_name_at (left_of (o ∷ p ∷ c ∷ rest) stop) ≡ Ok (n, left_of rest stop)
type_name_got n o p c rest stop opens is closes = rw (opens, is, closes) refl

type_name_read : (n : Name) (bs : List ℕ) (ps : List Placed) → IsName n → Ready (91 ∷ (name_text n ++ (93 ∷ bs))) ps → IsRead type_name_at n 3 ps (Ready bs)
type_name_read n bs ps name h =
    let inside = name_text n ++ (93 ∷ bs) in
    let o = sign_step h.context 91 sign.OpenSquare (91 ∷ inside) inside ps refl (omega arith) refl h.behind in
    let p = name_step context.Elsewhere n inside (93 ∷ bs) o.more name refl (unspaced inside (name_starts n (93 ∷ bs) name)) o.left in
    let c = sign_step p.left.context 93 sign.CloseSquare (93 ∷ bs) bs p.more refl (omega arith) refl p.left.behind in
    let is : ps ≡ o.first ∷ p.first ∷ c.first ∷ c.more = o.is ∙ ap (λ (q : List Placed). o.first ∷ q) (p.is ∙ ap (λ (q : List Placed). p.first ∷ q) c.is) in
    let size : length ps ≡ length (o.first ∷ p.first ∷ c.first ∷ c.more) = ap length is in
    record {
      more = c.more;
      reads = λ stop. ap (λ (q : List Placed). type_name_at (left_of q stop)) is ∙ type_name_got n o.first p.first c.first c.more stop o.said p.name c.said;
      fewer = omega arith;
      left = record { context = context.Elsewhere; calm = refl; behind = c.left };
    }

-- the lines of a type behind its `[`, with what follows them
abbrev pub type_then : TypeDef → List ℕ → List ℕ
type_then d bs =
    name_text d.name ++ (93 ∷ (list_behind (codes " > ") (map name_text d.supertypes) ++ type_attributes_then d.mixin d.is_abstract d.orderable d.primary_item (10 ∷ (flat_map prop_text d.props ++ (flat_map child_text d.children ++ bs)))))

pub type_lines : (d : TypeDef) (bs : List ℕ) → type_text d ++ bs ≡ 91 ∷ type_then d bs
type_lines d bs =
    let above = list_behind (codes " > ") (map name_text d.supertypes) in
    let lines = flat_map prop_text d.props ++ (flat_map child_text d.children ++ bs) in
    three (type_line d) (flat_map prop_text d.props) (flat_map child_text d.children) bs
    ∙ three (type_head d) (type_attributes d) (codes "\n") lines
    ∙ four (codes "[") (name_text d.name) (codes "]") above (type_attributes d ++ (10 ∷ lines))
    ∙ ap (λ (t : List ℕ). codes "[" ++ (name_text d.name ++ (codes "]" ++ (above ++ t))))
    (four (word_if d.mixin (codes " mixin")) (word_if d.is_abstract (codes " abstract")) (word_if d.orderable (codes " orderable")) (name_behind (codes " primaryitem ") d.primary_item) (10 ∷ lines))

type_got : (n : Name) (us : List Name) (a : TypeAttributes) (i : Items) (s s1 s2 s3 s4 : State) → type_name_at s ≡ Ok (n, s1) → supertypes_at s1 ≡ Ok (us, s2) → type_attributes_at s2 ≡ Ok (a, s3) → read_items s3 ≡ Ok (i, s4) → type_at s ≡ Ok (record { name = n; supertypes = kept_supertypes a.mixin us; is_abstract = a.is_abstract; mixin = a.mixin; orderable = a.orderable; primary_item = a.primary_item; props = i.props; children = i.children }, s4)
type_got n us a i s s1 s2 s3 s4 en eu ea ei = rw (en, eu, ea, ei) refl

pub type_read : (d : TypeDef) (bs : List ℕ) (ps : List Placed) → IsPrintableType d → BeginsType bs → Ready (91 ∷ type_then d bs) ps → IsRead type_at d 3 ps (Ready (10 ∷ bs))
type_read d bs ps good begun h =
    let lines = flat_map prop_text d.props ++ (flat_map child_text d.children ++ bs) in
    let line = line_props d.props (flat_map child_text d.children ++ bs) (line_children d.children bs (line_type bs begun)) in
    let attrs = type_attributes_then d.mixin d.is_abstract d.orderable d.primary_item (10 ∷ lines) in
    let bare_attrs : goes_on_bare attrs ≡ false = bare_type_attributes d.mixin d.is_abstract d.orderable d.primary_item (10 ∷ lines) refl in
    let n = type_name_read d.name (list_behind (codes " > ") (map name_text d.supertypes) ++ attrs) ps good.name h in
    let u = supertypes_read d.supertypes attrs n.more good.supertypes bare_attrs (λ more l. type_attributes_parted d.mixin d.is_abstract d.orderable d.primary_item (10 ∷ lines) more refl (λ qs i. line_parted qs (at_line lines qs line i)) l) n.left in
    let a = type_attributes_read d.mixin d.is_abstract d.orderable d.primary_item (10 ∷ lines) u.more good.primary_item refl (λ more l. line_no_type_attribute (attributes_of_type d.mixin d.is_abstract d.orderable d.primary_item) more (at_line lines more line l)) u.left in
    let i = items_read d.props d.children bs a.more good.props good.children begun a.left in
    let f1 : 3 + length n.more ≤ length ps = n.fewer in
    let f2 : 0 + length u.more ≤ length n.more = u.fewer in
    let f3 : 0 + length a.more ≤ length u.more = a.fewer in
    let f4 : 0 + length i.more ≤ length a.more = i.fewer in
    record {
      more = i.more;
      reads = λ stop.
          type_got d.name d.supertypes (attributes_of_type d.mixin d.is_abstract d.orderable d.primary_item) (record { props = d.props; children = d.children }) (left_of ps stop) (left_of n.more stop) (left_of u.more stop) (left_of a.more stop) (left_of i.more stop) (n.reads stop) (u.reads stop) (a.reads stop) (i.reads stop)
          ∙ ap (λ (l : List Name). Ok (record { name = d.name; supertypes = l; is_abstract = d.is_abstract; mixin = d.mixin; orderable = d.orderable; primary_item = d.primary_item; props = d.props; children = d.children }, left_of i.more stop)) (all_kept d.mixin d.supertypes good.no_base);
      fewer = omega arith;
      left = i.left;
    }
