-- The canonical text of what can be printed is read back.
use Rattle.std.proofs.Common.{◌≡◌, ◌∙◌, ℕ, ◌+◌, ◌≤◌, ◌⊎◌, inl, inr, true, false, List, [], ◌∷◌, ◌++◌, None, Some, Ok, Err, Result, ap, append_assoc, append-nil, arith, length, refl, subst, sym}
use Rattle.std.specs.Prelude.{codes, map}
use Rattle.std.specs.List.{AllByRecursion, flat_map}
use Rattle.jr_builtin.specs.Builtin.{builtin}
use Rattle.jr_types.specs.declared.TypeDef.{TypeDef}
use Rattle.jr_cnd.specs.Grammar.{file_at, file_more, has_more, prefix_at, type_at, type_more}
use Rattle.jr_cnd.specs.Meaning.{IsCndAnswer, IsMeaning, cnd_of, first_bad, judged_file, meaning}
use Rattle.cnd_print.specs.Printable.{IsPrintable, IsPrintablePrefix, IsPrintableType, KeepRules}
use Rattle.cnd_print.specs.Printing.{cnd_text, prefix_text, quoted, type_text}
use Rattle.jr_cnd.specs.Reading.{State, bare_in, is_sign, many, place, sign_first, text_in}
use Rattle.cnd_pieces.specs.Tokens.{gap_size}
use Rattle.cnd_pieces.specs.Words.{is_prefix}
use Rattle.jr_cnd.specs.declared.cnd.Cnd.{Cnd}
use Rattle.jr_cnd.specs.declared.cnd.Prefix.{Prefix}
use Rattle.cnd_pieces.specs.declared.context.Context.TheVariants as context
use Rattle.jr_cnd.specs.declared.fault.NoCnd.{NoCnd}
use Rattle.jr_cnd.specs.declared.fault.NoCnd.TheVariants as no
use Rattle.jr_cnd.specs.declared.file.File.{File}
use Rattle.jr_cnd.specs.declared.file.PlacedType.{PlacedType}
use Rattle.cnd_pieces.specs.declared.piece.Placed.{Placed}
use Rattle.cnd_pieces.specs.declared.piece.Says.TheVariants as says
use Rattle.cnd_pieces.specs.declared.piece.Sign.TheVariants as sign
use Rattle.cnd_print.proofs.Follows.{at_end}
use Rattle.cnd_print.proofs.ReadItems.{five}
use Rattle.cnd_print.proofs.ReadLists.{IsRead, stopped, turned}
use Rattle.cnd_print.proofs.ReadTypes.{BeginsType, type_lines, type_read, type_then}
use Rattle.cnd_print.proofs.Steps.{Behind, Ready, left_of, prefix_step, sign_step, text_step}
use Rattle.cnd_print.proofs.Turns.{Turned, one_turn, then_turned, unturned}

-- ---- a prefix

-- a prefix behind its `<`, with what follows its line
abbrev prefix_then : Prefix → List ℕ → List ℕ
prefix_then p bs = p.prefix ++ (32 ∷ 61 ∷ 32 ∷ (quoted p.uri ++ (62 ∷ 10 ∷ bs)))

prefix_line : (p : Prefix) (bs : List ℕ) → prefix_text p ++ bs ≡ 60 ∷ prefix_then p bs
prefix_line p bs = five (codes "<") p.prefix (codes " = ") (quoted p.uri) (codes ">\n") bs

prefix_got : (x : Prefix) (p e u c : Placed) (rest : List Placed) (stop : ℕ) → bare_in p.says ≡ Some x.prefix → is_prefix x.prefix ≡ true → e.says ≡ says.Sign sign.Equal → text_in u.says ≡ Some x.uri → c.says ≡ says.Sign sign.Greater → prefix_at (left_of (p ∷ e ∷ u ∷ c ∷ rest) stop) ≡ Ok (x, left_of rest stop)
prefix_got x p e u c rest stop ep is ee eu ec = rw (ep, is, ee, eu, ec) refl

prefix_read : (x : Prefix) (bs : List ℕ) (ps : List Placed) → IsPrintablePrefix x → Behind context.BehindLess (prefix_then x bs) ps → IsRead prefix_at x 4 ps (Ready (10 ∷ bs))
prefix_read x bs ps good h =
    let value = quoted x.uri ++ (62 ∷ 10 ∷ bs) in
    let p = prefix_step x.prefix (32 ∷ 61 ∷ 32 ∷ value) ps good.prefix refl h in
    let e = sign_step p.left.context 61 sign.Equal (32 ∷ 61 ∷ 32 ∷ value) (32 ∷ value) p.more refl (omega arith) refl p.left.behind in
    let u = text_step _ x.uri (32 ∷ value) (62 ∷ 10 ∷ bs) e.more good.uri refl e.left in
    let c = sign_step _ 62 sign.Greater (62 ∷ 10 ∷ bs) (10 ∷ bs) u.more refl (omega arith) refl u.left in
    let is : ps ≡ p.first ∷ e.first ∷ u.first ∷ c.first ∷ c.more = p.is ∙ ap (λ (q : List Placed). p.first ∷ q) (e.is ∙ ap (λ (q : List Placed). e.first ∷ q) (u.is ∙ ap (λ (q : List Placed). u.first ∷ q) c.is)) in
    let size : length ps ≡ length (p.first ∷ e.first ∷ u.first ∷ c.first ∷ c.more) = ap length is in
    record {
      more = c.more;
      reads = λ stop. ap (λ (q : List Placed). prefix_at (left_of q stop)) is ∙ prefix_got x p.first e.first u.first c.first c.more stop p.bare good.prefix.1 e.said (ap text_in u.said) c.said;
      fewer = omega arith;
      left = record { context = context.Elsewhere; calm = refl; behind = c.left };
    }

-- ---- the lines of a file

-- the bytes are none, or begin with `<` or `[`
abbrev BeginsFile : List ℕ → Type 0
BeginsFile bs = (bs ≡ []) ⊎ (((more : List ℕ) × (bs ≡ 60 ∷ more)) ⊎ ((more : List ℕ) × (bs ≡ 91 ∷ more)))

-- a line's end counts for nothing before such bytes
begun : (bs : List ℕ) (ps : List Placed) → BeginsFile bs → Ready (10 ∷ bs) ps → Ready bs ps
begun bs ps (inl e) h =
    let at = subst (λ (b : List ℕ). Ready (10 ∷ b) ps) e h in
    subst (λ (b : List ℕ). Ready b ps) (sym e) (record { context = at.context; calm = at.calm; behind = (at.behind.0, at.behind.1) })
begun bs ps (inr (inl (more, e))) h =
    let at = subst (λ (b : List ℕ). Ready (10 ∷ b) ps) e h in
    subst (λ (b : List ℕ). Ready b ps) (sym e) (record { context = at.context; calm = at.calm; behind = (at.behind.0, at.behind.1) })
begun bs ps (inr (inr (more, e))) h =
    let at = subst (λ (b : List ℕ). Ready (10 ∷ b) ps) e h in
    subst (λ (b : List ℕ). Ready b ps) (sym e) (record { context = at.context; calm = at.calm; behind = (at.behind.0, at.behind.1) })

types_begin : (ds : List TypeDef) → BeginsType (flat_map type_text ds)
types_begin [] = inl refl
types_begin (d ∷ ds) = inr (type_then d (flat_map type_text ds), type_lines d (flat_map type_text ds))

type_begins : (bs : List ℕ) → BeginsType bs → BeginsFile bs
type_begins bs (inl e) = inl e
type_begins bs (inr h) = inr (inr h)

file_begins : (xs : List Prefix) (bs : List ℕ) → BeginsType bs → BeginsFile (flat_map prefix_text xs ++ bs)
file_begins [] bs h = type_begins bs h
file_begins (x ∷ xs) bs h = inr (inl (prefix_then x (flat_map prefix_text xs ++ bs), append_assoc (prefix_text x) (flat_map prefix_text xs) bs ∙ prefix_line x (flat_map prefix_text xs ++ bs)))

-- the repetition of a file
abbrev FileTurned : List Placed → List Placed → File → File → List ℕ → Type 0
FileTurned turns ps old new bs = Turned has_more file_more turns ps old new (Ready bs)

prefix_more_got : (prefixes : List Prefix) (types : List PlacedType) (x : Prefix) (p : Placed) (rest more : List Placed) (stop : ℕ) → p.says ≡ says.Sign sign.Less → prefix_at (left_of rest stop) ≡ Ok (x, left_of more stop) → file_more (record { prefixes = prefixes; types = types }) (left_of (p ∷ rest) stop) ≡ Ok (record { prefixes = prefixes ++ x ∷ []; types = types }, left_of more stop)
prefix_more_got prefixes types x p rest more stop e h = rw (e, h) refl

prefixes_turned : (xs prefixes : List Prefix) (bs : List ℕ) (turns ps : List Placed) → AllByRecursion IsPrintablePrefix xs → BeginsType bs → length ps ≤ length turns → Ready (flat_map prefix_text xs ++ bs) ps → FileTurned turns ps (record { prefixes = prefixes; types = [] }) (record { prefixes = prefixes ++ xs; types = [] }) bs
prefixes_turned [] prefixes bs turns ps good begin enough h =
    subst (λ (l : List Prefix). FileTurned turns ps (record { prefixes = prefixes; types = [] }) (record { prefixes = l; types = [] }) bs) (sym (append-nil prefixes))
    (unturned has_more file_more turns ps (record { prefixes = prefixes; types = [] }) (Ready bs) enough h)
prefixes_turned (x ∷ xs) prefixes bs turns ps good begin enough h =
    let rest = flat_map prefix_text xs ++ bs in
    let at = subst (λ (t : List ℕ). Ready t ps) (append_assoc (prefix_text x) (flat_map prefix_text xs) bs ∙ prefix_line x rest) h in
    let l = sign_step at.context 60 sign.Less (60 ∷ prefix_then x rest) (prefix_then x rest) ps refl (omega arith) refl at.behind in
    let r = prefix_read x rest l.more good.0 l.left in
    let fewer : 4 + length r.more ≤ length l.more = r.fewer in
    let one = one_turn has_more file_more turns ps (record { prefixes = prefixes; types = [] }) (record { prefixes = prefixes ++ x ∷ []; types = [] }) l.first l.more r.more (Ready rest) l.is refl
    (λ stop. prefix_more_got prefixes [] x l.first l.more r.more stop l.said (r.reads stop)) (omega arith) enough (begun rest r.more (file_begins xs bs begin) r.left) in
    let all = then_turned has_more file_more turns ps (record { prefixes = prefixes; types = [] }) (record { prefixes = prefixes ++ x ∷ []; types = [] }) (record { prefixes = (prefixes ++ x ∷ []) ++ xs; types = [] }) (Ready rest) (Ready bs) one
    (λ later more k i. prefixes_turned xs (prefixes ++ x ∷ []) bs later more good.1 begin k i) in
    subst (λ (m : List Prefix). FileTurned turns ps (record { prefixes = prefixes; types = [] }) (record { prefixes = m; types = [] }) bs) (append_assoc prefixes (x ∷ []) xs) all

-- types are read, each with some place
record TypesTurned (ds : List TypeDef) (prefixes : List Prefix) (types : List PlacedType) (turns ps : List Placed) (stop : ℕ) : Type 0 where
  pub read : List PlacedType
  pub are : map (λ d. d.definition) read ≡ ds
  pub all : many has_more file_more turns (record { prefixes = prefixes; types = types }) (left_of ps stop) ≡ Ok (record { prefixes = prefixes; types = types ++ read }, left_of [] stop)

no_prefix : (f : File) (s : State) → sign_first sign.Less s.pieces ≡ false → file_more f s ≡ type_more f s
no_prefix f s e = rw e refl

a_type : (f : File) (d : TypeDef) (s u : State) → type_at s ≡ Ok (d, u) → type_more f s ≡ Ok (record { prefixes = f.prefixes; types = f.types ++ record { start = place s; definition = d } ∷ [] }, u)
a_type f d s u e = rw (e, type_more) refl

type_more_got : (prefixes : List Prefix) (types : List PlacedType) (d : TypeDef) (p : Placed) (rest more : List Placed) (stop : ℕ) → p.says ≡ says.Sign sign.OpenSquare → type_at (left_of (p ∷ rest) stop) ≡ Ok (d, left_of more stop) → file_more (record { prefixes = prefixes; types = types }) (left_of (p ∷ rest) stop) ≡ Ok (record { prefixes = prefixes; types = types ++ record { start = p.start; definition = d } ∷ [] }, left_of more stop)
type_more_got prefixes types d p rest more stop e h =
    no_prefix (record { prefixes = prefixes; types = types }) (left_of (p ∷ rest) stop) (ap (is_sign sign.Less) e)
    ∙ a_type (record { prefixes = prefixes; types = types }) d (left_of (p ∷ rest) stop) (left_of more stop) h

types_turned : (ds : List TypeDef) (prefixes : List Prefix) (types : List PlacedType) (turns ps : List Placed) (stop : ℕ) → AllByRecursion IsPrintableType ds → length ps ≤ length turns → Ready (flat_map type_text ds) ps → TypesTurned ds prefixes types turns ps stop
types_turned [] prefixes types turns ps stop good enough h =
    let none : ps ≡ [] = at_end h.context h.behind.0 ps h.behind.1 in
    record {
      read = [];
      are = refl;
      all = ap (λ (q : List Placed). many has_more file_more turns (record { prefixes = prefixes; types = types }) (left_of q stop)) none
          ∙ stopped has_more file_more turns (record { prefixes = prefixes; types = types }) (left_of [] stop) refl
          ∙ ap (λ (l : List PlacedType). Ok (record { prefixes = prefixes; types = l }, left_of [] stop)) (sym (append-nil types));
    }
types_turned (d ∷ ds) prefixes types [] ps stop good enough h =
    let at = subst (λ (t : List ℕ). Ready t ps) (type_lines d (flat_map type_text ds)) h in
    let o = sign_step at.context 91 sign.OpenSquare (91 ∷ type_then d (flat_map type_text ds)) (type_then d (flat_map type_text ds)) ps refl (omega arith) refl at.behind in
    let size : length ps ≡ length (o.first ∷ o.more) = ap length o.is in
    absurd (omega (arith, size, enough))
types_turned (d ∷ ds) prefixes types (t ∷ turns) ps stop good enough h =
    let rest = flat_map type_text ds in
    let at = subst (λ (t : List ℕ). Ready t ps) (type_lines d rest) h in
    let o = sign_step at.context 91 sign.OpenSquare (91 ∷ type_then d rest) (type_then d rest) ps refl (omega arith) refl at.behind in
    let r = type_read d rest ps good.0 (types_begin ds) at in
    let fewer : 3 + length r.more ≤ length ps = r.fewer in
    let placed : PlacedType = record { start = o.first.start; definition = d } in
    let one = ap (λ (q : List Placed). type_at (left_of q stop)) (sym o.is) ∙ r.reads stop in
    let got = type_more_got prefixes types d o.first o.more r.more stop o.said one in
    let s = types_turned ds prefixes (types ++ placed ∷ []) turns r.more stop good.1 (omega arith) (begun rest r.more (type_begins rest (types_begin ds)) r.left) in
    record {
      read = placed ∷ s.read;
      are = ap (λ (l : List TypeDef). d ∷ l) s.are;
      all = ap (λ (q : List Placed). many has_more file_more (t ∷ turns) (record { prefixes = prefixes; types = types }) (left_of q stop)) o.is
          ∙ turned has_more file_more t turns (record { prefixes = prefixes; types = types }) (record { prefixes = prefixes; types = types ++ placed ∷ [] }) (left_of (o.first ∷ o.more) stop) (left_of r.more stop) refl got
          ∙ s.all
          ∙ ap (λ (l : List PlacedType). Ok (record { prefixes = prefixes; types = l }, left_of [] stop)) (append_assoc types (placed ∷ []) s.read);
    }

-- ---- the whole text

no_bad : (types : List TypeDef) (placed : List PlacedType) → KeepRules types (map (λ d. d.definition) placed) → first_bad types placed ≡ None
no_bad types [] h = refl
no_bad types (d ∷ ds) h = rw h.0 (no_bad (types ++ d.definition ∷ []) ds h.1)

meant : (ps : List Placed) (stop : ℕ) (f : File) (s : State) → file_at (left_of ps stop) ≡ Ok (f, s) → meaning ps stop ≡ judged_file f
meant ps stop f s e = rw (e, meaning) refl

kept : (f : File) → first_bad builtin f.types ≡ None → judged_file f ≡ Ok (cnd_of f)
kept f e = rw (e, judged_file) refl

pub read_back : (c : Cnd) (m : Result Cnd NoCnd) → IsPrintable c → IsMeaning (cnd_text c) m → m ≡ Ok c
read_back c m good h =
    let text = cnd_text c in
    let types = flat_map type_text c.definitions in
    let start : Ready text h.0 = record { context = context.Elsewhere; calm = refl; behind = (gap_size text, h.1) } in
    let p = prefixes_turned c.prefixes [] types h.0 h.0 good.prefixes (types_begin c.definitions) (omega arith) start in
    let t = types_turned c.definitions c.prefixes [] p.turns_left p.more (length text) good.definitions p.enough p.left in
    let f : File = record { prefixes = c.prefixes; types = t.read } in
    let file : file_at (left_of h.0 (length text)) ≡ Ok (f, left_of [] (length text)) = p.goes (length text) ∙ t.all in
    let rules = no_bad builtin t.read (subst (λ (l : List TypeDef). KeepRules builtin l) (sym t.are) good.rules) in
    sym h.2 ∙ meant h.0 (length text) f (left_of [] (length text)) file ∙ kept f rules ∙ ap (λ (l : List TypeDef). Ok (record { prefixes = c.prefixes; definitions = l })) t.are

-- what the canonical text is answered, by whatever answers what texts mean
pub answered_back : (c : Cnd) (r : Result Cnd NoCnd) → IsPrintable c → IsCndAnswer (cnd_text c) r → (r ≡ Ok c) ⊎ (r ≡ Err no.Memory)
answered_back c (Ok x) good h = inl (read_back c (Ok x) good h)
answered_back c (Err (no.Syntax offset)) good h = inl (read_back c (Err (no.Syntax offset)) good h)
answered_back c (Err (no.BadDef start)) good h = inl (read_back c (Err (no.BadDef start)) good h)
answered_back c (Err no.Memory) good h = inr refl
