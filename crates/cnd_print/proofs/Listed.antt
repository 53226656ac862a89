-- Lists of names, of texts and of values are read back.
use Rattle.std.proofs.Common.{◌≡◌, ◌∙◌, ℕ, false, List, ◌∷◌, ◌++◌, Option, None, Some, Ok, ap, arith, drop, length, refl, subst}
use Rattle.std.specs.Prelude.{IsUtf8}
use Rattle.jr_path.specs.Grammar.{IsName}
use Rattle.jr_path.specs.declared.name.Name.{Name}
use Rattle.jr_value.specs.Texts.{IsFound, IsText}
use Rattle.jr_value.specs.declared.value.Kind.{Kind}
use Rattle.jr_value.specs.declared.value.Value.{Value}
use Rattle.jr_cnd.specs.Grammar.{value_at, value_in}
use Rattle.cnd_pieces.specs.Pieces.{after_comma, is_behind_less}
use Rattle.cnd_print.specs.Printable.{IsPrintableValue}
use Rattle.cnd_print.specs.Printing.{name_text, quoted, value_text}
use Rattle.jr_cnd.specs.Reading.{name_at, text_at, text_in}
use Rattle.cnd_pieces.specs.Tokens.{gap_size, goes_on_bare}
use Rattle.cnd_pieces.specs.declared.context.Context.{Context}
use Rattle.cnd_pieces.specs.declared.context.Context.TheVariants as context
use Rattle.cnd_pieces.specs.declared.piece.Placed.{Placed}
use Rattle.cnd_pieces.specs.declared.piece.Sign.TheVariants as sign
use Rattle.jr_value.proofs.Texts.{text_one}
use Rattle.cnd_print.proofs.ReadLists.{CommaRead, IsRead, Listing, name_got, text_got}
use Rattle.cnd_print.proofs.Steps.{Behind, Ready, calm_text, left_of, name_starts, name_step, sign_step, text_step}
use Rattle.cnd_print.proofs.Values.{value_back}

calm_comma : (c : Context) → is_behind_less (after_comma c) ≡ false
calm_comma (context.Listed k) = refl
calm_comma c = refl

pub any_comma : (bs : List ℕ) (ps : List Placed) → Ready (44 ∷ bs) ps → CommaRead ps (Ready bs)
any_comma bs ps h =
    let r = sign_step h.context 44 sign.Comma (44 ∷ bs) bs ps refl (omega arith) refl h.behind in
    record { first = r.first; more = r.more; is = r.is; said = r.said; left = record { context = after_comma h.context; calm = calm_comma h.context; behind = r.left } }

-- ---- names

pub name_read : (n all bs : List ℕ) (ps : List Placed) → IsName n → goes_on_bare bs ≡ false → drop (gap_size all) all ≡ name_text n ++ bs → Ready all ps → IsRead name_at n 1 ps (Ready bs)
name_read n all bs ps good bare e h =
    let r = name_step h.context n all bs ps good bare e h.behind in
    let size : length ps ≡ length (r.first ∷ r.more) = ap length r.is in
    record {
      more = r.more;
      reads = λ stop. ap (λ (q : List Placed). name_at (left_of q stop)) r.is ∙ name_got r.first r.more n stop r.name;
      fewer = omega arith;
      left = r.left;
    }

abbrev pub names : Listing Name
names = record {
  print = name_text;
  one = name_at;
  Good = IsName;
  Before = Ready;
  Done = Ready;
  begun = name_starts;
  item = name_read;
  comma = any_comma;
}

-- ---- texts

-- the pieces are what the bytes say, in whatever context
abbrev pub Somewhere : List ℕ → List Placed → Type 0
Somewhere bs ps = (c : Context) × Behind c bs ps

pub text_comma : (bs : List ℕ) (ps : List Placed) → Ready (44 ∷ bs) ps → CommaRead ps (Somewhere bs)
text_comma bs ps h = let r = any_comma bs ps h in record { first = r.first; more = r.more; is = r.is; said = r.said; left = (r.left.context, r.left.behind) }

pub text_read : (t all bs : List ℕ) (ps : List Placed) → IsUtf8 t → goes_on_bare bs ≡ false → drop (gap_size all) all ≡ quoted t ++ bs → Somewhere all ps → IsRead text_at t 1 ps (Ready bs)
text_read t all bs ps good bare e h =
    let r = text_step h.0 t all bs ps good e h.1 in
    let size : length ps ≡ length (r.first ∷ r.more) = ap length r.is in
    record {
      more = r.more;
      reads = λ stop. ap (λ (q : List Placed). text_at (left_of q stop)) r.is ∙ text_got r.first r.more t stop (ap text_in r.said);
      fewer = omega arith;
      left = record { context = _; calm = calm_text h.0; behind = r.left };
    }

abbrev pub texts : Listing (List ℕ)
texts = record {
  print = quoted;
  one = text_at;
  Good = IsUtf8;
  Before = Somewhere;
  Done = Ready;
  begun = λ t bs good. refl;
  item = text_read;
  comma = text_comma;
}

-- ---- values of a kind

value_got : (p : Placed) (ps : List Placed) (v : Value) (stop : ℕ) → value_in p.says ≡ Some v → value_at (left_of (p ∷ ps) stop) ≡ Ok (v, left_of ps stop)
value_got p ps v stop e = rw e refl

the_value : (k : Kind) (t : List ℕ) (v : Value) (o : Option Value) → IsText k t v → IsFound (IsText k t) o → o ≡ Some v
the_value k t v None h found = absurd (found v h)
the_value k t v (Some w) h found = ap Some (text_one k t w v found h)

pub value_read : (k : Kind) (v : Value) (all bs : List ℕ) (ps : List Placed) → IsPrintableValue k v → goes_on_bare bs ≡ false → drop (gap_size all) all ≡ quoted (value_text v) ++ bs → Behind (context.Default k) all ps → IsRead value_at v 1 ps (Behind (context.Listed k) bs)
value_read k v all bs ps good bare e h =
    let r = text_step (context.Default k) (value_text v) all bs ps good.text e h in
    let size : length ps ≡ length (r.first ∷ r.more) = ap length r.is in
    let is_text : IsText k (value_text v) v = subst (λ l. IsText l (value_text v) v) good.kind (value_back v good.range) in
    record {
      more = r.more;
      reads = λ stop. ap (λ (q : List Placed). value_at (left_of q stop)) r.is ∙ value_got r.first r.more v stop (ap value_in r.said ∙ the_value k (value_text v) v r.value is_text r.is_value);
      fewer = omega arith;
      left = r.left;
    }

pub value_comma : (k : Kind) (bs : List ℕ) (ps : List Placed) → Behind (context.Listed k) (44 ∷ bs) ps → CommaRead ps (Behind (context.Default k) bs)
value_comma k bs ps h =
    let r = sign_step (context.Listed k) 44 sign.Comma (44 ∷ bs) bs ps refl (omega arith) refl h in
    record { first = r.first; more = r.more; is = r.is; said = r.said; left = r.left }

abbrev pub values : (k : Kind) → Listing Value
values k = record {
  print = λ v. quoted (value_text v);
  one = value_at;
  Good = IsPrintableValue k;
  Before = Behind (context.Default k);
  Done = Behind (context.Listed k);
  begun = λ v bs good. refl;
  item = value_read k;
  comma = value_comma k;
}
