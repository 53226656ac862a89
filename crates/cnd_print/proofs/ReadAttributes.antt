-- The attributes of items and of types are read back.
use Rattle.std.proofs.Common.{◌≡◌, ◌∙◌, ℕ, ◌+◌, ◌≤◌, Bool, true, false, List, ◌∷◌, ◌++◌, Option, None, Some, Ok, ap, append_assoc, arith, length, refl, subst}
use Rattle.std.specs.Prelude.{if◌then◌else◌, codes, is_some, unwrap_or, IfSome}
use Rattle.jr_path.proofs.OwnNames.{plain_name}
use Rattle.jr_path.specs.Grammar.{IsName}
use Rattle.jr_path.specs.declared.name.Name.{Name}
use Rattle.jr_types.specs.declared.OnParentVersion.{OnParentVersion}
use Rattle.jr_types.specs.declared.OnParentVersion.TheVariants as opv
use Rattle.jr_cnd.specs.Grammar.{addable, item_attribute_first, item_attribute_more, item_attributes_at, item_word_first, item_word_in, where_lacking, lacks, may_add, type_attribute_first, type_attribute_more, type_attributes_at, type_word_first, type_word_in, with_item_word, with_type_word}
use Rattle.cnd_print.specs.Printing.{is_bare_name, name_behind, name_text, opv_part, word_if}
use Rattle.jr_cnd.specs.Reading.{State, name_at}
use Rattle.cnd_pieces.specs.Tokens.{goes_on_bare}
use Rattle.jr_cnd.specs.Words.{item_word, type_word}
use Rattle.jr_cnd.specs.declared.attributes.ItemAttributes.{ItemAttributes}
use Rattle.cnd_pieces.specs.declared.piece.Placed.{Placed}
use Rattle.cnd_pieces.specs.declared.piece.Says.TheVariants as says
use Rattle.jr_cnd.specs.declared.types.TypeAttributes.{TypeAttributes}
use Rattle.jr_cnd.specs.declared.words.ItemWord.{ItemWord}
use Rattle.jr_cnd.specs.declared.words.ItemWord.TheVariants as item
use Rattle.jr_cnd.specs.declared.words.TypeWord.{TypeWord}
use Rattle.jr_cnd.specs.declared.words.TypeWord.TheVariants as type
use Rattle.cnd_print.proofs.Listed.{name_read}
use Rattle.cnd_print.proofs.ReadLists.{IsRead}
use Rattle.cnd_print.proofs.Steps.{Ready, bare_name_starts, calm_word, left_of, name_starts, spaced, word_step}
use Rattle.cnd_print.proofs.Turns.{Turned, ended, one_turn, then_turned, unturned}

-- no bare token goes on behind what may be left out
pub bare_if : (b : Bool) (w bs : List ℕ) → goes_on_bare bs ≡ false → goes_on_bare (word_if b (32 ∷ w) ++ bs) ≡ false
bare_if true w bs h = refl
bare_if false w bs h = h

pub bare_opv : (o : OnParentVersion) (bs : List ℕ) → goes_on_bare bs ≡ false → goes_on_bare (opv_part o ++ bs) ≡ false
bare_opv opv.Copy bs h = h
bare_opv opv.Version bs h = refl
bare_opv opv.Initialize bs h = refl
bare_opv opv.Compute bs h = refl
bare_opv opv.Ignore bs h = refl
bare_opv opv.Abort bs h = refl

-- ---- a word, as an attribute of an item

word_first : (of_property : Bool) (old : ItemAttributes) (w : List ℕ) (x : ItemWord) (p : Placed) (rest : List Placed) → p.says ≡ says.Name w → item_word w ≡ Some x → may_add of_property old x ≡ true → item_word_first of_property old (p ∷ rest) ≡ Some x
word_first of_property old w x p rest said is may =
    ap (λ u. addable of_property old (item_word_in u)) said
    ∙ ap (addable of_property old) is
    ∙ ap (λ b. if b then Some x else None) may

word_more : (of_property : Bool) (old : ItemAttributes) (x : ItemWord) (p : Placed) (rest : List Placed) (stop : ℕ) → item_word_first of_property old (p ∷ rest) ≡ Some x → item_attribute_more of_property old (left_of (p ∷ rest) stop) ≡ Ok (with_item_word old x, left_of rest stop)
word_more of_property old x p rest stop e = rw e refl

-- the repetition of an item's attributes
abbrev pub ItemTurned : Bool → List Placed → List Placed → ItemAttributes → ItemAttributes → List ℕ → Type 0
ItemTurned of_property turns ps old new bs = Turned (item_attribute_first of_property) (item_attribute_more of_property) turns ps old new (Ready bs)

item_turn : (of_property : Bool) (w : List ℕ) (x : ItemWord) (old : ItemAttributes) (bs : List ℕ) (turns ps : List Placed) → IsName w → is_bare_name w ≡ true → item_word w ≡ Some x → may_add of_property old x ≡ true → goes_on_bare bs ≡ false → length ps ≤ length turns → Ready (32 ∷ (w ++ bs)) ps → ItemTurned of_property turns ps old (with_item_word old x) bs
item_turn of_property w x old bs turns ps name bare is may stop enough h =
    let r = word_step h.context w (32 ∷ (w ++ bs)) bs ps name bare stop (spaced (w ++ bs) (bare_name_starts w bs bare)) h.behind in
    let first = word_first of_property old w x r.first r.more r.said is may in
    one_turn (item_attribute_first of_property) (item_attribute_more of_property) turns ps old (with_item_word old x) r.first r.more r.more (Ready bs) r.is
    (ap is_some first) (λ s. word_more of_property old x r.first r.more s first) (omega arith) enough
    (record { context = _; calm = calm_word h.context w; behind = r.left })

item_turn_if : (b of_property : Bool) (w : List ℕ) (x : ItemWord) (old new : ItemAttributes) (bs : List ℕ) → IsName w → is_bare_name w ≡ true → item_word w ≡ Some x → (b ≡ true → may_add of_property old x ≡ true) → (if b then with_item_word old x else old) ≡ new → goes_on_bare bs ≡ false → (turns ps : List Placed) → length ps ≤ length turns → Ready (word_if b (32 ∷ w) ++ bs) ps → ItemTurned of_property turns ps old new bs
item_turn_if true of_property w x old new bs name bare is may e stop turns ps enough h =
    subst (λ n. ItemTurned of_property turns ps old n bs) e (item_turn of_property w x old bs turns ps name bare is (may refl) stop enough h)
item_turn_if false of_property w x old new bs name bare is may e stop turns ps enough h =
    subst (λ n. ItemTurned of_property turns ps old n bs) e (unturned (item_attribute_first of_property) (item_attribute_more of_property) turns ps old (Ready bs) enough h)

-- ---- the attributes of an item

-- those that stand, as they are read
abbrev pub attributes : Bool → Bool → Bool → Bool → Option OnParentVersion → ItemAttributes
attributes m a p x o = record { mandatory = m; autocreated = a; protected = p; multiple = x; opv = o }

-- what is read where COPY isn't written
abbrev pub written_opv : OnParentVersion → Option OnParentVersion
written_opv opv.Copy = None
written_opv o = Some o

pub opv_back : (o : OnParentVersion) → unwrap_or (written_opv o) opv.Copy ≡ o
opv_back opv.Copy = refl
opv_back opv.Version = refl
opv_back opv.Initialize = refl
opv_back opv.Compute = refl
opv_back opv.Ignore = refl
opv_back opv.Abort = refl

set_mandatory : (m : Bool) → (if m then with_item_word (attributes false false false false None) item.Mandatory else attributes false false false false None) ≡ attributes m false false false None
set_mandatory true = refl
set_mandatory false = refl

set_autocreated : (m a : Bool) → (if a then with_item_word (attributes m false false false None) item.Autocreated else attributes m false false false None) ≡ attributes m a false false None
set_autocreated m true = refl
set_autocreated m false = refl

set_protected : (m a p : Bool) → (if p then with_item_word (attributes m a false false None) item.Protected else attributes m a false false None) ≡ attributes m a p false None
set_protected m a true = refl
set_protected m a false = refl

set_multiple : (m a p x : Bool) → (if x then with_item_word (attributes m a p false None) item.Multiple else attributes m a p false None) ≡ attributes m a p x None
set_multiple m a p true = refl
set_multiple m a p false = refl

may_multiple : (of_property x : Bool) (m a p : Bool) → (x ≡ true → of_property ≡ true) → x ≡ true → may_add of_property (attributes m a p false None) item.Multiple ≡ true
may_multiple true x m a p h e = refl
may_multiple false x m a p h e = h e

opv_turn : (of_property m a p x : Bool) (w : List ℕ) (o : OnParentVersion) (bs : List ℕ) (turns ps : List Placed) → IsName w → is_bare_name w ≡ true → item_word w ≡ Some (item.Opv o) → goes_on_bare bs ≡ false → length ps ≤ length turns → Ready (32 ∷ (w ++ bs)) ps → ItemTurned of_property turns ps (attributes m a p x None) (attributes m a p x (Some o)) bs
opv_turn of_property m a p x w o bs turns ps name bare is stop enough h = item_turn of_property w (item.Opv o) (attributes m a p x None) bs turns ps name bare is refl stop enough h

opv_turned : (of_property m a p x : Bool) (o : OnParentVersion) (bs : List ℕ) (turns ps : List Placed) → goes_on_bare bs ≡ false → length ps ≤ length turns → Ready (opv_part o ++ bs) ps → ItemTurned of_property turns ps (attributes m a p x None) (attributes m a p x (written_opv o)) bs
opv_turned of_property m a p x opv.Copy bs turns ps stop enough h = unturned (item_attribute_first of_property) (item_attribute_more of_property) turns ps (attributes m a p x None) (Ready bs) enough h
opv_turned of_property m a p x opv.Version bs turns ps stop enough h = opv_turn of_property m a p x (codes "VERSION") opv.Version bs turns ps (plain_name (codes "VERSION") refl) refl refl stop enough h
opv_turned of_property m a p x opv.Initialize bs turns ps stop enough h = opv_turn of_property m a p x (codes "INITIALIZE") opv.Initialize bs turns ps (plain_name (codes "INITIALIZE") refl) refl refl stop enough h
opv_turned of_property m a p x opv.Compute bs turns ps stop enough h = opv_turn of_property m a p x (codes "COMPUTE") opv.Compute bs turns ps (plain_name (codes "COMPUTE") refl) refl refl stop enough h
opv_turned of_property m a p x opv.Ignore bs turns ps stop enough h = opv_turn of_property m a p x (codes "IGNORE") opv.Ignore bs turns ps (plain_name (codes "IGNORE") refl) refl refl stop enough h
opv_turned of_property m a p x opv.Abort bs turns ps stop enough h = opv_turn of_property m a p x (codes "ABORT") opv.Abort bs turns ps (plain_name (codes "ABORT") refl) refl refl stop enough h

-- the attributes of an item as they are printed, with what follows them
abbrev pub behind_protected : Bool → OnParentVersion → List ℕ → List ℕ
behind_protected x o bs = word_if x (codes " multiple") ++ (opv_part o ++ bs)

abbrev pub behind_mandatory : Bool → Bool → Bool → OnParentVersion → List ℕ → List ℕ
behind_mandatory a p x o bs = word_if a (codes " autocreated") ++ (word_if p (codes " protected") ++ behind_protected x o bs)

abbrev pub attributes_then : Bool → Bool → Bool → Bool → OnParentVersion → List ℕ → List ℕ
attributes_then m a p x o bs = word_if m (codes " mandatory") ++ behind_mandatory a p x o bs

bare_protected : (x : Bool) (o : OnParentVersion) (bs : List ℕ) → goes_on_bare bs ≡ false → goes_on_bare (behind_protected x o bs) ≡ false
bare_protected x o bs h = bare_if x (codes "multiple") (opv_part o ++ bs) (bare_opv o bs h)

bare_mandatory : (a p x : Bool) (o : OnParentVersion) (bs : List ℕ) → goes_on_bare bs ≡ false → goes_on_bare (behind_mandatory a p x o bs) ≡ false
bare_mandatory a p x o bs h = bare_if a (codes "autocreated") (word_if p (codes " protected") ++ behind_protected x o bs) (bare_if p (codes "protected") (behind_protected x o bs) (bare_protected x o bs h))

pub bare_attributes : (m a p x : Bool) (o : OnParentVersion) (bs : List ℕ) → goes_on_bare bs ≡ false → goes_on_bare (attributes_then m a p x o bs) ≡ false
bare_attributes m a p x o bs h = bare_if m (codes "mandatory") (behind_mandatory a p x o bs) (bare_mandatory a p x o bs h)

last_turned : (of_property m a p x : Bool) (o : OnParentVersion) (bs : List ℕ) (turns ps : List Placed) → (x ≡ true → of_property ≡ true) → goes_on_bare bs ≡ false → length ps ≤ length turns → Ready (behind_protected x o bs) ps → ItemTurned of_property turns ps (attributes m a p false None) (attributes m a p x (written_opv o)) bs
last_turned of_property m a p x o bs turns ps many_values bare enough h =
    then_turned (item_attribute_first of_property) (item_attribute_more of_property) turns ps (attributes m a p false None) (attributes m a p x None) (attributes m a p x (written_opv o)) (Ready (opv_part o ++ bs)) (Ready bs)
    (item_turn_if x of_property (codes "multiple") item.Multiple (attributes m a p false None) (attributes m a p x None) (opv_part o ++ bs) (plain_name (codes "multiple") refl) refl refl (may_multiple of_property x m a p many_values) (set_multiple m a p x) (bare_opv o bs bare) turns ps enough h)
    (λ later more k l. opv_turned of_property m a p x o bs later more bare k l)

rest_turned : (of_property m a p x : Bool) (o : OnParentVersion) (bs : List ℕ) (turns ps : List Placed) → (x ≡ true → of_property ≡ true) → goes_on_bare bs ≡ false → length ps ≤ length turns → Ready (behind_mandatory a p x o bs) ps → ItemTurned of_property turns ps (attributes m false false false None) (attributes m a p x (written_opv o)) bs
rest_turned of_property m a p x o bs turns ps many_values bare enough h =
    then_turned (item_attribute_first of_property) (item_attribute_more of_property) turns ps (attributes m false false false None) (attributes m a false false None) (attributes m a p x (written_opv o)) (Ready (word_if p (codes " protected") ++ behind_protected x o bs)) (Ready bs)
    (item_turn_if a of_property (codes "autocreated") item.Autocreated (attributes m false false false None) (attributes m a false false None) (word_if p (codes " protected") ++ behind_protected x o bs) (plain_name (codes "autocreated") refl) refl refl (λ e. refl) (set_autocreated m a) (bare_if p (codes "protected") (behind_protected x o bs) (bare_protected x o bs bare)) turns ps enough h)
    (λ later more k l.
    then_turned (item_attribute_first of_property) (item_attribute_more of_property) later more (attributes m a false false None) (attributes m a p false None) (attributes m a p x (written_opv o)) (Ready (behind_protected x o bs)) (Ready bs)
    (item_turn_if p of_property (codes "protected") item.Protected (attributes m a false false None) (attributes m a p false None) (behind_protected x o bs) (plain_name (codes "protected") refl) refl refl (λ e. refl) (set_protected m a p) (bare_protected x o bs bare) later more k l)
    (λ last left i j. last_turned of_property m a p x o bs last left many_values bare i j))

-- the attributes of an item are read back, before what is no further one
pub item_attributes_read : (of_property m a p x : Bool) (o : OnParentVersion) (bs : List ℕ) (ps : List Placed) → (x ≡ true → of_property ≡ true) → goes_on_bare bs ≡ false → ((more : List Placed) → Ready bs more → item_attribute_first of_property (attributes m a p x (written_opv o)) more ≡ false) → Ready (attributes_then m a p x o bs) ps → IsRead (item_attributes_at of_property) (attributes m a p x (written_opv o)) 0 ps (Ready bs)
item_attributes_read of_property m a p x o bs ps many_values bare ends h =
    let all = then_turned (item_attribute_first of_property) (item_attribute_more of_property) ps ps (attributes false false false false None) (attributes m false false false None) (attributes m a p x (written_opv o)) (Ready (behind_mandatory a p x o bs)) (Ready bs)
    (item_turn_if m of_property (codes "mandatory") item.Mandatory (attributes false false false false None) (attributes m false false false None) (behind_mandatory a p x o bs) (plain_name (codes "mandatory") refl) refl refl (λ e. refl) (set_mandatory m) (bare_mandatory a p x o bs bare) ps ps (omega arith) h)
    (λ later more k l. rest_turned of_property m a p x o bs later more many_values bare k l) in
    let r = ended (item_attribute_first of_property) (item_attribute_more of_property) ps ps (attributes false false false false None) (attributes m a p x (written_opv o)) (Ready bs) all ends in
    record { more = r.more; reads = r.reads; fewer = r.fewer; left = r.left }

-- ---- a word, as an attribute of a type

type_first : (old : TypeAttributes) (w : List ℕ) (x : TypeWord) (p : Placed) (rest : List Placed) → p.says ≡ says.Name w → type_word w ≡ Some x → lacks old x ≡ true → type_word_first old (p ∷ rest) ≡ Some x
type_first old w x p rest said is lack =
    ap (λ u. where_lacking old (type_word_in u)) said
    ∙ ap (where_lacking old) is
    ∙ ap (λ b. if b then Some x else None) lack

type_more : (old : TypeAttributes) (x : TypeWord) (p : Placed) (rest : List Placed) (stop : ℕ) → type_word_first old (p ∷ rest) ≡ Some x → type_attribute_more old (left_of (p ∷ rest) stop) ≡ with_type_word old x (left_of rest stop)
type_more old x p rest stop e = rw e refl

-- the repetition of a type's attributes
abbrev pub TypeTurned : List Placed → List Placed → TypeAttributes → TypeAttributes → List ℕ → Type 0
TypeTurned turns ps old new bs = Turned type_attribute_first type_attribute_more turns ps old new (Ready bs)

type_turn : (w : List ℕ) (x : TypeWord) (old new : TypeAttributes) (bs : List ℕ) (turns ps : List Placed) → IsName w → is_bare_name w ≡ true → type_word w ≡ Some x → lacks old x ≡ true → ((s : State) → with_type_word old x s ≡ Ok (new, s)) → goes_on_bare bs ≡ false → length ps ≤ length turns → Ready (32 ∷ (w ++ bs)) ps → TypeTurned turns ps old new bs
type_turn w x old new bs turns ps name bare is lack with stop enough h =
    let r = word_step h.context w (32 ∷ (w ++ bs)) bs ps name bare stop (spaced (w ++ bs) (bare_name_starts w bs bare)) h.behind in
    let first = type_first old w x r.first r.more r.said is lack in
    one_turn type_attribute_first type_attribute_more turns ps old new r.first r.more r.more (Ready bs) r.is
    (ap is_some first) (λ s. type_more old x r.first r.more s first ∙ with (left_of r.more s)) (omega arith) enough
    (record { context = _; calm = calm_word h.context w; behind = r.left })

type_turn_if : (b : Bool) (w : List ℕ) (x : TypeWord) (old set new : TypeAttributes) (bs : List ℕ) → IsName w → is_bare_name w ≡ true → type_word w ≡ Some x → lacks old x ≡ true → ((s : State) → with_type_word old x s ≡ Ok (set, s)) → (if b then set else old) ≡ new → goes_on_bare bs ≡ false → (turns ps : List Placed) → length ps ≤ length turns → Ready (word_if b (32 ∷ w) ++ bs) ps → TypeTurned turns ps old new bs
type_turn_if true w x old set new bs name bare is lack with e stop turns ps enough h =
    subst (λ n. TypeTurned turns ps old n bs) e (type_turn w x old set bs turns ps name bare is lack with stop enough h)
type_turn_if false w x old set new bs name bare is lack with e stop turns ps enough h =
    subst (λ n. TypeTurned turns ps old n bs) e (unturned type_attribute_first type_attribute_more turns ps old (Ready bs) enough h)

-- ---- the attributes of a type

-- those that stand, as they are read
abbrev pub attributes_of_type : Bool → Bool → Bool → Option Name → TypeAttributes
attributes_of_type m a o n = record { mixin = m; is_abstract = a; orderable = o; primary_item = n }

set_mixin : (m : Bool) → (if m then attributes_of_type true false false None else attributes_of_type false false false None) ≡ attributes_of_type m false false None
set_mixin true = refl
set_mixin false = refl

set_abstract : (m a : Bool) → (if a then attributes_of_type m true false None else attributes_of_type m false false None) ≡ attributes_of_type m a false None
set_abstract m true = refl
set_abstract m false = refl

set_orderable : (m a o : Bool) → (if o then attributes_of_type m a true None else attributes_of_type m a false None) ≡ attributes_of_type m a o None
set_orderable m a true = refl
set_orderable m a false = refl

primary_got : (old : TypeAttributes) (n : Name) (s u : State) → name_at s ≡ Ok (n, u) → with_type_word old type.PrimaryItem s ≡ Ok (record old { primary_item = Some n }, u)
primary_got old n s u e = rw e refl

pub bare_primary : (n : Option Name) (bs : List ℕ) → goes_on_bare bs ≡ false → goes_on_bare (name_behind (codes " primaryitem ") n ++ bs) ≡ false
bare_primary None bs h = h
bare_primary (Some n) bs h = refl

primary_turned : (m a o : Bool) (n : Option Name) (bs : List ℕ) (turns ps : List Placed) → IfSome n IsName → goes_on_bare bs ≡ false → length ps ≤ length turns → Ready (name_behind (codes " primaryitem ") n ++ bs) ps → TypeTurned turns ps (attributes_of_type m a o None) (attributes_of_type m a o n) bs
primary_turned m a o None bs turns ps name stop enough h = unturned type_attribute_first type_attribute_more turns ps (attributes_of_type m a o None) (Ready bs) enough h
primary_turned m a o (Some n) bs turns ps name stop enough h =
    let old = attributes_of_type m a o None in
    let at = subst (λ (t : List ℕ). Ready t ps) (append_assoc (codes " primaryitem ") (name_text n) bs) h in
    let tail = 32 ∷ (name_text n ++ bs) in
    let r = word_step at.context (codes "primaryitem") (32 ∷ (codes "primaryitem" ++ tail)) tail ps (plain_name (codes "primaryitem") refl) refl refl (spaced (codes "primaryitem" ++ tail) refl) at.behind in
    let first = type_first old (codes "primaryitem") type.PrimaryItem r.first r.more r.said refl refl in
    let s = name_read n tail bs r.more name stop (spaced (name_text n ++ bs) (name_starts n bs name)) (record { context = _; calm = calm_word at.context (codes "primaryitem"); behind = r.left }) in
    let fewer : 1 + length s.more ≤ length r.more = s.fewer in
    one_turn type_attribute_first type_attribute_more turns ps old (attributes_of_type m a o (Some n)) r.first r.more s.more (Ready bs) r.is
    (ap is_some first) (λ stop. type_more old type.PrimaryItem r.first r.more stop first ∙ primary_got old n (left_of r.more stop) (left_of s.more stop) (s.reads stop)) (omega arith) enough s.left

-- the attributes of a type as they are printed, with what follows them
abbrev pub behind_abstract : Bool → Option Name → List ℕ → List ℕ
behind_abstract o n bs = word_if o (codes " orderable") ++ (name_behind (codes " primaryitem ") n ++ bs)

abbrev pub type_attributes_then : Bool → Bool → Bool → Option Name → List ℕ → List ℕ
type_attributes_then m a o n bs = word_if m (codes " mixin") ++ (word_if a (codes " abstract") ++ behind_abstract o n bs)

bare_abstract : (o : Bool) (n : Option Name) (bs : List ℕ) → goes_on_bare bs ≡ false → goes_on_bare (behind_abstract o n bs) ≡ false
bare_abstract o n bs h = bare_if o (codes "orderable") (name_behind (codes " primaryitem ") n ++ bs) (bare_primary n bs h)

pub bare_type_attributes : (m a o : Bool) (n : Option Name) (bs : List ℕ) → goes_on_bare bs ≡ false → goes_on_bare (type_attributes_then m a o n bs) ≡ false
bare_type_attributes m a o n bs h = bare_if m (codes "mixin") (word_if a (codes " abstract") ++ behind_abstract o n bs) (bare_if a (codes "abstract") (behind_abstract o n bs) (bare_abstract o n bs h))

orderable_turned : (m a o : Bool) (n : Option Name) (bs : List ℕ) (turns ps : List Placed) → IfSome n IsName → goes_on_bare bs ≡ false → length ps ≤ length turns → Ready (behind_abstract o n bs) ps → TypeTurned turns ps (attributes_of_type m a false None) (attributes_of_type m a o n) bs
orderable_turned m a o n bs turns ps name bare enough h =
    then_turned type_attribute_first type_attribute_more turns ps (attributes_of_type m a false None) (attributes_of_type m a o None) (attributes_of_type m a o n) (Ready (name_behind (codes " primaryitem ") n ++ bs)) (Ready bs)
    (type_turn_if o (codes "orderable") type.Orderable (attributes_of_type m a false None) (attributes_of_type m a true None) (attributes_of_type m a o None) (name_behind (codes " primaryitem ") n ++ bs) (plain_name (codes "orderable") refl) refl refl refl (λ s. refl) (set_orderable m a o) (bare_primary n bs bare) turns ps enough h)
    (λ later more k l. primary_turned m a o n bs later more name bare k l)

-- the attributes of a type are read back, before what is no further one
pub type_attributes_read : (m a o : Bool) (n : Option Name) (bs : List ℕ) (ps : List Placed) → IfSome n IsName → goes_on_bare bs ≡ false → ((more : List Placed) → Ready bs more → type_attribute_first (attributes_of_type m a o n) more ≡ false) → Ready (type_attributes_then m a o n bs) ps → IsRead type_attributes_at (attributes_of_type m a o n) 0 ps (Ready bs)
type_attributes_read m a o n bs ps name bare ends h =
    let all = then_turned type_attribute_first type_attribute_more ps ps (attributes_of_type false false false None) (attributes_of_type m false false None) (attributes_of_type m a o n) (Ready (word_if a (codes " abstract") ++ behind_abstract o n bs)) (Ready bs)
    (type_turn_if m (codes "mixin") type.Mixin (attributes_of_type false false false None) (attributes_of_type true false false None) (attributes_of_type m false false None) (word_if a (codes " abstract") ++ behind_abstract o n bs) (plain_name (codes "mixin") refl) refl refl refl (λ s. refl) (set_mixin m) (bare_if a (codes "abstract") (behind_abstract o n bs) (bare_abstract o n bs bare)) ps ps (omega arith) h)
    (λ later more k l.
    then_turned type_attribute_first type_attribute_more later more (attributes_of_type m false false None) (attributes_of_type m a false None) (attributes_of_type m a o n) (Ready (behind_abstract o n bs)) (Ready bs)
    (type_turn_if a (codes "abstract") type.Abstract (attributes_of_type m false false None) (attributes_of_type m true false None) (attributes_of_type m a false None) (behind_abstract o n bs) (plain_name (codes "abstract") refl) refl refl refl (λ s. refl) (set_abstract m a) (bare_abstract o n bs bare) later more k l)
    (λ last left i j. orderable_turned m a o n bs last left name bare i j)) in
    let r = ended type_attribute_first type_attribute_more ps ps (attributes_of_type false false false None) (attributes_of_type m a o n) (Ready bs) all ends in
    record { more = r.more; reads = r.reads; fewer = r.fewer; left = r.left }
