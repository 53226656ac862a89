-- A look at a document, and at one previous document after another.
use Rattle.std.proofs.Common.{◌≡◌, List, [], ◌∷◌, ◌++◌, map, fold, Option, Some, None, refl, sym, ap, ◌∙◌, append-nil}
use Rattle.std.specs.Option.{option_map_or}
use Rattle.std.specs.List.{cons_option}
use Rattle.jr_path.specs.declared.path.DocId.{DocId}
use Rattle.jr_path.specs.declared.path.DocId.TheVariants as id
use Rattle.jr_path.specs.declared.path.Path.{Path}
use Rattle.oak_doc.specs.declared.asks.Ask.TheVariants as ask
use Rattle.oak_doc.specs.declared.asks.Reply.TheVariants as reply
use Rattle.oak_doc.specs.declared.document.Document.{Document}
use Rattle.oak_doc.specs.declared.document.PrevEntry.{PrevEntry}
use Rattle.oak_read.specs.Wanted.{listed}
use Rattle.oak_commit.specs.Clashing.{Met}
use Rattle.oak_commit.specs.Committing.{Committing, advanced_by, due_by, due_of, fed, fed_by, going_by, looking_on, meeting, written, written_alone, written_by, wrote}
use Rattle.oak_commit.specs.Looking.{whole, with_found}
use Rattle.oak_commit.specs.Looks.{IsWriting, after_looks, previous_in}
use Rattle.oak_commit.specs.declared.look.Look.{Look}
use Rattle.oak_commit.specs.declared.outcome.CommitEnd.{CommitEnd}

-- previous documents of the node at p, by what lists them
abbrev listed_in : Path → List PrevEntry → List DocId
listed_in p es = map (λ e. id.Prev e.number p) es

-- the document is written, and its look begins
pub look_begun : (c : Committing) (p : Path) (rest : List Path) (d : Document) → IsWriting c p rest → fed c (reply.Updated (Some d)) ≡ looking_on (wrote c p rest) p d (listed p d)
look_begun c p rest d is =
    ap {A = Option CommitEnd} {B = Committing} (λ o. fed_by c o (reply.Updated (Some d))) is.going
    ∙ ap {A = Option Look} {B = Committing} (λ k. going_by c k (reply.Updated (Some d))) is.looked
    ∙ ap {A = List Met} {B = Committing} (λ fs. advanced_by c fs (Some d)) is.unmet
    ∙ ap {A = List Path} {B = Committing} (λ ps. written_by c ps (Some d)) is.next

-- a document that lists no previous one is looked at alone
pub looked_alone : (c : Committing) (p : Path) (rest : List Path) (before : Option Document) → option_map_or (λ d. d.prev) before [] ≡ [] → written c p rest before ≡ written_alone c p rest before
looked_alone c p rest None none = refl
looked_alone c p rest (Some d) none = ap {A = List PrevEntry} {B = Committing} (λ es. looking_on (wrote c p rest) p d (listed_in p es)) none

module _ (p : Path) (ds : DocId → Option Document) where
  -- the document, with what moved to these previous ones put back
  abbrev filled : Document → List PrevEntry → Document
  filled d es = fold (λ x e. with_found x (ds (id.Prev e.number p))) d es

  abbrev told : Committing → PrevEntry → Committing
  told b e = fed b (reply.Found (ds (id.Prev e.number p)))

  module _ (b : Committing) (going : b.outcome ≡ None) where
    -- a look goes on from what the committer is, whatever it looked at
    same_look : (k : Look) (d : Document) (ids : List DocId) → looking_on (record b { looking = Some k }) p d ids ≡ looking_on b p d ids
    same_look k d [] = refl
    same_look k d (i ∷ is) = refl

    pub through : (es fs : List PrevEntry) (d : Document) → fold told (looking_on b p d (listed_in p (es ++ fs))) es ≡ looking_on b p (filled d es) (listed_in p fs)
    through [] fs d = refl
    through (e ∷ es) fs d =
        ap {A = Committing} {B = Committing} (λ c. fold told c es)
        (ap {A = Option CommitEnd} {B = Committing} (λ o. fed_by (looking_on b p d (listed_in p (e ∷ (es ++ fs)))) o (reply.Found (ds (id.Prev e.number p)))) going
        ∙ same_look (record { document = d; first = id.Prev e.number p; rest = listed_in p (es ++ fs) }) (with_found d (ds (id.Prev e.number p))) (listed_in p (es ++ fs)))
        ∙ through es fs (with_found d (ds (id.Prev e.number p)))

    -- the next one is asked for
    pub asked : (d : Document) (e : PrevEntry) (fs : List PrevEntry) → due_of (looking_on b p d (listed_in p (e ∷ fs))) ≡ ask.Find (id.Prev e.number p)
    asked d e fs = ap (due_by (looking_on b p d (listed_in p (e ∷ fs)))) going

  -- all put back is the whole
  pub filled_whole : (es : List PrevEntry) (d : Document) → Some (filled d es) ≡ whole p (Some d) (previous_in p ds es)
  filled_whole [] d = refl
  filled_whole (e ∷ es) d = by (ds (id.Prev e.number p)) (filled_whole es (with_found d (ds (id.Prev e.number p))))
    where
      by : (o : Option Document) → Some (filled (with_found d o) es) ≡ whole p (Some (with_found d o)) (previous_in p ds es) → Some (filled (with_found d o) es) ≡ whole p (Some d) (cons_option o (previous_in p ds es))
      by None h = h
      by (Some x) h = h

  pub look_asks : (c : Committing) (rest : List Path) (d : Document) (es fs : List PrevEntry) (e : PrevEntry) → IsWriting c p rest → d.prev ≡ es ++ e ∷ fs → due_of (after_looks p ds c d es) ≡ ask.Find (id.Prev e.number p)
  look_asks c rest d es fs e is lists =
      ap due_of
      (ap {A = Committing} {B = Committing} (λ b. fold told b es)
      (look_begun c p rest d is ∙ ap {A = List PrevEntry} {B = Committing} (λ xs. looking_on (wrote c p rest) p d (listed_in p xs)) lists)
      ∙ through (wrote c p rest) is.going es (e ∷ fs) d)
      ∙ asked (wrote c p rest) is.going (filled d es) e fs

  pub look_meets : (c : Committing) (rest : List Path) (d : Document) → IsWriting c p rest → after_looks p ds c d d.prev ≡ meeting (wrote c p rest) p (whole p (Some d) (previous_in p ds d.prev))
  look_meets c rest d is =
      ap {A = Committing} {B = Committing} (λ b. fold told b d.prev)
      (look_begun c p rest d is ∙ ap {A = List PrevEntry} {B = Committing} (λ xs. looking_on (wrote c p rest) p d (listed_in p xs)) (sym (append-nil d.prev)))
      ∙ through (wrote c p rest) is.going d.prev [] d
      ∙ ap {A = Option Document} {B = Committing} (meeting (wrote c p rest) p) (filled_whole d.prev d)
