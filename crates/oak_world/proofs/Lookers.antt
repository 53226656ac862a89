-- Committers look on while others go on: what they will meet stays.
use mathlib.Core.Bool.{false≢true}
use Rattle.std.proofs.Common.{◌≡◌, inl, inr, ℕ, Bool, true, false, cond, not, ◌&&◌, ◌||◌, Option, Some, None, List, [], ◌∷◌, ◌++◌, map, filter_map, is_some, refl, sym, ap, subst, ◌∙◌, append-nil}
use Rattle.std.proofs.Math.Path.{fun_ext}
use Rattle.std.specs.Prelude.{◌==◌}
use Rattle.std.specs.Option.{option_map_or}
use Rattle.jr_path.specs.Ids.{names_of}
use Rattle.jr_path.specs.declared.path.DocId.{DocId}
use Rattle.jr_path.specs.declared.path.DocId.TheVariants as id
use Rattle.jr_path.specs.declared.path.Path.{Path}
use Rattle.jr_rev.specs.declared.revision.Revision.{Revision}
use Rattle.jr_rev.specs.Revisions.{is_same}
use Rattle.jr_rev.specs.declared.vector.RevVec.{RevVec}
use Rattle.jr_rev.specs.Vectors.{sees}
use Rattle.oak_commit.proofs.Looks.{filled_whole}
use Rattle.oak_commit.specs.Clashing.{Met, found}
use Rattle.oak_commit.specs.Committing.{Committing, looking_on, meeting, roots_in, written, wrote}
use Rattle.oak_commit.specs.Looking.{whole, with_found}
use Rattle.oak_commit.specs.declared.look.Look.{Look}
use Rattle.oak_doc.specs.declared.document.Document.{Document}
use Rattle.oak_doc.specs.declared.document.PrevEntry.{PrevEntry}
use Rattle.oak_machine.specs.declared.event.Draw.{Draw}
use Rattle.oak_machine.specs.Commits.{draw_of, is_ended, is_in_base, is_in_flight}
use Rattle.oak_machine.specs.Laws.{Says, Starts}
use Rattle.oak_read.specs.Meaning.{Documents, commit_root_of, documents_in}
use Rattle.oak_saves.specs.Saves.{fed_previous}
use Rattle.oak_store.specs.Tables.{Table}
use Rattle.core_begun.specs.Kept.{bounded_since}
use Rattle.core_begun.proofs.World.{course}
use Rattle.core_clash.specs.Sessions.{IsTheirs, Running}
use Rattle.core_clash.specs.Views.{In}
use Rattle.core_clash.proofs.Finding.{looked_found}
use Rattle.core_keep.specs.Formers.{Former, Formers, IsCopyOf}
use Rattle.core_keep.specs.From.{course_from}
use Rattle.core_keep.specs.Journal.{is_bounded}
use Rattle.core_keep.specs.Lookers.{Looks, LooksOn}
use Rattle.core_keep.specs.Readers.{asked_too, look_on, look_too}
use Rattle.oak_read.specs.Shown.{with_previous}
use Rattle.core_keep.proofs.Lookers.{looks_begin, looks_find, looks_last}
use Rattle.core_read.specs.Told.{IsIn}
use Rattle.core_world.specs.Kept.{IsKept}
use Rattle.core_world.specs.States.{State, nodes_in, origin}
use Rattle.core_world.proofs.Flights.{number_itself, other_number, same_number}
use Rattle.oak_step.specs.declared.work.Work.{Work}
use Rattle.oak_step.specs.declared.work.Work.TheVariants as work
use Rattle.oak_world.specs.Looks.{AreListedOnce, AreOnce, IsLookingOn, filled_with, is_asked, unseen_by}
use Rattle.oak_world.specs.Worlds.{filled_by, look_through, once_looked, running_as, running_of}
use Rattle.oak_world.proofs.Changing.{Changes, changes_grow, changes_look}
use Rattle.oak_world.proofs.Looking.{filled_alike, found_is, ids_of, once_base, once_revision}

-- ---- lists of entries

in_middle : (xs : List PrevEntry) (e : PrevEntry) (ys : List PrevEntry) → IsIn e (xs ++ e ∷ ys)
in_middle [] e ys = inl refl
in_middle (x ∷ xs) e ys = inr (in_middle xs e ys)

numbered : (e : PrevEntry) (es : List PrevEntry) → IsIn e es → In e.number (map (λ e. e.number) es)
numbered e [] i = absurd i
numbered e (f ∷ fs) (inl one) = inl (ap (λ (g : PrevEntry). g.number) (sym one))
numbered e (f ∷ fs) (inr i) = inr (numbered e fs i)

-- what is listed once wasn't asked for before
unasked_yet : (xs : List PrevEntry) (e : PrevEntry) (ys : List PrevEntry) → AreOnce (xs ++ e ∷ ys) → is_asked xs e.number ≡ false
unasked_yet [] e ys once = refl
unasked_yet (x ∷ xs) e ys once = by (unasked_yet xs e ys once.1) (x.number == e.number) refl
  where
    by : is_asked xs e.number ≡ false → (b : Bool) → (x.number == e.number) ≡ b → (b || is_asked xs e.number) ≡ false
    by rest true same = absurd (once.0 (subst (λ (k : ℕ). In k (map (λ e. e.number) (xs ++ e ∷ ys))) (sym (same_number x.number e.number same)) (numbered e (xs ++ e ∷ ys) (in_middle xs e ys))))
    by rest false apart = rest

-- one that is among them was asked for
is_among : (e : PrevEntry) (es : List PrevEntry) → IsIn e es → is_asked es e.number ≡ true
is_among e [] i = absurd i
is_among e (f ∷ fs) (inl one) = ap (λ (b : Bool). b || is_asked fs e.number) (ap (λ (g : PrevEntry). g.number == e.number) one ∙ number_itself e.number)
is_among e (f ∷ fs) (inr i) = by (is_among e fs i) (f.number == e.number)
  where
    by : is_asked fs e.number ≡ true → (b : Bool) → (b || is_asked fs e.number) ≡ true
    by rest true = refl
    by rest false = rest

turned : (j k : ℕ) → (j == k) ≡ (k == j)
turned j k = by (j == k) refl
  where
    by : (b : Bool) → (j == k) ≡ b → b ≡ (k == j)
    by true same = sym (ap (λ (n : ℕ). k == n) (same_number j k same) ∙ number_itself k)
    by false apart = at (k == j) refl
      where
        at : (b : Bool) → (k == j) ≡ b → false ≡ b
        at true same = absurd (other_number j k apart (sym (same_number k j same)))
        at false h = refl

one_more : (xs : List PrevEntry) (e : PrevEntry) (k : ℕ) → asked_too (is_asked xs) e.number k ≡ is_asked (xs ++ e ∷ []) k
one_more [] e k = by (k == e.number) (e.number == k) (turned k e.number)
  where
    by : (a b : Bool) → a ≡ b → cond a true false ≡ (b || false)
    by true b h = ap (λ t. t || false) h
    by false b h = ap (λ t. t || false) h
one_more (x ∷ xs) e k = by (k == e.number) (x.number == k) (one_more xs e k)
  where
    by : (a b : Bool) → cond a true (is_asked xs k) ≡ is_asked (xs ++ e ∷ []) k → cond a true (b || is_asked xs k) ≡ (b || is_asked (xs ++ e ∷ []) k)
    by true true h = refl
    by true false h = h
    by false true h = refl
    by false false h = h

-- ---- what is put back

filled_same : (f g : ℕ → Option Document) (es : List PrevEntry) (d : Document) → ((e : PrevEntry) → IsIn e es → f e.number ≡ g e.number) → filled_with d f es ≡ filled_with d g es
filled_same f g [] d same = refl
filled_same f g (e ∷ es) d same = filled_same f g es (with_found d (f e.number)) (λ x i. same x (inr i)) ∙ ap (λ (o : Option Document). filled_with (with_found d o) g es) (same e (inl refl))

filled_one : (f : ℕ → Option Document) (xs : List PrevEntry) (e : PrevEntry) (d : Document) → filled_with d f (xs ++ e ∷ []) ≡ with_found (filled_with d f xs) (f e.number)
filled_one f [] e d = refl
filled_one f (x ∷ xs) e d = filled_one f xs e (with_found d (f x.number))

append_one : (xs : List PrevEntry) (e : PrevEntry) (ys : List PrevEntry) → (xs ++ e ∷ []) ++ ys ≡ xs ++ e ∷ ys
append_one [] e ys = refl
append_one (x ∷ xs) e ys = ap (λ (zs : List PrevEntry). x ∷ zs) (append_one xs e ys)

-- previous documents by their numbers
abbrev by_number : (ℕ → Option Document) → DocId → Option Document
by_number f (id.Prev k p) = f k
by_number f _ = None

-- each previous document of a former one's number is a copy of what that had
abbrev pub AreCopies : Table → Formers → Type 0
AreCopies t formers = (p : Path) (k : ℕ) (f : Former) (x : Document) → formers p k ≡ Some f → documents_in t.documents (id.Prev k p) ≡ Some x → IsCopyOf p k f x

-- ---- a look of a committer at previous documents of one node

-- what a committer meets in a document of the node at p
abbrev pub met : Committing → Path → Option Document → List Met
met c p o = found c.base c.revision p c.marks o

module _ (c : Committing) (p : Path) (copy : Document) (moved : List Document) (once : AreOnce copy.prev) where
  -- with these asked for and this found, what is found stood at the write
  abbrev Stands : Table → Formers → List PrevEntry → (ℕ → Option Document) → Type 0
  Stands t formers asked f = Looks (documents_in t.documents) formers (unseen_by c) p (copy ∷ moved) copy (is_asked asked) f

  -- a look that has asked for these and found this is such a look
  looking_so : (t : Table) (formers : Formers) (going : c.outcome ≡ None) (asked : List PrevEntry) (f : ℕ → Option Document) (d : Document) (es : List PrevEntry) → copy.prev ≡ asked ++ es → d ≡ filled_with copy f asked → Stands t formers asked f
      → (k : Look) → (looking_on c p d (ids_of p es)).looking ≡ Some k → IsLookingOn t formers (looking_on c p d (ids_of p es)) k
  looking_so t formers going asked f d [] lists filled stands k h = let never : None ≡ Some k = h in cc
  looking_so t formers going asked f d (e ∷ es) lists filled stands k h =
      let it : Some (record { document = d; first = id.Prev e.number p; rest = ids_of p es }) ≡ Some k = h in
      let same : record { document = d; first = id.Prev e.number p; rest = ids_of p es } ≡ k = cc in
      subst (IsLookingOn t formers (looking_on c p d (ids_of p (e ∷ es)))) same (record {
        form = record { going = going; path = p; entry = e; asks = refl; entries = es; rest = refl };
        copy = copy;
        moved = moved;
        asked = asked;
        found = f;
        lists = lists;
        once = once;
        filled = filled;
        stands = stands;
      })

  module _ (t : Table) (formers : Formers) (told : AreCopies t formers) where
    -- one previous document is asked for, and found
    module _ (asked : List PrevEntry) (f : ℕ → Option Document) (e : PrevEntry) (es : List PrevEntry) (lists : copy.prev ≡ asked ++ e ∷ es) (stands : Stands t formers asked f) where
      abbrev then : ℕ → Option Document
      then = look_too f e.number (documents_in t.documents (id.Prev e.number p))

      unasked : is_asked asked e.number ≡ false
      unasked = unasked_yet asked e es (subst AreOnce lists once)

      then_lists : copy.prev ≡ (asked ++ e ∷ []) ++ es
      then_lists = lists ∙ sym (append_one asked e es)

      then_stands : Stands t formers (asked ++ e ∷ []) then
      then_stands = subst (λ (a : ℕ → Bool). Looks (documents_in t.documents) formers (unseen_by c) p (copy ∷ moved) copy a then) (fun_ext (one_more asked e))
          (looks_find (documents_in t.documents) formers (unseen_by c) p (copy ∷ moved) copy (is_asked asked) f stands e (subst (IsIn e) (sym lists) (in_middle asked e es)) unasked (λ g x h there. told p e.number g x h there))

      then_filled : with_found (filled_with copy f asked) (documents_in t.documents (id.Prev e.number p)) ≡ filled_with copy then (asked ++ e ∷ [])
      then_filled =
          sym (filled_one then asked e copy
          ∙ (ap (λ (o : Option Document). with_found (filled_with copy then asked) o) (ap (λ b. cond b (documents_in t.documents (id.Prev e.number p)) (f e.number)) (number_itself e.number))
          ∙ ap (λ (d : Document). with_found d (documents_in t.documents (id.Prev e.number p))) (filled_same then f asked copy earlier)))
        where
          earlier : (x : PrevEntry) → IsIn x asked → then x.number ≡ f x.number
          earlier x i = ap (λ b. cond b (documents_in t.documents (id.Prev e.number p)) (f x.number)) (by (x.number == e.number) refl)
            where
              by : (b : Bool) → (x.number == e.number) ≡ b → b ≡ false
              by false h = refl
              by true h = absurd (false≢true (sym unasked ∙ (ap (is_asked asked) (sym (same_number x.number e.number h)) ∙ is_among x asked i)))

    -- all that is met in the end is what stood at the write
    pub meets : (es asked : List PrevEntry) (f : ℕ → Option Document) (d : Document) → copy.prev ≡ asked ++ es → d ≡ filled_with copy f asked → Stands t formers asked f → met c p (Some (filled_by t d (ids_of p es))) ≡ met c p (whole p (Some copy) moved)
    meets [] asked f d lists filled stands =
        ap (met c p) (ap Some (filled ∙ ap (filled_with copy f) (sym (append-nil asked) ∙ sym lists)) ∙ filled_whole p (by_number f) copy.prev copy)
        ∙ looked_found (documents_in t.documents) formers c.base c.revision p c.marks copy moved (is_asked asked) f stands
    meets (e ∷ es) asked f d lists filled stands =
        meets es (asked ++ e ∷ []) (then asked f e es lists stands) (with_found d (documents_in t.documents (id.Prev e.number p))) (then_lists asked f e es lists stands)
        (ap (λ (x : Document). with_found x (documents_in t.documents (id.Prev e.number p))) filled ∙ then_filled asked f e es lists stands) (then_stands asked f e es lists stands)

-- ---- a committer that looks at one more

module _ (t : Table) (formers : Formers) (told : AreCopies t formers) (c : Committing) (k : Look) (is : c.looking ≡ Some k) (l : IsLookingOn t formers c k) where
  pub looks_found_on : (j : Look) → (fed_previous t c).looking ≡ Some j → IsLookingOn t formers (fed_previous t c) j
  looks_found_on j h =
      subst (λ (d : Committing). IsLookingOn t formers d j) (sym at)
      (looking_so c l.form.path l.copy l.moved l.once t formers l.form.going (l.asked ++ l.form.entry ∷ []) (then c l.form.path l.copy l.moved l.once t formers told l.asked l.found l.form.entry l.form.entries l.lists l.stands)
      (with_found k.document (documents_in t.documents k.first)) l.form.entries
      (then_lists c l.form.path l.copy l.moved l.once t formers told l.asked l.found l.form.entry l.form.entries l.lists l.stands)
      filled
      (then_stands c l.form.path l.copy l.moved l.once t formers told l.asked l.found l.form.entry l.form.entries l.lists l.stands)
      j (ap (λ (d : Committing). d.looking) (sym at) ∙ h))
    where
      at : fed_previous t c ≡ looking_on c l.form.path (with_found k.document (documents_in t.documents k.first)) (ids_of l.form.path l.form.entries)
      at = found_is t c k is l.form

      filled : with_found k.document (documents_in t.documents k.first) ≡ filled_with l.copy (then c l.form.path l.copy l.moved l.once t formers told l.asked l.found l.form.entry l.form.entries l.lists l.stands) (l.asked ++ l.form.entry ∷ [])
      filled =
          ap (λ (d : Document). with_found d (documents_in t.documents k.first)) l.filled
          ∙ (ap (λ (i : DocId). with_found (filled_with l.copy l.found l.asked) (documents_in t.documents i)) l.form.asks
          ∙ then_filled c l.form.path l.copy l.moved l.once t formers told l.asked l.found l.form.entry l.form.entries l.lists l.stands)

  -- what it will meet
  pub will_meet : met c l.form.path (Some (filled_by t k.document (ids_of l.form.path (l.form.entry ∷ l.form.entries)))) ≡ met c l.form.path (whole l.form.path (Some l.copy) l.moved)
  will_meet = meets c l.form.path l.copy l.moved l.once t formers told (l.form.entry ∷ l.form.entries) l.asked l.found k.document l.lists l.filled l.stands

-- ---- what a committer's base doesn't see no bound sees

module _ (starts : Starts) (says : Says) (w : State) (kept : IsKept starts says w) where
  pub unbound_by : (s : ℕ) (x : Running) → w.running s ≡ Some x → (o : Revision) → not (is_same o x.draw.revision || sees x.draw.base o) ≡ true → bounded_since (origin w) w.past o ≡ false
  unbound_by s x here o unseen = by (sees (origin w).at o) refl (is_bounded w.past o) refl
    where
      its : IsTheirs w.past kept.sessions.committing.writers s x
      its = kept.sessions.committing.theirs s x here

      drawn : is_some (draw_of w.past x.draw.revision) ≡ true
      drawn = ap is_some its.draw

      flying : is_in_flight w.past x.draw.revision ≡ true
      flying = ap (λ b. b && not (is_ended w.past x.draw.revision)) drawn ∙ ap not its.unended

      outside : is_in_base w.past x.draw.revision o ≡ true → ⊥
      outside h = never (is_same o x.draw.revision) (sees x.draw.base o) (sym (ap (λ (d : Option Draw). option_map_or (λ d. sees d.base o) d false) its.draw) ∙ h) unseen
        where
          never : (a b : Bool) → b ≡ true → not (a || b) ≡ true → ⊥
          never true true h k = false≢true k
          never false true h k = false≢true k
          never true false h k = false≢true h
          never false false h k = false≢true h

      by : (a : Bool) → sees (origin w).at o ≡ a → (b : Bool) → is_bounded w.past o ≡ b → (a || b) ≡ false
      by true h b g = absurd (outside (kept.sessions.committing.sound.start x.draw.revision drawn o h))
      by false h true g = absurd (outside (kept.sessions.committing.sound.bounds.below x.draw.revision o flying g))
      by false h false g = refl

-- ---- a step of another lets it look on

-- a committer that meets this, and notes these commit roots
abbrev meets_with : Committing → List Met → List Path → Committing
meets_with c fs ps = record c { writer = record c.writer { due = fs }; roots = ps; looking = None }

module _ (t u : Table) (c : Committing) (p : Path) (d : Document) (ids : List DocId) where
  roots_alike : (fs : List Met) → roots_in (Some (filled_by u d ids)) fs ≡ roots_in (Some (filled_by t d ids)) fs
  roots_alike [] = refl
  roots_alike (f ∷ fs) = ap (λ (i : DocId). names_of i ∷ roots_in (Some (filled_by u d ids)) fs) (filled_alike t u ids d f.other) ∙ ap (λ (ps : List Path). names_of (commit_root_of (filled_by t d ids) f.other) ∷ ps) (roots_alike fs)

  -- whom it meets is the same, and so is what it notes
  meeting_same : met c p (Some (filled_by u d ids)) ≡ met c p (Some (filled_by t d ids)) → meeting c p (Some (filled_by u d ids)) ≡ meeting c p (Some (filled_by t d ids))
  meeting_same same =
      ap (λ (fs : List Met). meets_with c fs (roots_in (Some (filled_by u d ids)) fs)) same
      ∙ ap (λ (ps : List Path). meets_with c (met c p (Some (filled_by t d ids))) ps) (roots_alike (met c p (Some (filled_by t d ids))))

module _ (starts : Starts) (says : Says) (w : State) (kept : IsKept starts says w) (u : State) (changes : Changes w u) where
  abbrev ds : Documents
  ds = documents_in w.table.documents

  abbrev now : Documents
  now = documents_in u.table.documents

  module _ (q : ℕ) (c : Committing) (here : w.running q ≡ Some (running_as q (once_looked w.table c))) where
    unbound : (o : Revision) → unseen_by c o ≡ true → bounded_since (origin w) w.past o ≡ false
    unbound o h = unbound_by starts says w kept q (running_as q (once_looked w.table c)) here o
        (ap (λ (r : Revision). not (is_same o r || sees (once_looked w.table c).base o)) (once_revision w.table c) ∙ (ap (λ (v : RevVec). not (is_same o c.revision || sees v o)) (once_base w.table c) ∙ h))

    module _ (k : Look) (l : IsLookingOn w.table w.formers c k) where
      goes : LooksOn (documents_in w.table.documents) (documents_in u.table.documents) (unseen_by c) l.form.path l.copy (is_asked l.asked)
      goes = changes_look starts says w kept u (unseen_by c) unbound l.form.path l.copy (is_asked l.asked) changes

      -- a look goes on
      pub looking_lasts : IsLookingOn u.table u.formers c k
      looking_lasts = record {
        form = l.form;
        copy = l.copy;
        moved = l.moved;
        asked = l.asked;
        found = look_on (is_asked l.asked) goes.stays l.found;
        lists = l.lists;
        once = l.once;
        filled = l.filled ∙ filled_same l.found (look_on (is_asked l.asked) goes.stays l.found) l.asked l.copy (λ e i. sym (ap (λ b. cond (b || goes.stays e.number) (l.found e.number) None) (is_among e l.asked i)));
        stands = looks_last ds now w.formers u.formers (changes_grow starts says w kept u changes) (unseen_by c) l.form.path (l.copy ∷ l.moved) l.copy (is_asked l.asked) l.found l.stands goes;
      }

    module _ (told : AreCopies u.table u.formers) (looks : (k : Look) → c.looking ≡ Some k → IsLookingOn w.table w.formers c k) where
      through_lasts : (k : Look) → c.looking ≡ Some k → look_through u.table c (Some k) ≡ look_through w.table c (Some k)
      unfolding looking_lasts
      through_lasts k is = as_listed u.table ∙ (meeting_same w.table u.table c l.form.path k.document (ids_of l.form.path (l.form.entry ∷ l.form.entries))
          (will_meet u.table u.formers told c k is (looking_lasts k l) ∙ sym (will_meet w.table w.formers kept.sessions.readers.told.copies c k is l)) ∙ sym (as_listed w.table))
        where
          l : IsLookingOn w.table w.formers c k
          l = looks k is

          as_listed : (t : Table) → look_through t c (Some k) ≡ meeting c l.form.path (Some (filled_by t k.document (ids_of l.form.path (l.form.entry ∷ l.form.entries))))
          as_listed t =
              ap (λ (i : DocId). meeting c (names_of i) (Some (filled_by t k.document (i ∷ k.rest)))) l.form.asks
              ∙ ap (λ (ids : List DocId). meeting c l.form.path (Some (filled_by t k.document (id.Prev l.form.entry.number l.form.path ∷ ids)))) l.form.rest

      -- and it will meet just whom it would have met
      pub once_lasts : once_looked u.table c ≡ once_looked w.table c
      once_lasts = by c.looking refl
        where
          by : (o : Option Look) → c.looking ≡ o → look_through u.table c o ≡ look_through w.table c o
          by None is = refl
          by (Some k) is = through_lasts k is

  -- so the committer of a session stands as it stood
  module _ (told : AreCopies u.table u.formers) where
    pub running_lasts : (q : ℕ) (v : Work) → w.running q ≡ running_of w.table q v → ((c : Committing) → v ≡ work.Commit c → (k : Look) → c.looking ≡ Some k → IsLookingOn w.table w.formers c k) → running_of u.table q v ≡ running_of w.table q v
    running_lasts q (work.Commit c) runs looks = ap (λ (d : Committing). Some (running_as q d)) (once_lasts q c runs told (looks c refl))
    running_lasts q work.Rest runs looks = refl
    running_lasts q work.Login runs looks = refl
    running_lasts q work.End runs looks = refl
    running_lasts q work.Refresh runs looks = refl
    running_lasts q (work.Read r) runs looks = refl
    running_lasts q (work.Changes r) runs looks = refl
    running_lasts q (work.Plan edit marks) runs looks = refl
    running_lasts q (work.Move r) runs looks = refl
    running_lasts q (work.Upkeep k) runs looks = refl
    running_lasts q (work.Tidy x) runs looks = refl
    running_lasts q (work.Told e) runs looks = refl

  -- ---- its own write

  -- the look begins at the write
  module _ (s : ℕ) (c : Committing) (here : w.running s ≡ Some (running_as s c)) (going : c.outcome ≡ None) (p : Path) (rest : List Path) (once : AreListedOnce w.table) where
    unbound_here : (o : Revision) → unseen_by c o ≡ true → bounded_since (origin w) w.past o ≡ false
    unbound_here o h = unbound_by starts says w kept s (running_as s c) here o h

    module _ (d : Document) (there : nodes_in w.table p ≡ Some d) where
      abbrev stood : List Document
      stood = filter_map (λ e. documents_in w.table.documents (id.Prev e.number p)) d.prev

      first : Looks (documents_in w.table.documents) w.formers (unseen_by c) p (d ∷ stood) d (is_asked []) (λ k. documents_in w.table.documents (id.Prev k p))
      first =
          subst (λ (xs : List Document). Looks (documents_in w.table.documents) w.formers (unseen_by c) p xs d (is_asked []) (λ k. documents_in w.table.documents (id.Prev k p))) (ap (λ (o : Option Document). option_map_or (with_previous ds p) o []) there)
          (looks_begin ds (course_from (origin w) w.past) w.formers (unseen_by c) p d kept.sessions.committing.kept.keeps (course (origin w) ds w.past _ kept.sessions.committing.kept) kept.sessions.readers.told unbound_here there)

      on : LooksOn (documents_in w.table.documents) (documents_in u.table.documents) (unseen_by c) p d (is_asked [])
      on = changes_look starts says w kept u (unseen_by c) unbound_here p d (is_asked []) changes

      begins : (k : Look) → (written c p rest (Some d)).looking ≡ Some k → IsLookingOn u.table u.formers (written c p rest (Some d)) k
      begins k h = looking_so (wrote c p rest) p d stood (subst AreOnce (ap (λ (o : Option Document). option_map_or (λ d. d.prev) o []) there) (once p)) u.table u.formers going [] (look_on (is_asked []) on.stays (λ k. documents_in w.table.documents (id.Prev k p))) d d.prev refl refl
          (looks_last ds now w.formers u.formers (changes_grow starts says w kept u changes) (unseen_by c) p (d ∷ stood) d (is_asked []) (λ k. documents_in w.table.documents (id.Prev k p)) first on) k h

    pub written_looks : (k : Look) → (written c p rest (nodes_in w.table p)).looking ≡ Some k → IsLookingOn u.table u.formers (written c p rest (nodes_in w.table p)) k
    written_looks k = by (nodes_in w.table p) refl
      where
        by : (o : Option Document) → nodes_in w.table p ≡ o → (written c p rest o).looking ≡ Some k → IsLookingOn u.table u.formers (written c p rest o) k
        by None is h = let never : None ≡ Some k = h in cc
        by (Some d) is h = begins d is k h
