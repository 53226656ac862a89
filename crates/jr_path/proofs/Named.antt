-- The test of names says what their grammar says.
use Rattle.std.proofs.Common.{◌≡◌, ◌≢◌, ℕ, ◌≤◌, Bool, true, false, cond, Option, None, Some, List, [], ◌∷◌, ◌++◌, length, refl, sym, ap, ◌∙◌, ◌⊎◌, inl, inr, arith}
use Rattle.std.specs.Prelude.{◌==◌, ◌&&◌, ◌||◌, not, nat_le, codes}
use Rattle.std.specs.List.{list_all}
use Rattle.std.specs.Option.{option_map, option_map_or}
use Rattle.std.specs.Str.{bytes_eq, chars, is_utf8}
use Rattle.std.proofs.lemmas.Bool.{and_parts, false≢true}
use Rattle.std.proofs.lemmas.Bool.Decides.{nat_tests}
use Rattle.std.proofs.lemmas.Slice.Eq.{bytes_eq-Decides}
use Rattle.std.proofs.lemmas.Str.{IsUtf8-from_is_utf8, chars-encodes, encodes-chars, is_utf8-from_IsUtf8, scalars-chars}
use Rattle.jr_path.specs.Grammar.{IsName, IsPrefixed, OneOrMore, is_plain, is_prefix_character}
use Rattle.jr_path.specs.Named.{at_colon, begins_with_space, ends_with_space, is_formed, is_name, is_prefixed, is_run_of, is_trimmed}

same_number : (c d : ℕ) → (c == d) ≡ true → c ≡ d
same_number c d h = grind (arith, nat_tests)

same_test : (c : ℕ) → (c == c) ≡ true
same_test c = grind (arith, nat_tests)

both : (a b : Bool) → a ≡ true → b ≡ true → (a && b) ≡ true
both a b h k = ap (λ x. x && b) h ∙ k

not_of : (b : Bool) → (b ≡ true → ⊥) → not b ≡ true
not_of true h = absurd (h refl)
not_of false h = refl

not_true : (b : Bool) → not b ≡ true → b ≡ true → ⊥
not_true true h k = false≢true h
not_true false h k = false≢true k

-- runs
run_passes : (passes : ℕ → Bool) (cs : List ℕ) → OneOrMore passes cs → is_run_of passes cs ≡ true
run_passes passes [] h = absurd (h.0 refl)
run_passes passes (c ∷ cs) h = h.1

passes_run : (passes : ℕ → Bool) (cs : List ℕ) → is_run_of passes cs ≡ true → OneOrMore passes cs
passes_run passes [] h = absurd (false≢true h)
passes_run passes (c ∷ cs) h = (λ e. absurd (false≢true (sym (ap (is_run_of passes) e) ∙ h)), h)

-- what is found from a character on
abbrev colon_from : ℕ → List ℕ → Bool → Option (List ℕ × List ℕ) → Option (List ℕ × List ℕ)
colon_from c cs b o = cond b (Some ([], cs)) (option_map (λ e. (c ∷ e.0, e.1)) o)

-- the first colon
not_colon : (c : ℕ) → is_prefix_character c ≡ true → (c == 58) ≡ false
not_colon c h = by (c == 58) refl
  where
    by : (b : Bool) → (c == 58) ≡ b → (c == 58) ≡ false
    by true e = absurd (false≢true (sym (ap is_prefix_character (same_number c 58 e)) ∙ h))
    by false e = e

colon_found : (prefix local : List ℕ) → list_all is_prefix_character prefix ≡ true → at_colon (prefix ++ 58 ∷ local) ≡ Some (prefix, local)
colon_found [] local h = refl
colon_found (c ∷ cs) local h =
    let p = and_parts (is_prefix_character c) (list_all is_prefix_character cs) h in
    ap (λ b. colon_from c (cs ++ 58 ∷ local) b (at_colon (cs ++ 58 ∷ local))) (not_colon c p.0)
    ∙ ap (colon_from c (cs ++ 58 ∷ local) false) (colon_found cs local p.1)

colon_splits : (cs : List ℕ) (prefix local : List ℕ) → at_colon cs ≡ Some (prefix, local) → cs ≡ prefix ++ 58 ∷ local
colon_splits [] prefix local h = cc
colon_splits (c ∷ cs) prefix local h = by (colon_splits cs) (c == 58) (at_colon cs) refl refl h
  where
    by : ((p l : List ℕ) → at_colon cs ≡ Some (p, l) → cs ≡ p ++ 58 ∷ l) → (b : Bool) (o : Option (List ℕ × List ℕ)) → (c == 58) ≡ b → at_colon cs ≡ o
        → colon_from c cs b o ≡ Some (prefix, local) → c ∷ cs ≡ prefix ++ 58 ∷ local
    by rest true o e k f =
        let p : [] ≡ prefix = ap (λ (x : Option (List ℕ × List ℕ)). elim x [ Some y ↦ y.0 | None ↦ [] ]) f in
        let l : cs ≡ local = ap (λ (x : Option (List ℕ × List ℕ)). elim x [ Some y ↦ y.1 | None ↦ [] ]) f in
        ap (λ d. d ∷ cs) (same_number c 58 e) ∙ (ap (λ x. 58 ∷ x) l ∙ ap (λ x. x ++ 58 ∷ local) p)
    by rest false None e k f = cc
    by rest false (Some (p, l)) e k f =
        let q : c ∷ p ≡ prefix = ap (λ (x : Option (List ℕ × List ℕ)). elim x [ Some y ↦ y.0 | None ↦ [] ]) f in
        let m : l ≡ local = ap (λ (x : Option (List ℕ × List ℕ)). elim x [ Some y ↦ y.1 | None ↦ [] ]) f in
        ap (λ x. c ∷ x) (rest p l k) ∙ (ap (λ x. (c ∷ p) ++ 58 ∷ x) m ∙ ap (λ x. x ++ 58 ∷ local) q)

-- the form
formed : (cs : List ℕ) → OneOrMore is_plain cs ⊎ IsPrefixed cs → is_formed cs ≡ true
formed cs (inl run) = ap (λ b. b || is_prefixed cs) (run_passes is_plain cs run)
formed cs (inr split) = or_true (is_run_of is_plain cs) (is_prefixed cs)
    (ap (λ (o : Option (List ℕ × List ℕ)). option_map_or (λ e. is_run_of is_prefix_character e.0 && is_run_of is_plain e.1) o false) (ap at_colon split.split ∙ colon_found split.prefix split.local split.is_prefix.1)
    ∙ both (is_run_of is_prefix_character split.prefix) (is_run_of is_plain split.local) (run_passes is_prefix_character split.prefix split.is_prefix) (run_passes is_plain split.local split.is_local))
  where
    or_true : (a b : Bool) → b ≡ true → (a || b) ≡ true
    or_true true b h = refl
    or_true false b h = h

form_of : (cs : List ℕ) → is_formed cs ≡ true → OneOrMore is_plain cs ⊎ IsPrefixed cs
form_of cs h = by (is_run_of is_plain cs) refl h
  where
    split : (o : Option (List ℕ × List ℕ)) → at_colon cs ≡ o → option_map_or (λ e. is_run_of is_prefix_character e.0 && is_run_of is_plain e.1) o false ≡ true → IsPrefixed cs
    split None e k = absurd (false≢true k)
    split (Some (p, l)) e k =
        let q = and_parts (is_run_of is_prefix_character p) (is_run_of is_plain l) k in
        record { prefix = p; local = l; split = colon_splits cs p l e; is_prefix = passes_run is_prefix_character p q.0; is_local = passes_run is_plain l q.1 }

    by : (b : Bool) → is_run_of is_plain cs ≡ b → (b || is_prefixed cs) ≡ true → OneOrMore is_plain cs ⊎ IsPrefixed cs
    by true e k = inl (passes_run is_plain cs e)
    by false e k = inr (split (at_colon cs) refl k)

-- the ends
no_space_first : (cs : List ℕ) → ((more : List ℕ) → cs ≢ 32 ∷ more) → begins_with_space cs ≡ true → ⊥
no_space_first [] h k = false≢true k
no_space_first (c ∷ cs) h k = h cs (ap (λ d. d ∷ cs) (same_number c 32 k))

no_space_last : (cs : List ℕ) → ((front : List ℕ) → cs ≢ front ++ 32 ∷ []) → ends_with_space cs ≡ true → ⊥
no_space_last [] h k = false≢true k
no_space_last (c ∷ []) h k = h [] (ap (λ d. d ∷ []) (same_number c 32 k))
no_space_last (c ∷ d ∷ cs) h k = no_space_last (d ∷ cs) (λ front e. h (c ∷ front) (ap (λ x. c ∷ x) e)) k

space_last : (front : List ℕ) → ends_with_space (front ++ 32 ∷ []) ≡ true
space_last [] = refl
space_last (c ∷ []) = refl
space_last (c ∷ d ∷ front) = space_last (d ∷ front)

pub name_passes : (text : List ℕ) → IsName text → is_name text ≡ true
unfolding is_name
name_passes text n =
    let same : chars text ≡ n.characters = ap chars n.spelled ∙ chars-encodes n.characters n.scalar in
    both (is_utf8 text) _ (is_utf8-from_IsUtf8 text (n.characters, (n.scalar, sym n.spelled)))
    (both (is_formed (chars text)) _ (ap is_formed same ∙ formed n.characters n.form)
    (both (is_trimmed (chars text)) _ (ap is_trimmed same ∙ both _ _ (not_of _ (no_space_first n.characters n.first)) (not_of _ (no_space_last n.characters n.last)))
    (both (nat_le (length text) 255) _ (short n.size)
    (both _ _ (not_of _ (λ e. n.no_dot ((bytes_eq-Decides text (codes ".")).0 e))) (not_of _ (λ e. n.no_dots ((bytes_eq-Decides text (codes "..")).0 e)))))))
  where
    short : length text ≤ 255 → nat_le (length text) 255 ≡ true
    short h = grind (arith, nat_tests)

pub passes_name : (text : List ℕ) → is_name text ≡ true → IsName text
unfolding is_name
passes_name text h =
    let a = and_parts (is_utf8 text) _ h in
    let b = and_parts (is_formed (chars text)) _ a.1 in
    let c = and_parts (is_trimmed (chars text)) _ b.1 in
    let d = and_parts (nat_le (length text) 255) _ c.1 in
    let e = and_parts (not (bytes_eq text (codes "."))) _ d.1 in
    let ends = and_parts (not (begins_with_space (chars text))) _ c.0 in
    let utf8 = IsUtf8-from_is_utf8 text a.0 in
    record {
      characters = chars text;
      scalar = scalars-chars text utf8;
      spelled = sym (encodes-chars text utf8);
      form = form_of (chars text) b.0;
      size = short d.0;
      first = λ more k. not_true _ ends.0 (ap begins_with_space k);
      last = λ front k. not_true _ ends.1 (ap ends_with_space k ∙ space_last front);
      no_dot = λ k. not_true _ e.0 ((bytes_eq-Decides text (codes ".")).1 k);
      no_dots = λ k. not_true _ e.1 ((bytes_eq-Decides text (codes "..")).1 k);
    }
  where
    short : nat_le (length text) 255 ≡ true → length text ≤ 255
    short k = grind (arith, nat_tests)
