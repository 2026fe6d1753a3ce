-- The parts of a text between blanks, without the empty ones, are its words.
use Rattle.std.proofs.Common.{◌≡◌, ℕ, zero, suc, ◌+◌, ◌≤◌, Bool, true, false, not, ◌==◌, List, [], ◌∷◌, length, take, drop, length-drop, Option, refl, sym, ap, subst, ◌∙◌, arith}
use Rattle.std.proofs.lemmas.Iterator.{YieldsList}
use Rattle.std.proofs.lemmas.List.Splits.{slice_split-cons_yes}
use Rattle.std.proofs.lemmas.Grind.{common_steps}
use Rattle.std.specs.Char.{is_ascii_whitespace}
use Rattle.std.specs.List.{filter, prefix_len, position_or_len, slice_split}
use Rattle.sheet.specs.Word.{solid, word, after_blanks, after_word}
use Rattle.script.specs.Words.{words_by, words}
use Rattle.script.proofs.Splits.{shorter}

-- what stands before the first element that passes p, what follows the elements that pass, and the parts between them that are not empty
abbrev before : (ℕ → Bool) → List ℕ → List ℕ
before p t = take (position_or_len p t) t

abbrev after : (ℕ → Bool) → List ℕ → List ℕ
after p t = drop (position_or_len p t) t

abbrev past : (ℕ → Bool) → List ℕ → List ℕ
past p t = drop (prefix_len p t) t

abbrev filled : List (List ℕ) → List (List ℕ)
filled ws = filter (λ w. not (length w == 0)) ws

abbrev parts_by : (ℕ → Bool) → List ℕ → List (List ℕ)
parts_by p t = filled (slice_split p t)

drop_one : (n b : ℕ) (bs : List ℕ) → drop (1 + n) (b ∷ bs) ≡ drop n bs
drop_one n b bs = let e : 1 + n ≡ suc n = omega arith in rw (e) refl

take_one : (n b : ℕ) (bs : List ℕ) → take (1 + n) (b ∷ bs) ≡ b ∷ take n bs
take_one n b bs = let e : 1 + n ≡ suc n = omega arith in rw (e) refl

past_yes : (p : ℕ → Bool) (b : ℕ) (bs : List ℕ) → p b ≡ true → past p (b ∷ bs) ≡ past p bs
past_yes p b bs e = rw (e) (drop_one (prefix_len p bs) b bs)

past_no : (p : ℕ → Bool) (b : ℕ) (bs : List ℕ) → p b ≡ false → past p (b ∷ bs) ≡ b ∷ bs
past_no p b bs e = rw (e) refl

past_twice : (p : ℕ → Bool) (t : List ℕ) → past p (past p t) ≡ past p t
past_twice p [] = refl
past_twice p (b ∷ bs) = by (p b) refl (past_twice p bs)
  where
    by : (w : Bool) → p b ≡ w → past p (past p bs) ≡ past p bs → past p (past p (b ∷ bs)) ≡ past p (b ∷ bs)
    by true e h = ap (past p) (past_yes p b bs e) ∙ h ∙ sym (past_yes p b bs e)
    by false e h = ap (past p) (past_no p b bs e)

parts_past : (p : ℕ → Bool) (t : List ℕ) → parts_by p (past p t) ≡ parts_by p t
parts_past p [] = refl
parts_past p (b ∷ bs) = by (p b) refl (parts_past p bs)
  where
    by : (w : Bool) → p b ≡ w → parts_by p (past p bs) ≡ parts_by p bs → parts_by p (past p (b ∷ bs)) ≡ parts_by p (b ∷ bs)
    by true e h = ap (parts_by p) (past_yes p b bs e) ∙ h ∙ sym (ap filled (slice_split-cons_yes p b bs e))
    by false e h = ap (parts_by p) (past_no p b bs e)

abbrev FirstPart : (ℕ → Bool) → List ℕ → Type 0
FirstPart p t = (more : List (List ℕ)) × (slice_split p t ≡ before p t ∷ more) × (filled more ≡ parts_by p (after p t))

first_part : (p : ℕ → Bool) (t : List ℕ) → FirstPart p t
first_part p [] = ([], refl, refl)
first_part p (b ∷ bs) = by (p b) refl (first_part p bs)
  where
    by : (w : Bool) → p b ≡ w → FirstPart p bs → FirstPart p (b ∷ bs)
    by true e h = (slice_split p bs, rw (e) refl, rw (e, e) refl)
    by false e h = (h.0, rw (e, h.1) (ap (λ w. w ∷ h.0) (sym (take_one (position_or_len p bs) b bs))), h.2 ∙ ap (parts_by p) (sym (rw (e) (drop_one (position_or_len p bs) b bs))))

starts : (p : ℕ → Bool) (b : ℕ) (bs : List ℕ) → past p (b ∷ bs) ≡ b ∷ bs → p b ≡ false
starts p b bs whole = by (p b) refl
  where
    by : (w : Bool) → p b ≡ w → w ≡ false
    by true e = absurd (omega (arith, ap length (sym (past_yes p b bs e) ∙ whole), length-drop (prefix_len p bs) bs))
    by false e = refl

-- where a text begins with no blank, its first part is not empty
first_filled : (p : ℕ → Bool) (b : ℕ) (bs : List ℕ) (more : List (List ℕ)) → p b ≡ false → filled (before p (b ∷ bs) ∷ more) ≡ before p (b ∷ bs) ∷ filled more
first_filled p b bs more e =
    let first : before p (b ∷ bs) ≡ b ∷ before p bs = rw (e) (take_one (position_or_len p bs) b bs) in rw (first) (grind (arith, common_steps))

pub no_blank : (t : List ℕ) → after_blanks (after_blanks t) ≡ after_blanks t
no_blank t = past_twice is_ascii_whitespace t

words_by-parts : (k : ℕ) (t : List ℕ) → length t ≤ k → after_blanks t ≡ t → words_by k t ≡ parts_by is_ascii_whitespace t
words_by-parts zero [] l e = refl
words_by-parts zero (b ∷ bs) l e = absurd (omega arith)
words_by-parts (suc k) [] l e = refl
words_by-parts (suc k) (b ∷ bs) l e =
    let h = first_part is_ascii_whitespace (b ∷ bs) in
    let rest = drop (prefix_len solid (b ∷ bs)) (b ∷ bs) in
    let next = words_by-parts k (after_word (b ∷ bs)) (omega (arith, shorter b bs)) (no_blank rest) in
    let same = parts_past is_ascii_whitespace rest in
    ap (λ ws. word (b ∷ bs) ∷ ws) (next ∙ same ∙ sym h.2)
    ∙ sym (ap filled h.1 ∙ first_filled is_ascii_whitespace b bs h.0 (starts is_ascii_whitespace b bs e))

words-parts : (t : List ℕ) → after_blanks t ≡ t → words t ≡ parts_by is_ascii_whitespace t
unfolding words
words-parts t e = words_by-parts (length t) t (omega arith) e

-- what yields the parts of a text that begins with no blank yields its words
pub YieldsList-from_parts : {S A : Type 0} {steps : S → Option A → S → Type 0} {v : A → List ℕ} {s : S} (t : List ℕ) → after_blanks t ≡ t
    → YieldsList steps v s (filter (λ w. not (length w == 0)) (slice_split is_ascii_whitespace t)) → YieldsList steps v s (words t)
YieldsList-from_parts {steps = steps} {v} {s} t e h = subst (YieldsList steps v s) (sym (words-parts t e)) h
