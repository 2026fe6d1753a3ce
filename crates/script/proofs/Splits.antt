-- A text as its first word and the words after it.
use Rattle.std.proofs.Common.{◌≡◌, ℕ, zero, suc, ◌≤◌, List, [], ◌∷◌, length, refl, ap, arith}
use Rattle.std.proofs.lemmas.Grind.{common_steps}
use Rattle.sheet.specs.Word.{word, after_word}
use Rattle.script.specs.Words.{words_by, words}

pub shorter : (b : ℕ) (bs : List ℕ) → length (after_word (b ∷ bs)) ≤ length bs
shorter b bs = grind (arith, common_steps)

-- more turns than bytes make no difference
enough : (k j : ℕ) (t : List ℕ) → length t ≤ k → length t ≤ j → words_by k t ≡ words_by j t
enough zero zero t a b = refl
enough zero (suc j) [] a b = refl
enough zero (suc j) (x ∷ xs) a b = absurd (omega arith)
enough (suc k) zero [] a b = refl
enough (suc k) zero (x ∷ xs) a b = absurd (omega arith)
enough (suc k) (suc j) [] a b = refl
enough (suc k) (suc j) (x ∷ xs) a b =
    ap (λ ws. word (x ∷ xs) ∷ ws)
    (enough k j (after_word (x ∷ xs)) (omega (arith, shorter x xs)) (omega (arith, shorter x xs)))

pub words_none : (t : List ℕ) → length t ≡ 0 → words t ≡ []
unfolding words
words_none [] e = refl
words_none (b ∷ bs) e = absurd (omega arith)

pub words_more : (t : List ℕ) → (length t ≡ 0 → ⊥) → words t ≡ word t ∷ words (after_word t)
unfolding words
words_more [] some = absurd (some refl)
words_more (b ∷ bs) some =
    let rest = after_word (b ∷ bs) in
    ap (λ ws. word (b ∷ bs) ∷ ws) (enough (length bs) (length rest) rest (shorter b bs) (omega arith))
