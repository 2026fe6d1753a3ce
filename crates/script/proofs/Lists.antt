-- Words read one by one as numbers.
use Rattle.std.proofs.Common.{◌≡◌, ℕ, suc, ◌+◌, ◌-◌, ◌<◌, arith, take, set, List, [], ◌∷◌, ◌++◌, length, drop, get_or, Some, None, Option, sym, refl, ap, ◌∙◌, append_assoc}
use Rattle.std.proofs.lemmas.List.{take_more_set, at_drop_more}
use Rattle.script.specs.Number.{and_then, number}
use Rattle.script.specs.Line.{numbers}
use Rattle.script.specs.Fields.{numbers_of}

-- numbers that are read, and those to come
abbrev pub onto : List ℕ → Option (List ℕ) → Option (List ℕ)
onto ns rest = and_then rest (λ more. Some (ns ++ more))

one_more : (ns : List ℕ) (n : ℕ) (rest : Option (List ℕ)) → onto ns (and_then rest (λ more. Some (n ∷ more))) ≡ onto (ns ++ n ∷ []) rest
one_more ns n None = refl
one_more ns n (Some more) = ap Some (sym (append_assoc ns (n ∷ []) more))

-- one more of k numbers
pub onto_more : (xs : List ℕ) (i k n : ℕ) (w : List ℕ) (all rest : List (List ℕ)) {r : Option (List ℕ)} → i < length xs → i < k → all ≡ w ∷ rest → Some n ≡ number w → onto (take i xs) (numbers_of (k - i) all) ≡ r → onto (take (i + 1) (set xs i n)) (numbers_of (k - (i + 1)) rest) ≡ r
onto_more xs i k n w all rest within more split is-n so_far =
    let next : k - i ≡ suc (k - (i + 1)) = omega arith in
    rw (take_more_set xs i n within) (sym (one_more (take i xs) n (numbers_of (k - (i + 1)) rest)) ∙ rw (split, next, sym is-n) at so_far)

-- the i-th of some words, and those behind it
pub at_word : (ws : List (List ℕ)) (i : ℕ) (w : List ℕ) → (i < length ws) × (w ≡ get_or ws i w) → numbers (drop i ws) ≡ numbers (w ∷ drop (i + 1) ws)
at_word ws i w h = at_drop_more numbers ws i w h.0 ∙ ap (λ v. numbers (v ∷ drop (i + 1) ws)) (sym h.1)

-- one more of any number of numbers
pub onto_word : (ns : List ℕ) (n : ℕ) (w : List ℕ) (rest : List (List ℕ)) → Some n ≡ number w → onto ns (numbers (w ∷ rest)) ≡ onto (ns ++ n ∷ []) (numbers rest)
onto_word ns n w rest e = rw (sym e) (one_more ns n (numbers rest))
