-- An amount by its places is the amount by its thousands.
use Rattle.std.proofs.Common.{◌≡◌, ℕ, ◌/◌, ◌^◌, ◌<◌, ◌≤◌, true, false, ltb, List, [], ◌∷◌, ⊎_elim, arith}
use native.Mathlib.Nat.{div-div-eq-div-mul}
use Rattle.std.proofs.lemmas.Bool.{lt-ltb, le-ltb, cases_lt}
use Rattle.sheet.specs.Amount.{digit_of, from_unit, baht, right_aligned}

-- the thirteen places
abbrev pub places : ℕ → List ℕ
places n =
    from_unit 1_000_000_000 n (digit_of 1_000_000_000 n)
    ∷ from_unit 100_000_000 n (digit_of 100_000_000 n)
    ∷ from_unit 100_000_000 n 44
    ∷ from_unit 10_000_000 n (digit_of 10_000_000 n)
    ∷ from_unit 1_000_000 n (digit_of 1_000_000 n)
    ∷ from_unit 100_000 n (digit_of 100_000 n)
    ∷ from_unit 100_000 n 44
    ∷ from_unit 10_000 n (digit_of 10_000 n)
    ∷ from_unit 1_000 n (digit_of 1_000 n)
    ∷ digit_of 100 n
    ∷ 46
    ∷ digit_of 10 n
    ∷ digit_of 1 n
    ∷ []

satang_3 : (n : ℕ) → n < 1_000 → places n ≡ right_aligned 13 (baht n)
satang_3 n high =
    let e3 : ltb n 1_000 ≡ true = lt-ltb _ _ (omega arith) in
    let e4 : ltb n 10_000 ≡ true = lt-ltb _ _ (omega arith) in
    let e5 : ltb n 100_000 ≡ true = lt-ltb _ _ (omega arith) in
    let e6 : ltb n 1_000_000 ≡ true = lt-ltb _ _ (omega arith) in
    let e7 : ltb n 10_000_000 ≡ true = lt-ltb _ _ (omega arith) in
    let e8 : ltb n 100_000_000 ≡ true = lt-ltb _ _ (omega arith) in
    let e9 : ltb n 1_000_000_000 ≡ true = lt-ltb _ _ (omega arith) in
    let m : ltb (n / 100) 1_000 ≡ true = lt-ltb _ _ (omega arith) in
    let s1 : ltb (n / 100) 10 ≡ true = lt-ltb _ _ (omega arith) in
    simp (div-div-eq-div-mul, e3, e4, e5, e6, e7, e8, e9, m, s1)

satang_4 : (n : ℕ) → 1_000 ≤ n → n < 10_000 → places n ≡ right_aligned 13 (baht n)
satang_4 n low high =
    let e3 : ltb n 1_000 ≡ false = le-ltb _ _ (omega arith) in
    let e4 : ltb n 10_000 ≡ true = lt-ltb _ _ (omega arith) in
    let e5 : ltb n 100_000 ≡ true = lt-ltb _ _ (omega arith) in
    let e6 : ltb n 1_000_000 ≡ true = lt-ltb _ _ (omega arith) in
    let e7 : ltb n 10_000_000 ≡ true = lt-ltb _ _ (omega arith) in
    let e8 : ltb n 100_000_000 ≡ true = lt-ltb _ _ (omega arith) in
    let e9 : ltb n 1_000_000_000 ≡ true = lt-ltb _ _ (omega arith) in
    let m : ltb (n / 100) 1_000 ≡ true = lt-ltb _ _ (omega arith) in
    let s1 : ltb (n / 100) 10 ≡ false = le-ltb _ _ (omega arith) in
    let s2 : ltb (n / 100) 100 ≡ true = lt-ltb _ _ (omega arith) in
    simp (div-div-eq-div-mul, e3, e4, e5, e6, e7, e8, e9, m, s1, s2)

satang_5 : (n : ℕ) → 10_000 ≤ n → n < 100_000 → places n ≡ right_aligned 13 (baht n)
satang_5 n low high =
    let e3 : ltb n 1_000 ≡ false = le-ltb _ _ (omega arith) in
    let e4 : ltb n 10_000 ≡ false = le-ltb _ _ (omega arith) in
    let e5 : ltb n 100_000 ≡ true = lt-ltb _ _ (omega arith) in
    let e6 : ltb n 1_000_000 ≡ true = lt-ltb _ _ (omega arith) in
    let e7 : ltb n 10_000_000 ≡ true = lt-ltb _ _ (omega arith) in
    let e8 : ltb n 100_000_000 ≡ true = lt-ltb _ _ (omega arith) in
    let e9 : ltb n 1_000_000_000 ≡ true = lt-ltb _ _ (omega arith) in
    let m : ltb (n / 100) 1_000 ≡ true = lt-ltb _ _ (omega arith) in
    let s1 : ltb (n / 100) 10 ≡ false = le-ltb _ _ (omega arith) in
    let s2 : ltb (n / 100) 100 ≡ false = le-ltb _ _ (omega arith) in
    simp (div-div-eq-div-mul, e3, e4, e5, e6, e7, e8, e9, m, s1, s2)

satang_6 : (n : ℕ) → 100_000 ≤ n → n < 1_000_000 → places n ≡ right_aligned 13 (baht n)
satang_6 n low high =
    let e3 : ltb n 1_000 ≡ false = le-ltb _ _ (omega arith) in
    let e4 : ltb n 10_000 ≡ false = le-ltb _ _ (omega arith) in
    let e5 : ltb n 100_000 ≡ false = le-ltb _ _ (omega arith) in
    let e6 : ltb n 1_000_000 ≡ true = lt-ltb _ _ (omega arith) in
    let e7 : ltb n 10_000_000 ≡ true = lt-ltb _ _ (omega arith) in
    let e8 : ltb n 100_000_000 ≡ true = lt-ltb _ _ (omega arith) in
    let e9 : ltb n 1_000_000_000 ≡ true = lt-ltb _ _ (omega arith) in
    let m : ltb (n / 100) 1_000 ≡ false = le-ltb _ _ (omega arith) in
    let k : ltb (n / 100_000) 1_000 ≡ true = lt-ltb _ _ (omega arith) in
    let s1 : ltb (n / 100_000) 10 ≡ true = lt-ltb _ _ (omega arith) in
    simp (div-div-eq-div-mul, e3, e4, e5, e6, e7, e8, e9, m, k, s1)

satang_7 : (n : ℕ) → 1_000_000 ≤ n → n < 10_000_000 → places n ≡ right_aligned 13 (baht n)
satang_7 n low high =
    let e3 : ltb n 1_000 ≡ false = le-ltb _ _ (omega arith) in
    let e4 : ltb n 10_000 ≡ false = le-ltb _ _ (omega arith) in
    let e5 : ltb n 100_000 ≡ false = le-ltb _ _ (omega arith) in
    let e6 : ltb n 1_000_000 ≡ false = le-ltb _ _ (omega arith) in
    let e7 : ltb n 10_000_000 ≡ true = lt-ltb _ _ (omega arith) in
    let e8 : ltb n 100_000_000 ≡ true = lt-ltb _ _ (omega arith) in
    let e9 : ltb n 1_000_000_000 ≡ true = lt-ltb _ _ (omega arith) in
    let m : ltb (n / 100) 1_000 ≡ false = le-ltb _ _ (omega arith) in
    let k : ltb (n / 100_000) 1_000 ≡ true = lt-ltb _ _ (omega arith) in
    let s1 : ltb (n / 100_000) 10 ≡ false = le-ltb _ _ (omega arith) in
    let s2 : ltb (n / 100_000) 100 ≡ true = lt-ltb _ _ (omega arith) in
    simp (div-div-eq-div-mul, e3, e4, e5, e6, e7, e8, e9, m, k, s1, s2)

satang_8 : (n : ℕ) → 10_000_000 ≤ n → n < 100_000_000 → places n ≡ right_aligned 13 (baht n)
satang_8 n low high =
    let e3 : ltb n 1_000 ≡ false = le-ltb _ _ (omega arith) in
    let e4 : ltb n 10_000 ≡ false = le-ltb _ _ (omega arith) in
    let e5 : ltb n 100_000 ≡ false = le-ltb _ _ (omega arith) in
    let e6 : ltb n 1_000_000 ≡ false = le-ltb _ _ (omega arith) in
    let e7 : ltb n 10_000_000 ≡ false = le-ltb _ _ (omega arith) in
    let e8 : ltb n 100_000_000 ≡ true = lt-ltb _ _ (omega arith) in
    let e9 : ltb n 1_000_000_000 ≡ true = lt-ltb _ _ (omega arith) in
    let m : ltb (n / 100) 1_000 ≡ false = le-ltb _ _ (omega arith) in
    let k : ltb (n / 100_000) 1_000 ≡ true = lt-ltb _ _ (omega arith) in
    let s1 : ltb (n / 100_000) 10 ≡ false = le-ltb _ _ (omega arith) in
    let s2 : ltb (n / 100_000) 100 ≡ false = le-ltb _ _ (omega arith) in
    simp (div-div-eq-div-mul, e3, e4, e5, e6, e7, e8, e9, m, k, s1, s2)

satang_9 : (n : ℕ) → 100_000_000 ≤ n → n < 1_000_000_000 → places n ≡ right_aligned 13 (baht n)
satang_9 n low high =
    let e3 : ltb n 1_000 ≡ false = le-ltb _ _ (omega arith) in
    let e4 : ltb n 10_000 ≡ false = le-ltb _ _ (omega arith) in
    let e5 : ltb n 100_000 ≡ false = le-ltb _ _ (omega arith) in
    let e6 : ltb n 1_000_000 ≡ false = le-ltb _ _ (omega arith) in
    let e7 : ltb n 10_000_000 ≡ false = le-ltb _ _ (omega arith) in
    let e8 : ltb n 100_000_000 ≡ false = le-ltb _ _ (omega arith) in
    let e9 : ltb n 1_000_000_000 ≡ true = lt-ltb _ _ (omega arith) in
    let m : ltb (n / 100) 1_000 ≡ false = le-ltb _ _ (omega arith) in
    let k : ltb (n / 100_000) 1_000 ≡ false = le-ltb _ _ (omega arith) in
    let s1 : ltb (n / 100_000_000) 10 ≡ true = lt-ltb _ _ (omega arith) in
    simp (div-div-eq-div-mul, e3, e4, e5, e6, e7, e8, e9, m, k, s1)

satang_10 : (n : ℕ) → 1_000_000_000 ≤ n → n < 2 ^ 32 → places n ≡ right_aligned 13 (baht n)
satang_10 n low high =
    let e3 : ltb n 1_000 ≡ false = le-ltb _ _ (omega arith) in
    let e4 : ltb n 10_000 ≡ false = le-ltb _ _ (omega arith) in
    let e5 : ltb n 100_000 ≡ false = le-ltb _ _ (omega arith) in
    let e6 : ltb n 1_000_000 ≡ false = le-ltb _ _ (omega arith) in
    let e7 : ltb n 10_000_000 ≡ false = le-ltb _ _ (omega arith) in
    let e8 : ltb n 100_000_000 ≡ false = le-ltb _ _ (omega arith) in
    let e9 : ltb n 1_000_000_000 ≡ false = le-ltb _ _ (omega arith) in
    let m : ltb (n / 100) 1_000 ≡ false = le-ltb _ _ (omega arith) in
    let k : ltb (n / 100_000) 1_000 ≡ false = le-ltb _ _ (omega arith) in
    let s1 : ltb (n / 100_000_000) 10 ≡ false = le-ltb _ _ (omega arith) in
    let s2 : ltb (n / 100_000_000) 100 ≡ true = lt-ltb _ _ (omega arith) in
    simp (div-div-eq-div-mul, e3, e4, e5, e6, e7, e8, e9, m, k, s1, s2)

pub laid_out : (n : ℕ) → n < 2 ^ 32 → places n ≡ right_aligned 13 (baht n)
laid_out n small =
    ⊎_elim (satang_3 n) (λ h3.
    ⊎_elim (satang_4 n h3) (λ h4.
    ⊎_elim (satang_5 n h4) (λ h5.
    ⊎_elim (satang_6 n h5) (λ h6.
    ⊎_elim (satang_7 n h6) (λ h7.
    ⊎_elim (satang_8 n h7) (λ h8.
    ⊎_elim (satang_9 n h8) (λ h9. satang_10 n h9 small)
    (cases_lt n 1_000_000_000)) (cases_lt n 100_000_000)) (cases_lt n 10_000_000)) (cases_lt n 1_000_000)) (cases_lt n 100_000)) (cases_lt n 10_000)) (cases_lt n 1_000)
