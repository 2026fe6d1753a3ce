-- Where the digits of a number stand, and what they come to.
use Rattle.std.proofs.Common.{◌≡◌, ℕ, ◌+◌, ◌-◌, ◌*◌, ◌^◌, ◌<◌, ◌≤◌, true, List, [], ◌∷◌, length, get_or, drop, Ok, Err, refl, sym, ap, ◌∙◌, arith}
use Rattle.std.specs.Char.{is_ascii_digit}
use Rattle.std.proofs.lemmas.List.{at_drop_more, at_drop_all}
use Rattle.std.proofs.lemmas.List.Recursion.{and_at}
use Rattle.std.proofs.lemmas.Bool.{and_parts, and_from, cond-true, cond-false, lt-ltb, le-ltb, leb-true}
use Rattle.sheet.specs.declared.number.NumberFault.TheVariants.{TooLarge}
use Rattle.sheet.specs.Number.{all_digits, value_after, decimal}

-- no digit is below 0
pub all_digits_at : (t : List ℕ) (i : ℕ) → true ≡ all_digits t → i < length t → 48 ≤ get_or t i 0
all_digits_at t i ds h = leb-true _ _ (and_parts _ _ (and_at all_digits is_ascii_digit refl (λ _ _. refl) t i 0 h (sym ds))).0

-- a number does not fall by the digits after it
value_after_ge : (n : ℕ) (bs : List ℕ) → n ≤ value_after n bs
value_after_ge n [] = omega arith
value_after_ge n (b ∷ bs) = omega (arith, value_after_ge (n * 10 + (b - 48)) bs)

-- no digit is left
pub decimal_fits : (t : List ℕ) (i n : ℕ) → 0 < length t → true ≡ all_digits t → value_after n (drop i t) ≡ value_after 0 t → length t ≤ i → n < 2 ^ 64 → Ok n ≡ decimal t
decimal_fits t i n some ds e end small =
    let same : n ≡ value_after 0 t = sym (at_drop_all (value_after n) t i end) ∙ e in
    sym (cond-true _ _ _ (and_from _ _ (lt-ltb 0 (length t) some) (sym ds)) ∙ cond-true _ _ _ (lt-ltb _ _ (rw same at small)) ∙ ap Ok (sym same))

-- one digit more does not fit
pub decimal_too_large : (t : List ℕ) (i n : ℕ) → true ≡ all_digits t → value_after n (drop i t) ≡ value_after 0 t → i < length t → 2 ^ 64 ≤ n * 10 + (get_or t i 0 - 48) → Err TooLarge ≡ decimal t
decimal_too_large t i n ds e h large =
    let more = at_drop_more (value_after n) t i 0 h in
    let total : 2 ^ 64 ≤ value_after 0 t = omega (arith, more, e, value_after_ge (n * 10 + (get_or t i 0 - 48)) (drop (i + 1) t)) in
    sym (cond-true _ _ _ (and_from _ _ (lt-ltb 0 (length t) (omega arith)) (sym ds)) ∙ cond-false _ _ _ (le-ltb _ _ total))

-- for `decimal`
pub ruleset digits = (all_digits_at, decimal_fits, decimal_too_large)
