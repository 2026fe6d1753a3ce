-- Names that are UTF-8 text, and names that are not.
use Rattle.std.proofs.Common.{◌≡◌, ℕ, ◌<◌, true, false, List, [], ◌∷◌, length, Err, IsUtf8, ⊎_elim, arith}
use Rattle.std.specs.Str.{chars}
use Rattle.std.proofs.lemmas.Slice.Eq.{bytes_eq-Decides}
use Rattle.std.proofs.lemmas.Bool.{and_parts, and_from, cond-true, cond-false, cases_Bool}
use Rattle.std.proofs.lemmas.Str.{encodes-chars, scalars-chars}
use Rattle.sheet.specs.declared.row.LineFault.TheVariants.{NotText}
use Rattle.sheet.specs.Row.{is_text, of_margins, of_name}

utf8_from_is_text : (bs : List ℕ) → is_text bs ≡ true → IsUtf8 bs
utf8_from_is_text bs e = let p = and_parts _ _ e in (chars bs, (p.0, (bytes_eq-Decides _ _).0 p.1))

is_text_from_utf8 : (bs : List ℕ) → IsUtf8 bs → is_text bs ≡ true
is_text_from_utf8 bs u = and_from _ _ (scalars-chars bs u) ((bytes_eq-Decides _ _).1 (encodes-chars bs u))

is_no_text : (bs : List ℕ) → (IsUtf8 bs → ⊥) → is_text bs ≡ false
is_no_text bs no-utf8 = ⊎_elim (λ e. absurd (no-utf8 (utf8_from_is_text bs e))) (λ e. e) (cases_Bool (is_text bs))

pub of_name_text : (outright spread : ℕ) (bs : List ℕ) → 0 < length bs → IsUtf8 bs → of_name outright spread bs ≡ of_margins bs outright spread
of_name_text outright spread [] more u = absurd (omega arith)
of_name_text outright spread (b ∷ bs) more u = cond-true _ _ _ (is_text_from_utf8 (b ∷ bs) u)

pub of_name_no_text : (outright spread : ℕ) (bs : List ℕ) → 0 < length bs → (IsUtf8 bs → ⊥) → of_name outright spread bs ≡ Err NotText
of_name_no_text outright spread [] more u = absurd (omega arith)
of_name_no_text outright spread (b ∷ bs) more u = cond-false _ _ _ (is_no_text (b ∷ bs) u)

pub ruleset names = (of_name_text, of_name_no_text)
