-- Worked cases of numbers, amounts and lines.
use Rattle.std.specs.Prelude.{◌≡◌, Some, None, Ok, Err, codes}
use Rattle.rules.specs.PerLot.{per_lot}
use Rattle.rules.specs.declared.levels.RangeError.TheVariants as range
use Rattle.sheet.specs.declared.number.NumberFault.TheVariants.{NotDigits, TooLarge}
use Rattle.sheet.specs.declared.row.LineFault.TheVariants.{NoSpread, NoName, Range}
use Rattle.sheet.specs.Amount.{baht, right_aligned}
use Rattle.sheet.specs.Number.{decimal}
use Rattle.sheet.specs.Row.{of_line}

pub record WorkedTexts : Type 0 where
  pub largest_number : decimal (codes "18446744073709551615") ≡ Ok 18_446_744_073_709_551_615
  pub too_large : decimal (codes "18446744073709551616") ≡ Err TooLarge
  pub not_digits : decimal (codes "-1") ≡ Err NotDigits
  pub one_satang : baht 1 ≡ codes "0.01"
  pub set50_initial : baht 855_000 ≡ codes "8,550.00"
  pub largest_level : baht 950_000_000 ≡ codes "9,500,000.00"
  pub largest_amount : baht 4_294_967_295 ≡ codes "42,949,672.95"
  pub aligned : right_aligned 13 (baht 99_999) ≡ codes "       999.99"
  pub row : of_line (codes " 450000\t112500 SET50  Index\r\n") ≡ Ok (Some (codes "SET50  Index", per_lot 450_000, per_lot 112_500))
  pub comment : of_line (codes "  # 450000 112500") ≡ Ok None
  pub no_spread : of_line (codes "450000\n") ≡ Err NoSpread
  pub no_name : of_line (codes "450000 112500 \n") ≡ Err NoName
  pub out_of_range : of_line (codes "450000 450001 SET50\n") ≡ Err (Range range.Spread)
