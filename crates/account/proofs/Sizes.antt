-- How large a product of two integers is.
use Rattle.std.proofs.Common.{◌≡◌, ℕ, ◌*◌, ◌≤◌, ℤ, pos, negsuc, ◌*ℤ◌, nat_abs, refl, mul-le-mul, arith}
use borrow.Author.Differences.{product_is, abs_is}

abs_mul : (a b : ℤ) → nat_abs (a *ℤ b) ≡ nat_abs a * nat_abs b
abs_mul (pos a) (pos b) = refl
abs_mul (pos a) (negsuc b) = omega (arith, abs_is (pos a *ℤ negsuc b), product_is (pos a) (negsuc b))
abs_mul (negsuc a) (pos b) = omega (arith, abs_is (negsuc a *ℤ pos b), product_is (negsuc a) (pos b))
abs_mul (negsuc a) (negsuc b) = refl

pub abs_product : (a b : ℤ) (x y : ℕ) → nat_abs a ≤ x → nat_abs b ≤ y → nat_abs (a *ℤ b) ≤ x * y
abs_product a b x y p q = rw abs_mul (mul-le-mul p q)
