-- Lists that are tested or written over in their order.
use Rattle.std.proofs.Common.{◌≡◌, ℕ, ◌+◌, ◌<◌, List, [], ◌∷◌, ◌++◌, map, length, get_or, set, take, drop, is_some, Some, None, Option, refl, ap, ◌∙◌, arith}
use Rattle.std.proofs.lemmas.List.{get_or_default}
use Rattle.std.proofs.lemmas.List.Edits.{map_over_more}
use Rattle.std.specs.List.{list_any}
use Rattle.book.specs.declared.account.Order.{Order}
use Rattle.book.specs.Orders.{any_open}

pub list_any_open : (os : List (Option Order)) → list_any is_some os ≡ any_open os
list_any_open [] = refl
list_any_open (None ∷ os) = list_any_open os
list_any_open (Some o ∷ os) = refl

-- one more element was replaced in a list whose first i were
pub mapped_more : {A : Type 0} (f : A → A) (xs ys : List A) (i : ℕ) (d y : A) → i < length xs → length ys ≡ length xs
    → ys ≡ map f (take i xs) ++ drop i xs → y ≡ f (get_or ys i d) → set ys i y ≡ map f (take (i + 1) xs) ++ drop (i + 1) xs
mapped_more f xs ys i d y lt long is new =
    ap (set ys i) new ∙ map_over_more f xs ys i (get_or ys i d) lt is (get_or_default ys i d (get_or ys i d) (omega arith))
