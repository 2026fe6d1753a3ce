-- Lists of products and series, one more or one changed.
use Rattle.std.proofs.Common.{◌≡◌, ℕ, zero, suc, ◌+◌, ◌<◌, ◌≤◌, Bool, true, ◌&&◌, leb, List, [], ◌∷◌, ◌++◌, length, get_or, take, drop, set, vec_items, vec_len, Vec, sym, refl, ap, ◌∙◌, subst, ⊎_elim, add-one, arith}
use Rattle.std.specs.List.{list_all}
use Rattle.std.specs.Vec.{with_items}
use Rattle.std.proofs.lemmas.List.{with_items_is, get_or_append_left, get_or_push, length-set, length-map, get_or_default}
use Rattle.std.proofs.lemmas.List.Edits.{map_over_more}
use Rattle.std.proofs.lemmas.Bool.{cases_lt, and_parts, leb-true}
use Rattle.book.specs.declared.market.Quote.{Quote}
use Rattle.book.specs.declared.market.Series.{Series}
use Rattle.book.specs.Closing.{all}
use Rattle.book.specs.Market.{no_series, series_at, product_of}
use Rattle.book.specs.Prices.{price_in_range, mark, settled, opened, with_quote, open_prices, settle_prices}

-- what holds of each element holds after one more
pub pushed : {X : Type 0} (P : X → Type 0) (xs ys : List X) (x : X) (n m : ℕ) → ys ≡ xs ++ x ∷ [] → n ≡ length xs → m ≡ n + 1
    → ((i : ℕ) (d : X) → i < n → P (get_or xs i d)) → P x → (i : ℕ) (d : X) → i < m → P (get_or ys i d)
pushed {X} P xs ys x n m is long more all new i d lt =
    subst (λ (zs : List X). P (get_or zs i d)) (sym is)
    (⊎_elim
    (λ (h : i < n). subst P (sym (get_or_append_left xs (x ∷ []) d i (omega arith))) (all i d h))
    (λ (h : n ≤ i). subst P (sym (get_or_push xs x d i (omega arith))) new)
    (cases_lt i n))

pub list_all_is : {X : Type 0} (p : X → Bool) (xs : List X) → list_all p xs ≡ all p xs
list_all_is p [] = refl
list_all_is p (x ∷ xs) = ap (λ b. p x && b) (list_all_is p xs)

pub price_small : (p : ℕ) → price_in_range p ≡ true → p ≤ 10_000_000
price_small p h = leb-true p 10_000_000 (and_parts (leb 1 p) (leb p 10_000_000) h).1

pub print_length : (ss : List Series) (i : ℕ) (q : Quote) → length (set ss i (with_quote q (series_at ss i))) ≡ length ss
print_length ss i q = length-set ss i (with_quote q (series_at ss i))

pub print_products : (ss : List Series) (i : ℕ) (q : Quote) (j : ℕ) → product_of (set ss i (with_quote q (series_at ss i))) j ≡ product_of ss j
print_products [] i q j = refl
print_products (s ∷ ss) zero q zero = refl
print_products (s ∷ ss) zero q (suc j) = refl
print_products (s ∷ ss) (suc i) q zero = refl
print_products (s ∷ ss) (suc i) q (suc j) = print_products ss i q j

pub open_length : (ss : List Series) → length (open_prices ss) ≡ length ss
open_length ss = length-map ss (λ (s : Series). with_quote (opened s.quote) s)

pub open_products : (ss : List Series) (j : ℕ) → product_of (open_prices ss) j ≡ product_of ss j
open_products [] j = refl
open_products (s ∷ ss) zero = refl
open_products (s ∷ ss) (suc j) = open_products ss j

pub settle_length : (ps : List ℕ) (ss : List Series) → length (settle_prices ps ss) ≡ length ss
settle_length ps [] = refl
settle_length [] (s ∷ ss) = refl
settle_length (p ∷ ps) (s ∷ ss) = ap suc (settle_length ps ss)

pub settle_products : (ps : List ℕ) (ss : List Series) (j : ℕ) → product_of (settle_prices ps ss) j ≡ product_of ss j
settle_products ps [] j = refl
settle_products [] (s ∷ ss) j = refl
settle_products (p ∷ ps) (s ∷ ss) zero = refl
settle_products (p ∷ ps) (s ∷ ss) (suc j) = settle_products ps ss j

pub settle_at : (ps : List ℕ) (ss : List Series) (i : ℕ) → i < length ss → length ps ≡ length ss
    → series_at (settle_prices ps ss) i ≡ with_quote (settled (get_or ps i 0)) (series_at ss i)
settle_at ps [] i lt same = absurd (omega arith)
settle_at [] (s ∷ ss) i lt same = absurd (omega arith)
settle_at (p ∷ ps) (s ∷ ss) zero lt same = refl
settle_at (p ∷ ps) (s ∷ ss) (suc i) lt same = settle_at ps ss i (omega arith) (omega arith)

pub settle_none : (ss : List Series) → ss ≡ settle_prices [] ss
settle_none [] = refl
settle_none (s ∷ ss) = refl

-- one more settlement price
pub settle_more : (ps : List ℕ) (ss ts : List Series) (i : ℕ) (x : Series) → i < length ss → length ps ≡ length ss
    → ts ≡ settle_prices (take i ps) ss → x ≡ with_quote (settled (get_or ps i 0)) (series_at ts i) → set ts i x ≡ settle_prices (take (i + 1) ps) ss
settle_more ps ss ts i x lt same so_far is = rw (add-one i, is, so_far) (by ps ss i lt same)
  where
    by : (ps : List ℕ) (ss : List Series) (i : ℕ) → i < length ss → length ps ≡ length ss
        → (let ts = settle_prices (take i ps) ss in set ts i (with_quote (settled (get_or ps i 0)) (series_at ts i)) ≡ settle_prices (take (suc i) ps) ss)
    by ps [] i lt same = absurd (omega arith)
    by [] (s ∷ ss) i lt same = absurd (omega arith)
    by (p ∷ ps) (s ∷ ss) zero lt same = ap (λ (xs : List Series). with_quote (settled p) s ∷ xs) (settle_none ss)
    by (p ∷ ps) (s ∷ ss) (suc i) lt same = ap (λ (xs : List Series). with_quote (settled p) s ∷ xs) (by ps ss i (omega arith) (omega arith))

pub settled_mark : (ps : List ℕ) (ss : List Series) → all price_in_range ps ≡ true → length ps ≡ length ss
    → (i : ℕ) → mark (series_at (settle_prices ps ss) i).quote ≤ 10_000_000
settled_mark ps [] h same i = omega arith
settled_mark [] (s ∷ ss) h same i = absurd (omega arith)
settled_mark (p ∷ ps) (s ∷ ss) h same zero = price_small p (and_parts (price_in_range p) (all price_in_range ps) h).0
settled_mark (p ∷ ps) (s ∷ ss) h same (suc i) =
    settled_mark ps ss (and_parts (price_in_range p) (all price_in_range ps) h).1 (omega arith) i

-- one more series without a print
pub open_more : (ss ts : List Series) (i : ℕ) → i < length ss → length ts ≡ length ss → ts ≡ open_prices (take i ss) ++ drop i ss
    → set ts i (with_quote (opened (series_at ts i).quote) (series_at ts i)) ≡ open_prices (take (i + 1) ss) ++ drop (i + 1) ss
open_more ss ts i lt same so_far =
    map_over_more (λ (s : Series). with_quote (opened s.quote) s) ss ts i (series_at ts i) lt so_far (get_or_default ts i _ _ (omega arith))

-- a Vec whose series were all written anew, by a function that keeps their number and their products
module _ {Z : Type 0} (F : List Series → List Series) (long : (ss : List Series) → length (F ss) ≡ length ss) where
  pub rewritten : (v : Vec Series Z) (xs ws : List Series) → xs ≡ vec_items v → ws ≡ F xs → vec_items (with_items v ws) ≡ F (vec_items v)
  rewritten v xs ws was is =
      let new : ws ≡ F (vec_items v) = is ∙ ap F was in
      with_items_is v ws (ap length new ∙ long (vec_items v) ∙ sym v.ok.0) ∙ new

  pub rewritten_known : (same : (ss : List Series) (j : ℕ) → product_of (F ss) j ≡ product_of ss j) (v : Vec Series Z) (xs ws : List Series) (m : ℕ)
      → xs ≡ vec_items v → ws ≡ F xs → ((i : ℕ) (d : Series) → i < vec_len v → (get_or (vec_items v) i d).product < m)
      → (i : ℕ) (d : Series) → i < vec_len v → (get_or (vec_items (with_items v ws)) i d).product < m
  rewritten_known same v xs ws m was is known i d lt =
      let ss = F (vec_items v) in
      let in-range : i < length ss = omega (arith, long (vec_items v), v.ok.0) in
      let here : product_of ss i < m = rw (same (vec_items v) i) (known i no_series lt) in
      let there : (get_or ss i d).product < m = subst (λ (s : Series). s.product < m) (get_or_default ss i no_series d in-range) here in
      subst (λ (ts : List Series). (get_or ts i d).product < m) (sym (rewritten v xs ws was is)) there
