-- What Closing rests on.
use Rattle.std.proofs.Common.{◌≡◌, ℕ, zero, suc, ◌<◌, ◌≤◌, Bool, true, false, not, ◌&&◌, List, [], ◌∷◌, map, length, get_or, sym, refl, ap, ◌∙◌, arith}
use Rattle.std.proofs.lemmas.Bool.{and_parts}
use Rattle.account.proofs.Listings.{settle_length, settled_mark}
use Rattle.account.specs.View.{with_series}
use Rattle.book.specs.declared.account.Account.{Account}
use Rattle.book.specs.Closing.{all, settle_account}
use Rattle.book.specs.Equity.{equity}
use Rattle.book.specs.House.{cash_fits}
use Rattle.book.specs.Market.{Market, series_at}
use Rattle.book.specs.Orders.{any_open}
use Rattle.book.specs.Prices.{price_in_range, mark, settle_prices}
use Rattle.house.specs.Closings.{none_open, cash_fits_at, Settleable}
use Rattle.house.specs.Sound.{sound}
use Rattle.house.proofs.Facts.{facts}
use Rattle.house.proofs.Keeps.{Each, each_map, keeps_more, keeps_settled}

-- a test that all pass is passed by each
all_at : {A : Type 0} (p : A → Bool) (xs : List A) (k : ℕ) (d : A) → all p xs ≡ true → k < length xs → p (get_or xs k d) ≡ true
all_at p [] k d h lt = absurd (omega arith)
all_at p (x ∷ xs) zero d h lt = (and_parts (p x) (all p xs) h).0
all_at p (x ∷ xs) (suc k) d h lt = all_at p xs k d (and_parts (p x) (all p xs) h).1 (omega arith)

both : (a b c : Bool) → a ≡ true → b ≡ true → c ≡ true → (a && (b && c)) ≡ true
both a b c p q r = rw (p, q, r) refl

not_open : (b : Bool) → not b ≡ true → b ≡ false
not_open true h = cc
not_open false h = refl

-- What Closing at these prices has tested of the accounts of n orders, and the market that it leaves.
pub record Tested (m m' : Market) (n : ℕ) (ps : List ℕ) (xs : List Account) : Type 0 where
  sounds : Each (sound m.series n) xs
  none : true ≡ none_open xs
  many : length ps ≡ length m.series
  ranged : all price_in_range ps ≡ true
  fits : true ≡ cash_fits_at (with_series (settle_prices ps m.series) m) xs
  after : m' ≡ with_series (settle_prices ps m.series) m

-- the same from tests of lists that are the accounts
pub tested : (m m' : Market) (n len : ℕ) (ps : List ℕ) (xs ys zs accounts : List Account)
    → len ≡ length accounts → xs ≡ accounts → ys ≡ accounts → zs ≡ accounts → ((k : ℕ) (d : Account) → k < len → sound m.series n (get_or accounts k d) ≡ true)
    → true ≡ none_open ys → length ps ≡ length m.series → true ≡ all price_in_range ps
    → true ≡ cash_fits_at (with_series (settle_prices ps m.series) m) zs → m' ≡ with_series (settle_prices ps m.series) m → Tested m m' n ps xs
tested m m' n len ps xs ys zs accounts long x-is y-is z-is sounds none many priced fits after = record {
  sounds = λ k d lt. rw x-is (sounds k d (omega (arith, ap length x-is)));
  none = none ∙ ap none_open (y-is ∙ sym x-is);
  many = many;
  ranged = sym priced;
  fits = fits ∙ ap (cash_fits_at (with_series (settle_prices ps m.series) m)) (z-is ∙ sym x-is);
  after = after;
}

module _ (m m' : Market) (n : ℕ) (ps : List ℕ) (xs : List Account) (t : Tested m m' n ps xs) where
  fits_after : cash_fits_at m' xs ≡ true
  fits_after = ap (λ (k : Market). cash_fits_at k xs) t.after ∙ sym t.fits

  pub settleable : Settleable m' xs
  settleable k d lt =
      ((facts m.series n (get_or xs k d) (t.sounds k d lt)).nets, all_at (λ (x : Account). cash_fits (equity m' x)) xs k d fits_after lt)

  pub settled_each : (k : ℕ) → Each (sound m'.series k) (map (settle_account m') xs)
  settled_each k' =
      each_map (λ x. sound m.series n x && (not (any_open x.orders) && cash_fits (equity m' x))) (sound m'.series k') (settle_account m') xs
      (λ x h. let a = and_parts (sound m.series n x) (not (any_open x.orders) && cash_fits (equity m' x)) h in
      let b = and_parts (not (any_open x.orders)) (cash_fits (equity m' x)) a.1 in
      keeps_more m'.series 0 k' (settle_account m' x) (omega arith) (keeps_settled m.series n m' x long marks a.0 (not_open (any_open x.orders) b.0) b.1))
      (λ k d lt. both (sound m.series n (get_or xs k d)) (not (any_open (get_or xs k d).orders)) (cash_fits (equity m' (get_or xs k d))) (t.sounds k d lt)
      (all_at (λ (x : Account). not (any_open x.orders)) xs k d (sym t.none) lt) (all_at (λ (x : Account). cash_fits (equity m' x)) xs k d fits_after lt))
    where
      long : length m'.series ≡ length m.series
      long = ap (λ (k : Market). length k.series) t.after ∙ settle_length ps m.series

      marks : (i : ℕ) → mark (series_at m'.series i).quote ≤ 10_000_000
      marks i = rw t.after (settled_mark ps m.series t.ranged t.many i)
