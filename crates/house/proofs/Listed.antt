-- What stays sound while series, accounts and prices change, and what an opening leaves.
use Rattle.std.proofs.Common.{◌≡◌, ℕ, ◌+◌, ◌<◌, true, List, [], ◌∷◌, ◌++◌, map, length, get_or, set, vec_items, vec_len, Vec, sym, ap, ◌∙◌, arith}
use Rattle.std.specs.Vec.{with_items}
use Rattle.std.proofs.lemmas.List.{length-map}
use Rattle.book.specs.declared.account.Account.{Account}
use Rattle.book.specs.declared.market.Quote.{Quote}
use Rattle.book.specs.declared.market.Series.{Series}
use Rattle.book.specs.ClosedCalls.{opened_account}
use Rattle.book.specs.Market.{Market, series_at}
use Rattle.book.specs.Prices.{with_quote, open_prices}
use Rattle.book.specs.House.{new_account}
use Rattle.account.proofs.Listings.{pushed, print_length, print_products, open_length, open_products}
use Rattle.account.specs.View.{with_series}
use Rattle.house.specs.Sound.{sound}
use Rattle.house.proofs.Keeps.{each_map, each_written, keeps_call, keeps_new, keeps_products, keeps_series}

-- The first k accounts are sound among n orders.
abbrev pub AllSound : List Series → ℕ → ℕ → List Account → Type 0
AllSound ss n k xs = (j : ℕ) (d : Account) → j < k → sound ss n (get_or xs j d) ≡ true

pub sound_printed : (m m' : Market) (i : ℕ) (q : Quote) (n k : ℕ) (xs : List Account)
    → m' ≡ with_series (set m.series i (with_quote q (series_at m.series i))) m → AllSound m.series n k xs → AllSound m'.series n k xs
sound_printed m m' i q n k xs is each j d lt =
    let ss = m.series in
    rw is (keeps_products ss (set ss i (with_quote q (series_at ss i))) n (get_or xs j d) (sym (print_length ss i q)) (λ r. sym (print_products ss i q r)) (each j d lt))

pub sound_longer : (m m' : Market) (s : Series) (n k : ℕ) (xs : List Account)
    → m' ≡ with_series (m.series ++ s ∷ []) m → AllSound m.series n k xs → AllSound m'.series n k xs
sound_longer m m' s n k xs is each j d lt =
    rw is (keeps_series m.series s n (get_or xs j d) (each j d lt))

pub sound_opened : {Z : Type 0} (m m' : Market) (n : ℕ) (v : Vec Account Z) (xs ys : List Account) → xs ≡ vec_items v → m' ≡ with_series (open_prices m.series) m
    → ys ≡ map opened_account xs → AllSound m.series n (vec_len v) (vec_items v) → AllSound m'.series n (vec_len v) (vec_items (with_items v ys))
sound_opened m m' n v xs ys same is opened each =
    each_written (sound m'.series n) v ys (map opened_account (vec_items v)) (ap length now ∙ length-map (vec_items v) opened_account ∙ sym v.ok.0) now
    (rw is (each_map (sound m.series n) (sound (open_prices m.series) n) opened_account (vec_items v) keeps (λ i e there. each i e (omega (arith, v.ok.0)))))
  where
    now : ys ≡ map opened_account (vec_items v)
    now = opened ∙ ap (map opened_account) same

    keeps : (x : Account) → sound m.series n x ≡ true → sound (open_prices m.series) n (opened_account x) ≡ true
    keeps x h =
        keeps_products m.series (open_prices m.series) n (opened_account x) (sym (open_length m.series)) (λ j. sym (open_products m.series j)) (keeps_call m.series n x h)

pub sound_entered : (ss : List Series) (n k m : ℕ) (xs ys : List Account) (x : Account) → ys ≡ xs ++ x ∷ [] → k ≡ length xs → m ≡ k + 1 → x ≡ new_account
    → AllSound ss n k xs → (j : ℕ) (d : Account) → j < m → sound ss n (get_or ys j d) ≡ true
sound_entered ss n k m xs ys x is long more new each =
    pushed (λ y. sound ss n y ≡ true) xs ys x k m is long more each (rw new (keeps_new ss n))
