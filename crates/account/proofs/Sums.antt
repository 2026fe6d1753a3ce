-- Sums over holdings, one more at a time.
use Rattle.std.proofs.Common.{◌≡◌, ℕ, zero, suc, ◌+◌, ◌<◌, ◌≤◌, List, [], ◌∷◌, ◌++◌, length, get_or, ℤ, ◌+ℤ◌, sym, refl, ap, ◌∙◌, subst, arith, length-append, below_more}
use Rattle.std.proofs.lemmas.List.{get_or_append_left, get_or_push, ext_get_or}
use borrow.Author.Differences.{same_in, same_out, Apart-out, sum_is_lem, neg_is}
use Rattle.book.specs.declared.account.Account.{Account}
use Rattle.book.specs.declared.account.Position.{Position}
use Rattle.book.specs.declared.market.Series.{Series}
use Rattle.book.specs.Market.{Holding, holding, holdings, at, series_at, flat, no_series}
use Rattle.book.specs.Equity.{gain, gains}
use Rattle.account.specs.Balances.{IsBalance}

-- sums and differences of integers; a product is an unknown
pub ruleset linear = (same_in, same_out, Apart-out, sum_is_lem, neg_is)

pub length_holdings : (ss : List Series) (ps : List Position) → length ss ≤ length ps → length (holdings ss ps) ≡ length ss
length_holdings [] ps h = refl
length_holdings (s ∷ ss) [] h = absurd (omega arith)
length_holdings (s ∷ ss) (p ∷ ps) h = ap suc (length_holdings ss ps (omega arith))

pub holding_at : (ss : List Series) (ps : List Position) (i : ℕ) → i < length ss → length ss ≤ length ps → at (holdings ss ps) i ≡ holding (series_at ss i) (get_or ps i flat)
holding_at [] ps i h k = absurd (omega arith)
holding_at (x ∷ ss) [] i h k = absurd (omega arith)
holding_at (x ∷ ss) (y ∷ ps) zero h k = refl
holding_at (x ∷ ss) (y ∷ ps) (suc i) h k = holding_at ss ps i (omega arith) (omega arith)

holdings_push : (ss : List Series) (s : Series) (ps : List Position) → length ss < length ps
    → holdings (ss ++ s ∷ []) ps ≡ holdings ss ps ++ holding s (get_or ps (length ss) flat) ∷ []
holdings_push [] s [] lt = absurd (omega arith)
holdings_push [] s (p ∷ ps) lt = refl
holdings_push (x ∷ ss) s [] lt = absurd (omega arith)
holdings_push (x ∷ ss) s (p ∷ ps) lt = ap (λ hs. holding x p ∷ hs) (holdings_push ss s ps (omega arith))

gains_push : (hs : List Holding) (h : Holding) → gains (hs ++ h ∷ []) ≡ gains hs +ℤ gain h
gains_push [] h = omega (arith, linear)
gains_push (x ∷ hs) h = omega (arith, linear, gains_push hs h)

-- one more series, with its value
pub balance_more : (P : ℕ → Series → Type 0) (n : ℕ) (x : Account) (balance more : ℤ) (s : Series) → n < length x.positions
    → P n s → more ≡ balance +ℤ gain (holding s (get_or x.positions n flat)) → IsBalance P n x balance → IsBalance P (n + 1) x more
balance_more P n x balance more s lt here is b =
    let grown : gains (holdings (b.series ++ s ∷ []) x.positions) ≡ gains (holdings b.series x.positions) +ℤ gain (holding s (get_or x.positions n flat)) =
    rw (holdings_push b.series s x.positions (omega (arith, b.count)), gains_push, b.count) in
    record {
      series = b.series ++ s ∷ [];
      count = length-append b.series (s ∷ []) ∙ rw b.count;
      each = below_more _ n
          (λ i h. subst (P i) (sym (get_or_append_left b.series (s ∷ []) no_series i (omega (arith, b.count)))) (b.each i h))
          (subst (P n) (sym (get_or_push b.series s no_series n b.count)) here);
      is = omega (arith, linear, is, b.is, grown);
    }

-- the balance where the value of each series is known
pub balance_is : (P : ℕ → Series → Type 0) (n : ℕ) (x : Account) (balance : ℤ) (ts : List Series) → length ts ≡ n
    → IsBalance P n x balance → ((i : ℕ) (s : Series) → i < n → P i s → s ≡ series_at ts i) → balance ≡ x.cash +ℤ gains (holdings ts x.positions)
balance_is P n x balance ts count b each =
    let same : b.series ≡ ts = ext_get_or no_series b.series ts (b.count ∙ sym count) (λ i h. each i _ (omega (arith, b.count)) (b.each i (omega (arith, b.count)))) in
    b.is ∙ ap (λ ss. x.cash +ℤ gains (holdings ss x.positions)) same
