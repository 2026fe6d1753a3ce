-- An order that passed its tests can be filled.
use Rattle.std.proofs.Common.{◌≡◌, ℕ, true, ◌&&◌, length, ℤ, neg_ℤ, Some, None, Option, sym, refl, subst, arith}
use Rattle.std.proofs.lemmas.Bool.{and_parts}
use Rattle.std.proofs.lemmas.Bool.Decides.{nat_tests}
use Rattle.book.specs.declared.account.Account.{Account}
use Rattle.book.specs.declared.account.Trade.{Trade}
use Rattle.account.specs.Bounds.{TradeFits}
use Rattle.house.specs.Sound.{trade_sound}
use Rattle.book.specs.House.{State, account_at, has_account, has_series}
use Rattle.book.specs.Market.{product_of}
use Rattle.book.specs.TradingCalls.{lots_in_range, knows_second, second_fits, net_fits, second_net_fits}
use Rattle.house.proofs.Facts.{FillableIn, SecondFills, fillable_test, trade_fits}

second_checked : (s : State) (x : Account) (t : Trade) (o : Option ℕ) → true ≡ knows_second s o → true ≡ second_fits s.market t.series o
    → true ≡ second_net_fits x o (neg_ℤ t.lots) → SecondFills s.market.series x.positions (product_of s.market.series t.series) t o
second_checked s x t None knows fits net = tt
second_checked s x t (Some j) knows fits net =
    (grind (arith, nat_tests, knows), ((λ e. grind (arith, nat_tests, fits, e)), (grind (arith, nat_tests, fits), grind (arith, nat_tests, net))))

checked : (s : State) (a : ℕ) (x : Account) (t : Trade)
    → true ≡ (has_account s a && (has_series s t.series && knows_second s t.second)) → true ≡ lots_in_range t.lots → true ≡ second_fits s.market t.series t.second
    → true ≡ (net_fits x t.series t.lots && second_net_fits x t.second (neg_ℤ t.lots))
    → FillableIn s.market.series x.positions (product_of s.market.series t.series) t
checked s a x t knows lots fits nets =
    let k = and_parts (has_account s a) (has_series s t.series && knows_second s t.second) (sym knows) in
    let l = and_parts (has_series s t.series) (knows_second s t.second) k.1 in
    let n = and_parts (net_fits x t.series t.lots) (second_net_fits x t.second (neg_ℤ t.lots)) (sym nets) in
    record {
      there = grind (arith, nat_tests, l.0);
      product = refl;
      lots = grind (arith, nat_tests, lots);
      net = grind (arith, nat_tests, n.0);
      second = second_checked s x t t.second (sym l.1) fits (sym n.1);
    }

-- the same of terms that were put together from an order's arguments, as the account's figures and a slot of the house ask for it
module _ (s : State) (a i : ℕ) (lots : ℤ) (second : Option ℕ) (x : Account) (t : Trade) (is : t ≡ record { series = i; lots = lots; second = second })
    (knows : true ≡ (has_account s a && (has_series s i && knows_second s second))) (ranged : true ≡ lots_in_range lots) (fits : true ≡ second_fits s.market t.series t.second)
    (nets : true ≡ (net_fits x t.series t.lots && second_net_fits x t.second (neg_ℤ t.lots))) where
  fillable : FillableIn s.market.series x.positions (product_of s.market.series t.series) t
  fillable =
      checked s a x t (subst (λ (u : Trade). true ≡ (has_account s a && (has_series s u.series && knows_second s u.second))) (sym is) knows)
      (subst (λ (u : Trade). true ≡ lots_in_range u.lots) (sym is) ranged) fits nets

  pub checked_fits : (n : ℕ) → n ≡ length s.market.series → TradeFits n x.positions t
  checked_fits n long = subst (λ (k : ℕ). TradeFits k x.positions t) (sym long) (trade_fits s.market.series x.positions (product_of s.market.series t.series) t fillable)

  pub checked_sound : (q : ℕ) → q ≡ product_of s.market.series t.series → x ≡ account_at s a → trade_sound s.market.series (account_at s a).positions q t ≡ true
  checked_sound q of at =
      subst (λ (p : ℕ). trade_sound s.market.series (account_at s a).positions p t ≡ true) (sym of)
      (subst (λ (y : Account). trade_sound s.market.series y.positions (product_of s.market.series t.series) t ≡ true) at
      (fillable_test s.market.series x.positions (product_of s.market.series t.series) t fillable))
