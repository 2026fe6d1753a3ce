-- How large the levels of a product and of an account are.
use Rattle.std.proofs.Common.{◌≡◌, ℕ, ◌+◌, ◌*◌, ◌^◌, ◌<◌, ◌≤◌, List, length, drop, sym, refl, ap, ◌∙◌, add_assoc, add-one, arith, drop-cons}
use Rattle.std.proofs.lemmas.Nat.{mul-le}
use Rattle.rules.specs.declared.levels.RiskMargins.{RiskMargins}
use Rattle.rules.specs.PerLot.{per_lot, Fits}
use Rattle.rules.specs.Laws.{Three, Rule, InOrder, charged}
use Rattle.rules.specs.Rules.{plus}
use Rattle.rules.specs.Lots.{lots}
use Rattle.book.specs.Market.{Holding}
use Rattle.book.specs.Requirements.{product_levels, levels_from}
use Rattle.account.specs.Bounds.{Under, margins_at}

pub charged_under : (f : Rule) → InOrder f → (m : RiskMargins) (l s : ℕ) → Fits m → l ≤ 24_000 → s ≤ 24_000 → Under (2 ^ 46) (charged f m l s)
charged_under f ordered m l s fits hl hs =
    let all = ordered m l s fits hl hs in
    let small = mul-le (l + s) (per_lot m.outright).initial 48_000 950_000_000 (omega arith) (lots m fits).single.initial_bounded in
    (omega (arith, all, small), omega (arith, all, small), omega (arith, all, small))

plus_assoc : (x y z : Three) → plus (plus x y) z ≡ plus x (plus y z)
plus_assoc x y z = simp (add_assoc, plus)

-- what the products from i on add to what the first ones add
pub record Added (f : Rule) (ms : List RiskMargins) (hs : List Holding) (i : ℕ) (acc : Three) : Type 0 where
  pub whole : plus acc (levels_from f i (drop i ms) hs) ≡ levels_from f 0 ms hs
  pub size : Under (i * 2 ^ 46) acc

pub added_more : (f : Rule) (ms : List RiskMargins) (hs : List Holding) (i : ℕ) (acc next : Three) → i < length ms
    → next ≡ product_levels f (margins_at ms i) i hs → Under (2 ^ 46) next → Added f ms hs i acc → Added f ms hs (i + 1) (plus acc next)
added_more f ms hs i acc next lt is under a =
    let step : levels_from f i (drop i ms) hs ≡ plus next (levels_from f (i + 1) (drop (i + 1) ms) hs) =
    rw (add-one i, is, drop-cons ms i (record { outright = 0; spread = 0 }) lt) refl in
    record {
      whole = plus_assoc acc next _ ∙ ap (plus acc) (sym step) ∙ a.whole;
      size = (omega (arith, a.size, under), omega (arith, a.size, under), omega (arith, a.size, under));
    }
