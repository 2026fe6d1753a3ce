-- What a filled leg, and a filled trade, leave of positions.
use Rattle.std.proofs.Common.{◌≡◌, ℕ, ◌<◌, ◌≤◌, ◌⊎◌, List, length, get_or, ℤ, ◌+ℤ◌, neg_ℤ, nat_abs, Some, None, Option, sym, refl, ◌∙◌, subst, inl, inr, ⊎_elim, arith, length-set, get_or-set_other, get_or-set_same}
use Rattle.std.proofs.lemmas.Bool.{cases_eq}
use Rattle.book.specs.declared.account.Position.{Position}
use Rattle.book.specs.declared.account.Trade.{Trade}
use Rattle.book.specs.Market.{flat}
use Rattle.book.specs.Orders.{moved, fill_leg, fill_second, filled}
use Rattle.account.specs.Bounds.{SmallNets, TradeFits, SecondFits}

pub leg_length : (i : ℕ) (lots : ℤ) (price : ℕ) (ps : List Position) → length (fill_leg i lots price ps) ≡ length ps
unfolding fill_leg
leg_length i lots price ps = length-set ps i _

pub leg_other : (i j : ℕ) (lots : ℤ) (price : ℕ) (ps : List Position) → (i ≡ j → ⊥) → get_or (fill_leg i lots price ps) j flat ≡ get_or ps j flat
unfolding fill_leg
leg_other i j lots price ps apart = get_or-set_other ps i j _ flat (λ e. apart (sym e))

pub leg_here : (i : ℕ) (lots : ℤ) (price : ℕ) (ps : List Position) → i < length ps → get_or (fill_leg i lots price ps) i flat ≡ moved lots price (get_or ps i flat)
unfolding fill_leg
leg_here i lots price ps there = get_or-set_same ps i _ flat there

-- a place that a leg leaves alone, or the one that it moves
leg_at : (i j : ℕ) (lots : ℤ) (price : ℕ) (ps : List Position) → i < length ps
    → (get_or (fill_leg i lots price ps) j flat ≡ get_or ps j flat) ⊎ (get_or (fill_leg i lots price ps) j flat ≡ moved lots price (get_or ps i flat))
leg_at i j lots price ps there =
    ⊎_elim (λ e. inr (subst (λ (k : ℕ). get_or (fill_leg i lots price ps) k flat ≡ moved lots price (get_or ps i flat)) e (leg_here i lots price ps there)))
    (λ apart. inl (leg_other i j lots price ps apart)) (cases_eq i j)

leg_nets : (i : ℕ) (lots : ℤ) (price : ℕ) (ps : List Position) → i < length ps → nat_abs ((get_or ps i flat).net +ℤ lots) ≤ 1_000 → SmallNets ps → SmallNets (fill_leg i lots price ps)
leg_nets i lots price ps there fits small j =
    ⊎_elim (λ e. rw e (small j)) (λ e. rw e fits) (leg_at i j lots price ps there)

pub filled_length : (t : Trade) (price second_price : ℕ) (ps : List Position) → length (filled t price second_price ps) ≡ length ps
filled_length t price second_price ps = by t.second ∙ leg_length t.series t.lots price ps
  where
    qs : List Position
    qs = fill_leg t.series t.lots price ps

    by : (o : Option ℕ) → length (fill_second o (neg_ℤ t.lots) second_price qs) ≡ length qs
    by None = refl
    by (Some j) = leg_length j (neg_ℤ t.lots) second_price qs

-- no net lots pass 1,000 after a trade that fits
pub filled_nets : (n : ℕ) (t : Trade) (price second_price : ℕ) (ps : List Position) → n ≤ length ps → TradeFits n ps t → SmallNets ps → SmallNets (filled t price second_price ps)
filled_nets n t price second_price ps room f small = by t.second f.second
  where
    there : t.series < length ps
    there = omega (arith, f.there, room)

    qs : List Position
    qs = fill_leg t.series t.lots price ps

    first : SmallNets qs
    first = leg_nets t.series t.lots price ps there f.net small

    by : (o : Option ℕ) → SecondFits n ps t o → SmallNets (fill_second o (neg_ℤ t.lots) second_price qs)
    by None s = first
    by (Some j) s =
        leg_nets j (neg_ℤ t.lots) second_price qs (omega (arith, s.0, room, leg_length t.series t.lots price ps))
        (rw (leg_other t.series j t.lots price ps s.1.0) s.1.1) first
