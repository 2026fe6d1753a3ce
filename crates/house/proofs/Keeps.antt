-- What each change of an account leaves sound.
use Rattle.std.proofs.Common.{◌≡◌, ℕ, zero, suc, ◌+◌, ◌<◌, ◌≤◌, Bool, true, false, ◌&&◌, unwrap_or, List, [], ◌∷◌, ◌++◌, map, length, get_or, set, replicate, ℤ, pos, ◌+ℤ◌, ◌*ℤ◌, neg_ℤ, nat_abs, Some, None, Option, Vec, vec_items, vec_len, sym, refl, ap, ◌∙◌, subst, ⊎_elim, arith, length-set, get_or-set_other, get_or-set_same}
use Rattle.std.specs.Vec.{with_items}
use Rattle.std.proofs.lemmas.List.{with_items_is, get_or_append_left, get_or-map, get_or_past, get_or-replicate, length-map, length_push, length-replicate}
use Rattle.std.proofs.lemmas.Int.{ints}
use Rattle.std.proofs.lemmas.Bool.{leb-true, cases_eq, cases_lt, and_parts}
use Rattle.book.specs.declared.account.Account.{Account}
use Rattle.book.specs.declared.account.MarginCall.{MarginCall}
use Rattle.book.specs.declared.account.Order.{Order}
use Rattle.book.specs.declared.account.Position.{Position}
use Rattle.book.specs.declared.account.Trade.{Trade}
use Rattle.book.specs.declared.market.Series.{Series}
use Rattle.book.specs.ClosedCalls.{opened_account}
use Rattle.book.specs.Closing.{settle_positions, settle_account}
use Rattle.book.specs.Equity.{equity}
use Rattle.book.specs.House.{max_cash, cash_fits, new_account}
use Rattle.book.specs.Market.{Market, flat, no_series, product_of, series_at}
use Rattle.book.specs.Orders.{any_open, fill_leg, fill_second, filled}
use Rattle.book.specs.ForcedList.{with_fill}
use Rattle.book.specs.Prices.{mark, price_in_range}
use Rattle.book.specs.TradingCalls.{with_cash, with_order, order_in, second_in_range, sent}
use Rattle.account.proofs.Fills.{leg_length, leg_other, leg_here, filled_length, filled_nets}
use Rattle.account.proofs.Listings.{price_small}
use Rattle.account.proofs.Sizes.{abs_product}
use Rattle.house.specs.Sound.{largest_leg, open_count, net_after, trade_sound, sound}
use Rattle.house.proofs.Facts.{SecondFills, FillableIn, SlotFits, Facts, fillable_facts, facts, test, trade_fits}

-- Every account of a list passes a test.
abbrev pub Each : (Account → Bool) → List Account → Type 0
Each p xs = (k : ℕ) (d : Account) → k < length xs → p (get_or xs k d) ≡ true

each_set : (p : Account → Bool) (xs : List Account) (a : ℕ) (x : Account) → Each p xs → p x ≡ true → Each p (set xs a x)
each_set p xs a x each here k d lt =
    let there : k < length xs = omega (arith, length-set xs a x) in
    ⊎_elim (λ (e : a ≡ k). subst (λ (i : ℕ). p (get_or (set xs a x) i d) ≡ true) e (ap p (get_or-set_same xs a x d (omega arith)) ∙ here))
    (λ apart. ap p (get_or-set_other xs a k x d (λ e. apart (sym e))) ∙ each k d there) (cases_eq a k)

pub each_map : (p p' : Account → Bool) (f : Account → Account) (xs : List Account) → ((x : Account) → p x ≡ true → p' (f x) ≡ true) → Each p xs → Each p' (map f xs)
each_map p p' f xs keeps each k d lt =
    let there : k < length xs = omega (arith, length-map xs f) in
    ap p' (get_or-map f xs k d d there) ∙ keeps (get_or xs k d) (each k d there)

-- a Vec whose items were written over
pub each_written : {Z : Type 0} (p : Account → Bool) (v : Vec Account Z) (ws xs : List Account) → length ws ≡ vec_len v → ws ≡ xs → Each p xs
    → (k : ℕ) (d : Account) → k < vec_len v → p (get_or (vec_items (with_items v ws)) k d) ≡ true
each_written p v ws xs long is each k d lt = rw (with_items_is v ws long, is) (each k d (omega (arith, ap length is)))

pub keeps_cash : (ss : List Series) (n : ℕ) (z : ℤ) (call : Option MarginCall) (x : Account) → sound ss n x ≡ true → cash_fits z ≡ true → sound ss n (with_cash z call x) ≡ true
keeps_cash ss n z call x h fits =
    let f = facts ss n x h in
    test ss n (with_cash z call x) (record { cash = leb-true (nat_abs z) max_cash fits; nets = f.nets; carries = f.carries; slots = f.slots; rest = f.rest })

pub keeps_call : (ss : List Series) (n : ℕ) (x : Account) → sound ss n x ≡ true → sound ss n (opened_account x) ≡ true
keeps_call ss n x h =
    let f = facts ss n x h in
    test ss n (opened_account x) (record { cash = f.cash; nets = f.nets; carries = f.carries; slots = f.slots; rest = f.rest })

pub keeps_more : (ss : List Series) (n k : ℕ) (x : Account) → n ≤ k → sound ss n x ≡ true → sound ss k x ≡ true
keeps_more ss n k x le h =
    let f = facts ss n x h in
    test ss k x (record { cash = f.cash; nets = f.nets; carries = λ j lt. omega (arith, f.carries j lt); slots = f.slots; rest = f.rest })

-- how an order that is placed, replaced or ended changes the count
count_placed : (os : List (Option Order)) (q : ℕ) (o : Order) → q < length os → get_or os q None ≡ None → open_count (set os q (Some o)) ≡ suc (open_count os)
count_placed [] q o lt e = absurd (omega arith)
count_placed (None ∷ os) zero o lt e = refl
count_placed (Some a ∷ os) zero o lt e = let z : ◌≡◌ {A = ℕ} 0 1 = cc in absurd (omega arith)
count_placed (None ∷ os) (suc q) o lt e = count_placed os q o (omega arith) e
count_placed (Some a ∷ os) (suc q) o lt e = ap suc (count_placed os q o (omega arith) e)

count_replaced : (os : List (Option Order)) (q : ℕ) (a o : Order) → get_or os q None ≡ Some a → open_count (set os q (Some o)) ≡ open_count os
count_replaced [] q a o e = refl
count_replaced (None ∷ os) zero a o e = let z : ◌≡◌ {A = ℕ} 0 1 = cc in absurd (omega arith)
count_replaced (Some b ∷ os) zero a o e = refl
count_replaced (None ∷ os) (suc q) a o e = count_replaced os q a o e
count_replaced (Some b ∷ os) (suc q) a o e = ap suc (count_replaced os q a o e)

count_ended : (os : List (Option Order)) (q : ℕ) (a : Order) → get_or os q None ≡ Some a → suc (open_count (set os q None)) ≡ open_count os
count_ended [] q a e = let z : ◌≡◌ {A = ℕ} 0 1 = cc in absurd (omega arith)
count_ended (None ∷ os) zero a e = let z : ◌≡◌ {A = ℕ} 0 1 = cc in absurd (omega arith)
count_ended (Some b ∷ os) zero a e = refl
count_ended (None ∷ os) (suc q) a e = count_ended os q a e
count_ended (Some b ∷ os) (suc q) a e = ap suc (count_ended os q a e)

count_falls : (os : List (Option Order)) (q : ℕ) → open_count (set os q None) ≤ open_count os
count_falls [] q = omega arith
count_falls (None ∷ os) zero = omega arith
count_falls (Some b ∷ os) zero = omega arith
count_falls (None ∷ os) (suc q) = count_falls os q
count_falls (Some b ∷ os) (suc q) = omega (arith, count_falls os q)

-- what holds of each slot, after one is set
slots_set : (P : ℕ → Option Order → Type 0) (os : List (Option Order)) (q : ℕ) (o : Option Order) → P q o
    → ((k : ℕ) → (q ≡ k → ⊥) → P k (get_or os k None)) → (length os ≤ q → P q None) → (k : ℕ) → P k (get_or (set os q o) k None)
slots_set P os q o here others past k =
    ⊎_elim (λ (e : q ≡ k). subst (λ (i : ℕ). P i (get_or (set os q o) i None)) e at_q)
    (λ apart. subst (P k) (sym (get_or-set_other os q k o None (λ e. apart (sym e)))) (others k apart)) (cases_eq q k)
  where
    at_q : P q (get_or (set os q o) q None)
    at_q =
        ⊎_elim (λ lt. subst (P q) (sym (get_or-set_same os q o None lt)) here)
        (λ le. subst (P q) (sym (get_or_past (set os q o) q None (omega (arith, length-set os q o)))) (past le)) (cases_lt q (length os))

keeps_placed : (ss : List Series) (n : ℕ) (x : Account) (q : ℕ) (o : Order) → sound ss n x ≡ true → q < length x.orders → order_in x q ≡ None
    → trade_sound ss x.positions q o.trade ≡ true → sound ss (n + 1) (with_order q (Some o) x) ≡ true
keeps_placed ss n x q o h lt none fits =
    let f = facts ss n x h in
    test ss (n + 1) (with_order q (Some o) x) (record {
      cash = f.cash;
      nets = f.nets;
      carries = λ j there. omega (arith, f.carries j there, count_placed x.orders q o lt none);
      slots = slots_set (SlotFits ss x.positions) x.orders q (Some o) (fillable_facts ss x.positions q o.trade fits) (λ k _. f.slots k) (λ _. tt);
      rest = f.rest;
    })

pub keeps_sent : (ss : List Series) (n : ℕ) (x : Account) (q : ℕ) (o : Order) → sound ss n x ≡ true → order_in x q ≡ Some o → sound ss n (with_order q (Some (sent o)) x) ≡ true
keeps_sent ss n x q o h is =
    let f = facts ss n x h in
    test ss n (with_order q (Some (sent o)) x) (record {
      cash = f.cash;
      nets = f.nets;
      carries = λ j there. omega (arith, f.carries j there, count_replaced x.orders q o (sent o) is);
      slots = slots_set (SlotFits ss x.positions) x.orders q (Some (sent o)) (subst (SlotFits ss x.positions q) is (f.slots q)) (λ k _. f.slots k) (λ _. tt);
      rest = f.rest;
    })

pub keeps_ended : (ss : List Series) (n : ℕ) (x : Account) (q : ℕ) → sound ss n x ≡ true → sound ss n (with_order q None x) ≡ true
keeps_ended ss n x q h =
    let f = facts ss n x h in
    test ss n (with_order q None x) (record {
      cash = f.cash;
      nets = f.nets;
      carries = λ j there. omega (arith, f.carries j there, count_falls x.orders q);
      slots = slots_set (SlotFits ss x.positions) x.orders q None tt (λ k _. f.slots k) (λ _. tt);
      rest = f.rest;
    })

-- a trade that can be filled still can among other series and positions, if the products are the same and so are net lots in the trade's product
fillable_still : (ss ss' : List Series) (ps ps' : List Position) (q : ℕ) (t : Trade) → length ss ≤ length ss'
    → ((i : ℕ) → i < length ss → product_of ss' i ≡ product_of ss i)
    → ((i : ℕ) → product_of ss i ≡ q → get_or ps' i flat ≡ get_or ps i flat) → FillableIn ss ps q t → FillableIn ss' ps' q t
fillable_still ss ss' ps ps' q t more products same f = record {
  there = omega (arith, f.there);
  product = products t.series f.there ∙ f.product;
  lots = f.lots;
  net = net_still t.series t.lots f.product f.net;
  second = by t.second f.second;
}
  where
    net_still : (i : ℕ) (lots : ℤ) → product_of ss i ≡ q → nat_abs (net_after ps i lots) ≤ 1_000 → nat_abs (net_after ps' i lots) ≤ 1_000
    net_still i lots is h = subst (λ (p : Position). nat_abs (p.net +ℤ lots) ≤ 1_000) (sym (same i is)) h

    by : (o : Option ℕ) → SecondFills ss ps q t o → SecondFills ss' ps' q t o
    by None s = tt
    by (Some j) s =
        (omega (arith, s.0), (s.1.0, (products j s.0 ∙ s.1.1.0, net_still j (neg_ℤ t.lots) s.1.1.0 s.1.1.1)))

slot_still : (ss ss' : List Series) (ps ps' : List Position) (q : ℕ) (o : Option Order) → length ss ≤ length ss'
    → ((i : ℕ) → i < length ss → product_of ss' i ≡ product_of ss i)
    → ((i : ℕ) → product_of ss i ≡ q → get_or ps' i flat ≡ get_or ps i flat) → SlotFits ss ps q o → SlotFits ss' ps' q o
slot_still ss ss' ps ps' q None more products same s = tt
slot_still ss ss' ps ps' q (Some o) more products same s = fillable_still ss ss' ps ps' q o.trade more products same s

-- more series, or the same with other prices
keeps_longer : (ss ss' : List Series) (n : ℕ) (x : Account) → length ss ≤ length ss'
    → ((i : ℕ) → i < length ss → product_of ss' i ≡ product_of ss i) → sound ss n x ≡ true → sound ss' n x ≡ true
keeps_longer ss ss' n x more products h =
    let f = facts ss n x h in
    test ss' n x (record {
      cash = f.cash;
      nets = f.nets;
      carries = f.carries;
      slots = λ q. slot_still ss ss' x.positions x.positions q (get_or x.orders q None) more products (λ i _. refl) (f.slots q);
      rest = λ j le. f.rest j (omega arith);
    })

pub keeps_products : (ss ss' : List Series) (n : ℕ) (x : Account) → length ss ≡ length ss' → ((i : ℕ) → product_of ss i ≡ product_of ss' i) → sound ss n x ≡ true → sound ss' n x ≡ true
keeps_products ss ss' n x same products h = keeps_longer ss ss' n x (omega arith) (λ i _. sym (products i)) h

pub keeps_series : (ss : List Series) (s : Series) (n : ℕ) (x : Account) → sound ss n x ≡ true → sound (ss ++ s ∷ []) n x ≡ true
keeps_series ss s n x h =
    keeps_longer ss (ss ++ s ∷ []) n x (omega (arith, length_push ss s)) (λ i lt. ap (λ (r : Series). r.product) (get_or_append_left ss (s ∷ []) no_series i lt)) h

same_each : {X : Type 0} (n : ℕ) (a : X) (i : ℕ) → get_or (replicate n a) i a ≡ a
same_each n a i =
    ⊎_elim (λ lt. get_or-replicate n i a a lt) (λ le. get_or_past (replicate n a) i a (omega (arith, length-replicate n a))) (cases_lt i n)

pub keeps_new : (ss : List Series) (n : ℕ) → sound ss n new_account ≡ true
unfolding new_account
keeps_new ss n = test ss n new_account (record {
  cash = omega arith;
  nets = λ j. rw (same_each 24 flat j) (omega arith);
  carries = λ j lt. rw (same_each 24 flat j) (omega arith);
  slots = λ q. subst (SlotFits ss (replicate 24 flat) q) (sym (same_each 8 None q)) tt;
  rest = λ j le. same_each 24 flat j;
})

-- an account without an open order
none_open : (os : List (Option Order)) (q : ℕ) → any_open os ≡ false → get_or os q None ≡ None
none_open [] q h = refl
none_open (None ∷ os) zero h = refl
none_open (None ∷ os) (suc q) h = none_open os q h
none_open (Some o ∷ os) q h = let z : ◌≡◌ {A = ℕ} 0 1 = cc in absurd (omega arith)

count_zero : (os : List (Option Order)) → any_open os ≡ false → open_count os ≡ 0
count_zero [] h = refl
count_zero (None ∷ os) h = count_zero os h
count_zero (Some o ∷ os) h = let z : ◌≡◌ {A = ℕ} 0 1 = cc in absurd (omega arith)

-- settled positions, one by one
settled_length : (ss : List Series) (ps : List Position) → length (settle_positions ss ps) ≡ length ps
settled_length [] ps = refl
settled_length (s ∷ ss) [] = refl
settled_length (s ∷ ss) (p ∷ ps) = ap suc (settled_length ss ps)

settled_net : (ss : List Series) (ps : List Position) (j : ℕ) → (get_or (settle_positions ss ps) j flat).net ≡ (get_or ps j flat).net
settled_net [] ps j = refl
settled_net (s ∷ ss) [] j = refl
settled_net (s ∷ ss) (p ∷ ps) zero = refl
settled_net (s ∷ ss) (p ∷ ps) (suc j) = settled_net ss ps j

settled_carry : (ss : List Series) (ps : List Position) (j : ℕ) → j < length ss → j < length ps
    → (get_or (settle_positions ss ps) j flat).carry ≡ (get_or ps j flat).net *ℤ pos (mark (series_at ss j).quote)
settled_carry [] ps j h k = absurd (omega arith)
settled_carry (s ∷ ss) [] j h k = absurd (omega arith)
settled_carry (s ∷ ss) (p ∷ ps) zero h k = refl
settled_carry (s ∷ ss) (p ∷ ps) (suc j) h k = settled_carry ss ps j (omega arith) (omega arith)

settled_past : (ss : List Series) (ps : List Position) (j : ℕ) → length ss ≤ j → get_or (settle_positions ss ps) j flat ≡ get_or ps j flat
settled_past [] ps j h = refl
settled_past (s ∷ ss) [] j h = refl
settled_past (s ∷ ss) (p ∷ ps) zero h = absurd (omega arith)
settled_past (s ∷ ss) (p ∷ ps) (suc j) h = settled_past ss ps j (omega arith)

pub keeps_settled : (ss : List Series) (n : ℕ) (m : Market) (x : Account) → length m.series ≡ length ss → ((i : ℕ) → mark (series_at m.series i).quote ≤ 10_000_000)
    → sound ss n x ≡ true → any_open x.orders ≡ false → cash_fits (equity m x) ≡ true → sound m.series 0 (settle_account m x) ≡ true
keeps_settled ss n m x same marks h none fits = test m.series 0 (settle_account m x) (record {
  cash = leb-true (nat_abs (equity m x)) max_cash fits;
  nets = λ j. rw (settled_net m.series ps j) (f.nets j);
  carries = λ j lt. let here = small j (omega (arith, settled_length m.series ps)) in omega (arith, count_zero x.orders none);
  slots = λ q. subst (SlotFits m.series (settle_positions m.series ps) q) (sym (none_open x.orders q none)) tt;
  rest = λ j le. settled_past m.series ps j le ∙ f.rest j (omega arith);
})
  where
    ps : List Position
    ps = x.positions

    f : Facts ss n x
    f = facts ss n x h

    small : (j : ℕ) → j < length ps → nat_abs (get_or (settle_positions m.series ps) j flat).carry ≤ largest_leg
    small j lt =
        ⊎_elim (λ (in' : j < length m.series). rw (settled_carry m.series ps j in' lt)
        (abs_product (get_or ps j flat).net (pos (mark (series_at m.series j).quote)) 1_000 10_000_000 (f.nets j) (marks j)))
        (λ past. rw (settled_past m.series ps j past ∙ f.rest j (omega arith)) (omega arith)) (cases_lt j (length m.series))

abs_sum : (a b : ℤ) → nat_abs (a +ℤ b) ≤ nat_abs a + nat_abs b
abs_sum a b = omega (arith, ints)

abs_neg : (a : ℤ) → nat_abs (neg_ℤ a) ≡ nat_abs a
abs_neg a = omega (arith, ints)

leg_carry : (i j : ℕ) (lots : ℤ) (price : ℕ) (ps : List Position) → i < length ps → nat_abs lots ≤ 1_000 → price ≤ 10_000_000
    → nat_abs (get_or (fill_leg i lots price ps) j flat).carry ≤ nat_abs (get_or ps j flat).carry + largest_leg
leg_carry i j lots price ps there few low =
    ⊎_elim (λ (e : i ≡ j). subst (λ (k : ℕ). nat_abs (get_or (fill_leg i lots price ps) k flat).carry ≤ nat_abs (get_or ps k flat).carry + largest_leg) e here)
    (λ apart. rw (leg_other i j lots price ps apart) (omega arith)) (cases_eq i j)
  where
    here : nat_abs (get_or (fill_leg i lots price ps) i flat).carry ≤ nat_abs (get_or ps i flat).carry + largest_leg
    here =
        rw (leg_here i lots price ps there)
        (omega (arith, abs_sum (get_or ps i flat).carry (lots *ℤ pos price), abs_product lots (pos price) 1_000 10_000_000 few low))

-- a trade of a product that is filled
module _ (ss : List Series) (ps : List Position) (q : ℕ) (t : Trade) (price second_price : ℕ) (f : FillableIn ss ps q t) where
  -- leaves what is of another product, or not entered
  filled_other : (j : ℕ) → ((i : ℕ) → i < length ss → product_of ss i ≡ q → i ≡ j → ⊥) → get_or (filled t price second_price ps) j flat ≡ get_or ps j flat
  filled_other j other = by t.second f.second ∙ leg_other t.series j t.lots price ps (other t.series f.there f.product)
    where
      qs : List Position
      qs = fill_leg t.series t.lots price ps

      by : (o : Option ℕ) → SecondFills ss ps q t o → get_or (fill_second o (neg_ℤ t.lots) second_price qs) j flat ≡ get_or qs j flat
      by None s = refl
      by (Some k) s = leg_other k j (neg_ℤ t.lots) second_price qs (other k s.0 s.1.1.0)

  -- adds one leg at most to a carry
  filled_carry : length ss ≤ length ps → price ≤ 10_000_000 → second_price ≤ 10_000_000 → (j : ℕ)
      → nat_abs (get_or (filled t price second_price ps) j flat).carry ≤ nat_abs (get_or ps j flat).carry + largest_leg
  filled_carry room low second-low j = by t.second f.second
    where
      qs : List Position
      qs = fill_leg t.series t.lots price ps

      first : nat_abs (get_or qs j flat).carry ≤ nat_abs (get_or ps j flat).carry + largest_leg
      first = leg_carry t.series j t.lots price ps (omega (arith, f.there)) f.lots low

      by : (o : Option ℕ) → SecondFills ss ps q t o
          → nat_abs (get_or (fill_second o (neg_ℤ t.lots) second_price qs) j flat).carry ≤ nat_abs (get_or ps j flat).carry + largest_leg
      by None s = first
      by (Some k) s =
          ⊎_elim (λ (e : t.series ≡ j). rw (leg_other k j (neg_ℤ t.lots) second_price qs (λ d. s.1.0 (e ∙ sym d))) first)
          (λ apart. let more = leg_carry k j (neg_ℤ t.lots) second_price qs (omega (arith, s.0, leg_length t.series t.lots price ps)) (omega (arith, f.lots, abs_neg t.lots)) second-low in
          rw (← leg_other t.series j t.lots price ps apart) more)
          (cases_eq t.series j)

second_small : (o : Option ℕ) → second_in_range o ≡ true → unwrap_or o 0 ≤ 10_000_000
second_small None h = omega arith
second_small (Some p) h = price_small p h

pub keeps_filled : (ss : List Series) (n : ℕ) (m : Market) (x : Account) (q : ℕ) (o : Order) (price : ℕ) (second : Option ℕ)
    → length ss ≤ length x.positions → (price_in_range price && second_in_range second) ≡ true → sound ss n x ≡ true → order_in x q ≡ Some o
    → sound ss n (with_order q None (with_fill m (filled o.trade price (unwrap_or second 0) x.positions) x)) ≡ true
keeps_filled ss n m x q o price second room ranged h is = test ss n (with_order q None (with_fill m qs x)) (record {
  cash = f.cash;
  nets = filled_nets (length ss) o.trade price second_price ps room (trade_fits ss ps q o.trade fits) f.nets;
  carries = λ j lt. omega (
    arith,
    f.carries j (omega (arith, filled_length o.trade price second_price ps)),
    filled_carry ss ps q o.trade price second_price fits room low second-low j,
    count_ended x.orders q o is,
  );
  slots = slots_set (SlotFits ss qs) x.orders q None tt still (λ _. tt);
  rest = λ j le. filled_other ss ps q o.trade price second_price fits j (λ i lt _ e. omega arith) ∙ f.rest j le;
})
  where
    ps : List Position
    ps = x.positions

    second_price : ℕ
    second_price = unwrap_or second 0

    qs : List Position
    qs = filled o.trade price second_price ps

    both : (price_in_range price ≡ true) × (second_in_range second ≡ true)
    both = and_parts (price_in_range price) (second_in_range second) ranged

    low : price ≤ 10_000_000
    low = price_small price both.0

    second-low : second_price ≤ 10_000_000
    second-low = second_small second both.1

    f : Facts ss n x
    f = facts ss n x h

    fits : FillableIn ss ps q o.trade
    fits = subst (SlotFits ss ps q) is (f.slots q)

    -- the other slots are of other products
    still : (k : ℕ) → (q ≡ k → ⊥) → SlotFits ss qs k (get_or x.orders k None)
    still k apart =
        slot_still ss ss ps qs k (get_or x.orders k None) (omega arith) (λ i _. refl)
        (λ j of. filled_other ss ps q o.trade price second_price fits j (λ i lt is' e. apart (sym is' ∙ ap (product_of ss) e ∙ of)))
        (f.slots k)

-- every account is sound where an order was placed in one of them and added to the day's
pub placed_each : (ss : List Series) (n m len a q : ℕ) (xs : List Account) (x y z : Account) (o : Order) → len ≡ length xs → m ≡ n + 1
    → ((k : ℕ) (d : Account) → k < len → sound ss n (get_or xs k d) ≡ true) → x ≡ z → sound ss n x ≡ true → q < length x.orders
    → order_in z q ≡ None → trade_sound ss z.positions q o.trade ≡ true → y ≡ with_order q (Some o) x
    → (k : ℕ) (d : Account) → k < len → sound ss m (get_or (set xs a y) k d) ≡ true
placed_each ss n m len a q xs x y z o long more old at here slot none fits is k d lt =
    rw more (each_set (sound ss (n + 1)) xs a y
    (λ j e h. keeps_more ss n (n + 1) (get_or xs j e) (omega arith) (old j e (omega (arith, long)))) new k d (omega (arith, long, length-set xs a y)))
  where
    new : sound ss (n + 1) y ≡ true
    new = rw is (keeps_placed ss n x q o here slot (rw at none) (rw at fits))
