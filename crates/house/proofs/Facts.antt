-- What the test `sound` of an account says.
use Rattle.std.proofs.Common.{◌≡◌, ℕ, zero, suc, ◌+◌, ◌-◌, ◌*◌, ◌<◌, ◌≤◌, Bool, true, not, ◌&&◌, eqb, ltb, leb, List, [], ◌∷◌, length, get_or, drop, ℤ, pos, neg_ℤ, nat_abs, Some, None, Decides, Option, sym, refl, ap, ◌∙◌, subst, ⊎_elim, zero-add, arith, get_or-drop}
use Rattle.std.proofs.ByRecursion.{All-get_or, All-from_get_or, Decides-by_and}
use Rattle.std.proofs.lemmas.List.{get_or_past}
use Rattle.std.proofs.lemmas.Int.{ints}
use Rattle.std.proofs.lemmas.Bool.{leb-true, le-leb, cases_lt}
use Rattle.std.proofs.lemmas.Bool.Decides.{Decides-and, Decides-eqb, Decides-like, Decides-ltb, Decides-not}
use Rattle.book.specs.declared.account.Account.{Account}
use Rattle.book.specs.declared.account.Order.{Order}
use Rattle.book.specs.declared.account.Position.{Position}
use Rattle.book.specs.declared.account.Trade.{Trade}
use Rattle.book.specs.declared.market.Series.{Series}
use Rattle.book.specs.Closing.{all}
use Rattle.book.specs.House.{max_cash, cash_fits}
use Rattle.book.specs.Market.{flat, product_of}
use Rattle.account.specs.Bounds.{SmallNets, TradeFits, OrderFits, SecondFits, Sound}
use Rattle.house.specs.Sound.{largest_leg, open_count, position_sound, net_after, leg_sound, second_sound, trade_sound, slot_sound, slots_sound, is_flat, rest_flat, sound}

abbrev pub SecondFills : List Series → List Position → ℕ → Trade → Option ℕ → Type 0
SecondFills ss ps q t None = Unit {0}
SecondFills ss ps q t (Some j) =
    (j < length ss) × ((t.series ≡ j → ⊥) × ((product_of ss j ≡ q) × (nat_abs (net_after ps j (neg_ℤ t.lots)) ≤ 1_000)))

-- A trade in a product that can be filled.
pub record FillableIn (ss : List Series) (ps : List Position) (q : ℕ) (t : Trade) : Type 0 where
  pub there : t.series < length ss
  pub product : product_of ss t.series ≡ q
  pub lots : nat_abs t.lots ≤ 1_000
  pub net : nat_abs (net_after ps t.series t.lots) ≤ 1_000
  pub second : SecondFills ss ps q t t.second

abbrev pub SlotFits : List Series → List Position → ℕ → Option Order → Type 0
SlotFits ss ps q None = Unit {0}
SlotFits ss ps q (Some o) = FillableIn ss ps q o.trade

pub record Facts (ss : List Series) (n : ℕ) (x : Account) : Type 0 where
  pub cash : nat_abs x.cash ≤ max_cash
  pub nets : SmallNets x.positions
  pub carries : (j : ℕ) → j < length x.positions → nat_abs (get_or x.positions j flat).carry + largest_leg * open_count x.orders ≤ largest_leg * suc n
  pub slots : (q : ℕ) → SlotFits ss x.positions q (get_or x.orders q None)
  pub rest : (j : ℕ) → length ss ≤ j → get_or x.positions j flat ≡ flat

decides_leb : (a b : ℕ) → Decides (leb a b) (a ≤ b)
decides_leb a b = (leb-true a b, le-leb a b)

abbrev Leg : List Series → List Position → ℕ → ℕ → ℤ → Type 0
Leg ss ps q i lots = (i < length ss) × ((product_of ss i ≡ q) × (nat_abs (net_after ps i lots) ≤ 1_000))

decides_leg : (ss : List Series) (ps : List Position) (q i : ℕ) (lots : ℤ) → Decides (leg_sound ss ps q i lots) (Leg ss ps q i lots)
decides_leg ss ps q i lots =
    Decides-and (ltb i (length ss)) (eqb (product_of ss i) q && leb (nat_abs (net_after ps i lots)) 1_000) (Decides-ltb i (length ss))
    (Decides-and (eqb (product_of ss i) q) (leb (nat_abs (net_after ps i lots)) 1_000) (Decides-eqb (product_of ss i) q) (decides_leb (nat_abs (net_after ps i lots)) 1_000))

decides_second : (ss : List Series) (ps : List Position) (q : ℕ) (t : Trade) (o : Option ℕ) → Decides (second_sound ss ps q t o) (SecondFills ss ps q t o)
decides_second ss ps q t None = (λ h. tt, λ h. refl)
decides_second ss ps q t (Some j) =
    Decides-like (second_sound ss ps q t (Some j)) (λ h. (h.1.0, (h.0, h.1.1))) (λ h. (h.1.0, (h.0, h.1.1)))
    (Decides-and (not (eqb t.series j)) (leg_sound ss ps q j (neg_ℤ t.lots)) (Decides-not (eqb t.series j) (Decides-eqb t.series j)) (decides_leg ss ps q j (neg_ℤ t.lots)))

decides_trade : (ss : List Series) (ps : List Position) (q : ℕ) (t : Trade) → Decides (trade_sound ss ps q t) (FillableIn ss ps q t)
unfolding trade_sound
decides_trade ss ps q t =
    Decides-like (trade_sound ss ps q t)
    (λ h. record { there = h.1.0.0; product = h.1.0.1.0; lots = h.0; net = h.1.0.1.1; second = h.1.1 })
    (λ f. (f.lots, ((f.there, (f.product, f.net)), f.second)))
    (Decides-and (leb (nat_abs t.lots) 1_000) (leg_sound ss ps q t.series t.lots && second_sound ss ps q t t.second) (decides_leb (nat_abs t.lots) 1_000)
    (Decides-and (leg_sound ss ps q t.series t.lots) (second_sound ss ps q t t.second) (decides_leg ss ps q t.series t.lots) (decides_second ss ps q t t.second)))

pub fillable_facts : (ss : List Series) (ps : List Position) (q : ℕ) (t : Trade) → trade_sound ss ps q t ≡ true → FillableIn ss ps q t
fillable_facts ss ps q t = (decides_trade ss ps q t).0

pub fillable_test : (ss : List Series) (ps : List Position) (q : ℕ) (t : Trade) → FillableIn ss ps q t → trade_sound ss ps q t ≡ true
fillable_test ss ps q t = (decides_trade ss ps q t).1

-- each position's part of the test
decides_position : (n opened : ℕ) (p : Position) → Decides (position_sound n opened p) ((nat_abs p.net ≤ 1_000) × (nat_abs p.carry + largest_leg * opened ≤ largest_leg * suc n))
unfolding position_sound
decides_position n opened p =
    Decides-and (leb (nat_abs p.net) 1_000) (leb (nat_abs p.carry + largest_leg * opened) (largest_leg * suc n))
    (decides_leb (nat_abs p.net) 1_000) (decides_leb (nat_abs p.carry + largest_leg * opened) (largest_leg * suc n))

decides_all : {X : Type 0} (p : X → Bool) (P : X → Type 0) (d : X) → ((x : X) → Decides (p x) (P x)) → (xs : List X) → Decides (all p xs) ((j : ℕ) → j < length xs → P (get_or xs j d))
decides_all p P d each xs =
    Decides-like (all p xs) (λ h j lt. All-get_or P xs j d lt h) (All-from_get_or P xs d) (Decides-by_and p P (all p) each refl (λ _ _. refl) xs)

decides_slot : (ss : List Series) (ps : List Position) (q : ℕ) (o : Option Order) → Decides (slot_sound ss ps q o) (SlotFits ss ps q o)
decides_slot ss ps q None = (λ h. tt, λ h. refl)
decides_slot ss ps q (Some o) = decides_trade ss ps q o.trade

decides_slots : (ss : List Series) (ps : List Position) (q : ℕ) (os : List (Option Order)) → Decides (slots_sound ss ps q os) ((k : ℕ) → SlotFits ss ps (q + k) (get_or os k None))
decides_slots ss ps q [] = (λ h k. tt, λ h. refl)
decides_slots ss ps q (o ∷ os) =
    Decides-like (slot_sound ss ps q o && slots_sound ss ps (suc q) os) to from
    (Decides-and (slot_sound ss ps q o) (slots_sound ss ps (suc q) os) (decides_slot ss ps q o) (decides_slots ss ps (suc q) os))
  where
    to : SlotFits ss ps q o × ((k : ℕ) → SlotFits ss ps (suc q + k) (get_or os k None)) → (k : ℕ) → SlotFits ss ps (q + k) (get_or (o ∷ os) k None)
    to h zero = subst (λ (n : ℕ). SlotFits ss ps n o) (omega arith) h.0
    to h (suc k) = subst (λ (n : ℕ). SlotFits ss ps n (get_or os k None)) (omega arith) (h.1 k)

    from : ((k : ℕ) → SlotFits ss ps (q + k) (get_or (o ∷ os) k None)) → SlotFits ss ps q o × ((k : ℕ) → SlotFits ss ps (suc q + k) (get_or os k None))
    from h = (
      subst (λ (n : ℕ). SlotFits ss ps n o) (omega arith) (h zero),
      λ k. subst (λ (n : ℕ). SlotFits ss ps n (get_or os k None)) (omega arith) (h (suc k)),
    )

zero_size : (z : ℤ) → nat_abs z ≡ 0 → z ≡ pos 0
zero_size z h = omega (arith, ints)

decides_flat : (p : Position) → Decides (is_flat p) (p ≡ flat)
decides_flat p =
    Decides-like (is_flat p)
    (λ h. ap (λ (z : ℤ). record { net = z; carry = p.carry }) (zero_size p.net h.0) ∙ ap (λ (z : ℤ). record { net = pos 0; carry = z }) (zero_size p.carry h.1))
    (λ e. (ap (λ (r : Position). nat_abs r.net) e, ap (λ (r : Position). nat_abs r.carry) e))
    (Decides-and (eqb (nat_abs p.net) 0) (eqb (nat_abs p.carry) 0) (Decides-eqb (nat_abs p.net) 0) (Decides-eqb (nat_abs p.carry) 0))

decides_rest : (ss : List Series) (ps : List Position) → Decides (rest_flat ss ps) ((j : ℕ) → length ss ≤ j → get_or ps j flat ≡ flat)
unfolding rest_flat
decides_rest ss ps = Decides-like (all is_flat qs) to from (decides_all is_flat (λ p. p ≡ flat) flat decides_flat qs)
  where
    qs : List Position
    qs = drop (length ss) ps

    to : ((k : ℕ) → k < length qs → get_or qs k flat ≡ flat) → (j : ℕ) → length ss ≤ j → get_or ps j flat ≡ flat
    to h j le =
        let at : get_or qs (j - length ss) flat ≡ get_or ps j flat =
        get_or-drop (length ss) ps (j - length ss) flat ∙ ap (λ (k : ℕ). get_or ps k flat) (omega arith) in
        sym at ∙ ⊎_elim (h (j - length ss)) (get_or_past qs (j - length ss) flat) (cases_lt (j - length ss) (length qs))

    from : ((j : ℕ) → length ss ≤ j → get_or ps j flat ≡ flat) → (k : ℕ) → k < length qs → get_or qs k flat ≡ flat
    from h k lt = get_or-drop (length ss) ps k flat ∙ h (length ss + k) (omega arith)

decides_sound : (ss : List Series) (n : ℕ) (x : Account) → Decides (sound ss n x) (Facts ss n x)
unfolding sound
decides_sound ss n x =
    Decides-like (sound ss n x) to from
    (Decides-and (cash_fits x.cash) (held && (slots && rest)) (decides_leb (nat_abs x.cash) max_cash)
    (Decides-and held (slots && rest) (decides_all (position_sound n opened) P flat (decides_position n opened) x.positions)
    (Decides-and slots rest (decides_slots ss x.positions 0 x.orders) (decides_rest ss x.positions))))
  where
    opened : ℕ
    opened = open_count x.orders

    P : Position → Type 0
    P p = (nat_abs p.net ≤ 1_000) × (nat_abs p.carry + largest_leg * opened ≤ largest_leg * suc n)

    held : Bool
    held = all (position_sound n opened) x.positions

    slots : Bool
    slots = slots_sound ss x.positions 0 x.orders

    rest : Bool
    rest = rest_flat ss x.positions

    Parts : Type 0
    Parts = (nat_abs x.cash ≤ max_cash) × (((j : ℕ) → j < length x.positions → P (get_or x.positions j flat)) × (((k : ℕ) → SlotFits ss x.positions (0 + k) (get_or x.orders k None)) × ((j : ℕ) → length ss ≤ j → get_or x.positions j flat ≡ flat)))

    to : Parts → Facts ss n x
    to h = record {
      cash = h.0;
      nets = λ j. ⊎_elim (λ lt. (h.1.0 j lt).0) (λ le. rw (get_or_past x.positions j flat le) (omega arith)) (cases_lt j (length x.positions));
      carries = λ j lt. (h.1.0 j lt).1;
      slots = λ q. subst (λ (k : ℕ). SlotFits ss x.positions k (get_or x.orders q None)) (zero-add q) (h.1.1.0 q);
      rest = h.1.1.1;
    }

    from : Facts ss n x → Parts
    from f = (
      f.cash,
      (
        (λ j lt. (f.nets j, f.carries j lt)),
        ((λ k. subst (λ (i : ℕ). SlotFits ss x.positions i (get_or x.orders k None)) (sym (zero-add k)) (f.slots k)), f.rest),
      ),
    )

pub facts : (ss : List Series) (n : ℕ) (x : Account) → sound ss n x ≡ true → Facts ss n x
facts ss n x = (decides_sound ss n x).0

pub test : (ss : List Series) (n : ℕ) (x : Account) → Facts ss n x → sound ss n x ≡ true
test ss n x = (decides_sound ss n x).1

pub trade_fits : (ss : List Series) (ps : List Position) (q : ℕ) (t : Trade) → FillableIn ss ps q t → TradeFits (length ss) ps t
trade_fits ss ps q t f = record { there = f.there; lots = f.lots; net = f.net; second = by t.second f.second }
  where
    by : (o : Option ℕ) → SecondFills ss ps q t o → SecondFits (length ss) ps t o
    by None s = tt
    by (Some j) s = (s.0, (s.1.0, s.1.1.1))

-- what an account's figures ask for
pub bounded : (ss : List Series) (n k : ℕ) (x : Account) → k ≡ length ss → n ≤ 9_999 → sound ss n x ≡ true → Sound k x
bounded ss n k x long few h = rw long (record {
  nets = f.nets;
  carries = λ j. ⊎_elim (λ lt. omega (arith, f.carries j lt)) (λ le. rw (get_or_past x.positions j flat le) (omega arith)) (cases_lt j (length x.positions));
  orders = λ q. by q (get_or x.orders q None) (f.slots q);
})
  where
    f : Facts ss n x
    f = facts ss n x h

    by : (q : ℕ) (o : Option Order) → SlotFits ss x.positions q o → OrderFits (length ss) x.positions o
    by q None s = tt
    by q (Some o) s = trade_fits ss x.positions q o.trade s
