-- The three rules keep the laws.
use Rattle.std.specs.Prelude.{◌≡◌, ℕ, ◌+◌, ◌-◌, ◌*◌, ◌≤◌, min, max}
use Rattle.std.proofs.Common.{ap, mul-le-mul_left, add-mul, zero-mul, arith}
use Rattle.std.proofs.lemmas.Nat.{mul-le}
use Rattle.rules.specs.declared.levels.Levels.{Levels}
use Rattle.rules.specs.declared.rule.RuleChoice.{RuleChoice}
use Rattle.rules.specs.declared.rule.RuleChoice.TheVariants.{Gross, LargerSide, Pairs}
use Rattle.rules.specs.PerLot.{per_lot}
use Rattle.rules.specs.Laws.{Three, Ordered, Falls, Keeps}
use Rattle.rules.specs.Rules.{times, plus, difference, gross, larger_side, pairs, chosen}
use Rattle.rules.specs.Lots.{Lot, Lots, lots}

times_ordered : (n : ℕ) {v : Levels} → Lot v → Ordered (times n v)
times_ordered n h = (mul-le-mul_left n h.force≤maintenance, mul-le-mul_left n h.maintenance≤initial)

-- one lot fewer
times_fall : (n m : ℕ) {v : Levels} → n ≡ m + 1 → Lot v → Falls (times n v) (times m v)
times_fall n m {v} e h =
    let more : (x : ℕ) → (m + 1) * x ≡ m * x + x = λ x. omega (arith, add-mul m 1 x) in
    rw e (omega (arith, more v.initial, h.initial_positive), omega (arith, more v.maintenance), omega (arith, more v.force))

pub gross_keep : Keeps gross
gross_keep = record {
  flat = λ m fits. simp (zero-mul, times);
  ordered = λ m l s fits _ _. (times_ordered (l + s) (lots m fits).single, omega arith);
  longer = λ m l s fits _ more. times_fall (l + s) (l - 1 + s) (omega arith) (lots m fits).single;
  shorter = λ m l s fits _ more. times_fall (l + s) (l + (s - 1)) (omega arith) (lots m fits).single;
  paired = λ m l s fits _ _ long short.
      let h = (lots m fits).single in
      let one = times_fall (l + s) (l - 1 + s) (omega arith) h in
      let two = times_fall (l - 1 + s) (l - 1 + (s - 1)) (omega arith) h in
      (omega arith, omega arith, omega arith);
}

pub larger_side_keep : Keeps larger_side
larger_side_keep = record {
  flat = λ m fits. simp (zero-mul, times);
  ordered = λ m l s fits _ _.
      let o = (per_lot m.outright).initial in
      (times_ordered (max l s) (lots m fits).single, mul-le (max l s) o (l + s) o (omega arith) (omega arith));
  longer = λ m l s fits _ more. times_fall (max l s) (max (l - 1) s) (omega arith) (lots m fits).single;
  shorter = λ m l s fits _ more. times_fall (max l s) (max l (s - 1)) (omega arith) (lots m fits).single;
  paired = λ m l s fits _ _ long short. times_fall (max l s) (max (l - 1) (s - 1)) (omega arith) (lots m fits).single;
}

-- a sum falls with either part
plus_falls : (x x' y y' : Three) → Falls x x' → y ≡ y' → Falls (plus x y) (plus x' y')
plus_falls x x' y y' h e = rw e (omega arith, omega arith, omega arith)

plus_falls' : (x x' y y' : Three) → x ≡ x' → Falls y y' → Falls (plus x y) (plus x' y')
plus_falls' x x' y y' e h = rw e (omega arith, omega arith, omega arith)

same_times : {n m : ℕ} (v : Levels) → n ≡ m → times n v ≡ times m v
same_times v e = ap (λ k. times k v) e

pairs_below : (o p : Levels) (l s : ℕ) → Lots o p → (pairs o p l s).0 ≤ (l + s) * o.initial
pairs_below o p l s h =
    let paired : min l s * p.initial ≤ min l s * o.initial = mul-le-mul_left (min l s) h.initial≤ in
    let joined = add-mul (difference l s) (min l s) o.initial in
    let all : (difference l s + min l s) * o.initial ≤ (l + s) * o.initial = mul-le (difference l s + min l s) o.initial (l + s) o.initial (omega arith) (omega arith) in
    omega (arith, paired, joined, all)

pairs_ordered : (o p : Levels) (l s : ℕ) → Lots o p → Ordered (pairs o p l s)
pairs_ordered o p l s h =
    let left = times_ordered (difference l s) h.single in
    let paired = times_ordered (min l s) h.paired in
    (omega (arith, left, paired), omega (arith, left, paired))

pub pairs_keep : Keeps pairs
pairs_keep = record {
  flat = λ m fits. simp (zero-mul, times, plus);
  ordered = λ m l s fits _ _. (pairs_ordered _ _ l s (lots m fits), pairs_below _ _ l s (lots m fits));
  longer = λ m l s fits _ more.
      plus_falls _ _ _ _ (times_fall (difference l s) (difference (l - 1) s) (omega arith) (lots m fits).single) (same_times (per_lot m.spread) (omega arith));
  shorter = λ m l s fits _ more.
      plus_falls _ _ _ _ (times_fall (difference l s) (difference l (s - 1)) (omega arith) (lots m fits).single) (same_times (per_lot m.spread) (omega arith));
  paired = λ m l s fits _ _ long short.
      plus_falls' _ _ _ _ (same_times (per_lot m.outright) (omega arith)) (times_fall (min l s) (min (l - 1) (s - 1)) (omega arith) (lots m fits).paired);
}

pub chosen_keep : (rule : RuleChoice) → Keeps (chosen rule)
chosen_keep Gross = gross_keep
chosen_keep LargerSide = larger_side_keep
chosen_keep Pairs = pairs_keep
