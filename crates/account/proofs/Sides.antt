-- Sides, one more position at a time.
use Rattle.std.proofs.Common.{◌≡◌, ℕ, zero, suc, ◌+◌, ◌*◌, ◌<◌, ◌≤◌, Bool, true, false, cond, eqb, List, [], ◌∷◌, length, get_or, take, set, ℤ, pos, negsuc, nat_abs, sym, ap, ◌∙◌, ⊎_elim, ◌≢◌, add-one, arith, get_or-set_other}
use Rattle.std.proofs.lemmas.Grind.{get_or-set_at}
use Rattle.std.proofs.lemmas.List.{get_or_default}
use Rattle.std.proofs.lemmas.Bool.{cases_eq}
use Rattle.std.proofs.lemmas.Bool.Decides.{nat_tests}
use Rattle.account.specs.declared.requirements.Sides.{Sides}
use Rattle.book.specs.Market.{Holding, at}
use Rattle.book.specs.Requirements.{long, short, total}

pub total_more : (f : Holding → ℕ) (hs : List Holding) (i : ℕ) → i < length hs → total f (take (i + 1) hs) ≡ total f (take i hs) + f (at hs i)
total_more f [] i lt = absurd (omega arith)
total_more f (x ∷ hs) zero lt = omega arith
total_more f (x ∷ hs) (suc i) lt =
    let r : total f (take (suc i) hs) ≡ total f (take i hs) + f (at hs i) = rw (← add-one i) (total_more f hs i (omega arith)) in
    rw (add-one (suc i)) (ap (λ z. f x + z) r ∙ omega arith)

pub long_small : (z : ℤ) → long z ≤ nat_abs z
long_small (pos n) = omega arith
long_small (negsuc n) = omega arith

pub short_small : (z : ℤ) → short z ≤ nat_abs z
short_small (pos n) = omega arith
short_small (negsuc n) = omega arith

-- what is kept of one side of each product while positions are added
pub record Side (side : Sides → ℕ) (xs : List Sides) (f : ℕ → Holding → ℕ) (hs : List Holding) (i : ℕ) : Type 0 where
  pub sums : (q : ℕ) (d : Sides) → q < 8 → side (get_or xs q d) ≡ total (f q) (take i hs)
  pub small : (q : ℕ) (d : Sides) → q < 8 → side (get_or xs q d) ≤ 1_000 * i

cond_below : (b : Bool) (n m : ℕ) → n ≤ m → cond b n 0 ≤ m
cond_below true n m h = h
cond_below false n m h = omega arith

-- one more position of a product p, which has n lots on the side
pub side_more : (side : Sides → ℕ) (xs : List Sides) (f : ℕ → Holding → ℕ) (hs : List Holding) (i p n : ℕ) (x any : Sides)
    → length xs ≡ 8 → p < 8 → n ≤ 1_000 → i < length hs → ((q : ℕ) → f q (at hs i) ≡ cond (eqb q p) n 0)
    → side x ≡ side (get_or xs p any) + n → Side side xs f hs i → Side side (set xs p x) f hs (i + 1)
side_more side xs f hs i p n x any eight hp hn hi at_i is s = record {
  sums = λ q d lt. grown q d lt ∙ (rw (s.sums q d lt, ← at_i q) (sym (total_more (f q) hs i hi)));
  small = λ q d lt. omega (arith, grown q d lt, cond_below (eqb q p) n 1_000 hn, s.small q d lt);
}
  where
    grown : (q : ℕ) (d : Sides) → q < 8 → side (get_or (set xs p x) q d) ≡ side (get_or xs q d) + cond (eqb q p) n 0
    grown q d lt =
        ⊎_elim
        (λ (e : q ≡ p).
        let here = get_or-set_at xs p q x d e (omega (arith, eight)) in
        let before : get_or xs q d ≡ get_or xs p any = get_or_default xs q d any (omega (arith, eight)) ∙ ap (λ j. get_or xs j any) e in
        let there : cond (eqb q p) n 0 ≡ n = grind (arith, nat_tests) in
        rw (here, before, there) is)
        (λ (apart : q ≢ p).
        let here = get_or-set_other xs p q x d apart in
        let elsewhere : cond (eqb q p) n 0 ≡ 0 = grind (arith, nat_tests) in
        omega (arith, ap side here, elsewhere))
        (cases_eq q p)
