-- Settled positions, one more at a time.
use Rattle.std.proofs.Common.{◌≡◌, ℕ, zero, suc, ◌+◌, ◌<◌, ◌≤◌, List, [], ◌∷◌, length, get_or, take, set, pos, ◌*ℤ◌, refl, ap, add-one, arith}
use Rattle.book.specs.declared.account.Position.{Position}
use Rattle.book.specs.declared.market.Series.{Series}
use Rattle.book.specs.Closing.{settle_positions}
use Rattle.book.specs.Market.{flat, series_at}
use Rattle.book.specs.Prices.{mark}

abbrev pub settled : Series → Position → Position
settled s p = record { net = p.net; carry = p.net *ℤ pos (mark s.quote) }

pub settle_more : (ss : List Series) (ps qs : List Position) (i : ℕ) (new : Position) → i < length ss → length ss ≤ length ps
    → qs ≡ settle_positions (take i ss) ps → new ≡ settled (series_at ss i) (get_or qs i flat) → set qs i new ≡ settle_positions (take (i + 1) ss) ps
settle_more ss ps qs i new lt all so_far is = rw (add-one i, is, so_far) (by ss ps i lt all)
  where
    by : (ss : List Series) (ps : List Position) (i : ℕ) → i < length ss → length ss ≤ length ps
        → (let qs = settle_positions (take i ss) ps in set qs i (settled (series_at ss i) (get_or qs i flat)) ≡ settle_positions (take (suc i) ss) ps)
    by [] ps i lt all = absurd (omega arith)
    by (s ∷ ss) [] i lt all = absurd (omega arith)
    by (s ∷ ss) (p ∷ ps) zero lt all = refl
    by (s ∷ ss) (p ∷ ps) (suc i) lt all = ap (λ (qs : List Position). settled s p ∷ qs) (by ss ps i (omega arith) (omega arith))
