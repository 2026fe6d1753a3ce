-- A name in its column.
use Rattle.std.proofs.Common.{◌≡◌, ℕ, ◌-◌, ◌<◌, ◌≤◌, List, [], ◌∷◌, ◌++◌, take, drop, replicate, append_assoc, ap, sym, ◌∙◌, arith}
use Rattle.std.proofs.lemmas.List.{take-replicate, drop-replicate}
use Rattle.std.proofs.lemmas.Bool.{cond-true, cond-false, le-leb, lt-leb}
use Rattle.sheet.specs.Layout.{name_cell}
use Rattle.sheet.specs.Name.{columns}

pub name_cell-narrow : (out name : List ℕ) (w : ℕ) → w ≡ columns name → w ≤ 32 → (out ++ name) ++ take (32 - w) (drop w (replicate 32 32)) ≡ out ++ name_cell name
name_cell-narrow out name w e fits =
    ap (λ rest. (out ++ name) ++ rest)
    (ap (take (32 - w)) (drop-replicate w 32 32) ∙ take-replicate (32 - w) (32 - w) 32 (omega arith)
    ∙ ap (λ k. replicate (32 - k) 32) e ∙ sym (cond-true _ _ _ (le-leb (columns name) 32 (omega arith))))
    ∙ append_assoc out name _

pub name_cell-wide : (out name : List ℕ) (w : ℕ) → w ≡ columns name → 32 < w → ((out ++ name) ++ 10 ∷ []) ++ replicate 32 32 ≡ out ++ name_cell name
name_cell-wide out name w e more =
    append_assoc (out ++ name) (10 ∷ []) (replicate 32 32)
    ∙ append_assoc out name (10 ∷ replicate 32 32)
    ∙ ap (λ rest. out ++ (name ++ rest)) (sym (cond-false _ _ _ (lt-leb (columns name) 32 (omega arith))))
