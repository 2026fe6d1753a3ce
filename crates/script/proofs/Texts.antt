-- A name that is not text is the name of no call.
use Rattle.std.proofs.Common.{◌≡◌, Bool, true, not, ◌&&◌, ℕ, List, ◌∷◌, sym, subst, arith}
use Rattle.std.specs.Char.{is_ascii}
use Rattle.std.specs.List.{list_all}
use Rattle.std.specs.Str.{bytes_eq, IsUtf8}
use Rattle.std.proofs.lemmas.Bool.{ltb-true}
use Rattle.std.proofs.lemmas.List.Sums.{AllPass-from_list_all}
use Rattle.std.proofs.lemmas.Slice.Eq.{bytes_eq-Decides}
use Rattle.std.proofs.lemmas.Str.{IsUtf8-from_ascii}
use Rattle.std.proofs.lemmas.Str.Ascii.{IsAscii-from_all}
use Rattle.script.specs.Line as reading
use Rattle.script.specs.Line.{of_words}

never_both : (a b : Bool) → (a ≡ true → b ≡ true → ⊥) → b ≡ (not a && b)
never_both a b h = grind arith

not_text : (name : List ℕ) → ¬ (IsUtf8 name) → (text : List ℕ) → bytes_eq name text ≡ (not (list_all is_ascii text) && bytes_eq name text)
not_text name h text =
    never_both (list_all is_ascii text) (bytes_eq name text)
    (λ ascii same. h (subst IsUtf8 (sym ((bytes_eq-Decides name text).0 same)) (IsUtf8-from_ascii text (IsAscii-from_all text (λ k d within. ltb-true _ 128 (AllPass-from_list_all is_ascii text ascii k d within))))))

pub no_call : (name : List ℕ) (ws : List (List ℕ)) → ¬ (IsUtf8 name) → of_words (name ∷ ws) ≡ reading.Unreadable
no_call name ws h = grind (arith, not_text name h)
